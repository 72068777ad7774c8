-- DEMAND 3, selection: the window is exactly the segments with some key of the range that begins with their prefix.
use Rattle.std.specs.Prelude.{Err, Ok, Result}
use Prim.Native.Nat.{ℕ, zero, suc, ◌+◌, ◌/◌, ◌≤◌, ◌<◌, suc-le-suc}
use mathlib.Core.Path.{◌≡◌, refl, sym, ap, ◌∙◌}
use mathlib.Core.Bool.{Bool, true, false, not, ◌&&◌, true≢false}
use mathlib.Core.List.{List, [], ◌∷◌}
use mathlib.Core.Logic.{◌↔◌, ⊎_elim}
use native.Mathlib.Omega.{arith}
use lib.ListN.{length}
use Rattle.keys.specs.Pick.{pick}
use Rattle.keys.specs.Says.{Says, holds, fails}
use Rattle.keys.specs.Key.{Below, UpTo, less_of}
use Rattle.keys.specs.Prefix.{Bytes, Top, Under, after, begins_of}
use Rattle.keys.specs.Range.{Edges, In, Empty, low, top, empty_of}
use Rattle.keys.specs.Pool.{edges_of}
use Rattle.keys.specs.declared.Range.{Range}
use Rattle.keys.proofs.Says.{says_not, says_true, true_says, false_says, says_stable, says_lt}
use Rattle.keys.proofs.ByteOrder.{up, up_to_refl, either}
use Rattle.keys.proofs.Prefixes.{begins_refl, begins_under, begins_between, up_to_under, says_under}
use Rattle.keys.proofs.Ranges.{from_low, to_top, BytesE, bytes_low, says_empty}
use Rattle.keys.proofs.Places.{bytes_edge, bytes_part}
use Rattle.tables.specs.Layout.{up_to}
use Rattle.tables.specs.Window.{held_of}
use Rattle.tables.proofs.Holds.{up_to_front}
use Rattle.records.specs.Model.{Segment, Manifest}
use Rattle.records.specs.Decode.{Lent, manifest_in}
use Rattle.records.specs.declared.Limits.{Limits}
use Rattle.records.specs.declared.ManifestRow.{ManifestRow}
use Rattle.lawful.specs.Judge.{judged_of}
use Rattle.lawful.specs.Law.{l2_of, l3_of, l4_of, l5_of}
use Rattle.lawful.specs.Steps.{prefix_at}
use Rattle.lawful.proofs.Apart.{Apart, apart_of_lem}
use Rattle.lawful.proofs.Neighbours.{chain_up_to, pairs_up_to}
use Rattle.measure.specs.Measure.{l1_of}
use Rattle.measure.specs.Tests.{all_of, chain, pairs}
use Rattle.segments.specs.Prefixes.{prefixes, prefix_of, leading, prefixes_in}
use Rattle.segments.specs.Refuses.{is_broken, range_over}
use Rattle.segments.specs.Select.{Meets, before, reached, first_of, past_of, window_of, chosen_of, selected_of, Holds}
use Rattle.segments.specs.declared.Selected.TheVariants.{Window}
use Rattle.segments.proofs.Answers.{prefixes_in_lem}

-- ---- one prefix: the tests of the start and of the end, together, where the range is not empty
module _ (r : Edges) (bs : BytesE r.start) (full : Under (low r.start) (top r.end)) (p : List ℕ) (bp : Bytes p) where
  meets_there : Under p (top r.end) → Under (low r.start) (after p) → Meets r p
  meets_there u v = ⊎_elim at_prefix at_low (either (low r.start) p)
    where
      at_prefix : Below (low r.start) p → Meets r p
      at_prefix l = record { key = p; bytes = bp; inside = record { from = (from_low r.start p).1 (up l); to = (to_top r.end p).1 u }; begins = begins_refl p }

      at_low : UpTo p (low r.start) → Meets r p
      at_low l =
          record {
            key = low r.start;
            bytes = bytes_low r.start bs;
            inside = record { from = (from_low r.start (low r.start)).1 (up_to_refl (low r.start)); to = (to_top r.end (low r.start)).1 full };
            begins = (begins_between p (low r.start) (bytes_low r.start bs)).1 (l, v);
          }

  meets_back : Meets r p → Under p (top r.end) × Under (low r.start) (after p)
  meets_back m =
      let b = (begins_between p m.key m.bytes).0 m.begins in
      (up_to_under b.0 ((to_top r.end m.key).0 m.inside.to), up_to_under ((from_low r.start m.key).0 m.inside.from) b.1)

-- ---- where what passes is passed by all before it, those at the front are all that pass
unfoldable pub Falling : (List ℕ → Bool) → List (List ℕ) → Type 0
Falling f ps = (i j : ℕ) → i < j → j < length ps → f (prefix_of ps j) ≡ true → f (prefix_of ps i) ≡ true

pub leading_is : (f : List ℕ → Bool) (ps : List (List ℕ)) → Falling f ps → (i : ℕ) → i < length ps → (f (prefix_of ps i) ≡ true) ↔ (i < leading f ps)
unfolding Falling
leading_is f [] d i h = absurd (omega arith)
leading_is f (p ∷ ps) d i h = go (f p) refl i h (λ i m. leading_is f ps (λ i j l m. d (suc i) (suc j) (suc-le-suc l) (suc-le-suc m)) i m)
  where
    go : (b : Bool) → f p ≡ b → (i : ℕ) → i < length (p ∷ ps)
        → ((i : ℕ) → i < length ps → (f (prefix_of ps i) ≡ true) ↔ (i < leading f ps))
        → (f (prefix_of (p ∷ ps) i) ≡ true) ↔ (i < pick b (suc (leading f ps)) 0)
    go true e zero h r = (λ _. omega arith, λ _. e)
    go true e (suc i) h r = let q = r i (omega arith) in (λ m. suc-le-suc (q.0 m), λ m. q.1 (omega arith))
    go false e zero h r = (λ q. absurd (true≢false (sym q ∙ e)), λ q. absurd (omega arith))
    go false e (suc i) h r = (λ q. absurd (true≢false (sym (d 0 (suc i) (omega arith) h q) ∙ e)), λ q. absurd (omega arith))

under_between : {x y : List ℕ} {t : Top} → Under x t → (Under y t → ⊥) → Below x y
under_between {x} {y} h n = ⊎_elim (λ l. l) (λ l. absurd (n (up_to_under l h))) (either x y)

-- ---- the window
module _ (ps : List (List ℕ)) (far : Apart (length ps) (λ i. prefix_of ps i)) (r : Edges) (bs : BytesE r.start) (full : Under (low r.start) (top r.end)) where
  -- a later prefix is past all that begins with an earlier
  past : (i j : ℕ) → i < j → j < length ps → Under (prefix_of ps j) (after (prefix_of ps i)) → ⊥
  past i j h l u = far.apart i j h l ((begins_between (prefix_of ps i) (prefix_of ps j) (far.bytes j)).1 (up (far.ascend i j h l), u))

  past_falls : Falling (λ p. reached r.end p) ps
  unfolding Falling
  past_falls i j h l q =
      true_says (says_under (prefix_of ps i) (top r.end))
      (up_to_under (up (far.ascend i j h l)) (says_true (says_under (prefix_of ps j) (top r.end)) q))

  first_falls : Falling (λ p. before r.start p) ps
  unfolding Falling
  first_falls i j h l q =
      true_says (says_not (says_under (low r.start) (after (prefix_of ps i))))
      (λ u. says_true (says_not (says_under (low r.start) (after (prefix_of ps j)))) q
      (up_to_under (up (under_between u (past i j h l))) (begins_under (begins_refl (prefix_of ps j)))))

  past_is : (i : ℕ) → i < length ps → (reached r.end (prefix_of ps i) ≡ true) ↔ (i < past_of r.end ps)
  unfolding past_of
  past_is = leading_is (λ p. reached r.end p) ps past_falls

  first_is : (i : ℕ) → i < length ps → (before r.start (prefix_of ps i) ≡ true) ↔ (i < first_of r.start ps)
  unfolding first_of
  first_is = leading_is (λ p. before r.start p) ps first_falls

  window_law : (i : ℕ) → i < length ps → Meets r (prefix_of ps i) ↔ ((first_of r.start ps ≤ i) × (i < past_of r.end ps))
  window_law i h = (there, back)
    where
      fresh : Says (Under (low r.start) (after (prefix_of ps i)) → ⊥) (before r.start (prefix_of ps i))
      fresh = says_not (says_under (low r.start) (after (prefix_of ps i)))

      there : Meets r (prefix_of ps i) → (first_of r.start ps ≤ i) × (i < past_of r.end ps)
      there m =
          let w = meets_back r bs full (prefix_of ps i) (far.bytes i) m in
          let not-skipped : (i < first_of r.start ps → ⊥) = λ l. says_true fresh ((first_is i h).1 l) w.1 in
          (omega arith, (past_is i h).0 (true_says (says_under (prefix_of ps i) (top r.end)) w.0))

      back : (first_of r.start ps ≤ i) × (i < past_of r.end ps) → Meets r (prefix_of ps i)
      back w =
          meets_there r bs full (prefix_of ps i) (far.bytes i)
          (says_true (says_under (prefix_of ps i) (top r.end)) ((past_is i h).1 w.1))
          (says_stable (says_under (low r.start) (after (prefix_of ps i))) (λ k. let l : i < first_of r.start ps = (first_is i h).0 (true_says fresh k) in omega arith))

  window_holds : (i : ℕ) → i < length ps → Meets r (prefix_of ps i) ↔ Holds i (window_of (first_of r.start ps) (past_of r.end ps))
  window_holds i h = go (says_lt (first_of r.start ps) (past_of r.end ps))
    where
      go : {b : Bool} → Says (first_of r.start ps < past_of r.end ps) b → Meets r (prefix_of ps i) ↔ Holds i (pick b (Ok (Window (first_of r.start ps) (past_of r.end ps))) (Ok (Window 0 0)))
      go (holds l) = window_law i h
      go (fails n) = (λ m. let v = (window_law i h).0 m in absurd (n (omega arith)), λ v. absurd (omega arith))

-- every i below the number of segments is in the answer exactly if some key of the range begins with prefix i
pub chosen_exact :
    (ps : List (List ℕ)) → Apart (length ps) (λ i. prefix_of ps i) → (r : Edges) → BytesE r.start → Under (low r.start) (top r.end)
    → (i : ℕ) → i < length ps → Meets r (prefix_of ps i) ↔ Holds i (chosen_of r ps)
unfolding chosen_of
chosen_exact [] far r bs full i h = absurd (omega arith)
chosen_exact (p ∷ ps) far r bs full i h = window_holds (p ∷ ps) far r bs full i h

-- ---- the prefixes of a lawful manifest
is_up_to : (ps : List (List ℕ)) → ps ≡ up_to (λ i. prefix_of ps i) (length ps)
is_up_to [] = refl
is_up_to (p ∷ ps) = ap (λ qs. p ∷ qs) (is_up_to ps) ∙ sym (up_to_front (λ i. prefix_of (p ∷ ps) i) (length ps))

pub chain_prefixes : (f : List ℕ → List ℕ → Bool) (ss : List Segment) → chain (λ s t. f s.prefix t.prefix) ss ≡ chain f (prefixes ss)
chain_prefixes f [] = refl
chain_prefixes f (s ∷ []) = refl
chain_prefixes f (s ∷ t ∷ ss) = ap (λ b. f s.prefix t.prefix && b) (chain_prefixes f (t ∷ ss))

pub all_prefixes_lem : (f : List ℕ → Bool) (ss : List Segment) → all_of (λ s. f s.prefix) ss ≡ all_of f (prefixes ss)
all_prefixes_lem f [] = refl
all_prefixes_lem f (s ∷ ss) = ap (λ b. f s.prefix && b) (all_prefixes_lem f ss)

pub pairs_prefixes : (f : List ℕ → List ℕ → Bool) (ss : List Segment) → pairs (λ s t. f s.prefix t.prefix) ss ≡ pairs f (prefixes ss)
pairs_prefixes f [] = refl
pairs_prefixes f (s ∷ ss) = rw (all_prefixes_lem (f s.prefix) ss, pairs_prefixes f ss)

abbrev apart_p : List ℕ → List ℕ → Bool
apart_p a b = not (begins_of a b) && not (begins_of b a)

pub manifest_apart :
    (m : Manifest) → ((i : ℕ) → Bytes (prefix_of (prefixes m.segments) i)) → l2_of m ≡ true → l3_of m ≡ true
    → Apart (length (prefixes m.segments)) (λ i. prefix_of (prefixes m.segments) i)
unfolding l2_of l3_of
manifest_apart m b p q =
    let ps : List (List ℕ) = prefixes m.segments in
    apart_of_lem (length ps) (λ i. prefix_of ps i) b
    (sym (chain_up_to less_of (λ i. prefix_of ps i) (length ps)) ∙ ap (chain less_of) (sym (is_up_to ps)) ∙ sym (chain_prefixes less_of m.segments) ∙ p)
    (sym (pairs_up_to apart_p (λ i. prefix_of ps i) (length ps)) ∙ ap (pairs apart_p) (sym (is_up_to ps)) ∙ sym (pairs_prefixes apart_p m.segments) ∙ q)

-- ---- the rules that a lawful manifest keeps
pub record Keeps (lim : Limits) (l : Lent) (m : ManifestRow) : Type 0 where
  pub first : l1_of lim l m ≡ true
  pub second : l2_of (manifest_in l m) ≡ true
  pub third : l3_of (manifest_in l m) ≡ true
  pub fourth : l4_of (manifest_in l m) ≡ true
  pub fifth : l5_of (manifest_in l m) ≡ true

pub lawful_keeps : (lim : Limits) (l : Lent) (m : ManifestRow) → judged_of lim l m ≡ Ok tt → Keeps lim l m
unfolding judged_of
lawful_keeps lim l m h =
    let w = go (l1_of lim l m) (l2_of (manifest_in l m)) (l3_of (manifest_in l m)) (l4_of (manifest_in l m)) (l5_of (manifest_in l m)) h in
    record { first = w.0; second = w.1.0; third = w.1.1.0; fourth = w.1.1.1.0; fifth = w.1.1.1.1 }
  where
    go : (a b c d e : Bool)
        → pick {A = Result Unit ℕ} (not a) (Err 1) (pick {A = Result Unit ℕ} (not b) (Err 2) (pick {A = Result Unit ℕ} (not c) (Err 3) (pick {A = Result Unit ℕ} (not d) (Err 4) (pick {A = Result Unit ℕ} (not e) (Err 5) (Ok tt))))) ≡ Ok tt
        → (a ≡ true) × ((b ≡ true) × ((c ≡ true) × ((d ≡ true) × (e ≡ true))))
    go true true true true true h = (refl, (refl, (refl, (refl, refl))))
    go true true true true false h = absurd (true≢false (ap is_broken h))
    go true true true false e h = absurd (true≢false (ap is_broken h))
    go true true false d e h = absurd (true≢false (ap is_broken h))
    go true false c d e h = absurd (true≢false (ap is_broken h))
    go false b c d e h = absurd (true≢false (ap is_broken h))

-- ---- in tables
bytes_at : (g : ℕ → List ℕ) → ((k : ℕ) → Bytes (g k)) → (n i : ℕ) → Bytes (prefix_of (up_to g n) i)
bytes_at g b zero i = Bytes.none
bytes_at g b (suc n) zero = rw (up_to_front g n) (b 0)
bytes_at g b (suc n) (suc i) = rw (up_to_front g n) (bytes_at (λ k. g (suc k)) (λ k. b (suc k)) n i)

pub bytes_in_lem : (l : Lent) (m : ManifestRow) → Bytes l.pool → (i : ℕ) → Bytes (prefix_of (prefixes (manifest_in l m).segments) i)
unfolding prefixes_in
bytes_in_lem l m b i = rw (prefixes_in_lem l m) (bytes_at (λ k. prefix_at l.segments l.pool (m.segments.first + k)) (λ k. bytes_part _ _ b) (held_of m.segments (length l.segments / 12)) i)

-- "For every range holding at least one key, bounds within document 01's limit, selection returns exactly the segments with some
-- key in the range that begins with their prefix": for every lawful manifest in lent tables and every i below the number of its
-- segments.
pub selection :
    (lim : Limits) (l : Lent) (m : ManifestRow) (args : List ℕ) (r : Range) → Bytes l.pool → Bytes args
    → judged_of lim l m ≡ Ok tt → range_over lim.key (length args) r ≡ false
    → (k : List ℕ) → Bytes k → In k (edges_of args r)
    → (i : ℕ) → i < length (prefixes (manifest_in l m).segments)
    → Meets (edges_of args r) (prefix_of (prefixes (manifest_in l m).segments) i) ↔ Holds i (selected_of lim l m args r)
unfolding selected_of Empty empty_of
selection lim l m args r bp ba h o k bk w i n = rw (o, h, some) (chosen_exact ps far (edges_of args r) bs full i n)
  where
    ps : List (List ℕ)
    ps = prefixes (manifest_in l m).segments

    rules : Keeps lim l m
    rules = lawful_keeps lim l m h

    far : Apart (length ps) (λ i. prefix_of ps i)
    far = manifest_apart (manifest_in l m) (bytes_in_lem l m bp) rules.second rules.third

    bs : BytesE (edges_of args r).start
    bs = bytes_edge r.start ba

    some : empty_of (edges_of args r).start (edges_of args r).end ≡ false
    some = false_says (says_empty (edges_of args r) bs) (λ e. e k bk w)

    full : Under (low (edges_of args r).start) (top (edges_of args r).end)
    full = up_to_under ((from_low (edges_of args r).start k).0 w.from) ((to_top (edges_of args r).end k).0 w.to)
