-- DEMAND 3, insertions: after each call the segments are those worked out afresh, no older tree changes, the result is lawful.
use Prim.Native.Nat.{ℕ, zero, suc, ◌≤◌, ◌<◌, suc-le-suc}
use mathlib.Core.Path.{◌≡◌, refl, sym, ap, ◌∙◌}
use mathlib.Core.Bool.{Bool, true, false, not, ◌&&◌, true≢false}
use mathlib.Core.List.{List, [], ◌∷◌, ◌++◌}
use native.Mathlib.Omega.{arith}
use lib.Dec.{leb}
use lib.ListN.{length}
use Rattle.keys.specs.Pick.{pick}
use Rattle.keys.specs.Says.{Says, holds, fails}
use mathlib.Core.Logic.{⊎_elim}
use Rattle.keys.specs.Key.{less_of}
use Rattle.keys.specs.Prefix.{Bytes, begins_of}
use Rattle.keys.proofs.Says.{says_true, says_false, true_says, says_same, says_not, says_lt, says_le}
use Rattle.keys.proofs.ByteOrder.{either, up_to_not, says_less}
use Rattle.keys.proofs.Prefixes.{begins_refl, says_begins}
use borrow.Author.Tests.{not-true}
use Rattle.tables.specs.Layout.{joined}
use Rattle.records.specs.Model.{View, Tree, Segment, Borrow, Manifest, trees}
use Rattle.records.specs.New.{new_tree}
use Rattle.records.specs.Fill.{plus, sum, fits, key_fill, name_keys, view_keys, tree_fill, segment_fill, borrow_fill, manifest_fill}
use Rattle.records.specs.declared.Limits.{Limits}
use Rattle.records.specs.declared.Refusal.TheVariants.{OverLimit, Nests, NoRoom}
use Rattle.records.specs.declared.Fill.{Fill}
use Rattle.records.proofs.Sums.{plus_assoc, plus_comm}
use Rattle.measure.specs.Tests.{all_of, chain, pairs}
use Rattle.measure.specs.Within.{within, no_room, tree_views, tree_runs, all_views, all_runs}
use Rattle.measure.proofs.Lists.{and_assoc, and_comm, and_false, all_both}
use Rattle.lawful.specs.Law.{l2_of, l3_of, view_lawful, l4_of, run_lawful, l5_of}
use Rattle.lawful.proofs.Apart.{Apart}
use Rattle.lawful.proofs.Rules.{all_trees}
use Rattle.segments.specs.Prefixes.{prefixes, prefix_of, leading}
use Rattle.segments.specs.Refuses.{prefix_over}
use Rattle.segments.specs.Lookup.{same_of, index_of}
use Rattle.segments.specs.Place.{place_of, refuses3, conflict_of, apart_from}
use Rattle.segments.specs.Insert.{new_segment, with_segments, put, entered_in, holds_of, refuses4, found, entered, refused, inserted_of, after_entry}
use Rattle.history.specs.History.{Lawful, Call, replay, enters, afresh, Among, here, later, Same, none, more, BytesAll, beside, Kept}
use Rattle.segments.proofs.Demand3.{chain_prefixes, all_prefixes_lem, pairs_prefixes, manifest_apart}
use Rattle.segments.proofs.Places.{and_both, place_leads}
use Rattle.segments.proofs.Nests.{nests_is}
use Rattle.insert.proofs.Held.{says_equal}

module _ {A : Type 0} where
  -- ---- one more, put somewhere
  pub all_among : (f : A → Bool) {x : A} {ys zs : List A} → Among x ys zs → all_of f zs ≡ (f x && all_of f ys)
  all_among f here = refl
  all_among f {x} (later {y = y} {xs = xs} {ys = zs} h) =
      ap (λ b. f y && b) (all_among f h) ∙ sym (and_assoc (f y) (f x) (all_of f xs)) ∙ ap (λ b. b && all_of f xs) (and_comm (f y) (f x)) ∙ and_assoc (f x) (f y) (all_of f xs)

  pub sum_among : (f : A → Fill) {x : A} {ys zs : List A} → Among x ys zs → sum f zs ≡ plus (f x) (sum f ys)
  sum_among f here = refl
  sum_among f {x} (later {y = y} {xs = xs} {ys = zs} h) =
      ap (λ (b : Fill). plus (f y) b) (sum_among f h) ∙ sym (plus_assoc (f y) (f x) (sum f xs)) ∙ ap (λ (b : Fill). plus b (sum f xs)) (plus_comm (f y) (f x)) ∙ plus_assoc (f x) (f y) (sum f xs)

  pub among_put : (i : ℕ) (x : A) (xs : List A) → Among x xs (put i x xs)
  among_put zero x xs = here
  among_put (suc i) x [] = here
  among_put (suc i) x (y ∷ xs) = later (among_put i x xs)

  -- ---- in another order
  pub all_same : (f : A → Bool) {xs ys : List A} → Same xs ys → all_of f xs ≡ all_of f ys
  all_same f none = refl
  all_same f (more {x = x} h s) = ap (λ b. f x && b) (all_same f s) ∙ sym (all_among f h)

  pub sum_same : (f : A → Fill) {xs ys : List A} → Same xs ys → sum f xs ≡ sum f ys
  sum_same f none = refl
  sum_same f (more {x = x} h s) = ap (λ (b : Fill). plus (f x) b) (sum_same f s) ∙ sym (sum_among f h)

  pub same_refl : (xs : List A) → Same xs xs
  same_refl [] = none
  same_refl (x ∷ xs) = more here (same_refl xs)

-- ---- whether a prefix is held
held_apart : (ps : List (List ℕ)) (p : List ℕ) → leading (λ q. not (same_of q p)) ps < length ps → apart_from ps p ≡ false
held_apart [] p h = absurd (omega arith)
held_apart (q ∷ ps) p h = go (says_equal q p) h (held_apart ps p)
  where
    go : {b : Bool} → Says (q ≡ p) b → pick (not b) (suc (leading (λ q. not (same_of q p)) ps)) 0 < length (q ∷ ps) → (leading (λ q. not (same_of q p)) ps < length ps → apart_from ps p ≡ false) → apart_from (q ∷ ps) p ≡ false
    go (holds e) h ih = rw e (rw (true_says (says_begins p p) (begins_refl p)))
    go (fails n) h ih = rw (ih (omega arith)) (and_false (not (begins_of q p) && not (begins_of p q)))

fresh_of : (ps : List (List ℕ)) (p : List ℕ) → length ps ≤ leading (λ q. not (same_of q p)) ps → (i : ℕ) → i < length ps → prefix_of ps i ≡ p → ⊥
fresh_of [] p h i l e = omega arith
fresh_of (q ∷ ps) p h i l e = go (says_equal q p) h i l e (fresh_of ps p)
  where
    go : {b : Bool} → Says (q ≡ p) b → length (q ∷ ps) ≤ pick (not b) (suc (leading (λ q. not (same_of q p)) ps)) 0 → (i : ℕ) → i < length (q ∷ ps) → prefix_of (q ∷ ps) i ≡ p
        → (length ps ≤ leading (λ q. not (same_of q p)) ps → (i : ℕ) → i < length ps → prefix_of ps i ≡ p → ⊥) → ⊥
    go (holds f) h i l e ih = omega arith
    go (fails n) h zero l e ih = n e
    go (fails n) h (suc i) l e ih = ih (omega arith) i (omega arith) e

-- ---- the segments after one more
prefixes_put : (i : ℕ) (s : Segment) (ss : List Segment) → prefixes (put i s ss) ≡ put i s.prefix (prefixes ss)
prefixes_put zero s ss = refl
prefixes_put (suc i) s [] = refl
prefixes_put (suc i) s (t ∷ ss) = ap (λ ps. t.prefix ∷ ps) (prefixes_put i s ss)

bytes_put : (i : ℕ) (p : List ℕ) (ps : List (List ℕ)) → Bytes p → ((k : ℕ) → Bytes (prefix_of ps k)) → (k : ℕ) → Bytes (prefix_of (put i p ps) k)
bytes_put zero p ps b h zero = b
bytes_put zero p ps b h (suc k) = h k
bytes_put (suc i) p [] b h zero = b
bytes_put (suc i) p [] b h (suc k) = h k
bytes_put (suc i) p (q ∷ ps) b h zero = h 0
bytes_put (suc i) p (q ∷ ps) b h (suc k) = bytes_put i p ps b (λ k. h (suc k)) k

pairs_put : {A : Type 0} (r : A → A → Bool) (i : ℕ) (x : A) (xs : List A) → pairs r xs ≡ true → all_of (r x) xs ≡ true → all_of (λ y. r y x) xs ≡ true → pairs r (put i x xs) ≡ true
pairs_put r zero x xs h a b = rw (a, h)
pairs_put r (suc i) x [] h a b = refl
pairs_put r (suc i) x (y ∷ xs) h a b =
    let u = and_both (all_of (r y) xs) (pairs r xs) h in
    let v = and_both (r x y) (all_of (r x) xs) a in
    let w = and_both (r y x) (all_of (λ z. r z x) xs) b in
    rw (all_among (r y) (among_put i x xs), w.0, u.0, pairs_put r i x xs u.1 v.1 w.1)

above : (p x : List ℕ) → less_of x p ≡ false → (x ≡ p → ⊥) → less_of p x ≡ true
above p x e n = true_says (says_less p x) (⊎_elim (λ l. absurd (says_false (says_less x p) e l)) (λ l. up_to_not l (λ q. n (sym q))) (either x p))

-- p stands before the first that is not below it
chain_put : (p : List ℕ) (ps : List (List ℕ)) → chain less_of ps ≡ true → ((i : ℕ) → i < length ps → prefix_of ps i ≡ p → ⊥) → chain less_of (put (leading (λ q. less_of q p) ps) p ps) ≡ true
chain_put p [] h n = refl
chain_put p (x ∷ []) h n = go (less_of x p) refl
  where
    go : (b : Bool) → less_of x p ≡ b → chain less_of (put (pick b 1 0) p (x ∷ [])) ≡ true
    go true e = rw e
    go false e = rw (above p x e (n 0 (omega arith)))
chain_put p (x ∷ y ∷ ps) h n = go (less_of x p) refl (less_of y p) refl (chain_put p (y ∷ ps) (and_both (less_of x y) (chain less_of (y ∷ ps)) h).1 (λ i l. n (suc i) (suc-le-suc l)))
  where
    w : (less_of x y ≡ true) × (chain less_of (y ∷ ps) ≡ true)
    w = and_both (less_of x y) (chain less_of (y ∷ ps)) h

    go : (b : Bool) → less_of x p ≡ b → (d : Bool) → less_of y p ≡ d
        → chain less_of (put (pick (less_of y p) (suc (leading (λ q. less_of q p) ps)) 0) p (y ∷ ps)) ≡ true
        → chain less_of (put (pick b (suc (pick (less_of y p) (suc (leading (λ q. less_of q p) ps)) 0)) 0) p (x ∷ y ∷ ps)) ≡ true
    go true e true f ih = rw f (rw w.0 (rw f at ih))
    go true e false f ih = rw f (rw e (rw f at ih))
    go false e d f ih = rw (above p x e (n 0 (omega arith)), h)

-- ---- one call
twice : (b : Bool) → not (not b) ≡ b
twice true = refl
twice false = refl

entry_is : (o h n r : Bool) (i j k : ℕ) (m m' : Manifest)
    → after_entry m (pick o (refused OverLimit) (pick h (found i) (pick n (refused (Nests k)) (pick r (refused NoRoom) (entered j m')))))
    ≡ pick (not o && (not h && (not n && not r))) m' m
entry_is true h n r i j k m m' = refl
entry_is false true n r i j k m m' = refl
entry_is false false true r i j k m m' = refl
entry_is false false false true i j k m m' = refl
entry_is false false false false i j k m m' = refl

all_swap : {A : Type 0} (f g : A → Bool) (xs : List A) → all_of (λ x. f x && g x) xs ≡ all_of (λ x. g x && f x) xs
all_swap f g xs = all_both f g xs ∙ and_comm (all_of f xs) (all_of g xs) ∙ sym (all_both g f xs)

five : (a b c d e : Bool) → (a && b && c && d && e) ≡ true → (a ≡ true) × ((b ≡ true) × ((c ≡ true) × ((d ≡ true) × (e ≡ true))))
five true true true true true h = (refl, (refl, (refl, (refl, refl))))
five true true true true false h = absurd (true≢false (sym h))
five true true true false e h = absurd (true≢false (sym h))
five true true false d e h = absurd (true≢false (sym h))
five true false c d e h = absurd (true≢false (sym h))
five false b c d e h = absurd (true≢false (sym h))

all_at : (f : List ℕ → Bool) (ps : List (List ℕ)) → all_of f ps ≡ true → (i : ℕ) → i < length ps → f (prefix_of ps i) ≡ true
all_at f [] e i h = absurd (omega arith)
all_at f (p ∷ ps) e zero h = (and_both (f p) (all_of f ps) e).0
all_at f (p ∷ ps) e (suc i) h = all_at f ps (and_both (f p) (all_of f ps) e).1 i (omega arith)

module _ (lim : Limits) (m0 : Manifest) (ss ts : List Segment) (same : Same ss ts) (law : Lawful lim (with_segments m0 ts)) (p : List ℕ) (room : Fill) (bp : Bytes p) where
  far : Apart (length (prefixes ts)) (λ i. prefix_of (prefixes ts) i)
  far = manifest_apart (with_segments m0 ts) law.bytes law.second law.third

  ascends : chain less_of (prefixes ts) ≡ true
  unfolding l2_of
  ascends = sym (chain_prefixes less_of ts) ∙ law.second

  apart_same : apart_from (prefixes ss) p ≡ apart_from (prefixes ts) p
  apart_same =
      sym (all_prefixes_lem (λ q. not (begins_of q p) && not (begins_of p q)) ss)
      ∙ all_same (λ s. not (begins_of s.prefix p) && not (begins_of p s.prefix)) same
      ∙ all_prefixes_lem (λ q. not (begins_of q p) && not (begins_of p q)) ts

  fill_is : manifest_fill (with_segments m0 (entered_in ts p)) ≡ manifest_fill (with_segments m0 (new_segment p ∷ ss))
  unfolding manifest_fill
  fill_is =
      ap (λ (x : Fill). plus (tree_fill m0.tree) (plus x (plus (sum key_fill (name_keys m0.extractor)) (sum borrow_fill m0.borrows))))
      (sum_among segment_fill (among_put (place_of (prefixes ts) p) (new_segment p) ts) ∙ ap (λ (x : Fill). plus (segment_fill (new_segment p)) x) (sym (sum_same segment_fill same)))

  room_is : refuses4 lim room (with_segments m0 (entered_in ts p)) ≡ refuses4 lim room (with_segments m0 (new_segment p ∷ ss))
  room_is = ap (λ (x : Fill). no_room lim room x) fill_is

  near_is : (not (holds_of (prefixes ts) p) && not (refuses3 (prefixes ts) p)) ≡ apart_from (prefixes ts) p
  unfolding index_of
  near_is = go (says_lt (leading (λ q. not (same_of q p)) (prefixes ts)) (length (prefixes ts)))
    where
      go : {b : Bool} → Says (leading (λ q. not (same_of q p)) (prefixes ts) < length (prefixes ts)) b → (not b && not (refuses3 (prefixes ts) p)) ≡ apart_from (prefixes ts) p
      go (holds h) = sym (held_apart (prefixes ts) p h)
      go (fails n) = ap not (nests_is (prefixes ts) far ascends p bp (fresh_of (prefixes ts) p (omega arith))) ∙ twice (apart_from (prefixes ts) p)

  short_is : not (prefix_over lim p) ≡ leb (length p) lim.prefix
  short_is = says_same (λ n. omega arith, λ h l. omega arith) (says_not (says_lt lim.prefix (length p))) (says_le (length p) lim.prefix)

  enters_is : (not (prefix_over lim p) && (not (holds_of (prefixes ts) p) && (not (refuses3 (prefixes ts) p) && not (refuses4 lim room (with_segments m0 (entered_in ts p)))))) ≡ enters lim m0 ss (record { prefix = p; room = room })
  unfolding enters
  enters_is =
      ap (λ b. not (prefix_over lim p) && b)
      (sym (and_assoc (not (holds_of (prefixes ts) p)) (not (refuses3 (prefixes ts) p)) (not (refuses4 lim room (with_segments m0 (entered_in ts p)))))
      ∙ ap (λ b. b && not (refuses4 lim room (with_segments m0 (entered_in ts p)))) (near_is ∙ sym apart_same)
      ∙ ap (λ b. apart_from (prefixes ss) p && not b) room_is)
      ∙ ap (λ b. b && (apart_from (prefixes ss) p && not (refuses4 lim room (with_segments m0 (new_segment p ∷ ss))))) short_is

  pub after_is :
      after_entry (with_segments m0 ts) (inserted_of lim room (with_segments m0 ts) p)
      ≡ pick (enters lim m0 ss (record { prefix = p; room = room })) (with_segments m0 (entered_in ts p)) (with_segments m0 ts)
  unfolding inserted_of
  after_is =
      entry_is (prefix_over lim p) (holds_of (prefixes ts) p) (refuses3 (prefixes ts) p) (refuses4 lim room (with_segments m0 (entered_in ts p)))
      (index_of (prefixes ts) p) (place_of (prefixes ts) p) (conflict_of (prefixes ts) p) (with_segments m0 ts) (with_segments m0 (entered_in ts p))
      ∙ ap (λ b. pick b (with_segments m0 (entered_in ts p)) (with_segments m0 ts)) enters_is

  -- a test of all views, or all runs, that the empty tree passes
  trees_are : {A : Type 0} (f : A → Bool) (g : Tree → List A) → all_of f (g new_tree) ≡ true → all_of f (joined g (trees (with_segments m0 (entered_in ts p)))) ≡ all_of f (joined g (trees (with_segments m0 ts)))
  trees_are f g e =
      all_trees f g (with_segments m0 (entered_in ts p))
      ∙ ap (λ b. all_of f (g m0.tree) && b) (all_among (λ s. all_of f (g s.tree)) (among_put (place_of (prefixes ts) p) (new_segment p) ts) ∙ rw e)
      ∙ sym (all_trees f g (with_segments m0 ts))

  module _ (short : leb (length p) lim.prefix ≡ true) (away : apart_from (prefixes ts) p ≡ true) (fit : refuses4 lim room (with_segments m0 (entered_in ts p)) ≡ false) where
    within_on : within lim (with_segments m0 (entered_in ts p)) ≡ true
    unfolding within no_room all_views
    within_on =
        let w =
        five (fits (manifest_fill (with_segments m0 ts)) lim.fill) (all_of (λ (s : Segment). leb (length s.prefix) lim.prefix) ts)
        (all_of (λ k. leb (length k) lim.name) (name_keys m0.extractor))
        (all_of (λ (v : View). all_of (λ k. leb (length k) lim.key) (view_keys v)) (joined tree_views (trees (with_segments m0 ts))))
        (all_of (λ (b : Borrow). leb (length b.path) lim.path) m0.borrows) law.first
        in
        let f =
        and_both (fits (manifest_fill (with_segments m0 (entered_in ts p))) lim.fill) (fits (manifest_fill (with_segments m0 (entered_in ts p))) room)
        (sym (twice (fits (manifest_fill (with_segments m0 (entered_in ts p))) lim.fill && fits (manifest_fill (with_segments m0 (entered_in ts p))) room)) ∙ ap not fit)
        in
        rw (f.0, all_among (λ (s : Segment). leb (length s.prefix) lim.prefix) (among_put (place_of (prefixes ts) p) (new_segment p) ts), short, w.1.0, w.1.1.0, trees_are (λ (v : View). all_of (λ k. leb (length k) lim.key) (view_keys v)) tree_views refl, w.1.1.1.0, w.1.1.1.1)

    l2_on : l2_of (with_segments m0 (entered_in ts p)) ≡ true
    unfolding l2_of
    l2_on =
        chain_prefixes less_of (entered_in ts p)
        ∙ ap (chain less_of) (prefixes_put (place_of (prefixes ts) p) (new_segment p) ts ∙ ap (λ i. put i p (prefixes ts)) (place_leads (prefixes ts) p ascends))
        ∙ chain_put p (prefixes ts) ascends fresh
      where
        fresh : (i : ℕ) → i < length (prefixes ts) → prefix_of (prefixes ts) i ≡ p → ⊥
        fresh i h e = says_true (says_not (says_begins (prefix_of (prefixes ts) i) p)) (and_both (not (begins_of (prefix_of (prefixes ts) i) p)) (not (begins_of p (prefix_of (prefixes ts) i))) (all_at (λ q. not (begins_of q p) && not (begins_of p q)) (prefixes ts) away i h)).0 (rw e (begins_refl p))

    l3_on : l3_of (with_segments m0 (entered_in ts p)) ≡ true
    unfolding l3_of
    l3_on =
        pairs_prefixes (λ a b. not (begins_of a b) && not (begins_of b a)) (entered_in ts p)
        ∙ ap (pairs (λ a b. not (begins_of a b) && not (begins_of b a))) (prefixes_put (place_of (prefixes ts) p) (new_segment p) ts)
        ∙ pairs_put (λ a b. not (begins_of a b) && not (begins_of b a)) (place_of (prefixes ts) p) p (prefixes ts)
        (sym (pairs_prefixes (λ a b. not (begins_of a b) && not (begins_of b a)) ts) ∙ law.third)
        (all_swap (λ q. not (begins_of p q)) (λ q. not (begins_of q p)) (prefixes ts) ∙ away)
        away

    pub lawful_on : Lawful lim (with_segments m0 (entered_in ts p))
    unfolding l4_of l5_of all_views all_runs
    lawful_on =
        record {
          bytes = rw (prefixes_put (place_of (prefixes ts) p) (new_segment p) ts) (bytes_put (place_of (prefixes ts) p) p (prefixes ts) bp law.bytes);
          first = within_on;
          second = l2_on;
          third = l3_on;
          fourth = trees_are view_lawful tree_views refl ∙ law.fourth;
          fifth = trees_are run_lawful tree_runs refl ∙ law.fifth;
        }

  enters_on : enters lim m0 ss (record { prefix = p; room = room }) ≡ true → Lawful lim (with_segments m0 (entered_in ts p))
  unfolding enters
  enters_on e =
      let u = and_both (leb (length p) lim.prefix) (apart_from (prefixes ss) p && not (refuses4 lim room (with_segments m0 (new_segment p ∷ ss)))) e in
      let v = and_both (apart_from (prefixes ss) p) (not (refuses4 lim room (with_segments m0 (new_segment p ∷ ss)))) u.1 in
      lawful_on u.0 (sym apart_same ∙ v.0) (room_is ∙ not-true _ v.1)

history_on : (lim : Limits) (m0 : Manifest) (cs : List Call) → BytesAll cs → (ss ts : List Segment) → Same ss ts → Lawful lim (with_segments m0 ts)
    → Kept lim m0 (afresh lim m0 ss cs) (replay lim (with_segments m0 ts) cs)
history_on lim m0 [] b ss ts s law = record { segments = s; others = refl; lawful = law }
history_on lim m0 (c ∷ cs) (BytesAll.called bp b) ss ts s law =
    rw (after_is lim m0 ss ts s law c.prefix c.room bp)
    (go (enters lim m0 ss c) refl (λ e. history_on lim m0 cs b (new_segment c.prefix ∷ ss) (entered_in ts c.prefix) (Same.more (among_put (place_of (prefixes ts) c.prefix) (new_segment c.prefix) ts) s) (enters_on lim m0 ss ts s law c.prefix c.room bp e)) (history_on lim m0 cs b ss ts s law))
  where
    go : (d : Bool) → enters lim m0 ss c ≡ d
        → (enters lim m0 ss c ≡ true → Kept lim m0 (afresh lim m0 (new_segment c.prefix ∷ ss) cs) (replay lim (with_segments m0 (entered_in ts c.prefix)) cs))
        → Kept lim m0 (afresh lim m0 ss cs) (replay lim (with_segments m0 ts) cs)
        → Kept lim m0 (afresh lim m0 (pick d (new_segment c.prefix ∷ ss) ss) cs) (replay lim (pick d (with_segments m0 (entered_in ts c.prefix)) (with_segments m0 ts)) cs)
    go true e u v = u e
    go false e u v = v

-- "Begin with any lawful manifest and make insertions, some refused. After each, the segments are those worked out afresh from
-- the start list and all calls so far": the same segments, trees and all, and in the one order that L2 leaves, since the result is
-- lawful; all else of the manifest is as it was.
pub history : (lim : Limits) (m : Manifest) → Lawful lim m → (cs : List Call) → BytesAll cs → Kept lim m (afresh lim m m.segments cs) (replay lim m cs)
history lim m law cs b = history_on lim m cs b m.segments m.segments (same_refl m.segments) law

-- "No older tree changes": the start list stands in what is worked out afresh, each segment with its tree, and what is new beside it
-- is empty trees
pub older_stay : (lim : Limits) (m : Manifest) (ss : List Segment) (cs : List Call) → (ps : List (List ℕ)) × (afresh lim m ss cs ≡ beside ps ss)
older_stay lim m ss [] = ([], refl)
older_stay lim m ss (c ∷ cs) = go (enters lim m ss c) (older_stay lim m (pick (enters lim m ss c) (new_segment c.prefix ∷ ss) ss) cs)
  where
    last : (ps : List (List ℕ)) → beside ps (new_segment c.prefix ∷ ss) ≡ beside (ps ++ (c.prefix ∷ [])) ss
    last [] = refl
    last (p ∷ ps) = ap (λ xs. new_segment p ∷ xs) (last ps)

    go : (d : Bool) {xs : List Segment} → ((ps : List (List ℕ)) × (xs ≡ beside ps (pick d (new_segment c.prefix ∷ ss) ss))) → (ps : List (List ℕ)) × (xs ≡ beside ps ss)
    go true w = (w.0 ++ (c.prefix ∷ []), w.1 ∙ last w.0)
    go false w = w
