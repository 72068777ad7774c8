-- Own ranges with their unbounded ends replaced, and when the prefix's range leaves their bounds as they are. Assumes nothing.
use Rattle.std.specs.Prelude.{None, Option, Some}
use Prim.Native.Nat.{ℕ, zero, suc, ◌+◌, ◌-◌, ◌≤◌, ◌<◌}
use mathlib.Core.Path.{◌≡◌, refl, sym, ap, ◌∙◌}
use mathlib.Core.Bool.{Bool, true, false, ◌||◌}
use mathlib.Core.List.{List, [], ◌∷◌, ◌++◌}
use native.Mathlib.Omega.{arith}
use lib.Dec.{ltb}
use lib.ListN.{length, get_or, take, length-append}
use lib.Seq.{take-suc, take_all, length-take-le, take_at, get_or_at}
use borrow.Author.Tests.{le-leb}
use Rattle.keys.specs.Pick.{pick}
use Rattle.keys.specs.Says.{Says, holds, fails}
use Rattle.keys.specs.Key.{order_of, is_less, is_equal}
use Rattle.keys.specs.Prefix.{Top, nowhere, at, under_of, keep_before, without_ff, add_one, last_up, after, left_of, successor_of, grown_top}
use Rattle.keys.specs.Range.{Edge, unbounded, included, excluded}
use Rattle.keys.specs.Meet as order
use Rattle.keys.specs.Meet.{start_order, earlier}
use Rattle.keys.specs.Pool.{part_of, edge_of, edges_of}
use Rattle.std.specs.declared.cmp.Ordering.{Ordering}
use Rattle.std.specs.declared.cmp.Ordering.TheVariants.{Less, Equal, Greater}
use Rattle.keys.specs.declared.Bound.{Bound}
use Rattle.keys.specs.declared.Bound.TheVariants as bound
use Rattle.keys.specs.declared.Range.{Range}
use Rattle.keys.proofs.Says.{true_says, false_says, says_same}
use Rattle.keys.proofs.ByteOrder.{Stand, less, same, more, stand, below_irrefl}
use Rattle.keys.proofs.Sorts.{turn, order_turn}
use Rattle.keys.proofs.Grows.{successor_after}
use Rattle.records.specs.Decode.{bytes_in}
use Rattle.records.specs.declared.Place.{Place}
use Rattle.segments.specs.Lookup.{same_of}
use Rattle.tables.proofs.Holds.{pick_same}
use Rattle.project_views.specs.Reach.{top_edge, until_of, reach_of}
use Rattle.project_views.specs.declared.Until.{Until}
use Rattle.project_views.specs.declared.Until.TheVariants.{Unbounded, Included, Excluded, Successor}
use Rattle.project_views.specs.declared.Reach.{Reach}
use Rattle.project_views.proofs.Ends.{edges_same}
use Rattle.project_ranges.specs.Own.{or_else, resolved, same_edge, is_contained}
use Rattle.project_ranges.specs.Steps.{start_or, end_or, resolved_row, start_stays, end_stays, is_top}

-- ---- unbounded ends replaced

module _ (b : Bound) (from len : ℕ) where
  pub start_included : (other : Bound) → b ≡ bound.Included from len → bound.Included from len ≡ start_or b other
  start_included other e = rw e

  pub start_excluded : (other : Bound) → b ≡ bound.Excluded from len → bound.Excluded from len ≡ start_or b other
  start_excluded other e = rw e

  pub end_included : (other : Until) → b ≡ bound.Included from len → Included from len ≡ end_or b other
  end_included other e = rw e

  pub end_excluded : (other : Until) → b ≡ bound.Excluded from len → Excluded from len ≡ end_or b other
  end_excluded other e = rw e

pub canonicalize_segment_range_both : (p : Place) (r : Range) (s : Bound) (e : Until) → s ≡ start_or r.start (bound.Included p.at p.len)
    → e ≡ end_or r.end (Successor p.at p.len) → record { start = s; end = e } ≡ resolved_row p r
canonicalize_segment_range_both p r s e h k = rw (h, k)

pub ruleset ors = (start_included, start_excluded, end_included, end_excluded, canonicalize_segment_range_both)

start_or_lem : (pool : List ℕ) (b other : Bound) → edge_of pool (start_or b other) ≡ or_else (edge_of pool b) (edge_of pool other)
start_or_lem pool bound.Unbounded other = refl
start_or_lem pool (bound.Included from len) other = refl
start_or_lem pool (bound.Excluded from len) other = refl

end_or_lem : (pool : List ℕ) (b : Bound) (other : Until) → until_of pool (end_or b other) ≡ or_else (edge_of pool b) (until_of pool other)
end_or_lem pool bound.Unbounded other = refl
end_or_lem pool (bound.Included from len) other = refl
end_or_lem pool (bound.Excluded from len) other = refl

pub resolved_is : (pool : List ℕ) (p : Place) (r : Range) → reach_of pool (resolved_row p r) ≡ resolved (bytes_in pool p) (edges_of pool r)
resolved_is pool p r = edges_same (start_or_lem pool r.start (bound.Included p.at p.len)) (end_or_lem pool r.end (Successor p.at p.len))

-- where there is nothing to replace it by, an end stays
pub end_kept : (pool : List ℕ) (b : Bound) → until_of pool (end_or b Unbounded) ≡ edge_of pool b
end_kept pool bound.Unbounded = refl
end_kept pool (bound.Included from len) = refl
end_kept pool (bound.Excluded from len) = refl

-- ---- keys that are the same

pub says_equal : (a b : List ℕ) → Says (a ≡ b) (same_of a b)
says_equal a b = go (stand a b)
  where
    go : {o : Ordering} → Stand a b o → Says (a ≡ b) (is_equal o)
    go (less h) = fails (λ e. below_irrefl (rw e at h))
    go (same h) = holds h
    go (more h) = fails (λ e. below_irrefl (rw e at h))

same_self : (a : List ℕ) → same_of a a ≡ true
same_self a = true_says (says_equal a a) refl

-- ---- a key that is a prefix's successor

part_front : (k : List ℕ) (i : ℕ) → i ≤ length k → part_of k 0 i ≡ take i k
unfolding part_of
part_front k i h = rw (le-leb (0 + i) (length k) (omega arith))

take_last : (p : List ℕ) (n : ℕ) → 0 < n → n ≤ length p → take n p ≡ take (n - 1) p ++ get_or p (n - 1) 0 ∷ []
take_last p zero h k = absurd (omega arith)
take_last p (suc n) h k = let e : suc n - 1 ≡ n = omega arith in rw e (take-suc p n 0 (omega arith))

last_up_lem : (q : List ℕ) (x : ℕ) → last_up (q ++ x ∷ []) ≡ at (q ++ (x + 1) ∷ [])
last_up_lem [] x = refl
last_up_lem (y ∷ q) x = ap at (grows y q x)
  where
    grows : (y : ℕ) (q : List ℕ) (x : ℕ) → add_one y (q ++ x ∷ []) ≡ y ∷ (q ++ (x + 1) ∷ [])
    grows y [] x = refl
    grows y (z ∷ q) x = ap (λ l. y ∷ l) (grows z q x)

module _ (k p : List ℕ) (n : ℕ) (l : 0 < n) (m : n ≤ length p) where
  abbrev up : List ℕ
  up = take (n - 1) p ++ (get_or p (n - 1) 0 + 1) ∷ []

  front : length (take (n - 1) p) ≡ n - 1
  front = length-take-le (n - 1) p (omega arith)

  says_up : Says (k ≡ up) (is_top k (grown_top p (Some n)))
  says_up = rw (take_last p n l m, last_up_lem (take (n - 1) p) (get_or p (n - 1) 0)) (says_equal k up)

  up_long : length up ≡ n
  up_long = length-append (take (n - 1) p) _ ∙ rw front (omega arith)

  up_last : k ≡ up → get_or k (n - 1) 0 ≡ get_or p (n - 1) 0 + 1
  up_last e = ap (λ (x : List ℕ). get_or x (n - 1) 0) e ∙ get_or_at (take (n - 1) p) (get_or p (n - 1) 0 + 1) [] 0 (n - 1) front

  up_front : k ≡ up → take (n - 1) k ≡ take (n - 1) p
  up_front e = ap (take (n - 1)) e ∙ take_at (take (n - 1) p) _ (n - 1) front

  pub grown_long : (length k ≡ n → ⊥) → false ≡ is_top k (grown_top p (Some n))
  grown_long h = sym (false_says says_up (λ e. h (ap length e ∙ up_long)))

  pub grown_low : get_or k (n - 1) 0 ≤ get_or p (n - 1) 0 → false ≡ is_top k (grown_top p (Some n))
  grown_low h = sym (false_says says_up (λ e. let f = up_last e in omega arith))

  pub grown_high : 1 < get_or k (n - 1) 0 - get_or p (n - 1) 0 → false ≡ is_top k (grown_top p (Some n))
  grown_high h = sym (false_says says_up (λ e. let f = up_last e in omega arith))

  pub grown_same : (a b : List ℕ) (r : Bool) → length k ≡ n → get_or p (n - 1) 0 < get_or k (n - 1) 0 → get_or k (n - 1) 0 - get_or p (n - 1) 0 ≤ 1
      → a ≡ part_of k 0 (n - 1) → b ≡ part_of p 0 (n - 1) → r ≡ same_of a b → r ≡ is_top k (grown_top p (Some n))
  grown_same a b r e lo hi q w h =
      let f : a ≡ take (n - 1) k = q ∙ part_front k (n - 1) (omega arith) in
      let g : b ≡ take (n - 1) p = w ∙ part_front p (n - 1) (omega arith) in
      let x : get_or k (n - 1) 0 ≡ get_or p (n - 1) 0 + 1 = omega arith in
      let all : k ≡ take (n - 1) k ++ get_or k (n - 1) 0 ∷ [] = sym (take_all n k (omega arith)) ∙ take_last k n l (omega arith) in
      h
      ∙ says_same
      (λ s. all ∙ rw (x, ← f, ← g) (ap (λ (z : List ℕ). z ++ (get_or p (n - 1) 0 + 1) ∷ []) s), λ s. f ∙ up_front s ∙ sym g)
      (says_equal a b) says_up

abbrev size : Option ℕ → ℕ
size None = 0
size (Some n) = n

without_short : (p : List ℕ) → length (without_ff p) ≤ length p
without_short [] = omega arith
without_short (x ∷ p) = go (without_ff p) (without_short p)
  where
    last : (b : Bool) → length (pick b (x ∷ []) []) ≤ suc (length p)
    last true = omega arith
    last false = omega arith

    go : (q : List ℕ) → length q ≤ length p → length (keep_before x q) ≤ suc (length p)
    go [] h = last (ltb x 255)
    go (y ∷ q) h = omega arith

module _ (k p : List ℕ) (s : Option ℕ) (e : s ≡ successor_of p) where
  top_by : is_top k (after p) ≡ is_top k (grown_top p s)
  top_by = ap (is_top k) (sym (successor_after p) ∙ ap (grown_top p) (sym e))

  pub successor_none : s ≡ None → false ≡ is_top k (after p)
  successor_none h = sym (top_by ∙ ap (λ (z : Option ℕ). is_top k (grown_top p z)) h)

  module _ (n : ℕ) (h : s ≡ Some n) where
    pub successor_by : (b : Bool) → b ≡ is_top k (grown_top p (Some n)) → b ≡ is_top k (after p)
    successor_by b g = g ∙ sym (top_by ∙ ap (λ (z : Option ℕ). is_top k (grown_top p z)) h)

module _ (p : List ℕ) (s : Option ℕ) (n : ℕ) (e : s ≡ successor_of p) (h : s ≡ Some n) where
  left_within : (0 < n) × (n ≤ length p)
  unfolding successor_of
  left_within = go (without_ff p) (without_short p) (sym e ∙ h)
    where
      go : (q : List ℕ) → length q ≤ length p → left_of q ≡ Some n → (0 < n) × (n ≤ length p)
      go [] l f = let z : ◌≡◌ {A = ℕ} 0 1 = cc in absurd (omega arith)
      go (x ∷ q) l f = let z : suc (length q) ≡ n = ap size f in (omega arith, omega arith)

  pub successor_some : 0 < n
  successor_some = left_within.0

  pub successor_in : n ≤ length p
  successor_in = left_within.1

pub ruleset successors = (grown_long, grown_low, grown_high, grown_same, successor_none, successor_by, successor_some, successor_in)

module _ (k p : List ℕ) (r : Bool) (e : r ≡ under_of k (after p)) where
  pub up_below : r ≡ true → true ≡ (under_of k (after p) || is_top k (after p))
  up_below h = rw (sym e ∙ h)

  pub up_top : (b : Bool) → r ≡ false → b ≡ is_top k (after p) → b ≡ (under_of k (after p) || is_top k (after p))
  up_top b h g = rw (sym e ∙ h) g

pub ruleset ups = (up_below, up_top)

-- ---- meeting leaves the bounds unchanged: the start is not before the prefix, the end not after the prefix's

pub edge_self : (s : Edge) → same_edge s s ≡ true
edge_self unbounded = refl
edge_self (included k) = same_self k
edge_self (excluded k) = same_self k

start_before : (p : List ℕ) (s : Edge) → start_order s (included p) ≡ Less → start_stays p s ≡ false
start_before p unbounded e = refl
start_before p (included a) e = rw e (rw (order_turn a p, e))
start_before p (excluded a) e = rw e

pub start_from : (p : List ℕ) (s : Edge) → is_less (start_order s (included p)) ≡ false → start_stays p s ≡ true
start_from p s e = rw e (edge_self s)

module _ (pool : List ℕ) (s : Bound) (p : Place) (o : Ordering) (e : o ≡ start_order (edge_of pool s) (edge_of pool (bound.Included p.at p.len))) where
  pub start_less : o ≡ Less → false ≡ start_stays (bytes_in pool p) (edge_of pool s)
  start_less h = sym (start_before (bytes_in pool p) (edge_of pool s) (sym e ∙ h))

  pub start_equal : o ≡ Equal → true ≡ start_stays (bytes_in pool p) (edge_of pool s)
  start_equal h = sym (start_from (bytes_in pool p) (edge_of pool s) (ap is_less (sym e ∙ h)))

  pub start_greater : o ≡ Greater → true ≡ start_stays (bytes_in pool p) (edge_of pool s)
  start_greater h = sym (start_from (bytes_in pool p) (edge_of pool s) (ap is_less (sym e ∙ h)))

pub ruleset starts = (start_less, start_equal, start_greater)

included_stays : (k : List ℕ) (t : Top) → under_of k t ≡ same_edge (earlier (included k) (top_edge t)) (included k)
included_stays k nowhere = sym (same_self k)
included_stays k (at b) = rw (order_turn k b) (go (order_of k b))
  where
    go : (o : Ordering) → is_less o ≡ same_edge (pick (is_less (order.or_else (turn o) Less)) (excluded b) (included k)) (included k)
    go Less = sym (same_self k)
    go Equal = refl
    go Greater = refl

excluded_stays : (k : List ℕ) (t : Top) → (under_of k t || is_top k t) ≡ same_edge (earlier (excluded k) (top_edge t)) (excluded k)
excluded_stays k nowhere = sym (same_self k)
excluded_stays k (at b) = go (order_of k b) refl
  where
    go : (o : Ordering) → order_of k b ≡ o
        → (is_less (order_of k b) || is_equal (order_of k b)) ≡ same_edge (pick (is_less (order_of b k)) (excluded b) (excluded k)) (excluded k)
    go Less e = rw (order_turn k b) (rw e (sym (same_self k)))
    go Equal e = rw (order_turn k b) (rw e (sym (same_self k)))
    go Greater e = rw (order_turn k b) (rw e (rw (order_turn k b, e)))

top_self : (t : Top) → same_edge (earlier (top_edge t) (top_edge t)) (top_edge t) ≡ true
top_self t = rw (pick_same (is_less (order.end_order (top_edge t) (top_edge t))) (top_edge t)) (edge_self (top_edge t))

module _ (pool : List ℕ) (e : Bound) (p : Place) where
  pub stays_free : e ≡ bound.Unbounded → true ≡ end_stays (bytes_in pool p) (edge_of pool e)
  stays_free h = rw h (sym (top_self (after (bytes_in pool p))))

  module _ (i n : ℕ) (k q : List ℕ) (r : Bool) (x : k ≡ part_of pool i n) (y : q ≡ part_of pool p.at p.len) where
    pub stays_included : e ≡ bound.Included i n → r ≡ under_of k (after q) → r ≡ end_stays (bytes_in pool p) (edge_of pool e)
    stays_included h t = rw h ((rw (x, y) at t) ∙ included_stays (part_of pool i n) (after (bytes_in pool p)))

    pub stays_excluded : e ≡ bound.Excluded i n → r ≡ (under_of k (after q) || is_top k (after q)) → r ≡ end_stays (bytes_in pool p) (edge_of pool e)
    stays_excluded h t = rw h ((rw (x, y) at t) ∙ excluded_stays (part_of pool i n) (after (bytes_in pool p)))

pub ruleset ends = (stays_free, stays_included, stays_excluded)

module _ (pool : List ℕ) (p : Place) (r : Range) (q : Reach) (b : Bool) (e : q ≡ resolved_row p r)
    (h : b ≡ start_stays (bytes_in pool p) (edge_of pool q.start)) where
  start_is : start_stays (bytes_in pool p) (or_else (edge_of pool r.start) (included (bytes_in pool p))) ≡ b
  start_is =
      ap (start_stays (bytes_in pool p)) (sym (ap (λ (z : Reach). edge_of pool z.start) e ∙ start_or_lem pool r.start (bound.Included p.at p.len)))
      ∙ sym h

  pub contained_by : (x : Bool) → b ≡ true → x ≡ end_stays (bytes_in pool p) (edge_of pool r.end)
      → x ≡ is_contained (bytes_in pool p) (resolved (bytes_in pool p) (edges_of pool r))
  contained_by x t g = rw (start_is ∙ t) g

  pub contained_not : b ≡ false → false ≡ is_contained (bytes_in pool p) (resolved (bytes_in pool p) (edges_of pool r))
  contained_not t = rw (start_is ∙ t)

pub ruleset contains = (contained_by, contained_not)
