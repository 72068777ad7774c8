-- Ends of ranges, which may be a prefix's successor: the earlier of two, and when no key is left. Assumes nothing.
use Prim.Native.Nat.{ℕ}
use mathlib.Core.Path.{◌≡◌, refl, sym, ap, ◌∙◌}
use mathlib.Core.Bool.{Bool, true, false, not}
use mathlib.Core.List.{List}
use native.Mathlib.Omega.{arith}
use Rattle.keys.specs.Pick.{pick}
use Rattle.keys.specs.Key.{order_of, is_less}
use Rattle.keys.specs.Prefix.{Top, nowhere, at, under_of, after}
use Rattle.keys.specs.Range.{Edge, unbounded, included, excluded, Edges, low, top, empty_of}
use Rattle.keys.specs.Meet.{or_else, start_order, end_order, later, earlier, meet_of}
use Rattle.keys.specs.Pool.{part_of, edge_of, edges_of, meet_in}
use Rattle.std.specs.declared.cmp.Ordering.{Ordering}
use Rattle.std.specs.declared.cmp.Ordering.TheVariants.{Less, Equal, Greater}
use Rattle.keys.specs.declared.Bound.{Bound}
use Rattle.keys.specs.declared.Bound.TheVariants as bound
use Rattle.keys.specs.declared.Range.{Range}
use Rattle.keys.proofs.ByteOrder.{stands, of_same}
use Rattle.keys.proofs.Sorts.{turn, order_turn, start_turn, start_same, end_turn, end_same}
use Rattle.keys.proofs.Meets.{edges_meet}
use Rattle.project_views.specs.Reach.{top_edge, until_of, reach_of}
use Rattle.project_views.specs.Steps.{as_until, plain_end, cut_by}
use Rattle.project_views.specs.declared.Until.{Until}
use Rattle.project_views.specs.declared.Until.TheVariants.{Unbounded, Included, Excluded, Successor}
use Rattle.project_views.specs.declared.Reach.{Reach}

pub edges_same : {a b : Edges} → a.start ≡ b.start → a.end ≡ b.end → a ≡ b
edges_same p q = λ i. record { start = p i; end = q i }

-- ---- a bound as an end

pub until_edge : (pool : List ℕ) (b : Bound) → until_of pool (as_until b) ≡ edge_of pool b
until_edge pool bound.Unbounded = refl
until_edge pool (bound.Included from len) = refl
until_edge pool (bound.Excluded from len) = refl

module _ (b : Bound) where
  pub until_free : b ≡ bound.Unbounded → Unbounded ≡ as_until b
  until_free e = rw e

  pub until_included : (from len : ℕ) → b ≡ bound.Included from len → Included from len ≡ as_until b
  until_included from len e = rw e

  pub until_excluded : (from len : ℕ) → b ≡ bound.Excluded from len → Excluded from len ≡ as_until b
  until_excluded from len e = rw e

module _ (u : Until) where
  pub plain_free : u ≡ Unbounded → bound.Unbounded ≡ plain_end u
  plain_free e = rw e

  module _ (from len : ℕ) where
    pub plain_included : u ≡ Included from len → bound.Included from len ≡ plain_end u
    plain_included e = rw e

    pub plain_excluded : u ≡ Excluded from len → bound.Excluded from len ≡ plain_end u
    plain_excluded e = rw e

    pub plain_successor : u ≡ Successor from len → bound.Unbounded ≡ plain_end u
    plain_successor e = rw e

pub ruleset plains = (until_free, until_included, until_excluded, plain_free, plain_included, plain_excluded, plain_successor)

-- ---- the earlier of an end and a top: the end where its key is below the top

never : {A : Type 0} → true ≡ false → A
never e = let z : ◌≡◌ {A = ℕ} 0 1 = cc in absurd (omega arith)

stays_included : (k : List ℕ) (t : Top) → under_of k t ≡ true → included k ≡ earlier (included k) (top_edge t)
stays_included k nowhere h = refl
stays_included k (at b) h = rw (order_turn k b) (go (order_of k b) h)
  where
    go : (o : Ordering) → is_less o ≡ true → included k ≡ pick (is_less (or_else (turn o) Less)) (excluded b) (included k)
    go Less h = refl
    go Equal h = never (sym h)
    go Greater h = never (sym h)

stays_excluded : (k : List ℕ) (t : Top) → under_of k t ≡ true → excluded k ≡ earlier (excluded k) (top_edge t)
stays_excluded k nowhere h = refl
stays_excluded k (at b) h = rw (order_turn k b) (go (order_of k b) h)
  where
    go : (o : Ordering) → is_less o ≡ true → excluded k ≡ pick (is_less (turn o)) (excluded b) (excluded k)
    go Less h = refl
    go Equal h = never (sym h)
    go Greater h = never (sym h)

leaves_included : (k : List ℕ) (t : Top) → under_of k t ≡ false → top_edge t ≡ earlier (included k) (top_edge t)
leaves_included k nowhere h = never h
leaves_included k (at b) h = rw (order_turn k b) (go (order_of k b) h)
  where
    go : (o : Ordering) → is_less o ≡ false → excluded b ≡ pick (is_less (or_else (turn o) Less)) (excluded b) (included k)
    go Less h = never h
    go Equal h = refl
    go Greater h = refl

leaves_excluded : (k : List ℕ) (t : Top) → under_of k t ≡ false → top_edge t ≡ earlier (excluded k) (top_edge t)
leaves_excluded k nowhere h = never h
leaves_excluded k (at b) h = rw (order_turn k b) (go (order_of k b) refl h)
  where
    go : (o : Ordering) → order_of k b ≡ o → is_less o ≡ false → excluded b ≡ pick (is_less (turn o)) (excluded b) (excluded k)
    go Less e h = never h
    go Equal e h = ap excluded (sym (of_same (stands k b Equal e)))
    go Greater e h = refl

earlier_free : (e : Edge) → earlier e unbounded ≡ e
earlier_free unbounded = refl
earlier_free (included k) = refl
earlier_free (excluded k) = refl

free_earlier : (t : Top) → top_edge t ≡ earlier unbounded (top_edge t)
free_earlier nowhere = refl
free_earlier (at b) = refl

-- the same by the tests that the code makes
module _ (pool : List ℕ) (e : Bound) (from len : ℕ) where
  pub before_free : e ≡ bound.Unbounded → until_of pool (Successor from len) ≡ earlier (edge_of pool e) (top_edge (after (part_of pool from len)))
  before_free h = rw h (free_earlier (after (part_of pool from len)))

  module _ (i n : ℕ) (k p : List ℕ) (r : Bool) (x : k ≡ part_of pool i n) (y : p ≡ part_of pool from len) (u : r ≡ under_of k (after p)) where
    under_is : under_of (part_of pool i n) (after (part_of pool from len)) ≡ r
    under_is = sym (rw (x, y) at u)

    pub before_included : e ≡ bound.Included i n → r ≡ true → until_of pool (Included i n) ≡ earlier (edge_of pool e) (top_edge (after (part_of pool from len)))
    before_included h t = rw h (stays_included (part_of pool i n) (after (part_of pool from len)) (under_is ∙ t))

    pub before_excluded : e ≡ bound.Excluded i n → r ≡ true → until_of pool (Excluded i n) ≡ earlier (edge_of pool e) (top_edge (after (part_of pool from len)))
    before_excluded h t = rw h (stays_excluded (part_of pool i n) (after (part_of pool from len)) (under_is ∙ t))

    pub past_included : e ≡ bound.Included i n → r ≡ false → until_of pool (Successor from len) ≡ earlier (edge_of pool e) (top_edge (after (part_of pool from len)))
    past_included h t = rw h (leaves_included (part_of pool i n) (after (part_of pool from len)) (under_is ∙ t))

    pub past_excluded : e ≡ bound.Excluded i n → r ≡ false → until_of pool (Successor from len) ≡ earlier (edge_of pool e) (top_edge (after (part_of pool from len)))
    past_excluded h t = rw h (leaves_excluded (part_of pool i n) (after (part_of pool from len)) (under_is ∙ t))

pub ruleset befores = (before_free, before_included, before_excluded, past_included, past_excluded)

module _ (pool : List ℕ) (e : Bound) (u r : Until) where
  module _ (h : r ≡ as_until e) where
    pub cut_free : u ≡ Unbounded → until_of pool r ≡ cut_by pool (edge_of pool e) u
    cut_free t = rw (t, h) (until_edge pool e)

    pub cut_included : (from len : ℕ) → u ≡ Included from len → until_of pool r ≡ cut_by pool (edge_of pool e) u
    cut_included from len t = rw (t, h) (until_edge pool e)

    pub cut_excluded : (from len : ℕ) → u ≡ Excluded from len → until_of pool r ≡ cut_by pool (edge_of pool e) u
    cut_excluded from len t = rw (t, h) (until_edge pool e)

  pub cut_successor : (from len : ℕ) → u ≡ Successor from len → until_of pool r ≡ earlier (edge_of pool e) (top_edge (after (part_of pool from len))) → until_of pool r ≡ cut_by pool (edge_of pool e) u
  cut_successor from len t h = rw t h

pub ruleset cuts = (cut_free, cut_included, cut_excluded, cut_successor)

-- ---- two ranges met

cut_earlier : (pool : List ℕ) (e : Edge) (u : Until) → cut_by pool (earlier e (edge_of pool (plain_end u))) u ≡ earlier e (until_of pool u)
cut_earlier pool e Unbounded = refl
cut_earlier pool e (Included from len) = refl
cut_earlier pool e (Excluded from len) = refl
cut_earlier pool e (Successor from len) = rw (earlier_free e)

pub reach_met : (pool : List ℕ) (a m : Range) (r : Reach) (e : Bound) (w : Until) → e ≡ plain_end r.end → m ≡ meet_in pool a (record { start = r.start; end = e }) → until_of pool w ≡ cut_by pool (edge_of pool m.end) r.end
    → reach_of pool (record { start = m.start; end = w }) ≡ meet_of (edges_of pool a) (reach_of pool r)
reach_met pool a m r e w p q h =
    let b : Range = record { start = r.start; end = e } in
    let n : edges_of pool m ≡ meet_of (edges_of pool a) (edges_of pool b) = ap (edges_of pool) q ∙ edges_meet pool a b in
    let t : edge_of pool m.end ≡ earlier (edge_of pool a.end) (edge_of pool (plain_end r.end)) = ap (λ (z : Edges). z.end) n ∙ ap (λ (z : Bound). earlier (edge_of pool a.end) (edge_of pool z)) p in
    edges_same (ap (λ (z : Edges). z.start) n) (h ∙ ap (λ (z : Edge). cut_by pool z r.end) t ∙ cut_earlier pool (edge_of pool a.end) r.end)

-- of equal bounds it does not matter which is taken: either range may come first
later_comm : (s t : Edge) → later s t ≡ later t s
later_comm s t = rw (start_turn s t) (go (start_order s t) refl)
  where
    go : (o : Ordering) → start_order s t ≡ o → pick (is_less o) t s ≡ pick (is_less (turn o)) s t
    go Less e = refl
    go Equal e = start_same s t e
    go Greater e = refl

earlier_comm : (s t : Edge) → earlier s t ≡ earlier t s
earlier_comm s t = rw (end_turn t s) (go (end_order t s) refl)
  where
    go : (o : Ordering) → end_order t s ≡ o → pick (is_less o) t s ≡ pick (is_less (turn o)) s t
    go Less e = refl
    go Equal e = sym (end_same t s e)
    go Greater e = refl

pub meet_comm : (a b : Edges) → meet_of a b ≡ meet_of b a
meet_comm a b = edges_same (later_comm a.start b.start) (earlier_comm a.end b.end)

-- ---- no key left

top_edge_lem : (t : Top) → top (top_edge t) ≡ t
top_edge_lem nowhere = refl
top_edge_lem (at b) = refl

module _ (pool : List ℕ) (s : Bound) (u : Until) where
  pub none_free : u ≡ Unbounded → false ≡ empty_of (edge_of pool s) (until_of pool u)
  unfolding empty_of
  none_free t = rw t

  module _ (from len : ℕ) (b : Bool) where
    pub none_included : u ≡ Included from len → b ≡ empty_of (edge_of pool s) (edge_of pool (bound.Included from len)) → b ≡ empty_of (edge_of pool s) (until_of pool u)
    none_included t h = rw t h

    pub none_excluded : u ≡ Excluded from len → b ≡ empty_of (edge_of pool s) (edge_of pool (bound.Excluded from len)) → b ≡ empty_of (edge_of pool s) (until_of pool u)
    none_excluded t h = rw t h

    pub none_successor : (p : List ℕ) → u ≡ Successor from len → p ≡ part_of pool from len → b ≡ under_of (low (edge_of pool s)) (after p) → not b ≡ empty_of (edge_of pool s) (until_of pool u)
    unfolding empty_of
    none_successor p t y h = rw (t, top_edge_lem (after (part_of pool from len))) (rw y at (ap not h))

pub ruleset nones = (none_free, none_included, none_excluded, none_successor)
