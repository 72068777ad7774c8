-- Two id lists compared element by element, by an index. Assumes nothing.
use Prim.Native.Nat.{ℕ, suc, ◌+◌, ◌-◌, ◌/◌, ◌≤◌, ◌<◌}
use mathlib.Core.Path.{◌≡◌, sym, ◌∙◌}
use mathlib.Core.List.{List}
use native.Mathlib.Omega.{arith}
use native.Mathlib.Numerals.{add-one}
use lib.ListN.{length}
use Rattle.keys.specs.Key.{order_of}
use Rattle.keys.specs.Meet.{or_else}
use Rattle.std.specs.declared.cmp.Ordering.{Ordering}
use Rattle.std.specs.declared.cmp.Ordering.TheVariants.{Less, Equal, Greater}
use Rattle.tables.specs.Layout.{up_to}
use Rattle.tables.specs.Window.{held_of}
use Rattle.tables.specs.declared.Window.{Window}
use Rattle.ids.specs.declared.SstId.{SstId}
use Rattle.records.specs.Row.{id_at}
use Rattle.records.specs.Decode.{bytes_in, ids_in}
use Rattle.unite_groups.specs.Sets.{sst_order}
use Rattle.unite_groups.specs.Groups.{list_order}
use Rattle.unite_groups.specs.Steps.{group_at, row_order}
use Rattle.unite_groups.specs.declared.GroupRow.{GroupRow}
use Rattle.unite_groups.proofs.Spots.{rest_next, rest_all}

-- the two lists are the same before k, and x is how they stand
pub record Even (x : Ordering) (f g : ℕ → SstId) (n m k : ℕ) : Type 0 where
  pub first : k ≤ n
  pub second : k ≤ m
  pub says : x ≡ list_order (up_to (λ j. f (k + j)) (n - k)) (up_to (λ j. g (k + j)) (m - k))

-- the lists of two windows
abbrev pub in_window : List ℕ → Window → ℕ → SstId
in_window t w k = id_at t (w.first + k)

pub even_none : (t : List ℕ) (a b : Window) (n m : ℕ) → n ≡ held_of a (length t / 2) → m ≡ held_of b (length t / 2)
    → Even (list_order (ids_in t a) (ids_in t b)) (in_window t a) (in_window t b) n m 0
unfolding ids_in
even_none t a b n m e f = record { first = omega arith; second = omega arith; says = rw (rest_all (in_window t a) n, rest_all (in_window t b) m, e, f) }

module _ (x : Ordering) (f g : ℕ → SstId) (n m k : ℕ) (w : Even x f g n m k) where
  pub even_short : k < n → m ≤ k → Greater ≡ x
  unfolding list_order
  even_short h l = let z : m - k ≡ 0 = omega arith in sym (rw (rest_next f n k h, z) at w.says)

  pub even_long : n ≤ k → n < m → Less ≡ x
  unfolding list_order
  even_long l o = let h : k < m = omega (arith, w.first) in let z : n - k ≡ 0 = omega arith in sym (rw (rest_next g m k h, z) at w.says)

  pub even_all : n ≤ k → m ≤ n → Equal ≡ x
  unfolding list_order
  even_all l h = let z : n - k ≡ 0 = omega arith in let y : m - k ≡ 0 = omega arith in sym (rw (z, y) at w.says)

  module _ (h : k < n) (l : k < m) (a b : SstId) (r : Ordering) (p : a ≡ f k) (q : b ≡ g k) (e : r ≡ sst_order a b) where
    here : x ≡ or_else r (list_order (up_to (λ j. f (suc k + j)) (n - suc k)) (up_to (λ j. g (suc k + j)) (m - suc k)))
    unfolding list_order
    here = rw (e, p, q) (rw (rest_next f n k h, rest_next g m k l) at w.says)

    pub even_less : r ≡ Less → Less ≡ x
    even_less t = sym (rw t at here)

    pub even_greater : r ≡ Greater → Greater ≡ x
    even_greater t = sym (rw t at here)

    pub even_same : r ≡ Equal → Even x f g n m (k + 1)
    even_same t = record { first = omega arith; second = omega arith; says = rw (add-one k) (rw t at here) }

pub ruleset evens = (even_none, even_short, even_long, even_all, even_less, even_greater, even_same)

-- ---- a row beside another: path bytes, then id list

module _ (groups work pool : List ℕ) (i : ℕ) (g h : GroupRow) (e : h ≡ group_at groups i) (a b : List ℕ) (p : a ≡ bytes_in pool g.path) (q : b ≡ bytes_in pool h.path) (r : Ordering) (f : r ≡ order_of a b) where
  by_path : r ≡ order_of (bytes_in pool g.path) (bytes_in pool (group_at groups i).path)
  by_path = rw (← e, ← p, ← q) f

  pub row_less : r ≡ Less → Less ≡ row_order work pool g (group_at groups i)
  row_less t = rw (sym by_path ∙ t)

  pub row_more : r ≡ Greater → Greater ≡ row_order work pool g (group_at groups i)
  row_more t = rw (sym by_path ∙ t)

  pub row_by_ids : (s : Ordering) → r ≡ Equal → s ≡ list_order (ids_in work g.ids) (ids_in work h.ids) → s ≡ row_order work pool g (group_at groups i)
  row_by_ids s t u = rw (sym by_path ∙ t, ← e) u
