-- The tree merge over rows is the tree merge. Assumes nothing.
use Prim.Native.Nat.{ℕ, zero, suc, ◌+◌, ◌/◌, ◌≤◌, suc-le-suc}
use mathlib.Core.Path.{◌≡◌, refl, sym, ap, ◌∙◌}
use mathlib.Core.Bool.{Bool, true, false, not}
use mathlib.Core.List.{List, [], ◌∷◌}
use native.Mathlib.Omega.{arith}
use lib.Dec.{leb}
use lib.ListN.{length}
use borrow.Author.Tests.{leb-true, le-leb}
use Rattle.keys.specs.Pick.{pick}
use Rattle.ids.specs.Id.{marks_view_of, marks_sst_of}
use Rattle.tables.specs.Layout.{up_to}
use Rattle.tables.specs.Window.{held_of}
use Rattle.tables.specs.declared.Window.{Window}
use Rattle.tables.proofs.Holds.{up_to_front, pick_same}
use Rattle.tables.proofs.Joined.{up_to_length}
use Rattle.records.specs.Row.{view_at}
use Rattle.records.specs.Decode.{view_in, views_in, tree_in}
use Rattle.records.specs.declared.ViewRow.{ViewRow}
use Rattle.records.specs.declared.TreeRow.{TreeRow}
use Rattle.segments.specs.Prefixes.{leading}
use Rattle.segments.proofs.Fronts.{Led, led_none}
use Rattle.merge.specs.Tree.{absorbed, until, tree_merge}
use Rattle.merge.specs.Rows.{view_rows, absorbed_row, left_of, merged_tree}

-- ---- what the arms of the code know
module _ (views : List ℕ) (i : ℕ) (c : TreeRow) (v : ViewRow) (r : Bool) (at : v ≡ view_at views i) (e : r ≡ marks_view_of c.view v.id) where
  pub left_not : r ≡ true → false ≡ not (absorbed_row c (view_at views i))
  left_not t = rw (← at, sym e ∙ t)

  pub left_by : (q : Bool) → r ≡ false → q ≡ marks_sst_of c.sst v.sst → not q ≡ not (absorbed_row c (view_at views i))
  left_by q t f = rw (← at, sym e ∙ t) (ap not f)

pub ruleset lefts = (left_not, left_by)

pub left_none : (views : List ℕ) (l0 : Window) (c : TreeRow) (n : ℕ) → n ≡ held_of l0 (length views / 16)
    → Led (left_of views l0 c) (λ i. not (absorbed_row c (view_at views (l0.first + i)))) n 0
unfolding left_of
left_none views l0 c n e = led_none (λ v. not (absorbed_row c v)) (λ k. view_at views (l0.first + k)) _ n _ e refl

-- ---- L0, shortened
leading_most : {A : Type 0} (f : A → Bool) (xs : List A) → leading f xs ≤ length xs
leading_most f [] = omega arith
leading_most f (x ∷ xs) = go (f x) (leading_most f xs)
  where
    go : (b : Bool) → leading f xs ≤ length xs → pick b (suc (leading f xs)) 0 ≤ length (x ∷ xs)
    go true h = suc-le-suc h
    go false h = omega arith

until_up_to : {A B : Type 0} (f : B → Bool) (e : A → Bool) (h : A → B) → ((x : A) → f (h x) ≡ e x) → (g : ℕ → A) (n : ℕ)
    → until f (up_to (λ k. h (g k)) n) ≡ up_to (λ k. h (g k)) (leading (λ x. not (e x)) (up_to g n))
until_up_to f e h s g zero = refl
until_up_to f e h s g (suc n) = rw (up_to_front (λ k. h (g k)) n, up_to_front g n, s (g 0)) (go (e (g 0)) (until_up_to f e h s (λ k. g (suc k)) n))
  where
    go : (b : Bool) → until f (up_to (λ k. h (g (suc k))) n) ≡ up_to (λ k. h (g (suc k))) (leading (λ x. not (e x)) (up_to (λ k. g (suc k)) n))
        → pick b [] (h (g 0) ∷ until f (up_to (λ k. h (g (suc k))) n)) ≡ up_to (λ k. h (g k)) (pick (not b) (suc (leading (λ x. not (e x)) (up_to (λ k. g (suc k)) n))) 0)
    go true i = refl
    go false i = rw (up_to_front (λ k. h (g k)) (leading (λ x. not (e x)) (up_to (λ k. g (suc k)) n)), i)

-- a shorter window of rows that a window holds holds them all
held_less : (w : Window) (rows n : ℕ) → n ≤ held_of w rows → held_of (record { first = w.first; count = n }) rows ≡ n
unfolding held_of
held_less w rows n h = go (leb (w.first + w.count) rows) refl h
  where
    go : (b : Bool) → leb (w.first + w.count) rows ≡ b → n ≤ pick b w.count 0 → pick (leb (w.first + n) rows) n 0 ≡ n
    go true e h = let l : w.first + w.count ≤ rows = leb-true (w.first + w.count) rows e in rw (le-leb (w.first + n) rows (omega arith))
    go false e h = let z : n ≡ 0 = omega arith in rw z (pick_same (leb (w.first + 0) rows) 0)

pub left_most : (views : List ℕ) (l0 : Window) (c : TreeRow) → left_of views l0 c ≤ held_of l0 (length views / 16)
unfolding left_of
left_most views l0 c = rw (up_to_length (λ k. view_at views (l0.first + k)) (held_of l0 (length views / 16))) at (leading_most (λ v. not (absorbed_row c v)) (view_rows views l0))

pub l0_merged : (runs views pool : List ℕ) (w c : TreeRow)
    → views_in views pool (record { first = w.l0.first; count = left_of views w.l0 c }) ≡ until (absorbed (tree_in runs views pool c)) (views_in views pool w.l0)
unfolding tree_in views_in view_in left_of
l0_merged runs views pool w c =
    rw (held_less w.l0 (length views / 16) (left_of views w.l0 c) (left_most views w.l0 c))
    (sym (until_up_to (absorbed (tree_in runs views pool c)) (absorbed_row c) (view_in pool) (λ v. refl) (λ k. view_at views (w.l0.first + k)) (held_of w.l0 (length views / 16))))

-- THE TREE MERGE: the row that the code makes stands for the writer's tree merged with the compactor's
pub tree_merged : (runs views pool : List ℕ) (w c : TreeRow) → tree_in runs views pool (merged_tree views w c) ≡ tree_merge (tree_in runs views pool w) (tree_in runs views pool c)
unfolding tree_in merged_tree tree_merge
tree_merged runs views pool w c = rw (l0_merged runs views pool w c)
