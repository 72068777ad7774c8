-- What becomes of a tree and of a segment, by the tests that the code makes. Assumes nothing.
use Rattle.std.specs.Option.{is_some}
use Rattle.std.specs.Prelude.{None, Option, Some}
use Prim.Native.Nat.{ℕ, zero, suc, ◌+◌}
use mathlib.Core.Path.{◌≡◌, refl, sym, ap, ◌∙◌}
use mathlib.Core.Bool.{Bool, true, false, not, ◌&&◌}
use mathlib.Core.List.{List, [], ◌∷◌, ◌++◌}
use native.Mathlib.Omega.{arith}
use lib.Dec.{leb}
use lib.ListN.{length}
use Rattle.keys.specs.Pick.{pick}
use Rattle.keys.specs.Pool.{part_of}
use Rattle.keys.proofs.Says.{true_says, false_says}
use Rattle.tables.specs.Layout.{up_to}
use Rattle.tables.proofs.Holds.{pick_same, up_to_front}
use Rattle.records.specs.Model.{View, Run, Tree, Segment}
use Rattle.records.specs.Fill.{empty, plus, sum, fits, view_fill, run_fill, tree_fill}
use Rattle.records.specs.declared.Fill.{Fill}
use Rattle.measure.specs.Walk.{add_of}
use Rattle.measure.proofs.Fits.{says_fits}
use Rattle.merge.specs.Tree.{no_views, no_runs, is_empty}
use Rattle.project_views.specs.Shown.{tree_shown}
use Rattle.project_views.proofs.Many.{all, all_front}
use Rattle.project_ranges.specs.Config.{Config}
use Rattle.project_ranges.specs.Action.{Action, drop, project, pass}
use Rattle.project_lay.specs.After.{segment_after, segments_after}
use Rattle.project_lay.specs.Steps.{stays_by, kept_as, piece_at}

-- ---- a tree is empty exactly where it fills nothing

empty_fills : (vs : List View) (rs : List Run) → (no_views vs && no_runs rs) ≡ fits (plus empty (plus (sum view_fill vs) (sum run_fill rs))) empty
unfolding view_fill run_fill
empty_fills [] [] =
    sym (true_says (says_fits (plus empty (plus empty empty)) empty) (record { segments = omega arith; views = omega arith; runs = omega arith; borrows = omega arith; ids = omega arith; bytes = omega arith }))
empty_fills [] (r ∷ rs) = sym (false_says (says_fits (plus empty (plus empty (sum run_fill (r ∷ rs)))) empty) (λ u. omega (arith, u.runs)))
empty_fills (v ∷ vs) rs = sym (false_says (says_fits (plus empty (plus (sum view_fill (v ∷ vs)) (sum run_fill rs))) empty) (λ u. omega (arith, u.views)))

empty_is : (t : Tree) → is_empty t ≡ fits (plus empty (tree_fill t)) empty
unfolding is_empty tree_fill
empty_is t = empty_fills t.l0 t.runs

module _ (t : Tree) (u : Option Fill) (e : u ≡ add_of empty empty (tree_fill t)) where
  pub left_some : u ≡ None → true ≡ not (is_empty t)
  unfolding add_of
  left_some h = rw (empty_is t) (go (fits (plus empty (tree_fill t)) empty) (sym h ∙ e))
    where
      go : (b : Bool) → None ≡ pick b (Some (plus empty (tree_fill t))) None → true ≡ not b
      go true k = let z : ◌≡◌ {A = ℕ} 0 1 = cc in absurd (omega arith)
      go false k = refl

  pub left_none : (d : Fill) → u ≡ Some d → false ≡ not (is_empty t)
  unfolding add_of
  left_none d h = rw (empty_is t) (go (fits (plus empty (tree_fill t)) empty) (sym h ∙ e))
    where
      go : (b : Bool) → Some d ≡ pick b (Some (plus empty (tree_fill t))) None → false ≡ not b
      go true k = refl
      go false k = let z : ◌≡◌ {A = ℕ} 0 1 = cc in absurd (omega arith)

-- ---- a segment stays, or nothing is left of it

pub after_is : (a : Action) (s : Segment) → segment_after a s ≡ pick (stays_by a s.tree) (kept_as a s ∷ []) []
after_is drop s = refl
after_is (project r) s = go (is_empty (tree_shown r s.tree))
  where
    go : (b : Bool) → pick b [] (kept_as (project r) s ∷ []) ≡ pick (not b) (kept_as (project r) s ∷ []) []
    go true = refl
    go false = refl
after_is pass s = refl

module _ (a : Action) (s : Segment) (b : Bool) (e : b ≡ stays_by a s.tree) where
  pub after_gone : b ≡ false → segment_after a s ≡ []
  after_gone h = after_is a s ∙ rw (sym e ∙ h)

  pub after_kept : b ≡ true → segment_after a s ≡ kept_as a s ∷ []
  after_kept h = after_is a s ∙ rw (sym e ∙ h)

-- ---- the segments, piece by piece

pub pieces_after : (c : Config) (place : ℕ) (f : ℕ → Segment) (n : ℕ) → segments_after c place (up_to f n) ≡ all (up_to (λ k. piece_at c (place + k) (f k)) n)
unfolding segments_after
pieces_after c place f zero = refl
pieces_after c place f (suc n) =
    rw (up_to_front f n, all_front (λ k. piece_at c (place + k) (f k)) (λ k. piece_at c (suc place + k) (f (suc k))) (λ k. ap (λ (i : ℕ). piece_at c i (f (suc k))) (next k)) n, pieces_after c (suc place) (λ k. f (suc k)) n)
    (ap (λ (i : ℕ). piece_at c i (f 0) ++ all (up_to (λ k. piece_at c (suc place + k) (f (suc k))) n)) first)
  where
    first : place ≡ place + 0
    first = omega arith

    next : (k : ℕ) → place + suc k ≡ suc place + k
    next k = omega arith

-- the empty prefix
pub no_prefix : (pool : List ℕ) → part_of pool 0 0 ≡ []
unfolding part_of
no_prefix pool = pick_same (leb (0 + 0) (length pool)) []

pub left_is : (t : Tree) (u : Option Fill) (r : Bool) → u ≡ add_of empty empty (tree_fill t) → is_some u ≡ not r → r ≡ not (is_empty t)
left_is t None true e h = left_some t None e refl
left_is t None false e h = let z : ◌≡◌ {A = ℕ} 0 1 = cc in absurd (omega arith)
left_is t (Some d) true e h = let z : ◌≡◌ {A = ℕ} 0 1 = cc in absurd (omega arith)
left_is t (Some d) false e h = left_none t (Some d) e d refl
