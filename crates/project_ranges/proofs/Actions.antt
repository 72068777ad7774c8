-- What becomes of a tree. Assumes nothing.
use Rattle.std.specs.Prelude.{None, Option, Some}
use Prim.Native.Nat.{ℕ, ◌/◌}
use mathlib.Core.Path.{◌≡◌, refl, sym, ap, ◌∙◌}
use mathlib.Core.Bool.{Bool, true, false}
use mathlib.Core.List.{List}
use lib.ListN.{length}
use Rattle.keys.specs.Pick.{pick}
use Rattle.keys.specs.Range.{Edges}
use Rattle.keys.specs.Meet.{meet_of}
use Rattle.keys.specs.Pool.{edges_of}
use Rattle.keys.specs.declared.Range.{Range}
use Rattle.tables.specs.Layout.{up_to}
use Rattle.records.specs.Decode.{bytes_in}
use Rattle.records.specs.declared.Place.{Place}
use Rattle.project_views.specs.Reach.{reach_of}
use Rattle.project_views.specs.Shown.{holds_none}
use Rattle.project_views.specs.declared.Until.{Until}
use Rattle.project_views.specs.declared.Until.TheVariants.{Unbounded}
use Rattle.project_views.specs.declared.Reach.{Reach}
use Rattle.project_views.proofs.Ends.{edges_same, meet_comm}
use Rattle.project_ranges.specs.Config.{Asked, asked, Own, table, own_range, passes}
use Rattle.project_ranges.specs.Own.{resolved}
use Rattle.project_ranges.specs.Action.{Action, project, unless_empty, combined, action_of}
use Rattle.project_ranges.specs.Args.{asked_in, own_row, config_in, action_in}
use Rattle.project_ranges.specs.Steps.{end_or, resolved_row, own_at, met_with, sole_row}
use Rattle.project_ranges.specs.declared.ProjectionConfig.{ProjectionConfig}
use Rattle.project_ranges.specs.declared.SegmentAction.{SegmentAction}
use Rattle.project_ranges.specs.declared.SegmentAction.TheVariants.{Drop, Project}
use Rattle.project_ranges.proofs.Rows.{own_is}
use Rattle.project_ranges.proofs.Contains.{resolved_is, end_kept}

module _ (pool : List ℕ) (q : Reach) (g : Option Range) where
  pub met_unset : g ≡ None → action_in pool (Project q) ≡ met_with (reach_of pool q) (asked_in pool g)
  met_unset e = rw e

  module _ (a : Range) (m : Reach) (b : Bool) (e : g ≡ Some a) (h : reach_of pool m ≡ meet_of (edges_of pool a) (reach_of pool q))
      (f : b ≡ holds_none (reach_of pool m)) where
    met_is : met_with (reach_of pool q) (asked_in pool g) ≡ pick b Action.drop (project (reach_of pool m))
    met_is =
        rw e
        (ap unless_empty (meet_comm (reach_of pool q) (edges_of pool a) ∙ sym h)
        ∙ ap (λ (z : Bool). pick z Action.drop (project (reach_of pool m))) (sym f))

    pub met_empty : b ≡ true → action_in pool Drop ≡ met_with (reach_of pool q) (asked_in pool g)
    met_empty t = sym (met_is ∙ rw t)

    pub met_left : b ≡ false → action_in pool (Project m) ≡ met_with (reach_of pool q) (asked_in pool g)
    met_left t = sym (met_is ∙ rw t)

pub ruleset mets = (met_unset, met_empty, met_left)

pub sole_set : (g : Option Range) (a : Range) (u : Until) → g ≡ Some a → u ≡ end_or a.end Unbounded
    → Project (record { start = a.start; end = u }) ≡ sole_row g
sole_set g a u e h = rw (e, h)

sole_is : (pool : List ℕ) (g : Option Range) (place : ℕ) (p : List ℕ) → action_in pool (sole_row g) ≡ combined Own.unset (asked_in pool g) place p
sole_is pool None place p = refl
sole_is pool (Some r) place p = ap project (edges_same {b = edges_of pool r} refl (end_kept pool r.end))

combined_is : (rs : List Edges) (g : Asked) (place : ℕ) (p : List ℕ) → met_with (resolved p (own_range rs place)) g ≡ combined (table rs) g place p
combined_is rs Asked.unset place p = refl
combined_is rs (asked g) place p = refl

module _ (pool own : List ℕ) (p : Place) (place : ℕ) (c : ProjectionConfig) (b : Bool) (h : b ≡ passes c.segment_filter place) where
  pub act_out : b ≡ false → action_in pool Drop ≡ action_of (config_in pool c own) place (bytes_in pool p)
  unfolding action_of config_in
  act_out t = rw (sym h ∙ t)

  pub act_own : (r : Range) (q : Reach) (x : SegmentAction) → b ≡ true → c.segment_projection ≡ true → r ≡ own_at own place → q ≡ resolved_row p r
      → action_in pool x ≡ met_with (reach_of pool q) (asked_in pool c.global_range) → action_in pool x ≡ action_of (config_in pool c own) place (bytes_in pool p)
  unfolding action_of config_in
  act_own r q x t f e d g =
      let y : edges_of pool r ≡ own_range (up_to (λ i. edges_of pool (own_row own i)) (length own / 6)) place = ap (edges_of pool) e ∙ own_is own place pool in
      let z = ap (reach_of pool) d ∙ resolved_is pool p r ∙ ap (resolved (bytes_in pool p)) y in
      rw (sym h ∙ t, f)
      (g ∙ ap (λ (x : Edges). met_with x (asked_in pool c.global_range)) z
      ∙ combined_is (up_to (λ i. edges_of pool (own_row own i)) (length own / 6)) (asked_in pool c.global_range) place (bytes_in pool p))

  pub act_sole : (x : SegmentAction) → b ≡ true → c.segment_projection ≡ false → x ≡ sole_row c.global_range
      → action_in pool x ≡ action_of (config_in pool c own) place (bytes_in pool p)
  unfolding action_of config_in
  act_sole x t f e = rw (sym h ∙ t, f) (ap (action_in pool) e ∙ sole_is pool c.global_range place (bytes_in pool p))

pub ruleset acts = (act_out, act_own, act_sole)
