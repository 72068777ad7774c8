-- THE NEW MANIFEST IS LAWFUL, as a value of the model and as tables. Assumes nothing.
use Rattle.std.specs.Prelude.{Ok}
use mathlib.Core.Path.{◌≡◌, refl}
use mathlib.Core.Bool.{true}
use Rattle.tables.specs.Window.{held_of}
use Rattle.records.specs.Fill.{fits, tree_fill, manifest_fill}
use Rattle.records.specs.Decode.{views_in, runs_in, tree_in, segments_in, borrows_in, manifest_in}
use Rattle.records.specs.Layout.{tree_row, manifest_row, views_laid, runs_laid, runs_views_laid, tree_views_laid, tree_runs_laid, segments_laid, segments_views_laid, segments_runs_laid, borrows_laid, tree_bytes, layout}
use Rattle.records.specs.Limits.{limits01}
use Rattle.records.specs.New.{new_manifest}
use Rattle.measure.specs.Within.{all_views, all_runs, within}
use Rattle.measure.specs.Placed.{views_placed, runs_placed, tree_placed, segments_placed, borrows_placed, placed}
use Rattle.measure.specs.Measure.{l1_of}
use Rattle.lawful.specs.Law.{l2_of, l3_of, l4_of, l5_of}
use Rattle.lawful.specs.Judge.{judged_of}

pub new_within : within limits01 new_manifest ≡ true
unfolding within limits01 fits manifest_fill tree_fill all_views
new_within = refl

pub new_l2 : l2_of new_manifest ≡ true
unfolding l2_of
new_l2 = refl

pub new_l3 : l3_of new_manifest ≡ true
unfolding l3_of
new_l3 = refl

pub new_l4 : l4_of new_manifest ≡ true
unfolding l4_of all_views
new_l4 = refl

pub new_l5 : l5_of new_manifest ≡ true
unfolding l5_of all_runs
new_l5 = refl

pub new_lawful : judged_of limits01 (layout new_manifest) (manifest_row new_manifest) ≡ Ok tt
unfolding judged_of l1_of placed views_placed runs_placed tree_placed segments_placed borrows_placed held_of layout tree_row manifest_row views_laid runs_laid runs_views_laid tree_views_laid tree_runs_laid segments_laid segments_views_laid segments_runs_laid borrows_laid tree_bytes manifest_in tree_in views_in runs_in segments_in borrows_in within limits01 fits manifest_fill tree_fill all_views all_runs l2_of l3_of l4_of l5_of
new_lawful = refl
