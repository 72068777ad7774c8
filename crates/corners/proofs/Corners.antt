-- THE MARKED CORNERS hold.
use Rattle.std.specs.Prelude.{Err, Ok, Result}
use mathlib.Core.Path.{◌≡◌, refl, ap, ◌∙◌}
use Prim.Native.Nat.{ℕ}
use borrow.Author.Tests.{eq-eqb}
use mathlib.Core.Bool.{Bool, true, false, ◌||◌}
use mathlib.Core.List.{List, [], ◌∷◌}
use Rattle.keys.specs.Pick.{pick}
use Rattle.keys.specs.Key.{order_of}
use Rattle.keys.specs.Prefix.{begins_of, after}
use Rattle.keys.specs.Range.{Edge, Edges, empty_of}
use Rattle.keys.specs.Pool.{part_of}
use Rattle.ids.specs.Id.{same_sst_of}
use Rattle.ids.specs.declared.SstId.{SstId}
use Rattle.tables.specs.Window.{held_of}
use Rattle.records.specs.Model.{Manifest}
use Rattle.records.specs.New.{new_manifest}
use Rattle.records.specs.Row.{tree_at, segment_at}
use Rattle.records.specs.Words.{tree_words, segment_words}
use Rattle.records.specs.Fill.{fits, tree_fill, segment_fill, manifest_fill}
use Rattle.records.specs.Decode.{views_in, runs_in, tree_in, segment_in, segments_in, borrows_in, manifest_in}
use Rattle.records.specs.Layout.{tree_row, segment_row, manifest_row, views_laid, runs_laid, runs_views_laid, tree_views_laid, tree_runs_laid, segments_laid, segments_views_laid, segments_runs_laid, borrows_laid, tree_bytes, segment_bytes, layout}
use Rattle.records.specs.Limits.{limits01}
use Rattle.records.specs.declared.Refusal.TheVariants.{EmptyRange}
use Rattle.measure.specs.Within.{all_views, all_runs, within}
use Rattle.measure.specs.Placed.{views_placed, runs_placed, tree_placed, segment_placed, segments_placed, borrows_placed, placed}
use Rattle.measure.specs.Measure.{l1_of}
use Rattle.lawful.specs.Law.{l2_of, l3_of, l4_of, l5_of}
use Rattle.lawful.specs.Judge.{judged_of}
use Rattle.segments.specs.Prefixes.{prefixes}
use Rattle.segments.specs.Refuses.{refuses5}
use Rattle.segments.specs.Lookup.{index_of}
use Rattle.segments.specs.Place.{place_of, extended, begun}
use Rattle.segments.specs.Select.{first_of, past_of, chosen_of, selected_of, selected}
use Rattle.segments.specs.Insert.{new_segment, with_segments, inserted_of}
use Rattle.insert.specs.Insert.{insert_of}
use Rattle.merge.specs.Tree.{tree_merge}
use Rattle.corners.specs.Corners.{held, Selects, Corners}
use Rattle.segments.specs.declared.Selected.{Selected}
use Rattle.records.specs.declared.Refusal.{Refusal}

-- what is left of selection once its manifest is lawful and its bounds are within the limit
abbrev answered : Edges → Result Selected Refusal
answered r = pick (refuses5 r) (Err EmptyRange) (chosen_of r held)

selects : (s e : Edge) (x : List ℕ) → selected (answered (record { start = s; end = e })) ≡ x → Selects s e x
unfolding selected_of
selects s e x h l m args r lawful has fits is = rw (fits, lawful, has) (ap (λ (q : Edges). selected (answered q)) is ∙ h)

same_self : (x : SstId) → same_sst_of x x ≡ true
same_self x = rw (eq-eqb x.0 x.0 refl, eq-eqb x.1 x.1 refl)

or_true : (b : Bool) → (b || true) ≡ true
or_true true = refl
or_true false = refl

pub corners : Corners
unfolding order_of begins_of after empty_of limits01 index_of first_of past_of chosen_of place_of extended begun inserted_of insert_of tree_merge
corners =
    record {
      inside_one = selects _ _ _ refl;
      prefix_to_prefix = selects _ _ _ refl;
      between = selects _ _ _ refl;
      no_key = selects _ _ _ refl;
      longer = λ l m o lawful has. rw (lawful, has) (refl, refl);
      shorter = λ l m o lawful has. rw (lawful, has) (refl, refl);
      empty = λ l m o lawful has. rw (lawful, has) (refl, refl);
      both_marks = λ v1 v2 v3 other apart w c l i s. rw (l, i, s, other, apart, same_self v2.sst, or_true);
    }

-- There is such a manifest: the new one with these prefixes entered, in the canonical tables.
abbrev pub some_manifest : Manifest
some_manifest = with_segments new_manifest (new_segment (97 ∷ 47 ∷ []) ∷ new_segment (98 ∷ 47 ∷ []) ∷ new_segment (99 ∷ 47 ∷ []) ∷ [])

pub some_lawful : (judged_of limits01 (layout some_manifest) (manifest_row some_manifest) ≡ Ok tt) × (prefixes (manifest_in (layout some_manifest) (manifest_row some_manifest)).segments ≡ held)
unfolding judged_of l1_of placed views_placed runs_placed tree_placed segments_placed segment_placed borrows_placed held_of layout tree_row segment_row manifest_row views_laid runs_laid runs_views_laid tree_views_laid tree_runs_laid segments_laid segments_views_laid segments_runs_laid borrows_laid tree_bytes segment_bytes segment_words tree_words segment_at tree_at part_of manifest_in tree_in views_in runs_in segment_in segments_in borrows_in within limits01 fits manifest_fill tree_fill segment_fill all_views all_runs l2_of l3_of l4_of l5_of order_of begins_of
some_lawful = (refl, refl)
