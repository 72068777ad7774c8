use Prim.Native.Nat.{ℕ, ◌*◌}
use mathlib.Core.Path.{sym, ap, ◌∙◌}
use native.Mathlib.Omega.{arith}
use lib.ListN.{take}
use lib.Seq.{length-take-le}
use Rattle.encoded_merge.proofs.Giving.{part_merged}
use borrow.Author.Rules.{rules}
use Rattle.encoded_merge.proofs.list_merged.merge_within.Goals as goal

pub overflow_mul-a : goal.overflow_mul-a
overflow_mul-a c = omega (arith, c.requires.segments_in_bounds.0, c.well_formed.1.1.1.1.1.1.0.0, c.least-a.ensures)

pub overflow_mul-b : goal.overflow_mul-b
overflow_mul-b c = omega (arith, c.requires.segments_in_bounds.1, c.well_formed.1.1.1.1.1.1.1.0.0, c.least-b.ensures)

pub overflow_mul-c : goal.overflow_mul-c
overflow_mul-c c = omega (arith, c.requires.segments_in_bounds.2, c.well_formed.1.1.1.1.1.1.1.1.0.0, c.least-c.ensures)

pub slice_bounds-merge_into-end : goal.slice_bounds-merge_into-end
slice_bounds-merge_into-end c = omega (arith, c.requires.segments_in_bounds.0, c.least-a.ensures)

pub slice_bounds-merge_into-end-2 : goal.slice_bounds-merge_into-end-2
slice_bounds-merge_into-end-2 c = sym (length-take-le _ _ (omega (arith, c.requires.segments_in_bounds.0, c.least-a.ensures)))

pub slice_bounds-merge_into-end-3 : goal.slice_bounds-merge_into-end-3
slice_bounds-merge_into-end-3 c = omega (arith, c.requires.segments_in_bounds.1, c.least-b.ensures)

pub slice_bounds-merge_into-end-4 : goal.slice_bounds-merge_into-end-4
slice_bounds-merge_into-end-4 c = sym (length-take-le _ _ (omega (arith, c.requires.segments_in_bounds.1, c.least-b.ensures)))

pub slice_bounds-merge_into-end-5 : goal.slice_bounds-merge_into-end-5
slice_bounds-merge_into-end-5 c = omega (arith, c.requires.segments_in_bounds.2, c.least-c.ensures)

pub slice_bounds-merge_into-end-6 : goal.slice_bounds-merge_into-end-6
slice_bounds-merge_into-end-6 c = sym (length-take-le _ _ (omega (arith, c.requires.segments_in_bounds.2, c.least-c.ensures)))

pub slice_bounds-merge_into-end-7 : goal.slice_bounds-merge_into-end-7
slice_bounds-merge_into-end-7 c = omega (arith, c.requires.segments_in_bounds.3, c.least-d.ensures)

pub slice_bounds-merge_into-end-8 : goal.slice_bounds-merge_into-end-8
slice_bounds-merge_into-end-8 c = sym (length-take-le _ _ (omega (arith, c.requires.segments_in_bounds.3, c.least-d.ensures)))

pub merge_into-requires : goal.merge_into-requires
merge_into-requires c = c.requires.writer_value

pub shape_of-out_segments : goal.shape_of-out_segments
shape_of-out_segments c = search (c.merge_into.auto, rules)

pub shape_of-out_views : goal.shape_of-out_views
shape_of-out_views c = search (c.merge_into.auto, rules)

pub shape_of-out_runs : goal.shape_of-out_runs
shape_of-out_runs c = search (c.merge_into.auto, rules)

pub shape_of-out_pool : goal.shape_of-out_pool
shape_of-out_pool c = search (c.merge_into.auto, rules)

pub returns : goal.returns
returns c = c.merge_into.ensures ∙ part_merged _ _ (record { segments = take (c.least-a.result * 12) c.args.out_segments.now; views = take (c.least-b.result * 16) c.args.out_views.now; runs = take (c.least-c.result * 3) c.args.out_runs.now; pool = take c.least-d.result c.args.out_pool.now }) (length-take-le _ _ (omega (arith, c.requires.segments_in_bounds.0, c.least-a.ensures)) ∙ ap (λ (x : ℕ). x * 12) c.least-a.ensures) (length-take-le _ _ (omega (arith, c.requires.segments_in_bounds.1, c.least-b.ensures)) ∙ ap (λ (x : ℕ). x * 16) c.least-b.ensures) (length-take-le _ _ (omega (arith, c.requires.segments_in_bounds.2, c.least-c.ensures)) ∙ ap (λ (x : ℕ). x * 3) c.least-c.ensures) (length-take-le _ _ (omega (arith, c.requires.segments_in_bounds.3, c.least-d.ensures)) ∙ c.least-d.ensures) _ _ _ _
