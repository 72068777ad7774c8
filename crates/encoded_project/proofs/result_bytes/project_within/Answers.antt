use Prim.Native.Nat.{ℕ, ◌*◌, ◌/◌}
use mathlib.Core.Path.{sym, ap, ◌∙◌}
use native.Mathlib.Omega.{arith}
use lib.ListN.{length, take}
use lib.Seq.{length-take-le}
use Rattle.manifest_rows.specs.Stored.{lent}
use Rattle.encoded_project.proofs.Rooms.{least_under, part_projected, count_under}
use Rattle.encoded_project.proofs.result_bytes.project_within.Goals as goal

pub overflow_mul-k : goal.overflow_mul-k
overflow_mul-k c = omega (arith, c.well_formed.1.1.1.1.1.1.1.1.1.0.0, count_under (length c.args.own.now / 6) c.args.m.segments.count c.count_own-k.result c.count_own-k.ensures)

pub overflow_mul-a : goal.overflow_mul-a
overflow_mul-a c = omega (arith, c.well_formed.1.1.1.1.1.1.1.1.1.1.1.1.0.0, c.requires.segments_in_bounds.0, least_under c.args.lim.fill.segments c.args.room.segments c.least-a.result c.least-a.ensures)

pub overflow_mul-b : goal.overflow_mul-b
overflow_mul-b c = omega (arith, c.well_formed.1.1.1.1.1.1.1.1.1.1.1.1.1.0.0, c.requires.segments_in_bounds.1, least_under c.args.lim.fill.views c.args.room.views c.least-b.result c.least-b.ensures)

pub overflow_mul-d : goal.overflow_mul-d
overflow_mul-d c = omega (arith, c.well_formed.1.1.1.1.1.1.1.1.1.1.1.1.1.1.0.0, c.requires.segments_in_bounds.2, least_under c.args.lim.fill.runs c.args.room.runs c.least-d.result c.least-d.ensures)

pub overflow_mul-e : goal.overflow_mul-e
overflow_mul-e c = omega (arith, c.well_formed.1.1.1.1.1.1.1.1.1.1.1.1.1.1.1.0.0, c.requires.segments_in_bounds.3, least_under c.args.lim.fill.borrows c.args.room.borrows c.least-e.result c.least-e.ensures)

pub overflow_mul-f : goal.overflow_mul-f
overflow_mul-f c = omega (arith, c.well_formed.1.1.1.1.1.1.1.1.1.1.1.1.1.1.1.1.0.0, c.requires.segments_in_bounds.4, least_under c.args.lim.fill.ids c.args.room.ids c.least-f.result c.least-f.ensures)

pub slice_bounds-project_into-end : goal.slice_bounds-project_into-end
slice_bounds-project_into-end c = sym (length-take-le _ _ (omega (arith, count_under (length c.args.own.now / 6) c.args.m.segments.count c.count_own-k.result c.count_own-k.ensures)))

pub slice_bounds-project_into-end-2 : goal.slice_bounds-project_into-end-2
slice_bounds-project_into-end-2 c = omega (arith, c.requires.segments_in_bounds.0, least_under c.args.lim.fill.segments c.args.room.segments c.least-a.result c.least-a.ensures)

pub slice_bounds-project_into-end-3 : goal.slice_bounds-project_into-end-3
slice_bounds-project_into-end-3 c = sym (length-take-le _ _ (omega (arith, c.requires.segments_in_bounds.0, least_under c.args.lim.fill.segments c.args.room.segments c.least-a.result c.least-a.ensures)))

pub slice_bounds-project_into-end-4 : goal.slice_bounds-project_into-end-4
slice_bounds-project_into-end-4 c = omega (arith, c.requires.segments_in_bounds.1, least_under c.args.lim.fill.views c.args.room.views c.least-b.result c.least-b.ensures)

pub slice_bounds-project_into-end-5 : goal.slice_bounds-project_into-end-5
slice_bounds-project_into-end-5 c = sym (length-take-le _ _ (omega (arith, c.requires.segments_in_bounds.1, least_under c.args.lim.fill.views c.args.room.views c.least-b.result c.least-b.ensures)))

pub slice_bounds-project_into-end-6 : goal.slice_bounds-project_into-end-6
slice_bounds-project_into-end-6 c = omega (arith, c.requires.segments_in_bounds.2, least_under c.args.lim.fill.runs c.args.room.runs c.least-d.result c.least-d.ensures)

pub slice_bounds-project_into-end-7 : goal.slice_bounds-project_into-end-7
slice_bounds-project_into-end-7 c = sym (length-take-le _ _ (omega (arith, c.requires.segments_in_bounds.2, least_under c.args.lim.fill.runs c.args.room.runs c.least-d.result c.least-d.ensures)))

pub slice_bounds-project_into-end-8 : goal.slice_bounds-project_into-end-8
slice_bounds-project_into-end-8 c = omega (arith, c.requires.segments_in_bounds.3, least_under c.args.lim.fill.borrows c.args.room.borrows c.least-e.result c.least-e.ensures)

pub slice_bounds-project_into-end-9 : goal.slice_bounds-project_into-end-9
slice_bounds-project_into-end-9 c = sym (length-take-le _ _ (omega (arith, c.requires.segments_in_bounds.3, least_under c.args.lim.fill.borrows c.args.room.borrows c.least-e.result c.least-e.ensures)))

pub slice_bounds-project_into-end-10 : goal.slice_bounds-project_into-end-10
slice_bounds-project_into-end-10 c = omega (arith, c.requires.segments_in_bounds.4, least_under c.args.lim.fill.ids c.args.room.ids c.least-f.result c.least-f.ensures)

pub slice_bounds-project_into-end-11 : goal.slice_bounds-project_into-end-11
slice_bounds-project_into-end-11 c = sym (length-take-le _ _ (omega (arith, c.requires.segments_in_bounds.4, least_under c.args.lim.fill.ids c.args.room.ids c.least-f.result c.least-f.ensures)))

pub slice_bounds-project_into-end-12 : goal.slice_bounds-project_into-end-12
slice_bounds-project_into-end-12 c = omega (arith, c.requires.segments_in_bounds.5, least_under c.args.lim.fill.bytes c.args.room.bytes c.least-g.result c.least-g.ensures)

pub slice_bounds-project_into-end-13 : goal.slice_bounds-project_into-end-13
slice_bounds-project_into-end-13 c = sym (length-take-le _ _ (omega (arith, c.requires.segments_in_bounds.5, least_under c.args.lim.fill.bytes c.args.room.bytes c.least-g.result c.least-g.ensures)))

pub project_into-requires : goal.project_into-requires
project_into-requires c = record { m_value = c.requires.m_value; views_in_bounds = c.requires.views_in_bounds }

pub shape_of-segments : goal.shape_of-segments
shape_of-segments c = c.segments-1.given.1

pub shape_of-views : goal.shape_of-views
shape_of-views c = c.views-1.given.1

pub shape_of-runs : goal.shape_of-runs
shape_of-runs c = c.runs-1.given.1

pub shape_of-borrows : goal.shape_of-borrows
shape_of-borrows c = c.borrows-1.given.1

pub shape_of-ids : goal.shape_of-ids
shape_of-ids c = c.ids-1.given.1

pub shape_of-pool : goal.shape_of-pool
shape_of-pool c = c.pool-1.given.1

pub returns : goal.returns
returns c = rw (← c.count_own-k.ensures) (c.project_into.ensures ∙ part_projected _ _ (lent (take (c.least-a.result * 12) c.args.segments.now) (take (c.least-b.result * 16) c.args.views.now) (take (c.least-d.result * 3) c.args.runs.now) (take (c.least-e.result * 9) c.args.borrows.now) (take (c.least-f.result * 2) c.args.ids.now) (take c.least-g.result c.args.pool.now)) (length-take-le _ _ (omega (arith, c.requires.segments_in_bounds.0, least_under c.args.lim.fill.segments c.args.room.segments c.least-a.result c.least-a.ensures)) ∙ ap (λ (x : ℕ). x * 12) c.least-a.ensures) (length-take-le _ _ (omega (arith, c.requires.segments_in_bounds.1, least_under c.args.lim.fill.views c.args.room.views c.least-b.result c.least-b.ensures)) ∙ ap (λ (x : ℕ). x * 16) c.least-b.ensures) (length-take-le _ _ (omega (arith, c.requires.segments_in_bounds.2, least_under c.args.lim.fill.runs c.args.room.runs c.least-d.result c.least-d.ensures)) ∙ ap (λ (x : ℕ). x * 3) c.least-d.ensures) (length-take-le _ _ (omega (arith, c.requires.segments_in_bounds.3, least_under c.args.lim.fill.borrows c.args.room.borrows c.least-e.result c.least-e.ensures)) ∙ ap (λ (x : ℕ). x * 9) c.least-e.ensures) (length-take-le _ _ (omega (arith, c.requires.segments_in_bounds.4, least_under c.args.lim.fill.ids c.args.room.ids c.least-f.result c.least-f.ensures)) ∙ ap (λ (x : ℕ). x * 2) c.least-f.ensures) (length-take-le _ _ (omega (arith, c.requires.segments_in_bounds.5, least_under c.args.lim.fill.bytes c.args.room.bytes c.least-g.result c.least-g.ensures)) ∙ c.least-g.ensures) _ _ _)
