use Prim.Native.Nat.{ℕ, ◌*◌}
use mathlib.Core.Path.{sym, ap, ◌∙◌}
use native.Mathlib.Omega.{arith}
use lib.ListN.{take}
use lib.Seq.{length-take-le}
use Rattle.manifest_rows.specs.Stored.{lent}
use Rattle.encoded_united.proofs.Uniting.{least_under, part_united}
use Rattle.encoded_united.proofs.union_within.Goals as goal

pub overflow_mul-a : goal.overflow_mul-a
overflow_mul-a c = omega (arith, c.well_formed.1.1.1.1.1.1.1.1.1.1.1.1.1.0.0, c.requires.segments_in_bounds.0, least_under c.args.lim.fill.segments c.args.room.segments c.least-a.result c.least-a.ensures)

pub overflow_mul-b : goal.overflow_mul-b
overflow_mul-b c = omega (arith, c.well_formed.1.1.1.1.1.1.1.1.1.1.1.1.1.1.0.0, c.requires.segments_in_bounds.1, least_under c.args.lim.fill.views c.args.room.views c.least-b.result c.least-b.ensures)

pub overflow_mul-d : goal.overflow_mul-d
overflow_mul-d c = omega (arith, c.well_formed.1.1.1.1.1.1.1.1.1.1.1.1.1.1.1.0.0, c.requires.segments_in_bounds.2, least_under c.args.lim.fill.runs c.args.room.runs c.least-d.result c.least-d.ensures)

pub overflow_mul-e : goal.overflow_mul-e
overflow_mul-e c = omega (arith, c.well_formed.1.1.1.1.1.1.1.1.1.1.1.1.1.1.1.1.0.0, c.requires.segments_in_bounds.3, least_under c.args.lim.fill.borrows c.args.room.borrows c.least-e.result c.least-e.ensures)

pub overflow_mul-f : goal.overflow_mul-f
overflow_mul-f c = omega (arith, c.well_formed.1.1.1.1.1.1.1.1.1.1.1.1.1.1.1.1.1.0.0, c.requires.segments_in_bounds.4, least_under c.args.lim.fill.ids c.args.room.ids c.least-f.result c.least-f.ensures)

pub slice_bounds-union_into-end : goal.slice_bounds-union_into-end
slice_bounds-union_into-end c = omega (arith, c.requires.segments_in_bounds.0, least_under c.args.lim.fill.segments c.args.room.segments c.least-a.result c.least-a.ensures)

pub slice_bounds-union_into-end-2 : goal.slice_bounds-union_into-end-2
slice_bounds-union_into-end-2 c = sym (length-take-le _ _ (omega (arith, c.requires.segments_in_bounds.0, least_under c.args.lim.fill.segments c.args.room.segments c.least-a.result c.least-a.ensures)))

pub slice_bounds-union_into-end-3 : goal.slice_bounds-union_into-end-3
slice_bounds-union_into-end-3 c = omega (arith, c.requires.segments_in_bounds.1, least_under c.args.lim.fill.views c.args.room.views c.least-b.result c.least-b.ensures)

pub slice_bounds-union_into-end-4 : goal.slice_bounds-union_into-end-4
slice_bounds-union_into-end-4 c = sym (length-take-le _ _ (omega (arith, c.requires.segments_in_bounds.1, least_under c.args.lim.fill.views c.args.room.views c.least-b.result c.least-b.ensures)))

pub slice_bounds-union_into-end-5 : goal.slice_bounds-union_into-end-5
slice_bounds-union_into-end-5 c = omega (arith, c.requires.segments_in_bounds.2, least_under c.args.lim.fill.runs c.args.room.runs c.least-d.result c.least-d.ensures)

pub slice_bounds-union_into-end-6 : goal.slice_bounds-union_into-end-6
slice_bounds-union_into-end-6 c = sym (length-take-le _ _ (omega (arith, c.requires.segments_in_bounds.2, least_under c.args.lim.fill.runs c.args.room.runs c.least-d.result c.least-d.ensures)))

pub slice_bounds-union_into-end-7 : goal.slice_bounds-union_into-end-7
slice_bounds-union_into-end-7 c = omega (arith, c.requires.segments_in_bounds.3, least_under c.args.lim.fill.borrows c.args.room.borrows c.least-e.result c.least-e.ensures)

pub slice_bounds-union_into-end-8 : goal.slice_bounds-union_into-end-8
slice_bounds-union_into-end-8 c = sym (length-take-le _ _ (omega (arith, c.requires.segments_in_bounds.3, least_under c.args.lim.fill.borrows c.args.room.borrows c.least-e.result c.least-e.ensures)))

pub slice_bounds-union_into-end-9 : goal.slice_bounds-union_into-end-9
slice_bounds-union_into-end-9 c = omega (arith, c.requires.segments_in_bounds.4, least_under c.args.lim.fill.ids c.args.room.ids c.least-f.result c.least-f.ensures)

pub slice_bounds-union_into-end-10 : goal.slice_bounds-union_into-end-10
slice_bounds-union_into-end-10 c = sym (length-take-le _ _ (omega (arith, c.requires.segments_in_bounds.4, least_under c.args.lim.fill.ids c.args.room.ids c.least-f.result c.least-f.ensures)))

pub slice_bounds-union_into-end-11 : goal.slice_bounds-union_into-end-11
slice_bounds-union_into-end-11 c = omega (arith, c.requires.segments_in_bounds.5, least_under c.args.lim.fill.bytes c.args.room.bytes c.least-g.result c.least-g.ensures)

pub slice_bounds-union_into-end-12 : goal.slice_bounds-union_into-end-12
slice_bounds-union_into-end-12 c = sym (length-take-le _ _ (omega (arith, c.requires.segments_in_bounds.5, least_under c.args.lim.fill.bytes c.args.room.bytes c.least-g.result c.least-g.ensures)))

pub union_into-requires : goal.union_into-requires
union_into-requires c = record { n_le_most_sources = c.requires.n_le_most_sources; lent_fresh_value = c.requires.lent_fresh_value }

pub shape_of-to_segments : goal.shape_of-to_segments
shape_of-to_segments c = c.to_segments-1.given.1

pub shape_of-to_views : goal.shape_of-to_views
shape_of-to_views c = c.to_views-1.given.1

pub shape_of-to_runs : goal.shape_of-to_runs
shape_of-to_runs c = c.to_runs-1.given.1

pub shape_of-to_borrows : goal.shape_of-to_borrows
shape_of-to_borrows c = c.to_borrows-1.given.1

pub shape_of-to_ids : goal.shape_of-to_ids
shape_of-to_ids c = c.to_ids-1.given.1

pub shape_of-to_pool : goal.shape_of-to_pool
shape_of-to_pool c = c.to_pool-1.given.1

pub returns : goal.returns
returns c = c.union_into.ensures ∙ part_united _ _ (lent (take (c.least-a.result * 12) c.args.to_segments.now) (take (c.least-b.result * 16) c.args.to_views.now) (take (c.least-d.result * 3) c.args.to_runs.now) (take (c.least-e.result * 9) c.args.to_borrows.now) (take (c.least-f.result * 2) c.args.to_ids.now) (take c.least-g.result c.args.to_pool.now)) (length-take-le _ _ (omega (arith, c.requires.segments_in_bounds.0, least_under c.args.lim.fill.segments c.args.room.segments c.least-a.result c.least-a.ensures)) ∙ ap (λ (x : ℕ). x * 12) c.least-a.ensures) (length-take-le _ _ (omega (arith, c.requires.segments_in_bounds.1, least_under c.args.lim.fill.views c.args.room.views c.least-b.result c.least-b.ensures)) ∙ ap (λ (x : ℕ). x * 16) c.least-b.ensures) (length-take-le _ _ (omega (arith, c.requires.segments_in_bounds.2, least_under c.args.lim.fill.runs c.args.room.runs c.least-d.result c.least-d.ensures)) ∙ ap (λ (x : ℕ). x * 3) c.least-d.ensures) (length-take-le _ _ (omega (arith, c.requires.segments_in_bounds.3, least_under c.args.lim.fill.borrows c.args.room.borrows c.least-e.result c.least-e.ensures)) ∙ ap (λ (x : ℕ). x * 9) c.least-e.ensures) (length-take-le _ _ (omega (arith, c.requires.segments_in_bounds.4, least_under c.args.lim.fill.ids c.args.room.ids c.least-f.result c.least-f.ensures)) ∙ ap (λ (x : ℕ). x * 2) c.least-f.ensures) (length-take-le _ _ (omega (arith, c.requires.segments_in_bounds.5, least_under c.args.lim.fill.bytes c.args.room.bytes c.least-g.result c.least-g.ensures)) ∙ c.least-g.ensures) _ _ _
