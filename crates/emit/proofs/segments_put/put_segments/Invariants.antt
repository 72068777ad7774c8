use Prim.Native.Nat.{◌+◌}
use Rattle.records.specs.Row.{segment_at}
use Rattle.records.specs.Decode.{segment_in}
use Rattle.records.specs.Fill.{segment_fill}
use Rattle.emit.proofs.Laid.{Walk, Grown}
use Rattle.records.proofs.Columns.{segment_rows, segment_runs, segment_views, segment_pool}
use Rattle.emit.proofs.segments_put.put_segments.Given as goal

abbrev pub invariant-loop-k : goal.invariant-loop-k
invariant-loop-k l = Walk segment_fill (λ i. segment_in l.runs l.views l.pool (segment_at l.segments (l.first + i))) l.n l.initial.to l.to l.k
    × Grown segment_rows (λ i. segment_in l.runs l.views l.pool (segment_at l.segments (l.first + i))) l.n l.initial.to l.initial.out_segments l.out_segments l.k
    × Grown segment_runs (λ i. segment_in l.runs l.views l.pool (segment_at l.segments (l.first + i))) l.n l.initial.to l.initial.out_runs l.out_runs l.k
    × Grown segment_views (λ i. segment_in l.runs l.views l.pool (segment_at l.segments (l.first + i))) l.n l.initial.to l.initial.out_views l.out_views l.k
    × Grown segment_pool (λ i. segment_in l.runs l.views l.pool (segment_at l.segments (l.first + i))) l.n l.initial.to l.initial.out_pool l.out_pool l.k
