use Prim.Native.Nat.{◌+◌}
use Rattle.records.specs.Row.{view_at}
use Rattle.records.specs.Decode.{view_in}
use Rattle.records.specs.Fill.{view_fill}
use Rattle.emit.proofs.Laid.{Walk, Grown}
use Rattle.records.proofs.Columns.{view_rows, view_pool}
use Rattle.emit.proofs.views_put.put_views.Given as goal

abbrev pub invariant-loop-k : goal.invariant-loop-k
invariant-loop-k l = Walk view_fill (λ i. view_in l.pool (view_at l.views (l.first + i))) l.n l.initial.to l.to l.k
    × Grown view_rows (λ i. view_in l.pool (view_at l.views (l.first + i))) l.n l.initial.to l.initial.out_views l.out_views l.k
    × Grown view_pool (λ i. view_in l.pool (view_at l.views (l.first + i))) l.n l.initial.to l.initial.out_pool l.out_pool l.k
