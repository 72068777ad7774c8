use mathlib.Core.Path.{◌≡◌}
use lib.ListN.{length}
use Rattle.records.specs.Fill.{sum, segment_fill}
use Rattle.emit.proofs.Laid.{Walk, Grown}
use Rattle.unite_named.specs.Steps.{piece_in}
use Rattle.unite_named.proofs.Laying.{numbered_piece, piece_rows, piece_runs, piece_views, piece_pool}
use Rattle.unite_named.proofs.put_named.Given as goal

abbrev pub invariant-loop-k : goal.invariant-loop-k
invariant-loop-k l = Walk (sum segment_fill) (numbered_piece l.left (piece_in l.segments l.views l.runs l.pool l.sources l.order l.n l.prefixes)) l.np l.initial.to l.to l.k
    × Grown piece_rows (numbered_piece l.left (piece_in l.segments l.views l.runs l.pool l.sources l.order l.n l.prefixes)) l.np l.initial.to l.initial.out_segments l.out_segments l.k
    × Grown piece_runs (numbered_piece l.left (piece_in l.segments l.views l.runs l.pool l.sources l.order l.n l.prefixes)) l.np l.initial.to l.initial.out_runs l.out_runs l.k
    × Grown piece_views (numbered_piece l.left (piece_in l.segments l.views l.runs l.pool l.sources l.order l.n l.prefixes)) l.np l.initial.to l.initial.out_views l.out_views l.k
    × Grown piece_pool (numbered_piece l.left (piece_in l.segments l.views l.runs l.pool l.sources l.order l.n l.prefixes)) l.np l.initial.to l.initial.out_pool l.out_pool l.k
    × (length l.shares ≡ length l.initial.shares)
