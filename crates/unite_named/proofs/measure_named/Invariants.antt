use mathlib.Core.Path.{◌≡◌}
use lib.ListN.{length}
use Rattle.records.specs.Fill.{sum, segment_fill}
use Rattle.project_views.proofs.Summed.{Summed}
use Rattle.unite_named.specs.Steps.{piece_in}
use Rattle.unite_named.proofs.measure_named.Given as goal

abbrev pub invariant-loop-k : goal.invariant-loop-k
invariant-loop-k l = Summed l.most (sum segment_fill) (piece_in l.segments l.views l.runs l.pool l.sources l.order l.n l.prefixes) l.np l.initial.d l.d l.k × (length l.shares ≡ length l.initial.shares)
