use Rattle.manifest_values.specs.Read.{segment_at}
use Rattle.manifest_rows.specs.Stored.{SegmentStep, UnderThree, three}
use Rattle.manifest_rows.proofs.Turns.{Turn}
use Rattle.manifest_rows.proofs.fill_segments.Given as goal

abbrev pub invariant-loop-k : goal.invariant-loop-k
invariant-loop-k l = Turn (SegmentStep l.s) UnderThree (segment_at l.s) l.at l.n (three l.initial.segments 0 l.initial.runs l.initial.views l.initial.d) l.p l.k (three l.segments l.k l.runs l.views l.d)
