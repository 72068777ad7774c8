use borrow.Author.Rules.{rules}
use native.Mathlib.Omega.{arith}
use Rattle.records.specs.Decode.{segments_in}
use Rattle.manifest_write.specs.Bytes.{segments_bytes}
use Rattle.manifest_write.proofs.Lists.{lists, listed_more, row_in}
use Rattle.manifest_write.proofs.rows_put.add_segments.Goals as goal

pub loop-k-init : goal.loop-k-init
unfolding segments_in segments_bytes
loop-k-init c = search (lists, rules)

pub overflow_add-w : goal.overflow_add-w
unfolding segments_in segments_bytes
overflow_add-w c = omega (arith, row_in _ _ _ _ c.held-n.ensures c.loop-k-test.true)

pub segment_at-requires : goal.segment_at-requires
unfolding segments_in segments_bytes
segment_at-requires c = search (lists, rules)

pub loop-k-preserved : goal.loop-k-preserved
unfolding segments_in segments_bytes
loop-k-preserved c = listed_more _ _ _ _ _ _ _ _ _ _ c.loop-k.invariant c.loop-k-test.true (rw c.segment_at.ensures at c.add_segment-p.ensures)

pub returns : goal.returns
unfolding segments_in segments_bytes
returns c = search (lists, rules)
