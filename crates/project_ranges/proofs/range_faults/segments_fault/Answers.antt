use borrow.Author.Rules.{rules}
use Rattle.lawful.proofs.Loops.{rows}
use Rattle.project_ranges.proofs.Faults.{sound_none, sounds}
use Rattle.project_ranges.proofs.range_faults.segments_fault.Goals as goal

pub loop-k-init : goal.loop-k-init
loop-k-init c = search (sound_none, rules)

pub overflow_add-w : goal.overflow_add-w
overflow_add-w c = search (rows, rules)

pub loop-k-preserved : goal.loop-k-preserved
loop-k-preserved c = search (sounds, rules)

pub returns : goal.returns
returns c = search (sounds, rules)

pub segment_fault-requires : goal.segment_fault-requires
segment_fault-requires c = search (rows, rules)

pub returns-in-Some : goal.returns-in-Some
returns-in-Some c = search (sounds, rules)
