use borrow.Author.Rules.{rules}
use Rattle.lawful.proofs.Loops.{rows}
use Rattle.merge.proofs.Rowwise.{steps}
use Rattle.merge.proofs.merge_steps.merge_step.Goals as goal

pub overflow_add-w : goal.overflow_add-w
overflow_add-w c = search (rows, rules)

pub segment_at-a-requires : goal.segment_at-a-requires
segment_at-a-requires c = search (rows, rules)

pub overflow_add-c : goal.overflow_add-c
overflow_add-c c = search (rows, rules)

pub segment_at-b-requires : goal.segment_at-b-requires
segment_at-b-requires c = search (rows, rules)

pub returns-then-j-m : goal.returns-then-j-m
returns-then-j-m c = search (steps, rules)

pub returns-then-i-n : goal.returns-then-i-n
returns-then-i-n c = search (steps, rules)

pub overflow_add-c-then-j-m-2 : goal.overflow_add-c-then-j-m-2
overflow_add-c-then-j-m-2 c = search (rows, rules)

pub segment_at-b-requires-then-j-m-2 : goal.segment_at-b-requires-then-j-m-2
segment_at-b-requires-then-j-m-2 c = search (rows, rules)

pub returns-then-j-m-2 : goal.returns-then-j-m-2
returns-then-j-m-2 c = search (steps, rules)

pub returns : goal.returns
returns c = search (steps, rules)
