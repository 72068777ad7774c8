use Rattle.merge.proofs.Nesting.{nest_none, nest_clear, nest_here, nest_on, count_fits}
use Rattle.merge.proofs.merge_faults.nest_step.Goals as goal

pub returns-then-begins : goal.returns-then-begins
returns-then-begins c = nest_here _ _ _ _ c.in-Some.is _ _ _ _ _ c.in-Last.is c.part.ensures c.part-in-Last.ensures c.begins.ensures c.if-begins.true

pub overflow_add-result : goal.overflow_add-result
overflow_add-result c = record { fits = count_fits _ _ _ c.requires c.in-Last.is }

pub returns-in-None : goal.returns-in-None
returns-in-None c = nest_none _ _ _ c.in-None.is

pub returns-in-Clear : goal.returns-in-Clear
returns-in-Clear c = nest_clear _ _ _ _ c.in-Some.is c.in-Clear.is

pub returns-else-begins : goal.returns-else-begins
returns-else-begins c = nest_on _ _ _ _ c.in-Some.is _ _ _ _ _ c.in-Last.is c.part.ensures c.part-in-Last.ensures c.begins.ensures c.if-begins.false
