use borrow.Author.Rules.{rules}
use Rattle.lawful.proofs.Loops.{rows}
use Rattle.borrows.proofs.Putting.{took_none, took_small, took_more, took_next, took_is}
use Rattle.borrows.proofs.Owning.{each_own}
use Rattle.borrows.proofs.ids_owned.own_runs.Goals as goal

pub loop-k-init : goal.loop-k-init
loop-k-init c = search (took_none, each_own, rules)

pub overflow_add-first : goal.overflow_add-first
overflow_add-first c = search (rows, rules)

pub own_run-to-requires : goal.own_run-to-requires
own_run-to-requires c = record { i_in_bounds = search (rows, rules); i_bound = took_small c.loop-k.invariant c.loop-k-test.true }

pub loop-k-preserved : goal.loop-k-preserved
loop-k-preserved c = took_more c.loop-k.invariant c.loop-k-test.true c.own_run-to.ensures.value c.own_run-to.ensures.out_after

pub returns : goal.returns
returns c = search (took_next, took_is, each_own, rules)
