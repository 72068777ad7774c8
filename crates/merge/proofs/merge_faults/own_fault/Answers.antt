use Rattle.merge.proofs.Giving.{only_at, only_nowhere, nest_at, nest_nowhere}
use Rattle.merge.proofs.merge_faults.own_fault.Goals as goal

pub find_only-requires : goal.find_only-requires
find_only-requires c = c.requires

pub find_nest-requires : goal.find_nest-requires
find_nest-requires c = c.requires

pub returns-in_ok-k-in-Writer : goal.returns-in_ok-k-in-Writer
returns-in_ok-k-in-Writer c = only_at _ _ _ _ c.in-Writer.is c.find_only.ensures _ c.in_ok-k-in-Writer.was

pub returns-in_err-k-in-Writer : goal.returns-in_err-k-in-Writer
returns-in_err-k-in-Writer c = rw c.from_residual.ensures (only_nowhere _ _ _ _ c.in-Writer.is c.find_only.ensures c.in_err-k-in-Writer.was)

pub returns-in_ok-k-in-Compactor : goal.returns-in_ok-k-in-Compactor
returns-in_ok-k-in-Compactor c = nest_at _ _ _ _ c.in-Compactor.is c.find_nest.ensures _ c.in_ok-k-in-Compactor.was

pub returns-in_err-k-in-Compactor : goal.returns-in_err-k-in-Compactor
returns-in_err-k-in-Compactor c = rw c.from_residual-in_err-k-in-Compactor.ensures (nest_nowhere _ _ _ _ c.in-Compactor.is c.find_nest.ensures c.in_err-k-in-Compactor.was)
