use Rattle.manifest_values.specs.Read.{run_at}
use Rattle.manifest_rows.specs.Stored.{RunStep, UnderTwo, two}
use Rattle.manifest_rows.proofs.Turns.{Turn}
use Rattle.manifest_rows.proofs.views_filled.fill_runs.Given as goal

abbrev pub invariant-loop : goal.invariant-loop
invariant-loop l = Turn (RunStep l.s) UnderTwo (run_at l.s) l.at l.n (two l.initial.runs l.initial.views l.initial.d) l.p l.counter (two l.runs l.views l.d)
