use native.Mathlib.Nat.{add-zero}
use Rattle.emit.proofs.runs_put.put_run_row.Goals as goal

pub returns : goal.returns
returns c = record { value = simp add-zero; out_runs_after = rw (← c.run_words-row.ensures) c.put.ensures.out_after }
