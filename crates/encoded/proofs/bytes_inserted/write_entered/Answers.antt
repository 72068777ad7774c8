use Rattle.measure.proofs.Exits.{exit_same}
use Rattle.encoded.proofs.Inserts.{wrote_done, wrote_refused}
use Rattle.encoded.proofs.bytes_inserted.write_entered.Goals as goal

pub returns-in_err-n : goal.returns-in_err-n
returns-in_err-n c = rw (exit_same _ _ c.from_residual.ensures.1) (wrote_refused _ _ _ _ c.write_judged.ensures _ c.in_err-n.was)

pub returns : goal.returns
returns c = wrote_done _ _ _ _ c.write_judged.ensures _ c.in_ok-n.was
