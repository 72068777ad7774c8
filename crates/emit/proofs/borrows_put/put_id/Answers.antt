use native.Mathlib.Nat.{add-zero}
use Rattle.emit.proofs.borrows_put.put_id.Goals as goal

pub returns : goal.returns
returns c = record { value = simp add-zero; out_ids_after = rw (← c.id_words-row.ensures) c.put.ensures.out_after }
