use mir.Syntax.{w64}
use mir.Val.{Fits}
use Prim.Native.Nat.{◌+◌}
use Rattle.manifest_values.specs.Read.{sst_id_at}
use Rattle.manifest_rows.specs.Stored.{IdStep, Under, table}
use Rattle.manifest_rows.proofs.Turns.{Turn}
use Rattle.manifest_rows.proofs.borrows_filled.fill_ids.Given as goal

abbrev pub invariant-loop-k : goal.invariant-loop-k
invariant-loop-k l = (Turn IdStep Under (sst_id_at l.s) l.at l.n (table l.initial.ids l.v) l.p l.k (table l.ids (l.v + l.k))) × Fits w64 l.p
