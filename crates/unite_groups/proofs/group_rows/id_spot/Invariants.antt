use Prim.Native.Nat.{◌+◌}
use Rattle.records.specs.Row.{id_at}
use Rattle.records.specs.Decode.{ids_in}
use Rattle.unite_groups.specs.Sets.{sst_order}
use Rattle.unite_groups.specs.Steps.{spot_of}
use Rattle.unite_groups.proofs.Spots.{Spotted}
use Rattle.unite_groups.proofs.group_rows.id_spot.Given as goal

abbrev pub invariant-loop-k : goal.invariant-loop-k
invariant-loop-k l = Spotted (spot_of (sst_order l.x) (ids_in l.work l.w)) (sst_order l.x) (λ i. id_at l.work (l.w.first + i)) l.n l.k
