use Rattle.unite_groups.proofs.Checkpoints.{Looked}
use Rattle.records.specs.Decode.{bytes_in}
use Rattle.unite_groups.proofs.group_members.supplied_with.Given as goal

abbrev pub invariant-loop-i : goal.invariant-loop-i
invariant-loop-i l = Looked l.supplies l.pool (bytes_in l.pool l.path) l.n l.s l.i
