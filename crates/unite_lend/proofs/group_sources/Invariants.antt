use lib.ListN.{length}
use Rattle.records.specs.Decode.{lent_of}
use Rattle.unite_groups.specs.Rows.{supplies_in}
use Rattle.unite_lend.proofs.Gathering.{Gathered}
use Rattle.unite_lend.proofs.group_sources.Given as goal

abbrev pub invariant-loop-i : goal.invariant-loop-i
invariant-loop-i l = Gathered l.lim (lent_of l.tables) l.sources l.order (supplies_in l.supplies l.tables.pool.now l.n) l.n (length l.initial.owned) (length l.initial.groups) (length l.initial.work) l.owned l.groups l.work l.g l.i
