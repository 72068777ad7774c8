use Prim.Native.Nat.{◌-◌, ◌*◌}
use lib.ListN.{length}
use Rattle.records.specs.Row.{at}
use Rattle.unite_sources.specs.Rows.{places_in}
use Rattle.unite_sources.proofs.Gathering.{Gathering}
use Rattle.unite_sources.proofs.prefix_lists.all_prefixes.Given as goal

abbrev pub invariant-loop-i : goal.invariant-loop-i
invariant-loop-i l = Gathering l.most l.segments l.pool l.sources (λ j. at l.order (j * 7)) l.n (length l.initial.prefixes) (places_in l.prefixes l.pool l.count) (length l.prefixes) l.count l.i
