use Prim.Native.Nat.{◌-◌, ◌*◌}
use lib.ListN.{length}
use Rattle.unite_ranges.specs.Rows.{ranged_in}
use Rattle.unite_sources.specs.Rows.{views_at_word}
use Rattle.unite_sources.proofs.Arranging.{Arranging}
use Rattle.unite_sources.proofs.arrange_sources.Given as goal

abbrev pub invariant-loop-i : goal.invariant-loop-i
invariant-loop-i l = Arranging (views_at_word l.segments l.runs l.views l.pool l.sources) (λ j. j * 22) l.n (length l.initial.order) (ranged_in l.pool l.order l.k) (length l.order) l.k l.i
