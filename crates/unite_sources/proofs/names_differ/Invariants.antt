use Prim.Native.Nat.{◌-◌, ◌*◌}
use Rattle.records.specs.Decode.{name_in}
use Rattle.unite_sources.specs.Rows.{name_at_word}
use Rattle.unite_sources.proofs.Naming.{Agreeing}
use Rattle.unite_sources.proofs.names_differ.Given as goal

abbrev pub invariant-loop-i : goal.invariant-loop-i
invariant-loop-i l = Agreeing (name_in l.pool l.first) (λ k. name_at_word l.pool l.sources (k * 22)) l.n l.i
