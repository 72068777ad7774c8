use Rattle.insert.proofs.Entering.{never_broken, adds_to}
use Rattle.records.specs.Decode.{Lent, lent_of}
use Rattle.insert.proofs.filled_with.Goals as goal

pub returns-in_err-f : goal.returns-in_err-f
returns-in_err-f c = let a = c.args in let x : Lent = lent_of a.tables in absurd (never_broken a.lim x a.m _ c.measure.ensures c.requires c.in_err-f.was)

pub returns : goal.returns
returns c = let a = c.args in let x : Lent = lent_of a.tables in adds_to a.lim x a.m _ c.measure.ensures c.requires _ _ _ c.in_ok-f.was c.add.ensures
