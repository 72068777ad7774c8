use Rattle.encoded_project.proofs.Rooms.{call_long, call_unset, call_set}
use Rattle.encoded_project.proofs.call_over.Goals as goal

pub returns-then-long-gt-LONGEST : goal.returns-then-long-gt-LONGEST
returns-then-long-gt-LONGEST c = let x = c.args in call_long x.most x.long x.n x.g c.if-long-gt-LONGEST.true

pub returns-in-None : goal.returns-in-None
returns-in-None c = call_unset _ _ _ _ c.if-long-gt-LONGEST.false c.in-None.is

pub returns-in-Some : goal.returns-in-Some
returns-in-Some c = call_set _ _ _ _ c.if-long-gt-LONGEST.false _ _ c.in-Some.is c.range_over.ensures
