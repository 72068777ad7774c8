use mathlib.Core.Path.{ap}
use mathlib.Core.Bool.{not}
use Rattle.lawful.proofs.Judges.{breaks_1, breaks_2, breaks_3, breaks_4, breaks_5, breaks_none}
use Rattle.lawful.proofs.lawful.Goals as goal

pub returns-then-not-l1 : goal.returns-then-not-l1
returns-then-not-l1 c = breaks_1 _ _ _ _ c.l1.ensures (ap not c.if-not-l1.true)

pub returns-then-not-l2 : goal.returns-then-not-l2
returns-then-not-l2 c = breaks_2 _ _ _ _ c.l1.ensures (ap not c.if-not-l1.false) _ c.l2.ensures (ap not c.if-not-l2.true)

pub returns-then-not-l3 : goal.returns-then-not-l3
returns-then-not-l3 c = breaks_3 _ _ _ _ c.l1.ensures (ap not c.if-not-l1.false) _ c.l2.ensures (ap not c.if-not-l2.false) _ c.l3.ensures (ap not c.if-not-l3.true)

pub returns-then-not-l4 : goal.returns-then-not-l4
returns-then-not-l4 c = breaks_4 _ _ _ _ c.l1.ensures (ap not c.if-not-l1.false) _ c.l2.ensures (ap not c.if-not-l2.false) _ c.l3.ensures (ap not c.if-not-l3.false) _ c.l4.ensures (ap not c.if-not-l4.true)

pub returns-then-not-l5 : goal.returns-then-not-l5
returns-then-not-l5 c = breaks_5 _ _ _ _ c.l1.ensures (ap not c.if-not-l1.false) _ c.l2.ensures (ap not c.if-not-l2.false) _ c.l3.ensures (ap not c.if-not-l3.false) _ c.l4.ensures (ap not c.if-not-l4.false) _ c.l5.ensures (ap not c.if-not-l5.true)

pub returns : goal.returns
returns c = breaks_none _ _ _ _ c.l1.ensures (ap not c.if-not-l1.false) _ c.l2.ensures (ap not c.if-not-l2.false) _ c.l3.ensures (ap not c.if-not-l3.false) _ c.l4.ensures (ap not c.if-not-l4.false) _ c.l5.ensures (ap not c.if-not-l5.false)
