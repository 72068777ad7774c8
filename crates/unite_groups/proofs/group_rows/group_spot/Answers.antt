use native.Mathlib.Numerals.{add-one}
use lib.Arith.{sub_dec}
use mathlib.Core.Path.{refl}
use Rattle.unite_groups.proofs.Spots.{spotted_none, spotted_less, spotted_same, spotted_more, spotted_all}
use Rattle.unite_groups.proofs.group_rows.group_spot.Goals as goal

pub loop-k-init : goal.loop-k-init
loop-k-init c = spotted_none _ _ _ _ _ refl refl

pub returns-in-Less : goal.returns-in-Less
returns-in-Less c = spotted_less _ _ _ _ _ c.loop-k.invariant c.loop-k-test.true _ c.group_order.ensures c.in-Less.is

pub returns-in-Equal : goal.returns-in-Equal
returns-in-Equal c = spotted_same _ _ _ _ _ c.loop-k.invariant c.loop-k-test.true _ c.group_order.ensures c.in-Equal.is

pub loop-k-smaller : goal.loop-k-smaller
loop-k-smaller c = rw (add-one c.loop-k.k) (sub_dec c.args.n c.loop-k.k c.loop-k-test.true)

pub loop-k-preserved : goal.loop-k-preserved
loop-k-preserved c = spotted_more _ _ _ _ _ c.loop-k.invariant c.loop-k-test.true _ c.group_order.ensures c.in-Greater.is

pub returns : goal.returns
returns c = spotted_all _ _ _ _ _ c.loop-k.invariant c.loop-k-test.false
