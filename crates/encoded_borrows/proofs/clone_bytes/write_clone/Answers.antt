use mathlib.Core.Path.{refl, ◌∙◌}
use Rattle.encoded_borrows.proofs.Clones.{few_long, few_fits, enough}
use Rattle.encoded_borrows.proofs.clone_bytes.write_clone.Goals as goal

pub shape_of-out-then-is_longer : goal.shape_of-out-then-is_longer
shape_of-out-then-is_longer c = refl

pub returns-then-is_longer : goal.returns-then-is_longer
returns-then-is_longer c = rw c.if-few.true (few_long _ _ _ c.is_longer.ensures c.if-is_longer.true)

pub shape_of-out-then-few : goal.shape_of-out-then-few
shape_of-out-then-few c = refl

pub returns-then-few : goal.returns-then-few
returns-then-few c = rw c.if-few.true (few_fits _ _ _ c.is_longer.ensures c.if-is_longer.false)

pub returns : goal.returns
returns c = rw c.if-few.false (c.write_judged.ensures ∙ enough _ _)
