use native.Mathlib.Omega.{arith}
use Rattle.measure.proofs.Fits.{under}
use Rattle.encoded_union.proofs.next.Goals as goal

pub overflow_add-result : goal.overflow_add-result
overflow_add-result c = let u = under _ _ c.requires in omega (arith, c.well_formed)

pub overflow_add-result-2 : goal.overflow_add-result-2
overflow_add-result-2 c = let u = under _ _ c.requires in omega (arith, c.well_formed)

pub overflow_add-result-3 : goal.overflow_add-result-3
overflow_add-result-3 c = let u = under _ _ c.requires in omega (arith, c.well_formed)

pub overflow_add-result-4 : goal.overflow_add-result-4
overflow_add-result-4 c = let u = under _ _ c.requires in omega (arith, c.well_formed)

pub overflow_add-result-5 : goal.overflow_add-result-5
overflow_add-result-5 c = let u = under _ _ c.requires in omega (arith, c.well_formed)

pub overflow_add-result-6 : goal.overflow_add-result-6
overflow_add-result-6 c = let u = under _ _ c.requires in omega (arith, c.well_formed)
