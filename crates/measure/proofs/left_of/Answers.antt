use native.Mathlib.Omega.{arith}
use Rattle.measure.proofs.Fits.{under}
use Rattle.measure.proofs.left_of.Goals as goal

pub overflow_sub-result : goal.overflow_sub-result
overflow_sub-result c = let u = under _ _ c.requires in omega arith

pub overflow_sub-result-2 : goal.overflow_sub-result-2
overflow_sub-result-2 c = let u = under _ _ c.requires in omega arith

pub overflow_sub-result-3 : goal.overflow_sub-result-3
overflow_sub-result-3 c = let u = under _ _ c.requires in omega arith

pub overflow_sub-result-4 : goal.overflow_sub-result-4
overflow_sub-result-4 c = let u = under _ _ c.requires in omega arith

pub overflow_sub-result-5 : goal.overflow_sub-result-5
overflow_sub-result-5 c = let u = under _ _ c.requires in omega arith

pub overflow_sub-result-6 : goal.overflow_sub-result-6
overflow_sub-result-6 c = let u = under _ _ c.requires in omega arith
