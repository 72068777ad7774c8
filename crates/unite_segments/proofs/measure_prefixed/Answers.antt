use native.Mathlib.Omega.{arith}
use Rattle.unite.proofs.Plain.{plain_broken, plain_added}
use Rattle.unite_segments.proofs.measure_prefixed.Goals as goal

pub measure_named-requires : goal.measure_named-requires
measure_named-requires c = record { n_in_bounds = c.requires.n_in_bounds; n_in_bounds_2 = c.requires.n_in_bounds_2; np_in_bounds = c.requires.np_in_bounds }

pub measure_rest-requires : goal.measure_rest-requires
measure_rest-requires c = c.requires.count_in_bounds

pub shape_of-shares-in_err-d : goal.shape_of-shares-in_err-d
shape_of-shares-in_err-d c = omega (arith, c.measure_named.auto)

pub returns-in_err-d : goal.returns-in_err-d
returns-in_err-d c = rw c.from_residual.ensures (plain_broken _ _ _ _ _ c.no_fill-c.ensures c.measure_named.ensures.value c.in_err-d.was)

pub shape_of-shares : goal.shape_of-shares
shape_of-shares c = omega (arith, c.measure_named.auto)

pub returns : goal.returns
returns c = plain_added _ _ _ _ _ c.no_fill-c.ensures c.measure_named.ensures.value _ _ c.in_ok-d.was c.measure_rest.ensures
