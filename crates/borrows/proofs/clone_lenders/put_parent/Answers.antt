use mathlib.Core.List.{[]}
use native.Mathlib.Omega.{arith}
use Rattle.records.specs.Decode.{Lent, manifest_in}
use Rattle.records.specs.Fill.{borrow_fill}
use Rattle.borrows.specs.Owned.{owned_of}
use Rattle.borrows.specs.Clone.{of_parent}
use Rattle.borrows.proofs.Lending.{ids_laid_lem, lent_row}
use Rattle.borrows.proofs.clone_lenders.put_parent.Goals as goal

pub put-requires : goal.put-requires
unfolding borrow_fill
put-requires c = omega (arith, c.requires.m_in_bounds_3)

pub own_all-past-requires : goal.own_all-past-requires
unfolding borrow_fill
own_all-past-requires c = omega (arith, c.requires.m_in_bounds_2, c.well_formed.1.1.1.1.1.1.1.1.1.1.0)

pub put_borrow_row-requires : goal.put_borrow_row-requires
unfolding borrow_fill
put_borrow_row-requires c = omega (arith, c.requires.m_in_bounds)

pub returns : goal.returns
unfolding borrow_fill
returns c = let a = c.args in let l : Lent = record { segments = a.segments.now; views = a.views.now; runs = a.runs.now; borrows = a.borrows.now; ids = a.ids.now; pool = [] } in let xs = owned_of (manifest_in l a.m) in record { out_borrows_after = lent_row a.c (of_parent a.path.now a.checkpoint a.u xs) _ _ _ c.own_all-past.ensures.value c.put_borrow_row.ensures; out_ids_after = ids_laid_lem xs _ _ a.c.ids (omega (arith, c.requires.m_in_bounds_2)) c.own_all-past.ensures.out_after; out_pool_after = c.put.ensures.out_after }
