use borrow.Author.Rules.{rules}
use borrow.Author.Tests.{not-true, not-false}
use Rattle.measure.proofs.Fits.{add_over, left_is, add_past, sum_is, add_done}
use Rattle.measure.proofs.add.Goals as goal

pub returns-then-not-fits_in : goal.returns-then-not-fits_in
returns-then-not-fits_in c = search (add_over, not-true, rules)

pub left_of-left-requires : goal.left_of-left-requires
left_of-left-requires c = search (left_is, not-false, rules)

pub returns-then-not-fits_in-2 : goal.returns-then-not-fits_in-2
returns-then-not-fits_in-2 c = search (add_past, not-true, not-false, rules)

pub sum_of-requires : goal.sum_of-requires
sum_of-requires c = sum_is _ _ _ _ _ _ c.fits_in.ensures (c.if-not-fits_in.false) c.left_of-left.ensures c.fits_in-2.ensures (c.if-not-fits_in-2.false)

pub returns : goal.returns
returns c = search (add_done, not-false, rules)
