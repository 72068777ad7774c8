use borrow.Author.Rules.{rules}
use native.Mathlib.Omega.{arith}
use Rattle.measure.proofs.Fits.{fits_out, fits_last}
use Rattle.measure.proofs.fits_in.Goals as goal

pub returns-then-most-a : goal.returns-then-most-a
returns-then-most-a c = fits_out _ _ (λ w. omega arith)

pub returns-then-most-a-2 : goal.returns-then-most-a-2
returns-then-most-a-2 c = fits_out _ _ (λ w. omega arith)

pub returns-then-most-a-3 : goal.returns-then-most-a-3
returns-then-most-a-3 c = fits_out _ _ (λ w. omega arith)

pub returns-then-most-a-4 : goal.returns-then-most-a-4
returns-then-most-a-4 c = fits_out _ _ (λ w. omega arith)

pub returns-then-most-a-5 : goal.returns-then-most-a-5
returns-then-most-a-5 c = fits_out _ _ (λ w. omega arith)

pub returns : goal.returns
returns c = search (fits_last, rules)
