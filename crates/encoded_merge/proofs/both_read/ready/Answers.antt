use Rattle.encoded_merge.proofs.Merging.{ready_writer, ready_compactor, ready_both, ready_pool, ready_short}
use Rattle.encoded_merge.proofs.both_read.ready.Goals as goal

pub returns-then-writer-gt-LONGEST : goal.returns-then-writer-gt-LONGEST
returns-then-writer-gt-LONGEST c = ready_writer _ _ _ _ _ c.if-writer-gt-LONGEST.true

pub returns-then-compactor-gt-LONGEST : goal.returns-then-compactor-gt-LONGEST
returns-then-compactor-gt-LONGEST c = ready_compactor _ _ _ _ _ c.if-writer-gt-LONGEST.false c.if-compactor-gt-LONGEST.true

pub returns : goal.returns
returns c = ready_both _ _ _ _ _ _ _ _ _ _ c.if-writer-gt-LONGEST.false c.if-compactor-gt-LONGEST.false _ c.fits_in.ensures c.if-not-fits_in.false c.if-pool-lim.false

pub returns-then-pool-lim : goal.returns-then-pool-lim
returns-then-pool-lim c = ready_pool _ _ _ _ _ _ _ _ _ _ c.if-writer-gt-LONGEST.false c.if-compactor-gt-LONGEST.false _ c.fits_in.ensures c.if-not-fits_in.false c.if-pool-lim.true

pub returns-then-not-fits_in : goal.returns-then-not-fits_in
returns-then-not-fits_in c = ready_short _ _ _ _ _ _ _ _ _ _ c.if-writer-gt-LONGEST.false c.if-compactor-gt-LONGEST.false _ c.fits_in.ensures c.if-not-fits_in.true
