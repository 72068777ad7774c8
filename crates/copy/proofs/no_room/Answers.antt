use Rattle.copy.proofs.Answers.{within_limit, over_limit}
use Rattle.copy.proofs.no_room.Goals as goal

pub returns-then-fits_in : goal.returns-then-fits_in
returns-then-fits_in c = within_limit c.args.lim c.args.room c.args.res _ _ c.fits_in.ensures c.if-fits_in.true c.fits_in-then-fits_in.ensures

pub returns : goal.returns
returns c = over_limit c.args.lim c.args.room c.args.res _ c.fits_in.ensures c.if-fits_in.false
