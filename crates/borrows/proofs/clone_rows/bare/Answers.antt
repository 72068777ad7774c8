use Rattle.std.proofs.Common.{rules}
use Rattle.borrows.specs.Bare.{bare_row}
use Rattle.borrows.proofs.clone_rows.bare.Goals as goal

pub returns : goal.returns
unfolding bare_row
returns c = search rules
