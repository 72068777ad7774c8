use mathlib.Core.List.{[]}
use Rattle.measure.proofs.Exits.{exit_same}
use Rattle.copy.proofs.Answers.{empty_fits}
use Rattle.encoded_merge.proofs.Merging.{not_ready, second_behind, both_joined}
use Rattle.encoded_merge.proofs.both_read.read_both.Goals as goal

pub read_at-first-requires : goal.read_at-first-requires
read_at-first-requires c = empty_fits _

pub read_at-second-requires : goal.read_at-second-requires
read_at-second-requires c = second_behind _ _ _ _ (record { segments = c.args.segments.now; views = c.args.views.now; runs = c.args.runs.now; borrows = c.args.borrows.now; ids = c.args.ids.now; pool = [] }) _ _ c.ready.ensures c.in_ok-ready.was _ _ c.read_at-first.ensures

pub returns-in_err-ready : goal.returns-in_err-ready
returns-in_err-ready c = rw (exit_same _ _ c.from_residual.ensures.1) (not_ready _ _ _ _ _ _ _ c.ready.ensures _ c.in_err-ready.was)

pub returns : goal.returns
returns c = both_joined _ _ _ _ _ _ _ c.ready.ensures c.in_ok-ready.was _ _ c.read_at-first.ensures _ (record { segments = c.read_at-first.auto.segments; views = c.read_at-first.auto.views; runs = c.read_at-first.auto.runs; borrows = c.read_at-first.auto.borrows; ids = c.read_at-first.auto.ids }) _ _ c.read_at-second.ensures _ c.joined.ensures
