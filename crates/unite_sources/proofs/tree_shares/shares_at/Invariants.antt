use Prim.Native.Nat.{◌+◌, ◌-◌, ◌*◌}
use mathlib.Core.List.{[]}
use lib.ListN.{length}
use Rattle.records.specs.Row.{at, window_at}
use Rattle.records.specs.Decode.{bytes_in, segments_in}
use Rattle.measure.specs.Within.{tree_views}
use Rattle.merge.specs.Merge.{tree_of}
use Rattle.unite_ranges.specs.Rows.{ranged_in}
use Rattle.unite_sources.specs.Rows.{ranged_trees}
use Rattle.unite_sources.proofs.Arranging.{Arranging}
use Rattle.unite_sources.proofs.tree_shares.shares_at.Given as goal

abbrev pub invariant-loop-i : goal.invariant-loop-i
invariant-loop-i l = Arranging tree_views (λ j. tree_of (segments_in l.segments l.runs l.views l.pool (window_at l.sources (at l.order (j * 7) + 10))) (bytes_in l.pool l.prefix)) l.n (length l.initial.shares) (ranged_trees (record { segments = l.segments; views = l.views; runs = l.runs; borrows = []; ids = []; pool = l.pool }) (ranged_in l.pool l.shares l.k)) (length l.shares) l.k l.i
