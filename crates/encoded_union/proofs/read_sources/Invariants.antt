use lib.ListN.{length}
use Rattle.manifest_rows.specs.Stored.{lent}
use Rattle.encoded_union.proofs.Sofar.{Sofar, Sized}
use Rattle.encoded_union.proofs.read_sources.Given as goal

abbrev pub invariant-loop-k : goal.invariant-loop-k
invariant-loop-k l = Sofar l.lim l.s l.ends l.paths l.path_ends l.checkpoints (length l.ends) l.k l.c l.room (lent l.segments l.views l.runs l.borrows l.ids l.s) (lent l.all_segments l.all_views l.all_runs l.all_borrows l.all_ids l.all_pool) l.rows
    × Sized (lent l.segments l.views l.runs l.borrows l.ids l.s) (lent l.initial.segments l.initial.views l.initial.runs l.initial.borrows l.initial.ids l.s) (lent l.all_segments l.all_views l.all_runs l.all_borrows l.all_ids l.all_pool) (lent l.initial.all_segments l.initial.all_views l.initial.all_runs l.initial.all_borrows l.initial.all_ids l.initial.all_pool) l.rows l.initial.rows
