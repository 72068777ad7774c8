use Prim.Native.Nat.{◌-◌}
use Rattle.ids.specs.Names.{ids_of}
use Rattle.records.specs.Fill.{sum, borrow_fill}
use Rattle.emit.proofs.Laid.{Walk, Grown}
use Rattle.prune.proofs.Kept.{piece_rows, piece_ids, piece_pool, piece_in}
use Rattle.prune.proofs.prune_external_sst_ids.Given as goal

abbrev pub invariant-loop-k : goal.invariant-loop-k
invariant-loop-k l = Walk (sum borrow_fill) (piece_in (ids_of l.used) l.borrows l.ids l.pool l.w.first) l.n l.initial.to l.to l.k
    × Grown piece_rows (piece_in (ids_of l.used) l.borrows l.ids l.pool l.w.first) l.n l.initial.to l.initial.out_borrows l.out_borrows l.k
    × Grown piece_ids (piece_in (ids_of l.used) l.borrows l.ids l.pool l.w.first) l.n l.initial.to l.initial.out_ids l.out_ids l.k
    × Grown piece_pool (piece_in (ids_of l.used) l.borrows l.ids l.pool l.w.first) l.n l.initial.to l.initial.out_pool l.out_pool l.k
