use native.Mathlib.Omega.{arith}
use Rattle.ids.specs.Names.{ids_of}
use Rattle.records.specs.Decode.{borrow_in}
use Rattle.prune.specs.Prune.{used_only}
use Rattle.prune.proofs.Kept.{ids_room, kept_none, kept_room, kept_some}
use Rattle.prune.proofs.put_kept.Goals as goal

pub put_used-to-requires : goal.put_used-to-requires
unfolding borrow_in
put_used-to-requires c = let a = c.args in let b = borrow_in a.ids.now a.pool.now a.b in ids_room b a.c (used_only (ids_of a.used.now) b.ids) _ _ _ (c.requires.b_in_bounds, (c.requires.b_in_bounds_2, c.requires.b_in_bounds_3))

pub returns-then-to-c : goal.returns-then-to-c
unfolding borrow_in
returns-then-to-c c = let a = c.args in let b = borrow_in a.ids.now a.pool.now a.b in let whole = kept_none b a.c _ (used_only (ids_of a.used.now) b.ids) _ _ _ _ (c.put_used-to.ensures.value, c.put_used-to.ensures.out_ids_after) c.if-to-c.true in record { value = whole.0; out_borrows_after = whole.1.0; out_ids_after = whole.1.1.0; out_pool_after = whole.1.1.1 }

pub put-past-requires : goal.put-past-requires
unfolding borrow_in
put-past-requires c = let a = c.args in let b = borrow_in a.ids.now a.pool.now a.b in (kept_room b a.c _ (used_only (ids_of a.used.now) b.ids) _ _ _ _ (c.requires.b_in_bounds, (c.requires.b_in_bounds_2, c.requires.b_in_bounds_3)) c.put_used-to.ensures.value c.if-to-c.false c.part-path.ensures).0

pub put_row-requires : goal.put_row-requires
unfolding borrow_in
put_row-requires c = let a = c.args in let b = borrow_in a.ids.now a.pool.now a.b in let r = kept_room b a.c _ (used_only (ids_of a.used.now) b.ids) _ _ _ _ (c.requires.b_in_bounds, (c.requires.b_in_bounds_2, c.requires.b_in_bounds_3)) c.put_used-to.ensures.value c.if-to-c.false c.part-path.ensures in (omega (arith, c.put-past.ensures.value), r.1.0, r.1.1)

pub returns : goal.returns
unfolding borrow_in
returns c = let a = c.args in let b = borrow_in a.ids.now a.pool.now a.b in let whole = kept_some b a.c _ (used_only (ids_of a.used.now) b.ids) _ _ _ _ _ _ _ _ _ (c.put_used-to.ensures.value, c.put_used-to.ensures.out_ids_after) c.if-to-c.false c.part-path.ensures c.put-past.ensures.value c.put-past.ensures.out_after c.put_row.ensures.value c.put_row.ensures.out_borrows_after in record { value = whole.0; out_borrows_after = whole.1.0; out_ids_after = whole.1.1.0; out_pool_after = whole.1.1.1 }
