use Rattle.ids.specs.Names.{ids_of}
use Rattle.records.specs.Decode.{borrow_in}
use Rattle.prune.specs.Prune.{used_only}
use Rattle.prune.proofs.Kept.{add_gone, add_left}
use Rattle.prune.proofs.add_kept.Goals as goal

pub returns-then-n-eq0 : goal.returns-then-n-eq0
unfolding borrow_in
returns-then-n-eq0 c = let a = c.args in let b = borrow_in a.ids.now a.pool.now a.b in add_gone a.most b a.c _ (used_only (ids_of a.used.now) b.ids) c.requires c.count_used-n.ensures c.if-n-eq0.true

pub returns : goal.returns
unfolding borrow_in
returns c = let a = c.args in let b = borrow_in a.ids.now a.pool.now a.b in add_left a.most b a.c _ (used_only (ids_of a.used.now) b.ids) _ _ c.count_used-n.ensures c.if-n-eq0.false c.part-path.ensures c.add.ensures
