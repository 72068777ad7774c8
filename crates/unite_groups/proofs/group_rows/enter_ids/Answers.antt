use native.Mathlib.Numerals.{add-one}
use lib.Arith.{sub_dec}
use borrow.Author.Rules.{rules}
use Rattle.lawful.proofs.Loops.{rows}
use Rattle.unite_groups.proofs.IdSets.{setting_none, setting_room, setting_more, setting_all, window_ids}
use Rattle.unite_groups.proofs.group_rows.enter_ids.Goals as goal

pub loop-k-init : goal.loop-k-init
loop-k-init c = setting_none _ _ _ _ ((window_ids c.args.ids.now c.args.from _ c.held-n.ensures).1 c.args.first _ c.requires)

pub overflow_add-from : goal.overflow_add-from
overflow_add-from c = search (rows, rules)

pub id_at-x-requires : goal.id_at-x-requires
id_at-x-requires c = search (rows, rules)

pub enter_id-count-requires : goal.enter_id-count-requires
enter_id-count-requires c = setting_room _ _ _ _ _ _ _ c.loop-k.invariant c.loop-k-test.true

pub loop-k-smaller : goal.loop-k-smaller
loop-k-smaller c = rw (add-one c.loop-k.k) (sub_dec c.held-n.result c.loop-k.k c.loop-k-test.true)

pub loop-k-preserved : goal.loop-k-preserved
loop-k-preserved c = setting_more _ _ _ _ _ _ _ c.loop-k.invariant c.loop-k-test.true _ _ _ c.id_at-x.ensures c.enter_id-count.ensures.value c.enter_id-count.ensures.work_after

pub returns : goal.returns
returns c = let whole = setting_all _ _ _ _ _ _ _ c.loop-k.invariant c.loop-k-test.false _ (window_ids c.args.ids.now c.args.from _ c.held-n.ensures).0 in record { value = whole.0; work_after = whole.1 }
