use mathlib.Core.Path.{refl}
use native.Mathlib.Omega.{arith}
use Rattle.records.proofs.Rows.{id_wide}
use Rattle.unite_groups.proofs.IdSets.{id_same, id_place, id_more, id_laid}
use Rattle.unite_groups.proofs.group_rows.enter_id.Goals as goal

pub shape_of-work-then-s : goal.shape_of-work-then-s
shape_of-work-then-s c = refl

pub returns-then-s : goal.returns-then-s
returns-then-s c = let whole = id_same c.args.work.now c.args.w c.args.x _ c.id_spot-s.ensures c.requires c.if-s.true in record { value = whole.0; work_after = whole.1 }

pub overflow_add-at : goal.overflow_add-at
overflow_add-at c = let p = id_place c.args.work.now c.args.w c.args.x _ c.id_spot-s.ensures c.requires c.if-s.false in omega arith

pub overflow_mul-at : goal.overflow_mul-at
overflow_mul-at c = let p = id_place c.args.work.now c.args.w c.args.x _ c.id_spot-s.ensures c.requires c.if-s.false in omega arith

pub shift_words-requires : goal.shift_words-requires
shift_words-requires c = let p = id_place c.args.work.now c.args.w c.args.x _ c.id_spot-s.ensures c.requires c.if-s.false in record { at_le_past = omega arith; by_in_bounds = omega arith }

pub put-requires : goal.put-requires
put-requires c = let p = id_place c.args.work.now c.args.w c.args.x _ c.id_spot-s.ensures c.requires c.if-s.false in rw (c.id_words-row.ensures, id_wide) (omega arith)

pub returns : goal.returns
returns c = let e = c.id_spot-s.ensures in let r = c.requires in let h = c.if-s.false in record { value = id_more c.args.work.now c.args.w c.args.x _ e r h; work_after = id_laid c.args.work.now c.args.w c.args.x _ e r h _ _ _ c.shift_words.ensures c.id_words-row.ensures c.put.ensures.out_after }
