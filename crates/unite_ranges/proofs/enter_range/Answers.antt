use mathlib.Core.Path.{ap, ◌∙◌}
use native.Mathlib.Omega.{arith}
use lib.ListN.{length}
use Rattle.unite_ranges.proofs.Entering.{place_in, row_wide, rows_entered, entered_long}
use Rattle.unite_ranges.proofs.enter_range.Goals as goal

pub overflow_mul-p : goal.overflow_mul-p
overflow_mul-p c = omega (arith, place_in c.args.pool.now c.args.rows.now c.args.n _ _ c.place_of-p.ensures)

pub shift_words-requires : goal.shift_words-requires
shift_words-requires c = record { at_le_past = omega (arith, place_in c.args.pool.now c.args.rows.now c.args.n _ _ c.place_of-p.ensures); by_in_bounds = omega arith }

pub overflow_mul-p-2 : goal.overflow_mul-p-2
overflow_mul-p-2 c = omega (arith, place_in c.args.pool.now c.args.rows.now c.args.n _ _ c.place_of-p.ensures)

pub put-requires : goal.put-requires
put-requires c = omega (arith, place_in c.args.pool.now c.args.rows.now c.args.n _ _ c.place_of-p.ensures)

pub returns : goal.returns
returns c = record { n_after = rows_entered c.args.pool.now c.args.rows.now _ _ c.row_words-row.result c.args.n _ (ap length c.row_words-row.ensures ∙ row_wide c.args.what c.args.r) (place_in c.args.pool.now c.args.rows.now c.args.n _ _ c.place_of-p.ensures) c.requires c.shift_words.ensures c.put.ensures.out_after c.args.what c.args.r c.row_words-row.ensures c.place_of-p.ensures; rows_len_unchanged = entered_long c.args.pool.now c.args.rows.now _ _ c.row_words-row.result c.args.n _ (ap length c.row_words-row.ensures ∙ row_wide c.args.what c.args.r) (place_in c.args.pool.now c.args.rows.now c.args.n _ _ c.place_of-p.ensures) c.requires c.shift_words.ensures c.put.ensures.out_after }
