use borrow.Author.Rules.{rules}
use Rattle.window.proofs.Rows.{parts}
use Rattle.window.proofs.part_of_table.Goals as goal

pub returns-then-n-eq0 : goal.returns-then-n-eq0
returns-then-n-eq0 c = search (parts, rules)

pub overflow_mul-from : goal.overflow_mul-from
overflow_mul-from c = record { fits = search (parts, rules) }

pub overflow_mul-end : goal.overflow_mul-end
overflow_mul-end c = record { fits = search (parts, rules) }

pub overflow_add-end : goal.overflow_add-end
overflow_add-end c = record { fits = search (parts, rules) }

pub offset_bounds-segments-from : goal.offset_bounds-segments-from
offset_bounds-segments-from c = record { fits = search (parts, rules) }

pub slice_bounds-result-end-2 : goal.slice_bounds-result-end-2
slice_bounds-result-end-2 c = search (parts, rules)

pub returns : goal.returns
returns c = search (parts, rules)
