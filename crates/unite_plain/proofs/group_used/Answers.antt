use mathlib.Core.Path.{refl}
use Rattle.records.specs.Decode.{Lent, lent_of}
use Rattle.unite.proofs.Lifted.{used_groups}
use borrow.Author.Rules.{rules}
use Rattle.unite_plain.proofs.group_used.Goals as goal

pub slice_bounds-put_supplies-end : goal.slice_bounds-put_supplies-end
slice_bounds-put_supplies-end c = refl

pub group_sources-requires : goal.group_sources-requires
group_sources-requires c = record { n_le_most_sources = c.requires.n_le_most_sources; n_in_bounds = c.requires.n_in_bounds; n_value = c.requires.n_value; n_in_bounds_2 = search rules; views_in_bounds = c.requires.views_in_bounds; borrows_in_bounds = c.requires.borrows_in_bounds; views_in_bounds_2 = c.requires.views_in_bounds_2 }

pub returns : goal.returns
returns c = let a = c.args in let l : Lent = lent_of a.tables in record { result_after = used_groups l a.sources.now a.order.now a.n _ _ _ c.put_supplies.ensures c.group_sources.ensures.result_after; result_in_bounds = c.group_sources.ensures.result_in_bounds }
