use mathlib.Core.Path.{◌∙◌}
use Rattle.records.specs.Decode.{Lent, lent_of}
use Rattle.borrows.proofs.Lending.{held_is}
use Rattle.encoded_borrows.proofs.Clones.{laid_means}
use Rattle.encoded_borrows.proofs.clone_bytes.clone_with.Goals as goal

pub cloned_judged-laid-requires : goal.cloned_judged-laid-requires
cloned_judged-laid-requires c = c.requires.m_value

pub write_laid-requires : goal.write_laid-requires
write_laid-requires c = c.requires.m_value

pub returns : goal.returns
returns c = let a = c.args in let o : Lent = record { segments = a.out_segments.now; views = a.out_views.now; runs = a.out_runs.now; borrows = a.out_borrows.now; ids = a.out_ids.now; pool = a.out_pool.now } in let l : Lent = lent_of a.tables in c.write_laid.ensures ∙ laid_means _ _ _ _ _ _ o c.requires.out_pool_value _ _ _ _ c.cloned_judged-laid.ensures _ (held_is l a.m) c.requires.borrows_in_bounds
