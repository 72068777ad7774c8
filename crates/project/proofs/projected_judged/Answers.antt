use Prim.Native.Nat.{◌/◌}
use lib.ListN.{length}
use Rattle.records.specs.Decode.{Lent, lent_of}
use Rattle.project.proofs.Answers.{judged_empty, judged_mask, judged_own, judged_given}
use Rattle.project.proofs.projected_judged.Goals as goal

pub returns-then-global_empty : goal.returns-then-global_empty
returns-then-global_empty c = let a = c.args in let x : Lent = lent_of a.tables in let o : Lent = record { segments = a.out_segments.now; views = a.out_views.now; runs = a.out_runs.now; borrows = a.out_borrows.now; ids = a.out_ids.now; pool = a.out_pool.now } in judged_empty a.lim x a.m a.c a.own.now (length a.used.now / 2) o _ c.global_empty.ensures c.if-global_empty.true

pub returns-then-mask_over : goal.returns-then-mask_over
returns-then-mask_over c = let a = c.args in let x : Lent = lent_of a.tables in let o : Lent = record { segments = a.out_segments.now; views = a.out_views.now; runs = a.out_runs.now; borrows = a.out_borrows.now; ids = a.out_ids.now; pool = a.out_pool.now } in judged_mask a.lim x a.m a.c a.own.now (length a.used.now / 2) o _ c.global_empty.ensures c.if-global_empty.false _ c.held-n.ensures _ c.mask_over.ensures _ c.if-mask_over.true c.highest_bit.ensures

pub give-requires : goal.give-requires
give-requires c = c.requires

pub returns-in-None : goal.returns-in-None
returns-in-None c = let a = c.args in let x : Lent = lent_of a.tables in let o : Lent = record { segments = a.out_segments.now; views = a.out_views.now; runs = a.out_runs.now; borrows = a.out_borrows.now; ids = a.out_ids.now; pool = a.out_pool.now } in judged_given a.lim x a.m a.c a.own.now (length a.used.now / 2) o _ c.global_empty.ensures c.if-global_empty.false _ c.held-n.ensures _ c.mask_over.ensures c.if-mask_over.false _ c.own_fault.ensures _ c.in-None.is c.give.ensures

pub returns-in-Some : goal.returns-in-Some
returns-in-Some c = let a = c.args in let x : Lent = lent_of a.tables in let o : Lent = record { segments = a.out_segments.now; views = a.out_views.now; runs = a.out_runs.now; borrows = a.out_borrows.now; ids = a.out_ids.now; pool = a.out_pool.now } in judged_own a.lim x a.m a.c a.own.now (length a.used.now / 2) o _ c.global_empty.ensures c.if-global_empty.false _ c.held-n.ensures _ c.mask_over.ensures c.if-mask_over.false _ c.own_fault.ensures _ c.in-Some.is
