use Prim.Native.Nat.{◌/◌}
use lib.ListN.{length}
use Rattle.records.specs.Decode.{Lent, manifest_in, lent_of}
use Rattle.project_ranges.specs.Config.{Config}
use Rattle.project_ranges.specs.Args.{config_in}
use Rattle.project.proofs.Answers.{given_copy, given_narrowed}
use Rattle.project.proofs.give.Goals as goal

pub give_copy-requires : goal.give_copy-requires
unfolding config_in
give_copy-requires c = c.requires

pub returns-then-is_noop : goal.returns-then-is_noop
unfolding config_in
returns-then-is_noop c = let a = c.args in let x : Lent = lent_of a.tables in let o : Lent = record { segments = a.out_segments.now; views = a.out_views.now; runs = a.out_runs.now; borrows = a.out_borrows.now; ids = a.out_ids.now; pool = a.out_pool.now } in let k : Config = config_in a.tables.pool.now a.config a.own.now in given_copy a.lim _ (length a.used.now / 2) k (manifest_in x a.m) o c.names_count-names.ensures _ c.is_noop.ensures _ c.if-is_noop.true c.give_copy.ensures

pub give_narrowed-requires : goal.give_narrowed-requires
unfolding config_in
give_narrowed-requires c = c.requires

pub returns : goal.returns
unfolding config_in
returns c = let a = c.args in let x : Lent = lent_of a.tables in let o : Lent = record { segments = a.out_segments.now; views = a.out_views.now; runs = a.out_runs.now; borrows = a.out_borrows.now; ids = a.out_ids.now; pool = a.out_pool.now } in let k : Config = config_in a.tables.pool.now a.config a.own.now in given_narrowed a.lim _ (length a.used.now / 2) k (manifest_in x a.m) o c.names_count-names.ensures _ c.is_noop.ensures _ c.if-is_noop.false c.give_narrowed.ensures
