use native.Mathlib.Omega.{arith}
use Rattle.records.specs.Decode.{Lent, manifest_in, lent_of}
use Rattle.records.specs.Fill.{manifest_fill}
use Rattle.borrows.proofs.OwnedAnswers.{count_small}
use Rattle.borrows.proofs.Baring.{filled, unbroken, whole_fills, clone_adds}
use Rattle.borrows.proofs.clone_rows.clone_fill.Goals as goal

pub count_owned-requires : goal.count_owned-requires
count_owned-requires c = let a = c.args in let l : Lent = lent_of a.tables in count_small a.lim l a.m c.requires (omega (arith, c.well_formed.0))

pub returns-in-None : goal.returns-in-None
returns-in-None c = let a = c.args in let l : Lent = lent_of a.tables in unbroken _ (manifest_fill (manifest_in l a.m)) (whole_fills a.lim l a.m c.requires _ c.measure.ensures) c.in-None.is

pub returns-in-Some : goal.returns-in-Some
returns-in-Some c = let a = c.args in let l : Lent = lent_of a.tables in clone_adds a.lim l a.m a.path.now _ _ _ (filled _ _ (manifest_fill (manifest_in l a.m)) (whole_fills a.lim l a.m c.requires _ c.measure.ensures) c.in-Some.is) c.count_owned.ensures c.add.ensures
