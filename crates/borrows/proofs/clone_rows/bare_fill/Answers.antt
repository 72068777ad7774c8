use Rattle.records.specs.Decode.{Lent, manifest_in, lent_of}
use Rattle.records.specs.Fill.{manifest_fill}
use Rattle.borrows.specs.Bare.{bare_of}
use Rattle.borrows.proofs.Baring.{filled, unbroken, bare_fills}
use Rattle.borrows.proofs.clone_rows.bare_fill.Goals as goal

pub returns-in-None : goal.returns-in-None
returns-in-None c = let a = c.args in let l : Lent = lent_of a.tables in unbroken _ (manifest_fill (bare_of (manifest_in l a.m))) (bare_fills a.lim l a.m c.requires _ _ c.bare-b.ensures c.measure.ensures) c.in-None.is

pub returns-in-Some : goal.returns-in-Some
returns-in-Some c = let a = c.args in let l : Lent = lent_of a.tables in filled _ _ (manifest_fill (bare_of (manifest_in l a.m))) (bare_fills a.lim l a.m c.requires _ _ c.bare-b.ensures c.measure.ensures) c.in-Some.is
