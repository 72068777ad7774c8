use native.Mathlib.Omega.{arith}
use mathlib.Core.Path.{refl}
use Rattle.records.specs.Decode.{Lent, lent_of}
use Rattle.unite_lend.proofs.Grouping.{owned_small, own_ids, own_room, own_bound, own_long_lem}
use Rattle.unite_lend.proofs.list_owned.Goals as goal

pub own_all-requires : goal.own_all-requires
own_all-requires c = let a = c.args in let l : Lent = lent_of a.tables in owned_small a.lim l a.sources.now a.b c.requires.b_value (omega (arith, c.well_formed.0)) _ c.source_manifest-m.ensures

pub returns : goal.returns
returns c = let a = c.args in let l : Lent = lent_of a.tables in record { owned_after = own_ids a.lim l a.sources.now a.b c.requires.b_value _ c.source_manifest-m.ensures _ c.own_all.ensures.value _ _ c.requires.views_in_bounds c.own_all.ensures.out_after _ refl; result_in_bounds = own_room a.lim l a.sources.now a.b c.requires.b_value _ c.source_manifest-m.ensures _ c.own_all.ensures.value _ _ c.requires.views_in_bounds c.own_all.ensures.out_after; owned_len_bound = own_bound a.lim l a.sources.now a.b c.requires.b_value _ c.source_manifest-m.ensures _ c.own_all.ensures.value _ _ c.requires.views_in_bounds c.own_all.ensures.out_after _ refl; owned_len_unchanged = own_long_lem a.lim l a.sources.now a.b c.requires.b_value _ c.source_manifest-m.ensures _ c.own_all.ensures.value _ _ c.requires.views_in_bounds c.own_all.ensures.out_after }
