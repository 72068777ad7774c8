use native.Mathlib.Nat.{zero-add}
use native.Mathlib.Omega.{arith}
use Rattle.records.specs.Decode.{Lent, lent_of}
use Rattle.borrows.proofs.OwnedAnswers.{count_small, owned_no_room, owned_done}
use Rattle.borrows.proofs.ids_owned.owned_judged.Goals as goal

pub count_owned-n-requires : goal.count_owned-n-requires
count_owned-n-requires c = let a = c.args in let l : Lent = lent_of a.tables in count_small a.lim l a.m c.requires (omega (arith, c.well_formed.0))

pub returns-then-no_room : goal.returns-then-no_room
returns-then-no_room c = let a = c.args in let l : Lent = lent_of a.tables in owned_no_room a.lim l a.m _ _ c.count_owned-n.ensures _ _ c.id_fill-room.ensures c.id_fill-result.ensures _ c.no_room.ensures c.if-no_room.true

pub own_all-requires : goal.own_all-requires
own_all-requires c = let a = c.args in let l : Lent = lent_of a.tables in rw zero-add (count_small a.lim l a.m c.requires (omega (arith, c.well_formed.0)))

pub returns : goal.returns
returns c = let a = c.args in let l : Lent = lent_of a.tables in owned_done a.lim l a.m _ _ c.count_owned-n.ensures _ _ c.id_fill-room.ensures c.id_fill-result.ensures _ c.no_room.ensures _ c.if-no_room.false c.own_all.ensures.out_after
