-- `ids::order` meets its contract: two ids order as their halves do. Assumes nothing.
use Rattle.std.proofs.Common.{rules}
use Prim.Native.Nat.{◌<◌, ◌^◌}
use Rattle.ids.proofs.Ids.{halves_order}
use Rattle.ids.proofs.order.Goals as goal

pub returns : goal.returns
returns g c =
    let h = c.halves-x.result in
    let k = c.halves-y.result in
    let fa : h.0 < 2 ^ 64 = search rules in
    let fb : h.1 < 2 ^ 64 = search rules in
    let fc : k.0 < 2 ^ 64 = search rules in
    let fd : k.1 < 2 ^ 64 = search rules in
    rw (← c.halves-x.ensures, ← c.halves-y.ensures, halves_order h.0 h.1 k.0 k.1 fa fb fc fd) c.cmp.ensures
