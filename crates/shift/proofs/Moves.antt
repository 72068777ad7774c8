-- Words moved to the right. Assumes nothing.
use Prim.Native.Nat.{ℕ, ◌+◌, ◌-◌, ◌≤◌}
use mathlib.Core.Path.{◌≡◌, sym, ap, ◌∙◌}
use mathlib.Core.List.{List, ◌++◌, append_assoc}
use native.Mathlib.Omega.{arith}
use lib.ListN.{length, take, drop}
use lib.Seq.{length-take-le}
use Rattle.std.proofs.Common.{length-drop}
use Rattle.std.specs.List.{copy_within}
use Rattle.tables.specs.Layout.{write}

pub moved_up : (t : List ℕ) (at past by : ℕ) → at ≤ past → past + by ≤ length t → copy_within t at past (at + by) ≡ write t (at + by) (take (past - at) (drop at t))
moved_up t at past by h l =
    let xs = take (past - at) (drop at t) in
    let e : length xs ≡ past - at = length-take-le (past - at) (drop at t) (rw (length-drop at t) (omega arith)) in
    append_assoc (take (at + by) t) xs (drop (at + by + (past - at)) t) ∙ ap (λ (n : ℕ). take (at + by) t ++ (xs ++ drop (at + by + n) t)) (sym e)
