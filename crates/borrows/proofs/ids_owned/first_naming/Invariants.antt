use Rattle.std.proofs.Common.{◌≡◌}
use mathlib.Core.Bool.{not}
use mathlib.Core.List.{[]}
use Rattle.ids.specs.Names.{names_of}
use Rattle.records.specs.Decode.{ids_in, borrows_in}
use Rattle.lawful.proofs.Loops.{Passed}
use Rattle.segments.proofs.Fronts.{Led}
use Rattle.borrows.specs.Owned.{first_naming}
use Rattle.borrows.proofs.Naming.{other, unnamed}
use Rattle.borrows.proofs.ids_owned.first_naming.Given as goal

abbrev pub invariant-loop-j : goal.invariant-loop-j
invariant-loop-j l = Passed (not (names_of (ids_in l.ids l.list) l.x)) (other l.ids l.list l.x) l.count l.j

abbrev pub invariant-lists : goal.invariant-lists
invariant-lists l = Led (first_naming (borrows_in l.borrows l.ids [] l.w) l.x) (unnamed l.borrows l.ids l.w l.x) l.n l.passed × (l.passed ≡ l.k)
