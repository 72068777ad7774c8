use mir.Syntax.{w64}
use mir.Val.{Fits}
use Prim.Native.Nat.{◌+◌}
use Rattle.manifest_values.specs.Read.{view_at}
use Rattle.manifest_rows.specs.Stored.{ViewStep, Under, table}
use Rattle.manifest_rows.proofs.Turns.{Turn}
use Rattle.manifest_rows.proofs.views_filled.fill_views.Given as goal

abbrev pub invariant-loop-k : goal.invariant-loop-k
invariant-loop-k l = (Turn (ViewStep l.s) Under (view_at l.s) l.at l.n (table l.initial.views l.v) l.p l.k (table l.views (l.v + l.k))) × Fits w64 l.p
