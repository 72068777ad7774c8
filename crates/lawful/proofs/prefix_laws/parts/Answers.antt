use Prim.Native.Nat.{ℕ, ◌+◌}
use mathlib.Core.Path.{refl, ap, ◌∙◌}
use native.Mathlib.Omega.{arith}
use Rattle.std.proofs.Common.{rules, tests}
use Rattle.std.proofs.lemmas.Iterator.{serves_from_Range, YieldsList-from_range}
use Rattle.std.proofs.lemmas.Iterator.Search.{all_from_yields_List}
use Rattle.measure.specs.Tests.{all_below}
use Rattle.keys.specs.Prefix.{begins_of}
use Rattle.lawful.specs.Steps.{prefix_at}
use mathlib.Core.Bool.{not}
use Rattle.lawful.proofs.Loops.{gap_in, next_in, gap_fits, next_fits, gaps_are, range_below}
use Rattle.lawful.proofs.prefix_laws.parts.Goals as goal

pub all-requires-clause-callable : goal.all-requires-clause-callable
all-requires-clause-callable c = serves_from_Range (λ x q k. search (rules, tests)) (λ x low high. search (gap_in c.args.w _ 12 _ _ x c.held.ensures c.gaps-n.ensures high, next_in c.args.w _ 12 _ _ x c.held.ensures c.gaps-n.ensures high, gap_fits c.args.w _ 12 _ _ x c.held.ensures c.gaps-n.ensures high, next_fits c.args.w _ 12 _ _ x c.held.ensures c.gaps-n.ensures high, rules))

pub returns : goal.returns
returns c =
    let p = λ (k : ℕ). not (begins_of (prefix_at c.args.segments.now c.args.pool.now (c.args.w.first + k)) (prefix_at c.args.segments.now c.args.pool.now (c.args.w.first + (k + 1)))) in
    all_from_yields_List p _ _ _ c.all.ensures.ran (YieldsList-from_range 0 _ c.gaps-n.result refl (omega arith)) (λ x b q k. search (rules, tests)) ∙ range_below p _ ∙ ap (all_below p) (gaps_are _ _ _ _ _ 0 c.held.ensures c.gaps-n.ensures)
