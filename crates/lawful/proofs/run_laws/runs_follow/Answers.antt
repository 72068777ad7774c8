use Prim.Native.Nat.{ℕ, ◌+◌}
use mathlib.Core.Path.{refl, sym, ap, ◌∙◌}
use native.Mathlib.Omega.{arith}
use Rattle.std.proofs.Common.{rules, tests}
use Rattle.std.proofs.lemmas.Iterator.{serves_from_Range, YieldsList-from_range}
use Rattle.std.proofs.lemmas.Iterator.Search.{all_from_yields_List}
use Rattle.measure.specs.Tests.{all_below}
use Rattle.lawful.proofs.Rules.{runs_all}
use Rattle.lawful.specs.Law.{run_lawful}
use Rattle.records.specs.Decode.{run_in}
use Rattle.records.specs.Row.{run_at}
use Rattle.lawful.proofs.Loops.{row_in, row_fits, range_below}
use Rattle.lawful.proofs.run_laws.runs_follow.Goals as goal

pub all-requires-clause-callable : goal.all-requires-clause-callable
all-requires-clause-callable c = serves_from_Range (λ x q k. search (rules, tests)) (λ x low high. search (row_in c.args.w _ 3 _ x c.held-n.ensures high, row_fits c.args.w _ 3 _ x c.held-n.ensures high, rules))

pub returns : goal.returns
returns c =
    let p = λ (k : ℕ). run_lawful (run_in c.args.views.now c.args.pool.now (run_at c.args.runs.now (c.args.w.first + k))) in
    all_from_yields_List p _ _ _ c.all.ensures.ran (YieldsList-from_range 0 _ c.held-n.result refl (omega arith)) (λ x b q k. search (rules, tests)) ∙ range_below p _ ∙ ap (all_below p) c.held-n.ensures ∙ sym (runs_all _ _ _ _ run_lawful)
