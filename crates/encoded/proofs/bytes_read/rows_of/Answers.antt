use Rattle.std.specs.Prelude.{Ok}
use mathlib.Core.Path.{◌≡◌, refl, sym, ◌∙◌}
use native.Mathlib.Omega.{arith}
use Rattle.records.specs.declared.Refusal.TheVariants.{NotWellFormed}
use Rattle.encoded.proofs.Exits.{exit_named}
use Rattle.encoded.proofs.Opens.{opens_bad, opens_filled}
use Rattle.encoded.proofs.bytes_read.rows_of.Goals as goal

pub returns : goal.returns
returns c =
    let e : c.well_formed-2.result ≡ Ok tt = grind arith in
    opens_filled _ _ _ _ _ c.fill_manifest-got.ensures (sym c.well_formed-2.ensures ∙ e) refl (record { segments = c.fill_manifest-got.auto.segments; views = c.fill_manifest-got.auto.views; runs = c.fill_manifest-got.auto.runs; borrows = c.fill_manifest-got.auto.borrows; ids = c.fill_manifest-got.auto.ids }) c.requires _ c.rows_got.ensures

pub returns-in_err-map_err : goal.returns-in_err-map_err
returns-in_err-map_err c =
    let p = exit_named _ NotWellFormed _ _ c.in_err-map_err.ensures.cases c.from_residual.ensures.1 in
    rw p.2 (opens_bad _ _ _ (sym c.well_formed-2.ensures ∙ p.1))
