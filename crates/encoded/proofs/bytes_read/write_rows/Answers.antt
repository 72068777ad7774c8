use Rattle.std.specs.Prelude.{Ok}
use mathlib.Core.Path.{◌≡◌, sym, ◌∙◌}
use native.Mathlib.Omega.{arith}
use Rattle.measure.proofs.Exits.{exit_same}
use Rattle.records.specs.declared.Refusal.TheVariants.{Unlawful}
use Rattle.encoded.specs.Encoded.{on}
use Rattle.encoded.specs.Read.{refused_with, given_of}
use Rattle.encoded.proofs.Exits.{exit_named}
use Rattle.encoded.proofs.Opens.{rows_same}
use Rattle.encoded.proofs.Writes.{lawful_breaks, lawful_within}
use Rattle.encoded.proofs.bytes_read.write_rows.Goals as goal

pub returns-in_err-m : goal.returns-in_err-m
returns-in_err-m c = rw (exit_same _ _ c.from_residual.ensures.1) (rows_same (on (refused_with _) (given_of _ _ _)) _ _ _ _ c.in_err-m.was)

pub returns : goal.returns
returns c =
    let e : c.lawful.result ≡ Ok tt = grind arith in
    c.write_within.ensures ∙ lawful_within _ _ _ _ _ (sym c.lawful.ensures ∙ e) ∙ rows_same (on (refused_with _) (given_of _ _ _)) _ _ _ _ c.in_ok-m.was

pub returns-in_err-map_err : goal.returns-in_err-map_err
returns-in_err-map_err c =
    let p = exit_named _ Unlawful _ _ c.in_err-map_err.ensures.cases c.from_residual-in_err-map_err.ensures.1 in
    rw p.2 (lawful_breaks _ _ _ _ _ _ (sym c.lawful.ensures ∙ p.1) ∙ rows_same (on (refused_with _) (given_of _ _ _)) _ _ _ _ c.in_ok-m.was)
