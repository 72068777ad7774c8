use Rattle.std.specs.Prelude.{Ok}
use mathlib.Core.Path.{◌≡◌, sym, ◌∙◌}
use native.Mathlib.Omega.{arith}
use Rattle.records.specs.declared.Refusal.TheVariants.{NotTheRecord}
use Rattle.encoded.proofs.Exits.{exit_named}
use Rattle.encoded.proofs.Opens.{got_are, got_over, got_wrong}
use Rattle.encoded.proofs.bytes_read.rows_got.Goals as goal

pub returns-in_err-row : goal.returns-in_err-row
returns-in_err-row c =
    let p = exit_named _ NotTheRecord _ _ c.in_err-row.ensures.cases c.from_residual.ensures.1 in
    rw p.2 (got_wrong _ _ _ p.1)

pub returns-then-not-fits_in : goal.returns-then-not-fits_in
returns-then-not-fits_in c =
    let e : c.args.got ≡ Ok (c.in_ok-row.row, c.in_ok-row.c, c.in_ok-row.field-0-2) = grind arith in
    got_over _ _ _ _ _ e (sym c.fits_in.ensures ∙ c.if-not-fits_in.true)

pub returns : goal.returns
returns c =
    let e : c.args.got ≡ Ok (c.in_ok-row.row, c.in_ok-row.c, c.in_ok-row.field-0-2) = grind arith in
    got_are _ _ _ _ _ e (sym c.fits_in.ensures ∙ c.if-not-fits_in.false)
