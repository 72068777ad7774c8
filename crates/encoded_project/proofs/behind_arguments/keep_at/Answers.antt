use Rattle.std.specs.Prelude.{Ok}
use mathlib.Core.Path.{◌≡◌, ◌∙◌}
use native.Mathlib.Omega.{arith}
use Rattle.records.specs.declared.Refusal.TheVariants.{Unlawful}
use Rattle.encoded.proofs.Exits.{exit_named}
use Rattle.encoded_project.proofs.Keeping.{kept_over, kept_broken, kept_lawful}
use Rattle.encoded_project.proofs.behind_arguments.keep_at.Goals as goal

pub returns-then-not-fits_in : goal.returns-then-not-fits_in
returns-then-not-fits_in c = kept_over _ _ _ _ _ _ _ c.fits_in.ensures c.if-not-fits_in.true

pub returns-in_err-map_err : goal.returns-in_err-map_err
returns-in_err-map_err c =
    let p = exit_named _ Unlawful _ _ c.in_err-map_err.ensures.cases c.from_residual.ensures.1 in
    rw p.2 (kept_broken _ _ _ _ _ _ _ c.fits_in.ensures c.if-not-fits_in.false _ c.lawful.ensures _ p.1)

pub copy_at-requires : goal.copy_at-requires
copy_at-requires c = c.requires

pub returns : goal.returns
returns c =
    let e : c.lawful.result ≡ Ok tt = grind arith in
    c.copy_at.ensures ∙ kept_lawful _ _ _ _ _ _ _ c.fits_in.ensures c.if-not-fits_in.false _ c.lawful.ensures e
