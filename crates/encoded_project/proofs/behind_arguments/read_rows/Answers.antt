use Rattle.std.specs.Prelude.{Ok}
use mathlib.Core.Path.{◌≡◌, refl, ◌∙◌}
use native.Mathlib.Omega.{arith}
use Rattle.records.specs.declared.Refusal.TheVariants.{NotTheRecord}
use Rattle.manifest_rows.proofs.Manifests.{manifest_is, manifest_wrong}
use Rattle.encoded.proofs.Exits.{exit_named}
use Rattle.encoded_project.proofs.Keeping.{rows_wrong, rows_past, rows_kept_lem}
use Rattle.encoded_project.proofs.behind_arguments.read_rows.Goals as goal

pub returns-in_err-row : goal.returns-in_err-row
returns-in_err-row c =
    let p = exit_named _ NotTheRecord _ _ c.in_err-row.ensures.cases c.from_residual.ensures.1 in
    rw p.2 (rows_wrong _ _ _ _ _ _ _ _ (manifest_wrong _ _ _ _ c.fill_manifest-filled.ensures _ p.1))

pub returns-then-config_over : goal.returns-then-config_over
returns-then-config_over c =
    let e : c.fill_manifest-filled.result ≡ Ok (c.in_ok-row.row, c.in_ok-row.f, c.in_ok-row.field-0-2) = grind arith in
    rows_past _ _ _ _ _ _ _ _ _ _ _ _ (manifest_is _ _ _ _ c.fill_manifest-filled.ensures _ _ _ e) _ c.config_over.ensures c.if-config_over.true

pub keep_at-requires : goal.keep_at-requires
keep_at-requires c = c.requires.in_pool_value

pub returns : goal.returns
returns c =
    let e : c.fill_manifest-filled.result ≡ Ok (c.in_ok-row.row, c.in_ok-row.f, c.in_ok-row.field-0-2) = grind arith in
    c.keep_at.ensures ∙ rows_kept_lem _ _ _ _ _ _ _ _ _ _ _ _ (manifest_is _ _ _ _ c.fill_manifest-filled.ensures _ _ _ e) _ c.config_over.ensures c.if-config_over.false refl (record { segments = c.fill_manifest-filled.auto.segments; views = c.fill_manifest-filled.auto.views; runs = c.fill_manifest-filled.auto.runs; borrows = c.fill_manifest-filled.auto.borrows; ids = c.fill_manifest-filled.auto.ids }) c.requires.s_value
