use Rattle.std.specs.Prelude.{Ok}
use mathlib.Core.Path.{◌≡◌, refl, sym, ◌∙◌}
use native.Mathlib.Omega.{arith}
use Rattle.records.specs.Decode.{Lent}
use Rattle.copy.specs.Copy.{given_at}
use Rattle.manifest_rows.proofs.Manifests.{manifest_is}
use Rattle.manifest_read.proofs.Answers.{SameLong, rows_over, rows_judged}
use Rattle.manifest_read.proofs.read_rows.Goals as goal

pub returns-then-not-fits_in : goal.returns-then-not-fits_in
returns-then-not-fits_in c =
    let a = c.args in
    let o : Lent = record { segments = a.out_segments.now; views = a.out_views.now; runs = a.out_runs.now; borrows = a.out_borrows.now; ids = a.out_ids.now; pool = a.out_pool.now } in
    let e : c.fill_manifest-filled.result ≡ Ok (c.in_ok-row.row, c.in_ok-row.f, c.in_ok-row.field-0-2) = grind arith in
    rows_over _ _ _ _ _ _ _ _ (manifest_is _ _ _ _ c.fill_manifest-filled.ensures _ _ _ e) (λ m. given_at a.lim a.c m o) (sym c.fits_in.ensures ∙ c.if-not-fits_in.true)

pub returns : goal.returns
returns c =
    let e : c.fill_manifest-filled.result ≡ Ok (c.in_ok-row.row, c.in_ok-row.f, c.in_ok-row.field-0-2) = grind arith in
    let l : SameLong _ _ = record { segments = c.fill_manifest-filled.auto.segments; views = c.fill_manifest-filled.auto.views; runs = c.fill_manifest-filled.auto.runs; borrows = c.fill_manifest-filled.auto.borrows; ids = c.fill_manifest-filled.auto.ids } in
    c.judged_copy.ensures ∙ rows_judged _ _ _ _ _ _ _ _ (manifest_is _ _ _ _ c.fill_manifest-filled.ensures _ _ _ e) c.args.c refl l (sym c.fits_in.ensures ∙ c.if-not-fits_in.false) c.requires.s_value
