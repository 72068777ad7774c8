use Rattle.std.specs.Prelude.{Ok}
use mathlib.Core.Path.{◌≡◌, sym, ◌∙◌}
use native.Mathlib.Omega.{arith}
use Rattle.measure.proofs.Exits.{exit_same}
use Rattle.records.specs.declared.Refusal.TheVariants.{Unlawful}
use Rattle.encoded_borrows.specs.Clone.{cloned_on}
use Rattle.encoded.proofs.Exits.{exit_named}
use Rattle.encoded.proofs.Opens.{rows_same}
use Rattle.encoded_borrows.proofs.Clones.{put_enough, put_few, rows_broken, rows_lawful, cloned_unread}
use Rattle.encoded_borrows.proofs.clone_rows.Goals as goal

pub returns-in_err-m : goal.returns-in_err-m
returns-in_err-m c = rw (exit_same _ _ c.from_residual.ensures.1) (cloned_unread _ _ _ _ _ _ _ ∙ rows_same (cloned_on _ _ _ _ _ _) _ _ _ _ c.in_err-m.was)

pub clone_with-requires : goal.clone_with-requires
clone_with-requires c =
    let e : c.lawful.result ≡ Ok tt = grind arith in
    record { m_value = sym c.lawful.ensures ∙ e; borrows_in_bounds = (λ h. omega (arith, c.held-n.ensures, c.if-n-fresh.true)); out_pool_value = c.requires.out_pool_value }

pub returns-then-n-fresh : goal.returns-then-n-fresh
returns-then-n-fresh c =
    let e : c.lawful.result ≡ Ok tt = grind arith in
    c.clone_with.ensures ∙ put_enough _ _ _ _ _ _ _ _ _ c.held-n.ensures c.if-n-fresh.true ∙ rows_lawful _ _ _ _ _ _ _ _ (sym c.lawful.ensures ∙ e) ∙ rows_same (cloned_on _ _ _ _ _ _) _ _ _ _ c.in_ok-m.was

pub clone_with-requires-2 : goal.clone_with-requires-2
clone_with-requires-2 c =
    let e : c.lawful.result ≡ Ok tt = grind arith in
    record { m_value = sym c.lawful.ensures ∙ e; borrows_in_bounds = (λ h. omega (arith, h, c.requires.borrows_in_bounds)); out_pool_value = c.requires.out_pool_value }

pub returns : goal.returns
returns c =
    let e : c.lawful.result ≡ Ok tt = grind arith in
    c.clone_with-2.ensures ∙ put_few _ _ _ _ _ _ _ _ _ _ c.held-n.ensures c.if-n-fresh.false ∙ rows_lawful _ _ _ _ _ _ _ _ (sym c.lawful.ensures ∙ e) ∙ rows_same (cloned_on _ _ _ _ _ _) _ _ _ _ c.in_ok-m.was

pub returns-in_err-map_err : goal.returns-in_err-map_err
returns-in_err-map_err c =
    let p = exit_named _ Unlawful _ _ c.in_err-map_err.ensures.cases c.from_residual-in_err-map_err.ensures.1 in
    rw p.2 (rows_broken _ _ _ _ _ _ _ _ _ (sym c.lawful.ensures ∙ p.1) ∙ rows_same (cloned_on _ _ _ _ _ _) _ _ _ _ c.in_ok-m.was)
