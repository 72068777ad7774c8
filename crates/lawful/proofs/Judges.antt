-- The first broken rule, by the tests that the code makes one after the other. Assumes nothing.
use Rattle.std.specs.Prelude.{Err, Ok}
use mathlib.Core.Path.{◌≡◌, sym, ap, ◌∙◌}
use mathlib.Core.Bool.{Bool, true, false, not, ◌&&◌}
use borrow.Author.Tests.{not-false}
use Rattle.records.specs.Decode.{Lent, manifest_in}
use Rattle.records.specs.declared.Limits.{Limits}
use Rattle.records.specs.declared.ManifestRow.{ManifestRow}
use Rattle.measure.specs.Measure.{l1_of}
use Rattle.lawful.specs.Law.{l2_of, l3_of, l4_of, l5_of}
use Rattle.lawful.specs.Judge.{judged_of}

module _ (lim : Limits) (l : Lent) (m : ManifestRow) (r1 : Bool) (e1 : r1 ≡ l1_of lim l m) where
  pub breaks_1 : not r1 ≡ true → Err 1 ≡ judged_of lim l m
  unfolding judged_of
  breaks_1 h = rw (ap not (sym e1) ∙ h)

  module _ (k1 : not r1 ≡ false) (r2 : Bool) (e2 : r2 ≡ l2_of (manifest_in l m)) where
    pub breaks_2 : not r2 ≡ true → Err 2 ≡ judged_of lim l m
    unfolding judged_of
    breaks_2 h = rw (ap not (sym e1) ∙ k1, ap not (sym e2) ∙ h)

    module _ (k2 : not r2 ≡ false) (r3 : Bool) (e3 : r3 ≡ (l2_of (manifest_in l m) && l3_of (manifest_in l m))) where
      is_third : r3 ≡ l3_of (manifest_in l m)
      is_third = e3 ∙ rw (sym e2 ∙ not-false r2 k2)

      pub breaks_3 : not r3 ≡ true → Err 3 ≡ judged_of lim l m
      unfolding judged_of
      breaks_3 h = rw (ap not (sym e1) ∙ k1, ap not (sym e2) ∙ k2, ap not (sym is_third) ∙ h)

      module _ (k3 : not r3 ≡ false) (r4 : Bool) (e4 : r4 ≡ l4_of (manifest_in l m)) where
        pub breaks_4 : not r4 ≡ true → Err 4 ≡ judged_of lim l m
        unfolding judged_of
        breaks_4 h = rw (ap not (sym e1) ∙ k1, ap not (sym e2) ∙ k2, ap not (sym is_third) ∙ k3, ap not (sym e4) ∙ h)

        module _ (k4 : not r4 ≡ false) (r5 : Bool) (e5 : r5 ≡ l5_of (manifest_in l m)) where
          pub breaks_5 : not r5 ≡ true → Err 5 ≡ judged_of lim l m
          unfolding judged_of
          breaks_5 h = rw (ap not (sym e1) ∙ k1, ap not (sym e2) ∙ k2, ap not (sym is_third) ∙ k3, ap not (sym e4) ∙ k4, ap not (sym e5) ∙ h)

          pub breaks_none : not r5 ≡ false → Ok tt ≡ judged_of lim l m
          unfolding judged_of
          breaks_none h = rw (ap not (sym e1) ∙ k1, ap not (sym e2) ∙ k2, ap not (sym is_third) ∙ k3, ap not (sym e4) ∙ k4, ap not (sym e5) ∙ h)
