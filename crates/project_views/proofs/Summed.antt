-- Parts added one after the other, up to the first that is too much. Assumes nothing.
use Rattle.std.specs.Prelude.{None, Option, Some}
use Prim.Native.Nat.{ℕ, suc, ◌+◌, ◌≤◌, ◌<◌}
use mathlib.Core.Path.{◌≡◌, refl, sym, ◌∙◌}
use mathlib.Core.Bool.{Bool, true, false}
use mathlib.Core.List.{◌++◌}
use native.Mathlib.Omega.{arith}
use native.Mathlib.Numerals.{add-one}
use Rattle.keys.specs.Pick.{pick}
use Rattle.tables.specs.Layout.{up_to}
use Rattle.tables.proofs.Joined.{up_to_more}
use Rattle.records.specs.Fill.{empty, plus, sum, fits}
use Rattle.records.specs.declared.Fill.{Fill}
use Rattle.records.proofs.Sums.{plus_empty, plus_assoc, sum_append, sum_more}
use Rattle.measure.specs.Walk.{add_of}
use Rattle.measure.proofs.Fits.{fits_part}

-- nothing added
pub added_none : (most c : Fill) → fits c most ≡ true → Some c ≡ add_of most c empty
unfolding add_of
added_none most c h = rw (plus_empty c, h)

module _ (most c a : Fill) where
  -- what the sum is, where it is not too much
  pub added_is : (d : Fill) → add_of most c a ≡ Some d → (d ≡ plus c a) × (fits d most ≡ true)
  unfolding add_of
  added_is d h = go (fits (plus c a) most) refl h
    where
      go : (b : Bool) → fits (plus c a) most ≡ b → pick b (Some (plus c a)) None ≡ Some d → (d ≡ plus c a) × (fits d most ≡ true)
      go true e h = let s : d ≡ plus c a = cc in (s, rw s e)
      go false e h = let z : ◌≡◌ {A = ℕ} 0 1 = cc in absurd (omega arith)

  -- too much with one part, too much with another
  over : add_of most c a ≡ None → fits (plus c a) most ≡ false
  unfolding add_of
  over h = go (fits (plus c a) most) h
    where
      go : (b : Bool) → pick b (Some (plus c a)) None ≡ None → b ≡ false
      go true h = let z : ◌≡◌ {A = ℕ} 0 1 = cc in absurd (omega arith)
      go false h = refl

  module _ (b g : Fill) (p : plus a b ≡ g) where
    pub added_broken : (s : Option Fill) → s ≡ add_of most c a → s ≡ None → None ≡ add_of most c g
    unfolding add_of
    added_broken s e h = rw (← p, ← plus_assoc c a b, fits_part (plus c a) b most (over (sym e ∙ h)))

    pub added_on : (s : Option Fill) (d : Fill) (r : Option Fill) → s ≡ add_of most c a → s ≡ Some d → r ≡ add_of most d b → r ≡ add_of most c g
    unfolding add_of
    added_on s d r e h k = let i = added_is d (sym e ∙ h) in k ∙ rw (i.0, ← p, plus_assoc c a b)

-- ---- a loop: the first k of the parts have been added
pub record Summed {A : Type 0} (most : Fill) (fill : A → Fill) (f : ℕ → A) (n : ℕ) (c d : Fill) (k : ℕ) : Type 0 where
  pub within : k ≤ n
  pub is : Some d ≡ add_of most c (sum fill (up_to f k))

module _ {A : Type 0} {fill : A → Fill} {f : ℕ → A} {n : ℕ} where
  pub summed_none : {most c : Fill} → fits c most ≡ true → Summed most fill f n c c 0
  summed_none {most} {c} h = record { within = omega arith; is = added_none most c h }

  module _ {most c d : Fill} {k : ℕ} (w : Summed most fill f n c d k) where
    pub summed_fits : fits d most ≡ true
    summed_fits = (added_is most c (sum fill (up_to f k)) d (sym w.is)).1

    pub summed_more : {e : Fill} (u : Option Fill) → k < n → u ≡ add_of most d (fill (f k)) → u ≡ Some e → Summed most fill f n c e (k + 1)
    summed_more {e} u l h t =
        record {
          within = omega arith;
          is = rw (add-one k) (added_on most c (sum fill (up_to f k)) (fill (f k)) (sum fill (up_to f (suc k))) (sym (sum_more fill (up_to f k) (f k))) (Some d) d (Some e) w.is refl (sym t ∙ h));
        }

    pub summed_broken : (u : Option Fill) → k < n → u ≡ add_of most d (fill (f k)) → u ≡ None → None ≡ add_of most c (sum fill (up_to f n))
    summed_broken u l h t =
        let m = up_to_more f (suc k) n l in
        let s : None ≡ add_of most c (sum fill (up_to f (suc k))) = added_on most c (sum fill (up_to f k)) (fill (f k)) (sum fill (up_to f (suc k))) (sym (sum_more fill (up_to f k) (f k))) (Some d) d None w.is refl (sym t ∙ h) in
        rw m.1 (added_broken most c (sum fill (up_to f (suc k))) (sum fill m.0) (sum fill (up_to f (suc k) ++ m.0)) (sym (sum_append fill (up_to f (suc k)) m.0)) None s refl)

    pub summed_all : n ≤ k → Some d ≡ add_of most c (sum fill (up_to f n))
    summed_all l = let e : k ≡ n = omega (arith, w.within) in rw e at w.is
