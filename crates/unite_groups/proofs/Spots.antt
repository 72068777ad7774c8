-- One more among some in order: its place, and the list with it. Assumes nothing.
use Prim.Native.Nat.{ℕ, suc, ◌+◌, ◌-◌, ◌≤◌, ◌<◌}
use mathlib.Core.Path.{◌≡◌, refl, sym, ap, ◌∙◌}
use mathlib.Core.Bool.{true, false, true≢false}
use mathlib.Core.List.{List, [], ◌∷◌, ◌++◌}
use native.Mathlib.Omega.{arith}
use native.Mathlib.Nat.{add-zero, zero-add, add-suc, suc-add, sub-zero}
use native.Mathlib.Numerals.{add-one}
use lib.ListN.{length}
use Rattle.std.specs.declared.cmp.Ordering.{Ordering}
use Rattle.std.specs.declared.cmp.Ordering.TheVariants.{Less, Equal, Greater}
use Rattle.tables.specs.Layout.{up_to}
use Rattle.tables.proofs.Holds.{up_to_front}
use Rattle.unite_groups.specs.Sets.{by_order}
use Rattle.unite_groups.specs.Steps.{further, spot_of, entered}
use Rattle.unite_groups.specs.declared.Spot.{Spot}

-- the rest of some rows is the next and the rest after it
pub rest_next : {A : Type 0} (g : ℕ → A) (n k : ℕ) → k < n → up_to (λ j. g (k + j)) (n - k) ≡ g k ∷ up_to (λ j. g (suc k + j)) (n - suc k)
rest_next g n k h =
    let e : n - k ≡ suc (n - suc k) = omega arith in
    rw e (up_to_front (λ j. g (k + j)) (n - suc k) ∙ simp (add-zero, add-suc, suc-add))

pub rest_all : {A : Type 0} (g : ℕ → A) (n : ℕ) → up_to (λ j. g (0 + j)) (n - 0) ≡ up_to g n
rest_all g n = simp (zero-add, sub-zero)

-- ---- the search for the place

abbrev pub past : ℕ → Spot → Spot
past k s = record { at = k + s.at; held = s.held }

-- x is the place, and it is not before k
pub record Spotted {A : Type 0} (x : Spot) (o : A → Ordering) (g : ℕ → A) (n k : ℕ) : Type 0 where
  pub within : k ≤ n
  pub says : x ≡ past k (spot_of o (up_to (λ j. g (k + j)) (n - k)))

module _ {A : Type 0} (x : Spot) (o : A → Ordering) (g : ℕ → A) (n : ℕ) where
  pub spotted_none : (m : ℕ) → n ≡ m → x ≡ spot_of o (up_to g m) → Spotted x o g n 0
  spotted_none m e h = record { within = omega arith; says = rw (rest_all g n) (simp zero-add (rw e h)) }

  module _ (k : ℕ) (w : Spotted x o g n k) where
    module _ (h : k < n) (r : Ordering) (e : r ≡ o (g k)) where
      here : x ≡ past k (by_order r (record { at = 0; held = false }) (record { at = 0; held = true }) (further (spot_of o (up_to (λ j. g (suc k + j)) (n - suc k)))))
      unfolding spot_of
      here = rw e (rw (rest_next g n k h) at w.says)

      pub spotted_less : r ≡ Less → record { at = k; held = false } ≡ x
      spotted_less t = sym (rw (t, add-zero) at here)

      pub spotted_same : r ≡ Equal → record { at = k; held = true } ≡ x
      spotted_same t = sym (rw (t, add-zero) at here)

      pub spotted_more : r ≡ Greater → Spotted x o g n (k + 1)
      spotted_more t =
          let s = spot_of o (up_to (λ j. g (suc k + j)) (n - suc k)) in
          let z : x ≡ record { at = k + suc s.at; held = s.held } = rw t at here in
          let e : k + suc s.at ≡ suc k + s.at = omega arith in
          record { within = omega arith; says = rw (add-one k) (z ∙ ap (λ (i : ℕ). record { at = i; held = s.held }) e) }

    pub spotted_all : n ≤ k → record { at = n; held = false } ≡ x
    unfolding spot_of
    spotted_all h =
        let e : n - k ≡ 0 = omega arith in
        let d : n ≡ k = omega (arith, w.within) in
        let s : record { at = k; held = false } ≡ x = sym (rw (e, add-zero) at w.says) in
        rw d s

-- ---- the list with it

module _ {A : Type 0} (x : A) (same : A → A) where
  -- zs is ys with x at k
  pub record New (ys zs : List A) (k : ℕ) : Type 0 where
    pub pre : List A
    pub post : List A
    pub was : ys ≡ pre ++ post
    pub is : zs ≡ pre ++ (x ∷ post)
    pub at : length pre ≡ k

  -- zs is ys with the one at k changed
  pub record Old (ys zs : List A) (k : ℕ) : Type 0 where
    pub pre : List A
    pub one : A
    pub post : List A
    pub was : ys ≡ pre ++ (one ∷ post)
    pub is : zs ≡ pre ++ (same one ∷ post)
    pub at : length pre ≡ k

  new_further : (y : A) (ys zs : List A) (k : ℕ) → New ys zs k → New (y ∷ ys) (y ∷ zs) (suc k)
  new_further y ys zs k n = record { pre = y ∷ n.pre; post = n.post; was = ap (λ (l : List A). y ∷ l) n.was; is = ap (λ (l : List A). y ∷ l) n.is; at = ap suc n.at }

  old_further : (y : A) (ys zs : List A) (k : ℕ) → Old ys zs k → Old (y ∷ ys) (y ∷ zs) (suc k)
  old_further y ys zs k n = record { pre = y ∷ n.pre; one = n.one; post = n.post; was = ap (λ (l : List A). y ∷ l) n.was; is = ap (λ (l : List A). y ∷ l) n.is; at = ap suc n.at }

  module _ (o : A → Ordering) where
    pub entered_new : (ys : List A) → (spot_of o ys).held ≡ false → New ys (entered o x same ys) (spot_of o ys).at
    unfolding spot_of entered
    entered_new [] h = record { pre = []; post = []; was = refl; is = refl; at = refl }
    entered_new (y ∷ ys) h = go (o y) (entered_new ys) h
      where
        go : (r : Ordering) → ((spot_of o ys).held ≡ false → New ys (entered o x same ys) (spot_of o ys).at)
            → (by_order r (record { at = 0; held = false }) (record { at = 0; held = true }) (further (spot_of o ys))).held ≡ false
            → New (y ∷ ys) (by_order r (x ∷ y ∷ ys) (same y ∷ ys) (y ∷ entered o x same ys)) (by_order r (record { at = 0; held = false }) (record { at = 0; held = true }) (further (spot_of o ys))).at
        go Less ih h = record { pre = []; post = y ∷ ys; was = refl; is = refl; at = refl }
        go Equal ih h = absurd (true≢false h)
        go Greater ih h = new_further y ys (entered o x same ys) (spot_of o ys).at (ih h)

    pub entered_old : (ys : List A) → (spot_of o ys).held ≡ true → Old ys (entered o x same ys) (spot_of o ys).at
    unfolding spot_of entered
    entered_old [] h = absurd (true≢false (sym h))
    entered_old (y ∷ ys) h = go (o y) (entered_old ys) h
      where
        go : (r : Ordering) → ((spot_of o ys).held ≡ true → Old ys (entered o x same ys) (spot_of o ys).at)
            → (by_order r (record { at = 0; held = false }) (record { at = 0; held = true }) (further (spot_of o ys))).held ≡ true
            → Old (y ∷ ys) (by_order r (x ∷ y ∷ ys) (same y ∷ ys) (y ∷ entered o x same ys)) (by_order r (record { at = 0; held = false }) (record { at = 0; held = true }) (further (spot_of o ys))).at
        go Less ih h = absurd (true≢false (sym h))
        go Equal ih h = record { pre = []; one = y; post = ys; was = refl; is = refl; at = refl }
        go Greater ih h = old_further y ys (entered o x same ys) (spot_of o ys).at (ih h)

pub ruleset spots = (spotted_none, spotted_less, spotted_same, spotted_more, spotted_all)
