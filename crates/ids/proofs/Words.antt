-- Ids in a list of words, walked from the front by an index, and what naming an id says. Assumes nothing.
use mathlib.Core.Path.{◌≡◌, refl, sym, ap, ap₂, ◌∙◌}
use mathlib.Core.Logic.{◌⊎◌, ⊎_elim}
use mathlib.Core.Logic.◌⊎◌.{inl, inr}
use mathlib.Core.List.{List, [], ◌∷◌, ◌++◌}
use mathlib.Core.Bool.{Bool, true, false, ◌||◌, or_assoc}
use Prim.Native.Nat.{ℕ, zero, suc, ◌+◌, ◌*◌, ◌<◌}
use native.Mathlib.Omega.{arith}
use lib.ListN.{length, get_or}
use Rattle.keys.specs.Says.{Says, fails}
use Rattle.keys.proofs.Says.{says_iff, says_or}
use Rattle.ids.specs.Id.{same_sst_of}
use Rattle.ids.specs.Names.{ids_of, names_of}
use Rattle.ids.specs.declared.SstId.{SstId}
use Rattle.ids.proofs.Ids.{same_sst}

-- fewer than two words hold no id
short : (ws : List ℕ) → length ws < 2 → ids_of ws ≡ []
unfolding ids_of
short [] h = refl
short (hi ∷ []) h = refl
short (hi ∷ lo ∷ ws) h = absurd (omega arith)

-- two words are the first id
front : (two ws : List ℕ) → length two ≡ 2 → ids_of (two ++ ws) ≡ (get_or two 0 0, get_or two 1 0) ∷ ids_of ws
unfolding ids_of
front [] ws h = absurd (omega arith)
front (hi ∷ []) ws h = absurd (omega arith)
front (hi ∷ lo ∷ []) ws h = refl
front (hi ∷ lo ∷ w ∷ two) ws h = absurd (omega arith)

-- what is left of the words names x exactly if the whole does; they come by two
pub record Left (ws : List ℕ) (x : SstId) (rest : List ℕ) (size : ℕ) : Type 0 where
  pub by_two : size ≡ 2
  pub same : names_of (ids_of rest) x ≡ names_of (ids_of ws) x

pub left_none : (ws : List ℕ) (x : SstId) (rest : List ℕ) (size : ℕ) → rest ≡ ws → size ≡ 2 → Left ws x rest size
left_none ws x rest size e h = record { by_two = h; same = rw e }

module _ (ws : List ℕ) (x : SstId) (rest : List ℕ) (size : ℕ) (w : Left ws x rest size) where
  -- r is what the test of the first id answers
  module _ (two later : List ℕ) (p : rest ≡ two ++ later) (h : length two ≡ size) (r : Bool) (e : r ≡ same_sst_of (get_or two 0 0, get_or two 1 0) x) where
    by_first : names_of (ids_of ws) x ≡ (r || names_of (ids_of later) x)
    unfolding names_of
    by_first = sym w.same ∙ rw (p, front two later (h ∙ w.by_two), e)

    pub left_here : r ≡ true → true ≡ names_of (ids_of ws) x
    left_here t = sym (rw t at by_first)

    pub left_more : (next : ℕ) → next ≡ size → r ≡ false → Left ws x later next
    left_more next m t = record { by_two = m ∙ w.by_two; same = sym (rw t at by_first) }

  pub left_all : length rest < size → false ≡ names_of (ids_of ws) x
  unfolding names_of
  left_all h = let l : length rest < 2 = rw w.by_two at h in rw (short rest l) at w.same

-- id sets: two lists together name what either names, so neither order nor repetition counts
pub names_append : (a b : List SstId) (x : SstId) → names_of (a ++ b) x ≡ (names_of a x || names_of b x)
unfolding names_of
names_append [] b x = refl
names_append (y ∷ a) b x = ap (λ t. same_sst_of y x || t) (names_append a b x) ∙ sym (or_assoc (same_sst_of y x) (names_of a x) (names_of b x))

-- some place of the words holds x
pub record Held (ws : List ℕ) (x : SstId) : Type 0 where
  pub at : ℕ
  pub inside : at * 2 + 1 < length ws
  pub high : get_or ws (at * 2) 0 ≡ x.0
  pub low : get_or ws (at * 2 + 1) 0 ≡ x.1

module _ (hi lo : ℕ) (ws : List ℕ) (x : SstId) where
  held_first : ◌≡◌ {A = SstId} (hi, lo) x → Held (hi ∷ lo ∷ ws) x
  held_first e = record { at = 0; inside = omega arith; high = ap (λ (a : SstId). a.0) e; low = ap (λ (a : SstId). a.1) e }

  held_later : Held ws x → Held (hi ∷ lo ∷ ws) x
  held_later h =
      let e : suc h.at * 2 ≡ suc (suc (h.at * 2)) = omega arith in
      let f : suc h.at * 2 + 1 ≡ suc (suc (h.at * 2 + 1)) = omega arith in
      record { at = suc h.at; inside = omega (arith, h.inside); high = rw e h.high; low = rw f h.low }

  held_split : (k : ℕ) → k * 2 + 1 < length (hi ∷ lo ∷ ws) → get_or (hi ∷ lo ∷ ws) (k * 2) 0 ≡ x.0 → get_or (hi ∷ lo ∷ ws) (k * 2 + 1) 0 ≡ x.1
      → (◌≡◌ {A = SstId} (hi, lo) x) ⊎ Held ws x
  held_split zero h p q = inl (ap₂ {A = ℕ} {B = ℕ} {C = SstId} (λ a b. (a, b)) p q)
  held_split (suc k) h p q =
      let e : suc k * 2 ≡ suc (suc (k * 2)) = omega arith in
      let f : suc k * 2 + 1 ≡ suc (suc (k * 2 + 1)) = omega arith in
      inr (record { at = k; inside = omega arith; high = rw e at p; low = rw f at q })

-- a list of words names x exactly if some place of it holds x
pub names_held : (ws : List ℕ) (x : SstId) → Says (Held ws x) (names_of (ids_of ws) x)
unfolding ids_of names_of
names_held [] x = fails (λ h. omega (arith, h.inside))
names_held (hi ∷ []) x = fails (λ h. omega (arith, h.inside))
names_held (hi ∷ lo ∷ ws) x =
    says_iff
    (⊎_elim (held_first hi lo ws x) (held_later hi lo ws x), (λ h. held_split hi lo ws x h.at h.inside h.high h.low))
    (says_or (same_sst (hi, lo) x) (names_held ws x))
