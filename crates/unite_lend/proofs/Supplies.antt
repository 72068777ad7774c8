-- Paths and checkpoints laid, four words a source. Assumes nothing.
use Prim.Native.Nat.{ℕ, suc, ◌+◌, ◌*◌, ◌≤◌, ◌<◌}
use mathlib.Core.Path.{◌≡◌, refl, sym, ap, ◌∙◌}
use mathlib.Core.List.{List, [], ◌∷◌, ◌++◌, map}
use native.Mathlib.Omega.{arith}
use native.Mathlib.Numerals.{add-one}
use native.Mathlib.Nat.{add-zero, zero-add, add_assoc, add-suc, suc-add}
use lib.ListN.{length, drop}
use Rattle.tables.specs.Layout.{write, up_to, joined}
use Rattle.tables.proofs.Writes.{then, write_none, write_length}
use Rattle.tables.proofs.Joined.{up_to_length, joined_append, joined_one, joined_length}
use Rattle.tables.proofs.Holds.{Holds, holds_first, holds_rest, holds_front, holds_head, holds_word, up_to_front}
use Rattle.records.specs.Row.{at, place_at}
use Rattle.records.specs.Decode.{bytes_in}
use Rattle.unite_groups.specs.Chosen.{Supply}
use Rattle.unite_groups.specs.Rows.{supply_at, supplies_in}
use Rattle.unite_sources.specs.Rows.{begins}
use Rattle.unite_lend.specs.Used.{supply_words}

supply_wide : (t : List ℕ) (b : ℕ) → length (supply_words t b) ≡ 4
unfolding supply_words
supply_wide t b = refl

pub supply_put : (t rows d d' : List ℕ) (i x b p q r s : ℕ) → x ≡ at rows (i * 7) → b ≡ x → p ≡ at t (b + 18) → q ≡ at t (b + 19) → r ≡ at t (b + 20) → s ≡ at t (b + 21)
    → d' ≡ write d (i * 4) (p ∷ q ∷ r ∷ s ∷ []) → d' ≡ write d (i * 4) (supply_words t (at rows (i * 7)))
unfolding supply_words
supply_put t rows d d' i x b p q r s e f g h k m w = w ∙ rw (g, h, k, m, f, e)

pub record Put (t rows : List ℕ) (n : ℕ) (d₀ d : List ℕ) (i : ℕ) : Type 0 where
  pub within : i ≤ n
  pub room : n * 4 ≤ length d₀
  pub long : length d ≡ length d₀
  pub is : d ≡ write d₀ 0 (joined (supply_words t) (begins rows i))

module _ (t rows : List ℕ) (n : ℕ) (d₀ : List ℕ) where
  pub put_none : n * 4 ≤ length d₀ → Put t rows n d₀ d₀ 0
  unfolding begins
  put_none h = record { within = omega arith; room = h; long = refl; is = sym (write_none d₀ 0) }

  module _ (d : List ℕ) (i : ℕ) (w : Put t rows n d₀ d i) where
    pub put_room : i < n → (i + 1) * 4 ≤ length d
    put_room h = omega (arith, w.room, w.long)

    pub put_more : (d' : List ℕ) → i < n → d' ≡ write d (i * 4) (supply_words t (at rows (i * 7))) → Put t rows n d₀ d' (i + 1)
    unfolding begins
    put_more d' h e =
        let bs = up_to (λ k. at rows (k * 7)) i in
        let b = at rows (i * 7) in
        let xs = joined (supply_words t) bs in
        let k : i * 4 ≡ 0 + length xs = rw (joined_length (supply_words t) 4 (supply_wide t) bs, up_to_length (λ j. at rows (j * 7)) i) (omega arith) in
        let m : joined (supply_words t) (bs ++ (b ∷ [])) ≡ xs ++ supply_words t b = joined_append (supply_words t) bs (b ∷ []) ∙ ap (λ (z : List ℕ). xs ++ z) (joined_one (supply_words t) b) in
        let r : i * 4 + length (supply_words t b) ≤ length d = rw (supply_wide t b) (omega (arith, w.room, w.long)) in
        record {
          within = omega arith;
          room = w.room;
          long = ap length e ∙ write_length d (i * 4) (supply_words t b) r ∙ w.long;
          is = rw (add-one i) (then d₀ d d' 0 (i * 4) xs (supply_words t b) (omega arith) w.is k e ∙ ap (λ (z : List ℕ). write d₀ 0 z) (sym m));
        }

    pub put_all : n ≤ i → d ≡ write d₀ 0 (joined (supply_words t) (begins rows n))
    put_all h = let e : i ≡ n = omega (arith, w.within) in rw e at w.is

pub ruleset puts = (put_none, put_room, put_more, put_all)

-- ---- read back

unfoldable pub supply_from : List ℕ → List ℕ → ℕ → Supply
supply_from pool t b = record { path = bytes_in pool (place_at t (b + 18)); checkpoint = (at t (b + 20), at t (b + 21)) }

supply_back : (d pool t : List ℕ) (i b : ℕ) → Holds d (i * 4) (supply_words t b) → supply_at d pool i ≡ supply_from pool t b
unfolding supply_words supply_from
supply_back d pool t i b h = simp (add_assoc, holds_head d (i * 4) (supply_words t b) h, holds_word d (i * 4) (supply_words t b) h)

supplies_read : (d pool t : List ℕ) (bs : List ℕ) (s : ℕ) → Holds d (s * 4) (joined (supply_words t) bs) → up_to (λ k. supply_at d pool (s + k)) (length bs) ≡ map (supply_from pool t) bs
supplies_read d pool t [] s h = refl
supplies_read d pool t (b ∷ bs) s h =
    let first = supply_back d pool t s b (holds_first d (s * 4) (supply_words t b) (joined (supply_words t) bs) h) in
    let next : suc s * 4 ≡ s * 4 + length (supply_words t b) = rw (supply_wide t b) (omega arith) in
    let tail = supplies_read d pool t bs (suc s) (holds_rest d (s * 4) (supply_words t b) (joined (supply_words t) bs) (suc s * 4) (sym next) h) in
    let rest : up_to (λ k. supply_at d pool (s + suc k)) (length bs) ≡ map (supply_from pool t) bs = simp (add-suc, ← suc-add) tail in
    up_to_front (λ k. supply_at d pool (s + k)) (length bs) ∙ rw (add-zero s, first, rest)

-- the paths and checkpoints that were put
pub supplies_are : (d d' pool t rows : List ℕ) (n : ℕ) → d' ≡ write d 0 (joined (supply_words t) (begins rows n)) → supplies_in d' pool n ≡ map (supply_from pool t) (begins rows n)
unfolding supplies_in begins
supplies_are d d' pool t rows n e =
    let bs = up_to (λ i. at rows (i * 7)) n in
    let h : Holds d' (0 * 4) (joined (supply_words t) bs) = rw e (holds_front (joined (supply_words t) bs) (drop (0 + length (joined (supply_words t) bs)) d)) in
    let q : up_to (supply_at d' pool) (length bs) ≡ map (supply_from pool t) bs = simp zero-add at (supplies_read d' pool t bs 0 h) in
    rw (up_to_length (λ i. at rows (i * 7)) n) at q
