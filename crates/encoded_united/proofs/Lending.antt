-- The fresh UUIDs with zeros behind them. Assumes nothing.
use Prim.Native.Nat.{ℕ, zero, suc, ◌+◌, ◌-◌, ◌*◌, ◌/◌, ◌≤◌}
use mathlib.Core.Path.{◌≡◌, refl, sym, ap, ◌∙◌}
use mathlib.Core.List.{List, [], ◌∷◌, ◌++◌}
use native.Mathlib.Omega.{arith}
use native.Mathlib.Nat.{sub-zero}
use lib.ListN.{length, take, drop, replicate}
use Rattle.ids.specs.declared.Uuid.{Uuid}
use Rattle.tables.specs.Layout.{write}
use Rattle.tables.proofs.Writes.{write_front}
use Rattle.borrows.specs.Clone.{uuids_of}
use Rattle.unite_sources.specs.Source.{Source}
use Rattle.unite.specs.United.{united_from}
use Rattle.encoded_united.specs.Steps.{lent_words}
use Rattle.encoded_union.proofs.Standing.{zeros, united_more}

-- ---- the UUIDs

drop_zeros : (n k : ℕ) → drop {A = ℕ} k (replicate n 0) ≡ replicate (n - k) 0
drop_zeros n zero = rw (sub-zero n)
drop_zeros zero (suc k) = let e : 0 - suc k ≡ 0 = omega arith in rw e
drop_zeros (suc n) (suc k) = let e : suc n - suc k ≡ n - k = omega arith in rw e (drop_zeros n k)

zero_uuids : (m : ℕ) → uuids_of (replicate m 0) ≡ zeros (m / 2)
unfolding uuids_of
zero_uuids zero = refl
zero_uuids (suc zero) = refl
zero_uuids (suc (suc m)) =
    let e : suc (suc m) / 2 ≡ suc (m / 2) = omega arith in
    rw e (ap (λ (us : List Uuid). (0, 0) ∷ us) (zero_uuids m))

more_uuids : (ws : List ℕ) (m : ℕ) → uuids_of (take (length ws / 2 * 2) ws ++ replicate m 0) ≡ uuids_of ws ++ zeros (m / 2)
unfolding uuids_of
more_uuids [] m = zero_uuids m
more_uuids (x ∷ []) m = zero_uuids m
more_uuids (x ∷ y ∷ ws) m =
    let e : length (x ∷ y ∷ ws) / 2 * 2 ≡ suc (suc (length ws / 2 * 2)) = omega arith in
    rw e (ap (λ (us : List Uuid). (x, y) ∷ us) (more_uuids ws m))

-- the union with either list
pub united_lent : (ws vs : List ℕ) (n : ℕ) → vs ≡ lent_words ws n → (ss us : List Source) → united_from ss us (uuids_of vs) ≡ united_from ss us (uuids_of ws)
unfolding lent_words
united_lent ws vs n e ss us =
    let t = take (length ws / 2 * 2) ws in
    ap (λ (z : List ℕ). united_from ss us (uuids_of z)) (e ∙ ap (λ (z : List ℕ). t ++ z) (drop_zeros n (length t)))
    ∙ ap (united_from ss us) (more_uuids ws (n - length t))
    ∙ united_more ss us (uuids_of ws) ((n - length t) / 2)

-- the part that the code cuts out, written at the front of zeros
pub lent_is : (ws d d' : List ℕ) (n : ℕ) → d' ≡ write d 0 (take (length ws / 2 * 2) ws) → d ≡ replicate n 0 → d' ≡ lent_words ws n
unfolding lent_words
lent_is ws d d' n g e = g ∙ rw e (write_front (replicate n 0) (take (length ws / 2 * 2) ws))

-- the list that was lent on, and a UUID in it for each borrow within L1
pub lent_again : (ws d d' : List ℕ) (most : ℕ) → d' ≡ lent_words ws (length d) → length d' ≡ length d → length ws + most * 2 ≤ length d → (d' ≡ lent_words ws (length d')) × (most ≤ length d' / 2)
lent_again ws d d' most e l h = (e ∙ ap (lent_words ws) (sym l), omega (arith, l))
