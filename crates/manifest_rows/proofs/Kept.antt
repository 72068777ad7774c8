-- Laws of rows stored and rows kept. Assumes nothing.
use Prim.Native.Nat.{ℕ, zero, suc, ◌+◌, ◌*◌, ◌/◌, ◌≤◌, ◌<◌}
use mathlib.Core.Path.{◌≡◌, refl, sym, ap, ◌∙◌}
use mathlib.Core.List.{List, [], ◌∷◌, ◌++◌}
use native.Mathlib.Omega.{arith}
use native.Mathlib.Nat.{zero-add, suc-add, suc-mul, le-div_iff_mul-le, mul-le-mul_right}
use lib.ListN.{length, take, drop, take-append-drop}
use lib.Seq.{take-nil, drop-nil, take-take, take-append_seam, take_at, drop_at, length-take-le}
use Rattle.tables.specs.Layout.{write}
use Rattle.tables.proofs.Holds.{Holds}
use Rattle.tables.proofs.Writes.{write_length}
use Rattle.manifest_rows.specs.Stored.{Stands, Kept, Laid}

module _ (w n : ℕ) where
  pub kept_refl : (t : List ℕ) → Kept w n t t
  kept_refl t = record { long = refl; same = refl }

  pub kept_trans : (t t' t'' : List ℕ) → Kept w n t t' → Kept w n t' t'' → Kept w n t t''
  kept_trans t t' t'' a b = record { long = b.long ∙ a.long; same = b.same ∙ a.same }

  pub kept_less : (m : ℕ) (t t' : List ℕ) → m ≤ n → Kept w n t t' → Kept w m t t'
  kept_less m t t' h k =
      let l : m * w ≤ n * w = mul-le-mul_right w h in
      record { long = k.long; same = sym (take-take (m * w) (n * w) t' l) ∙ ap (λ (z : List ℕ). take (m * w) z) k.same ∙ take-take (m * w) (n * w) t l }

cut : (t : List ℕ) (n k : ℕ) → take k (drop n t) ≡ drop n (take (n + k) t)
cut [] n k = rw (drop-nil n, take-nil k, take-nil (n + k), drop-nil n)
cut (x ∷ t) zero k = rw zero-add
cut (x ∷ t) (suc n) k = rw (suc-add n k) (cut t n k)

-- what stands among the first m words
same_stands : (t t' : List ℕ) (n m : ℕ) (xs : List ℕ) → n + length xs ≤ m → take m t' ≡ take m t → Stands t n xs → Stands t' n xs
same_stands t t' n m xs h e x =
    let k = length xs in
    let front : take (n + k) t' ≡ take (n + k) t = sym (take-take (n + k) m t' h) ∙ ap (λ (z : List ℕ). take (n + k) z) e ∙ take-take (n + k) m t h in
    cut t' n k ∙ ap (λ (z : List ℕ). drop n z) front ∙ sym (cut t n k) ∙ x

-- a row among the first n
pub kept_stands : (w n i : ℕ) (t t' xs : List ℕ) → i < n → length xs ≡ w → Kept w n t t' → Stands t (i * w) xs → Stands t' (i * w) xs
kept_stands w n i t t' xs h e k x =
    let l : suc i * w ≤ n * w = mul-le-mul_right w h in
    let m : i * w + w ≤ n * w = rw (suc-mul i w) at l in
    same_stands t t' (i * w) (n * w) xs (rw e m) k.same x

pub stands_holds : (t : List ℕ) (n : ℕ) (xs : List ℕ) → Stands t n xs → Holds t n xs
stands_holds t n xs e =
    record { behind = drop (length xs) (drop n t); is = sym (take-append-drop (length xs) (drop n t)) ∙ ap (λ (z : List ℕ). z ++ drop (length xs) (drop n t)) e }

module _ (row : List ℕ) (i : ℕ) (t : List ℕ) where
  pub laid_room : 0 < length row → i < length t / length row → i * length row + length row ≤ length t
  laid_room p h = rw (suc-mul i (length row)) at ((le-div_iff_mul-le p).0 h)

  pub laid_put_lem : (t' : List ℕ) → 0 < length row → i < length t / length row → t' ≡ write t (i * length row) row → Laid row i t t'
  laid_put_lem t' p h e =
      let l : i * length row + length row ≤ length t = laid_room p h in
      let m : length (take (i * length row) t) ≡ i * length row = length-take-le (i * length row) t (omega arith) in
      let post = drop (i * length row + length row) t in
      rw e
      (record {
        stands = λ _. ap (λ (z : List ℕ). take (length row) z) (drop_at (take (i * length row) t) (row ++ post) (i * length row) m) ∙ take-append_seam row post;
        kept = record { long = write_length t (i * length row) row l; same = take_at (take (i * length row) t) (row ++ post) (i * length row) m };
      })

  pub laid_not : length t / length row ≤ i → Laid row i t t
  laid_not h = record { stands = λ l. absurd (omega arith); kept = kept_refl (length row) i t }
