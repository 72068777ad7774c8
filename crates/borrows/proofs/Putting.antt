-- Ids put one after the other, as far as there are places: one part after another, and a loop. Assumes nothing.
use Prim.Native.Nat.{ℕ, suc, ◌+◌, ◌*◌, ◌/◌, ◌^◌, ◌≤◌, ◌<◌}
use mathlib.Core.Path.{◌≡◌, refl, sym, ap, ◌∙◌}
use mathlib.Core.Bool.{Bool, true, false}
use mathlib.Core.List.{List, [], ◌∷◌, ◌++◌}
use native.Mathlib.Omega.{arith}
use native.Mathlib.Numerals.{add-one}
use native.Mathlib.Nat.{add-zero, add_assoc}
use lib.ListN.{length, length-append}
use lib.Dec.{ltb}
use borrow.Author.Tests.{ltb-true, lt-ltb, le-ltb}
use Rattle.keys.specs.Pick.{pick}
use Rattle.tables.specs.Layout.{write, up_to, joined}
use Rattle.tables.proofs.Writes.{write_none, write_length, write_write}
use Rattle.tables.proofs.Joined.{up_to_more, joined_append, joined_one}
use Rattle.ids.specs.declared.SstId.{SstId}
use Rattle.records.specs.Words.{id_words}
use Rattle.records.specs.Layout.{ids_laid}
use Rattle.records.proofs.Rows.{id_wide}
use Rattle.borrows.specs.Places.{put_at, put_from}

-- ---- one id

module _ (d : List ℕ) (n : ℕ) (x : SstId) where
  pub put_here : (row d' : List ℕ) → n < length d / 2 → row ≡ id_words x → d' ≡ write d (n * 2) row → d' ≡ put_at d n x
  put_here row d' h e w = rw (lt-ltb n (length d / 2) h) (rw e at w)

  pub put_nowhere : length d / 2 ≤ n → d ≡ put_at d n x
  put_nowhere h = rw (le-ltb n (length d / 2) h)

-- ---- ids after ids

pub put_append : (d : List ℕ) (n : ℕ) (xs ys : List SstId) → put_from d n (xs ++ ys) ≡ put_from (put_from d n xs) (n + length xs) ys
unfolding put_from
put_append d n [] ys = rw (add-zero n)
put_append d n (x ∷ xs) ys =
    let e : n + 1 + length xs ≡ n + suc (length xs) = omega arith in
    put_append (put_at d n x) (n + 1) xs ys ∙ ap (λ (m : ℕ). put_from (put_from (put_at d n x) (n + 1) xs) m ys) e

at_long : (d : List ℕ) (n : ℕ) (x : SstId) → length (put_at d n x) ≡ length d
at_long d n x = go (ltb n (length d / 2)) refl
  where
    go : (b : Bool) → ltb n (length d / 2) ≡ b → length (pick b (write d (n * 2) (id_words x)) d) ≡ length d
    go true e = let h : n < length d / 2 = ltb-true n (length d / 2) e in write_length d (n * 2) (id_words x) (rw (id_wide x) (omega arith))
    go false e = refl

pub put_long : (xs : List SstId) (d : List ℕ) (n : ℕ) → length (put_from d n xs) ≡ length d
unfolding put_from
put_long [] d n = refl
put_long (x ∷ xs) d n = put_long xs (put_at d n x) (n + 1) ∙ at_long d n x

-- where all have a place, they are laid
pub put_laid : (xs : List SstId) (d : List ℕ) (n : ℕ) → (n + length xs) * 2 ≤ length d → put_from d n xs ≡ write d (n * 2) (ids_laid xs)
unfolding put_from ids_laid
put_laid [] d n h = sym (write_none d (n * 2))
put_laid (x ∷ xs) d n h =
    let l : n < length d / 2 = omega arith in
    let d' = write d (n * 2) (id_words x) in
    let k : length d' ≡ length d = write_length d (n * 2) (id_words x) (rw (id_wide x) (omega arith)) in
    let e : (n + 1) * 2 ≡ n * 2 + length (id_words x) = rw (id_wide x) (omega arith) in
    rw (lt-ltb n (length d / 2) l) (put_laid xs d' (n + 1) (rw k (omega arith)) ∙ rw e (write_write d (n * 2) (id_words x) (ids_laid xs) (omega arith)))

-- ---- a loop over n records, each of which gives some ids

pub record Took {A : Type 0} (g : A → List SstId) (f : ℕ → A) (n : ℕ) (d₀ : List ℕ) (to₀ : ℕ) (d : List ℕ) (to k : ℕ) : Type 0 where
  pub within : k ≤ n
  pub long : length d ≡ length d₀
  pub small : to₀ + length (joined g (up_to f n)) < 2 ^ 64
  pub next : to ≡ to₀ + length (joined g (up_to f k))
  pub is : d ≡ put_from d₀ to₀ (joined g (up_to f k))

joined_more : {A : Type 0} (g : A → List SstId) (f : ℕ → A) (k : ℕ) → joined g (up_to f (k + 1)) ≡ joined g (up_to f k) ++ g (f k)
joined_more g f k = rw (add-one k) (joined_append g (up_to f k) (f k ∷ []) ∙ ap (λ (l : List SstId). joined g (up_to f k) ++ l) (joined_one g (f k)))

module _ {A : Type 0} {g : A → List SstId} {f : ℕ → A} {n : ℕ} {d₀ : List ℕ} {to₀ : ℕ} where
  pub took_none : (xs : List SstId) → xs ≡ joined g (up_to f n) → to₀ + length xs < 2 ^ 64 → Took g f n d₀ to₀ d₀ to₀ 0
  unfolding put_from
  took_none xs e h = record { within = omega arith; long = refl; small = rw e at h; next = sym (add-zero to₀); is = refl }

  module _ {d : List ℕ} {to k : ℕ} (w : Took g f n d₀ to₀ d to k) where
    -- what the next gives keeps the count small
    pub took_small : k < n → to + length (g (f k)) < 2 ^ 64
    took_small h =
        let r = up_to_more f (k + 1) n (omega arith) in
        let l : length (joined g (up_to f n)) ≡ length (joined g (up_to f k)) + length (g (f k)) + length (joined g r.0) =
        rw (r.1, joined_append g (up_to f (k + 1)) r.0, joined_more g f k, length-append, length-append) in
        omega (arith, w.small, w.next)

    pub took_more : {d' : List ℕ} {to' : ℕ} → k < n → to' ≡ to + length (g (f k)) → d' ≡ put_from d to (g (f k)) → Took g f n d₀ to₀ d' to' (k + 1)
    took_more h e p =
        record {
          within = omega arith;
          long = ap length p ∙ put_long (g (f k)) d to ∙ w.long;
          small = w.small;
          next = e ∙ rw (w.next, joined_more g f k, length-append) (add_assoc to₀ (length (joined g (up_to f k))) (length (g (f k))));
          is = p ∙ rw (w.is, w.next, joined_more g f k) (sym (put_append d₀ to₀ (joined g (up_to f k)) (g (f k))));
        }

    module _ (xs : List SstId) (q : xs ≡ joined g (up_to f n)) (h : n ≤ k) where
      pub took_next : to ≡ to₀ + length xs
      took_next = let e : k ≡ n = omega (arith, w.within) in rw q (rw e at w.next)

      pub took_is : d ≡ put_from d₀ to₀ xs
      took_is = let e : k ≡ n = omega (arith, w.within) in rw q (rw e at w.is)

pub ruleset takes = (took_none, took_small, took_more, took_next, took_is)
