-- Words entered into a table: those behind the place are moved, the new ones put there. Assumes nothing.
use Prim.Native.Nat.{ℕ, zero, suc, ◌+◌, ◌-◌, ◌*◌, ◌≤◌, ◌<◌}
use mathlib.Core.Path.{◌≡◌, refl, sym, ap, ◌∙◌}
use mathlib.Core.List.{List, [], ◌∷◌, ◌++◌, append_assoc}
use native.Mathlib.Omega.{arith}
use native.Mathlib.Nat.{add_assoc, add-mul}
use lib.ListN.{length, take, drop, length-append, take-append-drop}
use lib.Seq.{drop-append_seam, length-take-le, drop-drop, take_at, drop_at, take-append-le, take-take}
use Rattle.tables.specs.Layout.{write, up_to, joined}
use Rattle.tables.proofs.Holds.{Holds, holds_first, holds_rest}
use Rattle.tables.proofs.Joined.{joined_append, joined_one, joined_length, up_to_length}
use Rattle.tables.proofs.Writes.{write_write}
use Rattle.unite_groups.proofs.Spots.{New, Old}

module _ (t : List ℕ) (f : ℕ) (xs : List ℕ) where
  -- what is behind it
  pub holds_behind : (h : Holds t f xs) → drop (f + length xs) t ≡ h.behind
  holds_behind h = rw (← drop-drop (length xs) f t, h.is) (drop-append_seam xs h.behind)

  -- what stands there already is written for nothing
  pub write_same : Holds t f xs → write t f xs ≡ t
  write_same h = rw (holds_behind h, ← h.is) (take-append-drop f t)

  pub holds_both : (ys : List ℕ) (m : ℕ) → f + length xs ≡ m → Holds t f xs → Holds t m ys → Holds t f (xs ++ ys)
  holds_both ys m e h k =
      record {
        behind = k.behind;
        is = h.is ∙ rw (append_assoc xs ys k.behind) (ap (λ (l : List ℕ). xs ++ l) (sym (holds_behind h) ∙ ap (λ (i : ℕ). drop i t) e ∙ k.is));
      }

module _ (t : List ℕ) (f : ℕ) (pre ys : List ℕ) (l : f ≤ length t) where
  -- written after what stands there, as if that were written too
  pub write_after : (m : ℕ) → f + length pre ≡ m → Holds t f pre → write t m ys ≡ write t f (pre ++ ys)
  write_after m e h = rw (← e) (ap (λ (d : List ℕ). write d (f + length pre) ys) (sym (write_same t f pre h)) ∙ write_write t f pre ys l)

-- written before what stands there, as if that were written too
pub write_ahead : (t : List ℕ) (f : ℕ) (xs bs : List ℕ) → Holds t (f + length xs) bs → write t f xs ≡ write t f (xs ++ bs)
write_ahead t f xs bs h =
    let e : drop (f + length xs) t ≡ bs ++ drop (f + length (xs ++ bs)) t =
    h.is ∙ ap (λ (l : List ℕ). bs ++ l) (sym (holds_behind t (f + length xs) bs h) ∙ ap (λ (i : ℕ). drop i t) (add_assoc f (length xs) (length bs) ∙ ap (λ (i : ℕ). f + i) (sym (length-append xs bs)))) in
    ap (λ (l : List ℕ). take f t ++ (xs ++ l)) e ∙ ap (λ (l : List ℕ). take f t ++ l) (sym (append_assoc xs bs (drop (f + length (xs ++ bs)) t)))

-- a write of no fewer words at the same place
pub write_again : (t : List ℕ) (f : ℕ) (xs ys : List ℕ) → f ≤ length t → length xs ≤ length ys → write (write t f xs) f ys ≡ write t f ys
write_again t f xs ys l h =
    let p = take f t in
    let q : length p ≡ f = length-take-le f t l in
    let r = drop (f + length xs) t in
    let d : drop (f + length ys) (p ++ (xs ++ r)) ≡ drop (f + length ys) t =
    (let m : f + length ys ≡ (f + length xs) + (length ys - length xs) = omega arith in
    let s : length (p ++ xs) ≡ f + length xs = length-append p xs ∙ ap (λ (n : ℕ). n + length xs) q in
    rw (m, ← append_assoc p xs r, ← drop-drop (length ys - length xs) (f + length xs) ((p ++ xs) ++ r), drop_at (p ++ xs) r (f + length xs) s) (drop-drop (length ys - length xs) (f + length xs) t)) in
    ap (λ (z : List ℕ). z ++ (ys ++ drop (f + length ys) (p ++ (xs ++ r)))) (take_at p (xs ++ r) f q) ∙ ap (λ (z : List ℕ). p ++ (ys ++ z)) d

-- bs, which stand at m, moved to the right by as many words as xs has, and xs put before them
pub put_between : (t t₁ t₂ : List ℕ) (m by n : ℕ) (xs bs : List ℕ) → length xs ≡ by → length bs ≡ n → m + by ≤ length t
    → Holds t m bs → t₁ ≡ write t (m + by) (take n (drop m t)) → t₂ ≡ write t₁ m xs → t₂ ≡ write t m (xs ++ bs)
put_between t t₁ t₂ m by n xs bs e b l h w v =
    let moved : take n (drop m t) ≡ bs = rw h.is (take_at bs h.behind n b) in
    let p = take (m + by) t in
    let r = drop (m + by + length bs) t in
    let s : t₁ ≡ p ++ (bs ++ r) = rw moved at w in
    let first : take m (p ++ (bs ++ r)) ≡ take m t = take-append-le m p (bs ++ r) (rw (length-take-le (m + by) t l) (omega arith)) ∙ take-take m (m + by) t (omega arith) in
    let rest : drop (m + length xs) (p ++ (bs ++ r)) ≡ bs ++ r = rw e (drop_at p (bs ++ r) (m + by) (length-take-le (m + by) t l)) in
    let q : m + by + length bs ≡ m + length (xs ++ bs) = rw (length-append, e) (omega arith) in
    v ∙ ap (λ (z : List ℕ). write z m xs) s ∙ rw (first, rest) (ap (λ (i : ℕ). take m t ++ (xs ++ (bs ++ drop i t))) q ∙ ap (λ (z : List ℕ). take m t ++ z) (sym (append_assoc xs bs (drop (m + length (xs ++ bs)) t))))

-- ---- rows of one width

module _ {A : Type 0} (words : A → List ℕ) (w : ℕ) (wide : (x : A) → length (words x) ≡ w) where
  -- rows that are read one by one stand one after the other
  pub rows_held : (t : List ℕ) (read : ℕ → A) → ((i : ℕ) → (i + 1) * w ≤ length t → Holds t (i * w) (words (read i)))
      → (first n : ℕ) → (first + n) * w ≤ length t → Holds t (first * w) (joined words (up_to (λ k. read (first + k)) n))
  rows_held t read one first zero h = record { behind = drop (first * w) t; is = refl }
  rows_held t read one first (suc n) h =
      let xs = up_to (λ k. read (first + k)) n in
      let m : first * w + length (joined words xs) ≡ (first + n) * w = rw (joined_length words w wide xs, up_to_length (λ k. read (first + k)) n) (sym (add-mul first n w)) in
      let l : (first + n + 1) * w ≤ length t = let e : first + n + 1 ≡ first + suc n = omega arith in rw e h in
      let l₁ : (first + n) * w ≤ length t = let e : (first + n + 1) * w ≡ (first + n) * w + 1 * w = add-mul (first + n) 1 w in omega arith in
      rw (joined_append words xs (read (first + n) ∷ []), joined_one words (read (first + n)))
      (holds_both t (first * w) (joined words xs) (words (read (first + n))) ((first + n) * w) m (rows_held t read one first n l₁) (one (first + n) l))

  module _ (same : A → A) (x : A) (ys zs : List A) (first n k : ℕ) (t : List ℕ) (count : length ys ≡ n) (h : Holds t (first * w) (joined words ys)) where
    -- x at its place
    module _ (e : New x same ys zs k) (room : (first + n + 1) * w ≤ length t) where
      pub count_new : n + 1 ≡ length zs
      count_new = rw (e.is, length-append) (omega (arith, ap length e.was, length-append e.pre e.post))

      pub place_new : k ≤ n
      place_new = omega (arith, ap length e.was, length-append e.pre e.post, e.at)

      pub table_new : (t₁ t₂ : List ℕ) → t₁ ≡ write t ((first + k) * w + w) (take ((first + n) * w - (first + k) * w) (drop ((first + k) * w) t)) → t₂ ≡ write t₁ ((first + k) * w) (words x)
          → t₂ ≡ write t (first * w) (joined words zs)
      table_new t₁ t₂ u v =
          let pre = joined words e.pre in
          let bs = joined words e.post in
          let both : Holds t (first * w) (pre ++ bs) = rw (← joined_append words e.pre e.post, ← e.was) h in
          let la : length pre ≡ k * w = joined_length words w wide e.pre ∙ ap (λ (i : ℕ). i * w) e.at in
          let many : k + length e.post ≡ n = omega (arith, ap length e.was, length-append e.pre e.post, e.at) in
          let at : first * w + length pre ≡ (first + k) * w = rw la (sym (add-mul first k w)) in
          let parts : (first + n) * w ≡ (first + k) * w + length e.post * w = rw (← many, ← add_assoc first k (length e.post)) (add-mul (first + k) (length e.post) w) in
          let lb : length bs ≡ (first + n) * w - (first + k) * w = joined_length words w wide e.post ∙ omega arith in
          let last : (first + n + 1) * w ≡ (first + n) * w + 1 * w = add-mul (first + n) 1 w in
          let l : (first + k) * w + w ≤ length t = omega arith in
          let l₁ : first * w ≤ length t = omega arith in
          let between : t₂ ≡ write t ((first + k) * w) (words x ++ bs) =
          put_between t t₁ t₂ ((first + k) * w) w ((first + n) * w - (first + k) * w) (words x) bs (wide x) lb l (holds_rest t (first * w) pre bs ((first + k) * w) at both) u v in
          between
          ∙ write_after t (first * w) pre (words x ++ bs) l₁ ((first + k) * w) at (holds_first t (first * w) pre bs both)
          ∙ ap (write t (first * w)) (sym (ap (joined words) e.is ∙ joined_append words e.pre (x ∷ e.post)))

    -- the one that holds its place changed
    module _ (e : Old x same ys zs k) where
      pub count_old : n ≡ length zs
      count_old = rw (e.is, length-append) (omega (arith, ap length e.was, length-append e.pre (e.one ∷ e.post)))

      pub place_old : k < n
      place_old = omega (arith, ap length e.was, length-append e.pre (e.one ∷ e.post), e.at)

      abbrev olds : List ℕ
      olds = joined words e.pre

      old_at : first * w + length olds ≡ (first + k) * w
      old_at = rw (joined_length words w wide e.pre, e.at) (sym (add-mul first k w))

      old_holds : Holds t (first * w) (olds ++ (words e.one ++ joined words e.post))
      old_holds = rw (← joined_append words e.pre (e.one ∷ e.post), ← e.was) h

      pub one_holds : Holds t ((first + k) * w) (words e.one)
      one_holds = holds_first t ((first + k) * w) (words e.one) (joined words e.post) (holds_rest t (first * w) olds (words e.one ++ joined words e.post) ((first + k) * w) old_at old_holds)

      pub table_old : first * w ≤ length t → (t₁ : List ℕ) → t₁ ≡ write t ((first + k) * w) (words (same e.one)) → t₁ ≡ write t (first * w) (joined words zs)
      table_old l t₁ v =
          let bs = joined words e.post in
          let rest : Holds t ((first + k) * w) (words e.one ++ bs) = holds_rest t (first * w) olds (words e.one ++ bs) ((first + k) * w) old_at old_holds in
          let behind : Holds t ((first + k) * w + length (words (same e.one))) bs = rw (wide (same e.one)) (holds_rest t ((first + k) * w) (words e.one) bs ((first + k) * w + w) (rw (wide e.one)) rest) in
          v
          ∙ write_ahead t ((first + k) * w) (words (same e.one)) bs behind
          ∙ write_after t (first * w) olds (words (same e.one) ++ bs) l ((first + k) * w) old_at (holds_first t (first * w) olds (words e.one ++ bs) old_holds)
          ∙ ap (write t (first * w)) (sym (ap (joined words) e.is ∙ joined_append words e.pre (same e.one ∷ e.post)))
