-- A row entered among others: those behind it one place on. Assumes nothing.
use Prim.Native.Nat.{ℕ, zero, suc, ◌+◌, ◌-◌, ◌*◌, ◌≤◌, ◌<◌}
use mathlib.Core.Path.{◌≡◌, refl, sym, ap, ◌∙◌}
use mathlib.Core.Bool.{Bool, true, false}
use mathlib.Core.List.{List, [], ◌∷◌, ◌++◌, append_assoc, append-nil}
use native.Mathlib.Omega.{arith}
use native.Mathlib.Nat.{add_assoc, add-suc, add-zero}
use lib.ListN.{length, get_or, take, drop, length-drop}
use lib.Seq.{get_or-take, get_or-drop, length-take-le, take_at, drop_at}
use Rattle.keys.specs.Pick.{pick}
use Rattle.keys.specs.Key.{is_less}
use Rattle.keys.specs.Range.{Edge}
use Rattle.keys.specs.Meet.{start_order}
use Rattle.keys.specs.Pool.{edges_of}
use Rattle.keys.specs.declared.Range.{Range}
use Rattle.tables.specs.Layout.{write, up_to}
use Rattle.tables.proofs.Holds.{Holds, holds_at, up_to_front}
use Rattle.tables.proofs.Joined.{up_to_length}
use Rattle.tables.proofs.Writes.{write_length}
use Rattle.shift.proofs.Written.{write_before, write_in, write_behind}
use Rattle.unite_ranges.specs.Arranged.{Ranged, entered}
use Rattle.unite_ranges.specs.Rows.{ranged_at, ranged_in}
use Rattle.unite_ranges.specs.Steps.{row_words, place_of}
use Rattle.unite_ranges.proofs.Placed.{row_back}

-- ---- lists

pub place_within : {A : Type 0} (s : Edge) (ys : List (Ranged A)) → place_of s ys ≤ length ys
unfolding place_of
place_within s [] = omega arith
place_within s (y ∷ ys) = go (is_less (start_order s y.range.start)) (place_within s ys)
  where
    go : (b : Bool) → place_of s ys ≤ length ys → pick b 0 (suc (place_of s ys)) ≤ length (y ∷ ys)
    go true h = omega arith
    go false h = omega arith

pub entered_at : {A : Type 0} (x : Ranged A) (ys : List (Ranged A)) → entered x ys ≡ take (place_of x.range.start ys) ys ++ (x ∷ drop (place_of x.range.start ys) ys)
unfolding entered place_of
entered_at x [] = refl
entered_at x (y ∷ ys) = go (is_less (start_order x.range.start y.range.start)) (entered_at x ys)
  where
    go : (b : Bool) → entered x ys ≡ take (place_of x.range.start ys) ys ++ (x ∷ drop (place_of x.range.start ys) ys)
        → pick b (x ∷ y ∷ ys) (y ∷ entered x ys) ≡ take (pick b 0 (suc (place_of x.range.start ys))) (y ∷ ys) ++ (x ∷ drop (pick b 0 (suc (place_of x.range.start ys))) (y ∷ ys))
    go true h = refl
    go false h = ap (λ l. y ∷ l) h

module _ {A : Type 0} where
  up_to_same : (f g : ℕ → A) (n : ℕ) → ((k : ℕ) → k < n → f k ≡ g k) → up_to f n ≡ up_to g n
  up_to_same f g zero h = refl
  up_to_same f g (suc n) h = rw (up_to_same f g n (λ k l. h k (omega arith)), h n (omega arith))

  -- the first p, and those behind
  up_to_parts : (f : ℕ → A) (p m : ℕ) → up_to f (p + m) ≡ up_to f p ++ up_to (λ k. f (p + k)) m
  up_to_parts f p zero = rw add-zero (sym (append-nil (up_to f p)))
  up_to_parts f p (suc m) = rw (add-suc p m, up_to_parts f p m) (append_assoc (up_to f p) (up_to (λ k. f (p + k)) m) (f (p + m) ∷ []))

  -- one more at p, those behind one place on
  module _ (f g : ℕ → A) (x : A) (p m : ℕ) (before : (k : ℕ) → k < p → g k ≡ f k) (here : g p ≡ x) (behind : (k : ℕ) → k < m → g (p + suc k) ≡ f (p + k)) where
    pub up_to_entered : up_to g (p + suc m) ≡ up_to f p ++ (x ∷ up_to (λ k. f (p + k)) m)
    up_to_entered =
        up_to_parts g p (suc m)
        ∙ ap (λ l. up_to g p ++ l) (up_to_front (λ k. g (p + k)) m)
        ∙ rw (add-zero p, here, up_to_same g f p before, up_to_same (λ k. g (p + suc k)) (λ k. f (p + k)) m behind)

  pub up_to_take : (f : ℕ → A) (p m : ℕ) → take p (up_to f (p + m)) ≡ up_to f p
  up_to_take f p m = ap (take p) (up_to_parts f p m) ∙ take_at (up_to f p) (up_to (λ k. f (p + k)) m) p (up_to_length f p)

  pub up_to_drop : (f : ℕ → A) (p m : ℕ) → drop p (up_to f (p + m)) ≡ up_to (λ k. f (p + k)) m
  up_to_drop f p m = ap (drop p) (up_to_parts f p m) ∙ drop_at (up_to f p) (up_to (λ k. f (p + k)) m) p (up_to_length f p)

pub place_in : (pool t : List ℕ) (n p : ℕ) (s : Edge) → p ≡ place_of s (ranged_in pool t n) → p ≤ n
unfolding ranged_in
place_in pool t n p s e = omega (arith, e, place_within s (up_to (ranged_at pool t) n), up_to_length (ranged_at pool t) n)

-- ---- words

pub row_wide : (what : ℕ) (r : Range) → length (row_words what r) ≡ 7
unfolding row_words
row_wide what r = refl

-- two rows of the same words
pub row_same : (pool t u : List ℕ) (i j : ℕ) → ((k : ℕ) → k < 7 → get_or t (i * 7 + k) 0 ≡ get_or u (j * 7 + k) 0) → ranged_at pool t i ≡ ranged_at pool u j
row_same pool t u i j h =
    let z : get_or t (i * 7) 0 ≡ get_or u (j * 7) 0 = rw (add-zero (i * 7), add-zero (j * 7)) at (h 0 (omega arith)) in
    rw (add_assoc (i * 7) 1 1, add_assoc (i * 7) 1 2, add_assoc (i * 7) 4 1, add_assoc (i * 7) 4 2, add_assoc (j * 7) 1 1, add_assoc (j * 7) 1 2, add_assoc (j * 7) 4 1, add_assoc (j * 7) 4 2, z, h 1 (omega arith), h 2 (omega arith), h 3 (omega arith), h 4 (omega arith), h 5 (omega arith), h 6 (omega arith))

-- rows t, of which those from p up to n were moved on by one, and then the row xs put at p
module _ (pool t u v xs : List ℕ) (n p : ℕ) (wide : length xs ≡ 7) (le : p ≤ n) (room : (n + 1) * 7 ≤ length t)
    (moved : u ≡ write t (p * 7 + 7) (take (n * 7 - p * 7) (drop (p * 7) t))) (put : v ≡ write u (p * 7) xs)
  where
    abbrev ms : List ℕ
    ms = take (n * 7 - p * 7) (drop (p * 7) t)

    ms_long : length ms ≡ n * 7 - p * 7
    ms_long = length-take-le (n * 7 - p * 7) (drop (p * 7) t) (rw (length-drop (p * 7) t) (omega arith))

    u_long : length u ≡ length t
    u_long = ap length moved ∙ write_length t (p * 7 + 7) ms (omega (arith, ms_long))

    pub entered_long : length v ≡ length t
    entered_long = ap length put ∙ write_length u (p * 7) xs (omega (arith, u_long, wide)) ∙ u_long

    words_before : (i : ℕ) → i < p * 7 → get_or v i 0 ≡ get_or t i 0
    words_before i h =
        ap (λ (l : List ℕ). get_or l i 0) put ∙ write_before u (p * 7) xs i (omega (arith, u_long)) h
        ∙ ap (λ (l : List ℕ). get_or l i 0) moved ∙ write_before t (p * 7 + 7) ms i (omega arith) (omega arith)

    words_behind : (i : ℕ) → i < n * 7 - p * 7 → get_or v (p * 7 + (7 + i)) 0 ≡ get_or t (p * 7 + i) 0
    words_behind i h =
        ap (λ (l : List ℕ). get_or l (p * 7 + (7 + i)) 0) put
        ∙ write_behind u (p * 7) xs 7 i wide (omega (arith, u_long))
        ∙ ap (λ (l : List ℕ). get_or l (p * 7 + 7 + i) 0) moved
        ∙ write_in t (p * 7 + 7) ms i (omega arith) (omega (arith, ms_long))
        ∙ get_or-take (n * 7 - p * 7) (drop (p * 7) t) i 0 h
        ∙ get_or-drop (p * 7) t i 0

    row_put : Holds v (p * 7) xs
    row_put = rw put (holds_at (take (p * 7) u) xs (drop (p * 7 + length xs) u) (p * 7) (length-take-le (p * 7) u (omega (arith, u_long))))

    rows_before : (k : ℕ) → k < p → ranged_at pool v k ≡ ranged_at pool t k
    rows_before k h = row_same pool v t k k (λ j l. words_before (k * 7 + j) (omega arith))

    rows_behind : (k : ℕ) → k < n - p → ranged_at pool v (p + suc k) ≡ ranged_at pool t (p + k)
    rows_behind k h =
        row_same pool v t (p + suc k) (p + k)
        (λ j l. let a : (p + suc k) * 7 + j ≡ p * 7 + (7 + (k * 7 + j)) = omega arith in let b : (p + k) * 7 + j ≡ p * 7 + (k * 7 + j) = omega arith in rw (a, b) (words_behind (k * 7 + j) (omega arith)))

    pub rows_entered : (what : ℕ) (r : Range) → xs ≡ row_words what r → p ≡ place_of (edges_of pool r).start (ranged_in pool t n)
        → ranged_in pool v (n + 1) ≡ entered (record { what = what; range = edges_of pool r }) (ranged_in pool t n)
    unfolding ranged_in
    rows_entered what r w q =
        let x : Ranged ℕ = record { what = what; range = edges_of pool r } in
        let f = ranged_at pool t in
        let g = ranged_at pool v in
        let m = n - p in
        let a : n + 1 ≡ p + suc m = omega arith in
        let b : n ≡ p + m = omega arith in
        let here : g p ≡ x = row_back pool v p what r (rw (← w) row_put) in
        let e : up_to g (n + 1) ≡ up_to f p ++ (x ∷ up_to (λ k. f (p + k)) m) = rw a (up_to_entered f g x p m rows_before here rows_behind) in
        let c : take p (up_to f n) ++ (x ∷ drop p (up_to f n)) ≡ up_to f p ++ (x ∷ up_to (λ k. f (p + k)) m) = rw (ap (up_to f) b, up_to_take f p m, up_to_drop f p m) in
        e ∙ sym c ∙ ap (λ (k : ℕ). take k (up_to f n) ++ (x ∷ drop k (up_to f n))) q ∙ sym (entered_at x (up_to f n))
