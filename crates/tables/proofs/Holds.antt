-- What stands at a place of a table, whatever is before and behind it. Assumes nothing.
use Prim.Native.Nat.{ℕ, zero, suc, ◌+◌, ◌-◌, ◌*◌, ◌/◌, ◌≤◌, ◌<◌}
use mathlib.Core.Path.{◌≡◌, refl, sym, ap, ◌∙◌}
use mathlib.Core.Bool.{Bool, true, false}
use mathlib.Core.List.{List, [], ◌∷◌, ◌++◌, append_assoc}
use native.Mathlib.Omega.{arith}
use native.Mathlib.Nat.{add-zero, add-suc, suc-add, suc-mul, add-mul, le-div_iff_mul-le}
use lib.Dec.{leb}
use lib.ListN.{length, get_or, drop, length-append, length-drop}
use lib.Seq.{drop_at, drop-drop, drop-append_seam, take-append_seam, get_or-drop}
use borrow.Author.Tests.{le-leb}
use Rattle.keys.specs.Pick.{pick}
use Rattle.keys.specs.Pool.{part_of}
use Rattle.tables.specs.Layout.{up_to}
use Rattle.tables.specs.Window.{held_of}

-- xs stands in t from index n on
pub record Holds (t : List ℕ) (n : ℕ) (xs : List ℕ) : Type 0 where
  pub behind : List ℕ
  pub is : drop n t ≡ xs ++ behind

pub holds_at : (pre xs post : List ℕ) (n : ℕ) → length pre ≡ n → Holds (pre ++ (xs ++ post)) n xs
holds_at pre xs post n e = record { behind = post; is = drop_at pre (xs ++ post) n e }

pub holds_front : (xs post : List ℕ) → Holds (xs ++ post) 0 xs
holds_front xs post = record { behind = post; is = refl }

module _ (t : List ℕ) (n : ℕ) (xs ys : List ℕ) where
  pub holds_first : Holds t n (xs ++ ys) → Holds t n xs
  holds_first h = record { behind = ys ++ h.behind; is = h.is ∙ append_assoc xs ys h.behind }

  pub holds_rest : (m : ℕ) → n + length xs ≡ m → Holds t n (xs ++ ys) → Holds t m ys
  holds_rest m e h =
      record {
        behind = h.behind;
        is =
            rw (← e, ← drop-drop (length xs) n t, h.is, append_assoc xs ys h.behind)
            (drop-append_seam xs (ys ++ h.behind));
      }

pub holds_place : (t : List ℕ) (n m : ℕ) (xs : List ℕ) → n ≡ m → Holds t n xs → Holds t m xs
holds_place t n m xs e h = rw e at h

module _ (t : List ℕ) (n : ℕ) (xs : List ℕ) (h : Holds t n xs) where
  -- word j of what stands there
  pub holds_word : (j : ℕ) → get_or t (n + j) 0 ≡ get_or (xs ++ h.behind) j 0
  holds_word j = sym (get_or-drop n t j 0) ∙ ap (λ (l : List ℕ). get_or l j 0) h.is

  pub holds_head : get_or t n 0 ≡ get_or (xs ++ h.behind) 0 0
  holds_head = rw add-zero at (holds_word 0)

  -- all of it is in the table, unless it is nothing
  pub holds_within : 0 < length xs → n + length xs ≤ length t
  holds_within p =
      let e : length t - n ≡ length xs + length h.behind = sym (length-drop n t) ∙ ap length h.is ∙ length-append xs h.behind in
      omega arith

-- whichever way it is picked
pub pick_same : {A : Type 0} (b : Bool) (x : A) → pick b x x ≡ x
pick_same true x = refl
pick_same false x = refl

-- the bytes of a place are those that stand there
pub part_back : (pool : List ℕ) (from : ℕ) (k : List ℕ) → Holds pool from k → part_of pool from (length k) ≡ k
unfolding part_of
part_back pool from [] h = pick_same (leb (from + 0) (length pool)) []
part_back pool from (x ∷ xs) h =
    rw (le-leb (from + length (x ∷ xs)) (length pool) (holds_within pool from (x ∷ xs) h (omega arith)), h.is)
    (take-append_seam (x ∷ xs) h.behind)

-- a window of n rows of w words each holds them all
pub held_back : (t : List ℕ) (first n w : ℕ) (xs : List ℕ) → 0 < w → length xs ≡ n * w → Holds t (first * w) xs
    → held_of (record { first = first; count = n }) (length t / w) ≡ n
unfolding held_of
held_back t first zero w xs p e h = pick_same (leb (first + 0) (length t / w)) 0
held_back t first (suc n) w xs p e h =
    let l : first * w + length xs ≤ length t = holds_within t (first * w) xs h (rw (e, suc-mul n w) (omega arith)) in
    let m : (first + suc n) * w ≤ length t = rw (add-mul first (suc n) w, ← e) l in
    rw (le-leb (first + suc n) (length t / w) ((le-div_iff_mul-le p).1 m))

-- the first of the rows that are read, and those after it
pub up_to_front : {A : Type 0} (f : ℕ → A) (n : ℕ) → up_to f (suc n) ≡ f 0 ∷ up_to (λ k. f (suc k)) n
up_to_front f zero = refl
up_to_front f (suc n) = rw (up_to_front f n)

-- Rows that are read one after the other are xs, if each turn reads the next of them: s is where the reader stands, `Good` what
-- is still before it.
pub reads_back : {S A : Type 0} (read : ℕ → A) (at : S → ℕ) (next : S → A → S) (Good : S → List A → Type 0)
    → ((s : S) (x : A) (xs : List A) → Good s (x ∷ xs) → (read (at s) ≡ x) × (at (next s x) ≡ suc (at s)) × Good (next s x) xs)
    → (s : S) (xs : List A) → Good s xs → up_to (λ k. read (at s + k)) (length xs) ≡ xs
reads_back read at next Good turn s [] g = refl
reads_back read at next Good turn s (x ∷ xs) g =
    let h = turn s x xs g in
    let tail = reads_back read at next Good turn (next s x) xs h.2 in
    let rest : up_to (λ k. read (at s + suc k)) (length xs) ≡ xs = simp (add-suc, ← suc-add) (rw h.1 at tail) in
    up_to_front (λ k. read (at s + k)) (length xs) ∙ rw (add-zero, h.0, rest)
