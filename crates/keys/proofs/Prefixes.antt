-- What begins with a prefix is an interval of keys: from the prefix up to its successor.
use Prim.Native.Nat.{ℕ, zero, suc, ◌+◌, ◌≤◌, ◌<◌}
use mathlib.Core.Path.{◌≡◌, refl}
use mathlib.Core.List.{List, [], ◌∷◌, ◌++◌}
use mathlib.Core.Bool.{Bool, true, false}
use mathlib.Core.Logic.{◌↔◌, ⊎_elim}
use native.Mathlib.Omega.{arith}
use native.Mathlib.Numerals.{lt-add-one}
use lib.Dec.{ltb}
use lib.ListN.{get_or, replicate}
use borrow.Author.Tests.{lt-ltb, ltb-false}
use Rattle.keys.specs.Pick.{pick}
use Rattle.keys.specs.Says.{Says, holds, fails}
use Rattle.keys.specs.Key.{Below, UpTo}
use Rattle.keys.specs.Prefix.{Bytes, Begins, begins_of, Top, nowhere, at, Under, free, under, under_of, keep_before, without_ff, last_up, after}
use Rattle.keys.proofs.Says.{says_iff, says_and, says_eq}
use Rattle.keys.proofs.ByteOrder.{up_to_below, not_both, below_cons, says_less}

pub bytes_of : (a : List ℕ) → ((i : ℕ) → get_or a i 0 < 256) → Bytes a
bytes_of [] h = Bytes.none
bytes_of (x ∷ a) h = Bytes.one (h 0) (bytes_of a (λ i. h (suc i)))

pub begins_up_to : {p k : List ℕ} → Begins p k → UpTo p k
begins_up_to Begins.none = UpTo.end
begins_up_to (Begins.next h) = UpTo.next (begins_up_to h)

-- the successor, byte by byte from the front
abbrev after_step : ℕ → Top → Top
after_step x (at h) = at (x ∷ h)
after_step x nowhere = pick (ltb x 255) (at ((x + 1) ∷ [])) nowhere

after_cons : (x : ℕ) (p : List ℕ) → after (x ∷ p) ≡ after_step x (after p)
unfolding after
after_cons x p = go (without_ff p)
  where
    last : (b : Bool) → last_up (pick b (x ∷ []) []) ≡ pick b (at ((x + 1) ∷ [])) nowhere
    last true = refl
    last false = refl

    go : (q : List ℕ) → last_up (keep_before x q) ≡ after_step x (last_up q)
    go [] = last (ltb x 255)
    go (y ∷ q) = refl

after_nil : after [] ≡ nowhere
unfolding after
after_nil = refl

pub begins_under : {p k : List ℕ} → Begins p k → Under k (after p)
begins_under Begins.none = rw after_nil free
begins_under (Begins.next {x = x} {p = p} {k = k} h) = rw (after_cons x p) (go (after p) (begins_under h))
  where
    end : (b : Bool) → Under (x ∷ k) (pick b (at ((x + 1) ∷ [])) nowhere)
    end true = under (Below.here (lt-add-one x))
    end false = free

    go : (t : Top) → Under k t → Under (x ∷ k) (after_step x t)
    go nowhere f = end (ltb x 255)
    go (at h) (under u) = under (Below.next u)

-- a key from p on, and below what comes after p's, begins with p
up_to_begins : {p k : List ℕ} → Bytes k → UpTo p k → Under k (after p) → Begins p k
up_to_begins b UpTo.end u = Begins.none
up_to_begins b (UpTo.here {x = x} {y = y} {a = p} {b = k} h) u = absurd (go (after p) b (rw (after_cons x p) at u))
  where
    end : (s : Bool) → ltb x 255 ≡ s → Bytes (y ∷ k) → Under (y ∷ k) (pick s (at ((x + 1) ∷ [])) nowhere) → ⊥
    end true e b (under l) = ⊎_elim (λ l. omega arith) (λ w. not_both w.1 UpTo.end) (below_cons l)
    end false e (Bytes.one l b) u = let m : 255 ≤ x = ltb-false x 255 e in omega arith

    go : (t : Top) → Bytes (y ∷ k) → Under (y ∷ k) (after_step x t) → ⊥
    go nowhere b u = end (ltb x 255) refl b u
    go (at t) b (under l) = ⊎_elim (λ l. omega arith) (λ w. omega arith) (below_cons l)
up_to_begins (Bytes.one l b) (UpTo.next {x = x} {a = p} {b = k} h) u = Begins.next (up_to_begins b h (go (after p) (rw (after_cons x p) at u)))
  where
    go : (t : Top) → Under (x ∷ k) (after_step x t) → Under k t
    go nowhere u = free
    go (at t) (under l) = ⊎_elim (λ l. absurd (omega arith)) (λ w. under w.1) (below_cons l)

-- THE INTERVAL LAW
pub begins_between : (p k : List ℕ) → Bytes k → Begins p k ↔ (UpTo p k × Under k (after p))
begins_between p k b = (λ h. (begins_up_to h, begins_under h), λ w. up_to_begins b w.0 w.1)

-- in the paper's words: of FF bytes alone, and of none, there is no successor; else the last byte before them is one more
pub after_ff : (n : ℕ) → after (replicate n 255) ≡ nowhere
after_ff zero = after_nil
after_ff (suc n) = rw (after_cons 255 (replicate n 255), after_ff n)

pub after_last : (q : List ℕ) (x n : ℕ) → x < 255 → after (q ++ x ∷ replicate n 255) ≡ at (q ++ (x + 1) ∷ [])
after_last [] x n h = rw (after_cons x (replicate n 255), after_ff n, lt-ltb x 255 h)
after_last (y ∷ q) x n h = rw (after_cons y (q ++ x ∷ replicate n 255), after_last q x n h)

begins_cons : {x y : ℕ} {p k : List ℕ} → ((x ≡ y) × Begins p k) ↔ Begins (x ∷ p) (y ∷ k)
begins_cons = (λ w. rw w.0 (Begins.next w.1), λ h. back h)
  where
    back : {x y : ℕ} {p k : List ℕ} → Begins (x ∷ p) (y ∷ k) → (x ≡ y) × Begins p k
    back (Begins.next h) = (refl, h)

pub says_begins : (p k : List ℕ) → Says (Begins p k) (begins_of p k)
unfolding begins_of
says_begins [] k = holds Begins.none
says_begins (x ∷ p) [] = fails go
  where
    go : Begins (x ∷ p) [] → ⊥
    go h = not_both (Below.end {y = x} {b = p}) (begins_up_to h)
says_begins (x ∷ p) (y ∷ k) = says_iff begins_cons (says_and (says_eq x y) (says_begins p k))

pub begins_refl : (p : List ℕ) → Begins p p
begins_refl [] = Begins.none
begins_refl (x ∷ p) = Begins.next (begins_refl p)

-- ---- below a top
pub under_at : {k h : List ℕ} → Below k h ↔ Under k (at h)
under_at {k} {h} = (under, go)
  where
    go : Under k (at h) → Below k h
    go (under l) = l

pub up_to_under : {a k : List ℕ} {t : Top} → UpTo a k → Under k t → Under a t
up_to_under h free = free
up_to_under h (under l) = under (up_to_below h l)

pub says_under : (k : List ℕ) (t : Top) → Says (Under k t) (under_of k t)
says_under k nowhere = holds free
says_under k (at h) = says_iff under_at (says_less k h)
