-- What holds of the form of every byte, by one test that antt computes over all of them.
--
use mathlib.Core.Path.{◌≡◌, sym, subst}
use mathlib.Core.Bool.{Bool, true, false}
use mathlib.Core.Logic.{⊎_elim}
use Prim.Native.Nat.{ℕ, zero, suc, ◌+◌, ◌^◌, ◌≤◌, ◌<◌}
use native.Mathlib.Nat.{le_of_suc-le-suc, not-suc-le-zero, eq-or-lt_of_le}
use native.Mathlib.Omega.{arith}
use lib.Dec.{T, leb, ltb, eqb, leb→le, ltb→lt, eqb→eq}
use Rattle.msgpack.specs.Form.{form_of}
use Rattle.msgpack.specs.declared.Kind.{Kind}
use Rattle.msgpack.specs.declared.Kind.TheVariants.{Never, Nil, False, True, Uint, Minus, Sint, Bin, Str, Float, Ext, Array, Map}

abbrev both : Bool → Bool → Bool
both true b = b
both false b = false

both_left : (a b : Bool) → T (both a b) → T a
both_left true b t = tt
both_left false b t = t

both_right : (a b : Bool) → T (both a b) → T b
both_right true b t = t
both_right false b t = absurd t

-- the test passes at each number below n
abbrev pub every : (ℕ → Bool) → ℕ → Bool
every f zero = true
every f (suc n) = both (f n) (every f n)

pub each : (f : ℕ → Bool) (n : ℕ) → T (every f n) → (k : ℕ) → k < n → T (f k)
each f zero t k h = absurd (not-suc-le-zero h)
each f (suc n) t k h =
    ⊎_elim (λ e. subst (λ (m : ℕ). T (f m)) (sym e) (both_left (f n) (every f n) t))
    (λ l. each f n (both_right (f n) (every f n) t) k l)
    (eq-or-lt_of_le (le_of_suc-le-suc h))

-- b is none of the n numbers from lo on
abbrev pub Apart : ℕ → ℕ → ℕ → Type 0
Apart lo zero b = Unit {0}
Apart lo (suc n) b = Apart lo n b × ((b ≡ lo + n) → ⊥)

pub past : (lo n : ℕ) {b : ℕ} → lo ≤ b → Apart lo n b → lo + n ≤ b
past lo zero h a = omega arith
past lo (suc n) {b} h a =
    let ih : lo + n ≤ b = past lo n h a.0 in
    let ne : (b ≡ lo + n) → ⊥ = a.1 in
    omega arith

-- of a signed number, that the form's own number is the largest of its width
signed_ok : Kind → ℕ → ℕ → Bool
signed_ok Sint w n = both (ltb 0 w) (eqb (n + 1) (256 ^ w))
signed_ok Never w n = true
signed_ok Nil w n = true
signed_ok False w n = true
signed_ok True w n = true
signed_ok Uint w n = true
signed_ok Minus w n = true
signed_ok Bin w n = true
signed_ok Str w n = true
signed_ok Float w n = true
signed_ok Ext w n = true
signed_ok Array w n = true
signed_ok Map w n = true

form_ok : ℕ → Bool
form_ok b = let f = form_of b in both (leb f.1 8) (signed_ok f.0 f.1 f.2)

all_ok : T (every form_ok 256)
unfolding form_ok signed_ok form_of
all_ok = tt

-- no width is above 8
pub width_8 : (b : ℕ) → b < 256 → (form_of b).1 ≤ 8
unfolding form_ok
width_8 b h = leb→le _ _ (both_left (leb (form_of b).1 8) (signed_ok (form_of b).0 (form_of b).1 (form_of b).2) (each form_ok 256 all_ok b h))

pub signed_width : (b : ℕ) → b < 256 → (form_of b).0 ≡ Sint → (0 < (form_of b).1) × ((form_of b).2 + 1 ≡ 256 ^ (form_of b).1)
unfolding form_ok signed_ok
signed_width b h e =
    let w = (form_of b).1 in
    let n = (form_of b).2 in
    let t : T (signed_ok (form_of b).0 w n) = both_right (leb w 8) (signed_ok (form_of b).0 w n) (each form_ok 256 all_ok b h) in
    let u : T (both (ltb 0 w) (eqb (n + 1) (256 ^ w))) = rw e at t in
    (ltb→lt 0 w (both_left (ltb 0 w) (eqb (n + 1) (256 ^ w)) u), eqb→eq _ _ (both_right (ltb 0 w) (eqb (n + 1) (256 ^ w)) u))
