-- Stores after one another, and the shortest forms by the size of what they hold.
use mathlib.Core.Path.{◌≡◌, refl, sym, ap, ◌∙◌}
use mathlib.Core.Bool.{Bool, true, false}
use mathlib.Core.List.{List, [], ◌∷◌, ◌++◌, append_assoc}
use Prim.Native.Nat.{ℕ, suc, ◌+◌, ◌/◌, ◌%◌, ◌≤◌, ◌<◌}
use native.Mathlib.Nat.{add-zero, add-suc, suc-add}
use native.Mathlib.Numerals.{add-one}
use native.Mathlib.Omega.{arith}
use lib.ListN.{length, get_or, take, drop, set, length-append, length-drop}
use lib.Seq.{sets, sets-eq, set_comm, drop_at, length-sets, drop-cons, length-take-le, get_or-take, get_or-drop}
use Rattle.keys.specs.BigEndian.{be_bytes}
use Rattle.ids.proofs.BigEndian.{length_be_bytes}
use Rattle.msgpack_put.specs.Write.{flag_bytes, bin_head, bin_bytes, id_part, tagged_bytes, Put}
use Rattle.msgpack_put.specs.declared.Tagged.{Tagged}

-- a store behind a run of stores may come first
sets_last : (l : List ℕ) (at : ℕ) (bs : List ℕ) (v : ℕ) → sets l at (bs ++ (v ∷ [])) ≡ sets (set l (at + length bs) v) at bs
sets_last l at [] v = rw add-zero
sets_last l at (b ∷ bs) v =
    let ne : (at ≡ suc at + length bs) → ⊥ = λ e. omega arith in
    sets_last (set l at b) (suc at) bs v
    ∙ ap (λ (m : List ℕ). sets m (suc at) bs) (set_comm l at (suc at + length bs) b v ne)
    ∙ ap (λ (k : ℕ). sets (set (set l k v) at b) (suc at) bs) (suc-add at (length bs) ∙ sym (add-suc at (length bs)))

-- the last of n + 1 bytes may be stored first
pub put_last : (l : List ℕ) (at j y : ℕ) → sets (set l (at + j) (y % 256)) at (be_bytes j (y / 256)) ≡ sets l at (be_bytes (j + 1) y)
unfolding be_bytes
put_last l at j y =
    rw add-one (sym (sets_last l at (be_bytes j (y / 256)) (y % 256)
    ∙ ap (λ (k : ℕ). sets (set l (at + k) (y % 256)) at (be_bytes j (y / 256))) (length_be_bytes j (y / 256))))

-- a run of stores, then another behind it
sets_append : (l : List ℕ) (i : ℕ) (a b : List ℕ) → sets (sets l i a) (i + length a) b ≡ sets l i (a ++ b)
sets_append l i [] b = rw add-zero
sets_append l i (x ∷ a) b = rw (add-suc, ← suc-add) (sets_append (set l i x) (suc i) a b)

-- one part behind another
pub put_then : (d d' d'' : List ℕ) (at p q : ℕ) (a b : List ℕ) → Put d at a p d' → Put d' p b q d'' → Put d at (a ++ b) q d''
put_then d d' d'' at p q a b h k = (
  omega (arith, length-append a b),
  k.1 ∙ ap (λ (l : List ℕ). sets l p b) h.1 ∙ ap (λ (i : ℕ). sets (sets d at a) i b) h.0 ∙ sets_append d at a b,
)

-- what is left has room
pub put_rest : (d d' : List ℕ) (at p : ℕ) (a b : List ℕ) → Put d at a p d' → at + length (a ++ b) ≤ length d → p + length b ≤ length d'
put_rest d d' at p a b h r = omega (arith, length-append a b, ap length h.1, length-sets d at a)

-- and so has its first part
pub put_first : (at l : ℕ) (a b : List ℕ) → at + length (a ++ b) ≤ l → at + length a ≤ l
put_first at l a b r = omega (arith, length-append a b)

-- what was stored stands there, before what stood behind it
pub put_stands : (d d' : List ℕ) (at p : ℕ) (bs : List ℕ) → at + length bs ≤ length d → Put d at bs p d' → drop at d' ≡ bs ++ drop (at + length bs) d
put_stands d d' at p bs r h =
    let l : length (take at d) ≡ at = length-take-le at d (omega arith) in
    rw (h.1, sets-eq bs d at r, append_assoc) (drop_at (take at d) (bs ++ drop (at + length bs) d) at l)

-- the bytes by another name
pub put_as : (d d' : List ℕ) (at p : ℕ) (a b : List ℕ) → a ≡ b → Put d at b p d' → Put d at a p d'
put_as d d' at p a b e h = rw e h

-- of a form: its first byte and the w bytes have room where the whole has
pub tagged_length : (t : Tagged) (bs : List ℕ) → bs ≡ tagged_bytes t → 1 + t.1 ≡ length bs
tagged_length t bs e = omega (arith, ap length e, length_be_bytes t.1 t.2)

pub tagged_room : (at l : ℕ) (t : Tagged) (bs : List ℕ) → bs ≡ tagged_bytes t → at + length bs ≤ l → at + 1 + t.1 ≤ l
tagged_room at l t bs e h = omega (arith, tagged_length t bs e)

-- a part of a pool
pub part_length : (pool : List ℕ) (from n : ℕ) → from + n ≤ length pool → length (take n (drop from pool)) ≡ n
part_length pool from n h = length-take-le n (drop from pool) (simp length-drop (omega arith))

-- what is left of a part, one store on
pub put_one : (out pool : List ℕ) (at from n i : ℕ) → i < n → from + n ≤ length pool
    → sets (set out (at + i) (get_or pool (from + i) 0)) (at + (i + 1)) (drop (i + 1) (take n (drop from pool))) ≡ sets out (at + i) (drop i (take n (drop from pool)))
put_one out pool at from n i h k =
    let part = take n (drop from pool) in
    let l : i < length part = omega (arith, part_length pool from n k) in
    let e : at + (i + 1) ≡ suc (at + i) = omega arith in
    let g : get_or part i 0 ≡ get_or pool (from + i) 0 = get_or-take n (drop from pool) i 0 h ∙ get_or-drop from pool i 0 in
    rw (e, drop-cons part i 0 l, g, add-one i)

-- n bytes of a number, stored
pub number_put : (d d' : List ℕ) (p n x q : ℕ) → q ≡ p + n → d' ≡ sets d p (be_bytes n x) → Put d p (be_bytes n x) q d'
number_put d d' p n x q e h = (omega (arith, length_be_bytes n x), h)

-- the parts of a bin, as they are stored
pub bin_part : (pool : List ℕ) (from n : ℕ) → from + n ≤ length pool → bin_bytes (take n (drop from pool)) ≡ bin_head n ++ take n (drop from pool)
bin_part pool from n h = ap (λ (k : ℕ). bin_head k ++ take n (drop from pool)) (part_length pool from n h)

pub id_length : (hi lo : ℕ) → length (be_bytes 8 hi ++ be_bytes 8 lo) ≡ 16
id_length hi lo = length-append (be_bytes 8 hi) (be_bytes 8 lo) ∙ omega (arith, length_be_bytes 8 hi, length_be_bytes 8 lo)

pub id_part_lem : (hi lo : ℕ) → id_part hi lo ≡ bin_head 16 ++ (be_bytes 8 hi ++ be_bytes 8 lo)
id_part_lem hi lo = ap (λ (k : ℕ). bin_head k ++ (be_bytes 8 hi ++ be_bytes 8 lo)) (id_length hi lo)

pub bin_room : (pool : List ℕ) (from n at l : ℕ) → from + n ≤ length pool → at + length (bin_bytes (take n (drop from pool))) ≤ l
    → at + length (bin_head n ++ take n (drop from pool)) ≤ l
bin_room pool from n at l h r = omega (arith, ap length (bin_part pool from n h))

pub flag_length : (b : Bool) → length (flag_bytes b) ≡ 1
flag_length false = refl
flag_length true = refl
