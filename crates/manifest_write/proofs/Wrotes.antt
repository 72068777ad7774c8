-- Writers after one another. Assumes nothing.
use mathlib.Core.Path.{◌≡◌, refl, sym, ap, ◌∙◌}
use mathlib.Core.Bool.{Bool, true, false}
use mathlib.Core.List.{List, [], ◌∷◌, ◌++◌, append_assoc, append-nil}
use Prim.Native.Nat.{ℕ, ◌+◌, ◌≤◌, ◌<◌, ◌^◌}
use native.Mathlib.Omega.{arith}
use lib.Dec.{leb}
use borrow.Author.Tests.{leb-true, leb-false}
use lib.ListN.{length, take, drop, length-append}
use lib.Seq.{length-sets, take-length}
use Rattle.msgpack_put.specs.Write.{Put, bin_bytes, array_bytes, group_bytes, concat}
use Rattle.msgpack_put.proofs.Puts.{put_then, flag_length}
use Rattle.msgpack_put.proofs.Sizes.{id_size}
use Rattle.manifest_write.specs.Wrote.{capped, Wrote}

-- ---- one value: stored where it has room, else counted

module _ (d : List ℕ) (at n : ℕ) (bs : List ℕ) (t : Bool) (len : n ≡ length bs) (told : t ≡ leb (at + n) (length d)) where
  pub room : t ≡ true → at + length bs ≤ length d
  room h = let l : at + n ≤ length d = leb-true (at + n) (length d) (sym told ∙ h) in omega arith

  pub stored : (p : ℕ) (d' : List ℕ) → t ≡ true → length d < 2 ^ 64 → Put d at bs p d' → Wrote d at bs p d'
  stored p d' h fits w =
      let l : at + length bs ≤ length d = room h in
      record { next = omega (arith, w.0); long = ap length w.1 ∙ length-sets d at bs; is = λ e k. w.1 }

  pub counted : (p : ℕ) → t ≡ false → p ≡ capped (at + n) → Wrote d at bs p d
  counted p h e =
      let l : length d < at + n = leb-false (at + n) (length d) (sym told ∙ h) in
      record { next = omega arith; long = refl; is = λ q k. absurd (omega arith) }

-- a bin of a whole slice
module _ (d : List ℕ) (at n : ℕ) (k : List ℕ) (t : Bool) (len : n ≡ length (bin_bytes k)) (told : t ≡ leb (at + n) (length d)) where
  pub bytes_room : t ≡ true → (at + length (bin_bytes (take (length k) (drop 0 k))) ≤ length d) × (0 + length k ≤ length k)
  bytes_room h = (rw (take-length k) (room d at n (bin_bytes k) t len told h), omega arith)

  pub bytes_stored : (p : ℕ) (d' : List ℕ) → t ≡ true → length d < 2 ^ 64 → Put d at (bin_bytes (take (length k) (drop 0 k))) p d' → Wrote d at (bin_bytes k) p d'
  bytes_stored p d' h fits w = stored d at n (bin_bytes k) t len told p d' h fits (rw (take-length k) at w)

-- of the bytes of a part of the pool
pub bytes_part : (d d' : List ℕ) (at p : ℕ) (k part : List ℕ) → k ≡ part → Wrote d at (bin_bytes k) p d' → Wrote d at (bin_bytes part) p d'
bytes_part d d' at p k part e w = rw e at w

-- ---- one after another

concat_append : (xs ys : List (List ℕ)) → concat (xs ++ ys) ≡ concat xs ++ concat ys
unfolding concat
concat_append [] ys = refl
concat_append (x ∷ xs) ys = rw (concat_append xs ys) (sym (append_assoc x (concat xs) (concat ys)))

module _ (d d' d'' : List ℕ) (at p q : ℕ) where
  pub then : (a b : List ℕ) → Wrote d at a p d' → Wrote d' p b q d'' → Wrote d at (a ++ b) q d''
  then a b w v =
      let n = length-append a b in
      record {
        next = omega (arith, n, w.next, v.next);
        long = v.long ∙ w.long;
        is = λ e k.
            let f : p ≡ at + length a = omega (arith, n, w.next, v.next) in
            let g : q ≡ p + length b = omega (arith, n, w.next, v.next) in
            (put_then d d' d'' at p q a b (f, w.is f (omega arith)) (g, v.is g (omega (arith, w.long)))).1;
      }

  -- the parts of a record
  pub more : (a : List ℕ) (l : List (List ℕ)) → Wrote d at a p d' → Wrote d' p (concat l) q d'' → Wrote d at (concat (a ∷ l)) q d''
  unfolding concat
  more a l w v = then a (concat l) w v

  pub several : (k l : List (List ℕ)) → Wrote d at (concat k) p d' → Wrote d' p (concat l) q d'' → Wrote d at (concat (k ++ l)) q d''
  several k l w v = rw (concat_append k l) (then (concat k) (concat l) w v)

  pub group : (l : List (List ℕ)) → Wrote d at (array_bytes (length l)) p d' → Wrote d' p (concat l) q d'' → Wrote d at (group_bytes l) q d''
  group l w v = then (array_bytes (length l)) (concat l) w v

pub last : (d d' : List ℕ) (at p : ℕ) (a : List ℕ) → Wrote d at a p d' → Wrote d at (concat (a ∷ [])) p d'
unfolding concat
last d d' at p a w = rw append-nil w

-- the bytes by another name
pub wrote_as : (d d' : List ℕ) (at p : ℕ) (a b : List ℕ) → a ≡ b → Wrote d at b p d' → Wrote d at a p d'
wrote_as d d' at p a b e w = rw e w

pub ruleset values = (room, stored, counted, flag_length, id_size)

pub ruleset parts = (group, more, last)
