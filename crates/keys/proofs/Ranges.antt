-- THE EMPTINESS LAW: the test is true exactly where no key, of any length, is in the range.
use Prim.Native.Nat.{ℕ, zero, suc, zero-le, suc-le-suc}
use mathlib.Core.Path.{◌≡◌, refl, ap}
use mathlib.Core.List.{List, [], ◌∷◌, ◌++◌}
use mathlib.Core.Bool.{true, not}
use mathlib.Core.Logic.Iff
use mathlib.Core.Logic.{◌↔◌, ⊎_elim}
use native.Mathlib.Omega.{arith}
use Rattle.keys.specs.Says.{Says}
use Rattle.keys.specs.Key.{order_of, Below, UpTo}
use Rattle.keys.specs.Prefix.{Bytes, Under, free}
use Rattle.keys.specs.Range.{Edge, unbounded, included, excluded, Edges, From, To, In, Empty, low, top, empty_of}
use Rattle.keys.proofs.Says.{says_iff, says_not, says_true, true_says, false_says}
use Rattle.keys.proofs.ByteOrder.{either, not_both, below_irrefl, below_up_to, up_to_below, up_to_refl, says_less}
use Rattle.keys.proofs.Prefixes.{under_at, up_to_under, says_under}

-- ---- the least key above a key is that key and a 0
pub self_snoc : (a : List ℕ) → Below a (a ++ 0 ∷ [])
self_snoc [] = Below.end
self_snoc (x ∷ a) = Below.next (self_snoc a)

zero_first : (y : ℕ) (b : List ℕ) → UpTo (0 ∷ []) (y ∷ b)
zero_first zero b = UpTo.next UpTo.end
zero_first (suc y) b = UpTo.here (suc-le-suc zero-le)

snoc_below : {a k : List ℕ} → Below a k → UpTo (a ++ 0 ∷ []) k
snoc_below (Below.end {y = y} {b = b}) = zero_first y b
snoc_below (Below.here h) = UpTo.here h
snoc_below (Below.next h) = UpTo.next (snoc_below h)

pub below_snoc : {a k : List ℕ} → Below a k ↔ UpTo (a ++ 0 ∷ []) k
below_snoc {a} = (snoc_below, λ h. below_up_to (self_snoc a) h)

pub up_to_snoc : {k b : List ℕ} → UpTo k b ↔ Below k (b ++ 0 ∷ [])
up_to_snoc {k} {b} = (λ h. up_to_below h (self_snoc b), λ h. ⊎_elim (λ l. absurd (not_both h (snoc_below l))) (λ l. l) (either b k))

-- ---- a range is the keys from its least on, below its top
pub from_low : (s : Edge) (k : List ℕ) → From s k ↔ UpTo (low s) k
from_low unbounded k = (λ h. UpTo.end, λ h. tt)
from_low (included a) k = (λ h. h, λ h. h)
from_low (excluded a) k = below_snoc

pub to_top : (e : Edge) (k : List ℕ) → To k e ↔ Under k (top e)
to_top unbounded k = (λ h. free, λ h. tt)
to_top (included b) k = Iff.trans up_to_snoc under_at
to_top (excluded b) k = under_at

-- ---- bounds whose keys are bytes
abbrev pub BytesE : Edge → Type 0
BytesE unbounded = Unit
BytesE (included a) = Bytes a
BytesE (excluded a) = Bytes a

bytes_snoc : {a : List ℕ} → Bytes a → Bytes (a ++ 0 ∷ [])
bytes_snoc Bytes.none = Bytes.one {x = 0} (omega arith) Bytes.none
bytes_snoc (Bytes.one h b) = Bytes.one h (bytes_snoc b)

pub bytes_low : (s : Edge) → BytesE s → Bytes (low s)
bytes_low unbounded b = Bytes.none
bytes_low (included a) b = b
bytes_low (excluded a) b = bytes_snoc b

-- ---- the law
pub says_empty : (r : Edges) → BytesE r.start → Says (Empty r) (empty_of r.start r.end)
unfolding empty_of Empty
says_empty r b = says_iff (there, back) (says_not (says_under (low r.start) (top r.end)))
  where
    there : (Under (low r.start) (top r.end) → ⊥) → (k : List ℕ) → Bytes k → In k r → ⊥
    there n k _ w = n (up_to_under ((from_low r.start k).0 w.from) ((to_top r.end k).0 w.to))

    back : ((k : List ℕ) → Bytes k → In k r → ⊥) → Under (low r.start) (top r.end) → ⊥
    back h u =
        h (low r.start) (bytes_low r.start b)
        (record { from = (from_low r.start (low r.start)).1 (up_to_refl (low r.start)); to = (to_top r.end (low r.start)).1 u })

pub empty_law : (r : Edges) → BytesE r.start → (empty_of r.start r.end ≡ true) ↔ Empty r
empty_law r b = (says_true (says_empty r b), true_says (says_empty r b))

-- the corners: nothing is between a key and that key with a 0, and nothing is below the empty key
pub no_key_between : (a : List ℕ) → empty_of (excluded a) (excluded (a ++ 0 ∷ [])) ≡ true
unfolding empty_of
no_key_between a = ap not (false_says (says_less (a ++ 0 ∷ []) (a ++ 0 ∷ [])) below_irrefl)

pub none_below_nil : empty_of unbounded (excluded []) ≡ true
unfolding empty_of order_of
none_below_nil = refl
