-- Ids: their bytes tell them apart and order as their halves do, and the tests of sameness say so. Assumes nothing.
use Rattle.std.specs.Prelude.{None, Option, Some}
use mathlib.Core.Path.{◌≡◌, refl, sym, ap, ap₂, ◌∙◌}
use mathlib.Core.List.{[], ◌++◌}
use Prim.Native.Nat.{ℕ, ◌^◌, ◌≤◌, ◌<◌}
use native.Mathlib.Omega.{arith}
use lib.Dec.{ltb}
use borrow.Author.Tests.{lt-ltb, le-ltb}
use Rattle.std.specs.declared.cmp.Ordering.{Ordering}
use Rattle.std.specs.Ordering.{MatchOrdering, nat_cmp, ordering_then}
use Rattle.std.specs.Cmp.{ranks}
use Rattle.keys.specs.Key.{order_of}
use Rattle.keys.specs.Pick.{pick}
use Rattle.std.specs.declared.cmp.Ordering.TheVariants.{Less, Equal, Greater}
use Rattle.keys.specs.BigEndian.{be_bytes}
use Rattle.keys.specs.Says.{Says, fails}
use Rattle.keys.proofs.Says.{says_iff, says_and, says_eq}
use Rattle.ids.specs.Id.{id_bytes, same_of, same_view_of, same_sst_of, marks_view_of, marks_sst_of}
use Rattle.ids.specs.declared.ViewId.{ViewId}
use Rattle.ids.specs.declared.SstId.{SstId}
use Rattle.ids.proofs.BigEndian.{be_order_then, be_order, be_apart}

module _ (a b c d : ℕ) (fa : a < 2 ^ 64) (fb : b < 2 ^ 64) (fc : c < 2 ^ 64) (fd : d < 2 ^ 64) where
  -- THE ORDER of two ids, as 16 bytes: the high halves decide, then the low ones
  pub id_order : order_of (id_bytes a b) (id_bytes c d)
      ≡ pick (ltb a c) Less (pick (ltb c a) Greater (pick (ltb b d) Less (pick (ltb d b) Greater Equal)))
  unfolding order_of
  id_order = be_order_then 8 a c (be_bytes 8 b) (be_bytes 8 d) fa fc ∙ rw (be_order 8 b d fb fd)

  -- the bytes tell ids apart
  pub id_bytes_lem : id_bytes a b ≡ id_bytes c d → (a ≡ c) × (b ≡ d)
  id_bytes_lem e =
      let p = be_apart 8 a c (be_bytes 8 b) (be_bytes 8 d) fa fc e in
      (p.0, (be_apart 8 b d [] [] fb fd (ap (λ l. l ++ []) p.1)).0)

  -- what each comparison of the halves says
  pub less_high : a < c → Less ≡ order_of (id_bytes a b) (id_bytes c d)
  less_high h = sym (rw (lt-ltb a c h) at id_order)

  pub more_high : c < a → Greater ≡ order_of (id_bytes a b) (id_bytes c d)
  more_high h = sym (rw (le-ltb a c (omega arith), lt-ltb c a h) at id_order)

  by_low : c ≤ a → a ≤ c → order_of (id_bytes a b) (id_bytes c d) ≡ pick (ltb b d) Less (pick (ltb d b) Greater Equal)
  by_low k l = rw (le-ltb a c k, le-ltb c a l) at id_order

  pub less_low : c ≤ a → a ≤ c → b < d → Less ≡ order_of (id_bytes a b) (id_bytes c d)
  less_low k l h = sym (rw (lt-ltb b d h) at (by_low k l))

  pub more_low : c ≤ a → a ≤ c → d < b → Greater ≡ order_of (id_bytes a b) (id_bytes c d)
  more_low k l h = sym (rw (le-ltb b d (omega arith), lt-ltb d b h) at (by_low k l))

  pub same_low : c ≤ a → a ≤ c → d ≤ b → b ≤ d → Equal ≡ order_of (id_bytes a b) (id_bytes c d)
  same_low k l m n = sym (rw (le-ltb b d m, le-ltb d b n) at (by_low k l))

  -- two ids order as their halves do
  pub halves_order : order_of (id_bytes a b) (id_bytes c d) ≡ ordering_then (nat_cmp a c) (nat_cmp b d)
  halves_order = sym (go (nat_cmp a c) (nat_cmp b d) (ranks a c) (ranks b d))
    where
      go : (r s : Ordering) → MatchOrdering r (a < c) (a ≡ c) (c < a) → MatchOrdering s (b < d) (b ≡ d) (d < b)
          → ordering_then r s ≡ order_of (id_bytes a b) (id_bytes c d)
      go Less s h k = less_high h
      go Greater s h k = more_high h
      go Equal Less h k = less_low (omega arith) (omega arith) k
      go Equal Greater h k = more_low (omega arith) (omega arith) k
      go Equal Equal h k = same_low (omega arith) (omega arith) (omega arith) (omega arith)

-- a test of both halves says whether two ids are one, whatever type holds the halves
module _ {A : Type 0} (hi lo : A → ℕ) (made : ℕ → ℕ → A) (whole : (a : A) → made (hi a) (lo a) ≡ a) where
  pub same_id : (a b : A) → Says (a ≡ b) (same_of (hi a) (lo a) (hi b) (lo b))
  same_id a b =
      says_iff
      ((λ h. sym (whole a) ∙ ap₂ made h.0 h.1 ∙ whole b), (λ e. (ap hi e, ap lo e)))
      (says_and (says_eq (hi a) (hi b)) (says_eq (lo a) (lo b)))

pub same_view : (a b : ViewId) → Says (a ≡ b) (same_view_of a b)
same_view = same_id (λ a. a.0) (λ a. a.1) (λ x y. (x, y)) (λ a. refl)

pub same_sst : (a b : SstId) → Says (a ≡ b) (same_sst_of a b)
same_sst = same_id (λ a. a.0) (λ a. a.1) (λ x y. (x, y)) (λ a. refl)

-- an absent watermark matches nothing, a present one its own id alone
pub marks_view : (m : Option ViewId) (v : ViewId) → Says (m ≡ Some v) (marks_view_of m v)
marks_view None v = fails (λ e. let z : ◌≡◌ {A = ℕ} 0 1 = cc in omega arith)
marks_view (Some w) v = says_iff ((λ e. ap Some e), (λ e. cc)) (same_view w v)

pub marks_sst : (m : Option SstId) (s : SstId) → Says (m ≡ Some s) (marks_sst_of m s)
marks_sst None s = fails (λ e. let z : ◌≡◌ {A = ℕ} 0 1 = cc in omega arith)
marks_sst (Some w) s = says_iff ((λ e. ap Some e), (λ e. cc)) (same_sst w s)
