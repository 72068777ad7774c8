-- What the arms of a match on an order or a bound know.
use Prim.Native.Nat.{ℕ}
use mathlib.Core.Path.{◌≡◌, refl, sym, ◌∙◌}
use mathlib.Core.Bool.{Bool, true, false, ◌||◌}
use mathlib.Core.List.{List}
use mathlib.Core.Logic.{◌↔◌, ◌⊎◌, ⊎_elim}
use mathlib.Core.Logic.◌⊎◌.{inl, inr}
use lib.ListN.{get_or}
use mir.Syntax.{w8}
use mir.Val.{Fits}
use Rattle.std.specs.declared.cmp.Ordering.{Ordering}
use Rattle.std.specs.declared.cmp.Ordering.TheVariants.{Less, Equal, Greater}
use Rattle.keys.specs.declared.Bound.{Bound}
use Rattle.keys.specs.declared.Bound.TheVariants.{Unbounded, Included, Excluded}
use Rattle.keys.specs.Key.{order_of, is_less, less_of, Below}
use Rattle.keys.specs.Prefix.{Bytes, Begins, begins_of, Under, under_of, after}
use Rattle.keys.specs.Range.{Edge, unbounded, included, excluded}
use Rattle.keys.specs.Meet.{beside, start_order, end_order}
use Rattle.keys.specs.Pool.{part_of, edge_of}
use Rattle.keys.proofs.Says.{says_same, says_or}
use Rattle.keys.proofs.ByteOrder.{up, either, says_less}
use Rattle.keys.proofs.Prefixes.{begins_refl, begins_under, begins_between, says_begins, up_to_under, says_under}
use Rattle.keys.proofs.Places.{bytes_fit}
use Rattle.keys.proofs.Sorts.{or_equal}

-- ---- below a prefix's successor: below the prefix, or begun by it
near_at : (k p : List ℕ) → Bytes k → (Below k p ⊎ Begins p k) ↔ Under k (after p)
near_at k p b = (
  λ w. ⊎_elim (λ l. up_to_under (up l) (begins_under (begins_refl p))) (λ l. begins_under l) w,
  λ u. ⊎_elim inl (λ l. inr ((begins_between p k b).1 (l, u))) (either k p),
)

pub near_is : (k p : List ℕ) → Bytes k → (less_of k p || begins_of p k) ≡ under_of k (after p)
near_is k p b = says_same (near_at k p b) (says_or (says_less k p) (says_begins p k)) (says_under k (after p))

module _ (k p : List ℕ) (b : (i : ℕ) → Fits w8 (get_or k i 0)) (r : Bool) (e : r ≡ is_less (order_of k p)) where
  pub near_less : r ≡ true → r ≡ under_of k (after p)
  near_less h = h ∙ (rw (sym e ∙ h) at (near_is k p (bytes_fit k b)))

  pub near_begins : (q : Bool) → r ≡ false → q ≡ begins_of p k → q ≡ under_of k (after p)
  near_begins q h d = d ∙ (rw (sym e ∙ h) at (near_is k p (bytes_fit k b)))

pub ruleset nears = (near_less, near_begins)

-- ---- the order of starts and that of ends
beside_start : (a : List ℕ) (t : Edge) → beside a t Greater Equal Less ≡ start_order (included a) t
beside_start a unbounded = refl
beside_start a (included b) = or_equal (order_of a b)
beside_start a (excluded b) = refl

past_start : (a : List ℕ) (t : Edge) → beside a t Greater Greater Equal ≡ start_order (excluded a) t
past_start a unbounded = refl
past_start a (included b) = refl
past_start a (excluded b) = or_equal (order_of a b)

beside_end : (a : List ℕ) (t : Edge) → beside a t Less Equal Greater ≡ end_order (included a) t
beside_end a unbounded = refl
beside_end a (included b) = or_equal (order_of a b)
beside_end a (excluded b) = refl

past_end : (a : List ℕ) (t : Edge) → beside a t Less Less Equal ≡ end_order (excluded a) t
past_end a unbounded = refl
past_end a (included b) = refl
past_end a (excluded b) = or_equal (order_of a b)

module _ (pa pb : List ℕ) (a b : Bound) where
  pub start_free : a ≡ Unbounded → b ≡ Unbounded → Equal ≡ start_order (edge_of pa a) (edge_of pb b)
  start_free e f = rw (e, f)

  pub end_free : a ≡ Unbounded → b ≡ Unbounded → Equal ≡ end_order (edge_of pa a) (edge_of pb b)
  end_free e f = rw (e, f)

  module _ (at len : ℕ) where
    pub start_to_included : a ≡ Unbounded → b ≡ Included at len → Less ≡ start_order (edge_of pa a) (edge_of pb b)
    start_to_included e f = rw (e, f)

    pub start_to_excluded : a ≡ Unbounded → b ≡ Excluded at len → Less ≡ start_order (edge_of pa a) (edge_of pb b)
    start_to_excluded e f = rw (e, f)

    pub end_to_included : a ≡ Unbounded → b ≡ Included at len → Greater ≡ end_order (edge_of pa a) (edge_of pb b)
    end_to_included e f = rw (e, f)

    pub end_to_excluded : a ≡ Unbounded → b ≡ Excluded at len → Greater ≡ end_order (edge_of pa a) (edge_of pb b)
    end_to_excluded e f = rw (e, f)

  module _ (at len : ℕ) (k : List ℕ) (r : Ordering) (q : k ≡ part_of pa at len) where
    pub start_included : a ≡ Included at len → r ≡ beside k (edge_of pb b) Greater Equal Less → r ≡ start_order (edge_of pa a) (edge_of pb b)
    start_included e h = rw e (rw q at (h ∙ beside_start k (edge_of pb b)))

    pub start_excluded : a ≡ Excluded at len → r ≡ beside k (edge_of pb b) Greater Greater Equal → r ≡ start_order (edge_of pa a) (edge_of pb b)
    start_excluded e h = rw e (rw q at (h ∙ past_start k (edge_of pb b)))

    pub end_included : a ≡ Included at len → r ≡ beside k (edge_of pb b) Less Equal Greater → r ≡ end_order (edge_of pa a) (edge_of pb b)
    end_included e h = rw e (rw q at (h ∙ beside_end k (edge_of pb b)))

    pub end_excluded : a ≡ Excluded at len → r ≡ beside k (edge_of pb b) Less Less Equal → r ≡ end_order (edge_of pa a) (edge_of pb b)
    end_excluded e h = rw e (rw q at (h ∙ past_end k (edge_of pb b)))

pub ruleset starts = (start_free, start_to_included, start_to_excluded, start_included, start_excluded)

pub ruleset ends = (end_free, end_to_included, end_to_excluded, end_included, end_excluded)
