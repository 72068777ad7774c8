-- The orders of starts and of ends are total orders: each is the byte order of a name for the bound.
use Prim.Native.Nat.{ℕ, ◌+◌, ◌<◌}
use mathlib.Core.Path.{◌≡◌, refl, sym, ap, ◌∙◌}
use mathlib.Core.List.{List, [], ◌∷◌}
use mathlib.Core.Logic.{◌↔◌}
use native.Mathlib.Omega.{arith}
use lib.Dec.{ltb}
use borrow.Author.Tests.{lt-ltb, le-ltb}
use Rattle.std.specs.declared.cmp.Ordering.{Ordering}
use Rattle.std.specs.declared.cmp.Ordering.TheVariants.{Less, Equal, Greater}
use Rattle.keys.specs.Pick.{pick}
use Rattle.keys.specs.Key.{order_of, is_less, Below, UpTo}
use Rattle.keys.specs.Range.{Edge, unbounded, included, excluded, From, To}
use Rattle.keys.specs.Meet.{or_else, start_order, end_order, later, earlier}
use Rattle.keys.proofs.ByteOrder.{Stand, less, same, more, stand, stand_order, StandN, less_n, same_n, more_n, stand_n, up, up_to_refl, up_to_trans, not_both, stands, of_same}

-- ---- what an order says: at most, and the other way round
abbrev pub AtMost : Ordering → Type 0
AtMost Less = Unit
AtMost Equal = Unit
AtMost Greater = ⊥

abbrev pub turn : Ordering → Ordering
turn Less = Greater
turn Equal = Equal
turn Greater = Less

pub up_to_order : (a b : List ℕ) → UpTo a b ↔ AtMost (order_of a b)
up_to_order a b = go (stand a b)
  where
    go : {o : Ordering} → Stand a b o → UpTo a b ↔ AtMost o
    go (less h) = (λ _. tt, λ _. up h)
    go (same h) = (λ _. tt, λ _. rw h (up_to_refl b))
    go (more h) = (λ k. not_both h k, λ k. absurd k)

below_order : (a b : List ℕ) → Below a b ↔ AtMost (or_else (order_of a b) Greater)
below_order a b = go (stand a b)
  where
    go : {o : Ordering} → Stand a b o → Below a b ↔ AtMost (or_else o Greater)
    go (less h) = (λ _. tt, λ _. h)
    go (same h) = (λ k. not_both k (rw h (up_to_refl b)), λ k. absurd k)
    go (more h) = (λ k. not_both h (up k), λ k. absurd k)

pub order_turn : (a b : List ℕ) → order_of b a ≡ turn (order_of a b)
order_turn a b = go (stand a b)
  where
    go : {o : Ordering} → Stand a b o → order_of b a ≡ turn o
    go (less h) = stand_order (more h)
    go (same h) = stand_order (same (sym h))
    go (more h) = stand_order (less h)

-- ---- any order of edges that is the byte order of their names
module _ (ord : Edge → Edge → Ordering) (name : Edge → List ℕ) (is : (s t : Edge) → ord s t ≡ order_of (name s) (name t)) where
  turn_by : (s t : Edge) → ord t s ≡ turn (ord s t)
  turn_by s t = rw (is s t, is t s) (order_turn (name s) (name t))

  self_by : (s : Edge) → AtMost (ord s s)
  self_by s = rw (is s s) ((up_to_order (name s) (name s)).0 (up_to_refl (name s)))

  trans_by : (s t u : Edge) → AtMost (ord s t) → AtMost (ord t u) → AtMost (ord s u)
  trans_by s t u h k =
      rw (is s u)
      ((up_to_order (name s) (name u)).0
      (up_to_trans ((up_to_order (name s) (name t)).1 (rw (is s t) at h)) ((up_to_order (name t) (name u)).1 (rw (is t u) at k))))

-- of two edges the second where the first is less, else the first: neither is above it
above_by : (ord : Edge → Edge → Ordering) → ((s t : Edge) → ord t s ≡ turn (ord s t)) → ((s : Edge) → AtMost (ord s s)) → (s t : Edge)
    → AtMost (ord s (pick (is_less (ord s t)) t s)) × AtMost (ord t (pick (is_less (ord s t)) t s))
above_by ord flip self s t = go (ord s t) refl (flip s t)
  where
    go : (o : Ordering) → ord s t ≡ o → ord t s ≡ turn o → AtMost (ord s (pick (is_less o) t s)) × AtMost (ord t (pick (is_less o) t s))
    go Less e f = (rw e tt, self t)
    go Equal e f = (self s, rw f tt)
    go Greater e f = (self s, rw f tt)

-- ---- a key's name with what stands for the bound's kind after it
abbrev code : ℕ → List ℕ → List ℕ
code f [] = f ∷ []
code f (x ∷ a) = (x + 2) ∷ code f a

code_order : (f g : ℕ) → f < 2 → g < 2 → (a b : List ℕ) → order_of (code f a) (code g b) ≡ or_else (order_of a b) (order_of (f ∷ []) (g ∷ []))
unfolding order_of
code_order f g l m [] [] = refl
code_order f g l m [] (y ∷ b) = rw (lt-ltb f (y + 2) (omega arith))
code_order f g l m (x ∷ a) [] = rw (le-ltb (x + 2) g (omega arith), lt-ltb g (x + 2) (omega arith))
code_order f g l m (x ∷ a) (y ∷ b) = go (stand_n x y) (code_order f g l m a b)
  where
    go : StandN x y → order_of (code f a) (code g b) ≡ or_else (order_of a b) (order_of (f ∷ []) (g ∷ []))
        → pick (ltb (x + 2) (y + 2)) Less (pick (ltb (y + 2) (x + 2)) Greater (order_of (code f a) (code g b)))
        ≡ or_else (pick (ltb x y) Less (pick (ltb y x) Greater (order_of a b))) (order_of (f ∷ []) (g ∷ []))
    go (less_n h) e = rw (lt-ltb x y h, lt-ltb (x + 2) (y + 2) (omega arith))
    go (same_n h) e = rw (← h) (rw (le-ltb x x (omega arith), le-ltb (x + 2) (x + 2) (omega arith)) e)
    go (more_n h) e = rw (le-ltb x y (omega arith), lt-ltb y x h, le-ltb (x + 2) (y + 2) (omega arith), lt-ltb (y + 2) (x + 2) (omega arith))

pub or_equal : (o : Ordering) → or_else o Equal ≡ o
or_equal Less = refl
or_equal Equal = refl
or_equal Greater = refl

-- ---- the order of starts
abbrev start_name : Edge → List ℕ
start_name unbounded = 0 ∷ []
start_name (included a) = 1 ∷ code 0 a
start_name (excluded a) = 1 ∷ code 1 a

start_name_lem : (s t : Edge) → start_order s t ≡ order_of (start_name s) (start_name t)
unfolding order_of
start_name_lem unbounded unbounded = refl
start_name_lem unbounded (included b) = refl
start_name_lem unbounded (excluded b) = refl
start_name_lem (included a) unbounded = refl
start_name_lem (included a) (included b) = sym (code_order 0 0 (omega arith) (omega arith) a b ∙ or_equal (order_of a b))
start_name_lem (included a) (excluded b) = sym (code_order 0 1 (omega arith) (omega arith) a b)
start_name_lem (excluded a) unbounded = refl
start_name_lem (excluded a) (included b) = sym (code_order 1 0 (omega arith) (omega arith) a b)
start_name_lem (excluded a) (excluded b) = sym (code_order 1 1 (omega arith) (omega arith) a b ∙ or_equal (order_of a b))

pub start_self : (s : Edge) → AtMost (start_order s s)
start_self = self_by start_order start_name start_name_lem

pub start_turn : (s t : Edge) → start_order t s ≡ turn (start_order s t)
start_turn = turn_by start_order start_name start_name_lem

pub start_trans : (s t u : Edge) → AtMost (start_order s t) → AtMost (start_order t u) → AtMost (start_order s u)
start_trans = trans_by start_order start_name start_name_lem

-- neither start is after the later one
pub later_above : (s t : Edge) → AtMost (start_order s (later s t)) × AtMost (start_order t (later s t))
later_above = above_by start_order start_turn start_self

-- ---- the order of ends
abbrev end_name : Edge → List ℕ
end_name unbounded = 1 ∷ []
end_name (included b) = 0 ∷ code 1 b
end_name (excluded b) = 0 ∷ code 0 b

end_name_lem : (s t : Edge) → end_order s t ≡ order_of (end_name s) (end_name t)
unfolding order_of
end_name_lem unbounded unbounded = refl
end_name_lem unbounded (included b) = refl
end_name_lem unbounded (excluded b) = refl
end_name_lem (included a) unbounded = refl
end_name_lem (included a) (included b) = sym (code_order 1 1 (omega arith) (omega arith) a b ∙ or_equal (order_of a b))
end_name_lem (included a) (excluded b) = sym (code_order 1 0 (omega arith) (omega arith) a b)
end_name_lem (excluded a) unbounded = refl
end_name_lem (excluded a) (included b) = sym (code_order 0 1 (omega arith) (omega arith) a b)
end_name_lem (excluded a) (excluded b) = sym (code_order 0 0 (omega arith) (omega arith) a b ∙ or_equal (order_of a b))

pub end_self : (s : Edge) → AtMost (end_order s s)
end_self = self_by end_order end_name end_name_lem

pub end_turn : (s t : Edge) → end_order t s ≡ turn (end_order s t)
end_turn = turn_by end_order end_name end_name_lem

pub end_trans : (s t u : Edge) → AtMost (end_order s t) → AtMost (end_order t u) → AtMost (end_order s u)
end_trans = trans_by end_order end_name end_name_lem

-- the earlier end is not after either
pub earlier_below : (s t : Edge) → AtMost (end_order (earlier s t) s) × AtMost (end_order (earlier s t) t)
earlier_below = above_by (λ s t. end_order t s) (λ s t. end_turn t s) end_self

-- ---- bounds that are equal in an order are the same
or_second : (o q : Ordering) → or_else o q ≡ Equal → q ≡ Equal
or_second Less q e = cc
or_second Equal q e = e
or_second Greater q e = cc

same_key : (a b : List ℕ) → order_of a b ≡ Equal → a ≡ b
same_key a b e = of_same (stands a b Equal e)

pub start_same : (s t : Edge) → start_order s t ≡ Equal → s ≡ t
start_same unbounded unbounded e = refl
start_same unbounded (included b) e = cc
start_same unbounded (excluded b) e = cc
start_same (included a) unbounded e = cc
start_same (included a) (included b) e = ap included (same_key a b e)
start_same (included a) (excluded b) e = let w = or_second (order_of a b) Less e in cc
start_same (excluded a) unbounded e = cc
start_same (excluded a) (included b) e = let w = or_second (order_of a b) Greater e in cc
start_same (excluded a) (excluded b) e = ap excluded (same_key a b e)

pub end_same : (s t : Edge) → end_order s t ≡ Equal → s ≡ t
end_same unbounded unbounded e = refl
end_same unbounded (included b) e = cc
end_same unbounded (excluded b) e = cc
end_same (included a) unbounded e = cc
end_same (included a) (included b) e = ap included (same_key a b e)
end_same (included a) (excluded b) e = let w = or_second (order_of a b) Greater e in cc
end_same (excluded a) unbounded e = cc
end_same (excluded a) (included b) e = let w = or_second (order_of a b) Less e in cc
end_same (excluded a) (excluded b) e = ap excluded (same_key a b e)

-- ---- a key lies from a start on where the start is not after the key, included; and likewise up to an end
pub from_order : (s : Edge) (k : List ℕ) → From s k ↔ AtMost (start_order s (included k))
from_order unbounded k = (λ h. h, λ h. h)
from_order (included a) k = up_to_order a k
from_order (excluded a) k = below_order a k

pub to_order : (e : Edge) (k : List ℕ) → To k e ↔ AtMost (end_order (included k) e)
to_order unbounded k = (λ h. h, λ h. h)
to_order (included b) k = up_to_order k b
to_order (excluded b) k = below_order k b
