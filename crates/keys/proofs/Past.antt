-- Whether a key and a 0 is below another key, by the tests that the code makes.
use Prim.Native.Nat.{ℕ, ◌+◌}
use mathlib.Core.Path.{◌≡◌, sym, ap, ◌∙◌}
use mathlib.Core.Bool.{Bool, true, false}
use mathlib.Core.List.{List, [], ◌∷◌, ◌++◌}
use native.Mathlib.Omega.{arith}
use lib.ListN.{length, get_or, length-append}
use lib.Seq.{get_or-append_seam}
use Rattle.keys.specs.Key.{order_of, is_less, less_of, Below}
use Rattle.keys.specs.Prefix.{Begins, begins_of}
use Rattle.keys.proofs.Says.{says_true, says_false, true_says, false_says}
use Rattle.keys.proofs.ByteOrder.{up_to_not, below_trans, below_irrefl, says_less}
use Rattle.keys.proofs.Prefixes.{says_begins}
use Rattle.keys.proofs.Ranges.{below_snoc, self_snoc}

-- what begins with a key, is one longer and ends in 0 is that key and a 0
pub begins_snoc : {a b : List ℕ} → Begins a b → length b ≡ length a + 1 → get_or b (length a) 0 ≡ 0 → b ≡ a ++ 0 ∷ []
begins_snoc (Begins.none {k = k}) l e = go k l e
  where
    go : (k : List ℕ) → length k ≡ 0 + 1 → get_or k 0 0 ≡ 0 → k ≡ 0 ∷ []
    go [] l e = absurd (omega arith)
    go (x ∷ []) l e = ap (λ y. y ∷ []) e
    go (x ∷ y ∷ k) l e = absurd (omega arith)
begins_snoc (Begins.next {x = x} h) l e = ap (λ k. x ∷ k) (begins_snoc h (omega arith) e)

begins_append : (a c : List ℕ) → Begins a (a ++ c)
begins_append [] c = Begins.none
begins_append (x ∷ a) c = Begins.next (begins_append a c)

module _ (a b : List ℕ) where
  past : Below a b → (b ≡ a ++ 0 ∷ [] → ⊥) → true ≡ less_of (a ++ 0 ∷ []) b
  past h n = sym (true_says (says_less (a ++ 0 ∷ []) b) (up_to_not (below_snoc.0 h) (λ e. n (sym e))))

module _ (a b : List ℕ) (r : Bool) (e : r ≡ is_less (order_of a b)) where
  below : r ≡ true → Below a b
  below h = says_true (says_less a b) (sym e ∙ h)

  pub not_past : r ≡ false → false ≡ is_less (order_of (a ++ 0 ∷ []) b)
  not_past h = sym (false_says (says_less (a ++ 0 ∷ []) b) (λ l. says_false (says_less a b) (sym e ∙ h) (below_trans (self_snoc a) l)))

  pub past_length : r ≡ true → (length b ≡ length a + 1 → ⊥) → true ≡ is_less (order_of (a ++ 0 ∷ []) b)
  past_length h n = past a b (below h) (λ q. n (ap length q ∙ length-append a (0 ∷ [])))

  pub past_byte : r ≡ true → (get_or b (length a) 0 ≡ 0 → ⊥) → true ≡ is_less (order_of (a ++ 0 ∷ []) b)
  past_byte h n = past a b (below h) (λ q. n (rw q (get_or-append_seam a 0 [] 0)))

  pub past_begins : (s : Bool) → s ≡ begins_of a b → s ≡ false → r ≡ true → true ≡ is_less (order_of (a ++ 0 ∷ []) b)
  past_begins s f g h = past a b (below h) (λ q. says_false (says_begins a b) (sym f ∙ g) (rw q (begins_append a (0 ∷ []))))

pub past_same : (a b : List ℕ) (s : Bool) → s ≡ begins_of a b → s ≡ true → length b ≡ length a + 1 → get_or b (length a) 0 ≡ 0 → false ≡ is_less (order_of (a ++ 0 ∷ []) b)
past_same a b s f g l z =
    let e : b ≡ a ++ 0 ∷ [] = begins_snoc (says_true (says_begins a b) (sym f ∙ g)) l z in
    sym (false_says (says_less (a ++ 0 ∷ []) b) (λ m. below_irrefl (rw e at m)))

pub ruleset pasts = (not_past, past_length, past_byte, past_begins, past_same)
