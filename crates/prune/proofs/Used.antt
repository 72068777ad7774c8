-- The ids of a window that are in use, counted and listed. Assumes nothing.
use Prim.Native.Nat.{ℕ, zero, suc, ◌+◌, ◌*◌, ◌/◌, ◌≤◌, ◌<◌}
use mathlib.Core.Path.{◌≡◌, refl, sym, ap, ◌∙◌}
use mathlib.Core.Bool.{Bool, true, false}
use mathlib.Core.List.{List, [], ◌∷◌, ◌++◌, append-nil}
use native.Mathlib.Omega.{arith}
use native.Mathlib.Numerals.{add-one}
use lib.ListN.{length, length-append}
use Rattle.keys.specs.Pick.{pick}
use Rattle.ids.specs.Names.{names_of}
use Rattle.ids.specs.declared.SstId.{SstId}
use Rattle.tables.specs.Layout.{write, up_to}
use Rattle.tables.specs.Window.{held_of}
use Rattle.tables.specs.declared.Window.{Window}
use Rattle.tables.proofs.Joined.{joined_append}
use Rattle.tables.proofs.Writes.{write_none}
use Rattle.records.specs.Row.{id_at}
use Rattle.records.specs.Decode.{ids_in}
use Rattle.records.specs.Words.{id_words}
use Rattle.records.specs.Fill.{plus, ids as id_cells}
use Rattle.records.specs.Layout.{ids_laid}
use Rattle.records.specs.declared.Fill.{Fill}
use Rattle.records.proofs.Sums.{plus_empty}
use Rattle.project_views.proofs.Many.{all}
use Rattle.project_views.proofs.Ids.{LaidIds}
use Rattle.prune.specs.Prune.{used_only}

used_append : (used xs ys : List SstId) → used_only used (xs ++ ys) ≡ used_only used xs ++ used_only used ys
used_append used [] ys = refl
used_append used (x ∷ xs) ys = go (names_of used x) (used_append used xs ys)
  where
    go : (b : Bool) → used_only used (xs ++ ys) ≡ used_only used xs ++ used_only used ys → pick b (x ∷ used_only used (xs ++ ys)) (used_only used (xs ++ ys)) ≡ pick b (x ∷ used_only used xs) (used_only used xs) ++ used_only used ys
    go true e = ap (λ l. x ∷ l) e
    go false e = e

-- ---- one id

module _ (used : List SstId) (x : SstId) (b : Bool) (e : b ≡ names_of used x) where
  one_used : b ≡ true → used_only used (x ∷ []) ≡ x ∷ []
  one_used h = rw (sym e ∙ h)

  one_unused : b ≡ false → used_only used (x ∷ []) ≡ []
  one_unused h = rw (sym e ∙ h)

  pub one_counted : b ≡ true → 1 ≡ length (used_only used (x ∷ []))
  one_counted h = rw (one_used h)

  pub none_counted : b ≡ false → 0 ≡ length (used_only used (x ∷ []))
  none_counted h = rw (one_unused h)

  module _ (c : Fill) (d : List ℕ) where
    pub one_room : (n : ℕ) → b ≡ true → (c.ids + length (used_only used (x ∷ []))) * 2 ≤ n → (c.ids + 1) * 2 ≤ n
    one_room n h r = rw (one_used h) at r

    pub one_laid : (q : Fill) (d' : List ℕ) → b ≡ true → q ≡ plus c (id_cells 1) → d' ≡ write d (c.ids * 2) (id_words x) → LaidIds c q d d' (used_only used (x ∷ []))
    unfolding ids_laid
    one_laid q d' h p w = rw (one_used h) (p, w ∙ ap (write d (c.ids * 2)) (sym (append-nil (id_words x))))

    pub none_laid : b ≡ false → LaidIds c c d d (used_only used (x ∷ []))
    unfolding ids_laid
    none_laid h = rw (one_unused h) (sym (plus_empty c), sym (write_none d (c.ids * 2)))

-- ---- n ids

one_most : (used : List SstId) (x : SstId) → length (used_only used (x ∷ [])) ≤ 1
one_most used x = go (names_of used x)
  where
    go : (b : Bool) → length (pick b (x ∷ []) []) ≤ 1
    go true = omega arith
    go false = omega arith

-- the first k were counted: m are in use
pub record Counted (used : List SstId) (f : ℕ → SstId) (n m k : ℕ) : Type 0 where
  pub within : k ≤ n
  pub most : m ≤ k
  pub is : m ≡ length (used_only used (up_to f k))

module _ {used : List SstId} {f : ℕ → SstId} {n : ℕ} where
  pub counted_none : Counted used f n 0 0
  counted_none = record { within = omega arith; most = omega arith; is = refl }

  module _ {m k : ℕ} (w : Counted used f n m k) where
    pub counted_small : (u : ℕ) → k < n → u ≡ length (used_only used (f k ∷ [])) → m + u ≤ n
    counted_small u h e = omega (arith, w.most, one_most used (f k))

    pub counted_more : (u m' : ℕ) → k < n → u ≡ length (used_only used (f k ∷ [])) → m' ≡ m + u → Counted used f n m' (k + 1)
    counted_more u m' h e p =
        record {
          within = omega arith;
          most = omega (arith, w.most, one_most used (f k));
          is = rw (add-one k, used_append used (up_to f k) (f k ∷ []), length-append (used_only used (up_to f k)) (used_only used (f k ∷ []))) (omega (arith, w.is));
        }

    pub counted_all : n ≤ k → m ≡ length (used_only used (up_to f n))
    counted_all h = let e : k ≡ n = omega (arith, w.within) in rw e at w.is

-- id by id
used_all : (used : List SstId) (f : ℕ → SstId) (n : ℕ) → used_only used (up_to f n) ≡ all (up_to (λ k. used_only used (f k ∷ [])) n)
used_all used f zero = refl
used_all used f (suc n) =
    used_append used (up_to f n) (f n ∷ [])
    ∙ rw (used_all used f n, joined_append (λ x. x) (up_to (λ k. used_only used (f k ∷ [])) n) (used_only used (f n ∷ []) ∷ []), append-nil (used_only used (f n ∷ [])))

-- the pieces of the ids from `first` on
abbrev pub used_in : List SstId → List ℕ → ℕ → ℕ → List SstId
used_in used ids first k = used_only used (id_at ids (first + k) ∷ [])

pub used_pieces : (used : List SstId) (ids : List ℕ) (w : Window) (n : ℕ) → n ≡ held_of w (length ids / 2) → used_only used (ids_in ids w) ≡ all (up_to (used_in used ids w.first) n)
unfolding ids_in
used_pieces used ids w n e = rw (← e) (used_all used (λ k. id_at ids (w.first + k)) n)
