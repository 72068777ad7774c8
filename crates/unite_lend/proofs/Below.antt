-- A loop that leaves at the first used source that passes a test, and what the code's tests say of the sources. Assumes nothing.
use Prim.Native.Nat.{ℕ, zero, suc, ◌+◌, ◌*◌, ◌/◌, ◌≤◌, ◌<◌}
use mathlib.Core.Path.{◌≡◌, refl, sym, ap, ◌∙◌}
use mathlib.Core.Bool.{Bool, true, false, ◌||◌}
use mathlib.Core.List.{List, [], ◌∷◌, ◌++◌, map}
use native.Mathlib.Omega.{arith}
use native.Mathlib.Numerals.{add-one}
use native.Mathlib.Decide.{dec_lt}
use lib.Dec.{ltb}
use lib.ListN.{length}
use borrow.Author.Tests.{lt-ltb}
use Rattle.tables.specs.Layout.{up_to}
use Rattle.tables.specs.Window.{held_of}
use Rattle.tables.specs.declared.Window.{Window}
use Rattle.tables.proofs.Holds.{up_to_front}
use Rattle.records.specs.Model.{Segment}
use Rattle.records.specs.Row.{at, window_at, segment_at}
use Rattle.records.specs.Decode.{Lent, borrows_in, segment_in, segments_in, manifest_in}
use Rattle.merge.specs.Merge.{some_of}
use Rattle.borrows.specs.Clone.{refuses15}
use Rattle.borrows.proofs.Renewing.{lacks_plain}
use Rattle.unite_sources.specs.Source.{Source}
use Rattle.unite_sources.specs.Used.{no_segments, refuses13}
use Rattle.unite_sources.specs.Rows.{manifest_at_word, source_at_word, begins}
use Rattle.unite_lend.specs.Used.{some_below, lacks_at, segmented_at}

or_true : (a : Bool) → (a || true) ≡ true
or_true true = refl
or_true false = refl

pub record Clear (p : ℕ → Bool) (n i : ℕ) : Type 0 where
  pub within : i ≤ n
  pub none : some_below p i ≡ false

some_later : (p : ℕ → Bool) (n i : ℕ) → i < n → p i ≡ true → true ≡ some_below p n
some_later p zero i h e = absurd (omega arith)
some_later p (suc n) i h e =
    elim (dec_lt i n) [ yes l ↦ (rw (sym (some_later p n i l e))) | no l ↦ (let q : i ≡ n = omega arith in let f : p n ≡ true = rw q at e in rw f (sym (or_true (some_below p n)))) ]

module _ (p : ℕ → Bool) (n : ℕ) where
  pub clear_none : Clear p n 0
  clear_none = record { within = omega arith; none = refl }

  module _ (i : ℕ) (s : Clear p n i) (r : Bool) (h : i < n) (e : r ≡ p i) where
    pub clear_here : r ≡ true → true ≡ some_below p n
    clear_here u = some_later p n i h (sym e ∙ u)

    pub clear_more : r ≡ false → Clear p n (i + 1)
    clear_more u = record { within = omega arith; none = rw (add-one i) (rw (s.none, sym e ∙ u)) }

  pub clear_all : (i : ℕ) → Clear p n i → n ≤ i → false ≡ some_below p n
  clear_all i s h = let e : i ≡ n = omega (arith, s.within) in sym (rw e at s.none)

pub ruleset clears = (clear_none, clear_here, clear_more, clear_all)

-- ---- one row

pub lacks_read : (borrows t rows : List ℕ) (i x b : ℕ) (w : Window) (r : Bool) → x ≡ at rows (i * 7) → b ≡ x → w ≡ window_at t (b + 16) → r ≡ refuses15 (borrows_in borrows [] [] w) → r ≡ lacks_at borrows t rows i
lacks_read borrows t rows i x b w r e f g h = h ∙ rw (g, f, e)

pub segmented_read : (segments t rows : List ℕ) (i x b : ℕ) (w : Window) (n : ℕ) (r : Bool) → x ≡ at rows (i * 7) → b ≡ x → w ≡ window_at t (b + 10) → n ≡ held_of w (length segments / 12) → r ≡ ltb 0 n → r ≡ segmented_at segments t rows i
segmented_read segments t rows i x b w n r e f g k h = h ∙ rw (k, g, f, e)

-- ---- of the sources

some_more : {A : Type 0} (f : A → Bool) (xs : List A) (x : A) → some_of f (xs ++ (x ∷ [])) ≡ (some_of f xs || f x)
some_more f [] x = or_false (f x)
  where
    or_false : (b : Bool) → (b || false) ≡ b
    or_false true = refl
    or_false false = refl
some_more f (y ∷ xs) x = rw (some_more f xs x) (or_apart (f y) (some_of f xs) (f x))
  where
    or_apart : (a b c : Bool) → (a || (b || c)) ≡ ((a || b) || c)
    or_apart true b c = refl
    or_apart false b c = refl

map_more : {A B : Type 0} (g : A → B) (xs : List A) (x : A) → map g (xs ++ (x ∷ [])) ≡ map g xs ++ (g x ∷ [])
map_more g [] x = refl
map_more {A} {B} g (y ∷ xs) x = ap (λ (z : List B). g y ∷ z) (map_more g xs x)

some_up_to : {A B : Type 0} (f : B → Bool) (g : A → B) (h : ℕ → A) (p : ℕ → Bool) → ((i : ℕ) → p i ≡ f (g (h i))) → (n : ℕ) → some_below p n ≡ some_of f (map g (up_to h n))
some_up_to f g h p e zero = refl
some_up_to f g h p e (suc n) = rw (map_more g (up_to h n) (h n), some_more f (map g (up_to h n)) (g (h n)), some_up_to f g h p e n, e n)

abbrev turned : Bool → Bool
turned true = false
turned false = true

segments_there_lem : (f : Bool → Bool) → f true ≡ false → f false ≡ true → (m : ℕ) (g : ℕ → Segment) → ltb 0 m ≡ f (no_segments (up_to g m))
segments_there_lem f a b zero g = sym a
segments_there_lem f a b (suc m) g = rw (up_to_front g m) (lt-ltb 0 (suc m) (omega arith) ∙ sym b)

module _ (l : Lent) (t rows : List ℕ) (n : ℕ) where
  -- "15 | a used borrow has no final checkpoint"
  pub lacks_sources : some_below (lacks_at l.borrows t rows) n ≡ some_of (λ s. refuses15 s.manifest.borrows) (map (source_at_word l t) (begins rows n))
  unfolding begins source_at_word manifest_at_word manifest_in
  lacks_sources = some_up_to (λ (s : Source). refuses15 s.manifest.borrows) (source_at_word l t) (λ i. at rows (i * 7)) (lacks_at l.borrows t rows) (λ i. lacks_plain l.borrows (window_at t (at rows (i * 7) + 16)) l.ids l.pool) n

  -- "13 | segments in a used source, no extractor"
  pub segmented_sources : some_below (segmented_at l.segments t rows) n ≡ refuses13 (map (source_at_word l t) (begins rows n))
  unfolding refuses13 begins source_at_word manifest_at_word manifest_in segments_in
  segmented_sources =
      some_up_to (λ (s : Source). turned (no_segments s.manifest.segments)) (source_at_word l t) (λ i. at rows (i * 7)) (segmented_at l.segments t rows)
      (λ i. segments_there_lem turned refl refl (held_of (window_at t (at rows (i * 7) + 10)) (length l.segments / 12)) (λ k. segment_in l.runs l.views l.pool (segment_at l.segments (at t (at rows (i * 7) + 10) + k)))) n
