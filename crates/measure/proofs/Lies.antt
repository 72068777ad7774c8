-- What stands in a table from a cursor on, with room for it; and tests of row after row. Assumes nothing.
use Rattle.std.specs.Prelude.{None, Option, Some}
use Prim.Native.Nat.{ℕ, zero, suc, ◌+◌, ◌*◌, ◌/◌, ◌≤◌, ◌<◌}
use mathlib.Core.Path.{◌≡◌, refl, sym, ap, ◌∙◌}
use mathlib.Core.Bool.{Bool, true, false, ◌&&◌, true≢false}
use mathlib.Core.List.{List, [], ◌∷◌, ◌++◌}
use native.Mathlib.Omega.{arith}
use native.Mathlib.Nat.{add-zero, add-suc, suc-add, le-div_iff_mul-le}
use borrow.Author.Tests.{le-leb}
use lib.ListN.{length}
use Rattle.tables.specs.Window.{lies_in}
use Rattle.tables.proofs.Holds.{Holds, holds_first, holds_rest, holds_place, up_to_front}
use Rattle.records.specs.Words.{view_mark_cell, sst_mark_cell, final_cell}
use Rattle.records.specs.Fill.{plus}
use Rattle.records.specs.declared.Fill.{Fill}
use Rattle.records.proofs.Laid.{Table, at, at_plus}
use Rattle.records.proofs.Sums.{plus_assoc}
use Rattle.measure.specs.Tests.{all_of, all_below}
use Rattle.measure.specs.Placed.{opened}
use Rattle.measure.proofs.Lists.{all_up_to}
use Rattle.ids.specs.declared.ViewId.{ViewId}
use Rattle.ids.specs.declared.SstId.{SstId}
use Rattle.ids.specs.declared.Uuid.{Uuid}

pub both : (a b : Bool) → a ≡ true → b ≡ true → (a && b) ≡ true
both a b e f = rw (e, f)

pub and_each : (a b : Bool) → (a && b) ≡ true → (a ≡ true) × (b ≡ true)
and_each true b e = (refl, e)
and_each false b e = absurd (true≢false (sym e))

-- ---- what stands in a table from a cursor on, and room for it

pub record Lies (t : Table) (d : List ℕ) (c f : Fill) (xs : List ℕ) : Type 0 where
  pub holds : Holds d (at t c) xs
  pub room : at t (plus c f) ≤ length d

module _ (t : Table) (d : List ℕ) (c f g : Fill) where
  pub lies_as : (xs : List ℕ) → at t f ≡ at t g → Lies t d c f xs → Lies t d c g xs
  lies_as xs e h = record { holds = h.holds; room = omega (arith, h.room, at_plus t c f, at_plus t c g) }

  module _ (xs ys : List ℕ) (long : length xs ≡ at t f) (h : Lies t d c (plus f g) (xs ++ ys)) where
    pub lies_first : Lies t d c f xs
    lies_first = record { holds = holds_first d (at t c) xs ys h.holds; room = omega (arith, h.room, at_plus t c f, at_plus t c (plus f g), at_plus t f g) }

    pub lies_rest : Lies t d (plus c f) g ys
    lies_rest =
        record {
          holds = holds_rest d (at t c) xs ys (at t (plus c f)) (rw long (sym (at_plus t c f))) h.holds;
          room = rw (plus_assoc c f g) h.room;
        }

  -- the first part, where the last writes nothing here
  pub lies_cut : (xs : List ℕ) → Lies t d c (plus f g) xs → Lies t d c f xs
  lies_cut xs h = record { holds = h.holds; room = omega (arith, h.room, at_plus t c f, at_plus t c (plus f g), at_plus t f g) }

  -- past a part that writes nothing here
  pub lies_past : (ys : List ℕ) → at t f ≡ 0 → Lies t d c (plus f g) ys → Lies t d (plus c f) g ys
  lies_past ys e h =
      record {
        holds = holds_place d (at t c) (at t (plus c f)) ys (omega (arith, at_plus t c f)) h.holds;
        room = rw (plus_assoc c f g) h.room;
      }

pub lies_at : (t : Table) (d : List ℕ) (a b f : Fill) (xs : List ℕ) → a ≡ b → Lies t d a f xs → Lies t d b f xs
lies_at t d a b f xs e h = rw e at h

-- ---- row after row

below_front : (g : ℕ → Bool) (n : ℕ) → all_below g (suc n) ≡ (g 0 && all_below (λ k. g (suc k)) n)
below_front g n =
    sym (all_up_to (λ b. b) g (suc n)) ∙ ap (all_of (λ b. b)) (up_to_front g n) ∙ ap (λ b. g 0 && b) (all_up_to (λ b. b) (λ k. g (suc k)) n)

-- each turn's row is good, and what is needed for the next is left
pub rows_good : {A : Type 0} (fill : A → Fill) (count : Fill → ℕ) (good : ℕ → Bool) (Rest : Fill → List A → Type 0)
    → ((c : Fill) (x : A) → count (plus c (fill x)) ≡ suc (count c))
    → ((c : Fill) (x : A) (xs : List A) → Rest c (x ∷ xs) → (good (count c) ≡ true) × Rest (plus c (fill x)) xs)
    → (c : Fill) (xs : List A) → Rest c xs → all_below (λ k. good (count c + k)) (length xs) ≡ true
rows_good fill count good Rest one turn c [] r = refl
rows_good fill count good Rest one turn c (x ∷ xs) r =
    let w = turn c x xs r in
    let tail = rows_good fill count good Rest one turn (plus c (fill x)) xs w.1 in
    let rest : all_below (λ k. good (count c + suc k)) (length xs) ≡ true = simp (add-suc, ← suc-add) (rw (one c x) at tail) in
    below_front (λ k. good (count c + k)) (length xs) ∙ rw (add-zero, w.0, rest)

-- a window of rows of so many words
pub window_in : (first n w long : ℕ) → 0 < w → (first + n) * w ≤ long → lies_in (record { first = first; count = n }) (long / w) ≡ true
window_in first n w long p h = le-leb (first + n) (long / w) ((le-div_iff_mul-le p).1 h)

-- a cell's code is 0 or 1
pub view_mark_opens : (m : Option ViewId) → opened (view_mark_cell m).code true ≡ true
view_mark_opens None = refl
view_mark_opens (Some x) = refl

pub sst_mark_opens : (m : Option SstId) → opened (sst_mark_cell m).code true ≡ true
sst_mark_opens None = refl
sst_mark_opens (Some x) = refl

pub final_opens : (f : Option Uuid) → opened (final_cell f).code true ≡ true
final_opens None = refl
final_opens (Some x) = refl

-- what each passes, and what it entails
pub below_all : (p q : ℕ → Bool) → ((k : ℕ) → p k ≡ true → q k ≡ true) → (n : ℕ) → all_below p n ≡ true → all_below q n ≡ true
below_all p q f zero h = refl
below_all p q f (suc n) h = let w = and_each (all_below p n) (p n) h in both (all_below q n) (q n) (below_all p q f n w.0) (f n w.1)
