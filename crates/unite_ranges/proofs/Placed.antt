-- Rows of seven words, by the tests that the code makes. Assumes nothing.
use Prim.Native.Nat.{ℕ, zero, suc, ◌+◌, ◌*◌, ◌≤◌, ◌<◌}
use mathlib.Core.Path.{◌≡◌, refl, sym, ap, ◌∙◌}
use mathlib.Core.Bool.{Bool, true, false, not}
use mathlib.Core.List.{List, [], ◌∷◌}
use native.Mathlib.Omega.{arith}
use native.Mathlib.Nat.{add_assoc}
use native.Mathlib.Numerals.{add-one}
use lib.ListN.{length, drop, length-drop}
use lib.Seq.{drop-length}
use Rattle.keys.specs.Key.{is_less}
use Rattle.keys.specs.Range.{Edge, Edges, empty_of}
use Rattle.keys.specs.Meet.{start_order, meet_of}
use Rattle.keys.specs.Pool.{edge_of, edges_of, meet_in}
use Rattle.keys.specs.declared.Range.{Range}
use Rattle.keys.proofs.Meets.{edges_meet}
use Rattle.tables.specs.Layout.{up_to}
use Rattle.tables.proofs.Holds.{Holds, holds_head, holds_word, up_to_front}
use Rattle.tables.proofs.Joined.{up_to_length}
use Rattle.records.specs.Row.{bound_at}
use Rattle.records.proofs.Rows.{bound_back}
use Rattle.unite_ranges.specs.Arranged.{Ranged, overlap, some_overlap}
use Rattle.unite_ranges.specs.Rows.{ranged_at}
use Rattle.unite_ranges.specs.Steps.{row_words, place_of}

-- the words of a row read back
pub row_back : (pool t : List ℕ) (i what : ℕ) (r : Range) → Holds t (i * 7) (row_words what r) → ranged_at pool t i ≡ record { what = what; range = edges_of pool r }
unfolding row_words
row_back pool t i what r h = simp (add_assoc, holds_head t (i * 7) (row_words what r) h, holds_word t (i * 7) (row_words what r) h, bound_back)

pub overlap_is : (pool rows : List ℕ) (i j : ℕ) (a b m : Range) (r : Bool) → a ≡ record { start = bound_at rows (i * 7 + 1); end = bound_at rows (i * 7 + 4) }
    → b ≡ record { start = bound_at rows (j * 7 + 1); end = bound_at rows (j * 7 + 4) } → m ≡ meet_in pool a b → r ≡ empty_of (edge_of pool m.start) (edge_of pool m.end)
    → not r ≡ overlap (ranged_at pool rows i).range (ranged_at pool rows j).range
overlap_is pool rows i j a b m r p q e h =
    ap not (h ∙ ap (λ (z : Edges). empty_of z.start z.end) (ap (edges_of pool) e ∙ edges_meet pool a b ∙ ap (λ z. meet_of (edges_of pool z) (edges_of pool b)) p ∙ ap (λ z. meet_of (ranged_at pool rows i).range (edges_of pool z)) q))

pub ruleset rows_read = (overlap_is)

-- ---- what is left of the rows from k on

pub drop_up_to : {A : Type 0} (f : ℕ → A) (n k : ℕ) → k < n → drop k (up_to f n) ≡ f k ∷ drop (suc k) (up_to f n)
drop_up_to f zero k h = absurd (omega arith)
drop_up_to f (suc n) zero h = rw (up_to_front f n)
drop_up_to f (suc n) (suc k) h = rw (up_to_front f n) (drop_up_to (λ i. f (suc i)) n k (omega arith))

drop_past : {A : Type 0} (f : ℕ → A) (n k : ℕ) → n ≡ k → drop k (up_to f n) ≡ []
drop_past f n k e = ap (λ (i : ℕ). drop i (up_to f n)) (sym (up_to_length f n ∙ e)) ∙ drop-length (up_to f n)

-- ---- where a start goes: the first k rows do not start later
pub record Before {A : Type 0} (s : Edge) (f : ℕ → Ranged A) (n k : ℕ) : Type 0 where
  pub within : k ≤ n
  pub says : k + place_of s (drop k (up_to f n)) ≡ place_of s (up_to f n)

pub before_none : {A : Type 0} {s : Edge} {f : ℕ → Ranged A} {n : ℕ} → Before s f n 0
before_none = record { within = omega arith; says = omega arith }

module _ {A : Type 0} {s : Edge} {f : ℕ → Ranged A} {n k : ℕ} (w : Before s f n k) where
  pub before_more : (b : Bool) → k < n → b ≡ is_less (start_order s (f k).range.start) → b ≡ false → Before s f n (k + 1)
  unfolding place_of
  before_more b h e t =
      record {
        within = omega arith;
        says =
            let m : place_of s (drop k (up_to f n)) ≡ suc (place_of s (drop (suc k) (up_to f n))) = rw (drop_up_to f n k h, sym e ∙ t) in
            rw (add-one k) (omega (arith, w.says, m));
      }

  pub before_here : (b : Bool) → k < n → b ≡ is_less (start_order s (f k).range.start) → b ≡ true → k ≡ place_of s (up_to f n)
  unfolding place_of
  before_here b h e t = let m : place_of s (drop k (up_to f n)) ≡ 0 = rw (drop_up_to f n k h, sym e ∙ t) in omega (arith, w.says, m)

  pub before_all : n ≤ k → n ≡ place_of s (up_to f n)
  unfolding place_of
  before_all h = let m : place_of s (drop k (up_to f n)) ≡ 0 = rw (drop_past f n k (omega (arith, w.within))) in omega (arith, w.says, w.within, m)

-- ---- neighbours: of those before row k none overlap
pub record Apart {A : Type 0} (f : ℕ → Ranged A) (n k : ℕ) : Type 0 where
  pub within : k ≤ n
  pub says : some_overlap (drop k (up_to f n)) ≡ some_overlap (up_to f n)

pub apart_none : {A : Type 0} {f : ℕ → Ranged A} {n : ℕ} → Apart f n 0
apart_none = record { within = omega arith; says = refl }

module _ {A : Type 0} {f : ℕ → Ranged A} {n k : ℕ} (w : Apart f n k) where
  two : k + 1 < n → drop k (up_to f n) ≡ f k ∷ f (k + 1) ∷ drop (suc (suc k)) (up_to f n)
  two h = drop_up_to f n k (omega arith) ∙ rw (add-one k) (ap (λ l. f k ∷ l) (drop_up_to f n (suc k) (omega arith)))

  pub apart_more : (b : Bool) → k + 1 < n → b ≡ overlap (f k).range (f (k + 1)).range → b ≡ false → Apart f n (k + 1)
  unfolding some_overlap
  apart_more b h e t =
      record {
        within = omega arith;
        says =
            let m : some_overlap (drop k (up_to f n)) ≡ some_overlap (f (k + 1) ∷ drop (suc (suc k)) (up_to f n)) = rw (two h, sym e ∙ t) in
            let r : drop (k + 1) (up_to f n) ≡ f (k + 1) ∷ drop (suc (suc k)) (up_to f n) = rw (add-one k) (drop_up_to f n (suc k) (omega arith)) in
            ap some_overlap r ∙ sym m ∙ w.says;
      }

  pub apart_met : (b : Bool) → k + 1 < n → b ≡ overlap (f k).range (f (k + 1)).range → b ≡ true → true ≡ some_overlap (up_to f n)
  unfolding some_overlap
  apart_met b h e t = let m : some_overlap (drop k (up_to f n)) ≡ true = rw (two h, sym e ∙ t) in sym m ∙ w.says

  pub apart_all : n ≤ k + 1 → false ≡ some_overlap (up_to f n)
  unfolding some_overlap
  apart_all h = go (drop k (up_to f n)) refl
    where
      go : (l : List (Ranged A)) → drop k (up_to f n) ≡ l → false ≡ some_overlap (up_to f n)
      go [] e = sym (ap some_overlap e) ∙ w.says
      go (x ∷ []) e = sym (ap some_overlap e) ∙ w.says
      go (x ∷ y ∷ zs) e = let l = sym (length-drop k (up_to f n)) ∙ ap length e in absurd (omega (arith, l, up_to_length f n))
