-- The table of own ranges: the row of a tree, and rows that are over their limit. Assumes nothing.
use Rattle.std.specs.Prelude.{Option, Some}
use Prim.Native.Nat.{ℕ, zero, suc, ◌+◌, ◌*◌, ◌/◌, ◌≤◌, ◌<◌}
use mathlib.Core.Path.{◌≡◌, refl, sym, ap, ◌∙◌}
use mathlib.Core.Bool.{Bool, true, false, ◌||◌}
use mathlib.Core.List.{List}
use native.Mathlib.Omega.{arith}
use native.Mathlib.Numerals.{add-one}
use native.Mathlib.Decide.{dec_lt}
use lib.Dec.{ltb, leb}
use lib.ListN.{length, get_or, get_or-eq_default}
use borrow.Author.Tests.{lt-ltb, le-ltb, le-leb, lt-leb, ltb-true, ltb-false, leb-false}
use Rattle.keys.specs.Pick.{pick}
use Rattle.keys.specs.Range.{Edges}
use Rattle.keys.specs.Pool.{edges_of}
use Rattle.keys.specs.declared.Bound.{Bound}
use Rattle.keys.specs.declared.Bound.TheVariants as bound
use Rattle.keys.specs.declared.Range.{Range}
use Rattle.tables.specs.Layout.{up_to}
use Rattle.tables.proofs.Holds.{up_to_front}
use Rattle.tables.proofs.Joined.{up_to_length}
use Rattle.records.specs.Row.{at, bound_at}
use Rattle.segments.specs.Refuses.{range_over}
use Rattle.project_ranges.specs.Config.{free, own_range}
use Rattle.project_ranges.specs.Args.{own_row, global_over, own_row_over, some_over, counted, config_over}
use Rattle.project_ranges.specs.Steps.{own_at}
use Rattle.project_ranges.specs.declared.ProjectionConfig.{ProjectionConfig}

-- ---- the row of a tree

pub row_is : (own : List ℕ) (i : ℕ) (s e : Bound) → s ≡ bound_at own (i * 6) → e ≡ bound_at own (i * 6 + 3)
    → record { start = s; end = e } ≡ own_row own i
row_is own i s e p q = rw (p, q)

up_to_at : {A : Type 0} (g : ℕ → A) (n i : ℕ) (d : A) → i < n → get_or (up_to g n) i d ≡ g i
up_to_at g zero i d h = absurd (omega arith)
up_to_at g (suc n) zero d h = rw (up_to_front g n)
up_to_at g (suc n) (suc i) d h = rw (up_to_front g n) (up_to_at (λ k. g (suc k)) n i d (omega arith))

module _ (own : List ℕ) (place : ℕ) where
  pub own_here : (r : Range) → place < length own / 6 → r ≡ own_row own place → r ≡ own_at own place
  own_here r l h = rw (lt-ltb place (length own / 6) l) h

  pub own_missing : length own / 6 ≤ place → record { start = bound.Unbounded; end = bound.Unbounded } ≡ own_at own place
  own_missing l = rw (le-ltb place (length own / 6) l)

  -- it stands for the range that the table has for that place
  pub own_is : (pool : List ℕ) → edges_of pool (own_at own place) ≡ own_range (up_to (λ i. edges_of pool (own_row own i)) (length own / 6)) place
  own_is pool = go (ltb place (length own / 6)) refl
    where
      rows : List Edges
      rows = up_to (λ i. edges_of pool (own_row own i)) (length own / 6)

      go : (b : Bool) → ltb place (length own / 6) ≡ b
          → edges_of pool (pick b (own_row own place) (record { start = bound.Unbounded; end = bound.Unbounded })) ≡ get_or rows place free
      go true e = sym (up_to_at (λ i. edges_of pool (own_row own i)) (length own / 6) place free (ltb-true place (length own / 6) e))
      go false e =
          let n : length rows ≡ length own / 6 = up_to_length (λ i. edges_of pool (own_row own i)) (length own / 6) in
          sym (get_or-eq_default rows free (rw n (ltb-false place (length own / 6) e)))

pub ruleset owns = (row_is, own_here, own_missing)

-- ---- refusal 2

pub global_by : (most n : ℕ) (g : Option Range) (r : Range) (b : Bool) → g ≡ Some r → b ≡ range_over most n r → b ≡ global_over most n g
global_by most n g r b e h = rw e h

module _ (most n : ℕ) (own : List ℕ) (i : ℕ) where
  pub row_start : 2 < at own (i * 6) → true ≡ own_row_over most n own i
  row_start h = rw (lt-ltb 2 (at own (i * 6)) h)

  module _ (l : at own (i * 6) ≤ 2) where
    pub row_end : 2 < at own (i * 6 + 3) → true ≡ own_row_over most n own i
    row_end h = rw (le-ltb 2 (at own (i * 6)) l, lt-ltb 2 (at own (i * 6 + 3)) h)

    pub row_range : (r : Range) (b : Bool) → at own (i * 6 + 3) ≤ 2 → r ≡ own_row own i → b ≡ range_over most n r → b ≡ own_row_over most n own i
    row_range r b h e q = rw (le-ltb 2 (at own (i * 6)) l, le-ltb 2 (at own (i * 6 + 3)) h, ← e) q

module _ (own : List ℕ) (segments rows : ℕ) (e : rows ≡ length own / 6) where
  pub count_all : rows ≤ segments → rows ≡ counted own segments
  count_all l = rw (← e, le-leb rows segments l)

  pub count_most : segments < rows → segments + 1 ≡ counted own segments
  count_most l = rw (← e, lt-leb rows segments l) (omega arith)

pub ruleset overs = (global_by, row_start, row_end, row_range, count_all, count_most)

counted_in : (own : List ℕ) (segments : ℕ) → counted own segments ≤ length own / 6
counted_in own segments = go (leb (length own / 6) segments) refl
  where
    go : (b : Bool) → leb (length own / 6) segments ≡ b → pick b (length own / 6) (suc segments) ≤ length own / 6
    go true e = omega arith
    go false e = leb-false (length own / 6) segments e

-- none of the first k rows is over, x says whether one of the first `rows` is
pub record Clear (x : Bool) (most n : ℕ) (own : List ℕ) (rows k : ℕ) : Type 0 where
  pub within : k ≤ rows
  pub inside : rows ≤ length own / 6
  pub so : some_over most n own k ≡ false
  pub says : x ≡ some_over most n own rows

or_true : (b : Bool) → (b || true) ≡ true
or_true true = refl
or_true false = refl

some_at : (most n : ℕ) (own : List ℕ) (k rows : ℕ) → k < rows → own_row_over most n own k ≡ true → some_over most n own rows ≡ true
some_at most n own k zero h e = absurd (omega arith)
some_at most n own k (suc rows) h e =
    elim (dec_lt k rows) [
      | yes l ↦ rw (some_at most n own k rows l e)
      | no l ↦ (let q : k ≡ rows = omega arith in rw (ap (own_row_over most n own) (sym q) ∙ e) (or_true (some_over most n own rows)))
    ]

pub clear_none : (most n segments : ℕ) (own : List ℕ) (rows : ℕ) → rows ≡ counted own segments
    → Clear (some_over most n own (counted own segments)) most n own rows 0
clear_none most n segments own rows e = record { within = omega arith; inside = rw e (counted_in own segments); so = refl; says = rw e }

module _ (x : Bool) (most n : ℕ) (own : List ℕ) (rows k : ℕ) (w : Clear x most n own rows k) where
  pub clear_in : k < rows → k < length own / 6
  clear_in h = omega (arith, w.inside)

  module _ (r : Bool) (h : k < rows) (e : r ≡ own_row_over most n own k) where
    pub clear_more : r ≡ false → Clear x most n own rows (k + 1)
    clear_more t = record { within = omega arith; inside = w.inside; so = rw (add-one k) (rw (w.so, sym e ∙ t)); says = w.says }

    pub clear_over : r ≡ true → true ≡ x
    clear_over t = sym (w.says ∙ some_at most n own k rows h (sym e ∙ t))

  pub clear_all : rows ≤ k → false ≡ x
  clear_all h = let e : k ≡ rows = omega (arith, w.within) in sym (w.says ∙ (rw e at w.so))

pub ruleset clears = (clear_none, clear_in, clear_more, clear_over, clear_all)

module _ (most n segments : ℕ) (c : ProjectionConfig) (own : List ℕ) (r : Bool) (e : r ≡ global_over most n c.global_range) where
  pub over_global : r ≡ true → true ≡ config_over most n segments c own
  unfolding config_over
  over_global t = rw (sym e ∙ t)

  pub over_own : (b : Bool) → r ≡ false → c.segment_projection ≡ true → b ≡ some_over most n own (counted own segments)
      → b ≡ config_over most n segments c own
  unfolding config_over
  over_own b t f h = rw (sym e ∙ t, f) h

  pub over_none : r ≡ false → c.segment_projection ≡ false → false ≡ config_over most n segments c own
  unfolding config_over
  over_none t f = rw (sym e ∙ t, f)

pub ruleset configs = (over_global, over_own, over_none)
