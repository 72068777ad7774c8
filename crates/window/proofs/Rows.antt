-- What the arms of the covered functions know. Assumes nothing.
use Rattle.std.specs.Prelude.{None, Some}
use Prim.Native.Nat.{ℕ, zero, suc, ◌+◌, ◌-◌, ◌*◌, ◌/◌, ◌^◌, ◌≤◌, ◌<◌, min}
use mathlib.Core.Path.{◌≡◌, refl, sym, ap, ◌∙◌}
use mathlib.Core.Bool.{Bool, true, false}
use mathlib.Core.List.{List, [], ◌∷◌}
use native.Mathlib.Omega.{arith}
use lib.Dec.{leb}
use lib.ListN.{length, get_or, take, drop, length-take, length-drop}
use lib.Seq.{get_or-take, get_or-drop}
use borrow.Author.Tests.{leb-true}
use Rattle.keys.specs.Pick.{pick}
use Rattle.tables.specs.Layout.{up_to}
use Rattle.tables.specs.Window.{held_of}
use Rattle.tables.specs.declared.Window.{Window}
use Rattle.tables.proofs.Holds.{up_to_front}
use Rattle.tables.proofs.Joined.{up_to_length}
use Rattle.records.specs.Row.{segment_at}
use Rattle.records.specs.declared.SegmentRow.{SegmentRow}
use Rattle.window.specs.Rows.{part_in, rows_of, shown, read_of}

pub up_to_at : {A : Type 0} (g : ℕ → A) (n i : ℕ) (d : A) → i < n → get_or (up_to g n) i d ≡ g i
up_to_at g zero i d h = absurd (omega arith)
up_to_at g (suc n) zero d h = rw (up_to_front g n)
up_to_at g (suc n) (suc i) d h = rw (up_to_front g n) (up_to_at (λ k. g (suc k)) n i d (omega arith))

read_row : (rs : List SegmentRow) (i : ℕ) (d : SegmentRow) → i < length rs → read_of rs i ≡ Some (get_or rs i d)
read_row [] i d h = absurd (omega arith)
read_row (r ∷ rs) zero d h = refl
read_row (r ∷ rs) (suc i) d h = read_row rs i d (omega arith)

read_past : (rs : List SegmentRow) (i : ℕ) → length rs ≤ i → read_of rs i ≡ None
read_past [] i h = refl
read_past (r ∷ rs) zero h = absurd (omega arith)
read_past (r ∷ rs) (suc i) h = read_past rs i (omega arith)

-- ---- the rows that a window shows
module _ (t : List ℕ) (first past : ℕ) where
  pub shown_length : length (shown t first past) ≡ min past (length t / 12) - first
  unfolding shown
  shown_length =
      length-drop first (take past (rows_of t))
      ∙ ap (λ n. n - first) (length-take past (rows_of t) ∙ ap (λ n. min past n) (up_to_length (λ k. segment_at t k) (length t / 12)))

  module _ (end : ℕ) (e : end ≡ min past (length t / 12)) where
    pub rows_some : first < end → end - first ≡ length (shown t first past)
    rows_some h = rw e (sym shown_length)

    pub rows_none : end ≤ first → 0 ≡ length (shown t first past)
    rows_none h = rw shown_length (omega (arith, e))

  module _ (n i : ℕ) (e : n ≡ length (shown t first past)) where
    pub row_there : i < n → first + i < length t / 12
    row_there h = omega (arith, e ∙ shown_length)

    before_past : i < n → first + i < past
    before_past h = omega (arith, e ∙ shown_length)

    pub row_small : i < n → length t < 2 ^ 64 → first + i < 2 ^ 64
    row_small h l = omega (arith, row_there h)

    pub row_read : (s : SegmentRow) → i < n → s ≡ segment_at t (first + i) → Some s ≡ read_of (shown t first past) i
    unfolding shown
    row_read s h g =
        sym
        (read_row (shown t first past) i s (rw e at h)
        ∙ ap Some (get_or-drop first (take past (rows_of t)) i s ∙ get_or-take past (rows_of t) (first + i) s (before_past h) ∙ up_to_at (λ k. segment_at t k) (length t / 12) (first + i) s (row_there h) ∙ sym g))

    pub row_past : n ≤ i → None ≡ read_of (shown t first past) i
    row_past h = sym (read_past (shown t first past) i (rw e at h))

pub ruleset rows = (rows_some, rows_none, row_there, row_small, row_read, row_past)

-- ---- the part of a table
module _ (t : List ℕ) (w : Window) (n : ℕ) (e : n ≡ held_of w (length t / 12)) where
  pub part_none : n ≡ 0 → [] ≡ part_in t w
  unfolding part_in
  part_none h = rw (← e, h)

  -- rows that are held lie in the table
  pub part_within : (n ≡ 0 → ⊥) → w.first * 12 + n * 12 ≤ length t
  unfolding held_of
  part_within h = go (leb (w.first + w.count) (length t / 12)) refl e
    where
      go : (b : Bool) → leb (w.first + w.count) (length t / 12) ≡ b → n ≡ pick b w.count 0 → w.first * 12 + n * 12 ≤ length t
      go true l m = omega (arith, leb-true (w.first + w.count) (length t / 12) l)
      go false l m = absurd (h m)

  -- the places of its words and bytes are numbers of the machine
  module _ (h : n ≡ 0 → ⊥) (l : length t * 8 < 2 ^ 63) where
    pub part_first : w.first * 12 < 2 ^ 64
    part_first = omega (arith, part_within h)

    pub part_wide : n * 12 < 2 ^ 64
    part_wide = omega (arith, part_within h)

    pub part_end : w.first * 12 + n * 12 < 2 ^ 64
    part_end = omega (arith, part_within h)

    pub part_bytes : w.first * 12 * 8 < 2 ^ 64
    part_bytes = omega (arith, part_within h)

  pub part_read : (from end : ℕ) → from ≡ w.first * 12 → end ≡ from + n * 12 → take (end - from) (drop from t) ≡ part_in t w
  unfolding part_in
  part_read from end f g =
      let k : end - from ≡ n * 12 = omega arith in
      rw (k, f, e)

pub ruleset parts = (part_none, part_within, part_first, part_wide, part_end, part_bytes, part_read)
