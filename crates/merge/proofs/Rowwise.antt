-- What the arms of a step know. Assumes nothing.
use Rattle.std.specs.Prelude.{None, Option, Some}
use Prim.Native.Nat.{ℕ, zero, suc, ◌+◌, ◌/◌, ◌≤◌, ◌<◌}
use mathlib.Core.Path.{◌≡◌, sym, ◌∙◌}
use mathlib.Core.Bool.{Bool, true, false}
use mathlib.Core.List.{List, [], ◌∷◌}
use native.Mathlib.Omega.{arith}
use native.Mathlib.Nat.{add-zero}
use lib.Dec.{eqb}
use lib.ListN.{length, drop, drop_of_length-le}
use borrow.Author.Tests.{eq-eqb, ne_eqb}
use Rattle.keys.specs.Key.{order_of}
use Rattle.std.specs.declared.cmp.Ordering.{Ordering}
use Rattle.std.specs.declared.cmp.Ordering.TheVariants.{Less, Equal, Greater}
use Rattle.tables.specs.Layout.{up_to}
use Rattle.tables.specs.Window.{held_of}
use Rattle.tables.specs.declared.Window.{Window}
use Rattle.tables.proofs.Holds.{up_to_front}
use Rattle.tables.proofs.Joined.{up_to_length}
use Rattle.records.specs.Row.{segment_at}
use Rattle.records.specs.Decode.{bytes_in}
use Rattle.records.specs.declared.TreeRow.{TreeRow}
use Rattle.records.specs.declared.SegmentRow.{SegmentRow}
use Rattle.merge.specs.Steps.{rows_in, step_by, step_of, writer_taken, compactor_taken, new_row, merged_row, writer_keep, empty_row, filled_keep, compactor_keep, keep_by, step_at, next_of}
use Rattle.merge.specs.declared.Side.{Side}
use Rattle.merge.specs.declared.Side.TheVariants.{Writer, Compactor}
use Rattle.merge.specs.declared.MergeStep.{MergeStep}
use Rattle.merge.specs.declared.MergeStep.TheVariants.{End, WriterOnly, CompactorOnly, Both}
use Rattle.merge.specs.declared.Cursors.{Cursors}

-- ---- the rows that are left
drop_up_to : {A : Type 0} (f : ℕ → A) (n i : ℕ) → i < n → drop i (up_to f n) ≡ f i ∷ drop (suc i) (up_to f n)
drop_up_to f zero i h = absurd (omega arith)
drop_up_to f (suc n) zero h = rw (up_to_front f n)
drop_up_to f (suc n) (suc i) h = rw (up_to_front f n) (drop_up_to (λ k. f (suc k)) n i (omega arith))

module _ (segments : List ℕ) (w : Window) (n i : ℕ) (e : n ≡ held_of w (length segments / 12)) where
  pub rows_some : i < n → drop i (rows_in segments w) ≡ segment_at segments (w.first + i) ∷ drop (suc i) (rows_in segments w)
  rows_some h = drop_up_to (λ k. segment_at segments (w.first + k)) (held_of w (length segments / 12)) i (rw (← e) h)

  pub rows_end : n ≤ i → drop i (rows_in segments w) ≡ []
  rows_end h = drop_of_length-le (rows_in segments w) {i = i} (rw (up_to_length (λ k. segment_at segments (w.first + k)) (held_of w (length segments / 12)), ← e) h)

-- ---- the next step
module _ (pool : List ℕ) (w c : SegmentRow) (a b : List ℕ) (o : Ordering) (p : a ≡ bytes_in pool w.prefix) (q : b ≡ bytes_in pool c.prefix) (e : o ≡ order_of a b) where
  pub step_less : o ≡ Less → WriterOnly w ≡ step_by (order_of (bytes_in pool w.prefix) (bytes_in pool c.prefix)) w c
  step_less h = rw (← p, ← q, sym e ∙ h)

  pub step_equal : o ≡ Equal → Both w c ≡ step_by (order_of (bytes_in pool w.prefix) (bytes_in pool c.prefix)) w c
  step_equal h = rw (← p, ← q, sym e ∙ h)

  pub step_greater : o ≡ Greater → CompactorOnly c ≡ step_by (order_of (bytes_in pool w.prefix) (bytes_in pool c.prefix)) w c
  step_greater h = rw (← p, ← q, sym e ∙ h)

pub ruleset orders = (step_less, step_equal, step_greater)

module _ (segments pool : List ℕ) (w c : Window) (i j n m : ℕ) (d : n ≡ held_of w (length segments / 12)) (e : m ≡ held_of c (length segments / 12)) where
  module _ (a : SegmentRow) (h : i < n) (p : a ≡ segment_at segments (w.first + i)) where
    pub step_writer : m ≤ j → WriterOnly a ≡ step_of pool (drop i (rows_in segments w)) (drop j (rows_in segments c))
    unfolding step_of
    step_writer l = rw (rows_some segments w n i d h, rows_end segments c m j e l, p)

    pub step_both : (b : SegmentRow) (r : MergeStep) → j < m → b ≡ segment_at segments (c.first + j)
        → r ≡ step_by (order_of (bytes_in pool a.prefix) (bytes_in pool b.prefix)) a b → r ≡ step_of pool (drop i (rows_in segments w)) (drop j (rows_in segments c))
    unfolding step_of
    step_both b r l q f = rw (rows_some segments w n i d h, rows_some segments c m j e l, ← p, ← q) f

  pub step_compactor : (b : SegmentRow) → n ≤ i → j < m → b ≡ segment_at segments (c.first + j) → CompactorOnly b ≡ step_of pool (drop i (rows_in segments w)) (drop j (rows_in segments c))
  unfolding step_of
  step_compactor b h l q = rw (rows_end segments w n i d h, rows_some segments c m j e l, q)

  pub step_end : n ≤ i → m ≤ j → End ≡ step_of pool (drop i (rows_in segments w)) (drop j (rows_in segments c))
  unfolding step_of
  step_end h l = rw (rows_end segments w n i d h, rows_end segments c m j e l)

pub ruleset steps = (step_writer, step_both, step_compactor, step_end)

module _ (s : MergeStep) (i j : ℕ) where
  abbrev past : Cursors
  past = record { i = i + writer_taken s; j = j + compactor_taken s }

  pub past_end : s ≡ End → record { i = i; j = j } ≡ past
  past_end e = rw e (simp add-zero)

  pub past_writer : (w : SegmentRow) → s ≡ WriterOnly w → record { i = i + 1; j = j } ≡ past
  past_writer w e = rw e (simp add-zero)

  pub past_compactor : (c : SegmentRow) → s ≡ CompactorOnly c → record { i = i; j = j + 1 } ≡ past
  past_compactor c e = rw e (simp add-zero)

  pub past_both : (w c : SegmentRow) → s ≡ Both w c → record { i = i + 1; j = j + 1 } ≡ past
  past_both w c e = rw e

pub ruleset pasts = (past_end, past_writer, past_compactor, past_both)

-- ---- what a step gives
module _ (views runs : List ℕ) (t : TreeRow) (n : ℕ) (e : n ≡ held_of t.l0 (length views / 16)) where
  pub empty_runs : (m : ℕ) → n ≡ 0 → m ≡ held_of t.compacted (length runs / 3) → eqb m 0 ≡ empty_row views runs t
  empty_runs m h f = rw (← e, ← f, eq-eqb n 0 h)

  pub empty_not : (n ≡ 0 → ⊥) → false ≡ empty_row views runs t
  empty_not h = rw (← e, ne_eqb n 0 h)

pub ruleset empties = (empty_runs, empty_not)

module _ (views runs : List ℕ) (s : SegmentRow) (r : Bool) (e : r ≡ empty_row views runs s.tree) where
  pub filled_none : r ≡ true → None ≡ filled_keep views runs s
  filled_none h = rw (sym e ∙ h)

  pub filled_kept : r ≡ false → Some s ≡ filled_keep views runs s
  filled_kept h = rw (sym e ∙ h)

pub ruleset fills = (filled_none, filled_kept)

module _ (views runs : List ℕ) (s : MergeStep) where
  pub keep_end : s ≡ End → None ≡ writer_keep views s
  keep_end e = rw e

  pub keep_not : (c : SegmentRow) → s ≡ CompactorOnly c → None ≡ writer_keep views s
  keep_not c e = rw e

  pub take_end : s ≡ End → None ≡ compactor_keep views runs s
  take_end e = rw e

  module _ (w : SegmentRow) (t : TreeRow) (r : SegmentRow) (e : s ≡ WriterOnly w) (n : t ≡ new_row) (h : r ≡ merged_row views w.prefix w.tree t) where
    pub keep_writer : Some r ≡ writer_keep views s
    keep_writer = rw (e, h, n)

    pub take_writer : (k : Option SegmentRow) → k ≡ filled_keep views runs r → k ≡ compactor_keep views runs s
    take_writer k f = rw e (rw (h, n) at f)

  pub take_compactor : (c : SegmentRow) (t : TreeRow) (r : SegmentRow) (k : Option SegmentRow) → s ≡ CompactorOnly c → t ≡ new_row → r ≡ merged_row views c.prefix t c.tree
      → k ≡ filled_keep views runs r → k ≡ compactor_keep views runs s
  take_compactor c t r k e n h f = rw e (rw (h, n) at f)

  module _ (w c r : SegmentRow) (e : s ≡ Both w c) (h : r ≡ merged_row views w.prefix w.tree c.tree) where
    pub keep_both : Some r ≡ writer_keep views s
    keep_both = rw (e, h)

    pub take_both : (k : Option SegmentRow) → k ≡ filled_keep views runs r → k ≡ compactor_keep views runs s
    take_both k f = rw e (rw h at f)

pub ruleset keeps = (keep_end, keep_not, keep_writer, keep_both)

pub ruleset takes = (take_end, take_writer, take_compactor, take_both)

module _ (side : Side) (views runs : List ℕ) (s : MergeStep) (k : Option SegmentRow) where
  pub by_writer : side ≡ Writer → k ≡ writer_keep views s → k ≡ keep_by side views runs s
  by_writer e h = rw e h

  pub by_compactor : side ≡ Compactor → k ≡ compactor_keep views runs s → k ≡ keep_by side views runs s
  by_compactor e h = rw e h

pub ruleset sources = (by_writer, by_compactor)

pub next_by : (side : Side) (segments views runs pool : List ℕ) (w c : Window) (i j : ℕ) (s : MergeStep) (k : Option SegmentRow) (p : Cursors)
    → s ≡ step_at segments pool w c i j → k ≡ keep_by side views runs s → p ≡ record { i = i + writer_taken s; j = j + compactor_taken s }
    → record { keep = k; i = p.i; j = p.j } ≡ next_of side segments views runs pool w c i j
unfolding next_of
next_by side segments views runs pool w c i j s k p e f g = rw (g, f, e)
