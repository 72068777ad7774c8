-- A window's segments with one more among them, laid part by part. Assumes nothing.
use Rattle.std.specs.Prelude.{None}
use Prim.Native.Nat.{ℕ, zero, suc, ◌+◌, ◌-◌, ◌/◌, ◌≤◌}
use mathlib.Core.Path.{◌≡◌, refl, sym, ap, ◌∙◌}
use mathlib.Core.List.{List, [], ◌∷◌, ◌++◌, append_assoc, append-nil}
use native.Mathlib.Omega.{arith}
use native.Mathlib.Nat.{add-zero, add-suc, add_assoc}
use lib.Dec.{leb}
use lib.ListN.{length, length-append}
use borrow.Author.Tests.{le-leb}
use Rattle.tables.specs.Layout.{write, up_to, joined}
use Rattle.tables.specs.Window.{held_of}
use Rattle.tables.specs.declared.Window.{Window}
use Rattle.tables.proofs.Holds.{pick_same, part_back, holds_front}
use Rattle.tables.proofs.Windows.{held_in}
use Rattle.records.specs.Model.{Segment}
use Rattle.records.specs.Decode.{views_in, runs_in, tree_in, segment_in, segments_in}
use Rattle.records.specs.Row.{segment_at}
use Rattle.records.specs.Fill.{plus, sum, segment_fill}
use Rattle.records.specs.Layout.{segment_bytes}
use Rattle.records.specs.declared.Fill.{Fill}
use Rattle.records.specs.declared.SegmentRow.{SegmentRow}
use Rattle.records.proofs.Sums.{plus_assoc, sum_append}
use Rattle.records.proofs.Laid.{Table, pool, at, at_plus, Column, column, column_long, laid_append, laid_joined}
use Rattle.records.proofs.Columns.{segment_pool}
use Rattle.emit.proofs.Laid.{put_then, room_first, room_rest}
use Rattle.copy.proofs.Manifest.{segments_count}
use Rattle.segments.specs.Insert.{new_segment, put}

-- ---- the new segment

-- the row of an empty tree whose prefix is all of a pool
abbrev pub new_row : ℕ → SegmentRow
new_row n =
    record {
      prefix = record { at = 0; len = n };
      tree = record { view = None; sst = None; l0 = record { first = 0; count = 0 }; compacted = record { first = 0; count = 0 } };
    }

none_held : (first n : ℕ) → held_of (record { first = first; count = 0 }) n ≡ 0
unfolding held_of
none_held first n = pick_same (leb (first + 0) n) 0

pub new_in : (runs views p : List ℕ) → segment_in runs views p (new_row (length p)) ≡ new_segment p
unfolding segment_in tree_in views_in runs_in
new_in runs views p = rw (part_back p 0 p (rw (append-nil p) at (holds_front p [])), none_held 0 (length views / 16), none_held 0 (length runs / 3))

-- ---- what stands before a place, and from there on

up_to_parts : {A : Type 0} (f : ℕ → A) (i j : ℕ) → up_to f (i + j) ≡ up_to f i ++ up_to (λ k. f (i + k)) j
up_to_parts f i zero = rw (add-zero i) (sym (append-nil (up_to f i)))
up_to_parts f i (suc j) = rw (add-suc i j, up_to_parts f i j) (append_assoc (up_to f i) (up_to (λ k. f (i + k)) j) (f (i + j) ∷ []))

put_between : {A : Type 0} (xs ys : List A) (x : A) → put (length xs) x (xs ++ ys) ≡ xs ++ (x ∷ ys)
put_between [] ys x = refl
put_between (z ∷ xs) ys x = ap (λ l. z ∷ l) (put_between xs ys x)

module _ (w : Window) (rows i n : ℕ) (e : n ≡ held_of w rows) (h : i ≤ n) where
  -- a part of a window's rows is a window that holds them
  part_held : (a k : ℕ) → a + k ≤ n → held_of (record { first = w.first + a; count = k }) rows ≡ k
  unfolding held_of
  part_held a zero l = none_held (w.first + a) rows
  part_held a (suc k) l = let m = held_in w rows (a + k) (omega arith) in rw (le-leb (w.first + a + suc k) rows (omega arith))

  front_held : held_of (record { first = w.first; count = i }) rows ≡ i
  front_held = rw (add-zero w.first) at (part_held 0 i (omega arith))

  back_held : held_of (record { first = w.first + i; count = n - i }) rows ≡ n - i
  back_held = part_held i (n - i) (omega arith)

  -- it begins where the window does, or within the table
  pub back_first : (most : ℕ) → w.first ≤ most → rows ≤ most → w.first + i ≤ most
  back_first most f g = go i h
    where
      go : (k : ℕ) → k ≤ n → w.first + k ≤ most
      go zero l = omega arith
      go (suc k) l = let m = held_in w rows k (omega arith) in omega arith

module _ (s r v p : List ℕ) (w : Window) (i n : ℕ) (e : n ≡ held_of w (length s / 12)) (h : i ≤ n) (x : Segment) where
  abbrev fronts : List Segment
  fronts = segments_in s r v p (record { first = w.first; count = i })

  abbrev backs : List Segment
  backs = segments_in s r v p (record { first = w.first + i; count = n - i })

  parts_in : segments_in s r v p w ≡ fronts ++ backs
  unfolding segments_in
  parts_in =
      let f : ℕ → Segment = λ k. segment_in r v p (segment_at s (w.first + k)) in
      let m : held_of w (length s / 12) ≡ i + (n - i) = omega arith in
      rw (m, front_held w (length s / 12) i n e h, back_held w (length s / 12) i n e h) (up_to_parts f i (n - i) ∙ simp add_assoc)

  put_in : put i x (segments_in s r v p w) ≡ fronts ++ (x ∷ backs)
  put_in =
      let l : length fronts ≡ i = segments_count s r v p (record { first = w.first; count = i }) ∙ front_held w (length s / 12) i n e h in
      rw parts_in (ap (λ (k : ℕ). put k x (fronts ++ backs)) (sym l) ∙ put_between fronts backs x)

  with_sum : sum segment_fill (put i x (segments_in s r v p w)) ≡ plus (sum segment_fill fronts) (plus (segment_fill x) (sum segment_fill backs))
  with_sum = ap (sum segment_fill) put_in ∙ sum_append segment_fill fronts (x ∷ backs)

  module _ (c : Fill) where
    -- room for all is room for each part
    pub front_room : (t : Table) (most : ℕ) → at t (plus c (sum segment_fill (put i x (segments_in s r v p w)))) ≤ most → at t (plus c (sum segment_fill fronts)) ≤ most
    front_room t most l = room_first t c (sum segment_fill fronts) (plus (segment_fill x) (sum segment_fill backs)) most (rw with_sum at l)

    module _ (a : Fill) (pa : a ≡ plus c (sum segment_fill fronts)) where
      rest_room : (t : Table) (most : ℕ) → at t (plus c (sum segment_fill (put i x (segments_in s r v p w)))) ≤ most → at t (plus a (plus (segment_fill x) (sum segment_fill backs))) ≤ most
      rest_room t most l = room_rest t c (sum segment_fill fronts) a (plus (segment_fill x) (sum segment_fill backs)) most pa (rw with_sum at l)

      pub new_room : (t : Table) (most : ℕ) → at t (plus c (sum segment_fill (put i x (segments_in s r v p w)))) ≤ most → at t (plus a (segment_fill x)) ≤ most
      new_room t most l = room_first t a (segment_fill x) (sum segment_fill backs) most (rest_room t most l)

      module _ (b : Fill) (pb : b ≡ plus a (segment_fill x)) where
        pub back_room : (t : Table) (most : ℕ) → at t (plus c (sum segment_fill (put i x (segments_in s r v p w)))) ≤ most → at t (plus b (sum segment_fill backs)) ≤ most
        back_room t most l = room_rest t a (segment_fill x) b (sum segment_fill backs) most pb (rest_room t most l)

        pub with_past : (q : Fill) → q ≡ plus b (sum segment_fill backs) → q ≡ plus c (sum segment_fill (put i x (segments_in s r v p w)))
        with_past q u =
            u ∙ rw (pb, pa, with_sum)
            (plus_assoc (plus c (sum segment_fill fronts)) (segment_fill x) (sum segment_fill backs) ∙ plus_assoc c (sum segment_fill fronts) (plus (segment_fill x) (sum segment_fill backs)))

        pub with_laid : (col : Column segment_fill) (d d₁ d₂ d₃ : List ℕ) → at col.table (plus c (sum segment_fill (put i x (segments_in s r v p w)))) ≤ length d
            → d₁ ≡ write d (at col.table c) (column col c fronts) → d₂ ≡ write d₁ (at col.table a) (col.words a x) → d₃ ≡ write d₂ (at col.table b) (column col b backs)
            → d₃ ≡ write d (at col.table c) (column col c (put i x (segments_in s r v p w)))
        with_laid col d d₁ d₂ d₃ l u₁ u₂ u₃ =
            let t = col.table in
            let g = sum segment_fill (put i x (segments_in s r v p w)) in
            let f = plus (sum segment_fill fronts) (segment_fill x) in
            let pb' : b ≡ plus c f = pb ∙ rw pa (plus_assoc c (sum segment_fill fronts) (segment_fill x)) in
            let two : d₂ ≡ write d (at t c) (column col c fronts ++ col.words a x) =
            put_then t c (sum segment_fill fronts) a g d d₁ d₂ (column col c fronts) (col.words a x) l pa (column_long col c fronts) u₁ u₂ in
            let long : length (column col c fronts ++ col.words a x) ≡ at t f =
            rw (length-append, column_long col c fronts, col.long a x, at_plus t (sum segment_fill fronts) (segment_fill x)) in
            let is : (column col c fronts ++ col.words a x) ++ column col b backs ≡ column col c (put i x (segments_in s r v p w)) =
            append_assoc (column col c fronts) (col.words a x) (column col b backs)
            ∙ rw (put_in, laid_append segment_fill col.words c fronts (x ∷ backs), pb, pa) in
            put_then t c f b g d d₂ d₃ (column col c fronts ++ col.words a x) (column col b backs) l pb' long two u₃ ∙ ap (λ (z : List ℕ). write d (at t c) z) is

        pub with_bytes : (d d₁ d₂ d₃ : List ℕ) → at pool (plus c (sum segment_fill (put i x (segments_in s r v p w)))) ≤ length d
            → d₁ ≡ write d (at pool c) (joined segment_bytes fronts) → d₂ ≡ write d₁ (at pool a) (segment_bytes x) → d₃ ≡ write d₂ (at pool b) (joined segment_bytes backs)
            → d₃ ≡ write d (at pool c) (joined segment_bytes (put i x (segments_in s r v p w)))
        with_bytes d d₁ d₂ d₃ l u₁ u₂ u₃ =
            let j : (k : Fill) (ss : List Segment) → column segment_pool k ss ≡ joined segment_bytes ss = λ k ss. laid_joined segment_fill segment_bytes k ss in
            with_laid segment_pool d d₁ d₂ d₃ l (u₁ ∙ rw (j c fronts)) u₂ (u₃ ∙ rw (j b backs)) ∙ rw (j c (put i x (segments_in s r v p w)))
