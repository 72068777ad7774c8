-- The two cursors of a walk, and what is left of it. Assumes nothing.
use Prim.Native.Nat.{ℕ, zero, suc, ◌+◌, ◌-◌, ◌/◌, ◌^◌, ◌≤◌, ◌<◌}
use mathlib.Core.Path.{◌≡◌, refl, ap, ◌∙◌}
use mathlib.Core.Bool.{Bool, true, false}
use mathlib.Core.List.{List, [], ◌∷◌, ◌++◌}
use native.Mathlib.Omega.{arith}
use native.Mathlib.Decide.{dec_lt}
use lib.Dec.{leb}
use lib.ListN.{length, drop}
use lib.Seq.{drop-drop}
use borrow.Author.Tests.{leb-true}
use mir.Syntax.{w64}
use mir.Val.{Fits}
use Rattle.keys.specs.Pick.{pick}
use Rattle.keys.specs.Key.{less_of, order_of}
use Rattle.std.specs.declared.cmp.Ordering.{Ordering}
use Rattle.std.specs.declared.cmp.Ordering.TheVariants.{Less, Equal, Greater}
use Rattle.tables.specs.Layout.{up_to}
use Rattle.tables.specs.Window.{held_of}
use Rattle.tables.specs.declared.Window.{Window}
use Rattle.records.specs.Model.{Segment}
use Rattle.records.specs.Row.{segment_at}
use Rattle.records.specs.Decode.{bytes_in, segment_in, segments_in}
use Rattle.records.specs.declared.SegmentRow.{SegmentRow}
use Rattle.measure.specs.Tests.{chain}
use Rattle.lawful.specs.Steps.{prefix_at}
use Rattle.segments.specs.Prefixes.{prefixes, prefixes_in}
use Rattle.merge.specs.Steps.{rows_in, segments_of, step_by, step_of, writer_taken, compactor_taken, keep_in, merged_from, step_at, next_of}
use Rattle.merge.specs.Merge.{either_of, from_writer, from_compactor}
use Rattle.merge.specs.declared.Side.{Side}
use Rattle.merge.specs.declared.Side.TheVariants.{Writer, Compactor}
use Rattle.merge.specs.declared.MergeStep.{MergeStep}
use Rattle.merge.specs.declared.Next.{Next}
use Rattle.merge.proofs.Ascending.{Ascending, ascending_of}
use Rattle.merge.proofs.Rowwise.{rows_some, rows_end}
use Rattle.merge.proofs.Onward.{gives}

-- ---- the segments of a window's rows
module _ (runs views pool : List ℕ) where
  segments_snoc : (ss : List SegmentRow) (s : SegmentRow) → segments_of runs views pool (ss ++ s ∷ []) ≡ segments_of runs views pool ss ++ (segment_in runs views pool s ∷ [])
  segments_snoc [] s = refl
  segments_snoc (r ∷ ss) s = ap (λ xs. segment_in runs views pool r ∷ xs) (segments_snoc ss s)

  segments_up_to : (f : ℕ → SegmentRow) (n : ℕ) → segments_of runs views pool (up_to f n) ≡ up_to (λ k. segment_in runs views pool (f k)) n
  segments_up_to f zero = refl
  segments_up_to f (suc n) = segments_snoc (up_to f n) (f n) ∙ ap (λ xs. xs ++ (segment_in runs views pool (f n) ∷ [])) (segments_up_to f n)

  pub segments_of_lem : (segments : List ℕ) (w : Window) → segments_of runs views pool (rows_in segments w) ≡ segments_in segments runs views pool w
  unfolding segments_in
  segments_of_lem segments w = segments_up_to (λ k. segment_at segments (w.first + k)) (held_of w (length segments / 12))

  prefixes_snoc : (ss : List Segment) (s : Segment) → prefixes (ss ++ s ∷ []) ≡ prefixes ss ++ (s.prefix ∷ [])
  prefixes_snoc [] s = refl
  prefixes_snoc (t ∷ ss) s = ap (λ ps. t.prefix ∷ ps) (prefixes_snoc ss s)

  prefixes_up_to : (f : ℕ → SegmentRow) (n : ℕ) → prefixes (up_to (λ k. segment_in runs views pool (f k)) n) ≡ up_to (λ k. bytes_in pool (f k).prefix) n
  unfolding segment_in
  prefixes_up_to f zero = refl
  prefixes_up_to f (suc n) = prefixes_snoc (up_to (λ k. segment_in runs views pool (f k)) n) (segment_in runs views pool (f n)) ∙ ap (λ ps. ps ++ (bytes_in pool (f n).prefix ∷ [])) (prefixes_up_to f n)

  pub prefixes_of_lem : (segments : List ℕ) (w : Window) → prefixes (segments_of runs views pool (rows_in segments w)) ≡ prefixes_in segments pool w
  unfolding prefixes_in
  prefixes_of_lem segments w = ap prefixes (segments_up_to (λ k. segment_at segments (w.first + k)) (held_of w (length segments / 12))) ∙ prefixes_up_to (λ k. segment_at segments (w.first + k)) (held_of w (length segments / 12))

  pub ascending_drop : (i : ℕ) (ss : List SegmentRow) → Ascending (prefixes (segments_of runs views pool ss)) → Ascending (prefixes (segments_of runs views pool (drop i ss)))
  ascending_drop zero ss a = a
  ascending_drop (suc i) [] a = a
  ascending_drop (suc i) (s ∷ ss) (Ascending.more _ a) = ascending_drop i ss a

held_most : (w : Window) (rows : ℕ) → held_of w rows ≤ rows
unfolding held_of
held_most w rows = go (leb (w.first + w.count) rows) refl
  where
    go : (b : Bool) → leb (w.first + w.count) rows ≡ b → pick b w.count 0 ≤ rows
    go true e = let l : w.first + w.count ≤ rows = leb-true (w.first + w.count) rows e in omega arith
    go false e = omega arith

-- ---- the cursors
pub record Between (segments views runs pool : List ℕ) (w c : Window) (n m i j : ℕ) : Type 0 where
  pub writer : n ≡ held_of w (length segments / 12)
  pub compactor : m ≡ held_of c (length segments / 12)
  pub i_within : i ≤ n
  pub j_within : j ≤ m
  pub w_ascends : Ascending (prefixes (segments_of runs views pool (rows_in segments w)))
  pub c_ascends : Ascending (prefixes (segments_of runs views pool (rows_in segments c)))

module _ (segments views runs pool : List ℕ) (w c : Window) (n m : ℕ) where
  pub between_none : n ≡ held_of w (length segments / 12) → m ≡ held_of c (length segments / 12) → chain less_of (prefixes_in segments pool w) ≡ true → chain less_of (prefixes_in segments pool c) ≡ true
      → Between segments views runs pool w c n m 0 0
  between_none d e a b =
      record {
        writer = d;
        compactor = e;
        i_within = omega arith;
        j_within = omega arith;
        w_ascends = rw (prefixes_of_lem runs views pool segments w) (ascending_of (prefixes_in segments pool w) a);
        c_ascends = rw (prefixes_of_lem runs views pool segments c) (ascending_of (prefixes_in segments pool c) b);
      }

  pub ends_fit : n ≡ held_of w (length segments / 12) → m ≡ held_of c (length segments / 12) → length segments < 2 ^ 64 → Fits w64 (n + m)
  ends_fit d e l =
      let p = held_most w (length segments / 12) in
      let q = held_most c (length segments / 12) in
      record { fits = omega arith }

-- the result's segments that are still to come
abbrev pub left : Side → List ℕ → List ℕ → List ℕ → List ℕ → Window → Window → ℕ → ℕ → List Segment
left side segments views runs pool w c i j =
    merged_from side (segments_of runs views pool (drop i (rows_in segments w))) (segments_of runs views pool (drop j (rows_in segments c)))

pub left_all : (side : Side) (segments views runs pool : List ℕ) (w c : Window) → left side segments views runs pool w c 0 0 ≡ merged_from side (segments_in segments runs views pool w) (segments_in segments runs views pool c)
left_all side segments views runs pool w c = rw (segments_of_lem runs views pool segments w, segments_of_lem runs views pool segments c)

module _ (segments views runs pool : List ℕ) (w c : Window) (n m i j : ℕ) (b : Between segments views runs pool w c n m i j) where
  pub cursors_fit : length segments < 2 ^ 64 → (i + 1 < 2 ^ 64) × (j + 1 < 2 ^ 64)
  cursors_fit l =
      let p = held_most w (length segments / 12) in
      let q = held_most c (length segments / 12) in
      (omega (arith, b.writer, b.i_within), omega (arith, b.compactor, b.j_within))

  pub sum_fits : length segments < 2 ^ 64 → Fits w64 (i + j)
  sum_fits l =
      let p = held_most w (length segments / 12) in
      let q = held_most c (length segments / 12) in
      record { fits = omega (arith, b.writer, b.compactor, b.i_within, b.j_within) }

  pub left_end : (side : Side) → n + m ≤ i + j → left side segments views runs pool w c i j ≡ []
  unfolding from_writer from_compactor either_of
  left_end side h =
      rw (rows_end segments w n i b.writer (omega (arith, b.i_within, b.j_within)), rows_end segments c m j b.compactor (omega (arith, b.i_within, b.j_within)))
      (none side)
    where
      none : (s : Side) → merged_from s [] [] ≡ []
      none Writer = refl
      none Compactor = refl

  -- a step takes a row that is there
  abbrev pub Taken : MergeStep → Type 0
  Taken s = (i + writer_taken s ≤ n) × (j + compactor_taken s ≤ m) × (i + j < i + writer_taken s + (j + compactor_taken s))

  taken_by : (o : Ordering) (x y : SegmentRow) → i < n → j < m → Taken (step_by o x y)
  taken_by Less x y h l = (omega arith, omega arith, omega arith)
  taken_by Equal x y h l = (omega arith, omega arith, omega arith)
  taken_by Greater x y h l = (omega arith, omega arith, omega arith)

  pub taken : i + j < n + m → Taken (step_at segments pool w c i j)
  unfolding step_of
  taken h =
      elim (dec_lt i n) [
        | yes p ↦ elim (dec_lt j m) [
          | yes q ↦ rw (rows_some segments w n i b.writer p, rows_some segments c m j b.compactor q) (taken_by (order_of (prefix_at segments pool (w.first + i)) (prefix_at segments pool (c.first + j))) (segment_at segments (w.first + i)) (segment_at segments (c.first + j)) p q)
          | no q ↦ rw (rows_some segments w n i b.writer p, rows_end segments c m j b.compactor (omega arith)) (omega arith, omega (arith, b.j_within), omega arith)
        ]
        | no p ↦ elim (dec_lt j m) [
          | yes q ↦ rw (rows_end segments w n i b.writer (omega arith), rows_some segments c m j b.compactor q) (omega (arith, b.i_within), omega arith, omega arith)
          | no q ↦ absurd (omega (arith, b.i_within, b.j_within))
        ]
      ]

  module _ (side : Side) (r : Next) (e : r ≡ next_of side segments views runs pool w c i j) (h : i + j < n + m) where
    pub next_between : Between segments views runs pool w c n m r.i r.j
    unfolding next_of
    next_between = record { writer = b.writer; compactor = b.compactor; i_within = rw e (taken h).0; j_within = rw e (taken h).1; w_ascends = b.w_ascends; c_ascends = b.c_ascends }

    pub next_on : i + j < r.i + r.j
    unfolding next_of
    next_on = rw e (taken h).2

    pub next_less : (end : ℕ) → end ≡ n + m → end - (r.i + r.j) < end - (i + j)
    next_less end f = omega (arith, next_on)

    pub next_left : left side segments views runs pool w c i j ≡ keep_in runs views pool r.keep ++ left side segments views runs pool w c r.i r.j
    unfolding next_of
    next_left =
        let s = step_at segments pool w c i j in
        rw (e, ← drop-drop (writer_taken s) i (rows_in segments w), ← drop-drop (compactor_taken s) j (rows_in segments c))
        (gives runs views pool side (drop i (rows_in segments w)) (drop j (rows_in segments c)) (ascending_drop runs views pool i (rows_in segments w) b.w_ascends) (ascending_drop runs views pool j (rows_in segments c) b.c_ascends))
