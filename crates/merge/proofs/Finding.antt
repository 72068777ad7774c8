-- The loop that looks for data of the compactor's only. Assumes nothing.
use Rattle.std.specs.Prelude.{None, Option, Some}
use Prim.Native.Nat.{ℕ, suc, ◌+◌, ◌-◌, ◌/◌, ◌≤◌, ◌<◌}
use mathlib.Core.Path.{◌≡◌, refl, sym, ap, ◌∙◌}
use mathlib.Core.Bool.{Bool, true, false, not, ◌||◌}
use mathlib.Core.List.{List, [], ◌∷◌}
use native.Mathlib.Omega.{arith}
use native.Mathlib.Nat.{add-zero}
use lib.ListN.{length, drop}
use lib.Seq.{drop-drop}
use Rattle.keys.specs.Pick.{pick}
use Rattle.keys.specs.Key.{less_of}
use Rattle.std.specs.declared.cmp.Ordering.{Ordering}
use Rattle.keys.proofs.ByteOrder.{Stand, stand}
use Rattle.tables.specs.Window.{held_of}
use Rattle.tables.specs.declared.Window.{Window}
use Rattle.records.specs.Model.{Segment}
use Rattle.records.specs.Decode.{bytes_in, tree_in, segment_in, segments_in}
use Rattle.records.specs.declared.SegmentRow.{SegmentRow}
use Rattle.measure.specs.Tests.{chain}
use Rattle.segments.specs.Prefixes.{prefixes, prefixes_in}
use Rattle.merge.specs.Tree.{is_empty}
use Rattle.merge.specs.Merge.{has_prefix, only_data, refuses6, place6}
use Rattle.merge.specs.Steps.{rows_in, segments_of, step_by, step_of, step_at, writer_taken, compactor_taken, empty_row}
use Rattle.merge.specs.Finds.{data_step, only_of, first_only}
use Rattle.merge.specs.declared.MergeStep.{MergeStep}
use Rattle.merge.specs.declared.MergeStep.TheVariants.{End, WriterOnly, CompactorOnly, Both}
use Rattle.merge.specs.declared.Cursors.{Cursors}
use Rattle.merge.specs.declared.Only.{Only}
use Rattle.merge.proofs.Ascending.{Above, Ascending, above_on, itself}
use Rattle.merge.proofs.Prefixwise.{has_absent, only_past}
use Rattle.merge.proofs.Onward.{empty_in}
use Rattle.merge.proofs.Rowwise.{rows_end}
use Rattle.merge.proofs.Left.{segments_of_lem, ascending_drop, Between, between_none, taken}

-- ---- what the arms of the code know
module _ (views runs : List ℕ) (s : MergeStep) where
  pub data_end : s ≡ End → false ≡ data_step views runs s
  data_end e = rw e

  pub data_writer : (w : SegmentRow) → s ≡ WriterOnly w → false ≡ data_step views runs s
  data_writer w e = rw e

  pub data_compactor : (c : SegmentRow) (r : Bool) → s ≡ CompactorOnly c → r ≡ empty_row views runs c.tree → not r ≡ data_step views runs s
  data_compactor c r e h = rw e (ap not h)

  pub data_both : (w c : SegmentRow) → s ≡ Both w c → false ≡ data_step views runs s
  data_both w c e = rw e

pub ruleset datas = (data_end, data_writer, data_compactor, data_both)

pub only_by : (segments views runs pool : List ℕ) (w c : Window) (i j : ℕ) (s : MergeStep) (d : Bool) (p : Cursors)
    → s ≡ step_at segments pool w c i j → d ≡ data_step views runs s → p ≡ record { i = i + writer_taken s; j = j + compactor_taken s }
    → record { alone = d; i = p.i; j = p.j } ≡ only_of segments views runs pool w c i j
unfolding only_of
only_by segments views runs pool w c i j s d p e f g = rw (g, f, e)

-- ---- the next of the compactor's
module _ (j : ℕ) (ws : List Segment) (c : Segment) (cs : List Segment) where
  only_skip : only_data ws c ≡ false → first_only j ws (c ∷ cs) ≡ first_only (j + 1) ws cs
  unfolding first_only
  only_skip e = go (only_data ws c) e
    where
      go : (b : Bool) → b ≡ false
          → pick (b || refuses6 ws cs) (Some (j + pick (not b) (suc (place6 ws cs)) 0)) None ≡ pick (refuses6 ws cs) (Some (j + 1 + place6 ws cs)) None
      go true e = let z : ◌≡◌ {A = ℕ} 0 1 = cc in absurd (omega arith)
      go false e = let n : j + suc (place6 ws cs) ≡ j + 1 + place6 ws cs = omega arith in ap (λ k. pick (refuses6 ws cs) (Some k) None) n

  only_here : only_data ws c ≡ true → first_only j ws (c ∷ cs) ≡ Some j
  unfolding first_only
  only_here e = go (only_data ws c) e
    where
      go : (b : Bool) → b ≡ true → pick (b || refuses6 ws cs) (Some (j + pick (not b) (suc (place6 ws cs)) 0)) None ≡ Some j
      go true e = rw (add-zero j)
      go false e = let z : ◌≡◌ {A = ℕ} 0 1 = cc in absurd (omega arith)

-- the writer's next says nothing of those above it
only_first : (j : ℕ) (w : Segment) (ws cs : List Segment) → Above w.prefix (prefixes cs) → first_only j (w ∷ ws) cs ≡ first_only j ws cs
unfolding first_only
only_first j w ws cs a =
    let e = only_past w ws cs a in
    ap (λ b. pick b (Some (j + place6 (w ∷ ws) cs)) None) e.0 ∙ ap (λ k. pick (refuses6 ws cs) (Some (j + k)) None) e.1

module _ (runs views pool : List ℕ) where
  abbrev pub Only-gives : ℕ → List SegmentRow → List SegmentRow → MergeStep → Type 0
  Only-gives j ws cs s =
      first_only j (segments_of runs views pool ws) (segments_of runs views pool cs)
      ≡ pick (data_step views runs s) (Some j) (first_only (j + compactor_taken s) (segments_of runs views pool (drop (writer_taken s) ws)) (segments_of runs views pool (drop (compactor_taken s) cs)))

  first_only_lem : (j : ℕ) (w : SegmentRow) (ws cs : List SegmentRow) → Above (bytes_in pool w.prefix) (prefixes (segments_of runs views pool cs)) → Only-gives j (w ∷ ws) cs (WriterOnly w)
  unfolding segment_in
  first_only_lem j w ws cs a = rw (add-zero j) (only_first j (segment_in runs views pool w) (segments_of runs views pool ws) (segments_of runs views pool cs) a)

  both_only : (j : ℕ) (w c : SegmentRow) (ws cs : List SegmentRow) → bytes_in pool w.prefix ≡ bytes_in pool c.prefix → Above (bytes_in pool w.prefix) (prefixes (segments_of runs views pool cs)) → Only-gives j (w ∷ ws) (c ∷ cs) (Both w c)
  unfolding segment_in has_prefix
  both_only j w c ws cs e a =
      only_skip j (segment_in runs views pool w ∷ segments_of runs views pool ws) (segment_in runs views pool c) (segments_of runs views pool cs) (rw (e, itself (bytes_in pool c.prefix)))
      ∙ only_first (j + 1) (segment_in runs views pool w) (segments_of runs views pool ws) (segments_of runs views pool cs) a

  second_only : (j : ℕ) (c : SegmentRow) (ws cs : List SegmentRow) → Above (bytes_in pool c.prefix) (prefixes (segments_of runs views pool ws)) → Only-gives j ws (c ∷ cs) (CompactorOnly c)
  unfolding segment_in
  second_only j c ws cs a = rw (empty_in runs views pool c.tree) (go (is_empty (tree_in runs views pool c.tree)) refl)
    where
      alone : (b : Bool) → is_empty (tree_in runs views pool c.tree) ≡ b → only_data (segments_of runs views pool ws) (segment_in runs views pool c) ≡ not b
      alone b e = rw (has_absent (segments_of runs views pool ws) a, e)

      go : (b : Bool) → is_empty (tree_in runs views pool c.tree) ≡ b
          → first_only j (segments_of runs views pool ws) (segment_in runs views pool c ∷ segments_of runs views pool cs) ≡ pick (not b) (Some j) (first_only (j + 1) (segments_of runs views pool ws) (segments_of runs views pool cs))
      go true e = only_skip j (segments_of runs views pool ws) (segment_in runs views pool c) (segments_of runs views pool cs) (alone true e)
      go false e = only_here j (segments_of runs views pool ws) (segment_in runs views pool c) (segments_of runs views pool cs) (alone false e)

  only_gives : (j : ℕ) (ws cs : List SegmentRow) → Ascending (prefixes (segments_of runs views pool ws)) → Ascending (prefixes (segments_of runs views pool cs)) → Only-gives j ws cs (step_of pool ws cs)
  unfolding step_of segment_in first_only
  only_gives j [] [] a b = refl
  only_gives j (w ∷ ws) [] a b = refl
  only_gives j [] (c ∷ cs) a b = second_only j c [] cs Above.none
  only_gives j (w ∷ ws) (c ∷ cs) (Ascending.more a _) (Ascending.more b _) = go (stand (bytes_in pool w.prefix) (bytes_in pool c.prefix))
    where
      go : {o : Ordering} → Stand (bytes_in pool w.prefix) (bytes_in pool c.prefix) o → Only-gives j (w ∷ ws) (c ∷ cs) (step_by o w c)
      go (Stand.less h) = first_only_lem j w ws (c ∷ cs) (Above.more h (above_on h b))
      go (Stand.same e) = both_only j w c ws cs e (rw e b)
      go (Stand.more h) = second_only j c (w ∷ ws) cs (Above.more h (above_on h a))

-- ---- the loop
module _ (segments runs views pool : List ℕ) (w c : Window) where
  abbrev at : ℕ → ℕ → Option ℕ
  at i j = first_only j (segments_of runs views pool (drop i (rows_in segments w))) (segments_of runs views pool (drop j (rows_in segments c)))

  abbrev whole : Option ℕ
  whole = first_only 0 (segments_in segments runs views pool w) (segments_in segments runs views pool c)

  pub record Seeking (n m end i j : ℕ) : Type 0 where
    pub ends : end ≡ n + m
    pub between : Between segments views runs pool w c n m i j
    pub says : at i j ≡ whole

  pub seeking_none : (n m : ℕ) → n ≡ held_of w (length segments / 12) → m ≡ held_of c (length segments / 12)
      → chain less_of (prefixes_in segments pool w) ≡ true → chain less_of (prefixes_in segments pool c) ≡ true → Seeking n m (n + m) 0 0
  seeking_none n m d e f g =
      record { ends = refl; between = between_none segments views runs pool w c n m d e f g; says = rw (segments_of_lem runs views pool segments w, segments_of_lem runs views pool segments c) }

  module _ (n m end i j : ℕ) (y : Seeking n m end i j) where
    pub seeking_all : end ≤ i + j → None ≡ whole
    unfolding first_only
    seeking_all h = (rw (rows_end segments c m j y.between.compactor (omega (arith, y.ends, y.between.i_within, y.between.j_within))) at y.says)

    module _ (t : Only) (e : t ≡ only_of segments views runs pool w c i j) (h : i + j < end) where
      h' : i + j < n + m
      h' = omega (arith, y.ends)

      onward : at i j ≡ pick t.alone (Some j) (at t.i t.j)
      unfolding only_of
      onward =
          let s = step_at segments pool w c i j in
          rw (e, ← drop-drop (writer_taken s) i (rows_in segments w), ← drop-drop (compactor_taken s) j (rows_in segments c))
          (only_gives runs views pool j (drop i (rows_in segments w)) (drop j (rows_in segments c)) (ascending_drop runs views pool i (rows_in segments w) y.between.w_ascends) (ascending_drop runs views pool j (rows_in segments c) y.between.c_ascends))

      pub seeking_here : t.alone ≡ true → Some j ≡ whole
      seeking_here b = sym (rw b at onward) ∙ y.says

      pub seeking_less : end - (t.i + t.j) < end - (i + j)
      unfolding only_of
      seeking_less = rw e (omega (arith, taken segments views runs pool w c n m i j y.between h', y.ends))

      pub seeking_more : t.alone ≡ false → Seeking n m end t.i t.j
      unfolding only_of
      seeking_more b =
          let k = taken segments views runs pool w c n m i j y.between h' in
          record {
            ends = y.ends;
            between = record { writer = y.between.writer; compactor = y.between.compactor; i_within = rw e k.0; j_within = rw e k.1; w_ascends = y.between.w_ascends; c_ascends = y.between.c_ascends };
            says = sym (rw b at onward) ∙ y.says;
          }
