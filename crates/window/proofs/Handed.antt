-- What the view of a selection shows: the selected segments, each once and in order, and no others.
use Rattle.std.specs.Prelude.{Err, Ok, Result}
use Prim.Native.Nat.{ℕ, suc, ◌-◌, ◌≤◌, ◌<◌, suc-le-suc}
use mathlib.Core.Path.{◌≡◌, refl, sym, ap, ◌∙◌}
use mathlib.Core.Bool.{Bool, true, false}
use mathlib.Core.List.{List, [], ◌∷◌}
use mathlib.Core.Logic.{◌↔◌}
use native.Mathlib.Omega.{arith}
use lib.ListN.{length, length-map}
use lib.Seq.{slice, length-slice}
use Rattle.keys.specs.Pick.{pick}
use Rattle.keys.specs.Says.{Says, holds, fails}
use Rattle.keys.specs.Prefix.{Bytes}
use Rattle.keys.specs.Range.{Edges, In, empty_of}
use Rattle.keys.specs.Pool.{edges_of}
use Rattle.keys.specs.declared.Range.{Range}
use Rattle.keys.proofs.Says.{says_lt}
use Rattle.records.specs.Model.{Segment}
use Rattle.records.specs.Decode.{Lent, segment_in, manifest_in}
use Rattle.records.specs.declared.Limits.{Limits}
use Rattle.records.specs.declared.ManifestRow.{ManifestRow}
use Rattle.records.specs.declared.Refusal.{Refusal}
use Rattle.records.specs.declared.Refusal.TheVariants.{Unlawful, OverLimit, EmptyRange}
use Rattle.lawful.specs.Judge.{judged_of}
use Rattle.segments.specs.Prefixes.{prefixes, prefix_of, leading}
use Rattle.segments.specs.Refuses.{range_over, refuses1, first_broken}
use Rattle.segments.specs.Select.{Meets, reached, first_of, past_of, window_of, chosen_of, selected_of, Holds}
use Rattle.segments.specs.declared.Selected.TheVariants as select
use Rattle.segments.proofs.Demand3.{selection}
use Rattle.window.specs.Rows.{part_in, shown, segments_read, first_in, past_in}
use Rattle.window.proofs.Own.{view_is}
use Rattle.segments.specs.declared.Selected.{Selected}

-- an answer about n segments names some of them
record Within (n : ℕ) (s : Result Selected Refusal) : Type 0 where
  upward : first_in s ≤ past_in s
  inside : past_in s ≤ n

none_within : (n : ℕ) (s : Result Selected Refusal) → first_in s ≡ 0 → past_in s ≡ 0 → Within n s
none_within n s e f = record { upward = omega arith; inside = omega arith }

leading_most : (f : List ℕ → Bool) (ps : List (List ℕ)) → leading f ps ≤ length ps
leading_most f [] = omega arith
leading_most f (p ∷ ps) = go (f p) (leading_most f ps)
  where
    go : (b : Bool) → leading f ps ≤ length ps → pick b (suc (leading f ps)) 0 ≤ length (p ∷ ps)
    go true h = suc-le-suc h
    go false h = omega arith

window_within : (n first past : ℕ) → past ≤ n → Within n (window_of first past)
window_within n first past h = go (says_lt first past)
  where
    go : {b : Bool} → Says (first < past) b → Within n (pick b (Ok (select.Window first past)) (Ok (select.Window 0 0)))
    go (holds l) = record { upward = omega arith; inside = h }
    go (fails l) = none_within n (Ok (select.Window 0 0)) refl refl

chosen_within : (r : Edges) (ps : List (List ℕ)) → Within (length ps) (chosen_of r ps)
unfolding chosen_of past_of
chosen_within r [] = none_within 0 (Ok select.Unsegmented) refl refl
chosen_within r (p ∷ ps) = window_within (length (p ∷ ps)) (first_of r.start (p ∷ ps)) (leading (λ q. reached r.end q) (p ∷ ps)) (leading_most (λ q. reached r.end q) (p ∷ ps))

prefixes_length : (ss : List Segment) → length (prefixes ss) ≡ length ss
prefixes_length [] = refl
prefixes_length (s ∷ ss) = ap suc (prefixes_length ss)

module _ (lim : Limits) (l : Lent) (m : ManifestRow) (args : List ℕ) (r : Range) where
  selected_within : Within (length (manifest_in l m).segments) (selected_of lim l m args r)
  unfolding selected_of
  selected_within =
      go (range_over lim.key (length args) r) OverLimit _
      (go (refuses1 lim l m) (Unlawful (first_broken lim l m)) _
      (go (empty_of (edges_of args r).start (edges_of args r).end) EmptyRange _ (rw (prefixes_length (manifest_in l m).segments) at (chosen_within (edges_of args r) (prefixes (manifest_in l m).segments)))))
    where
      go : (b : Bool) (x : Refusal) (s : Result Selected Refusal) → Within (length (manifest_in l m).segments) s → Within (length (manifest_in l m).segments) (pick b (Err x) s)
      go true x s h = none_within (length (manifest_in l m).segments) (Err x) refl refl
      go false x s h = h

  -- The view that `selected_window` hands back for what `select_segments` answered: the segments that its rows stand for are those of the
  -- manifest with index first, .., past - 1, and so many rows it has.
  pub selected_view :
      (segments_read l (shown (part_in l.segments m.segments) (first_in (selected_of lim l m args r)) (past_in (selected_of lim l m args r)))
      ≡ slice (first_in (selected_of lim l m args r)) (past_in (selected_of lim l m args r)) (manifest_in l m).segments)
      × (length (shown (part_in l.segments m.segments) (first_in (selected_of lim l m args r)) (past_in (selected_of lim l m args r)))
      ≡ past_in (selected_of lim l m args r) - first_in (selected_of lim l m args r))
  selected_view = go (selected_of lim l m args r) selected_within.inside
    where
      go : (s : Result Selected Refusal) → past_in s ≤ length (manifest_in l m).segments
          → (segments_read l (shown (part_in l.segments m.segments) (first_in s) (past_in s)) ≡ slice (first_in s) (past_in s) (manifest_in l m).segments)
          × (length (shown (part_in l.segments m.segments) (first_in s) (past_in s)) ≡ past_in s - first_in s)
      go s h =
          let e = view_is l m (first_in s) (past_in s) in
          (e, sym (length-map (shown (part_in l.segments m.segments) (first_in s) (past_in s)) (segment_in l.runs l.views l.pool)) ∙ ap length e ∙ length-slice (first_in s) (past_in s) (manifest_in l m).segments h)

  -- "selection returns exactly the segments with some key in the range that begins with their prefix": these are the view's
  pub view_exact :
      Bytes l.pool → Bytes args → judged_of lim l m ≡ Ok tt → range_over lim.key (length args) r ≡ false
      → (k : List ℕ) → Bytes k → In k (edges_of args r)
      → (i : ℕ) → i < length (prefixes (manifest_in l m).segments)
      → Meets (edges_of args r) (prefix_of (prefixes (manifest_in l m).segments) i) ↔ ((first_in (selected_of lim l m args r) ≤ i) × (i < past_in (selected_of lim l m args r)))
  view_exact bp ba h o k bk w i n = let e = selection lim l m args r bp ba h o k bk w i n in let f = go (selected_of lim l m args r) in (λ x. f.0 (e.0 x), λ x. e.1 (f.1 x))
    where
      go : (s : Result Selected Refusal) → Holds i s ↔ ((first_in s ≤ i) × (i < past_in s))
      go (Ok select.Unsegmented) = (λ x. absurd x, λ x. omega arith)
      go (Ok (select.Window first past)) = (λ x. x, λ x. x)
      go (Err q) = (λ x. absurd x, λ x. omega arith)
