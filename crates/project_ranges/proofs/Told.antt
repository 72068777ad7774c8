-- What refusals 8 and 9 come to: a range that is contained holds only keys of its prefix, and 9 is never told of the unsegmented tree.
use Rattle.records.specs.declared.Refusal.TheVariants.{OwnEmpty, OwnOutside}
use Rattle.std.specs.Prelude.{None, Option, Some}
use Prim.Native.Nat.{ℕ}
use mathlib.Core.Path.{◌≡◌, refl, sym, ap}
use mathlib.Core.Bool.{true, false, true≢false}
use mathlib.Core.List.{List, [], ◌∷◌}
use Rattle.keys.specs.Pick.{pick}
use Rattle.keys.specs.Key.{order_of, is_less}
use Rattle.keys.specs.Prefix.{Bytes, Begins, Top, nowhere, at, Under, free, under, after}
use Rattle.keys.specs.Range.{Edge, unbounded, included, excluded, Edges, From, To, In, empty_of}
use Rattle.keys.specs.Meet.{start_order, later, earlier}
use Rattle.keys.proofs.Says.{says_true}
use Rattle.keys.proofs.Prefixes.{begins_between}
use Rattle.keys.proofs.Meets.{from_later, to_earlier}
use Rattle.segments.proofs.Places.{and_both}
use Rattle.project_views.specs.Reach.{top_edge}
use Rattle.project_views.specs.Shown.{holds_none}
use Rattle.project_ranges.specs.Own.{or_else, resolved, same_edge, is_contained, range_fault}
use Rattle.project_ranges.specs.Steps.{end_stays}
use Rattle.project_ranges.proofs.Contains.{says_equal, edge_self, start_from}
use Rattle.records.specs.declared.Refusal.{Refusal}

same_edge_lem : (s t : Edge) → same_edge s t ≡ true → s ≡ t
same_edge_lem unbounded unbounded e = refl
same_edge_lem unbounded (included b) e = absurd (true≢false (sym e))
same_edge_lem unbounded (excluded b) e = absurd (true≢false (sym e))
same_edge_lem (included a) unbounded e = absurd (true≢false (sym e))
same_edge_lem (included a) (included b) e = ap included (says_true (says_equal a b) e)
same_edge_lem (included a) (excluded b) e = absurd (true≢false (sym e))
same_edge_lem (excluded a) unbounded e = absurd (true≢false (sym e))
same_edge_lem (excluded a) (included b) e = absurd (true≢false (sym e))
same_edge_lem (excluded a) (excluded b) e = ap excluded (says_true (says_equal a b) e)

to_under : (k : List ℕ) (t : Top) → To k (top_edge t) → Under k t
to_under k nowhere h = free
to_under k (at b) h = under h

-- each key of a range that is contained begins with the prefix
pub contained_begins : (p : List ℕ) (r : Edges) (k : List ℕ) → is_contained p r ≡ true → Bytes k → In k r → Begins p k
contained_begins p r k e b i =
    let w = and_both (same_edge (later r.start (included p)) r.start) (same_edge (earlier r.end (top_edge (after p))) r.end) e in
    let s : later r.start (included p) ≡ r.start = same_edge_lem _ _ w.0 in
    let t : earlier r.end (top_edge (after p)) ≡ r.end = same_edge_lem _ _ w.1 in
    let f : From (later r.start (included p)) k = rw s i.from in
    let g : To k (earlier r.end (top_edge (after p))) = rw t i.to in
    (begins_between p k b).1 (((from_later k r.start (included p)).0 f).1, to_under k (after p) ((to_earlier k r.end (top_edge (after p))).0 g).1)

-- the unsegmented tree's prefix is empty: every range is contained in its range, so "9 never has place 0"
whole_start : (s : Edge) → is_less (start_order (or_else s (included [])) (included [])) ≡ false
unfolding order_of
whole_start unbounded = refl
whole_start (included []) = refl
whole_start (included (x ∷ a)) = refl
whole_start (excluded []) = refl
whole_start (excluded (x ∷ a)) = refl

whole_end_lem : (e : Edge) → end_stays [] e ≡ true
unfolding after
whole_end_lem unbounded = refl
whole_end_lem (included a) = edge_self (included a)
whole_end_lem (excluded a) = edge_self (excluded a)

pub whole_contains : (r : Edges) → is_contained [] (resolved [] r) ≡ true
whole_contains r = rw (start_from [] (or_else r.start (included [])) (whole_start r.start)) (whole_end_lem r.end)

pub whole_told : (place : ℕ) (r : Edges) → range_fault place [] r ≡ pick (holds_none (resolved [] r)) (Some (OwnEmpty place)) None
unfolding range_fault
whole_told place r = rw (whole_contains r)

-- the cases of the segment `c`, by the keys a to e
module _ (place : ℕ) where
  abbrev of_c : Edge → Edge → Option Refusal
  of_c s e = range_fault place (0x63 ∷ []) (record { start = s; end = e })

  pub up_to_b : of_c unbounded (included (0x62 ∷ [])) ≡ Some (OwnEmpty place)
  unfolding range_fault empty_of order_of after
  up_to_b = refl

  pub a_to_b : of_c (included (0x61 ∷ [])) (included (0x62 ∷ [])) ≡ Some (OwnOutside place)
  unfolding range_fault empty_of order_of after
  a_to_b = refl

  pub from_d : of_c (included (0x64 ∷ [])) unbounded ≡ Some (OwnEmpty place)
  unfolding range_fault empty_of order_of after
  from_d = refl

  pub d_to_e : of_c (included (0x64 ∷ [])) (included (0x65 ∷ [])) ≡ Some (OwnOutside place)
  unfolding range_fault empty_of order_of after
  d_to_e = refl

  pub below_d : of_c unbounded (excluded (0x64 ∷ [])) ≡ None
  unfolding range_fault empty_of order_of after
  below_d = refl

  pub up_to_d : of_c unbounded (included (0x64 ∷ [])) ≡ Some (OwnOutside place)
  unfolding range_fault empty_of order_of after
  up_to_d = refl

  pub b_to_a : of_c (included (0x62 ∷ [])) (included (0x61 ∷ [])) ≡ Some (OwnEmpty place)
  unfolding range_fault empty_of order_of after
  b_to_a = refl

  -- 9 is about bounds: each key above 61, up to 61 00 62, that is there is one of the prefix 61 00
  pub above_61 : range_fault place (0x61 ∷ 0 ∷ []) (record { start = excluded (0x61 ∷ []); end = included (0x61 ∷ 0 ∷ 0x62 ∷ []) }) ≡ Some (OwnOutside place)
  unfolding range_fault empty_of order_of after
  above_61 = refl
