-- Which own range is at fault, and which of several is told. Assumes nothing.
use Rattle.records.specs.declared.Refusal.TheVariants.{OwnEmpty, OwnOutside}
use Rattle.std.specs.Prelude.{None, Option, Some}
use Prim.Native.Nat.{ℕ, zero, suc, ◌+◌, ◌/◌, ◌≤◌, ◌<◌}
use mathlib.Core.Path.{◌≡◌, refl, sym, ap, ◌∙◌}
use mathlib.Core.Bool.{Bool, true, false, true≢false}
use mathlib.Core.List.{List, []}
use native.Mathlib.Omega.{arith}
use lib.Dec.{leb}
use lib.ListN.{length}
use borrow.Author.Count.{below_more}
use Rattle.keys.specs.Pool.{part_of, edges_of}
use Rattle.keys.specs.declared.Range.{Range}
use Rattle.tables.specs.Layout.{up_to}
use Rattle.tables.specs.Window.{held_of}
use Rattle.tables.specs.declared.Window.{Window}
use Rattle.tables.proofs.Holds.{pick_same, up_to_front}
use Rattle.records.specs.Row.{segment_at}
use Rattle.records.specs.Decode.{bytes_in}
use Rattle.records.specs.declared.Place.{Place}
use Rattle.records.specs.declared.SegmentRow.{SegmentRow}
use Rattle.lawful.specs.Steps.{prefix_at}
use Rattle.segments.specs.Prefixes.{prefixes_in}
use Rattle.project_views.specs.Reach.{reach_of}
use Rattle.project_views.specs.Shown.{holds_none}
use Rattle.project_views.specs.declared.Reach.{Reach}
use Rattle.project_ranges.specs.Config.{Config, passes}
use Rattle.project_ranges.specs.Own.{resolved, is_contained, range_fault, tree_fault, first_fault, fault_from, own_fault}
use Rattle.project_ranges.specs.Args.{config_in}
use Rattle.project_ranges.specs.Steps.{resolved_row, own_at, is_none}
use Rattle.project_ranges.specs.declared.ProjectionConfig.{ProjectionConfig}
use Rattle.project_ranges.proofs.Rows.{own_is}
use Rattle.project_ranges.proofs.Contains.{resolved_is}
use Rattle.records.specs.declared.Refusal.{Refusal}

-- ---- one range

module _ (pool : List ℕ) (p : Place) (place : ℕ) (r : Range) (q : Reach) (b : Bool) (e : q ≡ resolved_row p r) (h : b ≡ holds_none (reach_of pool q)) where
  none_is : holds_none (resolved (bytes_in pool p) (edges_of pool r)) ≡ b
  none_is = sym (h ∙ ap (λ (z : Reach). holds_none (reach_of pool z)) e ∙ ap holds_none (resolved_is pool p r))

  pub fault_empty : b ≡ true → Some (OwnEmpty place) ≡ range_fault place (bytes_in pool p) (edges_of pool r)
  unfolding range_fault
  fault_empty t = rw (none_is ∙ t)

  module _ (x : Bool) (t : b ≡ false) (g : x ≡ is_contained (bytes_in pool p) (resolved (bytes_in pool p) (edges_of pool r))) where
    pub fault_none : x ≡ true → None ≡ range_fault place (bytes_in pool p) (edges_of pool r)
    unfolding range_fault
    fault_none u = rw (none_is ∙ t, sym g ∙ u)

    pub fault_outside : x ≡ false → Some (OwnOutside place) ≡ range_fault place (bytes_in pool p) (edges_of pool r)
    unfolding range_fault
    fault_outside u = rw (none_is ∙ t, sym g ∙ u)

pub ruleset ranges = (fault_empty, fault_none, fault_outside)

-- ---- one tree

module _ (pool own : List ℕ) (c : ProjectionConfig) (place : ℕ) (p : List ℕ) (b : Bool) (h : b ≡ passes c.segment_filter place) where
  pub tree_out : b ≡ false → None ≡ tree_fault (config_in pool c own) place p
  unfolding tree_fault config_in
  tree_out t = rw (sym h ∙ t)

  pub tree_own : (r : Range) (x : Option Refusal) → b ≡ true → c.segment_projection ≡ true → r ≡ own_at own place → x ≡ range_fault place p (edges_of pool r)
      → x ≡ tree_fault (config_in pool c own) place p
  unfolding tree_fault config_in
  tree_own r x t f e g = rw (sym h ∙ t, f, ← own_is own place pool, ← e) g

  pub tree_free : b ≡ true → c.segment_projection ≡ false → None ≡ tree_fault (config_in pool c own) place p
  unfolding tree_fault config_in
  tree_free t f = rw (sym h ∙ t, f)

pub ruleset trees = (tree_out, tree_own, tree_free)

pub segment_by : (segments pool : List ℕ) (i place : ℕ) (c : Config) (s : SegmentRow) (x : Option Refusal) → s ≡ segment_at segments i
    → x ≡ tree_fault c place (bytes_in pool s.prefix) → x ≡ tree_fault c place (prefix_at segments pool i)
segment_by segments pool i place c s x e h = rw (← e) h

-- ---- the first of several

first_some : (x y : Option Refusal) → is_none x ≡ false → first_fault x y ≡ x
first_some None y e = absurd (true≢false e)
first_some (Some fault) y e = refl

first_none : (x y : Option Refusal) → is_none x ≡ true → first_fault x y ≡ y
first_none None y e = refl
first_none (Some fault) y e = absurd (true≢false (sym e))

-- the same by index
abbrev first_to : (ℕ → Option Refusal) → ℕ → Option Refusal
first_to g zero = None
first_to g (suc n) = first_fault (g 0) (first_to (λ k. g (suc k)) n)

first_up_to : (c : Config) (f : ℕ → List ℕ) (g : ℕ → Option Refusal) (n place : ℕ) → ((k : ℕ) → tree_fault c (k + place) (f k) ≡ g k)
    → fault_from c place (up_to f n) ≡ first_to g n
unfolding fault_from
first_up_to c f g zero place h = refl
first_up_to c f g (suc n) place h =
    let now : tree_fault c place (f 0) ≡ g 0 = ap (λ (x : ℕ). tree_fault c x (f 0)) (omega arith) ∙ h 0 in
    let later : (k : ℕ) → tree_fault c (k + suc place) (f (suc k)) ≡ g (suc k) = λ k. ap (λ (x : ℕ). tree_fault c x (f (suc k))) (omega arith) ∙ h (suc k) in
    rw (up_to_front f n) (rw (now, first_up_to c (λ k. f (suc k)) (λ k. g (suc k)) n (suc place) later))

first_here : (g : ℕ → Option Refusal) (n i : ℕ) → i < n → ((k : ℕ) → k < i → is_none (g k) ≡ true) → is_none (g i) ≡ false → g i ≡ first_to g n
first_here g zero i h q e = absurd (omega arith)
first_here g (suc n) zero h q e = sym (first_some (g 0) (first_to (λ k. g (suc k)) n) e)
first_here g (suc n) (suc i) h q e =
    first_here (λ k. g (suc k)) n i (omega arith) (λ k l. q (suc k) (omega arith)) e ∙ sym (first_none (g 0) (first_to (λ k. g (suc k)) n) (q 0 (omega arith)))

first_all : (g : ℕ → Option Refusal) (n : ℕ) → ((k : ℕ) → k < n → is_none (g k) ≡ true) → None ≡ first_to g n
first_all g zero q = refl
first_all g (suc n) q =
    first_all (λ k. g (suc k)) n (λ k l. q (suc k) (omega arith)) ∙ sym (first_none (g 0) (first_to (λ k. g (suc k)) n) (q 0 (omega arith)))

-- the segments below k have no fault, and x is the first that one of n has
pub record Sound (x : Option Refusal) (g : ℕ → Option Refusal) (n k : ℕ) : Type 0 where
  pub within : k ≤ n
  pub so : (i : ℕ) → i < k → is_none (g i) ≡ true
  pub says : x ≡ first_to g n

pub sound_none : (segments pool : List ℕ) (w : Window) (c : Config) (n : ℕ) → n ≡ held_of w (length segments / 12)
    → Sound (fault_from c 1 (prefixes_in segments pool w)) (λ k. tree_fault c (k + 1) (prefix_at segments pool (w.first + k))) n 0
unfolding prefixes_in
sound_none segments pool w c n e =
    record {
      within = omega arith;
      so = λ i l. absurd (omega arith);
      says = rw e (first_up_to c (λ k. prefix_at segments pool (w.first + k)) _ (held_of w (length segments / 12)) 1 (λ k. refl));
    }

module _ (x : Option Refusal) (g : ℕ → Option Refusal) (n k : ℕ) (w : Sound x g n k) where
  module _ (y : Option Refusal) (h : k < n) (e : y ≡ g k) where
    pub sound_more : y ≡ None → Sound x g n (k + 1)
    sound_more t = record { within = omega arith; so = below_more _ _ w.so (ap is_none (sym e ∙ t)); says = w.says }

    pub sound_fault : (v : Refusal) → y ≡ Some v → Some v ≡ x
    sound_fault v t = sym t ∙ e ∙ first_here g n k h w.so (ap is_none (sym e ∙ t)) ∙ sym w.says

  pub sound_all : n ≤ k → None ≡ x
  sound_all h = let e : k ≡ n = omega (arith, w.within) in first_all g n (rw e at w.so) ∙ sym w.says

pub ruleset sounds = (sound_none, sound_more, sound_fault, sound_all)

-- ---- the unsegmented tree before the segments

part_none : (pool : List ℕ) → part_of pool 0 0 ≡ []
unfolding part_of
part_none pool = pick_same (leb (0 + 0) (length pool)) []

module _ (pool : List ℕ) (c : Config) (ps : List (List ℕ)) (x : Option Refusal)
    (e : x ≡ tree_fault c 0 (bytes_in pool (record { at = 0; len = 0 }))) where
  whole_is : tree_fault c 0 [] ≡ x
  whole_is = sym (e ∙ ap (tree_fault c 0) (part_none pool))

  pub whole_fault : (v : Refusal) → x ≡ Some v → Some v ≡ own_fault c ps
  unfolding fault_from
  whole_fault v t = rw whole_is (sym t ∙ sym (first_some x (fault_from c 1 ps) (ap is_none t)))

  pub whole_none : (y : Option Refusal) → x ≡ None → y ≡ fault_from c 1 ps → y ≡ own_fault c ps
  unfolding fault_from
  whole_none y t h = rw whole_is (h ∙ sym (first_none x (fault_from c 1 ps) (ap is_none t)))

pub ruleset wholes = (whole_fault, whole_none)
