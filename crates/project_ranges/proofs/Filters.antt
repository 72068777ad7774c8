-- What is asked for, and the bits of the mask. Assumes nothing.
use Rattle.std.specs.Prelude.{None, Option, Some}
use Prim.Native.Nat.{ℕ, zero, suc, ◌-◌, ◌*◌, ◌/◌, ◌^◌, ◌≤◌, ◌<◌}
use mathlib.Core.Path.{◌≡◌, refl, sym, ap, ◌∙◌}
use mathlib.Core.Bool.{Bool, true, false, not}
use mathlib.Core.List.{List}
use mathlib.Core.Logic.{◌↔◌}
use native.Mathlib.Omega.{arith}
use native.Mathlib.Nat.{lt_of_lt_of_le, div-eq_of_lt, le-div_iff_mul-le, one-mul}
use lib.Dec.{leb}
use lib.Pow.{pow_pos, pow_mono}
use lib.Count.{ones, ones-le, count_leading_zeros}
use borrow.Author.Tests.{lt-leb}
use mir.Syntax.{w64}
use mir.Val.{Fits}
use Rattle.keys.specs.Range.{empty_of}
use Rattle.keys.specs.Pool.{edge_of}
use Rattle.keys.specs.declared.Range.{Range}
use Rattle.keys.proofs.Says.{says_same, says_le}
use Rattle.project_ranges.specs.Config.{is_noop, bit_of, passes, names_count, refuses10, place10}
use Rattle.project_ranges.specs.Args.{asked_in, config_in, global_empty}
use Rattle.project_ranges.specs.declared.ProjectionConfig.{ProjectionConfig}

-- ---- nothing asked for, and an empty global range

module _ (pool own : List ℕ) (c : ProjectionConfig) where
  noop_is : (b : Bool) → c.segment_projection ≡ b → c.global_range ≡ None → c.segment_filter ≡ None → not b ≡ is_noop (config_in pool c own)
  unfolding config_in
  noop_is true e g f = rw (e, g, f)
  noop_is false e g f = rw (e, g, f)

  pub noop_by : c.global_range ≡ None → c.segment_filter ≡ None → not c.segment_projection ≡ is_noop (config_in pool c own)
  noop_by g f = noop_is c.segment_projection refl g f

  pub noop_only : (flag : Bool) (mask : ℕ) → c.global_range ≡ None → c.segment_filter ≡ Some (flag, mask) → false ≡ is_noop (config_in pool c own)
  unfolding config_in
  noop_only flag mask g f = rw (g, f)

  pub noop_set : (r : Range) → c.global_range ≡ Some r → false ≡ is_noop (config_in pool c own)
  unfolding config_in
  noop_set r g = rw g

  pub empty_set : (r : Range) (b : Bool) → c.global_range ≡ Some r → b ≡ empty_of (edge_of pool r.start) (edge_of pool r.end)
      → b ≡ global_empty (asked_in pool c.global_range)
  empty_set r b g e = rw g e

pub ruleset noops = (noop_by, noop_only, noop_set, empty_set)

-- ---- the mask

far : (mask i : ℕ) → Fits w64 mask → 63 < i → mask < 2 ^ i
far mask i f h = lt_of_lt_of_le f.fits (pow_mono h)

module _ (mask i : ℕ) where
  pub bit_far : Fits w64 mask → 63 < i → false ≡ bit_of mask i
  bit_far f h = rw (div-eq_of_lt (far mask i f h))

  pub reach_far : Fits w64 mask → 63 < i → false ≡ leb (2 ^ i) mask
  reach_far f h = sym (lt-leb (2 ^ i) mask (far mask i f h))

  ratio : (1 ≤ mask / 2 ^ i) ↔ (1 * 2 ^ i ≤ mask)
  ratio = le-div_iff_mul-le (pow_pos i)

  pub reach_near : leb 1 (mask / 2 ^ i) ≡ leb (2 ^ i) mask
  reach_near =
      says_same
      (λ l. rw one-mul at (ratio.0 l), λ l. ratio.1 (rw (one-mul (2 ^ i)) l))
      (says_le 1 (mask / 2 ^ i)) (says_le (2 ^ i) mask)

pub ones_fit : (mask : ℕ) → Fits w64 mask → Fits w64 (ones mask)
ones_fit mask f = record { fits = lt_of_lt_of_le {m = 65} (omega (arith, ones-le 64 mask f.fits)) (omega arith) }

module _ (f : Option (Bool × ℕ)) (flag : Bool) (mask : ℕ) (e : f ≡ Some (flag, mask)) where
  pub pass_bit : (place : ℕ) (b : Bool) → (place ≡ 0 → ⊥) → b ≡ bit_of mask (place - 1) → b ≡ passes f place
  pass_bit zero b n h = absurd (n refl)
  pass_bit (suc i) b n h = rw e (h ∙ ap (bit_of mask) (omega arith))

  pub over_mask : (n : ℕ) (b : Bool) → b ≡ leb (2 ^ n) mask → b ≡ refuses10 n f
  over_mask n b h = rw e h

  pub top_mask : (n : ℕ) → n ≡ 63 - count_leading_zeros 64 mask → n ≡ place10 f
  top_mask n h = rw e h

  pub count_mask : (n : ℕ) → n ≡ ones mask → n ≡ names_count f
  count_mask n h = rw e h

pub ruleset masks = (bit_far, reach_far, reach_near, ones_fit, pass_bit, over_mask, top_mask, count_mask)
