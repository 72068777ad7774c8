-- A clock tick that was read is an i64. Assumes nothing.
use Rattle.std.specs.Prelude.{Err, Ok, Result}
use Prim.Native.Nat.{ℕ, ◌^◌, ◌<◌}
use mathlib.Core.Path.{◌≡◌, refl, ap}
use mathlib.Core.Bool.{Bool, true, false}
use mathlib.Core.List.{List}
use borrow.Author.Tests.{ltb-true}
use lib.Dec.{ltb}
use lib.IntN.{ℤ, pos, negsuc}
use lib.ListN.{drop}
use mir.Syntax.{w64}
use mir.Val.{SFits, to_z, of_z}
use mir.Facts.{to_z-of_z}
use Rattle.keys.specs.Pick.{pick}
use Rattle.msgpack.specs.Head.{head_of}
use Rattle.msgpack.specs.Read.{int_by, int_at, uint_at, on_uint, on_int}
use Rattle.msgpack.specs.declared.Head.{Head}
use Rattle.msgpack.specs.declared.Head.TheVariants as head
use Rattle.manifest_values.specs.Read.{Got, is, wrong, most, numbers_at}
use Rattle.manifest_values.specs.declared.Numbers.{Numbers}

abbrev IntFits : Result (ℤ × ℕ) ℕ → Type 0
IntFits (Ok (z, p)) = SFits w64 z
IntFits (Err q) = Unit {0}

picked : (at p : ℕ) (z : ℤ) (x y : ℕ) → (x < y → SFits w64 z) → IntFits (pick (ltb x y) (Ok (z, p)) (Err at))
picked at p z x y f = go (ltb x y) refl
  where
    go : (b : Bool) → ltb x y ≡ b → IntFits (pick b (Ok (z, p)) (Err at))
    go true e = f (ltb-true x y e)
    go false e = tt

by_head : (at : ℕ) (h : Head) → IntFits (int_by at h)
unfolding int_by
by_head at head.Cut = tt
by_head at head.Never = tt
by_head at (head.Nil p) = tt
by_head at (head.Flag b p) = tt
by_head at (head.Uint x p) = picked at p (pos x) x (2 ^ 63) (λ h. record { sfits = h })
by_head at (head.Minus m p) = picked at p (negsuc m) m (2 ^ 63) (λ h. record { sfits = h })
by_head at (head.Bin f n p) = tt
by_head at (head.Other p) = tt
by_head at (head.Array n p) = tt
by_head at (head.Map n p) = tt

pub int_fits : (s : List ℕ) (at : ℕ) (z : ℤ) (p : ℕ) → int_at s at ≡ Ok (z, p) → SFits w64 z
unfolding int_at
int_fits s at z p e = rw e at (by_head at (head_of at (drop at s)))

abbrev numbers : ℕ → ℕ → ℕ → ℕ → ℕ → ℤ → Got Numbers
numbers next replay seq recent p tick =
    is (record { next_wal_sst_id = next; replay_after_wal_id = replay; last_l0_clock_tick = tick; last_l0_seq = seq; recent_snapshot_min_seq = recent }) p

-- as a local holds it
pub numbers_held : (next replay : ℕ) (tick : ℤ) (seq recent p : ℕ) → SFits w64 tick → numbers next replay seq recent p (to_z w64 (of_z w64 tick)) ≡ numbers next replay seq recent p tick
numbers_held next replay tick seq recent p f = ap (numbers next replay seq recent p) (to_z-of_z f)

abbrev TickFits : Got Numbers → Type 0
TickFits (is x p) = SFits w64 x.last_l0_clock_tick
TickFits (wrong q) = Unit {0}

on_uint_lem : (u : Result (ℕ × ℕ) ℕ) (k : ℕ → ℕ → Got Numbers) → ((x p : ℕ) → TickFits (k x p)) → TickFits (on_uint wrong u k)
on_uint_lem (Ok (x, p)) k f = f x p
on_uint_lem (Err q) k f = tt

on_int_lem : (i : Result (ℤ × ℕ) ℕ) (k : ℤ → ℕ → Got Numbers) → IntFits i → ((z : ℤ) (p : ℕ) → SFits w64 z → TickFits (k z p)) → TickFits (on_int wrong i k)
on_int_lem (Ok (z, p)) k h f = f z p h
on_int_lem (Err q) k h f = tt

pub numbers_fit : (s : List ℕ) (at : ℕ) (x : Numbers) (p : ℕ) → numbers_at s at ≡ is x p → SFits w64 x.last_l0_clock_tick
unfolding numbers_at int_at
numbers_fit s at x p e = rw e at all
  where
    all : TickFits (numbers_at s at)
    all =
        on_uint_lem (uint_at s at most) _ λ next p₀. on_uint_lem (uint_at s p₀ most) _ λ replay p₁. on_int_lem (int_at s p₁) _ (by_head p₁ (head_of p₁ (drop p₁ s))) λ tick p₂ h.
        on_uint_lem (uint_at s p₂ most) _ λ seq p₃. on_uint_lem (uint_at s p₃ most) _ λ recent p₄. h
