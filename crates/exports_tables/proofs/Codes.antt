-- A manifest's own value with a code that stands for nothing breaks L1: what asks for a lawful manifest refuses it, 1 at 1. Assumes that the
-- table of segments is no longer than a slice can be.
use Rattle.std.specs.Prelude.{Err}
use Prim.Native.Nat.{ℕ, ◌<◌, ◌/◌, ◌^◌}
use mathlib.Core.Path.{◌≡◌}
use mathlib.Core.Bool.{false}
use mathlib.Core.List.{List}
use lib.IntN.{ℤ}
use native.Mathlib.Omega.{arith}
use borrow.Author.Tests.{lt-leb}
use lib.ListN.{length}
use Rattle.records.specs.Decode.{Lent}
use Rattle.records.specs.declared.Limits.{Limits}
use Rattle.tables.specs.Window.{lies_in}
use Rattle.measure.specs.Placed.{placed, segments_placed}
use Rattle.measure.specs.Measure.{l1_of}
use Rattle.measure.proofs.Lists.{and_false}
use Rattle.lawful.specs.Judge.{judged_of}
use Rattle.exports_tables.specs.Head.{codes_known, nowhere, head_segments, head_at}

-- no slice is so long that the window lies in it
nowhere_outside : (n : ℕ) → n < 2 ^ 64 → lies_in nowhere (n / 12) ≡ false
nowhere_outside n h = lt-leb 18446744073709551616 (n / 12) (omega arith)

module _ (lim : Limits) (l : Lent) (t h : List ℕ) (tick : ℤ) (odd : codes_known t h ≡ false) (slice : length l.segments < 2 ^ 64) where
  segments_nowhere : head_segments t h ≡ nowhere
  unfolding head_segments
  segments_nowhere = rw odd

  unplaced : (n : ℕ) → segments_placed n l.views l.runs l.segments nowhere ≡ false
  unfolding segments_placed
  unplaced n = rw (nowhere_outside (length l.segments) slice)

  unfounded : placed l (head_at t h tick) ≡ false
  unfolding placed head_at
  unfounded = rw (segments_nowhere, unplaced (length l.pool)) (rw (and_false _))

  pub odd_breaks : judged_of lim l (head_at t h tick) ≡ Err 1
  unfolding judged_of l1_of
  odd_breaks = rw unfounded
