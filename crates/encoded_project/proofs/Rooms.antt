-- The part of the result tables that a room leaves, and the working memory. Assumes nothing.
use Rattle.std.specs.Prelude.{None, Option, Some}
use Prim.Native.Nat.{ℕ, suc, ◌+◌, ◌-◌, ◌*◌, ◌≤◌}
use mathlib.Core.Path.{◌≡◌, refl, sym, ap, ◌∙◌}
use mathlib.Core.Bool.{Bool, true, false, not, ◌&&◌, ◌||◌}
use mathlib.Core.List.{List}
use native.Mathlib.Omega.{arith}
use native.Mathlib.Decide.{dec_lt}
use borrow.Author.Tests.{lt-ltb, le-ltb, le-leb, lt-leb}
use lib.Dec.{leb, ltb}
use lib.ListN.{length}
use Rattle.keys.specs.Pick.{pick}
use Rattle.keys.proofs.Says.{says_same}
use Rattle.keys.specs.declared.Range.{Range}
use Rattle.tables.specs.Layout.{write}
use Rattle.tables.proofs.Writes.{write_length}
use Rattle.records.specs.Model.{Manifest}
use Rattle.records.specs.Fill.{plus, bytes, fits, manifest_fill}
use Rattle.records.specs.Decode.{Lent}
use Rattle.records.specs.declared.Fill.{Fill}
use Rattle.records.specs.declared.Limits.{Limits}
use Rattle.measure.specs.Walk.{left_of}
use Rattle.measure.proofs.Fits.{says_fits, under, fits_part, fits_left}
use Rattle.copy.specs.Copy.{room_of, no_room}
use Rattle.manifest_read.specs.Answer.{work_room}
use Rattle.segments.specs.Refuses.{range_over}
use Rattle.project_ranges.specs.Config.{Config}
use Rattle.project_ranges.specs.Args.{global_over}
use Rattle.project.specs.Project.{projected_of}
use Rattle.encoded_project.specs.Project.{given_to, projected_to}

-- ---- the part of each table

pub least_under : (a b r : ℕ) → r ≡ a - (a - b) → r ≤ a
least_under a b r e = omega arith

module _ (lim : Limits) (room : Fill) (o : Lent)
    (s : length o.segments ≡ (lim.fill.segments - (lim.fill.segments - room.segments)) * 12)
    (v : length o.views ≡ (lim.fill.views - (lim.fill.views - room.views)) * 16)
    (r : length o.runs ≡ (lim.fill.runs - (lim.fill.runs - room.runs)) * 3)
    (b : length o.borrows ≡ (lim.fill.borrows - (lim.fill.borrows - room.borrows)) * 9)
    (i : length o.ids ≡ (lim.fill.ids - (lim.fill.ids - room.ids)) * 2)
    (p : length o.pool ≡ lim.fill.bytes - (lim.fill.bytes - room.bytes)) where
  part_room : (f : Fill) → no_room lim (room_of o) f ≡ no_room lim room f
  unfolding no_room
  part_room f = go (fits f lim.fill) refl
    where
      go : (x : Bool) → fits f lim.fill ≡ x → not (x && fits f (room_of o)) ≡ not (x && fits f room)
      go true e =
          let u = under f lim.fill e in
          ap not
          (says_same (
            λ w. record { segments = omega (arith, w.segments, s); views = omega (arith, w.views, v); runs = omega (arith, w.runs, r); borrows = omega (arith, w.borrows, b); ids = omega (arith, w.ids, i); bytes = omega (arith, w.bytes, p) },
            λ w. record { segments = omega (arith, w.segments, s, u.segments); views = omega (arith, w.views, v, u.views); runs = omega (arith, w.runs, r, u.runs); borrows = omega (arith, w.borrows, b, u.borrows); ids = omega (arith, w.ids, i, u.ids); bytes = omega (arith, w.bytes, p, u.bytes) },
          )
          (says_fits f (room_of o))
          (says_fits f room))
      go false e = refl

  pub part_projected : (out : List ℕ) (c : Config) (m : Manifest) → projected_to lim (room_of o) out c m ≡ projected_to lim room out c m
  unfolding projected_to given_to
  part_projected out c m = rw (part_room (manifest_fill (projected_of c m)))

-- ---- the own ranges that count

module _ (rows segments : ℕ) where
  pub count_few : rows ≤ segments → rows ≡ pick (leb rows segments) rows (suc segments)
  count_few h = rw (le-leb rows segments h)

  pub count_many : (n : ℕ) → suc segments ≤ rows → n ≡ suc segments → n ≡ pick (leb rows segments) rows (suc segments)
  count_many n h e = rw (lt-leb rows segments h) e

  pub count_under : (n : ℕ) → n ≡ pick (leb rows segments) rows (suc segments) → n ≤ rows
  count_under n e = elim (dec_lt segments rows) [ yes l ↦ let h = rw (lt-leb rows segments l) at e in omega arith | no k ↦ let h = rw (le-leb rows segments (omega arith)) at e in omega arith ]

-- ---- the form of the call

module _ (most long n : ℕ) (g : Option Range) where
  pub call_long : suc 0x1_0000 ≤ long → true ≡ (ltb 0x1_0000 long || global_over most n g)
  call_long h = rw (lt-ltb 0x1_0000 long h)

  module _ (h : long ≤ 0x1_0000) where
    pub call_unset : g ≡ None → false ≡ (ltb 0x1_0000 long || global_over most n g)
    call_unset e = rw (le-ltb 0x1_0000 long h, e)

    pub call_set : (r : Range) (b : Bool) → g ≡ Some r → b ≡ range_over most n r → b ≡ (ltb 0x1_0000 long || global_over most n g)
    call_set r b e k = rw (le-ltb 0x1_0000 long h, e) k

-- ---- room behind the arguments

module _ (room from most : Fill) (a : Bool) (e : a ≡ fits from room) where
  pub behind_none : a ≡ false → false ≡ fits (plus from most) room
  behind_none h = sym (fits_part from most room (sym e ∙ h))

  pub behind_left : (b : Bool) (left : Fill) → a ≡ true → left ≡ left_of room from → b ≡ fits most left → b ≡ fits (plus from most) room
  behind_left b left h k f = f ∙ ap (fits most) k ∙ fits_left room from most (under from room (sym e ∙ h))

-- ---- the working tables

pub both_true : (a b : Bool) → (a && b) ≡ true → (a ≡ true) × (b ≡ true)
both_true true true e = (refl, refl)
both_true true false e = let z : ◌≡◌ {A = ℕ} 0 1 = cc in absurd (omega arith)
both_true false b e = let z : ◌≡◌ {A = ℕ} 0 1 = cc in absurd (omega arith)

-- `short_any` in two parts
pub short_list : (a b c d : Bool) → (c || d) ≡ true → (not a || not b || c || d) ≡ true
short_list false b c d e = refl
short_list true false c d e = refl
short_list true true c d e = e

pub short_tables : (a b c d : Bool) → (a && b) ≡ false → (not a || not b || c || d) ≡ true
short_tables false b c d e = refl
short_tables true false c d e = refl
short_tables true true c d e = let z : ◌≡◌ {A = ℕ} 0 1 = cc in absurd (omega arith)

pub short_none : (a b c d : Bool) → (a && b) ≡ true → (c || d) ≡ false → (not a || not b || c || d) ≡ false
short_none true true c d e f = f
short_none true false c d e f = let z : ◌≡◌ {A = ℕ} 0 1 = cc in absurd (omega arith)
short_none false b c d e f = let z : ◌≡◌ {A = ℕ} 0 1 = cc in absurd (omega arith)

-- the arguments laid at the front
module _ (most : Fill) (t : Lent) (args : List ℕ) (x : fits (plus (bytes (length args)) most) (room_of t) ≡ true) where
  pub args_room : 0 + length args ≤ length t.pool
  args_room = let u = under (plus (bytes (length args)) most) (room_of t) x in omega (arith, u.bytes)

  pub args_laid : (p : List ℕ) → p ≡ write t.pool 0 args
      → fits (plus (bytes (length args)) most) (room_of (record { segments = t.segments; views = t.views; runs = t.runs; borrows = t.borrows; ids = t.ids; pool = p })) ≡ true
  args_laid p ep =
      let l : length p ≡ length t.pool = ap length ep ∙ write_length t.pool 0 args (omega (arith, args_room)) in
      rw l x

-- the tables that were read into have room for any result within L1
module _ (lim : Limits) (w : Lent) (x : fits lim.fill (work_room lim w) ≡ true) where
  pub work_room_lem : (a b c d e p : ℕ) → a ≡ length w.segments → b ≡ length w.views → c ≡ length w.runs → d ≡ length w.borrows → e ≡ length w.ids → lim.fill.bytes ≤ p
      → (lim.fill.segments * 12 ≤ a) × (lim.fill.views * 16 ≤ b) × (lim.fill.runs * 3 ≤ c) × (lim.fill.borrows * 9 ≤ d) × (lim.fill.ids * 2 ≤ e) × (lim.fill.bytes ≤ p)
  work_room_lem a b c d e p ea eb ec ed ee lp =
      let u = under lim.fill (work_room lim w) x in
      (omega (arith, u.segments, ea), omega (arith, u.views, eb), omega (arith, u.runs, ec), omega (arith, u.borrows, ed), omega (arith, u.ids, ee), lp)
