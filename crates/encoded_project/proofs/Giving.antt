-- The projected manifest, written. Assumes nothing.
use Rattle.std.specs.Prelude.{Err, Ok, Result, None, Option, Some}
use Prim.Native.Nat.{ℕ, ◌≤◌}
use mathlib.Core.Path.{◌≡◌, refl, sym, ap, ◌∙◌}
use mathlib.Core.Bool.{Bool, true, false, not, ◌&&◌, ◌||◌}
use mathlib.Core.List.{List}
use native.Mathlib.Omega.{arith}
use borrow.Author.Tests.{le-ltb}
use lib.ListN.{length}
use Rattle.keys.specs.Pick.{pick}
use Rattle.records.specs.Model.{Manifest}
use Rattle.records.specs.Fill.{fits, manifest_fill}
use Rattle.records.specs.Layout.{layout, manifest_row}
use Rattle.records.specs.Decode.{Lent, manifest_in}
use Rattle.records.specs.declared.Limits.{Limits}
use Rattle.records.specs.declared.ManifestRow.{ManifestRow}
use Rattle.records.specs.declared.Refusal.{Refusal}
use Rattle.records.specs.declared.Refusal.TheVariants.{NoRoom, EmptyRange, MaskBit}
use Rattle.records.proofs.Stair.{decode_over}
use Rattle.measure.proofs.Fits.{under}
use Rattle.copy.specs.Copy.{room_of, no_room, laid_over}
use Rattle.segments.specs.Prefixes.{prefixes}
use Rattle.manifest_write.specs.Bytes.{manifest_bytes}
use Rattle.manifest_write.specs.Answer.{put_of, Outcome as Put}
use Rattle.project_ranges.specs.Config.{Config, is_noop, names_count, refuses10, place10}
use Rattle.project_ranges.specs.Own.{own_fault}
use Rattle.project_ranges.specs.Args.{global_empty}
use Rattle.project.specs.Project.{projected_of}
use Rattle.project.specs.Answer.{Outcome as Given, refused, unless_fault as unless, used_short, projected_to as laid_to, projected_given}
use Rattle.encoded_project.specs.Project.{Outcome, refused_to, wrote, given_to, unless_fault, projected_to}

-- ---- the result, written

module _ (names : ℕ) (y : Put) (w : Result ℕ Refusal) (out : List ℕ) (e : record { answer = w; out = out } ≡ y) where
  pub wrote_done : (n : ℕ) → w ≡ Ok n → record { answer = Ok (names, n); out = out } ≡ wrote names y
  wrote_done n h = let a : ◌≡◌ {A = Outcome} (record { answer = Ok (names, n); out = out }) (wrote names (record { answer = w; out = out })) = rw h in a ∙ ap (wrote names) e

  pub wrote_refused : (r : Refusal) → w ≡ Err r → record { answer = Err r; out = out } ≡ wrote names y
  wrote_refused r h = let a : ◌≡◌ {A = Outcome} (refused_to out r) (wrote names (record { answer = w; out = out })) = rw h in a ∙ ap (wrote names) e

-- ---- from the answer on tables

-- what comes of an answer, where the result tables hold o
abbrev told : List ℕ → Result (ℕ × ManifestRow) Refusal → Lent → Outcome
told out (Ok (names, row)) o = wrote names (put_of (manifest_bytes (manifest_in o row)) out)
told out (Err x) o = refused_to out x

module _ (lim : Limits) (out : List ℕ) (o : Lent) (c : Config) (places : ℕ) (h : lim.fill.views ≤ places) where
  or_none : (x n : Bool) → (x || (n && false)) ≡ x
  or_none true n = refl
  or_none false true = refl
  or_none false false = refl

  -- a list that is long enough for any manifest within L1 is so wherever there is room
  listed : (m : Manifest) → (no_room lim (room_of o) (manifest_fill m) || used_short c places m) ≡ no_room lim (room_of o) (manifest_fill m)
  unfolding no_room
  listed m = go (fits (manifest_fill m) lim.fill) refl
    where
      go : (b : Bool) → fits (manifest_fill m) lim.fill ≡ b → (not (b && fits (manifest_fill m) (room_of o)) || used_short c places m) ≡ not (b && fits (manifest_fill m) (room_of o))
      go true e =
          let u = under (manifest_fill m) lim.fill e in
          rw (le-ltb places (manifest_fill m).views (omega (arith, u.views))) (or_none (not (fits (manifest_fill m) (room_of o))) (not (is_noop c)))
      go false e = refl

  result_told : (m : Manifest) → told out (laid_to lim c places m o).answer (laid_to lim c places m o).out ≡ given_to lim (room_of o) out (names_count c.filter) m
  unfolding laid_to given_to
  result_told m = rw (listed m) (go (no_room lim (room_of o) (manifest_fill m)))
    where
      go : (b : Bool)
          → told out (pick b (refused NoRoom o) (record { answer = Ok (names_count c.filter, manifest_row m); out = laid_over o (layout m) })).answer (pick b (refused NoRoom o) (record { answer = Ok (names_count c.filter, manifest_row m); out = laid_over o (layout m) })).out
          ≡ pick b (refused_to out NoRoom) (wrote (names_count c.filter) (put_of (manifest_bytes m) out))
      go true = refl
      go false = ap (λ (n : Manifest). wrote (names_count c.filter) (put_of (manifest_bytes n) out)) (decode_over m o)

  -- a refusal before it
  pick_told : (b : Bool) (x : Refusal) (given : Given) → told out (pick b (refused x o) given).answer (pick b (refused x o) given).out ≡ pick b (refused_to out x) (told out given.answer given.out)
  pick_told true x given = refl
  pick_told false x given = refl

  fault_told : (f : Option Refusal) (given : Given) → told out (unless f o given).answer (unless f o given).out ≡ unless_fault out f (told out given.answer given.out)
  fault_told None given = refl
  fault_told (Some r) given = refl

  given_told : (m : Manifest) → told out (projected_given lim c places m o).answer (projected_given lim c places m o).out ≡ projected_to lim (room_of o) out c m
  unfolding projected_given projected_to
  given_told m =
      let f = own_fault c (prefixes m.segments) in
      let last = laid_to lim c places (projected_of c m) o in
      let b = refuses10 (length m.segments) c.filter in
      let x = MaskBit (place10 c.filter) in
      pick_told (global_empty c.global) EmptyRange (pick b (refused x o) (unless f o last))
      ∙ ap (λ (y : Outcome). pick (global_empty c.global) (refused_to out EmptyRange) y)
      (pick_told b x (unless f o last) ∙ ap (λ (y : Outcome). pick b (refused_to out x) y) (fault_told f last ∙ ap (unless_fault out f) (result_told (projected_of c m))))

  module _ (m : Manifest) (o' : Lent) (r : Result (ℕ × ManifestRow) Refusal) (e : record { answer = r; out = o' } ≡ projected_given lim c places m o) where
    into : (y : Result (ℕ × ManifestRow) Refusal) → r ≡ y → told out y o' ≡ projected_to lim (room_of o) out c m
    into y k = ap (λ (x : Result (ℕ × ManifestRow) Refusal). told out x o') (sym k) ∙ ap (λ (g : Given). told out g.answer g.out) e ∙ given_told m

    pub into_done : (names : ℕ) (row : ManifestRow) → r ≡ Ok (names, row) → wrote names (put_of (manifest_bytes (manifest_in o' row)) out) ≡ projected_to lim (room_of o) out c m
    into_done names row k = into (Ok (names, row)) k

    pub into_refused : (x : Refusal) → r ≡ Err x → refused_to out x ≡ projected_to lim (room_of o) out c m
    into_refused x k = into (Err x) k
