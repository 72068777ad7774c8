-- The union in tables, written. Assumes nothing.
use Rattle.std.specs.Prelude.{Err, Ok, Result}
use Prim.Native.Nat.{ℕ, suc, ◌-◌, ◌*◌, ◌/◌, ◌≤◌}
use mathlib.Core.Path.{◌≡◌, refl, sym, ap, ◌∙◌}
use mathlib.Core.Bool.{Bool, true, false, not, ◌&&◌, true≢false}
use mathlib.Core.List.{List}
use native.Mathlib.Omega.{arith}
use lib.Dec.{ltb}
use lib.ListN.{length}
use borrow.Author.Tests.{le-ltb}
use Rattle.keys.specs.Pick.{pick}
use Rattle.keys.proofs.Says.{says_same}
use Rattle.ids.specs.declared.Uuid.{Uuid}
use Rattle.records.specs.Model.{Manifest, Extractor, none, named}
use Rattle.records.specs.Fill.{fits, manifest_fill}
use Rattle.records.specs.Layout.{layout, manifest_row}
use Rattle.records.specs.Decode.{Lent, manifest_in}
use Rattle.records.specs.declared.Fill.{Fill}
use Rattle.records.specs.declared.Limits.{Limits}
use Rattle.records.specs.declared.ManifestRow.{ManifestRow}
use Rattle.records.specs.declared.Refusal.{Refusal}
use Rattle.records.specs.declared.Refusal.TheVariants.{NoRoom, ExtractorsDiffer, Overlap, SegmentsUnnamed, SourcesNest, NoFinal, TooFewFresh}
use Rattle.records.proofs.Stair.{decode_over}
use Rattle.measure.proofs.Fits.{says_fits, under}
use Rattle.copy.specs.Copy.{room_of, no_room, laid_over}
use Rattle.borrows.specs.Clone.{uuids_of, refuses16}
use Rattle.borrows.proofs.Renewing.{uuids_long}
use Rattle.borrows.proofs.ClonedAnswers.{borrows_filled}
use Rattle.unite_ranges.specs.Arranged.{Ranged, whats}
use Rattle.unite_sources.specs.Source.{Source, agreed_name, refuses11}
use Rattle.unite_sources.specs.Used.{in_order, refuses12, refuses13}
use Rattle.unite_sources.specs.Prefixed.{all_prefixes, refuses14, refuses12_at, place12_at}
use Rattle.unite_judge.specs.Judging.{work_short}
use Rattle.unite.specs.United.{united_from, refuses15_all}
use Rattle.unite.specs.Answer as laying
use Rattle.manifest_write.specs.Bytes.{manifest_bytes}
use Rattle.manifest_write.specs.Answer.{Outcome}
use Rattle.encoded.specs.Read.{refused_with}
use Rattle.encoded_borrows.specs.Clone.{fresh_put}
use Rattle.encoded_union.specs.Union.{union_put, unless_unfit, union_of}
use Rattle.encoded_united.specs.Steps.{lent_words}
use Rattle.encoded_united.proofs.Lending.{united_lent}
use Rattle.encoded_united.specs.Lists.{own_short}

-- ---- from the answer on tables

-- what comes of an answer, where the result tables hold o and so many words of fresh UUIDs were given
abbrev told : ℕ → List ℕ → Result ManifestRow Refusal → Lent → Outcome
told given out (Ok row) o = fresh_put (ltb (given / 2) row.external_dbs.count) (manifest_bytes (manifest_in o row)) out
told given out (Err x) o = refused_with out x

module _ (lim : Limits) (out fresh names : List ℕ) (o : Lent) (e : names ≡ lent_words fresh (length names)) (k : lim.fill.borrows ≤ length names / 2) where
  abbrev tell : laying.Outcome → Outcome
  tell g = told (length fresh) out g.answer g.out

  -- a UUID for each borrow of a union that keeps L1
  names_suffice : (m : Manifest) → no_room lim (room_of o) (manifest_fill m) ≡ false → refuses16 m.borrows (uuids_of names) ≡ false
  unfolding no_room
  names_suffice m h =
      let u = under (manifest_fill m) lim.fill (first_true (fits (manifest_fill m) lim.fill) (fits (manifest_fill m) (room_of o)) h) in
      rw (uuids_long names) (le-ltb (length names / 2) (length m.borrows) (omega (arith, k, u.borrows, borrows_filled m)))
    where
      first_true : (a b : Bool) → not (a && b) ≡ false → a ≡ true
      first_true true b e = refl
      first_true false b e = sym e

  laid_told : (m : Manifest) → told (length fresh) out (Ok (manifest_row m)) (laid_over o (layout m)) ≡ fresh_put (refuses16 m.borrows (uuids_of fresh)) (manifest_bytes m) out
  unfolding manifest_row
  laid_told m =
      ap (λ (n : Manifest). fresh_put (ltb (length fresh / 2) (length m.borrows)) (manifest_bytes n) out) (decode_over m o)
      ∙ ap (λ (n : ℕ). fresh_put (ltb n (length m.borrows)) (manifest_bytes m) out) (sym (uuids_long fresh))

  result_told : (us : List Source) (m : Manifest) → tell (laying.union_to lim us (uuids_of names) m o) ≡ union_put lim (room_of o) out us (uuids_of fresh) m
  unfolding laying.union_to union_put
  result_told us m =
      go (refuses15_all us) (no_room lim (room_of o) (manifest_fill m)) (refuses16 m.borrows (uuids_of names)) (names_suffice m)
      ∙ ap (λ (y : Outcome). pick (refuses15_all us) (refused_with out NoFinal) (pick (no_room lim (room_of o) (manifest_fill m)) (refused_with out NoRoom) y)) (laid_told m)
    where
      go : (a b c : Bool) → (b ≡ false → c ≡ false)
          → tell (pick a (laying.refused NoFinal o) (pick b (laying.refused NoRoom o) (pick c (laying.refused TooFewFresh o) (record { answer = Ok (manifest_row m); out = laid_over o (layout m) }))))
          ≡ pick a (refused_with out NoFinal) (pick b (refused_with out NoRoom) (told (length fresh) out (Ok (manifest_row m)) (laid_over o (layout m))))
      go true b c h = refl
      go false true c h = refl
      go false false true h = absurd (true≢false (h refl))
      go false false false h = refl

  -- a refusal before it
  pick_told : (b : Bool) (x : Refusal) (given : laying.Outcome) → tell (pick b (laying.refused x o) given) ≡ pick b (refused_with out x) (tell given)
  pick_told true x given = refl
  pick_told false x given = refl

  unfit_told : (name : Extractor) (us : List (Ranged Source)) (given : laying.Outcome) → tell (laying.unless_unfit name us o given) ≡ unless_unfit out name us (tell given)
  unfit_told none us given =
      pick_told (refuses12 us) (Overlap 0) (pick (refuses13 (whats us)) (laying.refused SegmentsUnnamed o) given)
      ∙ ap (λ (y : Outcome). pick (refuses12 us) (refused_with out (Overlap 0)) y) (pick_told (refuses13 (whats us)) SegmentsUnnamed given)
  unfit_told (named n) us given =
      let ps = all_prefixes (whats us) in
      let x = Overlap (suc (place12_at (whats us) ps)) in
      pick_told (refuses14 ps) SourcesNest (pick (refuses12_at (whats us) ps) (laying.refused x o) given)
      ∙ ap (λ (y : Outcome). pick (refuses14 ps) (refused_with out SourcesNest) y) (pick_told (refuses12_at (whats us) ps) x given)

  given_told : (ss : List Source) → tell (laying.union_given lim ss (uuids_of names) o) ≡ union_of lim (room_of o) out ss (uuids_of fresh)
  unfolding laying.union_given union_of
  given_told ss =
      let us = whats (in_order ss) in
      let last = laying.union_to lim us (uuids_of names) (united_from ss us (uuids_of names)) o in
      pick_told (refuses11 ss) ExtractorsDiffer (laying.unless_unfit (agreed_name ss) (in_order ss) o last)
      ∙ ap (λ (y : Outcome). pick (refuses11 ss) (refused_with out ExtractorsDiffer) y)
      (unfit_told (agreed_name ss) (in_order ss) last
      ∙ ap (unless_unfit out (agreed_name ss) (in_order ss))
      (result_told us (united_from ss us (uuids_of names)) ∙ ap (union_put lim (room_of o) out us (uuids_of fresh)) (united_lent fresh names (length names) e ss us)))

  module _ (ss : List Source) (o' : Lent) (r : Result ManifestRow Refusal) (q : record { answer = r; out = o' } ≡ laying.union_given lim ss (uuids_of names) o) where
    into : (y : Result ManifestRow Refusal) → r ≡ y → told (length fresh) out y o' ≡ union_of lim (room_of o) out ss (uuids_of fresh)
    into y h = ap (λ (x : Result ManifestRow Refusal). told (length fresh) out x o') (sym h) ∙ ap tell q ∙ given_told ss

    pub into_done : (row : ManifestRow) → r ≡ Ok row
        → fresh_put (ltb (length fresh / 2) row.external_dbs.count) (manifest_bytes (manifest_in o' row)) out ≡ union_of lim (room_of o) out ss (uuids_of fresh)
    into_done row h = into (Ok row) h

    pub into_refused : (x : Refusal) → r ≡ Err x → refused_with out x ≡ union_of lim (room_of o) out ss (uuids_of fresh)
    into_refused x h = into (Err x) h

-- ---- the part of each table

pub least_under : (a b r : ℕ) → r ≡ a - (a - b) → r ≤ a
least_under a b r e = omega arith

module _ (lim : Limits) (room : Fill) (o : Lent)
    (s : length o.segments ≡ (lim.fill.segments - (lim.fill.segments - room.segments)) * 12)
    (v : length o.views ≡ (lim.fill.views - (lim.fill.views - room.views)) * 16)
    (r : length o.runs ≡ (lim.fill.runs - (lim.fill.runs - room.runs)) * 3)
    (b : length o.borrows ≡ (lim.fill.borrows - (lim.fill.borrows - room.borrows)) * 9)
    (i : length o.ids ≡ (lim.fill.ids - (lim.fill.ids - room.ids)) * 2)
    (p : length o.pool ≡ lim.fill.bytes - (lim.fill.bytes - room.bytes)) where
  part_room : (f : Fill) → no_room lim (room_of o) f ≡ no_room lim room f
  unfolding no_room
  part_room f = go (fits f lim.fill) refl
    where
      go : (x : Bool) → fits f lim.fill ≡ x → not (x && fits f (room_of o)) ≡ not (x && fits f room)
      go true e =
          let u = under f lim.fill e in
          ap not
          (says_same (
            λ w. record { segments = omega (arith, w.segments, s); views = omega (arith, w.views, v); runs = omega (arith, w.runs, r); borrows = omega (arith, w.borrows, b); ids = omega (arith, w.ids, i); bytes = omega (arith, w.bytes, p) },
            λ w. record { segments = omega (arith, w.segments, s, u.segments); views = omega (arith, w.views, v, u.views); runs = omega (arith, w.runs, r, u.runs); borrows = omega (arith, w.borrows, b, u.borrows); ids = omega (arith, w.ids, i, u.ids); bytes = omega (arith, w.bytes, p, u.bytes) },
          )
          (says_fits f (room_of o))
          (says_fits f room))
      go false e = refl

  part_put : (out : List ℕ) (us : List Source) (fresh : List Uuid) (m : Manifest) → union_put lim (room_of o) out us fresh m ≡ union_put lim room out us fresh m
  unfolding union_put
  part_put out us fresh m = rw (part_room (manifest_fill m))

  pub part_united : (out : List ℕ) (ss : List Source) (fresh : List Uuid) → union_of lim (room_of o) out ss fresh ≡ union_of lim room out ss fresh
  unfolding union_of
  part_united out ss fresh =
      let us = whats (in_order ss) in
      ap (λ (y : Outcome). pick (refuses11 ss) (refused_with out ExtractorsDiffer) (unless_unfit out (agreed_name ss) (in_order ss) y)) (part_put out us fresh (united_from ss us fresh))

-- the tables of the result have room for any manifest within L1
pub wide : (lim : Limits) (o : Lent) → fits lim.fill (room_of o) ≡ true
    → (lim.fill.segments * 12 ≤ length o.segments) × (lim.fill.views * 16 ≤ length o.views) × (lim.fill.runs * 3 ≤ length o.runs)
    × (lim.fill.borrows * 9 ≤ length o.borrows) × (lim.fill.ids * 2 ≤ length o.ids) × (lim.fill.bytes ≤ length o.pool)
wide lim o h =
    let u = under lim.fill (room_of o) h in
    (omega (arith, u.segments), omega (arith, u.views), omega (arith, u.runs), omega (arith, u.borrows), omega (arith, u.ids), omega (arith, u.bytes))

-- ---- the union's own lists

-- lists that are as long as they
pub own_long_lem : (lim : Limits) (prefixes owned groups sets : ℕ) → prefixes ≡ 1024 → owned ≡ 1024 → groups ≡ 1584 → own_short lim sets ≡ false → work_short lim prefixes owned groups sets ≡ false
own_long_lem lim prefixes owned groups sets a b d h = rw (a, b, d) h
