-- WHERE A UNION IS ANSWERED it is lawful, and stands in the output tables. Assumes nothing.
use Rattle.std.specs.Prelude.{Err, Ok, Result}
use Prim.Native.Nat.{ℕ, suc}
use mathlib.Core.Path.{◌≡◌, refl, sym, ap, ◌∙◌}
use mathlib.Core.Bool.{Bool, true, false, not, ◌&&◌}
use mathlib.Core.List.{List}
use native.Mathlib.Omega.{arith}
use Rattle.keys.specs.Pick.{pick}
use Rattle.ids.specs.declared.Uuid.{Uuid}
use Rattle.records.specs.Model.{Extractor, none, named, Manifest}
use Rattle.records.specs.Fill.{fits, manifest_fill}
use Rattle.records.specs.Layout.{layout, manifest_row}
use Rattle.records.specs.Decode.{Lent, manifest_in}
use Rattle.records.specs.declared.Limits.{Limits}
use Rattle.records.specs.declared.ManifestRow.{ManifestRow}
use Rattle.records.specs.declared.Refusal.{Refusal}
use Rattle.records.specs.declared.Refusal.TheVariants.{NoRoom, ExtractorsDiffer, Overlap, SegmentsUnnamed, SourcesNest, NoFinal, TooFewFresh}
use Rattle.records.proofs.Stair.{decode_over}
use Rattle.measure.specs.Tests.{all_of}
use Rattle.copy.specs.Copy.{room_of, no_room, laid_over}
use Rattle.borrows.specs.Clone.{refuses16}
use Rattle.unite_ranges.specs.Arranged.{whats}
use Rattle.unite_sources.specs.Source.{Source, agreed_name, refuses11}
use Rattle.unite_sources.specs.Used.{in_order, refuses12, refuses13}
use Rattle.unite_sources.specs.Prefixed.{all_prefixes, refuses14, refuses12_at, place12_at}
use Rattle.unite.specs.United.{united_from, united_of, refuses15_all}
use Rattle.unite.specs.Answer.{Outcome, refused, union_to, unless_unfit, union_given}
use Rattle.unite_lawful.specs.Sources.{judged_as, lawful_source}
use Rattle.unite_lawful.proofs.Lawful.{laws_judged, united_lawful}

-- no refusal is an answer
pub never : {A : Type 0} (r : Refusal) (row : ManifestRow) → Err r ≡ Ok row → A
never r row e = let z : ◌≡◌ {A = ℕ} 0 1 = cc in absurd (omega arith)

module _ (o : Lent) (row : ManifestRow) where
  -- a refusal before it is not given
  pub passed : (b : Bool) (r : Refusal) (given : Outcome) → (pick b (refused r o) given).answer ≡ Ok row → (b ≡ false) × ((given.answer ≡ Ok row) × (pick b (refused r o) given ≡ given))
  passed true r given e = never r row e
  passed false r given e = (refl, (e, refl))

  module _ (lim : Limits) (us : List Source) (fresh : List Uuid) (m : Manifest) where
    -- "then 15, 4, 16"
    to_done : (union_to lim us fresh m o).answer ≡ Ok row → (no_room lim (room_of o) (manifest_fill m) ≡ false) × ((row ≡ manifest_row m) × ((union_to lim us fresh m o).out ≡ laid_over o (layout m)))
    unfolding union_to
    to_done e =
        let done : Outcome = record { answer = Ok (manifest_row m); out = laid_over o (layout m) } in
        let last = pick (refuses16 m.borrows fresh) (refused TooFewFresh o) done in
        let p = passed (refuses15_all us) NoFinal (pick (no_room lim (room_of o) (manifest_fill m)) (refused NoRoom o) last) e in
        let q = passed (no_room lim (room_of o) (manifest_fill m)) NoRoom last p.1.0 in
        let r = passed (refuses16 m.borrows fresh) TooFewFresh done q.1.0 in
        let row_is : row ≡ manifest_row m = same (manifest_row m) r.1.0 in
        (q.0, (row_is, ap (λ (w : Outcome). w.out) (p.1.1 ∙ q.1.1 ∙ r.1.1)))
      where
        same : (x : ManifestRow) → ◌≡◌ {A = Result ManifestRow Refusal} (Ok x) (Ok row) → row ≡ x
        same x h = cc

-- "then 12, 13 without an extractor or 14, 12 with one"
fit_done : (o : Lent) (row : ManifestRow) (ss : List Source) (name : Extractor) (given : Outcome) → (unless_unfit name (in_order ss) o given).answer ≡ Ok row
    → ((k : List ℕ) → name ≡ named k → refuses14 (all_prefixes (whats (in_order ss))) ≡ false) × ((given.answer ≡ Ok row) × (unless_unfit name (in_order ss) o given ≡ given))
fit_done o row ss none given e =
    let p = passed o row (refuses12 (in_order ss)) (Overlap 0) (pick (refuses13 (whats (in_order ss))) (refused SegmentsUnnamed o) given) e in
    let q = passed o row (refuses13 (whats (in_order ss))) SegmentsUnnamed given p.1.0 in
    (λ k h. unnamed k h, (q.1.0, p.1.1 ∙ q.1.1))
  where
    unnamed : (k : List ℕ) → none ≡ named k → refuses14 (all_prefixes (whats (in_order ss))) ≡ false
    unnamed k h = let z : ◌≡◌ {A = ℕ} 0 1 = cc in absurd (omega arith)
fit_done o row ss (named j) given e =
    let ps = all_prefixes (whats (in_order ss)) in
    let x = Overlap (suc (place12_at (whats (in_order ss)) ps)) in
    let p = passed o row (refuses14 ps) SourcesNest (pick (refuses12_at (whats (in_order ss)) ps) (refused x o) given) e in
    let q = passed o row (refuses12_at (whats (in_order ss)) ps) x given p.1.0 in
    (λ k h. p.0, (q.1.0, p.1.1 ∙ q.1.1))

room_fits : (lim : Limits) (o : Lent) (m : Manifest) → no_room lim (room_of o) (manifest_fill m) ≡ false → fits (manifest_fill m) lim.fill ≡ true
unfolding no_room
room_fits lim o m h = go (fits (manifest_fill m) lim.fill) (fits (manifest_fill m) (room_of o)) h
  where
    go : (a b : Bool) → not (a && b) ≡ false → a ≡ true
    go true b i = refl
    go false b i = sym i

-- what is known where a manifest is answered
pub record Answered (lim : Limits) (ss : List Source) (fresh : List Uuid) (o : Lent) (row : ManifestRow) : Type 0 where
  pub unnested : (k : List ℕ) → agreed_name ss ≡ named k → refuses14 (all_prefixes (whats (in_order ss))) ≡ false
  pub fit : fits (manifest_fill (united_of ss fresh)) lim.fill ≡ true
  pub row_is : row ≡ manifest_row (united_of ss fresh)
  pub out_is : (union_given lim ss fresh o).out ≡ laid_over o (layout (united_of ss fresh))

pub given_done : (lim : Limits) (ss : List Source) (fresh : List Uuid) (o : Lent) (row : ManifestRow) → (union_given lim ss fresh o).answer ≡ Ok row → Answered lim ss fresh o row
unfolding union_given united_of
given_done lim ss fresh o row e =
    let us = whats (in_order ss) in
    let m = united_from ss us fresh in
    let given = union_to lim us fresh m o in
    let p = passed o row (refuses11 ss) ExtractorsDiffer (unless_unfit (agreed_name ss) (in_order ss) o given) e in
    let q = fit_done o row ss (agreed_name ss) given p.1.0 in
    let r = to_done o row lim us fresh m q.1.0 in
    record { unnested = q.0; fit = room_fits lim o m r.0; row_is = r.1.0; out_is = ap (λ (w : Outcome). w.out) (p.1.1 ∙ q.1.1) ∙ r.1.1 }

-- ONE THEOREM: of lawful sources, where the union is answered, its row names the union in the output tables, and that is lawful
pub union_lawful : (lim : Limits) (ss : List Source) (fresh : List Uuid) (o : Lent) (row : ManifestRow) → all_of (lawful_source lim) ss ≡ true → (union_given lim ss fresh o).answer ≡ Ok row
    → (manifest_in (union_given lim ss fresh o).out row ≡ united_of ss fresh) × (judged_as lim (united_of ss fresh) ≡ Ok tt)
union_lawful lim ss fresh o row h e =
    let w = given_done lim ss fresh o row e in
    let m = united_of ss fresh in
    (rw (w.out_is, w.row_is) (decode_over m o), laws_judged lim m (united_lawful lim ss fresh h w.unnested w.fit))
