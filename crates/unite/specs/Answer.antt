-- What the union answers, and what every lent output then holds.
use Rattle.std.specs.Prelude.{ℕ, suc, ◌/◌, Bool, ◌||◌, List, [], ◌∷◌, ltb, length, Err, Ok, Result}
use Rattle.keys.specs.Pick.{pick}
use Rattle.ids.specs.declared.Uuid.{Uuid}
use Rattle.records.specs.Model.{Extractor, none, named, Manifest}
use Rattle.records.specs.Fill.{manifest_fill}
use Rattle.records.specs.Layout.{layout, manifest_row}
use Rattle.records.specs.Decode.{Lent}
use Rattle.records.specs.Refusals.{refusal}
use Rattle.records.specs.declared.Limits.{Limits}
use Rattle.records.specs.declared.Refusal.{Refusal}
use Rattle.records.specs.declared.Refusal.TheVariants.{Unlawful, OverLimit, NoRoom, ExtractorsDiffer, Overlap, SegmentsUnnamed, SourcesNest, NoFinal, TooFewFresh}
use Rattle.copy.specs.Copy.{room_of, no_room, laid_over}
use Rattle.borrows.specs.Clone.{uuids_of, refuses16}
use Rattle.unite_ranges.specs.Arranged.{Ranged, whats}
use Rattle.unite_sources.specs.Source.{Source, agreed_name, refuses11}
use Rattle.unite_sources.specs.Used.{in_order, refuses12, refuses13}
use Rattle.unite_sources.specs.Prefixed.{all_prefixes, refuses14, refuses12_at, place12_at}
use Rattle.unite_sources.specs.Rows.{sources_in}
use Rattle.unite_judge.specs.Judging.{most_sources, some_path_over, sources_judged}
use Rattle.unite.specs.United.{united_from, refuses15_all}
use Rattle.records.specs.declared.ManifestRow.{ManifestRow}

-- an answer, and what the lent output tables hold
pub record Outcome : Type 0 where
  pub answer : Result ManifestRow Refusal
  pub out : Lent

abbrev pub refused : Refusal → Lent → Outcome
refused r o = record { answer = Err r; out = o }

-- "then 15, 4, 16"
unfoldable pub union_to : Limits → List Source → List Uuid → Manifest → Lent → Outcome
union_to lim us fresh result o =
    pick (refuses15_all us) (refused NoFinal o)
    (pick (no_room lim (room_of o) (manifest_fill result)) (refused NoRoom o)
    (pick (refuses16 result.borrows fresh) (refused TooFewFresh o)
    (record { answer = Ok (manifest_row result); out = laid_over o (layout result) })))

-- "then 12, 13 without an extractor or 14, 12 with one"
abbrev pub unless_unfit : Extractor → List (Ranged Source) → Lent → Outcome → Outcome
unless_unfit none us o given = pick (refuses12 us) (refused (Overlap 0) o) (pick (refuses13 (whats us)) (refused SegmentsUnnamed o) given)
unless_unfit (named k) us o given =
    pick (refuses14 (all_prefixes (whats us))) (refused SourcesNest o)
    (pick (refuses12_at (whats us) (all_prefixes (whats us))) (refused (Overlap (suc (place12_at (whats us) (all_prefixes (whats us))))) o) given)

-- of lawful sources: "Union: 11; then 12, 13 without an extractor or 14, 12 with one", then 15, 4, 16
unfoldable pub union_given : Limits → List Source → List Uuid → Lent → Outcome
union_given lim ss fresh o =
    pick (refuses11 ss) (refused ExtractorsDiffer o)
    (unless_unfit (agreed_name ss) (in_order ss) o
    (union_to lim (whats (in_order ss)) fresh (united_from ss (whats (in_order ss)) fresh) o))

-- ---- on lent tables

abbrev pub unless_broken : Result Unit ℕ → Lent → Outcome → Outcome
unless_broken (Ok _) o given = given
unless_broken (Err rule) o given = refused (Unlawful rule) o

-- "2, 1 (manifests in given order)"; too short working memory is 4, before any manifest is judged
unfoldable pub union_in : Limits → Lent → List ℕ → List ℕ → Bool → Lent → Outcome
union_in lim l t fresh short o =
    pick (ltb most_sources (length t / 22) || some_path_over lim.path (length l.pool) t (length t / 22)) (refused OverLimit o)
    (pick short (refused NoRoom o)
    (unless_broken (sources_judged lim l t (length t / 22)) o
    (union_given lim (sources_in l t (length t / 22)) (uuids_of fresh) o)))

-- the number and the values of each answer
abbrev pub united : Result ManifestRow Refusal → List ℕ
united (Ok m) = 0 ∷ []
united (Err r) = refusal r
