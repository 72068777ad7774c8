-- Document 01's table of refusals: each one's number and place.
use Rattle.std.specs.Prelude.{ℕ, List, [], ◌∷◌}
use Rattle.records.specs.declared.Refusal.{Refusal}
use Rattle.records.specs.declared.Refusal.TheVariants as on

-- "Each returns its number and place (0 where none is named)"
abbrev pub refusal : Refusal → List ℕ
refusal (on.Unlawful rule) = 1 ∷ rule ∷ []
refusal on.OverLimit = 2 ∷ 0 ∷ []
refusal (on.Nests i) = 3 ∷ i ∷ []
refusal on.NoRoom = 4 ∷ 0 ∷ []
refusal on.EmptyRange = 5 ∷ 0 ∷ []
refusal (on.CompactorOnly i) = 6 ∷ i ∷ []
refusal (on.KeptNest i) = 7 ∷ i ∷ []
refusal (on.OwnEmpty i) = 8 ∷ i ∷ []
refusal (on.OwnOutside i) = 9 ∷ i ∷ []
refusal (on.MaskBit i) = 10 ∷ i ∷ []
refusal on.ExtractorsDiffer = 11 ∷ 0 ∷ []
refusal (on.Overlap i) = 12 ∷ i ∷ []
refusal on.SegmentsUnnamed = 13 ∷ 0 ∷ []
refusal on.SourcesNest = 14 ∷ 0 ∷ []
refusal on.NoFinal = 15 ∷ 0 ∷ []
refusal on.TooFewFresh = 16 ∷ 0 ∷ []
refusal (on.NotWellFormed i) = 18 ∷ i ∷ []
refusal (on.NotTheRecord i) = 19 ∷ i ∷ []
