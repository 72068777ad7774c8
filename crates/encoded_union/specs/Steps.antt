-- What the inner functions answer. No public promise speaks of it.
use Rattle.std.specs.Prelude.{ℕ, ◌-◌, ◌≡◌, List, [], ◌∷◌, ◌++◌, Err, None, Ok, Option, Result, Some}
use Rattle.ids.specs.declared.Uuid.{Uuid}
use Rattle.tables.specs.Layout.{write}
use Rattle.records.specs.Words.{cell, nothing, cell_words, tree_words}
use Rattle.records.specs.Layout.{manifest_row_at, layout_at}
use Rattle.records.specs.Row.{at}
use Rattle.records.specs.Decode.{Lent}
use Rattle.records.specs.declared.Cell.{Cell}
use Rattle.records.specs.declared.Fill.{Fill}
use Rattle.records.specs.declared.Limits.{Limits}
use Rattle.records.specs.declared.ManifestRow.{ManifestRow}
use Rattle.records.specs.declared.Place.{Place}
use Rattle.records.specs.declared.Refusal.{Refusal}
use Rattle.copy.specs.Copy.{laid_at}
use Rattle.unite_sources.specs.Rows.{sources_in}
use Rattle.unite_judge.specs.Judging.{sources_judged}
use Rattle.manifest_write.specs.Answer.{Outcome}
use Rattle.encoded.specs.Encoded.{Encoded, holds, refused}
use Rattle.encoded_union.specs.Union.{start_of, sources_of, unless_unread}

-- where the k-th part stands
abbrev pub place_of : List ℕ → ℕ → Place
place_of ends k = record { at = start_of ends k; len = at ends k - start_of ends k }

abbrev pub name_cell : Option Place → Cell
name_cell None = nothing
name_cell (Some p) = cell 1 p.at p.len

-- a source's row
unfoldable pub source_words : ManifestRow → Place → Uuid → List ℕ
source_words m p u = tree_words m.tree ++ (m.segments.first ∷ m.segments.count ∷ (cell_words (name_cell m.segment_extractor_name)
    ++ (m.last_l0_seq ∷ m.external_dbs.first ∷ m.external_dbs.count ∷ p.at ∷ p.len ∷ u.0 ∷ u.1 ∷ [])))

-- a source read behind what fills c, and its row written from word b on
pub record Step : Type 0 where
  pub answer : Result Unit Refusal
  pub out : Lent
  pub rows : List ℕ

abbrev pub source_into : Fill → Lent → List ℕ → ℕ → Place → Uuid → Encoded → Step
source_into c o t b p u (holds m) =
    record { answer = Ok tt; out = laid_at c o (layout_at c m); rows = write t b (source_words (manifest_row_at c m) p u) }
source_into c o t b p u (refused r) = record { answer = Err r; out = o; rows = t }

-- what reading all n sources leaves: all are lawful and stand in the tables, or one is refused
abbrev pub Gathered : Limits → List ℕ → List ℕ → List ℕ → List ℕ → List ℕ → ℕ → Result Unit Refusal → Lent → List ℕ → Type 0
Gathered lim s ends paths path_ends checkpoints n (Ok _) l t =
    (sources_judged lim l t n ≡ Ok tt) × (sources_in l t n ≡ sources_of lim s ends paths path_ends checkpoints n) × ((refuse : Refusal → Outcome) (given : Outcome) → unless_unread refuse lim s ends n given ≡ given)
Gathered lim s ends paths path_ends checkpoints n (Err x) l t = (refuse : Refusal → Outcome) (given : Outcome) → unless_unread refuse lim s ends n given ≡ refuse x
