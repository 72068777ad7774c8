-- The marked corners, one statement.
use Rattle.std.specs.Prelude.{◌≡◌, false, ℕ, List, [], ◌∷◌, length, Ok, Option, Some}
use Rattle.keys.specs.Range.{Edge, included, excluded}
use Rattle.keys.specs.Pool.{edges_of}
use Rattle.keys.specs.declared.Range.{Range}
use Rattle.ids.specs.Id.{same_view_of, same_sst_of}
use Rattle.records.specs.Model.{View, Tree}
use Rattle.records.specs.Decode.{Lent, manifest_in}
use Rattle.records.specs.Limits.{limits01}
use Rattle.records.specs.declared.ManifestRow.{ManifestRow}
use Rattle.lawful.specs.Judge.{judged_of}
use Rattle.segments.specs.Prefixes.{prefixes}
use Rattle.segments.specs.Refuses.{range_over}
use Rattle.segments.specs.Select.{selected_of, selected}
use Rattle.insert.specs.Insert.{insert_of, inserted}
use Rattle.merge.specs.Tree.{tree_merge}
use Rattle.ids.specs.declared.ViewId.{ViewId}
use Rattle.ids.specs.declared.SstId.{SstId}

-- "Held: `a/`, `b/`, `c/`."
abbrev pub held : List (List ℕ)
held = (97 ∷ 47 ∷ []) ∷ (98 ∷ 47 ∷ []) ∷ (99 ∷ 47 ∷ []) ∷ []

-- What selection answers, its number and values, for the range from s to e: in every lawful manifest that holds these, whatever its
-- trees, its tables and the pool that the bounds are lent in.
abbrev pub Selects : Edge → Edge → List ℕ → Type 0
Selects s e x =
    (l : Lent) (m : ManifestRow) (args : List ℕ) (r : Range)
    → judged_of limits01 l m ≡ Ok tt
    → prefixes (manifest_in l m).segments ≡ held
    → range_over limits01.key (length args) r ≡ false
    → edges_of args r ≡ record { start = s; end = e }
    → selected (selected_of limits01 l m args r) ≡ x

-- What insertion of p answers, its number and values, and that it leaves the lent output as it was: in every lawful manifest that holds
-- these, whatever its trees, its tables and the output.
abbrev pub Inserts : List ℕ → List ℕ → Type 0
Inserts p x =
    (l : Lent) (m : ManifestRow) (o : Lent)
    → judged_of limits01 l m ≡ Ok tt
    → prefixes (manifest_in l m).segments ≡ held
    → (inserted (insert_of limits01 l m p o).answer ≡ x) × ((insert_of limits01 l m p o).out ≡ o)

-- What tree merge leaves of the writer's L0 vs where the compactor's watermarks are i and s: whatever else the two trees hold.
abbrev pub Leaves : List View → Option ViewId → Option SstId → List View → Type 0
Leaves vs i s x = (w c : Tree) → w.l0 ≡ vs → c.view_mark ≡ i → c.sst_mark ≡ s → (tree_merge w c).l0 ≡ x

-- "One statement over these:"
pub record Corners : Type 0 where
  -- "(1) included `b/1` to included `b/9`: segment 1."
  pub inside_one : Selects (included (98 ∷ 47 ∷ 49 ∷ [])) (included (98 ∷ 47 ∷ 57 ∷ [])) (0 ∷ 1 ∷ 1 ∷ 2 ∷ [])
  -- "(2) excluded `b/` to excluded `c/`: segment 1."
  pub prefix_to_prefix : Selects (excluded (98 ∷ 47 ∷ [])) (excluded (99 ∷ 47 ∷ [])) (0 ∷ 1 ∷ 1 ∷ 2 ∷ [])
  -- "(3) included `b0` to excluded `c/`: none."
  pub between : Selects (included (98 ∷ 48 ∷ [])) (excluded (99 ∷ 47 ∷ [])) (0 ∷ 1 ∷ 0 ∷ 0 ∷ [])
  -- "(4) excluded `a` to excluded `a 00`: 5."
  pub no_key : Selects (excluded (97 ∷ [])) (excluded (97 ∷ 0 ∷ [])) (5 ∷ 0 ∷ [])
  -- "(5) insert `b/x`: 3, index 1."
  pub longer : Inserts (98 ∷ 47 ∷ 120 ∷ []) (3 ∷ 1 ∷ [])
  -- "(6) insert `b`: 3, index 1."
  pub shorter : Inserts (98 ∷ []) (3 ∷ 1 ∷ [])
  -- "(7) insert empty: 3, index 0."
  pub empty : Inserts [] (3 ∷ 0 ∷ [])
  -- "(8) L0 v1 v2 v3, view watermark v3, SST watermark v2's: v1.": v1 being another view than v3, and of another SST than v2
  pub both_marks :
      (v1 v2 v3 : View) → same_view_of v3.id v1.id ≡ false → same_sst_of v2.sst v1.sst ≡ false
      → Leaves (v1 ∷ v2 ∷ v3 ∷ []) (Some v3.id) (Some v2.sst) (v1 ∷ [])
