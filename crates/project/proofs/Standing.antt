-- WHERE A PROJECTION IS DONE, the row that it answers names the projected manifest in the output tables, and that manifest is lawful.
use Rattle.std.specs.Prelude.{Err, Ok, Result, None, Option, Some}
use Prim.Native.Nat.{ℕ, ◌+◌, ◌/◌, ◌≤◌}
use mathlib.Core.Path.{sym, ap, ◌≡◌, refl}
use mathlib.Core.Bool.{Bool, true, false, not, ◌&&◌, ◌||◌}
use mathlib.Core.List.{List}
use native.Mathlib.Omega.{arith}
use lib.Dec.{leb}
use lib.ListN.{length}
use borrow.Author.Tests.{leb-true, le-leb}
use Rattle.keys.specs.Pick.{pick}
use Rattle.tables.specs.Window.{held_of}
use Rattle.records.specs.Model.{Segment, Borrow, Manifest}
use Rattle.records.specs.Fill.{fits, name_keys, manifest_fill}
use Rattle.records.specs.Layout.{layout, manifest_row}
use Rattle.records.specs.Decode.{Lent, manifest_in}
use Rattle.records.specs.declared.Fill.{Fill}
use Rattle.records.specs.declared.Limits.{Limits}
use Rattle.records.specs.declared.ManifestRow.{ManifestRow}
use Rattle.records.specs.declared.Refusal.{Refusal}
use Rattle.records.specs.declared.Refusal.TheVariants.{Unlawful, OverLimit, NoRoom, EmptyRange, MaskBit}
use Rattle.records.proofs.Stair.{decode_over}
use Rattle.measure.specs.Tests.{all_of}
use Rattle.measure.specs.Within.{all_views, short, within}
use Rattle.lawful.specs.Judge.{rules_of, judged_of}
use Rattle.copy.specs.Copy.{room_of, no_room, laid_over}
use Rattle.copy.proofs.Manifest.{segments_count}
use Rattle.segments.specs.Prefixes.{prefixes}
use Rattle.segments.specs.Refuses.{is_broken, rule_of}
use Rattle.segments.proofs.Places.{and_both}
use Rattle.segments.proofs.Demand3.{lawful_keeps}
use Rattle.project_ranges.specs.Config.{Config, names_count, refuses10, place10}
use Rattle.project_ranges.specs.Own.{own_fault}
use Rattle.project_ranges.specs.Args.{config_in, config_over, global_empty}
use Rattle.project_ranges.specs.declared.ProjectionConfig.{ProjectionConfig}
use Rattle.project.specs.Project.{projected_of}
use Rattle.project.specs.Answer.{refused, used_short, unless_fault, projected_to, projected_given, projected_in}
use Rattle.project.proofs.Kept.{both}
use Rattle.project.proofs.Results.{projected_l2, projected_l3, projected_l4, projected_l5, projected_prefixes, projected_paths, projected_name, projected_keys}
use Rattle.project.proofs.Shorts.{ShortR, view_short, shown_short, action_good}

-- ---- the result is lawful

-- within, part by part
record Parts (lim : Limits) (m : Manifest) : Type 0 where
  numbers : fits (manifest_fill m) lim.fill ≡ true
  prefix : all_of (λ s. short lim.prefix s.prefix) m.segments ≡ true
  name : all_of (short lim.name) (name_keys m.extractor) ≡ true
  keys : all_of (view_short lim.key) (all_views m) ≡ true
  paths : all_of (λ b. short lim.path b.path) m.borrows ≡ true

within_parts : (lim : Limits) (m : Manifest) → within lim m ≡ true → Parts lim m
unfolding within
within_parts lim m h =
    let f = fits (manifest_fill m) lim.fill in
    let a = all_of (λ (s : Segment). short lim.prefix s.prefix) m.segments in
    let n = all_of (short lim.name) (name_keys m.extractor) in
    let v = all_of (view_short lim.key) (all_views m) in
    let p = all_of (λ (b : Borrow). short lim.path b.path) m.borrows in
    let w = and_both (f && a && n && v) p h in
    let u = and_both (f && a && n) v w.0 in
    let t = and_both (f && a) n u.0 in
    let s = and_both f a t.0 in
    record { numbers = s.0; prefix = s.1; name = t.1; keys = u.1; paths = w.1 }

parts_within : (lim : Limits) (m : Manifest) → Parts lim m → within lim m ≡ true
unfolding within
parts_within lim m p = rw (p.numbers, p.prefix, p.name, p.keys, p.paths)

count_held : (l : Lent) (m : ManifestRow) → length (manifest_in l m).segments ≤ m.segments.count
unfolding manifest_in held_of
count_held l m = rw (segments_count l.segments l.runs l.views l.pool m.segments) (go (leb (m.segments.first + m.segments.count) (length l.segments / 12)))
  where
    go : (b : Bool) → pick b m.segments.count 0 ≤ m.segments.count
    go true = omega arith
    go false = omega arith

-- L1 to L5 of what is answered: of a lawful manifest, with arguments that are not over their limits, where the result's numbers fit
pub projection_lawful : (lim : Limits) (l : Lent) (m : ManifestRow) (c : ProjectionConfig) (own : List ℕ)
    → judged_of lim l m ≡ Ok tt → config_over lim.key (length l.pool) m.segments.count c own ≡ false → lim.prefix ≤ lim.key
    → fits (manifest_fill (projected_of (config_in l.pool c own) (manifest_in l m))) lim.fill ≡ true
    → rules_of (within lim (projected_of (config_in l.pool c own) (manifest_in l m))) (projected_of (config_in l.pool c own) (manifest_in l m)) ≡ Ok tt
projection_lawful lim l m c own h o k f =
    let x = manifest_in l m in
    let d = config_in l.pool c own in
    let r = lawful_keeps lim l m h in
    let p = within_parts lim x (both lim l m h).1 in
    let w : within lim (projected_of d x) ≡ true =
    parts_within lim (projected_of d x)
    (record {
      numbers = f;
      prefix = projected_prefixes d x (short lim.prefix) p.prefix;
      name = rw (projected_name d x) p.name;
      keys =
          projected_keys d x (view_short lim.key) (ShortR lim.key) (short lim.prefix) m.segments.count (count_held l m) (λ e t g i. shown_short lim.key e t g i)
          (λ place q i s. action_good lim.key l.pool own (length l.pool) m.segments.count place i c q o (omega (arith, leb-true (length q) lim.prefix s)))
          (le-leb 0 lim.prefix (omega arith)) p.prefix p.keys;
      paths = projected_paths d x (short lim.path) p.paths;
    })
    in
    rw (w, projected_l2 d x r.second, projected_l3 d x r.third, projected_l4 d x r.fourth, projected_l5 d x r.fifth)

-- ---- what stands in the output tables

never : {A : Type 0} (r : Refusal) (n : ℕ) (row : ManifestRow) → ◌≡◌ {A = Result (ℕ × ManifestRow) Refusal} (Err r) (Ok (n, row)) → A
never r n row e = let z : ◌≡◌ {A = ℕ} 0 1 = cc in absurd (omega arith)

-- an answer's manifest, as it is read from the tables that go with it
pub record Stands (names : ℕ) (m : Manifest) (n : ℕ) (row : ManifestRow) (o : Lent) : Type 0 where
  pub count : n ≡ names
  pub is : manifest_in o row ≡ m

module _ (lim : Limits) (c : Config) (places : ℕ) (o : Lent) (n : ℕ) (row : ManifestRow) where
  to_done : (z : Manifest) → (projected_to lim c places z o).answer ≡ Ok (n, row)
      → (no_room lim (room_of o) (manifest_fill z) ≡ false) × Stands (names_count c.filter) z n row (projected_to lim c places z o).out
  unfolding projected_to
  to_done z e = go (no_room lim (room_of o) (manifest_fill z)) (used_short c places z) e
    where
      go : (a b : Bool)
          → (pick (a || b) (refused NoRoom o) (record { answer = Ok (names_count c.filter, manifest_row z); out = laid_over o (layout z) })).answer ≡ Ok (n, row)
          → (a ≡ false) × Stands (names_count c.filter) z n row (pick (a || b) (refused NoRoom o) (record { answer = Ok (names_count c.filter, manifest_row z); out = laid_over o (layout z) })).out
      go true b i = never NoRoom n row i
      go false true i = never NoRoom n row i
      go false false i =
          let q : ◌≡◌ {A = ℕ × ManifestRow} (names_count c.filter, manifest_row z) (n, row) = cc in
          let f : n ≡ names_count c.filter = sym (ap (λ (t : ℕ × ManifestRow). t.0) q) in
          let g : manifest_row z ≡ row = ap (λ (t : ℕ × ManifestRow). t.1) q in
          (refl, record { count = f; is = rw (← g) (decode_over z o) })

  given_done : (m : Manifest) → (projected_given lim c places m o).answer ≡ Ok (n, row)
      → (no_room lim (room_of o) (manifest_fill (projected_of c m)) ≡ false) × Stands (names_count c.filter) (projected_of c m) n row (projected_given lim c places m o).out
  unfolding projected_given
  given_done m e = go (global_empty c.global) (refuses10 (length m.segments) c.filter) (own_fault c (prefixes m.segments)) e
    where
      go : (a b : Bool) (f : Option Refusal)
          → (pick a (refused EmptyRange o) (pick b (refused (MaskBit (place10 c.filter)) o) (unless_fault f o (projected_to lim c places (projected_of c m) o)))).answer ≡ Ok (n, row)
          → (no_room lim (room_of o) (manifest_fill (projected_of c m)) ≡ false)
          × Stands (names_count c.filter) (projected_of c m) n row (pick a (refused EmptyRange o) (pick b (refused (MaskBit (place10 c.filter)) o) (unless_fault f o (projected_to lim c places (projected_of c m) o)))).out
      go true b f i = never EmptyRange n row i
      go false true f i = never (MaskBit (place10 c.filter)) n row i
      go false false (Some r) i = never r n row i
      go false false None i = to_done (projected_of c m) i

room_fits : (lim : Limits) (room : Fill) (m : Manifest) → no_room lim room (manifest_fill m) ≡ false → fits (manifest_fill m) lim.fill ≡ true
unfolding no_room
room_fits lim room m h = go (fits (manifest_fill m) lim.fill) (fits (manifest_fill m) room) h
  where
    go : (a b : Bool) → not (a && b) ≡ false → a ≡ true
    go true b i = refl
    go false b i = let z : ◌≡◌ {A = ℕ} 0 1 = cc in absurd (omega arith)

-- ONE THEOREM: an answer is given for a lawful manifest alone, its row names the projected manifest in the output tables, and that is lawful
pub projection_stands : (lim : Limits) (l : Lent) (m : ManifestRow) (c : ProjectionConfig) (own used : List ℕ) (o : Lent) (n : ℕ) (row : ManifestRow) → lim.prefix ≤ lim.key
    → (projected_in lim l m c own used o).answer ≡ Ok (n, row)
    → Stands (names_count c.segment_filter) (projected_of (config_in l.pool c own) (manifest_in l m)) n row (projected_in lim l m c own used o).out
    × (rules_of (within lim (projected_of (config_in l.pool c own) (manifest_in l m))) (projected_of (config_in l.pool c own) (manifest_in l m)) ≡ Ok tt)
unfolding projected_in config_in
projection_stands lim l m c own used o n row k e = go (config_over lim.key (length l.pool) m.segments.count c own) (judged_of lim l m) refl refl e
  where
    go : (a : Bool) (j : Result Unit ℕ) → config_over lim.key (length l.pool) m.segments.count c own ≡ a → judged_of lim l m ≡ j
        → (pick a (refused OverLimit o) (pick (is_broken j) (refused (Unlawful (rule_of j)) o) (projected_given lim (config_in l.pool c own) (length used / 2) (manifest_in l m) o))).answer ≡ Ok (n, row)
        → Stands (names_count c.segment_filter) (projected_of (config_in l.pool c own) (manifest_in l m)) n row
        (pick a (refused OverLimit o) (pick (is_broken j) (refused (Unlawful (rule_of j)) o) (projected_given lim (config_in l.pool c own) (length used / 2) (manifest_in l m) o))).out
        × (rules_of (within lim (projected_of (config_in l.pool c own) (manifest_in l m))) (projected_of (config_in l.pool c own) (manifest_in l m)) ≡ Ok tt)
    go true j g h i = never OverLimit n row i
    go false (Err r) g h i = never (Unlawful r) n row i
    go false (Ok tt) g h i =
        let w = given_done lim (config_in l.pool c own) (length used / 2) o n row (manifest_in l m) i in
        (w.1, projection_lawful lim l m c own h g k (room_fits lim (room_of o) (projected_of (config_in l.pool c own) (manifest_in l m)) w.0))
