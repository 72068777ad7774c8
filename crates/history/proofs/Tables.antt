-- DEMAND 3 ON LENT TABLES: a chain of calls of insert, each on the tables that the calls before it left, is a history of the model.
use Rattle.std.specs.Prelude.{Ok}
use Prim.Native.Nat.{ℕ, ◌≤◌}
use mathlib.Core.Path.{◌≡◌, refl, sym, ap, ◌∙◌}
use mathlib.Core.Bool.{Bool, true, false}
use mathlib.Core.List.{List, [], ◌∷◌}
use native.Mathlib.Omega.{arith}
use lib.ListN.{length, length-append}
use Rattle.keys.specs.Pick.{pick}
use Rattle.keys.specs.Prefix.{Bytes}
use Rattle.tables.specs.Layout.{over}
use Rattle.records.specs.Model.{Segment, Manifest}
use Rattle.records.specs.Decode.{Lent, manifest_in}
use Rattle.records.specs.Fill.{manifest_fill}
use Rattle.records.specs.Layout.{manifest_row, layout}
use Rattle.records.specs.declared.Fill.{Fill}
use Rattle.records.specs.declared.Limits.{Limits}
use Rattle.records.specs.declared.ManifestRow.{ManifestRow}
use Rattle.records.specs.declared.Refusal.TheVariants.{OverLimit}
use Rattle.records.proofs.Laid.{Table, segments, views, runs, borrows, ids, pool, at}
use Rattle.records.proofs.Stair.{past, begins_before, decode_over, table_of, layout_long}
use Rattle.measure.specs.Tests.{all_of}
use Rattle.measure.specs.Within.{within}
use Rattle.measure.specs.Placed.{placed}
use Rattle.measure.specs.Measure.{l1_of}
use Rattle.measure.proofs.Layouts.{id_small, layout_placed, placed_small}
use Rattle.lawful.specs.Judge.{judged_of}
use Rattle.copy.specs.Copy.{room_of, laid_over}
use Rattle.segments.specs.Refuses.{prefix_over}
use Rattle.segments.specs.Insert.{new_segment, Entry, found, entered, refused, inserted_of, after_entry}
use Rattle.segments.proofs.Places.{and_both}
use Rattle.segments.proofs.Demand3.{lawful_keeps, bytes_in_lem}
use Rattle.insert.specs.Insert.{laid_entry, insert_of}
use Rattle.history.specs.History.{Lawful, BytesAll, Kept, enters, afresh, replay}
use Rattle.history.specs.Tables.{Site, standing, Insertion, after_insert, replay_in, call_of, calls_of}
use Rattle.history.proofs.History.{all_same, history}

-- WHAT THE FUNCTIONS ACCEPT IS LAWFUL: a manifest that the lawful check passes, in tables whose pool is of bytes, is a lawful manifest of
-- the model, so that the history theorem speaks of it.
pub lawful_in : (lim : Limits) (l : Lent) (m : ManifestRow) → Bytes l.pool → judged_of lim l m ≡ Ok tt → Lawful lim (manifest_in l m)
unfolding l1_of
lawful_in lim l m b h =
    let k = lawful_keeps lim l m h in
    record {
      bytes = bytes_in_lem l m b;
      first = (and_both (placed l m) (within lim (manifest_in l m)) k.first).1;
      second = k.second;
      third = k.third;
      fourth = k.fourth;
      fifth = k.fifth;
    }

-- run ids of 32 bits, in every tree
pub record Small (m : Manifest) : Type 0 where
  pub own : all_of id_small m.tree.runs ≡ true
  pub each : all_of (λ s. all_of id_small s.tree.runs) m.segments ≡ true

-- WHAT IS LAID OUT IS ACCEPTED AGAIN: the layout of a lawful manifest, over any lent tables, passes the lawful check.
pub laid_judged : (lim : Limits) (m : Manifest) (o : Lent) → Lawful lim m → Small m → judged_of lim (laid_over o (layout m)) (manifest_row m) ≡ Ok tt
unfolding judged_of l1_of
laid_judged lim m o law s =
    let l = laid_over o (layout m) in
    let p : placed l (manifest_row m) ≡ true = layout_placed l m (begins_before (layout m) (past (layout m) o)) room s.own s.each in
    rw (p, decode_over m o, law.first, law.second, law.third, law.fourth, law.fifth)
  where
    longer : (d xs : List ℕ) (n : ℕ) → length xs ≡ n → n ≤ length (over d xs)
    longer d xs n e = rw (length-append) (omega arith)

    room : (t : Table) → at t (manifest_fill m) ≤ length (table_of t (laid_over o (layout m)))
    room segments = longer o.segments (layout m).segments (at segments (manifest_fill m)) (layout_long segments m)
    room views = longer o.views (layout m).views (at views (manifest_fill m)) (layout_long views m)
    room runs = longer o.runs (layout m).runs (at runs (manifest_fill m)) (layout_long runs m)
    room borrows = longer o.borrows (layout m).borrows (at borrows (manifest_fill m)) (layout_long borrows m)
    room ids = longer o.ids (layout m).ids (at ids (manifest_fill m)) (layout_long ids m)
    room pool = longer o.pool (layout m).pool (at pool (manifest_fill m)) (layout_long pool m)

-- ---- one call

over_is : (lim : Limits) (room : Fill) (m : Manifest) (p : List ℕ) → prefix_over lim p ≡ true → inserted_of lim room m p ≡ refused OverLimit
unfolding inserted_of
over_is lim room m p e = rw e

-- on an accepted manifest insert answers what it answers on the model
pub insert_is : (lim : Limits) (l : Lent) (m : ManifestRow) (p : List ℕ) (o : Lent) → judged_of lim l m ≡ Ok tt → insert_of lim l m p o ≡ laid_entry o (inserted_of lim (room_of o) (manifest_in l m) p)
unfolding insert_of
insert_is lim l m p o h = go (prefix_over lim p) refl
  where
    go : (b : Bool) → prefix_over lim p ≡ b → insert_of lim l m p o ≡ laid_entry o (inserted_of lim (room_of o) (manifest_in l m) p)
    go true e = rw (over_is lim (room_of o) (manifest_in l m) p e, e)
    go false e = rw (e, h)

-- where the manifest stands after a call stands the model's after the same call
pub step_is : (lim : Limits) (s : Site) (c : Insertion) → judged_of lim s.tables s.row ≡ Ok tt
    → standing (after_insert s (insert_of lim s.tables s.row c.prefix c.out)) ≡ after_entry (standing s) (inserted_of lim (room_of c.out) (standing s) c.prefix)
step_is lim s c h = rw (insert_is lim s.tables s.row c.prefix c.out h) (go (inserted_of lim (room_of c.out) (standing s) c.prefix))
  where
    go : (e : Entry) → standing (after_insert s (laid_entry c.out e)) ≡ after_entry (standing s) e
    go (found i) = refl
    go (entered i n) = decode_over n c.out
    go (refused r) = refl

-- what is kept from call to call
record Fine (lim : Limits) (s : Site) : Type 0 where
  pub accepted : judged_of lim s.tables s.row ≡ Ok tt
  pub law : Lawful lim (standing s)
  pub small : Small (standing s)

fine_on : (lim : Limits) (s : Site) (c : Insertion) → Bytes c.prefix → Fine lim s → Fine lim (after_insert s (insert_of lim s.tables s.row c.prefix c.out))
fine_on lim s c b f = rw (insert_is lim s.tables s.row c.prefix c.out f.accepted) (go (inserted_of lim (room_of c.out) (standing s) c.prefix) refl)
  where
    kept : Kept lim (standing s) (afresh lim (standing s) (standing s).segments (call_of c ∷ [])) (replay lim (standing s) (call_of c ∷ []))
    kept = history lim (standing s) f.law (call_of c ∷ []) (BytesAll.called b BytesAll.nothing)

    fresh : (d : Bool) → all_of (λ x. all_of id_small x.tree.runs) (pick d (new_segment c.prefix ∷ (standing s).segments) (standing s).segments) ≡ true
    fresh true = f.small.each
    fresh false = f.small.each

    small : Small (replay lim (standing s) (call_of c ∷ []))
    small =
        record {
          own = ap (λ (m : Manifest). all_of id_small m.tree.runs) kept.others ∙ f.small.own;
          each = sym (all_same (λ (x : Segment). all_of id_small x.tree.runs) kept.segments) ∙ fresh (enters lim (standing s) (standing s).segments (call_of c));
        }

    go : (e : Entry) → inserted_of lim (room_of c.out) (standing s) c.prefix ≡ e → Fine lim (after_insert s (laid_entry c.out e))
    go (found i) e = f
    go (refused r) e = f
    go (entered i n) e =
        let law : Lawful lim n = rw e at kept.lawful in
        let sm : Small n = rw e at small in
        record { accepted = laid_judged lim n c.out law sm; law = rw (decode_over n c.out) law; small = rw (decode_over n c.out) sm }

-- ---- all calls

fine_all : (lim : Limits) (s : Site) (cs : List Insertion) → BytesAll (calls_of cs) → Fine lim s
    → (standing (replay_in lim s cs) ≡ replay lim (standing s) (calls_of cs)) × (judged_of lim (replay_in lim s cs).tables (replay_in lim s cs).row ≡ Ok tt)
fine_all lim s [] b f = (refl, f.accepted)
fine_all lim s (c ∷ cs) (BytesAll.called bp b) f =
    let w = fine_all lim (after_insert s (insert_of lim s.tables s.row c.prefix c.out)) cs b (fine_on lim s c bp f) in
    (w.0 ∙ ap (λ (m : Manifest). replay lim m (calls_of cs)) (step_is lim s c f.accepted), w.1)

fine_in : (lim : Limits) (s : Site) → Bytes s.tables.pool → judged_of lim s.tables s.row ≡ Ok tt → Fine lim s
unfolding l1_of
fine_in lim s b h =
    let w = placed_small s.tables s.row (and_both (placed s.tables s.row) (within lim (standing s)) (lawful_keeps lim s.tables s.row h).first).0 in
    record { accepted = h; law = lawful_in lim s.tables s.row b h; small = record { own = w.0; each = w.1 } }

-- After each of any calls on tables that began with an accepted manifest, the manifest that stands is the model's after the same
-- calls, and insert accepts it.
pub replay_in_lem : (lim : Limits) (s : Site) → Bytes s.tables.pool → judged_of lim s.tables s.row ≡ Ok tt → (cs : List Insertion) → BytesAll (calls_of cs)
    → (standing (replay_in lim s cs) ≡ replay lim (standing s) (calls_of cs)) × (judged_of lim (replay_in lim s cs).tables (replay_in lim s cs).row ≡ Ok tt)
replay_in_lem lim s b h cs bs = fine_all lim s cs bs (fine_in lim s b h)

-- "Begin with any lawful manifest and make insertions, some refused. After each, the segments are those worked out afresh from the
-- start list and all calls so far", on lent tables.
pub history_in : (lim : Limits) (s : Site) → Bytes s.tables.pool → judged_of lim s.tables s.row ≡ Ok tt → (cs : List Insertion) → BytesAll (calls_of cs)
    → Kept lim (standing s) (afresh lim (standing s) (standing s).segments (calls_of cs)) (standing (replay_in lim s cs))
history_in lim s b h cs bs = rw (replay_in_lem lim s b h cs bs).0 (history lim (standing s) (lawful_in lim s.tables s.row b h) (calls_of cs) bs)
