-- WHERE A MERGE IS DONE, the window that it answers holds the merged list in the output tables, and the list is lawful.
use Rattle.std.specs.Prelude.{Err, Ok, Result}
use Prim.Native.Nat.{ℕ, zero, suc, ◌+◌, ◌/◌}
use mathlib.Core.Path.{◌≡◌, refl}
use mathlib.Core.Bool.{Bool, true, false}
use mathlib.Core.List.{List}
use native.Mathlib.Omega.{arith}
use lib.ListN.{length, drop}
use Rattle.keys.specs.Pick.{pick}
use Rattle.keys.specs.Prefix.{Bytes}
use Rattle.keys.proofs.Places.{bytes_part}
use Rattle.tables.specs.Layout.{over, up_to, joined}
use Rattle.tables.specs.Window.{held_of}
use Rattle.tables.specs.declared.Window.{Window}
use Rattle.tables.proofs.Holds.{holds_front, up_to_front}
use Rattle.records.specs.Model.{Segment}
use Rattle.records.specs.Fill.{empty, sum, segment_fill}
use Rattle.records.specs.Layout.{segments_laid, segments_views_laid, segments_runs_laid, segment_bytes}
use Rattle.records.specs.Decode.{Lent, segments_in, manifest_in}
use Rattle.records.specs.declared.Limits.{Limits}
use Rattle.records.specs.declared.ManifestRow.{ManifestRow}
use Rattle.records.specs.declared.Refusal.{Refusal}
use Rattle.records.specs.declared.Refusal.TheVariants.{Unlawful, NoRoom, CompactorOnly, KeptNest}
use Rattle.records.proofs.Lists.{segments_back}
use Rattle.lawful.specs.Judge.{judged_of}
use Rattle.lawful.specs.Steps.{prefix_at}
use Rattle.copy.specs.Copy.{no_room}
use Rattle.segments.specs.Prefixes.{prefixes, prefixes_in}
use Rattle.segments.specs.Refuses.{is_broken, rule_of}
use Rattle.segments.proofs.Answers.{prefixes_in_lem}
use Rattle.segments.proofs.Demand3.{lawful_keeps}
use Rattle.merge.specs.Merge.{from_writer, refuses6, place6, from_compactor, refuses7, place7}
use Rattle.merge.specs.Answer.{LentList, Outcome, list_room, list_over, refused, list_given, writer_given, compactor_given, given_by, judged_both, merge_of}
use Rattle.merge.specs.declared.Side.TheVariants.{Writer, Compactor}
use Rattle.merge.proofs.Results.{ListLawful, list_of, BytesEach, writer_lawful, compactor_lawful}

-- the list that stands in the output tables at a window
abbrev pub standing : LentList → Window → List Segment
standing o w = segments_in o.segments o.runs o.views o.pool w

list_back : (o : LentList) (ss : List Segment) → standing (list_over o ss) (record { first = 0; count = length ss }) ≡ ss
list_back o ss =
    segments_back (over o.segments (segments_laid empty ss)) (over o.runs (segments_runs_laid empty ss)) (over o.views (segments_views_laid empty ss)) (over o.pool (joined segment_bytes ss)) empty ss
    (holds_front (segments_laid empty ss) (drop (length (segments_laid empty ss)) o.segments))
    (holds_front (segments_runs_laid empty ss) (drop (length (segments_runs_laid empty ss)) o.runs))
    (holds_front (segments_views_laid empty ss) (drop (length (segments_views_laid empty ss)) o.views))
    (holds_front (joined segment_bytes ss) (drop (length (joined segment_bytes ss)) o.pool))

-- no refusal is a list
never : {A : Type 0} (r : Refusal) (w : Window) → Err r ≡ Ok w → A
never r w e = let z : ◌≡◌ {A = ℕ} 0 1 = cc in absurd (omega arith)

given_done : (lim : Limits) (ss : List Segment) (o : LentList) (w : Window) → (list_given lim ss o).answer ≡ Ok w → standing (list_given lim ss o).out w ≡ ss
unfolding list_given
given_done lim ss o w e = go (no_room lim (list_room o) (sum segment_fill ss)) e
  where
    go : (b : Bool) → (pick b (refused NoRoom o) (record { answer = Ok (record { first = 0; count = length ss }); out = list_over o ss })).answer ≡ Ok w
        → standing (pick b (refused NoRoom o) (record { answer = Ok (record { first = 0; count = length ss }); out = list_over o ss })).out w ≡ ss
    go true z = never NoRoom w z
    go false z = let f : record { first = 0; count = length ss } ≡ w = cc in rw (← f) (list_back o ss)

-- a refusal before it is not given
module _ (b : Bool) (x : Refusal) (given : Outcome) (o : LentList) (w : Window) (e : (pick b (refused x o) given).answer ≡ Ok w) where
  passed : (b ≡ false) × (given.answer ≡ Ok w)
  passed = go b e
    where
      go : (b : Bool) → (pick b (refused x o) given).answer ≡ Ok w → (b ≡ false) × (given.answer ≡ Ok w)
      go true z = never x w z
      go false z = (refl, z)

-- both manifests are lawful, and what is given is given
module _ (lim : Limits) (l : Lent) (w c : ManifestRow) (given : Outcome) (o : LentList) (x : Window) (e : (judged_both lim l w c given o).answer ≡ Ok x) where
  judged : (judged_of lim l w ≡ Ok tt) × (judged_of lim l c ≡ Ok tt) × (given.answer ≡ Ok x) × (judged_both lim l w c given o ≡ given)
  judged = go (judged_of lim l w) (judged_of lim l c) e
    where
      go : (a b : Result Unit ℕ)
          → (pick (is_broken a) (refused (Unlawful (rule_of a)) o) (pick (is_broken b) (refused (Unlawful (rule_of b)) o) given)).answer ≡ Ok x
          → (a ≡ Ok tt) × (b ≡ Ok tt) × (given.answer ≡ Ok x) × (pick (is_broken a) (refused (Unlawful (rule_of a)) o) (pick (is_broken b) (refused (Unlawful (rule_of b)) o) given) ≡ given)
      go (Ok _) (Ok _) z = (refl, refl, z, refl)
      go (Ok _) (Err r) z = never (Unlawful r) x z
      go (Err r) b z = never (Unlawful r) x z

-- the prefixes of tables whose pool holds bytes are bytes
bytes_up_to : (g : ℕ → List ℕ) → ((k : ℕ) → Bytes (g k)) → (n : ℕ) → BytesEach (up_to g n)
bytes_up_to g h zero = BytesEach.none
bytes_up_to g h (suc n) = rw (up_to_front g n) (BytesEach.more (h 0) (bytes_up_to (λ k. g (suc k)) (λ k. h (suc k)) n))

bytes_in_lem : (l : Lent) (m : ManifestRow) → Bytes l.pool → BytesEach (prefixes (manifest_in l m).segments)
unfolding prefixes_in
bytes_in_lem l m b = rw (prefixes_in_lem l m) (bytes_up_to (λ k. prefix_at l.segments l.pool (m.segments.first + k)) (λ k. bytes_part _ _ b) (held_of m.segments (length l.segments / 12)))

lawful_list : (lim : Limits) (l : Lent) (m : ManifestRow) → judged_of lim l m ≡ Ok tt → ListLawful (manifest_in l m).segments
lawful_list lim l m e = let k = lawful_keeps lim l m e in list_of (manifest_in l m) k.second k.third k.fourth k.fifth

module _ (lim : Limits) (l : Lent) (w c : ManifestRow) (o : LentList) (x : Window) where
  abbrev ws : List Segment
  ws = (manifest_in l w).segments

  abbrev cs : List Segment
  cs = (manifest_in l c).segments

  pub writer_stands : (merge_of Writer lim l w c o).answer ≡ Ok x → (standing (merge_of Writer lim l w c o).out x ≡ from_writer ws cs) × ListLawful (from_writer ws cs)
  unfolding merge_of given_by writer_given
  writer_stands e =
      let j = judged lim l w c (writer_given lim ws cs o) o x e in
      let p = passed (refuses6 ws cs) (CompactorOnly (place6 ws cs)) (list_given lim (from_writer ws cs) o) o x j.2 in (
        rw (j.3, p.0) (given_done lim (from_writer ws cs) o x p.1),
        writer_lawful ws cs (lawful_list lim l w j.0) (lawful_list lim l c j.1),
      )

  pub compactor_stands : Bytes l.pool → (merge_of Compactor lim l w c o).answer ≡ Ok x → (standing (merge_of Compactor lim l w c o).out x ≡ from_compactor ws cs) × ListLawful (from_compactor ws cs)
  unfolding merge_of given_by compactor_given
  compactor_stands b e =
      let j = judged lim l w c (compactor_given lim ws cs o) o x e in
      let p = passed (refuses7 (from_compactor ws cs)) (KeptNest (place7 (from_compactor ws cs))) (list_given lim (from_compactor ws cs) o) o x j.2 in (
        rw (j.3, p.0) (given_done lim (from_compactor ws cs) o x p.1),
        compactor_lawful ws cs (lawful_list lim l w j.0) (lawful_list lim l c j.1) (bytes_in_lem l w b) (bytes_in_lem l c b) p.0,
      )
