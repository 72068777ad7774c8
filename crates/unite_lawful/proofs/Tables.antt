-- THE SOURCES THAT ARE ACCEPTED ARE LAWFUL, so that what the union answers on lent tables is lawful. Assumes nothing.
use Rattle.std.specs.Prelude.{Err, Ok, Result}
use Prim.Native.Nat.{ℕ, zero, suc, ◌+◌, ◌*◌, ◌/◌, ◌≤◌}
use mathlib.Core.Path.{◌≡◌, refl, sym, ap, ◌∙◌}
use mathlib.Core.Bool.{Bool, true, false, not, ◌||◌, true≢false}
use mathlib.Core.List.{List, []}
use native.Mathlib.Omega.{arith}
use lib.Dec.{ltb, leb}
use lib.ListN.{length, take, drop, length-take}
use borrow.Author.Tests.{le-leb, ltb-false}
use Rattle.keys.specs.Pick.{pick}
use Rattle.keys.specs.Pool.{part_of}
use Rattle.records.specs.Row.{place_at}
use Rattle.records.specs.Decode.{Lent, bytes_in, manifest_in}
use Rattle.records.specs.declared.Limits.{Limits}
use Rattle.records.specs.declared.ManifestRow.{ManifestRow}
use Rattle.records.specs.declared.Place.{Place}
use Rattle.records.specs.declared.Refusal.TheVariants.{Unlawful, OverLimit, NoRoom}
use Rattle.measure.specs.Tests.{all_of, all_below}
use Rattle.measure.specs.Within.{short, within}
use Rattle.measure.specs.Placed.{placed}
use Rattle.measure.specs.Measure.{l1_of}
use Rattle.measure.proofs.Lists.{all_up_to}
use Rattle.lawful.specs.Judge.{judged_of}
use Rattle.segments.proofs.Places.{and_both}
use Rattle.segments.proofs.Demand3.{lawful_keeps}
use Rattle.merge.proofs.Keeping.{both_and}
use Rattle.borrows.specs.Clone.{uuids_of}
use Rattle.unite_sources.specs.Rows.{manifest_at_word, source_at_word, sources_in}
use Rattle.unite_judge.specs.Judging.{most_sources, path_over, some_path_over, codes_known, source_judged, and_then, sources_judged}
use Rattle.unite_lend.specs.Used.{is_lawful}
use Rattle.unite.specs.United.{united_of}
use Rattle.unite.specs.Answer.{Outcome, refused, unless_broken, union_given, union_in}
use Rattle.unite_lawful.specs.Sources.{judged_as, lawful_source}
use Rattle.unite_lawful.proofs.Lawful.{laws_judged}
use Rattle.unite_lawful.proofs.Answers.{never, passed, union_lawful}

-- ---- one source

neither : (a b : Bool) → (a || b) ≡ false → (a ≡ false) × (b ≡ false)
neither true b e = absurd (true≢false e)
neither false b e = (refl, e)

-- a path that is not over its limit
path_short : (most n : ℕ) (pool : List ℕ) (p : Place) → path_over most n p ≡ false → short most (bytes_in pool p) ≡ true
unfolding part_of
path_short most n pool p h =
    let l : p.len ≤ most = ltb-false most p.len (neither (ltb most p.len) (not (leb (p.at + p.len) n)) h).0 in
    le-leb (length (bytes_in pool p)) most (go (leb (p.at + p.len) (length pool)) l)
  where
    go : (b : Bool) → p.len ≤ most → length (pick b (take p.len (drop p.at pool)) []) ≤ most
    go true l = rw (length-take) (omega arith)
    go false l = omega arith

broken : {A : Type 0} (rule : ℕ) → ◌≡◌ {A = Result Unit ℕ} (Err rule) (Ok tt) → A
broken rule e = absurd (true≢false (sym (ap is_lawful e)))

-- a manifest that the lawful check passes is lawful
judged_as_lem : (lim : Limits) (l : Lent) (m : ManifestRow) → judged_of lim l m ≡ Ok tt → judged_as lim (manifest_in l m) ≡ Ok tt
unfolding l1_of
judged_as_lem lim l m h =
    let k = lawful_keeps lim l m h in
    laws_judged lim (manifest_in l m)
    (record { first = (and_both (placed l m) (within lim (manifest_in l m)) k.first).1; second = k.second; third = k.third; fourth = k.fourth; fifth = k.fifth })

picked : (c : Bool) (j : Result Unit ℕ) → pick c j (Err 1) ≡ Ok tt → j ≡ Ok tt
picked true j e = e
picked false j e = broken 1 e

then_both : (a b : Result Unit ℕ) → and_then a b ≡ Ok tt → (a ≡ Ok tt) × (b ≡ Ok tt)
then_both (Ok _) b e = (refl, e)
then_both (Err rule) b e = broken rule e

module _ (lim : Limits) (l : Lent) (t : List ℕ) where
  source_lawful : (b : ℕ) → source_judged lim l t b ≡ Ok tt → path_over lim.path (length l.pool) (place_at t (b + 18)) ≡ false → lawful_source lim (source_at_word l t b) ≡ true
  unfolding lawful_source source_at_word
  source_lawful b j p =
      both_and
      (ap is_lawful (judged_as_lem lim l (manifest_at_word t b) (picked (codes_known t b) (judged_of lim l (manifest_at_word t b)) j)))
      (path_short lim.path (length l.pool) l.pool (place_at t (b + 18)) p)

  -- ---- all of them

  below_lawful : (n : ℕ) → sources_judged lim l t n ≡ Ok tt → some_path_over lim.path (length l.pool) t n ≡ false → all_below (λ i. lawful_source lim (source_at_word l t (i * 22))) n ≡ true
  below_lawful zero j p = refl
  below_lawful (suc n) j p =
      let v = then_both (sources_judged lim l t n) (source_judged lim l t (n * 22)) j in
      let w = neither (some_path_over lim.path (length l.pool) t n) (path_over lim.path (length l.pool) (place_at t (n * 22 + 18))) p in
      both_and (below_lawful n v.0 w.0) (source_lawful (n * 22) v.1 w.1)

  pub sources_lawful : (n : ℕ) → sources_judged lim l t n ≡ Ok tt → some_path_over lim.path (length l.pool) t n ≡ false → all_of (lawful_source lim) (sources_in l t n) ≡ true
  unfolding sources_in
  sources_lawful n j p = all_up_to (lawful_source lim) (λ i. source_at_word l t (i * 22)) n ∙ below_lawful n j p

-- "2, 1 (manifests in given order)": where those refusals are not given
pub in_done : (lim : Limits) (l : Lent) (t fresh : List ℕ) (work : Bool) (o : Lent) (row : ManifestRow) → (union_in lim l t fresh work o).answer ≡ Ok row
    → (all_of (lawful_source lim) (sources_in l t (length t / 22)) ≡ true)
    × (((union_given lim (sources_in l t (length t / 22)) (uuids_of fresh) o).answer ≡ Ok row) × (union_in lim l t fresh work o ≡ union_given lim (sources_in l t (length t / 22)) (uuids_of fresh) o))
unfolding union_in
in_done lim l t fresh work o row e =
    let n = length t / 22 in
    let over = some_path_over lim.path (length l.pool) t n in
    let given = union_given lim (sources_in l t n) (uuids_of fresh) o in
    let judged = unless_broken (sources_judged lim l t n) o given in
    let p = passed o row (ltb most_sources n || over) OverLimit (pick work (refused NoRoom o) judged) e in
    let q = passed o row work NoRoom judged p.1.0 in
    let r = go (sources_judged lim l t n) given q.1.0 in
    (sources_lawful lim l t n r.0 (neither (ltb most_sources n) over p.0).1, (r.1.0, p.1.1 ∙ q.1.1 ∙ r.1.1))
  where
    go : (j : Result Unit ℕ) (given : Outcome) → (unless_broken j o given).answer ≡ Ok row → (j ≡ Ok tt) × ((given.answer ≡ Ok row) × (unless_broken j o given ≡ given))
    go (Ok _) given h = (refl, (h, refl))
    go (Err rule) given h = never (Unlawful rule) row h

-- ONE THEOREM on lent tables: an answer is given for lawful sources alone, its row names the union in the output tables, and that is lawful
pub union_stands : (lim : Limits) (l : Lent) (t fresh : List ℕ) (work : Bool) (o : Lent) (row : ManifestRow) → (union_in lim l t fresh work o).answer ≡ Ok row
    → (manifest_in (union_in lim l t fresh work o).out row ≡ united_of (sources_in l t (length t / 22)) (uuids_of fresh)) × (judged_as lim (united_of (sources_in l t (length t / 22)) (uuids_of fresh)) ≡ Ok tt)
union_stands lim l t fresh work o row e =
    let w = in_done lim l t fresh work o row e in
    let v = union_lawful lim (sources_in l t (length t / 22)) (uuids_of fresh) o row w.0 w.1.0 in
    (rw w.1.1 v.0, v.1)
