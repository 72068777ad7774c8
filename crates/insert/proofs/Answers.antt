-- Which answer insert gives, by the tests that the code makes one after the other. Assumes nothing.
use Rattle.std.specs.Prelude.{Err, None, Ok, Option, Result, Some}
use Prim.Native.Nat.{ℕ, ◌≤◌, ◌<◌}
use mathlib.Core.Path.{◌≡◌, refl, sym, ◌∙◌}
use mathlib.Core.Bool.{Bool, true, false}
use mathlib.Core.List.{List}
use native.Mathlib.Omega.{arith}
use lib.ListN.{length}
use borrow.Author.Tests.{lt-ltb, le-ltb}
use Rattle.keys.specs.Pick.{pick}
use Rattle.keys.specs.Key.{less_of}
use Rattle.records.specs.Decode.{Lent, manifest_in}
use Rattle.records.specs.declared.Limits.{Limits}
use Rattle.records.specs.declared.ManifestRow.{ManifestRow}
use Rattle.records.specs.declared.Refusal.TheVariants.{Unlawful, OverLimit, Nests}
use Rattle.measure.specs.Tests.{chain}
use Rattle.measure.specs.Measure.{l1_of}
use Rattle.lawful.specs.Law.{l2_of}
use Rattle.lawful.specs.Judge.{judged_of}
use Rattle.copy.specs.Copy.{room_of}
use Rattle.segments.specs.Prefixes.{prefixes_in}
use Rattle.segments.specs.Place.{place_of, refuses3, conflict_of}
use Rattle.segments.specs.Insert.{holds_of, Entry, found, entered, refused, inserted_of, inserted as told}
use Rattle.segments.proofs.Answers.{prefixes_in_lem}
use Rattle.segments.proofs.Demand3.{chain_prefixes, lawful_keeps}
use Rattle.insert.specs.Nesting.{nesting_of}
use Rattle.insert.specs.Insert.{entered_of, Outcome, laid_entry, insert_of, inserted}
use Rattle.insert.specs.declared.Inserted.TheVariants.{Found}
use Rattle.insert.proofs.Held.{held_place}

nests_true : (b : Bool) (i k : ℕ) → Some i ≡ pick b (Some k) None → (b ≡ true) × (i ≡ k)
nests_true true i k e = (refl, cc)
nests_true false i k e = let z : ◌≡◌ {A = ℕ} 0 1 = cc in absurd (omega arith)

nests_false : (b : Bool) (k : ℕ) → None ≡ pick b (Some k) None → b ≡ false
nests_false true k e = let z : ◌≡◌ {A = ℕ} 0 1 = cc in absurd (omega arith)
nests_false false k e = refl

module _ (lim : Limits) (x : Lent) (m : ManifestRow) (law : judged_of lim x m ≡ Ok tt) where
  pub lawful_first : l1_of lim x m ≡ true
  lawful_first = (lawful_keeps lim x m law).first

  pub lawful_ascends : chain less_of (prefixes_in x.segments x.pool m.segments) ≡ true
  unfolding l2_of
  lawful_ascends = rw (prefixes_in_lem x m) at (sym (chain_prefixes less_of (manifest_in x m).segments) ∙ (lawful_keeps lim x m law).second)

  module _ (p : List ℕ) (o : Lent) (short : length p ≤ lim.prefix) (place : ℕ) (e : place ≡ place_of (prefixes_in x.segments x.pool m.segments) p) (r : Bool) (q : r ≡ holds_of (prefixes_in x.segments x.pool m.segments) p) where
    pub judged_found : r ≡ true → record { answer = Ok (Found place); out = o } ≡ laid_entry o (inserted_of lim (room_of o) (manifest_in x m) p)
    unfolding inserted_of
    judged_found t =
        let i = e ∙ held_place (prefixes_in x.segments x.pool m.segments) p lawful_ascends (sym q ∙ t) in
        rw (le-ltb lim.prefix (length p) short, prefixes_in_lem x m, sym q ∙ t, i)

    module _ (t : r ≡ false) (n : Option ℕ) (u : n ≡ nesting_of (prefixes_in x.segments x.pool m.segments) p) where
      pub judged_nests : (i : ℕ) → n ≡ Some i → record { answer = Err (Nests i); out = o } ≡ laid_entry o (inserted_of lim (room_of o) (manifest_in x m) p)
      unfolding inserted_of
      judged_nests i h =
          let w = nests_true (refuses3 (prefixes_in x.segments x.pool m.segments) p) i (conflict_of (prefixes_in x.segments x.pool m.segments) p) (sym h ∙ u) in
          rw (le-ltb lim.prefix (length p) short, prefixes_in_lem x m, sym q ∙ t, w.0, w.1)

      pub judged_enters : n ≡ None → (y : Outcome) → y ≡ laid_entry o (entered_of lim (room_of o) (manifest_in x m) p) → y ≡ laid_entry o (inserted_of lim (room_of o) (manifest_in x m) p)
      unfolding inserted_of entered_of
      judged_enters h y v =
          let w = nests_false (refuses3 (prefixes_in x.segments x.pool m.segments) p) (conflict_of (prefixes_in x.segments x.pool m.segments) p) (sym h ∙ u) in
          v ∙ sym (rw (le-ltb lim.prefix (length p) short, prefixes_in_lem x m, sym q ∙ t, w))

module _ (lim : Limits) (x : Lent) (m : ManifestRow) (p : List ℕ) (o : Lent) where
  pub insert_over : lim.prefix < length p → record { answer = Err OverLimit; out = o } ≡ insert_of lim x m p o
  unfolding insert_of
  insert_over h = rw (lt-ltb lim.prefix (length p) h)

  module _ (h : length p ≤ lim.prefix) (j : Result Unit ℕ) (e : j ≡ judged_of lim x m) where
    pub insert_broken : (rule : ℕ) → j ≡ Err rule → record { answer = Err (Unlawful rule); out = o } ≡ insert_of lim x m p o
    unfolding insert_of
    insert_broken rule t = rw (le-ltb lim.prefix (length p) h, sym e ∙ t)

    pub insert_lawful : j ≡ Ok tt → (y : Outcome) → y ≡ laid_entry o (inserted_of lim (room_of o) (manifest_in x m) p) → y ≡ insert_of lim x m p o
    unfolding insert_of
    insert_lawful t y v = v ∙ sym (rw (le-ltb lim.prefix (length p) h, sym e ∙ t))

-- the answer on tables has the number and the values of the answer on the model
pub inserted_same : (o : Lent) (e : Entry) → inserted (laid_entry o e).answer ≡ told e
inserted_same o (found i) = refl
inserted_same o (entered i m) = refl
inserted_same o (refused r) = refl
