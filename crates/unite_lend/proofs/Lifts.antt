-- From rows to sources: each used source is sound where all sources are lawful. Assumes nothing.
use Rattle.std.specs.Prelude.{Err, Ok, Result}
use Prim.Native.Nat.{ℕ, zero, suc, ◌+◌, ◌*◌, ◌≤◌}
use mathlib.Core.Path.{◌≡◌, refl, sym, ap, ◌∙◌}
use mathlib.Core.Bool.{Bool, true, false}
use mathlib.Core.List.{List, [], ◌∷◌, ◌++◌}
use native.Mathlib.Omega.{arith}
use lib.Dec.{leb}
use lib.ListN.{length}
use borrow.Author.Tests.{le-leb}
use Rattle.keys.specs.Pick.{pick}
use Rattle.keys.specs.Key.{is_less}
use Rattle.keys.specs.Meet.{start_order}
use Rattle.records.specs.Model.{View}
use Rattle.records.specs.Row.{at}
use Rattle.records.specs.Decode.{Lent}
use Rattle.records.specs.declared.Limits.{Limits}
use Rattle.measure.specs.Tests.{all_of, all_below}
use Rattle.measure.proofs.Lists.{all_up_to}
use Rattle.lawful.specs.Judge.{judged_of}
use Rattle.borrows.proofs.Lawfully.{both}
use Rattle.unite_ranges.specs.Bounding.{Bounding, none, spans, bounding_of}
use Rattle.unite_ranges.specs.Arranged.{Ranged, entered, arranged_from, arranged, whats}
use Rattle.unite_ranges.specs.Rows.{ranged_in}
use Rattle.unite_sources.specs.Used.{ranged_as, ranged_by}
use Rattle.unite_sources.specs.Rows.{manifest_at_word, views_at_word, words_of, begins}
use Rattle.unite_sources.proofs.Results.{begins_whats}
use Rattle.unite_judge.specs.Judging.{codes_known, source_judged, and_then, sources_judged}
use Rattle.unite_lend.specs.Used.{sound_at, sound_below}

-- ---- what each passes, each of them passes arranged

module _ {A : Type 0} (p : A → Bool) where
  entered_keeps : (x : Ranged A) (ys : List (Ranged A)) → p x.what ≡ true → all_of p (whats ys) ≡ true → all_of p (whats (entered x ys)) ≡ true
  unfolding entered whats
  entered_keeps x [] e f = rw e
  entered_keeps x (y ∷ ys) e f =
      let q = both (p y.what) (all_of p (whats ys)) f in
      go (is_less (start_order x.range.start y.range.start)) q.0 q.1 (entered_keeps x ys e q.1)
    where
      go : (b : Bool) → p y.what ≡ true → all_of p (whats ys) ≡ true → all_of p (whats (entered x ys)) ≡ true → all_of p (whats (pick b (x ∷ y ∷ ys) (y ∷ entered x ys))) ≡ true
      go true g h k = rw (e, g, h)
      go false g h k = rw (g, k)

  arranged_keeps : (done xs : List (Ranged A)) → all_of p (whats done) ≡ true → all_of p (whats xs) ≡ true → all_of p (whats (arranged_from done xs)) ≡ true
  unfolding arranged_from whats
  arranged_keeps done [] e f = e
  arranged_keeps done (x ∷ xs) e f =
      let q = both (p x.what) (all_of p (whats xs)) f in
      arranged_keeps (entered x done) xs (entered_keeps x done q.0 e) q.1

  ranged_keeps : (views : A → List View) (xs : List A) → all_of p xs ≡ true → all_of p (whats (ranged_by views xs)) ≡ true
  unfolding ranged_by whats
  ranged_keeps views [] e = refl
  ranged_keeps views (x ∷ xs) e = go (bounding_of (views x)) (ranged_keeps views xs (both (p x) (all_of p xs) e).1)
    where
      go : (b : Bounding) → all_of p (whats (ranged_by views xs)) ≡ true → all_of p (whats (ranged_as x b ++ ranged_by views xs)) ≡ true
      go none h = h
      go (spans r) h = rw ((both (p x) (all_of p xs) e).0, h)

-- ---- lawful sources are sound

then_both : (a b : Result Unit ℕ) → and_then a b ≡ Ok tt → (a ≡ Ok tt) × (b ≡ Ok tt)
then_both (Ok _) b e = (refl, e)
then_both (Err rule) b e = let z : ◌≡◌ {A = ℕ} 0 1 = cc in absurd (omega arith)

picked : (c : Bool) (j : Result Unit ℕ) → pick c j (Err 1) ≡ Ok tt → j ≡ Ok tt
picked true j e = e
picked false j e = let z : ◌≡◌ {A = ℕ} 0 1 = cc in absurd (omega arith)

module _ (lim : Limits) (l : Lent) (t : List ℕ) where
  all_sound : (n : ℕ) → n * 22 ≤ length t → sources_judged lim l t n ≡ Ok tt → all_below (λ k. sound_at lim l t (k * 22)) n ≡ true
  unfolding sound_at
  all_sound zero h e = refl
  all_sound (suc n) h e =
      let q = then_both (sources_judged lim l t n) (source_judged lim l t (n * 22)) e in
      let r : leb (n * 22 + 22) (length t) ≡ true = le-leb (n * 22 + 22) (length t) (omega arith) in
      let s : judged_of lim l (manifest_at_word t (n * 22)) ≡ (Ok tt) = picked (codes_known t (n * 22)) (judged_of lim l (manifest_at_word t (n * 22))) q.1 in
      rw (all_sound n (omega arith) q.0, r, s)

  pub used_sound : (pool rows : List ℕ) (k n : ℕ) → n * 22 ≤ length t → sources_judged lim l t n ≡ Ok tt
      → ranged_in pool rows k ≡ arranged (ranged_by (views_at_word l.segments l.runs l.views l.pool t) (words_of n)) → sound_below lim l t rows k ≡ true
  unfolding begins words_of whats
  used_sound pool rows k n h j e =
      let v = views_at_word l.segments l.runs l.views l.pool t in
      let w : all_of (sound_at lim l t) (words_of n) ≡ true = all_up_to (sound_at lim l t) (λ i. i * 22) n ∙ all_sound n h j in
      sym (all_up_to (sound_at lim l t) (λ i. at rows (i * 7)) k)
      ∙ ap (all_of (sound_at lim l t)) (begins_whats l t pool rows k ∙ ap whats e)
      ∙ arranged_keeps (sound_at lim l t) [] (ranged_by v (words_of n)) refl (ranged_keeps (sound_at lim l t) v (words_of n) w)
