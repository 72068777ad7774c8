-- From all sources to the union of the used ones, by the name on which all agree. Assumes nothing.
use Rattle.std.specs.Prelude.{Option}
use Prim.Native.Nat.{ℕ, ◌+◌, ◌*◌, ◌≤◌}
use mathlib.Core.Path.{◌≡◌, refl, sym, ap, ◌∙◌}
use mathlib.Core.Bool.{Bool, true, false, ◌||◌}
use mathlib.Core.List.{List}
use native.Mathlib.Omega.{arith}
use lib.Dec.{ltb}
use borrow.Author.Tests.{ltb-false}
use Rattle.tables.specs.Layout.{up_to}
use Rattle.ids.specs.declared.Uuid.{Uuid}
use Rattle.records.specs.Model.{Extractor}
use Rattle.records.specs.Decode.{Lent, name_in}
use Rattle.records.specs.declared.Limits.{Limits}
use Rattle.records.specs.declared.Refusal.TheVariants.{ExtractorsDiffer}
use Rattle.unite_ranges.specs.Arranged.{Ranged, arranged}
use Rattle.unite_ranges.specs.Rows.{ranged_in}
use Rattle.unite_sources.specs.Source.{Source, names_differ, agreed_name, greatest_seq}
use Rattle.unite_sources.specs.Used.{ranged_by, in_order}
use Rattle.unite_sources.specs.Rows.{views_at_word, name_at_word, words_of, sources_in, ranged_sources}
use Rattle.unite_sources.proofs.Results.{arranged_sources, names_sources}
use Rattle.unite_judge.specs.Judging.{most_sources, work_short}
use Rattle.unite_judge.specs.Words.{greatest_at, agreed_at}
use Rattle.unite_judge.proofs.Sources.{greatest_sources, name_sources}
use Rattle.unite.specs.United.{united_from}
use Rattle.unite.specs.Answer.{Outcome, refused, union_given}
use Rattle.unite_plain.specs.By.{used_in, union_by}
use Rattle.records.specs.declared.Place.{Place}

-- ---- working memory

neither : (a b : Bool) → (a || b) ≡ false → (a ≡ false) × (b ≡ false)
neither true b e = let z : ◌≡◌ {A = ℕ} 0 1 = cc in absurd (omega arith)
neither false b e = (refl, e)

-- that it is not too short, part by part
module _ (lim : Limits) (p o g s : ℕ) (h : work_short lim p o g s ≡ false) where
  abbrev p₀ : ℕ
  p₀ = most_sources * lim.fill.segments * 2

  abbrev o₀ : ℕ
  o₀ = lim.fill.views * 2

  abbrev g₀ : ℕ
  g₀ = most_sources * (lim.fill.borrows + 1) * 6

  abbrev s₀ : ℕ
  s₀ = most_sources * (lim.fill.ids + lim.fill.views) * 2

  first_three : (ltb p p₀ || ltb o o₀ || ltb g g₀) ≡ false
  first_three = (neither (ltb p p₀ || ltb o o₀ || ltb g g₀) (ltb s s₀) h).0

  first_two : (ltb p p₀ || ltb o o₀) ≡ false
  first_two = (neither (ltb p p₀ || ltb o o₀) (ltb g g₀) first_three).0

  pub room_prefixes : p₀ ≤ p
  room_prefixes = ltb-false p p₀ (neither (ltb p p₀) (ltb o o₀) first_two).0

  pub room_owned : o₀ ≤ o
  room_owned = ltb-false o o₀ (neither (ltb p p₀) (ltb o o₀) first_two).1

  pub room_groups : g₀ ≤ g
  room_groups = ltb-false g g₀ (neither (ltb p p₀ || ltb o o₀) (ltb g g₀) first_three).1

  pub room_sets : s₀ ≤ s
  room_sets = ltb-false s s₀ (neither (ltb p p₀ || ltb o o₀ || ltb g g₀) (ltb s s₀) h).1

-- ---- all sources

module _ (lim : Limits) (us : List (Ranged Source)) (seq : ℕ) (fresh : List Uuid) (o : Lent) where
  -- with or without an extractor, as the name says
  pub by_name : (pool : List ℕ) (a b : Option Place) → a ≡ b → (x : Outcome) → x ≡ union_by lim (name_in pool b) us seq fresh o → x ≡ union_by lim (name_in pool a) us seq fresh o
  by_name pool a b e x q = q ∙ ap (λ (z : Option Place). union_by lim (name_in pool z) us seq fresh o) (sym e)

module _ (lim : Limits) (l : Lent) (t : List ℕ) (n : ℕ) (fresh : List Uuid) (o : Lent) where
  abbrev ss : List Source
  ss = sources_in l t n

  -- "11 | extractor names differ among all sources"
  module _ (b : Bool) (d : b ≡ names_differ (up_to (λ i. name_at_word l.pool t (i * 22)) n)) where
    pub given_differ : b ≡ true → refused ExtractorsDiffer o ≡ union_given lim ss fresh o
    unfolding union_given
    given_differ h = rw (sym (names_sources l t n) ∙ sym d ∙ h)

    given_by : b ≡ false → union_by lim (agreed_name ss) (in_order ss) (greatest_seq ss) fresh o ≡ union_given lim ss fresh o
    unfolding union_given union_by united_from
    given_by h = rw (sym (names_sources l t n) ∙ sym d ∙ h)

    -- "sources .. with no views are set aside. The others are sorted stably"; "last_l0_seq the greatest over all sources and the extractor name the
    -- agreed one"
    pub given_agreed : b ≡ false → (rows : List ℕ) (k : ℕ) → ranged_in l.pool rows k ≡ arranged (ranged_by (views_at_word l.segments l.runs l.views l.pool t) (words_of n))
        → (name : Option Place) → name ≡ agreed_at t n → (seq : ℕ) → seq ≡ greatest_at t n
        → (x : Outcome) → x ≡ union_by lim (name_in l.pool name) (used_in l t rows k) seq fresh o → x ≡ union_given lim ss fresh o
    given_agreed h rows k e name f seq g x q =
        q
        ∙ ap (λ (z : Extractor). union_by lim z (used_in l t rows k) seq fresh o) (ap (name_in l.pool) f ∙ sym (name_sources l t n))
        ∙ ap (λ (z : List (Ranged Source)). union_by lim (agreed_name ss) z seq fresh o) (ap (ranged_sources l t) e ∙ arranged_sources l t n)
        ∙ ap (λ (z : ℕ). union_by lim (agreed_name ss) (in_order ss) z fresh o) (g ∙ sym (greatest_sources l t n))
        ∙ given_by h
