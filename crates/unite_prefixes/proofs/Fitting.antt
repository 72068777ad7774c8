-- Which answer the union with an extractor gives, by its tests: 14, 12, 15, or what the laying answers. Assumes nothing.
use Prim.Native.Nat.{ℕ, suc, ◌+◌, ◌≤◌, ◌<◌}
use mathlib.Core.Path.{◌≡◌, sym, ap, ◌∙◌}
use mathlib.Core.Bool.{Bool, true, false}
use mathlib.Core.List.{List, [], map}
use native.Mathlib.Omega.{arith}
use native.Mathlib.Numerals.{add-one}
use lib.ListN.{length}
use Rattle.keys.specs.Pick.{pick}
use Rattle.ids.specs.declared.Uuid.{Uuid}
use Rattle.records.specs.Model.{Segment, Borrow, named, Manifest}
use Rattle.records.specs.New.{new_tree}
use Rattle.records.specs.Decode.{Lent}
use Rattle.records.specs.declared.Limits.{Limits}
use Rattle.records.specs.declared.Refusal.TheVariants.{Overlap, SourcesNest, NoFinal}
use Rattle.merge.specs.Merge.{nests}
use Rattle.unite_ranges.specs.Arranged.{Ranged, some_overlap, whats}
use Rattle.unite_groups.specs.Groups.{Member, grouped}
use Rattle.unite_groups.specs.Chosen.{chosen_all, lent_from}
use Rattle.unite_sources.specs.Source.{Source}
use Rattle.unite_sources.specs.Prefixed.{all_prefixes, shares_at, segments_of, refuses12_at, place12_at}
use Rattle.unite_sources.specs.Rows.{source_at_word}
use Rattle.unite_named.specs.Named.{segments_at, tree_tables}
use Rattle.unite.specs.United.{assembled, members_of, supplies_of, borrows_united, refuses15_all}
use Rattle.unite.specs.Answer.{Outcome, refused, union_to}
use Rattle.unite_plain.specs.By.{union_by}
use Rattle.unite_plain.proofs.Answers.{lacking, not_lacking}
use Rattle.unite_prefixes.proofs.Finding.{first_some, first_none, segments_are}

-- ---- what is laid

module _ (lim : Limits) (l : Lent) (t bs : List ℕ) (k : List ℕ) (seq : ℕ) (fresh : List Uuid) (o : Lent) where
  abbrev used : List Source
  used = map (source_at_word l t) bs

  abbrev laid : List Segment → List Borrow → Outcome
  laid ss ls = union_to lim [] fresh (assembled new_tree ss (named k) seq ls) o

  pub laid_used : (ps : List (List ℕ)) → ps ≡ all_prefixes used → (ms : List Member) → ms ≡ chosen_all (supplies_of used) (grouped (members_of used))
      → (x : Outcome) → x ≡ laid (segments_at (tree_tables l.segments l.views l.runs l.pool) t bs ps) (lent_from fresh 0 ms) → x ≡ laid (segments_of used (all_prefixes used)) (borrows_united used fresh)
  unfolding borrows_united
  laid_used ps q ms e x s =
      s
      ∙ ap (λ (ss : List Segment). laid ss (lent_from fresh 0 ms)) (segments_are l t bs ps ∙ ap (segments_of used) q)
      ∙ ap (λ (z : List Member). laid (segments_of used (all_prefixes used)) (lent_from fresh 0 z)) e

-- ---- by the tests

module _ (lim : Limits) (k : List ℕ) (xs : List (Ranged Source)) (us : List Source) (w : us ≡ whats xs) (ps : List (List ℕ)) (q : ps ≡ all_prefixes us)
    (seq : ℕ) (fresh : List Uuid) (o : Lent) where
  abbrev result : List Source → Manifest
  result ss = assembled new_tree (segments_of ss (all_prefixes ss)) (named k) seq (borrows_united ss fresh)

  abbrev asked : List Source → Outcome
  asked ss =
      pick (nests (all_prefixes ss)) (refused SourcesNest o)
      (pick (refuses12_at ss (all_prefixes ss)) (refused (Overlap (suc (place12_at ss (all_prefixes ss)))) o)
      (union_to lim ss fresh (result ss) o))

  asked_is : asked us ≡ union_by lim (named k) xs seq fresh o
  unfolding union_by
  asked_is = ap asked w

  module _ (b : Bool) (e : b ≡ nests ps) where
    nesting : nests (all_prefixes us) ≡ b
    nesting = sym (e ∙ ap nests q)

    pub named_nests : b ≡ true → refused SourcesNest o ≡ union_by lim (named k) xs seq fresh o
    named_nests h = let z : refused SourcesNest o ≡ asked us = rw (nesting ∙ h) in z ∙ asked_is

    module _ (h : b ≡ false) (j np : ℕ) (f : j ≡ place12_at us ps) (c : np ≡ length ps) where
      there : j ≡ place12_at us (all_prefixes us)
      there = f ∙ ap (place12_at us) q

      many : np ≡ length (all_prefixes us)
      many = c ∙ ap length q

      pub named_overlaps : j < np → (i : ℕ) → i ≡ j + 1 → refused (Overlap i) o ≡ union_by lim (named k) xs seq fresh o
      named_overlaps g i d =
          let v : refuses12_at us (all_prefixes us) ≡ true = first_some (λ p. some_overlap (shares_at us p)) (all_prefixes us) (omega (arith, g, there, many)) in
          let n : i ≡ suc (place12_at us (all_prefixes us)) = d ∙ add-one j ∙ ap suc there in
          let z : refused (Overlap i) o ≡ asked us = rw (nesting ∙ h, v) (ap (λ (m : ℕ). refused (Overlap m) o) n) in
          z ∙ asked_is

      module _ (g : np ≤ j) (d : Bool) (a : d ≡ refuses15_all us) where
        apart : refuses12_at us (all_prefixes us) ≡ false
        apart = first_none (λ p. some_overlap (shares_at us p)) (all_prefixes us) (omega (arith, g, there, many))

        to_laid : asked us ≡ union_to lim us fresh (result us) o
        to_laid = rw (nesting ∙ h, apart)

        pub named_lacks : d ≡ true → refused NoFinal o ≡ union_by lim (named k) xs seq fresh o
        named_lacks r = lacking lim us fresh (result us) o (sym a ∙ r) ∙ sym to_laid ∙ asked_is

        pub named_fits : d ≡ false → (x : Outcome) → x ≡ union_to lim [] fresh (result us) o → x ≡ union_by lim (named k) xs seq fresh o
        named_fits r x s = s ∙ sym (not_lacking lim us fresh (result us) o (sym a ∙ r)) ∙ sym to_laid ∙ asked_is
