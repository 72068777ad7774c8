-- Which answer the union of used sources gives, by its tests: what the tests of the rows say is said of the sources. Assumes nothing.
use Prim.Native.Nat.{ℕ}
use mathlib.Core.Path.{◌≡◌, sym, ap, ◌∙◌}
use mathlib.Core.Bool.{Bool, true, false}
use mathlib.Core.List.{List, [], map}
use Rattle.ids.specs.declared.Uuid.{Uuid}
use Rattle.records.specs.Model.{Tree, Borrow, none, Manifest}
use Rattle.records.specs.Decode.{Lent}
use Rattle.records.specs.declared.Limits.{Limits}
use Rattle.records.specs.declared.Refusal.TheVariants.{Overlap, SegmentsUnnamed, NoFinal}
use Rattle.unite_ranges.specs.Arranged.{some_overlap, whats}
use Rattle.unite_ranges.specs.Rows.{ranged_in}
use Rattle.unite_trees.specs.Joined.{joined_tree}
use Rattle.unite_trees.specs.Rows.{trees_in}
use Rattle.unite_groups.specs.Groups.{Member, grouped}
use Rattle.unite_groups.specs.Chosen.{chosen_all, lent_from}
use Rattle.unite_sources.specs.Source.{Source}
use Rattle.unite_sources.specs.Used.{refuses12, refuses13, own_trees}
use Rattle.unite_sources.specs.Rows.{source_at_word, begins}
use Rattle.unite_sources.proofs.Results.{overlap_sources, whats_sources, begins_whats}
use Rattle.unite_lend.specs.Used.{some_below, lacks_at, segmented_at}
use Rattle.unite_lend.proofs.Below.{segmented_sources}
use Rattle.unite.specs.United.{members_of, supplies_of, borrows_united, refuses15_all, assembled}
use Rattle.unite.specs.Answer.{Outcome, refused, union_to}
use Rattle.unite.proofs.Lifted.{used_lack, used_trees}
use Rattle.unite_plain.specs.By.{used_in, union_by}

-- ---- 15

module _ (lim : Limits) (us : List Source) (fresh : List Uuid) (m : Manifest) (o : Lent) where
  pub lacking : refuses15_all us ≡ true → refused NoFinal o ≡ union_to lim us fresh m o
  unfolding union_to
  lacking h = rw h

  -- where each borrow has a final checkpoint the rest is that of no sources
  pub not_lacking : refuses15_all us ≡ false → union_to lim us fresh m o ≡ union_to lim [] fresh m o
  unfolding union_to refuses15_all
  not_lacking h = rw h

-- ---- the used sources

module _ (l : Lent) (t rows : List ℕ) (n : ℕ) where
  abbrev pub us : List Source
  us = map (source_at_word l t) (begins rows n)

  pub whats_used : whats (used_in l t rows n) ≡ us
  whats_used = sym (ap (map (source_at_word l t)) (begins_whats l t l.pool rows n) ∙ whats_sources l t (ranged_in l.pool rows n))

  -- the borrows of the groups that were made
  pub lent_used : (fresh : List Uuid) (ms : List Member) → ms ≡ chosen_all (supplies_of us) (grouped (members_of us)) → lent_from fresh 0 ms ≡ borrows_united us fresh
  unfolding borrows_united
  lent_used fresh ms e = ap (lent_from fresh 0) e

  -- from the rows and the groups to the sources
  pub laid_used : (lim : Limits) (seq : ℕ) (fresh : List Uuid) (o : Lent) (ms : List Member) (x : Outcome)
      → ms ≡ chosen_all (supplies_of us) (grouped (members_of us))
      → x ≡ union_to lim [] fresh (assembled (joined_tree (trees_in t rows n l.runs l.views l.pool)) [] none seq (lent_from fresh 0 ms)) o
      → x ≡ union_to lim [] fresh (assembled (joined_tree (own_trees us)) [] none seq (borrows_united us fresh)) o
  laid_used lim seq fresh o ms x e h =
      h
      ∙ ap (λ (ts : List Tree). union_to lim [] fresh (assembled (joined_tree ts) [] none seq (lent_from fresh 0 ms)) o) (used_trees l t rows n)
      ∙ ap (λ (bs : List Borrow). union_to lim [] fresh (assembled (joined_tree (own_trees us)) [] none seq bs) o) (lent_used fresh ms e)

  -- ---- 12, 13, 15, then the rest

  module _ (lim : Limits) (seq : ℕ) (fresh : List Uuid) (o : Lent) (a : Bool) (e : a ≡ some_overlap (ranged_in l.pool rows n)) where
    overlapping : refuses12 (used_in l t rows n) ≡ a
    overlapping = sym (e ∙ overlap_sources l t (ranged_in l.pool rows n))

    pub plain_overlap : a ≡ true → refused (Overlap 0) o ≡ union_by lim none (used_in l t rows n) seq fresh o
    unfolding union_by
    plain_overlap u = rw (overlapping, u)

    module _ (u : a ≡ false) (b : Bool) (f : b ≡ some_below (segmented_at l.segments t rows) n) where
      segmented : refuses13 us ≡ b
      segmented = sym (f ∙ segmented_sources l t rows n)

      pub plain_segmented : b ≡ true → refused SegmentsUnnamed o ≡ union_by lim none (used_in l t rows n) seq fresh o
      unfolding union_by
      plain_segmented v = rw (overlapping, u, whats_used, segmented, v)

      module _ (v : b ≡ false) (d : Bool) (g : d ≡ some_below (lacks_at l.borrows t rows) n) where
        lacks : refuses15_all us ≡ d
        lacks = sym (used_lack l t rows n d g)

        pub plain_lacking : d ≡ true → refused NoFinal o ≡ union_by lim none (used_in l t rows n) seq fresh o
        unfolding union_by
        plain_lacking w = rw (overlapping, u, whats_used, segmented, v) (lacking lim us fresh _ o (lacks ∙ w))

        pub plain_united : (x : Outcome) → d ≡ false → x ≡ union_to lim [] fresh (assembled (joined_tree (own_trees us)) [] none seq (borrows_united us fresh)) o
            → x ≡ union_by lim none (used_in l t rows n) seq fresh o
        unfolding union_by
        plain_united x w q = rw (overlapping, u, whats_used, segmented, v) (q ∙ sym (not_lacking lim us fresh _ o (lacks ∙ w)))
