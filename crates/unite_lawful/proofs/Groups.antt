-- EVERY GROUP IS A MEMBER'S: what holds of each member's path and id set holds of each borrow that is lent. Assumes nothing.
use Prim.Native.Nat.{ℕ, suc}
use mathlib.Core.Path.{◌≡◌, refl, ◌∙◌}
use mathlib.Core.Bool.{Bool, true}
use mathlib.Core.List.{List, [], ◌∷◌}
use Rattle.std.specs.declared.cmp.Ordering.{Ordering}
use Rattle.std.specs.declared.cmp.Ordering.TheVariants.{Less, Equal, Greater}
use Rattle.ids.specs.declared.SstId.{SstId}
use Rattle.ids.specs.declared.Uuid.{Uuid}
use Rattle.records.specs.Model.{Borrow}
use Rattle.measure.specs.Tests.{all_of}
use Rattle.segments.proofs.Places.{and_both}
use Rattle.merge.proofs.Keeping.{both_and}
use Rattle.unite_groups.specs.Sets.{sst_order, by_order, id_entered, id_set_from, id_set}
use Rattle.unite_groups.specs.Groups.{Member, Group, key_order, alone, joined_by, group_entered, grouped_from, grouped}
use Rattle.unite_groups.specs.Chosen.{Supply, chosen_all, lent_from}

-- ---- each id of a set is one of its list

module _ (test : SstId → Bool) where
  entered_all : (x : SstId) (ys : List SstId) → test x ≡ true → all_of test ys ≡ true → all_of test (id_entered x ys) ≡ true
  unfolding id_entered
  entered_all x [] e f = both_and e refl
  entered_all x (y ∷ ys) e f = let w = and_both (test y) (all_of test ys) f in go (sst_order x y) (both_and w.0 (entered_all x ys e w.1))
    where
      go : (r : Ordering) → all_of test (y ∷ id_entered x ys) ≡ true → all_of test (by_order r (x ∷ y ∷ ys) (y ∷ ys) (y ∷ id_entered x ys)) ≡ true
      go Less h = both_and e f
      go Equal h = f
      go Greater h = h

  set_from : (set xs : List SstId) → all_of test set ≡ true → all_of test xs ≡ true → all_of test (id_set_from set xs) ≡ true
  unfolding id_set_from
  set_from set [] e f = e
  set_from set (x ∷ xs) e f = let w = and_both (test x) (all_of test xs) f in set_from (id_entered x set) xs (entered_all x set w.0 e) w.1

  pub set_all : (xs : List SstId) → all_of test xs ≡ true → all_of test (id_set xs) ≡ true
  set_all xs e = set_from [] xs refl e

-- ---- every group has the path and the id set of a member

module _ (test : List ℕ → List SstId → Bool) where
  abbrev pub group_passes : Group → Bool
  group_passes g = test g.path g.ids

  abbrev pub member_passes : Member → Bool
  member_passes m = test m.path (id_set m.ids)

  pub one_all : (p : List ℕ) (xs : List SstId) (u : Uuid) (gs : List Group) → test p xs ≡ true → all_of group_passes gs ≡ true → all_of group_passes (group_entered p xs u gs) ≡ true
  unfolding group_entered
  one_all p xs u [] e f = both_and e refl
  one_all p xs u (g ∷ gs) e f = let w = and_both (group_passes g) (all_of group_passes gs) f in go (key_order p xs g.path g.ids) (both_and w.0 (one_all p xs u gs e w.1))
    where
      go : (r : Ordering) → all_of group_passes (g ∷ group_entered p xs u gs) ≡ true → all_of group_passes (by_order r (alone p xs u ∷ g ∷ gs) (joined_by g u ∷ gs) (g ∷ group_entered p xs u gs)) ≡ true
      go Less h = both_and e f
      go Equal h = f
      go Greater h = h

  from_all : (gs : List Group) (ms : List Member) → all_of group_passes gs ≡ true → all_of member_passes ms ≡ true → all_of group_passes (grouped_from gs ms) ≡ true
  unfolding grouped_from
  from_all gs [] e f = e
  from_all gs (m ∷ ms) e f =
      let w = and_both (member_passes m) (all_of member_passes ms) f in
      from_all (group_entered m.path (id_set m.ids) m.checkpoint gs) ms (one_all m.path (id_set m.ids) m.checkpoint gs w.0 e) w.1

  lent_all : (fresh : List Uuid) (n : ℕ) (ss : List Supply) (gs : List Group) → all_of (λ (b : Borrow). test b.path b.ids) (lent_from fresh n (chosen_all ss gs)) ≡ all_of group_passes gs
  unfolding lent_from chosen_all
  lent_all fresh n ss [] = refl
  lent_all fresh n ss (g ∷ gs) = rw (lent_all fresh (suc n) ss gs)

  -- what holds of every member, with its ids as a set, holds of every borrow that is lent
  pub borrows_all : (fresh : List Uuid) (ss : List Supply) (ms : List Member) → all_of member_passes ms ≡ true
      → all_of (λ (b : Borrow). test b.path b.ids) (lent_from fresh 0 (chosen_all ss (grouped ms))) ≡ true
  borrows_all fresh ss ms e = lent_all fresh 0 ss (grouped ms) ∙ from_all [] ms refl e
