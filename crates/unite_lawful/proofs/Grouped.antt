-- THE BORROWS OF A UNION ARE ITS GROUPS: "grouped by path and id set, ids ascending, once each, ordered by path bytes then id list". Assumes nothing.
use Prim.Native.Nat.{ℕ, suc}
use mathlib.Core.Path.{◌≡◌, refl, ◌∙◌}
use mathlib.Core.Bool.{Bool, true}
use mathlib.Core.List.{List, [], ◌∷◌}
use Rattle.keys.specs.Key.{is_less}
use Rattle.std.specs.declared.cmp.Ordering.TheVariants.{Equal}
use Rattle.keys.proofs.ByteOrder.{Stand, stand_order}
use Rattle.ids.specs.Id.{sst_bytes}
use Rattle.ids.specs.declared.SstId.{SstId}
use Rattle.ids.specs.declared.Uuid.{Uuid}
use Rattle.records.specs.Model.{Borrow}
use Rattle.measure.specs.Tests.{all_of, chain}
use Rattle.merge.specs.Merge.{some_of}
use Rattle.merge.proofs.Keeping.{both_and}
use Rattle.unite_groups.specs.Sets.{sst_order, id_set}
use Rattle.unite_groups.specs.Groups.{Member, Group, list_order, key_order, grouped}
use Rattle.unite_groups.specs.Chosen.{Supply, chosen_all, lent_from}
use Rattle.unite_groups.proofs.Ascending.{ids_ascend, set_ascends, groups_ascend, groups_ascend_lem}
use Rattle.unite_sources.specs.Source.{Source}
use Rattle.unite.specs.United.{members_of, supplies_of, borrows_united}
use Rattle.unite_lawful.specs.Naming.{is_of, whole_source}
use Rattle.unite_lawful.proofs.Lists.{or_true}
use Rattle.unite_lawful.proofs.Groups.{borrows_all}
use Rattle.unite_lawful.proofs.Members.{borrows_some}
use Rattle.unite_lawful.proofs.Names.{whole_members}

-- ---- in order

lent_chain : (fresh : List Uuid) (n : ℕ) (ss : List Supply) (gs : List Group)
    → chain (λ (b c : Borrow). is_less (key_order b.path b.ids c.path c.ids)) (lent_from fresh n (chosen_all ss gs)) ≡ groups_ascend gs
unfolding lent_from chosen_all
lent_chain fresh n ss [] = refl
lent_chain fresh n ss (g ∷ []) = refl
lent_chain fresh n ss (g ∷ h ∷ gs) = rw (lent_chain fresh (suc n) ss (h ∷ gs))

module _ (us : List Source) (fresh : List Uuid) where
  -- "ordered by path bytes then id list", no two with one path and one id set
  pub borrows_ascend : chain (λ (b c : Borrow). is_less (key_order b.path b.ids c.path c.ids)) (borrows_united us fresh) ≡ true
  unfolding borrows_united
  borrows_ascend = lent_chain fresh 0 (supplies_of us) (grouped (members_of us)) ∙ groups_ascend_lem (members_of us)

  every : (test : Member → Bool) → ((m : Member) → test m ≡ true) → (ms : List Member) → all_of test ms ≡ true
  every test h [] = refl
  every test h (m ∷ ms) = both_and (h m) (every test h ms)

  -- "ids ascending, once each"
  pub ids_ascend_lem : all_of (λ (b : Borrow). chain (λ (x y : SstId). is_less (sst_order x y)) b.ids) (borrows_united us fresh) ≡ true
  unfolding borrows_united
  ids_ascend_lem = borrows_all (λ p xs. ids_ascend xs) fresh (supplies_of us) (members_of us) (every (λ m. ids_ascend (id_set m.ids)) (λ m. set_ascends m.ids) (members_of us))

-- ---- each member in its group

self_list : (xs : List SstId) → list_order xs xs ≡ Equal
unfolding list_order
self_list [] = refl
self_list (x ∷ xs) = let e : sst_bytes x ≡ sst_bytes x = refl in rw (stand_order (Stand.same e)) (self_list xs)

self_is : (m : Member) → is_of m m.path (id_set m.ids) ≡ true
self_is m = let e : m.path ≡ m.path = refl in rw (stand_order (Stand.same e), self_list (id_set m.ids))

-- where each stands so to itself, each stands so to one of them
to_some : (r : Member → Member → Bool) → ((m : Member) → r m m ≡ true) → (test : Member → Bool) (ms : List Member) → ((m : Member) → some_of (r m) ms ≡ true → test m ≡ true) → all_of test ms ≡ true
to_some r h test [] f = refl
to_some r h test (m ∷ ms) f = both_and (f m (rw (h m))) (to_some r h test ms (λ n e. f n (rw e (or_true (r n m)))))

module _ (us : List Source) (fresh : List Uuid) where
  -- each used source's borrow, and its owned ids if any, stand in the group of that path and id set
  pub grouped_in : all_of whole_source us ≡ true → all_of (λ (m : Member). some_of (λ (b : Borrow). is_of m b.path b.ids) (borrows_united us fresh)) (members_of us) ≡ true
  unfolding borrows_united
  grouped_in e =
      to_some (λ m n. is_of m n.path (id_set n.ids)) self_is (λ (m : Member). some_of (λ (b : Borrow). is_of m b.path b.ids) (borrows_united us fresh)) (members_of us)
      (λ m h. borrows_some (is_of m) fresh (supplies_of us) (members_of us) (whole_members us e) ∙ h)

  -- and each group is that of one of them
  pub grouped_from_lem : all_of (λ (b : Borrow). some_of (λ (m : Member). is_of m b.path b.ids) (members_of us)) (borrows_united us fresh) ≡ true
  unfolding borrows_united
  grouped_from_lem =
      borrows_all (λ p xs. some_of (λ (m : Member). is_of m p xs) (members_of us)) fresh (supplies_of us) (members_of us)
      (to_some (λ m n. is_of n m.path (id_set m.ids)) self_is (λ (m : Member). some_of (λ (n : Member). is_of n m.path (id_set m.ids)) (members_of us)) (members_of us) (λ m h. h))
