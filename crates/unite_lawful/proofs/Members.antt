-- EVERY MEMBER HAS ITS GROUP: some borrow that is lent passes a test of its path and its ids exactly if some member does, its ids taken as a set. Assumes nothing.
use Prim.Native.Nat.{ℕ, suc, ◌^◌}
use mathlib.Core.Path.{◌≡◌, refl, sym, ap, ap₂, ◌∙◌}
use mathlib.Core.Bool.{Bool, true, ◌||◌, true≢false}
use mathlib.Core.List.{List, [], ◌∷◌}
use lib.Dec.{ltb}
use Rattle.keys.specs.Key.{order_of, is_less, is_equal}
use Rattle.keys.specs.Meet.{or_else}
use Rattle.std.specs.declared.cmp.Ordering.{Ordering}
use Rattle.std.specs.declared.cmp.Ordering.TheVariants.{Less, Equal, Greater}
use Rattle.keys.proofs.Says.{says_lt, says_true}
use Rattle.keys.proofs.ByteOrder.{stands, of_same}
use Rattle.ids.specs.Id.{sst_bytes}
use Rattle.ids.specs.declared.SstId.{SstId}
use Rattle.ids.specs.declared.Uuid.{Uuid}
use Rattle.ids.proofs.Ids.{id_bytes_lem}
use Rattle.records.specs.Model.{Borrow}
use Rattle.measure.specs.Tests.{all_of}
use Rattle.segments.proofs.Places.{and_both}
use Rattle.merge.specs.Merge.{some_of}
use Rattle.unite_groups.specs.Sets.{sst_order, by_order, id_set}
use Rattle.unite_groups.specs.Groups.{Member, Group, list_order, key_order, alone, joined_by, group_entered, grouped_from, grouped}
use Rattle.unite_groups.specs.Chosen.{Supply, chosen_all, lent_from}
use Rattle.unite_groups.proofs.Results.{Whole, empty, both}
use Rattle.unite_lawful.specs.Naming.{whole_id}
use Rattle.unite_lawful.proofs.Lists.{or_apart, or_swap, or_twice, or_none}
use Rattle.unite_lawful.proofs.Groups.{set_all, group_passes, member_passes, one_all}

-- ---- a path and an id set that stand as equal are the same

pub whole_of : (xs : List SstId) → all_of whole_id xs ≡ true → Whole xs
whole_of [] e = empty
whole_of (x ∷ xs) e =
    let w = and_both (whole_id x) (all_of whole_id xs) e in
    let v = and_both (ltb x.0 (2 ^ 64)) (ltb x.1 (2 ^ 64)) w.0 in
    both (says_true (says_lt x.0 (2 ^ 64)) v.0) (says_true (says_lt x.1 (2 ^ 64)) v.1) (whole_of xs w.1)

both_equal : (r s : Ordering) → or_else r s ≡ Equal → (r ≡ Equal) × (s ≡ Equal)
both_equal Less s e = absurd (true≢false (ap is_less e))
both_equal Equal s e = (refl, e)
both_equal Greater s e = absurd (true≢false (sym (ap is_equal e)))

ids_same : (xs ys : List SstId) → Whole xs → Whole ys → list_order xs ys ≡ Equal → xs ≡ ys
unfolding list_order
ids_same [] [] empty empty e = refl
ids_same [] (y ∷ ys) a b e = absurd (true≢false (ap is_less e))
ids_same (x ∷ xs) [] a b e = absurd (true≢false (sym (ap is_equal e)))
ids_same (x ∷ xs) (y ∷ ys) (both f g h) (both p q r) e =
    let w = both_equal (sst_order x y) (list_order xs ys) e in
    let v = id_bytes_lem x.0 x.1 y.0 y.1 f g p q (of_same (stands (sst_bytes x) (sst_bytes y) Equal w.0)) in
    let z : x ≡ y = ap₂ (λ a b. (a, b)) v.0 v.1 in
    ap₂ (λ a b. a ∷ b) z (ids_same xs ys h r w.1)

-- ---- one member more

abbrev whole_group : Group → Bool
whole_group g = all_of whole_id g.ids

abbrev pub whole_member : Member → Bool
whole_member m = all_of whole_id m.ids

module _ (test : List ℕ → List SstId → Bool) where
  entered_some : (p : List ℕ) (xs : List SstId) (u : Uuid) (gs : List Group) → all_of whole_id xs ≡ true → all_of whole_group gs ≡ true
      → some_of (group_passes test) (group_entered p xs u gs) ≡ (test p xs || some_of (group_passes test) gs)
  unfolding group_entered
  entered_some p xs u [] a b = refl
  entered_some p xs u (g ∷ gs) a b =
      let w = and_both (whole_group g) (all_of whole_group gs) b in
      go (key_order p xs g.path g.ids) refl w.0 (entered_some p xs u gs a w.1)
    where
      go : (r : Ordering) → key_order p xs g.path g.ids ≡ r → whole_group g ≡ true → some_of (group_passes test) (group_entered p xs u gs) ≡ (test p xs || some_of (group_passes test) gs)
          → some_of (group_passes test) (by_order r (alone p xs u ∷ g ∷ gs) (joined_by g u ∷ gs) (g ∷ group_entered p xs u gs)) ≡ (test p xs || (group_passes test g || some_of (group_passes test) gs))
      go Less e c ih = refl
      go Equal e c ih =
          let w = both_equal (order_of p g.path) (list_order xs g.ids) e in
          let s : p ≡ g.path = of_same (stands p g.path Equal w.0) in
          let t : xs ≡ g.ids = ids_same xs g.ids (whole_of xs a) (whole_of g.ids c) w.1 in
          rw (s, t) (or_twice (group_passes test g) (some_of (group_passes test) gs))
      go Greater e c ih = rw ih (or_swap (group_passes test g) (test p xs) (some_of (group_passes test) gs))

  from_some : (gs : List Group) (ms : List Member) → all_of whole_group gs ≡ true → all_of whole_member ms ≡ true
      → some_of (group_passes test) (grouped_from gs ms) ≡ (some_of (group_passes test) gs || some_of (member_passes test) ms)
  unfolding grouped_from
  from_some gs [] a b = sym (or_none (some_of (group_passes test) gs))
  from_some gs (m ∷ ms) a b =
      let w = and_both (whole_member m) (all_of whole_member ms) b in
      let xs = id_set m.ids in
      let h : all_of whole_id xs ≡ true = set_all whole_id m.ids w.0 in
      from_some (group_entered m.path xs m.checkpoint gs) ms (one_all (λ p ys. all_of whole_id ys) m.path xs m.checkpoint gs h a) w.1
      ∙ rw (entered_some m.path xs m.checkpoint gs h a) (turn (member_passes test m) (some_of (group_passes test) gs) (some_of (member_passes test) ms))
    where
      turn : (a b c : Bool) → ((a || b) || c) ≡ (b || (a || c))
      turn a b c = or_apart a b c ∙ or_swap a b c

  lent_some : (fresh : List Uuid) (n : ℕ) (ss : List Supply) (gs : List Group) → some_of (λ (b : Borrow). test b.path b.ids) (lent_from fresh n (chosen_all ss gs)) ≡ some_of (group_passes test) gs
  unfolding lent_from chosen_all
  lent_some fresh n ss [] = refl
  lent_some fresh n ss (g ∷ gs) = rw (lent_some fresh (suc n) ss gs)

  pub borrows_some : (fresh : List Uuid) (ss : List Supply) (ms : List Member) → all_of whole_member ms ≡ true
      → some_of (λ (b : Borrow). test b.path b.ids) (lent_from fresh 0 (chosen_all ss (grouped ms))) ≡ some_of (member_passes test) ms
  borrows_some fresh ss ms e = lent_some fresh 0 ss (grouped ms) ∙ from_some [] ms refl e
