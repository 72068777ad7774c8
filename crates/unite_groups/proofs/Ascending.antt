-- What is entered in order stays in order: id sets and the groups' keys ascend strictly. Assumes nothing.
use Prim.Native.Nat.{ℕ}
use mathlib.Core.Path.{◌≡◌, refl, sym, ap, ◌∙◌}
use mathlib.Core.Bool.{Bool, true}
use mathlib.Core.List.{List, [], ◌∷◌}
use Rattle.keys.specs.Key.{order_of, is_less}
use Rattle.keys.specs.Meet.{or_else}
use Rattle.std.specs.declared.cmp.Ordering.{Ordering}
use Rattle.std.specs.declared.cmp.Ordering.TheVariants.{Less, Equal, Greater}
use Rattle.keys.proofs.ByteOrder.{Stand, less, same, more, stand, stand_order}
use Rattle.ids.specs.Id.{sst_bytes}
use Rattle.ids.specs.declared.SstId.{SstId}
use Rattle.ids.specs.declared.Uuid.{Uuid}
use Rattle.measure.specs.Tests.{chain}
use Rattle.segments.proofs.Places.{and_both}
use Rattle.unite_groups.specs.Sets.{sst_order, by_order, id_entered, id_set_from, id_set}
use Rattle.unite_groups.specs.Groups.{Member, Group, list_order, key_order, alone, joined_by, group_entered, grouped_from, grouped}
use Rattle.unite_groups.specs.Steps.{entered}
use Rattle.unite_groups.proofs.IdSets.{id_entered_lem}

-- ---- one more entered in order

module _ {A : Type 0} (ord : A → A → Ordering) (x : A) (change : A → A)
    (flip : (y : A) → ord x y ≡ Greater → ord y x ≡ Less) (before : (y z : A) → ord y (change z) ≡ ord y z) (behind : (y z : A) → ord (change y) z ≡ ord y z) where
  abbrev ascends : List A → Bool
  ascends ys = chain (λ a b. is_less (ord a b)) ys

  changed : (y : A) (ys : List A) → ascends (change y ∷ ys) ≡ ascends (y ∷ ys)
  changed y [] = refl
  changed y (z ∷ ys) = rw (behind y z)

  -- x comes somewhere behind y
  after : (y : A) → ord x y ≡ Greater → (ys : List A) → ascends (y ∷ ys) ≡ true → ascends (y ∷ entered (ord x) x change ys) ≡ true
  unfolding entered
  after y g [] h = rw (flip y g)
  after y g (z ∷ ys) h =
      let w = and_both (is_less (ord y z)) (ascends (z ∷ ys)) h in
      go (ord x z) refl (λ e. after z e ys w.1) w.0 w.1
    where
      go : (r : Ordering) → ord x z ≡ r → (ord x z ≡ Greater → ascends (z ∷ entered (ord x) x change ys) ≡ true) → is_less (ord y z) ≡ true → ascends (z ∷ ys) ≡ true
          → ascends (y ∷ by_order r (x ∷ z ∷ ys) (change z ∷ ys) (z ∷ entered (ord x) x change ys)) ≡ true
      go Less e ih p q = rw (flip y g, e, q)
      go Equal e ih p q = rw (before y z, p, changed z ys, q)
      go Greater e ih p q = rw (p, ih e)

  pub entered_ascends : (ys : List A) → ascends ys ≡ true → ascends (entered (ord x) x change ys) ≡ true
  unfolding entered
  entered_ascends [] h = refl
  entered_ascends (y ∷ ys) h = go (ord x y) refl
    where
      go : (r : Ordering) → ord x y ≡ r → ascends (by_order r (x ∷ y ∷ ys) (change y ∷ ys) (y ∷ entered (ord x) x change ys)) ≡ true
      go Less e = rw (e, h)
      go Equal e = changed y ys ∙ h
      go Greater e = after y e ys h

-- ---- orders turned round

abbrev pub flipped : Ordering → Ordering
flipped Less = Greater
flipped Equal = Equal
flipped Greater = Less

order_flips : (a b : List ℕ) → order_of b a ≡ flipped (order_of a b)
order_flips a b = go (stand a b)
  where
    go : {o : Ordering} → Stand a b o → order_of b a ≡ flipped o
    go (less h) = stand_order (more h)
    go (same h) = stand_order (same (sym h))
    go (more h) = stand_order (less h)

else_flips : (r s : Ordering) → or_else (flipped r) (flipped s) ≡ flipped (or_else r s)
else_flips Less s = refl
else_flips Equal s = refl
else_flips Greater s = refl

list_flips : (xs ys : List SstId) → list_order ys xs ≡ flipped (list_order xs ys)
unfolding list_order
list_flips [] [] = refl
list_flips [] (y ∷ ys) = refl
list_flips (x ∷ xs) [] = refl
list_flips (x ∷ xs) (y ∷ ys) = rw (order_flips (sst_bytes x) (sst_bytes y), list_flips xs ys) (else_flips (sst_order x y) (list_order xs ys))

pub key_flips : (p : List ℕ) (xs : List SstId) (q : List ℕ) (ys : List SstId) → key_order q ys p xs ≡ flipped (key_order p xs q ys)
key_flips p xs q ys = rw (order_flips p q, list_flips xs ys) (else_flips (order_of p q) (list_order xs ys))

-- ---- id sets: "ids ascending, once each"

abbrev pub ids_ascend : List SstId → Bool
ids_ascend xs = chain (λ a b. is_less (sst_order a b)) xs

pub set_ascends_from : (set xs : List SstId) → ids_ascend set ≡ true → ids_ascend (id_set_from set xs) ≡ true
unfolding id_set_from
set_ascends_from set [] h = h
set_ascends_from set (x ∷ xs) h =
    set_ascends_from (id_entered x set) xs
    (ap ids_ascend (id_entered_lem x set) ∙ entered_ascends sst_order x (λ y. y) (λ y e. order_flips (sst_bytes x) (sst_bytes y) ∙ ap flipped e) (λ y z. refl) (λ y z. refl) set h)

pub set_ascends : (xs : List SstId) → ids_ascend (id_set xs) ≡ true
set_ascends xs = set_ascends_from [] xs refl

-- ---- groups: "ordered by path bytes then id list", no two with one key

abbrev pub group_order : Group → Group → Ordering
group_order g h = key_order g.path g.ids h.path h.ids

abbrev pub groups_ascend : List Group → Bool
groups_ascend gs = chain (λ g h. is_less (group_order g h)) gs

group_entered_lem : (p : List ℕ) (xs : List SstId) (u : Uuid) (gs : List Group) → group_entered p xs u gs ≡ entered (group_order (alone p xs u)) (alone p xs u) (λ g. joined_by g u) gs
unfolding group_entered entered
group_entered_lem p xs u [] = refl
group_entered_lem p xs u (g ∷ gs) = ap (λ (l : List Group). by_order (key_order p xs g.path g.ids) (alone p xs u ∷ g ∷ gs) (joined_by g u ∷ gs) (g ∷ l)) (group_entered_lem p xs u gs)

pub groups_ascend_from : (gs : List Group) (ms : List Member) → groups_ascend gs ≡ true → groups_ascend (grouped_from gs ms) ≡ true
unfolding grouped_from
groups_ascend_from gs [] h = h
groups_ascend_from gs (m ∷ ms) h =
    let x = alone m.path (id_set m.ids) m.checkpoint in
    groups_ascend_from (group_entered m.path (id_set m.ids) m.checkpoint gs) ms
    (ap groups_ascend (group_entered_lem m.path (id_set m.ids) m.checkpoint gs)
    ∙ entered_ascends group_order x (λ g. joined_by g m.checkpoint) (λ g e. key_flips x.path x.ids g.path g.ids ∙ ap flipped e) (λ y z. refl) (λ y z. refl) gs h)

pub groups_ascend_lem : (ms : List Member) → groups_ascend (grouped ms) ≡ true
groups_ascend_lem ms = groups_ascend_from [] ms refl
