-- WHO IS IN A GROUP: the checkpoints of a group are those of exactly the members with its path and id set, in order. Assumes nothing.
use Prim.Native.Nat.{ℕ}
use mathlib.Core.Path.{◌≡◌, refl, sym, ap, ◌∙◌}
use mathlib.Core.Bool.{Bool, true, false, true≢false}
use mathlib.Core.List.{List, [], ◌∷◌, ◌++◌, append_assoc, append-nil}
use Rattle.keys.specs.Pick.{pick}
use Rattle.keys.specs.Key.{order_of, is_less, is_equal}
use Rattle.keys.specs.Meet.{or_else}
use Rattle.std.specs.declared.cmp.Ordering.{Ordering}
use Rattle.std.specs.declared.cmp.Ordering.TheVariants.{Less, Equal, Greater}
use Rattle.keys.proofs.ByteOrder.{Stand, less, same, more, stand, stand_order, below_trans}
use Rattle.ids.specs.Id.{sst_bytes}
use Rattle.ids.specs.declared.SstId.{SstId}
use Rattle.ids.specs.declared.Uuid.{Uuid}
use Rattle.segments.proofs.Places.{and_both}
use Rattle.unite_groups.specs.Sets.{by_order, id_set}
use Rattle.unite_groups.specs.Groups.{Member, Group, list_order, key_order, alone, joined_by, group_entered, grouped_from, grouped}
use Rattle.unite_groups.proofs.Ascending.{flipped, key_flips, group_order, groups_ascend, groups_ascend_from}

-- ---- how a first stands to a third, by how they stand to a second

pub data Tri : Ordering → Ordering → Ordering → Type 0 where
  equal_first : {r : Ordering} → Tri Equal r r
  less_less : Tri Less Less Less
  less_equal : Tri Less Equal Less
  less_greater : {r : Ordering} → Tri Less Greater r
  greater_first : {r s : Ordering} → Tri Greater r s

less_any : (r : Ordering) → Tri Less r Less
less_any Less = less_less
less_any Equal = less_equal
less_any Greater = less_greater

any_less : (r : Ordering) → Tri r Less Less
any_less Less = less_less
any_less Equal = equal_first
any_less Greater = greater_first

any_greater : (r : Ordering) → Tri r Greater Greater
any_greater Less = less_greater
any_greater Equal = equal_first
any_greater Greater = greater_first

equal_else : {a b c : Ordering} (r : Ordering) → Tri a b c → Tri a (or_else r b) (or_else r c)
equal_else {a} Less t = any_less a
equal_else Equal t = t
equal_else {a} Greater t = any_greater a

else_tri : {a b c a' b' c' : Ordering} → Tri a b c → Tri a' b' c' → Tri (or_else a a') (or_else b b') (or_else c c')
else_tri (equal_first {r}) t = equal_else r t
else_tri less_less t = less_less
else_tri {b' = b'} less_equal t = less_any b'
else_tri less_greater t = less_greater
else_tri greater_first t = greater_first

bytes_tri : (a b c : List ℕ) → Tri (order_of a b) (order_of b c) (order_of a c)
bytes_tri a b c = go (stand a b) (stand b c)
  where
    go : {r s : Ordering} → Stand a b r → Stand b c s → Tri r s (order_of a c)
    go (less h) (less k) = rw (stand_order (less (below_trans h k))) less_less
    go (less h) (same k) = rw (stand_order (less (rw k at h))) less_equal
    go (less h) (more k) = less_greater
    go (same h) k = rw (h, stand_order k) equal_first
    go (more h) k = greater_first

list_tri : (xs ys zs : List SstId) → Tri (list_order xs ys) (list_order ys zs) (list_order xs zs)
unfolding list_order
list_tri [] [] [] = equal_first
list_tri [] [] (z ∷ zs) = equal_first
list_tri [] (y ∷ ys) [] = less_greater
list_tri [] (y ∷ ys) (z ∷ zs) = less_any (list_order (y ∷ ys) (z ∷ zs))
list_tri (x ∷ xs) [] [] = greater_first
list_tri (x ∷ xs) [] (z ∷ zs) = greater_first
list_tri (x ∷ xs) (y ∷ ys) [] = any_greater (list_order (x ∷ xs) (y ∷ ys))
list_tri (x ∷ xs) (y ∷ ys) (z ∷ zs) = else_tri (bytes_tri (sst_bytes x) (sst_bytes y) (sst_bytes z)) (list_tri xs ys zs)

key_tri : (p : List ℕ) (xs : List SstId) (q : List ℕ) (ys : List SstId) (r : List ℕ) (zs : List SstId) → Tri (key_order p xs q ys) (key_order q ys r zs) (key_order p xs r zs)
key_tri p xs q ys r zs = else_tri (bytes_tri p q r) (list_tri xs ys zs)

not_equal : {A : Type 0} (r s : Ordering) → is_equal r ≡ false → is_equal s ≡ true → r ≡ s → A
not_equal r s f t e = absurd (true≢false (sym t ∙ ap is_equal (sym e) ∙ f))

after_equal : {a b c : Ordering} → Tri a b c → a ≡ Equal → c ≡ b
after_equal equal_first e = refl
after_equal less_less e = not_equal Less Equal refl refl e
after_equal less_equal e = not_equal Less Equal refl refl e
after_equal less_greater e = not_equal Less Equal refl refl e
after_equal greater_first e = not_equal Greater Equal refl refl e

after_less : {a b c : Ordering} → Tri a b c → a ≡ Less → b ≡ Less → c ≡ Less
after_less equal_first e f = f
after_less less_less e f = refl
after_less less_equal e f = refl
after_less less_greater e f = absurd (true≢false (sym (ap is_less f)))
after_less greater_first e f = absurd (true≢false (sym (ap is_less e)))

is_less_lem : (r : Ordering) → is_less r ≡ true → r ≡ Less
is_less_lem Less e = refl
is_less_lem Equal e = absurd (true≢false (sym e))
is_less_lem Greater e = absurd (true≢false (sym e))

both_equal : (r s : Ordering) → (r ≡ Equal → s ≡ Equal) → (s ≡ Equal → r ≡ Equal) → is_equal r ≡ is_equal s
both_equal Less Less f g = refl
both_equal Less Equal f g = ap is_equal (g refl)
both_equal Less Greater f g = refl
both_equal Equal s f g = ap is_equal (sym (f refl))
both_equal Greater Less f g = refl
both_equal Greater Equal f g = ap is_equal (g refl)
both_equal Greater Greater f g = refl

rest_ascends : (g : Group) (gs : List Group) → groups_ascend (g ∷ gs) ≡ true → groups_ascend gs ≡ true
rest_ascends g [] h = refl
rest_ascends g (k ∷ gs) h = (and_both (is_less (group_order g k)) (groups_ascend (k ∷ gs)) h).1

module _ (p : List ℕ) (xs : List SstId) where
  -- the checkpoints of the group with that path and those ids
  abbrev pub checkpoints_of : List Group → List Uuid
  checkpoints_of [] = []
  checkpoints_of (g ∷ gs) = pick (is_equal (key_order p xs g.path g.ids)) g.checkpoints (checkpoints_of gs)

  -- the checkpoints of the members with that path and those ids, in order
  abbrev pub theirs : List Member → List Uuid
  theirs [] = []
  theirs (m ∷ ms) = pick (is_equal (key_order p xs m.path (id_set m.ids))) (m.checkpoint ∷ []) [] ++ theirs ms

  -- none at all where the first is above
  none_above : (g : Group) (gs : List Group) → key_order p xs g.path g.ids ≡ Less → groups_ascend (g ∷ gs) ≡ true → checkpoints_of (g ∷ gs) ≡ []
  none_above g [] e h = rw e
  none_above g (k ∷ gs) e h =
      let w = and_both (is_less (group_order g k)) (groups_ascend (k ∷ gs)) h in
      rw e (none_above k gs (after_less (key_tri p xs g.path g.ids k.path k.ids) e (is_less_lem (group_order g k) w.0)) w.1)

  module _ (q : List ℕ) (ys : List SstId) (u : Uuid) (g : Group) (gs : List Group) where
    abbrev mine : List Uuid
    mine = pick (is_equal (key_order p xs q ys)) (u ∷ []) []

    case_less : key_order q ys g.path g.ids ≡ Less → groups_ascend (g ∷ gs) ≡ true → pick (is_equal (key_order p xs q ys)) (u ∷ []) (checkpoints_of (g ∷ gs)) ≡ checkpoints_of (g ∷ gs) ++ mine
    case_less l h = go (key_order p xs q ys) refl
      where
        go : (r : Ordering) → key_order p xs q ys ≡ r → pick (is_equal r) (u ∷ []) (checkpoints_of (g ∷ gs)) ≡ checkpoints_of (g ∷ gs) ++ pick (is_equal r) (u ∷ []) []
        go Less e = sym (append-nil (checkpoints_of (g ∷ gs)))
        go Equal e = ap (λ (cs : List Uuid). cs ++ (u ∷ [])) (sym (none_above g gs (after_equal (key_tri p xs q ys g.path g.ids) e ∙ l) h))
        go Greater e = sym (append-nil (checkpoints_of (g ∷ gs)))

    case_equal : key_order q ys g.path g.ids ≡ Equal → checkpoints_of (joined_by g u ∷ gs) ≡ checkpoints_of (g ∷ gs) ++ mine
    case_equal l =
        let back : key_order g.path g.ids q ys ≡ Equal = key_flips q ys g.path g.ids ∙ ap flipped l in
        let s : is_equal (key_order p xs g.path g.ids) ≡ is_equal (key_order p xs q ys) =
        both_equal (key_order p xs g.path g.ids) (key_order p xs q ys) (λ e. after_equal (key_tri p xs g.path g.ids q ys) e ∙ back) (λ e. after_equal (key_tri p xs q ys g.path g.ids) e ∙ l) in
        rw s (go (is_equal (key_order p xs q ys)))
      where
        go : (b : Bool) → pick b (g.checkpoints ++ (u ∷ [])) (checkpoints_of gs) ≡ pick b g.checkpoints (checkpoints_of gs) ++ pick b (u ∷ []) []
        go true = refl
        go false = sym (append-nil (checkpoints_of gs))

    case_greater : (ns : List Group) → key_order q ys g.path g.ids ≡ Greater → checkpoints_of ns ≡ checkpoints_of gs ++ mine → checkpoints_of (g ∷ ns) ≡ checkpoints_of (g ∷ gs) ++ mine
    case_greater ns l ih = go (key_order p xs g.path g.ids) refl (key_order p xs q ys) refl ih
      where
        go : (r : Ordering) → key_order p xs g.path g.ids ≡ r → (s : Ordering) → key_order p xs q ys ≡ s → checkpoints_of ns ≡ checkpoints_of gs ++ pick (is_equal s) (u ∷ []) []
            → pick (is_equal r) g.checkpoints (checkpoints_of ns) ≡ pick (is_equal r) g.checkpoints (checkpoints_of gs) ++ pick (is_equal s) (u ∷ []) []
        go Less e s f ih = ih
        go Equal e Less f ih = sym (append-nil g.checkpoints)
        go Equal e Equal f ih = not_equal Greater Equal refl refl (sym l ∙ sym (after_equal (key_tri p xs q ys g.path g.ids) f) ∙ e)
        go Equal e Greater f ih = sym (append-nil g.checkpoints)
        go Greater e s f ih = ih

  one_more : (q : List ℕ) (ys : List SstId) (u : Uuid) (gs : List Group) → groups_ascend gs ≡ true → checkpoints_of (group_entered q ys u gs) ≡ checkpoints_of gs ++ pick (is_equal (key_order p xs q ys)) (u ∷ []) []
  unfolding group_entered
  one_more q ys u [] h = refl
  one_more q ys u (g ∷ gs) h = go (key_order q ys g.path g.ids) refl (one_more q ys u gs (rest_ascends g gs h))
    where
      go : (r : Ordering) → key_order q ys g.path g.ids ≡ r → checkpoints_of (group_entered q ys u gs) ≡ checkpoints_of gs ++ pick (is_equal (key_order p xs q ys)) (u ∷ []) []
          → checkpoints_of (by_order r (alone q ys u ∷ g ∷ gs) (joined_by g u ∷ gs) (g ∷ group_entered q ys u gs)) ≡ checkpoints_of (g ∷ gs) ++ pick (is_equal (key_order p xs q ys)) (u ∷ []) []
      go Less e ih = case_less q ys u g gs e h
      go Equal e ih = case_equal q ys u g gs e
      go Greater e ih = case_greater q ys u g gs (group_entered q ys u gs) e ih

  theirs_from : (gs : List Group) (ms : List Member) → groups_ascend gs ≡ true → checkpoints_of (grouped_from gs ms) ≡ checkpoints_of gs ++ theirs ms
  unfolding grouped_from
  theirs_from gs [] h = sym (append-nil (checkpoints_of gs))
  theirs_from gs (m ∷ ms) h =
      theirs_from (group_entered m.path (id_set m.ids) m.checkpoint gs) ms (groups_ascend_from gs (m ∷ []) h)
      ∙ ap (λ (cs : List Uuid). cs ++ theirs ms) (one_more m.path (id_set m.ids) m.checkpoint gs h)
      ∙ append_assoc (checkpoints_of gs) (pick (is_equal (key_order p xs m.path (id_set m.ids))) (m.checkpoint ∷ []) []) (theirs ms)

  -- "grouped by path and id set": a group has exactly those
  pub grouped_theirs : (ms : List Member) → checkpoints_of (grouped ms) ≡ theirs ms
  grouped_theirs ms = theirs_from [] ms refl
