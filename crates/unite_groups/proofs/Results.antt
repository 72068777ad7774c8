-- THE GROUPS that the code makes are those that are defined, each with its checkpoint; an id set names the ids of its list. Assumes nothing.
use Rattle.std.specs.Prelude.{None, Option, Some}
use Prim.Native.Nat.{ℕ, ◌^◌, ◌<◌}
use mathlib.Core.Path.{◌≡◌, refl, sym, ap, ◌∙◌}
use mathlib.Core.Bool.{Bool, true, false, ◌||◌, true≢false}
use mathlib.Core.List.{List, [], ◌∷◌, ◌++◌}
use Rattle.keys.specs.Pick.{pick}
use Rattle.keys.specs.Key.{order_of, is_less}
use Rattle.keys.specs.Meet.{or_else}
use Rattle.std.specs.declared.cmp.Ordering.{Ordering}
use Rattle.std.specs.declared.cmp.Ordering.TheVariants.{Less, Equal, Greater}
use Rattle.keys.specs.Says.{Says, holds}
use Rattle.keys.proofs.Says.{true_says}
use Rattle.keys.proofs.ByteOrder.{stands, of_same}
use Rattle.ids.specs.Id.{uuid_bytes, sst_bytes, same_sst_of}
use Rattle.ids.specs.Names.{names_of}
use Rattle.ids.specs.declared.SstId.{SstId}
use Rattle.ids.specs.declared.Uuid.{Uuid}
use Rattle.ids.proofs.Ids.{same_id, id_bytes_lem}
use Rattle.unite_groups.specs.Sets.{sst_order, by_order, id_entered, id_set_from, id_set}
use Rattle.unite_groups.specs.Groups.{Member, Group, list_order, key_order, alone, joined_by, group_entered, grouped_from, grouped}
use Rattle.unite_groups.specs.Chosen.{Supply, supplied_with, same_uuid, some_is, lesser, smallest_from, chosen, chosen_all}
use Rattle.unite_groups.specs.Rows.{better, with_better, member_entered, entered_from}

-- ---- the checkpoint of a group, one by one

same_self : (u : Uuid) → same_uuid u u ≡ true
same_self u = true_says (same_id (λ (a : Uuid). a.0) (λ a. a.1) (λ x y. (x, y)) (λ a. refl) u u) refl

smallest_more : (c : Uuid) (cs : List Uuid) (u : Uuid) → smallest_from c (cs ++ (u ∷ [])) ≡ lesser (smallest_from c cs) u
unfolding smallest_from
smallest_more c [] u = refl
smallest_more c (d ∷ cs) u = smallest_more (lesser c d) cs u

some_more : (v : Uuid) (cs : List Uuid) (u : Uuid) → some_is v (cs ++ (u ∷ [])) ≡ (some_is v cs || same_uuid v u)
some_more v [] u = or_false (same_uuid v u)
  where
    or_false : (b : Bool) → (b || false) ≡ b
    or_false true = refl
    or_false false = refl
some_more v (c ∷ cs) u = rw (some_more v cs u) (or_apart (same_uuid v c) (some_is v cs) (same_uuid v u))
  where
    or_apart : (a b c : Bool) → (a || (b || c)) ≡ ((a || b) || c)
    or_apart true b c = refl
    or_apart false b c = refl

neither : (a b : Bool) → (a || b) ≡ false → (a ≡ false) × (b ≡ false)
neither true b e = absurd (true≢false e)
neither false b e = (refl, e)

-- the smallest is one of them
smallest_among : (v c : Uuid) (cs : List Uuid) → some_is v (c ∷ cs) ≡ false → same_uuid v (smallest_from c cs) ≡ false
unfolding smallest_from
smallest_among v c [] e = (neither (same_uuid v c) false e).0
smallest_among v c (d ∷ cs) e =
    let p = neither (same_uuid v c) (same_uuid v d || some_is v cs) e in
    let q = neither (same_uuid v d) (some_is v cs) p.1 in
    smallest_among v (lesser c d) cs (rw (one_of (is_less (order_of (uuid_bytes d) (uuid_bytes c))) q.0 p.0, q.1))
  where
    one_of : (b : Bool) → same_uuid v d ≡ false → same_uuid v c ≡ false → same_uuid v (pick b d c) ≡ false
    one_of true p q = p
    one_of false p q = q

-- one more checkpoint: better of it and the one chosen so far
pub chosen_more : (s : Option Uuid) (c : Uuid) (cs : List Uuid) (u : Uuid) → chosen s (c ∷ (cs ++ (u ∷ []))) ≡ better s (chosen s (c ∷ cs)) u
chosen_more None c cs u = smallest_more c cs u
chosen_more (Some v) c cs u =
    rw (some_more v (c ∷ cs) u, smallest_more c cs u) (go (same_uuid v u) (some_is v (c ∷ cs)) (smallest_among v c cs))
  where
    go : (a b : Bool) → (b ≡ false → same_uuid v (smallest_from c cs) ≡ false)
        → pick (b || a) v (lesser (smallest_from c cs) u) ≡ pick a v (pick (same_uuid v (pick b v (smallest_from c cs))) (pick b v (smallest_from c cs)) (lesser (pick b v (smallest_from c cs)) u))
    go true true h = refl
    go true false h = refl
    go false true h = rw (same_self v)
    go false false h = rw (h refl)

-- a group of one
chosen_one : (s : Option Uuid) (u : Uuid) → chosen s (u ∷ []) ≡ u
unfolding smallest_from
chosen_one None u = refl
chosen_one (Some v) u = go (same_uuid v u) (same_id (λ (a : Uuid). a.0) (λ a. a.1) (λ x y. (x, y)) (λ a. refl) v u)
  where
    go : (b : Bool) → Says (v ≡ u) b → pick (b || false) v u ≡ u
    go true (holds e) = e
    go false s = refl

-- ---- all groups

abbrev member : List ℕ → Uuid → List SstId → Member
member p u xs = record { path = p; checkpoint = u; ids = xs }

abbrev picked : List Supply → Group → Member
picked ss g = member g.path (chosen (supplied_with ss g.path) g.checkpoints) g.ids

-- each group has a member
pub data Peopled : List Group → Type 0 where
  none : Peopled []
  next : {g : Group} {gs : List Group} {c : Uuid} {cs : List Uuid} → g.checkpoints ≡ c ∷ cs → Peopled gs → Peopled (g ∷ gs)

same_path : (p q : List ℕ) (s : Ordering) → or_else (order_of p q) s ≡ Equal → p ≡ q
same_path p q s e = of_same (stands p q Equal (go (order_of p q) e))
  where
    go : (r : Ordering) → or_else r s ≡ Equal → r ≡ Equal
    go Less e = e
    go Equal e = refl
    go Greater e = e

module _ (ss : List Supply) (p : List ℕ) (xs : List SstId) (u : Uuid) where
  peopled_more : (gs : List Group) → Peopled gs → Peopled (group_entered p xs u gs)
  unfolding group_entered
  peopled_more [] none = next refl none
  peopled_more (g ∷ gs) (next e h) = go (key_order p xs g.path g.ids) (peopled_more gs h)
    where
      go : (r : Ordering) → Peopled (group_entered p xs u gs) → Peopled (by_order r (alone p xs u ∷ g ∷ gs) (joined_by g u ∷ gs) (g ∷ group_entered p xs u gs))
      go Less ih = next refl (next e h)
      go Equal ih = next (ap (λ l. l ++ (u ∷ [])) e) h
      go Greater ih = next e ih

  chosen_entered : (gs : List Group) → Peopled gs → member_entered (supplied_with ss p) p xs u (chosen_all ss gs) ≡ chosen_all ss (group_entered p xs u gs)
  unfolding member_entered group_entered chosen_all
  chosen_entered [] none = ap (λ (v : Uuid). member p v xs ∷ []) (sym (chosen_one (supplied_with ss p) u))
  chosen_entered (g ∷ gs) (next {c = c} {cs = cs} e h) = go (key_order p xs g.path g.ids) refl (chosen_entered gs h)
    where
      go : (r : Ordering) → key_order p xs g.path g.ids ≡ r → member_entered (supplied_with ss p) p xs u (chosen_all ss gs) ≡ chosen_all ss (group_entered p xs u gs)
          → by_order r (member p u xs ∷ picked ss g ∷ chosen_all ss gs) (with_better (supplied_with ss p) (picked ss g) u ∷ chosen_all ss gs) (picked ss g ∷ member_entered (supplied_with ss p) p xs u (chosen_all ss gs))
          ≡ chosen_all ss (by_order r (alone p xs u ∷ g ∷ gs) (joined_by g u ∷ gs) (g ∷ group_entered p xs u gs))
      go Less q ih = ap (λ (v : Uuid). member p v xs ∷ picked ss g ∷ chosen_all ss gs) (sym (chosen_one (supplied_with ss p) u))
      go Equal q ih =
          let s : p ≡ g.path = same_path p g.path (list_order xs g.ids) q in
          let b : better (supplied_with ss p) (chosen (supplied_with ss g.path) g.checkpoints) u ≡ chosen (supplied_with ss g.path) (g.checkpoints ++ (u ∷ [])) = rw (s, e) (sym (chosen_more (supplied_with ss g.path) c cs u)) in
          ap (λ (v : Uuid). member g.path v g.ids ∷ chosen_all ss gs) b
      go Greater q ih = ap (λ (l : List Member). picked ss g ∷ l) ih

pub chosen_from : (ss : List Supply) (gs : List Group) (ms : List Member) → Peopled gs → entered_from ss (chosen_all ss gs) ms ≡ chosen_all ss (grouped_from gs ms)
unfolding entered_from grouped_from
chosen_from ss gs [] h = refl
chosen_from ss gs (m ∷ ms) h =
    ap (λ (l : List Member). entered_from ss l ms) (chosen_entered ss m.path (id_set m.ids) m.checkpoint gs h)
    ∙ chosen_from ss (group_entered m.path (id_set m.ids) m.checkpoint gs) ms (peopled_more ss m.path (id_set m.ids) m.checkpoint gs h)

-- what the code does member by member is what is defined: group all, then choose each group's checkpoint
pub entered_grouped : (ss : List Supply) (ms : List Member) → entered_from ss [] ms ≡ chosen_all ss (grouped ms)
unfolding chosen_all
entered_grouped ss ms = chosen_from ss [] ms none

-- ---- an id set names what its list names

-- ids as words hold them: two halves of 64 bits
pub data Whole : List SstId → Type 0 where
  empty : Whole []
  both : {x : SstId} {xs : List SstId} → x.0 < 2 ^ 64 → x.1 < 2 ^ 64 → Whole xs → Whole (x ∷ xs)

or_twice : (b c : Bool) → (b || c) ≡ (b || (b || c))
or_twice true c = refl
or_twice false c = refl

or_swap : (a b c : Bool) → (a || (b || c)) ≡ (b || (a || c))
or_swap true true c = refl
or_swap true false c = refl
or_swap false b c = refl

module _ (x : SstId) (f : x.0 < 2 ^ 64) (g : x.1 < 2 ^ 64) where
  whole_more : (ys : List SstId) → Whole ys → Whole (id_entered x ys)
  unfolding id_entered
  whole_more [] empty = both f g empty
  whole_more (y ∷ ys) (both a b h) = go (sst_order x y) (whole_more ys h)
    where
      go : (r : Ordering) → Whole (id_entered x ys) → Whole (by_order r (x ∷ y ∷ ys) (y ∷ ys) (y ∷ id_entered x ys))
      go Less ih = both f g (both a b h)
      go Equal ih = both a b h
      go Greater ih = both a b ih

  names_entered : (ys : List SstId) → Whole ys → (z : SstId) → names_of (id_entered x ys) z ≡ (same_sst_of x z || names_of ys z)
  unfolding id_entered names_of
  names_entered [] empty z = refl
  names_entered (y ∷ ys) (both a b h) z = go (sst_order x y) refl (names_entered ys h z)
    where
      go : (r : Ordering) → sst_order x y ≡ r → names_of (id_entered x ys) z ≡ (same_sst_of x z || names_of ys z)
          → names_of (by_order r (x ∷ y ∷ ys) (y ∷ ys) (y ∷ id_entered x ys)) z ≡ (same_sst_of x z || (same_sst_of y z || names_of ys z))
      go Less e ih = refl
      go Equal e ih =
          let p = id_bytes_lem x.0 x.1 y.0 y.1 f g a b (of_same (stands (sst_bytes x) (sst_bytes y) Equal e)) in
          rw (p.0, p.1) (or_twice (same_sst_of y z) (names_of ys z))
      go Greater e ih = rw ih (or_swap (same_sst_of y z) (same_sst_of x z) (names_of ys z))

set_names_from : (set xs : List SstId) → Whole set → Whole xs → (z : SstId) → names_of (id_set_from set xs) z ≡ (names_of set z || names_of xs z)
unfolding id_set_from names_of
set_names_from set [] h k z = sym (or_none (names_of set z))
  where
    or_none : (b : Bool) → (b || false) ≡ b
    or_none true = refl
    or_none false = refl
set_names_from set (x ∷ xs) h (both a b k) z =
    set_names_from (id_entered x set) xs (whole_more x a b set h) k z ∙ rw (names_entered x a b set h z) (or_apart (same_sst_of x z) (names_of set z) (names_of xs z))
  where
    or_apart : (a b c : Bool) → ((a || b) || c) ≡ (b || (a || c))
    or_apart true true c = refl
    or_apart true false c = refl
    or_apart false b c = refl

pub set_names : (xs : List SstId) → Whole xs → (z : SstId) → names_of (id_set xs) z ≡ names_of xs z
unfolding names_of
set_names xs h z = set_names_from [] xs empty h z
