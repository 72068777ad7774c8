-- WHAT THE BORROWS OF A UNION NAME: what a used source's borrow names, under that borrow's path, and what a used source owns, under its own path; all of
-- that, and nothing else. Assumes nothing.
use Prim.Native.Nat.{ℕ}
use mathlib.Core.Path.{◌≡◌, refl, sym, ◌∙◌}
use mathlib.Core.Bool.{Bool, true, false, ◌&&◌}
use mathlib.Core.List.{List, [], ◌∷◌, ◌++◌}
use Rattle.keys.specs.Pick.{pick}
use Rattle.ids.specs.declared.SstId.{SstId}
use Rattle.ids.specs.declared.Uuid.{Uuid}
use Rattle.ids.specs.Names.{names_of}
use Rattle.records.specs.Model.{Borrow}
use Rattle.measure.specs.Tests.{all_of}
use Rattle.measure.specs.Within.{all_views, ids_used}
use Rattle.measure.proofs.Lists.{and_false, all_append}
use Rattle.segments.proofs.Places.{and_both}
use Rattle.merge.specs.Merge.{some_of}
use Rattle.merge.proofs.Keeping.{both_and}
use Rattle.borrows.specs.Owned.{is_borrowed, unborrowed, owned_of}
use Rattle.unite_groups.specs.Groups.{Member}
use Rattle.unite_groups.specs.Rows.{borrow_members, owned_member}
use Rattle.unite_groups.proofs.Results.{set_names}
use Rattle.unite_sources.specs.Source.{Source}
use Rattle.unite.specs.United.{members_of, supplies_of, borrows_united}
use Rattle.unite_lawful.specs.Naming.{named_under, source_names, whole_id, whole_source}
use Rattle.unite_lawful.proofs.Lists.{or_none, some_append}
use Rattle.unite_lawful.proofs.Groups.{member_passes}
use Rattle.unite_lawful.proofs.Members.{whole_of, whole_member, borrows_some}

-- ---- the ids of the members are as words hold them

whole_borrowed : (bs : List Borrow) → all_of whole_member (borrow_members bs) ≡ all_of (λ (b : Borrow). all_of whole_id b.ids) bs
whole_borrowed [] = refl
whole_borrowed (b ∷ bs) = rw (whole_borrowed bs)

whole_owned : (p : List ℕ) (u : Uuid) (xs : List SstId) → all_of whole_id xs ≡ true → all_of whole_member (owned_member p u xs) ≡ true
whole_owned p u [] e = refl
whole_owned p u (x ∷ xs) e = both_and e refl

all_unborrowed : (test : SstId → Bool) (bs : List Borrow) (xs : List SstId) → all_of test xs ≡ true → all_of test (unborrowed bs xs) ≡ true
all_unborrowed test bs [] e = refl
all_unborrowed test bs (x ∷ xs) e = let w = and_both (test x) (all_of test xs) e in go (is_borrowed bs x) w.0 (all_unborrowed test bs xs w.1)
  where
    go : (a : Bool) → test x ≡ true → all_of test (unborrowed bs xs) ≡ true → all_of test (pick a (unborrowed bs xs) (x ∷ unborrowed bs xs)) ≡ true
    go true h i = i
    go false h i = both_and h i

pub whole_members : (us : List Source) → all_of whole_source us ≡ true → all_of whole_member (members_of us) ≡ true
unfolding members_of whole_source owned_of
whole_members [] e = refl
whole_members (s ∷ us) e =
    let bs = s.manifest.borrows in
    let xs = ids_used (all_views s.manifest) in
    let own = owned_member s.path s.checkpoint (owned_of s.manifest) in
    let w = and_both (whole_source s) (all_of whole_source us) e in
    let v = and_both (all_of (λ (b : Borrow). all_of whole_id b.ids) bs) (all_of whole_id xs) w.0 in
    all_append whole_member (borrow_members bs ++ own) (members_of us)
    ∙ both_and
    (all_append whole_member (borrow_members bs) own ∙ both_and (whole_borrowed bs ∙ v.0) (whole_owned s.path s.checkpoint (owned_of s.manifest) (all_unborrowed whole_id bs xs v.1)))
    (whole_members us w.1)

module _ (test : List ℕ → Bool) (x : SstId) where
  abbrev names : Member → Bool
  names m = test m.path && names_of m.ids x

  -- ---- what a source gives

  borrowed : (bs : List Borrow) → some_of names (borrow_members bs) ≡ named_under test bs x
  unfolding named_under
  borrowed [] = refl
  borrowed (b ∷ bs) = rw (borrowed bs)

  owned : (p : List ℕ) (u : Uuid) (xs : List SstId) → some_of names (owned_member p u xs) ≡ (test p && names_of xs x)
  unfolding names_of
  owned p u [] = sym (and_false (test p))
  owned p u (y ∷ ys) = or_none (test p && names_of (y ∷ ys) x)

  members : (us : List Source) → some_of names (members_of us) ≡ some_of (source_names test x) us
  unfolding members_of source_names
  members [] = refl
  members (s ∷ us) =
      let bs = s.manifest.borrows in
      let own = owned_member s.path s.checkpoint (owned_of s.manifest) in
      some_append names (borrow_members bs ++ own) (members_of us)
      ∙ rw (some_append names (borrow_members bs) own, borrowed bs, owned s.path s.checkpoint (owned_of s.manifest), members us)

  -- ---- an id set names what its list names

  sets : (ms : List Member) → all_of whole_member ms ≡ true → some_of (member_passes (λ p xs. test p && names_of xs x)) ms ≡ some_of names ms
  sets [] e = refl
  sets (m ∷ ms) e =
      let w = and_both (whole_member m) (all_of whole_member ms) e in
      rw (set_names m.ids (whole_of m.ids w.0) x, sets ms w.1)

  pub union_names : (us : List Source) (fresh : List Uuid) → all_of whole_source us ≡ true → named_under test (borrows_united us fresh) x ≡ some_of (source_names test x) us
  unfolding borrows_united named_under
  union_names us fresh e =
      let w = whole_members us e in
      borrows_some (λ p xs. test p && names_of xs x) fresh (supplies_of us) (members_of us) w ∙ sets (members_of us) w ∙ members us
