-- A UNION BORROWS ALL THAT IT USES: every id of a view of a used source, carried or not, stands in a borrow of the result; so the result owns nothing.
-- Assumes nothing.
use Prim.Native.Nat.{ℕ}
use mathlib.Core.Path.{◌≡◌, refl, sym, ap, ◌∙◌}
use mathlib.Core.Bool.{Bool, true, false, ◌||◌}
use mathlib.Core.List.{List, [], ◌∷◌}
use Rattle.keys.specs.Pick.{pick}
use Rattle.keys.specs.Says.{Says, holds, fails}
use Rattle.keys.proofs.Says.{true_says}
use Rattle.ids.specs.declared.SstId.{SstId}
use Rattle.ids.specs.declared.Uuid.{Uuid}
use Rattle.ids.specs.Id.{same_sst_of}
use Rattle.ids.specs.Names.{names_of}
use Rattle.ids.proofs.Ids.{same_sst}
use Rattle.records.specs.Model.{View, Segment, Borrow, named}
use Rattle.records.specs.New.{new_tree}
use Rattle.measure.specs.Tests.{all_of}
use Rattle.measure.specs.Within.{tree_views, all_views, ids_used}
use Rattle.lawful.proofs.Rules.{all_trees}
use Rattle.segments.proofs.Places.{and_both}
use Rattle.merge.specs.Merge.{some_of}
use Rattle.merge.proofs.Keeping.{both_and}
use Rattle.borrows.specs.Owned.{is_borrowed, unborrowed, owned_by, owned_of}
use Rattle.unite_trees.specs.Joined.{numbered, numbered_tree}
use Rattle.unite_sources.specs.Source.{Source, agreed_name}
use Rattle.unite.specs.United.{borrows_united, united_from}
use Rattle.unite_lawful.specs.Naming.{named_under, source_names, source_uses, view_lent, whole_source}
use Rattle.unite_lawful.proofs.Lists.{or_swap, or_true, all_on, some_is}
use Rattle.unite_lawful.proofs.Names.{union_names}
use Rattle.unite_lawful.proofs.Carried.{views_carried}

-- ---- under any path

under_any : (bs : List Borrow) (x : SstId) → named_under (λ p. true) bs x ≡ is_borrowed bs x
unfolding named_under
under_any [] x = refl
under_any (b ∷ bs) x = rw (under_any bs x)

-- borrowed or owned is borrowed or used
owned_used : (bs : List Borrow) (xs : List SstId) (x : SstId) → (is_borrowed bs x || names_of (unborrowed bs xs) x) ≡ (is_borrowed bs x || names_of xs x)
unfolding names_of
owned_used bs [] x = refl
owned_used bs (y ∷ ys) x = go (is_borrowed bs y) refl (owned_used bs ys x)
  where
    dropped : {c : Bool} → Says (y ≡ x) c → is_borrowed bs y ≡ true → (is_borrowed bs x || names_of (unborrowed bs ys) x) ≡ (is_borrowed bs x || names_of ys x)
        → (is_borrowed bs x || names_of (unborrowed bs ys) x) ≡ (is_borrowed bs x || (c || names_of ys x))
    dropped (holds q) e ih = let h : is_borrowed bs x ≡ true = rw q at e in rw h
    dropped (fails n) e ih = ih

    go : (a : Bool) → is_borrowed bs y ≡ a → (is_borrowed bs x || names_of (unborrowed bs ys) x) ≡ (is_borrowed bs x || names_of ys x)
        → (is_borrowed bs x || names_of (pick a (unborrowed bs ys) (y ∷ unborrowed bs ys)) x) ≡ (is_borrowed bs x || (same_sst_of y x || names_of ys x))
    go true e ih = dropped (same_sst y x) e ih
    go false e ih =
        or_swap (is_borrowed bs x) (same_sst_of y x) (names_of (unborrowed bs ys) x)
        ∙ ap (λ b. same_sst_of y x || b) ih
        ∙ or_swap (same_sst_of y x) (is_borrowed bs x) (names_of ys x)

-- the result borrows what a used source's borrow names or a used source's view uses, and nothing else
pub union_uses : (us : List Source) (fresh : List Uuid) (x : SstId) → all_of whole_source us ≡ true → is_borrowed (borrows_united us fresh) x ≡ some_of (source_uses x) us
unfolding source_names source_uses owned_of
union_uses us fresh x e = sym (under_any (borrows_united us fresh) x) ∙ union_names (λ p. true) x us fresh e ∙ some_is (source_names (λ p. true) x) (source_uses x) each us
  where
    each : (s : Source) → source_names (λ p. true) x s ≡ source_uses x s
    each s = rw (under_any s.manifest.borrows x) (owned_used s.manifest.borrows (ids_used (all_views s.manifest)) x)

-- ---- each view

module _ (test : SstId → Bool) where
  abbrev view_passes : View → Bool
  view_passes v = test v.sst

  each_view : (vs : List View) → ((x : SstId) → names_of (ids_used vs) x ≡ true → test x ≡ true) → all_of view_passes vs ≡ true
  unfolding names_of
  each_view [] f = refl
  each_view (v ∷ vs) f =
      both_and (f v.sst (rw (true_says (same_sst v.sst v.sst) refl))) (each_view vs (λ x e. f x (rw e (or_true (same_sst_of v.sst x)))))

  each_source : (us : List Source) → ((x : SstId) → some_of (source_uses x) us ≡ true → test x ≡ true) → all_of (λ (s : Source). all_of view_passes (all_views s.manifest)) us ≡ true
  unfolding source_uses
  each_source [] f = refl
  each_source (s ∷ us) f =
      both_and
      (each_view (all_views s.manifest) (λ x e. f x (rw (e, or_true (is_borrowed s.manifest.borrows x)))))
      (each_source us (λ x e. f x (rw e (or_true (source_uses x s)))))

module _ (ss us : List Source) (fresh : List Uuid) (e : all_of whole_source us ≡ true) where
  -- every view of every used source, in a segment or not
  pub used_named : all_of (λ (s : Source). all_of (view_lent (borrows_united us fresh)) (all_views s.manifest)) us ≡ true
  used_named = each_source (λ x. is_borrowed (borrows_united us fresh) x) us (λ x h. union_uses us fresh x e ∙ h)

  -- UNION-NAMES-USED: every view of the result
  pub result_named : all_of (view_lent (united_from ss us fresh).borrows) (all_views (united_from ss us fresh)) ≡ true
  unfolding united_from
  result_named = views_carried (view_lent (borrows_united us fresh)) ss us fresh used_named

  none_owned : (bs : List Borrow) (vs : List View) → all_of (view_lent bs) vs ≡ true → owned_by bs vs ≡ []
  none_owned bs [] h = refl
  none_owned bs (v ∷ vs) h = let w = and_both (is_borrowed bs v.sst) (all_of (view_lent bs) vs) h in rw w.0 (none_owned bs vs w.1)

  -- so the result owns no id
  pub owns_nothing : owned_of (united_from ss us fresh) ≡ []
  unfolding owned_of
  owns_nothing = none_owned (united_from ss us fresh).borrows (all_views (united_from ss us fresh)) result_named

  -- every unsegmented view of every used source, so also where an extractor is set and its tree is not carried
  pub not_forgotten : all_of (λ (s : Source). all_of (view_lent (borrows_united us fresh)) (tree_views s.manifest.tree)) us ≡ true
  unfolding all_views
  not_forgotten =
      let lent = view_lent (borrows_united us fresh) in
      all_on (λ (s : Source). all_of lent (all_views s.manifest)) (λ (s : Source). all_of lent (tree_views s.manifest.tree))
      (λ s h. (and_both (all_of lent (tree_views s.manifest.tree)) (all_of (λ (g : Segment). all_of lent (tree_views g.tree)) s.manifest.segments) (sym (all_trees lent tree_views s.manifest) ∙ h)).0)
      us used_named

-- "With one: .. unsegmented trees are not carried"
pub not_carried : (ss us : List Source) (fresh : List Uuid) (k : List ℕ) → agreed_name ss ≡ named k → (united_from ss us fresh).tree ≡ new_tree
unfolding united_from numbered_tree numbered
not_carried ss us fresh k e = rw e
