-- L1 OF A UNION: its prefixes, its name, its keys and its paths are those of sources; its numbers fit where refusal 4 is not given. Assumes nothing.
use Prim.Native.Nat.{ℕ}
use mathlib.Core.Path.{◌≡◌, refl, ◌∙◌}
use mathlib.Core.Bool.{Bool, true, ◌&&◌}
use mathlib.Core.List.{List, [], ◌∷◌, ◌++◌}
use Rattle.ids.specs.declared.SstId.{SstId}
use Rattle.ids.specs.declared.Uuid.{Uuid}
use Rattle.records.specs.Model.{View, Segment, Borrow, Manifest}
use Rattle.records.specs.Fill.{fits, view_keys, name_keys, manifest_fill}
use Rattle.records.specs.declared.Limits.{Limits}
use Rattle.measure.specs.Tests.{all_of}
use Rattle.measure.specs.Within.{all_views, short, within}
use Rattle.measure.proofs.Lists.{all_append}
use Rattle.segments.proofs.Places.{and_both}
use Rattle.merge.proofs.Keeping.{both_and}
use Rattle.borrows.specs.Owned.{owned_of}
use Rattle.unite_groups.specs.Groups.{Member}
use Rattle.unite_groups.specs.Rows.{borrow_members, owned_member}
use Rattle.unite_sources.specs.Source.{Source, agreed_name}
use Rattle.unite.specs.United.{members_of, supplies_of, borrows_united, united_from}
use Rattle.unite_lawful.proofs.Lists.{all_on}
use Rattle.unite_lawful.proofs.Groups.{borrows_all}
use Rattle.unite_lawful.proofs.Carried.{views_carried}
use Rattle.unite_lawful.proofs.Parts.{prefixes_carried}

-- ---- the name and the paths

module _ (test : List ℕ → Bool) where
  -- "the extractor name the agreed one"
  pub name_carried : (ss : List Source) → all_of (λ (s : Source). all_of test (name_keys s.manifest.extractor)) ss ≡ true → all_of test (name_keys (agreed_name ss)) ≡ true
  name_carried [] e = refl
  name_carried (s ∷ ss) e = (and_both (all_of test (name_keys s.manifest.extractor)) (all_of (λ (s : Source). all_of test (name_keys s.manifest.extractor)) ss) e).0

  abbrev source_paths : Source → Bool
  source_paths s = all_of (λ (b : Borrow). test b.path) s.manifest.borrows && test s.path

  abbrev member_path : Member → Bool
  member_path m = test m.path

  borrowed : (bs : List Borrow) → all_of member_path (borrow_members bs) ≡ all_of (λ (b : Borrow). test b.path) bs
  borrowed [] = refl
  borrowed (b ∷ bs) = rw (borrowed bs)

  owned : (p : List ℕ) (u : Uuid) (xs : List SstId) → test p ≡ true → all_of member_path (owned_member p u xs) ≡ true
  owned p u [] e = refl
  owned p u (x ∷ xs) e = both_and e refl

  members : (us : List Source) → all_of source_paths us ≡ true → all_of member_path (members_of us) ≡ true
  unfolding members_of
  members [] e = refl
  members (s ∷ us) e =
      let bs = s.manifest.borrows in
      let own = owned_member s.path s.checkpoint (owned_of s.manifest) in
      let w = and_both (source_paths s) (all_of source_paths us) e in
      let v = and_both (all_of (λ (b : Borrow). test b.path) bs) (test s.path) w.0 in
      all_append member_path (borrow_members bs ++ own) (members_of us)
      ∙ both_and (all_append member_path (borrow_members bs) own ∙ both_and (borrowed bs ∙ v.0) (owned s.path s.checkpoint (owned_of s.manifest) v.1)) (members us w.1)

  -- each path of a borrow is one of a used source's borrow, or its own
  pub paths_carried : (us : List Source) (fresh : List Uuid) → all_of (λ (s : Source). all_of (λ (b : Borrow). test b.path) s.manifest.borrows && test s.path) us ≡ true
      → all_of (λ (b : Borrow). test b.path) (borrows_united us fresh) ≡ true
  unfolding borrows_united
  paths_carried us fresh e = borrows_all (λ p xs. test p) fresh (supplies_of us) (members_of us) (members us e)

-- ---- L1, part by part

pub record Within (lim : Limits) (m : Manifest) : Type 0 where
  pub numbers : fits (manifest_fill m) lim.fill ≡ true
  pub prefix : all_of (λ (s : Segment). short lim.prefix s.prefix) m.segments ≡ true
  pub name : all_of (short lim.name) (name_keys m.extractor) ≡ true
  pub keys : all_of (λ (v : View). all_of (short lim.key) (view_keys v)) (all_views m) ≡ true
  pub paths : all_of (λ (b : Borrow). short lim.path b.path) m.borrows ≡ true

within_parts : (lim : Limits) (m : Manifest) → within lim m ≡ true → Within lim m
unfolding within
within_parts lim m h =
    let f = fits (manifest_fill m) lim.fill in
    let a = all_of (λ (s : Segment). short lim.prefix s.prefix) m.segments in
    let n = all_of (short lim.name) (name_keys m.extractor) in
    let v = all_of (λ (v : View). all_of (short lim.key) (view_keys v)) (all_views m) in
    let p = all_of (λ (b : Borrow). short lim.path b.path) m.borrows in
    let w = and_both (f && a && n && v) p h in
    let u = and_both (f && a && n) v w.0 in
    let t = and_both (f && a) n u.0 in
    let s = and_both f a t.0 in
    record { numbers = s.0; prefix = s.1; name = t.1; keys = u.1; paths = w.1 }

parts_within : (lim : Limits) (m : Manifest) → Within lim m → within lim m ≡ true
unfolding within
parts_within lim m p = rw (p.numbers, p.prefix, p.name, p.keys, p.paths)

-- ---- the result

-- a source whose manifest keeps L1 and whose path is not over its limit
abbrev pub keeps_first : Limits → Source → Bool
keeps_first lim s = within lim s.manifest && short lim.path s.path

pub union_l1 : (lim : Limits) (ss us : List Source) (fresh : List Uuid) → all_of (keeps_first lim) ss ≡ true → all_of (keeps_first lim) us ≡ true
    → fits (manifest_fill (united_from ss us fresh)) lim.fill ≡ true → within lim (united_from ss us fresh) ≡ true
unfolding united_from
union_l1 lim ss us fresh e h f =
    parts_within lim (united_from ss us fresh)
    (record {
      numbers = f;
      prefix = prefixes_carried (short lim.prefix) ss us fresh (all_on (keeps_first lim) (λ (s : Source). all_of (λ (g : Segment). short lim.prefix g.prefix) s.manifest.segments) (λ s k. (parts s k).prefix) us h);
      name = name_carried (short lim.name) ss (all_on (keeps_first lim) (λ (s : Source). all_of (short lim.name) (name_keys s.manifest.extractor)) (λ s k. (parts s k).name) ss e);
      keys =
          views_carried (λ (v : View). all_of (short lim.key) (view_keys v)) ss us fresh
          (all_on (keeps_first lim) (λ (s : Source). all_of (λ (v : View). all_of (short lim.key) (view_keys v)) (all_views s.manifest)) (λ s k. (parts s k).keys) us h);
      paths =
          paths_carried (short lim.path) us fresh
          (all_on (keeps_first lim) (λ (s : Source). all_of (λ (b : Borrow). short lim.path b.path) s.manifest.borrows && short lim.path s.path) (λ s k. both_and (parts s k).paths (and_both (within lim s.manifest) (short lim.path s.path) k).1) us h);
    })
  where
    parts : (s : Source) → keeps_first lim s ≡ true → Within lim s.manifest
    parts s k = within_parts lim s.manifest (and_both (within lim s.manifest) (short lim.path s.path) k).0
