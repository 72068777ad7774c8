-- THE UNION OF LAWFUL SOURCES IS LAWFUL, where refusals 14 and 4 are not given. Assumes nothing.
use Rattle.std.specs.Prelude.{Err, Ok}
use Prim.Native.Nat.{ℕ}
use mathlib.Core.Path.{◌≡◌, refl, sym}
use mathlib.Core.Bool.{Bool, true, false, not, true≢false}
use mathlib.Core.List.{List}
use Rattle.keys.specs.Pick.{pick}
use Rattle.ids.specs.declared.Uuid.{Uuid}
use Rattle.records.specs.Model.{Manifest, named}
use Rattle.records.specs.Fill.{fits, manifest_fill}
use Rattle.records.specs.declared.Limits.{Limits}
use Rattle.measure.specs.Tests.{all_of}
use Rattle.measure.specs.Within.{short, within}
use Rattle.lawful.specs.Law.{l2_of, l3_of, l4_of, l5_of}
use Rattle.segments.proofs.Places.{and_both}
use Rattle.merge.proofs.Keeping.{both_and}
use Rattle.unite_ranges.specs.Arranged.{whats}
use Rattle.unite_sources.specs.Source.{Source, agreed_name}
use Rattle.unite_sources.specs.Used.{source_views, in_order}
use Rattle.unite_sources.specs.Prefixed.{all_prefixes, refuses14}
use Rattle.unite_sources.proofs.Results.{used_all}
use Rattle.unite_lend.specs.Used.{is_lawful}
use Rattle.unite.specs.United.{united_from, united_of}
use Rattle.unite_lawful.specs.Sources.{judged_as, lawful_source}
use Rattle.unite_lawful.proofs.Lists.{all_on}
use Rattle.unite_lawful.proofs.First.{keeps_first, union_l1}
use Rattle.unite_lawful.proofs.Second.{union_l2}
use Rattle.unite_lawful.proofs.Third.{union_l3}
use Rattle.unite_lawful.proofs.Fourth.{union_l4}
use Rattle.unite_lawful.proofs.Fifth.{union_l5}

-- the rules that a lawful manifest of the model keeps
pub record Laws (lim : Limits) (m : Manifest) : Type 0 where
  pub first : within lim m ≡ true
  pub second : l2_of m ≡ true
  pub third : l3_of m ≡ true
  pub fourth : l4_of m ≡ true
  pub fifth : l5_of m ≡ true

pub laws_of : (lim : Limits) (m : Manifest) → is_lawful (judged_as lim m) ≡ true → Laws lim m
laws_of lim m h = go (within lim m) (l2_of m) (l3_of m) (l4_of m) (l5_of m) refl refl refl refl refl h
  where
    go : (a b c d e : Bool) → within lim m ≡ a → l2_of m ≡ b → l3_of m ≡ c → l4_of m ≡ d → l5_of m ≡ e
        → is_lawful (pick (not a) (Err 1) (pick (not b) (Err 2) (pick (not c) (Err 3) (pick (not d) (Err 4) (pick (not e) (Err 5) (Ok tt)))))) ≡ true → Laws lim m
    go true true true true true p q r s t h = record { first = p; second = q; third = r; fourth = s; fifth = t }
    go true true true true false p q r s t h = absurd (true≢false (sym h))
    go true true true false e p q r s t h = absurd (true≢false (sym h))
    go true true false d e p q r s t h = absurd (true≢false (sym h))
    go true false c d e p q r s t h = absurd (true≢false (sym h))
    go false b c d e p q r s t h = absurd (true≢false (sym h))

pub laws_judged : (lim : Limits) (m : Manifest) → Laws lim m → judged_as lim m ≡ Ok tt
laws_judged lim m w = rw (w.first, w.second, w.third, w.fourth, w.fifth)

module _ (lim : Limits) (ss us : List Source) (fresh : List Uuid) (e : all_of (lawful_source lim) ss ≡ true) (h : all_of (lawful_source lim) us ≡ true)
    (fit : (k : List ℕ) → agreed_name ss ≡ named k → refuses14 (all_prefixes us) ≡ false) (room : fits (manifest_fill (united_from ss us fresh)) lim.fill ≡ true) where
  keeps : (s : Source) → lawful_source lim s ≡ true → Laws lim s.manifest × (short lim.path s.path ≡ true)
  unfolding lawful_source
  keeps s k = let w = and_both (is_lawful (judged_as lim s.manifest)) (short lim.path s.path) k in (laws_of lim s.manifest w.0, w.1)

  first : (xs : List Source) → all_of (lawful_source lim) xs ≡ true → all_of (keeps_first lim) xs ≡ true
  first xs k = all_on (lawful_source lim) (keeps_first lim) (λ s i. both_and (keeps s i).0.first (keeps s i).1) xs k

  -- the used sources being some of all sources
  pub from_lawful : Laws lim (united_from ss us fresh)
  from_lawful =
      record {
        first = union_l1 lim ss us fresh (first ss e) (first us h) room;
        second = union_l2 ss us fresh;
        third = union_l3 ss us fresh fit;
        fourth = union_l4 ss us fresh (all_on (lawful_source lim) (λ (s : Source). l4_of s.manifest) (λ s i. (keeps s i).0.fourth) us h);
        fifth = union_l5 ss us fresh (all_on (lawful_source lim) (λ (s : Source). l5_of s.manifest) (λ s i. (keeps s i).0.fifth) us h);
      }

-- of all sources, the used ones as sorted
pub united_lawful : (lim : Limits) (ss : List Source) (fresh : List Uuid) → all_of (lawful_source lim) ss ≡ true
    → ((k : List ℕ) → agreed_name ss ≡ named k → refuses14 (all_prefixes (whats (in_order ss))) ≡ false) → fits (manifest_fill (united_of ss fresh)) lim.fill ≡ true
    → Laws lim (united_of ss fresh)
unfolding united_of in_order
united_lawful lim ss fresh e fit room = from_lawful lim ss (whats (in_order ss)) fresh e (used_all (lawful_source lim) source_views ss e) fit room
