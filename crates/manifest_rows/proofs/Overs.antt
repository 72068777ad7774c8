-- The rows over the input stand for what is read from it. Assumes nothing.
use Rattle.std.specs.Prelude.{Err, None, Ok, Option, Result, Some}
use Prim.Native.Nat.{ℕ, zero, suc}
use mathlib.Core.Path.{◌≡◌, refl, sym, ap, ◌∙◌}
use mathlib.Core.List.{List}
use native.Mathlib.Omega.{arith}
use lib.ListN.{length, take, drop}
use Rattle.keys.specs.Range.{Edge}
use Rattle.keys.specs.Pool.{edge_of}
use Rattle.keys.specs.declared.Bound.{Bound}
use Rattle.records.specs.Model.{LastKey, Seen, Extractor}
use Rattle.records.specs.Decode.{bytes_in, last_in, seen_in, view_in, name_in}
use Rattle.records.specs.declared.Place.{Place}
use Rattle.msgpack.specs.Skip.{rest_at}
use Rattle.msgpack.specs.Read.{uint_at, bin_at, id_at, group_at, optional_at, on_uint, on_bin, on_id, on_group, on_skipped, on_optional}
use Rattle.manifest_values.specs.Read.{Got, is, wrong, on, ended, key_at, edge_by, edge_at, seen_at, last_at, view_at, name_at}
use Rattle.manifest_values.specs.Rows as rows
use Rattle.manifest_values.specs.Rows.{got}
use Rattle.manifest_rows.specs.Stored.{PlaceIn, BoundIn, LastIn, VisibleIn, ViewOver, PlaceOver, NameIn}
use Rattle.manifest_values.proofs.Places.{bin_in, bin_part}
use Rattle.keys.specs.declared.Range.{Range}

-- one read as another: what was read stands so to each other, and ends at the same place; or both are wrong at the same place
pub data Alike {A B : Type 0} (R : A → B → Type 0) : Got A → Got B → Type 0 where
  alike : {x : A} {y : B} {p : ℕ} → R x y → Alike R (is x p) (is y p)
  both_wrong : {q : ℕ} → Alike R (wrong q) (wrong q)

module _ {A B : Type 0} (R : A → B → Type 0) where
  alike_on : {C D : Type 0} (S : C → D → Type 0) (g : Got C) (h : Got D) (k : C → ℕ → Got A) (l : D → ℕ → Got B) → Alike S g h → ((x : C) (y : D) (p : ℕ) → S x y → Alike R (k x p) (l y p)) → Alike R (on g k) (on h l)
  alike_on S g h k l (alike {x} {y} {p} r) f = f x y p r
  alike_on S g h k l both_wrong f = both_wrong

  alike_group : (g : Result (ℕ × ℕ) ℕ) (k : ℕ → ℕ → Got A) (l : ℕ → ℕ → Got B) → ((n p : ℕ) → Alike R (k n p) (l n p)) → Alike R (on_group wrong g k) (on_group wrong g l)
  alike_group (Ok (n, p)) k l f = f n p
  alike_group (Err q) k l f = both_wrong

  alike_uint : (g : Result (ℕ × ℕ) ℕ) (k : ℕ → ℕ → Got A) (l : ℕ → ℕ → Got B) → ((n p : ℕ) → Alike R (k n p) (l n p)) → Alike R (on_uint wrong g k) (on_uint wrong g l)
  alike_uint (Ok (n, p)) k l f = f n p
  alike_uint (Err q) k l f = both_wrong

  alike_id : (g : Result (ℕ × ℕ × ℕ) ℕ) (k : ℕ → ℕ → ℕ → Got A) (l : ℕ → ℕ → ℕ → Got B) → ((hi lo p : ℕ) → Alike R (k hi lo p) (l hi lo p)) → Alike R (on_id wrong g k) (on_id wrong g l)
  alike_id (Ok (hi, lo, p)) k l f = f hi lo p
  alike_id (Err q) k l f = both_wrong

  alike_option : (g : Option ℕ) (k : ℕ → Got A) (l : ℕ → Got B) (x : Got A) (y : Got B) → ((p : ℕ) → Alike R (k p) (l p)) → Alike R x y → Alike R (on_optional g k x) (on_optional g l y)
  alike_option (Some p) k l x y f a = f p
  alike_option None k l x y f a = a

  alike_ended : (s : List ℕ) (n parts : ℕ) (x : A) (y : B) (p : ℕ) → R x y → Alike R (ended s n parts x p) (ended s n parts y p)
  alike_ended s n parts x y p r = go (rest_at s p n parts)
    where
      go : (k : Result ℕ ℕ) → Alike R (on_skipped wrong k λ q. is x q) (on_skipped wrong k λ q. is y q)
      go (Ok q) = alike r
      go (Err q) = both_wrong

module _ (s : List ℕ) where
  abbrev BoundOver : Bound → Edge → Type 0
  BoundOver b e = (edge_of s b ≡ e) × BoundIn (length s) b

  abbrev LastOver : Option Place → LastKey → Type 0
  LastOver l k = (last_in s l ≡ k) × LastIn (length s) l

  abbrev VisibleOver : Option Range → Seen → Type 0
  VisibleOver v e = (seen_in s v ≡ e) × VisibleIn (length s) v

  pub place_over : (at : ℕ) → Alike (PlaceOver s) (rows.place_at s at) (key_at s at)
  place_over at = go (bin_at s at) refl
    where
      go : (g : Result (ℕ × ℕ × ℕ) ℕ) → bin_at s at ≡ g → Alike (PlaceOver s) (on_bin wrong g λ from len p. is (record { at = from; len = len }) p) (on_bin wrong g λ from len p. is (take len (drop from s)) p)
      go (Ok (f, n, p)) e = alike (bin_part s at f n p e, bin_in s at f n p e)
      go (Err q) e = both_wrong

  bound_by_lem : (kind : ℕ) (p : Place) (k : List ℕ) → PlaceOver s p k → BoundOver (rows.bound_by kind p) (edge_by kind k)
  bound_by_lem zero p k o = (rw o.0, o.1)
  bound_by_lem (suc n) p k o = (rw o.0, o.1)

  bound_over_lem : (at : ℕ) → Alike BoundOver (rows.bound_at s at) (edge_at s at)
  unfolding rows.bound_at edge_at
  bound_over_lem at =
      alike_option BoundOver (optional_at s at) _ _ _ _ (λ p. alike (refl, tt))
      (alike_group BoundOver (group_at s at 2) _ _ λ n p. alike_uint BoundOver (uint_at s p 1) _ _ λ kind q.
      alike_on BoundOver (PlaceOver s) (rows.place_at s q) (key_at s q) _ _ (place_over q) λ x k r o. alike_ended BoundOver s n 2 _ _ r (bound_by_lem kind x k o))

  last_over : (at : ℕ) → Alike LastOver (rows.last_at s at) (last_at s at)
  last_over at =
      alike_option LastOver (optional_at s at) _ _ _ _ (λ p. alike (refl, tt))
      (alike_on LastOver (PlaceOver s) (rows.place_at s at) (key_at s at) _ _ (place_over at) λ x k r o. alike (rw o.0, o.1))

  visible_over : (at : ℕ) → Alike VisibleOver (rows.visible_at s at) (seen_at s at)
  unfolding rows.visible_at seen_at
  visible_over at =
      alike_option VisibleOver (optional_at s at) _ _ _ _ (λ p. alike (refl, tt))
      (alike_group VisibleOver (group_at s at 2) _ _ λ n p. alike_on VisibleOver BoundOver (rows.bound_at s p) (edge_at s p) _ _ (bound_over_lem p) λ a e q o.
      alike_on VisibleOver BoundOver (rows.bound_at s q) (edge_at s q) _ _ (bound_over_lem q) λ b f r u. alike_ended VisibleOver s n 2 _ _ r (rw (o.0, u.0), (o.1, u.1)))

  pub view_over : (at : ℕ) → Alike (ViewOver s) (rows.view_at s at) (view_at s at)
  unfolding rows.view_at view_at view_in
  view_over at =
      alike_group (ViewOver s) (group_at s at 5) _ _ λ n p₀. alike_id (ViewOver s) (id_at s p₀) _ _ λ vh vl p₁. alike_id (ViewOver s) (id_at s p₁) _ _ λ sh sl p₂.
      alike_on (ViewOver s) (PlaceOver s) (rows.place_at s p₂) (key_at s p₂) _ _ (place_over p₂) λ x first p₃ o.
      alike_on (ViewOver s) LastOver (rows.last_at s p₃) (last_at s p₃) _ _ (last_over p₃) λ y last p₄ u.
      alike_on (ViewOver s) VisibleOver (rows.visible_at s p₄) (seen_at s p₄) _ _ (visible_over p₄) λ z seen p₅ w.
      alike_ended (ViewOver s) s n 5 _ _ p₅ (record { is = rw (o.0, u.0, w.0); first = o.1; last = u.1; visible = w.1 })

-- a row that was read stands for what is read there
module _ {A B : Type 0} (R : A → B → Type 0) where
  pub alike_is : (g : Got A) (h : Got B) (x : A) (p : ℕ) → Alike R g h → g ≡ is x p → (y : B) × (h ≡ is y p) × R x y
  alike_is g h x p (alike {x = x₀} {y = y} {p = p₀} r) e =
      let ex : x₀ ≡ x = cc in
      let ep : p₀ ≡ p = cc in
      (y, rw ep, rw ex at r)
  alike_is g h x p both_wrong e = let z : ◌≡◌ {A = ℕ} 0 1 = cc in absurd (omega arith)

  pub alike_wrong : (g : Got A) (h : Got B) (q : ℕ) → Alike R g h → g ≡ wrong q → h ≡ wrong q
  alike_wrong g h q (alike {x = x₀} {y = y} {p = p₀} r) e = let z : ◌≡◌ {A = ℕ} 0 1 = cc in absurd (omega arith)
  alike_wrong g h q both_wrong e = cc

module _ (s : List ℕ) (at : ℕ) where
  pub place_is : (x : Place) (p : ℕ) → is x p ≡ rows.place_at s at → key_at s at ≡ is (bytes_in s x) p
  place_is x p e =
      let a = alike_is (PlaceOver s) (rows.place_at s at) (key_at s at) x p (place_over s at) (sym e) in
      a.1 ∙ ap (λ (k : List ℕ). is k p) (sym a.2.0)

  pub place_in : (x : Place) (p : ℕ) → is x p ≡ rows.place_at s at → PlaceIn (length s) x
  place_in x p e = (alike_is (PlaceOver s) (rows.place_at s at) (key_at s at) x p (place_over s at) (sym e)).2.1

  pub place_wrong : (q : ℕ) → wrong q ≡ rows.place_at s at → key_at s at ≡ wrong q
  place_wrong q e = alike_wrong (PlaceOver s) (rows.place_at s at) (key_at s at) q (place_over s at) (sym e)

module _ (s : List ℕ) where
  abbrev NameOver : Option Place → Extractor → Type 0
  NameOver n x = (name_in s n ≡ x) × NameIn (length s) n

  name_over : (at : ℕ) → Alike NameOver (rows.name_at s at) (name_at s at)
  name_over at =
      alike_option NameOver (optional_at s at) _ _ _ _ (λ p. alike (refl, tt))
      (alike_on NameOver (PlaceOver s) (rows.place_at s at) (key_at s at) _ _ (place_over s at) λ x k r o. alike (rw o.0, o.1))

  module _ (at : ℕ) where
    pub name_is : (x : Option Place) (p : ℕ) → is x p ≡ rows.name_at s at → name_at s at ≡ is (name_in s x) p
    name_is x p e =
        let a = alike_is NameOver (rows.name_at s at) (name_at s at) x p (name_over at) (sym e) in
        a.1 ∙ ap (λ (k : Extractor). is k p) (sym a.2.0)

    pub name_in_lem : (x : Option Place) (p : ℕ) → is x p ≡ rows.name_at s at → NameIn (length s) x
    name_in_lem x p e = (alike_is NameOver (rows.name_at s at) (name_at s at) x p (name_over at) (sym e)).2.1

    pub name_wrong : (q : ℕ) → wrong q ≡ rows.name_at s at → name_at s at ≡ wrong q
    name_wrong q e = alike_wrong NameOver (rows.name_at s at) (name_at s at) q (name_over at) (sym e)
