-- THE INTERSECTION LAW: the later start and the earlier end leave exactly the keys in both ranges.
use Prim.Native.Nat.{ℕ}
use mathlib.Core.Path.{◌≡◌, refl}
use mathlib.Core.List.{List}
use mathlib.Core.Bool.{Bool, true, false}
use mathlib.Core.Logic.{◌↔◌, ◌⊎◌}
use mathlib.Core.Logic.◌⊎◌.{inl, inr}
use Rattle.keys.specs.declared.Range.{Range}
use Rattle.keys.specs.Pick.{pick}
use Rattle.keys.specs.Key.{is_less}
use Rattle.keys.specs.Range.{Edge, included, Edges, From, To, In}
use Rattle.keys.specs.Meet.{start_order, end_order, later, earlier, meet_of}
use Rattle.keys.specs.Pool.{edge_of, edges_of, meet_in}
use Rattle.keys.proofs.Sorts.{start_trans, end_trans, later_above, earlier_below, from_order, to_order}

-- what is picked is one of the two
pub pick_one : {A : Type 0} (b : Bool) (x y : A) → (pick b x y ≡ x) ⊎ (pick b x y ≡ y)
pick_one true x y = inl refl
pick_one false x y = inr refl

pick_both : {A : Type 0} (P : A → Type 0) (b : Bool) (x y : A) → P x → P y → P (pick b x y)
pick_both P true x y p q = p
pick_both P false x y p q = q

pick_ap : {A B : Type 0} (f : A → B) (b : Bool) (x y : A) → f (pick b x y) ≡ pick b (f x) (f y)
pick_ap f true x y = refl
pick_ap f false x y = refl

pub later_one : (s t : Edge) → (later s t ≡ t) ⊎ (later s t ≡ s)
later_one s t = pick_one (is_less (start_order s t)) t s

pub earlier_one : (s t : Edge) → (earlier s t ≡ t) ⊎ (earlier s t ≡ s)
earlier_one s t = pick_one (is_less (end_order t s)) t s

module _ (k : List ℕ) where
  pub from_later : (s t : Edge) → From (later s t) k ↔ (From s k × From t k)
  from_later s t = (there, λ w. pick_both (λ e. From e k) (is_less (start_order s t)) t s w.1 w.0)
    where
      there : From (later s t) k → From s k × From t k
      there h =
          let m = (from_order (later s t) k).0 h in (
            (from_order s k).1 (start_trans s (later s t) (included k) (later_above s t).0 m),
            (from_order t k).1 (start_trans t (later s t) (included k) (later_above s t).1 m),
          )

  pub to_earlier : (s t : Edge) → To k (earlier s t) ↔ (To k s × To k t)
  to_earlier s t = (there, λ w. pick_both (λ e. To k e) (is_less (end_order t s)) t s w.1 w.0)
    where
      there : To k (earlier s t) → To k s × To k t
      there h =
          let m = (to_order (earlier s t) k).0 h in (
            (to_order s k).1 (end_trans (included k) (earlier s t) s m (earlier_below s t).0),
            (to_order t k).1 (end_trans (included k) (earlier s t) t m (earlier_below s t).1),
          )

  pub meet_law : (a b : Edges) → In k (meet_of a b) ↔ (In k a × In k b)
  meet_law a b = (there, back)
    where
      there : In k (meet_of a b) → In k a × In k b
      there w =
          let f = (from_later a.start b.start).0 w.from in
          let t = (to_earlier a.end b.end).0 w.to in
          (record { from = f.0; to = t.0 }, record { from = f.1; to = t.1 })

      back : In k a × In k b → In k (meet_of a b)
      back w =
          record {
            from = (from_later a.start b.start).1 (w.0.from, w.1.from);
            to = (to_earlier a.end b.end).1 (w.0.to, w.1.to);
          }

-- the bounds that the code takes are those of the intersection
pub edges_meet : (pool : List ℕ) (a b : Range) → edges_of pool (meet_in pool a b) ≡ meet_of (edges_of pool a) (edges_of pool b)
edges_meet pool a b =
    rw (
      pick_ap (edge_of pool) (is_less (start_order (edge_of pool a.start) (edge_of pool b.start))) b.start a.start,
      pick_ap (edge_of pool) (is_less (end_order (edge_of pool b.end) (edge_of pool a.end))) b.end a.end,
    )

-- THE INTERSECTION LAW of ranges as the code holds them
pub meet_in_pool : (k pool : List ℕ) (a b : Range) → In k (edges_of pool (meet_in pool a b)) ↔ (In k (edges_of pool a) × In k (edges_of pool b))
meet_in_pool k pool a b = rw (edges_meet pool a b) (meet_law k (edges_of pool a) (edges_of pool b))
