-- Borrows renewed one by one: final checkpoints, fresh UUIDs, rows. Assumes nothing.
use Rattle.std.specs.Prelude.{None, Option, Some}
use Prim.Native.Nat.{ℕ, zero, suc, ◌+◌, ◌*◌, ◌/◌, ◌≤◌, ◌<◌}
use mathlib.Core.Path.{◌≡◌, refl, sym, ap, ◌∙◌}
use mathlib.Core.Bool.{Bool, true, false, not, ◌||◌, ◌&&◌, or_assoc}
use mathlib.Core.List.{List, [], ◌∷◌, ◌++◌}
use native.Mathlib.Omega.{arith}
use native.Mathlib.Nat.{zero-add}
use lib.ListN.{length, get_or}
use Rattle.tables.specs.Layout.{up_to}
use Rattle.tables.specs.Window.{held_of}
use Rattle.tables.specs.declared.Window.{Window}
use Rattle.tables.proofs.Joined.{up_to_length}
use Rattle.ids.specs.declared.Uuid.{Uuid}
use Rattle.records.specs.Model.{Borrow}
use Rattle.records.specs.Row.{borrow_at}
use Rattle.records.specs.Decode.{borrow_in, borrows_in}
use Rattle.records.specs.declared.BorrowRow.{BorrowRow}
use Rattle.measure.specs.Tests.{all_below}
use Rattle.lawful.proofs.Loops.{Passed, passed_none, passed_more, passed_broken, passed_all}
use Rattle.borrows.specs.Clone.{uuids_of, fresh_at, final_of, renewed, renewed_all, lacks_final, refuses15}

-- ---- final checkpoints

lacks_append : (bs cs : List Borrow) → refuses15 (bs ++ cs) ≡ (refuses15 bs || refuses15 cs)
lacks_append [] cs = refl
lacks_append (b ∷ bs) cs = ap (λ t. lacks_final b.final || t) (lacks_append bs cs) ∙ sym (or_assoc (lacks_final b.final) (refuses15 bs) (refuses15 cs))

lacks_up_to : (g : ℕ → Borrow) (n : ℕ) → not (refuses15 (up_to g n)) ≡ all_below (λ k. not (lacks_final (g k).final)) n
lacks_up_to g zero = refl
lacks_up_to g (suc n) = rw (lacks_append (up_to g n) (g n ∷ [])) (go (refuses15 (up_to g n)) (lacks_final (g n).final) ∙ ap (λ b. b && not (lacks_final (g n).final)) (lacks_up_to g n))
  where
    go : (a b : Bool) → not (a || (b || false)) ≡ (not a && not b)
    go true b = refl
    go false true = refl
    go false false = refl

module _ (borrows : List ℕ) (w : Window) where
  abbrev pub final_there : ℕ → Bool
  final_there k = not (lacks_final (borrow_at borrows (w.first + k)).fin)

  module _ (ids pool : List ℕ) where
    lacks_is : not (refuses15 (borrows_in borrows ids pool w)) ≡ all_below final_there (held_of w (length borrows / 9))
    unfolding borrows_in borrow_in
    lacks_is = lacks_up_to (λ k. borrow_in ids pool (borrow_at borrows (w.first + k))) (held_of w (length borrows / 9))

  -- neither ids nor paths are read
  pub lacks_plain : (ids pool : List ℕ) → refuses15 (borrows_in borrows [] [] w) ≡ refuses15 (borrows_in borrows ids pool w)
  lacks_plain ids pool = go _ _ (lacks_is [] [] ∙ sym (lacks_is ids pool))
    where
      go : (a b : Bool) → not a ≡ not b → a ≡ b
      go true true e = refl
      go true false e = sym e
      go false true e = sym e
      go false false e = refl

  pub lacks_none : (n : ℕ) → n ≡ held_of w (length borrows / 9) → Passed (not (refuses15 (borrows_in borrows [] [] w))) final_there n 0
  lacks_none n e = passed_none _ final_there (held_of w (length borrows / 9)) n e (lacks_is [] [])

  module _ (n k : ℕ) (p : Passed (not (refuses15 (borrows_in borrows [] [] w))) final_there n k) where
    module _ (h : k < n) (b : BorrowRow) (r : Bool) (e : b ≡ borrow_at borrows (w.first + k)) (f : r ≡ lacks_final b.fin) where
      is : not r ≡ final_there k
      is = ap not (rw e at f)

      pub lacks_more : r ≡ false → Passed (not (refuses15 (borrows_in borrows [] [] w))) final_there n (k + 1)
      lacks_more t = passed_more _ final_there n k p (not r) h is (ap not t)

      pub lacks_here : r ≡ true → true ≡ refuses15 (borrows_in borrows [] [] w)
      lacks_here t = go _ (passed_broken _ final_there n k p (not r) h is (ap not t))
        where
          go : (a : Bool) → false ≡ not a → true ≡ a
          go true e = refl
          go false e = sym e

    pub lacks_all : n ≤ k → false ≡ refuses15 (borrows_in borrows [] [] w)
    lacks_all h = go _ (passed_all _ final_there n k p h)
      where
        go : (a : Bool) → true ≡ not a → false ≡ a
        go true e = sym e
        go false e = refl

pub ruleset lacking = (lacks_none, lacks_more, lacks_here, lacks_all)

pub final_none : (f : Option Uuid) → f ≡ None → ◌≡◌ {A = Uuid} (0, 0) (final_of f)
final_none f e = rw e

-- ---- fresh UUIDs

pub uuids_long : (ws : List ℕ) → length (uuids_of ws) ≡ length ws / 2
unfolding uuids_of
uuids_long [] = omega arith
uuids_long (hi ∷ []) = omega arith
uuids_long (hi ∷ lo ∷ ws) = rw (uuids_long ws) (omega arith)

pub uuid_at : (ws : List ℕ) (n : ℕ) → n < length ws / 2 → ◌≡◌ {A = Uuid} (get_or ws (n * 2) 0, get_or ws (n * 2 + 1) 0) (fresh_at (uuids_of ws) n)
unfolding uuids_of
uuid_at [] n h = absurd (omega arith)
uuid_at (hi ∷ []) n h = absurd (omega arith)
uuid_at (hi ∷ lo ∷ ws) zero h = refl
uuid_at (hi ∷ lo ∷ ws) (suc n) h =
    let e : suc n * 2 ≡ suc (suc (n * 2)) = omega arith in
    let f : suc n * 2 + 1 ≡ suc (suc (n * 2 + 1)) = omega arith in
    rw (f, e) (uuid_at ws n (omega arith))

-- ---- one borrow

pub renewed_row : (borrows ids pool : List ℕ) (i : ℕ) (row b : BorrowRow) (u v : Uuid) → row ≡ record { path = b.path; source = final_of b.fin; fin = Some u; ids = b.ids } → u ≡ v → b ≡ borrow_at borrows i
    → borrow_in ids pool row ≡ renewed (borrow_in ids pool (borrow_at borrows i)) v
unfolding borrow_in
renewed_row borrows ids pool i row b u v e f g = rw (e, f, g)

-- ---- all of a window

renewed_append : (fresh : List Uuid) (n : ℕ) (bs cs : List Borrow) → renewed_all fresh n (bs ++ cs) ≡ renewed_all fresh n bs ++ renewed_all fresh (n + length bs) cs
unfolding renewed_all
renewed_append fresh n [] cs = let e : n ≡ n + 0 = omega arith in ap (λ (k : ℕ). renewed_all fresh k cs) e
renewed_append fresh n (b ∷ bs) cs =
    let e : suc n + length bs ≡ n + suc (length bs) = omega arith in
    rw (renewed_append fresh (suc n) bs cs, e)

renewed_up_to : (fresh : List Uuid) (g : ℕ → Borrow) (n : ℕ) → renewed_all fresh 0 (up_to g n) ≡ up_to (λ k. renewed (g k) (fresh_at fresh k)) n
unfolding renewed_all
renewed_up_to fresh g zero = refl
renewed_up_to fresh g (suc n) =
    let e : 0 + length (up_to g n) ≡ n = zero-add (length (up_to g n)) ∙ up_to_length g n in
    renewed_append fresh 0 (up_to g n) (g n ∷ []) ∙ rw (e, renewed_up_to fresh g n)

pub renewed_each : (borrows ids pool : List ℕ) (w : Window) (fresh : List Uuid) (n : ℕ) → n ≡ held_of w (length borrows / 9)
    → renewed_all fresh 0 (borrows_in borrows ids pool w) ≡ up_to (λ k. renewed (borrow_in ids pool (borrow_at borrows (w.first + k))) (fresh_at fresh k)) n
unfolding borrows_in
renewed_each borrows ids pool w fresh n e = rw e (renewed_up_to fresh (λ k. borrow_in ids pool (borrow_at borrows (w.first + k))) (held_of w (length borrows / 9)))
