-- Groups as borrows: what they fill, and their final checkpoints. Assumes nothing.
use Rattle.std.specs.Prelude.{None, Option, Some}
use Prim.Native.Nat.{ℕ, zero, suc, ◌+◌, ◌/◌, ◌≤◌}
use mathlib.Core.Path.{◌≡◌, refl, sym, ap, ◌∙◌}
use mathlib.Core.Bool.{Bool, false}
use mathlib.Core.List.{List, [], ◌∷◌, ◌++◌}
use native.Mathlib.Omega.{arith}
use native.Mathlib.Nat.{zero-add}
use lib.ListN.{length}
use Rattle.tables.specs.Layout.{up_to}
use Rattle.tables.specs.Window.{held_of}
use Rattle.tables.proofs.Joined.{up_to_length}
use Rattle.ids.specs.declared.Uuid.{Uuid}
use Rattle.records.specs.Row.{id_at}
use Rattle.records.specs.Decode.{bytes_in, ids_in, borrow_in}
use Rattle.records.specs.Fill.{plus, sum, fits, borrow_fill}
use Rattle.records.specs.declared.Fill.{Fill}
use Rattle.records.proofs.Sums.{fill_same}
use Rattle.measure.specs.Walk.{add_of}
use Rattle.measure.proofs.Fits.{fits_part}
use Rattle.borrows.specs.Clone.{uuids_of, fresh_at}
use Rattle.unite_groups.specs.Groups.{Member}
use Rattle.unite_groups.specs.Chosen.{lent_from, member_fill}
use Rattle.unite_groups.specs.Rows.{member_at, members_in}
use Rattle.unite_groups.specs.Steps.{group_at, member_of, lent_as}
use Rattle.unite_groups.specs.declared.GroupRow.{GroupRow}

-- ---- what a group fills

pub group_filled : (groups work pool : List ℕ) (i : ℕ) (h : GroupRow) → h ≡ group_at groups i → (k : List ℕ) → k ≡ bytes_in pool h.path → (n : ℕ) → n ≡ held_of h.ids (length work / 2)
    → record { segments = 0; views = 0; runs = 0; borrows = 1; ids = n; bytes = length k } ≡ member_fill (member_at groups work pool i)
unfolding member_fill group_at ids_in
group_filled groups work pool i h e k p n q =
    let m : length (ids_in work h.ids) ≡ n = up_to_length (λ j. id_at work (h.ids.first + j)) (held_of h.ids (length work / 2)) ∙ sym q in
    let b : length (bytes_in pool h.path) ≡ length k = ap length (sym p) in
    fill_same (omega arith, omega arith, omega arith, omega arith, omega arith, omega arith) ∙ ap (λ (r : GroupRow). member_fill (member_of work pool r)) e

-- more than fits before anything is added
pub over_before : (most c f : Fill) (b : Bool) → b ≡ fits c most → b ≡ false → None ≡ add_of most c f
unfolding add_of
over_before most c f b e h = rw (fits_part c f most (sym e ∙ h))

-- ---- fresh UUIDs

pub fresh_none : (ws : List ℕ) (n : ℕ) → length ws / 2 ≤ n → ◌≡◌ {A = Uuid} (0, 0) (fresh_at (uuids_of ws) n)
unfolding uuids_of
fresh_none [] n h = refl
fresh_none (hi ∷ []) n h = refl
fresh_none (hi ∷ lo ∷ ws) zero h = absurd (omega arith)
fresh_none (hi ∷ lo ∷ ws) (suc n) h = fresh_none ws n (omega arith)

-- ---- groups as borrows

pub lent_row : (groups work pool : List ℕ) (fresh : List Uuid) (i : ℕ) (h : GroupRow) (u : Uuid) → h ≡ group_at groups i → u ≡ fresh_at fresh i
    → borrow_in work pool (record { path = h.path; source = h.checkpoint; fin = Some u; ids = h.ids }) ≡ lent_as fresh i (member_at groups work pool i)
unfolding borrow_in group_at
lent_row groups work pool fresh i h u e f = rw (e, f)

lent_append : (fresh : List Uuid) (n : ℕ) (ms ns : List Member) → lent_from fresh n (ms ++ ns) ≡ lent_from fresh n ms ++ lent_from fresh (n + length ms) ns
unfolding lent_from
lent_append fresh n [] ns = let e : n ≡ n + 0 = omega arith in ap (λ (k : ℕ). lent_from fresh k ns) e
lent_append fresh n (m ∷ ms) ns =
    let e : suc n + length ms ≡ n + suc (length ms) = omega arith in
    rw (lent_append fresh (suc n) ms ns, e)

pub lent_up_to : (fresh : List Uuid) (g : ℕ → Member) (n : ℕ) → lent_from fresh 0 (up_to g n) ≡ up_to (λ k. lent_as fresh k (g k)) n
unfolding lent_from
lent_up_to fresh g zero = refl
lent_up_to fresh g (suc n) =
    let e : 0 + length (up_to g n) ≡ n = zero-add (length (up_to g n)) ∙ up_to_length g n in
    lent_append fresh 0 (up_to g n) (g n ∷ []) ∙ rw (e, lent_up_to fresh g n)

-- a group fills what its borrow does
pub lent_fill_lem : (fresh : List Uuid) (n : ℕ) (ms : List Member) → sum member_fill ms ≡ sum borrow_fill (lent_from fresh n ms)
unfolding lent_from member_fill borrow_fill
lent_fill_lem fresh n [] = refl
lent_fill_lem fresh n (m ∷ ms) = ap (plus (member_fill m)) (lent_fill_lem fresh (suc n) ms)

pub lent_each : (groups work pool : List ℕ) (fresh : List Uuid) (n : ℕ)
    → (sum member_fill (members_in groups work pool n) ≡ sum borrow_fill (up_to (λ k. lent_as fresh k (member_at groups work pool k)) n))
    × (lent_from fresh 0 (members_in groups work pool n) ≡ up_to (λ k. lent_as fresh k (member_at groups work pool k)) n)
unfolding members_in
lent_each groups work pool fresh n =
    let q = lent_up_to fresh (member_at groups work pool) n in
    (lent_fill_lem fresh 0 (up_to (member_at groups work pool) n) ∙ ap (sum borrow_fill) q, q)

pub added_row : (most d f g : Fill) (s : Option Fill) → f ≡ g → s ≡ add_of most d f → s ≡ add_of most d g
added_row most d f g s e h = h ∙ ap (add_of most d) e
