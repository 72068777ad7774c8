-- What is left of one borrow and of a window's borrows, measured and laid. Assumes nothing.
use Rattle.std.specs.Prelude.{Option, Some}
use Prim.Native.Nat.{ℕ, zero, suc, ◌+◌, ◌-◌, ◌*◌, ◌/◌, ◌≤◌}
use mathlib.Core.Path.{◌≡◌, refl, sym, ap, ◌∙◌}
use mathlib.Core.Bool.{true}
use mathlib.Core.List.{List, [], ◌∷◌, append-nil}
use native.Mathlib.Omega.{arith}
use lib.ListN.{length}
use Rattle.ids.specs.declared.SstId.{SstId}
use Rattle.tables.specs.Layout.{write, up_to, joined}
use Rattle.tables.specs.Window.{held_of}
use Rattle.tables.specs.declared.Window.{Window}
use Rattle.tables.proofs.Holds.{up_to_front}
use Rattle.tables.proofs.Writes.{write_none}
use Rattle.records.specs.Model.{Borrow}
use Rattle.records.specs.Row.{borrow_at}
use Rattle.records.specs.Decode.{borrow_in, borrows_in}
use Rattle.records.specs.Words.{borrow_words}
use Rattle.records.specs.Fill.{plus, sum, fits, ids as id_cells, borrow_fill}
use Rattle.records.specs.Layout.{borrow_row, borrows_laid, borrow_ids, borrow_path, ids_laid}
use Rattle.records.specs.declared.Fill.{Fill}
use Rattle.records.proofs.Sums.{plus_empty, fill_same}
use Rattle.records.proofs.Laid.{Column, column, ids as id_table, pool as byte_table}
use Rattle.records.proofs.Columns.{borrow_rows, borrow_ids_long, borrow_path_long}
use Rattle.emit.proofs.Laid.{plain, joined_long}
use Rattle.emit.proofs.Rows.{borrow_past, borrow_row_lem}
use Rattle.measure.specs.Walk.{add_of}
use Rattle.project_views.proofs.Many.{all, many, all_front, sum_many, joined_many, column_many}
use Rattle.project_views.proofs.Ids.{LaidIds}
use Rattle.project_views.proofs.Summed.{added_none}
use Rattle.prune.specs.Prune.{used_only, kept_borrow, pruned}

-- ---- what is left of one borrow, of whose ids xs are left

abbrev left : Borrow → List SstId → Borrow
left b xs = record { path = b.path; source = b.source; final = b.final; ids = xs }

module _ (most : Fill) (b : Borrow) (c : Fill) (n : ℕ) where
  pub add_gone : (xs : List SstId) → fits c most ≡ true → n ≡ length xs → n ≡ 0 → Some c ≡ add_of most c (sum borrow_fill (kept_borrow b xs))
  add_gone [] h e z = added_none most c h
  add_gone (x ∷ xs) h e z = absurd (omega arith)

  pub add_left : (xs : List SstId) (k : List ℕ) (r : Option Fill) → n ≡ length xs → (n ≡ 0 → ⊥) → k ≡ b.path
      → r ≡ add_of most c (record { segments = 0; views = 0; runs = 0; borrows = 1; ids = n; bytes = length k }) → r ≡ add_of most c (sum borrow_fill (kept_borrow b xs))
  unfolding borrow_fill
  add_left [] k r e z p q = absurd (z e)
  add_left (x ∷ xs) k r e z p q = q ∙ ap (add_of most c) (rw (p, e) (fill_same (omega arith)))

-- some borrows laid from c on: the cursor past them, their rows, their ids and their paths
abbrev pub LaidBorrows : Fill → Fill → List ℕ → List ℕ → List ℕ → List ℕ → List ℕ → List ℕ → List Borrow → Type 0
LaidBorrows c q r r' d d' e e' bs =
    (q ≡ plus c (sum borrow_fill bs))
    × ((r' ≡ write r (c.borrows * 9) (borrows_laid c bs)) × ((d' ≡ write d (c.ids * 2) (joined borrow_ids bs)) × (e' ≡ write e c.bytes (joined borrow_path bs))))

abbrev pub RoomBorrows : Fill → ℕ → ℕ → ℕ → List Borrow → Type 0
RoomBorrows c l m n bs = ((c.borrows + (sum borrow_fill bs).borrows) * 9 ≤ l) × (((c.ids + (sum borrow_fill bs).ids) * 2 ≤ m) × (c.bytes + (sum borrow_fill bs).bytes ≤ n))

module _ (b : Borrow) (c : Fill) where
  pub ids_room : (xs : List SstId) (l m n : ℕ) → RoomBorrows c l m n (kept_borrow b xs) → (c.ids + length xs) * 2 ≤ m
  unfolding borrow_fill
  ids_room [] l m n h = omega (arith, h.1.0)
  ids_room (x ∷ xs) l m n h = omega (arith, h.1.0)

  module _ (to : Fill) where
    pub kept_none : (xs : List SstId) (r d d' e : List ℕ) → LaidIds c to d d' xs → to.ids ≡ c.ids → LaidBorrows c to r r d d' e e (kept_borrow b xs)
    unfolding borrows_laid ids_laid
    kept_none [] r d d' e w h = (w.0, (sym (write_none r (c.borrows * 9)), (w.1, sym (write_none e c.bytes))))
    kept_none (x ∷ xs) r d d' e w h = let n = ap (λ (f : Fill). f.ids) w.0 in absurd (omega arith)

    -- room for the path and for the row
    pub kept_room : (xs : List SstId) (l m n : ℕ) (k : List ℕ) → RoomBorrows c l m n (kept_borrow b xs) → to ≡ plus c (id_cells (length xs)) → (to.ids ≡ c.ids → ⊥) → k ≡ b.path
        → (c.bytes + length k ≤ n) × ((c.ids ≤ to.ids) × (c.borrows * 9 + 9 ≤ l))
    unfolding borrow_fill
    kept_room [] l m n k h p z e = absurd (z (ap (λ (f : Fill). f.ids) p ∙ omega arith))
    kept_room (x ∷ xs) l m n k h p z e = (rw e (omega (arith, h.1.1)), (rw p (omega arith), omega (arith, h.0)))

    pub kept_some : (xs : List SstId) (q : Fill) (past : ℕ) (k r r' d d' e e' : List ℕ) → LaidIds c to d d' xs → (to.ids ≡ c.ids → ⊥) → k ≡ b.path → past ≡ c.bytes + length k → e' ≡ write e c.bytes k
        → q ≡ record { segments = c.segments; views = c.views; runs = c.runs; borrows = c.borrows + 1; ids = to.ids; bytes = past }
        → r' ≡ write r (c.borrows * 9) (borrow_words (record { path = record { at = c.bytes; len = past - c.bytes }; source = b.source; fin = b.final; ids = record { first = c.ids; count = to.ids - c.ids } }))
        → LaidBorrows c q r r' d d' e e' (kept_borrow b xs)
    unfolding borrows_laid
    kept_some [] q past k r r' d d' e e' w z g p v t u = absurd (z (ap (λ (f : Fill). f.ids) w.0 ∙ omega arith))
    kept_some (x ∷ xs) q past k r r' d d' e e' w z g p v t u =
        let y : Borrow = left b (x ∷ xs) in
        let m : past ≡ c.bytes + length b.path = p ∙ rw g in (
          t ∙ borrow_past c y past m to w.0 ∙ ap (plus c) (sym (plus_empty (borrow_fill y))),
          (
            borrow_row_lem c y past m to w.0 r r' u ∙ ap (write r (c.borrows * 9)) (sym (append-nil (borrow_words (borrow_row c y)))),
            (w.1 ∙ ap (write d (c.ids * 2)) (sym (append-nil (borrow_ids y))), v ∙ ap (write e c.bytes) (g ∙ sym (append-nil b.path))),
          ),
        )

-- ---- a loop over a window's borrows

abbrev pub piece_rows : Column (sum borrow_fill)
piece_rows = many borrow_rows

abbrev pub piece_ids : Column (sum borrow_fill)
piece_ids = plain id_table (joined borrow_ids) (joined_long borrow_fill id_table borrow_ids borrow_ids_long)

abbrev pub piece_pool : Column (sum borrow_fill)
piece_pool = plain byte_table (joined borrow_path) (joined_long borrow_fill byte_table borrow_path borrow_path_long)

pruned_pieces : (used : List SstId) (f : ℕ → Borrow) (n : ℕ) → pruned used (up_to f n) ≡ all (up_to (λ k. kept_borrow (f k) (used_only used (f k).ids)) n)
unfolding pruned
pruned_pieces used f zero = refl
pruned_pieces used f (suc n) =
    rw (up_to_front f n, all_front (λ k. kept_borrow (f k) (used_only used (f k).ids)) (λ k. kept_borrow (f (suc k)) (used_only used (f (suc k)).ids)) (λ k. refl) n, pruned_pieces used (λ k. f (suc k)) n)

-- the pieces of the borrows from `first` on
abbrev pub piece_in : List SstId → List ℕ → List ℕ → List ℕ → ℕ → ℕ → List Borrow
piece_in used borrows ids pool first k = kept_borrow (borrow_in ids pool (borrow_at borrows (first + k))) (used_only used (borrow_in ids pool (borrow_at borrows (first + k))).ids)

module _ (used : List SstId) (borrows ids pool : List ℕ) (w : Window) (n : ℕ) (e : n ≡ held_of w (length borrows / 9)) where
  abbrev kept : List Borrow
  kept = pruned used (borrows_in borrows ids pool w)

  abbrev each : List (List Borrow)
  each = up_to (piece_in used borrows ids pool w.first) n

  kept_all : kept ≡ all each
  unfolding borrows_in
  kept_all = rw (← e) (pruned_pieces used (λ k. borrow_in ids pool (borrow_at borrows (w.first + k))) n)

  pub kept_fill : sum (sum borrow_fill) each ≡ sum borrow_fill kept
  kept_fill = sum_many borrow_fill each ∙ ap (sum borrow_fill) (sym kept_all)

  pub kept_laid : (c q : Fill) (r r' d d' p p' : List ℕ) → q ≡ plus c (sum (sum borrow_fill) each) → r' ≡ write r (c.borrows * 9) (column piece_rows c each)
      → d' ≡ write d (c.ids * 2) (joined (joined borrow_ids) each) → p' ≡ write p c.bytes (joined (joined borrow_path) each) → LaidBorrows c q r r' d d' p p' kept
  unfolding borrows_laid
  kept_laid c q r r' d d' p p' h i j k = (
    h ∙ ap (plus c) kept_fill,
    (
      i ∙ ap (write r (c.borrows * 9)) (column_many borrow_rows c each ∙ ap (column borrow_rows c) (sym kept_all)),
      (j ∙ ap (write d (c.ids * 2)) (joined_many borrow_ids each ∙ ap (joined borrow_ids) (sym kept_all)), k ∙ ap (write p c.bytes) (joined_many borrow_path each ∙ ap (joined borrow_path) (sym kept_all))),
    ),
  )
