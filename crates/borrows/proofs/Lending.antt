-- The clone's borrows laid one after the other: those renewed, then the parent's. Assumes nothing.
use Prim.Native.Nat.{ℕ, ◌+◌, ◌-◌, ◌*◌, ◌/◌, ◌≤◌}
use mathlib.Core.Path.{◌≡◌, sym, ap, ◌∙◌}
use mathlib.Core.List.{List}
use native.Mathlib.Omega.{arith}
use lib.ListN.{length}
use Rattle.tables.specs.Layout.{write, joined}
use Rattle.tables.specs.Window.{held_of}
use Rattle.ids.specs.declared.SstId.{SstId}
use Rattle.ids.specs.declared.Uuid.{Uuid}
use Rattle.records.specs.Model.{Borrow, Manifest}
use Rattle.records.specs.Words.{borrow_words}
use Rattle.records.specs.Fill.{plus, sum, borrow_fill}
use Rattle.records.specs.Layout.{borrow_row, ids_laid}
use Rattle.records.specs.Decode.{Lent, manifest_in}
use Rattle.records.specs.declared.Fill.{Fill}
use Rattle.records.specs.declared.ManifestRow.{ManifestRow}
use Rattle.records.proofs.Sums.{sum_more}
use Rattle.records.proofs.Laid.{Table, at, Column, column, column_long, column_more, laid_joined}
use Rattle.emit.proofs.Laid.{room_first, room_rest, put_then, plain}
use Rattle.copy.proofs.Manifest.{borrows_count}
use Rattle.borrows.specs.Owned.{owned_of}
use Rattle.borrows.specs.Places.{put_from}
use Rattle.borrows.specs.Clone.{fresh_at, renewed_all, of_parent, cloned_borrows}
use Rattle.borrows.proofs.Putting.{put_laid}
use Rattle.borrows.proofs.Poolless.{poolless, owned_poolless}

-- ---- one borrow, its ids laid from c on

pub ids_laid_lem : (xs : List SstId) (d d' : List ℕ) (n : ℕ) → (n + length xs) * 2 ≤ length d → d' ≡ put_from d n xs → d' ≡ write d (n * 2) (ids_laid xs)
ids_laid_lem xs d d' n h e = e ∙ put_laid xs d n h

pub lent_row : (c : Fill) (b : Borrow) (past : ℕ) (d d' : List ℕ) → past ≡ c.ids + length b.ids
    → d' ≡ write d (c.borrows * 9) (borrow_words (record { path = record { at = c.bytes; len = length b.path }; source = b.source; fin = b.final; ids = record { first = c.ids; count = past - c.ids } }))
    → d' ≡ write d (c.borrows * 9) (borrow_words (borrow_row c b))
unfolding borrow_row
lent_row c b past d d' e w = let n : past - c.ids ≡ length b.ids = omega arith in w ∙ rw n

-- ---- those renewed, then the parent's

module _ (m : Manifest) (path : List ℕ) (cp : Uuid) (fresh : List Uuid) (c : Fill) where
  abbrev pub olds : List Borrow
  olds = renewed_all fresh 0 m.borrows

  abbrev pub parent : Borrow
  parent = of_parent path cp (fresh_at fresh (length m.borrows)) (owned_of m)

  cloned_sum : sum borrow_fill (cloned_borrows m path cp fresh) ≡ plus (sum borrow_fill olds) (borrow_fill parent)
  unfolding cloned_borrows
  cloned_sum = sum_more borrow_fill olds parent

  module _ (t : Table) (n : ℕ) (h : at t (plus c (sum borrow_fill (cloned_borrows m path cp fresh))) ≤ n) where
    pub olds_room : at t (plus c (sum borrow_fill olds)) ≤ n
    olds_room = room_first t c (sum borrow_fill olds) (borrow_fill parent) n (rw cloned_sum at h)

    pub parent_room : (a : Fill) → a ≡ plus c (sum borrow_fill olds) → at t (plus a (borrow_fill parent)) ≤ n
    parent_room a e = room_rest t c (sum borrow_fill olds) a (borrow_fill parent) n e (rw cloned_sum at h)

  module _ (col : Column borrow_fill) (a : Fill) (d d₁ d₂ : List ℕ) (h : at col.table (plus c (sum borrow_fill (cloned_borrows m path cp fresh))) ≤ length d) (e : a ≡ plus c (sum borrow_fill olds)) where
    pub cloned_laid : (q : Borrow) → q ≡ parent → d₁ ≡ write d (at col.table c) (column col c olds) → d₂ ≡ write d₁ (at col.table a) (col.words a q) → d₂ ≡ write d (at col.table c) (column col c (cloned_borrows m path cp fresh))
    unfolding cloned_borrows
    cloned_laid q s w v =
        rw (column_more col c olds parent, ← e)
        (put_then col.table c (sum borrow_fill olds) a (sum borrow_fill (cloned_borrows m path cp fresh)) d d₁ d₂ (column col c olds) (col.words a parent) h e (column_long col c olds) w (v ∙ ap (λ (x : Borrow). write d₁ (at col.table a) (col.words a x)) s))

-- the same for words that do not hang on their place
module _ (m : Manifest) (path : List ℕ) (cp : Uuid) (fresh : List Uuid) (c : Fill) (t : Table) (b : Borrow → List ℕ) (l : (x : Borrow) → length (b x) ≡ at t (borrow_fill x)) where
  pub cloned_joined : (a : Fill) (d d₁ d₂ : List ℕ) (q : Borrow) → q ≡ parent m path cp fresh c → at t (plus c (sum borrow_fill (cloned_borrows m path cp fresh))) ≤ length d → a ≡ plus c (sum borrow_fill (olds m path cp fresh c))
      → d₁ ≡ write d (at t c) (joined b (olds m path cp fresh c)) → d₂ ≡ write d₁ (at t a) (b q) → d₂ ≡ write d (at t c) (joined b (cloned_borrows m path cp fresh))
  cloned_joined a d d₁ d₂ q s h e w v =
      cloned_laid m path cp fresh c (plain t b l) a d d₁ d₂ h e q s (w ∙ ap (λ (z : List ℕ). write d (at t c) z) (sym (laid_joined borrow_fill b c (olds m path cp fresh c)))) v
      ∙ ap (λ (z : List ℕ). write d (at t c) z) (laid_joined borrow_fill b c (cloned_borrows m path cp fresh))

pub held_is : (l : Lent) (m : ManifestRow) → held_of m.external_dbs (length l.borrows / 9) ≡ length (manifest_in l m).borrows
unfolding manifest_in
held_is l m = sym (borrows_count l.borrows l.ids l.pool m.external_dbs)

-- the parent's borrow as the code makes it
pub parent_is : (l : Lent) (m : ManifestRow) (path : List ℕ) (cp : Uuid) (fresh : List Uuid) (u : Uuid) (n : ℕ) → u ≡ fresh_at fresh n → n ≡ held_of m.external_dbs (length l.borrows / 9)
    → of_parent path cp u (owned_of (manifest_in (poolless l) m)) ≡ of_parent path cp (fresh_at fresh (length (manifest_in l m).borrows)) (owned_of (manifest_in l m))
parent_is l m path cp fresh u n e h = rw (e, owned_poolless l m, h, held_is l m)
