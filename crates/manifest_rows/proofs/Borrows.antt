-- Ids and borrows filled in. Assumes nothing.
use Rattle.std.specs.Prelude.{Err, Ok}
use Prim.Native.Nat.{ℕ, ◌+◌, ◌≤◌}
use mathlib.Core.Path.{◌≡◌, refl, ◌∙◌}
use mathlib.Core.List.{List}
use native.Mathlib.Omega.{arith}
use lib.ListN.{length}
use Rattle.records.specs.Model.{Borrow}
use Rattle.records.specs.Decode.{bytes_in}
use Rattle.records.specs.Words.{id_words, borrow_words}
use Rattle.msgpack.specs.Skip.{rest_at}
use Rattle.msgpack.specs.Read.{id_at}
use Rattle.manifest_values.specs.Read.{is, wrong, many, sst_id_at, borrow_at}
use Rattle.manifest_rows.specs.declared.BorrowHead.{BorrowHead}
use Rattle.manifest_rows.specs.Steps.{borrow_head_at}
use Rattle.manifest_rows.specs.Stored.{Laid, FilledIs, Steps, Table, table, Under, IdStep, two, UnderTwo, BorrowStep}
use Rattle.manifest_rows.proofs.Cuts.{BorrowBegun, borrow_begun, borrow_wrong}
use Rattle.manifest_rows.proofs.Goes.{goes, goes_sst_id, goes_borrow, rest_past}
use Rattle.manifest_rows.proofs.Turns.{many_length, moves_not}

module _ (s : List ℕ) (at hi lo q : ℕ) (e : Ok (hi, lo, q) ≡ id_at s at) where
  read : sst_id_at s at ≡ is (hi, lo) q
  read = rw (← e)

  pub id_past : at + 1 ≤ q
  id_past = goes 1 at (sst_id_at s at) (hi, lo) q (goes_sst_id s at) read

  pub id_filled : (t t' : List ℕ) (i : ℕ) (w : List ℕ) → i ≤ at → w ≡ id_words (hi, lo) → Laid w i t t' → FilledIs IdStep Under (sst_id_at s at) (table t i) (table t' (i + 1)) q
  unfolding id_words
  id_filled t t' i w h ew l =
      let l' : Laid (id_words (hi, lo)) i t t' = rw ew at l in
      record { value = (hi, lo); read = read; step = record { next = refl; kept = l'.kept; stored = l'.stands }; under = omega (arith, id_past) }

module _ (s : List ℕ) (at : ℕ) (h : BorrowHead) (p : ℕ) (e₀ : is h p ≡ borrow_head_at s at) where
  begun : BorrowBegun s at h p (borrow_at s at)
  begun = borrow_begun s at h p e₀

  pub borrow_ids_wrong : (q : ℕ) → many (sst_id_at s) h.ids p ≡ wrong q → borrow_at s at ≡ wrong q
  borrow_ids_wrong q e = begun.rest ∙ rw e

  pub borrow_rest_wrong : (q : ℕ) (σ τ : Table) → FilledIs (Steps IdStep) Under (many (sst_id_at s) h.ids p) σ τ q → (w : ℕ) → Err w ≡ rest_at s q h.parts 4 → borrow_at s at ≡ wrong w
  borrow_rest_wrong q σ τ f w e = begun.rest ∙ rw (f.read, ← e)

  module _
      (q : ℕ) (ids ids' : List ℕ) (v : ℕ)
      (f : FilledIs (Steps IdStep) Under (many (sst_id_at s) h.ids p) (table ids v) (table ids' (v + h.ids)) q)
    where
      module _ (e : ℕ) (r : Ok e ≡ rest_at s q h.parts 4) where
        abbrev lent : Borrow
        lent = record { path = bytes_in s h.path; source = h.source; final = h.fin; ids = f.value }

        borrow_read : borrow_at s at ≡ is lent e
        borrow_read = begun.rest ∙ rw (f.read, ← r)

        pub borrow_past : at + 1 ≤ e
        borrow_past = goes 1 at (borrow_at s at) lent e (goes_borrow s at) borrow_read

        pub borrow_filled : (i : ℕ) (borrows borrows' w : List ℕ) → (i ≤ at) × (v ≤ at)
            → w ≡ borrow_words (record { path = h.path; source = h.source; fin = h.fin; ids = record { first = v; count = h.ids } }) → Laid w i borrows borrows'
            → FilledIs (BorrowStep s) UnderTwo (borrow_at s at) (two borrows ids (record { outer = i; inner = v })) (two borrows' ids' (record { outer = i + 1; inner = v + h.ids })) e
        unfolding borrow_words
        borrow_filled i borrows borrows' w u ew l =
            let m : length f.value ≡ h.ids = many_length (sst_id_at s) h.ids p f.value q f.read in
            let l' : Laid (borrow_words (record { path = h.path; source = h.source; fin = h.fin; ids = record { first = v; count = length f.value } })) i borrows borrows' = rw m (rw ew at l) in
            record {
              value = lent;
              read = borrow_read;
              step = record { next = refl; kept = l'.kept; ids = f.step; path = h.path; over = (refl, begun.inside); stored = l'.stands };
              under = (omega (arith, borrow_past), omega (arith, f.under, rest_past s q h.parts 4 e r));
            }

pub ruleset borrow_reads = (moves_not, borrow_wrong, borrow_ids_wrong, borrow_rest_wrong, borrow_past, borrow_filled)
