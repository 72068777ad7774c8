-- Runs filled in. Assumes nothing.
use Rattle.std.specs.Prelude.{Err, Ok}
use Prim.Native.Nat.{ℕ, ◌+◌, ◌≤◌}
use mathlib.Core.Path.{◌≡◌, refl, ◌∙◌}
use mathlib.Core.List.{List}
use native.Mathlib.Omega.{arith}
use lib.ListN.{length}
use Rattle.records.specs.Words.{run_words}
use Rattle.msgpack.specs.Skip.{rest_at}
use Rattle.manifest_values.specs.Read.{is, wrong, many, view_at, run_at}
use Rattle.manifest_rows.specs.declared.RunHead.{RunHead}
use Rattle.manifest_rows.specs.Steps.{run_head_at}
use Rattle.manifest_rows.specs.Stored.{Laid, FilledIs, Steps, Table, table, Under, ViewStep, two, UnderTwo, RunStep}
use Rattle.manifest_rows.proofs.Cuts.{RunBegun, run_begun, run_wrong}
use Rattle.manifest_rows.proofs.Goes.{goes, goes_run, rest_past}
use Rattle.manifest_rows.proofs.Turns.{many_length, moves_not}

module _ (s : List ℕ) (at : ℕ) (h : RunHead) (p : ℕ) (e₀ : is h p ≡ run_head_at s at) where
  begun : RunBegun s at h p (run_at s at)
  begun = run_begun s at h p e₀

  pub run_views_wrong : (q : ℕ) → many (view_at s) h.views p ≡ wrong q → run_at s at ≡ wrong q
  run_views_wrong q e = begun.rest ∙ rw e

  pub run_rest_wrong : (q : ℕ) (σ τ : Table) → FilledIs (Steps (ViewStep s)) Under (many (view_at s) h.views p) σ τ q → (w : ℕ) → Err w ≡ rest_at s q h.parts 2 → run_at s at ≡ wrong w
  run_rest_wrong q σ τ f w e = begun.rest ∙ rw (f.read, ← e)

  module _
      (q : ℕ) (views views' : List ℕ) (v : ℕ)
      (f : FilledIs (Steps (ViewStep s)) Under (many (view_at s) h.views p) (table views v) (table views' (v + h.views)) q)
    where
      module _ (e : ℕ) (r : Ok e ≡ rest_at s q h.parts 2) where
        run_read : run_at s at ≡ is (record { id = h.id; views = f.value }) e
        run_read = begun.rest ∙ rw (f.read, ← r)

        pub run_past : at + 1 ≤ e
        run_past = goes 1 at (run_at s at) _ e (goes_run s at) run_read

        pub run_filled : (i : ℕ) (runs runs' w : List ℕ) → (i ≤ at) × (v ≤ at) → w ≡ run_words (record { id = h.id; views = record { first = v; count = h.views } }) → Laid w i runs runs'
            → FilledIs (RunStep s) UnderTwo (run_at s at) (two runs views (record { outer = i; inner = v })) (two runs' views' (record { outer = i + 1; inner = v + h.views })) e
        unfolding run_words
        run_filled i runs runs' w u ew l =
            let m : length f.value ≡ h.views = many_length (view_at s) h.views p f.value q f.read in
            let l' : Laid (run_words (record { id = h.id; views = record { first = v; count = length f.value } })) i runs runs' = rw m (rw ew at l) in
            record {
              value = record { id = h.id; views = f.value };
              read = run_read;
              step = record { next = refl; kept = l'.kept; views = f.step; small = begun.small; stored = l'.stands };
              under = (omega (arith, run_past), omega (arith, f.under, rest_past s q h.parts 2 e r));
            }

pub ruleset run_reads = (moves_not, run_wrong, run_views_wrong, run_rest_wrong, run_past, run_filled)
