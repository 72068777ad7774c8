-- A manifest filled in. Assumes nothing.
use Rattle.std.specs.Prelude.{Err, Ok, Option, Result}
use Rattle.std.specs.Result.{IsErrAnd}
use Prim.Native.Nat.{ℕ}
use mathlib.Core.Path.{◌≡◌, refl, sym, ◌∙◌}
use mathlib.Core.Bool.{Bool}
use mathlib.Core.List.{List}
use native.Mathlib.Nat.{zero-add}
use lib.ListN.{length}
use mir.Syntax.{w64}
use mir.Val.{to_z, of_z}
use mir.Facts.{to_z-of_z}
use Rattle.records.specs.Model.{Manifest}
use Rattle.records.specs.Decode.{Lent, name_in}
use Rattle.records.specs.declared.Fill.{Fill}
use Rattle.records.specs.declared.TreeRow.{TreeRow}
use Rattle.records.specs.declared.ManifestRow.{ManifestRow}
use Rattle.msgpack.specs.Skip.{rest_at}
use Rattle.msgpack.specs.Read.{group_at, flag_at}
use Rattle.manifest_values.proofs.Fits.{numbers_fit}
use Rattle.manifest_values.specs.Read.{Got, is, wrong, trees_at, numbers_at, borrows_at, epochs_at, manifest_at}
use Rattle.manifest_values.specs.Rows as rows
use Rattle.manifest_rows.specs.declared.Cursor.{Cursor}
use Rattle.manifest_values.specs.declared.Numbers.{Numbers}
use Rattle.manifest_values.specs.declared.Epochs.{Epochs}
use Rattle.manifest_rows.specs.declared.First.{First}
use Rattle.manifest_rows.specs.Stored.{FilledIs, Steps, two, Two, UnderTwo, BorrowStep, SegmentStep, Three, three, UnderThree, TreesStep, start, lent, ManifestIs, ManifestFilled}
use Rattle.manifest_rows.specs.Steps.{ReadAs, FirstHalf, first_at, FirstStep, FirstMoves, SecondHalf, second_at, fill_of, SecondStep, SecondMoves}
use Rattle.manifest_rows.proofs.Cuts.{whole, manifest_read, first_wrong, second_wrong}
use Rattle.manifest_rows.proofs.Overs.{name_is, name_in_lem, name_wrong}
use Rattle.manifest_rows.proofs.Trees.{trees_under, trees_filled}
use Rattle.manifest_rows.proofs.Turns.{steps_next}
use Rattle.records.specs.declared.Place.{Place}

-- ---- the halves

module _ (s : List ℕ) (n p₀ : ℕ) (init : Bool) (p₁ : ℕ) (tree : TreeRow) (k p₂ : ℕ) (c : Cursor) (σ σ' : Three) (e₀ : Ok (n, p₀) ≡ group_at s 0 12) (e₁ : Ok (init, p₁) ≡ flag_at s p₀) (t : FilledIs (TreesStep s tree) UnderThree (trees_at s p₁) σ σ' p₂) where
  pub first_filled : ReadAs (λ h. FirstStep s (record { parts = n; initialized = init; tree = tree; segments = k; trees = c }) h σ σ') (first_at s 0) p₂
  unfolding first_at
  first_filled =
      record {
        value = record { parts = n; initialized = init; trees = t.value };
        read = rw (← e₀, ← e₁, t.read);
        step = record { parts = refl; initialized = refl; trees = t.step };
      }

module _ (s : List ℕ) (g : Got FirstHalf) (σ : Three) (after : ℕ → Cursor → Three) where
  pub first_moves_not : (r : Result (First × ℕ) ℕ) (q : ℕ) → IsErrAnd r (λ y. y ≡ q) → g ≡ wrong q → FirstMoves s g σ after r
  first_moves_not (Ok x) q h e = absurd h
  first_moves_not (Err y) q h e = rw h e

pub ruleset first_reads = (first_moves_not, trees_under, trees_filled, first_filled)

module _ (s : List ℕ) (f : First) (g : Got SecondHalf) (σ : Two) (after : Cursor → Two) where
  pub second_moves_not : (r : Result (ManifestRow × Fill × ℕ) ℕ) (q : ℕ) → IsErrAnd r (λ y. y ≡ q) → g ≡ wrong q → SecondMoves s f g σ after r
  second_moves_not (Ok x) q h e = absurd h
  second_moves_not (Err y) q h e = rw h e

module _ (s : List ℕ) (n at : ℕ) where
  pub second_name_wrong : (q : ℕ) → wrong q ≡ rows.name_at s at → second_at s n at ≡ wrong q
  unfolding second_at
  second_name_wrong q e = rw (name_wrong s at q e)

  module _ (name : Option Place) (p₀ : ℕ) (e₀ : is name p₀ ≡ rows.name_at s at) where
    pub second_numbers_wrong : (q : ℕ) → wrong q ≡ numbers_at s p₀ → second_at s n at ≡ wrong q
    unfolding second_at
    second_numbers_wrong q e = rw (name_is s at name p₀ e₀, ← e)

    module _ (x : Numbers) (p₁ : ℕ) (e₁ : is x p₁ ≡ numbers_at s p₀) where
      pub second_borrows_wrong : (q : ℕ) → borrows_at s p₁ ≡ wrong q → second_at s n at ≡ wrong q
      unfolding second_at
      second_borrows_wrong q e = rw (name_is s at name p₀ e₀, ← e₁, e)

      module _ (σ τ : Two) (p₂ : ℕ) (b : FilledIs (Steps (BorrowStep s)) UnderTwo (borrows_at s p₁) σ τ p₂) where
        pub second_epochs_wrong : (q : ℕ) → wrong q ≡ epochs_at s p₂ → second_at s n at ≡ wrong q
        unfolding second_at
        second_epochs_wrong q e = rw (name_is s at name p₀ e₀, ← e₁, b.read, ← e)

        module _ (y : Epochs) (p₃ : ℕ) (e₂ : is y p₃ ≡ epochs_at s p₂) where
          pub second_rest_wrong : (q : ℕ) → Err q ≡ rest_at s p₃ n 12 → second_at s n at ≡ wrong q
          unfolding second_at
          second_rest_wrong q e = rw (name_is s at name p₀ e₀, ← e₁, b.read, ← e₂, ← e)

module _
    (s : List ℕ) (f : First) (at : ℕ) (name : Option Place) (p₀ : ℕ) (x : Numbers) (p₁ : ℕ) (d : Cursor) (p₂ : ℕ) (y : Epochs) (p₃ e : ℕ) (borrows ids borrows' ids' : List ℕ)
    (e₀ : is name p₀ ≡ rows.name_at s at) (e₁ : is x p₁ ≡ numbers_at s p₀)
    (b : FilledIs (Steps (BorrowStep s)) UnderTwo (borrows_at s p₁) (two borrows ids start) (two borrows' ids' d) p₂) (e₂ : is y p₃ ≡ epochs_at s p₂) (e₃ : Ok e ≡ rest_at s p₃ f.parts 12)
  where
    abbrev half : SecondHalf
    half = record { extractor = name_in s name; numbers = x; borrows = b.value; epochs = y }

    -- the clock tick is as a local holds it
    pub second_filled : ReadAs
        (λ h. SecondStep s f
        (record {
          initialized = f.initialized;
          tree = f.tree;
          segments = record { first = 0; count = f.segments };
          segment_extractor_name = name;
          next_wal_sst_id = x.next_wal_sst_id;
          replay_after_wal_id = x.replay_after_wal_id;
          last_l0_clock_tick = to_z w64 (of_z w64 x.last_l0_clock_tick);
          last_l0_seq = x.last_l0_seq;
          recent_snapshot_min_seq = x.recent_snapshot_min_seq;
          external_dbs = record { first = 0; count = d.outer };
          writer_epoch = y.writer;
          compactor_epoch = y.compactor;
        })
        (fill_of f d) h (two borrows ids start) (λ c. two borrows' ids' c))
        (second_at s f.parts at) e
    unfolding second_at
    second_filled =
        let t : to_z w64 (of_z w64 x.last_l0_clock_tick) ≡ x.last_l0_clock_tick = to_z-of_z (numbers_fit s p₀ x p₁ (sym e₁)) in
        let k : d.outer ≡ length b.value = steps_next (BorrowStep s) (λ σ. σ.outer.next) (λ g σ σ' u. u.next) b.value _ _ b.step ∙ zero-add _ in
        record {
          value = half;
          read = rw (name_is s at name p₀ e₀, ← e₁, b.read, ← e₂, ← e₃);
          step = record { name = name; over = refl; inside = name_in_lem s at name p₀ e₀; is = rw (t, k); cursor = d; borrows = b.step; counts = refl };
        }

pub ruleset second_reads = (second_moves_not, second_name_wrong, second_numbers_wrong, second_borrows_wrong, second_epochs_wrong, second_rest_wrong, second_filled)

-- ---- both

module _
    (s : List ℕ) (segments views runs borrows ids segments' views' runs' borrows' ids' : List ℕ) (x : First) (p : ℕ)
    (f : ReadAs (λ h. FirstStep s x h (three segments 0 runs views start) (three segments' x.segments runs' views' x.trees)) (first_at s 0) p)
  where
    manifest_filled : (row : ManifestRow) (c : Fill) (q : ℕ) → ReadAs (λ h. SecondStep s x row c h (two borrows ids start) (λ d. two borrows' ids' d)) (second_at s x.parts p) q
        → ManifestIs (manifest_at s 0) (lent segments views runs borrows ids s) (lent segments' views' runs' borrows' ids' s) row c q
    manifest_filled row c q g =
        let t = f.step.trees in
        let a : x.segments ≡ length f.value.trees.segments =
        steps_next (SegmentStep s) (λ σ. σ.segments.next) (λ g σ σ' u. u.next) f.value.trees.segments _ _ t.segments ∙ zero-add _ in
        rw (g.step.is, g.step.counts)
        (record {
          value = whole s f.value g.value;
          read = manifest_read s f.value p g.value q f.read (rw f.step.parts at g.read);
          step = record { trees = t; borrows = g.step.borrows; name = g.step.over; inside = g.step.inside; bytes = refl; is = rw (f.step.initialized, ← a) };
        })

    pub manifest_done : (r : Result (ManifestRow × Fill × ℕ) ℕ) → SecondMoves s x (second_at s x.parts p) (two borrows ids start) (λ d. two borrows' ids' d) r
        → ManifestFilled (manifest_at s 0) (lent segments views runs borrows ids s) (lent segments' views' runs' borrows' ids' s) r
    manifest_done (Ok (row, c, q)) g = manifest_filled row c q g
    manifest_done (Err q) e = second_wrong s f.value p q f.read (rw f.step.parts at e)

module _ (g : Got Manifest) (l l' : Lent) where
  pub manifest_not : (r : Result (ManifestRow × Fill × ℕ) ℕ) (q : ℕ) → IsErrAnd r (λ y. y ≡ q) → g ≡ wrong q → ManifestFilled g l l' r
  manifest_not (Ok x) q h e = absurd h
  manifest_not (Err y) q h e = rw h e

pub ruleset manifest_reads = (manifest_not, first_wrong, manifest_done)

module _ (g : Got Manifest) (l l' : Lent) (r : Result (ManifestRow × Fill × ℕ) ℕ) (f : ManifestFilled g l l' r) where
  pub manifest_is : (row : ManifestRow) (c : Fill) (p : ℕ) → r ≡ Ok (row, c, p) → ManifestIs g l l' row c p
  manifest_is row c p e = rw e at f

  pub manifest_wrong : (q : ℕ) → r ≡ Err q → g ≡ wrong q
  manifest_wrong q e = rw e at f
