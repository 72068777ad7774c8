-- Trees and segments filled in. Assumes nothing.
use Rattle.std.specs.Prelude.{Err, Ok}
use Prim.Native.Nat.{ℕ, ◌+◌, ◌≤◌}
use mathlib.Core.Path.{◌≡◌, refl, sym, ◌∙◌}
use mathlib.Core.List.{List}
use native.Mathlib.Omega.{arith}
use lib.ListN.{length}
use Rattle.records.specs.Decode.{bytes_in}
use Rattle.records.specs.Words.{tree_words, segment_words}
use Rattle.records.specs.declared.Place.{Place}
use Rattle.records.specs.declared.TreeRow.{TreeRow}
use Rattle.msgpack.specs.Skip.{rest_at}
use Rattle.msgpack.specs.Read.{group_at, list_at}
use Rattle.msgpack.proofs.Told.{group_within}
use Rattle.manifest_values.specs.Read.{is, wrong, many, key_at, view_at, run_at, tree_at, segment_at, trees_at}
use Rattle.manifest_values.specs.Rows as rows
use Rattle.manifest_rows.specs.declared.Cursor.{Cursor}
use Rattle.manifest_rows.specs.declared.TreeHead.{TreeHead}
use Rattle.manifest_rows.specs.Steps.{tree_head_at}
use Rattle.manifest_rows.specs.Stored.{Laid, FilledIs, Steps, table, Under, ViewStep, Two, two, UnderTwo, RunStep, TreeStep, three, UnderThree, SegmentStep, TreesStep, start}
use Rattle.manifest_rows.proofs.Cuts.{TreeBegun, tree_begun, tree_not}
use Rattle.manifest_rows.proofs.Overs.{place_is, place_in, place_wrong}
use Rattle.manifest_rows.proofs.Goes.{goes, goes_key, goes_segment, goes_many, goes_view, rest_past}
use Rattle.manifest_rows.proofs.Turns.{many_length, tree_moves_not, segment_moves_not}

module _ (s : List ℕ) (at : ℕ) (h : TreeHead) (p : ℕ) (e₀ : is h p ≡ tree_head_at s at) where
  begun : TreeBegun s at h p (tree_at s at)
  begun = tree_begun s at h p e₀

  pub tree_views_wrong : (q : ℕ) → many (view_at s) h.views p ≡ wrong q → tree_at s at ≡ wrong q
  tree_views_wrong q e = begun.rest ∙ rw e

  module _
      (p₁ : ℕ) (views views' : List ℕ) (c : Cursor)
      (f : FilledIs (Steps (ViewStep s)) Under (many (view_at s) h.views p) (table views c.inner) (table views' (c.inner + h.views)) p₁)
    where
      pub tree_list_wrong : (q : ℕ) → Err q ≡ list_at s p₁ → tree_at s at ≡ wrong q
      tree_list_wrong q e = begun.rest ∙ rw (f.read, ← e)

      module _ (m p₂ : ℕ) (e₁ : Ok (m, p₂) ≡ list_at s p₁) where
        -- both cursors, where the runs start
        pub tree_both : (c.outer ≤ at) × (c.inner ≤ at) → (c.outer ≤ p₂) × (c.inner + h.views ≤ p₂)
        tree_both u =
            let x = group_within s p₁ 0 m p₂ (sym e₁) in
            let y = goes 0 p (many (view_at s) h.views p) f.value p₁ (goes_many (view_at s) (goes_view s) h.views p) f.read in
            (omega (arith, begun.past), omega (arith, f.under))

        pub tree_runs_wrong : (q : ℕ) → many (run_at s) m p₂ ≡ wrong q → tree_at s at ≡ wrong q
        tree_runs_wrong q e = begun.rest ∙ rw (f.read, ← e₁, e)

        module _
            (p₃ : ℕ) (runs runs' views'' : List ℕ) (d : Cursor)
            (g : FilledIs (Steps (RunStep s)) UnderTwo (many (run_at s) m p₂) (two runs views' (record { outer = c.outer; inner = c.inner + h.views })) (two runs' views'' d) p₃)
          where
            pub tree_rest_wrong : (q : ℕ) → Err q ≡ rest_at s p₃ h.parts 4 → tree_at s at ≡ wrong q
            tree_rest_wrong q e = begun.rest ∙ rw (f.read, ← e₁, g.read, ← e)

            pub tree_filled : (e : ℕ) → Ok e ≡ rest_at s p₃ h.parts 4
                → FilledIs (TreeStep s (record { view = h.view; sst = h.sst; l0 = record { first = c.inner; count = h.views }; compacted = record { first = c.outer; count = m } })) UnderTwo (tree_at s at) (two runs views c) (two runs' views'' d) e
            tree_filled e e₂ =
                let x : length f.value ≡ h.views = many_length (view_at s) h.views p f.value p₁ f.read in
                let y : length g.value ≡ m = many_length (run_at s) m p₂ g.value p₃ g.read in
                let z : p₃ ≤ e = rest_past s p₃ h.parts 4 e e₂ in
                record {
                  value = record { view_mark = h.view; sst_mark = h.sst; l0 = f.value; runs = g.value };
                  read = begun.rest ∙ rw (f.read, ← e₁, g.read, ← e₂);
                  step = record { between = table views' (c.inner + h.views); l0 = f.step; runs = g.step; is = rw (x, y) };
                  under = (omega (arith, g.under.0), omega (arith, g.under.1));
                }

module _ (s : List ℕ) (at n p₀ : ℕ) (prefix : Place) (p₁ : ℕ) (e₀ : Ok (n, p₀) ≡ group_at s at 2) (e₁ : is prefix p₁ ≡ rows.place_at s p₀) where
  pub segment_under : (c : Cursor) → (c.outer ≤ at) × (c.inner ≤ at) → (c.outer ≤ p₁) × (c.inner ≤ p₁)
  segment_under c h =
      let a = group_within s at 2 n p₀ (sym e₀) in
      let b = goes 1 p₀ (key_at s p₀) _ p₁ (goes_key s p₀) (place_is s p₀ prefix p₁ e₁) in
      omega arith

  pub segment_tree_wrong : (q : ℕ) → tree_at s p₁ ≡ wrong q → segment_at s at ≡ wrong q
  unfolding segment_at
  segment_tree_wrong q e = rw (← e₀, place_is s p₀ prefix p₁ e₁, e)

  module _ (row : TreeRow) (p₂ : ℕ) (σ τ : Two) (t : FilledIs (TreeStep s row) UnderTwo (tree_at s p₁) σ τ p₂) where
    pub segment_rest_wrong : (q : ℕ) → Err q ≡ rest_at s p₂ n 2 → segment_at s at ≡ wrong q
    unfolding segment_at
    segment_rest_wrong q e = rw (← e₀, place_is s p₀ prefix p₁ e₁, t.read, ← e)

    pub segment_filled : (e : ℕ) → Ok e ≡ rest_at s p₂ n 2 → (i : ℕ) (segments segments' w : List ℕ) → i ≤ at → w ≡ segment_words (record { prefix = prefix; tree = row }) → Laid w i segments segments'
        → FilledIs (SegmentStep s) UnderThree (segment_at s at) (record { segments = table segments i; rest = σ }) (record { segments = table segments' (i + 1); rest = τ }) e
    unfolding segment_at segment_words tree_words
    segment_filled e e₂ i segments segments' w h ew l =
        let l' : Laid (segment_words (record { prefix = prefix; tree = row })) i segments segments' = rw ew at l in
        let r : segment_at s at ≡ is (record { prefix = bytes_in s prefix; tree = t.value }) e = rw (← e₀, place_is s p₀ prefix p₁ e₁, t.read, ← e₂) in
        let a : p₂ ≤ e = rest_past s p₂ n 2 e e₂ in
        let b : at + 1 ≤ e = goes 1 at (segment_at s at) _ e (goes_segment s at) r in
        record {
          value = record { prefix = bytes_in s prefix; tree = t.value };
          read = r;
          step = record { next = refl; kept = l'.kept; prefix = prefix; over = (refl, place_in s p₀ prefix p₁ e₁); row = row; tree = t.step; stored = l'.stands };
          under = (omega arith, (omega (arith, t.under.0), omega (arith, t.under.1)));
        }

-- a segment whose prefix is wrong
pub segment_prefix_wrong : (s : List ℕ) (at n p₀ : ℕ) → Ok (n, p₀) ≡ group_at s at 2 → (q : ℕ) → wrong q ≡ rows.place_at s p₀ → segment_at s at ≡ wrong q
unfolding segment_at
segment_prefix_wrong s at n p₀ e₀ q e = rw (← e₀, place_wrong s p₀ q e)

pub segment_group_wrong : (s : List ℕ) (at q : ℕ) → Err q ≡ group_at s at 2 → segment_at s at ≡ wrong q
unfolding segment_at
segment_group_wrong s at q e = rw (← e)

pub ruleset tree_reads = (tree_moves_not, tree_not, tree_views_wrong, tree_list_wrong, tree_both, tree_runs_wrong, tree_rest_wrong, tree_filled)

pub ruleset segment_reads = (segment_moves_not, segment_group_wrong, segment_prefix_wrong, segment_under, segment_tree_wrong, segment_rest_wrong, segment_filled)

-- the unsegmented tree and the segments
module _ (s : List ℕ) (at p₀ : ℕ) (segments segments' runs views runs' views' runs'' views'' : List ℕ) (row : TreeRow) (c d : Cursor) (k p₁ p₂ : ℕ)
    (t : FilledIs (TreeStep s row) UnderTwo (tree_at s at) (two runs views start) (two runs' views' c) p₀) (e : Ok (k, p₁) ≡ list_at s p₀) where
  pub trees_under : (c.outer ≤ p₁) × (c.inner ≤ p₁)
  trees_under = let a = group_within s p₀ 0 k p₁ (sym e) in (omega (arith, t.under.0), omega (arith, t.under.1))

  pub trees_filled : FilledIs (Steps (SegmentStep s)) UnderThree (many (segment_at s) k p₁) (three segments 0 runs' views' c) (three segments' k runs'' views'' d) p₂
      → FilledIs (TreesStep s row) UnderThree (trees_at s at) (three segments 0 runs views start) (three segments' k runs'' views'' d) p₂
  unfolding trees_at
  trees_filled g =
      record {
        value = record { tree = t.value; segments = g.value };
        read = rw (t.read, ← e, g.read);
        step = record { between = two runs' views' c; tree = t.step; segments = g.step };
        under = g.under;
      }
