-- A record that is read in parts: what its first part leaves. Assumes nothing.
use Rattle.std.specs.Prelude.{Err, Ok, Result}
use Prim.Native.Nat.{ℕ, ◌-◌, ◌^◌, ◌<◌}
use mathlib.Core.Path.{◌≡◌, refl, sym, ◌∙◌}
use mathlib.Core.Bool.{Bool}
use mathlib.Core.List.{List}
use native.Mathlib.Omega.{arith}
use lib.ListN.{length}
use Rattle.records.specs.Model.{Run, Tree, Borrow, Manifest}
use Rattle.records.specs.Decode.{bytes_in}
use Rattle.records.specs.declared.Place.{Place}
use Rattle.msgpack.specs.Skip.{rest_at}
use Rattle.msgpack.specs.Read.{uint_at, flag_at, id_at, group_at, list_at, on_uint, on_flag, on_id, on_group, on_skipped}
use Rattle.msgpack.proofs.Told.{group_within, uint_within}
use Rattle.manifest_values.specs.Read.{Got, is, wrong, on, ended, many, key_at, sst_id_at, view_at, run_at, tree_at, borrow_at, view_mark_at, sst_mark_at, final_at, trees_at, name_at, numbers_at, borrows_at, epochs_at, manifest_at, list_of}
use Rattle.manifest_values.specs.Rows as rows
use Rattle.manifest_values.specs.Rows.{got}
use Rattle.manifest_rows.specs.declared.RunHead.{RunHead}
use Rattle.manifest_rows.specs.declared.BorrowHead.{BorrowHead}
use Rattle.manifest_rows.specs.declared.TreeHead.{TreeHead}
use Rattle.manifest_rows.specs.Stored.{PlaceIn, PlaceOver}
use Rattle.manifest_rows.specs.Steps.{run_head_at, borrow_head_at, tree_head_at, FirstHalf, first_at, SecondHalf, second_at}
use Rattle.manifest_rows.proofs.Goes.{goes, goes_key, goes_view_mark, goes_sst_mark, goes_final, goes_sst_id}
use Rattle.manifest_rows.proofs.Overs.{Alike, alike, both_wrong, place_over}

-- where the part is read, the whole is as R says; where the part is wrong, the whole is
abbrev pub Cut : {A H : Type 0} → (H → ℕ → Got A → Type 0) → Got H → Got A → Type 0
Cut R (is h p) g = R h p g
Cut R (wrong q) g = g ≡ wrong q

module _ {A H : Type 0} (R : H → ℕ → Got A → Type 0) where
  pub cut_is : (d : Got H) (g : Got A) (h : H) (p : ℕ) → Cut R d g → d ≡ is h p → R h p g
  cut_is d g h p c e = rw e at c

  pub cut_wrong : (d : Got H) (g : Got A) (q : ℕ) → Cut R d g → d ≡ wrong q → g ≡ wrong q
  cut_wrong d g q c e = rw e at c

  cut_on : {B : Type 0} (x : Got B) (k : B → ℕ → Got H) (l : B → ℕ → Got A) → ((y : B) (p : ℕ) → x ≡ is y p → Cut R (k y p) (l y p)) → Cut R (on x k) (on x l)
  cut_on (is y p) k l f = f y p refl
  cut_on (wrong q) k l f = refl

  cut_group : (x : Result (ℕ × ℕ) ℕ) (k : ℕ → ℕ → Got H) (l : ℕ → ℕ → Got A) → ((n p : ℕ) → x ≡ Ok (n, p) → Cut R (k n p) (l n p)) → Cut R (on_group wrong x k) (on_group wrong x l)
  cut_group (Ok (n, p)) k l f = f n p refl
  cut_group (Err q) k l f = refl

  -- a list, of which the part has its size
  cut_list : {B : Type 0} (x : Result (ℕ × ℕ) ℕ) (one : ℕ → Got B) (k : ℕ → ℕ → Got H) (l : List B → ℕ → Got A) → ((n p : ℕ) → x ≡ Ok (n, p) → Cut R (k n p) (on (many one n p) l))
      → Cut R (on_group wrong x k) (on (on_group wrong x λ n p. many one n p) l)
  cut_list (Ok (n, p)) one k l f = f n p refl
  cut_list (Err q) one k l f = refl

  cut_uint : (x : Result (ℕ × ℕ) ℕ) (k : ℕ → ℕ → Got H) (l : ℕ → ℕ → Got A) → ((n p : ℕ) → x ≡ Ok (n, p) → Cut R (k n p) (l n p)) → Cut R (on_uint wrong x k) (on_uint wrong x l)
  cut_uint (Ok (n, p)) k l f = f n p refl
  cut_uint (Err q) k l f = refl

  cut_flag : (x : Result (Bool × ℕ) ℕ) (k : Bool → ℕ → Got H) (l : Bool → ℕ → Got A) → ((b : Bool) (p : ℕ) → x ≡ Ok (b, p) → Cut R (k b p) (l b p)) → Cut R (on_flag wrong x k) (on_flag wrong x l)
  cut_flag (Ok (b, p)) k l f = f b p refl
  cut_flag (Err q) k l f = refl

  cut_id : (x : Result (ℕ × ℕ × ℕ) ℕ) (k : ℕ → ℕ → ℕ → Got H) (l : ℕ → ℕ → ℕ → Got A) → ((hi lo p : ℕ) → x ≡ Ok (hi, lo, p) → Cut R (k hi lo p) (l hi lo p)) → Cut R (on_id wrong x k) (on_id wrong x l)
  cut_id (Ok (hi, lo, p)) k l f = f hi lo p refl
  cut_id (Err q) k l f = refl

  cut_ended : (s : List ℕ) (n parts : ℕ) (x : H) (y : A) (p : ℕ) → ((q : ℕ) → R x q (is y q)) → Cut R (ended s n parts x p) (ended s n parts y p)
  cut_ended s n parts x y p f = go (rest_at s p n parts)
    where
      go : (r : Result ℕ ℕ) → Cut R (on_skipped wrong r λ q. is x q) (on_skipped wrong r λ q. is y q)
      go (Ok q) = f q
      go (Err q) = refl

  -- a key, of which the part has the place
  cut_key : (s : List ℕ) (a : ℕ) (k : Place → ℕ → Got H) (l : List ℕ → ℕ → Got A) → ((x : Place) (p : ℕ) → key_at s a ≡ is (bytes_in s x) p → PlaceIn (length s) x → Cut R (k x p) (l (bytes_in s x) p))
      → Cut R (on (rows.place_at s a) k) (on (key_at s a) l)
  cut_key s a k l f = go (rows.place_at s a) (key_at s a) (place_over s a) f
    where
      go : (d : Got Place) (g : Got (List ℕ)) → Alike (PlaceOver s) d g → ((x : Place) (p : ℕ) → g ≡ is (bytes_in s x) p → PlaceIn (length s) x → Cut R (k x p) (l (bytes_in s x) p)) → Cut R (on d k) (on g l)
      go d g (alike {x} {y} {p} o) f = rw o.0 at (f x p (rw o.0) o.1)
      go d g both_wrong f = refl

module _ (s : List ℕ) (at : ℕ) where
  pub record RunBegun (h : RunHead) (p : ℕ) (g : Got Run) : Type 0 where
    pub past : at < p
    pub small : h.id < 2 ^ 32
    pub rest : g ≡ on (many (view_at s) h.views p) λ vs q. ended s h.parts 2 (record { id = h.id; views = vs }) q

  run_cut : Cut RunBegun (run_head_at s at) (run_at s at)
  unfolding run_head_at run_at
  run_cut =
      cut_group RunBegun (group_at s at 2) _ _ λ n p₀ e₀. cut_uint RunBegun (uint_at s p₀ (2 ^ 32 - 1)) _ _ λ i p₁ e₁. cut_list RunBegun (list_at s p₁) (view_at s) _ _ λ k p₂ e₂.
      let a = group_within s at 2 n p₀ e₀ in
      let b = uint_within s p₀ (2 ^ 32 - 1) i p₁ e₁ in
      let c = group_within s p₁ 0 k p₂ e₂ in
      record { past = omega arith; small = omega arith; rest = refl }

  pub run_begun : (h : RunHead) (p : ℕ) → is h p ≡ run_head_at s at → RunBegun h p (run_at s at)
  run_begun h p e = cut_is RunBegun (run_head_at s at) (run_at s at) h p run_cut (sym e)

  pub run_wrong : (q : ℕ) → wrong q ≡ run_head_at s at → run_at s at ≡ wrong q
  run_wrong q e = cut_wrong RunBegun (run_head_at s at) (run_at s at) q run_cut (sym e)

  pub record BorrowBegun (h : BorrowHead) (p : ℕ) (g : Got Borrow) : Type 0 where
    pub past : at < p
    pub inside : PlaceIn (length s) h.path
    pub rest : g ≡ on (many (sst_id_at s) h.ids p) λ xs q. ended s h.parts 4 (record { path = bytes_in s h.path; source = h.source; final = h.fin; ids = xs }) q

  borrow_cut : Cut BorrowBegun (borrow_head_at s at) (borrow_at s at)
  unfolding borrow_head_at borrow_at
  borrow_cut =
      cut_group BorrowBegun (group_at s at 4) _ _ λ n p₀ e₀. cut_key BorrowBegun s p₀ _ _ λ path p₁ e₁ i. cut_id BorrowBegun (id_at s p₁) _ _ λ hi lo p₂ e₂.
      cut_on BorrowBegun (final_at s p₂) _ _ λ f p₃ e₃. cut_list BorrowBegun (list_at s p₃) (sst_id_at s) _ _ λ k p₄ e₄.
      let a = group_within s at 4 n p₀ e₀ in
      let b = goes 1 p₀ (key_at s p₀) _ p₁ (goes_key s p₀) e₁ in
      let c = goes 1 p₁ (sst_id_at s p₁) (hi, lo) p₂ (goes_sst_id s p₁) (rw e₂) in
      let d = goes 1 p₂ (final_at s p₂) f p₃ (goes_final s p₂) e₃ in
      let g = group_within s p₃ 0 k p₄ e₄ in
      record { past = omega arith; inside = i; rest = refl }

  pub borrow_begun : (h : BorrowHead) (p : ℕ) → is h p ≡ borrow_head_at s at → BorrowBegun h p (borrow_at s at)
  borrow_begun h p e = cut_is BorrowBegun (borrow_head_at s at) (borrow_at s at) h p borrow_cut (sym e)

  pub borrow_wrong : (q : ℕ) → wrong q ≡ borrow_head_at s at → borrow_at s at ≡ wrong q
  borrow_wrong q e = cut_wrong BorrowBegun (borrow_head_at s at) (borrow_at s at) q borrow_cut (sym e)

  pub record TreeBegun (h : TreeHead) (p : ℕ) (g : Got Tree) : Type 0 where
    pub past : at < p
    pub rest : g ≡ on (many (view_at s) h.views p) λ l0 q. on (list_of (run_at s) s q) λ rs e. ended s h.parts 4 (record { view_mark = h.view; sst_mark = h.sst; l0 = l0; runs = rs }) e

  tree_cut : Cut TreeBegun (tree_head_at s at) (tree_at s at)
  unfolding tree_head_at tree_at
  tree_cut =
      cut_group TreeBegun (group_at s at 4) _ _ λ n p₀ e₀. cut_on TreeBegun (view_mark_at s p₀) _ _ λ x p₁ e₁. cut_on TreeBegun (sst_mark_at s p₁) _ _ λ y p₂ e₂.
      cut_list TreeBegun (list_at s p₂) (view_at s) _ _ λ k p₃ e₃.
      let a = group_within s at 4 n p₀ e₀ in
      let b = goes 1 p₀ (view_mark_at s p₀) x p₁ (goes_view_mark s p₀) e₁ in
      let c = goes 1 p₁ (sst_mark_at s p₁) y p₂ (goes_sst_mark s p₁) e₂ in
      let d = group_within s p₂ 0 k p₃ e₃ in
      record { past = omega arith; rest = refl }

  pub tree_begun : (h : TreeHead) (p : ℕ) → is h p ≡ tree_head_at s at → TreeBegun h p (tree_at s at)
  tree_begun h p e = cut_is TreeBegun (tree_head_at s at) (tree_at s at) h p tree_cut (sym e)

  pub tree_not : (q : ℕ) → wrong q ≡ tree_head_at s at → tree_at s at ≡ wrong q
  tree_not q e = cut_wrong TreeBegun (tree_head_at s at) (tree_at s at) q tree_cut (sym e)

-- ---- a manifest's two halves

module _ (s : List ℕ) where
  abbrev pub whole : FirstHalf → SecondHalf → Manifest
  whole h k =
      record {
        initialized = h.initialized;
        tree = h.trees.tree;
        segments = h.trees.segments;
        extractor = k.extractor;
        next_wal_sst_id = k.numbers.next_wal_sst_id;
        replay_after_wal_id = k.numbers.replay_after_wal_id;
        last_l0_clock_tick = k.numbers.last_l0_clock_tick;
        last_l0_seq = k.numbers.last_l0_seq;
        recent_snapshot_min_seq = k.numbers.recent_snapshot_min_seq;
        borrows = k.borrows;
        writer_epoch = k.epochs.writer;
        compactor_epoch = k.epochs.compactor;
      }

  module _ (h : FirstHalf) where
    abbrev Whole : SecondHalf → ℕ → Got Manifest → Type 0
    Whole k q g = g ≡ is (whole h k) q

    rest : ℕ → Got Manifest
    rest p =
        on (name_at s p) λ name p₀. on (numbers_at s p₀) λ x p₁. on (borrows_at s p₁) λ bs p₂. on (epochs_at s p₂) λ e p₃.
        ended s h.parts 12 (whole h (record { extractor = name; numbers = x; borrows = bs; epochs = e })) p₃

    second_cut : (p : ℕ) → Cut Whole (second_at s h.parts p) (rest p)
    unfolding second_at rest
    second_cut p =
        cut_on Whole (name_at s p) _ _ λ name p₀ e₀. cut_on Whole (numbers_at s p₀) _ _ λ x p₁ e₁. cut_on Whole (borrows_at s p₁) _ _ λ bs p₂ e₂. cut_on Whole (epochs_at s p₂) _ _ λ y p₃ e₃.
        cut_ended Whole s h.parts 12 _ _ p₃ (λ q. refl)

  first_cut : Cut (λ h p g. g ≡ rest h p) (first_at s 0) (manifest_at s 0)
  unfolding first_at manifest_at rest
  first_cut = cut_group _ (group_at s 0 12) _ _ λ n p₀ e₀. cut_flag _ (flag_at s p₀) _ _ λ b p₁ e₁. cut_on _ (trees_at s p₁) _ _ λ t p₂ e₂. refl

  pub manifest_read : (h : FirstHalf) (p : ℕ) (k : SecondHalf) (q : ℕ) → first_at s 0 ≡ is h p → second_at s h.parts p ≡ is k q → manifest_at s 0 ≡ is (whole h k) q
  manifest_read h p k q e f = cut_is _ (first_at s 0) (manifest_at s 0) h p first_cut e ∙ cut_is (Whole h) (second_at s h.parts p) (rest h p) k q (second_cut h p) f

  pub first_wrong : (q : ℕ) → first_at s 0 ≡ wrong q → manifest_at s 0 ≡ wrong q
  first_wrong q e = cut_wrong _ (first_at s 0) (manifest_at s 0) q first_cut e

  pub second_wrong : (h : FirstHalf) (p q : ℕ) → first_at s 0 ≡ is h p → second_at s h.parts p ≡ wrong q → manifest_at s 0 ≡ wrong q
  second_wrong h p q e f = cut_is _ (first_at s 0) (manifest_at s 0) h p first_cut e ∙ cut_wrong (Whole h) (second_at s h.parts p) (rest h p) q (second_cut h p) f
