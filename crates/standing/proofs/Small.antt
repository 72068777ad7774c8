-- THE RUN IDS OF A MANIFEST THAT WAS READ ARE OF 32 BITS: a number out of its field's range is wrong. Assumes nothing.
use Rattle.std.specs.Prelude.{Err, Ok, Result}
use Prim.Native.Nat.{ℕ, zero, suc, ◌-◌, ◌^◌, ◌≤◌}
use mathlib.Core.Path.{◌≡◌, refl}
use mathlib.Core.Bool.{Bool, true, ◌&&◌}
use mathlib.Core.List.{List}
use native.Mathlib.Omega.{arith}
use borrow.Author.Tests.{lt-ltb}
use lib.ListN.{length}
use Rattle.records.specs.Model.{Tree, Segment, Manifest}
use Rattle.measure.specs.Tests.{all_of}
use Rattle.measure.proofs.Lies.{both, and_each}
use Rattle.measure.proofs.Layouts.{id_small}
use Rattle.history.proofs.Tables.{Small}
use Rattle.msgpack.specs.Skip.{rest_at}
use Rattle.msgpack.specs.Read.{uint_at, flag_at, group_at, on_uint, on_flag, on_group, on_skipped}
use Rattle.msgpack.proofs.Told.{UintTold, uint_told}
use Rattle.manifest_values.specs.Read.{Got, is, wrong, on, ended, many, list_of, key_at, view_mark_at, sst_mark_at, view_at, run_at, tree_at, segment_at, Trees, trees_at, name_at, numbers_at, borrows_at, epochs_at, manifest_at}

-- what was read passes a test, if it was read
abbrev Has : {A : Type 0} → (A → Bool) → Got A → Type 0
Has f (is x p) = f x ≡ true
Has f (wrong q) = Unit {0}

has : {A : Type 0} (f : A → Bool) (g : Got A) (x : A) (p : ℕ) → Has f g → g ≡ is x p → f x ≡ true
has f g x p t e = rw e at t

module _ {B : Type 0} (f : B → Bool) where
  -- whatever was read first
  has_on : {A : Type 0} (g : Got A) (k : A → ℕ → Got B) → ((x : A) (p : ℕ) → Has f (k x p)) → Has f (on g k)
  has_on (is x p) k l = l x p
  has_on (wrong q) k l = tt

  has_with : {A : Type 0} (h : A → Bool) (g : Got A) (k : A → ℕ → Got B) → Has h g → ((x : A) (p : ℕ) → h x ≡ true → Has f (k x p)) → Has f (on g k)
  has_with h (is x p) k t l = l x p t
  has_with h (wrong q) k t l = tt

  has_group : (g : Result (ℕ × ℕ) ℕ) (k : ℕ → ℕ → Got B) → ((n p : ℕ) → Has f (k n p)) → Has f (on_group wrong g k)
  has_group (Ok (n, p)) k l = l n p
  has_group (Err q) k l = tt

  has_flag : (g : Result (Bool × ℕ) ℕ) (k : Bool → ℕ → Got B) → ((b : Bool) (p : ℕ) → Has f (k b p)) → Has f (on_flag wrong g k)
  has_flag (Ok (b, p)) k l = l b p
  has_flag (Err q) k l = tt

  has_uint : (s : List ℕ) (at most : ℕ) (k : ℕ → ℕ → Got B) → ((x p : ℕ) → x ≤ most → Has f (k x p)) → Has f (on_uint wrong (uint_at s at most) k)
  has_uint s at most k l = go (uint_at s at most) (uint_told s at most)
    where
      go : (g : Result (ℕ × ℕ) ℕ) → UintTold at (length s) most g → Has f (on_uint wrong g k)
      go (Ok (x, p)) t = l x p t.0
      go (Err q) t = tt

  has_ended : (s : List ℕ) (n parts : ℕ) (x : B) (p : ℕ) → f x ≡ true → Has f (ended s n parts x p)
  has_ended s n parts x p h = go (rest_at s p n parts)
    where
      go : (r : Result ℕ ℕ) → Has f (on_skipped wrong r λ q. is x q)
      go (Ok q) = h
      go (Err q) = tt

has_many : {A : Type 0} (f : A → Bool) (one : ℕ → Got A) → ((p : ℕ) → Has f (one p)) → (n at : ℕ) → Has (all_of f) (many one n at)
unfolding many
has_many f one h zero at = refl
has_many f one h (suc n) at =
    has_with (all_of f) f (one at) _ (h at) (λ x p e. has_with (all_of f) (all_of f) (many one n p) _ (has_many f one h n p) (λ xs q g. both (f x) (all_of f xs) e g))

has_list : {A : Type 0} (f : A → Bool) (one : ℕ → Got A) → ((p : ℕ) → Has f (one p)) → (s : List ℕ) (at : ℕ) → Has (all_of f) (list_of one s at)
has_list f one h s at = has_group (all_of f) (group_at s at 0) _ (λ n p. has_many f one h n p)

abbrev tree_small : Tree → Bool
tree_small t = all_of id_small t.runs

abbrev segment_small : Segment → Bool
segment_small s = tree_small s.tree

module _ (s : List ℕ) where
  run_small : (at : ℕ) → Has id_small (run_at s at)
  unfolding run_at
  run_small at =
      has_group id_small (group_at s at 2) _ λ n p₀. has_uint id_small s p₀ (2 ^ 32 - 1) _ λ id p₁ h. has_on id_small (list_of (view_at s) s p₁) _ λ vs p₂.
      has_ended id_small s n 2 _ p₂ (lt-ltb id (2 ^ 32) (omega arith))

  tree_small_lem : (at : ℕ) → Has tree_small (tree_at s at)
  unfolding tree_at
  tree_small_lem at =
      has_group tree_small (group_at s at 4) _ λ n p₀. has_on tree_small (view_mark_at s p₀) _ λ v p₁. has_on tree_small (sst_mark_at s p₁) _ λ x p₂. has_on tree_small (list_of (view_at s) s p₂) _ λ l0 p₃.
      has_with tree_small (all_of id_small) (list_of (run_at s) s p₃) _ (has_list id_small (run_at s) run_small s p₃) λ rs p₄ h. has_ended tree_small s n 4 _ p₄ h

  segment_small_lem : (at : ℕ) → Has segment_small (segment_at s at)
  unfolding segment_at
  segment_small_lem at =
      has_group segment_small (group_at s at 2) _ λ n p₀. has_on segment_small (key_at s p₀) _ λ prefix p₁. has_with segment_small tree_small (tree_at s p₁) _ (tree_small_lem p₁) λ t p₂ h.
      has_ended segment_small s n 2 _ p₂ h

-- ---- a manifest

abbrev trees_small : Trees → Bool
trees_small t = tree_small t.tree && all_of segment_small t.segments

abbrev manifest_small : Manifest → Bool
manifest_small m = tree_small m.tree && all_of segment_small m.segments

module _ (s : List ℕ) where
  trees_small_lem : (at : ℕ) → Has trees_small (trees_at s at)
  unfolding trees_at
  trees_small_lem at =
      has_with trees_small tree_small (tree_at s at) _ (tree_small_lem s at) λ t p h.
      has_with trees_small (all_of segment_small) (list_of (segment_at s) s p) _ (has_list segment_small (segment_at s) (segment_small_lem s) s p) λ ss q g. both (tree_small t) (all_of segment_small ss) h g

  manifest_small_lem : (at : ℕ) → Has manifest_small (manifest_at s at)
  unfolding manifest_at
  manifest_small_lem at =
      has_group manifest_small (group_at s at 12) _ λ n p₀. has_flag manifest_small (flag_at s p₀) _ λ init p₁. has_with manifest_small trees_small (trees_at s p₁) _ (trees_small_lem p₁) λ t p₂ h.
      has_on manifest_small (name_at s p₂) _ λ name p₃. has_on manifest_small (numbers_at s p₃) _ λ x p₄. has_on manifest_small (borrows_at s p₄) _ λ bs p₅. has_on manifest_small (epochs_at s p₅) _ λ e p₆.
      has_ended manifest_small s n 12 _ p₆ h

  pub read_small : (at : ℕ) (m : Manifest) (p : ℕ) → manifest_at s at ≡ is m p → Small m
  read_small at m p e =
      let w = and_each (tree_small m.tree) (all_of segment_small m.segments) (has manifest_small (manifest_at s at) m p (manifest_small_lem at) e) in
      record { own = w.0; each = w.1 }
