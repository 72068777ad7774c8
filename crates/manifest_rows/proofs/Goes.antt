-- What is read has no more rows than bytes, so no count of rows wraps. Assumes nothing.
use Rattle.std.specs.Prelude.{Err, Ok, Result}
use Prim.Native.Nat.{ℕ, zero, suc, ◌+◌, ◌-◌, ◌≤◌, ◌<◌}
use mathlib.Core.Path.{◌≡◌, refl}
use mathlib.Core.List.{List}
use native.Mathlib.Omega.{arith}
use lib.ListN.{length, take, drop}
use lib.Dec.{eqb}
use mathlib.Core.Bool.{Bool, true, false}
use Rattle.keys.specs.Pick.{pick}
use Rattle.keys.specs.BigEndian.{be}
use Rattle.msgpack.specs.Head.{head_of}
use Rattle.msgpack.specs.Skip.{after, many_of, value_of, rest_at, deepest}
use Rattle.msgpack.specs.Read.{uint_at, bin_at, id_at, group_at, optional_at, optional_by, on_uint, on_bin, on_id, on_group, on_skipped, on_optional}
use Rattle.msgpack.specs.declared.Head.{Head}
use Rattle.msgpack.specs.declared.Head.TheVariants as head
use Rattle.msgpack.proofs.Ahead.{Ahead, head_within, past_within}
use Rattle.msgpack.proofs.Told.{UintTold, uint_told, GroupTold, group_told, BinTold, bin_told}
use Rattle.manifest_values.specs.Read.{Got, is, wrong, on, ended, many, list_of, option_of, key_at, last_at, edge_at, edge_by, seen_at, view_at, run_at, view_mark_at, sst_mark_at, final_at, sst_id_at, tree_at, segment_at, borrow_at}

-- what is read from `at` on ends at least d bytes on
abbrev pub Goes : {A : Type 0} → ℕ → ℕ → Got A → Type 0
Goes d at (is x p) = at + d ≤ p
Goes d at (wrong q) = Unit {0}

pub goes : {A : Type 0} (d at : ℕ) (g : Got A) (x : A) (p : ℕ) → Goes d at g → g ≡ is x p → at + d ≤ p
goes d at g x p t e = rw e at t

module _ {B : Type 0} (d at : ℕ) where
  goes_on : {A : Type 0} (c a : ℕ) (g : Got A) (k : A → ℕ → Got B) → Goes c a g → ((x : A) (p : ℕ) → a + c ≤ p → Goes d at (k x p)) → Goes d at (on g k)
  goes_on c a (is x p) k t l = l x p t
  goes_on c a (wrong q) k t l = tt

  module _ (s : List ℕ) (a : ℕ) where
    goes_group : (least : ℕ) (k : ℕ → ℕ → Got B) → ((n p : ℕ) → a < p → Goes d at (k n p)) → Goes d at (on_group wrong (group_at s a least) k)
    goes_group least k l = go (group_at s a least) (group_told s a least)
      where
        go : (g : Result (ℕ × ℕ) ℕ) → GroupTold a (length s) least g → Goes d at (on_group wrong g k)
        go (Ok (n, p)) t = l n p t.1.0
        go (Err q) t = tt

    goes_uint : (most : ℕ) (k : ℕ → ℕ → Got B) → ((x p : ℕ) → a < p → Goes d at (k x p)) → Goes d at (on_uint wrong (uint_at s a most) k)
    goes_uint most k l = go (uint_at s a most) (uint_told s a most)
      where
        go : (g : Result (ℕ × ℕ) ℕ) → UintTold a (length s) most g → Goes d at (on_uint wrong g k)
        go (Ok (x, p)) t = l x p t.1.0
        go (Err q) t = tt

    goes_bin : (k : ℕ → ℕ → ℕ → Got B) → ((b n p : ℕ) → a < p → Goes d at (k b n p)) → Goes d at (on_bin wrong (bin_at s a) k)
    goes_bin k l = go (bin_at s a) (bin_told s a)
      where
        go : (g : Result (ℕ × ℕ × ℕ) ℕ) → BinTold a (length s) g → Goes d at (on_bin wrong g k)
        go (Ok (b, n, p)) t = l b n p (omega arith)
        go (Err q) t = tt

    goes_id : (k : ℕ → ℕ → ℕ → Got B) → ((hi lo p : ℕ) → a < p → Goes d at (k hi lo p)) → Goes d at (on_id wrong (id_at s a) k)
    unfolding id_at
    goes_id k l = go (bin_at s a) (bin_told s a)
      where
        go : (g : Result (ℕ × ℕ × ℕ) ℕ) → BinTold a (length s) g → Goes d at (on_id wrong (on_bin Err g λ f n p. pick (eqb n 16) (Ok ((be (take 8 (drop f s))), (be (take 8 (drop (f + 8) s))), p)) (Err a)) k)
        go (Ok (b, n, p)) t = by (eqb n 16)
          where
            by : (x : Bool) → Goes d at (on_id wrong (pick x (Ok ((be (take 8 (drop b s))), (be (take 8 (drop (b + 8) s))), p)) (Err a)) k)
            by true = l _ _ p (omega arith)
            by false = tt
        go (Err q) t = tt

    goes_option : (none : ℕ → Got B) (some : Got B) → ((p : ℕ) → a < p → Goes d at (none p)) → Goes d at some → Goes d at (on_optional (optional_at s a) none some)
    unfolding optional_at optional_by
    goes_option none some l m = go (head_of a (drop a s)) (head_within s a)
      where
        go : (h : Head) → Ahead a (length s) h → Goes d at (on_optional (optional_by h) none some)
        go head.Cut t = m
        go head.Never t = m
        go (head.Nil p) t = l p t.0
        go (head.Flag b p) t = m
        go (head.Uint x p) t = m
        go (head.Minus x p) t = m
        go (head.Bin b n p) t = m
        go (head.Other p) t = m
        go (head.Array n p) t = m
        go (head.Map n p) t = m

-- what is skipped is behind
abbrev Behind : ℕ → Result ℕ ℕ → Type 0
Behind a (Ok q) = a ≤ q
Behind a (Err q) = Unit {0}

many_behind : (s : List ℕ) (r n a : ℕ) → Behind a (many_of (value_of s r) n a)
unfolding many_of
many_behind s r zero a = omega arith
many_behind s r (suc n) a = go (value_of s r a) refl (λ p. many_behind s r n p)
  where
    on_from : (p : ℕ) (x : Result ℕ ℕ) → a ≤ p → Behind p x → Behind a x
    on_from p (Ok q) h b = omega arith
    on_from p (Err q) h b = tt

    go : (x : Result ℕ ℕ) → value_of s r a ≡ x → ((p : ℕ) → Behind p (many_of (value_of s r) n p)) → Behind a (after x (λ p. many_of (value_of s r) n p))
    go (Ok p) e f = let h = past_within s r a p e in on_from p (many_of (value_of s r) n p) (omega arith) (f p)
    go (Err q) e f = tt

pub rest_past : (s : List ℕ) (p n parts e : ℕ) → Ok e ≡ rest_at s p n parts → p ≤ e
rest_past s p n parts e h = rw (← h) at (many_behind s deepest (n - parts) p)

goes_ended : {A : Type 0} (d at : ℕ) (s : List ℕ) (n parts : ℕ) (x : A) (p : ℕ) → at + d ≤ p → Goes d at (ended s n parts x p)
goes_ended d at s n parts x p h = go (rest_at s p n parts) (many_behind s deepest (n - parts) p)
  where
    go : (r : Result ℕ ℕ) → Behind p r → Goes d at (on_skipped wrong r λ q. is x q)
    go (Ok q) b = omega arith
    go (Err q) b = tt

pub goes_many : {A : Type 0} (one : ℕ → Got A) → ((a : ℕ) → Goes 1 a (one a)) → (n at : ℕ) → Goes 0 at (many one n at)
unfolding many
goes_many one f zero at = omega arith
goes_many one f (suc n) at =
    goes_on 0 at 1 at (one at) _ (f at) (λ x p h. goes_on 0 at 0 p (many one n p) _ (goes_many one f n p) (λ xs q l. omega arith))

goes_list : {A : Type 0} (one : ℕ → Got A) → ((a : ℕ) → Goes 1 a (one a)) → (s : List ℕ) (at : ℕ) → Goes 1 at (list_of one s at)
goes_list {A = A} one f s at = goes_group 1 at s at 0 _ (λ n p h. weak p (many one n p) h (goes_many one f n p))
  where
    weak : (p : ℕ) (g : Got (List A)) → at < p → Goes 0 p g → Goes 1 at g
    weak p (is x q) h t = omega arith
    weak p (wrong q) h t = tt

module _ (s : List ℕ) where
  pub goes_key : (at : ℕ) → Goes 1 at (key_at s at)
  goes_key at = goes_bin 1 at s at _ (λ b n p h. omega arith)

  pub goes_sst_id : (at : ℕ) → Goes 1 at (sst_id_at s at)
  goes_sst_id at = goes_id 1 at s at _ (λ hi lo p h. omega arith)

  goes_last : (at : ℕ) → Goes 1 at (last_at s at)
  goes_last at = goes_option 1 at s at _ _ (λ p h. omega arith) (goes_on 1 at 1 at (key_at s at) _ (goes_key at) (λ x p h. h))

  goes_mark : {A : Type 0} (nothing : A) (some : ℕ → ℕ → A) (at : ℕ) → Goes 1 at (option_of nothing (λ p. on_id wrong (id_at s p) λ hi lo q. is (some hi lo) q) s at)
  goes_mark nothing some at = goes_option 1 at s at _ _ (λ p h. omega arith) (goes_id 1 at s at _ (λ hi lo p h. omega arith))

  pub goes_view_mark : (at : ℕ) → Goes 1 at (view_mark_at s at)
  goes_view_mark at = goes_mark _ _ at

  pub goes_sst_mark : (at : ℕ) → Goes 1 at (sst_mark_at s at)
  goes_sst_mark at = goes_mark _ _ at

  pub goes_final : (at : ℕ) → Goes 1 at (final_at s at)
  goes_final at = goes_mark _ _ at

  goes_edge : (at : ℕ) → Goes 1 at (edge_at s at)
  unfolding edge_at
  goes_edge at =
      goes_option 1 at s at _ _ (λ p h. omega arith)
      (goes_group 1 at s at 2 _ λ n p h. goes_uint 1 at s p 1 _ λ kind q i. goes_on 1 at 1 q (key_at s q) _ (goes_key q) λ k r j. goes_ended 1 at s n 2 (edge_by kind k) r (omega arith))

  goes_seen : (at : ℕ) → Goes 1 at (seen_at s at)
  unfolding seen_at
  goes_seen at =
      goes_option 1 at s at _ _ (λ p h. omega arith)
      (goes_group 1 at s at 2 _ λ n p h. goes_on 1 at 1 p (edge_at s p) _ (goes_edge p) λ a q i. goes_on 1 at 1 q (edge_at s q) _ (goes_edge q) λ b r j. goes_ended 1 at s n 2 _ r (omega arith))

  pub goes_view : (at : ℕ) → Goes 1 at (view_at s at)
  unfolding view_at
  goes_view at =
      goes_group 1 at s at 5 _ λ n p₀ h₀. goes_id 1 at s p₀ _ λ vh vl p₁ h₁. goes_id 1 at s p₁ _ λ sh sl p₂ h₂.
      goes_on 1 at 1 p₂ (key_at s p₂) _ (goes_key p₂) λ first p₃ h₃. goes_on 1 at 1 p₃ (last_at s p₃) _ (goes_last p₃) λ last p₄ h₄.
      goes_on 1 at 1 p₄ (seen_at s p₄) _ (goes_seen p₄) λ seen p₅ h₅. goes_ended 1 at s n 5 _ p₅ (omega arith)

  pub goes_run : (at : ℕ) → Goes 1 at (run_at s at)
  unfolding run_at
  goes_run at =
      goes_group 1 at s at 2 _ λ n p₀ h₀. goes_uint 1 at s p₀ _ _ λ i p₁ h₁. goes_on 1 at 1 p₁ (list_of (view_at s) s p₁) _ (goes_list (view_at s) goes_view s p₁) λ vs p₂ h₂.
      goes_ended 1 at s n 2 _ p₂ (omega arith)

  pub goes_borrow : (at : ℕ) → Goes 1 at (borrow_at s at)
  unfolding borrow_at
  goes_borrow at =
      goes_group 1 at s at 4 _ λ n p₀ h₀. goes_on 1 at 1 p₀ (key_at s p₀) _ (goes_key p₀) λ path p₁ h₁. goes_id 1 at s p₁ _ λ hi lo p₂ h₂.
      goes_on 1 at 1 p₂ (final_at s p₂) _ (goes_final p₂) λ f p₃ h₃. goes_on 1 at 1 p₃ (list_of (sst_id_at s) s p₃) _ (goes_list (sst_id_at s) goes_sst_id s p₃) λ xs p₄ h₄.
      goes_ended 1 at s n 4 _ p₄ (omega arith)

  pub goes_tree : (at : ℕ) → Goes 1 at (tree_at s at)
  unfolding tree_at
  goes_tree at =
      goes_group 1 at s at 4 _ λ n p₀ h₀. goes_on 1 at 1 p₀ (view_mark_at s p₀) _ (goes_view_mark p₀) λ x p₁ h₁. goes_on 1 at 1 p₁ (sst_mark_at s p₁) _ (goes_sst_mark p₁) λ y p₂ h₂.
      goes_on 1 at 1 p₂ (list_of (view_at s) s p₂) _ (goes_list (view_at s) goes_view s p₂) λ l0 p₃ h₃. goes_on 1 at 1 p₃ (list_of (run_at s) s p₃) _ (goes_list (run_at s) goes_run s p₃) λ rs p₄ h₄.
      goes_ended 1 at s n 4 _ p₄ (omega arith)

  pub goes_segment : (at : ℕ) → Goes 1 at (segment_at s at)
  unfolding segment_at
  goes_segment at =
      goes_group 1 at s at 2 _ λ n p₀ h₀. goes_on 1 at 1 p₀ (key_at s p₀) _ (goes_key p₀) λ prefix p₁ h₁. goes_on 1 at 1 p₁ (tree_at s p₁) _ (goes_tree p₁) λ t p₂ h₂.
      goes_ended 1 at s n 2 _ p₂ (omega arith)
