-- Which manifest some bytes are, or where the first wrong value starts. "Reading accepts every integer, array and bin width"; "an array
-- too short is itself wrong"; "Further elements after the named ones are skipped, nested ones included."
use Rattle.std.specs.Prelude.{ℕ, zero, suc, ◌-◌, ◌^◌, List, [], ◌∷◌, take, drop, None, Option, Some}
use Rattle.keys.specs.Range.{Edge, unbounded, included, excluded}
use Rattle.ids.specs.declared.SstId.{SstId}
use Rattle.records.specs.Model.{LastKey, unknown, known, Seen, all, only, View, Run, Tree, Segment, Borrow, Extractor, none, named, Manifest}
use Rattle.msgpack.specs.Read.{uint_at, int_at, flag_at, bin_at, id_at, group_at, list_at, optional_at, on_uint, on_int, on_flag, on_bin, on_id, on_group, on_skipped, on_optional}
use Rattle.msgpack.specs.Skip.{rest_at}
use Rattle.manifest_values.specs.declared.Numbers.{Numbers}
use Rattle.manifest_values.specs.declared.Epochs.{Epochs}
use Rattle.ids.specs.declared.ViewId.{ViewId}
use Rattle.ids.specs.declared.Uuid.{Uuid}

-- what stands at a place, and the place after it; or the "start of the first wrong value"
pub data Got (A : Type 0) : Type 0 where
  is : A → ℕ → Got A
  wrong : ℕ → Got A

abbrev pub on : {A B : Type 0} → Got A → (A → ℕ → Got B) → Got B
on (is x p) k = k x p
on (wrong q) k = wrong q

-- a record with so many named parts, of whose n elements the named ones were read up to p: the further ones are skipped
abbrev pub ended : {A : Type 0} → List ℕ → ℕ → ℕ → A → ℕ → Got A
ended s n parts x p = on_skipped wrong (rest_at s p n parts) λ q. is x q

-- n records in a row
unfoldable pub many : {A : Type 0} → (ℕ → Got A) → ℕ → ℕ → Got (List A)
many one zero at = is [] at
many one (suc n) at = on (one at) λ x p. on (many one n p) λ xs q. is (x ∷ xs) q

-- a list: "lists have none" further elements
abbrev pub list_of : {A : Type 0} → (ℕ → Got A) → List ℕ → ℕ → Got (List A)
list_of one s at = on_group wrong (list_at s at) λ n p. many one n p

-- "absent is nil"
abbrev pub option_of : {A : Type 0} → A → (ℕ → Got A) → List ℕ → ℕ → Got A
option_of nothing some s at = on_optional (optional_at s at) (λ p. is nothing p) (some at)

-- a bin's bytes
abbrev pub key_at : List ℕ → ℕ → Got (List ℕ)
key_at s at = on_bin wrong (bin_at s at) λ from len p. is (take len (drop from s)) p

abbrev pub sst_id_at : List ℕ → ℕ → Got SstId
sst_id_at s at = on_id wrong (id_at s at) λ hi lo p. is (hi, lo) p

-- an id or nil, whatever type holds the id: `of` makes one of its two halves
abbrev pub mark_at : {A : Type 0} → (ℕ → ℕ → A) → List ℕ → ℕ → Got (Option A)
mark_at of s at = option_of None (λ p. on_id wrong (id_at s p) λ hi lo q. is (Some (of hi lo)) q) s at

abbrev pub view_mark_at : List ℕ → ℕ → Got (Option ViewId)
view_mark_at s at = mark_at (λ hi lo. (hi, lo)) s at

abbrev pub sst_mark_at : List ℕ → ℕ → Got (Option SstId)
sst_mark_at s at = mark_at (λ hi lo. (hi, lo)) s at

abbrev pub final_at : List ℕ → ℕ → Got (Option Uuid)
final_at s at = mark_at (λ hi lo. (hi, lo)) s at

abbrev pub edge_by : ℕ → List ℕ → Edge
edge_by zero k = included k
edge_by (suc n) k = excluded k

-- "a bound nil, [0, key] included or [1, key] excluded"
unfoldable pub edge_at : List ℕ → ℕ → Got Edge
edge_at s at =
    option_of unbounded
    (λ at. on_group wrong (group_at s at 2) λ n p. on_uint wrong (uint_at s p 1) λ kind q. on (key_at s q) λ k r. ended s n 2 (edge_by kind k) r)
    s at

-- "a visible range is [start, end]"
unfoldable pub seen_at : List ℕ → ℕ → Got Seen
seen_at s at =
    option_of all
    (λ at. on_group wrong (group_at s at 2) λ n p. on (edge_at s p) λ a q. on (edge_at s q) λ b r. ended s n 2 (only (record { start = a; end = b })) r)
    s at

abbrev pub last_at : List ℕ → ℕ → Got LastKey
last_at s at = option_of unknown (λ p. on (key_at s p) λ k q. is (known k) q) s at

unfoldable pub view_at : List ℕ → ℕ → Got View
view_at s at =
    on_group wrong (group_at s at 5) λ n p₀. on_id wrong (id_at s p₀) λ vh vl p₁. on_id wrong (id_at s p₁) λ sh sl p₂. on (key_at s p₂) λ first p₃. on (last_at s p₃) λ last p₄. on (seen_at s p₄) λ seen p₅.
    ended s n 5 (record { id = (vh, vl); sst = (sh, sl); first = first; last = last; visible = seen }) p₅

unfoldable pub run_at : List ℕ → ℕ → Got Run
run_at s at =
    on_group wrong (group_at s at 2) λ n p₀. on_uint wrong (uint_at s p₀ (2 ^ 32 - 1)) λ id p₁. on (list_of (view_at s) s p₁) λ vs p₂.
    ended s n 2 (record { id = id; views = vs }) p₂

unfoldable pub tree_at : List ℕ → ℕ → Got Tree
tree_at s at =
    on_group wrong (group_at s at 4) λ n p₀. on (view_mark_at s p₀) λ v p₁. on (sst_mark_at s p₁) λ x p₂. on (list_of (view_at s) s p₂) λ l0 p₃. on (list_of (run_at s) s p₃) λ rs p₄.
    ended s n 4 (record { view_mark = v; sst_mark = x; l0 = l0; runs = rs }) p₄

unfoldable pub segment_at : List ℕ → ℕ → Got Segment
segment_at s at =
    on_group wrong (group_at s at 2) λ n p₀. on (key_at s p₀) λ prefix p₁. on (tree_at s p₁) λ t p₂.
    ended s n 2 (record { prefix = prefix; tree = t }) p₂

unfoldable pub borrow_at : List ℕ → ℕ → Got Borrow
borrow_at s at =
    on_group wrong (group_at s at 4) λ n p₀. on (key_at s p₀) λ path p₁. on_id wrong (id_at s p₁) λ hi lo p₂. on (final_at s p₂) λ f p₃. on (list_of (sst_id_at s) s p₃) λ xs p₄.
    ended s n 4 (record { path = path; source = (hi, lo); final = f; ids = xs }) p₄

abbrev pub name_at : List ℕ → ℕ → Got Extractor
name_at s at = option_of none (λ p. on (key_at s p) λ k q. is (named k) q) s at

-- the largest number of 64 bits
abbrev pub most : ℕ
most = 2 ^ 64 - 1

-- "unsegmented tree, segments"
pub record Trees : Type 0 where
  pub tree : Tree
  pub segments : List Segment

unfoldable pub trees_at : List ℕ → ℕ → Got Trees
trees_at s at = on (tree_at s at) λ t p. on (list_of (segment_at s) s p) λ ss q. is (record { tree = t; segments = ss }) q

unfoldable pub borrows_at : List ℕ → ℕ → Got (List Borrow)
borrows_at s at = list_of (borrow_at s) s at

-- "next_wal_sst_id, replay_after_wal_id, last_l0_clock_tick (i64), last_l0_seq, recent_snapshot_min_seq"
unfoldable pub numbers_at : List ℕ → ℕ → Got Numbers
numbers_at s at =
    on_uint wrong (uint_at s at most) λ next p₀. on_uint wrong (uint_at s p₀ most) λ replay p₁. on_int wrong (int_at s p₁) λ tick p₂. on_uint wrong (uint_at s p₂ most) λ seq p₃. on_uint wrong (uint_at s p₃ most) λ recent p₄.
    is (record { next_wal_sst_id = next; replay_after_wal_id = replay; last_l0_clock_tick = tick; last_l0_seq = seq; recent_snapshot_min_seq = recent }) p₄

-- "writer epoch, compactor epoch"
unfoldable pub epochs_at : List ℕ → ℕ → Got Epochs
epochs_at s at = on_uint wrong (uint_at s at most) λ writer p₀. on_uint wrong (uint_at s p₀ most) λ compactor p₁. is (record { writer = writer; compactor = compactor }) p₁

-- "Manifest: initialized, unsegmented tree, segments, extractor name or none, .., borrows, .."
unfoldable pub manifest_at : List ℕ → ℕ → Got Manifest
manifest_at s at =
    on_group wrong (group_at s at 12) λ n p₀. on_flag wrong (flag_at s p₀) λ init p₁. on (trees_at s p₁) λ t p₂. on (name_at s p₂) λ name p₃. on (numbers_at s p₃) λ x p₄.
    on (borrows_at s p₄) λ bs p₅. on (epochs_at s p₅) λ e p₆.
    ended s n 12
    (record {
      initialized = init;
      tree = t.tree;
      segments = t.segments;
      extractor = name;
      next_wal_sst_id = x.next_wal_sst_id;
      replay_after_wal_id = x.replay_after_wal_id;
      last_l0_clock_tick = x.last_l0_clock_tick;
      last_l0_seq = x.last_l0_seq;
      recent_snapshot_min_seq = x.recent_snapshot_min_seq;
      borrows = bs;
      writer_epoch = e.writer;
      compactor_epoch = e.compactor;
    })
    p₆
