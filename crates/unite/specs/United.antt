-- The union of some sources.
use Rattle.std.specs.Prelude.{ℕ, ◌+◌, Bool, List, [], ◌∷◌, ◌++◌, length}
use Rattle.ids.specs.declared.Uuid.{Uuid}
use Rattle.records.specs.Model.{Tree, Segment, Borrow, Extractor, none, named, Manifest}
use Rattle.records.specs.New.{new_tree, new_manifest}
use Rattle.merge.specs.Merge.{some_of}
use Rattle.borrows.specs.Owned.{owned_of}
use Rattle.borrows.specs.Clone.{refuses15}
use Rattle.unite_ranges.specs.Arranged.{whats}
use Rattle.unite_trees.specs.Joined.{joined_tree, numbered_tree, numbered_segments}
use Rattle.unite_groups.specs.Groups.{Member, grouped}
use Rattle.unite_groups.specs.Chosen.{Supply, chosen_all, lent_from}
use Rattle.unite_groups.specs.Rows.{borrow_members, owned_member}
use Rattle.unite_sources.specs.Source.{Source, agreed_name, greatest_seq}
use Rattle.unite_sources.specs.Used.{in_order, own_trees}
use Rattle.unite_sources.specs.Prefixed.{all_prefixes, segments_of}

-- ---- trees

-- "Without an extractor: .. no segments, unsegmented trees joined in order. With one: only named segments are joined, per prefix ..;
-- unsegmented trees are not carried."
abbrev pub tree_united : Extractor → List Source → Tree
tree_united none us = joined_tree (own_trees us)
tree_united (named k) us = new_tree

abbrev pub segments_united : Extractor → List Source → List Segment
segments_united none us = []
segments_united (named k) us = segments_of us (all_prefixes us)

abbrev pub segment_runs : List Segment → ℕ
segment_runs [] = 0
segment_runs (s ∷ ss) = length s.tree.runs + segment_runs ss

-- ---- borrows

-- "each used source's borrows with source checkpoint := final, then its owned ids if any under its own path and checkpoint"
unfoldable pub members_of : List Source → List Member
members_of [] = []
members_of (s ∷ ss) = (borrow_members s.manifest.borrows ++ owned_member s.path s.checkpoint (owned_of s.manifest)) ++ members_of ss

unfoldable pub supplies_of : List Source → List Supply
supplies_of [] = []
supplies_of (s ∷ ss) = record { path = s.path; checkpoint = s.checkpoint } ∷ supplies_of ss

-- "grouped by path and id set ..; a group's checkpoint ..; final checkpoints are lent fresh UUIDs in result order"
unfoldable pub borrows_united : List Source → List Uuid → List Borrow
borrows_united us fresh = lent_from fresh 0 (chosen_all (supplies_of us) (grouped (members_of us)))

-- "15 | a used borrow has no final checkpoint"
unfoldable pub refuses15_all : List Source → Bool
refuses15_all us = some_of (λ s. refuses15 s.manifest.borrows) us

-- ---- the manifest

-- "Scalars: the new manifest's"; "Run ids descend from count-1 to 0 through the unsegmented tree, then segments in order."
abbrev pub assembled : Tree → List Segment → Extractor → ℕ → List Borrow → Manifest
assembled t ss name seq bs =
    record {
      initialized = new_manifest.initialized;
      tree = numbered_tree (length t.runs + segment_runs ss) t;
      segments = numbered_segments (segment_runs ss) ss;
      extractor = name;
      next_wal_sst_id = new_manifest.next_wal_sst_id;
      replay_after_wal_id = new_manifest.replay_after_wal_id;
      last_l0_clock_tick = new_manifest.last_l0_clock_tick;
      last_l0_seq = seq;
      recent_snapshot_min_seq = new_manifest.recent_snapshot_min_seq;
      borrows = bs;
      writer_epoch = new_manifest.writer_epoch;
      compactor_epoch = new_manifest.compactor_epoch;
    }

-- of all sources, of which the used ones as sorted are `us`: "last_l0_seq the greatest over all sources and the extractor name the agreed one"
unfoldable pub united_from : List Source → List Source → List Uuid → Manifest
united_from ss us fresh =
    assembled (tree_united (agreed_name ss) us) (segments_united (agreed_name ss) us) (agreed_name ss) (greatest_seq ss) (borrows_united us fresh)

unfoldable pub united_of : List Source → List Uuid → Manifest
united_of ss fresh = united_from ss (whats (in_order ss)) fresh
