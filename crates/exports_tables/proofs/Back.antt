-- What a call returns of a manifest is what the next call takes it for. Assumes nothing.
use Rattle.std.specs.Prelude.{None, Option, Some}
use mathlib.Core.Path.{◌≡◌, refl}
use mathlib.Core.Bool.{Bool, false, true}
use lib.Dec.{ltb, leb}
use Rattle.records.specs.Row.{at, view_mark_at, sst_mark_at, optional, segment_at, tree_at}
use Rattle.records.specs.Words.{segment_words, tree_words, cell_words, view_mark_cell, sst_mark_cell}
use Rattle.records.specs.declared.ManifestRow.{ManifestRow}
use Rattle.exports_tables.specs.Head.{head_at, head_segments, name_word, name_place, flag_word, tree_row, rest_words}
use Rattle.ids.specs.declared.ViewId.{ViewId}
use Rattle.ids.specs.declared.SstId.{SstId}
use Rattle.records.specs.declared.Place.{Place}

flag_back : (b : Bool) → ltb 0 (flag_word b) ≡ b
flag_back false = refl
flag_back true = refl

name_back : (x : Option Place) → optional None Some (name_word x) (name_place x) ≡ x
name_back None = refl
name_back (Some p) = refl

view_back : (x : Option ViewId) → view_mark_at (cell_words (view_mark_cell x)) 0 ≡ x
view_back None = refl
view_back (Some i) = refl

sst_back : (x : Option SstId) → sst_mark_at (cell_words (sst_mark_cell x)) 0 ≡ x
sst_back None = refl
sst_back (Some i) = refl

flag_code : (b : Bool) → leb (flag_word b) 1 ≡ true
flag_code false = refl
flag_code true = refl

name_code : (x : Option Place) → leb (name_word x) 1 ≡ true
name_code None = refl
name_code (Some p) = refl

view_code : (x : Option ViewId) → leb (at (cell_words (view_mark_cell x)) 0) 1 ≡ true
view_code None = refl
view_code (Some i) = refl

sst_code : (x : Option SstId) → leb (at (cell_words (sst_mark_cell x)) 0) 1 ≡ true
sst_code None = refl
sst_code (Some i) = refl

pub head_back : (m : ManifestRow) → head_at (segment_words (tree_row m)) (rest_words m) m.last_l0_clock_tick ≡ m
unfolding head_at head_segments segment_words tree_words rest_words segment_at tree_at
head_back m = rw (flag_code m.initialized, name_code m.segment_extractor_name, view_code m.tree.view, sst_code m.tree.sst, flag_back m.initialized, name_back m.segment_extractor_name, view_back m.tree.view, sst_back m.tree.sst)
