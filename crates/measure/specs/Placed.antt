-- "a record pointing outside its lent table or pool, or holding a code that stands for nothing, breaks L1".
use Rattle.std.specs.Prelude.{ℕ, zero, suc, ◌+◌, ◌*◌, ◌/◌, ◌^◌, Bool, true, false, ◌&&◌, List, leb, ltb, length, None, Option, Some}
use Rattle.tables.specs.Window.{lies_in}
use Rattle.tables.specs.declared.Window.{Window}
use Rattle.records.specs.Row.{at, place_at, run_at, segment_at, borrow_at}
use Rattle.records.specs.Decode.{Lent}
use Rattle.records.specs.declared.Place.{Place}
use Rattle.records.specs.declared.TreeRow.{TreeRow}
use Rattle.records.specs.declared.ManifestRow.{ManifestRow}
use Rattle.measure.specs.Tests.{all_below}

-- a byte string stands within a pool of n bytes
abbrev pub key_in : ℕ → Place → Bool
key_in n p = leb (p.at + p.len) n

-- code 0: nothing is there, and nothing more is read; 1: what is there must be good; any other stands for nothing
abbrev pub opened : ℕ → Bool → Bool
opened zero good = true
opened (suc zero) good = good
opened (suc (suc k)) good = false

-- the same for a bound, which has two codes for a key
abbrev pub bounded : ℕ → Bool → Bool
bounded zero good = true
bounded (suc zero) good = good
bounded (suc (suc zero)) good = good
bounded (suc (suc (suc k))) good = false

abbrev pub bound_placed : ℕ → List ℕ → ℕ → Bool
bound_placed n t b = bounded (at t b) (key_in n (place_at t (b + 1)))

abbrev pub last_placed : ℕ → List ℕ → ℕ → Bool
last_placed n t b = opened (at t b) (key_in n (place_at t (b + 1)))

abbrev pub visible_placed : ℕ → List ℕ → ℕ → Bool
visible_placed n t b = opened (at t b) (bound_placed n t (b + 1) && bound_placed n t (b + 4))

-- a view's row
unfoldable pub view_placed : ℕ → List ℕ → ℕ → Bool
view_placed n t i = key_in n (place_at t (i * 16 + 4)) && last_placed n t (i * 16 + 6) && visible_placed n t (i * 16 + 9)

unfoldable pub views_placed : ℕ → List ℕ → Window → Bool
views_placed n views w = lies_in w (length views / 16) && all_below (λ k. view_placed n views (w.first + k)) w.count

-- a run's row: its id is of 32 bits
unfoldable pub run_placed : ℕ → List ℕ → List ℕ → ℕ → Bool
run_placed n views runs i = ltb (run_at runs i).id (2 ^ 32) && views_placed n views (run_at runs i).views

unfoldable pub runs_placed : ℕ → List ℕ → List ℕ → Window → Bool
runs_placed n views runs w = lies_in w (length runs / 3) && all_below (λ k. run_placed n views runs (w.first + k)) w.count

unfoldable pub tree_placed : ℕ → List ℕ → List ℕ → TreeRow → Bool
tree_placed n views runs t = views_placed n views t.l0 && runs_placed n views runs t.compacted

-- a segment's row: its prefix, the codes of its two watermarks, its tree
unfoldable pub segment_placed : ℕ → List ℕ → List ℕ → List ℕ → ℕ → Bool
segment_placed n views runs segments i =
    opened (at segments (i * 12 + 2)) true && opened (at segments (i * 12 + 5)) true
    && key_in n (segment_at segments i).prefix && tree_placed n views runs (segment_at segments i).tree

unfoldable pub segments_placed : ℕ → List ℕ → List ℕ → List ℕ → Window → Bool
segments_placed n views runs segments w =
    lies_in w (length segments / 12) && all_below (λ k. segment_placed n views runs segments (w.first + k)) w.count

-- a borrow's row: its path, the code of its final checkpoint, its ids
unfoldable pub borrow_placed : ℕ → List ℕ → List ℕ → ℕ → Bool
borrow_placed n ids borrows i =
    opened (at borrows (i * 9 + 4)) true && key_in n (borrow_at borrows i).path && lies_in (borrow_at borrows i).ids (length ids / 2)

unfoldable pub borrows_placed : ℕ → List ℕ → List ℕ → Window → Bool
borrows_placed n ids borrows w = lies_in w (length borrows / 9) && all_below (λ k. borrow_placed n ids borrows (w.first + k)) w.count

abbrev pub name_placed : ℕ → Option Place → Bool
name_placed n None = true
name_placed n (Some p) = key_in n p

-- every record of a manifest lies within the lent tables and pool, and every code stands for something
unfoldable pub placed : Lent → ManifestRow → Bool
placed l m =
    tree_placed (length l.pool) l.views l.runs m.tree
    && segments_placed (length l.pool) l.views l.runs l.segments m.segments
    && name_placed (length l.pool) m.segment_extractor_name
    && borrows_placed (length l.pool) l.ids l.borrows m.external_dbs
