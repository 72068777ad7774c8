-- The walk that the code makes: it adds up what records fill and leaves at the first step that breaks L1. No public promise
-- speaks of it: proofs/Whole shows that it gives what `Measure` says.
use Rattle.std.specs.Prelude.{ℕ, zero, suc, ◌+◌, ◌-◌, ◌*◌, ◌/◌, ◌^◌, true, List, leb, ltb, length, None, Option, Some}
use Rattle.keys.specs.Pick.{pick}
use Rattle.tables.specs.Window.{lies_in}
use Rattle.tables.specs.declared.Window.{Window}
use Rattle.records.specs.Row.{at, place_at, run_at, segment_at, borrow_at}
use Rattle.records.specs.Fill.{empty, plus, fits, bytes, views, runs, segments, borrows, ids}
use Rattle.records.specs.Decode.{Lent}
use Rattle.records.specs.declared.Fill.{Fill}
use Rattle.records.specs.declared.Limits.{Limits}
use Rattle.records.specs.declared.Place.{Place}
use Rattle.records.specs.declared.TreeRow.{TreeRow}
use Rattle.records.specs.declared.SegmentRow.{SegmentRow}
use Rattle.records.specs.declared.BorrowRow.{BorrowRow}
use Rattle.records.specs.declared.ManifestRow.{ManifestRow}
use Rattle.measure.specs.Placed.{opened}

-- one step after another
abbrev pub then : Option Fill → (Fill → Option Fill) → Option Fill
then None f = None
then (Some c) f = f c

-- a step for each k below n
abbrev pub walk_all : (ℕ → Fill → Option Fill) → ℕ → Fill → Option Fill
walk_all f zero c = Some c
walk_all f (suc n) c = then (walk_all f n c) (f n)

-- what is left of `most` beside c
abbrev pub left_of : Fill → Fill → Fill
left_of most c =
    record {
      segments = most.segments - c.segments;
      views = most.views - c.views;
      runs = most.runs - c.runs;
      borrows = most.borrows - c.borrows;
      ids = most.ids - c.ids;
      bytes = most.bytes - c.bytes;
    }

-- c and more together, where they are at most `most`
unfoldable pub add_of : Fill → Fill → Fill → Option Fill
add_of most c more = pick (fits (plus c more) most) (Some (plus c more)) None

-- a window of a table's rows, or of a pool's bytes, that fills `more`
unfoldable pub window_walk : Fill → ℕ → Window → Fill → Fill → Option Fill
window_walk most rows w more c = pick (lies_in w rows) (add_of most c more) None

-- a byte string of at most `longest` bytes, in a pool of n
unfoldable pub key_walk : ℕ → Fill → ℕ → Place → Fill → Option Fill
key_walk longest most n p c =
    pick (leb p.len longest) (window_walk most n (record { first = p.at; count = p.len }) (bytes p.len) c) None

-- code 0: nothing is there; 1: what is there is walked; any other breaks
abbrev pub open_walk : ℕ → (Fill → Option Fill) → Fill → Option Fill
open_walk zero f c = Some c
open_walk (suc zero) f c = f c
open_walk (suc (suc k)) f c = None

-- the same for a bound, which has two codes for a key
abbrev pub code_walk : ℕ → (Fill → Option Fill) → Fill → Option Fill
code_walk zero f c = Some c
code_walk (suc zero) f c = f c
code_walk (suc (suc zero)) f c = f c
code_walk (suc (suc (suc k))) f c = None

unfoldable pub last_walk : Limits → List ℕ → ℕ → ℕ → Fill → Option Fill
last_walk lim t b n c = open_walk (at t b) (key_walk lim.key lim.fill n (place_at t (b + 1))) c

unfoldable pub bound_walk : Limits → List ℕ → ℕ → ℕ → Fill → Option Fill
bound_walk lim t b n c = code_walk (at t b) (key_walk lim.key lim.fill n (place_at t (b + 1))) c

unfoldable pub bounds_walk : Limits → List ℕ → ℕ → ℕ → Fill → Option Fill
bounds_walk lim t b n c = then (bound_walk lim t (b + 1) n c) (bound_walk lim t (b + 4) n)

unfoldable pub visible_walk : Limits → List ℕ → ℕ → ℕ → Fill → Option Fill
visible_walk lim t b n c = open_walk (at t b) (bounds_walk lim t b n) c

unfoldable pub view_walk : Limits → List ℕ → ℕ → ℕ → Fill → Option Fill
view_walk lim t n i c =
    then (key_walk lim.key lim.fill n (place_at t (i * 16 + 4)) c)
    (λ d. then (last_walk lim t (i * 16 + 6) n d) (visible_walk lim t (i * 16 + 9) n))

-- a window of views is counted at once, then each row's keys
unfoldable pub views_walk : Limits → List ℕ → ℕ → Window → Fill → Option Fill
views_walk lim t n w c =
    then (window_walk lim.fill (length t / 16) w (views w.count) c)
    (walk_all (λ k. view_walk lim t n (w.first + k)) w.count)

-- a run's id is of 32 bits
unfoldable pub run_walk : Limits → List ℕ → List ℕ → ℕ → ℕ → Fill → Option Fill
run_walk lim views runs n i c = pick (ltb (run_at runs i).id (2 ^ 32)) (views_walk lim views n (run_at runs i).views c) None

unfoldable pub runs_walk : Limits → List ℕ → List ℕ → ℕ → Window → Fill → Option Fill
runs_walk lim views t n w c =
    then (window_walk lim.fill (length t / 3) w (runs w.count) c)
    (walk_all (λ k. run_walk lim views t n (w.first + k)) w.count)

unfoldable pub tree_walk : Limits → List ℕ → List ℕ → ℕ → TreeRow → Fill → Option Fill
tree_walk lim views runs n t c = then (views_walk lim views n t.l0 c) (runs_walk lim views runs n t.compacted)

unfoldable pub segment_row_walk : Limits → List ℕ → List ℕ → ℕ → SegmentRow → Fill → Option Fill
segment_row_walk lim views runs n s c = then (key_walk lim.prefix lim.fill n s.prefix c) (tree_walk lim views runs n s.tree)

unfoldable pub segment_walk : Limits → List ℕ → List ℕ → List ℕ → ℕ → ℕ → Fill → Option Fill
segment_walk lim views runs t n i c =
    pick (opened (at t (i * 12 + 2)) true)
    (pick (opened (at t (i * 12 + 5)) true) (segment_row_walk lim views runs n (segment_at t i) c) None)
    None

unfoldable pub segments_walk : Limits → List ℕ → List ℕ → List ℕ → ℕ → Window → Fill → Option Fill
segments_walk lim views runs t n w c =
    then (window_walk lim.fill (length t / 12) w (segments w.count) c)
    (walk_all (λ k. segment_walk lim views runs t n (w.first + k)) w.count)

unfoldable pub name_walk : Limits → ℕ → Option Place → Fill → Option Fill
name_walk lim n None c = Some c
name_walk lim n (Some p) c = key_walk lim.name lim.fill n p c

-- ids are counted, not walked
unfoldable pub borrow_row_walk : Limits → List ℕ → ℕ → BorrowRow → Fill → Option Fill
borrow_row_walk lim t n b c =
    then (key_walk lim.path lim.fill n b.path c)
    (window_walk lim.fill (length t / 2) b.ids (ids b.ids.count))

unfoldable pub borrow_walk : Limits → List ℕ → List ℕ → ℕ → ℕ → Fill → Option Fill
borrow_walk lim ids t n i c = pick (opened (at t (i * 9 + 4)) true) (borrow_row_walk lim ids n (borrow_at t i) c) None

unfoldable pub borrows_walk : Limits → List ℕ → List ℕ → ℕ → Window → Fill → Option Fill
borrows_walk lim ids t n w c =
    then (window_walk lim.fill (length t / 9) w (borrows w.count) c)
    (walk_all (λ k. borrow_walk lim ids t n (w.first + k)) w.count)

unfoldable pub manifest_walk : Limits → Lent → ManifestRow → Option Fill
manifest_walk lim l m =
    then (tree_walk lim l.views l.runs (length l.pool) m.tree empty)
    (λ c. then (segments_walk lim l.views l.runs l.segments (length l.pool) m.segments c)
    (λ d. then (name_walk lim (length l.pool) m.segment_extractor_name d)
    (borrows_walk lim l.ids l.borrows (length l.pool) m.external_dbs)))
