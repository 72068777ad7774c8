-- The SST ids of the views that are left, listed. Assumes nothing.
use Prim.Native.Nat.{ℕ, zero, suc, ◌+◌, ◌*◌, ◌/◌, ◌≤◌}
use mathlib.Core.Path.{◌≡◌, refl, sym, ap, ◌∙◌}
use mathlib.Core.Bool.{◌&&◌}
use mathlib.Core.List.{List, [], ◌∷◌, ◌++◌, append-nil}
use native.Mathlib.Omega.{arith}
use lib.ListN.{length, length-append}
use Rattle.keys.specs.Pick.{pick}
use Rattle.ids.specs.declared.SstId.{SstId}
use Rattle.tables.specs.Layout.{write, over, up_to, joined}
use Rattle.tables.specs.Window.{held_of}
use Rattle.tables.specs.declared.Window.{Window}
use Rattle.tables.proofs.Joined.{joined_append}
use Rattle.tables.proofs.Writes.{write_none, write_front}
use Rattle.records.specs.Model.{View, Run, Tree, Segment}
use Rattle.records.specs.Row.{view_at, run_at}
use Rattle.records.specs.Decode.{bytes_in, view_in, views_in, run_in, runs_in, tree_in, segment_in}
use Rattle.records.specs.Words.{id_words}
use Rattle.records.specs.Fill.{empty, plus, ids as id_cells}
use Rattle.records.specs.Layout.{ids_laid}
use Rattle.records.specs.declared.Fill.{Fill}
use Rattle.records.specs.declared.ViewRow.{ViewRow}
use Rattle.records.specs.declared.RunRow.{RunRow}
use Rattle.records.specs.declared.SegmentRow.{SegmentRow}
use Rattle.records.specs.declared.TreeRow.{TreeRow}
use Rattle.records.proofs.Sums.{plus_empty, empty_plus, plus_assoc}
use Rattle.records.proofs.Laid.{ids}
use Rattle.emit.proofs.Laid.{put_then}
use Rattle.emit.proofs.Columns.{ids_laid_long}
use Rattle.measure.specs.Within.{run_views, tree_views, ids_used}
use Rattle.merge.specs.Tree.{no_views, no_runs, is_empty}
use Rattle.project_views.specs.Reach.{reach_of}
use Rattle.project_views.specs.Shown.{tree_shown}
use Rattle.project_views.specs.declared.Reach.{Reach}
use Rattle.project_views.proofs.Many.{all}
use Rattle.project_views.proofs.Ids.{LaidIds, used_append}
use Rattle.project_ranges.specs.Config.{Config}
use Rattle.project_ranges.specs.Action.{Action, drop, project, pass, action_of}
use Rattle.project_ranges.specs.Args.{action_in}
use Rattle.project_ranges.specs.declared.SegmentAction.{SegmentAction}
use Rattle.project_ranges.specs.declared.SegmentAction.TheVariants.{Drop, Project, PassThrough}
use Rattle.project_lay.specs.After.{tree_after, kept_segment, segment_after}
use Rattle.project_lay.specs.Steps.{piece_at, segments_views, ssts_in, runs_ssts, tree_ssts}
use Rattle.project_lay.proofs.Adds.{piece_is, piece_in, left, left_all}

-- ---- which ids

used_up_to : (f : ℕ → View) (n : ℕ) → ids_used (up_to f n) ≡ up_to (λ k. (f k).sst) n
used_up_to f zero = refl
used_up_to f (suc n) = used_append (up_to f n) (f n ∷ []) ∙ rw (used_up_to f n)

views_ssts : (views pool : List ℕ) (w : Window) → ids_used (views_in views pool w) ≡ ssts_in views w
unfolding views_in ssts_in view_in
views_ssts views pool w = used_up_to (λ k. view_in pool (view_at views (w.first + k))) (held_of w (length views / 16))

all_more : {A : Type 0} (f : ℕ → List A) (n : ℕ) → all (up_to f (suc n)) ≡ all (up_to f n) ++ f n
all_more f n = joined_append (λ x. x) (up_to f n) (f n ∷ []) ∙ rw (append-nil (f n))

runs_used : (f : ℕ → Run) (g : ℕ → List SstId) → ((k : ℕ) → ids_used (f k).views ≡ g k) → (n : ℕ) → ids_used (joined run_views (up_to f n)) ≡ all (up_to g n)
runs_used f g h zero = refl
runs_used f g h (suc n) =
    rw (joined_append run_views (up_to f n) (f n ∷ []), append-nil (f n).views, used_append (joined run_views (up_to f n)) (f n).views, runs_used f g h n, h n, all_more g n)

pub tree_ssts_lem : (runs views pool : List ℕ) (t : TreeRow) → ids_used (tree_views (tree_in runs views pool t)) ≡ tree_ssts runs views t
unfolding tree_in runs_in run_in runs_ssts
tree_ssts_lem runs views pool t =
    used_append (views_in views pool t.l0) (joined run_views (runs_in runs views pool t.compacted))
    ∙ rw (views_ssts views pool t.l0, runs_used (λ k. run_in views pool (run_at runs (t.compacted.first + k))) (λ k. ssts_in views (run_at runs (t.compacted.first + k)).views) (λ k. views_ssts views pool (run_at runs (t.compacted.first + k)).views) (held_of t.compacted (length runs / 3)))

pub singles : {A : Type 0} (f : ℕ → A) (n : ℕ) → up_to f n ≡ all (up_to (λ k. f k ∷ []) n)
singles f zero = refl
singles f (suc n) = rw (all_more (λ k. f k ∷ []) n, ← singles f n)

pub ssts_all : (views : List ℕ) (w : Window) (n : ℕ) → n ≡ held_of w (length views / 16) → ssts_in views w ≡ all (up_to (λ k. (view_at views (w.first + k)).sst ∷ []) n)
unfolding ssts_in
ssts_all views w n e = rw (← e) (singles (λ k. (view_at views (w.first + k)).sst) n)

pub runs_ssts_all : (runs views : List ℕ) (w : Window) (n : ℕ) → n ≡ held_of w (length runs / 3) → runs_ssts runs views w ≡ all (up_to (λ k. ssts_in views (run_at runs (w.first + k)).views) n)
unfolding runs_ssts
runs_ssts_all runs views w n e = rw (← e)

-- ---- the ids of what is left of a segment

kept_views : (p : List ℕ) (t : Tree) → segments_views (kept_segment p t) ≡ tree_views t
unfolding is_empty
kept_views p t = go t.l0 t.runs
  where
    go : (vs : List View) (rs : List Run)
        → segments_views (pick (no_views vs && no_runs rs) [] (record { prefix = p; tree = record { view_mark = t.view_mark; sst_mark = t.sst_mark; l0 = vs; runs = rs } } ∷ [])) ≡ vs ++ joined run_views rs
    go [] [] = refl
    go [] (r ∷ rs) = append-nil (joined run_views (r ∷ rs))
    go (v ∷ vs) rs = append-nil ((v ∷ vs) ++ joined run_views rs)

pub piece_views_lem : (a : Action) (s : Segment) → segments_views (segment_after a s) ≡ tree_views (tree_after a s.tree)
piece_views_lem drop s = refl
piece_views_lem (project r) s = kept_views s.prefix (tree_shown r s.tree)
piece_views_lem pass s = append-nil (tree_views s.tree)

pieces_used : (f : ℕ → List Segment) (n : ℕ) → ids_used (segments_views (all (up_to f n))) ≡ all (up_to (λ k. ids_used (segments_views (f k))) n)
pieces_used f zero = refl
pieces_used f (suc n) =
    ap (λ (ss : List Segment). ids_used (segments_views ss)) (all_more f n)
    ∙ ap ids_used (joined_append (λ s. tree_views s.tree) (all (up_to f n)) (f n))
    ∙ used_append (segments_views (all (up_to f n))) (segments_views (f n))
    ∙ rw (pieces_used f n, all_more (λ k. ids_used (segments_views (f k))) n)

pub left_used : (rows runs views pool : List ℕ) (w : Window) (c : Config) (n : ℕ) → n ≡ held_of w (length rows / 12)
    → ids_used (segments_views (left rows runs views pool w c)) ≡ all (up_to (λ k. ids_used (segments_views (piece_in rows runs views pool c w.first k))) n)
left_used rows runs views pool w c n e =
    ap (λ (ss : List Segment). ids_used (segments_views ss)) (left_all rows runs views pool w c n e) ∙ pieces_used (piece_in rows runs views pool c w.first) n

-- ---- laid from c on

pub one_listed : (c q : Fill) (d d' : List ℕ) (v w : ViewRow) → v ≡ w → q ≡ plus c (id_cells 1) → d' ≡ write d (c.ids * 2) (id_words v.sst) → LaidIds c q d d' (w.sst ∷ [])
unfolding ids_laid
one_listed c q d d' v w e p h = (p, h ∙ rw e (ap (write d (c.ids * 2)) (sym (append-nil (id_words w.sst)))))

-- xs, then ys
module _ (c : Fill) (xs ys : List SstId) where
  pub ids_first : (n : ℕ) → (c.ids + length (xs ++ ys)) * 2 ≤ n → (c.ids + length xs) * 2 ≤ n
  ids_first n h = omega (arith, length-append xs ys)

  module _ (to : Fill) (p : to ≡ plus c (id_cells (length xs))) where
    pub ids_rest : (n : ℕ) → (c.ids + length (xs ++ ys)) * 2 ≤ n → (to.ids + length ys) * 2 ≤ n
    ids_rest n h = rw p (omega (arith, length-append xs ys))

    pub ids_then : (q : Fill) (d d₁ d₂ : List ℕ) → (c.ids + length (xs ++ ys)) * 2 ≤ length d → d₁ ≡ write d (c.ids * 2) (ids_laid xs) → LaidIds to q d₁ d₂ ys → LaidIds c q d d₂ (xs ++ ys)
    unfolding ids_laid
    ids_then q d d₁ d₂ h w v = (
      v.0 ∙ rw p (plus_assoc c (id_cells (length xs)) (id_cells (length ys)) ∙ ap (λ (n : ℕ). plus c (id_cells n)) (sym (length-append xs ys))),
      put_then ids c (id_cells (length xs)) to (id_cells (length (xs ++ ys))) d d₁ d₂ (joined id_words xs) (joined id_words ys) h p (ids_laid_long xs) w v.1 ∙ ap (write d (c.ids * 2)) (sym (joined_append id_words xs ys)),
    )

-- what becomes of a tree
module _ (pool : List ℕ) (a : SegmentAction) (t : Tree) (c : Fill) (d : List ℕ) where
  pub listed_dropped : a ≡ Drop → LaidIds c c d d (ids_used (tree_views (tree_after (action_in pool a) t)))
  unfolding ids_laid
  listed_dropped e = rw e (sym (plus_empty c), sym (write_none d (c.ids * 2)))

  pub room_shown : (r : Reach) (n : ℕ) → a ≡ Project r → (c.ids + length (ids_used (tree_views (tree_after (action_in pool a) t)))) * 2 ≤ n → (c.ids + length (ids_used (tree_views (tree_shown (reach_of pool r) t)))) * 2 ≤ n
  room_shown r n e h = rw e at h

  pub listed_shown : (r : Reach) (q : Fill) (d' : List ℕ) → a ≡ Project r → LaidIds c q d d' (ids_used (tree_views (tree_shown (reach_of pool r) t))) → LaidIds c q d d' (ids_used (tree_views (tree_after (action_in pool a) t)))
  listed_shown r q d' e h = rw e h

  module _ (xs : List SstId) (s : ids_used (tree_views t) ≡ xs) (e : a ≡ PassThrough) where
    pub room_passed : (n : ℕ) → (c.ids + length (ids_used (tree_views (tree_after (action_in pool a) t)))) * 2 ≤ n → (c.ids + length xs) * 2 ≤ n
    room_passed n h = rw (← s) (rw e at h)

    pub listed_passed : (q : Fill) (d' : List ℕ) → LaidIds c q d d' xs → LaidIds c q d d' (ids_used (tree_views (tree_after (action_in pool a) t)))
    listed_passed q d' h = rw (e, s) h

-- the same ids by another name
pub listed_as : (c q : Fill) (d d' : List ℕ) (xs ys : List SstId) → xs ≡ ys → LaidIds c q d d' xs → LaidIds c q d d' ys
listed_as c q d d' xs ys e h = rw (← e) h

pub room_as : (c : Fill) (xs ys : List SstId) (n : ℕ) → xs ≡ ys → (c.ids + length ys) * 2 ≤ n → (c.ids + length xs) * 2 ≤ n
room_as c xs ys n e h = rw e h

-- the ids of a run's row
pub run_room : (views : List ℕ) (c : Fill) (x y : RunRow) (n : ℕ) → x ≡ y → (c.ids + length (ssts_in views y.views)) * 2 ≤ n → (c.ids + length (ssts_in views x.views)) * 2 ≤ n
run_room views c x y n e h = rw e h

pub run_listed : (views : List ℕ) (c q : Fill) (d d' : List ℕ) (x y : RunRow) → x ≡ y → LaidIds c q d d' (ssts_in views x.views) → LaidIds c q d d' (ssts_in views y.views)
run_listed views c q d d' x y e h = rw (← e) h

-- those of a segment's row, by what is resolved for it
pub at_used : (pool : List ℕ) (c : Config) (place : ℕ) (s x : SegmentRow) (runs views : List ℕ) (a : SegmentAction) → s ≡ x → action_in pool a ≡ action_of c place (bytes_in pool s.prefix)
    → ids_used (tree_views (tree_after (action_in pool a) (tree_in runs views pool s.tree))) ≡ ids_used (segments_views (piece_at c place (segment_in runs views pool x)))
unfolding segment_in
at_used pool c place s x runs views a e h =
    ap ids_used (sym (piece_views_lem (action_in pool a) (segment_in runs views pool s))) ∙ ap (λ (ss : List Segment). ids_used (segments_views ss)) (piece_is pool c place s x runs views a e h)

-- ---- all: the tree's, then the segments', from the front on

module _ (vs us : List View) where
  both_long : length (ids_used (vs ++ us)) ≡ length (ids_used vs) + length (ids_used us)
  both_long = ap length (used_append vs us) ∙ length-append (ids_used vs) (ids_used us)

  pub both_first : (n : ℕ) → length (ids_used (vs ++ us)) * 2 ≤ n → (0 + length (ids_used vs)) * 2 ≤ n
  both_first n h = omega (arith, both_long)

  pub both_rest : (to : Fill) → to ≡ plus empty (id_cells (length (ids_used vs))) → (n : ℕ) → length (ids_used (vs ++ us)) * 2 ≤ n → (to.ids + length (ids_used us)) * 2 ≤ n
  both_rest to p n h = rw p (omega (arith, both_long))

  pub both_listed : (to q : Fill) (d d₁ d₂ : List ℕ) → length (ids_used (vs ++ us)) * 2 ≤ length d → LaidIds empty to d d₁ (ids_used vs) → LaidIds to q d₁ d₂ (ids_used us)
      → (q ≡ id_cells (length (ids_used (vs ++ us)))) × (d₂ ≡ over d (ids_laid (ids_used (vs ++ us))))
  both_listed to q d d₁ d₂ h w v =
      let r : (0 + length (ids_used vs ++ ids_used us)) * 2 ≤ length d = omega (arith, both_long, length-append (ids_used vs) (ids_used us)) in
      let z = ids_then empty (ids_used vs) (ids_used us) to w.0 q d d₁ d₂ r w.1 v in
      let f : 0 * 2 ≡ 0 = omega arith in
      rw (used_append vs us) (z.0 ∙ empty_plus (id_cells (length (ids_used vs ++ ids_used us))), z.1 ∙ ap (λ (n : ℕ). write d n (ids_laid (ids_used vs ++ ids_used us))) f ∙ write_front d (ids_laid (ids_used vs ++ ids_used us)))
