-- Projecting views, runs and a tree to a range.
use Rattle.std.specs.Prelude.{Bool, ◌||◌, List, [], ◌∷◌, ◌++◌}
use Rattle.keys.specs.Pick.{pick}
use Rattle.keys.specs.Range.{Edges, empty_of}
use Rattle.keys.specs.Meet.{meet_of}
use Rattle.records.specs.Model.{View, only, Run, Tree, physical, span}

-- "is empty when no key is in it"
abbrev pub holds_none : Edges → Bool
holds_none r = empty_of r.start r.end

-- "Projecting a view makes span met with range its visible range"; the later views are those of its run as it was
abbrev pub shown : Edges → View → List View → Edges
shown r v later = meet_of (span v later) r

-- "the view goes if that is empty or holds no physical key"
abbrev pub goes : Edges → View → Bool
goes seen v = holds_none seen || holds_none (meet_of (physical v) seen)

abbrev pub with_visible : View → Edges → View
with_visible v seen = record { id = v.id; sst = v.sst; first = v.first; last = v.last; visible = only seen }

-- what is left of a view: itself with its new visible range, or nothing
unfoldable pub kept_view : Edges → View → List View → List View
kept_view r v later = pick (goes (shown r v later) v) [] (with_visible v (shown r v later) ∷ [])

-- the views of a run
unfoldable pub run_shown : Edges → List View → List View
run_shown r [] = []
run_shown r (v ∷ vs) = kept_view r v vs ++ run_shown r vs

-- the views of L0, which are in no run and have no next view
unfoldable pub l0_shown : Edges → List View → List View
l0_shown r [] = []
l0_shown r (v ∷ vs) = kept_view r v [] ++ l0_shown r vs

-- "Empty runs go."
abbrev pub kept_run : Run → List View → List Run
kept_run x [] = []
kept_run x (v ∷ vs) = record { id = x.id; views = v ∷ vs } ∷ []

unfoldable pub runs_shown : Edges → List Run → List Run
runs_shown r [] = []
runs_shown r (x ∷ xs) = kept_run x (run_shown r x.views) ++ runs_shown r xs

-- a tree, its watermarks kept: "projecting keeps them"
unfoldable pub tree_shown : Edges → Tree → Tree
tree_shown r t = record { view_mark = t.view_mark; sst_mark = t.sst_mark; l0 = l0_shown r t.l0; runs = runs_shown r t.runs }
