-- Things with a range each: "sorted stably by the start of their bounding effective range", and whether neighbours overlap.
use Rattle.std.specs.Prelude.{Bool, false, not, ◌||◌, List, [], ◌∷◌}
use Rattle.keys.specs.Pick.{pick}
use Rattle.keys.specs.Range.{Edges}
use Rattle.keys.specs.Key.{is_less}
use Rattle.keys.specs.Meet.{start_order, meet_of}
use Rattle.project_views.specs.Shown.{holds_none}

pub record Ranged (A : Type 0) : Type 0 where
  pub what : A
  pub range : Edges

-- x before the first that starts later than it, so behind those that start where it does
unfoldable pub entered : {A : Type 0} → Ranged A → List (Ranged A) → List (Ranged A)
entered x [] = x ∷ []
entered x (y ∷ ys) = pick (is_less (start_order x.range.start y.range.start)) (x ∷ y ∷ ys) (y ∷ entered x ys)

-- each in turn among those before it
unfoldable pub arranged_from : {A : Type 0} → List (Ranged A) → List (Ranged A) → List (Ranged A)
arranged_from done [] = done
arranged_from done (x ∷ xs) = arranged_from (entered x done) xs

-- "sorted stably by the start"
abbrev pub arranged : {A : Type 0} → List (Ranged A) → List (Ranged A)
arranged xs = arranged_from [] xs

-- some key is in both
abbrev pub overlap : Edges → Edges → Bool
overlap a b = not (holds_none (meet_of a b))

-- not "adjacent ranges disjoint"
unfoldable pub some_overlap : {A : Type 0} → List (Ranged A) → Bool
some_overlap [] = false
some_overlap (x ∷ []) = false
some_overlap (x ∷ y ∷ zs) = overlap x.range y.range || some_overlap (y ∷ zs)

-- what is arranged, in order
unfoldable pub whats : {A : Type 0} → List (Ranged A) → List A
whats [] = []
whats (x ∷ xs) = x.what ∷ whats xs
