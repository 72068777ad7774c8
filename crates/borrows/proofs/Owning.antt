-- Which ids of views are owned, view by view and tree by tree. Assumes nothing.
use Prim.Native.Nat.{ℕ, suc, ◌+◌, ◌/◌, ◌^◌, ◌<◌}
use mathlib.Core.Path.{◌≡◌, refl, sym, ap, ◌∙◌}
use mathlib.Core.Bool.{Bool, true, false, not, ◌||◌}
use mathlib.Core.List.{List, [], ◌∷◌, ◌++◌}
use native.Mathlib.Omega.{arith}
use native.Mathlib.Nat.{add-zero}
use lib.Dec.{ltb}
use lib.ListN.{length, length-append}
use borrow.Author.Tests.{lt-ltb, le-ltb}
use Rattle.keys.specs.Pick.{pick}
use Rattle.keys.proofs.Says.{says_same, says_lt}
use Rattle.tables.specs.Layout.{up_to, joined}
use Rattle.tables.specs.Window.{held_of}
use Rattle.tables.specs.declared.Window.{Window}
use Rattle.ids.specs.Names.{names_of}
use Rattle.ids.specs.declared.SstId.{SstId}
use Rattle.records.specs.Model.{View, Segment, Borrow, segment_trees}
use Rattle.records.specs.Row.{view_at, run_at, segment_at}
use Rattle.records.specs.Decode.{view_in, views_in, run_in, runs_in, segment_in, segments_in, borrows_in}
use Rattle.records.specs.declared.ViewRow.{ViewRow}
use Rattle.measure.specs.Within.{run_views, tree_views}
use Rattle.copy.proofs.Manifest.{borrows_count}
use Rattle.borrows.specs.Owned.{first_naming, is_borrowed, owned_by}
use Rattle.borrows.specs.Places.{put_at, put_from}
use Rattle.borrows.proofs.Putting.{put_append}

-- ---- an id is borrowed where the search stops before the end

pub stops_borrowed : (bs : List Borrow) (x : SstId) → ltb (first_naming bs x) (length bs) ≡ is_borrowed bs x
unfolding first_naming
stops_borrowed [] x = le-ltb 0 0 (omega arith)
stops_borrowed (b ∷ bs) x = go (names_of b.ids x) ∙ ap (λ t. names_of b.ids x || t) (stops_borrowed bs x)
  where
    go : (t : Bool) → ltb (pick (not t) (suc (first_naming bs x)) 0) (suc (length bs)) ≡ (t || ltb (first_naming bs x) (length bs))
    go true = lt-ltb 0 (suc (length bs)) (omega arith)
    go false = says_same (λ h. omega arith, λ h. omega arith) (says_lt (suc (first_naming bs x)) (suc (length bs))) (says_lt (first_naming bs x) (length bs))

pub is_borrowed_lem : (borrows ids : List ℕ) (w : Window) (x : SstId) (i n : ℕ) → i ≡ first_naming (borrows_in borrows ids [] w) x → n ≡ held_of w (length borrows / 9) → ltb i n ≡ is_borrowed (borrows_in borrows ids [] w) x
is_borrowed_lem borrows ids w x i n e h = rw (e, h, ← borrows_count borrows ids [] w) (stops_borrowed (borrows_in borrows ids [] w) x)

-- ---- the views of each record give their own

module _ (bs : List Borrow) where
  pub owned_append : (vs ws : List View) → owned_by bs (vs ++ ws) ≡ owned_by bs vs ++ owned_by bs ws
  owned_append [] ws = refl
  owned_append (v ∷ vs) ws = rw (owned_append vs ws) (go (is_borrowed bs v.sst))
    where
      go : (t : Bool) → pick t (owned_by bs vs ++ owned_by bs ws) (v.sst ∷ (owned_by bs vs ++ owned_by bs ws)) ≡ pick t (owned_by bs vs) (v.sst ∷ owned_by bs vs) ++ owned_by bs ws
      go true = refl
      go false = refl

  pub owned_joined : {A : Type 0} (f : A → List View) (xs : List A) → owned_by bs (joined f xs) ≡ joined (λ x. owned_by bs (f x)) xs
  owned_joined f [] = refl
  owned_joined f (x ∷ xs) = owned_append (f x) (joined f xs) ∙ ap (λ (l : List SstId). owned_by bs (f x) ++ l) (owned_joined f xs)

  pub owned_views : (vs : List View) → owned_by bs vs ≡ joined (λ v. owned_by bs (v ∷ [])) vs
  owned_views [] = refl
  owned_views (v ∷ vs) = owned_append (v ∷ []) vs ∙ ap (λ (l : List SstId). owned_by bs (v ∷ []) ++ l) (owned_views vs)

  pub owned_segments : (ss : List Segment) → owned_by bs (joined tree_views (segment_trees ss)) ≡ joined (λ s. owned_by bs (tree_views s.tree)) ss
  owned_segments [] = refl
  owned_segments (s ∷ ss) = owned_append (tree_views s.tree) (joined tree_views (segment_trees ss)) ∙ ap (λ (l : List SstId). owned_by bs (tree_views s.tree) ++ l) (owned_segments ss)

-- ---- one view

module _ (bs : List Borrow) (views : List ℕ) (i : ℕ) (v : ViewRow) (e : v ≡ view_at views i) (d : List ℕ) (at : ℕ) (r : Bool) (q : r ≡ is_borrowed bs v.sst) where
  known : is_borrowed bs (view_in [] (view_at views i)).sst ≡ r
  unfolding view_in
  known = rw (← e) (sym q)

  module _ (t : r ≡ true) where
    pub borrowed_next : at ≡ at + length (owned_by bs (view_in [] (view_at views i) ∷ []))
    borrowed_next = rw (known ∙ t) (sym (add-zero at))

    pub borrowed_as_lent : d ≡ put_from d at (owned_by bs (view_in [] (view_at views i) ∷ []))
    unfolding put_from
    borrowed_as_lent = rw (known ∙ t)

  module _ (t : r ≡ false) where
    pub owned_small : at + length (owned_by bs (view_in [] (view_at views i) ∷ [])) < 2 ^ 64 → at + 1 < 2 ^ 64
    owned_small h = rw (known ∙ t) at h

    pub owned_next : at + 1 ≡ at + length (owned_by bs (view_in [] (view_at views i) ∷ []))
    owned_next = rw (known ∙ t)

    pub owned_put : (d' : List ℕ) → d' ≡ put_at d at v.sst → d' ≡ put_from d at (owned_by bs (view_in [] (view_at views i) ∷ []))
    unfolding put_from view_in
    owned_put d' p = rw (known ∙ t) (p ∙ rw e)

pub ruleset own_view = (borrowed_next, borrowed_as_lent, owned_small, owned_next, owned_put)

-- ---- the records of a window, one by one

module _ (bs : List Borrow) (w : Window) (n : ℕ) where
  pub views_each : (views : List ℕ) → n ≡ held_of w (length views / 16)
      → owned_by bs (views_in views [] w) ≡ joined (λ v. owned_by bs (v ∷ [])) (up_to (λ i. view_in [] (view_at views (w.first + i))) n)
  unfolding views_in
  views_each views e = rw e (owned_views bs (views_in views [] w))

  pub runs_each : (runs views : List ℕ) → n ≡ held_of w (length runs / 3)
      → owned_by bs (joined run_views (runs_in runs views [] w)) ≡ joined (λ r. owned_by bs r.views) (up_to (λ i. run_in views [] (run_at runs (w.first + i))) n)
  unfolding runs_in
  runs_each runs views e = rw e (owned_joined bs run_views (runs_in runs views [] w))

  pub segments_each : (segments runs views : List ℕ) → n ≡ held_of w (length segments / 12)
      → owned_by bs (joined tree_views (segment_trees (segments_in segments runs views [] w))) ≡ joined (λ s. owned_by bs (tree_views s.tree)) (up_to (λ i. segment_in runs views [] (segment_at segments (w.first + i))) n)
  unfolding segments_in
  segments_each segments runs views e = rw e (owned_segments bs (segments_in segments runs views [] w))

pub ruleset each_own = (views_each, runs_each, segments_each)

-- ---- some views, then others

module _ (bs : List Borrow) (vs ws : List View) (at : ℕ) where
  both_long : length (owned_by bs (vs ++ ws)) ≡ length (owned_by bs vs) + length (owned_by bs ws)
  both_long = rw (owned_append bs vs ws) (length-append (owned_by bs vs) (owned_by bs ws))

  pub first_small : at + length (owned_by bs (vs ++ ws)) < 2 ^ 64 → at + length (owned_by bs vs) < 2 ^ 64
  first_small h = omega (arith, both_long)

  module _ (past : ℕ) (e : past ≡ at + length (owned_by bs vs)) where
    pub rest_small : at + length (owned_by bs (vs ++ ws)) < 2 ^ 64 → past + length (owned_by bs ws) < 2 ^ 64
    rest_small h = omega (arith, both_long)

    pub both_next : (r : ℕ) → r ≡ past + length (owned_by bs ws) → r ≡ at + length (owned_by bs (vs ++ ws))
    both_next r h = omega (arith, both_long)

    pub both_put : (d d₁ d₂ : List ℕ) → d₁ ≡ put_from d at (owned_by bs vs) → d₂ ≡ put_from d₁ past (owned_by bs ws) → d₂ ≡ put_from d at (owned_by bs (vs ++ ws))
    both_put d d₁ d₂ p q = q ∙ rw (p, e, owned_append bs vs ws) (sym (put_append d at (owned_by bs vs) (owned_by bs ws)))
