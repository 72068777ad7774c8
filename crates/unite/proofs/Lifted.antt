-- What the code holds of the used sources is what is said of them. Assumes nothing.
use Prim.Native.Nat.{ℕ, zero, suc, ◌*◌}
use mathlib.Core.Path.{◌≡◌, refl, ap, ◌∙◌}
use mathlib.Core.Bool.{Bool}
use mathlib.Core.List.{List, [], ◌∷◌, ◌++◌, map}
use Rattle.tables.specs.Layout.{write, up_to, joined}
use Rattle.ids.specs.declared.Uuid.{Uuid}
use Rattle.records.specs.Model.{Tree}
use Rattle.records.specs.Row.{at}
use Rattle.records.specs.Decode.{Lent, manifest_in}
use Rattle.unite_groups.specs.Groups.{Member, grouped}
use Rattle.unite_groups.specs.Chosen.{Supply, chosen_all, lent_from}
use Rattle.unite_groups.specs.Rows.{supplies_in, entered_from}
use Rattle.unite_groups.proofs.Results.{entered_grouped}
use Rattle.unite_trees.specs.Rows.{trees_in}
use Rattle.unite_sources.specs.Source.{Source}
use Rattle.unite_sources.specs.Used.{own_trees}
use Rattle.unite_sources.specs.Rows.{manifest_at_word, source_at_word, begins}
use Rattle.unite_lend.specs.Used.{some_below, lacks_at, supply_words, own_members, source_members, members_at}
use Rattle.unite_lend.proofs.Below.{lacks_sources}
use Rattle.unite_lend.proofs.Supplies.{supply_from, supplies_are}
use Rattle.unite.specs.United.{members_of, supplies_of, borrows_united, refuses15_all}

module _ (l : Lent) (t : List ℕ) where
  members_at_lem : (bs : List ℕ) → joined (λ b. source_members (source_at_word l t b)) bs ≡ members_of (map (source_at_word l t) bs)
  unfolding members_of source_members own_members
  members_at_lem [] = refl
  members_at_lem (b ∷ bs) = ap (λ (z : List Member). source_members (source_at_word l t b) ++ z) (members_at_lem bs)

  supplies_at : (bs : List ℕ) → map (supply_from l.pool t) bs ≡ supplies_of (map (source_at_word l t) bs)
  unfolding supplies_of supply_from source_at_word
  supplies_at [] = refl
  supplies_at (b ∷ bs) = ap (λ (z : List Supply). supply_from l.pool t b ∷ z) (supplies_at bs)

  own_more : (ss : List Source) (s : Source) → own_trees (ss ++ (s ∷ [])) ≡ own_trees ss ++ (s.manifest.tree ∷ [])
  unfolding own_trees
  own_more [] s = refl
  own_more (r ∷ ss) s = ap (λ (z : List Tree). r.manifest.tree ∷ z) (own_more ss s)

  map_more : (xs : List ℕ) (x : ℕ) → map (source_at_word l t) (xs ++ (x ∷ [])) ≡ map (source_at_word l t) xs ++ (source_at_word l t x ∷ [])
  map_more [] x = refl
  map_more (y ∷ xs) x = ap (λ (z : List Source). source_at_word l t y ∷ z) (map_more xs x)

  module _ (rows : List ℕ) where
    -- "15 | a used borrow has no final checkpoint"
    pub used_lack : (n : ℕ) (r : Bool) → r ≡ some_below (lacks_at l.borrows t rows) n → r ≡ refuses15_all (map (source_at_word l t) (begins rows n))
    unfolding refuses15_all
    used_lack n r e = e ∙ lacks_sources l t rows n

    -- the unsegmented trees, in order
    pub used_trees : (n : ℕ) → trees_in t rows n l.runs l.views l.pool ≡ own_trees (map (source_at_word l t) (begins rows n))
    unfolding trees_in begins own_trees source_at_word manifest_at_word manifest_in
    used_trees zero = refl
    used_trees (suc n) =
        let bs = up_to (λ i. at rows (i * 7)) n in
        let b = at rows (n * 7) in
        rw (map_more bs b, own_more (map (source_at_word l t) bs) (source_at_word l t b), ← used_trees n)

    -- the groups that the code made are those of the used sources, each with its checkpoint
    pub used_groups : (n : ℕ) (d supplies : List ℕ) (ms : List Member) → supplies ≡ write d 0 (joined (supply_words t) (begins rows n))
        → ms ≡ entered_from (supplies_in supplies l.pool n) [] (members_at l t rows n)
        → ms ≡ chosen_all (supplies_of (map (source_at_word l t) (begins rows n))) (grouped (members_of (map (source_at_word l t) (begins rows n))))
    unfolding members_at
    used_groups n d supplies ms w e =
        let us = map (source_at_word l t) (begins rows n) in
        e ∙ rw (supplies_are d supplies l.pool t rows n w, supplies_at (begins rows n), members_at_lem (begins rows n)) (entered_grouped (supplies_of us) (members_of us))

    pub used_borrows : (n : ℕ) (d supplies : List ℕ) (ms : List Member) (fresh : List Uuid) → supplies ≡ write d 0 (joined (supply_words t) (begins rows n))
        → ms ≡ entered_from (supplies_in supplies l.pool n) [] (members_at l t rows n) → lent_from fresh 0 ms ≡ borrows_united (map (source_at_word l t) (begins rows n)) fresh
    unfolding borrows_united
    used_borrows n d supplies ms fresh w e = ap (lent_from fresh 0) (used_groups n d supplies ms w e)
