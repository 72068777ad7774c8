-- The search for the first list that names an id. Assumes nothing.
use Prim.Native.Nat.{ℕ, zero, suc, ◌+◌, ◌/◌, ◌≤◌, ◌<◌}
use mathlib.Core.Path.{◌≡◌, refl, ap, ◌∙◌}
use mathlib.Core.Bool.{Bool, true, false, not, ◌||◌, ◌&&◌}
use mathlib.Core.List.{List, [], ◌∷◌}
use lib.ListN.{length}
use Rattle.tables.specs.Layout.{up_to}
use Rattle.tables.specs.Window.{held_of}
use Rattle.tables.specs.declared.Window.{Window}
use Rattle.ids.specs.Id.{same_sst_of}
use Rattle.ids.specs.Names.{names_of}
use Rattle.ids.specs.declared.SstId.{SstId}
use Rattle.ids.proofs.Words.{names_append}
use Rattle.records.specs.Row.{borrow_at, id_at}
use Rattle.records.specs.Decode.{ids_in, borrow_in, borrows_in}
use Rattle.records.specs.declared.BorrowRow.{BorrowRow}
use Rattle.measure.specs.Tests.{all_below}
use Rattle.lawful.proofs.Loops.{Passed, passed_none, passed_more, passed_broken, passed_all}
use Rattle.segments.proofs.Fronts.{Led, led_none, led_more, led_here}
use Rattle.borrows.specs.Owned.{first_naming}

names_up_to : (g : ℕ → SstId) (n : ℕ) (x : SstId) → not (names_of (up_to g n) x) ≡ all_below (λ i. not (same_sst_of (g i) x)) n
unfolding names_of
names_up_to g zero x = refl
names_up_to g (suc n) x = rw (names_append (up_to g n) (g n ∷ []) x) (go (names_of (up_to g n) x) (same_sst_of (g n) x) ∙ ap (λ b. b && not (same_sst_of (g n) x)) (names_up_to g n x))
  where
    go : (a b : Bool) → not (a || (b || false)) ≡ (not a && not b)
    go true b = refl
    go false true = refl
    go false false = refl

-- one list: none of its first ids is x
module _ (ids : List ℕ) (list : Window) (x : SstId) where
  abbrev pub other : ℕ → Bool
  other j = not (same_sst_of (id_at ids (list.first + j)) x)

  pub list_none : (n : ℕ) → n ≡ held_of list (length ids / 2) → Passed (not (names_of (ids_in ids list) x)) other n 0
  unfolding ids_in
  list_none n e = passed_none _ other (held_of list (length ids / 2)) n e (names_up_to (λ k. id_at ids (list.first + k)) (held_of list (length ids / 2)) x)

  module _ (n j : ℕ) (w : Passed (not (names_of (ids_in ids list) x)) other n j) (h : j < n) (a : SstId) (r : Bool) (e : a ≡ id_at ids (list.first + j)) (f : r ≡ same_sst_of a x) where
    is : not r ≡ other j
    is = ap not (rw e at f)

    pub list_more : r ≡ false → Passed (not (names_of (ids_in ids list) x)) other n (j + 1)
    list_more t = passed_more _ other n j w (not r) h is (ap not t)

    pub list_here : r ≡ true → false ≡ not (names_of (ids_in ids list) x)
    list_here t = passed_broken _ other n j w (not r) h is (ap not t)

-- the lists one after the other
module _ (borrows ids : List ℕ) (w : Window) (x : SstId) where
  abbrev pub unnamed : ℕ → Bool
  unnamed k = not (names_of (ids_in ids (borrow_at borrows (w.first + k)).ids) x)

  pub lists_none : (n : ℕ) → n ≡ held_of w (length borrows / 9) → Led (first_naming (borrows_in borrows ids [] w) x) unnamed n 0
  unfolding first_naming borrows_in borrow_in
  lists_none n e = led_none (λ b. not (names_of b.ids x)) (λ k. borrow_in ids [] (borrow_at borrows (w.first + k))) (held_of w (length borrows / 9)) n _ e refl

  module _ (n k : ℕ) (l : Led (first_naming (borrows_in borrows ids [] w) x) unnamed n k) (h : k < n) (b : BorrowRow) (e : b ≡ borrow_at borrows (w.first + k)) where
    pub lists_more : (c j : ℕ) → Passed (not (names_of (ids_in ids b.ids) x)) (other ids b.ids x) c j → c ≤ j → Led (first_naming (borrows_in borrows ids [] w) x) unnamed n (k + 1)
    lists_more c j p q = led_more _ unnamed n k l true h (rw (← e) (passed_all _ (other ids b.ids x) c j p q)) refl

    pub lists_here : (c j : ℕ) (a : SstId) (r : Bool) → Passed (not (names_of (ids_in ids b.ids) x)) (other ids b.ids x) c j → j < c → a ≡ id_at ids (b.ids.first + j) → r ≡ same_sst_of a x → r ≡ true
        → k ≡ first_naming (borrows_in borrows ids [] w) x
    lists_here c j a r p q f g t = led_here _ unnamed n k l false h (rw (← e) (list_here ids b.ids x c j p q a r f g t)) refl

pub ruleset namings = (list_none, list_more, lists_none, lists_more, lists_here)
