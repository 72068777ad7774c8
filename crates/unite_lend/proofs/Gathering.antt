-- The members of all used sources, source by source. Assumes nothing.
use Rattle.std.specs.Prelude.{Err, Ok, Result}
use Prim.Native.Nat.{ℕ, zero, suc, ◌+◌, ◌*◌, ◌≤◌, ◌<◌}
use mathlib.Core.Path.{◌≡◌, refl, sym, ap, ◌∙◌}
use mathlib.Core.Bool.{Bool, true}
use mathlib.Core.List.{List, [], ◌∷◌, ◌++◌}
use native.Mathlib.Omega.{arith}
use native.Mathlib.Numerals.{add-one}
use native.Mathlib.Nat.{suc-mul, mul-le-mul_right}
use native.Mathlib.Decide.{dec_lt}
use lib.Dec.{leb}
use lib.ListN.{length}
use borrow.Author.Tests.{leb-true}
use Rattle.tables.specs.Layout.{up_to, joined}
use Rattle.tables.proofs.Joined.{joined_append, joined_one}
use Rattle.records.specs.Row.{at}
use Rattle.records.specs.Decode.{Lent}
use Rattle.records.specs.declared.Limits.{Limits}
use Rattle.measure.specs.Tests.{all_below}
use Rattle.lawful.specs.Judge.{judged_of}
use Rattle.borrows.proofs.Lawfully.{both}
use Rattle.unite_groups.specs.Groups.{Member}
use Rattle.unite_groups.specs.Chosen.{Supply}
use Rattle.unite_groups.specs.Rows.{members_in, end_by, entered_from}
use Rattle.unite_groups.specs.declared.Grouped.{Grouped}
use Rattle.unite_sources.specs.Rows.{manifest_at_word, source_at_word, begins}
use Rattle.unite_judge.specs.Judging.{most_sources}
use Rattle.unite_lend.specs.Used.{source_members, members_at, is_lawful, sound_at, sound_below}
use Rattle.unite_lend.proofs.Grouping.{entered_append}

-- ---- what is sound

lawful_is : (j : Result Unit ℕ) → is_lawful j ≡ true → j ≡ Ok tt
lawful_is (Ok _) e = refl
lawful_is (Err rule) e = let z : ◌≡◌ {A = ℕ} 0 1 = cc in absurd (omega arith)

pub sound_in : (lim : Limits) (l : Lent) (t : List ℕ) (b : ℕ) → sound_at lim l t b ≡ true → b + 22 ≤ length t
unfolding sound_at
sound_in lim l t b h = leb-true (b + 22) (length t) (both (leb (b + 22) (length t)) (is_lawful (judged_of lim l (manifest_at_word t b))) h).0

pub sound_lawful : (lim : Limits) (l : Lent) (t : List ℕ) (b : ℕ) → sound_at lim l t b ≡ true → judged_of lim l (manifest_at_word t b) ≡ Ok tt
unfolding sound_at
sound_lawful lim l t b h = lawful_is (judged_of lim l (manifest_at_word t b)) (both (leb (b + 22) (length t)) (is_lawful (judged_of lim l (manifest_at_word t b))) h).1

-- the same of a word that was read
module _ (lim : Limits) (l : Lent) (t : List ℕ) (b x : ℕ) (e : b ≡ x) where
  pub word_in : sound_at lim l t x ≡ true → b + 22 ≤ length t
  word_in h = rw e (sound_in lim l t x h)

  pub word_lawful : sound_at lim l t x ≡ true → judged_of lim l (manifest_at_word t b) ≡ Ok tt
  word_lawful h = rw e (sound_lawful lim l t x h)

  pub word_entered : (ss : List Supply) (gs ms : List Member) → ms ≡ entered_from ss gs (source_members (source_at_word l t b)) → ms ≡ entered_from ss gs (source_members (source_at_word l t x))
  word_entered ss gs ms q = q ∙ ap (λ (z : ℕ). entered_from ss gs (source_members (source_at_word l t z))) e

below_each : (p : ℕ → Bool) (n i : ℕ) → i < n → all_below p n ≡ true → p i ≡ true
below_each p zero i h e = absurd (omega arith)
below_each p (suc n) i h e =
    let q = both (all_below p n) (p n) e in
    elim (dec_lt i n) [ yes g ↦ below_each p n i g q.0 | no g ↦ (let z : n ≡ i = omega arith in rw z at q.1) ]

-- ---- room for one more

one_more : (i x : ℕ) → i < most_sources → i * x + x ≤ most_sources * x
one_more i x h = rw (← suc-mul i x) (mul-le-mul_right x h)

pub record Gathered (lim : Limits) (l : Lent) (t rows : List ℕ) (ss : List Supply) (n os gs ws : ℕ) (owned groups work : List ℕ) (g : Grouped) (i : ℕ) : Type 0 where
  pub within : i ≤ n
  pub few : n ≤ most_sources
  pub sound : sound_below lim l t rows n ≡ true
  pub own_room : lim.fill.views * 2 ≤ os
  pub group_room : most_sources * (lim.fill.borrows + 1) * 6 ≤ gs
  pub work_room : most_sources * (lim.fill.ids + lim.fill.views) * 2 ≤ ws
  pub own_long : length owned ≡ os
  pub group_long : length groups ≡ gs
  pub work_long : length work ≡ ws
  pub many : g.groups ≤ i * (lim.fill.borrows + 1)
  pub some : g.ids ≤ i * (lim.fill.ids + lim.fill.views)
  pub ended : end_by g.ids groups g.groups ≡ true
  pub is : members_in groups work l.pool g.groups ≡ entered_from ss [] (members_at l t rows i)

module _ (lim : Limits) (l : Lent) (t rows : List ℕ) (ss : List Supply) (n os gs ws : ℕ) where
  pub gathered_none : (owned groups work : List ℕ) → n ≤ most_sources → sound_below lim l t rows n ≡ true → lim.fill.views * 2 ≤ os → most_sources * (lim.fill.borrows + 1) * 6 ≤ gs
      → most_sources * (lim.fill.ids + lim.fill.views) * 2 ≤ ws → length owned ≡ os → length groups ≡ gs → length work ≡ ws
      → Gathered lim l t rows ss n os gs ws owned groups work (record { groups = 0; ids = 0 }) 0
  unfolding members_in members_at begins entered_from
  gathered_none owned groups work a b c d e f g h =
      record { within = omega arith; few = a; sound = b; own_room = c; group_room = d; work_room = e; own_long = f; group_long = g; work_long = h; many = omega arith; some = omega arith; ended = refl; is = refl }

  module _ (owned groups work : List ℕ) (g : Grouped) (i : ℕ) (w : Gathered lim l t rows ss n os gs ws owned groups work g i) where
    module _ (h : i < n) where
      eight : i < most_sources
      eight = omega (arith, w.few)

      pub gathered_sound : sound_at lim l t (at rows (i * 7)) ≡ true
      gathered_sound = below_each (λ k. sound_at lim l t (at rows (k * 7))) n i h w.sound

      pub gathered_own : lim.fill.views * 2 ≤ length owned
      gathered_own = rw w.own_long w.own_room

      pub gathered_groups : (g.groups + (lim.fill.borrows + 1)) * 6 ≤ length groups
      gathered_groups = rw w.group_long (go (i * (lim.fill.borrows + 1)) w.many (one_more i (lim.fill.borrows + 1) eight))
        where
          go : (p : ℕ) → g.groups ≤ p → p + (lim.fill.borrows + 1) ≤ most_sources * (lim.fill.borrows + 1) → (g.groups + (lim.fill.borrows + 1)) * 6 ≤ gs
          go p a b = omega (arith, w.group_room)

      pub gathered_work : (g.ids + (lim.fill.ids + lim.fill.views)) * 2 ≤ length work
      gathered_work = rw w.work_long (go (i * (lim.fill.ids + lim.fill.views)) w.some (one_more i (lim.fill.ids + lim.fill.views) eight))
        where
          go : (p : ℕ) → g.ids ≤ p → p + (lim.fill.ids + lim.fill.views) ≤ most_sources * (lim.fill.ids + lim.fill.views) → (g.ids + (lim.fill.ids + lim.fill.views)) * 2 ≤ ws
          go p a b = omega (arith, w.work_room)

      pub gathered_more : (owned₁ groups₁ work₁ : List ℕ) (r : Grouped)
          → members_in groups₁ work₁ l.pool r.groups ≡ entered_from ss (members_in groups work l.pool g.groups) (source_members (source_at_word l t (at rows (i * 7)))) → end_by r.ids groups₁ r.groups ≡ true
          → r.groups ≤ g.groups + (lim.fill.borrows + 1) → r.ids ≤ g.ids + (lim.fill.ids + lim.fill.views) → length groups₁ ≡ length groups → length work₁ ≡ length work → length owned₁ ≡ length owned
          → Gathered lim l t rows ss n os gs ws owned₁ groups₁ work₁ r (i + 1)
      unfolding members_at begins
      gathered_more owned₁ groups₁ work₁ r e₁ e₂ e₃ e₄ e₅ e₆ e₇ =
          let f : ℕ → List Member = λ b. source_members (source_at_word l t b) in
          let bs = up_to (λ k. at rows (k * 7)) i in
          let b = at rows (i * 7) in
          let m : joined f (bs ++ (b ∷ [])) ≡ joined f bs ++ f b = joined_append f bs (b ∷ []) ∙ ap (λ (z : List Member). joined f bs ++ z) (joined_one f b) in
          record {
            within = omega arith;
            few = w.few;
            sound = w.sound;
            own_room = w.own_room;
            group_room = w.group_room;
            work_room = w.work_room;
            own_long = e₇ ∙ w.own_long;
            group_long = e₅ ∙ w.group_long;
            work_long = e₆ ∙ w.work_long;
            many = rw (add-one i, suc-mul i (lim.fill.borrows + 1)) (grow g.groups (i * (lim.fill.borrows + 1)) r.groups (lim.fill.borrows + 1) w.many e₃);
            some = rw (add-one i, suc-mul i (lim.fill.ids + lim.fill.views)) (grow g.ids (i * (lim.fill.ids + lim.fill.views)) r.ids (lim.fill.ids + lim.fill.views) w.some e₄);
            ended = e₂;
            is = rw (add-one i) (e₁ ∙ rw (w.is, m) (sym (entered_append ss [] (joined f bs) (f b))));
          }
        where
          grow : (a p c x : ℕ) → a ≤ p → c ≤ a + x → c ≤ p + x
          grow a p c x u v = omega arith

    pub gathered_all : n ≤ i → members_in groups work l.pool g.groups ≡ entered_from ss [] (members_at l t rows n)
    gathered_all h = let e : i ≡ n = omega (arith, w.within) in rw e at w.is

    pub gathered_long : g.groups * 6 ≤ length groups
    gathered_long = rw w.group_long (go (i * (lim.fill.borrows + 1)) w.many (mul-le-mul_right (lim.fill.borrows + 1) few_enough))
      where
        few_enough : i ≤ most_sources
        few_enough = omega (arith, w.few, w.within)

        go : (p : ℕ) → g.groups ≤ p → p ≤ most_sources * (lim.fill.borrows + 1) → g.groups * 6 ≤ gs
        go p a b = omega (arith, w.group_room)
