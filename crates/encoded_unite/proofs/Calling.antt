-- The form of a call, the working memory, and the order of refusals. Assumes nothing.
use Rattle.std.specs.Prelude.{Err, Ok, Result}
use Prim.Native.Nat.{ℕ, ◌+◌, ◌-◌, ◌*◌, ◌/◌, ◌≤◌, ◌<◌}
use mathlib.Core.Path.{◌≡◌, refl, sym, ap, subst, ◌∙◌}
use mathlib.Core.Bool.{Bool, true, false, not, ◌||◌}
use mathlib.Core.List.{List}
use native.Mathlib.Omega.{arith}
use native.Mathlib.Decide.{dec_lt}
use lib.Dec.{ltb}
use lib.ListN.{length}
use borrow.Author.Tests.{ltb-false, lt-ltb, le-ltb}
use Rattle.keys.proofs.Says.{says_same, says_lt, true_says, false_says}
use Rattle.ids.specs.declared.Uuid.{Uuid}
use Rattle.records.specs.Fill.{bytes, fits}
use Rattle.records.specs.Decode.{Lent}
use Rattle.records.specs.declared.Fill.{Fill}
use Rattle.records.specs.declared.Limits.{Limits}
use Rattle.records.specs.declared.Refusal.{Refusal}
use Rattle.records.specs.declared.Refusal.TheVariants.{OverLimit, NoRoom}
use Rattle.measure.proofs.Fits.{Under, says_fits, under}
use Rattle.copy.specs.Copy.{room_of}
use Rattle.borrows.specs.Clone.{uuids_of}
use Rattle.unite_sources.specs.Source.{Source}
use Rattle.unite_sources.specs.Rows.{sources_in}
use Rattle.unite_judge.specs.Judging.{most_sources, sources_judged}
use Rattle.manifest_read.specs.Answer.{work_room}
use Rattle.encoded.specs.Read.{refused_with}
use Rattle.encoded_union.specs.Union.{some_bad, sources_of, unless_unread, union_of, call_over, behind, short_union, union_to}
use Rattle.encoded_union.specs.Steps.{Gathered}
use Rattle.encoded_unite.specs.Steps.{tables_short, rest_short}
use Rattle.encoded_union.proofs.Gather.{or_false, under_more, behind_upto}

-- ---- the form of the call

unlike : (a b : ℕ) → (a ≡ b → ⊥) → (ltb a b || ltb b a) ≡ true
unlike a b h = elim (dec_lt a b) [ yes l ↦ rw (lt-ltb a b l) | no n ↦ (elim (dec_lt b a) [ yes l ↦ rw (le-ltb a b (omega arith), lt-ltb b a l) | no m ↦ absurd (h (omega arith)) ]) ]

alike : (a b : ℕ) → a ≡ b → (ltb a b || ltb b a) ≡ false
alike a b h = rw (le-ltb a b (omega arith), le-ltb b a (omega arith))

-- what the form of a call says that is not refused
pub record Called (lim : Limits) (s ends paths path_ends checkpoints : List ℕ) : Type 0 where
  pub count : length ends ≤ most_sources
  pub paths_too : length path_ends ≡ length ends
  pub checkpoints_too : length checkpoints ≡ length ends * 2
  pub parts : some_bad 0x1_0000 (length s) ends (length ends) ≡ false
  pub path_parts : some_bad lim.path (length paths) path_ends (length ends) ≡ false

module _ (lim : Limits) (s ends paths path_ends checkpoints : List ℕ) where
  pub called : call_over lim s ends paths path_ends checkpoints ≡ false → Called lim s ends paths path_ends checkpoints
  unfolding call_over
  called e =
      let n = length ends in
      let a = or_false (ltb most_sources n) _ e in
      let b = or_false (ltb (length path_ends) n || ltb n (length path_ends)) _ a.1 in
      let d = or_false (ltb (length path_ends) n) (ltb n (length path_ends)) b.0 in
      let f = or_false (ltb (length checkpoints) (n * 2) || ltb (n * 2) (length checkpoints)) _ b.1 in
      let g = or_false (ltb (length checkpoints) (n * 2)) (ltb (n * 2) (length checkpoints)) f.0 in
      let h = or_false (some_bad 0x1_0000 (length s) ends n) _ f.1 in
      record {
        count = ltb-false most_sources n a.0;
        paths_too = omega (arith, ltb-false (length path_ends) n d.0, ltb-false n (length path_ends) d.1);
        checkpoints_too = omega (arith, ltb-false (length checkpoints) (n * 2) g.0, ltb-false (n * 2) (length checkpoints) g.1);
        parts = h.0;
        path_parts = h.1;
      }

  pub over_count : most_sources < length ends → true ≡ call_over lim s ends paths path_ends checkpoints
  unfolding call_over
  over_count h = rw (lt-ltb most_sources (length ends) h)

  module _ (h : length ends ≤ most_sources) where
    pub over_paths : (length path_ends ≡ length ends → ⊥) → true ≡ call_over lim s ends paths path_ends checkpoints
    unfolding call_over
    over_paths k = rw (le-ltb most_sources (length ends) h, unlike (length path_ends) (length ends) k)

    module _ (k : length path_ends ≡ length ends) where
      pub over_checkpoints : (length checkpoints ≡ length ends * 2 → ⊥) → true ≡ call_over lim s ends paths path_ends checkpoints
      unfolding call_over
      over_checkpoints j = rw (le-ltb most_sources (length ends) h, alike (length path_ends) (length ends) k, unlike (length checkpoints) (length ends * 2) j)

      module _ (j : length checkpoints ≡ length ends * 2) (r : Bool) (e : r ≡ some_bad 0x1_0000 (length s) ends (length ends)) where
        pub over_parts : r ≡ true → true ≡ call_over lim s ends paths path_ends checkpoints
        unfolding call_over
        over_parts f = rw (le-ltb most_sources (length ends) h, alike (length path_ends) (length ends) k, alike (length checkpoints) (length ends * 2) j, sym e ∙ f)

        pub over_path_parts : r ≡ false → (q : Bool) → q ≡ some_bad lim.path (length paths) path_ends (length ends) → q ≡ call_over lim s ends paths path_ends checkpoints
        unfolding call_over
        over_path_parts f q g = rw (le-ltb most_sources (length ends) h, alike (length path_ends) (length ends) k, alike (length checkpoints) (length ends * 2) j, sym e ∙ f) g

-- ---- room for eight

module _ (most : Fill) (n : ℕ) (room : Fill) where
  -- what each of eight may fill
  abbrev eighth : Fill
  eighth =
      record {
        segments = room.segments / 8;
        views = room.views / 8;
        runs = room.runs / 8;
        borrows = room.borrows / 8;
        ids = room.ids / 8;
        bytes = (room.bytes - n) / 8;
      }

  eight_under : Under (behind most (bytes n) most_sources) room → (n ≤ room.bytes) × Under most eighth
  unfolding behind
  eight_under w = (
    omega (arith, w.bytes),
    record {
      segments = omega (arith, w.segments);
      views = omega (arith, w.views);
      runs = omega (arith, w.runs);
      borrows = omega (arith, w.borrows);
      ids = omega (arith, w.ids);
      bytes = omega (arith, w.bytes);
    },
  )

  under_eight : n ≤ room.bytes → Under most eighth → Under (behind most (bytes n) most_sources) room
  unfolding behind
  under_eight h w =
      record {
        segments = omega (arith, w.segments);
        views = omega (arith, w.views);
        runs = omega (arith, w.runs);
        borrows = omega (arith, w.borrows);
        ids = omega (arith, w.ids);
        bytes = omega (arith, w.bytes);
      }

  pub eight_none : room.bytes < n → false ≡ fits (behind most (bytes n) most_sources) room
  eight_none h = sym (false_says (says_fits (behind most (bytes n) most_sources) room) (λ w. let z = (eight_under w).0 in omega arith))

  pub eight_left : n ≤ room.bytes → (r : Bool) → r ≡ fits most eighth → r ≡ fits (behind most (bytes n) most_sources) room
  eight_left h r e = e ∙ says_same ((λ w. under_eight h w), (λ w. (eight_under w).1)) (says_fits most eighth) (says_fits (behind most (bytes n) most_sources) room)

-- ---- the list of UUIDs

pub lent_less : (most given lent : ℕ) → lent < given → true ≡ ltb lent (given + most * 2)
lent_less most given lent h = sym (lt-ltb lent (given + most * 2) (omega arith))

pub lent_left : (most given lent : ℕ) → given ≤ lent → ltb ((lent - given) / 2) most ≡ ltb lent (given + most * 2)
lent_left most given lent h = says_same ((λ l. omega arith), (λ l. omega arith)) (says_lt ((lent - given) / 2) most) (says_lt lent (given + most * 2))

-- room for eight is room for fewer
pub fewer : (most : Fill) (n k : ℕ) (room : Fill) → k ≤ most_sources → fits (behind most (bytes n) most_sources) room ≡ true → fits (behind most (bytes n) k) room ≡ true
fewer most n k room h f =
    true_says (says_fits (behind most (bytes n) k) room)
    (under_more most (behind most (bytes n) k) (behind most (bytes n) most_sources) room (behind_upto most (bytes n) k most_sources h) (under (behind most (bytes n) most_sources) room f))

-- ---- the working memory

-- what there is room for
pub record Roomy (lim : Limits) (n : ℕ) (w t : Lent) (given lent : ℕ) (o : Lent) (short : Bool) : Type 0 where
  pub work : fits lim.fill (work_room lim w) ≡ true
  pub all : fits (behind lim.fill (bytes n) most_sources) (room_of t) ≡ true
  pub list : given + lim.fill.borrows * 2 ≤ lent
  pub result : fits lim.fill (room_of o) ≡ true
  pub rest : short ≡ false

module _ (lim : Limits) (n : ℕ) (w t : Lent) (given lent : ℕ) (o : Lent) (short : Bool) where
  pub roomy : (short_union lim n w t given lent o || short) ≡ false → Roomy lim n w t given lent o short
  unfolding short_union
  roomy e =
      let z = go (fits lim.fill (work_room lim w)) (fits (behind lim.fill (bytes n) most_sources) (room_of t)) (ltb lent (given + lim.fill.borrows * 2)) (fits lim.fill (room_of o)) short e in
      record { work = z.0; all = z.1; list = ltb-false lent (given + lim.fill.borrows * 2) z.2; result = z.3; rest = z.4 }
    where
      go : (a b c d f : Bool) → ((not a || (not b || (c || not d))) || f) ≡ false → (a ≡ true) × (b ≡ true) × (c ≡ false) × (d ≡ true) × (f ≡ false)
      go true true false true false e = (refl, refl, refl, refl, refl)
      go true true false true true e = let z : ◌≡◌ {A = ℕ} 0 1 = cc in absurd (omega arith)
      go true true false false f e = let z : ◌≡◌ {A = ℕ} 0 1 = cc in absurd (omega arith)
      go true true true d f e = let z : ◌≡◌ {A = ℕ} 0 1 = cc in absurd (omega arith)
      go true false c d f e = let z : ◌≡◌ {A = ℕ} 0 1 = cc in absurd (omega arith)
      go false b c d f e = let z : ◌≡◌ {A = ℕ} 0 1 = cc in absurd (omega arith)

  pub by_parts : (short_union lim n w t given lent o || short) ≡ (tables_short lim n (work_room lim w) (room_of t) || rest_short lim given lent (room_of o) short)
  unfolding short_union tables_short rest_short
  by_parts = go (not (fits lim.fill (work_room lim w))) (not (fits (behind lim.fill (bytes n) most_sources) (room_of t))) (ltb lent (given + lim.fill.borrows * 2) || not (fits lim.fill (room_of o)))
    where
      go : (a b c : Bool) → ((a || (b || c)) || short) ≡ ((a || b) || (c || short))
      go true b c = refl
      go false true c = refl
      go false false c = refl

module _ (lim : Limits) (n : ℕ) (work all : Fill) (a : Bool) (e : a ≡ fits lim.fill work) where
  pub tables_work : a ≡ false → true ≡ tables_short lim n work all
  unfolding tables_short
  tables_work h = rw (sym e ∙ h)

  pub tables_all : a ≡ true → (b : Bool) → b ≡ fits (behind lim.fill (bytes n) most_sources) all → not b ≡ tables_short lim n work all
  unfolding tables_short
  tables_all h b f = rw (sym e ∙ h, f)

module _ (lim : Limits) (given lent : ℕ) (to : Fill) (short : Bool) (a : Bool) (e : a ≡ ltb lent (given + lim.fill.borrows * 2)) where
  pub rest_list : a ≡ true → true ≡ rest_short lim given lent to short
  unfolding rest_short
  rest_list h = rw (sym e ∙ h)

  module _ (h : a ≡ false) (b : Bool) (f : b ≡ fits lim.fill to) where
    pub rest_result : b ≡ false → true ≡ rest_short lim given lent to short
    unfolding rest_short
    rest_result k = rw (sym e ∙ h, sym f ∙ k)

    pub rest_own : b ≡ true → (x : Bool) → x ≡ short → x ≡ rest_short lim given lent to short
    unfolding rest_short
    rest_own k x y = rw (sym e ∙ h, sym f ∙ k) y

-- either of two tests, the first of which was made
module _ (x y a : Bool) (e : a ≡ x) where
  pub either_first : a ≡ true → true ≡ (x || y)
  either_first h = rw (sym e ∙ h)

  pub either_next : a ≡ false → (b : Bool) → b ≡ y → b ≡ (x || y)
  either_next h b f = rw (sym e ∙ h) f

-- tables that are as long as before have the same room
module _ (most : Fill) {segments views runs borrows ids segments' views' runs' borrows' ids' : ℕ} (pool : ℕ) where
  pub same_room : segments' ≡ segments → views' ≡ views → runs' ≡ runs → borrows' ≡ borrows → ids' ≡ ids
      → fits most (record { segments = segments / 12; views = views / 16; runs = runs / 3; borrows = borrows / 9; ids = ids / 2; bytes = pool }) ≡ true
      → fits most (record { segments = segments' / 12; views = views' / 16; runs = runs' / 3; borrows = borrows' / 9; ids = ids' / 2; bytes = pool }) ≡ true
  same_room a b d e f h = rw (a, b, d, e, f) h

-- ---- what was read

module _ (lim : Limits) (s ends paths path_ends checkpoints : List ℕ) (n : ℕ) (r : Result Unit Refusal) (l : Lent) (t : List ℕ) (g : Gathered lim s ends paths path_ends checkpoints n r l t) where
  as_read : (x : Result Unit Refusal) → r ≡ x → Gathered lim s ends paths path_ends checkpoints n x l t
  as_read x e = subst (λ (y : Result Unit Refusal). Gathered lim s ends paths path_ends checkpoints n y l t) e g

  pub read_judged : r ≡ Ok tt → sources_judged lim l t n ≡ Ok tt
  read_judged e = (as_read (Ok tt) e).0

  module _ (room : Fill) (out : List ℕ) (fresh : List Uuid) where
    pub read_united : r ≡ Ok tt → union_of lim room out (sources_in l t n) fresh ≡ unless_unread (refused_with out) lim s ends n (union_of lim room out (sources_of lim s ends paths path_ends checkpoints n) fresh)
    read_united e =
        let q = as_read (Ok tt) e in
        ap (λ (ss : List Source). union_of lim room out ss fresh) q.1 ∙ sym (q.2 (refused_with out) (union_of lim room out (sources_of lim s ends paths path_ends checkpoints n) fresh))

    pub read_not : (x : Refusal) → r ≡ Err x → refused_with out x ≡ unless_unread (refused_with out) lim s ends n (union_of lim room out (sources_of lim s ends paths path_ends checkpoints n) fresh)
    read_not x e = sym (as_read (Err x) e (refused_with out) (union_of lim room out (sources_of lim s ends paths path_ends checkpoints n) fresh))

-- ---- the order of refusals

module _ (lim : Limits) (s ends paths path_ends checkpoints fresh : List ℕ) (room : Fill) (w t : Lent) (lent : ℕ) (short : Bool) (o : Lent) (out : List ℕ) (a : Bool) (e : a ≡ call_over lim s ends paths path_ends checkpoints) where
  pub order_over : a ≡ true → refused_with out OverLimit ≡ union_to lim s ends paths path_ends checkpoints fresh room w t lent short o out
  unfolding union_to
  order_over h = rw (sym e ∙ h)

  module _ (h : a ≡ false) (b : Bool) (f : b ≡ (tables_short lim (length paths) (work_room lim w) (room_of t) || rest_short lim (length fresh) lent (room_of o) short)) where
    pub order_short : b ≡ true → refused_with out NoRoom ≡ union_to lim s ends paths path_ends checkpoints fresh room w t lent short o out
    unfolding union_to
    order_short k = rw (sym e ∙ h, by_parts lim (length paths) w t (length fresh) lent o short ∙ sym f ∙ k)

    pub order_read : b ≡ false
        → unless_unread (refused_with out) lim s ends (length ends) (union_of lim room out (sources_of lim s ends paths path_ends checkpoints (length ends)) (uuids_of fresh))
        ≡ union_to lim s ends paths path_ends checkpoints fresh room w t lent short o out
    unfolding union_to
    order_read k = rw (sym e ∙ h, by_parts lim (length paths) w t (length fresh) lent o short ∙ sym f ∙ k)
