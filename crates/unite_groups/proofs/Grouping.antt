-- Members entered one by one: the borrows of a window, a source's own ids. Assumes nothing.
use Rattle.std.specs.Prelude.{Option}
use Prim.Native.Nat.{ℕ, suc, ◌+◌, ◌*◌, ◌/◌, ◌≤◌, ◌<◌}
use mathlib.Core.Path.{◌≡◌, refl, sym, ap, ◌∙◌}
use mathlib.Core.Bool.{true}
use mathlib.Core.List.{List, [], ◌∷◌, ◌++◌}
use native.Mathlib.Omega.{arith}
use native.Mathlib.Nat.{zero-add}
use native.Mathlib.Numerals.{add-one}
use lib.ListN.{length, take, drop}
use lib.Seq.{length-take-le}
use borrow.Author.Tests.{le-leb}
use Rattle.tables.specs.Layout.{write, up_to}
use Rattle.tables.specs.Window.{held_of}
use Rattle.tables.specs.declared.Window.{Window}
use Rattle.tables.proofs.Holds.{holds_at, up_to_front}
use Rattle.tables.proofs.Joined.{up_to_length, up_to_more}
use Rattle.tables.proofs.Writes.{write_length}
use Rattle.ids.specs.declared.SstId.{SstId}
use Rattle.ids.specs.declared.Uuid.{Uuid}
use Rattle.ids.specs.Names.{ids_of}
use Rattle.records.specs.Model.{Borrow}
use Rattle.records.specs.Row.{id_at, borrow_at}
use Rattle.records.specs.Decode.{bytes_in, ids_in, borrow_in, borrows_in}
use Rattle.records.specs.Fill.{sum, borrow_fill}
use Rattle.records.specs.Layout.{ids_laid}
use Rattle.records.specs.declared.BorrowRow.{BorrowRow}
use Rattle.records.specs.declared.Fill.{Fill}
use Rattle.records.specs.declared.Place.{Place}
use Rattle.records.proofs.Lists.{ids_back}
use Rattle.records.proofs.Sums.{sum_append, sum_more}
use Rattle.emit.proofs.Columns.{ids_laid_long}
use Rattle.borrows.specs.Clone.{final_of}
use Rattle.unite_groups.specs.Sets.{id_entered, id_set_from, id_set}
use Rattle.unite_groups.specs.Groups.{Member}
use Rattle.unite_groups.specs.Chosen.{Supply, supplied_with}
use Rattle.unite_groups.specs.Rows.{members_in, end_by, member_entered, entered_from, borrow_member, borrow_members, owned_member}
use Rattle.unite_groups.specs.Steps.{member_joined}
use Rattle.unite_groups.specs.declared.Grouped.{Grouped}
use Rattle.unite_groups.proofs.IdSets.{entered_long}
use Rattle.unite_groups.proofs.GroupRows.{up_to_same, members_kept}

-- ---- one member

pub set_few : (set xs : List SstId) → length (id_set_from set xs) ≤ length set + length xs
unfolding id_set_from
set_few set [] = omega arith
set_few set (x ∷ xs) = omega (arith, set_few (id_entered x set) xs, (entered_long x set).1)

module _ (ids work : List ℕ) (w : Window) (g : Grouped) (room : (g.ids + length (ids_in ids w)) * 2 ≤ length work)
    (count : ℕ) (c : count ≡ length (id_set (ids_in ids w))) (work₁ : List ℕ) (e : work₁ ≡ write work (g.ids * 2) (ids_laid (id_set (ids_in ids w)))) where
  few : count ≤ length (ids_in ids w)
  few = let h = set_few [] (ids_in ids w) in omega arith

  fits_behind : g.ids * 2 + length (ids_laid (id_set (ids_in ids w))) ≤ length work
  fits_behind = rw (ids_laid_long (id_set (ids_in ids w)), ← c) (omega (arith, few))

  pub one_long : length work₁ ≡ length work
  one_long = ap length e ∙ write_length work (g.ids * 2) (ids_laid (id_set (ids_in ids w))) fits_behind

  pub one_room : (g.ids + count) * 2 ≤ length work₁
  one_room = rw one_long (omega (arith, few))

  pub one_more : (n : ℕ) → n ≤ g.ids + count → n ≤ g.ids + length (ids_in ids w)
  one_more n h = omega (arith, few)

  set_read : ids_in work₁ (record { first = g.ids; count = count }) ≡ id_set (ids_in ids w)
  set_read =
      let set = id_set (ids_in ids w) in
      rw (c, e) (ids_back (write work (g.ids * 2) (ids_laid set)) g.ids set (holds_at (take (g.ids * 2) work) (ids_laid set) (drop (g.ids * 2 + length (ids_laid set)) work) (g.ids * 2) (length-take-le (g.ids * 2) work (omega arith))))

  pub one_joined : (groups groups₁ pool : List ℕ) (n : ℕ) (p : Place) (u : Uuid) (ss : List Supply) (s : Option Uuid) → end_by g.ids groups g.groups ≡ true → s ≡ supplied_with ss (bytes_in pool p)
      → members_in groups₁ work₁ pool n ≡ member_entered s (bytes_in pool p) (ids_in work₁ (record { first = g.ids; count = count })) u (members_in groups work₁ pool g.groups)
      → members_in groups₁ work₁ pool n ≡ member_joined ss (members_in groups work pool g.groups) (record { path = bytes_in pool p; checkpoint = u; ids = ids_in ids w })
  one_joined groups groups₁ pool n p u ss s h f m =
      let kept : members_in groups work₁ pool g.groups ≡ members_in groups work pool g.groups = rw e (members_kept work (ids_laid (id_set (ids_in ids w))) g.ids fits_behind groups pool g.groups h) in
      m ∙ rw (kept, set_read, f)

-- ---- one borrow

module _ (borrows ids pool : List ℕ) (i : ℕ) (b : BorrowRow) (e : b ≡ borrow_at borrows i) where
  pub borrow_count_lem : length (borrow_in ids pool (borrow_at borrows i)).ids ≡ length (ids_in ids b.ids)
  unfolding borrow_in
  borrow_count_lem = rw e

  pub borrow_joined : (ss : List Supply) (gs ms : List Member) (u : Uuid) → u ≡ final_of b.fin → ms ≡ member_joined ss gs (record { path = bytes_in pool b.path; checkpoint = u; ids = ids_in ids b.ids })
      → ms ≡ member_joined ss gs (borrow_member (borrow_in ids pool (borrow_at borrows i)))
  unfolding borrow_in
  borrow_joined ss gs ms u f m = m ∙ rw (f, e)

-- ---- the borrows of a window

joined_more : (ss : List Supply) (gs ms : List Member) (m : Member) → entered_from ss gs (ms ++ (m ∷ [])) ≡ member_joined ss (entered_from ss gs ms) m
unfolding entered_from
joined_more ss gs [] m = refl
joined_more ss gs (n ∷ ms) m = joined_more ss (member_joined ss gs n) ms m

borrows_more : (bs : List Borrow) (b : Borrow) → borrow_members (bs ++ (b ∷ [])) ≡ borrow_members bs ++ (borrow_member b ∷ [])
borrows_more [] b = refl
borrows_more (a ∷ bs) b = ap (λ (l : List Member). borrow_member a ∷ l) (borrows_more bs b)

abbrev pub ids_to : (ℕ → Borrow) → ℕ → ℕ
ids_to f k = (sum borrow_fill (up_to f k)).ids

ids_next : (f : ℕ → Borrow) (k : ℕ) → ids_to f (k + 1) ≡ ids_to f k + length (f k).ids
unfolding borrow_fill
ids_next f k = rw (add-one k) (ap (λ (c : Fill). c.ids) (sum_more borrow_fill (up_to f k) (f k)) ∙ omega arith)

ids_part : (f : ℕ → Borrow) (k n : ℕ) → k < n → ids_to f k + length (f k).ids ≤ ids_to f n
ids_part f k n h =
    let r = up_to_more f (k + 1) n (omega arith) in
    let s : ids_to f n ≡ ids_to f (k + 1) + (sum borrow_fill r.0).ids = ap (λ (l : List Borrow). (sum borrow_fill l).ids) r.1 ∙ ap (λ (c : Fill). c.ids) (sum_append borrow_fill (up_to f (k + 1)) r.0) in
    omega (arith, ids_next f k)

-- the first k borrows have been entered
pub record Entered (ss : List Supply) (pool : List ℕ) (f : ℕ → Borrow) (n : ℕ) (groups₀ work₀ : List ℕ) (g₀ : Grouped) (groups work : List ℕ) (g : Grouped) (k : ℕ) : Type 0 where
  pub within : k ≤ n
  pub room : (g₀.groups + n) * 6 ≤ length groups₀
  pub space : (g₀.ids + ids_to f n) * 2 ≤ length work₀
  pub rows : length groups ≡ length groups₀
  pub words : length work ≡ length work₀
  pub many : g.groups ≤ g₀.groups + k
  pub some : g.ids ≤ g₀.ids + ids_to f k
  pub ended : end_by g.ids groups g.groups ≡ true
  pub is : members_in groups work pool g.groups ≡ entered_from ss (members_in groups₀ work₀ pool g₀.groups) (borrow_members (up_to f k))

module _ (ss : List Supply) (pool : List ℕ) (f : ℕ → Borrow) (n : ℕ) (groups₀ work₀ : List ℕ) (g₀ : Grouped) where
  pub entered_none : (g₀.groups + n) * 6 ≤ length groups₀ → (g₀.ids + ids_to f n) * 2 ≤ length work₀ → end_by g₀.ids groups₀ g₀.groups ≡ true
      → Entered ss pool f n groups₀ work₀ g₀ groups₀ work₀ g₀ 0
  unfolding entered_from
  entered_none h l e = record { within = omega arith; room = h; space = l; rows = refl; words = refl; many = omega arith; some = omega arith; ended = e; is = refl }

  module _ (groups work : List ℕ) (g : Grouped) (k : ℕ) (w : Entered ss pool f n groups₀ work₀ g₀ groups work g k) where
    pub entered_room : k < n → (g.groups + 1) * 6 ≤ length groups
    entered_room h = rw w.rows (omega (arith, w.room, w.many))

    pub entered_space : k < n → (g.ids + length (f k).ids) * 2 ≤ length work
    entered_space h = rw w.words (omega (arith, w.space, w.some, ids_part f k n h))

    pub entered_more : (groups₁ work₁ : List ℕ) (r : Grouped) → k < n → members_in groups₁ work₁ pool r.groups ≡ member_joined ss (members_in groups work pool g.groups) (borrow_member (f k))
        → end_by r.ids groups₁ r.groups ≡ true → r.groups ≤ g.groups + 1 → r.ids ≤ g.ids + length (f k).ids → length groups₁ ≡ length groups → length work₁ ≡ length work
        → Entered ss pool f n groups₀ work₀ g₀ groups₁ work₁ r (k + 1)
    entered_more groups₁ work₁ r h m e a b p q =
        record {
          within = omega arith;
          room = w.room;
          space = w.space;
          rows = p ∙ w.rows;
          words = q ∙ w.words;
          many = omega (arith, w.many);
          some = rw (ids_next f k) (omega (arith, w.some));
          ended = e;
          is = m ∙ rw (w.is, add-one k, borrows_more (up_to f k) (f k)) (sym (joined_more ss (members_in groups₀ work₀ pool g₀.groups) (borrow_members (up_to f k)) (borrow_member (f k))));
        }

    pub entered_all : n ≤ k → (bs : List Borrow) → bs ≡ up_to f n → (m : ℕ) → n ≡ m
        → (members_in groups work pool g.groups ≡ entered_from ss (members_in groups₀ work₀ pool g₀.groups) (borrow_members bs))
        × ((end_by g.ids groups g.groups ≡ true) × ((g.groups ≤ g₀.groups + m) × ((g.ids ≤ g₀.ids + (sum borrow_fill bs).ids) × ((length groups ≡ length groups₀) × (length work ≡ length work₀)))))
    entered_all h bs e m q =
        let z : k ≡ n = omega (arith, w.within) in
        (rw e (rw z at w.is), (w.ended, (omega (arith, w.many), (rw e (rw z at w.some), (w.rows, w.words)))))

pub window_borrows : (borrows ids pool : List ℕ) (w : Window) (n : ℕ) → n ≡ held_of w (length borrows / 9) → borrows_in borrows ids pool w ≡ up_to (λ k. borrow_in ids pool (borrow_at borrows (w.first + k))) n
unfolding borrows_in
window_borrows borrows ids pool w n e = rw e

-- ---- a source's own ids

id_later : (hi lo : ℕ) (ws : List ℕ) (k : ℕ) → id_at (hi ∷ lo ∷ ws) (suc k) ≡ id_at ws k
unfolding id_at
id_later hi lo ws k =
    let e : suc k * 2 ≡ suc (suc (k * 2)) = omega arith in
    let f : suc k * 2 + 1 ≡ suc (suc (k * 2 + 1)) = omega arith in
    rw (f, e)

ids_of_lem : (ws : List ℕ) → up_to (id_at ws) (length ws / 2) ≡ ids_of ws
unfolding ids_of id_at
ids_of_lem [] = refl
ids_of_lem (hi ∷ []) = refl
ids_of_lem (hi ∷ lo ∷ ws) =
    let z : suc (suc (length ws)) / 2 ≡ suc (length ws / 2) = omega arith in
    ap (up_to (id_at (hi ∷ lo ∷ ws))) z
    ∙ up_to_front (id_at (hi ∷ lo ∷ ws)) (length ws / 2)
    ∙ ap (λ (l : List SstId). (hi, lo) ∷ l) (up_to_same (λ k. id_at (hi ∷ lo ∷ ws) (suc k)) (id_at ws) (length ws / 2) (λ k l. id_later hi lo ws k) ∙ ids_of_lem ws)

-- all words of a list as a window
pub owned_window : (ws : List ℕ) → ids_in ws (record { first = 0; count = length ws / 2 }) ≡ ids_of ws
unfolding ids_in held_of
owned_window ws =
    let z : 0 + length ws / 2 ≡ length ws / 2 = zero-add (length ws / 2) in
    simp zero-add (rw (le-leb (length ws / 2) (length ws / 2) (omega arith)) (ids_of_lem ws))

ids_many : (ws : List ℕ) → length (ids_of ws) ≡ length ws / 2
ids_many ws = ap length (sym (ids_of_lem ws)) ∙ up_to_length (id_at ws) (length ws / 2)

none_owned : (p : List ℕ) (u : Uuid) (xs : List SstId) → length xs ≡ 0 → owned_member p u xs ≡ []
none_owned p u [] h = refl
none_owned p u (x ∷ xs) h = absurd (omega arith)

some_owned : (p : List ℕ) (u : Uuid) (xs : List SstId) → 0 < length xs → owned_member p u xs ≡ record { path = p; checkpoint = u; ids = xs } ∷ []
some_owned p u [] h = absurd (omega arith)
some_owned p u (x ∷ xs) h = refl

module _ (ss : List Supply) (gs : List Member) (p : List ℕ) (u : Uuid) (ws : List ℕ) where
  pub owned_none : length ws < 2 → gs ≡ entered_from ss gs (owned_member p u (ids_of ws))
  unfolding entered_from
  owned_none h = rw (none_owned p u (ids_of ws) (ids_many ws ∙ omega arith))

  pub owned_joined : (ms : List Member) → 2 ≤ length ws → ms ≡ member_joined ss gs (record { path = p; checkpoint = u; ids = ids_in ws (record { first = 0; count = length ws / 2 }) }) → ms ≡ entered_from ss gs (owned_member p u (ids_of ws))
  unfolding entered_from
  owned_joined ms h m = m ∙ rw (owned_window ws, some_owned p u (ids_of ws) (rw (ids_many ws) (omega arith)))
