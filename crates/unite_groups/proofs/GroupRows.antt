-- Rows of groups: words read and written, and what they say of the tables that they point into. Assumes nothing.
use Rattle.std.specs.Prelude.{Option}
use Prim.Native.Nat.{ℕ, zero, suc, ◌+◌, ◌*◌, ◌/◌, ◌≤◌, ◌<◌}
use mathlib.Core.Path.{◌≡◌, refl, sym, ap, ◌∙◌}
use mathlib.Core.Bool.{Bool, true, false}
use mathlib.Core.List.{List, [], ◌∷◌, ◌++◌, map}
use native.Mathlib.Omega.{arith}
use native.Mathlib.Nat.{add_assoc, zero-add}
use native.Mathlib.Numerals.{add-one}
use lib.Dec.{leb}
use lib.ListN.{length, get_or, take, drop}
use lib.Seq.{drop-cons, length-take-le}
use borrow.Author.Tests.{leb-true, le-leb}
use Rattle.std.specs.declared.cmp.Ordering.{Ordering}
use Rattle.std.specs.declared.cmp.Ordering.TheVariants.{Less, Equal, Greater}
use Rattle.tables.specs.Layout.{write, up_to, joined}
use Rattle.keys.specs.Pick.{pick}
use Rattle.tables.specs.Window.{lies_in, held_of}
use Rattle.tables.specs.declared.Window.{Window}
use Rattle.tables.proofs.Holds.{Holds, holds_first, holds_rest, holds_at, holds_head, holds_word, reads_back}
use Rattle.tables.proofs.Writes.{write_length}
use Rattle.ids.specs.declared.SstId.{SstId}
use Rattle.ids.specs.declared.Uuid.{Uuid}
use Rattle.records.specs.Row.{at, id_at}
use Rattle.records.specs.Decode.{ids_in}
use Rattle.measure.specs.Tests.{all_of}
use Rattle.measure.proofs.Lists.{and_true, all_append}
use Rattle.segments.proofs.Places.{and_both}
use Rattle.shift.proofs.Written.{write_before}
use Rattle.unite_groups.specs.Sets.{by_order}
use Rattle.unite_groups.specs.Groups.{Member, key_order}
use Rattle.unite_groups.specs.Rows.{members_in, end_by, better, with_better, member_entered}
use Rattle.unite_groups.specs.Steps.{entered, group_at, group_words, member_of, better_row}
use Rattle.unite_groups.specs.declared.GroupRow.{GroupRow}

-- ---- one row

pub group_made : (t : List ℕ) (i a b c d : ℕ) → a ≡ at t (i * 6) → b ≡ at t (i * 6 + 1) → c ≡ at t (i * 6 + 4) → d ≡ at t (i * 6 + 5)
    → record { path = record { at = a; len = b }; checkpoint = (at t (i * 6 + 2), at t (i * 6 + 3)); ids = record { first = c; count = d } } ≡ group_at t i
unfolding group_at
group_made t i a b c d e f g h = let five : i * 6 + 4 + 1 ≡ i * 6 + 5 = omega arith in rw (e, f, g, h, five)

pub group_wide : (g : GroupRow) → length (group_words g) ≡ 6
unfolding group_words
group_wide g = refl

pub group_at_back : (t : List ℕ) (i : ℕ) (g : GroupRow) → Holds t (i * 6) (group_words g) → group_at t i ≡ g
unfolding group_at group_words
group_at_back t i g h = simp (add_assoc, holds_head t (i * 6) (group_words g) h, holds_word t (i * 6) (group_words g) h)

pub group_held : (t : List ℕ) (i : ℕ) → (i + 1) * 6 ≤ length t → Holds t (i * 6) (group_words (group_at t i))
unfolding group_at group_words
group_held t i h =
    let b = i * 6 in
    let p : b + 6 ≤ length t = omega arith in
    let one : (n : ℕ) → n < 6 → drop (b + n) t ≡ get_or t (b + n) 0 ∷ drop (b + (n + 1)) t = λ n l. (let e : suc (b + n) ≡ b + (n + 1) = omega arith in rw (← e) (drop-cons t (b + n) 0 (omega arith))) in
    let first : drop b t ≡ get_or t b 0 ∷ drop (b + 1) t = rw (add-one b) (drop-cons t b 0 (omega arith)) in
    let five : b + 4 + 1 ≡ b + 5 = omega arith in
    record {
      behind = drop (b + 6) t;
      is =
          first
          ∙ ap (λ (l : List ℕ). get_or t b 0 ∷ l) (one 1 (omega arith)
          ∙ ap (λ (l : List ℕ). get_or t (b + 1) 0 ∷ l) (one 2 (omega arith)
          ∙ ap (λ (l : List ℕ). get_or t (b + 2) 0 ∷ l) (one 3 (omega arith)
          ∙ ap (λ (l : List ℕ). get_or t (b + 3) 0 ∷ l) (one 4 (omega arith)
          ∙ ap (λ (l : List ℕ). get_or t (b + 4) 0 ∷ l) (rw five (one 5 (omega arith)))))));
    }

-- rows that stand at the front are those that are read
pub rows_read : (t : List ℕ) (gs : List GroupRow) → Holds t 0 (joined group_words gs) → up_to (group_at t) (length gs) ≡ gs
rows_read t gs h = simp zero-add at (reads_back (group_at t) (λ (s : ℕ). s) (λ s x. suc s) (λ s xs. Holds t (s * 6) (joined group_words xs)) turn 0 gs h)
  where
    turn : (s : ℕ) (x : GroupRow) (xs : List GroupRow) → Holds t (s * 6) (joined group_words (x ∷ xs)) → (group_at t s ≡ x) × (suc s ≡ suc s) × Holds t (suc s * 6) (joined group_words xs)
    turn s x xs k =
        (group_at_back t s x (holds_first t (s * 6) (group_words x) (joined group_words xs) k), refl, holds_rest t (s * 6) (group_words x) (joined group_words xs) (suc s * 6) (rw (group_wide x) (omega arith)) k)

pub rows_written : (t d : List ℕ) (gs : List GroupRow) → d ≡ write t (0 * 6) (joined group_words gs) → up_to (group_at d) (length gs) ≡ gs
rows_written t d gs e = rows_read d gs (rw e (holds_at (take (0 * 6) t) (joined group_words gs) (drop (0 * 6 + length (joined group_words gs)) t) 0 (length-take-le 0 t (omega arith))))

-- ---- where the ids of a row end

abbrev pub ends : ℕ → GroupRow → Bool
ends past g = leb (g.ids.first + g.ids.count) past

pub ends_is : (past : ℕ) (t : List ℕ) (n : ℕ) → end_by past t n ≡ all_of (ends past) (up_to (group_at t) n)
unfolding group_at
ends_is past t zero = refl
ends_is past t (suc n) =
    let five : n * 6 + 4 + 1 ≡ n * 6 + 5 = omega arith in
    rw (all_append (ends past) (up_to (group_at t) n) (group_at t n ∷ []), and_true (ends past (group_at t n)), ← ends_is past t n, five)

pub ends_later : (a b : ℕ) → a ≤ b → (gs : List GroupRow) → all_of (ends a) gs ≡ true → all_of (ends b) gs ≡ true
ends_later a b h [] e = refl
ends_later a b h (g ∷ gs) e =
    let w = and_both (ends a g) (all_of (ends a) gs) e in
    let l : g.ids.first + g.ids.count ≤ a = leb-true (g.ids.first + g.ids.count) a w.0 in
    rw (le-leb (g.ids.first + g.ids.count) b (omega arith), ends_later a b h gs w.1)

-- ---- the members that rows stand for

map_snoc : {A B : Type 0} (f : A → B) (xs : List A) (x : A) → map f (xs ++ (x ∷ [])) ≡ map f xs ++ (f x ∷ [])
map_snoc f [] x = refl
map_snoc f (y ∷ xs) x = rw (map_snoc f xs x)

up_to_map : {A B : Type 0} (f : A → B) (g : ℕ → A) (n : ℕ) → up_to (λ k. f (g k)) n ≡ map f (up_to g n)
up_to_map f g zero = refl
up_to_map f g (suc n) = rw (map_snoc f (up_to g n) (g n), up_to_map f g n)

pub members_are : (t work pool : List ℕ) (n : ℕ) → members_in t work pool n ≡ map (member_of work pool) (up_to (group_at t) n)
unfolding members_in group_at
members_are t work pool n = up_to_map (member_of work pool) (group_at t) n

-- entering goes along
pub map_entered : {A B : Type 0} (f : A → B) (o : A → Ordering) (o' : B → Ordering) (x : A) (same : A → A) (same' : B → B) → ((y : A) → o y ≡ o' (f y)) → ((y : A) → f (same y) ≡ same' (f y))
    → (ys : List A) → map f (entered o x same ys) ≡ entered o' (f x) same' (map f ys)
unfolding entered
map_entered f o o' x same same' p q [] = refl
map_entered {A} {B} f o o' x same same' p q (y ∷ ys) = go (o y) (p y) (map_entered f o o' x same same' p q ys)
  where
    go : (r : Ordering) → r ≡ o' (f y) → map f (entered o x same ys) ≡ entered o' (f x) same' (map f ys)
        → map f (by_order r (x ∷ y ∷ ys) (same y ∷ ys) (y ∷ entered o x same ys)) ≡ by_order (o' (f y)) (f x ∷ f y ∷ map f ys) (same' (f y) ∷ map f ys) (f y ∷ entered o' (f x) same' (map f ys))
    go Less e ih = rw (← e)
    go Equal e ih = rw (← e) (ap (λ (b : B). b ∷ map f ys) (q y))
    go Greater e ih = rw (← e) (ap (λ (l : List B). f y ∷ l) ih)

pub member_entered_lem : (s : Option Uuid) (p : List ℕ) (xs : List SstId) (u : Uuid) (gs : List Member)
    → member_entered s p xs u gs ≡ entered (λ g. key_order p xs g.path g.ids) (record { path = p; checkpoint = u; ids = xs }) (λ g. with_better s g u) gs
unfolding member_entered entered
member_entered_lem s p xs u [] = refl
member_entered_lem s p xs u (g ∷ gs) =
    ap (λ (l : List Member). by_order (key_order p xs g.path g.ids) (record { path = p; checkpoint = u; ids = xs } ∷ g ∷ gs) (with_better s g u ∷ gs) (g ∷ l)) (member_entered_lem s p xs u gs)

-- ---- only words behind the cursor are written: what stands before it is read as before

pub up_to_same : {A : Type 0} (f g : ℕ → A) (n : ℕ) → ((k : ℕ) → k < n → f k ≡ g k) → up_to f n ≡ up_to g n
up_to_same f g zero h = refl
up_to_same f g (suc n) h = rw (up_to_same f g n (λ k l. h k (omega arith)), h n (omega arith))

held_upto : (w : Window) (n k : ℕ) → k < held_of w n → k < w.count
unfolding held_of
held_upto w n k h = go (lies_in w n) h
  where
    go : (b : Bool) → k < pick b w.count 0 → k < w.count
    go true h = h
    go false h = absurd (omega arith)

module _ (work xs : List ℕ) (past : ℕ) (l : past * 2 + length xs ≤ length work) where
  id_kept : (i : ℕ) → i < past → id_at (write work (past * 2) xs) i ≡ id_at work i
  unfolding id_at
  id_kept i h = rw (write_before work (past * 2) xs (i * 2) (omega arith) (omega arith), write_before work (past * 2) xs (i * 2 + 1) (omega arith) (omega arith))

  pub ids_kept : (w : Window) → w.first + w.count ≤ past → ids_in (write work (past * 2) xs) w ≡ ids_in work w
  unfolding ids_in
  ids_kept w h =
      rw (write_length work (past * 2) xs l)
      (up_to_same (λ k. id_at (write work (past * 2) xs) (w.first + k)) (λ k. id_at work (w.first + k)) (held_of w (length work / 2)) (λ k q. id_kept (w.first + k) (let c : k < w.count = held_upto w (length work / 2) k q in omega arith)))

  rows_kept_lem : (pool : List ℕ) (gs : List GroupRow) → all_of (ends past) gs ≡ true → map (member_of (write work (past * 2) xs) pool) gs ≡ map (member_of work pool) gs
  rows_kept_lem pool [] e = refl
  rows_kept_lem pool (g ∷ gs) e =
      let w = and_both (ends past g) (all_of (ends past) gs) e in
      rw (ids_kept g.ids (leb-true (g.ids.first + g.ids.count) past w.0), rows_kept_lem pool gs w.1)

  pub members_kept : (t pool : List ℕ) (n : ℕ) → end_by past t n ≡ true → members_in t (write work (past * 2) xs) pool n ≡ members_in t work pool n
  members_kept t pool n e =
      members_are t (write work (past * 2) xs) pool n ∙ rows_kept_lem pool (up_to (group_at t) n) (sym (ends_is past t n) ∙ e) ∙ sym (members_are t work pool n)

-- ---- a row whose group one more joins

pub joined_row : (t : List ℕ) (i : ℕ) (s : Option Uuid) (u : Uuid) (h : GroupRow) → h ≡ group_at t i → (c : Uuid) → c ≡ better s h.checkpoint u
    → (d : List ℕ) → d ≡ write t (i * 6) (group_words (record { path = h.path; checkpoint = c; ids = h.ids })) → d ≡ write t (i * 6) (group_words (better_row s u (group_at t i)))
joined_row t i s u h e c f d w = w ∙ rw (f, e)
