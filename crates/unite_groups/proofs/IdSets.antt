-- Id sets in a working list: ids entered one by one, words behind the cursor alone are written. Assumes nothing.
use Prim.Native.Nat.{ℕ, suc, ◌+◌, ◌-◌, ◌*◌, ◌/◌, ◌≤◌, ◌<◌}
use mathlib.Core.Path.{◌≡◌, refl, sym, ap, ◌∙◌}
use mathlib.Core.Bool.{true, false}
use mathlib.Core.List.{List, [], ◌∷◌, ◌++◌}
use native.Mathlib.Omega.{arith}
use native.Mathlib.Numerals.{add-one}
use lib.ListN.{length, get_or, take, drop}
use lib.Seq.{drop-cons, length-take-le}
use borrow.Author.Tests.{le-leb}
use Rattle.std.specs.declared.cmp.Ordering.{Ordering}
use Rattle.std.specs.declared.cmp.Ordering.TheVariants.{Less, Equal, Greater}
use Rattle.tables.specs.Layout.{write, up_to}
use Rattle.tables.specs.Window.{held_of}
use Rattle.tables.specs.declared.Window.{Window}
use Rattle.tables.proofs.Holds.{Holds, holds_at}
use Rattle.tables.proofs.Joined.{up_to_length}
use Rattle.tables.proofs.Writes.{write_length, write_none}
use Rattle.ids.specs.declared.SstId.{SstId}
use Rattle.records.specs.Row.{id_at}
use Rattle.records.specs.Words.{id_words}
use Rattle.records.specs.Layout.{ids_laid}
use Rattle.records.specs.Decode.{ids_in}
use Rattle.records.proofs.Rows.{id_wide}
use Rattle.records.proofs.Lists.{ids_back}
use Rattle.emit.proofs.Columns.{ids_laid_long}
use Rattle.unite_groups.specs.Sets.{sst_order, by_order, id_entered, id_set_from, id_set}
use Rattle.unite_groups.specs.Steps.{spot_of, entered}
use Rattle.unite_groups.specs.declared.Spot.{Spot}
use Rattle.unite_groups.proofs.Spots.{Spotted, spotted_none, spotted_less, spotted_same, spotted_more, New, Old, entered_new, entered_old}
use Rattle.unite_groups.proofs.Placing.{write_same, write_again, rows_held, count_new, place_new, table_new}

-- ---- one id

-- an id among others is entered as anything is
pub id_entered_lem : (x : SstId) (ys : List SstId) → id_entered x ys ≡ entered (sst_order x) x (λ y. y) ys
unfolding id_entered entered
id_entered_lem x [] = refl
id_entered_lem x (y ∷ ys) = ap (λ (l : List SstId). by_order (sst_order x y) (x ∷ y ∷ ys) (y ∷ ys) (y ∷ l)) (id_entered_lem x ys)

id_held : (t : List ℕ) (i : ℕ) → (i + 1) * 2 ≤ length t → Holds t (i * 2) (id_words (id_at t i))
unfolding id_at id_words
id_held t i h =
    let p : i * 2 < length t = omega arith in
    let q : suc (i * 2) < length t = omega arith in
    record { behind = drop (suc (suc (i * 2))) t; is = drop-cons t (i * 2) 0 p ∙ ap (λ (l : List ℕ). get_or t (i * 2) 0 ∷ l) (rw (add-one (i * 2)) (drop-cons t (suc (i * 2)) 0 q)) }

module _ (t : List ℕ) (w : Window) (l : (w.first + w.count) * 2 ≤ length t) where
  window_held : held_of w (length t / 2) ≡ w.count
  unfolding held_of
  window_held = let m : w.first + w.count ≤ length t / 2 = omega arith in rw (le-leb (w.first + w.count) (length t / 2) m)

  pub window_count : length (ids_in t w) ≡ w.count
  unfolding ids_in
  window_count = up_to_length (λ k. id_at t (w.first + k)) (held_of w (length t / 2)) ∙ window_held

  -- the ids of a window stand where it says
  pub window_holds : Holds t (w.first * 2) (ids_laid (ids_in t w))
  unfolding ids_in ids_laid
  window_holds = rw window_held (rows_held id_words 2 id_wide t (id_at t) (id_held t) w.first w.count l)

module _ (t : List ℕ) (w : Window) (x : SstId) where
  pub id_spotted_none : (n : ℕ) → n ≡ held_of w (length t / 2) → Spotted (spot_of (sst_order x) (ids_in t w)) (sst_order x) (λ k. id_at t (w.first + k)) n 0
  unfolding ids_in
  id_spotted_none n e = spotted_none (spot_of (sst_order x) (up_to (λ k. id_at t (w.first + k)) (held_of w (length t / 2)))) (sst_order x) (λ k. id_at t (w.first + k)) n (held_of w (length t / 2)) e refl

  -- r is how x stands to y, the k-th
  module _ (n k : ℕ) (i : Spotted (spot_of (sst_order x) (ids_in t w)) (sst_order x) (λ k. id_at t (w.first + k)) n k) (h : k < n) (y : SstId) (r : Ordering) (e : y ≡ id_at t (w.first + k)) (f : r ≡ sst_order x y) where
    pub id_spot_less : r ≡ Less → record { at = k; held = false } ≡ spot_of (sst_order x) (ids_in t w)
    id_spot_less q = spotted_less (spot_of (sst_order x) (ids_in t w)) (sst_order x) (λ k. id_at t (w.first + k)) n k i h r (rw e at f) q

    pub id_spot_same : r ≡ Equal → record { at = k; held = true } ≡ spot_of (sst_order x) (ids_in t w)
    id_spot_same q = spotted_same (spot_of (sst_order x) (ids_in t w)) (sst_order x) (λ k. id_at t (w.first + k)) n k i h r (rw e at f) q

    pub id_spot_more : r ≡ Greater → Spotted (spot_of (sst_order x) (ids_in t w)) (sst_order x) (λ k. id_at t (w.first + k)) n (k + 1)
    id_spot_more q = spotted_more (spot_of (sst_order x) (ids_in t w)) (sst_order x) (λ k. id_at t (w.first + k)) n k i h r (rw e at f) q

pub ruleset id_spotted = (id_spot_less, id_spot_same, id_spot_more)

module _ (t : List ℕ) (w : Window) (x : SstId) (s : Spot) (e : s ≡ spot_of (sst_order x) (ids_in t w)) (room : (w.first + w.count + 1) * 2 ≤ length t) where
  abbrev set : List SstId
  set = ids_in t w

  fewer : (w.first + w.count) * 2 ≤ length t
  fewer = omega arith

  pub id_same : s.held ≡ true → (w.count ≡ length (id_entered x set)) × (t ≡ write t (w.first * 2) (ids_laid (id_entered x set)))
  unfolding ids_laid
  id_same h =
      let o : Old x (λ y. y) set (entered (sst_order x) x (λ y. y) set) (spot_of (sst_order x) set).at = entered_old x (λ y. y) (sst_order x) set (ap (λ (z : Spot). z.held) (sym e) ∙ h) in
      let z : entered (sst_order x) x (λ y. y) set ≡ set = o.is ∙ sym o.was in
      rw (id_entered_lem x set, z) (sym (window_count t w fewer), sym (write_same t (w.first * 2) (ids_laid set) (window_holds t w fewer)))

  module _ (h : s.held ≡ false) where
    new : New x (λ y. y) set (entered (sst_order x) x (λ y. y) set) s.at
    new = rw e (entered_new x (λ y. y) (sst_order x) set (ap (λ (z : Spot). z.held) (sym e) ∙ h))

    pub id_place : s.at ≤ w.count
    unfolding ids_laid
    id_place = place_new id_words 2 id_wide (λ y. y) x set (entered (sst_order x) x (λ y. y) set) w.first w.count s.at t (window_count t w fewer) (window_holds t w fewer) new room

    pub id_more : w.count + 1 ≡ length (id_entered x set)
    unfolding ids_laid
    id_more = rw (id_entered_lem x set) (count_new id_words 2 id_wide (λ y. y) x set (entered (sst_order x) x (λ y. y) set) w.first w.count s.at t (window_count t w fewer) (window_holds t w fewer) new room)

    pub id_laid : (t₁ t₂ row : List ℕ) → t₁ ≡ write t ((w.first + s.at) * 2 + 2) (take ((w.first + w.count) * 2 - (w.first + s.at) * 2) (drop ((w.first + s.at) * 2) t)) → row ≡ id_words x → t₂ ≡ write t₁ ((w.first + s.at) * 2) row
        → t₂ ≡ write t (w.first * 2) (ids_laid (id_entered x set))
    unfolding ids_laid
    id_laid t₁ t₂ row u r v = rw (id_entered_lem x set) (table_new id_words 2 id_wide (λ y. y) x set (entered (sst_order x) x (λ y. y) set) w.first w.count s.at t (window_count t w fewer) (window_holds t w fewer) new room t₁ t₂ u (rw r at v))

-- ---- all ids of a window

pub entered_long : (x : SstId) (ys : List SstId) → (length ys ≤ length (id_entered x ys)) × (length (id_entered x ys) ≤ suc (length ys))
unfolding id_entered
entered_long x [] = (omega arith, omega arith)
entered_long x (y ∷ ys) = go (sst_order x y) (entered_long x ys)
  where
    go : (r : Ordering) → (length ys ≤ length (id_entered x ys)) × (length (id_entered x ys) ≤ suc (length ys))
        → (suc (length ys) ≤ length (by_order r (x ∷ y ∷ ys) (y ∷ ys) (y ∷ id_entered x ys))) × (length (by_order r (x ∷ y ∷ ys) (y ∷ ys) (y ∷ id_entered x ys)) ≤ suc (suc (length ys)))
    go Less ih = (omega arith, omega arith)
    go Equal ih = (omega arith, omega arith)
    go Greater ih = (omega arith, omega arith)

pub set_more : (set xs : List SstId) (x : SstId) → id_set_from set (xs ++ (x ∷ [])) ≡ id_entered x (id_set_from set xs)
unfolding id_set_from
set_more ys [] x = refl
set_more ys (y ∷ xs) x = set_more (id_entered y ys) xs x

-- the first k ids stand as a set from `first` on
pub record Setting (t₀ : List ℕ) (first : ℕ) (g : ℕ → SstId) (n : ℕ) (t : List ℕ) (count k : ℕ) : Type 0 where
  pub within : k ≤ n
  pub few : count ≤ k
  pub room : (first + n) * 2 ≤ length t₀
  pub long : length t ≡ length t₀
  pub counted : count ≡ length (id_set (up_to g k))
  pub is : t ≡ write t₀ (first * 2) (ids_laid (id_set (up_to g k)))

module _ (t₀ : List ℕ) (first : ℕ) (g : ℕ → SstId) (n : ℕ) where
  pub setting_none : (first + n) * 2 ≤ length t₀ → Setting t₀ first g n t₀ 0 0
  unfolding id_set_from ids_laid
  setting_none h = record { within = omega arith; few = omega arith; room = h; long = refl; counted = refl; is = sym (write_none t₀ (first * 2)) }

  module _ (t : List ℕ) (count k : ℕ) (s : Setting t₀ first g n t count k) (h : k < n) where
    abbrev so_far : List SstId
    so_far = id_set (up_to g k)

    abbrev here : Window
    here = record { first = first; count = count }

    pub setting_room : (first + count + 1) * 2 ≤ length t
    setting_room = omega (arith, s.few, s.room, s.long)

    reads : ids_in t here ≡ so_far
    reads =
        let l : first * 2 ≤ length t₀ = omega (arith, s.room) in
        rw s.counted (ids_back t first so_far (rw s.is (holds_at (take (first * 2) t₀) (ids_laid so_far) (drop (first * 2 + length (ids_laid so_far)) t₀) (first * 2) (length-take-le (first * 2) t₀ l))))

    pub setting_more : (x : SstId) (c : ℕ) (t₁ : List ℕ) → x ≡ g k → c ≡ length (id_entered x (ids_in t here)) → t₁ ≡ write t (first * 2) (ids_laid (id_entered x (ids_in t here))) → Setting t₀ first g n t₁ c (k + 1)
    setting_more x c t₁ e m u =
        let next : id_set (up_to g (k + 1)) ≡ id_entered (g k) so_far = rw (add-one k) (set_more [] (up_to g k) (g k)) in
        let bounds = entered_long (g k) so_far in
        let c₁ : c ≡ length (id_entered (g k) so_far) = m ∙ rw (e, reads) in
        let lens : length (ids_laid (id_entered (g k) so_far)) ≡ length (id_entered (g k) so_far) * 2 = ids_laid_long (id_entered (g k) so_far) in
        let v : t₁ ≡ write t₀ (first * 2) (ids_laid (id_entered (g k) so_far)) =
        u ∙ rw (e, reads) (ap (λ (d : List ℕ). write d (first * 2) (ids_laid (id_entered (g k) so_far))) s.is ∙ write_again t₀ (first * 2) (ids_laid so_far) (ids_laid (id_entered (g k) so_far)) (omega (arith, s.room)) (omega (arith, ids_laid_long so_far, bounds.0))) in
        record {
          within = omega arith;
          few = omega (arith, bounds.1, s.counted, s.few);
          room = s.room;
          long = ap length v ∙ write_length t₀ (first * 2) (ids_laid (id_entered (g k) so_far)) (omega (arith, s.room, bounds.1, s.counted, s.few));
          counted = c₁ ∙ ap length (sym next);
          is = v ∙ ap (λ (l : List SstId). write t₀ (first * 2) (ids_laid l)) (sym next);
        }

  module _ (t : List ℕ) (count k : ℕ) (s : Setting t₀ first g n t count k) where
    pub setting_all : n ≤ k → (xs : List SstId) → xs ≡ up_to g n → (count ≡ length (id_set xs)) × (t ≡ write t₀ (first * 2) (ids_laid (id_set xs)))
    setting_all h xs e = let m : k ≡ n = omega (arith, s.within) in rw e (rw m at s.counted, rw m at s.is)

-- the ids of a window, one by one
pub window_ids : (t : List ℕ) (w : Window) (n : ℕ) → n ≡ held_of w (length t / 2)
    → (ids_in t w ≡ up_to (λ k. id_at t (w.first + k)) n) × ((first m : ℕ) → (first + length (ids_in t w)) * 2 ≤ m → (first + n) * 2 ≤ m)
unfolding ids_in
window_ids t w n e = (rw e, λ first m h. rw e (rw (up_to_length (λ k. id_at t (w.first + k)) (held_of w (length t / 2))) at h))
