-- Sources read one behind the other. Assumes nothing.
use Rattle.std.specs.Prelude.{Err, Ok, Result}
use Prim.Native.Nat.{ℕ, zero, suc, ◌+◌, ◌-◌, ◌≤◌, ◌<◌}
use mathlib.Core.Path.{◌≡◌, refl, sym, ap, subst, ◌∙◌}
use mathlib.Core.Bool.{Bool, true, false, ◌||◌}
use mathlib.Core.List.{List, []}
use native.Mathlib.Omega.{arith}
use native.Mathlib.Decide.{dec_lt}
use native.Mathlib.Numerals.{add-one}
use lib.Dec.{leb, ltb}
use lib.ListN.{length, take, drop, length-take}
use borrow.Author.Tests.{ltb-false, lt-ltb, le-ltb}
use Rattle.keys.specs.Pick.{pick}
use Rattle.keys.specs.Pool.{part_of}
use Rattle.keys.proofs.Says.{true_says}
use Rattle.ids.specs.declared.Uuid.{Uuid}
use Rattle.tables.specs.Layout.{write}
use Rattle.records.specs.Model.{Manifest}
use Rattle.records.specs.Fill.{plus, bytes, fits}
use Rattle.records.specs.Row.{at}
use Rattle.records.specs.Layout.{manifest_row_at, layout_at}
use Rattle.records.specs.Decode.{Lent}
use Rattle.records.specs.declared.Fill.{Fill}
use Rattle.records.specs.declared.Limits.{Limits}
use Rattle.records.specs.declared.ManifestRow.{ManifestRow}
use Rattle.records.specs.declared.Place.{Place}
use Rattle.records.specs.declared.Refusal.{Refusal}
use Rattle.measure.proofs.Fits.{Under, says_fits, under}
use Rattle.copy.specs.Copy.{room_of, laid_at, Outcome as Laid}
use Rattle.manifest_write.specs.Answer.{Outcome}
use Rattle.manifest_read.specs.Answer.{work_room, read_at_of}
use Rattle.encoded.specs.Encoded.{Encoded, holds, refused, on, encoded_of, long_of}
use Rattle.standing.proofs.Reading.{read_into, read_is}
use Rattle.encoded_union.specs.Union.{start_of, piece_of, bad_piece, some_bad, unless_unread, behind}
use Rattle.encoded_union.specs.Steps.{place_of, source_words, Step, source_into}

-- ---- cursors

module _ (most : Fill) where
  pub under_more : (a b c : Fill) → Under a b → Under b c → Under a c
  under_more a b c u v =
      record {
        segments = omega (arith, u.segments, v.segments);
        views = omega (arith, u.views, v.views);
        runs = omega (arith, u.runs, v.runs);
        borrows = omega (arith, u.borrows, v.borrows);
        ids = omega (arith, u.ids, v.ids);
        bytes = omega (arith, u.bytes, v.bytes);
      }

  under_plus : (c : Fill) → Under c (plus c most)
  under_plus c = record { segments = omega arith; views = omega arith; runs = omega arith; borrows = omega arith; ids = omega arith; bytes = omega arith }

  under_self : (c : Fill) → Under c c
  under_self c = record { segments = omega arith; views = omega arith; runs = omega arith; borrows = omega arith; ids = omega arith; bytes = omega arith }

  pub behind_more : (c : Fill) (k : ℕ) → behind most c (suc k) ≡ plus (behind most c k) most
  unfolding behind
  behind_more c zero = refl
  behind_more c (suc k) = behind_more (plus c most) k

  pub behind_under : (c : Fill) (k : ℕ) → Under c (behind most c k)
  unfolding behind
  behind_under c zero = under_self c
  behind_under c (suc k) = under_more c (plus c most) (behind most (plus c most) k) (under_plus c) (behind_under (plus c most) k)

  pub behind_upto : (c : Fill) (i n : ℕ) → i ≤ n → Under (behind most c i) (behind most c n)
  unfolding behind
  behind_upto c zero n h = behind_under c n
  behind_upto c (suc i) zero h = absurd (omega arith)
  behind_upto c (suc i) (suc n) h = behind_upto (plus c most) i n (omega arith)

  -- room for n is room for one more than i
  pub behind_fits : (c : Fill) (i n : ℕ) (room : Fill) → i < n → fits (behind most c n) room ≡ true → fits (plus (behind most c i) most) room ≡ true
  behind_fits c i n room h f =
      rw (← behind_more c i)
      (true_says (says_fits (behind most c (suc i)) room) (under_more (behind most c (suc i)) (behind most c n) room (behind_upto c (suc i) n (omega arith)) (under (behind most c n) room f)))

  pub behind_behind : (c : Fill) (i k : ℕ) → i < k → fits (plus (behind most c i) most) (behind most c k) ≡ true
  behind_behind c i k h =
      rw (← behind_more c i)
      (true_says (says_fits (behind most c (suc i)) (behind most c k)) (behind_upto c (suc i) k (omega arith)))

-- ---- the order of refusals

module _ (lim : Limits) (s ends : List ℕ) (refuse : Refusal → Outcome) where
  pub all_read : (n : ℕ) → ((i : ℕ) → i < n → (m : Manifest) × (encoded_of lim (piece_of s ends i) ≡ holds m)) → (given : Outcome) → unless_unread refuse lim s ends n given ≡ given
  unfolding unless_unread
  all_read zero h given = refl
  all_read (suc n) h given = rw (h n (omega arith)).1 (all_read n (λ i l. h i (omega arith)) given)

  pub one_unread : (n k : ℕ) → k < n → ((i : ℕ) → i < k → (m : Manifest) × (encoded_of lim (piece_of s ends i) ≡ holds m)) → (x : Refusal) → encoded_of lim (piece_of s ends k) ≡ refused x
      → (given : Outcome) → unless_unread refuse lim s ends n given ≡ refuse x
  unfolding unless_unread
  one_unread zero k l h x e given = absurd (omega arith)
  one_unread (suc n) k l h x e given =
      elim (dec_lt k n) [
        | yes q ↦ one_unread n k q h x e (on refuse (λ m. given) (encoded_of lim (piece_of s ends n)))
        | no q ↦ (let z : k ≡ n = omega arith in let f : encoded_of lim (piece_of s ends n) ≡ refused x = rw z at e in rw f (all_read n (λ i w. h i (omega arith)) (refuse x)))
      ]

-- ---- the parts of the call

pub start_first : (ends : List ℕ) (k : ℕ) → k ≡ 0 → 0 ≡ start_of ends k
start_first ends k h = rw h

pub start_later : (ends : List ℕ) (k x y : ℕ) → (k ≡ 0 → ⊥) → y ≡ at ends (k - 1) → x ≡ y → x ≡ start_of ends k
start_later ends zero x y h e f = absurd (h refl)
start_later ends (suc k) x y h e f = f ∙ e ∙ ap (at ends) (omega arith)

pub or_false : (a b : Bool) → (a || b) ≡ false → (a ≡ false) × (b ≡ false)
or_false true b e = let z : ◌≡◌ {A = ℕ} 0 1 = cc in absurd (omega arith)
or_false false b e = (refl, e)

module _ (most n : ℕ) (ends : List ℕ) where
  pub record Good (i : ℕ) : Type 0 where
    pub rises : start_of ends i ≤ at ends i
    pub inside : at ends i ≤ n
    pub short : at ends i - start_of ends i ≤ most

  pub good_piece : (k i : ℕ) → some_bad most n ends k ≡ false → i < k → Good i
  good_piece zero i e h = absurd (omega arith)
  good_piece (suc k) i e h =
      let a = or_false (some_bad most n ends k) (bad_piece most n ends k) e in
      elim (dec_lt i k) [
        | yes q ↦ good_piece k i a.0 q
        | no q ↦ (
            let z : k ≡ i = omega arith in
            let b = or_false (ltb (at ends k) (start_of ends k)) _ a.1 in
            let d = or_false (ltb n (at ends k)) _ b.1 in
            subst (λ (x : ℕ). Good x) z (record { rises = ltb-false (at ends k) (start_of ends k) b.0; inside = ltb-false n (at ends k) d.0; short = ltb-false most (at ends k - start_of ends k) d.1 }))
      ]

part_short : (s : List ℕ) (a n : ℕ) → length (part_of s a n) ≤ n
unfolding part_of
part_short s a n = go (leb (a + n) (length s))
  where
    go : (b : Bool) → length (pick b (take n (drop a s)) []) ≤ n
    go true = omega (arith, length-take n (drop a s))
    go false = omega arith

pub piece_short : (s ends : List ℕ) (k : ℕ) → at ends k - start_of ends k ≤ 0x1_0000 → long_of (piece_of s ends k) ≡ false
piece_short s ends k h = le-ltb 0x1_0000 (length (piece_of s ends k)) (omega (arith, part_short s (start_of ends k) (at ends k - start_of ends k)))

-- ---- one source

pub cursor_fits : (most c room : Fill) → fits (plus c most) room ≡ true → fits c room ≡ true
cursor_fits most c room ko = true_says (says_fits c room) (under_more most c (plus c most) room (under_plus most c) (under (plus c most) room ko))

pub paths_fit : (most : Fill) (p n : ℕ) (room : Fill) → fits (behind most (bytes p) n) room ≡ true → 0 + p ≤ room.bytes
paths_fit most p n room h =
    let u = under (behind most (bytes p) n) room h in
    let v = behind_under most (bytes p) n in
    omega (arith, u.bytes, v.bytes)

-- the part that the code has cut out
module _ (s ends piece : List ℕ) (k : ℕ) (e : Place) (h : piece ≡ part_of s e.at e.len) (g : e ≡ place_of ends k) where
  part_is : piece ≡ piece_of s ends k
  part_is = h ∙ ap (λ (y : Place). part_of s y.at y.len) g

  pub part_long : long_of (piece_of s ends k) ≡ false → long_of piece ≡ false
  part_long f = ap long_of part_is ∙ f

  pub one_is : (lim : Limits) (c : Fill) (o : Lent) (t : List ℕ) (b : ℕ) (p q : Place) (u : Uuid) (x : Step) → x ≡ source_into c o t b p u (encoded_of lim piece) → p ≡ q → x ≡ source_into c o t b q u (encoded_of lim (piece_of s ends k))
  one_is lim c o t b p q u x f a =
      f ∙ ap (λ (y : Place). source_into c o t b y u (encoded_of lim piece)) a ∙ ap (λ (y : List ℕ). source_into c o t b q u (encoded_of lim y)) part_is

step_same : (a : Result Unit Refusal) (o o' : Lent) (t t' : List ℕ) → o ≡ o' → t ≡ t' → ◌≡◌ {A = Step} (record { answer = a; out = o; rows = t }) (record { answer = a; out = o'; rows = t' })
step_same a o o' t t' e f = rw (e, f)

module _ (lim : Limits) (s : List ℕ) (c : Fill) (w o : Lent) (ko : fits (plus c lim.fill) (room_of o) ≡ true) where
  module _ (ls : long_of s ≡ false) (kw : fits lim.fill (work_room lim w) ≡ true) (r : Result ManifestRow Refusal) (o' : Lent) (e : record { answer = r; out = o' } ≡ read_at_of lim s w o c) (b : ℕ) (p : Place) (u : Uuid) (t : List ℕ) where
    piece_is : record { answer = r; out = o' } ≡ read_into c o (encoded_of lim s)
    piece_is = e ∙ read_is lim c o ko s w ls kw

    pub piece_done : (row : ManifestRow) → r ≡ Ok row → (t' : List ℕ) → t' ≡ write t b (source_words row p u) → record { answer = Ok tt; out = o'; rows = t' } ≡ source_into c o t b p u (encoded_of lim s)
    piece_done row f t' g = go (encoded_of lim s) piece_is
      where
        go : (x : Encoded) → record { answer = r; out = o' } ≡ read_into c o x → record { answer = Ok tt; out = o'; rows = t' } ≡ source_into c o t b p u x
        go (holds m) k =
            let v : Ok row ≡ Ok (manifest_row_at c m) = sym f ∙ ap (λ (y : Laid). y.answer) k in
            let z : row ≡ manifest_row_at c m = cc in
            step_same (Ok tt) o' (laid_at c o (layout_at c m)) t' (write t b (source_words (manifest_row_at c m) p u)) (ap (λ (y : Laid). y.out) k) (g ∙ ap (λ (y : ManifestRow). write t b (source_words y p u)) z)
        go (refused y) k = let v : Ok row ≡ Err y = sym f ∙ ap (λ (y : Laid). y.answer) k in let z : ◌≡◌ {A = ℕ} 0 1 = cc in absurd (omega arith)

    pub piece_refused : (x : Refusal) → r ≡ Err x → record { answer = Err x; out = o'; rows = t } ≡ source_into c o t b p u (encoded_of lim s)
    piece_refused x f = go (encoded_of lim s) piece_is
      where
        go : (y : Encoded) → record { answer = r; out = o' } ≡ read_into c o y → record { answer = Err x; out = o'; rows = t } ≡ source_into c o t b p u y
        go (holds m) k = let v : Err x ≡ Ok (manifest_row_at c m) = sym f ∙ ap (λ (y : Laid). y.answer) k in let z : ◌≡◌ {A = ℕ} 0 1 = cc in absurd (omega arith)
        go (refused y) k =
            let v : Err x ≡ Err y = sym f ∙ ap (λ (y : Laid). y.answer) k in
            let z : x ≡ y = cc in
            ap (λ (q : Refusal). record { answer = Err q; out = o'; rows = t }) z ∙ step_same (Err y) o' o t t (ap (λ (y : Laid). y.out) k) refl

-- ---- the form of the call

module _ (most n : ℕ) (ends : List ℕ) (k a b : ℕ) (ea : a ≡ start_of ends k) (eb : b ≡ at ends k) where
  pub bad_falls : b < a → true ≡ bad_piece most n ends k
  bad_falls h = let z : ltb (at ends k) (start_of ends k) ≡ true = rw (← ea, ← eb) (lt-ltb b a h) in rw z

  module _ (h : a ≤ b) where
    rises : ltb (at ends k) (start_of ends k) ≡ false
    rises = rw (← ea, ← eb) (le-ltb b a h)

    pub bad_past : n < b → true ≡ bad_piece most n ends k
    bad_past q = let z : ltb n (at ends k) ≡ true = rw (← eb) (lt-ltb n b q) in rw (rises, z)

    pub bad_long : b ≤ n → ltb most (b - a) ≡ bad_piece most n ends k
    bad_long q = let z : ltb n (at ends k) ≡ false = rw (← eb) (le-ltb n b q) in rw (rises, z, ea, eb)

module _ (most n : ℕ) (ends : List ℕ) (count : ℕ) where
  pub record Fine (k : ℕ) : Type 0 where
    pub within : k ≤ count
    pub none : some_bad most n ends k ≡ false

  bad_stays : (k j : ℕ) → k < j → bad_piece most n ends k ≡ true → some_bad most n ends j ≡ true
  bad_stays k zero h e = absurd (omega arith)
  bad_stays k (suc j) h e =
      elim (dec_lt k j) [
        | yes q ↦ rw (bad_stays k j q e)
        | no q ↦ (let z : k ≡ j = omega arith in let f : bad_piece most n ends j ≡ true = rw z at e in rw f (go (some_bad most n ends j)))
      ]
    where
      go : (b : Bool) → (b || true) ≡ true
      go true = refl
      go false = refl

  pub fine_none : Fine 0
  fine_none = record { within = omega arith; none = refl }

  module _ (k : ℕ) (f : Fine k) (r : Bool) (e : r ≡ bad_piece most n ends k) where
    pub fine_more : k < count → r ≡ false → Fine (k + 1)
    fine_more h z = rw (add-one k) (record { within = omega arith; none = let y : bad_piece most n ends k ≡ false = sym e ∙ z in rw (f.none, y) })

    pub fine_bad : k < count → r ≡ true → true ≡ some_bad most n ends count
    fine_bad h z = sym (bad_stays k count h (sym e ∙ z))

  pub fine_all : (k : ℕ) → Fine k → count ≤ k → false ≡ some_bad most n ends count
  fine_all k f h = let z : k ≡ count = omega (arith, f.within) in sym (rw z at f.none)
