-- A successor laid: the bytes that are left of its prefix, and one added to the last of them. Assumes nothing.
use Prim.Native.Nat.{ℕ, suc, ◌+◌, ◌-◌, ◌≤◌, ◌<◌}
use mathlib.Core.Path.{◌≡◌, refl, sym, ap, ◌∙◌}
use mathlib.Core.Bool.{Bool, true, false}
use mathlib.Core.List.{List, [], ◌∷◌, ◌++◌, append_assoc, append-nil}
use native.Mathlib.Omega.{arith}
use lib.Dec.{ltb, leb}
use lib.ListN.{length, get_or, set, take, drop, length-append, take-append-drop}
use lib.Seq.{set_at, get_or_at, length-take-le}
use borrow.Author.Tests.{ltb-true}
use Rattle.keys.specs.Pick.{pick}
use Rattle.keys.specs.Prefix.{keep_before, without_ff, add_one, last_up, after, left_of, successor_of}
use Rattle.keys.specs.Range.{Edge, excluded}
use Rattle.keys.specs.Pool.{part_of, edge_of}
use Rattle.tables.specs.Layout.{write}
use Rattle.tables.proofs.Holds.{part_back}
use Rattle.tables.proofs.Joined.{joined_append}
use Rattle.records.specs.Model.{View}
use Rattle.records.specs.Fill.{view_fill, last_keys, edge_keys}
use Rattle.records.specs.Layout.{run, view_row, view_bytes}
use Rattle.records.proofs.Columns.{view_fill_lem}
use Rattle.project_views.specs.Reach.{top_edge, until_of}
use Rattle.project_views.specs.Shown.{with_visible}
use Rattle.project_views.specs.Steps.{flat_by, flat_of}
use Rattle.project_views.specs.declared.Until.{Until}
use Rattle.project_views.specs.declared.Until.TheVariants.{Unbounded, Included, Excluded, Successor}

-- ---- one added to the last byte, which is no FF

pub data Up : List ℕ → List ℕ → Type 0 where
  last : {x : ℕ} → x < 255 → Up (x ∷ []) ((x + 1) ∷ [])
  next : {x : ℕ} {a b : List ℕ} → Up a b → Up (x ∷ a) (x ∷ b)

up_after : (z : List ℕ) {a b : List ℕ} → Up a b → Up (z ++ a) (z ++ b)
up_after [] u = u
up_after (x ∷ z) u = next (up_after z u)

pub up_long : {a b : List ℕ} → Up a b → length b ≡ length a
up_long (last h) = refl
up_long (next u) = ap suc (up_long u)

record Split (a b : List ℕ) : Type 0 where
  pub front : List ℕ
  pub end : ℕ
  pub small : end < 255
  pub was : a ≡ front ++ end ∷ []
  pub is : b ≡ front ++ (end + 1) ∷ []

split : {a b : List ℕ} → Up a b → Split a b
split (last {x = x} h) = record { front = []; end = x; small = h; was = refl; is = refl }
split (next {x = x} u) = let s = split u in record { front = x ∷ s.front; end = s.end; small = s.small; was = ap (λ l. x ∷ l) s.was; is = ap (λ l. x ∷ l) s.is }

-- where the bytes before were laid, the last of them is made to grow
module _ (d d₁ : List ℕ) (from past : ℕ) where
  module _ (z : List ℕ) (x : ℕ) (room : from + length (z ++ x ∷ []) ≤ length d) (w : d₁ ≡ write d from (z ++ x ∷ [])) (p : past ≡ from + length (z ++ x ∷ [])) where
    long : length (z ++ x ∷ []) ≡ length z + 1
    long = length-append z (x ∷ [])

    at_end : length (take from d ++ z) ≡ past - 1
    at_end = rw (length-append (take from d) z, length-take-le from d (omega arith)) (omega (arith, long))

    behind : List ℕ
    behind = drop (from + length (z ++ x ∷ [])) d

    before : (y : ℕ) → take from d ++ ((z ++ y ∷ []) ++ behind) ≡ (take from d ++ z) ++ y ∷ behind
    before y = rw (append_assoc z (y ∷ []), append_assoc (take from d) z)

    laid : d₁ ≡ (take from d ++ z) ++ x ∷ behind
    unfolding behind
    laid = w ∙ before x

    byte : get_or d₁ (past - 1) 0 ≡ x
    byte = ap (λ (l : List ℕ). get_or l (past - 1) 0) laid ∙ get_or_at (take from d ++ z) x behind 0 (past - 1) at_end

    room_by : x < 255 → (0 < past) × (past ≤ length d) × (get_or d₁ (past - 1) 0 < 255)
    room_by h = (omega (arith, long), omega arith, rw byte h)

    laid_by : set d₁ (past - 1) (get_or d₁ (past - 1) 0 + 1) ≡ write d from (z ++ (x + 1) ∷ [])
    unfolding behind
    laid_by =
        ap (λ (n : ℕ). set d₁ (past - 1) (n + 1)) byte
        ∙ ap (λ (l : List ℕ). set l (past - 1) (x + 1)) laid
        ∙ set_at (take from d ++ z) x behind (x + 1) (past - 1) at_end
        ∙ sym (before (x + 1))
        ∙ ap (λ (n : ℕ). take from d ++ ((z ++ (x + 1) ∷ []) ++ drop (from + n) d)) (long ∙ sym (length-append z ((x + 1) ∷ [])))

  module _ {a b : List ℕ} (u : Up a b) (room : from + length a ≤ length d) (w : d₁ ≡ write d from a) (p : past ≡ from + length a) where
    pub up_room : (0 < past) × (past ≤ length d) × (get_or d₁ (past - 1) 0 < 255)
    up_room = let s = split u in room_by s.front s.end (rw s.was at room) (rw s.was at w) (rw s.was at p) s.small

    pub up_laid : set d₁ (past - 1) (get_or d₁ (past - 1) 0 + 1) ≡ write d from b
    up_laid = let s = split u in laid_by s.front s.end (rw s.was at room) (rw s.was at w) (rw s.was at p) ∙ ap (write d from) (sym s.is)

-- ---- what is left of a prefix: nothing, or bytes that end in no FF

data Strip : List ℕ → List ℕ → Type 0 where
  none : {p : List ℕ} → Strip p []
  one : {x : ℕ} {p : List ℕ} → x < 255 → Strip (x ∷ p) (x ∷ [])
  more : {x y : ℕ} {p w : List ℕ} → Strip p (y ∷ w) → Strip (x ∷ p) (x ∷ y ∷ w)

strip : (p : List ℕ) → Strip p (without_ff p)
strip [] = none
strip (x ∷ p) = go (without_ff p) (strip p)
  where
    only : (b : Bool) → ltb x 255 ≡ b → Strip (x ∷ p) (pick b (x ∷ []) [])
    only true e = one (ltb-true x 255 e)
    only false e = none

    go : (w : List ℕ) → Strip p w → Strip (x ∷ p) (keep_before x w)
    go [] s = only (ltb x 255) refl
    go (y ∷ w) s = more s

strip_up : {p w : List ℕ} {y : ℕ} → Strip p (y ∷ w) → Up (y ∷ w) (add_one y w)
strip_up (one h) = last h
strip_up (more s) = next (strip_up s)

strip_front : {p w : List ℕ} → Strip p w → (rest : List ℕ) × (p ≡ w ++ rest)
strip_front (none {p = p}) = (p, refl)
strip_front (one {x = x} {p = p} h) = (p, refl)
strip_front (more {x = x} s) = let f = strip_front s in (f.0, ap (λ l. x ∷ l) f.1)

-- the bytes at the front of a place stand there too
part_front : (pool : List ℕ) (from len y : ℕ) (w : List ℕ) → Strip (part_of pool from len) (y ∷ w) → part_of pool from (length (y ∷ w)) ≡ y ∷ w
unfolding part_of
part_front pool from len y w s = go (leb (from + len) (length pool)) (strip_front s).1
  where
    go : (b : Bool) → pick b (take len (drop from pool)) [] ≡ (y ∷ w) ++ (strip_front s).0 → part_of pool from (length (y ∷ w)) ≡ y ∷ w
    go true e =
        part_back pool from (y ∷ w)
        (record {
          behind = (strip_front s).0 ++ drop len (drop from pool);
          is = sym (take-append-drop len (drop from pool)) ∙ ap (λ (l : List ℕ). l ++ drop len (drop from pool)) e ∙ append_assoc (y ∷ w) (strip_front s).0 (drop len (drop from pool));
        })
    go false e = let z : ◌≡◌ {A = ℕ} 0 1 = cc in absurd (omega arith)

-- ---- an end, and the bytes that are laid for it

pub data FlatIs : Edge → Edge → Bool → Type 0 where
  plain : {e : Edge} → FlatIs e e false
  grown : {j k : List ℕ} → Up k j → FlatIs (excluded j) (excluded k) true

pub flat_is : (pool : List ℕ) (u : Until) → FlatIs (until_of pool u) (edge_of pool (flat_of pool u).end) (flat_of pool u).grown
unfolding after successor_of
flat_is pool Unbounded = plain
flat_is pool (Included from len) = plain
flat_is pool (Excluded from len) = plain
flat_is pool (Successor from len) = go (without_ff (part_of pool from len)) (strip (part_of pool from len))
  where
    go : (w : List ℕ) → Strip (part_of pool from len) w → FlatIs (top_edge (last_up w)) (edge_of pool (flat_by from (left_of w)).end) (flat_by from (left_of w)).grown
    go [] s = plain
    go (y ∷ w) s = rw (part_front pool from len y w s) (grown (strip_up s))

-- a view's bytes end in those of its visible range's end
module _ (v : View) (s : Edge) where
  bytes_end : (e : Edge) → view_bytes (with_visible v (record { start = s; end = e })) ≡ (v.first ++ (run (last_keys v.last) ++ run (edge_keys s))) ++ run (edge_keys e)
  unfolding view_bytes
  bytes_end e =
      rw (joined_append (λ k. k) (last_keys v.last) (edge_keys s ++ edge_keys e), joined_append (λ k. k) (edge_keys s) (edge_keys e))
      (rw (append_assoc v.first, append_assoc (run (last_keys v.last))))

  up_bytes : {j k : List ℕ} → Up k j → Up (view_bytes (with_visible v (record { start = s; end = excluded k }))) (view_bytes (with_visible v (record { start = s; end = excluded j })))
  up_bytes {j} {k} u =
      rw (bytes_end (excluded k), bytes_end (excluded j), append-nil k, append-nil j) (up_after (v.first ++ (run (last_keys v.last) ++ run (edge_keys s))) u)

  pub flat_fill : {e f : Edge} {g : Bool} → FlatIs e f g → view_fill (with_visible v (record { start = s; end = f })) ≡ view_fill (with_visible v (record { start = s; end = e }))
  flat_fill plain = refl
  flat_fill (grown {j = j} {k = k} u) =
      rw (view_fill_lem (with_visible v (record { start = s; end = excluded k })), view_fill_lem (with_visible v (record { start = s; end = excluded j })), up_long (up_bytes u))

  pub flat_row : {e f : Edge} {g : Bool} (from : ℕ) → FlatIs e f g → view_row from (with_visible v (record { start = s; end = f })) ≡ view_row from (with_visible v (record { start = s; end = e }))
  unfolding view_row
  flat_row from plain = refl
  flat_row from (grown u) = rw (up_long u)

  pub flat_up : {e f : Edge} {g : Bool} → FlatIs e f g → g ≡ true → Up (view_bytes (with_visible v (record { start = s; end = f }))) (view_bytes (with_visible v (record { start = s; end = e })))
  flat_up plain h = let z : ◌≡◌ {A = ℕ} 0 1 = cc in absurd (omega arith)
  flat_up (grown u) h = up_bytes u

pub flat_plain : {e f : Edge} {g : Bool} → FlatIs e f g → g ≡ false → f ≡ e
flat_plain plain h = refl
flat_plain (grown u) h = let z : ◌≡◌ {A = ℕ} 0 1 = cc in absurd (omega arith)
