-- One law of appending for every table: rows are laid from a cursor on, each where those before it end. Assumes nothing.
use mathlib.Core.Path.{◌≡◌, refl, sym, ap, ◌∙◌}
use mathlib.Core.List.{List, [], ◌∷◌, ◌++◌}
use Prim.Native.Nat.{ℕ, suc, ◌+◌, ◌≤◌, ◌<◌}
use native.Mathlib.Omega.{arith}
use native.Mathlib.Numerals.{add-one}
use lib.ListN.{length}
use Rattle.tables.specs.Layout.{write, up_to, joined}
use Rattle.tables.proofs.Writes.{then, write_none, write_length}
use Rattle.tables.proofs.Joined.{up_to_more}
use Rattle.records.specs.Fill.{empty, plus, sum}
use Rattle.records.specs.declared.Fill.{Fill}
use Rattle.records.proofs.Sums.{plus_empty, plus_assoc, sum_append, sum_more}
use Rattle.records.proofs.Laid.{Table, at, at_plus, at_empty, Column, column, column_long, column_more, laid_joined}

-- one whose words do not depend on where they are laid
abbrev pub plain : {A : Type 0} {fill : A → Fill} (t : Table) (b : A → List ℕ) → ((x : A) → length (b x) ≡ at t (fill x)) → Column fill
plain t b l = record { table = t; words = λ c x. b x; long = λ c x. l x }

-- ---- parts laid one after the other

module _ (t : Table) (c f : Fill) where
  -- room for two parts is room for each
  pub room_first : (g : Fill) (n : ℕ) → at t (plus c (plus f g)) ≤ n → at t (plus c f) ≤ n
  room_first g n h = omega (arith, at_plus t c (plus f g), at_plus t f g, at_plus t c f)

  pub room_last : (g : Fill) (n : ℕ) → at t (plus c (plus f g)) ≤ n → at t (plus c g) ≤ n
  room_last g n h = omega (arith, at_plus t c (plus f g), at_plus t f g, at_plus t c g)

  pub room_rest : (a g : Fill) (n : ℕ) → a ≡ plus c f → at t (plus c (plus f g)) ≤ n → at t (plus a g) ≤ n
  room_rest a g n e h = rw (e, plus_assoc c f g) h

  -- what comes after words that fill f
  pub put_then : (a g : Fill) (d d₁ d₂ xs ys : List ℕ) → at t (plus c g) ≤ length d → a ≡ plus c f → length xs ≡ at t f → d₁ ≡ write d (at t c) xs → d₂ ≡ write d₁ (at t a) ys → d₂ ≡ write d (at t c) (xs ++ ys)
  put_then a g d d₁ d₂ xs ys h p l e w = then d d₁ d₂ (at t c) (at t a) xs ys (omega (arith, at_plus t c g)) e (rw (p, l, at_plus t c f)) w

  -- what comes after a part that fills nothing of this table
  pub put_skip : (a : Fill) (d d₁ ys : List ℕ) → a ≡ plus c f → at t f ≡ 0 → d₁ ≡ write d (at t a) ys → d₁ ≡ write d (at t c) ys
  put_skip a d d₁ ys p z e = let m : at t a ≡ at t c = rw (p, at_plus t c f, z) (omega arith) in e ∙ rw m

pub joined_long : {A : Type 0} (fill : A → Fill) (t : Table) (b : A → List ℕ) → ((x : A) → length (b x) ≡ at t (fill x)) → (xs : List A) → length (joined b xs) ≡ at t (sum fill xs)
joined_long fill t b l xs = sym (ap length (laid_joined fill b empty xs)) ∙ column_long (plain t b l) empty xs

-- a table that no record of a kind writes into
pub none_filled : {A : Type 0} (fill : A → Fill) (t : Table) → ((x : A) → at t (fill x) ≡ 0) → (xs : List A) → at t (sum fill xs) ≡ 0
none_filled fill t h [] = at_empty t
none_filled fill t h (x ∷ xs) = rw (at_plus t (fill x) (sum fill xs), h x, none_filled fill t h xs)

-- ---- a loop over n records: the cursor, and each table

pub record Walk {A : Type 0} (fill : A → Fill) (f : ℕ → A) (n : ℕ) (c₀ c : Fill) (k : ℕ) : Type 0 where
  pub within : k ≤ n
  pub past : c ≡ plus c₀ (sum fill (up_to f k))

pub record Grown {A : Type 0} {fill : A → Fill} (col : Column fill) (f : ℕ → A) (n : ℕ) (c₀ : Fill) (d₀ d : List ℕ) (k : ℕ) : Type 0 where
  pub room : at col.table (plus c₀ (sum fill (up_to f n))) ≤ length d₀
  pub long : length d ≡ length d₀
  pub is : d ≡ write d₀ (at col.table c₀) (column col c₀ (up_to f k))

module _ {A : Type 0} {fill : A → Fill} {f : ℕ → A} {n : ℕ} {c₀ : Fill} where
  pub walk_none : Walk fill f n c₀ c₀ 0
  walk_none = record { within = omega arith; past = sym (plus_empty c₀) }

  pub walk_more : {c c' : Fill} {k : ℕ} → Walk fill f n c₀ c k → k < n → c' ≡ plus c (fill (f k)) → Walk fill f n c₀ c' (k + 1)
  walk_more {c} {c'} {k} w h e = record { within = omega arith; past = e ∙ rw (w.past, add-one k, sum_more fill (up_to f k) (f k)) (plus_assoc c₀ (sum fill (up_to f k)) (fill (f k))) }

  pub walk_all_lem : {c : Fill} {k : ℕ} → Walk fill f n c₀ c k → n ≤ k → c ≡ plus c₀ (sum fill (up_to f n))
  walk_all_lem {c} {k} w h = let e : k ≡ n = omega (arith, w.within) in rw e at w.past

module _ {A : Type 0} {fill : A → Fill} {col : Column fill} {f : ℕ → A} {n : ℕ} {c₀ : Fill} {d₀ : List ℕ} where
  pub grown_none : at col.table (plus c₀ (sum fill (up_to f n))) ≤ length d₀ → Grown col f n c₀ d₀ d₀ 0
  grown_none h = record { room = h; long = refl; is = sym (write_none d₀ (at col.table c₀)) }

  -- room for all is room for the next
  pub grown_room : {c : Fill} {d : List ℕ} {k : ℕ} → Walk fill f n c₀ c k → Grown col f n c₀ d₀ d k → k < n → at col.table (plus c (fill (f k))) ≤ length d
  grown_room {c} {d} {k} w g h =
      let r = up_to_more f (suc k) n (omega arith) in
      let m : at col.table (plus c₀ (sum fill (up_to f n))) ≡ at col.table (plus c (fill (f k))) + at col.table (sum fill r.0) =
      rw (w.past, r.1, sum_append fill (up_to f (suc k)) r.0, sum_more fill (up_to f k) (f k), plus_assoc c₀ (sum fill (up_to f k)) (fill (f k)))
      (omega (arith, at_plus col.table c₀ (plus (plus (sum fill (up_to f k)) (fill (f k))) (sum fill r.0)), at_plus col.table (plus (sum fill (up_to f k)) (fill (f k))) (sum fill r.0), at_plus col.table c₀ (plus (sum fill (up_to f k)) (fill (f k))))) in
      rw g.long (omega (arith, g.room, m))

  pub grown_more : {c : Fill} {d d' : List ℕ} {k : ℕ} → Walk fill f n c₀ c k → Grown col f n c₀ d₀ d k → k < n
      → d' ≡ write d (at col.table c) (col.words c (f k)) → Grown col f n c₀ d₀ d' (k + 1)
  grown_more {c} {d} {d'} {k} w g h e =
      let r : at col.table c + length (col.words c (f k)) ≤ length d = rw (col.long c (f k), ← at_plus col.table c (fill (f k))) (grown_room w g h) in
      record {
        room = g.room;
        long = ap length e ∙ write_length d (at col.table c) (col.words c (f k)) r ∙ g.long;
        is =
            rw (add-one k, column_more col c₀ (up_to f k) (f k), ← w.past)
            (put_then col.table c₀ (sum fill (up_to f k)) c (sum fill (up_to f n)) d₀ d d' (column col c₀ (up_to f k)) (col.words c (f k)) g.room w.past (column_long col c₀ (up_to f k)) g.is e);
      }

  pub grown_all : {d : List ℕ} {c : Fill} {k : ℕ} → Walk fill f n c₀ c k → Grown col f n c₀ d₀ d k → n ≤ k → d ≡ write d₀ (at col.table c₀) (column col c₀ (up_to f n))
  grown_all {d} {c} {k} w g h = let e : k ≡ n = omega (arith, w.within) in rw e at g.is

pub joined_all : {A : Type 0} {fill : A → Fill} {t : Table} {b : A → List ℕ} {l : (x : A) → length (b x) ≡ at t (fill x)} {f : ℕ → A} {n : ℕ} {c₀ c : Fill} {d₀ d : List ℕ} {k : ℕ}
    → Walk fill f n c₀ c k → Grown (plain t b l) f n c₀ d₀ d k → n ≤ k → d ≡ write d₀ (at t c₀) (joined b (up_to f n))
joined_all {fill = fill} {t = t} {b = b} {f = f} {n = n} {c₀ = c₀} {d₀ = d₀} w g h = grown_all w g h ∙ ap (λ (l : List ℕ). write d₀ (at t c₀) l) (laid_joined fill b c₀ (up_to f n))
