-- One step after another, and a step for each row: what the arms of the walking loops know. Assumes nothing.
use Rattle.std.specs.Prelude.{None, Option, Some}
use Prim.Native.Nat.{ℕ, zero, suc, ◌+◌, ◌^◌, ◌≤◌, ◌<◌}
use mathlib.Core.Path.{◌≡◌, refl, sym, ap, ◌∙◌}
use mathlib.Core.Bool.{Bool, true, false}
use mathlib.Core.List.{List}
use native.Mathlib.Omega.{arith}
use native.Mathlib.Numerals.{add-one}
use native.Mathlib.Decide.{dec_lt}
use borrow.Author.Tests.{leb-true, lt-leb, le-leb, lt-ltb, le-ltb}
use lib.Dec.{leb}
use Rattle.keys.specs.Pick.{pick}
use Rattle.tables.specs.declared.Window.{Window}
use Rattle.records.specs.Fill.{bytes}
use Rattle.records.specs.declared.Fill.{Fill}
use Rattle.records.specs.declared.Place.{Place}
use Rattle.records.specs.declared.Limits.{Limits}
use Rattle.records.specs.declared.RunRow.{RunRow}
use Rattle.records.specs.Row.{run_at}
use Rattle.measure.specs.Placed.{opened}
use Rattle.measure.specs.Walk.{then, walk_all, add_of, window_walk, key_walk, open_walk, code_walk, name_walk, views_walk, run_walk}

module _ (s w : Option Fill) (f : Fill → Option Fill) (e : s ≡ w) where
  pub then_broken : (x : Option Fill) → x ≡ None → s ≡ None → x ≡ then w f
  then_broken x l h = rw (l, sym e ∙ h)

  pub then_on : (c : Fill) (r : Option Fill) → s ≡ Some c → r ≡ f c → r ≡ then w f
  then_on c r h g = rw (sym e ∙ h) g

pub ruleset thens = (then_broken, then_on)

-- a byte string that is too long, and one that is not
module _ (longest : ℕ) (most : Fill) (n : ℕ) (p : Place) (c : Fill) where
  pub key_long : longest < p.len → None ≡ key_walk longest most n p c
  unfolding key_walk
  key_long h = rw (lt-leb p.len longest h)

  pub key_short : (r : Option Fill) → p.len ≤ longest → r ≡ window_walk most n (record { first = p.at; count = p.len }) (bytes p.len) c → r ≡ key_walk longest most n p c
  unfolding key_walk
  key_short r h e = rw (le-leb p.len longest h) e

-- ---- codes
module _ (k : ℕ) (f : Fill → Option Fill) (c : Fill) where
  pub open_none : k ≡ 0 → Some c ≡ open_walk k f c
  open_none e = rw e

  pub open_one : (r : Option Fill) → k ≡ 1 → r ≡ f c → r ≡ open_walk k f c
  open_one r e h = rw e h

  pub code_none : k ≡ 0 → Some c ≡ code_walk k f c
  code_none e = rw e

pub open_rest : (k : ℕ) (f : Fill → Option Fill) (c : Fill) → (k ≡ 0 → ⊥) → (k ≡ 1 → ⊥) → None ≡ open_walk k f c
open_rest zero f c p q = absurd (p refl)
open_rest (suc zero) f c p q = absurd (q refl)
open_rest (suc (suc k)) f c p q = refl

pub code_key : (k : ℕ) (f : Fill → Option Fill) (c : Fill) (r : Option Fill) → (k ≡ 0 → ⊥) → k < 3 → r ≡ f c → r ≡ code_walk k f c
code_key zero f c r p l e = absurd (p refl)
code_key (suc zero) f c r p l e = e
code_key (suc (suc zero)) f c r p l e = e
code_key (suc (suc (suc k))) f c r p l e = absurd (omega arith)

pub code_rest : (k : ℕ) (f : Fill → Option Fill) (c : Fill) → 3 ≤ k → None ≡ code_walk k f c
code_rest zero f c l = absurd (omega arith)
code_rest (suc zero) f c l = absurd (omega arith)
code_rest (suc (suc zero)) f c l = absurd (omega arith)
code_rest (suc (suc (suc k))) f c l = refl

pub is_opened : (k : ℕ) → leb k 1 ≡ opened k true
is_opened zero = refl
is_opened (suc zero) = refl
is_opened (suc (suc k)) = lt-leb (suc (suc k)) 1 (omega arith)

pub ruleset codes = (open_none, open_one, open_rest, code_none, code_key, code_rest)

module _ (lim : Limits) (n : ℕ) (m : Option Place) (c : Fill) where
  pub name_none : m ≡ None → Some c ≡ name_walk lim n m c
  unfolding name_walk
  name_none e = rw e

  pub name_some : (p : Place) (r : Option Fill) → m ≡ Some p → r ≡ key_walk lim.name lim.fill n p c → r ≡ name_walk lim n m c
  unfolding name_walk
  name_some p r e h = rw e h

pub ruleset names = (name_none, name_some)

-- ---- a run's id
module _ (lim : Limits) (views runs : List ℕ) (n i : ℕ) (c : Fill) (r : RunRow) (e : r ≡ run_at runs i) where
  pub run_wide : 4294967296 ≤ r.id → None ≡ run_walk lim views runs n i c
  unfolding run_walk
  run_wide h = rw (← e, le-ltb r.id (2 ^ 32) h)

  pub run_narrow : (s : Option Fill) → r.id < 4294967296 → s ≡ views_walk lim views n r.views c → s ≡ run_walk lim views runs n i c
  unfolding run_walk
  run_narrow s h k = rw (← e, lt-ltb r.id (2 ^ 32) h) k

pub ruleset run_ids = (run_wide, run_narrow)

-- ---- rows

-- once broken, broken to the end
walk_broken : (f : ℕ → Fill → Option Fill) (c : Fill) (i n : ℕ) → i ≤ n → walk_all f i c ≡ None → walk_all f n c ≡ None
walk_broken f c i zero l h = let e : i ≡ 0 = omega arith in rw e at h
walk_broken f c i (suc n) l h = elim (dec_lt n i) [ yes m ↦ (let e : i ≡ suc n = omega arith in rw e at h) | no m ↦ ap (λ w. then w (f n)) (walk_broken f c i n (omega arith) h) ]

-- the first k rows of a window have been walked
pub record Walked (f : ℕ → Fill → Option Fill) (w : Window) (rows : ℕ) (c₀ c : Fill) (k : ℕ) : Type 0 where
  pub inside : w.first + w.count ≤ rows
  pub within : k ≤ w.count
  pub is : walk_all f k c₀ ≡ Some c

pub walked_none : (f : ℕ → Fill → Option Fill) (most : Fill) (w : Window) (rows : ℕ) (more c d : Fill) (s : Option Fill) → s ≡ window_walk most rows w more c → s ≡ Some d → Walked f w rows d d 0
unfolding window_walk
walked_none f most w rows more c d s e h = record { inside = go (leb (w.first + w.count) rows) refl (sym e ∙ h); within = omega arith; is = refl }
  where
    go : (b : Bool) → leb (w.first + w.count) rows ≡ b → pick b (add_of most c more) None ≡ Some d → w.first + w.count ≤ rows
    go true q p = leb-true (w.first + w.count) rows q
    go false q p = let z : ◌≡◌ {A = ℕ} 0 1 = cc in absurd (omega arith)

module _ (f : ℕ → Fill → Option Fill) (w : Window) (rows : ℕ) (c₀ c : Fill) (k : ℕ) (i : Walked f w rows c₀ c k) where
  pub walked_more : (u : Option Fill) (d : Fill) → u ≡ f k c → u ≡ Some d → k < w.count → Walked f w rows c₀ d (k + 1)
  walked_more u d e h l = record { inside = i.inside; within = omega arith; is = rw (add-one k, i.is) (sym e ∙ h) }

  pub walked_broken : (u x : Option Fill) → u ≡ f k c → x ≡ None → u ≡ None → k < w.count → x ≡ walk_all f w.count c₀
  walked_broken u x e g h l = g ∙ sym (walk_broken f c₀ (suc k) w.count l (rw i.is (sym e ∙ h)))

  pub walked_all : w.count ≤ k → Some c ≡ walk_all f w.count c₀
  walked_all l = let e : k ≡ w.count = omega (arith, i.within) in sym (rw e at i.is)

pub ruleset rows = (then_broken, then_on, walked_none, walked_more, walked_broken, walked_all)
