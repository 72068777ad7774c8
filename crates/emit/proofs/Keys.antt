-- A key that is there or not, laid where the one before it ends. Assumes nothing.
use Rattle.std.specs.Prelude.{None, Option, Some}
use mathlib.Core.Path.{◌≡◌, refl, sym, ap}
use mathlib.Core.List.{List, [], ◌∷◌, ◌++◌, append-nil, append_assoc}
use Prim.Native.Nat.{ℕ, ◌+◌, ◌-◌, ◌≤◌}
use native.Mathlib.Omega.{arith}
use native.Mathlib.Nat.{add-zero, add_assoc}
use lib.ListN.{length, length-append}
use Rattle.keys.specs.Pool.{part_of, edge_of}
use Rattle.keys.specs.declared.Bound.{Bound}
use Rattle.keys.specs.declared.Range.{Range}
use Rattle.keys.specs.declared.Bound.TheVariants.{Unbounded, Included, Excluded}
use Rattle.tables.specs.Layout.{write}
use Rattle.tables.proofs.Writes.{write_none, then}
use Rattle.tables.proofs.Joined.{joined_append}
use Rattle.records.specs.Decode.{bytes_in, last_in, seen_in, view_in}
use Rattle.records.specs.Fill.{last_keys, edge_keys, seen_keys}
use Rattle.records.specs.Layout.{run, last_row, bound_row, visible_row, view_row, view_bytes}
use Rattle.records.specs.declared.Place.{Place}
use Rattle.emit.specs.declared.LaidLast.{LaidLast}
use Rattle.emit.specs.declared.LaidVisible.{LaidVisible}
use Rattle.emit.specs.declared.LaidView.{LaidView}
use Rattle.records.specs.declared.ViewRow.{ViewRow}
use Rattle.emit.specs.declared.LaidBound.{LaidBound}

-- `made` is the row of the key with the place past it
module _ {L : Type 0} (from : ℕ) (d : List ℕ) where
  none : (made : ℕ → L) → (made from ≡ made (from + length (run []))) × (d ≡ write d from (run []))
  none made = (ap made (sym (add-zero from)), sym (write_none d from))

  some : (made : ℕ → ℕ → L) (past : ℕ) (d' key : List ℕ) → past ≡ from + length key → d' ≡ write d from key
      → (made (past - from) past ≡ made (length key) (from + length (run (key ∷ [])))) × (d' ≡ write d from (run (key ∷ [])))
  some made past d' key e w =
      let n : past - from ≡ length key = omega arith in
      rw (append-nil key, n, e) (refl, w)

module _ (pool d : List ℕ) (from : ℕ) where
  abbrev LastLaid : Option Place → List ℕ → LaidLast → Type 0
  LastLaid l d' r = (r ≡ record { last = last_row from (last_in pool l); past = from + length (run (last_keys (last_in pool l))) }) × (d' ≡ write d from (run (last_keys (last_in pool l))))

  abbrev BoundLaid : Bound → List ℕ → LaidBound → Type 0
  BoundLaid b d' r = (r ≡ record { bound = bound_row from (edge_of pool b); past = from + length (run (edge_keys (edge_of pool b))) }) × (d' ≡ write d from (run (edge_keys (edge_of pool b))))

  pub last_unknown : (l : Option Place) → l ≡ None → LastLaid l d (record { last = None; past = from })
  last_unknown l t = rw t (none from d (λ n. record { last = None; past = n }))

  pub bound_unbounded : (b : Bound) → b ≡ Unbounded → BoundLaid b d (record { bound = Unbounded; past = from })
  bound_unbounded b t = rw t (none from d (λ n. record { bound = Unbounded; past = n }))

  module _ (past : ℕ) (d' : List ℕ) where
    pub last_known : (l : Option Place) (p : Place) → l ≡ Some p → past ≡ from + length (bytes_in pool p) → d' ≡ write d from (bytes_in pool p)
        → LastLaid l d' (record { last = Some (record { at = from; len = past - from }); past = past })
    last_known l p t e w = rw t (some from d (λ k n. record { last = Some (record { at = from; len = k }); past = n }) past d' (bytes_in pool p) e w)

    pub bound_included : (b : Bound) (i n : ℕ) → b ≡ Included i n → past ≡ from + length (part_of pool i n) → d' ≡ write d from (part_of pool i n)
        → BoundLaid b d' (record { bound = Included from (past - from); past = past })
    bound_included b i n t e w = rw t (some from d (λ k m. record { bound = Included from k; past = m }) past d' (part_of pool i n) e w)

    pub bound_excluded : (b : Bound) (i n : ℕ) → b ≡ Excluded i n → past ≡ from + length (part_of pool i n) → d' ≡ write d from (part_of pool i n)
        → BoundLaid b d' (record { bound = Excluded from (past - from); past = past })
    bound_excluded b i n t e w = rw t (some from d (λ k m. record { bound = Excluded from k; past = m }) past d' (part_of pool i n) e w)

-- room for the keys is room for the one
module _ (pool d : List ℕ) (from : ℕ) where
  pub last_room : (l : Option Place) (p : Place) → l ≡ Some p → from + length (run (last_keys (last_in pool l))) ≤ length d → from + length (bytes_in pool p) ≤ length d
  last_room l p t h = rw (append-nil (bytes_in pool p)) at (rw t at h)

  pub included_room : (b : Bound) (i n : ℕ) → b ≡ Included i n → from + length (run (edge_keys (edge_of pool b))) ≤ length d → from + length (part_of pool i n) ≤ length d
  included_room b i n t h = rw (append-nil (part_of pool i n)) at (rw t at h)

  pub excluded_room : (b : Bound) (i n : ℕ) → b ≡ Excluded i n → from + length (run (edge_keys (edge_of pool b))) ≤ length d → from + length (part_of pool i n) ≤ length d
  excluded_room b i n t h = rw (append-nil (part_of pool i n)) at (rw t at h)

-- ---- two keys of a range, three parts of a view: the same by `then`

module _ (pool d : List ℕ) (from : ℕ) where
  abbrev VisibleLaid : Option Range → List ℕ → LaidVisible → Type 0
  VisibleLaid x d' r = (r ≡ record { visible = visible_row from (seen_in pool x); past = from + length (run (seen_keys (seen_in pool x))) }) × (d' ≡ write d from (run (seen_keys (seen_in pool x))))

  pub visible_all : (x : Option Range) → x ≡ None → VisibleLaid x d (record { visible = None; past = from })
  visible_all x t = rw t (none from d (λ n. record { visible = None; past = n }))

  module _ (x : Option Range) (r : Range) (t : x ≡ Some r) (room : from + length (run (seen_keys (seen_in pool x))) ≤ length d) where
    abbrev starts : List ℕ
    starts = run (edge_keys (edge_of pool r.start))

    abbrev ends : List ℕ
    ends = run (edge_keys (edge_of pool r.end))

    both : run (seen_keys (seen_in pool x)) ≡ starts ++ ends
    both = rw t (joined_append (λ k. k) (edge_keys (edge_of pool r.start)) (edge_keys (edge_of pool r.end)))

    pub start_room : from + length starts ≤ length d
    start_room = let h = rw (both, length-append starts ends) at room in omega arith

    pub end_room : (d₁ : List ℕ) (s : LaidBound) → s ≡ record { bound = bound_row from (edge_of pool r.start); past = from + length starts } → length d₁ ≡ length d → s.past + length ends ≤ length d₁
    end_room d₁ s e l = let h = rw (both, length-append starts ends) at room in rw (e, l) (omega arith)

    pub visible_only : (d₁ d₂ : List ℕ) (s e : LaidBound)
        → s ≡ record { bound = bound_row from (edge_of pool r.start); past = from + length starts } → d₁ ≡ write d from starts
        → e ≡ record { bound = bound_row s.past (edge_of pool r.end); past = s.past + length ends } → d₂ ≡ write d₁ s.past ends
        → VisibleLaid x d₂ (record { visible = Some (record { start = s.bound; end = e.bound }); past = e.past })
    visible_only d₁ d₂ s e p w q v = (
      rw (q, p, both, length-append starts ends, t) (rw add_assoc refl),
      rw both (then d d₁ d₂ from s.past starts ends (omega (arith, start_room)) w (rw p refl) v),
    )

-- a view's first key, its last and those of its visible range
module _ (pool d : List ℕ) (from : ℕ) (v : ViewRow) (room : from + length (view_bytes (view_in pool v)) ≤ length d) where
  abbrev one : List ℕ
  one = bytes_in pool v.first

  abbrev two : List ℕ
  two = run (last_keys (last_in pool v.last))

  abbrev rest : List ℕ
  rest = run (seen_keys (seen_in pool v.visible))

  all_three : view_bytes (view_in pool v) ≡ one ++ (two ++ rest)
  unfolding view_bytes view_in
  all_three = ap (λ (l : List ℕ). one ++ l) (joined_append (λ k. k) (last_keys (last_in pool v.last)) (seen_keys (seen_in pool v.visible)))

  fill_three : from + (length one + (length two + length rest)) ≤ length d
  fill_three = rw (all_three, length-append one (two ++ rest), length-append two rest) at room

  pub first_room : from + length one ≤ length d
  first_room = omega (arith, fill_three)

  module _ (first : ℕ) (f : first ≡ from + length one) where
    pub known_room : (d₁ : List ℕ) → length d₁ ≡ length d → first + length two ≤ length d₁
    known_room d₁ l = omega (arith, fill_three)

    module _ (last : LaidLast) (p : last ≡ record { last = last_row first (last_in pool v.last); past = first + length two }) where
      pub visible_room : (n : ℕ) → n ≡ length d → last.past + length rest ≤ n
      visible_room n l = rw p (omega (arith, fill_three))

      pub view_laid : (d₁ d₂ d₃ : List ℕ) (seen : LaidVisible) → d₁ ≡ write d from one → d₂ ≡ write d₁ first two
          → seen ≡ record { visible = visible_row last.past (seen_in pool v.visible); past = last.past + length rest } → d₃ ≡ write d₂ last.past rest
          → (◌≡◌ {A = LaidView} (record { view = record { id = v.id; sst = v.sst; first = record { at = from; len = first - from }; last = last.last; visible = seen.visible }; past = seen.past })
          (record { view = view_row from (view_in pool v); past = from + length (view_bytes (view_in pool v)) }))
          × (d₃ ≡ write d from (view_bytes (view_in pool v)))
      unfolding view_row view_in
      view_laid d₁ d₂ d₃ seen w₁ w₂ q w₃ =
          let n : first - from ≡ length one = omega arith in (
            rw (q, p, all_three, length-append one (two ++ rest), length-append two rest, n, f) (simp add_assoc),
            rw (all_three, ← append_assoc one two rest) (then d d₂ d₃ from last.past (one ++ two) rest (omega (arith, fill_three)) (then d d₁ d₂ from first one two (omega (arith, fill_three)) w₁ f w₂) (rw (p, length-append one two, f) (add_assoc from (length one) (length two))) w₃),
          )

pub ruleset laid_keys = (last_unknown, bound_unbounded, last_known, bound_included, bound_excluded, last_room, included_room, excluded_room, visible_all, start_room, end_room, visible_only, first_room, known_room, visible_room, view_laid)
