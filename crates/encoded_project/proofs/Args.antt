-- Arguments that are not over their limit are the same wherever their bytes stand first. Assumes nothing.
use Rattle.std.specs.Prelude.{None, Option, Some}
use Prim.Native.Nat.{ℕ, zero, suc, ◌+◌, ◌-◌, ◌*◌, ◌/◌, ◌≤◌, ◌<◌}
use mathlib.Core.Path.{◌≡◌, refl, ap, ◌∙◌}
use mathlib.Core.Bool.{Bool, true, false, not, ◌||◌}
use mathlib.Core.List.{List, ◌++◌}
use native.Mathlib.Omega.{arith}
use native.Mathlib.Decide.{dec_lt}
use borrow.Author.Tests.{leb-true, le-leb, lt-leb}
use lib.Dec.{ltb}
use lib.ListN.{length, get_or, take, drop, length-append, length-drop}
use lib.Seq.{length-take-le, get_or-take, take-append-le, drop-append-le}
use Rattle.keys.specs.Pool.{part_of, edge_of, edges_of, inside_of}
use Rattle.keys.specs.declared.Bound.{Bound}
use Rattle.keys.specs.declared.Bound.TheVariants.{Unbounded, Included, Excluded}
use Rattle.keys.specs.declared.Range.{Range}
use Rattle.tables.specs.Layout.{up_to}
use Rattle.segments.specs.Refuses.{long_of, bound_over, range_over}
use Rattle.project_ranges.specs.Config.{Asked, table}
use Rattle.project_ranges.specs.Args.{asked_in, own_row, own_in, config_in, global_over, own_row_over, some_over, counted, own_over, config_over}
use Rattle.project_ranges.specs.declared.ProjectionConfig.{ProjectionConfig}
use Rattle.encoded_project.specs.Project.{config_for}

pub either_false : (a b : Bool) → (a || b) ≡ false → (a ≡ false) × (b ≡ false)
either_false true b e = let z : ◌≡◌ {A = ℕ} 0 1 = cc in absurd (omega arith)
either_false false b e = (refl, e)

not_false : (a : Bool) → not a ≡ false → a ≡ true
not_false true e = refl
not_false false e = let z : ◌≡◌ {A = ℕ} 0 1 = cc in absurd (omega arith)

up_to_with : {A : Type 0} (f g : ℕ → A) (n : ℕ) → ((k : ℕ) → k < n → f k ≡ g k) → up_to f n ≡ up_to g n
up_to_with f g zero h = refl
up_to_with f g (suc n) h = rw (up_to_with f g n (λ k l. h k (omega arith)), h n (omega arith))

-- the first k rows, without those after them
own_row_lem : (own : List ℕ) (k i : ℕ) → i < k → own_row (take (k * 6) own) i ≡ own_row own i
own_row_lem own k i h =
    rw
    (get_or-take (k * 6) own (i * 6) 0 (omega arith), get_or-take (k * 6) own (i * 6 + 1) 0 (omega arith), get_or-take (k * 6) own (i * 6 + 2) 0 (omega arith), get_or-take (k * 6) own (i * 6 + 3) 0 (omega arith), get_or-take (k * 6) own (i * 6 + 3 + 1) 0 (omega arith), get_or-take (k * 6) own (i * 6 + 3 + 2) 0 (omega arith))

-- ---- bytes with others behind them

module _ (args rest : List ℕ) where
  part_front : (from len : ℕ) → from + len ≤ length args → part_of (args ++ rest) from len ≡ part_of args from len
  unfolding part_of
  part_front from len h =
      let d : drop from (args ++ rest) ≡ drop from args ++ rest = drop-append-le from args rest (omega arith) in
      let l : length (drop from args) ≡ length args - from = length-drop from args in
      rw (le-leb (from + len) (length args) h, le-leb (from + len) (length (args ++ rest)) (omega (arith, length-append args rest)), d)
      (take-append-le len (drop from args) rest (omega (arith, l)))

  edge_front : (b : Bound) → inside_of (length args) b ≡ true → edge_of (args ++ rest) b ≡ edge_of args b
  edge_front Unbounded h = refl
  edge_front (Included from len) h = rw (part_front from len (leb-true (from + len) (length args) h))
  edge_front (Excluded from len) h = rw (part_front from len (leb-true (from + len) (length args) h))

  module _ (most : ℕ) where
    bound_front : (b : Bound) → bound_over most (length args) b ≡ false → edge_of (args ++ rest) b ≡ edge_of args b
    bound_front b h = edge_front b (not_false (inside_of (length args) b) (either_false (long_of most b) (not (inside_of (length args) b)) h).1)

    range_front : (r : Range) → range_over most (length args) r ≡ false → edges_of (args ++ rest) r ≡ edges_of args r
    unfolding range_over
    range_front r h =
        let w = either_false (bound_over most (length args) r.start) (bound_over most (length args) r.end) h in
        rw (bound_front r.start w.0, bound_front r.end w.1)

    asked_front : (g : Option Range) → global_over most (length args) g ≡ false → asked_in (args ++ rest) g ≡ asked_in args g
    asked_front None h = refl
    asked_front (Some r) h = ap Asked.asked (range_front r h)

    -- ---- the own ranges that count

    some_row : (own : List ℕ) (k i : ℕ) → i < k → some_over most (length args) own k ≡ false → range_over most (length args) (own_row own i) ≡ false
    some_row own zero i l h = absurd (omega arith)
    some_row own (suc k) i l h =
        let w = either_false (some_over most (length args) own k) (own_row_over most (length args) own k) h in
        let here : range_over most (length args) (own_row own k) ≡ false = (either_false (ltb 2 (get_or own (k * 6) 0) || ltb 2 (get_or own (k * 6 + 3) 0)) (range_over most (length args) (own_row own k)) w.1).1 in
        elim (dec_lt i k) [ yes g ↦ some_row own k i g w.0 | no n ↦ ap (λ (j : ℕ). range_over most (length args) (own_row own j)) (omega arith) ∙ here ]

    own_front : (own : List ℕ) (k : ℕ) → k ≤ length own / 6 → some_over most (length args) own k ≡ false → (flag : Bool) → own_in (args ++ rest) flag (take (k * 6) own) ≡ own_in args flag (take (k * 6) own)
    own_front own k l h false = refl
    own_front own k l h true =
        let n : length (take (k * 6) own) ≡ k * 6 = length-take-le (k * 6) own (omega arith) in
        let m : length (take (k * 6) own) / 6 ≡ k = omega arith in
        ap table
        (up_to_with (λ i. edges_of (args ++ rest) (own_row (take (k * 6) own) i)) (λ i. edges_of args (own_row (take (k * 6) own) i)) (length (take (k * 6) own) / 6)
        (λ i g. range_front (own_row (take (k * 6) own) i) (ap (range_over most (length args)) (own_row_lem own k i (omega arith)) ∙ some_row own k i (omega arith) h)))

-- what is asked of a manifest with so many segments
pub config_front : (args rest : List ℕ) (most segments : ℕ) (c : ProjectionConfig) (own : List ℕ) → config_over most (length args) segments c own ≡ false → config_for (args ++ rest) c own segments ≡ config_for args c own segments
unfolding config_over config_in
config_front args rest most segments c own h =
    let w = either_false (global_over most (length args) c.global_range) (own_over most (length args) segments c.segment_projection own) h in
    rw (asked_front args rest most c.global_range w.0, go c.segment_projection w.1)
  where
    few : counted own segments ≤ length own / 6
    few = elim (dec_lt segments (length own / 6)) [ yes l ↦ rw (lt-leb (length own / 6) segments l) (omega arith) | no n ↦ rw (le-leb (length own / 6) segments (omega arith)) (omega arith) ]

    go : (flag : Bool) → own_over most (length args) segments flag own ≡ false → own_in (args ++ rest) flag (take (counted own segments * 6) own) ≡ own_in args flag (take (counted own segments * 6) own)
    go false e = refl
    go true e = own_front args rest most own (counted own segments) few e true
