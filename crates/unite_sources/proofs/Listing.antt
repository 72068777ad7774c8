-- Prefixes in a list of places, two words each: one entered among those that ascend, if it is not there. Assumes nothing.
use Prim.Native.Nat.{ℕ, zero, suc, ◌+◌, ◌-◌, ◌*◌, ◌≤◌, ◌<◌}
use mathlib.Core.Path.{◌≡◌, refl, sym, ap, ◌∙◌}
use mathlib.Core.Bool.{Bool, true, false, true≢false, ◌&&◌}
use mathlib.Core.List.{List, [], ◌∷◌, ◌++◌}
use native.Mathlib.Omega.{arith}
use native.Mathlib.Nat.{add-zero}
use lib.Dec.{ltb}
use lib.ListN.{length, get_or, take, drop, length-drop}
use lib.Seq.{length-take-le, get_or-take, get_or-drop}
use borrow.Author.Tests.{ltb-true, lt-ltb, le-ltb}
use Rattle.keys.specs.Pick.{pick}
use Rattle.keys.specs.Key.{less_of}
use Rattle.keys.specs.Prefix.{begins_of}
use Rattle.std.specs.declared.cmp.Ordering.{Ordering}
use Rattle.keys.proofs.ByteOrder.{Stand, stand, stand_order}
use Rattle.tables.specs.Layout.{write, up_to}
use Rattle.tables.proofs.Holds.{up_to_front}
use Rattle.tables.proofs.Joined.{up_to_length}
use Rattle.tables.proofs.Writes.{write_length}
use Rattle.shift.proofs.Written.{write_before, write_in, write_behind}
use Rattle.records.specs.Row.{place_at}
use Rattle.records.specs.Decode.{bytes_in}
use Rattle.records.specs.declared.Place.{Place}
use Rattle.segments.specs.Prefixes.{leading}
use Rattle.segments.specs.Lookup.{same_of}
use Rattle.segments.proofs.Places.{and_both}
use Rattle.segments.proofs.Fronts.{Led, led_none}
use Rattle.merge.specs.Merge.{among}
use Rattle.unite_ranges.proofs.Entering.{up_to_entered, up_to_take, up_to_drop}
use Rattle.unite_sources.specs.Rows.{places_in}

-- ---- lists

-- where p stands: how many at the front are below it
abbrev pub spot : List ℕ → List (List ℕ) → ℕ
spot p qs = leading (λ q. less_of q p) qs

pub spot_within : (p : List ℕ) (qs : List (List ℕ)) → spot p qs ≤ length qs
spot_within p [] = omega arith
spot_within p (q ∷ qs) = go (less_of q p) (spot_within p qs)
  where
    go : (b : Bool) → spot p qs ≤ length qs → pick b (suc (spot p qs)) 0 ≤ length (q ∷ qs)
    go true h = omega arith
    go false h = omega arith

-- the one there is p
pub among_held : (p : List ℕ) (qs : List (List ℕ)) → spot p qs < length qs → same_of p (get_or qs (spot p qs) []) ≡ true → among p qs ≡ qs
among_held p [] h t = absurd (omega arith)
among_held p (q ∷ qs) h t = go (stand p q) h t (among_held p qs)
  where
    go : {o : Ordering} → Stand p q o → spot p (q ∷ qs) < length (q ∷ qs) → same_of p (get_or (q ∷ qs) (spot p (q ∷ qs)) []) ≡ true
        → (spot p qs < length qs → same_of p (get_or qs (spot p qs) []) ≡ true → among p qs ≡ qs) → among p (q ∷ qs) ≡ q ∷ qs
    go (Stand.less l) h t ih = absurd (true≢false (sym (rw (stand_order (Stand.more l), stand_order (Stand.less l)) at t)))
    go (Stand.same e) h t ih = rw (stand_order (Stand.same e))
    go (Stand.more l) h t ih =
        rw (stand_order (Stand.more l)) (ap (λ (r : List (List ℕ)). q ∷ r) (ih (let m : suc (spot p qs) < length (q ∷ qs) = rw (stand_order (Stand.less l)) at h in omega arith) (rw (stand_order (Stand.less l)) at t)))

-- none is p
pub among_new : (p : List ℕ) (qs : List (List ℕ)) → (spot p qs < length qs → same_of p (get_or qs (spot p qs) []) ≡ false) → among p qs ≡ take (spot p qs) qs ++ (p ∷ drop (spot p qs) qs)
among_new p [] t = refl
among_new p (q ∷ qs) t = go (stand p q) t (among_new p qs)
  where
    go : {o : Ordering} → Stand p q o → (spot p (q ∷ qs) < length (q ∷ qs) → same_of p (get_or (q ∷ qs) (spot p (q ∷ qs)) []) ≡ false)
        → ((spot p qs < length qs → same_of p (get_or qs (spot p qs) []) ≡ false) → among p qs ≡ take (spot p qs) qs ++ (p ∷ drop (spot p qs) qs))
        → among p (q ∷ qs) ≡ take (spot p (q ∷ qs)) (q ∷ qs) ++ (p ∷ drop (spot p (q ∷ qs)) (q ∷ qs))
    go (Stand.less l) t ih = rw (stand_order (Stand.less l), stand_order (Stand.more l))
    go (Stand.same e) t ih =
        let u : 0 < length (q ∷ qs) → true ≡ false = rw (stand_order (Stand.same (sym e)), stand_order (Stand.same e)) at t in
        absurd (true≢false (u (omega arith)))
    go (Stand.more l) t ih =
        let u : suc (spot p qs) < length (q ∷ qs) → same_of p (get_or qs (spot p qs) []) ≡ false = rw (stand_order (Stand.less l)) at t in
        rw (stand_order (Stand.less l), stand_order (Stand.more l)) (ap (λ (r : List (List ℕ)). q ∷ r) (ih (λ h. u (omega arith))))

pub up_to_at : {A : Type 0} (g : ℕ → A) (n i : ℕ) (d : A) → i < n → get_or (up_to g n) i d ≡ g i
up_to_at g zero i d h = absurd (omega arith)
up_to_at g (suc n) zero d h = rw (up_to_front g n)
up_to_at g (suc n) (suc i) d h = rw (up_to_front g n) (up_to_at (λ k. g (suc k)) n i d (omega arith))

-- ---- rows

abbrev pub row : List ℕ → List ℕ → ℕ → List ℕ
row pool t i = bytes_in pool (place_at t (i * 2))

pub under_is : (pool t p a : List ℕ) (i : ℕ) (q : Place) (r : Bool) → q ≡ place_at t (i * 2) → a ≡ bytes_in pool q → r ≡ less_of a p → r ≡ less_of (row pool t i) p
under_is pool t p a i q r e f h = h ∙ ap (λ (z : List ℕ). less_of z p) (f ∙ ap (bytes_in pool) e)

pub same_is : (pool t p a : List ℕ) (i : ℕ) (q : Place) (r : Bool) → q ≡ place_at t (i * 2) → a ≡ bytes_in pool q → r ≡ same_of p a → r ≡ same_of p (row pool t i)
same_is pool t p a i q r e f h = h ∙ ap (same_of p) (f ∙ ap (bytes_in pool) e)

pub begins_is : (pool t a b : List ℕ) (i j : ℕ) (p q : Place) (r : Bool) → p ≡ place_at t (i * 2) → q ≡ place_at t (j * 2) → a ≡ bytes_in pool p → b ≡ bytes_in pool q
    → r ≡ begins_of a b → r ≡ begins_of (row pool t i) (row pool t j)
begins_is pool t a b i j p q r d e f g h = h ∙ ap (λ (z : List ℕ). begins_of z b) (f ∙ ap (bytes_in pool) d) ∙ ap (begins_of (row pool t i)) (g ∙ ap (bytes_in pool) e)

pub ruleset rows_read = (under_is, same_is, begins_is)

pub spot_none : (pool t p : List ℕ) (n : ℕ) → Led (spot p (places_in t pool n)) (λ i. less_of (row pool t i) p) n 0
unfolding places_in
spot_none pool t p n = led_none (λ q. less_of q p) (row pool t) n n (spot p (up_to (row pool t) n)) refl refl

-- two rows of the same words
row_same : (pool t u : List ℕ) (i j : ℕ) → ((k : ℕ) → k < 2 → get_or t (i * 2 + k) 0 ≡ get_or u (j * 2 + k) 0) → row pool t i ≡ row pool u j
row_same pool t u i j h = let z : get_or t (i * 2) 0 ≡ get_or u (j * 2) 0 = rw (add-zero (i * 2), add-zero (j * 2)) at (h 0 (omega arith)) in rw (z, h 1 (omega arith))

-- the row is one of the first n, and is p
module _ (n i : ℕ) (x : Bool) where
  pub held_past : n ≤ i → false ≡ (ltb i n && x)
  held_past h = rw (le-ltb i n h)

  pub held_as : (r : Bool) → i < n → r ≡ x → r ≡ (ltb i n && x)
  held_as r h e = rw (lt-ltb i n h) e

  module _ (r : Bool) (e : r ≡ (ltb i n && x)) where
    is_there : r ≡ true → (i < n) × (x ≡ true)
    is_there t = let w = and_both (ltb i n) x (sym e ∙ t) in (ltb-true i n w.0, w.1)

    is_not : r ≡ false → i < n → x ≡ false
    is_not t h = (rw (lt-ltb i n h) at (sym e)) ∙ t

pub ruleset helds = (held_past, held_as)

module _ (pool t p : List ℕ) (n i : ℕ) (e : i ≡ spot p (places_in t pool n)) (r : Bool) (held : r ≡ (ltb i n && same_of p (row pool t i))) where
  pub spot_in : i ≤ n
  unfolding places_in
  spot_in = omega (arith, e, spot_within p (up_to (row pool t) n), up_to_length (row pool t) n)

  pub prefix_held : r ≡ true → places_in t pool n ≡ among p (places_in t pool n)
  unfolding places_in
  prefix_held y =
      let w = is_there n i (same_of p (row pool t i)) r held y in
      let h : i < n = w.0 in
      let l : length (up_to (row pool t) n) ≡ n = up_to_length (row pool t) n in
      sym (among_held p (up_to (row pool t) n) (omega (arith, e, l)) (ap (λ (k : ℕ). same_of p (get_or (up_to (row pool t) n) k [])) (sym e) ∙ rw (up_to_at (row pool t) n i [] h) w.1))

  -- not there: the rows from i on moved one place to the right, and then the two words put at i
  module _ (a l : ℕ) (v : List ℕ) (is : p ≡ bytes_in pool (record { at = a; len = l })) (room : (n + 1) * 2 ≤ length t) (no : r ≡ false)
      (put : v ≡ write (write t (i * 2 + 2) (take (n * 2 - i * 2) (drop (i * 2) t))) (i * 2) (a ∷ l ∷ []))
    where
      new : i < n → same_of p (row pool t i) ≡ false
      new = is_not n i (same_of p (row pool t i)) r held no

      abbrev ms : List ℕ
      ms = take (n * 2 - i * 2) (drop (i * 2) t)

      abbrev u : List ℕ
      u = write t (i * 2 + 2) ms

      le : i ≤ n
      le = spot_in

      ms_long : length ms ≡ n * 2 - i * 2
      ms_long = length-take-le (n * 2 - i * 2) (drop (i * 2) t) (rw (length-drop (i * 2) t) (omega (arith, le)))

      u_long : length u ≡ length t
      u_long = write_length t (i * 2 + 2) ms (omega (arith, ms_long, le))

      pub prefix_long : length v ≡ length t
      prefix_long = ap length put ∙ write_length u (i * 2) (a ∷ l ∷ []) (let d : length (a ∷ l ∷ []) ≡ 2 = refl in omega (arith, u_long, le, d)) ∙ u_long

      words_before : (j : ℕ) → j < i * 2 → get_or v j 0 ≡ get_or t j 0
      words_before j h =
          ap (λ (z : List ℕ). get_or z j 0) put ∙ write_before u (i * 2) (a ∷ l ∷ []) j (omega (arith, u_long, le)) h
          ∙ write_before t (i * 2 + 2) ms j (omega (arith, le)) (omega arith)

      words_behind : (j : ℕ) → j < n * 2 - i * 2 → get_or v (i * 2 + (2 + j)) 0 ≡ get_or t (i * 2 + j) 0
      words_behind j h =
          ap (λ (z : List ℕ). get_or z (i * 2 + (2 + j)) 0) put
          ∙ write_behind u (i * 2) (a ∷ l ∷ []) 2 j refl (omega (arith, u_long, le))
          ∙ write_in t (i * 2 + 2) ms j (omega (arith, le)) (omega (arith, ms_long))
          ∙ get_or-take (n * 2 - i * 2) (drop (i * 2) t) j 0 h
          ∙ get_or-drop (i * 2) t j 0

      here : row pool v i ≡ p
      here =
          let x : get_or v (i * 2) 0 ≡ a = ap (λ (z : List ℕ). get_or z (i * 2) 0) put ∙ (rw (add-zero (i * 2)) at (write_in u (i * 2) (a ∷ l ∷ []) 0 (omega (arith, u_long, le)) (omega arith))) in
          let y : get_or v (i * 2 + 1) 0 ≡ l = ap (λ (z : List ℕ). get_or z (i * 2 + 1) 0) put ∙ write_in u (i * 2) (a ∷ l ∷ []) 1 (omega (arith, u_long, le)) (omega arith) in
          rw (x, y) (sym is)

      rows_before : (k : ℕ) → k < i → row pool v k ≡ row pool t k
      rows_before k h = row_same pool v t k k (λ j q. words_before (k * 2 + j) (omega arith))

      rows_behind : (k : ℕ) → k < n - i → row pool v (i + suc k) ≡ row pool t (i + k)
      rows_behind k h =
          row_same pool v t (i + suc k) (i + k)
          (λ j q. let x : (i + suc k) * 2 + j ≡ i * 2 + (2 + (k * 2 + j)) = omega arith in let y : (i + k) * 2 + j ≡ i * 2 + (k * 2 + j) = omega arith in rw (x, y) (words_behind (k * 2 + j) (omega arith)))

      pub prefix_new : places_in v pool (n + 1) ≡ among p (places_in t pool n)
      unfolding places_in
      prefix_new =
          let f = row pool t in
          let g = row pool v in
          let m = n - i in
          let x : n + 1 ≡ i + suc m = omega (arith, le) in
          let y : n ≡ i + m = omega (arith, le) in
          let c : length (up_to f n) ≡ n = up_to_length f n in
          let d : up_to g (n + 1) ≡ up_to f i ++ (p ∷ up_to (λ k. f (i + k)) m) = rw x (up_to_entered f g p i m rows_before here rows_behind) in
          let b : take i (up_to f n) ++ (p ∷ drop i (up_to f n)) ≡ up_to f i ++ (p ∷ up_to (λ k. f (i + k)) m) = rw (ap (up_to f) y, up_to_take f i m, up_to_drop f i m) in
          d
          ∙ sym b
          ∙ ap (λ (k : ℕ). take k (up_to f n) ++ (p ∷ drop k (up_to f n))) e
          ∙ sym (among_new p (up_to f n) (λ h. (let q : i < n = omega (arith, e, c) in ap (λ (k : ℕ). same_of p (get_or (up_to f n) k [])) (sym e) ∙ rw (up_to_at f n i [] q) (new q))))
