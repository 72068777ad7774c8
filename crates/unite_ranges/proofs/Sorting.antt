-- THE SORTING LAWS: what is arranged ascends by start, holds what was given, and those of one start stay in their order.
use Prim.Native.Nat.{ℕ, suc, ◌+◌}
use mathlib.Core.Path.{◌≡◌, refl, sym, ap, ◌∙◌}
use mathlib.Core.Bool.{Bool, true, false}
use mathlib.Core.List.{List, [], ◌∷◌, ◌++◌, append-nil, append_assoc}
use native.Mathlib.Omega.{arith}
use Rattle.keys.specs.Pick.{pick}
use Rattle.keys.specs.Key.{is_less, is_equal}
use Rattle.keys.specs.Range.{Edge}
use Rattle.keys.specs.Meet.{start_order}
use Rattle.std.specs.declared.cmp.Ordering.{Ordering}
use Rattle.std.specs.declared.cmp.Ordering.TheVariants.{Less, Equal, Greater}
use Rattle.keys.proofs.Sorts.{AtMost, turn, start_self, start_turn, start_trans, start_same}
use Rattle.unite_ranges.specs.Arranged.{Ranged, entered, arranged_from, arranged}
use Rattle.unite_ranges.specs.Sorted.{Behind, Ascends, starting_at, passing}

-- ---- the order of starts, by its tests

not_true_false : {P : Type 0} → true ≡ false → P
not_true_false e = let z : ◌≡◌ {A = ℕ} 0 1 = cc in absurd (omega arith)

less_most : (o : Ordering) → is_less o ≡ true → AtMost o
less_most Less e = tt
less_most Equal e = tt
less_most Greater e = not_true_false (sym e)

turned_most : (o : Ordering) → is_less o ≡ false → AtMost (turn o)
turned_most Less e = not_true_false e
turned_most Equal e = tt
turned_most Greater e = tt

most_turned : (o : Ordering) → AtMost o → is_less (turn o) ≡ false
most_turned Less h = refl
most_turned Equal h = refl
most_turned Greater h = absurd h

less_not_turned : (o : Ordering) → is_less o ≡ true → AtMost (turn o) → ⊥
less_not_turned Less e h = h
less_not_turned Equal e h = not_true_false (sym e)
less_not_turned Greater e h = not_true_false (sym e)

equal_is : (o : Ordering) → is_equal o ≡ true → o ≡ Equal
equal_is Less e = not_true_false (sym e)
equal_is Equal e = refl
equal_is Greater e = not_true_false (sym e)

-- t does not start before s
at_most : (s t : Edge) → is_less (start_order t s) ≡ false → AtMost (start_order s t)
at_most s t h = rw (start_turn t s) (turned_most (start_order t s) h)

not_before : (s t : Edge) → AtMost (start_order s t) → is_less (start_order t s) ≡ false
not_before s t h = rw (start_turn s t) (most_turned (start_order s t) h)

module _ (s t : Edge) (l : is_less (start_order s t) ≡ true) where
  -- what does not start before t does not start before s, and starts elsewhere
  stays_behind : (u : Edge) → is_less (start_order u t) ≡ false → is_less (start_order u s) ≡ false
  stays_behind u h = not_before s u (start_trans s t u (less_most (start_order s t) l) (at_most t u h))

  before_itself : is_less (start_order t s) ≡ false
  before_itself = not_before s t (less_most (start_order s t) l)

  starts_elsewhere : (e u : Edge) → is_equal (start_order e s) ≡ true → is_less (start_order u t) ≡ false → is_equal (start_order e u) ≡ false
  starts_elsewhere e u p h = go (is_equal (start_order e u)) refl
    where
      go : (b : Bool) → is_equal (start_order e u) ≡ b → b ≡ false
      go false q = refl
      go true q =
          let same : u ≡ s = sym (start_same e u (equal_is (start_order e u) q)) ∙ start_same e s (equal_is (start_order e s) p) in
          let m : AtMost (start_order t s) = rw same at (at_most t u h) in
          absurd (less_not_turned (start_order s t) l (rw (start_turn s t) at m))

module _ {A : Type 0} where
  -- ---- ascending

  behind_on : (s t : Edge) → is_less (start_order s t) ≡ true → {ys : List (Ranged A)} → Behind t ys → Behind s ys
  behind_on s t l Behind.none = Behind.none
  behind_on s t l (Behind.more {x} h b) = Behind.more (stays_behind s t l x.range.start h) (behind_on s t l b)

  behind_entered : (s : Edge) (x : Ranged A) → is_less (start_order x.range.start s) ≡ false → {ys : List (Ranged A)} → Behind s ys → Behind s (entered x ys)
  unfolding entered
  behind_entered s x l Behind.none = Behind.more l Behind.none
  behind_entered s x l (Behind.more {x = y} {xs = ys} h b) = go (is_less (start_order x.range.start y.range.start)) (behind_entered s x l b)
    where
      go : (t : Bool) → Behind s (entered x ys) → Behind s (pick t (x ∷ y ∷ ys) (y ∷ entered x ys))
      go true r = Behind.more l (Behind.more h b)
      go false r = Behind.more h r

  entered_ascends : (x : Ranged A) {ys : List (Ranged A)} → Ascends ys → Ascends (entered x ys)
  unfolding entered
  entered_ascends x Ascends.none = Ascends.more Behind.none Ascends.none
  entered_ascends x (Ascends.more {x = y} {xs = ys} h a) = go (is_less (start_order x.range.start y.range.start)) refl (entered_ascends x a)
    where
      go : (t : Bool) → is_less (start_order x.range.start y.range.start) ≡ t → Ascends (entered x ys) → Ascends (pick t (x ∷ y ∷ ys) (y ∷ entered x ys))
      go true l r =
          Ascends.more
          (Behind.more (before_itself x.range.start y.range.start l) (behind_on x.range.start y.range.start l h))
          (Ascends.more h a)
      go false l r = Ascends.more (behind_entered y.range.start x l h) r

  from_ascends : {done : List (Ranged A)} → Ascends done → (xs : List (Ranged A)) → Ascends (arranged_from done xs)
  unfolding arranged_from
  from_ascends {done = done} a [] = a
  from_ascends {done = done} a (x ∷ xs) = from_ascends {done = entered x done} (entered_ascends x a) xs

  -- "sorted .. by the start"
  pub arranged_ascends : (xs : List (Ranged A)) → Ascends (arranged xs)
  arranged_ascends xs = from_ascends Ascends.none xs

  -- ---- stable

  none_starts : (s t e : Edge) → is_less (start_order s t) ≡ true → is_equal (start_order e s) ≡ true → {ys : List (Ranged A)} → Behind t ys → starting_at e ys ≡ []
  unfolding starting_at
  none_starts s t e l p Behind.none = refl
  none_starts s t e l p (Behind.more {x} h b) = rw (starts_elsewhere s t l e x.range.start p h) (none_starts s t e l p b)

  -- x starts before all of ys
  stable_here : (e : Edge) (x y : Ranged A) (ys : List (Ranged A)) → Behind y.range.start ys → is_less (start_order x.range.start y.range.start) ≡ true
      → starting_at e (x ∷ y ∷ ys) ≡ starting_at e (y ∷ ys) ++ starting_at e (x ∷ [])
  unfolding starting_at
  stable_here e x y ys h l = go (is_equal (start_order e x.range.start)) refl
    where
      go : (c : Bool) → is_equal (start_order e x.range.start) ≡ c → pick c (x ∷ starting_at e (y ∷ ys)) (starting_at e (y ∷ ys)) ≡ starting_at e (y ∷ ys) ++ pick c (x ∷ []) []
      go true p =
          let none : starting_at e (y ∷ ys) ≡ [] = none_starts x.range.start y.range.start e l p (Behind.more (not_before y.range.start y.range.start (start_self y.range.start)) h) in
          ap (λ k. x ∷ k) none ∙ sym (ap (λ k. k ++ (x ∷ [])) none)
      go false p = sym (append-nil (starting_at e (y ∷ ys)))

  stable_later : (c : Bool) (y : Ranged A) (us bs ds : List (Ranged A)) → us ≡ bs ++ ds → pick c (y ∷ us) us ≡ pick c (y ∷ bs) bs ++ ds
  stable_later true y us bs ds h = ap (λ k. y ∷ k) h
  stable_later false y us bs ds h = h

  entered_stable : (e : Edge) (x : Ranged A) {ys : List (Ranged A)} → Ascends ys → starting_at e (entered x ys) ≡ starting_at e ys ++ starting_at e (x ∷ [])
  unfolding entered starting_at
  entered_stable e x Ascends.none = refl
  entered_stable e x (Ascends.more {x = y} {xs = ys} h a) = go (is_less (start_order x.range.start y.range.start)) refl (entered_stable e x a)
    where
      go : (t : Bool) → is_less (start_order x.range.start y.range.start) ≡ t → starting_at e (entered x ys) ≡ starting_at e ys ++ starting_at e (x ∷ [])
          → starting_at e (pick t (x ∷ y ∷ ys) (y ∷ entered x ys)) ≡ starting_at e (y ∷ ys) ++ starting_at e (x ∷ [])
      go true l r = stable_here e x y ys h l
      go false l r = stable_later (is_equal (start_order e y.range.start)) y (starting_at e (entered x ys)) (starting_at e ys) (starting_at e (x ∷ [])) r

  starting_append : (e : Edge) (x : Ranged A) (xs : List (Ranged A)) → starting_at e (x ∷ []) ++ starting_at e xs ≡ starting_at e (x ∷ xs)
  unfolding starting_at
  starting_append e x xs = go (is_equal (start_order e x.range.start))
    where
      go : (c : Bool) → pick c (x ∷ []) [] ++ starting_at e xs ≡ pick c (x ∷ starting_at e xs) (starting_at e xs)
      go true = refl
      go false = refl

  from_stable : (e : Edge) {done : List (Ranged A)} → Ascends done → (xs : List (Ranged A)) → starting_at e (arranged_from done xs) ≡ starting_at e done ++ starting_at e xs
  unfolding arranged_from starting_at
  from_stable e {done = done} a [] = sym (append-nil (starting_at e done))
  from_stable e {done = done} a (x ∷ xs) =
      from_stable e {done = entered x done} (entered_ascends x a) xs
      ∙ ap (λ k. k ++ starting_at e xs) (entered_stable e x a)
      ∙ append_assoc (starting_at e done) (starting_at e (x ∷ [])) (starting_at e xs)
      ∙ ap (λ k. starting_at e done ++ k) (starting_append e x xs)

  -- "stably": those that start at one bound are the same, in the same order
  pub arranged_stable : (e : Edge) (xs : List (Ranged A)) → starting_at e (arranged xs) ≡ starting_at e xs
  unfolding starting_at
  arranged_stable e xs = from_stable e Ascends.none xs

  -- ---- none is lost, none is made: whatever is counted

  module _ (p : Ranged A → Bool) where
    entered_passing : (x : Ranged A) (ys : List (Ranged A)) → passing p (entered x ys) ≡ passing p (x ∷ ys)
    unfolding entered passing
    entered_passing x [] = refl
    entered_passing x (y ∷ ys) = go (is_less (start_order x.range.start y.range.start)) (entered_passing x ys)
      where
        swap : (a b : Bool) (n : ℕ) → pick b (suc (pick a (suc n) n)) (pick a (suc n) n) ≡ pick a (suc (pick b (suc n) n)) (pick b (suc n) n)
        swap true true n = refl
        swap true false n = refl
        swap false true n = refl
        swap false false n = refl

        go : (t : Bool) → passing p (entered x ys) ≡ pick (p x) (suc (passing p ys)) (passing p ys) → passing p (pick t (x ∷ y ∷ ys) (y ∷ entered x ys)) ≡ passing p (x ∷ y ∷ ys)
        go true r = refl
        go false r = ap (λ (n : ℕ). pick (p y) (suc n) n) r ∙ swap (p x) (p y) (passing p ys)

    passing_one : (x : Ranged A) (ys : List (Ranged A)) (n : ℕ) → passing p (x ∷ ys) + n ≡ passing p ys + pick (p x) (suc n) n
    unfolding passing
    passing_one x ys n = go (p x)
      where
        go : (b : Bool) → pick b (suc (passing p ys)) (passing p ys) + n ≡ passing p ys + pick b (suc n) n
        go true = omega arith
        go false = refl

    from_passing : (done xs : List (Ranged A)) → passing p (arranged_from done xs) ≡ passing p done + passing p xs
    unfolding arranged_from passing
    from_passing done [] = omega arith
    from_passing done (x ∷ xs) = from_passing (entered x done) xs ∙ ap (λ (n : ℕ). n + passing p xs) (entered_passing x done) ∙ passing_one x done (passing p xs)

    pub arranged_passing : (xs : List (Ranged A)) → passing p (arranged xs) ≡ passing p xs
    unfolding passing
    arranged_passing xs = from_passing [] xs ∙ omega arith
