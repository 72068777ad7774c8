-- What a view of the caller's own table shows: the segments of the manifest that the window names, and no others.
use Rattle.std.specs.Prelude.{Some}
use Prim.Native.Nat.{ℕ, zero, suc, ◌+◌, ◌-◌, ◌*◌, ◌/◌, ◌<◌, min}
use mathlib.Core.Path.{◌≡◌, refl, sym, ap, ◌∙◌}
use mathlib.Core.List.{List, [], ◌∷◌, ◌++◌, map}
use native.Mathlib.Omega.{arith}
use native.Mathlib.Nat.{add-zero, add_assoc}
use lib.ListN.{length, take, drop, length-take, length-drop}
use lib.Seq.{slice, get_or-take, get_or-drop}
use Rattle.tables.specs.Layout.{up_to}
use Rattle.tables.specs.Window.{held_of}
use Rattle.tables.specs.declared.Window.{Window}
use Rattle.records.specs.Row.{at, tree_at, segment_at}
use Rattle.records.specs.Decode.{Lent, segment_in, segments_in, manifest_in}
use Rattle.records.specs.declared.ManifestRow.{ManifestRow}
use Rattle.window.specs.Rows.{part_in, rows_of, shown, read_of, segments_read}
use Rattle.window.proofs.Rows.{part_within, row_there, row_read}

up_to_same : {A : Type 0} (f g : ℕ → A) (n : ℕ) → ((k : ℕ) → k < n → f k ≡ g k) → up_to f n ≡ up_to g n
up_to_same f g zero h = refl
up_to_same f g (suc n) h = rw (up_to_same f g n (λ k l. h k (omega arith)), h n (omega arith))

-- a row is its 12 words
row_same : (t u : List ℕ) (i k : ℕ) → ((j : ℕ) → j < 12 → at t (i * 12 + j) ≡ at u (k * 12 + j)) → segment_at t i ≡ segment_at u k
unfolding segment_at tree_at
row_same t u i k h =
    let first : at t (i * 12) ≡ at u (k * 12) = simp add-zero at (h 0 (omega arith)) in
    simp (add_assoc, first, h 1 (omega arith), h 2 (omega arith), h 3 (omega arith), h 4 (omega arith), h 5 (omega arith), h 6 (omega arith), h 7 (omega arith), h 8 (omega arith), h 9 (omega arith), h 10 (omega arith), h 11 (omega arith))

module _ (t : List ℕ) (w : Window) where
  abbrev n : ℕ
  n = held_of w (length t / 12)

  part_length : length (part_in t w) ≡ n * 12
  unfolding part_in
  part_length = length-take (n * 12) (drop (w.first * 12) t) ∙ rw (length-drop (w.first * 12) t) (go n refl)
    where
      go : (m : ℕ) → m ≡ n → min (m * 12) (length t - w.first * 12) ≡ m * 12
      go zero e = omega arith
      go (suc m) e = omega (arith, part_within t w (suc m) e (λ z. omega arith))

  part_words : (k j : ℕ) → k < n → j < 12 → at (part_in t w) (k * 12 + j) ≡ at t ((w.first + k) * 12 + j)
  unfolding part_in
  part_words k j h l =
      let e : w.first * 12 + (k * 12 + j) ≡ (w.first + k) * 12 + j = omega arith in
      get_or-take (n * 12) (drop (w.first * 12) t) (k * 12 + j) 0 (omega arith) ∙ get_or-drop (w.first * 12) t (k * 12 + j) 0 ∙ ap (λ i. at t i) e

  -- the rows of the part are the window's rows of the table
  pub part_rows : rows_of (part_in t w) ≡ up_to (λ k. segment_at t (w.first + k)) n
  part_rows =
      let e : length (part_in t w) / 12 ≡ n = omega (arith, part_length) in
      rw e (up_to_same (λ k. segment_at (part_in t w) k) (λ k. segment_at t (w.first + k)) n (λ k h. row_same (part_in t w) t k (w.first + k) (λ j l. part_words k j h l)))

  -- "a view of the caller's own segment table": row i of the view is a row of that table, counted from the manifest's own first segment
  pub row_own : (first past i : ℕ) → i < length (shown (part_in t w) first past) → read_of (shown (part_in t w) first past) i ≡ Some (segment_at t (w.first + (first + i)))
  row_own first past i h =
      let l : first + i < length (part_in t w) / 12 = row_there (part_in t w) first past _ i refl h in
      let k : first + i < n = omega (arith, part_length) in
      sym (row_read (part_in t w) first past _ i refl (segment_at (part_in t w) (first + i)) h refl)
      ∙ ap Some (row_same (part_in t w) t (first + i) (w.first + (first + i)) (λ j m. part_words (first + i) j k m))

-- ---- lists of rows and of segments
module _ {A B : Type 0} (f : A → B) where
  map_up_to : (g : ℕ → A) (n : ℕ) → map f (up_to g n) ≡ up_to (λ k. f (g k)) n
  map_up_to g zero = refl
  map_up_to g (suc n) = snoc (up_to g n) (g n) ∙ ap (λ ys. ys ++ (f (g n) ∷ [])) (map_up_to g n)
    where
      snoc : (xs : List A) (x : A) → map f (xs ++ x ∷ []) ≡ map f xs ++ (f x ∷ [])
      snoc [] x = refl
      snoc (y ∷ xs) x = ap (λ ys. f y ∷ ys) (snoc xs x)

  map_take : (n : ℕ) (xs : List A) → map f (take n xs) ≡ take n (map f xs)
  map_take zero xs = refl
  map_take (suc n) [] = refl
  map_take (suc n) (x ∷ xs) = ap (λ ys. f x ∷ ys) (map_take n xs)

  map_drop : (n : ℕ) (xs : List A) → map f (drop n xs) ≡ drop n (map f xs)
  map_drop zero xs = refl
  map_drop (suc n) [] = refl
  map_drop (suc n) (x ∷ xs) = map_drop n xs

  map_slice : (first past : ℕ) (xs : List A) → map f (slice first past xs) ≡ slice first past (map f xs)
  map_slice first past xs = map_drop first (take past xs) ∙ ap (drop first) (map_take past xs)

-- ---- the segments that a view shows
module _ (l : Lent) (m : ManifestRow) where
  own_segments : segments_read l (rows_of (part_in l.segments m.segments)) ≡ (manifest_in l m).segments
  unfolding manifest_in segments_in
  own_segments =
      ap (segments_read l) (part_rows l.segments m.segments)
      ∙ map_up_to (segment_in l.runs l.views l.pool) (λ k. segment_at l.segments (m.segments.first + k)) (held_of m.segments (length l.segments / 12))

  -- "The window is handed back as a view of the caller's own segment table": the segments that its rows stand for are those of the
  -- manifest with index first, .., past - 1
  pub view_is : (first past : ℕ) → segments_read l (shown (part_in l.segments m.segments) first past) ≡ slice first past (manifest_in l m).segments
  unfolding shown
  view_is first past =
      map_slice (segment_in l.runs l.views l.pool) first past (rows_of (part_in l.segments m.segments))
      ∙ ap (slice first past) own_segments
