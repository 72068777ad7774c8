-- The members of one source: how many there are, and how they are entered. Assumes nothing.
use Rattle.std.specs.Prelude.{Ok}
use Prim.Native.Nat.{ℕ, ◌+◌, ◌-◌, ◌*◌, ◌/◌, ◌^◌, ◌≤◌, ◌<◌}
use mathlib.Core.Path.{◌≡◌, refl, sym, ap, ◌∙◌}
use mathlib.Core.List.{List, [], ◌∷◌, ◌++◌}
use native.Mathlib.Omega.{arith}
use native.Mathlib.Nat.{sub-zero}
use lib.ListN.{length, take, drop}
use Rattle.tables.specs.Window.{held_of}
use Rattle.tables.specs.declared.Window.{Window}
use Rattle.ids.specs.Names.{ids_of}
use Rattle.ids.specs.declared.SstId.{SstId}
use Rattle.ids.specs.declared.Uuid.{Uuid}
use Rattle.records.specs.Model.{Manifest}
use Rattle.records.specs.Fill.{sum, borrow_fill, manifest_fill}
use Rattle.records.specs.Row.{at, place_at, window_at}
use Rattle.records.specs.Words.{id_words}
use Rattle.records.specs.Layout.{ids_laid}
use Rattle.records.specs.Decode.{Lent, bytes_in, borrows_in, manifest_in}
use Rattle.records.specs.declared.Fill.{Fill}
use Rattle.records.specs.declared.Limits.{Limits}
use Rattle.records.specs.declared.Place.{Place}
use Rattle.records.specs.declared.ManifestRow.{ManifestRow}
use Rattle.records.proofs.Columns.{borrows_fill}
use Rattle.measure.proofs.Fits.{Under, under}
use Rattle.lawful.specs.Judge.{judged_of}
use Rattle.borrows.specs.Owned.{owned_of}
use Rattle.borrows.specs.Places.{put_from}
use Rattle.borrows.proofs.Putting.{put_laid, put_long}
use Rattle.borrows.proofs.Poolless.{poolless, owned_poolless}
use Rattle.borrows.proofs.Lawfully.{keeps, within_parts, owned_most}
use Rattle.borrows.proofs.Lending.{held_is}
use Rattle.borrows.proofs.OwnedAnswers.{count_small}
use Rattle.emit.proofs.Columns.{ids_laid_long}
use Rattle.unite_groups.specs.Sets.{id_set}
use Rattle.unite_groups.specs.Groups.{Member}
use Rattle.unite_groups.specs.Chosen.{Supply, supplied_with}
use Rattle.unite_groups.specs.Rows.{entered_from, borrow_members, owned_member, member_entered}
use Rattle.unite_sources.specs.Rows.{manifest_at_word, source_at_word}
use Rattle.unite_lend.specs.Used.{own_members, source_members}

-- ---- the ids at the front of a list

ids_back : (xs : List SstId) → ids_of (ids_laid xs) ≡ xs
unfolding ids_of ids_laid id_words
ids_back [] = refl
ids_back (x ∷ xs) = ap (λ (z : List SstId). x ∷ z) (ids_back xs)

take_front : (xs ys : List ℕ) (n : ℕ) → n ≡ length xs → take n (xs ++ ys) ≡ xs
take_front [] ys n e = rw e
take_front (x ∷ xs) ys n e = rw e (ap (λ (z : List ℕ). x ∷ z) (take_front xs ys (length xs) refl))

-- ---- how many

module _ (lim : Limits) (l : Lent) (t : List ℕ) (b : ℕ) (h : judged_of lim l (manifest_at_word t b) ≡ Ok tt) where
  abbrev row : ManifestRow
  row = manifest_at_word t b

  abbrev of : Manifest
  of = manifest_in l row

  numbers : Under (manifest_fill of) lim.fill
  numbers = under (manifest_fill of) lim.fill (within_parts lim of (keeps lim l row h).within).numbers

  pub borrows_most : (w : Window) → w ≡ window_at t (b + 16) → held_of w (length l.borrows / 9) ≤ lim.fill.borrows
  unfolding manifest_at_word manifest_fill manifest_in
  borrows_most w e =
      let k : held_of (window_at t (b + 16)) (length l.borrows / 9) ≡ length of.borrows = held_is l row in
      let f = ap (λ (f : Fill). f.borrows) (borrows_fill of.borrows) in
      rw e (omega (arith, k, f, numbers.borrows))

  pub ids_most : (w : Window) → w ≡ window_at t (b + 16) → (sum borrow_fill (borrows_in l.borrows l.ids l.pool w)).ids ≤ lim.fill.ids
  unfolding manifest_at_word manifest_fill manifest_in
  ids_most w e = rw e (omega (arith, numbers.ids))

  pub owned_few : length (owned_of of) ≤ lim.fill.views
  owned_few = owned_most lim of (keeps lim l row h).within

  pub owned_small : lim.fill.views < 2 ^ 64 → (m : ManifestRow) → m ≡ row → 0 + length (owned_of (manifest_in (poolless l) m)) < 2 ^ 64
  owned_small v m e = rw e (omega (arith, count_small lim l row h v))

  -- ---- its own ids

  module _ (m : ManifestRow) (e : m ≡ row) (n : ℕ) (k : n ≡ 0 + length (owned_of (manifest_in (poolless l) m))) where
    pub own_count : n ≡ length (owned_of of)
    own_count = k ∙ rw (e, owned_poolless l row) (omega arith)

    module _ (d d' : List ℕ) (r : lim.fill.views * 2 ≤ length d) (p : d' ≡ put_from d 0 (owned_of (manifest_in (poolless l) m))) where
      pub own_long_lem : length d' ≡ length d
      own_long_lem = ap length p ∙ put_long (owned_of (manifest_in (poolless l) m)) d 0

      pub own_room : n * 2 ≤ length d'
      own_room = omega (arith, own_long_lem, own_count, owned_few, r)

      pub own_ids : (f : List ℕ) → f ≡ take (n * 2) d' → ids_of f ≡ owned_of of
      own_ids f q =
          let xs = owned_of of in
          let s : (0 + length xs) * 2 ≤ length d = omega (arith, owned_few, r) in
          let z : 0 * 2 ≡ 0 = omega arith in
          let w : d' ≡ ids_laid xs ++ drop (0 + length (ids_laid xs)) d = p ∙ rw (e, owned_poolless l row) (put_laid xs d 0 s ∙ rw z) in
          let c : n * 2 ≡ length (ids_laid xs) = rw (own_count) (sym (ids_laid_long xs)) in
          ap ids_of (q ∙ ap (λ (y : List ℕ). take (n * 2) y) w ∙ take_front (ids_laid xs) (drop (0 + length (ids_laid xs)) d) (n * 2) c) ∙ ids_back xs

      pub own_bound : (f : List ℕ) → f ≡ take (n * 2) d' → length (ids_of f) ≤ lim.fill.views
      own_bound f q = rw (own_ids f q) owned_few

  -- ---- room for its members, and how many they are at most

  module _ (w : Window) (e : w ≡ window_at t (b + 16)) where
    abbrev held : ℕ
    held = held_of w (length l.borrows / 9)

    abbrev lent : ℕ
    lent = (sum borrow_fill (borrows_in l.borrows l.ids l.pool w)).ids

    pub room_groups : (a c : ℕ) → (a + (lim.fill.borrows + 1)) * 6 ≤ c → (a + held) * 6 ≤ c
    room_groups a c r = omega (arith, borrows_most w e)

    pub room_ids : (a c : ℕ) → (a + (lim.fill.ids + lim.fill.views)) * 2 ≤ c → (a + lent) * 2 ≤ c
    room_ids a c r = omega (arith, ids_most w e)

    pub next_groups : (a a' c c' : ℕ) → a' ≤ a + held → c' ≡ c → (a + (lim.fill.borrows + 1)) * 6 ≤ c → (a' + 1) * 6 ≤ c'
    next_groups a a' c c' k m r = omega (arith, borrows_most w e)

    pub next_ids : (a a' c c' : ℕ) → a' ≤ a + lent → c' ≡ c → (a + (lim.fill.ids + lim.fill.views)) * 2 ≤ c → (a' + lim.fill.views) * 2 ≤ c'
    next_ids a a' c c' k m r = omega (arith, ids_most w e)

    pub total_groups : (a a' r : ℕ) → a' ≤ a + held → r ≤ a' + 1 → r ≤ a + (lim.fill.borrows + 1)
    total_groups a a' r k m = omega (arith, borrows_most w e)

    pub total_ids : (a a' r : ℕ) → a' ≤ a + lent → r ≤ a' + lim.fill.views → r ≤ a + (lim.fill.ids + lim.fill.views)
    total_ids a a' r k m = omega (arith, ids_most w e)

-- ---- its own ids entered

module _ (own f : List ℕ) (e : own ≡ f) where
  pub own_space : (v a c : ℕ) → length (ids_of f) ≤ v → (a + v) * 2 ≤ c → (a + length (ids_of own)) * 2 ≤ c
  own_space v a c h r = rw e (omega arith)

  pub own_most : (v a c : ℕ) → length (ids_of f) ≤ v → c ≤ a + length (ids_of own) → c ≤ a + v
  own_most v a c h r = let k : length (ids_of own) ≡ length (ids_of f) = ap (λ (z : List ℕ). length (ids_of z)) e in omega (arith, k)

  pub own_entered : (l : Lent) (t : List ℕ) (b : ℕ) (ss : List Supply) (gs ms : List Member) (path : Place) (u : Uuid) → ids_of f ≡ owned_of (manifest_in l (manifest_at_word t b)) → path ≡ place_at t (b + 18) → u ≡ (at t (b + 20), at t (b + 21))
      → ms ≡ entered_from ss gs (owned_member (bytes_in l.pool path) u (ids_of own)) → ms ≡ entered_from ss gs (own_members (source_at_word l t b))
  unfolding own_members source_at_word
  own_entered l t b ss gs ms path u q x y s = s ∙ rw (x, y, e, q)

pub front_read : (t : List ℕ) (n : ℕ) → take (n * 2 - 0) (drop 0 t) ≡ take (n * 2) t
front_read t n = rw (sub-zero (n * 2))

-- ---- its borrows, then its own ids

pub entered_append : (ss : List Supply) (gs xs ys : List Member) → entered_from ss gs (xs ++ ys) ≡ entered_from ss (entered_from ss gs xs) ys
unfolding entered_from
entered_append ss gs [] ys = refl
entered_append ss gs (x ∷ xs) ys = entered_append ss (member_entered (supplied_with ss x.path) x.path (id_set x.ids) x.checkpoint gs) xs ys

pub source_entered : (l : Lent) (t : List ℕ) (b : ℕ) (w : Window) (ss : List Supply) (gs hs ms : List Member) → w ≡ window_at t (b + 16)
    → hs ≡ entered_from ss gs (borrow_members (borrows_in l.borrows l.ids l.pool w)) → ms ≡ entered_from ss hs (own_members (source_at_word l t b)) → ms ≡ entered_from ss gs (source_members (source_at_word l t b))
unfolding source_members source_at_word manifest_at_word manifest_in
source_entered l t b w ss gs hs ms e p q =
    q ∙ rw (p, e) (sym (entered_append ss gs (borrow_members (borrows_in l.borrows l.ids l.pool (window_at t (b + 16)))) (own_members (source_at_word l t b))))
