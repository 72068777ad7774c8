-- The prefixes of all used sources, and whether they nest. Assumes nothing.
use Prim.Native.Nat.{ℕ, zero, suc, ◌+◌, ◌*◌, ◌/◌, ◌≤◌, ◌<◌}
use mathlib.Core.Path.{◌≡◌, refl, sym, ap, ◌∙◌}
use mathlib.Core.Bool.{Bool, true, false}
use mathlib.Core.List.{List, [], ◌∷◌, ◌++◌}
use native.Mathlib.Omega.{arith}
use native.Mathlib.Nat.{suc-mul, mul-le-mul_right}
use native.Mathlib.Numerals.{add-one}
use lib.Dec.{leb}
use lib.ListN.{length, drop, length-drop}
use borrow.Author.Tests.{leb-true}
use Rattle.keys.specs.Prefix.{begins_of}
use Rattle.tables.specs.Layout.{up_to}
use Rattle.tables.specs.Window.{held_of}
use Rattle.tables.specs.declared.Window.{Window}
use Rattle.tables.proofs.Holds.{up_to_front}
use Rattle.tables.proofs.Joined.{up_to_length}
use Rattle.records.specs.Row.{window_at, segment_at}
use Rattle.records.specs.Decode.{bytes_in}
use Rattle.records.specs.declared.SegmentRow.{SegmentRow}
use Rattle.lawful.specs.Steps.{prefix_at}
use Rattle.segments.specs.Prefixes.{prefixes_in}
use Rattle.segments.proofs.Places.{and_both}
use Rattle.merge.specs.Merge.{among, nests}
use Rattle.unite_ranges.proofs.Placed.{drop_up_to}
use Rattle.unite_sources.specs.Prefixed.{among_all}
use Rattle.unite_sources.specs.Rows.{prefixes_at_word, counts_within, places_in, prefixes_of_all}

pub segment_prefix : (segments pool : List ℕ) (i : ℕ) (s : SegmentRow) (xs ys : List (List ℕ)) → s ≡ segment_at segments i → xs ≡ among (bytes_in pool s.prefix) ys
    → xs ≡ among (prefix_at segments pool i) ys
segment_prefix segments pool i s xs ys e h = h ∙ ap (λ (z : SegmentRow). among (bytes_in pool z.prefix) ys) e

-- ---- a loop: the first k of m prefixes are entered

all_snoc : (done ps : List (List ℕ)) (p : List ℕ) → among_all done (ps ++ (p ∷ [])) ≡ among p (among_all done ps)
unfolding among_all
all_snoc done [] p = refl
all_snoc done (q ∷ ps) p = all_snoc (among q done) ps p

pub record Entering (f : ℕ → List ℕ) (n m len₀ : ℕ) (done rows : List (List ℕ)) (len count k : ℕ) : Type 0 where
  pub within : k ≤ m
  pub few : count ≤ n + k
  pub room : (n + m) * 2 ≤ len
  pub long : len ≡ len₀
  pub is : rows ≡ among_all done (up_to f k)

module _ (f : ℕ → List ℕ) (n m : ℕ) where
  pub entering_none : (len : ℕ) (rows : List (List ℕ)) → (n + m) * 2 ≤ len → Entering f n m len rows rows len n 0
  unfolding among_all
  entering_none len rows h = record { within = omega arith; few = omega arith; room = h; long = refl; is = refl }

  module _ {len₀ : ℕ} {done rows : List (List ℕ)} {len count k : ℕ} (w : Entering f n m len₀ done rows len count k) where
    pub entering_room : k < m → (count + 1) * 2 ≤ len
    entering_room h = omega (arith, w.few, w.room)

    pub entering_more : (xs : List (List ℕ)) (l c : ℕ) → k < m → xs ≡ among (f k) rows → c ≤ count + 1 → l ≡ len → Entering f n m len₀ done xs l c (k + 1)
    entering_more xs l c h e few same =
        record {
          within = omega arith;
          few = omega (arith, w.few);
          room = rw same w.room;
          long = same ∙ w.long;
          is = rw (add-one k) (e ∙ ap (among (f k)) w.is ∙ sym (all_snoc done (up_to f k) (f k)));
        }

    pub entering_all : m ≤ k → rows ≡ among_all done (up_to f m)
    entering_all h = let e : k ≡ m = omega (arith, w.within) in rw e at w.is

pub window_entered : (segments pool : List ℕ) (w : Window) (m : ℕ) (done rows : List (List ℕ)) → m ≡ held_of w (length segments / 12)
    → rows ≡ among_all done (up_to (λ k. prefix_at segments pool (w.first + k)) m) → rows ≡ among_all done (prefixes_in segments pool w)
unfolding prefixes_in
window_entered segments pool w m done rows e h = h ∙ rw e

-- ---- a loop: the segments of the first i of n sources are entered, of each at most `most`

of_snoc : (done : List (List ℕ)) (segments pool t bs : List ℕ) (b : ℕ) → prefixes_of_all done segments pool t (bs ++ (b ∷ [])) ≡ among_all (prefixes_of_all done segments pool t bs) (prefixes_at_word segments pool t b)
unfolding prefixes_of_all
of_snoc done segments pool t [] b = refl
of_snoc done segments pool t (c ∷ bs) b = of_snoc (among_all done (prefixes_at_word segments pool t c)) segments pool t bs b

module _ (most : ℕ) (segments t : List ℕ) where
  pub counts_at : (f : ℕ → ℕ) (n i : ℕ) → counts_within most segments t (up_to f n) ≡ true → i < n → held_of (window_at t (f i + 10)) (length segments / 12) ≤ most
  counts_at f zero i e h = absurd (omega arith)
  counts_at f (suc n) i e h =
      let w = and_both (leb (held_of (window_at t (f 0 + 10)) (length segments / 12)) most) (counts_within most segments t (up_to (λ k. f (suc k)) n)) (rw (up_to_front f n) at e) in
      go i (leb-true (held_of (window_at t (f 0 + 10)) (length segments / 12)) most w.0) (λ j l. counts_at (λ k. f (suc k)) n j w.1 l) h
    where
      go : (j : ℕ) → held_of (window_at t (f 0 + 10)) (length segments / 12) ≤ most → ((j : ℕ) → j < n → held_of (window_at t (f (suc j) + 10)) (length segments / 12) ≤ most)
          → j < suc n → held_of (window_at t (f j + 10)) (length segments / 12) ≤ most
      go zero x y l = x
      go (suc j) x y l = y j (omega arith)

pub record Gathering (most : ℕ) (segments pool t : List ℕ) (f : ℕ → ℕ) (n len₀ : ℕ) (rows : List (List ℕ)) (len count i : ℕ) : Type 0 where
  pub within : i ≤ n
  pub few : count ≤ i * most
  pub room : n * most * 2 ≤ len
  pub long : len ≡ len₀
  pub counts : counts_within most segments t (up_to f n) ≡ true
  pub is : rows ≡ prefixes_of_all [] segments pool t (up_to f i)

module _ (most : ℕ) (segments pool t : List ℕ) (f : ℕ → ℕ) (n : ℕ) where
  pub gathering_none : (len : ℕ) (rows : List (List ℕ)) → n * most * 2 ≤ len → counts_within most segments t (up_to f n) ≡ true → rows ≡ [] → Gathering most segments pool t f n len rows len 0 0
  unfolding prefixes_of_all
  gathering_none len rows h c e = record { within = omega arith; few = omega arith; room = h; long = refl; counts = c; is = e }

  module _ {len₀ : ℕ} {rows : List (List ℕ)} {len count i : ℕ} (g : Gathering most segments pool t f n len₀ rows len count i) where
    module _ (w : Window) (h : i < n) (e : w ≡ window_at t (f i + 10)) where
      held_few : held_of w (length segments / 12) ≤ most
      held_few = rw e (counts_at most segments t f n i g.counts h)

      pub gathering_room : (count + held_of w (length segments / 12)) * 2 ≤ len
      gathering_room =
          let l : suc i * most ≤ n * most = mul-le-mul_right most h in
          omega (arith, l, suc-mul i most, held_few, g.few, g.room)

      pub gathering_more : (xs : List (List ℕ)) (l c : ℕ) → xs ≡ among_all rows (prefixes_in segments pool w) → c ≤ count + held_of w (length segments / 12) → l ≡ len
          → Gathering most segments pool t f n len₀ xs l c (i + 1)
      unfolding prefixes_at_word
      gathering_more xs l c d few same =
          record {
            within = omega arith;
            few = rw (add-one i) (omega (arith, suc-mul i most, held_few, g.few));
            room = rw same g.room;
            long = same ∙ g.long;
            counts = g.counts;
            is =
                rw (add-one i)
                (d
                ∙ ap (λ (z : List (List ℕ)). among_all z (prefixes_in segments pool w)) g.is
                ∙ ap (λ (z : Window). among_all (prefixes_of_all [] segments pool t (up_to f i)) (prefixes_in segments pool z)) e
                ∙ sym (of_snoc [] segments pool t (up_to f i) (f i)));
          }

    pub gathering_all : n ≤ i → (rows ≡ prefixes_of_all [] segments pool t (up_to f n)) × (count * 2 ≤ len)
    gathering_all h =
        let e : i ≡ n = omega (arith, g.within) in
        let c : count ≤ n * most = rw e at g.few in
        (rw e at g.is, omega (arith, c, g.room))

pub places_none : (t pool : List ℕ) → places_in t pool 0 ≡ []
unfolding places_in
places_none t pool = refl

-- ---- neighbours: of those before row k none begins the next
pub record Apart (f : ℕ → List ℕ) (n k : ℕ) : Type 0 where
  pub within : k ≤ n
  pub says : nests (drop k (up_to f n)) ≡ nests (up_to f n)

pub apart_none : {f : ℕ → List ℕ} {n : ℕ} → Apart f n 0
apart_none = record { within = omega arith; says = refl }

module _ {f : ℕ → List ℕ} {n k : ℕ} (w : Apart f n k) where
  two : k + 1 < n → drop k (up_to f n) ≡ f k ∷ f (k + 1) ∷ drop (suc (suc k)) (up_to f n)
  two h = drop_up_to f n k (omega arith) ∙ rw (add-one k) (ap (λ (l : List (List ℕ)). f k ∷ l) (drop_up_to f n (suc k) (omega arith)))

  pub apart_more : (b : Bool) → k + 1 < n → b ≡ begins_of (f k) (f (k + 1)) → b ≡ false → Apart f n (k + 1)
  unfolding nests
  apart_more b h e t =
      record {
        within = omega arith;
        says =
            let m : nests (drop k (up_to f n)) ≡ nests (f (k + 1) ∷ drop (suc (suc k)) (up_to f n)) = rw (two h, sym e ∙ t) in
            let r : drop (k + 1) (up_to f n) ≡ f (k + 1) ∷ drop (suc (suc k)) (up_to f n) = rw (add-one k) (drop_up_to f n (suc k) (omega arith)) in
            ap nests r ∙ sym m ∙ w.says;
      }

  pub apart_met : (b : Bool) → k + 1 < n → b ≡ begins_of (f k) (f (k + 1)) → b ≡ true → true ≡ nests (up_to f n)
  unfolding nests
  apart_met b h e t = let m : nests (drop k (up_to f n)) ≡ true = rw (two h, sym e ∙ t) in sym m ∙ w.says

  pub apart_all : n ≤ k + 1 → false ≡ nests (up_to f n)
  unfolding nests
  apart_all h = go (drop k (up_to f n)) refl
    where
      go : (l : List (List ℕ)) → drop k (up_to f n) ≡ l → false ≡ nests (up_to f n)
      go [] e = sym (ap nests e) ∙ w.says
      go (x ∷ []) e = sym (ap nests e) ∙ w.says
      go (x ∷ y ∷ zs) e = let l = sym (length-drop k (up_to f n)) ∙ ap length e in absurd (omega (arith, l, up_to_length f n))
