-- The arguments judged, one test after the other. Assumes nothing.
use Rattle.std.specs.Prelude.{Err, None, Ok, Option, Result}
use Prim.Native.Nat.{ℕ, zero, suc, ◌+◌, ◌-◌, ◌*◌, ◌/◌, ◌≤◌, ◌<◌}
use mathlib.Core.Path.{◌≡◌, refl, sym, ap, ◌∙◌}
use mathlib.Core.Bool.{Bool, true, false, ◌||◌}
use mathlib.Core.List.{List}
use native.Mathlib.Omega.{arith}
use native.Mathlib.Numerals.{add-one}
use native.Mathlib.Decide.{dec_lt}
use lib.Dec.{ltb}
use borrow.Author.Tests.{lt-ltb, le-ltb, lt-leb, le-leb}
use lib.IntN.{negsuc}
use Rattle.tables.specs.declared.Window.{Window}
use Rattle.records.specs.declared.TreeRow.{TreeRow}
use Rattle.records.specs.Row.{at, place_at, window_at, tree_at}
use Rattle.records.specs.Decode.{Lent}
use Rattle.records.specs.declared.Limits.{Limits}
use Rattle.records.specs.declared.ManifestRow.{ManifestRow}
use Rattle.records.specs.declared.Place.{Place}
use Rattle.lawful.specs.Judge.{judged_of}
use Rattle.measure.specs.Placed.{opened}
use Rattle.unite_sources.specs.Source.{greater}
use Rattle.unite_sources.specs.Rows.{manifest_at_word}
use Rattle.unite_judge.specs.Judging.{most_sources, path_over, some_path_over, codes_known, source_judged, sources_judged, work_short}
use Rattle.unite_judge.specs.Words.{greatest_at, name_at, agreed_at}

or_true : (a : Bool) → (a || true) ≡ true
or_true true = refl
or_true false = refl

-- ---- paths

module _ (most n : ℕ) (p : Place) where
  pub path_long : most < p.len → true ≡ path_over most n p
  path_long h = rw (lt-ltb most p.len h)

  pub path_past : n < p.len → true ≡ path_over most n p
  path_past h = let g : n < p.at + p.len = omega arith in rw (lt-leb (p.at + p.len) n g) (sym (or_true (ltb most p.len)))

  pub path_within : (r : Bool) → p.len ≤ most → p.len ≤ n → r ≡ ltb (n - p.len) p.at → r ≡ path_over most n p
  path_within r h k e = rw (le-ltb most p.len h) (e ∙ elim (dec_lt (n - p.len) p.at) [ yes l ↦ (let g : n < p.at + p.len = omega arith in rw (lt-ltb (n - p.len) p.at l, lt-leb (p.at + p.len) n g)) | no l ↦ (let g : p.at + p.len ≤ n = omega arith in let f : p.at ≤ n - p.len = omega arith in rw (le-ltb (n - p.len) p.at f, le-leb (p.at + p.len) n g)) ])

pub ruleset paths = (path_long, path_past, path_within)

pub record Short (most n : ℕ) (t : List ℕ) (k i : ℕ) : Type 0 where
  pub within : i ≤ k
  pub none : some_path_over most n t i ≡ false

over_later : (most n : ℕ) (t : List ℕ) (k i : ℕ) → i < k → path_over most n (place_at t (i * 22 + 18)) ≡ true → true ≡ some_path_over most n t k
over_later most n t zero i h e = absurd (omega arith)
over_later most n t (suc k) i h e =
    elim (dec_lt i k) [ yes l ↦ (rw (sym (over_later most n t k i l e))) | no l ↦ (let q : i ≡ k = omega arith in let f : path_over most n (place_at t (k * 22 + 18)) ≡ true = rw q at e in rw f (sym (or_true (some_path_over most n t k)))) ]

module _ (most n : ℕ) (t : List ℕ) (k : ℕ) where
  pub short_none : Short most n t k 0
  short_none = record { within = omega arith; none = refl }

  module _ (i : ℕ) (s : Short most n t k i) where
    pub short_over : (r : Bool) → i < k → r ≡ path_over most n (place_at t (i * 22 + 18)) → r ≡ true → true ≡ some_path_over most n t k
    short_over r h e u = over_later most n t k i h (sym e ∙ u)

    pub short_more : (r : Bool) → i < k → r ≡ path_over most n (place_at t (i * 22 + 18)) → r ≡ false → Short most n t k (i + 1)
    short_more r h e u = record { within = omega arith; none = rw (add-one i) (rw (s.none, sym e ∙ u)) }

    pub short_all : k ≤ i → false ≡ some_path_over most n t k
    short_all h = let e : i ≡ k = omega (arith, s.within) in sym (rw e at s.none)

pub ruleset shorts = (short_none, short_over, short_more, short_all)

-- ---- working memory

module _ (lim : Limits) (p o g s : ℕ) where
  abbrev i : ℕ
  i = lim.fill.ids

  abbrev v : ℕ
  v = lim.fill.views

  abbrev some : Bool → Bool → Bool → Bool → Bool
  some a b c d = a || b || c || d

  second : (a c d : Bool) → true ≡ some a true c d
  second true c d = refl
  second false c d = refl

  third : (a b d : Bool) → true ≡ some a b true d
  third true b d = refl
  third false true d = refl
  third false false d = refl

  fourth : (a b c : Bool) → true ≡ some a b c true
  fourth true b c = refl
  fourth false true c = refl
  fourth false false true = refl
  fourth false false false = refl

  abbrev p₀ : ℕ
  p₀ = most_sources * lim.fill.segments * 2

  abbrev g₀ : ℕ
  g₀ = most_sources * (lim.fill.borrows + 1) * 6

  abbrev s₀ : ℕ
  s₀ = most_sources * (i + v) * 2

  pub few_prefixes : p / 16 < lim.fill.segments → true ≡ work_short lim p o g s
  few_prefixes h = let q : p < p₀ = omega arith in rw (lt-ltb p p₀ q)

  pub few_owned : o / 2 < v → true ≡ work_short lim p o g s
  few_owned h = let q : o < v * 2 = omega arith in rw (lt-ltb o (v * 2) q) (second (ltb p p₀) (ltb g g₀) (ltb s s₀))

  pub few_groups : g / 48 ≤ lim.fill.borrows → true ≡ work_short lim p o g s
  few_groups h = let q : g < g₀ = omega arith in rw (lt-ltb g g₀ q) (third (ltb p p₀) (ltb o (v * 2)) (ltb s s₀))

  pub few_ids : s / 16 < i → true ≡ work_short lim p o g s
  few_ids h = let q : s < s₀ = omega arith in rw (lt-ltb s s₀ q) (fourth (ltb p p₀) (ltb o (v * 2)) (ltb g g₀))

  pub few_left : (r : Bool) → lim.fill.segments ≤ p / 16 → v ≤ o / 2 → lim.fill.borrows < g / 48 → i ≤ s / 16 → r ≡ ltb (s / 16 - i) v → r ≡ work_short lim p o g s
  few_left r a b c d e =
      let x : p₀ ≤ p = omega arith in
      let y : v * 2 ≤ o = omega arith in
      let z : g₀ ≤ g = omega arith in
      rw (le-ltb p p₀ x, le-ltb o (v * 2) y, le-ltb g g₀ z)
      (e ∙ elim (dec_lt (s / 16 - i) v) [ yes l ↦ (let q : s < s₀ = omega arith in rw (lt-ltb (s / 16 - i) v l, lt-ltb s s₀ q)) | no l ↦ (let f : v ≤ s / 16 - i = omega arith in let q : s₀ ≤ s = omega arith in rw (le-ltb (s / 16 - i) v f, le-ltb s s₀ q)) ])

pub ruleset works = (few_prefixes, few_owned, few_groups, few_ids, few_left)

-- ---- codes

module _ (t : List ℕ) (b : ℕ) where
  pub code_first : (r : Bool) → r ≡ opened (at t b) true → r ≡ false → false ≡ codes_known t b
  code_first r e f = rw (sym e ∙ f)

  pub code_second : (q r : Bool) → q ≡ opened (at t b) true → q ≡ true → r ≡ opened (at t (b + 3)) true → r ≡ false → false ≡ codes_known t b
  code_second q r e f g h = rw (sym e ∙ f, sym g ∙ h)

  pub code_third : (q r s : Bool) → q ≡ opened (at t b) true → q ≡ true → r ≡ opened (at t (b + 3)) true → r ≡ true → s ≡ opened (at t (b + 12)) true → s ≡ codes_known t b
  code_third q r s e f g h k = rw (sym e ∙ f, sym g ∙ h) k

-- ---- sources

module _ (lim : Limits) (l : Lent) (t : List ℕ) where
  pub codes_broken : (b : ℕ) (r : Bool) → r ≡ codes_known t b → r ≡ false → Err 1 ≡ source_judged lim l t b
  codes_broken b r e f = rw (sym e ∙ f)

  pub codes_kept : (b : ℕ) (r : Bool) (m : ManifestRow) (j : Result Unit ℕ) → r ≡ codes_known t b → r ≡ true → m ≡ manifest_at_word t b → j ≡ judged_of lim l m → j ≡ source_judged lim l t b
  codes_kept b r m j e f g h = rw (sym e ∙ f) (h ∙ ap (judged_of lim l) g)

  pub record Kept (n i : ℕ) : Type 0 where
    pub within : i ≤ n
    pub lawful : sources_judged lim l t i ≡ Ok tt

  breaks_later : (n i : ℕ) (rule : ℕ) → i < n → sources_judged lim l t i ≡ Ok tt → source_judged lim l t (i * 22) ≡ Err rule → Err rule ≡ sources_judged lim l t n
  breaks_later zero i rule h k e = absurd (omega arith)
  breaks_later (suc n) i rule h k e =
      elim (dec_lt i n) [
        | yes q ↦ (rw (sym (breaks_later n i rule q k e)))
        | no q ↦ (let z : i ≡ n = omega arith in let f : source_judged lim l t (n * 22) ≡ Err rule = rw z at e in let g : sources_judged lim l t n ≡ (Ok tt) = rw z at k in rw (g, f))
      ]

  module _ (n : ℕ) where
    pub kept_none : Kept n 0
    kept_none = record { within = omega arith; lawful = refl }

    module _ (i : ℕ) (k : Kept n i) (j : Result Unit ℕ) where
      pub kept_more : i < n → j ≡ source_judged lim l t (i * 22) → j ≡ Ok tt → Kept n (i + 1)
      kept_more h e f = record { within = omega arith; lawful = rw (add-one i) (rw (k.lawful, sym e ∙ f)) }

      pub kept_broken : (rule : ℕ) → i < n → j ≡ source_judged lim l t (i * 22) → j ≡ Err rule → Err rule ≡ sources_judged lim l t n
      kept_broken rule h e f = breaks_later n i rule h k.lawful (sym e ∙ f)

    pub kept_all : (i : ℕ) → Kept n i → n ≤ i → Ok tt ≡ sources_judged lim l t n
    kept_all i k h = let e : i ≡ n = omega (arith, k.within) in sym (rw e at k.lawful)

pub ruleset keepers = (kept_none, kept_more, kept_broken, kept_all)

-- ---- the greatest number

pub record Greatest (t : List ℕ) (n x i : ℕ) : Type 0 where
  pub within : i ≤ n
  pub is : x ≡ greatest_at t i

module _ (t : List ℕ) (n : ℕ) where
  pub greatest_none : Greatest t n 0 0
  greatest_none = record { within = omega arith; is = refl }

  module _ (x i : ℕ) (g : Greatest t n x i) where
    pub greatest_more : (y z : ℕ) → i < n → y ≡ at t (i * 22 + 15) → z ≡ greater x y → Greatest t n z (i + 1)
    greatest_more y z h e k = record { within = omega arith; is = rw (add-one i) (k ∙ rw (g.is, e)) }

    pub greatest_all : n ≤ i → x ≡ greatest_at t n
    greatest_all h = let e : i ≡ n = omega (arith, g.within) in rw e at g.is

pub greater_new : (a b : ℕ) → a < b → b ≡ greater a b
greater_new a b h = rw (lt-ltb a b h)

pub greater_old : (a b : ℕ) → b ≤ a → a ≡ greater a b
greater_old a b h = rw (le-ltb a b h)

pub ruleset greatests = (greatest_none, greatest_more, greatest_all)

-- ---- the name

pub agreed_none : (t : List ℕ) (n : ℕ) → n ≡ 0 → None ≡ agreed_at t n
agreed_none t n h = rw h

pub agreed_first : (t : List ℕ) (n : ℕ) (r : Option Place) → (n ≡ 0 → ⊥) → r ≡ name_at t 0 → r ≡ agreed_at t n
agreed_first t zero r h e = absurd (h refl)
agreed_first t (suc n) r h e = e

-- ---- a row

pub manifest_read : (t : List ℕ) (b : ℕ) (r : TreeRow) (w v : Window) (name : Option Place) (x : ℕ) → r ≡ tree_at t b → w ≡ window_at t (b + 10) → name ≡ name_at t b → x ≡ at t (b + 15) → v ≡ window_at t (b + 16)
    → record {
      initialized = true;
      tree = r;
      segments = w;
      segment_extractor_name = name;
      next_wal_sst_id = 1;
      replay_after_wal_id = 0;
      last_l0_clock_tick = negsuc 9223372036854775807;
      last_l0_seq = x;
      recent_snapshot_min_seq = 0;
      external_dbs = v;
      writer_epoch = 0;
      compactor_epoch = 0;
    } ≡ manifest_at_word t b
unfolding manifest_at_word
manifest_read t b r w v name x e f g h k = rw (e, f, g, h, k)

pub name_none : (t : List ℕ) (b x : ℕ) → x ≡ at t (b + 12) → x ≡ 0 → None ≡ name_at t b
name_none t b x e z = rw (sym e ∙ z)

pub path_read : (most n : ℕ) (t : List ℕ) (i : ℕ) (p : Place) (r : Bool) → p ≡ place_at t (i * 22 + 18) → r ≡ path_over most n p → r ≡ path_over most n (place_at t (i * 22 + 18))
path_read most n t i p r e f = f ∙ ap (path_over most n) e
