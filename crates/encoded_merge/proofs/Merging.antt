-- Two manifests read one behind the other, and the order of refusals. Assumes nothing.
use Rattle.std.specs.Prelude.{Err, Ok, Result}
use Prim.Native.Nat.{ℕ, ◌*◌, ◌/◌, ◌≤◌, ◌<◌}
use mathlib.Core.Path.{◌≡◌, refl, sym, ap, subst, ◌∙◌}
use mathlib.Core.Bool.{Bool, true, false, not, ◌||◌}
use mathlib.Core.List.{List}
use native.Mathlib.Omega.{arith}
use borrow.Author.Tests.{ltb-false, lt-ltb, le-ltb}
use lib.Dec.{ltb}
use lib.ListN.{length}
use Rattle.keys.specs.Pick.{pick}
use Rattle.keys.proofs.Says.{true_says, says_same}
use Rattle.records.specs.Fill.{empty, plus, fits}
use Rattle.records.specs.Decode.{Lent, manifest_in}
use Rattle.records.specs.declared.Fill.{Fill}
use Rattle.records.specs.declared.Limits.{Limits}
use Rattle.records.specs.declared.ManifestRow.{ManifestRow}
use Rattle.records.specs.declared.Refusal.{Refusal}
use Rattle.records.specs.declared.Refusal.TheVariants.{OverLimit, NoRoom}
use Rattle.records.proofs.Sums.{empty_plus}
use Rattle.measure.proofs.Fits.{Under, says_fits, under}
use Rattle.lawful.specs.Judge.{judged_of}
use Rattle.copy.specs.Copy.{room_of, Outcome as Copying}
use Rattle.manifest_write.specs.Answer.{Outcome}
use Rattle.manifest_read.specs.Answer.{work_room, read_at_of}
use Rattle.manifest_read.proofs.Answers.{SameLong}
use Rattle.encoded.specs.Encoded.{encoded_of, long_of}
use Rattle.encoded.specs.Read.{refused_with}
use Rattle.standing.proofs.Reading.{read_into, read_is, Accepted, accepted_is, accepted_judged, read_refused, read_accepted, read_roomy, accepted_stays}
use Rattle.encoded_merge.specs.Merge.{merged_to, short_both, both_to, merge_to}
use Rattle.encoded_merge.specs.Steps.{ready_of, joined_of, BothRead}
use Rattle.merge.specs.declared.Side.{Side}

-- ---- whether both may be read

-- there is room for two where there is room for one in half the places
halves : (most : Fill) (a b c d e f : ℕ)
    → fits most (record { segments = a / 24; views = b / 32; runs = c / 6; borrows = d / 18; ids = e / 4; bytes = f / 2 }) ≡ fits (plus most most) (record { segments = a / 12; views = b / 16; runs = c / 3; borrows = d / 9; ids = e / 2; bytes = f })
halves most a b c d e f =
    says_same (
      λ w.
          record {
            segments = omega (arith, w.segments);
            views = omega (arith, w.views);
            runs = omega (arith, w.runs);
            borrows = omega (arith, w.borrows);
            ids = omega (arith, w.ids);
            bytes = omega (arith, w.bytes);
          },
      λ w.
          record {
            segments = omega (arith, w.segments);
            views = omega (arith, w.views);
            runs = omega (arith, w.runs);
            borrows = omega (arith, w.borrows);
            ids = omega (arith, w.ids);
            bytes = omega (arith, w.bytes);
          },
    )
    (says_fits most (record { segments = a / 24; views = b / 32; runs = c / 6; borrows = d / 18; ids = e / 4; bytes = f / 2 }))
    (says_fits (plus most most) (record { segments = a / 12; views = b / 16; runs = c / 3; borrows = d / 9; ids = e / 2; bytes = f }))

module _ (lim : Limits) (s t : List ℕ) (room : Fill) (p : ℕ) where
  pub ready_writer : 0x1_0000 < length s → Err OverLimit ≡ ready_of lim s t room p
  unfolding ready_of
  ready_writer h = rw (lt-ltb 0x1_0000 (length s) h)

  module _ (h : length s ≤ 0x1_0000) where
    pub ready_compactor : 0x1_0000 < length t → Err OverLimit ≡ ready_of lim s t room p
    unfolding ready_of
    ready_compactor k = rw (le-ltb 0x1_0000 (length s) h, lt-ltb 0x1_0000 (length t) k)

module _ (lim : Limits) (s t : List ℕ) (a b c d e f p : ℕ) (h : length s ≤ 0x1_0000) (k : length t ≤ 0x1_0000) (x : Bool)
    (i : x ≡ fits lim.fill (record { segments = a / 24; views = b / 32; runs = c / 6; borrows = d / 18; ids = e / 4; bytes = f / 2 })) where
  two : (y : Bool) → x ≡ y → fits (plus lim.fill lim.fill) (record { segments = a / 12; views = b / 16; runs = c / 3; borrows = d / 9; ids = e / 2; bytes = f }) ≡ y
  two y j = sym (halves lim.fill a b c d e f) ∙ sym i ∙ j

  pub ready_short : x ≡ false → Err NoRoom ≡ ready_of lim s t (record { segments = a / 12; views = b / 16; runs = c / 3; borrows = d / 9; ids = e / 2; bytes = f }) p
  unfolding ready_of
  ready_short j = rw (le-ltb 0x1_0000 (length s) h, le-ltb 0x1_0000 (length t) k, two false j)

  pub ready_pool : x ≡ true → p < lim.fill.bytes → Err NoRoom ≡ ready_of lim s t (record { segments = a / 12; views = b / 16; runs = c / 3; borrows = d / 9; ids = e / 2; bytes = f }) p
  unfolding ready_of
  ready_pool j l = rw (le-ltb 0x1_0000 (length s) h, le-ltb 0x1_0000 (length t) k, two true j, lt-ltb p lim.fill.bytes l)

  pub ready_both : x ≡ true → lim.fill.bytes ≤ p → Ok tt ≡ ready_of lim s t (record { segments = a / 12; views = b / 16; runs = c / 3; borrows = d / 9; ids = e / 2; bytes = f }) p
  unfolding ready_of
  ready_both j l = rw (le-ltb 0x1_0000 (length s) h, le-ltb 0x1_0000 (length t) k, two true j, le-ltb p lim.fill.bytes l)

-- ---- the readings

fits_self : (most : Fill) → fits (plus empty most) most ≡ true
fits_self most =
    true_says (says_fits (plus empty most) most) (record { segments = omega arith; views = omega arith; runs = omega arith; borrows = omega arith; ids = omega arith; bytes = omega arith })

-- room for two is room for one
fits_one : (most room : Fill) → fits (plus most most) room ≡ true → Under most room
fits_one most room h =
    let u = under (plus most most) room h in
    record {
      segments = omega (arith, u.segments);
      views = omega (arith, u.views);
      runs = omega (arith, u.runs);
      borrows = omega (arith, u.borrows);
      ids = omega (arith, u.ids);
      bytes = omega (arith, u.bytes);
    }

work_same : (lim : Limits) (w w₁ : Lent) → SameLong w w₁ → fits lim.fill (work_room lim w) ≡ true → fits lim.fill (work_room lim w₁) ≡ true
work_same lim w w₁ n h = rw (n.segments, n.views, n.runs, n.borrows, n.ids) h

-- the working tables, as the rows of these bytes are read into them
abbrev over : Lent → List ℕ → Lent
over w s = record { segments = w.segments; views = w.views; runs = w.runs; borrows = w.borrows; ids = w.ids; pool = s }

module _ (lim : Limits) (s t : List ℕ) (p : ℕ) (w o : Lent) (r₀ : Result Unit Refusal) (e₀ : r₀ ≡ ready_of lim s t (room_of o) p) where
  pub not_ready : (x : Refusal) → r₀ ≡ Err x → BothRead lim s t p w o o (Err x)
  unfolding ready_of merge_to short_both
  not_ready x f side room pool out h = rw h (go (long_of s) (long_of t) (fits (plus lim.fill lim.fill) (room_of o)) (ltb p lim.fill.bytes) (not (fits lim.fill (work_room lim w))) _ (sym e₀ ∙ f))
    where
      go : (a b c d e : Bool) (y : Outcome) → pick {A = Result Unit Refusal} (a || b) (Err OverLimit) (pick (not c || d) (Err NoRoom) (Ok tt)) ≡ Err x → refused_with out x ≡ pick (a || b) (refused_with out OverLimit) (pick (e || (not c || d)) (refused_with out NoRoom) y)
      go true b c d e y i = let z : OverLimit ≡ x = cc in rw (sym z)
      go false true c d e y i = let z : OverLimit ≡ x = cc in rw (sym z)
      go false false false d true y i = let z : NoRoom ≡ x = cc in rw (sym z)
      go false false false d false y i = let z : NoRoom ≡ x = cc in rw (sym z)
      go false false true true true y i = let z : NoRoom ≡ x = cc in rw (sym z)
      go false false true true false y i = let z : NoRoom ≡ x = cc in rw (sym z)
      go false false true false e y i = let z : ◌≡◌ {A = ℕ} 0 1 = cc in absurd (omega arith)

  module _ (f₀ : r₀ ≡ Ok tt) where
    open_all : (long_of s ≡ false) × (long_of t ≡ false) × (fits (plus lim.fill lim.fill) (room_of o) ≡ true) × (ltb p lim.fill.bytes ≡ false)
    unfolding ready_of
    open_all = go (long_of s) (long_of t) (fits (plus lim.fill lim.fill) (room_of o)) (ltb p lim.fill.bytes) (sym e₀ ∙ f₀)
      where
        go : (a b c d : Bool) → pick {A = Result Unit Refusal} (a || b) (Err OverLimit) (pick (not c || d) (Err NoRoom) (Ok tt)) ≡ Ok tt → (a ≡ false) × (b ≡ false) × (c ≡ true) × (d ≡ false)
        go true b c d i = let z : ◌≡◌ {A = ℕ} 0 1 = cc in absurd (omega arith)
        go false true c d i = let z : ◌≡◌ {A = ℕ} 0 1 = cc in absurd (omega arith)
        go false false false d i = let z : ◌≡◌ {A = ℕ} 0 1 = cc in absurd (omega arith)
        go false false true true i = let z : ◌≡◌ {A = ℕ} 0 1 = cc in absurd (omega arith)
        go false false true false i = (refl, refl, refl, refl)

    -- the working tables are the next that can be too short; then it is what the two readings come to
    order_work : fits lim.fill (work_room lim w) ≡ false → (side : Side) (room : Fill) (pool out : List ℕ) → refused_with out NoRoom ≡ merge_to side lim s t room w o pool out
    unfolding merge_to short_both
    order_work k side room pool out = rw (open_all.0, open_all.1, k)

    order_read : fits lim.fill (work_room lim w) ≡ true → (side : Side) (room : Fill) (pool out : List ℕ) → length pool ≡ p → both_to side lim room out (encoded_of lim s) (encoded_of lim t) ≡ merge_to side lim s t room w o pool out
    unfolding merge_to short_both
    order_read k side room pool out h = rw (h, open_all.0, open_all.1, k, open_all.2, open_all.3)

    module _ (r₁ : Result ManifestRow Refusal) (o₁ : Lent) (e₁ : record { answer = r₁; out = o₁ } ≡ read_at_of lim s (over w s) o empty) where
      short_all : fits lim.fill (work_room lim w) ≡ false → ◌≡◌ {A = Copying} (record { answer = r₁; out = o₁ }) (record { answer = Err NoRoom; out = o })
      unfolding read_at_of
      short_all k = rw (open_all.0, k) at e₁

      short_is : fits lim.fill (work_room lim w) ≡ false → r₁ ≡ Err NoRoom
      short_is k = ap (λ (y : Copying). y.answer) (short_all k)

      first_roomy : fits (plus empty lim.fill) (room_of o) ≡ true
      first_roomy = rw (empty_plus lim.fill) (true_says (says_fits lim.fill (room_of o)) (fits_one lim.fill (room_of o) open_all.2))

      first_is : fits lim.fill (work_room lim w) ≡ true → record { answer = r₁; out = o₁ } ≡ read_into empty o (encoded_of lim s)
      first_is k = e₁ ∙ read_is lim empty o first_roomy s (over w s) open_all.0 k

      first_refused : (x : Refusal) → r₁ ≡ Err x → BothRead lim s t p w o o₁ (Err x)
      unfolding both_to
      first_refused x f side room pool out h = go (fits lim.fill (work_room lim w)) refl
        where
          go : (b : Bool) → fits lim.fill (work_room lim w) ≡ b → refused_with out x ≡ merge_to side lim s t room w o pool out
          go true k = let z : refused_with out x ≡ both_to side lim room out (encoded_of lim s) (encoded_of lim t) = rw (read_refused lim s empty o o₁ r₁ (first_is k) x f) in z ∙ order_read k side room pool out h
          go false k = let i = sym (short_is k) ∙ f in let z : NoRoom ≡ x = cc in rw (sym z) (order_work k side room pool out)

      refused_out : (x : Refusal) → r₁ ≡ Err x → o₁ ≡ o
      refused_out x f = go (fits lim.fill (work_room lim w)) refl
        where
          go : (b : Bool) → fits lim.fill (work_room lim w) ≡ b → o₁ ≡ o
          go true k = ap (λ (y : Copying). y.out) (rw (read_refused lim s empty o o₁ r₁ (first_is k) x f) at (first_is k))
          go false k = ap (λ (y : Copying). y.out) (short_all k)

      module _ (row₁ : ManifestRow) (f₁ : r₁ ≡ Ok row₁) where
        work_roomy : fits lim.fill (work_room lim w) ≡ true
        work_roomy = go (fits lim.fill (work_room lim w)) refl
          where
            go : (b : Bool) → fits lim.fill (work_room lim w) ≡ b → b ≡ true
            go true k = refl
            go false k = let i = sym (short_is k) ∙ f₁ in let z : ◌≡◌ {A = ℕ} 0 1 = cc in absurd (omega arith)

        room_done : room_of o₁ ≡ room_of o
        room_done = read_roomy lim s empty o o₁ r₁ (first_is work_roomy) first_roomy row₁ f₁

        first_accepted : Accepted lim s empty row₁ o₁
        first_accepted = read_accepted lim s empty o o₁ r₁ (first_is work_roomy) first_roomy row₁ f₁

      -- the tables have as many places as before
      second_roomy : fits (plus lim.fill lim.fill) (room_of o₁) ≡ true
      second_roomy = go r₁ refl
        where
          go : (y : Result ManifestRow Refusal) → r₁ ≡ y → fits (plus lim.fill lim.fill) (room_of o₁) ≡ true
          go (Ok row) f = rw (room_done row f) open_all.2
          go (Err x) f = rw (refused_out x f) open_all.2

      -- what the second reading asks for
      pub second_behind : fits lim.fill (room_of o₁) ≡ true
      second_behind = true_says (says_fits lim.fill (room_of o₁)) (fits_one lim.fill (room_of o₁) second_roomy)

      module _ (w₁ : Lent) (n : SameLong w w₁) (r₂ : Result ManifestRow Refusal) (o₂ : Lent) (e₂ : record { answer = r₂; out = o₂ } ≡ read_at_of lim t w₁ o₁ lim.fill) where
        module _ (row₁ : ManifestRow) (f₁ : r₁ ≡ Ok row₁) where
          second_is : record { answer = r₂; out = o₂ } ≡ read_into lim.fill o₁ (encoded_of lim t)
          second_is = e₂ ∙ read_is lim lim.fill o₁ second_roomy t w₁ open_all.1 (work_same lim w w₁ n (work_roomy row₁ f₁))

          second_refused : (x : Refusal) → r₂ ≡ Err x → BothRead lim s t p w o o₂ (Err x)
          unfolding both_to
          second_refused x f side room pool out h =
              let z : refused_with out x ≡ both_to side lim room out (encoded_of lim s) (encoded_of lim t) = rw ((first_accepted row₁ f₁).is, read_refused lim t lim.fill o₁ o₂ r₂ second_is x f) in
              z ∙ order_read (work_roomy row₁ f₁) side room pool out h

          module _ (row₂ : ManifestRow) (f₂ : r₂ ≡ Ok row₂) where
            -- the first stands on
            stays : Accepted lim s empty row₁ o₂
            stays = accepted_stays lim t lim.fill o₁ o₂ r₂ second_is second_roomy row₂ f₂ s empty row₁ (fits_self lim.fill) (first_accepted row₁ f₁)

            second_accepted : Accepted lim t lim.fill row₂ o₂
            second_accepted = read_accepted lim t lim.fill o₁ o₂ r₂ second_is second_roomy row₂ f₂

            both_given : (side : Side) (room : Fill) (out : List ℕ)
                → merged_to side lim room out (manifest_in o₂ row₁).segments (manifest_in o₂ row₂).segments ≡ both_to side lim room out (encoded_of lim s) (encoded_of lim t)
            unfolding both_to
            both_given side room out = rw (accepted_is lim s empty row₁ o₂ stays, accepted_is lim t lim.fill row₂ o₂ second_accepted)

            both_are : BothRead lim s t p w o o₂ (Ok (row₁, row₂))
            both_are = (
              (accepted_judged lim s empty row₁ o₂ stays, accepted_judged lim t lim.fill row₂ o₂ second_accepted),
              work_roomy row₁ f₁,
              ltb-false p lim.fill.bytes open_all.3,
              λ side room pool out h. both_given side room out ∙ order_read (work_roomy row₁ f₁) side room pool out h,
            )

        pub both_joined : (r : Result (ManifestRow × ManifestRow) Refusal) → r ≡ joined_of r₁ r₂ → BothRead lim s t p w o o₂ r
        both_joined r i = subst (λ (y : Result (ManifestRow × ManifestRow) Refusal). BothRead lim s t p w o o₂ y) (sym i) (go r₁ r₂ refl refl)
          where
            go : (y z : Result ManifestRow Refusal) → r₁ ≡ y → r₂ ≡ z → BothRead lim s t p w o o₂ (joined_of y z)
            go (Ok row₁) (Ok row₂) f g = both_are row₁ f row₂ g
            go (Ok row₁) (Err x) f g = second_refused row₁ f x g
            go (Err x) z f g = first_refused x f

-- ---- both, read

module _ (lim : Limits) (s t : List ℕ) (p : ℕ) (w o l : Lent) (r : Result (ManifestRow × ManifestRow) Refusal) (e : BothRead lim s t p w o l r) where
  told : (y : Result (ManifestRow × ManifestRow) Refusal) → r ≡ y → BothRead lim s t p w o l y
  told y h = subst (λ (x : Result (ManifestRow × ManifestRow) Refusal). BothRead lim s t p w o l x) h e

  pub read_none : (x : Refusal) → r ≡ Err x → (side : Side) (room : Fill) (pool out : List ℕ) → length pool ≡ p → refused_with out x ≡ merge_to side lim s t room w o pool out
  read_none x h = told (Err x) h

  module _ (m n : ManifestRow) (h : r ≡ Ok (m, n)) where
    pub read_merged : (side : Side) (room : Fill) (pool out : List ℕ) → length pool ≡ p → merged_to side lim room out (manifest_in l m).segments (manifest_in l n).segments ≡ merge_to side lim s t room w o pool out
    read_merged = (told (Ok (m, n)) h).3

    -- the rows are lawful, and the tables that were read into have room for any list within L1
    pub read_fine : (a b c d : ℕ) → a ≡ length w.segments → b ≡ length w.views → c ≡ length w.runs → d ≡ p
        → ((judged_of lim l m ≡ Ok tt) × (judged_of lim l n ≡ Ok tt)) × ((lim.fill.segments * 12 ≤ a) × (lim.fill.views * 16 ≤ b) × (lim.fill.runs * 3 ≤ c) × (lim.fill.bytes ≤ d))
    read_fine a b c d i j k q =
        let z = told (Ok (m, n)) h in
        let u = under lim.fill (work_room lim w) z.1 in
        (z.0, (omega (arith, u.segments, i), omega (arith, u.views, j), omega (arith, u.runs, k), omega (arith, z.2, q)))
