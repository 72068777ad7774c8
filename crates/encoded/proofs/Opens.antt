-- What was read into the working tables is what the bytes are. Assumes nothing.
use Rattle.std.specs.Prelude.{Err, Ok, Result}
use Prim.Native.Nat.{ℕ}
use mathlib.Core.Path.{◌≡◌, refl, sym, ap, ◌∙◌}
use mathlib.Core.Bool.{Bool, true, false}
use mathlib.Core.List.{List}
use Rattle.keys.specs.Pick.{pick}
use Rattle.records.specs.Fill.{fits}
use Rattle.records.specs.Decode.{Lent}
use Rattle.records.specs.declared.Fill.{Fill}
use Rattle.records.specs.declared.Limits.{Limits}
use Rattle.records.specs.declared.ManifestRow.{ManifestRow}
use Rattle.records.specs.declared.Refusal.TheVariants.{Unlawful, NotWellFormed, NotTheRecord}
use Rattle.msgpack.specs.Skip.{whole_of}
use Rattle.manifest_values.specs.Read.{wrong, manifest_at}
use Rattle.manifest_rows.specs.Stored.{ManifestIs, ManifestFilled}
use Rattle.manifest_read.specs.Answer.{work_room}
use Rattle.manifest_read.proofs.Answers.{SameLong, rows_break, rows_stand}
use Rattle.encoded.specs.Encoded.{Encoded, refused, encoded_of}
use Rattle.encoded.specs.InTables.{rows_in, rows_got}
use Rattle.records.specs.declared.Refusal.{Refusal}

module _ (lim : Limits) (s : List ℕ) where
  pub opens_bad : (q : ℕ) → whole_of s ≡ Err q → refused (NotWellFormed q) ≡ encoded_of lim s
  unfolding encoded_of
  opens_bad q h = rw h

  opens_wrong : (q : ℕ) → whole_of s ≡ Ok tt → manifest_at s 0 ≡ wrong q → refused (NotTheRecord q) ≡ encoded_of lim s
  unfolding encoded_of
  opens_wrong q h g = rw (h, g)

  module _ (l l' : Lent) (row : ManifestRow) (c : Fill) (p : ℕ) (h : whole_of s ≡ Ok tt) (x : ManifestIs (manifest_at s 0) l l' row c p) where
    opens_over : fits c lim.fill ≡ false → refused (Unlawful 1) ≡ encoded_of lim s
    unfolding encoded_of
    opens_over k = rw (h, x.read, rows_break lim _ l l' l row c p x k)

    opens_rows : l'.pool ≡ l.pool → SameLong l l' → fits c lim.fill ≡ true → fits lim.fill (work_room lim l) ≡ true → rows_in lim l' (Ok row) ≡ encoded_of lim s
    unfolding encoded_of
    opens_rows q n k w = let b = rows_stand lim _ l l' l row c p x q n k w in rw (h, x.read, b.0, b.1)

  module _ (l l' : Lent) (h : whole_of s ≡ Ok tt) (q : l'.pool ≡ l.pool) (n : SameLong l l') (w : fits lim.fill (work_room lim l) ≡ true) where
    opens_got : (g : Result (ManifestRow × Fill × ℕ) ℕ) → ManifestFilled (manifest_at s 0) l l' g → rows_in lim l' (rows_got lim g) ≡ encoded_of lim s
    unfolding rows_got
    opens_got (Ok (row, c, p)) x = go (fits c lim.fill) refl
      where
        go : (b : Bool) → fits c lim.fill ≡ b → rows_in lim l' (pick b (Ok row) (Err (Unlawful 1))) ≡ encoded_of lim s
        go true e = opens_rows l l' row c p h x q n e w
        go false e = opens_over l l' row c p h x e
    opens_got (Err z) x = opens_wrong z h x

  -- the rows that were filled mean what the bytes are
  pub opens_filled : (l l' : Lent) (g : Result (ManifestRow × Fill × ℕ) ℕ) → ManifestFilled (manifest_at s 0) l l' g → whole_of s ≡ Ok tt → l'.pool ≡ l.pool → SameLong l l' → fits lim.fill (work_room lim l) ≡ true → (r : Result ManifestRow Refusal) → r ≡ rows_got lim g → rows_in lim l' r ≡ encoded_of lim s
  opens_filled l l' g x h q n w r e = ap (rows_in lim l') e ∙ opens_got l l' h q n w g x

-- what follows from the rows follows from the bytes
pub rows_mean : {A : Type 0} (f : Encoded → A) (lim : Limits) (l : Lent) (r q : Result ManifestRow Refusal) (x : Encoded) → rows_in lim l r ≡ x → r ≡ q → f (rows_in lim l q) ≡ f x
rows_mean f lim l r q x e h = ap f (ap (rows_in lim l) (sym h) ∙ e)

-- the same of rows that are known
pub rows_same : {A : Type 0} (f : Encoded → A) (lim : Limits) (l : Lent) (r q : Result ManifestRow Refusal) → r ≡ q → f (rows_in lim l q) ≡ f (rows_in lim l r)
rows_same f lim l r q h = ap (λ x. f (rows_in lim l x)) (sym h)

-- ---- which rows were got

module _ (lim : Limits) (g : Result (ManifestRow × Fill × ℕ) ℕ) where
  pub got_are : (row : ManifestRow) (c : Fill) (p : ℕ) → g ≡ Ok (row, c, p) → fits c lim.fill ≡ true → Ok row ≡ rows_got lim g
  unfolding rows_got
  got_are row c p h k = rw (h, k)

  pub got_over : (row : ManifestRow) (c : Fill) (p : ℕ) → g ≡ Ok (row, c, p) → fits c lim.fill ≡ false → Err (Unlawful 1) ≡ rows_got lim g
  unfolding rows_got
  got_over row c p h k = rw (h, k)

  pub got_wrong : (q : ℕ) → g ≡ Err q → Err (NotTheRecord q) ≡ rows_got lim g
  unfolding rows_got
  got_wrong q h = rw h
