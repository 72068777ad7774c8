-- What the rows say together is what the sources say. Assumes nothing.
use Prim.Native.Nat.{ℕ, zero, suc, ◌+◌, ◌*◌}
use mathlib.Core.Path.{◌≡◌, refl, ap, ◌∙◌}
use mathlib.Core.List.{List, [], ◌∷◌, ◌++◌}
use Rattle.tables.proofs.Holds.{up_to_front}
use Rattle.records.specs.Row.{at}
use Rattle.records.specs.Decode.{Lent, name_in, manifest_in}
use Rattle.unite_sources.specs.Source.{Source, greater, greatest_from, greatest_seq, agreed_name}
use Rattle.unite_sources.specs.Rows.{manifest_at_word, source_at_word, sources_in}
use Rattle.unite_judge.specs.Words.{greatest_at, agreed_at}

greatest_snoc : (n : ℕ) (ss : List Source) (s : Source) → greatest_from n (ss ++ (s ∷ [])) ≡ greater (greatest_from n ss) s.manifest.last_l0_seq
unfolding greatest_from
greatest_snoc n [] s = refl
greatest_snoc n (r ∷ ss) s = greatest_snoc (greater n r.manifest.last_l0_seq) ss s

module _ (l : Lent) (t : List ℕ) where
  pub greatest_sources : (n : ℕ) → greatest_seq (sources_in l t n) ≡ greatest_at t n
  unfolding sources_in source_at_word manifest_at_word manifest_in greatest_from
  greatest_sources zero = refl
  greatest_sources (suc n) =
      greatest_snoc 0 (sources_in l t n) (source_at_word l t (n * 22)) ∙ ap (λ (x : ℕ). greater x (at t (n * 22 + 15))) (greatest_sources n)

  pub name_sources : (n : ℕ) → agreed_name (sources_in l t n) ≡ name_in l.pool (agreed_at t n)
  unfolding sources_in source_at_word manifest_at_word manifest_in
  name_sources zero = refl
  name_sources (suc n) = rw (up_to_front (λ i. source_at_word l t (i * 22)) n)
