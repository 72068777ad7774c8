-- Which answer the union gives, by its tests. Assumes nothing.
use Rattle.std.specs.Prelude.{Err, Ok, Result}
use Prim.Native.Nat.{ℕ, ◌/◌, ◌≤◌, ◌<◌}
use mathlib.Core.Path.{◌≡◌, sym, ◌∙◌}
use mathlib.Core.Bool.{Bool, true, false}
use mathlib.Core.List.{List}
use lib.ListN.{length}
use borrow.Author.Tests.{lt-ltb, le-ltb}
use Rattle.records.specs.Decode.{Lent}
use Rattle.records.specs.declared.Limits.{Limits}
use Rattle.records.specs.declared.Refusal.TheVariants.{Unlawful, OverLimit, NoRoom}
use Rattle.borrows.specs.Clone.{uuids_of}
use Rattle.unite_sources.specs.Rows.{sources_in}
use Rattle.unite_judge.specs.Judging.{most_sources, some_path_over, sources_judged}
use Rattle.unite.specs.Answer.{Outcome, refused, union_given, union_in}

-- ---- 2, 4, 1

module _ (lim : Limits) (l : Lent) (t fresh : List ℕ) (short : Bool) (o : Lent) where
  pub union_many : most_sources < length t / 22 → refused OverLimit o ≡ union_in lim l t fresh short o
  unfolding union_in
  union_many h = rw (lt-ltb most_sources (length t / 22) h)

  module _ (h : length t / 22 ≤ most_sources) (b : Bool) (e : b ≡ some_path_over lim.path (length l.pool) t (length t / 22)) where
    pub union_path : b ≡ true → refused OverLimit o ≡ union_in lim l t fresh short o
    unfolding union_in
    union_path u = rw (le-ltb most_sources (length t / 22) h, sym e ∙ u)

    module _ (u : b ≡ false) (s : Bool) (f : s ≡ short) where
      pub union_short : s ≡ true → refused NoRoom o ≡ union_in lim l t fresh short o
      unfolding union_in
      union_short v = rw (le-ltb most_sources (length t / 22) h, sym e ∙ u, sym f ∙ v)

      module _ (v : s ≡ false) (j : Result Unit ℕ) (g : j ≡ sources_judged lim l t (length t / 22)) where
        pub union_broken : (rule : ℕ) → j ≡ Err rule → refused (Unlawful rule) o ≡ union_in lim l t fresh short o
        unfolding union_in
        union_broken rule w = rw (le-ltb most_sources (length t / 22) h, sym e ∙ u, sym f ∙ v, sym g ∙ w)

        pub union_lawful : (x : Outcome) → j ≡ Ok tt → x ≡ union_given lim (sources_in l t (length t / 22)) (uuids_of fresh) o → x ≡ union_in lim l t fresh short o
        unfolding union_in
        union_lawful x w q = rw (le-ltb most_sources (length t / 22) h, sym e ∙ u, sym f ∙ v, sym g ∙ w) q
