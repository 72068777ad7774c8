-- L5 OF A UNION: each run has the views of a used source's run, and no rule looks at its number. Assumes nothing.
use mathlib.Core.Path.{◌≡◌}
use mathlib.Core.Bool.{true, ◌&&◌}
use mathlib.Core.List.{List}
use Rattle.ids.specs.declared.Uuid.{Uuid}
use Rattle.records.specs.Model.{View}
use Rattle.measure.specs.Tests.{all_of, chain}
use Rattle.lawful.specs.Law.{follows, some_of, run_lawful, l5_of}
use Rattle.unite_sources.specs.Source.{Source}
use Rattle.unite.specs.United.{united_from}
use Rattle.unite_lawful.proofs.Carried.{runs_carried}

-- "L5: a run has a view; first keys strictly ascend; a known last key is below the next first key."
pub union_l5 : (ss us : List Source) (fresh : List Uuid) → all_of (λ (s : Source). l5_of s.manifest) us ≡ true → l5_of (united_from ss us fresh) ≡ true
unfolding l5_of run_lawful
union_l5 ss us fresh e = runs_carried (λ (vs : List View). some_of vs && chain follows vs) ss us fresh e
