-- L4 OF A UNION: each view is a used source's. Assumes nothing.
use mathlib.Core.Path.{◌≡◌}
use mathlib.Core.Bool.{true}
use mathlib.Core.List.{List}
use Rattle.ids.specs.declared.Uuid.{Uuid}
use Rattle.measure.specs.Tests.{all_of}
use Rattle.lawful.specs.Law.{view_lawful, l4_of}
use Rattle.unite_sources.specs.Source.{Source}
use Rattle.unite.specs.United.{united_from}
use Rattle.unite_lawful.proofs.Carried.{views_carried}

-- "L4: first key not above a known last key; a view's physical range meets its visible range in some key."
pub union_l4 : (ss us : List Source) (fresh : List Uuid) → all_of (λ (s : Source). l4_of s.manifest) us ≡ true → l4_of (united_from ss us fresh) ≡ true
unfolding l4_of
union_l4 ss us fresh e = views_carried view_lawful ss us fresh e
