-- A lawful source: its manifest is lawful, its path not over its limit.
use Rattle.std.specs.Prelude.{Bool, ◌&&◌, Result, ℕ}
use Rattle.records.specs.Model.{Manifest}
use Rattle.records.specs.declared.Limits.{Limits}
use Rattle.measure.specs.Within.{short, within}
use Rattle.lawful.specs.Judge.{rules_of}
use Rattle.unite_sources.specs.Source.{Source}
use Rattle.unite_lend.specs.Used.{is_lawful}

-- L1 to L5, judged of a manifest of the model
abbrev pub judged_as : Limits → Manifest → Result Unit ℕ
judged_as lim m = rules_of (within lim m) m

unfoldable pub lawful_source : Limits → Source → Bool
lawful_source lim s = is_lawful (judged_as lim s.manifest) && short lim.path s.path
