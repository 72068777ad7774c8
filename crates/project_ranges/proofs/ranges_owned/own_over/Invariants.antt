use Rattle.project_ranges.specs.Args.{some_over, counted}
use Rattle.project_ranges.proofs.Rows.{Clear}
use Rattle.project_ranges.proofs.ranges_owned.own_over.Given as goal

abbrev pub invariant-loop-k : goal.invariant-loop-k
invariant-loop-k l = Clear (some_over l.most l.n l.own (counted l.own l.segments)) l.most l.n l.own l.rows l.k
