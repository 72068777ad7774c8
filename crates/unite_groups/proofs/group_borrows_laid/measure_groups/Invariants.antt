use Rattle.project_views.proofs.Summed.{Summed}
use Rattle.unite_groups.specs.Chosen.{member_fill}
use Rattle.unite_groups.specs.Rows.{member_at}
use Rattle.unite_groups.proofs.group_borrows_laid.measure_groups.Given as goal

abbrev pub invariant-loop-k : goal.invariant-loop-k
invariant-loop-k l = Summed l.most member_fill (member_at l.groups l.work l.pool) l.n l.initial.d l.d l.k
