use borrow.Author.Tests.{eq-eqb, ne_eqb}
use Rattle.unite_groups.proofs.group_members.same_uuid.Goals as goal

pub returns-then-a-b : goal.returns-then-a-b
returns-then-a-b c = simp (eq-eqb _ _ c.if-a-b.true)

pub returns-else-a-b : goal.returns-else-a-b
returns-else-a-b c = simp (ne_eqb _ _ c.if-a-b.false)
