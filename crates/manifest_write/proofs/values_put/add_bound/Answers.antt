use Rattle.manifest_write.proofs.values_put.add_bound.Goals as goal

pub returns-in-Unbounded : goal.returns-in-Unbounded
returns-in-Unbounded c = rw c.in-Unbounded.is c.add_head.ensures

pub returns-in-Included : goal.returns-in-Included
returns-in-Included c = rw c.in-Included.is c.add_keyed.ensures

pub returns-in-Excluded : goal.returns-in-Excluded
returns-in-Excluded c = rw c.in-Excluded.is c.add_keyed-in-Excluded.ensures
