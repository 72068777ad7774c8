use Rattle.unite_groups.proofs.group_rows.put_group.Goals as goal

pub returns : goal.returns
returns c = rw (← c.group_words-row.ensures) c.put.ensures.out_after
