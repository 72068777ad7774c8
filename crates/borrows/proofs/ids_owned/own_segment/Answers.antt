use Rattle.records.specs.Decode.{segment_in}
use Rattle.borrows.proofs.ids_owned.own_segment.Goals as goal

pub own_tree-requires : goal.own_tree-requires
unfolding segment_in
own_tree-requires c = rw c.segment_at-s.ensures c.requires.i_bound

pub returns : goal.returns
unfolding segment_in
returns c = rw (← c.segment_at-s.ensures) (record { value = c.own_tree.ensures.value; out_after = c.own_tree.ensures.out_after })
