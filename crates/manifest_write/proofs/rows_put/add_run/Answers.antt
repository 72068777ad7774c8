use Rattle.records.specs.Decode.{run_in}
use Rattle.manifest_write.specs.Bytes.{run_bytes}
use Rattle.manifest_write.proofs.Wrotes.{group, more, last}
use Rattle.manifest_write.proofs.rows_put.add_run.Goals as goal

pub returns : goal.returns
unfolding run_bytes run_in
returns c = group _ _ _ _ _ _ _ c.add_array-p.ensures
    (more _ _ _ _ _ _ _ _ c.add_head-q.ensures
    (last _ _ _ _ _ c.add_views.ensures))
