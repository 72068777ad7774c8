use Rattle.records.specs.Decode.{bytes_in}
use Rattle.emit.proofs.Rows.{prefix_past}
use Rattle.emit.proofs.segments_put.put_prefix.Goals as goal

pub returns : goal.returns
returns c = record { value = prefix_past c.args.c (bytes_in c.args.pool.now c.args.p) _ c.put_part-past.ensures.value; out_pool_after = c.put_part-past.ensures.out_pool_after }
