use Rattle.project_views.proofs.Ids.{piece_used}
use Rattle.project_views.proofs.views_ids.put_kept_id_at.Goals as goal

pub put_kept_id-requires : goal.put_kept_id-requires
put_kept_id-requires c = rw (piece_used c.args.pool.now c.kept_at-kept.result _ c.kept_at-kept.ensures) c.requires.k_in_bounds

pub returns : goal.returns
returns c = rw (← piece_used c.args.pool.now c.kept_at-kept.result _ c.kept_at-kept.ensures) (record { value = c.put_kept_id.ensures.value; out_ids_after = c.put_kept_id.ensures.out_ids_after })
