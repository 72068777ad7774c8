use mathlib.Core.Path.{◌∙◌}
use Prim.Native.Nat.{◌*◌}
use native.Mathlib.Omega.{arith}
use Rattle.records.specs.Model.{Manifest}
use Rattle.records.specs.Decode.{Lent, manifest_in, lent_of}
use Rattle.records.specs.Fill.{manifest_fill}
use Rattle.records.proofs.Sums.{empty_plus}
use Rattle.records.proofs.Cursor.{row_front}
use Rattle.borrows.proofs.Fronts.{front_out}
use Rattle.borrows.proofs.clone_rows.put_front.Goals as goal

pub put_manifest-requires : goal.put_manifest-requires
put_manifest-requires c = let a = c.args in let l : Lent = lent_of a.tables in rw (empty_plus (manifest_fill (manifest_in l a.m))) c.requires

pub returns : goal.returns
returns c = let a = c.args in let l : Lent = lent_of a.tables in let m : Manifest = manifest_in l a.m in record { value = c.put_manifest.ensures.value ∙ row_front m; out_segments_after = front_out (λ x. x.segments) m (0 * 12) (omega arith) _ _ c.put_manifest.ensures.out_segments_after; out_views_after = front_out (λ x. x.views) m (0 * 16) (omega arith) _ _ c.put_manifest.ensures.out_views_after; out_runs_after = front_out (λ x. x.runs) m (0 * 3) (omega arith) _ _ c.put_manifest.ensures.out_runs_after; out_borrows_after = front_out (λ x. x.borrows) m (0 * 9) (omega arith) _ _ c.put_manifest.ensures.out_borrows_after; out_ids_after = front_out (λ x. x.ids) m (0 * 2) (omega arith) _ _ c.put_manifest.ensures.out_ids_after; out_pool_after = front_out (λ x. x.pool) m 0 (omega arith) _ _ c.put_manifest.ensures.out_pool_after }
