use Rattle.measure.proofs.Exits.{exit_same}
use Prim.Native.Nat.{ℕ}
use mathlib.Core.Path.{◌∙◌}
use mathlib.Core.List.{[]}
use native.Mathlib.Omega.{arith}
use lib.ListN.{length, length-replicate}
use Rattle.manifest_rows.specs.Stored.{lent}
use Rattle.encoded_unite.proofs.Calling.{called, fewer, roomy, same_room, read_judged, read_united, read_not}
use Rattle.encoded_unite.proofs.union_read.Goals as goal

pub read_sources-requires : goal.read_sources-requires
read_sources-requires c = let k = called _ c.args.s.now c.args.ends.now c.args.paths.now c.args.path_ends.now c.args.checkpoints.now c.requires.0 in let r = roomy _ _ (lent c.args.segments.now c.args.views.now c.args.runs.now c.args.borrows.now c.args.ids.now []) (lent c.args.all_segments.now c.args.all_views.now c.args.all_runs.now c.args.all_borrows.now c.args.all_ids.now c.args.all_pool.now) _ _ (lent c.args.segments.now c.args.views.now c.args.runs.now c.args.borrows.now c.args.ids.now c.args.to_pool.now) _ c.requires.1 in record { path_ends_len = (k.paths_too, k.checkpoints_too, omega (arith, k.count, length-replicate {A = ℕ} 176 0)); ends_value = (k.parts, k.path_parts); s_value = (r.work, fewer _ _ _ _ k.count r.all); ends_len_bound = k.count }

pub union_lent-requires : goal.union_lent-requires
union_lent-requires c = let k = called _ c.args.s.now c.args.ends.now c.args.paths.now c.args.path_ends.now c.args.checkpoints.now c.requires.0 in let r = roomy _ _ (lent c.args.segments.now c.args.views.now c.args.runs.now c.args.borrows.now c.args.ids.now []) (lent c.args.all_segments.now c.args.all_views.now c.args.all_runs.now c.args.all_borrows.now c.args.all_ids.now c.args.all_pool.now) _ _ (lent c.args.segments.now c.args.views.now c.args.runs.now c.args.borrows.now c.args.ids.now c.args.to_pool.now) _ c.requires.1 in record { n_le_most_sources = (k.count, omega (arith, k.count, c.read_sources.auto.rows, length-replicate {A = ℕ} 176 0), read_judged c.args.lim c.args.s.now c.args.ends.now c.args.paths.now c.args.path_ends.now c.args.checkpoints.now (length c.args.ends.now) c.read_sources.result (lent c.read_sources.new.all_segments c.read_sources.new.all_views c.read_sources.new.all_runs c.read_sources.new.all_borrows c.read_sources.new.all_ids c.read_sources.new.all_pool) c.read_sources.new.rows c.read_sources.ensures (grind arith), r.rest); borrows_in_bounds = r.list; to_pool_value = same_room c.args.lim.fill (length c.args.to_pool.now) c.read_sources.auto.segments c.read_sources.auto.views c.read_sources.auto.runs c.read_sources.auto.borrows c.read_sources.auto.ids r.result }

pub returns : goal.returns
returns c = c.union_lent.ensures ∙ read_united _ _ _ _ _ _ _ _ _ _ c.read_sources.ensures _ _ _ (grind arith)

pub returns-in_err-read_sources : goal.returns-in_err-read_sources
returns-in_err-read_sources c = rw (exit_same _ _ c.from_residual.ensures.1) (read_not _ _ _ _ _ _ _ _ _ _ c.read_sources.ensures _ _ _ _ c.in_err-read_sources.was)
