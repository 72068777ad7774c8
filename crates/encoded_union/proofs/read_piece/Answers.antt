use Rattle.measure.proofs.Exits.{exit_same}
use Rattle.encoded_union.proofs.Gather.{cursor_fits, piece_done, piece_refused}
use Rattle.encoded_union.proofs.read_piece.Goals as goal

pub read_at-requires : goal.read_at-requires
read_at-requires c = cursor_fits _ _ _ c.requires.s_value_2.1

pub put_source-requires : goal.put_source-requires
put_source-requires c = c.requires.s_value.1

pub returns : goal.returns
returns c = piece_done _ _ _ _ _ c.requires.s_value_2.1 c.requires.s_value.0 c.requires.s_value_2.0 _ _ c.read_at.ensures _ _ _ _ _ c.in_ok-m.was _ c.put_source.ensures

pub returns-in_err-m : goal.returns-in_err-m
returns-in_err-m c = rw (exit_same _ _ c.from_residual.ensures.1) (piece_refused _ _ _ _ _ c.requires.s_value_2.1 c.requires.s_value.0 c.requires.s_value_2.0 _ _ c.read_at.ensures _ _ _ _ _ c.in_err-m.was)
