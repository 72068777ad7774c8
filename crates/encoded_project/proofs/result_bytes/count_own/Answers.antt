use native.Mathlib.Omega.{arith}
use Rattle.encoded_project.proofs.Rooms.{count_few, count_many}
use Rattle.encoded_project.proofs.result_bytes.count_own.Goals as goal

pub returns-then-rows-segments : goal.returns-then-rows-segments
returns-then-rows-segments c = count_few _ _ c.if-rows-segments.true

pub returns : goal.returns
returns c = count_many _ _ _ c.if-rows-segments.false (omega arith)
