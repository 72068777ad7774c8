use Rattle.encoded_union.proofs.Gather.{fine_none, fine_more, fine_bad, fine_all}
use borrow.Author.Rules.{rules}
use Rattle.encoded_union.proofs.some_bad.Goals as goal

pub loop-k-init : goal.loop-k-init
loop-k-init c = search (fine_none, rules)

pub returns-then-bad_piece : goal.returns-then-bad_piece
returns-then-bad_piece c = search (fine_bad, rules)

pub loop-k-preserved : goal.loop-k-preserved
loop-k-preserved c = search (fine_more, rules)

pub returns : goal.returns
returns c = search (fine_all, rules)
