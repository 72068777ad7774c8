use Rattle.encoded_union.proofs.Gather.{bad_falls, bad_past, bad_long}
use borrow.Author.Rules.{rules}
use Rattle.encoded_union.proofs.bad_piece.Goals.{then-end-from-via-then-end-from, then-end-from-via-else-end-from+then-n-end}
use Rattle.encoded_union.proofs.bad_piece.Goals as goal

pub returns-then-end-from : goal.returns-then-end-from
returns-then-end-from c =
    let a = c.args in
    elim c.then-end-from.branch [
      | then-end-from-via-then-end-from w ↦ bad_falls a.most a.n a.ends.now a.k _ _ c.start_of-from.ensures c.ix-end.ensures w.if-end-from.true
      | then-end-from-via-else-end-from+then-n-end w ↦ bad_past a.most a.n a.ends.now a.k _ _ c.start_of-from.ensures c.ix-end.ensures w.if-end-from.false w.if-n-end.true
    ]

pub returns : goal.returns
returns c = search (bad_long, rules)
