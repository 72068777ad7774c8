-- `ids::names` meets its contract. The loop's invariant: what is left of the words names `x` exactly if all of them do. Assumes
-- nothing.
use borrow.Author.Rules.{rules}
use lib.Seq.{take_all}
use Rattle.ids.proofs.Words.{left_none, left_here, left_more, left_all}
use Rattle.ids.proofs.names.Goals as goal

pub loop-words-init : goal.loop-words-init
loop-words-init c =
    let e = c.into_iter-words-iterator.ensures.into_iter_gives in
    let m = c.chunks_exact-words-items.ensures in
    left_none _ _ _ _ (search (e, m.rest, take_all, rules)) (rw e m.size)

pub returns-then-same : goal.returns-then-same
returns-then-same c =
    let s = c.in-Some.ensures.steps.1 in
    left_here _ _ _ _ c.loop-words.invariant _ _ s.0 s.1 _ c.same.ensures c.if-same.true

pub loop-words-preserved : goal.loop-words-preserved
loop-words-preserved c =
    let s = c.in-Some.ensures.steps.1 in
    left_more _ _ _ _ c.loop-words.invariant _ _ s.0 s.1 _ c.same.ensures _ c.in-Some.ensures.steps.0 c.if-same.false

pub returns : goal.returns
returns c = left_all _ _ _ _ c.loop-words.invariant c.in-None.ensures.steps.1.0
