use Rattle.std.proofs.Common.{refl, sym, ◌∙◌, arith}
use Rattle.std.proofs.lemmas.Result.{err_from_is_err_and}
use Rattle.msgpack.specs.Skip.{skip_head}
use Rattle.msgpack.proofs.Ahead.{past_within}
use Rattle.msgpack.proofs.Skips.{many_end, many_past, many_bad, value_shut, value_open, value_map, value_flat}
use Rattle.msgpack.proofs.values_skipped.+skip_many_skip_value.Goals as goal

pub skip_many-returns-in_err-p : goal.skip_many-returns-in_err-p
unfolding skip_head
skip_many-returns-in_err-p t c = let l = c.loop-left in
    let q = err_from_is_err_and c.from_residual.result c.from_residual.ensures.1 in
    rw (q.1, q.2) (sym (sym l.invariant ∙ many_bad _ l.left l.p _ (omega arith) (sym c.skip_value.ensures ∙ c.in_err-p.was)))

pub skip_many-loop-left-smaller : goal.skip_many-loop-left-smaller
unfolding skip_head
skip_many-loop-left-smaller t c = omega (arith, past_within _ _ _ _ (sym c.skip_value.ensures ∙ c.in_ok-p.was))

pub skip_many-loop-left-preserved : goal.skip_many-loop-left-preserved
unfolding skip_head
skip_many-loop-left-preserved t c = let l = c.loop-left in
    sym (many_past _ l.left l.p _ (omega arith) (sym c.skip_value.ensures ∙ c.in_ok-p.was)) ∙ l.invariant

pub skip_many-returns : goal.skip_many-returns
unfolding skip_head
skip_many-returns t c = let l = c.loop-left in sym (many_end _ l.left l.p (omega arith)) ∙ l.invariant

pub skip_value-returns-in-Nil : goal.skip_value-returns-in-Nil
unfolding skip_head
skip_value-returns-in-Nil t c = sym (value_flat _ _ _ _ _ _ c.head_at.ensures c.in-Nil.is (λ g. refl))

pub skip_value-returns-in-Flag : goal.skip_value-returns-in-Flag
unfolding skip_head
skip_value-returns-in-Flag t c = sym (value_flat _ _ _ _ _ _ c.head_at.ensures c.in-Flag.is (λ g. refl))

pub skip_value-returns-in-Uint : goal.skip_value-returns-in-Uint
unfolding skip_head
skip_value-returns-in-Uint t c = sym (value_flat _ _ _ _ _ _ c.head_at.ensures c.in-Uint.is (λ g. refl))

pub skip_value-returns-in-Minus : goal.skip_value-returns-in-Minus
unfolding skip_head
skip_value-returns-in-Minus t c = sym (value_flat _ _ _ _ _ _ c.head_at.ensures c.in-Minus.is (λ g. refl))

pub skip_value-returns-in-Bin : goal.skip_value-returns-in-Bin
unfolding skip_head
skip_value-returns-in-Bin t c = sym (value_flat _ _ _ _ _ _ c.head_at.ensures c.in-Bin.is (λ g. refl))

pub skip_value-returns-in-Other : goal.skip_value-returns-in-Other
unfolding skip_head
skip_value-returns-in-Other t c = sym (value_flat _ _ _ _ _ _ c.head_at.ensures c.in-Other.is (λ g. refl))

pub skip_value-returns-in-Cut : goal.skip_value-returns-in-Cut
unfolding skip_head
skip_value-returns-in-Cut t c = sym (value_flat _ _ _ _ _ _ c.head_at.ensures c.in-Cut.is (λ g. refl))

pub skip_value-returns-in-Never : goal.skip_value-returns-in-Never
unfolding skip_head
skip_value-returns-in-Never t c = sym (value_flat _ _ _ _ _ _ c.head_at.ensures c.in-Never.is (λ g. refl))

pub skip_value-returns-then-room-eq0 : goal.skip_value-returns-then-room-eq0
unfolding skip_head
skip_value-returns-then-room-eq0 t c = sym (value_shut _ _ _ _ _ c.head_at.ensures c.in-Array.is c.if-room-eq0.true)

pub skip_value-returns-else-room-eq0 : goal.skip_value-returns-else-room-eq0
unfolding skip_head
skip_value-returns-else-room-eq0 t c = c.skip_many.ensures
    ∙ sym (value_open _ _ _ _ _ c.head_at.ensures c.in-Array.is c.if-room-eq0.false)

pub skip_value-returns-then-room-eq0-2 : goal.skip_value-returns-then-room-eq0-2
unfolding skip_head
skip_value-returns-then-room-eq0-2 t c = sym (value_shut _ _ _ _ _ c.head_at.ensures c.in-Map.is c.if-room-eq0-2.true)

pub skip_value-returns-in_ok-p-in-Map : goal.skip_value-returns-in_ok-p-in-Map
unfolding skip_head
skip_value-returns-in_ok-p-in-Map t c = c.skip_many-else-room-eq0-2-2.ensures
    ∙ sym (value_map _ _ _ _ _ _ _ _ c.head_at.ensures c.in-Map.is c.if-room-eq0-2.false c.skip_many-else-room-eq0-2.ensures c.in_ok-p-in-Map.was)

pub skip_value-returns-in_err-p-in-Map : goal.skip_value-returns-in_err-p-in-Map
unfolding skip_head
skip_value-returns-in_err-p-in-Map t c =
    let q = err_from_is_err_and c.from_residual.result c.from_residual.ensures.1 in
    rw (q.1, q.2) (sym (value_map _ _ _ _ _ _ _ _ c.head_at.ensures c.in-Map.is c.if-room-eq0-2.false c.skip_many-else-room-eq0-2.ensures c.in_err-p-in-Map.was))
