use Rattle.encoded_unite.proofs.Calling.{rest_list, rest_result, rest_own}
use Rattle.encoded_unite.proofs.call_forms.lacks_rest.Goals.{then-lacks_fresh-via-then-lacks_fresh, then-lacks_fresh-via-else-lacks_fresh+then-not-fits_in}
use Rattle.encoded_unite.proofs.call_forms.lacks_rest.Goals as goal

pub returns-then-lacks_fresh : goal.returns-then-lacks_fresh
returns-then-lacks_fresh c =
    elim c.then-lacks_fresh.branch [
      | then-lacks_fresh-via-then-lacks_fresh w ↦ rest_list _ _ _ _ _ _ c.lacks_fresh.ensures w.if-lacks_fresh.true
      | then-lacks_fresh-via-else-lacks_fresh+then-not-fits_in w ↦ rest_result _ _ _ _ _ _ c.lacks_fresh.ensures w.if-lacks_fresh.false _ w.fits_in.ensures w.if-not-fits_in.true
    ]

pub returns : goal.returns
returns c = rest_own _ _ _ _ _ _ c.lacks_fresh.ensures c.if-lacks_fresh.false _ c.fits_in.ensures c.if-not-fits_in.false _ c.work_short.ensures
