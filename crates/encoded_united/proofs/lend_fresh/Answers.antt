use Rattle.encoded_united.proofs.Lending.{lent_is}
use Rattle.encoded_united.proofs.lend_fresh.Goals as goal

pub returns : goal.returns
returns c = lent_is _ _ _ _ c.put.ensures.out_after c.clear.ensures
