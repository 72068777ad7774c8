use Rattle.measure.proofs.views_walked.key_at.Goals as goal

pub returns : goal.returns
returns c = cc
