use Rattle.exports.proofs.answers.projected_answer.Goals as goal

pub returns-in-Err : goal.returns-in-Err
returns-in-Err c = rw c.in-Err.is c.refused_answer.ensures
