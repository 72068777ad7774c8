use Rattle.unite_judge.proofs.Judging.{code_first, code_second, code_third}
use borrow.Author.Tests.{not-true, not-false}
use borrow.Author.Rules.{rules}
use Rattle.unite_judge.proofs.codes_known.Goals as goal

pub returns-then-not-is_code : goal.returns-then-not-is_code
returns-then-not-is_code c = search (code_first, not-true, not-false, rules)

pub returns-then-not-is_code-2 : goal.returns-then-not-is_code-2
returns-then-not-is_code-2 c = search (code_second, not-true, not-false, rules)

pub returns : goal.returns
returns c = search (code_third, not-true, not-false, rules)
