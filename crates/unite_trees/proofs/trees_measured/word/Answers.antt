use Rattle.unite_trees.proofs.Parts.{word_none}
use borrow.Author.Rules.{rules}
use Rattle.unite_trees.proofs.trees_measured.word.Goals as goal

pub returns : goal.returns
returns c = search (word_none, rules)
