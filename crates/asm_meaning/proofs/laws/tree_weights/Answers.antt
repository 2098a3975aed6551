use Rattle.asm_meaning.proofs.TreeWeights.{tree_weights-of_not, tree_weights-negative, tree_weights-argument, tree_weights-body, tree_weights-call, tree_weights-rule}
use Rattle.asm_meaning.proofs.laws.tree_weights.Goals as goal

pub returns-clause-of_not : goal.returns-clause-of_not
returns-clause-of_not c = tree_weights-of_not

pub returns-clause-negative : goal.returns-clause-negative
returns-clause-negative c = tree_weights-negative

pub returns-clause-argument : goal.returns-clause-argument
returns-clause-argument c = tree_weights-argument

pub returns-clause-body : goal.returns-clause-body
returns-clause-body c = tree_weights-body

pub returns-clause-call : goal.returns-clause-call
returns-clause-call c = tree_weights-call

pub returns-clause-rule : goal.returns-clause-rule
returns-clause-rule c = tree_weights-rule
