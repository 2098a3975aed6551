use Rattle.asm_meaning.proofs.NumberedValues.{numbered_names-element, numbered_names-function, numbered_names-derived, numbered_names-rule, numbered_names-universe_undef, numbered_names-rule_undef}
use Rattle.asm_meaning.proofs.laws.numbered_names.Goals as goal

pub returns-clause-element : goal.returns-clause-element
returns-clause-element c = numbered_names-element

pub returns-clause-function : goal.returns-clause-function
returns-clause-function c = numbered_names-function

pub returns-clause-derived : goal.returns-clause-derived
returns-clause-derived c = numbered_names-derived

pub returns-clause-rule : goal.returns-clause-rule
returns-clause-rule c = numbered_names-rule

pub returns-clause-universe_undef : goal.returns-clause-universe_undef
returns-clause-universe_undef c = numbered_names-universe_undef

pub returns-clause-rule_undef : goal.returns-clause-rule_undef
returns-clause-rule_undef c = numbered_names-rule_undef
