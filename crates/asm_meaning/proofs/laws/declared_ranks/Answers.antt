use Rattle.asm_meaning.proofs.RanksInPrograms.{declared_ranks-derived, declared_ranks-derived_low, declared_ranks-rules, declared_ranks-rule_low}
use Rattle.asm_meaning.proofs.laws.declared_ranks.Goals as goal

pub returns-clause-derived : goal.returns-clause-derived
returns-clause-derived c = declared_ranks-derived

pub returns-clause-derived_low : goal.returns-clause-derived_low
returns-clause-derived_low c = declared_ranks-derived_low

pub returns-clause-rules : goal.returns-clause-rules
returns-clause-rules c = declared_ranks-rules

pub returns-clause-rule_low : goal.returns-clause-rule_low
returns-clause-rule_low c = declared_ranks-rule_low
