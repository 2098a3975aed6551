use Rattle.asm_code.proofs.RuleForms.{rule_laws-skip_form, rule_laws-assign_form, rule_laws-par_form, rule_laws-seq_form, rule_laws-if_form, rule_laws-let_form, rule_laws-forall_form, rule_laws-choose_form, rule_laws-iterate_form, rule_laws-call_form}
use Rattle.asm_code.proofs.laws.rule_laws.Goals as goal

pub returns-clause-skip_form : goal.returns-clause-skip_form
returns-clause-skip_form c = rule_laws-skip_form

pub returns-clause-assign_form : goal.returns-clause-assign_form
returns-clause-assign_form c = rule_laws-assign_form

pub returns-clause-par_form : goal.returns-clause-par_form
returns-clause-par_form c = rule_laws-par_form

pub returns-clause-seq_form : goal.returns-clause-seq_form
returns-clause-seq_form c = rule_laws-seq_form

pub returns-clause-if_form : goal.returns-clause-if_form
returns-clause-if_form c = rule_laws-if_form

pub returns-clause-let_form : goal.returns-clause-let_form
returns-clause-let_form c = rule_laws-let_form

pub returns-clause-forall_form : goal.returns-clause-forall_form
returns-clause-forall_form c = rule_laws-forall_form

pub returns-clause-choose_form : goal.returns-clause-choose_form
returns-clause-choose_form c = rule_laws-choose_form

pub returns-clause-iterate_form : goal.returns-clause-iterate_form
returns-clause-iterate_form c = rule_laws-iterate_form

pub returns-clause-call_form : goal.returns-clause-call_form
returns-clause-call_form c = rule_laws-call_form
