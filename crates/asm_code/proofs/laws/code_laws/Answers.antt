use Rattle.asm_code.proofs.CodeForms.{code_laws-constant_form, code_laws-local_form, code_laws-cell_form, code_laws-row_form, code_laws-grid_form, code_laws-held_form, code_laws-derived_form, code_laws-with_form, code_laws-both_form, code_laws-chain_form, code_laws-exists_form, code_laws-every_form, code_laws-count_of_codes}
use Rattle.asm_code.proofs.laws.code_laws.Goals as goal

pub returns-clause-constant_form : goal.returns-clause-constant_form
returns-clause-constant_form c = code_laws-constant_form

pub returns-clause-local_form : goal.returns-clause-local_form
returns-clause-local_form c = code_laws-local_form

pub returns-clause-cell_form : goal.returns-clause-cell_form
returns-clause-cell_form c = code_laws-cell_form

pub returns-clause-row_form : goal.returns-clause-row_form
returns-clause-row_form c = code_laws-row_form

pub returns-clause-grid_form : goal.returns-clause-grid_form
returns-clause-grid_form c = code_laws-grid_form

pub returns-clause-held_form : goal.returns-clause-held_form
returns-clause-held_form c = code_laws-held_form

pub returns-clause-derived_form : goal.returns-clause-derived_form
returns-clause-derived_form c = code_laws-derived_form

pub returns-clause-with_form : goal.returns-clause-with_form
returns-clause-with_form c = code_laws-with_form

pub returns-clause-both_form : goal.returns-clause-both_form
returns-clause-both_form c = code_laws-both_form

pub returns-clause-chain_form : goal.returns-clause-chain_form
returns-clause-chain_form c = code_laws-chain_form

pub returns-clause-exists_form : goal.returns-clause-exists_form
returns-clause-exists_form c = code_laws-exists_form

pub returns-clause-every_form : goal.returns-clause-every_form
returns-clause-every_form c = code_laws-every_form

pub returns-clause-count_of_codes : goal.returns-clause-count_of_codes
returns-clause-count_of_codes c = code_laws-count_of_codes
