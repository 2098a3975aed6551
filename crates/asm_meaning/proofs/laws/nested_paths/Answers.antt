use Rattle.asm_meaning.proofs.NestedPaths.{nested_paths-behind_is_within, nested_paths-descent_is_within, nested_paths-parts, nested_paths-in_order, nested_paths-turns, nested_paths-elements, nested_paths-one_of}
use Rattle.asm_meaning.proofs.BesideLemmas.ExhaustedPaths.{nested_paths-first}
use Rattle.asm_meaning.proofs.laws.nested_paths.Goals as goal

pub returns-clause-behind_is_within : goal.returns-clause-behind_is_within
returns-clause-behind_is_within c = nested_paths-behind_is_within

pub returns-clause-descent_is_within : goal.returns-clause-descent_is_within
returns-clause-descent_is_within c = nested_paths-descent_is_within

pub returns-clause-parts : goal.returns-clause-parts
returns-clause-parts c = nested_paths-parts

pub returns-clause-in_order : goal.returns-clause-in_order
returns-clause-in_order c = nested_paths-in_order

pub returns-clause-turns : goal.returns-clause-turns
returns-clause-turns c = nested_paths-turns

pub returns-clause-elements : goal.returns-clause-elements
returns-clause-elements c = nested_paths-elements

pub returns-clause-one_of : goal.returns-clause-one_of
returns-clause-one_of c = nested_paths-one_of

pub returns-clause-first : goal.returns-clause-first
returns-clause-first c = nested_paths-first
