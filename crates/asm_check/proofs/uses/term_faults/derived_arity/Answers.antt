use Rattle.std.proofs.Common.{ℕ, Some, ap, ◌∙◌}
use Rattle.std.specs.Prelude.{option_map}
use Rattle.std.proofs.lemmas.List.{length-map}
use Rattle.asm_syntax.specs.code.Views.{name_of}
use Rattle.asm_check.specs.code.uses.TermFaultLists.{arity_of}
use Rattle.asm_check.proofs.uses.term_faults.derived_arity.Goals as goal

pub returns : goal.returns
returns c = ap (option_map arity_of) c.derived.ensures ∙ ap (λ (n : ℕ). Some n) (length-map c.derived.result.0.now name_of)
