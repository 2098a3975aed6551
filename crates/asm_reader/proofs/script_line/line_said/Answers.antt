use Rattle.std.proofs.Common.{arith, ◌∙◌, ap, sym, map}
use Rattle.std.specs.Option.{option_map}
use Rattle.asm_reader.specs.ScriptText.{line_with}
use Rattle.asm_reader.proofs.ScriptLemmas.Fields.{unless_three, of_three, no_step, no_path, no_number}
use Rattle.asm_reader.proofs.script_line.line_said.Goals as goal
use Rattle.asm_reader.proofs.script_line.line_said.Goals.{in_default-via-then-as_slice-lt3, in_default-via-else-as_slice-lt3+else-this-lt4}
use Rattle.asm_reader.proofs.script_line.line_said.Goals.{in_default-2-via-in-Some+in-Some+in_default, in_default-2-via-in-Some+in_default, in_default-2-via-in_default}

pub returns-in_default : goal.returns-in_default
returns-in_default c = unless_three c.args.line.now c.as_slice.result.now (ap (map (λ f. f.now)) c.as_slice.ensures.value ∙ c.in_ok-fields.ensures) (λ e. elim c.in_default.branch [ in_default-via-then-as_slice-lt3 w ↦ grind (arith, e) | in_default-via-else-as_slice-lt3+else-this-lt4 w ↦ grind (arith, e) ])

pub returns-in_default-2 : goal.returns-in_default-2
returns-in_default-2 c =
    let read = of_three c.args.line.now c.as_slice.result.now (ap (map (λ f. f.now)) c.as_slice.ensures.value ∙ c.in_ok-fields.ensures) _ (omega arith) _ _ _ c.when.ensures c.in_ok-path.ensures c.number.ensures in
    let path = option_map (λ numbers. numbers.items) c.in_ok-path.field-0 in
    elim c.in_default-2.branch [
      | in_default-2-via-in-Some+in-Some+in_default w ↦ no_number c.when.result path c.number.result w.in_default-2.is-2 ∙ read
      | in_default-2-via-in-Some+in_default w ↦ no_path c.when.result path c.number.result (ap (option_map (λ numbers. numbers.items)) w.in_default-2.is-1) ∙ read
      | in_default-2-via-in_default w ↦ no_step c.when.result path c.number.result w.in_default-2.is-0 ∙ read
    ]

pub returns : goal.returns
returns c =
    let read = of_three c.args.line.now c.as_slice.result.now (ap (map (λ f. f.now)) c.as_slice.ensures.value ∙ c.in_ok-fields.ensures) _ (omega arith) _ _ _ c.when.ensures c.in_ok-path.ensures c.number.ensures in
    let found = c.in-Some-Some-Some in
    (λ j. line_with (sym found.is-0 j) (option_map (λ numbers. numbers.items) (sym found.is-1 j)) (sym found.is-2 j))
    ∙ read
