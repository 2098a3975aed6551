use Rattle.std.proofs.Common.{◌≡◌, ◌==◌, ap, sym, subst, ◌∙◌, map, arith}
use Rattle.std.proofs.lemmas.Result.{IfErr-weaker}
use Rattle.asm_syntax.specs.declared.input_error.InputError.TheVariants.{Memory}
use Rattle.asm_reader.specs.code.PathNumbers.{Says}
use Rattle.asm_reader.specs.ScriptRefusals.{ExplainsScript}
use Rattle.asm_reader.specs.code.LinesSaid.{bytes_in}
use Rattle.asm_reader.specs.ScriptText.{IsScript, lines_of, script_in}
use Rattle.asm_reader.proofs.ScriptLemmas.FirstFaults.{lines_read, script_read, refusal_handed, only_memory}
use Rattle.asm_reader.proofs.ScriptLemmas.Sizes.{split_bytes}
use Rattle.asm_reader.proofs.script_reading.read_script.Goals as goal

pub read_lines-requires : goal.read_lines-requires
read_lines-requires c =
    let are_lines = ap bytes_in (ap (map (λ p. p.now)) c.as_slice.ensures.value ∙ c.in_ok-lines.ensures) in
    omega (arith, are_lines, split_bytes (λ b. b == 10) c.args.text.now)

pub returns-in_err-places-clause-refused : goal.returns-in_err-places-clause-refused
returns-in_err-places-clause-refused c =
    let are_lines = lines_read c.as_slice.result.now c.args.text.now (ap (map (λ p. p.now)) c.as_slice.ensures.value ∙ c.in_ok-lines.ensures) in
    refusal_handed c.args.text.now _ are_lines (omega arith) c.from_residual-in_err-places.result c.in_err-places.field-0.0 c.from_residual-in_err-places.ensures.1 c.in_err-places.ensures.refused

pub returns-in_err-places-clause-accepted : goal.returns-in_err-places-clause-accepted
returns-in_err-places-clause-accepted c s spelled =
    IfErr-weaker _ (ExplainsScript c.args.text.now) (λ e. e ≡ Memory) (only_memory c.args.text.now s spelled) (returns-in_err-places-clause-refused c)

pub invariant_of-result : goal.invariant_of-result
invariant_of-result c =
    let are_lines = lines_read c.as_slice.result.now c.args.text.now (ap (map (λ p. p.now)) c.as_slice.ensures.value ∙ c.in_ok-lines.ensures) in
    let copied = c.in_ok-to_vec.ensures.items_if_clones_equal (λ x y same. same) in
    subst (λ text. Says c.in_ok-places.places (script_in (lines_of text))) (sym copied) (subst (λ lines. Says c.in_ok-places.places (script_in lines)) are_lines c.in_ok-places.ensures.says)

pub returns-clause-found : goal.returns-clause-found
returns-clause-found c =
    let are_lines = lines_read c.as_slice.result.now c.args.text.now (ap (map (λ p. p.now)) c.as_slice.ensures.value ∙ c.in_ok-lines.ensures) in
    let copied = c.in_ok-to_vec.ensures.items_if_clones_equal (λ x y same. same) in
    subst (λ text. IsScript c.args.text.now (script_in (lines_of text))) (sym copied) (script_read c.args.text.now _ are_lines (omega arith) c.in_ok-places.ensures.faultless)
