use Rattle.std.proofs.Common.{inl, inr, subst, ap, ◌∙◌}
use Rattle.std.proofs.lemmas.Option.{IfSome_then}
use Rattle.std.proofs.lemmas.Result.{err_from_is_err_and}
use Rattle.asm_explore_texts.specs.RunNumbers.{with_numbers}
use Rattle.asm_explore_tool.specs.Faults.{source_in}
use Rattle.asm_explore_tool.specs.GivenTexts.{IsScriptOfRun, IsUndrawn}
use Rattle.asm_explore_tool.proofs.GivenSources.{unread_files}
use Rattle.asm_explore_tool.proofs.run_texts.given_run.Goals as goal

pub returns-clause-given : goal.returns-clause-given
returns-clause-given g c =
    let texts = c.in_ok-text.field-0 in
    let conditions = c.in_ok-conditions.conditions.items in
    let run = c.with_numbers-run.result in
    let script = c.in_ok-script.script.items in
    record {
      script_given = texts.script.items;
      are_texts = c.in_ok-text.ensures.texts;
      given = c.in_ok-conditions.ensures.given;
      is_run = c.with_numbers-run.ensures ∙ ap (with_numbers c.args.settings.now) c.as_slice.ensures.value;
      is_script = subst (λ cs. IsScriptOfRun run texts.text.items cs texts.script.items script) c.as_slice-asked.ensures.value
          (subst (λ t. IsScriptOfRun run t c.as_slice-asked.result.now texts.script.items script) c.as_slice-bytes.ensures.value c.in_ok-script.ensures.script);
    }

pub returns-in_err-text-clause-explained : goal.returns-in_err-text-clause-explained
returns-in_err-text-clause-explained g c =
    let p = err_from_is_err_and c.from_residual.result c.from_residual.ensures.1 in
    let h = c.in_err-text.ensures.unread in
    rw (p.1, p.2) (inl (IfSome_then (source_in c.in_err-text.field-0.0) h.0 (λ s is. inl is), h.1))

pub returns-in_err-conditions-clause-explained : goal.returns-in_err-conditions-clause-explained
returns-in_err-conditions-clause-explained g c =
    let p = err_from_is_err_and c.from_residual-in_err-conditions.result c.from_residual-in_err-conditions.ensures.1 in
    rw (p.1, p.2) (inl (unread_files c.args.settings.now c.args.names.now c.in_err-conditions.field-0.0 c.in_err-conditions.ensures.unread))

pub returns-in_err-script-clause-explained : goal.returns-in_err-script-clause-explained
returns-in_err-script-clause-explained g c =
    let p = err_from_is_err_and c.from_residual-in_err-script.result c.from_residual-in_err-script.ensures.1 in
    let texts = c.in_ok-text.field-0 in
    let fault = c.in_err-script.field-0.0 in
    let run = c.with_numbers-run.ensures ∙ ap (with_numbers c.args.settings.now) c.as_slice.ensures.value in
    rw (p.1, p.2) (inr (record {
      text = texts.text.items;
      script_given = texts.script.items;
      are_texts = c.in_ok-text.ensures.texts;
      conditions = c.in_ok-conditions.conditions.items;
      given = c.in_ok-conditions.ensures.given;
      undrawn = subst (λ r. IsUndrawn r texts.text.items c.in_ok-conditions.conditions.items fault) run
          (subst (λ cs. IsUndrawn c.with_numbers-run.result texts.text.items cs fault) c.as_slice-asked.ensures.value
          (subst (λ t. IsUndrawn c.with_numbers-run.result t c.as_slice-asked.result.now fault) c.as_slice-bytes.ensures.value c.in_err-script.ensures.undrawn));
    }))
