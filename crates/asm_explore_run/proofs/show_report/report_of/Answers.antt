use Rattle.std.proofs.Common.{◌≡◌, Bor, List, Option, ℕ, map, subst, true}
use Rattle.std.specs.Prelude.{All, IfNone}
use Rattle.std.proofs.lemmas.Result.{err_from_is_err_and}
use Rattle.asm_syntax.specs.code.Views.{spec_of}
use Rattle.asm_explore_texts.specs.Conditions.{texts_of}
use Rattle.asm_explore_table.specs.Tables.{is_known}
use Rattle.asm_explore_run.specs.ShowReport.{IsWithoutRefusal}
use Rattle.asm_explore_run.proofs.WithoutReport.{of_shown}
use Rattle.asm_explore_run.specs.code.ShownEnds.{end_said}
use Rattle.asm_explore_run.proofs.show_report.report_of.Goals as goal

pub returns-clause-reported : goal.returns-clause-reported
returns-clause-reported g c =
    let found = c.in_ok-broken.ensures.found in
    let report = c.in_ok-report.ensures in
    let tree = spec_of c.args.checked.now.spec in
    record {
      tree = tree;
      accepted = c.requires.accepted;
      script = c.in_ok-script.script;
      spelled = c.in_ok-script.ensures.found;
      terms = found.0;
      asked = found.1;
      known = subst (λ (ns : List (Bor (List ℕ))). All (λ name. is_known tree name ≡ true) (map (λ n. n.now) ns)) c.as_slice.ensures.value
          (subst (λ (o : Option (Bor (List ℕ))). IfNone o (All (λ name. is_known tree name ≡ true) (map (λ n. n.now) c.as_slice.result.now))) c.in-None.is c.in_ok-name.ensures.none);
      end = end_said c.in_ok-end.end;
      is_end = c.in_ok-end.ensures (texts_of c.args.conditions.now) found.0 found.2;
      steps = report.0;
      choices = report.1;
      printed = report.2;
      status = report.3;
    }

pub returns-in_err-end-clause-explained : goal.returns-in_err-end-clause-explained
returns-in_err-end-clause-explained g c =
    let p = err_from_is_err_and c.from_residual-in_err-end.result c.from_residual-in_err-end.ensures.1 in
    let found = c.in_ok-broken.ensures.found in
    let tree = spec_of c.args.checked.now.spec in
    let is : IsWithoutRefusal c.args.text.now c.args.script_text.now c.args.conditions.now c.args.run.now c.args.settings.now = record {
      tree = tree;
      accepted = c.requires.accepted;
      script = c.in_ok-script.script;
      spelled = c.in_ok-script.ensures.found;
      terms = found.0;
      asked = found.1;
      known = subst (λ (ns : List (Bor (List ℕ))). All (λ name. is_known tree name ≡ true) (map (λ n. n.now) ns)) c.as_slice.ensures.value
          (subst (λ (o : Option (Bor (List ℕ))). IfNone o (All (λ name. is_known tree name ≡ true) (map (λ n. n.now) c.as_slice.result.now))) c.in-None.is c.in_ok-name.ensures.none);
    } in
    rw (p.1, p.2) (of_shown c.args.text.now c.args.script_text.now c.args.conditions.now c.args.run.now c.args.settings.now c.in_err-end.field-0.0 is)
