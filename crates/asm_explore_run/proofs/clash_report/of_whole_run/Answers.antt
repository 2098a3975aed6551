use Rattle.std.proofs.Common.{◌∙◌, refl}
use Rattle.asm_syntax.specs.code.Views.{spec_of}
use Rattle.asm_explore_run.specs.ClashText.{greatest_shown}
use Rattle.asm_explore_run.specs.RunReport.{run_asked}
use Rattle.asm_explore_run.proofs.RunStatuses.{clash_told, found_of_count}
use Rattle.asm_explore_run.proofs.clash_report.of_whole_run.Goals as goal

pub printed-requires : goal.printed-requires
printed-requires g c =
    let tree = spec_of c.args.checked.now.spec in
    let settings = c.args.settings.now in
    let script = c.args.script.now in
    found_of_count tree settings.turns script (run_asked tree settings script) c.in_ok-clash.clash c.in_ok-clash.ensures

pub returns : goal.returns
returns g c = λ terms held.
    let tree = spec_of c.args.checked.now.spec in
    let settings = c.args.settings.now in
    let script = c.args.script.now in
    let clash = c.in_ok-clash.clash in
    let ends = c.in_ok-told.ensures script c.requires.spelled in
    record {
      first = c.in_ok-told.told.line.items;
      whole = record { held = held; tells = ends.1; none = refl };
      clash = clash;
      ends = c.in_ok-clash.ensures;
      end = c.in_ok-told.told.end;
      answered = ends.0;
      printed = c.in_ok-text.ensures;
      status = c.status_of-status.ensures ∙ clash_told tree settings.turns script greatest_shown (run_asked tree settings script) clash c.in_ok-clash.ensures;
    }
