use Rattle.std.proofs.Common.{Some, refl, subst, sym}
use Rattle.asm_graph.specs.Paths.{run_edges}
use Rattle.asm_explore_all.specs.DrawnGraphs.{IsRed}
use Rattle.asm_explore_all.specs.code.GraphFiles.{drawn, drawn_of}
use Rattle.asm_explore_all.proofs.graph_file.marks_of.Goals as goal

pub returns-in_ok-marks-in-Some : goal.returns-in_ok-marks-in-Some
returns-in_ok-marks-in-Some c =
    let run = c.in-Some.run' in
    let steps = c.args.graph.now.steps.items in
    let script = c.in_ok-script-in-Some.script in
    let path = run_edges steps script run.shown.steps in
    let red : IsRed (Some (drawn run)) steps path = (script, c.in_ok-script-in-Some.ensures, refl) in
    (path, subst (λ r. IsRed (drawn_of r) steps path) (sym c.in-Some.is) red, c.in_ok-marks-in-Some.ensures)
