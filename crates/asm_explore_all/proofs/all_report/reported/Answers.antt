use Rattle.std.proofs.Common.{◌≡◌, ◌++◌, Bor, List, ℕ, inl, subst, true}
use Rattle.std.specs.Prelude.{All, option_map}
use Rattle.std.proofs.lemmas.Result.{err_from_is_err_and}
use Rattle.asm_syntax.specs.code.Views.{spec_of}
use Rattle.asm_meaning.specs.Declarations.{specification_of}
use Rattle.asm_explore.specs.Conditions.{condition_holds}
use Rattle.asm_explore.specs.TooManyOutcomes.{IsCrowded}
use Rattle.asm_explore_table.specs.Tables.{is_known}
use Rattle.asm_explore_table.specs.code.StepsMade.{names_said}
use Rattle.asm_explore_all.specs.AllFacts.{quiet_files}
use Rattle.asm_explore_all.specs.AskedQuestions.{IsExplored}
use Rattle.asm_explore_all.specs.DrawnGraphs.{ExplainsDrawing, ExplainsNames, IsDrawn, drawn_in}
use Rattle.asm_explore_all.specs.code.CodedQuestions.{plain}
use Rattle.asm_explore_all.specs.code.GraphFiles.{graph_lines}
use Rattle.asm_explore_all.proofs.GrowingFiles.{makes_both, makes_none}
use Rattle.asm_explore_all.proofs.LeftFiles.{files_of, of_graph, of_names, of_printing, of_script}
use Rattle.asm_explore_all.proofs.PlainQuestions.{asked_plain}
use Rattle.asm_explore_all.proofs.DrawnFiles.{spelled_in}
use Rattle.asm_explore_all.proofs.all_report.reported.Goals as goal

pub draw-requires : goal.draw-requires
draw-requires g c =
    let q = plain c.args.asked.now in
    let s = specification_of q.spec in
    let claims = c.in_ok-answered.ensures in
    spelled_in s q.turns (IsCrowded s q.turns q.outcomes) q.steps q.states (condition_holds q.spec q.always) (condition_holds q.spec q.when_quiet) (condition_holds q.spec q.within) claims.reached
    c.in_ok-answered.answered.finding claims.found

pub returns-in_err-know_names-clause-explained : goal.returns-in_err-know_names-clause-explained
returns-in_err-know_names-clause-explained g c =
    let p = err_from_is_err_and c.from_residual.result c.from_residual.ensures.1 in
    let s = spec_of c.args.asked.now.checked.spec in
    let why = c.in_err-know_names.field-0.0 in
    rw (p.1, p.2) (of_names c.args.text.now c.args.conditions.now c.args.settings.now _ s c.requires.asked.accepted why
    (subst (λ (ns : List (Bor (List ℕ))). ExplainsNames s (names_said ns) why) c.as_slice-names.ensures.value c.in_err-know_names.ensures.explained))

pub returns-in_err-answered-clause-explained : goal.returns-in_err-answered-clause-explained
returns-in_err-answered-clause-explained g c =
    let p = err_from_is_err_and c.from_residual-in_err-answered.result c.from_residual-in_err-answered.ensures.1 in
    rw (p.1, p.2) (inl (makes_none _))

pub returns-in_err-drawing-clause-explained : goal.returns-in_err-drawing-clause-explained
returns-in_err-drawing-clause-explained g c =
    let explored : IsExplored c.args.text.now c.args.conditions.now c.args.settings.now c.in_ok-answered.answered = record { asked = plain c.args.asked.now; is_asked = asked_plain c.all_asked_law.ensures c.args.text.now c.args.conditions.now c.args.settings.now c.args.asked.now c.requires.asked; claims = c.in_ok-answered.ensures } in
    let known = subst (λ (ns : List (Bor (List ℕ))). All (λ name. is_known (plain c.args.asked.now).spec name ≡ true) (names_said ns)) c.as_slice-names.ensures.value c.in_ok-know_names.ensures.known in
    let p = err_from_is_err_and c.from_residual-in_err-drawing.result c.from_residual-in_err-drawing.ensures.1 in
    rw (p.1, p.2) (of_graph c.args.text.now c.args.conditions.now c.args.settings.now c.in_ok-answered.answered explored known _ _ c.in_err-drawing.field-0.0
    (subst (λ (ns : List (Bor (List ℕ))). ExplainsDrawing (plain c.args.asked.now) (names_said ns) (drawn_in c.in_ok-answered.answered.finding) (option_map (λ name. name.now) c.args.settings.now.dot) (g.F.NewFiles.made c.args.files.now) (g.F.NewFiles.made c.draw.new.files) c.in_err-drawing.field-0.0) c.as_slice-names.ensures.value c.in_err-drawing.ensures.explained))

pub returns-in_err-write_script-clause-explained : goal.returns-in_err-write_script-clause-explained
returns-in_err-write_script-clause-explained g c =
    let explored : IsExplored c.args.text.now c.args.conditions.now c.args.settings.now c.in_ok-answered.answered = record { asked = plain c.args.asked.now; is_asked = asked_plain c.all_asked_law.ensures c.args.text.now c.args.conditions.now c.args.settings.now c.args.asked.now c.requires.asked; claims = c.in_ok-answered.ensures } in
    let known = subst (λ (ns : List (Bor (List ℕ))). All (λ name. is_known (plain c.args.asked.now).spec name ≡ true) (names_said ns)) c.as_slice-names.ensures.value c.in_ok-know_names.ensures.known in
    let drawn = c.in_ok-drawing.ensures.drawn in
    let is_drawn = subst (λ (ns : List (Bor (List ℕ))). IsDrawn (plain c.args.asked.now) (names_said ns) (drawn_in c.in_ok-answered.answered.finding) (option_map (λ name. name.now) c.args.settings.now.dot) (graph_lines c.in_ok-drawing.drawing) drawn.0) c.as_slice-names.ensures.value drawn.2 in
    let p = err_from_is_err_and c.from_residual-in_err-write_script.result c.from_residual-in_err-write_script.ensures.1 in
    rw (p.1, p.2) (of_script c.args.text.now c.args.conditions.now c.args.settings.now c.in_ok-answered.answered explored known _ _ _ (graph_lines c.in_ok-drawing.drawing) drawn.0 is_drawn drawn.1
    c.in_err-write_script.field-0.0 c.in_err-write_script.ensures.explained)

pub returns-in_err-text-clause-explained : goal.returns-in_err-text-clause-explained
returns-in_err-text-clause-explained g c =
    let explored : IsExplored c.args.text.now c.args.conditions.now c.args.settings.now c.in_ok-answered.answered = record { asked = plain c.args.asked.now; is_asked = asked_plain c.all_asked_law.ensures c.args.text.now c.args.conditions.now c.args.settings.now c.args.asked.now c.requires.asked; claims = c.in_ok-answered.ensures } in
    let known = subst (λ (ns : List (Bor (List ℕ))). All (λ name. is_known (plain c.args.asked.now).spec name ≡ true) (names_said ns)) c.as_slice-names.ensures.value c.in_ok-know_names.ensures.known in
    let drawn = c.in_ok-drawing.ensures.drawn in
    let is_drawn = subst (λ (ns : List (Bor (List ℕ))). IsDrawn (plain c.args.asked.now) (names_said ns) (drawn_in c.in_ok-answered.answered.finding) (option_map (λ name. name.now) c.args.settings.now.dot) (graph_lines c.in_ok-drawing.drawing) drawn.0) c.as_slice-names.ensures.value drawn.2 in
    let p = err_from_is_err_and c.from_residual-in_err-text.result c.from_residual-in_err-text.ensures.1 in
    rw (p.1, p.2) (of_printing c.args.text.now c.args.conditions.now c.args.settings.now c.in_ok-answered.answered explored known _ _ _ (graph_lines c.in_ok-drawing.drawing) drawn.0 is_drawn drawn.1
    c.in_err-text.field-0.0 c.in_ok-write_script.ensures.made)

pub returns-clause-reported : goal.returns-clause-reported
returns-clause-reported g c =
    let asked = c.requires.asked in
    let answer = c.in_ok-answered.answered in
    let drawn = c.in_ok-drawing.ensures.drawn in
    let is_drawn = subst (λ (ns : List (Bor (List ℕ))). IsDrawn (plain c.args.asked.now) (names_said ns) (drawn_in c.in_ok-answered.answered.finding) (option_map (λ name. name.now) c.args.settings.now.dot) (graph_lines c.in_ok-drawing.drawing) drawn.0) c.as_slice-names.ensures.value drawn.2 in
    let quiet = quiet_files (option_map (λ name. name.now) c.args.settings.now.quiet) answer.first_quiet in
    let explored : IsExplored c.args.text.now c.args.conditions.now c.args.settings.now c.in_ok-answered.answered = record { asked = plain c.args.asked.now; is_asked = asked_plain c.all_asked_law.ensures c.args.text.now c.args.conditions.now c.args.settings.now c.args.asked.now asked; claims = c.in_ok-answered.ensures } in
    let known = subst (λ (ns : List (Bor (List ℕ))). All (λ name. is_known (plain c.args.asked.now).spec name ≡ true) (names_said ns)) c.as_slice-names.ensures.value c.in_ok-know_names.ensures.known in (
      drawn.0 ++ quiet,
      makes_both _ _ _ drawn.0 quiet drawn.1 c.in_ok-write_script.ensures.made,
      record {
        found = files_of c.args.text.now c.args.conditions.now c.args.settings.now answer explored known (graph_lines c.in_ok-drawing.drawing) drawn.0 is_drawn;
        status = c.status_of-status.ensures;
        printed = c.in_ok-text.ensures asked.always.links asked.always.joined;
      },
    )
