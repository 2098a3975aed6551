use Rattle.std.proofs.Common.{◌∙◌, [], ◌∷◌, ℕ, List, Option, subst, sym}
use Rattle.std.specs.Borrow.{Bor}
use Rattle.std.specs.Prelude.{option_map}
use Rattle.std.specs.String.{string_bytes}
use Rattle.std.proofs.lemmas.Result.{err_from_is_err_and}
use Rattle.asm_explore_table.specs.code.StepsMade.{names_said}
use Rattle.asm_explore_all.specs.DrawnGraphs.{ExplainsDrawing, IsDrawn, IsGraphText, drawn_in, graph_note, run_note}
use Rattle.asm_explore_all.specs.MadeFiles.{MadeFile}
use Rattle.asm_explore_all.specs.code.CodedQuestions.{plain}
use Rattle.asm_explore_all.specs.code.GraphFiles.{IsRunOf, IsTextOf, drawn_of}
use Rattle.asm_explore_all.proofs.DrawnFiles.{explained_text, none_drawn, run_drawn, whole_drawn}
use Rattle.asm_explore_all.proofs.GrowingFiles.{makes_none}
use Rattle.asm_explore_all.proofs.graph_file.draw.Goals as goal

pub returns-in_ok-write-in-Whole-clause-drawn : goal.returns-in_ok-write-in-Whole-clause-drawn
returns-in_ok-write-in-Whole-clause-drawn g c =
    let asked = plain c.args.asked.now in
    let names = names_said c.args.names.now in
    let run = drawn_in c.args.finding.now in
    let name = c.in-Some.name.now in
    let text = string_bytes c.in-Whole.text in
    let of = subst (IsTextOf asked names (drawn_of c.drawn_run.result)) c.in-Whole.is c.in_ok-text.ensures in
    let is : IsGraphText asked names run text = subst (λ r. IsGraphText asked names r text) c.drawn_run.ensures of in
    let made : List MadeFile = (name, text) ∷ [] in (
      made,
      c.in_ok-write-in-Whole.ensures.made,
      subst (λ (file : Option (Bor (List ℕ))). IsDrawn asked names run (option_map (λ n. n.now) file) [] made) (sym c.in-Some.is) (whole_drawn asked names run name text is),
    )

pub returns-in_err-write-in-Whole-clause-explained : goal.returns-in_err-write-in-Whole-clause-explained
returns-in_err-write-in-Whole-clause-explained g c =
    let asked = plain c.args.asked.now in
    let names = names_said c.args.names.now in
    let run = drawn_in c.args.finding.now in
    let name = c.in-Some.name.now in
    let text = string_bytes c.in-Whole.text in
    let old = g.F.NewFiles.made c.args.files.now in
    let new = g.F.NewFiles.made c.write.new.files in
    let of = subst (IsTextOf asked names (drawn_of c.drawn_run.result)) c.in-Whole.is c.in_ok-text.ensures in
    let is : IsGraphText asked names run text = subst (λ r. IsGraphText asked names r text) c.drawn_run.ensures of in
    let why = c.in_err-write-in-Whole.field-0.0 in
    let p = err_from_is_err_and c.from_residual-in_err-write-in-Whole.result c.from_residual-in_err-write-in-Whole.ensures.1 in
    rw (p.1, p.2) (subst (λ (file : Option (Bor (List ℕ))). ExplainsDrawing asked names run (option_map (λ n. n.now) file) old new why) (sym c.in-Some.is)
    (explained_text asked names run name text [] old new (whole_drawn asked names run name text is) why c.in_err-write-in-Whole.ensures.explained))

pub returns-in_err-write-in-Run-clause-explained : goal.returns-in_err-write-in-Run-clause-explained
returns-in_err-write-in-Run-clause-explained g c =
    let asked = plain c.args.asked.now in
    let names = names_said c.args.names.now in
    let run = drawn_in c.args.finding.now in
    let name = c.in-Some.name.now in
    let text = string_bytes c.in-Run.text in
    let old = g.F.NewFiles.made c.args.files.now in
    let new = g.F.NewFiles.made c.write-in-Run.new.files in
    let of = subst (IsTextOf asked names (drawn_of c.drawn_run.result)) c.in-Run.is c.in_ok-text.ensures in
    let is : IsRunOf asked names run text = subst (λ r. IsRunOf asked names r text) c.drawn_run.ensures of.1 in
    let why = c.in_err-write-in-Run.field-0.0 in
    let p = err_from_is_err_and c.from_residual-in_err-write-in-Run.result c.from_residual-in_err-write-in-Run.ensures.1 in
    rw (p.1, p.2) (subst (λ (file : Option (Bor (List ℕ))). ExplainsDrawing asked names run (option_map (λ n. n.now) file) old new why) (sym c.in-Some.is)
    (explained_text asked names run name text (run_note ∷ []) old new (run_drawn asked names run name text of.0 is) why c.in_err-write-in-Run.ensures.explained))

pub returns-in-TooMany-clause-drawn : goal.returns-in-TooMany-clause-drawn
returns-in-TooMany-clause-drawn g c =
    let asked = plain c.args.asked.now in
    let names = names_said c.args.names.now in
    let run = drawn_in c.args.finding.now in
    let of = subst (IsTextOf asked names (drawn_of c.drawn_run.result)) c.in-TooMany.is c.in_ok-text.ensures in (
      [],
      makes_none _,
      subst (λ (file : Option (Bor (List ℕ))). IsDrawn asked names run (option_map (λ n. n.now) file) (graph_note ∷ []) []) (sym c.in-Some.is)
          (none_drawn asked names run c.in-Some.name.now of.0 (sym c.drawn_run.ensures ∙ of.1)),
    )
