use Rattle.std.proofs.Common.{◌≡◌, ◌∙◌, ◌≤◌, ℕ, List, length, get_or, take, unwrap_or, sym, ap, subst, arith}
use Rattle.std.proofs.lemmas.List.{take_all}
use Rattle.asm_reader.specs.ScriptLines.{exact_choice}
use Rattle.asm_explore.specs.ChoicePoints.{Asking}
use Rattle.asm_explore.specs.RunChoices.{asked_said}
use Rattle.asm_explore.specs.code.AskedPieces.{all_said}
use Rattle.asm_explore.specs.declared.choices.choice_point.ChoicePoint.{ChoicePoint}
use Rattle.asm_random.specs.DrawnNumbers.{drawn_number}
use Rattle.asm_random.specs.code.DraftSteps.{PutsNumber}
use Rattle.asm_random.specs.code.Drafts.{lines_in}
use Rattle.asm_random.proofs.RedrawnLines.{lines_by, one_more, picked}
use Rattle.asm_random.proofs.drawn_step.drawn_numbers.Goals as goal

pub loop-k-preserved : goal.loop-k-preserved
loop-k-preserved c = λ p.
    let s = c.args.source in
    let asked = c.args.asked.now in
    let k = c.loop-k.k in
    let point = c.index-asked-k.result in
    let here : point ≡ get_or asked k point = c.index-asked-k.is in
    let said = ap asked_said here in
    one_more s.seed s.run c.args.step asked_said asked k p c.loop-k.numbers c.put_number.new.numbers c.drawn-number.result point
    (c.drawn-number.ensures ∙ ap (λ (a : Asking). drawn_number s.seed s.run c.args.step a.choice.path (length a.candidates)) said)
    (c.in_ok-put_number.ensures.zero)
    (λ other. subst (λ (path : List ℕ). PutsNumber c.loop-k.numbers c.put_number.new.numbers path c.drawn-number.result) (c.as_slice.ensures ∙ ap (λ (a : Asking). a.choice.path) said)
    (c.in_ok-put_number.ensures.put other))
    c.loop-k-test.true c.requires (c.loop-k.invariant p)

pub returns : goal.returns
returns c = λ p.
    let s = c.args.source in
    let step = c.args.step in
    let asked = c.args.asked.now in
    let end : length asked ≤ c.loop-k.k = omega (arith, c.loop-k-test.false) in
    let whole : take c.loop-k.k asked ≡ asked = take_all c.loop-k.k asked end in
    picked step (lines_in step c.loop-k.numbers.entries) p
    ∙ (c.loop-k.invariant p
    ∙ (ap (λ (xs : List ChoicePoint). unwrap_or (exact_choice (lines_by s.seed s.run step (all_said xs)) step p) 0) whole
    ∙ sym (picked step (lines_by s.seed s.run step (all_said asked)) p)))
