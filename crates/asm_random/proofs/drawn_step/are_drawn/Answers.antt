use Rattle.std.proofs.Common.{◌≡◌, ◌∙◌, ℕ, zero, suc, ◌<◌, List, [], ◌∷◌, length, get_or, refl, sym, ap, subst, arith}
use Rattle.asm_explore.specs.RunChoices.{asked_said}
use Rattle.asm_explore.specs.declared.choices.choice_point.ChoicePoint.{ChoicePoint}
use Rattle.asm_random.specs.DrawnTexts.{IsDrawn}
use Rattle.asm_random.proofs.EachDrawn.{each_at, each_more}
use Rattle.asm_random.proofs.drawn_step.are_drawn.Goals as goal

-- whatever stands for one behind the end
one_element : {X : Type 0} (xs : List X) (k : ℕ) (d e : X) → k < length xs → get_or xs k d ≡ get_or xs k e
one_element [] k d e low = absurd (omega (arith, low))
one_element (x ∷ xs) zero d e low = refl
one_element (x ∷ xs) (suc k) d e low = let less : k < length xs = omega (arith, low) in one_element xs k d e less

pub returns-then-asked-k-clause-undrawn : goal.returns-then-asked-k-clause-undrawn
returns-then-asked-k-clause-undrawn c = λ so are.
    let asked = c.args.asked.now in
    let k = c.loop-k.k in
    let low = c.loop-k-test.true in
    let here = c.index-asked-k-in-loop-k.result in
    let drawn = IsDrawn c.args.source.seed c.args.source.run c.args.step in
    let same : get_or asked k c.index-asked-k.result ≡ here = one_element asked k c.index-asked-k.result here low ∙ sym c.index-asked-k-in-loop-k.is in
    let at = subst (λ (point : ChoicePoint). drawn (asked_said point)) (sym c.index-asked-k-in-loop-k.is) (each_at drawn asked_said asked k here low are) in
    c.if-asked-k.true (ap (λ (point : ChoicePoint). point.choice.number) same ∙ (at ∙ sym c.drawn.ensures))

pub loop-k-preserved : goal.loop-k-preserved
loop-k-preserved c =
    let asked = c.args.asked.now in
    let k = c.loop-k.k in
    let low = c.loop-k-test.true in
    let here = c.index-asked-k-in-loop-k.result in
    let drawn = IsDrawn c.args.source.seed c.args.source.run c.args.step in
    let same : get_or asked k c.index-asked-k.result ≡ here = one_element asked k c.index-asked-k.result here low ∙ sym c.index-asked-k-in-loop-k.is in
    let at : here.choice.number ≡ c.drawn.result = ap (λ (point : ChoicePoint). point.choice.number) (sym same) ∙ c.if-asked-k.false in
    each_more drawn asked_said asked k here low c.loop-k.invariant (subst (λ (point : ChoicePoint). drawn (asked_said point)) c.index-asked-k-in-loop-k.is (at ∙ c.drawn.ensures))
