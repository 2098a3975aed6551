use Rattle.std.proofs.Common.{◌≡◌, ◌∙◌, ◌+◌, ℕ, suc, Bool, true, false, List, [], ◌∷◌, length, refl, sym, ap, subst, arith, Vec, Global}
use Rattle.std.specs.Prelude.{not}
use Rattle.std.proofs.lemmas.Grind.{common_steps}
use Rattle.asm_state.specs.Signature.{state_of}
use Rattle.asm_reader.specs.ExactLines.{exactly}
use Rattle.asm_reader.specs.ScriptLines.{Script, pick}
use Rattle.asm_meaning.specs.Program.{nothing_bound}
use Rattle.asm_state.specs.Location.{State}
use Rattle.asm_explore.specs.ChoicePoints.{Asking, choices_of}
use Rattle.asm_explore.specs.TakenChoices.{HaveOwnPaths}
use Rattle.asm_explore.specs.code.AskedPieces.{all_said}
use Rattle.asm_explore.specs.declared.choices.choice_point.ChoicePoint.{ChoicePoint}
use Rattle.asm_random.specs.DrawnTexts.{AreDrawn, IsUndrawnAfter, most_rounds}
use Rattle.asm_random.specs.code.DraftSteps.{AddsStep, TakeAs}
use Rattle.asm_random.specs.code.Drafts.{draft_lines, lines_in}
use Rattle.asm_random.specs.code.DrawnSteps.{asked_under}
use Rattle.asm_random.specs.code.ResolvedRuns.{shape_in, specification_in}
use Rattle.asm_random.specs.declared.draft.Draft.{Draft}
use Rattle.asm_random.proofs.ChoicelessSteps.{same_for_all}
use Rattle.asm_random.proofs.RedrawnLines.{lines_by}
use Rattle.asm_random.proofs.SettledRounds.{last_round, longer, next_round, no_round, picked_last, settled}
use Rattle.asm_random.proofs.drawn_step.draw_step.Goals as goal

nothing_left : {X : Type 0} (xs : List X) → length xs ≡ 0 → xs ≡ []
nothing_left [] h = refl
nothing_left (x ∷ xs) h = absurd (omega (arith, h))

is_so : (b : Bool) → not b ≡ false → b ≡ true
is_so true h = refl
is_so false h = sym h

pub loop-round-init : goal.loop-round-init
loop-round-init c =
    let m = c.args.specified.now in
    let s = c.args.source in
    let d = c.args.draft.now in
    let e : Draft = record { steps = c.push.new.self } in
    let step = c.len-step.result in
    let adds : AddsStep d e = (c.new.result, c.in_ok-push.ensures.items) in
    let count : step ≡ 1 + length d.steps.items = omega (arith, c.len-step.ensures, c.push.new.self.ok.0, longer d e adds) in
    record {
      adds = adds;
      has = no_round (specification_in m) m.turns s.seed s.run step (state_of (shape_in m) c.args.state.now) (exactly (draft_lines e))
          (λ p. picked_last d e c.new.result step p adds.1 count ∙ ap (λ (es : List (Vec ℕ Global × ℕ)). pick (exactly (lines_in step es)) step p) c.new.ensures.empty);
    }

pub drawn_numbers-requires : goal.drawn_numbers-requires
drawn_numbers-requires c =
    let m = c.args.specified.now in
    let spec = specification_in m in
    let said = ap all_said c.as_slice-in-loop-round.ensures.value ∙ c.in_ok-asked.ensures in
    subst (λ (xs : List Asking). HaveOwnPaths (choices_of xs)) (sym said)
    (c.making_laws.ensures spec.program m.turns (exactly (draft_lines c.loop-round.draft)) c.len-step.result (state_of (shape_in m) c.args.state.now) nothing_bound [] spec.main).placed.apart

pub loop-round-preserved : goal.loop-round-preserved
loop-round-preserved c =
    let m = c.args.specified.now in
    let s = c.args.source in
    let d = c.args.draft.now in
    let e = c.replace_last.new.draft in
    let step = c.len-step.result in
    let round = c.loop-round._round in
    let pushed : Draft = record { steps = c.push.new.self } in
    let first : AddsStep d pushed = (c.new.result, c.in_ok-push.ensures.items) in
    let count : step ≡ 1 + length d.steps.items = omega (arith, c.len-step.ensures, c.push.new.self.ok.0, longer d pushed first) in
    let adds : AddsStep d e = (c.in_ok-numbers.numbers, c.in_ok-replace_last.ensures d.steps.items c.loop-round.invariant.adds.0 c.loop-round.invariant.adds.1) in
    let take = subst (λ (xs : List ChoicePoint). TakeAs step c.in_ok-numbers.numbers (lines_by s.seed s.run step (all_said xs))) c.as_slice-in-loop-round.ensures.value c.in_ok-numbers.ensures in
    let next : round + 1 ≡ suc round = omega arith in
    record {
      adds = adds;
      has = next_round (specification_in m) m.turns s.seed s.run step (state_of (shape_in m) c.args.state.now) (exactly (draft_lines c.loop-round.draft)) (exactly (draft_lines e)) round (round + 1)
          (all_said c.in_ok-asked.asked.items) c.loop-round.invariant.has c.in_ok-asked.ensures next (λ p. picked_last d e c.in_ok-numbers.numbers step p adds.1 count ∙ take p);
    }

pub returns-then-settled-clause-adds : goal.returns-then-settled-clause-adds
returns-then-settled-clause-adds c = (c.in_ok-numbers.numbers, c.in_ok-replace_last.ensures c.args.draft.now.steps.items c.loop-round.invariant.adds.0 c.loop-round.invariant.adds.1)

pub returns-then-settled-clause-undrawn : goal.returns-then-settled-clause-undrawn
returns-then-settled-clause-undrawn c = λ undrawn _.
    let m = c.args.specified.now in
    let spec = specification_in m in
    let s = c.args.source in
    let d = c.args.draft.now in
    let e = c.replace_last.new.draft in
    let step = c.len-step.result in
    let pushed : Draft = record { steps = c.push.new.self } in
    let first : AddsStep d pushed = (c.new.result, c.in_ok-push.ensures.items) in
    let count : step ≡ 1 + length d.steps.items = omega (arith, c.len-step.ensures, c.push.new.self.ok.0, longer d pushed first) in
    let adds : AddsStep d e = (c.in_ok-numbers.numbers, c.in_ok-replace_last.ensures d.steps.items c.loop-round.invariant.adds.0 c.loop-round.invariant.adds.1) in
    let take = subst (λ (xs : List ChoicePoint). TakeAs step c.in_ok-numbers.numbers (lines_by s.seed s.run step (all_said xs))) c.as_slice-in-loop-round.ensures.value c.in_ok-numbers.ensures in
    let drawn = subst (λ (xs : List ChoicePoint). AreDrawn s.seed s.run step (all_said xs)) c.as_slice.ensures.value (c.are_drawn-settled.ensures.drawn c.if-settled.true) in
    let are = settled spec m.turns s.seed s.run step (state_of (shape_in m) c.args.state.now) (λ (t : Script) (k : ℕ) (B : State). c.making_laws.ensures spec.program m.turns t k B nothing_bound [] spec.main)
    (exactly (draft_lines c.loop-round.draft)) (exactly (draft_lines e)) (all_said c.in_ok-asked.asked.items) c.in_ok-asked.ensures drawn
    (λ p. picked_last d e c.in_ok-numbers.numbers step p adds.1 count ∙ take p) in
    undrawn (subst (λ (k : ℕ). AreDrawn s.seed s.run k (asked_under m e c.args.state.now k)) (count ∙ sym (longer d e adds)) are)

pub returns-then-settled-clause-alike : goal.returns-then-settled-clause-alike
returns-then-settled-clause-alike c = λ unchosen.
    let m = c.args.specified.now in
    let count : length c.in_ok-asked.asked.items ≡ 0 = grind (arith, common_steps, sym c.is_empty.ensures ∙ is_so c.is_empty.result unchosen) in
    let none : c.in_ok-asked.asked.items ≡ [] = nothing_left c.in_ok-asked.asked.items count in
    same_for_all c.told_outcomes.ensures (specification_in m) m.turns _ _ (state_of (shape_in m) c.args.state.now) (c.making_laws.ensures _ m.turns _ _ _ _ _ _) (sym c.in_ok-asked.ensures ∙ ap all_said none)

pub returns-clause-undrawn : goal.returns-clause-undrawn
returns-clause-undrawn c = λ undrawn.
    let m = c.args.specified.now in
    let s = c.args.source in
    let d = c.args.draft.now in
    let e = c.loop-round.draft in
    let step = c.len-step.result in
    let A = state_of (shape_in m) c.args.state.now in
    let pushed : Draft = record { steps = c.push.new.self } in
    let first : AddsStep d pushed = (c.new.result, c.in_ok-push.ensures.items) in
    let count : step ≡ 1 + length d.steps.items = omega (arith, c.len-step.ensures, c.push.new.self.ok.0, longer d pushed first) in
    let all : c.loop-round._round ≡ most_rounds = omega (arith, c.loop-round-test.false, c.loop-round.auto._round-end) in
    let numbered = count ∙ sym (longer d e c.loop-round.invariant.adds) in
    subst (λ (k : ℕ). IsUndrawnAfter (specification_in m) m.turns s.seed s.run k A most_rounds) numbered
    (last_round (specification_in m) m.turns s.seed s.run step A (exactly (draft_lines e)) c.loop-round._round most_rounds c.loop-round.invariant.has all
    (λ are. undrawn (subst (λ (k : ℕ). AreDrawn s.seed s.run k (asked_under m e c.args.state.now k)) numbered are)))
