-- Free. What is said of the end of a run that is returned.
--     words_told       its words
--     limit_told       the line of a run that makes all its steps
--     step_told        the line of another one
use Rattle.std.proofs.Common.{◌≡◌, ℕ, List, Some, None, refl, sym, ap, ◌∙◌}
use Rattle.asm_state.specs.Location.{Proper}
use Rattle.asm_state.specs.Updates as updates
use Rattle.asm_meaning.specs.Run as run
use Rattle.asm_meaning.specs.Run.{AtExhausted, AtFault, AtLimit}
use Rattle.asm_run.specs.Ends.{end_words, step_of}
use Rattle.asm_run.specs.Headline.{IsReturned}
use Rattle.asm_run.specs.Trace.{TraceNames}
use Rattle.asm_run.specs.declared.end.End.{End}
use Rattle.asm_run.specs.declared.end.End.TheVariants.{Clash, Exhausted, Limit, Outside}
use Rattle.asm_explore_report.specs.EndWords.{IsEndWords, IsRunLine, limit_line, step_line}

pub words_told : (names : TraceNames) (e : run.End) (answer : End) → IsReturned e answer → IsEndWords names e (end_words names answer)
words_told names AtLimit answer is = ap (end_words names) is
words_told names (AtExhausted i p) answer is = ap (end_words names) is
words_told names (AtFault i U) Limit is = absurd is
words_told names (AtFault i U) (Exhausted j p) is = absurd is
words_told names (AtFault i U) (Clash j f vs least greatest) is = (updates.Clash (Proper f vs) (record { least = least; greatest = greatest }), is.1, refl)
words_told names (AtFault i U) (Outside j f) is = (updates.Outside f, is.1, refl)

pub limit_told : (names : TraceNames) (steps : ℕ) (e : run.End) (answer : End) (line : List ℕ) → step_of answer ≡ None → IsReturned e answer
    → line ≡ limit_line steps → IsRunLine names steps e line
limit_told names steps AtLimit answer line none is l = l
limit_told names steps (AtExhausted i p) answer line none is l = let bad : None ≡ Some i = sym none ∙ ap step_of is in cc
limit_told names steps (AtFault i U) Limit line none is l = absurd is
limit_told names steps (AtFault i U) (Exhausted j p) line none is l = absurd is
limit_told names steps (AtFault i U) (Clash j f vs least greatest) line none is l = cc
limit_told names steps (AtFault i U) (Outside j f) line none is l = cc

-- the step of what is returned is that of the end
step_same : (i j k : ℕ) → Some j ≡ Some k → j ≡ i → k ≡ i
step_same i j k some is = cc

pub step_told : (names : TraceNames) (steps step : ℕ) (e : run.End) (answer : End) (line : List ℕ) → step_of answer ≡ Some step → IsReturned e answer
    → line ≡ step_line step (end_words names answer) → IsRunLine names steps e line
step_told names steps step AtLimit answer line some is l = let bad : Some step ≡ None = sym some ∙ ap step_of is in cc
step_told names steps step (AtExhausted i p) answer line some is l =
    let at : Some step ≡ Some i = sym some ∙ ap step_of is in
    let same : step ≡ i = cc in
    (end_words names answer, words_told names (AtExhausted i p) answer is, l ∙ ap (λ k. step_line k (end_words names answer)) same)
step_told names steps step (AtFault i U) Limit line some is l = absurd is
step_told names steps step (AtFault i U) (Exhausted j p) line some is l = absurd is
step_told names steps step (AtFault i U) (Clash j f vs least greatest) line some is l =
    let words = end_words names (Clash j f vs least greatest) in
    (words, words_told names (AtFault i U) (Clash j f vs least greatest) is, l ∙ ap (λ k. step_line k words) (step_same i j step some is.0))
step_told names steps step (AtFault i U) (Outside j f) line some is l =
    let words = end_words names (Outside j f) in
    (words, words_told names (AtFault i U) (Outside j f) is, l ∙ ap (λ k. step_line k words) (step_same i j step some is.0))
