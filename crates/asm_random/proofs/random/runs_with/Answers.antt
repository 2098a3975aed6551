use Rattle.std.proofs.Common.{subst}
use Rattle.std.specs.Prelude.{IfOk}
use Rattle.asm_syntax.specs.code.Views.{spec_of}
use Rattle.asm_check.specs.Shapes.{shape_of}
use Rattle.asm_meaning.specs.Declarations.{specification_of}
use Rattle.asm_explore.specs.code.ResolvedConditions.{term_holds, holds_in}
use Rattle.asm_explore.specs.code.MainRule.{IsMainOverLimit}
use Rattle.asm_random.specs.RandomResults.{Claims, Counts}
use Rattle.asm_random.proofs.random.runs_with.Goals as goal

pub invariant_of-specified : goal.invariant_of-specified
invariant_of-specified g c = record { turns_in_range = c.args.question.now.turns_in_range }

pub result_of_runs-requires : goal.result_of_runs-requires
result_of_runs-requires g c = record {
  main = c.requires.main;
  always = c.requires.always.sound;
  within = c.requires.always.sound;
  when_quiet = c.in_ok-when_quiet.ensures.sound;
}

pub returns-clause-claims : goal.returns-clause-claims
returns-clause-claims g c =
    let q = c.args.question.now in
    let checked = c.args.checked.now in
    let s = spec_of checked.spec in
    let crowds = IsMainOverLimit checked q.turns q.outcomes in
    subst (λ rests. IfOk c.result_of_runs.result (λ answer. Claims (specification_of s) q.turns crowds q.steps (term_holds checked q.always) rests answer.finding))
    (λ i A. c.in_ok-when_quiet.ensures.means A i)
    (subst (λ right. IfOk c.result_of_runs.result (λ answer. Claims (specification_of s) q.turns crowds q.steps right (holds_in (shape_of s) c.in_ok-when_quiet.when_quiet) answer.finding))
    (λ i A. c.requires.always.means A i) c.result_of_runs.ensures.claims)

pub returns-clause-counts : goal.returns-clause-counts
returns-clause-counts g c =
    let q = c.args.question.now in
    let checked = c.args.checked.now in
    let s = spec_of checked.spec in
    let crowds = IsMainOverLimit checked q.turns q.outcomes in
    subst (λ rests. IfOk c.result_of_runs.result (λ answer. Counts (specification_of s) q.turns crowds q.steps (term_holds checked q.always) rests q.runs answer.runs answer.steps answer.finding))
    (λ i A. c.in_ok-when_quiet.ensures.means A i)
    (subst (λ right. IfOk c.result_of_runs.result (λ answer. Counts (specification_of s) q.turns crowds q.steps right (holds_in (shape_of s) c.in_ok-when_quiet.when_quiet) q.runs answer.runs answer.steps answer.finding))
    (λ i A. c.requires.always.means A i) c.result_of_runs.ensures.counts)
