use Rattle.asm_syntax.specs.code.Views.{spec_of}
use Rattle.asm_check.specs.Shapes.{shape_of}
use Rattle.asm_meaning.specs.Declarations.{specification_of}
use Rattle.asm_explore.specs.code.ResolvedConditions.{term_holds, holds_in}
use Rattle.asm_explore.specs.code.MainRule.{IsMainOverLimit}
use Rattle.asm_explore.proofs.Specifications.{same_rule_result}
use Rattle.asm_explore_workers.proofs.exploration_by_workers.explore_turns_by.Goals as goal

pub explore_specified_by-requires-clause-sound : goal.explore_specified_by-requires-clause-sound
explore_specified_by-requires-clause-sound g c κs inside =
    record {
      main = c.in_ok-code.ensures;
      always = c.in_ok-always.ensures.sound;
      within = c.in_ok-within.ensures.sound;
      when_quiet = c.in_ok-when_quiet.ensures.sound;
    }

pub returns : goal.returns
returns g c =
    let checked = c.args.checked.now in
    let q = c.args.question.now in
    let s = spec_of checked.spec in
    let crowds = IsMainOverLimit checked c.args.turns q.outcomes in
    same_rule_result (specification_of s) c.args.turns crowds crowds (λ A crowd so. so) q.steps q.states
    (holds_in (shape_of s) c.in_ok-always.always) (holds_in (shape_of s) c.in_ok-when_quiet.when_quiet) (holds_in (shape_of s) c.in_ok-within.within)
    (term_holds checked q.always) (term_holds checked q.when_quiet) (term_holds checked q.within) c.in_ok-answered.answered
    c.in_ok-always.ensures.means c.in_ok-when_quiet.ensures.means c.in_ok-within.ensures.means c.in_ok-answered.ensures
