use Rattle.std.proofs.Common.{◌≡◌, ◌∙◌, ap, map, List, refl, sym, arith}
use Rattle.std.proofs.lemmas.Result.{IfOk-weaker}
use Rattle.clap.specs.Simple.{app_of}
use Rattle.clap.specs.Walk.{Rule}
use Rattle.asm_limits.specs.code.NumberOptions.{as_option}
use Rattle.asm_arguments.specs.Arguments as arguments
use Rattle.asm_arguments.specs.Arguments.{with_rules}
use Rattle.asm_arguments.proofs.Rules.{grown}
use Rattle.asm_arguments.proofs.numbers.+with_numbers.Goals as goal

pub with_numbers-requires : goal.with_numbers-requires
with_numbers-requires t c =
    let shorter = c.in-Some.ensures.cases.1 in
    let size = c.decreases in
    (omega arith, tt)

pub returns-in_ok-command-in-Some : goal.returns-in_ok-command-in-Some
returns-in_ok-command-in-Some t c =
    let one = grown _ _ _ _ _ c.in_ok-command-in-Some.ensures refl c.number.ensures refl in
    let rules = map arguments.number (map as_option c.in-Some.rest.now) in
    IfOk-weaker c.with_numbers.result _ _
    (λ m rest. rest ∙ (ap (λ app. with_rules app rules) one
    ∙ ap (λ options. with_rules (app_of c.args.command) (map arguments.number (map as_option options))) (sym c.in-Some.ensures.cases.0)))
    c.with_numbers.ensures
