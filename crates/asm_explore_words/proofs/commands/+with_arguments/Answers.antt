use Rattle.std.proofs.Common.{◌≡◌, ◌∙◌, ap, map, true, refl, sym, arith}
use Rattle.std.proofs.lemmas.Result.{IfOk-weaker}
use Rattle.clap.specs.Simple.{app_of}
use Rattle.asm_arguments.specs.Arguments.{with_rules}
use Rattle.asm_arguments.proofs.Rules.{grown}
use Rattle.asm_explore_words.specs.code.ArgumentRules.{rule_for}
use Rattle.asm_explore_words.specs.declared.commands.Argument.{Argument}
use Rattle.asm_explore_words.specs.declared.commands.Argument.TheVariants.{Specification, Text, Texts, Number, Seed, Draw, Flag}
use Rattle.asm_explore_words.proofs.commands.+with_arguments.Goals as goal

simple : (argument : Argument) → (rule_for argument).is_simple ≡ true
simple Specification = refl
simple (Text name shown help) = refl
simple (Texts name shown help) = refl
simple (Number option) = refl
simple Seed = refl
simple Draw = refl
simple (Flag name help) = refl

pub with_arguments-requires : goal.with_arguments-requires
with_arguments-requires t c =
    let shorter = c.in-Some.ensures.cases.1 in
    let size = c.decreases in
    (omega arith, tt)

pub returns-in_ok-command-in-Some : goal.returns-in_ok-command-in-Some
returns-in_ok-command-in-Some t c =
    let first = c.in-Some.argument.now in
    let one = grown _ _ _ _ _ c.in_ok-command-in-Some.ensures refl c.stated.ensures (simple first) in
    let rules = map rule_for c.in-Some.rest.now in
    IfOk-weaker c.with_arguments.result _ _
    (λ m rest. rest ∙ (ap (λ app. with_rules app rules) one ∙ ap (λ all. with_rules (app_of c.args.command) (map rule_for all)) (sym c.in-Some.ensures.cases.0)))
    c.with_arguments.ensures
