-- Bridge to the code. What an argument of the code is to the library that reads the words.
use Rattle.std.specs.Prelude.{codes}
use Rattle.clap.specs.Walk.{Rule}
use Rattle.asm_limits.specs.code.NumberOptions.{as_option}
use Rattle.asm_arguments.specs.Arguments as arguments
use Rattle.asm_arguments.specs.Arguments.{or_else, positional, required}
use Rattle.asm_explore_words.specs.CommandLine as line
use Rattle.asm_explore_words.specs.CommandLine.{repeated, unsigned}
use Rattle.asm_explore_words.specs.declared.commands.Argument.{Argument}
use Rattle.asm_explore_words.specs.declared.commands.Argument.TheVariants.{Specification, Text, Texts, Number, Seed, Draw, Flag}

abbrev pub rule_for : Argument → Rule
rule_for Specification = required (positional (codes "spec"))
rule_for (Text name shown help) = arguments.option name.now
rule_for (Texts name shown help) = repeated (arguments.option name.now)
rule_for (Number option) = arguments.number (as_option option)
rule_for Seed = or_else (codes "0") (unsigned (codes "seed"))
rule_for Draw = unsigned (codes "draw")
rule_for (Flag name help) = line.flag name.now
