use Rattle.std.proofs.Common.{◌∙◌, ap, codes}
use Rattle.clap.specs.Walk.{rule_of}
use Rattle.asm_arguments.specs.Arguments.{or_else, required}
use Rattle.asm_explore_words.proofs.commands.stated.Goals as goal

pub returns-in-Specification : goal.returns-in-Specification
returns-in-Specification c = rw c.in-Specification.is (ap rule_of c.required.ensures ∙ ap required c.word.ensures)

pub returns-in-Seed : goal.returns-in-Seed
returns-in-Seed c = rw c.in-Seed.is (ap rule_of c.default_value.ensures ∙ ap (or_else (codes "0")) c.unsigned.ensures)
