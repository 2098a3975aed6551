use Rattle.std.proofs.Common.{◌∙◌, ap, Some, sym}
use Rattle.clap.specs.Matches.{found_of}
use Rattle.clap.specs.declared.parser.matches.ValueSource.{ValueSource}
use Rattle.asm_explore_words.specs.WordsSaid.{is_of_words}
use Rattle.asm_explore_words.proofs.SaidWords.{said_found}
use Rattle.asm_explore_words.proofs.arguments.is_said.Goals as goal

pub returns-in-Some-CommandLine : goal.returns-in-Some-CommandLine
returns-in-Some-CommandLine c =
    sym (ap is_of_words (c.in-Some-CommandLine.is ∙ ap (λ (s : ValueSource). Some s) c.in-Some-CommandLine.field-0-is))
    ∙ said_found (found_of c.args.given.now) c.args.name.now c.value_source.result c.value_source.ensures

pub returns-in-Some-DefaultValue : goal.returns-in-Some-DefaultValue
returns-in-Some-DefaultValue c =
    sym (ap is_of_words (c.in-Some-DefaultValue.is ∙ ap (λ (s : ValueSource). Some s) c.in-Some-DefaultValue.field-0-is))
    ∙ said_found (found_of c.args.given.now) c.args.name.now c.value_source.result c.value_source.ensures

pub returns-in-None : goal.returns-in-None
returns-in-None c =
    sym (ap is_of_words c.in-None.is) ∙ said_found (found_of c.args.given.now) c.args.name.now c.value_source.result c.value_source.ensures
