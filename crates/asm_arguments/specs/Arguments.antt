-- Definition. The arguments of a command line, in the terms of the library that reads them.
--     positional name          a word that stands for itself
--     option name              `--name`, with a value
--     number option            the same, with one of the numbers that the option takes; it may not
--                              be left out unless there is a text that then stands for it
--     required rule            it may not be left out
--     with_rules app rules     these arguments come behind those of the command
use Rattle.std.specs.Prelude.{true, List, [], ◌∷◌, Some, is_none, pos}
use Rattle.std.specs.Option.{option_map_or}
use Rattle.clap.specs.Simple.{App, new_rule, with_rule}
use Rattle.clap.specs.Walk.{Rule, Text}
use Rattle.clap.specs.declared.builder.action.ArgAction.TheVariants.{Set}
use Rattle.clap.specs.declared.builder.value_parser.ValueParser.TheVariants.{Signed}
use Rattle.asm_limits.specs.Limits.{NumberOption}

abbrev pub positional : Text → Rule
positional name = record (new_rule name) { action = Some Set; value_names = 1 }

abbrev pub option : Text → Rule
option name = record (positional name) { long = Some name }

abbrev pub number : NumberOption → Rule
number o = record (option o.name) {
  parser = Some (Signed (pos o.bounds.least) (pos o.bounds.most));
  required = is_none o.default;
  defaults = option_map_or (λ text. text ∷ []) o.default [];
}

abbrev pub required : Rule → Rule
required rule = record rule { required = true }

abbrev pub or_else : Text → Rule → Rule
or_else other rule = record rule { defaults = other ∷ [] }

abbrev pub with_rules : App → List Rule → App
with_rules app [] = app
with_rules app (rule ∷ rules) = with_rules (with_rule app rule) rules
