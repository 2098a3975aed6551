-- Definition. The words that the program takes, in the terms of the library that reads them.
--     command           it has a version; its arguments: the text's file, and an option for each
--                       limit and for the script's file
--     refusals words    the kinds of what is wrong with the words, none if they are taken
use Rattle.std.specs.Prelude.{true, List, [], ◌∷◌, codes, map}
use Rattle.clap.specs.Faults.{fault_of}
use Rattle.clap.specs.Kinds.{Kinds}
use Rattle.clap.specs.Simple.{App, new_shape}
use Rattle.clap.specs.Walk.{Text}
use Rattle.asm_limits.specs.Limits.{options_with_defaults, steps_option}
use Rattle.asm_arguments.specs.Arguments.{positional, option, number}

unfoldable pub command : App
command = record {
  top = record (new_shape (codes "asm")) {
    no_binary_name = true;
    has_version = true;
    rules = positional (codes "spec")
        ∷ number steps_option
        ∷ option (codes "script")
        ∷ map number options_with_defaults;
  };
  subs = [];
}

abbrev pub refusals : List Text → Kinds
refusals words = fault_of command words
