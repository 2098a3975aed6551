-- Definition. The words after a command, in the terms of the library that reads them.
--     command, refusals words           after `all`: it has a version; its arguments: the text's
--                                       file, an option for each limit and condition, for the
--                                       graph's and the script's file and for names that the graph
--                                       shows, and three flags. The kinds of what is wrong with the
--                                       words, none if they are taken
--     random_command, random_refusals words
--                                       after `random`: the text's file, an option for each limit
--                                       and condition and for the seed, and three flags
--     run_command draws, run_refusals draws words
--                                       after `choices`, which may draw, and `clash`, which doesn't:
--                                       the text's file, and an option for each limit, for the
--                                       script's file, for the seed by which choices are drawn if
--                                       they may be, for conditions and for files of conditions
--     show_command, show_refusals words
--                                       after `show`: the same as after `choices`, an option for
--                                       names and for the width, and a flag for a page and for JSON
--     commands, command_refusals words  all of them, one of which has to be named first. The kinds
--                                       of what is wrong with words that name none
use Rattle.std.specs.Prelude.{ℕ, Bool, false, true, List, [], ◌∷◌, Some, codes, cond}
use Rattle.clap.specs.Faults.{fault_of}
use Rattle.clap.specs.Kinds as kinds
use Rattle.clap.specs.Kinds.{Kinds}
use Rattle.clap.specs.Simple.{App, Shape, new_rule, new_shape}
use Rattle.clap.specs.Walk.{Rule, Text}
use Rattle.clap.specs.declared.builder.action.ArgAction.TheVariants.{Append, SetTrue}
use Rattle.clap.specs.declared.error.kind.ErrorKind.TheVariants.{MissingSubcommand}
use Rattle.clap.specs.declared.builder.value_parser.ValueParser.TheVariants.{Unsigned}
use Rattle.asm_limits.specs.Limits.{NumberOption, from_to, steps_option, turns_option, workers_option}
use Rattle.asm_arguments.specs.Arguments.{positional, option, number, required, or_else}

-- it may be repeated
abbrev pub repeated : Rule → Rule
repeated rule = record rule { action = Some Append }

-- `--name`, with a number of 64 bits
abbrev pub most_unsigned : ℕ
most_unsigned = 18_446_744_073_709_551_615

abbrev pub unsigned : Text → Rule
unsigned name = record (option name) { parser = Some (Unsigned 0 most_unsigned) }

-- `--name`, without a value
abbrev pub flag : Text → Rule
flag name = record (new_rule name) { long = Some name; action = Some SetTrue }

-- ---- options with numbers

abbrev pub steps_or_else : Text → NumberOption
steps_or_else other = record steps_option { default = Some other }

abbrev pub states_option : NumberOption
states_option = record { name = codes "states"; bounds = from_to 1 100_000_000; default = Some (codes "1000000") }

abbrev pub outcomes_option : NumberOption
outcomes_option = record { name = codes "outcomes"; bounds = from_to 1 1_000_000; default = Some (codes "10000") }

abbrev pub runs_option : NumberOption
runs_option = record { name = codes "runs"; bounds = from_to 1 1_000_000; default = Some (codes "1000") }

abbrev pub width_option : NumberOption
width_option = record { name = codes "width"; bounds = from_to 40 10_000; default = Some (codes "100") }

-- ---- the commands

unfoldable pub command : App
command = record {
  top = record (new_shape (codes "asm-explore all")) {
    no_binary_name = true;
    has_version = true;
    rules = required (positional (codes "spec"))
        ∷ number (steps_or_else (codes "1000000"))
        ∷ number turns_option
        ∷ repeated (option (codes "always"))
        ∷ repeated (option (codes "always-file"))
        ∷ option (codes "deadlock-unless")
        ∷ option (codes "within")
        ∷ number states_option
        ∷ number outcomes_option
        ∷ number workers_option
        ∷ option (codes "dot")
        ∷ repeated (option (codes "dot-only"))
        ∷ option (codes "quiet")
        ∷ flag (codes "trace")
        ∷ flag (codes "table")
        ∷ flag (codes "progress")
        ∷ [];
  };
  subs = [];
}

abbrev pub refusals : List Text → Kinds
refusals words = fault_of command words

unfoldable pub random_command : App
random_command = record {
  top = record (new_shape (codes "asm-explore random")) {
    no_binary_name = true;
    has_version = true;
    rules = required (positional (codes "spec"))
        ∷ number (steps_or_else (codes "1000"))
        ∷ number turns_option
        ∷ repeated (option (codes "always"))
        ∷ repeated (option (codes "always-file"))
        ∷ option (codes "deadlock-unless")
        ∷ number outcomes_option
        ∷ number runs_option
        ∷ or_else (codes "0") (unsigned (codes "seed"))
        ∷ flag (codes "trace")
        ∷ flag (codes "table")
        ∷ flag (codes "progress")
        ∷ [];
  };
  subs = [];
}

abbrev pub random_refusals : List Text → Kinds
random_refusals words = fault_of random_command words

-- an option for the seed, if choices may be drawn, before other arguments
abbrev pub seed_before : (draws : Bool) → List Rule → List Rule
seed_before draws rules = cond draws (unsigned (codes "draw") ∷ rules) rules

unfoldable pub run_command : (draws : Bool) → App
run_command draws = record {
  top = record (new_shape (codes "asm-explore")) {
    no_binary_name = true;
    has_version = true;
    rules = required (positional (codes "spec"))
        ∷ number (steps_or_else (codes "1000"))
        ∷ number turns_option
        ∷ option (codes "script")
        ∷ seed_before draws (
        repeated (option (codes "always"))
        ∷ repeated (option (codes "always-file"))
        ∷ []
        );
  };
  subs = [];
}

abbrev pub run_refusals : (draws : Bool) → List Text → Kinds
run_refusals draws words = fault_of (run_command draws) words

unfoldable pub show_command : App
show_command = record {
  top = record (new_shape (codes "asm-explore show")) {
    no_binary_name = true;
    has_version = true;
    rules = required (positional (codes "spec"))
        ∷ number (steps_or_else (codes "1000"))
        ∷ number turns_option
        ∷ option (codes "script")
        ∷ unsigned (codes "draw")
        ∷ repeated (option (codes "always"))
        ∷ repeated (option (codes "always-file"))
        ∷ repeated (option (codes "only"))
        ∷ number width_option
        ∷ flag (codes "html")
        ∷ flag (codes "json")
        ∷ [];
  };
  subs = [];
}

abbrev pub show_refusals : List Text → Kinds
show_refusals words = fault_of show_command words

-- ---- all of them, one of which has to be named first

abbrev pub named : Text → App → Shape
named name app = record app.top { name = name }

unfoldable pub commands : App
commands = record {
  top = record (new_shape (codes "asm-explore")) {
    no_binary_name = true;
    has_version = true;
    is_leaf = false;
    subcommand_required = true;
  };
  subs = named (codes "all") command
      ∷ named (codes "random") random_command
      ∷ named (codes "choices") (run_command true)
      ∷ named (codes "clash") (run_command false)
      ∷ named (codes "show") show_command
      ∷ [];
}

abbrev pub command_refusals : List Text → Kinds
command_refusals words = kinds.or_else (fault_of commands words) (MissingSubcommand ∷ [])
