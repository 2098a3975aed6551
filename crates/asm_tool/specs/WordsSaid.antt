-- Definition. What words say.
--     AreSaid words settings      the settings are those that the words give
--     Explains words fault        the words are refused, as the fault says, or memory ran out
use Rattle.std.specs.Prelude.{◌≡◌, List, option_map, codes, ⊤}
use Rattle.clap.specs.Kinds.{IsAmong}
use Rattle.clap.specs.Simple.{matches_of}
use Rattle.clap.specs.Matches.{found_of}
use Rattle.clap.specs.Values.{kind_of}
use Rattle.clap.specs.Walk.{Row, Text, first_of, rows_of}
use Rattle.clap.specs.declared.error.Error.{Error}
use Rattle.clap.specs.declared.error.kind.ErrorKind.TheVariants.{OutOfMemory}
use Rattle.clap.specs.declared.parser.matches.ArgMatches.{ArgMatches}
use Rattle.asm_limits.specs.Limits.{limit_options, limits_given}
use Rattle.asm_arguments.specs.Numbers.{AreNumbers, HaveNumbers}
use Rattle.asm_tool.specs.CommandLine.{command, refusals}
use Rattle.asm_tool.specs.declared.settings.Settings.{Settings}
use Rattle.asm_tool.specs.declared.settings.WordFault.{WordFault}
use Rattle.asm_tool.specs.declared.settings.WordFault.TheVariants.{Memory, Words}

-- what a parse of the words finds
pub record AreParsed (words : List Text) (matches : ArgMatches) : Type 0 where
  pub rows : rows_of (found_of matches) ≡ matches_of command words
  pub numbers : HaveNumbers (found_of matches) limit_options

-- ---- settings

module _ (rows : List Row) where
  pub record AreRead (settings : Settings) : Type 0 where
    pub spec : option_map (λ name. name.now) settings.spec ≡ first_of (codes "spec") rows
    pub script : option_map (λ name. name.now) settings.script ≡ first_of (codes "script") rows
    pub limits : AreNumbers rows (limits_given settings.limits)

abbrev pub AreSaid : List Text → Settings → Type 0
AreSaid words settings = AreRead (matches_of command words) settings

abbrev pub Explains : List Text → WordFault → Type 0
Explains words Memory = ⊤
Explains words (Words error) = IsAmong (kind_of error) (refusals words)

abbrev pub IsFaultOf : Error → WordFault → Type 0
IsFaultOf error Memory = kind_of error ≡ OutOfMemory
IsFaultOf error (Words e) = (e ≡ error) × ¬ (kind_of error ≡ OutOfMemory)
