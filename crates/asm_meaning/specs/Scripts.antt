-- Definition. A script is a pair of finite maps: of several lines with one step and path only the
-- first counts, and of several for every step with one path as well.
--     unrepeated script      the script without the later lines of each step and path, and of each
--                            path in every step
--     UnrepeatedScript       it picks as the script does, so each rule does the same under it
use Rattle.std.specs.Prelude.{◌≡◌, ℕ, Bool, not, List, [], ◌∷◌}
use Rattle.std.specs.List.{filter, IsDistinct}
use Rattle.asm_state.specs.Location.{State}
use Rattle.asm_syntax.specs.Tree.{Rule}
use Rattle.asm_meaning.specs.Program.{Program, Environment}
use Rattle.asm_meaning.specs.Yields.{Path}
use Rattle.asm_reader.specs.ScriptLines.{Line, EveryLine, Script, is_line_of, is_line_at, pick}
use Rattle.asm_meaning.specs.Does.{does}

-- two lines have one step and path
abbrev pub have_one_key : Line → Line → Bool
have_one_key line other = is_line_of line.step line.path other

-- two lines for every step have one path
abbrev pub have_one_path : EveryLine → EveryLine → Bool
have_one_path line other = is_line_at line.path other

abbrev pub IsUnrepeated : Script → Type 0
IsUnrepeated script = IsDistinct have_one_key script.exact × IsDistinct have_one_path script.every

-- the lines without the later ones of each key
abbrev pub firsts : {L : Type 0} → (L → L → Bool) → List L → List L
firsts have_one [] = []
firsts have_one (line ∷ lines) = line ∷ filter (λ other. not (have_one line other)) (firsts have_one lines)

abbrev pub unrepeated : Script → Script
unrepeated script = record { exact = firsts have_one_key script.exact; every = firsts have_one_path script.every }

pub record UnrepeatedLaws (script : Script) : Type 0 where
  pub is_unrepeated : IsUnrepeated (unrepeated script)
  pub picks : (step : ℕ) (p : Path) → pick (unrepeated script) step p ≡ pick script step p
  pub does_alike : (program : Program) (turns step : ℕ) (A : State) (e : Environment) (p : Path) (R : Rule)
      → does program turns (unrepeated script) step A e p R ≡ does program turns script step A e p R

abbrev pub UnrepeatedScript : Type 0
UnrepeatedScript = (script : Script) → UnrepeatedLaws script
