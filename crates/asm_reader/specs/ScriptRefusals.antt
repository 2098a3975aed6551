-- Definition. What a refusal of a script says.
--     ExplainsScript                                    why the text is no script, if the refusal
--                                                       names it
--     script_refusal_number, script_refusal_line        the number of a refusal, and the line that
--                                                       has the fault, if one has
use Rattle.std.specs.Prelude.{ℕ, List, Option, Some, None}
use Rattle.asm_syntax.specs.declared.input_error.InputError.{InputError}
use Rattle.asm_syntax.specs.declared.input_error.InputError.TheVariants.{Memory, Named}
use Rattle.asm_reader.specs.ScriptText.{IsScriptRefusal, IsRefusalOfLines}
use Rattle.asm_reader.specs.declared.script_error.ScriptError.{ScriptError}
use Rattle.asm_reader.specs.declared.script_error.ScriptError.TheVariants.{BadLine, Repeated, TooLong}

abbrev pub ExplainsScript : List ℕ → InputError ScriptError → Type 0
ExplainsScript text Memory = Unit {0}
ExplainsScript text (Named e) = IsScriptRefusal text e

-- what is wrong with the lines, if the refusal names it
abbrev pub ExplainsLines : List (List ℕ) → InputError ScriptError → Type 0
ExplainsLines lines Memory = Unit {0}
ExplainsLines lines (Named e) = IsRefusalOfLines lines e

abbrev pub script_refusal_number : ScriptError → ℕ
script_refusal_number (BadLine n) = 1
script_refusal_number (Repeated n) = 2
script_refusal_number TooLong = 3

abbrev pub script_refusal_line : ScriptError → Option ℕ
script_refusal_line (BadLine n) = Some n
script_refusal_line (Repeated n) = Some n
script_refusal_line TooLong = None
