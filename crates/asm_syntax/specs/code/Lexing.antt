-- Bridge to the code. What a refusal says.
--     Explains              what is wrong with a text, if the refusal names it
use Rattle.std.specs.Prelude.{ℕ, List}
use Rattle.asm_syntax.specs.declared.error.LexError.{LexError}
use Rattle.asm_syntax.specs.declared.input_error.InputError.{InputError}
use Rattle.asm_syntax.specs.declared.input_error.InputError.TheVariants.{Memory, Named}
use Rattle.asm_syntax.specs.Tokens.{IsFault}
pub use Rattle.asm_syntax.specs.Tokens.{HasFirstToken}

-- what is wrong with the text, if the refusal names it
abbrev pub Explains : List ℕ → InputError LexError → Type 0
Explains text Memory = Unit {0}
Explains text (Named e) = IsFault text e
