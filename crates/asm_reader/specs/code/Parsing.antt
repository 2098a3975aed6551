-- Bridge to the code. What a production of the parser promises.
use Rattle.std.specs.Prelude.{◌≡◌, Result}
use Rattle.asm_syntax.specs.declared.input_error.InputError.{InputError}
use Rattle.asm_reader.specs.declared.error.ReadError.{ReadError}
use Rattle.asm_reader.specs.declared.parser.Parser.{Parser}
use Rattle.asm_reader.specs.code.Steps.{Reader, Reads}

-- What it returns is what the reader reads of the tokens, seen by `view`, and the text stays the
-- same.
pub record Parses {A B : Type 0} (view : B → A) (reader : Reader A) (old new : Parser) (result : Result B (InputError ReadError)) : Type 0 where
  pub read : Reads view (reader old.tokens.rest.now) result new.tokens.rest.now
  pub text : new.text.now ≡ old.text.now
