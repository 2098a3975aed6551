use Rattle.std.proofs.Common.{◌≡◌, ◌≢◌, ℕ, List, [], ◌∷◌, Result, Ok, Err, IfErr, refl, subst, sym, ◌∙◌}
use Rattle.asm_syntax.specs.declared.input_error.InputError.{InputError}
use Rattle.asm_syntax.specs.declared.input_error.InputError.TheVariants.{Memory}
use Rattle.asm_syntax.specs.declared.token.Token.{Token}
use Rattle.asm_syntax.specs.code.Lexing.{HasFirstToken}
use Rattle.asm_syntax.specs.Tokens.{AreTokens}
use Rattle.asm_reader.specs.Specification.{AreSpelling}
use Rattle.asm_reader.proofs.reading.read.Goals as goal

-- if a text without tokens asks for no memory, one that asks for some has a first token
asks_behind_token : {A E : Type 0} (r : Result A (InputError E)) (text : List ℕ) (ts us : List Token) → AreTokens text us → ts ≡ us → (ts ≡ [] → IfErr r (λ e. e ≢ Memory)) → IfErr r (λ e. e ≡ Memory → HasFirstToken text)
asks_behind_token (Ok x) text ts us are same none = tt
asks_behind_token (Err e) text ts [] are same none = λ out. absurd (none same out)
asks_behind_token (Err e) text ts (t ∷ us) (short, end, rest, (behind, next, sound, more), last) same none = λ out. (short, t, t.end, behind, (behind, next, sound, (refl, refl)))

pub returns-in-Err-Named-clause-accepted : goal.returns-in-Err-Named-clause-accepted
returns-in-Err-Named-clause-accepted c s k = let e = c.in-Err-Named.ensures.accepted k.0 k.1 in absurd (cc (e, c.in-Err-Named.field-0-is))

pub returns-clause-accepted : goal.returns-clause-accepted
returns-clause-accepted c s k =
    let same : k.0 ≡ c.as_slice.result.now = c.one_list_of_tokens.ensures c.args.text.now k.0 c.in-Ok.tokens.items k.1 c.in-Ok.ensures.found ∙ sym c.as_slice.ensures.value in
    c.read_tokens.ensures.accepted s (subst (λ (ts : List Token). AreSpelling c.args.text.now ts s) same k.2)

pub returns-clause-memory : goal.returns-clause-memory
returns-clause-memory c = asks_behind_token c.read_tokens.result c.args.text.now c.as_slice.result.now c.in-Ok.tokens.items c.in-Ok.ensures.found c.as_slice.ensures.value c.read_tokens.ensures.memory
