-- Free. A text for which memory is asked has a first token.
use Rattle.std.proofs.Common.{◌≡◌, ℕ, List, [], ◌∷◌, ◌++◌, Result, Ok, Err, refl, ap, ◌∙◌}
use Rattle.std.specs.Prelude.{IfErr}
use Rattle.asm_syntax.specs.code.Lexing.{HasFirstToken}
use Rattle.asm_syntax.specs.SourceTree.{Spec}
use Rattle.asm_syntax.specs.Tokens.{AreTokens}
use Rattle.asm_syntax.specs.declared.token.Token.{Token}
use Rattle.asm_reader.specs.Grammar.{specification, specification_over}
use Rattle.asm_reader.specs.Specification.{AreSpelling, IsSpecification}
use Rattle.asm_run.specs.declared.end.End.{End}
use Rattle.asm_run.specs.declared.error.RunError.{RunError}
use Rattle.asm_run.specs.declared.error.RunError.TheVariants as error

no_tokens : (text : List ℕ) (s : Spec) → ¬ specification text [] s
unfolding specification_over
no_tokens text s h =
    let head = h.1.1 in
    let bad : [] ≡ h.1.0.0 ∷ head.back = head.whole ∙ ap (λ ts. ts ++ head.back) head.first.0 in
    absurd cc

pub first_token : (text : List ℕ) (s : Spec) → IsSpecification text s → HasFirstToken text
first_token text s h = by_tokens h.0 h.1 h.2
  where
    by_tokens : (ts : List Token) → AreTokens text ts → AreSpelling text ts s → HasFirstToken text
    by_tokens [] are spells = absurd (no_tokens text s spells.0)
    by_tokens (t ∷ ts) are spells = (are.0, t, t.end, are.3.0, (are.3.0, are.3.1, are.3.2, (refl, refl)))

-- if memory ran out behind the text
pub memory_later : (text : List ℕ) (s : Spec) → IsSpecification text s → (result : Result End RunError) → IfErr result (λ e. e ≡ error.Memory → HasFirstToken text)
memory_later text s spelled (Ok e) = tt
memory_later text s spelled (Err e) = λ is. first_token text s spelled
