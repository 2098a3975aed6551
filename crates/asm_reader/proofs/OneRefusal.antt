-- Free. A text has one refusal at most, and none if it spells something.
use Rattle.std.proofs.Common.{◌≡◌, ◌⊎◌, ℕ, List, [], ◌∷◌, refl, sym, ap, subst, ◌∙◌, inl, inr}
use Rattle.std.proofs.lemmas.List.{append-nil}
use Rattle.asm_syntax.specs.declared.error.LexError.{LexError}
use Rattle.asm_syntax.specs.declared.input_error.InputError.{InputError}
use Rattle.asm_syntax.specs.declared.input_error.InputError.TheVariants.{Memory, Named}
use Rattle.asm_syntax.specs.declared.token.Token.{Token}
use Rattle.asm_syntax.specs.Tokens.{AreTokens, IsFault}
use Rattle.asm_reader.specs.declared.error.ReadError.{ReadError}
use Rattle.asm_reader.specs.declared.error.ReadError.TheVariants.{Lex, Unexpected, UnexpectedEnd, TooDeep}
use Rattle.asm_reader.specs.Productions.{Production}
use Rattle.asm_reader.specs.Specification.{CanGoOnBy, IsWithinLevels, AreSpellingBy, IsSpelledBy}
use Rattle.asm_reader.specs.Refusals.{IsUnexpectedBy, IsTooDeepBy, IsRefusalOfTokensBy, IsRefusalBy, ExplainsTokensBy}
use Rattle.asm_reader.proofs.TokenFronts.{is_within_up_to, front_goes_on, goes_on_up_to, two_fronts}

-- ---- of tokens

module _ {A : Type 0} (P : Production A) (ts : List Token) where
  -- tokens that all go on have no unexpected one
  none_unexpected : (at : ℕ) → IsUnexpectedBy P ts at → ¬ CanGoOnBy P ts
  none_unexpected at u g = u.stops (goes_on_up_to P u.before u.after ts u.bad u.parts g)

  none_too_deep : (at : ℕ) → IsTooDeepBy P ts at → ¬ IsWithinLevels ts
  none_too_deep at d h = d.opens (is_within_up_to d.before d.after ts d.opener d.parts h)

  one_unexpected : (i j : ℕ) → IsUnexpectedBy P ts i → IsUnexpectedBy P ts j → i ≡ j
  one_unexpected i j u v = elim (two_fronts u.before v.before u.bad v.bad u.after v.after (sym u.parts ∙ v.parts)) [
    | inl e ↦ u.start ∙ ap (λ (t : Token). t.start) e.1 ∙ sym v.start
    | inr (inl m) ↦ absurd (u.stops (goes_on_up_to P u.before m.0 v.before u.bad m.1 v.goes))
    | inr (inr m) ↦ absurd (v.stops (goes_on_up_to P v.before m.0 u.before v.bad m.1 u.goes))
  ]

  one_too_deep : (i j : ℕ) → IsTooDeepBy P ts i → IsTooDeepBy P ts j → i ≡ j
  one_too_deep i j u v = elim (two_fronts u.before v.before u.opener v.opener u.after v.after (sym u.parts ∙ v.parts)) [
    | inl e ↦ u.start ∙ ap (λ (t : Token). t.start) e.1 ∙ sym v.start
    | inr (inl m) ↦ absurd (u.opens (is_within_up_to u.before m.0 v.before u.opener m.1 v.levels))
    | inr (inr m) ↦ absurd (v.opens (is_within_up_to v.before m.0 u.before v.opener m.1 u.levels))
  ]

  not_both : (i j : ℕ) → IsUnexpectedBy P ts i → ¬ IsTooDeepBy P ts j
  not_both i j u d = elim (two_fronts u.before d.before u.bad d.opener u.after d.after (sym u.parts ∙ d.parts)) [
    | inl e ↦ u.stops (rw (e.0, e.1) d.goes)
    | inr (inl m) ↦ u.stops (goes_on_up_to P u.before m.0 d.before u.bad m.1 (front_goes_on P d.before (d.opener ∷ []) d.goes))
    | inr (inr m) ↦ d.opens (is_within_up_to d.before m.0 u.before d.opener m.1 u.levels)
  ]

  one_of_tokens : (e f : ReadError) → IsRefusalOfTokensBy P ts e → IsRefusalOfTokensBy P ts f → e ≡ f
  one_of_tokens (Lex d) f p q = absurd p
  one_of_tokens (Unexpected i) (Lex d) p q = absurd q
  one_of_tokens (Unexpected i) (Unexpected j) p q = ap Unexpected (one_unexpected i j p q)
  one_of_tokens (Unexpected i) UnexpectedEnd p q = absurd (none_unexpected i p q.goes)
  one_of_tokens (Unexpected i) (TooDeep j) p q = absurd (not_both i j p q)
  one_of_tokens UnexpectedEnd (Lex d) p q = absurd q
  one_of_tokens UnexpectedEnd (Unexpected j) p q = absurd (none_unexpected j q p.goes)
  one_of_tokens UnexpectedEnd UnexpectedEnd p q = refl
  one_of_tokens UnexpectedEnd (TooDeep j) p q = absurd (none_too_deep j q p.levels)
  one_of_tokens (TooDeep i) (Lex d) p q = absurd q
  one_of_tokens (TooDeep i) (Unexpected j) p q = absurd (not_both j i q p)
  one_of_tokens (TooDeep i) UnexpectedEnd p q = absurd (none_too_deep i p q.levels)
  one_of_tokens (TooDeep i) (TooDeep j) p q = ap TooDeep (one_too_deep i j p q)

  module _ (x : A) (spelled : AreSpellingBy P ts x) where
    all_go_on : CanGoOnBy P ts
    all_go_on = ([], x, rw (append-nil ts) spelled.0)

    none_of_tokens : (e : ReadError) → ¬ IsRefusalOfTokensBy P ts e
    none_of_tokens (Lex d) p = p
    none_of_tokens (Unexpected at) p = none_unexpected at p all_go_on
    none_of_tokens UnexpectedEnd p = p.unfinished x spelled.0
    none_of_tokens (TooDeep at) p = none_too_deep at p spelled.1

    -- if the tokens spell something, only memory can run out
    pub only_memory : (e : InputError ReadError) → ExplainsTokensBy P ts e → e ≡ Memory
    only_memory Memory p = refl
    only_memory (Named e) p = absurd (none_of_tokens e p)

-- ---- of texts, by the laws of tokens and faults

module _ {A : Type 0} (P : Production A) (text : List ℕ) (one_list : (ts us : List Token) → AreTokens text ts → AreTokens text us → ts ≡ us) (no_fault : (ts : List Token) (d : LexError) → AreTokens text ts → ¬ IsFault text d) where
  -- a fault of the lexer, or a refusal of tokens
  abbrev IsLexed : ReadError → Type 0
  IsLexed e = ((d : LexError) × (e ≡ Lex d) × IsFault text d) ⊎ ((ts : List Token) × AreTokens text ts × IsRefusalOfTokensBy P ts e)

  lexed : (e : ReadError) → IsRefusalBy P text e → IsLexed e
  lexed (Lex d) p = inl (d, refl, p)
  lexed (Unexpected at) p = inr p
  lexed UnexpectedEnd p = inr p
  lexed (TooDeep at) p = inr p

  no_tree_beside : (x : A) (e : ReadError) → IsSpelledBy P text x → IsLexed e → ⊥
  no_tree_beside x e k (inl p) = no_fault k.0 p.0 k.1 p.2
  no_tree_beside x e k (inr p) = none_of_tokens P p.0 x (subst (λ (ts : List Token). AreSpellingBy P ts x) (one_list k.0 p.0 k.1 p.1) k.2) e p.2

  pub no_tree_beside_a_refusal : (x : A) (e : ReadError) → IsSpelledBy P text x → ¬ IsRefusalBy P text e
  no_tree_beside_a_refusal x e k p = no_tree_beside x e k (lexed e p)

  module _ (one_fault : (d e : LexError) → IsFault text d → IsFault text e → d ≡ e) where
    same : (e f : ReadError) → IsLexed e → IsLexed f → e ≡ f
    same e f (inl p) (inl q) = p.1 ∙ ap Lex (one_fault p.0 q.0 p.2 q.2) ∙ sym q.1
    same e f (inl p) (inr q) = absurd (no_fault q.0 p.0 q.1 p.2)
    same e f (inr p) (inl q) = absurd (no_fault p.0 q.0 p.1 q.2)
    same e f (inr p) (inr q) = one_of_tokens P p.0 e f p.2 (subst (λ (ts : List Token). IsRefusalOfTokensBy P ts f) (one_list q.0 p.0 q.1 p.1) q.2)

    pub one_refusal : (e f : ReadError) → IsRefusalBy P text e → IsRefusalBy P text f → e ≡ f
    one_refusal e f p q = same e f (lexed e p) (lexed f q)
