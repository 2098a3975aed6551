-- Definition. The grammar and the levels before there were `while`, `<-` and `result`.
--     old_specification           the tokens spelled the tree, at any depth
--     IsOldSpecification          the text had tokens that spelled the tree, and nested no deeper
--                                 than they might
--     StillSpells                 what tokens spelled, they spell still
--     StillIsSpecification        what a text spelled, it spells still
use Rattle.std.specs.Prelude.{ℕ, zero, suc, List, [], ◌∷◌, IsSome}
use Rattle.asm_syntax.specs.declared.token.Kind.{Kind}
use Rattle.asm_syntax.specs.declared.token.Kind.TheVariants.{Symbol, Keyword}
use Rattle.asm_syntax.specs.declared.token.Symbol.TheVariants.{Open, Close}
use Rattle.asm_syntax.specs.declared.token.Keyword.TheVariants.{Par, EndPar, Seq, EndSeq, If, EndIf, Let, EndLet, Forall, EndForall, Choose, EndChoose, Iterate, EndIterate}
use Rattle.asm_syntax.specs.declared.token.Token.{Token}
use Rattle.asm_syntax.specs.SourceTree as source
use Rattle.asm_syntax.specs.Tokens.{AreTokens}
use Rattle.asm_reader.specs.Levels.{Depth, at_depth, depth_by}
use Rattle.asm_reader.specs.Productions.{Production, ◌or◌, nothing, at_any_depth}
use Rattle.asm_reader.specs.TermGrammar.{term_over}
use Rattle.asm_reader.specs.RuleGrammar.{skip_rule, call, assignment, par_rule, seq_rule, if_rule, let_rule, forall_rule, choose_rule, iterate_rule}
use Rattle.asm_reader.specs.Grammar.{specification_over, specification}
use Rattle.asm_reader.specs.Specification.{max_nesting, IsSpecification}

module _ (text : List ℕ) where
  -- a term in which parentheses nest at most n deep
  unfoldable pub old_term_within : ℕ → Production source.Term
  old_term_within zero = term_over text nothing nothing
  old_term_within (suc n) = term_over text (old_term_within n) nothing

  -- a rule over the terms and the rules that are one level deeper
  unfoldable pub old_rule_over : Production source.Term → Production source.Rule → Production source.Rule
  old_rule_over X S = skip_rule or (call text X S or assignment text X S (term_over text X nothing))
      or par_rule text X S or seq_rule text X S or if_rule text X S or let_rule text X S or forall_rule text X S or choose_rule text X S or iterate_rule text X S

  -- a rule in which rules with an end word and parentheses nest at most n deep
  unfoldable pub old_rule_within : ℕ → Production source.Rule
  old_rule_within zero = old_rule_over nothing nothing
  old_rule_within (suc n) = old_rule_over (old_term_within n) (old_rule_within n)

  abbrev pub old_specification : Production source.Spec
  old_specification = specification_over text (at_any_depth old_term_within) (at_any_depth old_rule_within)

-- ---- levels

abbrev pub old_openers : List Kind
old_openers = Symbol Open ∷ Keyword Par ∷ Keyword Seq ∷ Keyword If ∷ Keyword Let ∷ Keyword Forall ∷ Keyword Choose ∷ Keyword Iterate ∷ []

abbrev pub old_closers : List Kind
old_closers = Symbol Close ∷ Keyword EndPar ∷ Keyword EndSeq ∷ Keyword EndIf ∷ Keyword EndLet ∷ Keyword EndForall ∷ Keyword EndChoose ∷ Keyword EndIterate ∷ []

abbrev pub old_depth_after : Depth → List Token → Depth
old_depth_after = depth_by old_openers old_closers

-- ---- texts

abbrev pub IsOldSpecification : List ℕ → source.Spec → Type 0
IsOldSpecification text s = (ts : List Token) × AreTokens text ts × old_specification text ts s × IsSome (old_depth_after (at_depth max_nesting) ts).left

abbrev pub StillSpells : Type 0
StillSpells = (text : List ℕ) (ts : List Token) (s : source.Spec) → old_specification text ts s → specification text ts s

abbrev pub StillIsSpecification : Type 0
StillIsSpecification = (text : List ℕ) (s : source.Spec) → IsOldSpecification text s → IsSpecification text s
