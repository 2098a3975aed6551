-- Definition. The grammar of rules, with the source trees that its texts make.
use Rattle.std.specs.Prelude.{ℕ, zero, suc, List, Option, Some, None}
use Rattle.asm_syntax.specs.declared.token.Kind.TheVariants.{Symbol, Keyword}
use Rattle.asm_syntax.specs.declared.token.Symbol.TheVariants.{Assign, LeftArrow, Equal}
use Rattle.asm_syntax.specs.declared.token.Keyword.TheVariants.{Skip, Par, EndPar, Seq, EndSeq, If, Then, Else, EndIf, Let, In, EndLet, Forall, With, Do, EndForall, Choose, IfNone, EndChoose, Iterate, EndIterate, While, EndWhile}
use Rattle.asm_syntax.specs.SourceTree as source
use Rattle.asm_syntax.specs.SourceTree.{rules_of}
use Rattle.asm_reader.specs.Productions.{Production, token, ◌then◌, ◌or◌, optional, ◌makes◌, nothing, past, several, between, at_any_depth}
use Rattle.asm_reader.specs.TermGrammar.{name, binding, applied, result_name, answer, term_over, term_within}

-- a rule that may be left out
abbrev pub branch : Option source.Rule → source.Branch
branch None = source.left_out
branch (Some P) = source.written P

-- "skip"
unfoldable pub skip_rule : Production source.Rule
skip_rule = token (Keyword Skip) makes (λ _. source.Skip)

-- ---- productions, for names whose bytes are in this text, over the terms and the rules that are
-- one level deeper

module _ (text : List ℕ) (term : Production source.Term) (rule : Production source.Rule) where
  -- over the terms that are assigned
  module _ (value : Production source.Term) where
    -- name [ arguments ] ":=" value
    unfoldable pub assignment : Production source.Rule
    assignment = (applied text term then past (Symbol Assign) value) makes (λ r. source.Assign r.0.0 r.0.1 r.1)

    -- "result" ":=" value
    unfoldable pub result_rule : Production source.Rule
    result_rule = (result_name text then past (Symbol Assign) value) makes (λ r. source.SetResult r.0 r.1)

  -- name [ arguments ]
  unfoldable pub call : Production source.Rule
  call = applied text term makes (λ r. source.Call None r.0 r.1)

  -- name [ arguments ] "<-" name [ arguments ]
  unfoldable pub call_by_result : Production source.Rule
  call_by_result = (applied text term then past (Symbol LeftArrow) (applied text term)) makes (λ r. source.Call (Some r.0) r.1.0 r.1.1)

  -- "par" rule { rule } "endpar"
  unfoldable pub par_rule : Production source.Rule
  par_rule = between (Keyword Par) (Keyword EndPar) (several rule) makes (λ r. source.Par (rules_of r))

  -- "seq" rule { rule } "endseq"
  unfoldable pub seq_rule : Production source.Rule
  seq_rule = between (Keyword Seq) (Keyword EndSeq) (several rule) makes (λ r. source.Seq (rules_of r))

  -- "if" term "then" rule [ "else" rule ] "endif"
  unfoldable pub if_rule : Production source.Rule
  if_rule = between (Keyword If) (Keyword EndIf) (term then past (Keyword Then) rule then optional (past (Keyword Else) rule))
      makes (λ r. source.If r.0 r.1.0 (branch r.1.1))

  -- "let" name "=" term "in" rule "endlet"
  unfoldable pub let_rule : Production source.Rule
  let_rule = between (Keyword Let) (Keyword EndLet) (name text then past (Symbol Equal) term then past (Keyword In) rule)
      makes (λ r. source.Let r.0 r.1.0 r.1.1)

  -- "forall" name "in" name [ "with" term ] "do" rule "endforall"
  unfoldable pub forall_rule : Production source.Rule
  forall_rule = between (Keyword Forall) (Keyword EndForall) (binding text then optional (past (Keyword With) term) then past (Keyword Do) rule)
      makes (λ r. source.Forall r.0.0 r.0.1 r.1.0 r.1.1)

  -- "choose" name "in" name [ "with" term ] "do" rule [ "ifnone" rule ] "endchoose"
  unfoldable pub choose_rule : Production source.Rule
  choose_rule = between (Keyword Choose) (Keyword EndChoose)
      (binding text then optional (past (Keyword With) term) then past (Keyword Do) rule then optional (past (Keyword IfNone) rule))
      makes (λ r. source.Choose r.0.0 r.0.1 r.1.0 r.1.1.0 (branch r.1.1.1))

  -- "iterate" rule "enditerate"
  unfoldable pub iterate_rule : Production source.Rule
  iterate_rule = between (Keyword Iterate) (Keyword EndIterate) rule makes source.Iterate

  -- "while" term "do" rule "endwhile"
  unfoldable pub while_rule : Production source.Rule
  while_rule = between (Keyword While) (Keyword EndWhile) (term then past (Keyword Do) rule) makes (λ r. source.While r.0 r.1)

  -- the rules with an end word
  unfoldable pub block_rule : Production source.Rule
  block_rule = par_rule or seq_rule or if_rule or let_rule or forall_rule or choose_rule or iterate_rule or while_rule

  -- a term that is assigned is no deeper
  abbrev pub value : Production source.Term
  value = term_over text term (answer text)

  unfoldable pub rule_over : Production source.Rule
  rule_over = skip_rule or (call or assignment value or call_by_result) or result_rule value or block_rule

module _ (text : List ℕ) where
  -- a rule in which rules with an end word and parentheses nest at most n deep
  unfoldable pub rule_within : ℕ → Production source.Rule
  rule_within zero = rule_over text nothing nothing
  rule_within (suc n) = rule_over text (term_within text n) (rule_within n)

  abbrev pub any_rule : Production source.Rule
  any_rule = at_any_depth rule_within
