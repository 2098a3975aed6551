-- Free. Items and specifications over more terms and more rules are more items and more
-- specifications.
use Rattle.std.proofs.Common.{ℕ, suc, List, length, inl, inr}
use Rattle.asm_syntax.specs.declared.token.Kind.TheVariants.{Symbol, Keyword}
use Rattle.asm_syntax.specs.declared.token.Symbol.TheVariants.{Equal}
use Rattle.asm_syntax.specs.declared.token.Keyword.TheVariants.{CoreAsm, Derived, Rule}
use Rattle.asm_syntax.specs.SourceTree as source
use Rattle.asm_reader.specs.Productions.{Production, ◌then◌, repeated, past}
use Rattle.asm_reader.specs.TermGrammar.{name, term_within, any_term}
use Rattle.asm_reader.specs.RuleGrammar.{rule_within, any_rule}
use Rattle.asm_reader.specs.Grammar as g
use Rattle.asm_reader.proofs.WiderLemmas.WiderParts.{Includes, same_part, wider_then, wider_repeated, wider_makes, wider_past}

module _ (text : List ℕ) where
  -- a name, parameters and a body after `=`
  abbrev declared : {A : Type 0} → Production A → Production (source.Name × (List source.Name × A))
  declared X = name text then (g.parameters text then past (Symbol Equal) X)

  wider_declared : {A : Type 0} (X Y : Production A) → Includes X Y → Includes (declared X) (declared Y)
  wider_declared X Y h = wider_then (name text) (name text) (g.parameters text then past (Symbol Equal) X) (g.parameters text then past (Symbol Equal) Y) (same_part (name text))
      (wider_then (g.parameters text) (g.parameters text) (past (Symbol Equal) X) (past (Symbol Equal) Y) (same_part (g.parameters text)) (wider_past (Symbol Equal) X Y h))

  module _ (X Y : Production source.Term) (S T : Production source.Rule) (h : Includes X Y) (k : Includes S T) where
    wider_derived : Includes (g.derived_item text X S) (g.derived_item text Y T)
    unfolding g.derived_item
    wider_derived = wider_makes (past (Keyword Derived) (declared X)) (past (Keyword Derived) (declared Y)) (λ v. source.Derived v.0 v.1.0 v.1.1) (wider_past (Keyword Derived) (declared X) (declared Y) (wider_declared X Y h))

    wider_rule_item : Includes (g.rule_item text X S) (g.rule_item text Y T)
    unfolding g.rule_item
    wider_rule_item = wider_makes (past (Keyword Rule) (declared S)) (past (Keyword Rule) (declared T)) (λ v. source.NamedRule v.0 v.1.0 v.1.1) (wider_past (Keyword Rule) (declared S) (declared T) (wider_declared S T k))

    wider_item : Includes (g.item text X S) (g.item text Y T)
    unfolding g.item
    wider_item ts x (inl p) = inl p
    wider_item ts x (inr (inl p)) = inr (inl p)
    wider_item ts x (inr (inr (inl p))) = inr (inr (inl p))
    wider_item ts x (inr (inr (inr (inl p)))) = inr (inr (inr (inl p)))
    wider_item ts x (inr (inr (inr (inr (inl p))))) = inr (inr (inr (inr (inl p))))
    wider_item ts x (inr (inr (inr (inr (inr (inl p)))))) = inr (inr (inr (inr (inr (inl (wider_derived ts x p))))))
    wider_item ts x (inr (inr (inr (inr (inr (inr p)))))) = inr (inr (inr (inr (inr (inr (wider_rule_item ts x p))))))

    abbrev named : Production source.Item → Production (source.Name × List source.Item)
    named I = name text then repeated I

    pub wider_specification : Includes (g.specification_over text X S) (g.specification_over text Y T)
    unfolding g.specification_over
    wider_specification = wider_makes (past (Keyword CoreAsm) (named (g.item text X S))) (past (Keyword CoreAsm) (named (g.item text Y T))) (λ v. record { name = v.0; items = v.1; length = length text })
        (wider_past (Keyword CoreAsm) (named (g.item text X S)) (named (g.item text Y T))
        (wider_then (name text) (name text) (repeated (g.item text X S)) (repeated (g.item text Y T)) (same_part (name text)) (wider_repeated (g.item text X S) (g.item text Y T) wider_item)))

  -- specifications whose terms and rules nest at most n + 1 levels deep are specifications
  pub wide_specification : (n : ℕ) → Includes (g.specification_over text (term_within text (suc n)) (rule_within text (suc n))) (g.specification text)
  wide_specification n = wider_specification (term_within text (suc n)) (any_term text) (rule_within text (suc n)) (any_rule text) (λ ts x p. (suc n, p)) (λ ts x p. (suc n, p))
