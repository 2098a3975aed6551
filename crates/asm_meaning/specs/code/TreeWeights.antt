-- Bridge to the code. What falls on the way of a recursion over the code's tree.
--     term_weight, named_weight      of a term of the code, and of a name with arguments, under an
--                                    environment
--     body_weight                    of what a name stands for, with the values of its arguments
--     rules_in, rules_in_all         how many rules a rule is made of, with `of_called f` for a
--                                    called rule f;  some rules
--     in_body checked f              how many rules the body of a called rule is made of
use Rattle.std.proofs.Common.{ℕ, ◌+◌, ◌*◌, List, map, Option, Some}
use Rattle.asm_state.specs.declared.operation.Op.{Op}
use Rattle.asm_state.specs.declared.value.Value.{Value}
use Rattle.asm_syntax.specs.SourceTree as source
use Rattle.asm_syntax.specs.code.Views.{term_of, terms_of}
use Rattle.asm_syntax.specs.PlainTree.{plain_term, plain_terms}
use Rattle.asm_syntax.specs.Tree.{Name, Named}
use Rattle.asm_syntax.specs.declared.term.Term.{Term}
use Rattle.asm_meaning.specs.Program.{Program, Declared, Derived, Environment, bind_values}
use Rattle.asm_meaning.specs.code.Weights.{weight}
use Rattle.asm_syntax.specs.Tree as tree
use Rattle.asm_check.specs.declared.checked.Checked.{Checked}
use Rattle.asm_meaning.specs.Program.{declared}
use Rattle.asm_meaning.specs.code.TermValues.{program}
use Rattle.asm_meaning.specs.code.Weights.{called_size, rule_size_within}

abbrev pub term_weight : Program → Environment → Term → ℕ
term_weight program e t = weight program e (plain_term (term_of t))

abbrev pub named_weight : Program → Environment → Name → List Term → ℕ
named_weight program e x ts = weight program e (Named x (plain_terms (terms_of (map term_of ts))))

abbrev pub body_weight : Program → Option Declared → List Value → ℕ
body_weight program (Some (Derived xs t)) vs = 4 * weight program (bind_values xs vs) t + 4
body_weight program it vs = 0

-- a link of the code's chains
abbrev pub link_of : Op × Term → Op × source.Term
link_of l = (l.0, term_of l.1)

-- ---- rules

module _ (of_called : tree.Name → ℕ) where
  abbrev mutual
    pub rules_in : tree.Rule → ℕ
    rules_in tree.Skip = 1
    rules_in (tree.Assign f ts t) = 1
    rules_in (tree.Call to f ts) = 1 + of_called f
    rules_in (tree.Par Ps) = 1 + rules_in_all Ps
    rules_in (tree.Seq Ps) = 1 + rules_in_all Ps
    rules_in (tree.If c P Q) = 1 + (rules_in P + rules_in Q)
    rules_in (tree.Let x t P) = 1 + rules_in P
    rules_in (tree.Forall x u c P) = 1 + rules_in P
    rules_in (tree.Choose x u c P Q) = 1 + (rules_in P + rules_in Q)
    rules_in (tree.Iterate P) = 1 + rules_in P

    pub rules_in_all : tree.Rules → ℕ
    rules_in_all tree.no_rules = 0
    rules_in_all (tree.rule_then P Ps) = rules_in P + rules_in_all Ps

-- how many rules the body of a rule is made of
abbrev pub in_body : Checked → tree.Name → ℕ
in_body checked f = called_size (program checked) (rule_size_within (program checked) 16) (declared (program checked) f)
