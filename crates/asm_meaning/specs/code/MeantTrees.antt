-- Bridge to the code. What parts of the code's tree stand for.
--     text_of x                               the text of a name
--     meant R                                 the rule that a rule stands for
--     meant_rules, meant_branch               the same of some rules, and of a branch that may be
--                                             left out
--     meant_term, meant_terms, meant_target   the same of terms, and of a call's target
use Rattle.std.specs.Prelude.{List, map, Option}
use Rattle.std.proofs.Common.{Box, Global}
use Rattle.asm_syntax.specs.PlainTree.{plain_term, plain_terms, plain_target, plain_rule, plain_rules, plain_branch}
use Rattle.asm_syntax.specs.Tree as tree
use Rattle.asm_syntax.specs.Tree.{Name}
use Rattle.asm_syntax.specs.code.Views.{term_of, terms_of, rule_of, rules_of, target_of}
use Rattle.asm_syntax.specs.declared.name.Name as syntax
use Rattle.asm_syntax.specs.declared.rule.Rule.{Rule}
use Rattle.asm_syntax.specs.declared.rule.Target.{Target}
use Rattle.asm_syntax.specs.declared.term.Term.{Term}
use Rattle.asm_meaning.specs.code.TermValues.{branch}

abbrev pub text_of : syntax.Name → Name
text_of x = x.text

abbrev pub meant : Rule → tree.Rule
meant R = plain_rule (rule_of R)

abbrev pub meant_rules : List Rule → tree.Rules
meant_rules Rs = plain_rules (rules_of (map rule_of Rs))

abbrev pub meant_branch : Option (Box Rule Global) → tree.Rule
meant_branch Q = plain_branch (branch Q)

abbrev pub meant_term : Term → tree.Term
meant_term t = plain_term (term_of t)

abbrev pub meant_terms : List Term → tree.Terms
meant_terms ts = plain_terms (terms_of (map term_of ts))

abbrev pub meant_target : Option Target → Option (tree.Name × tree.Terms)
meant_target to = plain_target (target_of to)
