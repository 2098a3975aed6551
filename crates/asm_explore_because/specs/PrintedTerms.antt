-- Definition. How a term is printed.
--     operation_text o            an operation that stands between two terms
--     strength t                  how tightly a term holds together: parentheses are around what
--                                 holds together less than what is around it asks for
--     term_text t                 the term, with no parentheses but those that it needs
--     arguments_text elements vs  the values of arguments in parentheses, if there are any
use Rattle.std.specs.Prelude.{ℕ, ◌+◌, Bool, cond, List, [], ◌∷◌, ◌++◌, nat_lt, codes}
use Rattle.std.specs.List.{flat_map}
use Rattle.asm_state.specs.declared.operation.Op.{Op}
use Rattle.asm_state.specs.declared.operation.Op.TheVariants.{Add, Subtract, Multiply, Divide, Remainder, Negate, Less, AtMost, Greater, AtLeast, Equal, Different, And, Or, Not as not_op}
use Rattle.asm_state.specs.declared.value.Value.{Value}
use Rattle.asm_syntax.specs.PlainTree.{literal_value}
use Rattle.asm_syntax.specs.SourceTree.{Term, Constant, Named, Chain, Not, Negative, Exists, Every, Result, Terms, no_terms, term_then, Links, no_links, link_then}
use Rattle.asm_run.specs.Trace.{value_text}

abbrev pub operation_text : Op → List ℕ
operation_text Add = codes "+"
operation_text Subtract = codes "-"
operation_text Multiply = codes "*"
operation_text Divide = codes "div"
operation_text Remainder = codes "mod"
operation_text Negate = codes "-"
operation_text Less = codes "<"
operation_text AtMost = codes "<="
operation_text Greater = codes ">"
operation_text AtLeast = codes ">="
operation_text Equal = codes "="
operation_text Different = codes "!="
operation_text And = codes "and"
operation_text Or = codes "or"
operation_text not_op = codes "not"

-- a disjunction, a conjunction, a negation, a comparison, a sum, a product, a term with a sign, and
-- any other one
abbrev pub strength_of : Op → ℕ
strength_of Or = 0
strength_of And = 1
strength_of not_op = 2
strength_of Less = 3
strength_of AtMost = 3
strength_of Greater = 3
strength_of AtLeast = 3
strength_of Equal = 3
strength_of Different = 3
strength_of Add = 4
strength_of Subtract = 4
strength_of Multiply = 5
strength_of Divide = 5
strength_of Remainder = 5
strength_of Negate = 6

-- a chain has operations of one strength, and at least one
abbrev pub chain_strength : Links → ℕ
chain_strength no_links = 7
chain_strength (link_then o t links) = strength_of o

abbrev pub strength : Term → ℕ
strength (Constant l) = 7
strength (Named x ts) = 7
strength (Chain t links) = chain_strength links
strength (Not t) = 2
strength (Negative t) = 6
strength (Exists x u t) = 7
strength (Every x u t) = 7
strength (Result x) = 7

abbrev pub enclosed : Bool → List ℕ → List ℕ
enclosed is_weak text = cond is_weak (codes "(" ++ (text ++ codes ")")) text

-- with parentheses, if the term holds together less than that
abbrev pub operand : (asked own : ℕ) → (text : List ℕ) → List ℕ
operand asked own text = enclosed (nat_lt own asked) text

abbrev pub quantified_text : (word x u between : List ℕ) → (text : List ℕ) → List ℕ
quantified_text word x u between text = codes "(" ++ (word ++ (codes " " ++ (x ++ (codes " in " ++ (u ++ (codes " " ++ (between ++ (codes " " ++ (text ++ codes ")")))))))))

abbrev mutual
  pub term_text : Term → List ℕ
  term_text (Constant l) = value_text [] (literal_value l)
  term_text (Named x ts) = x.text ++ terms_text ts
  term_text (Chain t links) = operand (chain_strength links + 1) (strength t) (term_text t) ++ links_text (chain_strength links + 1) links
  term_text (Not t) = codes "not " ++ operand 3 (strength t) (term_text t)
  term_text (Negative t) = codes "-" ++ operand 7 (strength t) (term_text t)
  term_text (Exists x u t) = quantified_text (codes "exists") x.text u.text (codes "with") (term_text t)
  term_text (Every x u t) = quantified_text (codes "forall") x.text u.text (codes "holds") (term_text t)
  term_text (Result x) = x.text

  -- in parentheses, if there are any
  pub terms_text : Terms → List ℕ
  terms_text no_terms = []
  terms_text (term_then t ts) = codes "(" ++ (term_text t ++ (more_text ts ++ codes ")"))

  pub more_text : Terms → List ℕ
  more_text no_terms = []
  more_text (term_then t ts) = codes ", " ++ (term_text t ++ more_text ts)

  pub links_text : (asked : ℕ) → Links → List ℕ
  links_text asked no_links = []
  links_text asked (link_then o t links) = codes " " ++ (operation_text o ++ (codes " " ++ (operand asked (strength t) (term_text t) ++ links_text asked links)))

abbrev pub other_arguments : List (List ℕ) → List Value → List ℕ
other_arguments elements vs = flat_map (λ v. codes ", " ++ value_text elements v) vs

abbrev pub arguments_text : List (List ℕ) → List Value → List ℕ
arguments_text elements [] = []
arguments_text elements (v ∷ vs) = codes "(" ++ (value_text elements v ++ (other_arguments elements vs ++ codes ")"))
