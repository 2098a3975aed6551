-- Definition. Terms and rules as trees without offsets. A name is the list of its bytes.
--     Term, Terms, Links      a term;  a list of terms;  the rest of a chain: operations, each with
--                             its right operand
--     Rule, Rules             a rule;  a list of rules. A rule without `else` or `ifnone` has
--                             `Skip` there. A call may have a target: the location that `result`
--                             stands for in the body of the rule
--     result                  the word `result` as a name, which no text can declare
use Rattle.std.specs.Prelude.{ℕ, List, Option, codes}
use Rattle.asm_state.specs.declared.value.Value.{Value}
use Rattle.asm_state.specs.declared.operation.Op.{Op}

abbrev pub Name : Type 0
Name = List ℕ

abbrev pub result : Name
result = codes "result"

mutual
  pub data Term : Type 0 where
    Constant : Value → Term
    Named : Name → Terms → Term
    Chain : Term → Links → Term
    Not : Term → Term
    Negative : Term → Term
    Exists : (x universe : Name) → Term → Term
    Every : (x universe : Name) → Term → Term

  pub data Terms : Type 0 where
    no_terms : Terms
    term_then : Term → Terms → Terms

  pub data Links : Type 0 where
    no_links : Links
    link_then : Op → Term → Links → Links

mutual
  pub data Rule : Type 0 where
    Skip : Rule
    Assign : (f : Name) → Terms → Term → Rule
    Call : (target : Option (Name × Terms)) → (r : Name) → Terms → Rule
    Par : Rules → Rule
    Seq : Rules → Rule
    If : (test : Term) → (yes no : Rule) → Rule
    Let : (x : Name) → Term → Rule → Rule
    Forall : (x universe : Name) → (test : Option Term) → Rule → Rule
    Choose : (x universe : Name) → (test : Option Term) → (body none : Rule) → Rule
    Iterate : Rule → Rule

  pub data Rules : Type 0 where
    no_rules : Rules
    rule_then : Rule → Rules → Rules
