-- Definition. Specifications as the reader makes them: each name with its offset in the text.
--     Name                        a name, with the offset of its first byte
--     Term, Terms, Links          a term;  a list of terms;  the rest of a chain. A `Result` is the
--                                 word `result`
--     Rule, Rules, Branch         a rule;  a list of rules;  a rule that may be left out. A call
--                                 may have the target of a `<-`
--     terms_of, links_of, rules_of     the same as lists
--     Const, Entry, Given         a constant of a table;  an entry, with the offset of its `(`;  a
--                                 table
--     Item, Spec                  a declaration or another line;  a specification, with the length
--                                 of its text
use Rattle.std.specs.Prelude.{ℕ, List, [], ◌∷◌, Option}
use Rattle.asm_state.specs.declared.number.Number.{Number}
use Rattle.asm_state.specs.declared.operation.Op.{Op}
use Rattle.asm_syntax.specs.declared.term.Literal.{Literal}
use Rattle.asm_state.specs.declared.function.FunctionKind.{FunctionKind}

pub record Name : Type 0 where
  pub at : ℕ
  pub text : List ℕ

mutual
  pub data Term : Type 0 where
    Constant : Literal → Term
    Named : Name → Terms → Term
    Chain : Term → Links → Term
    Not : Term → Term
    Negative : Term → Term
    Exists : (x over : Name) → Term → Term
    Every : (x over : Name) → Term → Term
    Result : Name → Term

  pub data Terms : Type 0 where
    no_terms : Terms
    term_then : Term → Terms → Terms

  pub data Links : Type 0 where
    no_links : Links
    link_then : Op → Term → Links → Links

mutual
  pub data Rule : Type 0 where
    Skip : Rule
    Assign : Name → Terms → Term → Rule
    Call : (target : Option (Name × Terms)) → Name → Terms → Rule
    Par : Rules → Rule
    Seq : Rules → Rule
    If : (test : Term) → (yes : Rule) → (no : Branch) → Rule
    Let : Name → Term → Rule → Rule
    Forall : (x over : Name) → (test : Option Term) → Rule → Rule
    Choose : (x over : Name) → (test : Option Term) → (body : Rule) → (none : Branch) → Rule
    Iterate : Rule → Rule
    While : Term → Rule → Rule
    SetResult : Name → Term → Rule

  pub data Rules : Type 0 where
    no_rules : Rules
    rule_then : Rule → Rules → Rules

  pub data Branch : Type 0 where
    left_out : Branch
    written : Rule → Branch

abbrev pub terms_of : List Term → Terms
terms_of [] = no_terms
terms_of (t ∷ ts) = term_then t (terms_of ts)

abbrev pub links_of : List (Op × Term) → Links
links_of [] = no_links
links_of ((o, t) ∷ links) = link_then o t (links_of links)

abbrev pub rules_of : List Rule → Rules
rules_of [] = no_rules
rules_of (P ∷ Ps) = rule_then P (rules_of Ps)

pub data Const : Type 0 where
  Plain : Literal → Const
  Element : Name → Const

pub record Entry : Type 0 where
  pub at : ℕ
  pub arguments : List Const
  pub value : Const

pub data Given : Type 0 where
  Each : Const → Given
  Entries : List Entry → Given

pub data Item : Type 0 where
  Uses : Name → Item
  Init : Name → Item
  Enum : Name → (elements : List Name) → Item
  Universe : Name → (first last : Number) → Item
  Function : Name → FunctionKind → (domain : List Name) → (codomain : Option Name) → (table : Option Given) → Item
  Derived : Name → (parameters : List Name) → Term → Item
  NamedRule : Name → (parameters : List Name) → Rule → Item

pub record Spec : Type 0 where
  pub name : Name
  pub items : List Item
  pub length : ℕ
