-- Bridge to the code. Resolved rules as trees.
--     Place        what is updated: what a position has for a location, or a location of a
--                  controlled function, by its number or by the positions or values of arguments
use Rattle.std.specs.Prelude.{ℕ, Option}
use Rattle.asm_code.specs.code.CodeTree.{Code, Codes}

pub data Place : Type 0 where
  Answer : (position : ℕ) → Place
  Cell : (number : ℕ) → Place
  Row : (first low count : ℕ) → Code → Place
  Grid : (first low rows left columns : ℕ) → (row column : Code) → Place
  Held : (function : ℕ) → Codes → Place

mutual
  pub data RuleCode : Type 0 where
    Skip : RuleCode
    Assign : Place → Code → RuleCode
    Par : RuleCodes → RuleCode
    Seq : RuleCodes → RuleCode
    If : (test : Code) → (yes no : RuleCode) → RuleCode
    Let : Code → RuleCode → RuleCode
    Forall : (over : ℕ) → (test : Option Code) → RuleCode → RuleCode
    Choose : (over : ℕ) → (test : Option Code) → (body none : RuleCode) → RuleCode
    Iterate : RuleCode → RuleCode
    Call : (body : RuleCode) → (answer : Option Place) → Codes → RuleCode

  pub data RuleCodes : Type 0 where
    no_rules : RuleCodes
    rule_then : RuleCode → RuleCodes → RuleCodes
