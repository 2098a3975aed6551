-- Bridge to the code. Resolved terms as trees.
--     Code, Codes, Links      a term without names;  a list of them;  the rest of a chain:
--                             operations, each with its right operand
use Rattle.std.specs.Prelude.{ℕ}
use Rattle.asm_state.specs.declared.value.Value.{Value}
use Rattle.asm_state.specs.declared.operation.Op.{Op}

mutual
  pub data Code : Type 0 where
    Constant : Value → Code
    Local : (position : ℕ) → Code
    Cell : (number : ℕ) → Code
    Row : (first low count : ℕ) → Code → Code
    Grid : (first low rows left columns : ℕ) → (row column : Code) → Code
    Held : (function : ℕ) → Codes → Code
    Derived : (body : Code) → Codes → Code
    With : Op → Code → (right : Value) → Code
    Both : Op → (left right : Code) → Code
    Chain : Code → Links → Code
    Exists : (over : ℕ) → Code → Code
    Every : (over : ℕ) → Code → Code

  pub data Codes : Type 0 where
    no_codes : Codes
    code_then : Code → Codes → Codes

  pub data Links : Type 0 where
    no_links : Links
    link_then : Op → Code → Links → Links
