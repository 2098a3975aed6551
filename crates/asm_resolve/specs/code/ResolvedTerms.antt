-- Bridge to the code. When a code stands for a term.
--     Agrees program names e rs            in the environment e each name is bound to what has its
--                                          position in rs, and no other name is bound
--     IsResolved program shape names t c   under such names c has the value of t in each state
use Rattle.std.specs.Prelude.{◌≡◌, ℕ, List, Some, None}
use Rattle.asm_state.specs.Location.{State}
use Rattle.asm_state.specs.Signature.{Shape}
use Rattle.asm_syntax.specs.Tree as tree
use Rattle.asm_syntax.specs.Tree.{Name, Term, Terms}
use Rattle.asm_meaning.specs.Program.{Program, Environment, Binding, ToValue, ToTerm, ToLocation, bound_to}
use Rattle.asm_meaning.specs.Value.{Reading, read, value}
use Rattle.asm_code.specs.code.CodeTree as codes
use Rattle.asm_code.specs.code.CodeTree.{Code, Codes}
use Rattle.asm_code.specs.code.Readings.{always, at_position, reading}
use Rattle.asm_code.specs.code.SoundCodes.{IsSound}
use Rattle.asm_resolve.specs.code.Slots.{position_of}

module _ (program : Program) where
  abbrev pub bound_reading : Binding → Reading
  bound_reading (ToValue v) = always v
  bound_reading (ToTerm t caller) = λ A. value program A caller t
  bound_reading (ToLocation l ws) = λ A. read A l

  pub record Agrees (names : List Name) (e : Environment) (rs : List Reading) : Type 0 where
    pub bound : (x : Name) (i : ℕ) → position_of names x ≡ Some i → (b : Binding) × (bound_to e x ≡ Some b) × (at_position rs i ≡ bound_reading b)
    pub free : (x : Name) → position_of names x ≡ None → bound_to e x ≡ None

  module _ (shape : Shape) where
    pub record IsResolved (names : List Name) (t : Term) (c : Code) : Type 0 where
      pub sound : IsSound shape c
      pub means : (e : Environment) (rs : List Reading) (A : State) → Agrees names e rs → reading shape c rs A ≡ value program A e t

    abbrev pub AreResolved : List Name → Terms → Codes → Type 0
    AreResolved names tree.no_terms codes.no_codes = Unit {0}
    AreResolved names (tree.term_then t ts) (codes.code_then c cs) = IsResolved names t c × AreResolved names ts cs
    AreResolved names ts cs = ⊥

    abbrev pub AreResolvedLinks : List Name → tree.Links → codes.Links → Type 0
    AreResolvedLinks names tree.no_links codes.no_links = Unit {0}
    AreResolvedLinks names (tree.link_then o t ts) (codes.link_then p c cs) = (o ≡ p) × IsResolved names t c × AreResolvedLinks names ts cs
    AreResolvedLinks names ts cs = ⊥
