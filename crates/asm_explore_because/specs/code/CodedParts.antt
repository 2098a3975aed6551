-- Bridge to the code. Parts of conditions, as the code has them.
--     spec_in, state_in scene      the specification and the state that a condition is looked at in
--     bound_of names               the bound names of the code
--     part_of, part_of_some        a part of the code, and one that there may be
--     term_at, terms_at            a term behind a reference, and several
--     texts_of, text_of_some       texts of the code, and one that there may be
--     AreNamed scope frame bound   the positions of a scope and a frame are those of bound names
use Rattle.std.specs.Prelude.{◌≡◌, ℕ, List, map, Option, option_map}
use Rattle.std.proofs.Common.{Vec, Global}
use Rattle.asm_state.specs.declared.value.Value.{Value}
use Rattle.asm_state.specs.Location.{State}
use Rattle.asm_state.specs.Signature.{Shape, state_of}
use Rattle.asm_state.specs.Words.{value_of_code}
use Rattle.std.specs.Borrow.{Bor}
use Rattle.asm_syntax.specs.SourceTree as source
use Rattle.asm_syntax.specs.SourceTree.{Spec}
use Rattle.asm_syntax.specs.declared.term.Term.{Term}
use Rattle.asm_syntax.specs.Tree.{Name}
use Rattle.asm_syntax.specs.code.Views.{spec_of, term_of}
use Rattle.asm_check.specs.Shapes.{shape_of}
use Rattle.asm_code.specs.code.Readings.{always}
use Rattle.asm_eval.specs.code.Frames.{readings_of}
use Rattle.asm_eval.specs.declared.frame.Frame.{Frame}
use Rattle.asm_resolve.specs.code.Scopes.{names_of}
use Rattle.asm_resolve.specs.declared.scope.Scope.{Scope}
use Rattle.asm_explore_because.specs.Parts as parts
use Rattle.asm_explore_because.specs.Parts.{Bound}
use Rattle.asm_explore_because.specs.declared.bound_name.BoundName.{BoundName}
use Rattle.asm_explore_because.specs.declared.part.Part.{Part}
use Rattle.asm_explore_because.specs.declared.scene.Scene.{Scene}

abbrev pub spec_in : Scene → Spec
spec_in scene = spec_of scene.checked.now.spec

abbrev pub state_in : Scene → State
state_in scene = state_of (shape_of (spec_in scene)) scene.state.now

abbrev pub bound_name : BoundName → Name × Value
bound_name b = (b.name.now.text, value_of_code b.value.value)

abbrev pub bound_of : List BoundName → Bound
bound_of names = map bound_name names

abbrev pub term_at : Bor Term → source.Term
term_at t = term_of t.now

abbrev pub terms_at : List (Bor Term) → List source.Term
terms_at ts = map term_at ts

abbrev pub texts_of : List (Vec ℕ Global) → List (List ℕ)
texts_of texts = map (λ (text : Vec ℕ Global). text.items) texts

abbrev pub text_of_some : Option (Vec ℕ Global) → Option (List ℕ)
text_of_some text = option_map (λ (it : Vec ℕ Global). it.items) text

abbrev pub part_of : Part → parts.Part
part_of p = record { term = term_of p.term.now; bound = bound_of p.bound.items; wanted = p.wanted; strictly = p.strictly }

abbrev pub part_of_some : Option Part → Option parts.Part
part_of_some p = option_map part_of p

pub record AreNamed (shape : Shape) (scope : Scope) (frame : Frame) (bound : Bound) : Type 0 where
  pub names : names_of scope ≡ map (λ (b : Name × Value). b.0) bound
  pub values : readings_of shape frame ≡ map (λ (b : Name × Value). always b.1) bound
