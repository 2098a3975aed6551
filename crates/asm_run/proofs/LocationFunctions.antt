-- Free. The functions of locations, and of faults.
use Rattle.std.proofs.Common.{◌≡◌, ℕ, ◌<◌, length, sym, subst}
use Rattle.asm_state.specs.declared.location.Location as code
use Rattle.asm_state.specs.Location.{function_of}
use Rattle.asm_state.specs.code.CodeLocations.{location_of}
use Rattle.asm_state.specs.Signature.{Shape, count_of, location_at}
use Rattle.asm_syntax.specs.SourceTree.{Spec}
use Rattle.asm_check.specs.Faults.{IsWellFormed}
use Rattle.asm_check.specs.Numbers.{functions_of}
use Rattle.asm_check.specs.Shapes.{shape_of}
use Rattle.asm_run.proofs.TextLemmas.StepText.{function_below}

-- the function of a location that has a number
pub location_function_below : (s : Spec) (shape : Shape) (location : code.Location) (n : ℕ) → IsWellFormed s → shape ≡ shape_of s → n < count_of shape → location_of location ≡ location_at shape n
    → function_of (location_of location) < length (functions_of s)
location_function_below s shape location n good e below at =
    let known = function_below s n good (subst (λ v. n < count_of v) e below) in
    subst (λ l. function_of l < length (functions_of s)) (sym (subst (λ v. location_of location ≡ location_at v n) e at)) known
