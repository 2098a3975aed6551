-- Bridge to the code. Codes that stand for a function with arguments, and target codes that name
-- its location with them.
--     IsRead shape f ts t          t has the value of the function f for the values of ts
--     IsLocated shape f ts to      `to` names the location of the function f with the values of ts,
--                                  which are its arguments
--     HasDomain shape f ns         f is a controlled function over the universes numbered ns
--     IsRowOf shape f first over   f is a controlled function of one argument, with the number of
--                                  its first location and the code range of the argument's values
--     IsGridOf shape f at          the same of two arguments
use Rattle.std.specs.Prelude.{◌≡◌, ℕ, List, [], ◌∷◌, slice_get, Some}
use Rattle.asm_state.specs.declared.function.Function.{Function}
use Rattle.asm_state.specs.declared.function.FunctionKind.TheVariants.{Controlled}
use Rattle.asm_state.specs.declared.value.Value.{Value}
use Rattle.asm_state.specs.code.FirstLocations.{first_of}
use Rattle.asm_state.specs.Location.{State}
use Rattle.asm_state.specs.Signature.{Shape, domain_of}
use Rattle.asm_state.specs.Tables.{location_in}
use Rattle.asm_meaning.specs.Declarations.{function_at}
use Rattle.asm_meaning.specs.Value.{Reading}
use Rattle.asm_meaning.specs.code.TermValues.{held}
use Rattle.asm_code.specs.code.BoundValues.{arguments_of}
use Rattle.asm_code.specs.code.CodeTree.{Code, Codes}
use Rattle.asm_code.specs.code.Readings.{reading, readings}
use Rattle.asm_code.specs.code.RuleMeaning.{Locations, IsSoundTarget, target_location}
use Rattle.asm_code.specs.code.RuleTree.{Place}
use Rattle.asm_code.specs.code.SoundCodes.{IsSound, AreSound}
use Rattle.asm_code.specs.code.CodeRanges.{IsCodeRange}
use Rattle.asm_code.specs.declared.code.Grid.{Grid}
use Rattle.asm_code.specs.declared.code.CodeRange.{CodeRange}

pub record IsRead (shape : Shape) (f : ℕ) (ts : Codes) (t : Code) : Type 0 where
  pub sound : AreSound shape ts → IsSound shape t
  pub reads : (rs : List Reading) (A : State) → reading shape t rs A ≡ held (function_at shape f (slice_get shape.functions f)) (readings shape ts rs A) A

pub record IsLocated (shape : Shape) (f : ℕ) (ts : Codes) (to : Place) : Type 0 where
  pub sound : AreSound shape ts → IsSoundTarget shape to
  pub locates : (rs : List Reading) (ls : Locations) (A : State) → target_location shape to rs ls A ≡ Some (location_in f (domain_of shape f) (readings shape ts rs A))
  pub keeps : (rs : List Reading) (gs : List Value) (A : State) → arguments_of shape to rs gs A ≡ readings shape ts rs A

pub record HasDomain (shape : Shape) (f : ℕ) (ns : List ℕ) : Type 0 where
  pub function : Function
  pub at : slice_get shape.functions f ≡ Some function
  pub kind : function.kind ≡ Controlled
  pub domain : function.domain ≡ ns

pub record IsRowOf (shape : Shape) (f first : ℕ) (over : CodeRange) : Type 0 where
  pub universe : ℕ
  pub domain : HasDomain shape f (universe ∷ [])
  pub values : List Value
  pub at : slice_get shape.universes universe ≡ Some values
  pub span : IsCodeRange over values
  pub begins : first ≡ first_of shape f

pub record IsGridOf (shape : Shape) (f : ℕ) (at : Grid) : Type 0 where
  pub rows : ℕ
  pub columns : ℕ
  pub domain : HasDomain shape f (rows ∷ columns ∷ [])
  pub down : List Value
  pub across : List Value
  pub at_rows : slice_get shape.universes rows ≡ Some down
  pub at_columns : slice_get shape.universes columns ≡ Some across
  pub row_span : IsCodeRange at.rows down
  pub column_span : IsCodeRange at.columns across
  pub begins : at.first ≡ first_of shape f
