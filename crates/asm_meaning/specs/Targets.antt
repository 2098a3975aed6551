-- Definition. The locations that targets name: of assignments, and of calls.
--     location program A e f ts       the location that f with the arguments ts names, if it names
--                                     one
--     arguments program A e f ts      the values of its arguments
--     update l v                      the set of its one update, or none
--     answering program A e to inner  the environment of a called rule's body, in which `result`
--                                     stands for the call's target
use Rattle.std.specs.Prelude.{List, Option, Some, None}
use Rattle.asm_state.specs.declared.value.Value.{Value}
use Rattle.asm_state.specs.Location.{Location, State}
use Rattle.asm_state.specs.Tables.{location_in}
use Rattle.asm_state.specs.Updates.{UpdateSet, none, one}
use Rattle.asm_syntax.specs.Tree.{Name, Terms}
use Rattle.asm_meaning.specs.Program.{Program, Declared, Controlled, declared, Environment, Binding, ToValue, ToTerm, ToLocation, bound_to, located}
use Rattle.asm_meaning.specs.Value.{values}

-- of a controlled function
abbrev pub location_of : Option Declared → List Value → Option Location
location_of (Some (Controlled f domain)) vs = Some (location_in f domain vs)
location_of _ vs = None

-- a name that is bound to a location names that one
abbrev pub bound_location : Option Binding → Option Declared → List Value → Option Location
bound_location (Some (ToLocation l ws)) it vs = Some l
bound_location (Some (ToValue v)) it vs = location_of it vs
bound_location (Some (ToTerm t caller)) it vs = location_of it vs
bound_location None it vs = location_of it vs

abbrev pub location : Program → State → Environment → Name → Terms → Option Location
location program A e f ts = bound_location (bound_to e f) (declared program f) (values program A e ts)

-- a name that is bound to a location has the arguments of that one
abbrev pub bound_arguments : Option Binding → List Value → List Value
bound_arguments (Some (ToLocation l ws)) vs = ws
bound_arguments (Some (ToValue v)) vs = vs
bound_arguments (Some (ToTerm t caller)) vs = vs
bound_arguments None vs = vs

abbrev pub arguments : Program → State → Environment → Name → Terms → List Value
arguments program A e f ts = bound_arguments (bound_to e f) (values program A e ts)

abbrev pub update : Option Location → Value → UpdateSet
update None v = none
update (Some l) v = one l v

-- The target's terms are valued once, in the state of the call and under the caller's environment.
abbrev pub answering : Program → State → Environment → Option (Name × Terms) → (inner : Environment) → Environment
answering program A e None inner = inner
answering program A e (Some (f, ts)) inner = located (location program A e f ts) (arguments program A e f ts) inner
