-- Law. What is at the locations of a controlled function in the initial state, by its table.
--     function_items spec      the controlled and static functions of the text, in its order
--     values_of spec e         the values of an entry's arguments
use Rattle.std.specs.Prelude.{◌≡◌, ◌≢◌, ℕ, Bool, true, false, List, ◌∷◌, ◌++◌, map, filter, slice_get, Option, Some, None, All, IsTrue}
use Rattle.asm_state.specs.declared.value.Value.{Value}
use Rattle.asm_state.specs.declared.value.Value.TheVariants.{Undef}
use Rattle.asm_state.specs.Location.{Proper}
use Rattle.asm_state.specs.Signature.{domain_of}
use Rattle.asm_state.specs.Tables.{is_in}
use Rattle.asm_state.specs.declared.function.FunctionKind.TheVariants as kind
use Rattle.asm_syntax.specs.SourceTree.{Name, Const, Entry, Given, Each, Entries, Item, Function, Spec}
use Rattle.asm_check.specs.Shapes.{const_value, shape_of}
use Rattle.asm_meaning.specs.Declarations.{specification_of}

abbrev pub is_function : Item → Bool
is_function (Function x how domain codomain table) = true
is_function item = false

abbrev pub function_items : Spec → List Item
function_items spec = filter is_function spec.items

abbrev pub values_of : Spec → Entry → List Value
values_of spec e = map (const_value spec) e.arguments

-- the function with the number f is controlled, and this is its table
module _ (spec : Spec) (f : ℕ) (x : Name) (domain : List Name) (codomain : Option Name) where
  abbrev Begins : Option Given → Type 0
  Begins table = slice_get (function_items spec) f ≡ Some (Function x kind.Controlled domain codomain table)

  -- these arguments are in its domain
  abbrev AreArguments : List Value → Type 0
  AreArguments vs = IsTrue (is_in (domain_of (shape_of spec) f) vs)

  abbrev first : List Value → Value
  first vs = (specification_of spec).initial (Proper f vs)

  pub record InitialContents : Type 0 where
    -- without a table there is no content
    pub without : Begins None → (vs : List Value) → first vs ≡ Undef
    -- one constant is everywhere
    pub constant : (c : Const) → Begins (Some (Each c)) → (vs : List Value) → AreArguments vs → first vs ≡ const_value spec c
    -- of some entries, the value of the first of the arguments, and nothing if none is of them
    pub entry : (before after : List Entry) (e : Entry) → Begins (Some (Entries (before ++ e ∷ after))) → AreArguments (values_of spec e)
        → All (λ other. values_of spec other ≢ values_of spec e) before → first (values_of spec e) ≡ const_value spec e.value
    pub no_entry : (entries : List Entry) → Begins (Some (Entries entries)) → (vs : List Value)
        → All (λ e. values_of spec e ≢ vs) entries → first vs ≡ Undef

abbrev pub InitialLaws : Type 0
InitialLaws = (spec : Spec) (f : ℕ) (x : Name) (domain : List Name) (codomain : Option Name) → InitialContents spec f x domain codomain
