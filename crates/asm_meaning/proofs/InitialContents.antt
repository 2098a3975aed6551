-- Free. What is at the locations of a controlled function in the initial state.
use Rattle.std.proofs.Common.{◌≡◌, ◌≢◌, ℕ, zero, suc, true, false, cond, List, [], ◌∷◌, ◌++◌, map, Option, Some, None, refl, sym, ap, ◌∙◌, arith}
use Rattle.std.specs.Prelude.{slice_get, unwrap_or, All, IsTrue}
use Rattle.std.specs.Bool.{Decides}
use Rattle.std.specs.Cmp.Lexicographic.{pointwise_decides}
use Rattle.std.specs.List.{filter, filter_map}
use Rattle.asm_state.specs.declared.value.Value.{Value}
use Rattle.asm_state.specs.declared.value.Value.TheVariants.{Undef}
use Rattle.asm_state.specs.Location.{Proper}
use Rattle.asm_state.specs.Signature.{domain_by, domain_of, initial_value}
use Rattle.asm_state.specs.Operation.{is_same}
use Rattle.asm_state.specs.Tables.{Domain, is_in, is_list, entry_of, table_value, value_in}
use Rattle.asm_state.proofs.ValueLaws.{value_laws}
use Rattle.asm_state.specs.declared.function.FunctionKind.TheVariants as kind
use Rattle.asm_syntax.specs.SourceTree.{Name, Entry, Given, Each, Entries, Item, Uses, Init, Enum, Universe, Function, Derived, NamedRule, Spec}
use Rattle.asm_check.specs.Shapes.{const_value, entry_by, function_given, shape_of, table_by, texts_of}
use Rattle.asm_check.specs.Numbers.{elements_of}
use Rattle.asm_meaning.specs.Declarations.{specification_of}
use Rattle.asm_meaning.specs.InitialLaws.{is_function, function_items, values_of, InitialLaws}

-- a function of the text has its number among the functions of the signature
given_at : (spec : Spec) (items : List Item) (f : ℕ) (item : Item) → slice_get (filter is_function items) f ≡ Some item
    → slice_get (filter_map (function_given spec) items) f ≡ function_given spec item
given_at spec [] f item e = cc
given_at spec (Uses y ∷ items) f item e = given_at spec items f item e
given_at spec (Init y ∷ items) f item e = given_at spec items f item e
given_at spec (Enum y ys ∷ items) f item e = given_at spec items f item e
given_at spec (Universe y low high ∷ items) f item e = given_at spec items f item e
given_at spec (Function y how us codomain table ∷ items) zero item e =
    let same : Function y how us codomain table ≡ item = cc in
    ap (function_given spec) same
given_at spec (Function y how us codomain table ∷ items) (suc f) item e = given_at spec items f item e
given_at spec (Derived y ys t ∷ items) f item e = given_at spec items f item e
given_at spec (NamedRule y ys P ∷ items) f item e = given_at spec items f item e

-- ---- tables

-- the test of argument lists tells them apart
list_test : (us vs : List Value) → Decides (is_list us vs) (us ≡ vs)
list_test us vs = pointwise_decides {E = is_same} (λ v w. value_laws.same v w) us vs

other_list : (us vs : List Value) → us ≢ vs → is_list us vs ≡ false
other_list us vs apart =
    elim (is_list us vs) as (λ b. is_list us vs ≡ b → b ≡ false) [
      | true ↦ λ e. absurd (apart ((list_test us vs).0 e))
      | false ↦ λ e. refl
    ] refl

module _ (spec : Spec) where
  abbrev entry_values : Entry → List Value × Value
  entry_values e = entry_by (texts_of (elements_of spec)) e

  first_entry : (before after : List Entry) (e : Entry) → All (λ other. values_of spec other ≢ values_of spec e) before
      → entry_of (map entry_values (before ++ e ∷ after)) (values_of spec e) ≡ Some (const_value spec e.value)
  first_entry [] after e apart =
      ap (λ b. cond b (Some (const_value spec e.value)) (entry_of (map entry_values after) (values_of spec e))) ((list_test (values_of spec e) (values_of spec e)).1 refl)
  first_entry (b ∷ before) after e apart =
      ap (λ it. cond it (Some (const_value spec b.value)) (entry_of (map entry_values (before ++ e ∷ after)) (values_of spec e)))
      (other_list (values_of spec b) (values_of spec e) (apart 0 b (omega arith)))
      ∙ first_entry before after e (λ k d low. apart (suc k) d (omega (arith, low)))

  no_entry_of : (entries : List Entry) (vs : List Value) → All (λ e. values_of spec e ≢ vs) entries → entry_of (map entry_values entries) vs ≡ None
  no_entry_of [] vs apart = refl
  no_entry_of (e ∷ entries) vs apart =
      ap (λ it. cond it (Some (const_value spec e.value)) (entry_of (map entry_values entries) vs)) (other_list (values_of spec e) vs (apart 0 e (omega arith)))
      ∙ no_entry_of entries vs (λ k d low. apart (suc k) d (omega (arith, low)))

-- what isn't in a domain has nothing
undef_in : (domain : Domain) (vs : List Value) → cond (is_in domain vs) Undef Undef ≡ Undef
undef_in domain vs = elim (is_in domain vs) as (λ b. cond b Undef Undef ≡ Undef) [ true ↦ refl | false ↦ refl ]

module _ (spec : Spec) (f : ℕ) (x : Name) (us : List Name) (codomain : Option Name) (table : Option Given)
    (begins : slice_get (function_items spec) f ≡ Some (Function x kind.Controlled us codomain table)) where
  function_is : slice_get (shape_of spec).functions f ≡ function_given spec (Function x kind.Controlled us codomain table)
  unfolding shape_of
  function_is = given_at spec spec.items f (Function x kind.Controlled us codomain table) begins

  abbrev given_domain : Domain
  given_domain = domain_of (shape_of spec) f

  -- the content is that of the table
  content_is : (vs : List Value) → (specification_of spec).initial (Proper f vs) ≡ value_in given_domain (table_by (texts_of (elements_of spec)) table) vs
  content_is vs =
      ap (λ it. initial_value (shape_of spec).universes it vs) function_is
      ∙ ap (λ it. value_in (domain_by (shape_of spec).universes it) (table_by (texts_of (elements_of spec)) table) vs) (sym function_is)

  in_domain : (vs : List Value) → IsTrue (is_in given_domain vs)
      → (specification_of spec).initial (Proper f vs) ≡ table_value (table_by (texts_of (elements_of spec)) table) vs
  in_domain vs inside =
      content_is vs ∙ ap (λ b. cond b (table_value (table_by (texts_of (elements_of spec)) table) vs) Undef) inside

pub initial_laws : InitialLaws
initial_laws spec f x us codomain = record {
  without = λ begins vs. content_is spec f x us codomain None begins vs ∙ undef_in (domain_of (shape_of spec) f) vs;
  constant = λ c begins vs inside. in_domain spec f x us codomain (Some (Each c)) begins vs inside;
  entry = λ before after e begins inside apart.
      in_domain spec f x us codomain (Some (Entries (before ++ e ∷ after))) begins (values_of spec e) inside
      ∙ ap (λ found. unwrap_or found Undef) (first_entry spec before after e apart);
  no_entry = λ entries begins vs apart.
      content_is spec f x us codomain (Some (Entries entries)) begins vs
      ∙ ap (λ found. cond (is_in (domain_of (shape_of spec) f) vs) (unwrap_or found Undef) Undef) (no_entry_of spec entries vs apart)
      ∙ undef_in (domain_of (shape_of spec) f) vs;
}
