-- Free. Positions in universes, and the argument lists of domains.
use Rattle.std.proofs.Common.{◌≡◌, ℕ, ◌<◌, true, false, List, length, get_or, refl, sym, ap, subst, ◌∙◌, arith, Some, None, nat_lt, cond}
use Rattle.std.specs.Prelude.{slice_get}
use Rattle.std.specs.List.{position, position_or_len}
use Rattle.std.proofs.lemmas.Bool.{false≢true, lt-ltb}
use Rattle.std.proofs.lemmas.List.Sums.{position_or_len_is}
use Rattle.std.proofs.lemmas.Option.{slice_get-get_or, get_or_from_slice_get, slice_get_within}
use Rattle.std.specs.declared.cmp.Ordering.TheVariants.{Less, Equal}
use Rattle.std.specs.Cmp.{tied_itself}
use Rattle.asm_state.specs.declared.value.Value.{Value}
use Rattle.asm_state.specs.declared.value.Value.TheVariants.{Undef}
use Rattle.asm_state.specs.DomainLaws.{UniverseLaws, DomainLaws}
use Rattle.asm_state.specs.Operation.{is_same}
use Rattle.asm_state.specs.Tables.{argument_lists}
use Rattle.asm_state.specs.Universe.{elements, numbers, IsUniverse}
use Rattle.asm_state.specs.Value.{value_cmp, value_cmp-total}
use Rattle.asm_state.proofs.ArgumentLists.{lists_apart}
use Rattle.asm_state.proofs.ListsInDomain.{contains_in, in_contains, same_contained}
use Rattle.asm_state.proofs.ListPositions.{length-rows}
use Rattle.asm_state.proofs.Positions.{position_found, position_missed}
use Rattle.asm_state.proofs.UniverseValues.{length-elements, length-numbers, at_elements, at_numbers, elements_rise, numbers_rise}
use Rattle.asm_state.proofs.UpdateLemmas.Updates.{same_value, value_itself}

value_at : (vs : List Value) (v : Value) (i : ℕ) → position (is_same v) vs ≡ Some i → slice_get vs i ≡ Some v
value_at vs v i e =
    let found = position_found v vs i e in
    slice_get-get_or vs i Undef found.0 ∙ ap Some found.1

-- no earlier value of a universe is the one at a position
differs_before : (vs : List Value) (v : Value) (i : ℕ) → IsUniverse vs → slice_get vs i ≡ Some v → (k : ℕ) → k < i → is_same v (get_or vs k Undef) ≡ false
differs_before vs v i sound at k below =
    elim (is_same v (get_or vs k Undef)) as (λ b. is_same v (get_or vs k Undef) ≡ b → b ≡ false) [
      | true ↦ λ e.
          let same : v ≡ get_or vs k Undef = same_value v (get_or vs k Undef) e in
          let less : value_cmp (get_or vs k Undef) v ≡ Less = subst (λ w. value_cmp (get_or vs k Undef) w ≡ Less) (get_or_from_slice_get vs i v Undef at) (sound k i Undef below (slice_get_within vs i v at)) in
          absurd (apart (sym (tied_itself value_cmp-total v) ∙ subst (λ w. value_cmp w v ≡ Less) (sym same) less))
      | false ↦ λ e. refl
    ] refl
  where
    apart : Equal ≡ Less → ⊥
    apart e = cc

position_is : (vs : List Value) (v : Value) (i : ℕ) → IsUniverse vs → slice_get vs i ≡ Some v → position (is_same v) vs ≡ Some i
position_is vs v i sound at =
    let inside : i < length vs = slice_get_within vs i v at in
    let first : position_or_len (is_same v) vs ≡ i =
    position_or_len_is (is_same v) vs i Undef (omega (arith, inside)) (differs_before vs v i sound at)
    (λ h. subst (λ w. is_same v w ≡ true) (sym (get_or_from_slice_get vs i v Undef at)) (value_itself v)) in
    (λ j. cond (nat_lt (first j) (length vs)) (Some (first j)) None)
    ∙ ap (λ b. cond b (Some i) None) (lt-ltb i (length vs) inside)

pub universe_laws : UniverseLaws
universe_laws = record {
  element_count = length-elements;
  element_at = λ first count i h.
      slice_get-get_or (elements first count) i Undef (subst (λ n. i < n) (sym (length-elements first count)) h) ∙ ap Some (at_elements first count i Undef h);
  number_count = length-numbers;
  number_at = λ first count i h.
      slice_get-get_or (numbers first count) i Undef (subst (λ n. i < n) (sym (length-numbers first count)) h) ∙ ap Some (at_numbers first count i Undef h);
  elements_rise = elements_rise;
  numbers_rise = numbers_rise;
  value = value_at;
  position_of = position_is;
  without = λ vs v e has. false≢true (sym (position_missed v vs e) ∙ same_contained v vs has);
}

pub domain_laws : DomainLaws
domain_laws = record {
  count_of_none = refl;
  count = λ vs domain. length-rows (argument_lists domain) vs;
  lists = λ domain vs. (in_contains domain vs, contains_in domain vs);
  rise = lists_apart;
}
