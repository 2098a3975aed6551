-- Free. Layouts, function after function.
use Rattle.std.proofs.Common.{◌≡◌, ℕ, suc, ◌+◌, List, [], ◌∷◌, ◌++◌, map, replicate, length, refl, sym, ap, ◌∙◌, arith, append_assoc, append-nil, Result, Ok, Err}
use Rattle.std.specs.Prelude.{OnOk}
use Rattle.asm_state.specs.declared.function.Function.{Function}
use Rattle.asm_state.specs.declared.function.FunctionKind.TheVariants.{Controlled}
use Rattle.asm_state.specs.declared.layout.Layout.{Layout}
use Rattle.asm_state.specs.declared.value.Value.{Value}
use Rattle.asm_state.specs.declared.value.Value.TheVariants.{Undef}
use Rattle.asm_state.specs.code.Layout.{IsNext, initial_values_by, next_start, static_values_by}
use Rattle.asm_state.specs.Location.{Proper, Stray, function_of}
use Rattle.asm_state.specs.Signature.{domain_in, locations_by}
use Rattle.asm_state.specs.Tables.{Domain, argument_lists, table_value}

-- four facts of one result
pub each_ok : {T E P Q R S W : Type 0} (r : Result T E) → (P → Q → R → S → W) → OnOk r P → OnOk r Q → OnOk r R → OnOk r S → OnOk r W
each_ok (Ok v) f p q r s = f p q r s
each_ok (Err e) f p q r s = tt

-- all locations of a function are its own
owners : (f : ℕ) (lists : List (List Value)) → map function_of (map (Proper f) lists ++ Stray f ∷ []) ≡ replicate (length lists + 1) f
owners f [] = refl
owners f (vs ∷ lists) =
    let more : length (vs ∷ lists) + 1 ≡ suc (length lists + 1) = omega arith in
    ap (λ fs. f ∷ fs) (owners f lists) ∙ sym (ap (λ n. replicate n f) more)

pub controlled_next : (universes : List (List Value)) (f : ℕ) (function : Function) (old new : Layout) (lists : ℕ) (values : List Value) → function.kind ≡ Controlled
    → lists ≡ length (argument_lists (domain_in universes function.domain)) → values ≡ map (table_value function.table) (argument_lists (domain_in universes function.domain))
    → new.extents.items ≡ old.extents.items ++ record { start = length old.initial.items; lists = lists } ∷ []
    → new.owners.items ≡ old.owners.items ++ replicate (lists + 1) f
    → new.initial.items ≡ old.initial.items ++ values ++ Undef ∷ []
    → new.given.items ≡ old.given.items
    → IsNext universes f function old new
controlled_next universes f function old new lists values kind is_count are_values extents are_owners initial given =
    let domain : Domain = domain_in universes function.domain in
    record {
      extents = extents ∙ (λ i. old.extents.items ++ record { start = next_start (sym kind i) old; lists = is_count i } ∷ []);
      owners = are_owners ∙ ap (λ fs. old.owners.items ++ fs)
          (ap (λ n. replicate (n + 1) f) is_count ∙ sym (owners f (argument_lists domain)) ∙ ap (λ k. map function_of (locations_by k f domain)) (sym kind));
      initial = initial ∙ append_assoc old.initial.items values (Undef ∷ [])
          ∙ ap (λ vs. old.initial.items ++ vs) (ap (λ vs. vs ++ Undef ∷ []) are_values ∙ ap (λ k. initial_values_by k (map (table_value function.table) (argument_lists domain))) (sym kind));
      given = given ∙ sym (append-nil old.given.items)
          ∙ ap (λ k. old.given.items ++ static_values_by k (map (table_value function.table) (argument_lists domain))) (sym kind);
    }
