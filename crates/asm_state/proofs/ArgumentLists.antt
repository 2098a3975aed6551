-- Free. The argument lists of a domain rise.
use Rattle.std.proofs.Common.{◌≡◌, List, [], ◌∷◌, All, AllPairs, Contains, ap, subst, ◌∙◌}
use Rattle.std.specs.Cmp.{tied_itself}
use Rattle.std.specs.Cmp.Lexicographic.{slice_cmp}
use Rattle.std.specs.Ordering.{ordering_then}
use Rattle.std.specs.declared.cmp.Ordering.TheVariants.{Less}
use Rattle.std.proofs.lemmas.List.Elements.{All-head, All-tail}
use Rattle.asm_state.specs.declared.value.Value.{Value}
use Rattle.asm_state.specs.Value.{value_cmp, value_cmp-total}
use Rattle.asm_state.specs.Universe.{IsUniverse}
use Rattle.asm_state.specs.Tables.{Domain, argument_lists}
use Rattle.asm_state.proofs.ListsInDomain.{lists_after}
use Rattle.asm_state.proofs.Lists.{Contains-from_map, AllPairs-single, AllPairs-map, AllPairs-flat_map}

abbrev pub ValuesRise : Value → Value → Type 0
ValuesRise v w = value_cmp v w ≡ Less

abbrev pub ListsRise : List Value → List Value → Type 0
ListsRise us vs = slice_cmp value_cmp us vs ≡ Less

-- two lists with one first value rise as their rests do
rest_rises : (v : Value) (us vs : List Value) → ListsRise us vs → ListsRise (v ∷ us) (v ∷ vs)
rest_rises v us vs h = ap (λ o. ordering_then o (slice_cmp value_cmp us vs)) (tied_itself value_cmp-total v) ∙ h

first_rises : (v w : Value) (us vs : List Value) → ValuesRise v w → ListsRise (v ∷ us) (w ∷ vs)
first_rises v w us vs h = ap (λ o. ordering_then o (slice_cmp value_cmp us vs)) h

-- lists after a lesser value are before those after a greater one
pieces_rise : (domain : Domain) (v w : Value) (us vs : List Value) → ValuesRise v w → Contains (lists_after domain v) us → Contains (lists_after domain w) vs → ListsRise us vs
pieces_rise domain v w us vs h at_first at_second =
    let a = Contains-from_map (λ rest. v ∷ rest) (argument_lists domain) us at_first in
    let b = Contains-from_map (λ rest. w ∷ rest) (argument_lists domain) vs at_second in
    subst (λ us. ListsRise us vs) a.2 (subst (λ vs. ListsRise (v ∷ a.0) vs) b.2 (first_rises v w a.0 b.0 h))

pub lists_apart : (domain : Domain) → All IsUniverse domain → AllPairs (λ us vs. slice_cmp value_cmp us vs ≡ Less) (argument_lists domain)
lists_apart [] sound = AllPairs-single ListsRise []
lists_apart (us ∷ domain) sound =
    AllPairs-flat_map ValuesRise ListsRise (lists_after domain)
    (λ v. AllPairs-map ListsRise ListsRise (λ rest. v ∷ rest) (rest_rises v) (argument_lists domain) (lists_apart domain (All-tail IsUniverse us domain sound)))
    (pieces_rise domain) us (All-head IsUniverse us domain sound)
