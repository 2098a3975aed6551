-- Free. The universes of a well-formed specification have no value twice.
use Rattle.std.proofs.Common.{ℕ, ◌+◌, ◌≤◌, List, [], ◌∷◌, length, map, All, refl, sym, ap, subst, ◌∙◌, arith}
use Rattle.std.proofs.lemmas.List.Elements.{All-nil, All-cons, All-append}
use Rattle.asm_state.specs.declared.element.TheConstants.{MAX_ELEMENTS}
use Rattle.asm_state.specs.declared.value.Value.{Value}
use Rattle.asm_state.specs.Universe.{elements, numbers_between, IsUniverse}
use Rattle.asm_state.proofs.Domains.{universe_laws}
use Rattle.asm_syntax.specs.SourceTree as source
use Rattle.asm_syntax.specs.SourceTree.{Item, Spec}
use Rattle.asm_check.specs.Laws.{ShapeIsSound}
use Rattle.asm_check.specs.Limits.{is_universe}
use Rattle.asm_check.specs.code.numbers.ItemLists.{elements_of_item, elements_in, universe_of_item, universe_lists}
use Rattle.asm_check.specs.Names.{Declaration}
use Rattle.asm_check.specs.Shapes.{universe_values, shape_of}
use Rattle.asm_check.proofs.NameLemmas.ItemLists.{universe_lists_are}
use Rattle.asm_check.proofs.LimitLemmas.SmallUniverses.{all_numbered, few_elements}
use Rattle.asm_check.proofs.NameLemmas.DeclaredOnce.{all_like}

own_universes : (n : ℕ) (item : Item) → n + elements_of_item item ≤ MAX_ELEMENTS → All IsUniverse (universe_of_item n item)
own_universes n (source.Uses x) room = All-nil IsUniverse
own_universes n (source.Init x) room = All-nil IsUniverse
own_universes n (source.Enum x xs) room = All-cons IsUniverse (elements n (length xs)) [] (universe_laws.elements_rise n (length xs) room) (All-nil IsUniverse)
own_universes n (source.Universe x low high) room =
    All-cons IsUniverse (numbers_between low.value high.value) [] (universe_laws.numbers_rise low high) (All-nil IsUniverse)
own_universes n (source.Function x how domain codomain table) room = All-nil IsUniverse
own_universes n (source.Derived x xs t) room = All-nil IsUniverse
own_universes n (source.NamedRule x xs P) room = All-nil IsUniverse

universes_from : (n : ℕ) (items : List Item) → n + elements_in items ≤ MAX_ELEMENTS → All IsUniverse (universe_lists n items)
universes_from n [] room = All-nil IsUniverse
universes_from n (item ∷ items) room =
    All-append IsUniverse (universe_of_item n item) (universe_lists (n + elements_of_item item) items)
    (own_universes n item (omega arith))
    (universes_from (n + elements_of_item item) items (omega arith))

pub shape_is_sound : ShapeIsSound
unfolding shape_of
shape_is_sound s good =
    let values : Declaration → List Value = λ d. universe_values s d.meaning in
    let few = few_elements s good in
    subst (All IsUniverse) (sym (ap (map values) (all_like s good is_universe refl) ∙ universe_lists_are s 0 0 s.items (all_numbered s good)))
    (universes_from 0 s.items (omega arith))
