use Rattle.std.proofs.Common.{◌≡◌, ◌≤◌, ◌+◌, ◌∷◌, ◌++◌, List, ℕ, ◌<◌, map, drop, suc, length, get_or, Vec, vec_len, Global, sym, ap, subst, ◌∙◌, refl, append-nil, arith}
use Rattle.std.proofs.lemmas.List.{length-map}
use Rattle.asm_state.specs.declared.element.TheConstants.{MAX_ELEMENTS}
use Rattle.asm_state.specs.declared.signature_limits.TheConstants.{MAX_VALUES}
use Rattle.asm_syntax.specs.declared.name.Name.{Name}
use Rattle.asm_syntax.specs.declared.spec.Item.TheVariants.{Enum}
use Rattle.asm_syntax.specs.declared.spec.Spec.{Spec}
use Rattle.asm_syntax.specs.code.Views.{item_of, name_of, spec_of}
use Rattle.asm_syntax.specs.declared.spec.Item.{Item}
use Rattle.asm_check.specs.Faults.{IsWellFormed}
use Rattle.asm_check.specs.Limits.{is_universe}
use Rattle.asm_check.specs.code.numbers.ItemLists.{elements_of_item, elements_in, universe_lists}
use Rattle.asm_check.specs.Shapes.{universe_values, shape_of}
use Rattle.asm_check.proofs.RestOfList.{at_end, item_among, next_of}
use Rattle.asm_check.proofs.NameLemmas.ItemLists.{universe_lists_are}
use Rattle.asm_check.proofs.LimitLemmas.SmallUniverses.{IsSmallItem, all_numbered, all_small, room_for}
use Rattle.asm_check.proofs.NameLemmas.DeclaredOnce.{all_like}
use Rattle.asm_check.proofs.numbers.declared_signature.universes.Goals as goal

pub elements-requires-clause-few : goal.elements-requires-clause-few
elements-requires-clause-few c =
    let small : length (map name_of c.in-Enum.elements.items) ≤ MAX_VALUES =
    subst (λ x. IsSmallItem (item_of x)) c.in-Enum.is
    (all_small (spec_of c.args.spec.now) c.requires (item_of c.item-item.result)
    (item_among item_of c.args.spec.now.items.items c.deref-item-items.result.now c.loop-item.item-index c.item-item.result c.deref-item-items.ensures.value c.loop-item-test.true c.item-item.is)) in
    omega (arith, small, length-map c.in-Enum.elements.items name_of, c.len-size.ensures)

-- the elements of the item find room
module _ (spec : Spec) (good : IsWellFormed (spec_of spec)) (seen : List Item) (i count size : ℕ) (item : Item) (name : Name) (elements : Vec Name Global) where
  room : seen ≡ spec.items.items → i < length seen → item ≡ get_or seen i item → item ≡ Enum name elements → size ≡ vec_len elements
      → count + elements_in (map item_of (drop i spec.items.items)) ≡ elements_in (map item_of spec.items.items) → count + size ≤ MAX_ELEMENTS
  room same h is enum long so_far =
      let next : drop i spec.items.items ≡ item ∷ drop (suc i) spec.items.items = subst (λ xs. drop i xs ≡ item ∷ drop (suc i) xs) same (next_of seen i item h is) in
      room_for (spec_of spec) good count size (item_of item) (map item_of (drop (suc i) spec.items.items))
      (ap (λ xs. count + elements_in (map item_of xs)) (sym next) ∙ so_far)
      (let own : elements_of_item (item_of item) ≡ length (map name_of elements.items) = ap (λ x. elements_of_item (item_of x)) enum in omega (arith, own, length-map elements.items name_of, long))

pub elements-requires-clause-in_range : goal.elements-requires-clause-in_range
elements-requires-clause-in_range c =
    room c.args.spec.now c.requires c.deref-item-items.result.now c.loop-item.item-index c.loop-item.count c.len-size.result c.item-item.result c.in-Enum.name c.in-Enum.elements
    c.deref-item-items.ensures.value c.loop-item-test.true c.item-item.is c.in-Enum.is c.len-size.ensures c.loop-item.invariant.counted

pub overflow_cast-count : goal.overflow_cast-count
overflow_cast-count c =
    let h =
    room c.args.spec.now c.requires c.deref-item-items.result.now c.loop-item.item-index c.loop-item.count c.len-size.result c.item-item.result c.in-Enum.name c.in-Enum.elements
    c.deref-item-items.ensures.value c.loop-item-test.true c.item-item.is c.in-Enum.is c.len-size.ensures c.loop-item.invariant.counted in
    omega (arith, h)

pub overflow_add-count : goal.overflow_add-count
overflow_add-count c =
    let h =
    room c.args.spec.now c.requires c.deref-item-items.result.now c.loop-item.item-index c.loop-item.count c.len-size.result c.item-item.result c.in-Enum.name c.in-Enum.elements
    c.deref-item-items.ensures.value c.loop-item-test.true c.item-item.is c.in-Enum.is c.len-size.ensures c.loop-item.invariant.counted in
    omega (arith, h)

pub range-requires : goal.range-requires
range-requires c = record {
  few = subst (λ x. IsSmallItem (item_of x)) c.in-Universe.is
      (all_small (spec_of c.args.spec.now) c.requires (item_of c.item-item.result)
      (item_among item_of c.args.spec.now.items.items c.deref-item-items.result.now c.loop-item.item-index c.item-item.result c.deref-item-items.ensures.value c.loop-item-test.true c.item-item.is));
}

pub returns : goal.returns
unfolding shape_of
returns c =
    sym (append-nil c.loop-item.universes.items)
    ∙ ap (λ xs. c.loop-item.universes.items ++ universe_lists c.loop-item.count (map item_of xs)) (sym (at_end c.args.spec.now.items.items c.deref-item-items.result.now c.loop-item.item-index c.deref-item-items.ensures.value c.loop-item-test.false))
    ∙ c.loop-item.invariant.built
    ∙ sym (universe_lists_are (spec_of c.args.spec.now) 0 0 (map item_of c.args.spec.now.items.items) (all_numbered (spec_of c.args.spec.now) c.requires))
    ∙ ap (map (λ d. universe_values (spec_of c.args.spec.now) d.meaning)) (sym (all_like (spec_of c.args.spec.now) c.requires is_universe refl))
