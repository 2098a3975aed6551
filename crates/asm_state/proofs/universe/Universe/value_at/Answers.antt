use Rattle.std.proofs.Common.{refl, arith}
use Rattle.std.proofs.lemmas.Int.{ints}
use Rattle.asm_state.proofs.UniverseValues.{element_within, element_stands, number_within, bits_further, number_stands}
use Rattle.asm_state.proofs.universe.Universe.value_at.Goals as goal

pub overflow_cast-result : goal.overflow_cast-result
overflow_cast-result c = omega (arith, element_within c.self.invariant c.self.view_is c.in-Element.is c.requires)

pub overflow_add-result : goal.overflow_add-result
overflow_add-result c = omega (arith, element_within c.self.invariant c.self.view_is c.in-Element.is c.requires)

pub invariant_of-result : goal.invariant_of-result
invariant_of-result c = record { in_range = element_within c.self.invariant c.self.view_is c.in-Element.is c.requires }

pub overflow_cast-result-in-Number : goal.overflow_cast-result-in-Number
overflow_cast-result-in-Number c =
    let near = number_within c.self.invariant c.self.view_is c.in-Number.is c.requires in
    omega (arith, ints, near.few)

pub overflow_add-result-in-Number : goal.overflow_add-result-in-Number
overflow_add-result-in-Number c =
    let near = number_within c.self.invariant c.self.view_is c.in-Number.is c.requires in
    omega (arith, ints, near.few, near.low, near.high)

pub invariant_of-result-in-Number : goal.invariant_of-result-in-Number
invariant_of-result-in-Number c =
    let near = number_within c.self.invariant c.self.view_is c.in-Number.is c.requires in
    let further = bits_further _ _ near in
    record { low = omega (arith, ints, near.low); high = omega (arith, ints, near.high) }

pub returns-in-Element : goal.returns-in-Element
returns-in-Element c = element_stands _ c.self.invariant c.self.view_is c.in-Element.is c.requires refl

pub returns-in-Number : goal.returns-in-Number
returns-in-Number c = number_stands _ c.self.invariant c.self.view_is c.in-Number.is c.requires refl
