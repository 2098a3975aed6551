-- Definition. The order of values.
--     value_cmp      values rise by their kind, undef, truth values, numbers, elements, and in a
--                    kind as they do by themselves
use Rattle.std.specs.Prelude.{◌≡◌, ◌<◌, ◌≤ℤ◌, List, [], ◌∷◌, ℤ, pos, true, false, cond}
use Rattle.std.specs.Cmp.{IsTotalOrder, int_cmp_total}
use Rattle.std.specs.Cmp.Lexicographic.{slice_cmp, lists_total}
use Rattle.std.specs.FinMap.{IsAntisymmetric, int_cmp-IsAntisymmetric, slice_cmp-IsAntisymmetric}
use Rattle.std.specs.Ordering.{int_cmp}
use Rattle.std.specs.declared.cmp.Ordering.{Ordering}
use Rattle.std.proofs.Common.{refl, ap, subst}
use Rattle.std.proofs.Props.{props}
use Rattle.std.proofs.lemmas.Cmp.{on_total}
use Rattle.asm_state.specs.declared.value.Value.{Value}
use Rattle.asm_state.specs.declared.value.Value.TheVariants.{Undef, Truth, Number, Element}
use Rattle.asm_state.specs.declared.element.TheConstants.{MAX_ELEMENTS}
use Rattle.asm_state.specs.Bounds.{least_number, greatest_number}
use Rattle.asm_state.specs.declared.number.Number.{Number as WholeNumber}
use Rattle.asm_state.specs.declared.element.Element.{Element as OneElement}

-- the kind of a value, and its number in that kind
abbrev pub value_key : Value → List ℤ
value_key Undef = pos 0 ∷ pos 0 ∷ []
value_key (Truth b) = pos 1 ∷ cond b (pos 1) (pos 0) ∷ []
value_key (Number n) = pos 2 ∷ n.value ∷ []
value_key (Element e) = pos 3 ∷ pos e.index ∷ []

abbrev pub value_cmp : Value → Value → Ordering
value_cmp a b = slice_cmp int_cmp (value_key a) (value_key b)

pub value_cmp-total : IsTotalOrder value_cmp
value_cmp-total = on_total value_key (lists_total int_cmp_total)

-- numbers with one value are one number, and elements with one index are one element
pub same_number : (m n : WholeNumber) → m.value ≡ n.value → m ≡ n
same_number m n e =
    subst
    (λ v. (low : least_number ≤ℤ v) (high : v ≤ℤ greatest_number) → ◌≡◌ {A = WholeNumber} m (record { value = v; low = low; high = high }))
    e here n.low n.high
  where
    here : (low : least_number ≤ℤ m.value) (high : m.value ≤ℤ greatest_number) → ◌≡◌ {A = WholeNumber} m (record { value = m.value; low = low; high = high })
    here low high =
        let low_is : IsProp (least_number ≤ℤ m.value) = hlevel props in
        let high_is : IsProp (m.value ≤ℤ greatest_number) = hlevel props in
        λ i. record { value = m.value; low = low_is m.low low i; high = high_is m.high high i }

pub same_element : (d e : OneElement) → d.index ≡ e.index → d ≡ e
same_element d e is = subst (λ k. (in_range : k < MAX_ELEMENTS) → ◌≡◌ {A = OneElement} d (record { index = k; in_range = in_range })) is here e.in_range
  where
    here : (in_range : d.index < MAX_ELEMENTS) → ◌≡◌ {A = OneElement} d (record { index = d.index; in_range = in_range })
    here in_range =
        let one : IsProp (d.index < MAX_ELEMENTS) = hlevel props in
        λ i. record { index = d.index; in_range = one d.in_range in_range i }

-- the key tells values apart
pub same_key : (a b : Value) → value_key a ≡ value_key b → a ≡ b
same_key Undef Undef e = refl
same_key (Truth false) (Truth false) e = refl
same_key (Truth true) (Truth true) e = refl
same_key (Number m) (Number n) e = ap Number (same_number m n (value_is e))
  where
    value_is : value_key (Number m) ≡ value_key (Number n) → m.value ≡ n.value
    value_is e = cc
same_key (Element c) (Element d) e = ap Element (same_element c d (index_is e))
  where
    index_is : value_key (Element c) ≡ value_key (Element d) → c.index ≡ d.index
    index_is e = cc
same_key _ _ e = cc

pub value_cmp-antisymmetric : IsAntisymmetric value_cmp
value_cmp-antisymmetric a b e = same_key a b (slice_cmp-IsAntisymmetric int_cmp-IsAntisymmetric (value_key a) (value_key b) e)
