-- Free. Unions of many sets.
use Rattle.std.proofs.Common.{◌≡◌, ℕ, List, [], ◌∷◌, ◌++◌, map, refl, sym, ap, ◌∙◌, inl, inr}
use Rattle.std.specs.List.{AllByRecursion, concat}
use Rattle.std.specs.List.Sorted.{IsPermutation}
use Rattle.std.proofs.lemmas.List.Sorted.{IsPermutation-sym, All-permutation}
use Rattle.std.proofs.lemmas.List.Elements.{All-from_recursion, recursion_from_All}
use Rattle.asm_state.specs.declared.value.Value.{Value}
use Rattle.asm_state.specs.Location.{Location}
use Rattle.asm_state.specs.Updates.{UpdateSet, Has, together}
use Rattle.asm_state.proofs.UpdateLemmas.UnionsAndMerges.{union_laws}
use Rattle.asm_state.proofs.UpdateLemmas.Members.{member_laws}
use Rattle.asm_updates.specs.code.Unions.{union_of, united}
use Rattle.asm_updates.specs.code.UnitedLaws.{UnitedLaws}

united-append : (f : ℕ → UpdateSet) (ns ms : List ℕ) → united f (ns ++ ms) ≡ together (united f ns) (united f ms)
united-append f [] ms = sym (union_laws.unit (united f ms))
united-append f (n ∷ ns) ms = ap (together (f n)) (united-append f ns ms) ∙ sym (union_laws.group (f n) (united f ns) (united f ms))

united-concat : (f : ℕ → UpdateSet) (lists : List (List ℕ)) → union_of (map (united f) lists) ≡ united f (concat lists)
united-concat f [] = refl
united-concat f (list ∷ lists) = ap (together (united f list)) (united-concat f lists) ∙ sym (united-append f list (concat lists))

-- the one set has all that the other has
abbrev IsWithin : UpdateSet → UpdateSet → Type 0
IsWithin U V = (l : Location) (v : Value) → Has U l v → Has V l v

each_within : (f : ℕ → UpdateSet) (ns : List ℕ) (V : UpdateSet) → AllByRecursion (λ n. IsWithin (f n) V) ns → IsWithin (united f ns) V
each_within f [] V all l v h = absurd (member_laws.of_none l v h)
each_within f (n ∷ ns) V all l v h = elim ((member_laws.of_union (f n) (united f ns) l v).0 h) [ inl a ↦ all.0 l v a | inr b ↦ each_within f ns V all.1 l v b ]

wider : (f : ℕ → UpdateSet) (ns : List ℕ) (V W : UpdateSet) → IsWithin V W → AllByRecursion (λ n. IsWithin (f n) V) ns → AllByRecursion (λ n. IsWithin (f n) W) ns
wider f [] V W h all = all
wider f (n ∷ ns) V W h all = (λ l v x. h l v (all.0 l v x), wider f ns V W h all.1)

all_within : (f : ℕ → UpdateSet) (ns : List ℕ) → AllByRecursion (λ n. IsWithin (f n) (united f ns)) ns
all_within f [] = tt
all_within f (n ∷ ns) = (
  λ l v x. (member_laws.of_union (f n) (united f ns) l v).1 (inl x),
  wider f ns (united f ns) (united f (n ∷ ns)) (λ l v x. (member_laws.of_union (f n) (united f ns) l v).1 (inr x)) (all_within f ns),
)

moved : (f : ℕ → UpdateSet) (ns ms : List ℕ) → IsPermutation ns ms → IsWithin (united f ns) (united f ms)
moved f ns ms same =
    let inside = λ (n : ℕ). IsWithin (f n) (united f ms) in
    each_within f ns (united f ms)
    (recursion_from_All inside ns (All-permutation inside ms ns (IsPermutation-sym ns ms same) (All-from_recursion inside ms (all_within f ms))))

united-permutation : (f : ℕ → UpdateSet) (ns ms : List ℕ) → IsPermutation ns ms → united f ns ≡ united f ms
united-permutation f ns ms same = member_laws.of_same (united f ns) (united f ms) (λ l v. (moved f ns ms same l v, moved f ms ns (IsPermutation-sym ns ms same) l v))

pub united_laws : UnitedLaws
united_laws = record { of_append = united-append; of_lists = united-concat; of_permutation = united-permutation }
