-- Free. Declarations that are gathered one after another.
--     one_more         one element more of a list
--     with_elements    what an enumeration declares
use Rattle.std.proofs.Common.{◌≡◌, ℕ, suc, ◌+◌, ◌<◌, List, [], ◌∷◌, ◌++◌, drop, length, map, ap, arith, subst, sym, ◌∙◌}
use Rattle.std.specs.Prelude.{slice_index_or}
use Rattle.std.proofs.Math.Seq.{drop-cons}
use Rattle.std.proofs.lemmas.List.{append_assoc}
use Rattle.std.proofs.lemmas.Simd.{map-map}
use Rattle.asm_syntax.specs.declared.name.Name.{Name}
use Rattle.asm_syntax.specs.code.Views.{name_of}
use Rattle.asm_check.specs.Names as names
use Rattle.asm_check.specs.Names.{declares}
use Rattle.asm_explore_hints.specs.declared.declarations.Declaration.{Declaration}
use Rattle.asm_explore_hints.specs.declared.declarations.Meaning.TheVariants.{Element, Enumeration}
use Rattle.asm_explore_hints.specs.code.DeclaredNames.{seen, seen_of}

pub one_more : {A B C : Type 0} (f : A → C) (g : B → C) (xs : List B) (i : ℕ) (x : B) (old new : List A) (whole : List C)
    → i < length xs → x ≡ slice_index_or xs i x → map f new ≡ map f old ++ g x ∷ [] → map f old ++ map g (drop i xs) ≡ whole
    → map f new ++ map g (drop (i + 1) xs) ≡ whole
one_more f g xs i x old new whole low at grown before =
    let next : suc i ≡ i + 1 = omega arith in
    let left : map g (drop i xs) ≡ g x ∷ map g (drop (suc i) xs) = ap (map g) (drop-cons xs i x low) ∙ ap (λ y. g y ∷ map g (drop (suc i) xs)) (sym at) in
    subst (λ n. map f new ++ map g (drop n xs) ≡ whole) next (
    ap (λ front. front ++ map g (drop (suc i) xs)) grown
    ∙ append_assoc (map f old) (g x ∷ []) (map g (drop (suc i) xs))
    ∙ ap (λ rest. map f old ++ rest) (sym left)
    ∙ before)

pub with_elements : (all plain both : List Declaration) (x : Name) (elements : List Name)
    → map seen_of plain ≡ map seen_of all ++ (name_of x, Enumeration) ∷ []
    → map seen_of both ≡ map seen_of plain ++ map (λ y. (name_of y, Element)) elements
    → map seen_of both ≡ map seen_of all ++ ((name_of x, Enumeration) ∷ map seen (map (λ y. declares y (names.Element 0)) (map name_of elements)))
with_elements all plain both x elements first more =
    let plain_elements : map seen (map (λ y. declares y (names.Element 0)) (map name_of elements)) ≡ map (λ y. (name_of y, Element)) elements =
    ap (map seen) (map-map (λ y. declares y (names.Element 0)) name_of elements) ∙ map-map seen (λ y. declares (name_of y) (names.Element 0)) elements in
    more
    ∙ ap (λ front. front ++ map (λ y. (name_of y, Element)) elements) first
    ∙ append_assoc (map seen_of all) ((name_of x, Enumeration) ∷ []) (map (λ y. (name_of y, Element)) elements)
    ∙ ap (λ rest. map seen_of all ++ ((name_of x, Enumeration) ∷ rest)) (sym plain_elements)
