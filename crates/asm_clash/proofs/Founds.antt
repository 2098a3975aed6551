-- Free. The first of some assignments, and how many there are.
--     none_found, one_found         of none, and of one
--     put_after                     of those after others
use Rattle.std.proofs.Common.{◌≡◌, ◌<◌, ◌-◌, ◌+◌, ◌≤◌, ℕ, zero, suc, List, [], ◌∷◌, ◌++◌, length, min, take, refl, sym, ap, ◌∙◌, arith, length-append}
use Rattle.std.proofs.lemmas.List.{length-map, map-append, take_all}
use Rattle.asm_eval.specs.code.FormedOutcomes.{greatest_count}
use Rattle.asm_clash.specs.Standing.{assigned_of, Assigned, all_assigned}
use Rattle.asm_clash.specs.code.FirstFound.{IsFound}
use Rattle.asm_clash.specs.declared.found.Found.{Found}

-- the first of two lists, one after the other
take_both : {X : Type 0} (n : ℕ) (xs ys : List X) → take n xs ++ take (n - length (take n xs)) ys ≡ take n (xs ++ ys)
take_both zero [] ys = refl
take_both zero (x ∷ xs) ys = refl
take_both (suc n) [] ys = let all : suc n - 0 ≡ suc n = omega arith in ap (λ k. take k ys) all
take_both (suc n) (x ∷ xs) ys =
    let less : suc n - suc (length (take n xs)) ≡ n - length (take n xs) = omega arith in
    ap (λ k. x ∷ take n xs ++ take k ys) less ∙ ap (λ zs. x ∷ zs) (take_both n xs ys)

pub none_found : (most : ℕ) (found : Found) → found.first.items ≡ [] → found.count ≡ 0 → IsFound most [] found
none_found most found first count = record { first = ap all_assigned first ∙ sym (take_all most [] (omega arith)); count = omega (arith, count) }

pub one_found : (most : ℕ) (d : Assigned) (found : Found) → found.count ≡ 1 → all_assigned found.first.items ≡ take most (d ∷ []) → IsFound most (d ∷ []) found
one_found most d found count first = record { first = first; count = omega (arith, count) }

pub none_kept : (most : ℕ) (d : Assigned) → most ≤ 0 → [] ≡ take most (d ∷ [])
none_kept zero d none = refl
none_kept (suc most) d none = absurd (omega (arith, none))

pub one_kept : (most : ℕ) (d : Assigned) → 0 < most → d ∷ [] ≡ take most (d ∷ [])
one_kept most d some = sym (take_all most (d ∷ []) (omega (arith, some)))

count_both : (m n x y c : ℕ) → x ≡ min m c → y ≡ min n c → min (x + y) c ≡ min (m + n) c
count_both m n x y c one other = omega (arith, one, other)

module _ (most : ℕ) (all more : List Assigned) (old new others : Found) (before : IsFound most all old) where
  pub put_after : IsFound (most - length old.first.items) more others → new.first.items ≡ old.first.items ++ others.first.items → new.count ≡ min (old.count + others.count) greatest_count
      → IsFound most (all ++ more) new
  put_after behind firsts counts =
      let kept : length old.first.items ≡ length (take most all) = sym (length-map old.first.items assigned_of) ∙ ap length before.first in
      record {
        first =
            ap all_assigned firsts ∙ map-append assigned_of old.first.items others.first.items
            ∙ (λ i. before.first i ++ behind.first i)
            ∙ ap (λ k. take most all ++ take (most - k) more) kept ∙ take_both most all more;
        count =
            counts ∙ count_both (length all) (length more) old.count others.count greatest_count before.count behind.count
            ∙ ap (λ k. min k greatest_count) (sym (length-append all more));
      }
