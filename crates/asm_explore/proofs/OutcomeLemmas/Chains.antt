-- Free. The choices of chains.
use Rattle.std.proofs.Common.{◌≡◌, ◌∙◌, ◌++◌, ◌-◌, ℕ, List, [], ◌∷◌, length, arith, take, drop, refl, ap, sym, Global, append-nil}
use Rattle.std.proofs.lemmas.List.{append_assoc, take-append-drop, take_all, length-drop}
use Rattle.std.specs.Arc.{arc_value}
use Rattle.std.specs.declared.sync.Arc.{Arc}
use Rattle.asm_explore.specs.declared.outcomes.listed_outcome.Choice.{Choice}
use Rattle.asm_explore.specs.declared.outcomes.chain.Chain.{Chain}
use Rattle.asm_explore.specs.declared.outcomes.chain.Chain.TheOpen as opened
use Rattle.asm_explore.specs.declared.outcomes.chain.Chain.TheVariants as chain
use Rattle.asm_explore.specs.declared.outcomes.chain.Chain.TheFolds.{fold-roll-Chain}
use Rattle.asm_explore.specs.code.ChoiceChains.{chained, chain_step, all_chained}

pub both_form : (c : Chain) (first last : Arc Chain Global) → c ≡ chain.Both first last → chained c ≡ chained (arc_value first) ++ chained (arc_value last)
both_form c first last is = ap chained is ∙ ap chained (sym (chain.rolls-Both first last)) ∙ fold-roll-Chain (List Choice) chain_step (opened.Both first last)

pub all_added : (xs ys : List (Arc Chain Global)) → all_chained (xs ++ ys) ≡ all_chained xs ++ all_chained ys
all_added [] ys = refl
all_added (x ∷ xs) ys = ap (λ cs. chained (arc_value x) ++ cs) (all_added xs ys) ∙ sym (append_assoc (chained (arc_value x)) (all_chained xs) (all_chained ys))

pub one_added : (xs ys : List (Arc Chain Global)) (x : Arc Chain Global) (c : Chain) → ys ≡ xs ++ x ∷ [] → arc_value x ≡ c → all_chained ys ≡ all_chained xs ++ chained c
one_added xs ys x c is same = ap all_chained is ∙ all_added xs (x ∷ []) ∙ ap (λ cs. all_chained xs ++ cs) (append-nil (chained (arc_value x)) ∙ ap chained same)

rest_taken : {X : Type 0} (xs : List X) (k : ℕ) → take (length xs - k) (drop k xs) ≡ drop k xs
rest_taken xs k = take_all (length xs - k) (drop k xs) (omega (arith, length-drop k xs))

pub halves_joined : (xs : List (Arc Chain Global)) (k : ℕ) → all_chained (take k xs) ++ all_chained (take (length xs - k) (drop k xs)) ≡ all_chained xs
halves_joined xs k =
    ap (λ ys. all_chained (take k xs) ++ all_chained ys) (rest_taken xs k)
    ∙ sym (all_added (take k xs) (drop k xs)) ∙ ap all_chained (take-append-drop k xs)
