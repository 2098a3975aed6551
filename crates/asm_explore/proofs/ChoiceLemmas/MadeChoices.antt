-- Free. Choices that are made.
--     made_none, made_same, made_wider     no choices; choices that rules make which make the same,
--                                          or more
--     made_beside, made_chosen             those of a part, and of others after them; those of a
--                                          candidate, and that it is taken
--     none_made, have_made, ok_made        of each outcome of a list, and of a call
--     joined_made, picked_made             of lists that have the choices of others
use Rattle.std.proofs.Common.{◌≡◌, ℕ, List, [], ◌∷◌, ◌++◌, Vec, Global, inl, inr, refl, sym, subst}
use Rattle.std.specs.Prelude.{Result as Returned, IfOk}
use Rattle.asm_meaning.specs.Yields.{Path}
use Rattle.asm_explore.specs.declared.outcomes.listed_outcome.Choice.{Choice}
use Rattle.asm_explore.specs.declared.outcomes.listed_outcome.ListedOutcome.{ListedOutcome}
use Rattle.asm_explore.specs.declared.outcomes.outcomes_error.OutcomesError.{OutcomesError}
use Rattle.asm_explore.specs.code.OverLimit.{IsAmong}
use Rattle.asm_explore.specs.code.OutcomeLists.{Situation, picked, Each, IsTaken, HaveChoices}
use Rattle.asm_explore.specs.code.ChoicesMade.{AreMade}
use Rattle.asm_explore.specs.code.ChoiceLists.{choice_lists, AreSomeOf, all_joined, with_choice}
use Rattle.asm_explore.proofs.ChoiceLemmas.ChoicesCarried.{have_joined, have_picked}
use Rattle.asm_explore.proofs.Elements.{each_append, each_first, each_last, each_weaker, any_first, any_last}
use Rattle.asm_explore.proofs.ChoiceLemmas.ChoicePaths.{have_weaker}

pub made_none : (m : Situation → List Choice) (cs : List Choice) → cs ≡ [] → AreMade m cs
made_none m cs is = subst (AreMade m) (sym is) (λ s taken. tt)

pub made_wider : (m n : Situation → List Choice) → ((s : Situation) (c : Choice) → IsAmong c (m s) → IsAmong c (n s)) → (cs : List Choice) → AreMade m cs → AreMade n cs
made_wider m n wider cs h = λ s taken. each_weaker (λ c. IsAmong c (m s)) (λ c. IsAmong c (n s)) (wider s) cs (h s taken)

pub made_same : (m n : Situation → List Choice) → ((s : Situation) → m s ≡ n s) → (cs : List Choice) → AreMade m cs → AreMade n cs
made_same m n same cs = made_wider m n (λ s c. subst (IsAmong c) (same s)) cs

pub made_beside : (m n : Situation → List Choice) (cs ds : List Choice) → AreMade m cs → AreMade n ds → AreMade (λ s. m s ++ n s) (cs ++ ds)
made_beside m n cs ds h g = λ s taken.
    each_append (λ c. IsAmong c (m s ++ n s)) cs ds
    (each_weaker (λ c. IsAmong c (m s)) (λ c. IsAmong c (m s ++ n s)) (λ c. any_first (λ d. d ≡ c) (m s) (n s)) cs (h s (each_first (IsTaken s) cs ds taken)))
    (each_weaker (λ c. IsAmong c (n s)) (λ c. IsAmong c (m s ++ n s)) (λ c. any_last (λ d. d ≡ c) (m s) (n s)) ds (g s (each_last (IsTaken s) cs ds taken)))

pub made_chosen : (m n : Situation → List Choice) (p : Path) (k : ℕ) → ((s : Situation) → picked s p ≡ k → record { path = p; number = k } ∷ m s ≡ n s)
    → (cs : List Choice) → AreMade m cs → AreMade n (cs ++ record { path = p; number = k } ∷ [])
made_chosen m n p k is cs h = λ s taken.
    let own : Choice = record { path = p; number = k } in
    let chosen : IsTaken s own = (each_last (IsTaken s) cs (own ∷ []) taken).0 in
    subst (λ all. Each (λ c. IsAmong c all) (cs ++ own ∷ [])) (is s chosen)
    (each_append (λ c. IsAmong c (own ∷ m s)) cs (own ∷ [])
    (each_weaker (λ c. IsAmong c (m s)) (λ c. IsAmong c (own ∷ m s)) (λ c there. inr there) cs (h s (each_first (IsTaken s) cs (own ∷ []) taken)))
    (inl refl, tt))

pub none_made : (m : Situation → List Choice) (fs : List ListedOutcome) → HaveChoices (λ cs. cs ≡ []) fs → HaveChoices (AreMade m) fs
none_made m = have_weaker (λ cs. cs ≡ []) (AreMade m) (made_none m)

pub have_made : (m n : Situation → List Choice) → ((s : Situation) → m s ≡ n s) → (fs : List ListedOutcome) → HaveChoices (AreMade m) fs → HaveChoices (AreMade n) fs
have_made m n same = have_weaker (AreMade m) (AreMade n) (made_same m n same)

pub ok_made : (m n : Situation → List Choice) (r : Returned (Vec ListedOutcome Global) OutcomesError) → ((s : Situation) → m s ≡ n s)
    → IfOk r (λ fs. HaveChoices (AreMade m) fs.items) → IfOk r (λ fs. HaveChoices (AreMade n) fs.items)
ok_made m n r same = subst (λ it. IfOk r (λ fs. HaveChoices (AreMade it) fs.items)) (λ i s. same s i)

-- ---- of lists with the choices of others

pub joined_made : (m n : Situation → List Choice) (left right fs : List ListedOutcome) → AreSomeOf (choice_lists fs) (all_joined (choice_lists left) (choice_lists right))
    → HaveChoices (AreMade m) left → HaveChoices (AreMade n) right → HaveChoices (AreMade (λ s. m s ++ n s)) fs
joined_made m n = have_joined (AreMade m) (AreMade n) (AreMade (λ s. m s ++ n s)) (made_beside m n)

pub picked_made : (m n : Situation → List Choice) (p : Path) (k : ℕ) → ((s : Situation) → picked s p ≡ k → record { path = p; number = k } ∷ m s ≡ n s)
    → (part old new : List ListedOutcome) → AreSomeOf (choice_lists new) (choice_lists old ++ with_choice p k (choice_lists part))
    → HaveChoices (AreMade m) part → HaveChoices (AreMade n) old → HaveChoices (AreMade n) new
picked_made m n p k is = have_picked (AreMade m) (AreMade n) p k (made_chosen m n p k is)
