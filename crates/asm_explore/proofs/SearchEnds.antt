-- Free. How searches end.
--     refused_*       one that was refused isn't done, nor closed, and nothing is said of a bad
--                     step
--     none_*          if nothing is wrong something holds
--     halts_*         why a search is cut off, said otherwise
--     done_bad        if all nodes are expanded, nothing is said of a bad step
use Rattle.std.proofs.Common.{◌≡◌, ◌≢◌, ℕ, List, sym, subst}
use Rattle.asm_explore.specs.declared.search_result.BadStep.{BadStep}
use Rattle.asm_explore.specs.declared.search_result.SearchEnd.{SearchEnd}
use Rattle.asm_explore.specs.declared.search_result.SearchEnd.TheVariants as ended
use Rattle.std.specs.Prelude.{Option, Some, None, IfSome, IfNone, Result as Returned, Ok, Err, IfOk, IfErr, IsErrAnd}
use Rattle.asm_explore.specs.declared.search_error.SearchError.{SearchError}
use Rattle.asm_explore.specs.declared.search_error.SearchError.TheVariants as halt
use Rattle.asm_explore.specs.declared.outcomes.listed_outcome.Choice.{Choice}
use Rattle.asm_explore.specs.declared.outcomes.outcomes_error.RuleOverLimit.{RuleOverLimit}
use Rattle.asm_explore.specs.declared.outcomes.outcomes_error.OutcomesError.{OutcomesError}
use Rattle.asm_explore.specs.declared.outcomes.outcomes_error.OutcomesError.TheVariants as refusal
use Rattle.asm_explore.specs.code.OverLimit.{Refuses}
use Rattle.asm_explore.specs.code.SearchEnds.{HaltsSo, IfBad, IfOverLimit, IsDone, IsRefused}
use Rattle.asm_explore.specs.code.OutcomeLists.{Situation}
use Rattle.asm_explore.specs.code.ChoicesMade.{AreMade}
use Rattle.asm_explore.specs.code.ChoicePaths.{HaveOwnPaths}
use Rattle.asm_explore.specs.code.StepOutcomes.{IsOverLimitOf}
use Rattle.asm_state.specs.Location.{State}

pub refused_done : (e : SearchEnd) → IsRefused e → IsDone e → ⊥
refused_done ended.Closed r d = r
refused_done ended.AtLimit r d = r
refused_done (ended.BadStep bad) r d = d
refused_done ended.TooManyStates r d = d
refused_done (ended.TooManyOutcomes crowd) r d = d
refused_done ended.Memory r d = d

pub refused_closed : (e : SearchEnd) → IsRefused e → e ≡ ended.Closed → ⊥
refused_closed e r is = subst IsRefused is r

pub refused_bad : (P : BadStep → Type 0) (e : SearchEnd) → IsRefused e → IfBad e P
refused_bad P ended.Closed r = tt
refused_bad P ended.AtLimit r = tt
refused_bad P (ended.BadStep bad) r = absurd r
refused_bad P ended.TooManyStates r = tt
refused_bad P (ended.TooManyOutcomes crowd) r = tt
refused_bad P ended.Memory r = tt

pub done_bad : (P : BadStep → Type 0) (e : SearchEnd) → IsDone e → IfBad e P
done_bad P ended.Closed d = tt
done_bad P ended.AtLimit d = tt
done_bad P (ended.BadStep bad) d = absurd d
done_bad P ended.TooManyStates d = tt
done_bad P (ended.TooManyOutcomes crowd) d = tt
done_bad P ended.Memory d = tt

-- what is said of a bad step, said otherwise
pub if_bad_weaker : (P Q : BadStep → Type 0) (e : SearchEnd) → ((bad : BadStep) → P bad → Q bad) → IfBad e P → IfBad e Q
if_bad_weaker P Q ended.Closed f h = tt
if_bad_weaker P Q ended.AtLimit f h = tt
if_bad_weaker P Q (ended.BadStep bad) f h = f bad h
if_bad_weaker P Q ended.TooManyStates f h = tt
if_bad_weaker P Q (ended.TooManyOutcomes crowd) f h = tt
if_bad_weaker P Q ended.Memory f h = tt

pub closed_done : (e : SearchEnd) → e ≡ ended.Closed → IsDone e
closed_done e is = subst IsDone (sym is) tt

pub at_limit_done : (e : SearchEnd) → e ≡ ended.AtLimit → IsDone e
at_limit_done e is = subst IsDone (sym is) tt

pub done_full : (e : SearchEnd) → IsDone e → e ≡ ended.TooManyStates → ⊥
done_full e done is = subst IsDone is done

-- what is said of an error stays so when it is handed on
pub full_on : {S T : Type 0} (P : SearchError → Type 0) (given : Returned S SearchError) (returned : Returned T SearchError) (h : SearchError) → given ≡ Err h → IsErrAnd returned (λ again. again ≡ h)
    → IfErr given P → IfErr returned P
full_on P given (Ok x) h is same said = tt
full_on P given (Err e) h is same said = subst P (sym same) (subst (λ r. IfErr r P) is said)

pub never_full : {T : Type 0} (Q : Type 0) (r : Returned T SearchError) → IfErr r (λ h. h ≢ halt.States) → IfErr r (λ h. h ≡ halt.States → Q)
never_full Q (Ok x) said = tt
never_full Q (Err e) said = λ is. absurd (said is)

-- what is said of something that was found, said otherwise
pub found_weaker : {T E : Type 0} (P Q : T → Type 0) (r : Returned (Option T) E) → ((x : T) → P x → Q x) → IfOk r (λ o. IfSome o P) → IfOk r (λ o. IfSome o Q)
found_weaker P Q (Ok None) f h = tt
found_weaker P Q (Ok (Some x)) f h = f x h
found_weaker P Q (Err e) f h = tt

-- if nothing is wrong something holds, also of less
pub none_any : {X E : Type 0} (r : Returned (Option X) E) (P : Type 0) → P → IfOk r (λ o. IfNone o P)
none_any (Ok None) P p = p
none_any (Ok (Some x)) P p = tt
none_any (Err e) P p = tt

pub none_weaker : {X E : Type 0} (r : Returned (Option X) E) (P Q : Type 0) → (P → Q) → IfOk r (λ o. IfNone o P) → IfOk r (λ o. IfNone o Q)
none_weaker (Ok None) P Q f h = f h
none_weaker (Ok (Some x)) P Q f h = tt
none_weaker (Err e) P Q f h = tt

-- ---- why a search is cut off

pub halts_weaker : (X Y : Type 0) (P Q : RuleOverLimit → Type 0) (h : SearchError) → (X → Y) → ((crowd : RuleOverLimit) → P crowd → Q crowd) → HaltsSo X P h → HaltsSo Y Q h
halts_weaker X Y P Q halt.Memory f g said = tt
halts_weaker X Y P Q halt.States f g said = f said
halts_weaker X Y P Q (halt.Outcomes crowd) f g said = g crowd said

pub errs_weaker : {T : Type 0} (X Y : Type 0) (P Q : RuleOverLimit → Type 0) (r : Returned T SearchError) → (X → Y) → ((crowd : RuleOverLimit) → P crowd → Q crowd) → IfErr r (HaltsSo X P) → IfErr r (HaltsSo Y Q)
errs_weaker X Y P Q (Ok x) f g said = tt
errs_weaker X Y P Q (Err h) f g said = halts_weaker X Y P Q h f g said

pub halts_full : (X : Type 0) (P : RuleOverLimit → Type 0) (h : SearchError) → h ≡ halt.States → HaltsSo X P h → X
halts_full X P h is said = subst (HaltsSo X P) is said

-- the refusal that there are too many outcomes
pub halts_crowded : (X : Type 0) (makes : State → Situation → List Choice) (limit : ℕ) (A : State) (given : OutcomesError) (h : SearchError)
    → Refuses limit (λ p cs. HaveOwnPaths cs × AreMade (makes A) cs) given → HaltsSo ⊥ (λ crowd. given ≡ refusal.TooMany crowd) h → HaltsSo X (IsOverLimitOf makes limit A) h
halts_crowded X makes limit A given halt.Memory refuses said = tt
halts_crowded X makes limit A given halt.States refuses said = absurd said
halts_crowded X makes limit A given (halt.Outcomes crowd) refuses said = subst (Refuses limit (λ p cs. HaveOwnPaths cs × AreMade (makes A) cs)) said refuses

-- it ends a search
pub ends_crowded : (X : Type 0) (P Q : RuleOverLimit → Type 0) (e : SearchEnd) (h : SearchError) → IfOverLimit e (λ crowd. h ≡ halt.Outcomes crowd) → ((crowd : RuleOverLimit) → P crowd → Q crowd) → HaltsSo X P h → IfOverLimit e Q
ends_crowded X P Q ended.Closed h from f said = tt
ends_crowded X P Q ended.AtLimit h from f said = tt
ends_crowded X P Q (ended.BadStep bad) h from f said = tt
ends_crowded X P Q ended.TooManyStates h from f said = tt
ends_crowded X P Q (ended.TooManyOutcomes crowd) h from f said = f crowd (subst (HaltsSo X P) from said)
ends_crowded X P Q ended.Memory h from f said = tt

pub done_crowd : (P : RuleOverLimit → Type 0) (e : SearchEnd) → IsDone e → IfOverLimit e P
done_crowd P ended.Closed d = tt
done_crowd P ended.AtLimit d = tt
done_crowd P (ended.BadStep bad) d = absurd d
done_crowd P ended.TooManyStates d = absurd d
done_crowd P (ended.TooManyOutcomes crowd) d = absurd d
done_crowd P ended.Memory d = absurd d

pub crowd_weaker : (P Q : RuleOverLimit → Type 0) (e : SearchEnd) → ((crowd : RuleOverLimit) → P crowd → Q crowd) → IfOverLimit e P → IfOverLimit e Q
crowd_weaker P Q ended.Closed f h = tt
crowd_weaker P Q ended.AtLimit f h = tt
crowd_weaker P Q (ended.BadStep bad) f h = tt
crowd_weaker P Q ended.TooManyStates f h = tt
crowd_weaker P Q (ended.TooManyOutcomes crowd) f h = f crowd h
crowd_weaker P Q ended.Memory f h = tt

-- what is said of what is returned, said otherwise
pub errs_or : {T E : Type 0} (P Q : T → Type 0) (r : Returned T E) → ((x : T) → P x → Q x) → IfOk r P → IfOk r Q
errs_or P Q (Ok x) f said = f x said
errs_or P Q (Err e) f said = tt
