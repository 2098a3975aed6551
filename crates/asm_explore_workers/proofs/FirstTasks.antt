-- Free. What the tasks of a batch find, put together in their order.
--     task_at            what a task finds
--     firsts_ahead       what the first tasks found is known of the steps from the first states
--     firsts_some        the first task finds something
use Rattle.std.proofs.Common.{◌≡◌, ℕ, suc, ◌<◌, List, [], ◌∷◌, length, take, refl, subst, arith}
use Rattle.std.specs.Prelude.{Option, Some, None, slice_get}
use Rattle.std.proofs.lemmas.Option.{slice_get_within}
use Rattle.asm_state.specs.declared.value.Value.{Value}
use Rattle.asm_check.specs.declared.checked.Checked.{Checked}
use Rattle.asm_pool.specs.code.Pool.{RunsTask}
use Rattle.asm_explore.specs.declared.step_ahead.StepAhead.{StepAhead}
use Rattle.asm_explore.specs.code.PackedNodes.{Node}
use Rattle.asm_explore_workers.specs.code.Batches.{AreAheadOf, IsAheadOf, LooksAhead, firsts}
use Rattle.asm_explore_workers.specs.declared.job.Tally.{Tally}

same_out : (outs : List (Option (Option StepAhead))) (n : ℕ) (o p : Option (Option StepAhead)) → slice_get outs n ≡ Some o → slice_get outs n ≡ Some p → o ≡ p
same_out outs n o p there here = cc

module _ (checked : Checked) (turns : ℕ) (nodes : List Node) where
  pub firsts_of : (As : List (List Value)) (outs : List (Option (Option StepAhead))) → length outs ≡ length As
      → ((n : ℕ) (r : Option StepAhead) → slice_get outs n ≡ Some (Some r) → (A : List Value) → slice_get As n ≡ Some A → IsAheadOf checked turns nodes A r)
      → AreAheadOf checked turns nodes (take (length (firsts outs)) As) (firsts outs)
  firsts_of As [] same h = tt
  firsts_of As (None ∷ outs) same h = tt
  firsts_of [] (Some r ∷ outs) same h = absurd (omega (arith, same))
  firsts_of (A ∷ As) (Some r ∷ outs) same h = (h 0 r refl A refl, firsts_of As outs (omega (arith, same)) (λ n q there B at. h (suc n) q there B at))

  some_first : (As : List (List Value)) (outs : List (Option (Option StepAhead))) → 0 < length outs
      → ((o : Option (Option StepAhead)) → slice_get outs 0 ≡ Some o → LooksAhead checked turns nodes As 0 o) → 0 < length (firsts outs)
  some_first As [] some h = absurd (omega (arith, some))
  some_first As (None ∷ outs) some h = absurd (omega (arith, h None refl))
  some_first As (Some r ∷ outs) some h = omega arith

  module _ (takes : Tally → Type 0) (As : List (List Value)) (outs : List (Option (Option StepAhead))) (same : length outs ≡ length As)
      (ran : (n : ℕ) → n < length As → (before : Tally) × (after : Tally) × RunsTask takes (λ k before out after. LooksAhead checked turns nodes As k out) outs before n after) where
    task_at : (n : ℕ) (o : Option (Option StepAhead)) → slice_get outs n ≡ Some o → LooksAhead checked turns nodes As n o
    task_at n o there =
        let low : n < length outs = slice_get_within outs n o there in
        let run = (ran n (omega (arith, low, same))).2 in
        subst (LooksAhead checked turns nodes As n) (same_out outs n run.0 o run.1 there) run.2.2

    pub firsts_ahead : AreAheadOf checked turns nodes (take (length (firsts outs)) As) (firsts outs)
    firsts_ahead = firsts_of As outs same (λ n r there A at. task_at n (Some r) there A at)

    pub firsts_some : 0 < length As → 0 < length (firsts outs)
    firsts_some some = some_first As outs (omega (arith, some, same)) (λ o there. task_at 0 o there)
