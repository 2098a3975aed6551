-- Bridge to the code. What comes of a region, and what is asked of a function that forms regions.
--     IsFormedOrLeft shape o old new   a region that yields o was formed, or it was left and
--                                      nothing was done
--     TakesRegions pre                 the function may be called with every sound rule and frame,
--                                      wherever what is formed fits the state
--     TakesThem script post            each of its calls forms the region, as `form` does, or
--                                      leaves it
use Rattle.std.specs.Prelude.{◌≡◌, ℕ, Result, Ok, Err}
use Rattle.std.proofs.Common.{Bor, MutBor, Global}
use Rattle.asm_state.specs.Signature.{Shape, count_of}
use Rattle.asm_reader.specs.ScriptLines.{Script}
use Rattle.asm_meaning.specs.Does.{Outcome}
use Rattle.asm_eval.specs.code.FormedOutcomes.{Follows}
use Rattle.asm_eval.specs.declared.choices.Choices.{Choices}
use Rattle.asm_eval.specs.declared.outcome.Forming.{Forming}
use Rattle.asm_eval.specs.declared.stopped.Stopped.{Stopped}
use Rattle.asm_eval.specs.declared.view.View.{View}
use Rattle.asm_code.specs.code.RuleMeaning.{IsSoundRule}
use Rattle.asm_code.specs.code.RuleViews.{rule_of}
use Rattle.asm_code.specs.declared.rule_code.RuleCode.{RuleCode}
use Rattle.asm_eval.specs.code.Frames.{IsSoundFrame}
use Rattle.asm_eval.specs.code.Evaluation.{rule_shown}
use Rattle.asm_eval.specs.declared.frame.Frame.{Frame}
use Rattle.asm_eval.specs.declared.regions.RegionOutcome.{RegionOutcome}
use Rattle.asm_eval.specs.declared.regions.RegionOutcome.TheVariants as region

abbrev pub IsFormedOrLeft : Shape → Outcome → (old new : Forming) → Result RegionOutcome Stopped → Type 0
IsFormedOrLeft shape o old new (Ok region.Formed) = Follows {T = RegionOutcome} shape o old new (Ok region.Formed)
IsFormedOrLeft shape o old new (Ok region.Left) = new ≡ old
IsFormedOrLeft shape o old new (Err e) = Follows {T = RegionOutcome} shape o old new (Err e)

module _ {P : Type 0} where
  abbrev pub TakesRegions : (Global → Bor View → Bor (Choices P) → ℕ → Bor Frame → Bor RuleCode → MutBor Forming → Type 0) → Type 0
  TakesRegions pre = (alloc : Global) (view : Bor View) (choices : Bor (Choices P)) (turns : ℕ) (f : Bor Frame) (R : Bor RuleCode) (made : MutBor Forming)
      → let shape = view.now.signature.now in
      IsSoundRule shape (rule_of R.now) → IsSoundFrame shape f.now → made.now.set.count ≡ count_of shape
      → pre alloc view choices turns f R made

  abbrev pub TakesThem : (script : P → Script) → (Global → Bor View → Bor (Choices P) → ℕ → Bor Frame → Bor RuleCode → MutBor Forming → Result RegionOutcome Stopped → MutBor Forming → Type 0) → Type 0
  TakesThem script post = (alloc : Global) (view : Bor View) (choices : Bor (Choices P)) (turns : ℕ) (f : Bor Frame) (R : Bor RuleCode) (made : MutBor Forming) (result : Result RegionOutcome Stopped) (new : MutBor Forming)
      → post alloc view choices turns f R made result new
      → IsFormedOrLeft view.now.signature.now (rule_shown script view.now choices.now turns f.now made.now.path.items (rule_of R.now)) made.now new.now result
