-- Free. The law of choice, of lists of outcomes.
use Rattle.std.proofs.Common.{[], subst}
use Rattle.asm_meaning.proofs.ChoiceLemmas.ScriptedIsFree.{scripted_is_free}
use Rattle.asm_meaning.proofs.ChoiceLemmas.FreeHasScript.{free_has_script}
use Rattle.asm_meaning.specs.Program.{nothing_bound}
use Rattle.asm_meaning.specs.Yields.{Result}
use Rattle.asm_explore.specs.code.ChoiceLaws.{ChoiceLaws, MayYield}
use Rattle.asm_explore.specs.code.OutcomeLists.{Situation, AreTaken, Shows, Shown, IsSound}
use Rattle.asm_explore.specs.code.ReachedStates.{steps_from}
use Rattle.asm_explore.proofs.OutcomeLemmas.ListLemmas.{each_weaker}

pub choice_laws : ChoiceLaws
choice_laws = record {
  complete = λ specification rank turns shape A fs ranked below lists r yields.
      let it = free_has_script specification.program rank turns 1 A nothing_bound [] specification.main r ranked below yields in
      subst (Shown shape fs) it.2 (lists.complete (record { script = it.0; step = 1 }));
  sound = λ specification rank turns shape A fs ranked below lists.
      each_weaker (IsSound shape (steps_from specification turns A)) (λ f. (s : Situation) → AreTaken s f.choices → (r : Result) × MayYield specification turns A r × Shows shape f.answer r)
      (λ f sound s taken. (
        steps_from specification turns A s,
        scripted_is_free specification.program rank turns s.script s.step A nothing_bound [] specification.main ranked below,
        sound s taken,
      ))
      fs lists.sound;
}
