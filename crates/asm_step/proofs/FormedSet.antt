-- Free. What a step forms over a state.
--     formed_alone     from the empty set and no instances on, what is formed is what the step
--                      yields
--     stopped_alone    what stops one outcome stops an equal one
use Rattle.std.proofs.Common.{◌≡◌, ℕ, ◌+◌, List, Result, Ok, Err, sym, ap, subst, ◌∙◌, arith}
use Rattle.std.specs.Prelude.{min, IfErr}
use Rattle.asm_state.specs.declared.value.Value.{Value}
use Rattle.asm_state.specs.Location.{State, Stray}
use Rattle.asm_state.specs.Signature.{Shape, state_of}
use Rattle.asm_state.specs.Updates.{UpdateSet, IsConsistent, none, fire, together}
use Rattle.asm_state.proofs.UpdateLemmas.Members.{member_laws}
use Rattle.asm_state.proofs.UpdateLemmas.Summaries.{fire_laws}
use Rattle.asm_state.proofs.UpdateLemmas.UnionsAndMerges.{union_laws}
use Rattle.asm_updates.specs.code.SummaryRanges.{SummaryRanges}
use Rattle.asm_updates.specs.code.Stands.{Stands}
use Rattle.asm_meaning.specs.Does.{Outcome}
use Rattle.asm_eval.specs.code.FormedOutcomes.{Forms, IsSet, IsStoppedAt, greatest_count}
use Rattle.asm_eval.specs.declared.stopped.Stopped.{Stopped}
use Rattle.asm_eval.specs.declared.stopped.Stopped.TheVariants as stopped
use Rattle.asm_meaning.specs.Yields.{Path}

stands_alone : (shape : Shape) (summary : SummaryRanges) (U : UpdateSet) → Stands shape summary (together none U) → Stands shape summary U
stands_alone shape summary U h = subst (λ V. Stands shape summary V) (union_laws.unit U) h

pub formed_alone : (shape : Shape) (o : Outcome) (cleared new : SummaryRanges) (before after : ℕ) → Stands shape cleared none → before ≡ 0 → Forms shape o cleared new before after
    → IsSet shape o new after
formed_alone shape o cleared new before after fresh none_yet forms =
    let stands : Stands shape new forms.set = stands_alone shape new forms.set (forms.adds none fresh) in
    let all : before + o.instances ≡ o.instances = omega arith in
    record {
      set = forms.set;
      gives = forms.gives;
      count = stands.has_count;
      stands = stands;
      counts = forms.counts ∙ ap (λ n. min n greatest_count) all;
    }

pub stopped_alone : (result : Result Unit Stopped) (o q : Outcome) (p : Path) → o ≡ q → IfErr result (IsStoppedAt o p) → IfErr result (IsStoppedAt q p)
stopped_alone (Ok done) o q p same said = said
stopped_alone (Err stopped.Memory) o q p same said = said
stopped_alone (Err stopped.Exhausted) o q p same said = ap (λ (x : Outcome). x.result) (sym same) ∙ said
