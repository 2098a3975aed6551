use Rattle.std.proofs.Common.{◌≡◌, map, length, get_or, refl, ap, sym, subst, ◌∙◌, inl, inr, arith, Option, Some, String, Vec, Global}
use Rattle.std.specs.Prelude.{IfSome}
use Rattle.std.specs.String.{string_bytes}
use Rattle.std.proofs.lemmas.Bool.{cases_lt}
use Rattle.std.proofs.lemmas.List.{length-map}
use Rattle.asm_reader.specs.ExactLines.{exactly}
use Rattle.asm_meaning.specs.Run.{AtLimit, run}
use Rattle.asm_explore.specs.declared.outcomes.listed_outcome.Choice.{Choice}
use Rattle.asm_explore.specs.ChosenLines.{IsChosenText}
use Rattle.asm_explore.specs.code.ReachedStates.{MakesAll, state_at}
use Rattle.asm_explore.specs.ChoiceLines.{lines_of}
use Rattle.asm_explore.specs.Search.{HoldsBefore, IsQuiet}
use Rattle.asm_explore.proofs.StateLemmas.RunsAlongChoices.{trail_run}
use Rattle.asm_explore.proofs.StateLemmas.SameRuns.{last_alike}
use Rattle.asm_explore.proofs.ScriptLemmas.ScriptToState.{lines_make}
use Rattle.asm_explore.proofs.StateLemmas.QuietNodes.{first_listed}
use Rattle.asm_explore.proofs.OutcomeLemmas.LeadingOutcomes.{leads_apart}
use Rattle.asm_explore.proofs.explore_machine.quiet_run.Goals as goal

some : {X : Type 0} (o : Option X) (x : X) (P : X → Type 0) → o ≡ Some x → IfSome o P → P x
some o x P is h = subst (λ it. IfSome it P) is h

pub returns-in-Ok-Some-clause-run : goal.returns-in-Ok-Some-clause-run
returns-in-Ok-Some-clause-run g c =
    let a = c.args in
    let shape = g.M.Machine.shape a.machine.now in
    let specification = g.M.Machine.specification a.machine.now in
    let turns = g.M.Machine.turns a.machine.now in
    let within = g.M.Machine.within a.machine.now in
    let i = get_or a.quiet.now 0 0 in
    let first = first_listed shape specification turns (g.M.Machine.rests a.machine.now) within 0 a.nodes.now a.quiet.now i 0 (omega (arith, c.if-quiet-eq0.false)) refl c.requires.first in
    let n = first.0 in
    let trail = map (λ (cs : Vec Choice Global). cs.items) c.in-Ok.trail.items in
    let leads = c.in-Ok.ensures.leads n first.1 in
    let said = map (λ (cs : Vec Choice Global). cs.items) c.as_slice.result.now in
    let same : said ≡ trail = ap (map (λ (cs : Vec Choice Global). cs.items)) c.as_slice.ensures.value in
    let script = exactly (lines_of said) in
    let makes : MakesAll script trail = subst (λ b. MakesAll (exactly (lines_of b)) trail) (sym same) (lines_make trail (leads_apart specification turns within trail (state_at shape n) leads)) in
    let runs = trail_run specification turns within script trail (state_at shape n) leads makes in
    let steps = c.from.result in
    let long : length trail ≡ steps =
    omega (arith, length-map c.in-Ok.trail.items (λ (cs : Vec Choice Global). cs.items), c.in-Ok.ensures.deep n first.1, c.depth-steps.ensures n first.1, c.from.ensures) in
    let deep : n.depth ≡ steps = omega (arith, c.depth-steps.ensures n first.1, c.from.ensures) in
    let found = some c.in-Ok-Some.field-0 c.in-Ok-Some.script (λ (text : String Global). IsChosenText specification turns script c.depth-steps.result (string_bytes text)) c.in-Ok-Some.field-0-is c.in-Ok-Some.ensures.some in
    let chosen = subst (λ k. IsChosenText specification turns script k (string_bytes c.in-Ok-Some.script)) (sym c.from.ensures) found in
    let lines = exactly chosen.lines in
    let last : (run specification turns lines steps).last ≡ state_at shape n =
    ap (λ r. r.last) chosen.again ∙ subst (λ k. (run specification turns script k).last ≡ state_at shape n) long runs.1 in
    record {
      lines = chosen.lines;
      text = chosen.is;
      spelled = chosen.spelled;
      chosen = chosen.chosen;
      end = ap (λ r. r.end) chosen.again ∙ subst (λ k. (run specification turns script k).end ≡ AtLimit) long runs.0;
      quiet = subst (IsQuiet specification turns) (sym last) first.3;
      stays = λ k low.
          elim (cases_lt k (length trail)) [
            | inl less ↦ ap within (last_alike specification turns lines script steps k (omega (arith, less, long)) chosen.again) ∙ runs.2 k less
            | inr past ↦
                let same : k ≡ steps = omega (arith, low, past, long) in
                ap (λ n. within (run specification turns lines n).last) same ∙ ap within last ∙ first.2
          ];
      first = subst (HoldsBefore specification turns within (λ A. ¬ (IsQuiet specification turns A))) deep first.4;
    }

pub returns-in-Ok-Some-clause-some : goal.returns-in-Ok-Some-clause-some
returns-in-Ok-Some-clause-some g c = omega (arith, c.if-quiet-eq0.false)
