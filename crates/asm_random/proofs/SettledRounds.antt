-- Free. The rounds in which the choices of a step are drawn.
--     picked_last     what is taken in the last step of a draft
--     longer          how many steps a draft has with one more
--     HasRound        a script takes in the step what the lines of a round take
--     no_round        before the first round there is no line
--     next_round      in the next one a line for each choice
--     settled         what is drawn in one round is drawn in the next
--     last_round      what isn't drawn after all rounds
-- Free. The rounds in which the choices of a step are drawn.
--     picked_last     what is taken in the last step of a draft
--     no_round        in the first round there is no line
--     next_round      the lines of the round after the one that a script has
--     settled         what is drawn in one round is drawn in the next
--     last_round      what isn't drawn after all rounds
use Rattle.std.proofs.Common.{◌≡◌, ◌∙◌, ◌+◌, ℕ, suc, List, [], ◌∷◌, ◌++◌, None, Some, length, length-append, slice_get, unwrap_or, refl, sym, ap, subst, arith, Vec, Global}
use Rattle.std.specs.BTreeMap.{BTreeMap}
use Rattle.std.specs.Option.{option_or}
use Rattle.asm_state.specs.Location.{State}
use Rattle.asm_reader.specs.ExactLines.{exactly}
use Rattle.asm_reader.specs.ScriptLines.{Script, Line, pick}
use Rattle.asm_meaning.specs.Run.{Specification}
use Rattle.asm_explore.specs.ChoicePoints.{Asking, asked, choices_of}
use Rattle.asm_explore.specs.ChoicesMadeLaws.{Takes}
use Rattle.asm_explore.specs.RunChoices.{asked_from}
use Rattle.asm_explore.specs.TakenChoices.{HaveOwnPaths}
use Rattle.asm_explore.specs.declared.outcomes.listed_outcome.Choice.{Choice}
use Rattle.asm_random.specs.declared.draft.Draft.{Draft}
use Rattle.asm_random.specs.DrawnTexts.{AreDrawn, IsUndrawnAfter, at_step, redrawn}
use Rattle.asm_random.specs.code.DraftSteps.{AddsStep}
use Rattle.asm_random.specs.code.Drafts.{draft_lines, lines_from, lines_in}
use Rattle.asm_random.proofs.DraftLines.{picked_from}
use Rattle.asm_random.proofs.DrawnTextLines.{Making}
use Rattle.asm_random.proofs.RedrawnLines.{each_with, lines_by, takes_settled}
use Rattle.asm_random.proofs.StoriesAlike.{tells_alike}

at_end : {X : Type 0} (xs : List X) (x : X) → slice_get (xs ++ x ∷ []) (length xs) ≡ Some x
at_end [] x = refl
at_end (y ∷ xs) x = at_end xs x

pub picked_last : (old new : Draft) (m : BTreeMap (Vec ℕ Global) ℕ) (step : ℕ) (p : List ℕ) → new.steps.items ≡ old.steps.items ++ m ∷ [] → step ≡ 1 + length old.steps.items
    → pick (exactly (draft_lines new)) step p ≡ pick (exactly (lines_in step m.entries)) step p
picked_last old new m step p adds is =
    ap (λ (ms : List (BTreeMap (Vec ℕ Global) ℕ)). pick (exactly (lines_from 1 ms)) step p) adds
    ∙ subst (λ (s : ℕ). pick (exactly (lines_from 1 (old.steps.items ++ m ∷ []))) s p ≡ pick (exactly (lines_in s m.entries)) s p) (sym is)
    (ap (λ o. unwrap_or (option_or o None) 0) (picked_from 1 (length old.steps.items) p (old.steps.items ++ m ∷ []) m (at_end old.steps.items m)))

-- a draft with one step more has so many
pub longer : (d e : Draft) → AddsStep d e → length e.steps.items ≡ 1 + length d.steps.items
longer d e adds =
    let more = length-append d.steps.items (adds.0 ∷ []) in
    ap (λ (ms : List (BTreeMap (Vec ℕ Global) ℕ)). length ms) adds.1 ∙ omega (arith, more)

module _ (specification : Specification) (turns seed number step : ℕ) (A : State) where
  abbrev rounds : ℕ → List Line
  rounds n = redrawn specification turns seed number step A n

  abbrev ask : Script → List Asking
  ask script = asked_from specification turns A (at_step script step)

  -- the script takes in the step what the lines of a round take
  abbrev pub HasRound : Script → ℕ → Type 0
  HasRound s n = (p : List ℕ) → pick s step p ≡ pick (exactly (rounds n)) step p

  asks_alike : (s t : Script) → ((p : List ℕ) → pick s step p ≡ pick t step p) → ask s ≡ ask t
  asks_alike s t same = ap asked (tells_alike specification turns s t step A same)

  pub no_round : (s : Script) → ((p : List ℕ) → pick s step p ≡ 0) → HasRound s 0
  unfolding redrawn
  no_round s none p = none p

  next_lines : (n k : ℕ) → k ≡ suc n → rounds k ≡ lines_by seed number step (ask (exactly (rounds n)))
  unfolding redrawn
  next_lines n k is = ap (λ (j : ℕ). redrawn specification turns seed number step A j) is

  pub next_round : (s t : Script) (n k : ℕ) (asked : List Asking) → HasRound s n → asked ≡ ask s → k ≡ suc n
      → ((p : List ℕ) → pick t step p ≡ pick (exactly (lines_by seed number step asked)) step p) → HasRound t k
  next_round s t n k asked has are next takes p =
      takes p
      ∙ (ap (λ (xs : List Asking). pick (exactly (lines_by seed number step xs)) step p) (are ∙ asks_alike s (exactly (rounds n)) has)
      ∙ ap (λ (ls : List Line). pick (exactly ls) step p) (sym (next_lines n k next)))

  -- what is drawn stays so
  pub settled : Making specification turns → (s t : Script) (asks : List Asking) → asks ≡ ask s → AreDrawn seed number step asks
      → ((p : List ℕ) → pick t step p ≡ pick (exactly (lines_by seed number step asks)) step p) → AreDrawn seed number step (ask t)
  settled making s t asks are drawn takes =
      let apart : HaveOwnPaths (choices_of asks) = subst (λ (xs : List Asking). HaveOwnPaths (choices_of xs)) (sym are) (making s step A).placed.apart in
      let first = takes_settled seed number step asks apart drawn in
      let same = each_with (λ (c : Choice). pick (exactly (lines_by seed number step asks)) step c.path ≡ c.number) (λ (c : Choice). pick (exactly (lines_by seed number step asks)) step c.path ≡ c.number)
      (λ (c : Choice). pick t step c.path ≡ c.number) (choices_of asks) (λ c h _. takes c.path ∙ h) first first in
      let again : ask t ≡ ask s = ap asked ((making s step A).alike t step (subst (λ (xs : List Asking). Takes (pick t step) (choices_of xs)) are same)) in
      subst (λ (xs : List Asking). AreDrawn seed number step xs) (are ∙ sym again) drawn

  pub last_round : (s : Script) (n most : ℕ) → HasRound s n → n ≡ most → ¬ (AreDrawn seed number step (ask s)) → IsUndrawnAfter specification turns seed number step A most
  last_round s n most has is undrawn =
      subst (λ (k : ℕ). IsUndrawnAfter specification turns seed number step A k) is
      (λ drawn. undrawn (subst (λ (xs : List Asking). AreDrawn seed number step xs) (sym (asks_alike s (exactly (rounds n)) has)) drawn))
