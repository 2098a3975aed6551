-- Free. Who takes the choices of a rule's story picks as it says, and has the rule tell just that
-- story.
--     told_again       of a rule
--     making_laws      what is said of the choices of a rule
use Rattle.std.proofs.Common.{◌++◌, ◌≡◌, ◌%◌, ℕ, List, length, ap, subst}
use Rattle.std.proofs.lemmas.List.{map-append}
use Rattle.asm_state.specs.Location.{State}
use Rattle.asm_syntax.specs.Tree.{Rule}
use Rattle.asm_reader.specs.ScriptLines.{Script, pick}
use Rattle.asm_meaning.specs.Program.{Program, Environment}
use Rattle.asm_meaning.specs.Story.{Story, Silent, Assigns, Chooses, Instance, Beside, Then, Exhausts, tells}
use Rattle.asm_meaning.specs.StoryLaws.{PicksAs}
use Rattle.asm_meaning.specs.Yields.{Path}
use Rattle.asm_meaning.proofs.StoriesAlike.{told_alike}
use Rattle.asm_explore.specs.declared.outcomes.listed_outcome.Choice.{Choice}
use Rattle.asm_explore.specs.ChoicePoints.{Asking, asked, choices_of}
use Rattle.asm_explore.specs.ChoicesMadeLaws.{Takes, MakingLaws}
use Rattle.asm_explore.proofs.Elements.{each_first, each_last}
use Rattle.asm_explore.proofs.ChoiceLemmas.MadePlaces.{told_placed}

module _ (chosen : Path → ℕ) where
  -- those of two stories
  both_taken : (xs ys : List Asking) → Takes chosen (choices_of (xs ++ ys)) → Takes chosen (choices_of xs) × Takes chosen (choices_of ys)
  both_taken xs ys h =
      let taken = subst (Takes chosen) (map-append (λ (a : Asking). a.choice) xs ys) h in (
        each_first (λ (c : Choice). chosen c.path ≡ c.number) (choices_of xs) (choices_of ys) taken,
        each_last (λ (c : Choice). chosen c.path ≡ c.number) (choices_of xs) (choices_of ys) taken,
      )

  picks_as : (s : Story) → Takes chosen (choices_of (asked s)) → PicksAs chosen s
  picks_as Silent h = tt
  picks_as (Assigns p l v ws bs) h = tt
  picks_as (Chooses p k vs s) h = (ap (λ n. n % length vs) h.0, picks_as s h.1)
  picks_as (Instance s) h = picks_as s h
  picks_as (Beside s t) h = let both = both_taken (asked s) (asked t) h in (picks_as s both.0, picks_as t both.1)
  picks_as (Then s t) h = let both = both_taken (asked s) (asked t) h in (picks_as s both.0, picks_as t both.1)
  picks_as (Exhausts p) h = tt

pub told_again : (program : Program) (turns : ℕ) (script other : Script) (step later : ℕ) (A : State) (e : Environment) (p : Path) (R : Rule)
    → Takes (pick other later) (choices_of (asked (tells program turns script step A e p R))) → tells program turns other later A e p R ≡ tells program turns script step A e p R
told_again program turns script other step later A e p R h =
    told_alike program turns script other step later A e p R (picks_as (pick other later) (tells program turns script step A e p R) h)

pub making_laws : (program : Program) (turns : ℕ) (script : Script) (step : ℕ) (A : State) (e : Environment) (p : Path) (R : Rule) → MakingLaws program turns script step A e p R
making_laws program turns script step A e p R = record {
  placed = told_placed program turns script step A e p R;
  alike = λ other later taken. told_again program turns script other step later A e p R taken;
}
