-- Definition. The first state of a run in which one of some conditions isn't true.
--     HoldBefore n              the conditions are true in each state that fewer than n steps lead to
--     IsFirstBroken n words lines
--                               so many steps lead to a state in which one isn't, which has these
--                               words and lines, and the conditions are true in each state before it
use Rattle.std.specs.Prelude.{◌≡◌, ◌<◌, ℕ, true, List}
use Rattle.std.specs.List.{list_all}
use Rattle.asm_state.specs.Location.{State}
use Rattle.asm_syntax.specs.SourceTree.{Spec, Term}
use Rattle.asm_reader.specs.ScriptLines.{Script}
use Rattle.asm_meaning.specs.Declarations.{specification_of}
use Rattle.asm_meaning.specs.Run.{IsAfter}
use Rattle.asm_meaning.specs.Value.{is_true}
use Rattle.asm_explore_report.specs.FaultWords.{IsBroken, value_in}

module _ (s : Spec) (terms : List Term) (turns : ℕ) (script : Script) where
  abbrev pub HoldBefore : ℕ → Type 0
  HoldBefore n = (k : ℕ) → k < n → (A : State) → IsAfter (specification_of s) turns script k A → list_all (λ t. is_true (value_in s t A)) terms ≡ true

  pub record IsFirstBroken (n : ℕ) (words : List ℕ) (lines : List (List ℕ)) : Type 0 where
    pub state : State
    pub after : IsAfter (specification_of s) turns script n state
    pub before : HoldBefore n
    pub broken : IsBroken s terms state words lines
