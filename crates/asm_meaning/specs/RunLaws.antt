-- Law. The run of some steps, and runs of more.
--     RunLaws      after no step it is in the first state; after one step more in the state that this
--                  step leads to; and a step that is exhausted, or whose set is faulty, ends each
--                  run of more steps
use Rattle.std.specs.Prelude.{◌≡◌, ◌+◌, ◌<◌, ℕ}
use Rattle.asm_state.specs.Location.{State}
use Rattle.asm_state.specs.Updates.{UpdateSet, IsConsistent}
use Rattle.asm_reader.specs.ScriptLines.{Script}
use Rattle.asm_meaning.specs.Run.{AtExhausted, AtFault, Specification, run, step, IsStep, IsAfter}
use Rattle.asm_meaning.specs.Yields.{Path, Gives, Exhausted}

pub record RunLaws (specification : Specification) (turns : ℕ) (script : Script) : Type 0 where
  pub first : IsAfter specification turns script 0 specification.initial
  pub more : (n : ℕ) (A B : State) → IsAfter specification turns script n A → IsStep specification turns script (n + 1) A B → IsAfter specification turns script (n + 1) B
  pub exhausted : (n k : ℕ) (A : State) (q : Path) → n < k → IsAfter specification turns script n A → (step specification turns script (n + 1) A).result ≡ Exhausted q
      → ((run specification turns script k).end ≡ AtExhausted (n + 1) q) × ((run specification turns script k).last ≡ A)
  pub faulty : (n k : ℕ) (A : State) (U : UpdateSet) → n < k → IsAfter specification turns script n A → (step specification turns script (n + 1) A).result ≡ Gives U → ¬ (IsConsistent U)
      → ((run specification turns script k).end ≡ AtFault (n + 1) U) × ((run specification turns script k).last ≡ A)
