-- Free. From the steps of a run to what is said of the whole.
use Rattle.std.proofs.Common.{◌≡◌, ◌≢◌, ◌↔◌, ◌<◌, ◌≤◌, ℕ, Bool, true, false, List, length, Option, Result, Ok, Err, inl, inr, refl, arith}
use Rattle.std.specs.Prelude.{IsTrue, IfOk, IfErr, MatchResult}
use Rattle.asm_syntax.specs.declared.input_error.InputError.{InputError}
use Rattle.asm_syntax.specs.declared.input_error.InputError.TheVariants as refused
use Rattle.asm_syntax.specs.declared.error.LexError.TheVariants.{TooLong}
use Rattle.asm_syntax.specs.SourceTree.{Spec}
use Rattle.asm_syntax.specs.code.Lexing.{HasFirstToken}
use Rattle.asm_reader.specs.declared.error.ReadError.{ReadError}
use Rattle.asm_reader.specs.declared.error.ReadError.TheVariants.{Lex}
use Rattle.asm_reader.specs.Refusals as reader
use Rattle.asm_reader.specs.Specification.{IsSpecification}
use Rattle.asm_check.specs.declared.error.CheckError.{CheckError}
use Rattle.asm_check.specs.Errors as checker
use Rattle.asm_reader.specs.declared.script_error.ScriptError.{ScriptError}
use Rattle.asm_reader.specs.ScriptLines.{Script}
use Rattle.asm_reader.specs.ScriptRefusals.{ExplainsScript}
use Rattle.asm_reader.specs.ScriptText.{IsScript}
use Rattle.asm_run.specs.declared.end.End.{End}
use Rattle.asm_run.specs.declared.error.RunError.{RunError}
use Rattle.asm_run.specs.declared.error.RunError.TheVariants as error
use Rattle.asm_limits.specs.declared.run_limits.Limits.{Limits}
use Rattle.asm_limits.specs.Limits.{are_in_range}
use Rattle.asm_run.specs.code.RefusedRuns.{run_error_of_read, run_error_of_check, run_error_of_script}
use Rattle.asm_run.specs.Written.{names_in, locations_in}
use Rattle.asm_run.specs.Headline.{IsAccepted, IsDone, Explains, Runs, book_run}
use Rattle.asm_run.specs.code.RunSoFar.{RunsSteps}
use Rattle.asm_run.proofs.FirstTokens.{first_token, memory_later}
use Rattle.asm_run.proofs.StepEnds.{Appends-none}

module _ (text script_text : List ℕ) (limits : Limits) where
  -- a refusal before the first step, to a sink that hasn't failed
  module _ (old : Option (List ℕ)) (failed : Bool) (is_open : failed ≡ false) where
    abbrev refuses : RunError → Type 0
    refuses e = Runs text script_text limits old old failed (Err e)

    unwritten : (e : RunError) → Explains text script_text limits old old e → (1_048_576 < length text → e ≡ error.Read (Lex TooLong)) → (e ≡ error.Memory → HasFirstToken text) → e ≢ error.Write → refuses e
    unwritten e explained long memory kept = record {
      done = tt;
      refused = explained;
      too_long = λ is_long. cc (long is_long);
      memory = memory;
      failed = (λ yes. absurd cc, λ same. absurd (kept cc));
    }

    -- a text that the reader refuses
    pub refused_text : (r : InputError ReadError) → reader.Explains text r → (1_048_576 < length text → r ≡ refused.Named (Lex TooLong)) → (r ≡ refused.Memory → HasFirstToken text) → refuses (run_error_of_read r)
    refused_text refused.Memory h long memory = unwritten error.Memory (inl (Appends-none old)) (λ is_long. absurd (cc (long is_long))) (λ _. memory refl) (λ same. absurd cc)
    refused_text (refused.Named e) h long memory = unwritten (error.Read e) (h, Appends-none old) (λ is_long. cc (long is_long)) (λ same. absurd cc) (λ same. absurd cc)

    module _ (s : Spec) (spelled : IsSpecification text s) where
      after_text : (e : RunError) → Explains text script_text limits old old e → e ≢ error.Write → refuses e
      after_text e explained kept =
          let first : HasFirstToken text = first_token text s spelled in
          unwritten e explained (λ is_long. let short : length text ≤ 1_048_576 = first.0 in absurd (omega arith)) (λ _. first) kept

      -- memory ran out
      pub no_memory : refuses error.Memory
      no_memory = after_text error.Memory (inl (Appends-none old)) (λ same. absurd cc)

      -- a specification that the check refuses
      pub refused_tree : (r : InputError CheckError) → checker.Explains s r → refuses (run_error_of_check r)
      refused_tree refused.Memory h = no_memory
      refused_tree (refused.Named e) h = after_text (error.Check e) ((s, spelled, h), Appends-none old) (λ same. absurd cc)

    module _ (s : Spec) (accepted : IsAccepted text s) where
      -- a script that the reader refuses
      pub refused_script : (r : InputError ScriptError) → ExplainsScript script_text r → refuses (run_error_of_script r)
      refused_script refused.Memory h = no_memory s accepted.spelled
      refused_script (refused.Named e) h = after_text s accepted.spelled (error.Script e) (s, accepted, h, Appends-none old) (λ same. absurd cc)

      -- limits out of their ranges
      pub out_of_range : (script : Script) → IsScript script_text script → are_in_range limits ≡ false → refuses error.Limits
      out_of_range script spelled is_out = after_text s accepted.spelled error.Limits (s, accepted, script, spelled, is_out, Appends-none old) (λ same. absurd cc)

  module _ (old new : Option (List ℕ)) where
    abbrev done : End → Type 0
    done = IsDone text script_text limits old new

    abbrev explains : RunError → Type 0
    explains = Explains text script_text limits old new

    at_ok : (result : Result End RunError) → MatchResult result done explains → IfOk result done
    at_ok (Ok e) h = h
    at_ok (Err e) h = tt

    at_err : (result : Result End RunError) → MatchResult result done explains → IfErr result explains
    at_err (Ok e) h = tt
    at_err (Err e) h = h

    module _ (failed : Bool) (s : Spec) (accepted : IsAccepted text s) (script : Script) (spelled : IsScript script_text script) (in_range : are_in_range limits ≡ true) where
      abbrev all : Result End RunError → Type 0
      all result = RunsSteps (names_in s) (locations_in s) old new failed (book_run s limits.turns script limits.steps) result

      said : (result : Result End RunError) → all result → MatchResult result done explains
      said (Ok e) h = record { tree = s; accepted = accepted; script = script; spelled = spelled; in_range = in_range; written = h.0; answered = h.1 }
      said (Err error.Memory) h = inr (record { tree = s; accepted = accepted; script = script; spelled = spelled; in_range = in_range; holds = h.0 })
      said (Err error.Write) h = record { tree = s; accepted = accepted; script = script; spelled = spelled; in_range = in_range; holds = h.0 }
      said (Err error.Limits) h = absurd h
      said (Err (error.Read e)) h = absurd h
      said (Err (error.Check e)) h = absurd h
      said (Err (error.Script e)) h = absurd h

      fails : (result : Result End RunError) → all result → IsTrue failed ↔ (result ≡ Err error.Write)
      fails (Ok e) h = let no : failed ≡ false = h.2 in (λ f. absurd (cc), λ e. absurd cc)
      fails (Err error.Memory) h = let no : failed ≡ false = h.1 in (λ f. absurd (cc), λ e. absurd cc)
      fails (Err error.Write) h = (λ f. refl, λ e. h.1)
      fails (Err error.Limits) h = absurd h
      fails (Err (error.Read e)) h = absurd h
      fails (Err (error.Check e)) h = absurd h
      fails (Err (error.Script e)) h = absurd h

      pub whole : (result : Result End RunError) → all result → Runs text script_text limits old new failed result
      whole result runs = record {
        done = at_ok result (said result runs);
        refused = at_err result (said result runs);
        too_long = λ is_long. let short : length text ≤ 1_048_576 = (first_token text s accepted.spelled).0 in absurd (omega arith);
        memory = memory_later text s accepted.spelled result;
        failed = fails result runs;
      }
