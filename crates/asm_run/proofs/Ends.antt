-- Free. What a result says of the texts.
use Rattle.std.proofs.Common.{◌≡◌, ℕ, List, Option, refl}
use Rattle.std.specs.Prelude.{◌≢◌, Ok, Err}
use Rattle.asm_meaning.specs.Run as run
use Rattle.asm_meaning.specs.Run.{AtLimit, AtExhausted, AtFault}
use Rattle.asm_run.specs.ResultsTell.{ResultsTell, HasEnd, faulty, unread, unscripted}
use Rattle.asm_run.specs.Headline.{IsReturned, IsDone}
use Rattle.asm_run.specs.declared.end.End.{End}
use Rattle.asm_run.specs.declared.end.End.TheVariants as end
use Rattle.asm_run.specs.declared.error.RunError.TheVariants as error
use Rattle.asm_limits.specs.declared.run_limits.Limits.{Limits}

at_limit : (r : run.End) → IsReturned r end.Limit → r ≡ AtLimit
at_limit AtLimit is = refl
at_limit (AtExhausted i p) is = absurd cc
at_limit (AtFault i U) is = absurd is

not_at_limit : (r : run.End) (e : End) → (e ≡ end.Limit → ⊥) → IsReturned r e → r ≢ AtLimit
not_at_limit AtLimit e other is = absurd (other is)
not_at_limit (AtExhausted i p) e other is = λ bad. cc
not_at_limit (AtFault i U) e other is = λ bad. cc

module _ (text script_text : List ℕ) (limits : Limits) (old new : Option (List ℕ)) where
  of_end : (P : run.End → Type 0) (e : End) → ((r : run.End) → IsReturned r e → P r)
      → IsDone text script_text limits old new e → HasEnd text script_text limits P
  of_end P e says done = record { tree = done.tree; accepted = done.accepted; script = done.script; spelled = done.spelled; ended = says _ done.answered }

pub results_tell : ResultsTell
results_tell t s l old new (Ok end.Limit) done why = of_end t s l old new (λ e. e ≡ AtLimit) end.Limit at_limit done
results_tell t s l old new (Ok (end.Clash i f vs v w)) done why = of_end t s l old new (λ e. e ≢ AtLimit) (end.Clash i f vs v w) (λ x. not_at_limit x (end.Clash i f vs v w) (λ bad. cc)) done
results_tell t s l old new (Ok (end.Outside i f)) done why = of_end t s l old new (λ e. e ≢ AtLimit) (end.Outside i f) (λ x. not_at_limit x (end.Outside i f) (λ bad. cc)) done
results_tell t s l old new (Ok (end.Exhausted i p)) done why = of_end t s l old new (λ e. e ≢ AtLimit) (end.Exhausted i p) (λ x. not_at_limit x (end.Exhausted i p) (λ bad. cc)) done
results_tell t s l old new (Err (error.Read e)) done why = unread e why.0
results_tell t s l old new (Err (error.Check e)) done why = faulty e why.0
results_tell t s l old new (Err (error.Script e)) done why = unscripted why.0 e why.1 why.2
results_tell t s l old new (Err error.Limits) done why = tt
results_tell t s l old new (Err error.Memory) done why = tt
results_tell t s l old new (Err error.Write) done why = tt
