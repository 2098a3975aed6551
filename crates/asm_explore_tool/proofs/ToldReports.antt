-- Free. A report, or why there is none, as it is told.
--     told_ok, told_err      what holds of a report, or of its fault, where it is told
--     told_plainly           a fault that is told without the text of the specification
use Rattle.std.proofs.Common.{◌≡◌, ℕ, List, refl, subst}
use Rattle.std.specs.Prelude.{Result, Ok, Err, IfOk, IfErr, None}
use Rattle.asm_explore_words.specs.declared.fault.Fault.{Fault}
use Rattle.asm_explore_words.specs.declared.fault.Fault.TheVariants as cause
use Rattle.asm_explore_tool.specs.Faults.{IsToldOf, fault_of_report}
use Rattle.asm_explore_tool.specs.declared.no_answer.NoAnswer.{NoAnswer}

pub told_ok : {T E F : Type 0} (r : Result T E) (s : Result T F) (P Q : T → Type 0) → IfOk r (λ x. s ≡ Ok x) → IfOk s P
    → ((x : T) → P x → Q x) → IfOk r Q
told_ok (Ok x) s P Q is h so = so x (subst (λ made. IfOk made P) is h)
told_ok (Err e) s P Q is h so = tt

pub told_err : {T : Type 0} (text : List ℕ) (r : Result T NoAnswer) (s : Result T Fault) (P : Fault → Type 0) (Q : NoAnswer → Type 0)
    → IfErr r (λ fault. (why : Fault) × (s ≡ Err why) × IsToldOf text why fault) → IfErr s P
    → ((why : Fault) (fault : NoAnswer) → P why → IsToldOf text why fault → Q fault) → IfErr r Q
told_err text (Ok x) s P Q is h so = tt
told_err text (Err fault) s P Q is h so = so is.0 fault (subst (λ made. IfErr made P) is.1 h) is.2

pub told_plainly : (text : List ℕ) (why : Fault) → IsToldOf text why (fault_of_report why)
told_plainly text (cause.Text refused) = (None, tt, refl)
told_plainly text cause.Memory = refl
told_plainly text (cause.Graph name) = refl
told_plainly text (cause.QuietScript name) = refl
told_plainly text (cause.Name name) = refl
told_plainly text cause.Unconfirmed = refl
