-- Free. Refusals exclude one another, and runs.
use Rattle.std.proofs.Common.{◌≡◌, ℕ, nat_eq, cond, false, List, refl, sym, ap, subst, ◌∙◌}
use Rattle.asm_syntax.specs.SourceTree.{Spec}
use Rattle.asm_reader.specs.declared.error.ReadError.{ReadError}
use Rattle.asm_reader.specs.Specification.{IsSpecification}
use Rattle.asm_reader.specs.Refusals.{IsRefusal}
use Rattle.asm_reader.specs.declared.script_error.ScriptError.{ScriptError}
use Rattle.asm_reader.specs.ScriptLines.{Script}
use Rattle.asm_reader.specs.ScriptText.{IsScript, IsScriptRefusal}
use Rattle.asm_check.specs.declared.error.FaultKind.{FaultKind}
use Rattle.asm_check.specs.declared.error.FaultKind.TheVariants.{Twice, Unknown, Arity, NotControlled, CyclicRule, CyclicDerived, Init, TooMany, TableEntry, ResultUse}
use Rattle.asm_check.specs.declared.error.CheckError.{CheckError}
use Rattle.asm_check.specs.Errors.{number_of}
use Rattle.asm_check.specs.Faults.{IsWellFormed, IsLeastFault}
use Rattle.asm_check.specs.Laws.{LeastIsOnly}
use Rattle.asm_run.specs.declared.error.RunError.TheVariants as error
use Rattle.asm_limits.specs.Limits.{are_in_range}
use Rattle.asm_run.specs.Headline.{IsAccepted, IsFaulty}
use Rattle.asm_run.specs.code.Exclusion.{OneNamedRefusal, NoRunBesideARefusal}

-- ---- kinds of faults have different numbers

kind_at : ℕ → FaultKind
kind_at n =
    cond (nat_eq n 8) Twice
    (cond (nat_eq n 9) Unknown
    (cond (nat_eq n 10) Arity
    (cond (nat_eq n 11) NotControlled
    (cond (nat_eq n 12) CyclicRule
    (cond (nat_eq n 13) CyclicDerived
    (cond (nat_eq n 14) Init
    (cond (nat_eq n 15) TooMany
    (cond (nat_eq n 16) TableEntry ResultUse))))))))

back : (kind : FaultKind) → kind_at (number_of kind) ≡ kind
unfolding kind_at
back Twice = refl
back Unknown = refl
back Arity = refl
back NotControlled = refl
back CyclicRule = refl
back CyclicDerived = refl
back Init = refl
back TooMany = refl
back TableEntry = refl
back ResultUse = refl

same_error : (e f : CheckError) → e.at ≡ f.at → number_of e.kind ≡ number_of f.kind → e ≡ f
same_error e f at number =
    let kind : e.kind ≡ f.kind = sym (back e.kind) ∙ ap kind_at number ∙ back f.kind in
    ap (λ (k : FaultKind). record { kind = k; at = e.at }) kind ∙ ap (λ (n : ℕ). record { kind = f.kind; at = n }) at

-- ---- one of them at most

module _ (one_tree : (text : List ℕ) (s t : Spec) → IsSpecification text s → IsSpecification text t → s ≡ t)
    (no_tree : (text : List ℕ) (s : Spec) (e : ReadError) → IsSpecification text s → ¬ IsRefusal text e)
    (no_script : (text : List ℕ) (s : Script) (e : ScriptError) → IsScript text s → ¬ IsScriptRefusal text e) where
  -- a specification without faults isn't faulty
  faulty_or_faultless : (text : List ℕ) (e : CheckError) (s : Spec) → IsFaulty text e → IsSpecification text s → IsWellFormed s → ⊥
  faulty_or_faultless text e s h spelled faultless =
      let least : IsLeastFault s e.at (number_of e.kind) = subst (λ t. IsLeastFault t e.at (number_of e.kind)) (one_tree text h.0 s h.1 spelled) h.2 in
      faultless e.at (number_of e.kind) least.fault

  faulty_or_known : (text : List ℕ) (e : CheckError) (s : Spec) → IsFaulty text e → IsAccepted text s → ⊥
  faulty_or_known text e s h k = faulty_or_faultless text e s h k.spelled k.faultless

  one_fault : LeastIsOnly → (text : List ℕ) (e f : CheckError) → IsFaulty text e → IsFaulty text f → e ≡ f
  one_fault least text e f h k =
      let other : IsLeastFault h.0 f.at (number_of f.kind) = subst (λ t. IsLeastFault t f.at (number_of f.kind)) (one_tree text k.0 h.0 k.1 h.1) k.2 in
      let same = least h.0 e.at (number_of e.kind) f.at (number_of f.kind) h.2 other in
      same_error e f same.0 same.1

  pub excludes : NoRunBesideARefusal
  excludes text script_text limits old new s script (error.Read e) h spelled in_range named k = no_tree text s e h.spelled k.0
  excludes text script_text limits old new s script (error.Check e) h spelled in_range named k = faulty_or_known text e s k.0 h
  excludes text script_text limits old new s script (error.Script e) h spelled in_range named k = no_script script_text script e spelled k.2
  excludes text script_text limits old new s script error.Limits h spelled in_range named k = let no : are_in_range limits ≡ false = k.4 in absurd cc
  excludes text script_text limits old new s script error.Memory h spelled in_range named k = named
  excludes text script_text limits old new s script error.Write h spelled in_range named k = named

  pub once : ((text : List ℕ) (e f : ReadError) → IsRefusal text e → IsRefusal text f → e ≡ f) → LeastIsOnly
      → ((text : List ℕ) (e f : ScriptError) → IsScriptRefusal text e → IsScriptRefusal text f → e ≡ f) → OneNamedRefusal
  once one least one_script text script_text limits old new other_old other_new (error.Read e) (error.Read f) n m h k = ap error.Read (one text e f h.0 k.0)
  once one least one_script text script_text limits old new other_old other_new (error.Read e) (error.Check f) n m h k = absurd (no_tree text k.0.0 e k.0.1 h.0)
  once one least one_script text script_text limits old new other_old other_new (error.Read e) (error.Script f) n m h k = absurd (no_tree text k.0 e k.1.spelled h.0)
  once one least one_script text script_text limits old new other_old other_new (error.Read e) error.Limits n m h k = absurd (no_tree text k.0 e k.1.spelled h.0)
  once one least one_script text script_text limits old new other_old other_new (error.Read e) error.Memory n m h k = absurd m
  once one least one_script text script_text limits old new other_old other_new (error.Read e) error.Write n m h k = absurd m
  once one least one_script text script_text limits old new other_old other_new (error.Check e) (error.Read f) n m h k = absurd (no_tree text h.0.0 f h.0.1 k.0)
  once one least one_script text script_text limits old new other_old other_new (error.Check e) (error.Check f) n m h k = ap error.Check (one_fault least text e f h.0 k.0)
  once one least one_script text script_text limits old new other_old other_new (error.Check e) (error.Script f) n m h k = absurd (faulty_or_known text e k.0 h.0 k.1)
  once one least one_script text script_text limits old new other_old other_new (error.Check e) error.Limits n m h k = absurd (faulty_or_known text e k.0 h.0 k.1)
  once one least one_script text script_text limits old new other_old other_new (error.Check e) error.Memory n m h k = absurd m
  once one least one_script text script_text limits old new other_old other_new (error.Check e) error.Write n m h k = absurd m
  once one least one_script text script_text limits old new other_old other_new (error.Script e) (error.Read f) n m h k = absurd (no_tree text h.0 f h.1.spelled k.0)
  once one least one_script text script_text limits old new other_old other_new (error.Script e) (error.Check f) n m h k = absurd (faulty_or_known text f h.0 k.0 h.1)
  once one least one_script text script_text limits old new other_old other_new (error.Script e) (error.Script f) n m h k = ap error.Script (one_script script_text e f h.2 k.2)
  once one least one_script text script_text limits old new other_old other_new (error.Script e) error.Limits n m h k = absurd (no_script script_text k.2 e k.3 h.2)
  once one least one_script text script_text limits old new other_old other_new (error.Script e) error.Memory n m h k = absurd m
  once one least one_script text script_text limits old new other_old other_new (error.Script e) error.Write n m h k = absurd m
  once one least one_script text script_text limits old new other_old other_new error.Limits (error.Read f) n m h k = absurd (no_tree text h.0 f h.1.spelled k.0)
  once one least one_script text script_text limits old new other_old other_new error.Limits (error.Check f) n m h k = absurd (faulty_or_known text f h.0 k.0 h.1)
  once one least one_script text script_text limits old new other_old other_new error.Limits (error.Script f) n m h k = absurd (no_script script_text h.2 f h.3 k.2)
  once one least one_script text script_text limits old new other_old other_new error.Limits error.Limits n m h k = refl
  once one least one_script text script_text limits old new other_old other_new error.Limits error.Memory n m h k = absurd m
  once one least one_script text script_text limits old new other_old other_new error.Limits error.Write n m h k = absurd m
  once one least one_script text script_text limits old new other_old other_new error.Memory f n m h k = absurd n
  once one least one_script text script_text limits old new other_old other_new error.Write f n m h k = absurd n
