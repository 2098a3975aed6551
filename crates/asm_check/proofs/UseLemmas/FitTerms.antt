-- Free. The faults of a term as the body of a derived function, and a term without faults.
use Rattle.std.proofs.Common.{◌≡◌, [], refl, inl, inr}
use Rattle.std.specs.Prelude.{Contains}
use Rattle.asm_state.proofs.Lists.{Contains-flat_map}
use Rattle.asm_syntax.specs.SourceTree as source
use Rattle.asm_syntax.specs.SourceTree.{Name, Term, Spec}
use Rattle.asm_check.specs.Faults.{is_known_use, unknown, arity, result_use, outside}
use Rattle.asm_check.specs.Laws.{TermFaultsAreFaults, TermsAreFit}
use Rattle.asm_check.specs.Names.{Role, AsTarget, AsRule, Use, uses, uses_of}
use Rattle.asm_check.specs.TermFaults as term
use Rattle.asm_check.specs.TermFaults.{uses_in, IsWellFormedTerm}
use Rattle.asm_check.proofs.UseLemmas.FaultlessUses.{IsGood}
use Rattle.asm_check.proofs.UseLemmas.Fit.{not_false, same_number, fit_term}
use Rattle.asm_check.proofs.UseLemmas.TermFaults.{IsInTerm, role_in_term}

in_body : (spec : Spec) (x : Name) (t : Term) → Contains spec.items (source.Derived x [] t) → (u : Use) → Contains (uses_in t) u → Contains (uses spec) u
unfolding uses
in_body spec x t item u c = Contains-flat_map uses_of spec.items (source.Derived x [] t) u item c

pub term_faults_are_faults : TermFaultsAreFaults
term_faults_are_faults spec x t item at number (term.unknown u stands no' offset) =
    unknown (record { use_of = u; stands = in_body spec x t item u stands; unknown = no'; offset = offset })
term_faults_are_faults spec x t item at number (term.arity u stands count has differs offset) =
    arity (record { use_of = u; stands = in_body spec x t item u stands; count = count; has = has; differs = differs; offset = offset })
term_faults_are_faults spec x t item at number (term.result_use u stands role free offset) =
    result_use (outside u (in_body spec x t item u stands) role free offset)

no_target : (r : Role) → IsInTerm r → r ≡ AsTarget → ⊥
no_target r (inl e) f = cc
no_target r (inr (inl e)) f = cc
no_target r (inr (inr e)) f = cc

no_call : (r : Role) → IsInTerm r → r ≡ AsRule → ⊥
no_call r (inl e) f = cc
no_call r (inr (inl e)) f = cc
no_call r (inr (inr e)) f = cc

good_use : (spec : Spec) (t : Term) → IsWellFormedTerm spec t → (u : Use) → Contains (uses_in t) u → IsGood spec u.role u.name u.count u.is_bound
good_use spec t good u c = record {
  known = not_false (is_known_use spec u) (λ no'. good u.name.at 9 (term.unknown u c no' refl));
  counted = λ n has. same_number u.count n (λ differs. good u.name.at 10 (term.arity u c n has differs refl));
  assignable = λ target. absurd (no_target u.role (role_in_term t u c) target);
  plain = λ call. absurd (no_call u.role (role_in_term t u c) call);
  inside = λ role. not_false u.is_bound (λ free. good u.name.at 17 (term.result_use u c role free refl));
}

pub terms_are_fit : TermsAreFit
terms_are_fit spec t good = fit_term spec t [] (good_use spec t good)
