-- Free. The faults of limits, one declaration after another.
use Rattle.std.proofs.Common.{◌≡◌, ℕ, ◌+◌, ◌≤◌, Bool, List, [], ◌∷◌, ◌++◌, cond, length, take, drop, Option, sym, ap, ◌∙◌}
use Rattle.std.proofs.lemmas.List.{drop_all}
use Rattle.asm_syntax.specs.SourceTree.{Spec}
use Rattle.asm_check.specs.declared.names.declared_as.Declaration.{Declaration as CodeDeclaration}
use Rattle.asm_check.specs.code.FaultLists.{limit_faults, limit_faults_from, passes_limit}
use Rattle.asm_check.specs.Names.{Declaration, declares, first_declarations}
use Rattle.asm_check.specs.code.LeastFaults.{least_after}
use Rattle.asm_check.specs.code.names.Tables.{declared_as_view}
use Rattle.asm_check.proofs.LeastSoFar.{noted_append}
use Rattle.asm_check.proofs.NameLemmas.TableSteps.{Stands}

-- what is found once the rest is looked through
abbrev pub found_after : Spec → List Declaration → (i : ℕ) → (found : Option (ℕ × ℕ)) → Option (ℕ × ℕ)
found_after spec ds i found = least_after found (limit_faults_from spec (take i ds) (drop i ds))

pub one_limit : (spec : Spec) (ds : List Declaration) (i : ℕ) (r : CodeDeclaration) (s : Stands ds i r) (b : Bool) (found found' : Option (ℕ × ℕ))
    → b ≡ passes_limit spec (take i ds) (declares s.name (declared_as_view r.meaning)) → found' ≡ least_after found (cond b ((r.at, 15) ∷ []) [])
    → found_after spec ds (i + 1) found' ≡ found_after spec ds i found
one_limit spec ds i r s b found found' e h =
    let d = declares s.name (declared_as_view r.meaning) in
    let rest : List (ℕ × ℕ) = limit_faults_from spec (take i ds ++ d ∷ []) (drop (i + 1) ds) in
    let these : cond b ((r.at, 15) ∷ []) [] ≡ cond (passes_limit spec (take i ds) d) ((s.name.at, 15) ∷ []) [] =
    ap (λ c. cond c ((r.at, 15) ∷ []) []) e ∙ ap (λ (at : ℕ). cond (passes_limit spec (take i ds) d) ((at, 15) ∷ []) []) (sym s.at) in
    ap (λ before. least_after found' (limit_faults_from spec before (drop (i + 1) ds))) s.front
    ∙ (ap (λ f. least_after f rest) (h ∙ ap (least_after found) these)
    ∙ (sym (noted_append found (cond (passes_limit spec (take i ds) d) ((s.name.at, 15) ∷ []) []) rest)
    ∙ ap (λ ds'. least_after found (limit_faults_from spec (take i ds) ds')) (sym s.rest)))

pub all_limits : (spec : Spec) (ds : List Declaration) (i : ℕ) (first found : Option (ℕ × ℕ)) → ds ≡ first_declarations spec → length ds ≤ i
    → found_after spec ds i found ≡ found_after spec ds 0 first → found ≡ least_after first (limit_faults spec)
unfolding limit_faults
all_limits spec ds i first found table all h =
    ap (λ ds'. least_after found (limit_faults_from spec (take i ds) ds')) (sym (drop_all i ds all)) ∙ (h ∙ ap (λ ds'. least_after first (limit_faults_from spec [] ds')) table)
