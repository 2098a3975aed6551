-- Free. Rules of the code with their codes, one lemma for each form of rule: what the code of a
-- rule stands for, by the codes of its parts, and that its parts have fewer rules than it.
use Rattle.std.proofs.Common.{◌≡◌, ℕ, ◌+◌, ◌≤◌, ◌<◌, Bool, false, List, [], ◌∷◌, length, map, take, get_or, Option, Some, None, is_some, Result, IfOk, Box, Vec, Global, refl, sym, ap, subst, ◌∙◌, arith, zero, suc}
use Rattle.std.specs.Prelude.{option_map, min}
use Rattle.std.proofs.lemmas.List.{length-map, length-take-le, take-map}
use Rattle.asm_state.specs.declared.value.Value.{Value}
use Rattle.asm_state.specs.declared.value.Value.TheVariants.{Truth}
use Rattle.asm_syntax.specs.SourceTree.{Spec}
use Rattle.asm_syntax.specs.Tree as tree
use Rattle.asm_syntax.specs.Tree.{Name}
use Rattle.asm_syntax.specs.code.Views.{name_of, spec_of}
use Rattle.asm_syntax.specs.declared.name.Name.{Name as NameHere}
use Rattle.asm_syntax.specs.declared.rule.Rule.{Rule}
use Rattle.asm_syntax.specs.declared.rule.Rule.TheVariants as rule
use Rattle.asm_syntax.specs.declared.rule.Target.{Target}
use Rattle.asm_syntax.specs.declared.term.Term.{Term}
use Rattle.asm_check.specs.Faults.{IsWellFormed}
use Rattle.std.specs.declared.alloc.AllocError.{AllocError}
use Rattle.std.specs.Arc.{arc_value}
use Rattle.asm_check.specs.Names as names_in_check
use Rattle.asm_check.specs.Numbers.{named, rules_of, declared_with_number}
use Rattle.asm_check.specs.declared.checked.NameNumber.{NameNumber}
use Rattle.asm_check.specs.declared.checked.NameNumber.TheVariants as number
use Rattle.asm_syntax.specs.code.Views as syntax
use Rattle.asm_check.specs.Shapes.{shape_of}
use Rattle.asm_check.specs.declared.checked.Checked.{Checked}
use Rattle.asm_meaning.specs.Declarations.{numbered, program_of, rule_number, universe_number}
use Rattle.asm_meaning.specs.code.MeantTrees.{text_of}
use Rattle.asm_meaning.specs.Program.{Declared, NamedRule, Environment, with_term, bind_terms}
use Rattle.asm_meaning.proofs.MeantDeclarations.{program_declares}
use Rattle.asm_meaning.proofs.NumberedValues.{numbered_names-rule as numbered_rule}
use Rattle.asm_resolve.specs.code.RuleScopes.{IsRuleBody, resolved_target_in}
use Rattle.asm_resolve.proofs.ResolvedLists.{AllResolved}
use Rattle.asm_meaning.specs.code.MeantTrees.{meant, meant_branch, meant_rules, meant_target, meant_term, meant_terms}
use Rattle.asm_meaning.specs.Value.{universe}
use Rattle.asm_meaning.specs.code.TermValues.{condition}
use Rattle.asm_meaning.specs.code.TreeWeights.{in_body, rules_in, rules_in_all}
use Rattle.asm_code.specs.code.CodeTree as term_tree
use Rattle.asm_code.specs.code.CodeViews.{code_of, codes_of}
use Rattle.asm_code.specs.code.RuleTree as codes
use Rattle.asm_code.specs.code.RuleViews.{target_code_of, rule_of, rules_of as rule_codes_of}
use Rattle.asm_code.specs.declared.code.Code.{Code}
use Rattle.asm_code.specs.declared.code.Code.TheVariants as term_code
use Rattle.asm_code.specs.declared.rule_code.TargetCode.{TargetCode}
use Rattle.asm_code.specs.declared.rule_code.RuleCode.{RuleCode}
use Rattle.asm_code.specs.declared.rule_code.RuleCode.TheVariants as code
use Rattle.asm_code.proofs.CodeForms.{code_laws-constant_form as constant_form}
use Rattle.asm_code.proofs.RuleForms.{rule_laws-skip_form as skip_form, rule_laws-par_form as par_form, rule_laws-seq_form as seq_form, rule_laws-if_form as if_form, rule_laws-let_form as let_form, rule_laws-forall_form as forall_form, rule_laws-choose_form as choose_form, rule_laws-iterate_form as iterate_form, rule_laws-call_form as call_form}
use Rattle.asm_resolve.specs.code.ResolvedTerms.{IsResolved}
use Rattle.asm_resolve.specs.code.Slots.{Slot, value_slot, names_in, called_slots}
use Rattle.asm_resolve.specs.code.ResolvedRules.{IsResolvedRule, IsResolvedTest}
use Rattle.asm_resolve.proofs.RuleResolving.{AllRulesResolved, how_many, as_resolved_rule, call_resolved, no_rule_resolved, skip_resolved, if_resolved, let_resolved, par_resolved, seq_resolved, iterate_resolved, forall_resolved, choose_resolved, forall_of_none, choose_of_none, plain_skip, plain_par, plain_seq, plain_let, plain_iterate, plain_while, plain_forall, plain_call, plain_if, plain_choose}

module _ (spec : Spec) (good : IsWellFormed spec) where
  abbrev Stands : List Slot → tree.Rule → RuleCode → Type 0
  Stands slots P c = IsResolvedRule (program_of spec) (shape_of spec) slots P (rule_of c)

  abbrev Valued : List Slot → Term → Code → Type 0
  Valued slots t c = IsResolved (program_of spec) (shape_of spec) (names_in slots) (meant_term t) (code_of c)

  abbrev Tested : List Slot → Option Term → Option Code → Type 0
  Tested slots t c = IsResolvedTest (program_of spec) (shape_of spec) slots (condition t) (option_map code_of c)

  -- the same of an equal rule
  pub moved : (slots : List Slot) (r : Result RuleCode AllocError) (P Q : tree.Rule) → Q ≡ P → IfOk r (Stands slots P) → IfOk r (Stands slots Q)
  moved slots r P Q is it = subst (λ P. IfOk r (Stands slots P)) (sym is) it

  by_forms : (slots : List Slot) (P P' : tree.Rule) (c : RuleCode) (d : codes.RuleCode) → P' ≡ P → rule_of c ≡ d → IsResolvedRule (program_of spec) (shape_of spec) slots P d → Stands slots P' c
  by_forms slots P P' c d is form it = as_resolved_rule (program_of spec) (shape_of spec) slots P P' d (rule_of c) is form it

  -- a branch that is left out
  pub left_out_here : (slots : List Slot) (Q : Option (Box Rule Global)) → Q ≡ None → Stands slots (meant_branch Q) code.Skip
  left_out_here slots Q is = by_forms slots _ _ code.Skip _ (ap meant_branch is) (skip_form code.Skip refl) (skip_resolved spec good slots)

  module _ (slots : List Slot) (R : Rule) where
    pub skip_here : R ≡ rule.Skip → Stands slots (meant R) code.Skip
    skip_here is = by_forms slots _ _ code.Skip _ (plain_skip R is) (skip_form code.Skip refl) (skip_resolved spec good slots)

    pub par_here : (Ps : Vec Rule Global) → R ≡ rule.Par Ps → (Qs : List Rule) → Qs ≡ Ps.items → (cs : Vec RuleCode Global) → AllRulesResolved (program_of spec) (shape_of spec) slots Qs cs.items
        → Stands slots (meant R) (code.Par cs)
    par_here Ps is Qs same cs are =
        by_forms slots _ _ (code.Par cs) _ (plain_par R Ps is ∙ ap (λ Ps. tree.Par (meant_rules Ps)) (sym same)) (par_form (code.Par cs) cs refl) (par_resolved spec good slots (meant_rules Qs) (rule_codes_of (map rule_of cs.items)) are)

    pub seq_here : (Ps : Vec Rule Global) → R ≡ rule.Seq Ps → (Qs : List Rule) → Qs ≡ Ps.items → (cs : Vec RuleCode Global) → AllRulesResolved (program_of spec) (shape_of spec) slots Qs cs.items
        → Stands slots (meant R) (code.Seq cs)
    seq_here Ps is Qs same cs are =
        by_forms slots _ _ (code.Seq cs) _ (plain_seq R Ps is ∙ ap (λ Ps. tree.Seq (meant_rules Ps)) (sym same)) (seq_form (code.Seq cs) cs refl) (seq_resolved spec good slots (meant_rules Qs) (rule_codes_of (map rule_of cs.items)) are)

    pub if_here : (t : Term) (P : Box Rule Global) (Q : Option (Box Rule Global)) → R ≡ rule.If t P Q → (S : Rule) → S ≡ P.value → (c : Code) → Valued slots t c → (B : Box RuleCode Global) → Stands slots (meant S) B.value
        → (d : RuleCode) → Stands slots (meant_branch Q) d → (D : Box RuleCode Global) → D.value ≡ d → Stands slots (meant R) (code.If c B D)
    if_here t P Q is S same c test B yes_ d no_ D put =
        by_forms slots _ _ (code.If c B D) _
        (plain_if R t P Q is ∙ ap (λ (P : Rule). tree.If (meant_term t) (meant P) (meant_branch Q)) (sym same))
        (if_form (code.If c B D) c B D refl ∙ ap (λ k. codes.If (code_of c) (rule_of B.value) (rule_of k)) put)
        (if_resolved spec good slots (meant_term t) (code_of c) test (meant S) (meant_branch Q) (rule_of B.value) (rule_of d) yes_ no_)

    pub let_here : (x : NameHere) (t : Term) (P : Box Rule Global) → R ≡ rule.Let x t P → (S : Rule) → S ≡ P.value → (c : Code) → Valued slots t c → (inner : List Slot) → inner ≡ value_slot x.text ∷ slots
        → (B : Box RuleCode Global) → Stands inner (meant S) B.value → Stands slots (meant R) (code.Let c B)
    let_here x t P is S same c term inner within B body =
        by_forms slots _ _ (code.Let c B) _
        (plain_let R x t P is ∙ ap (λ (P : Rule). tree.Let x.text (meant_term t) (meant P)) (sym same))
        (let_form (code.Let c B) c B refl)
        (let_resolved spec good slots x.text (meant_term t) (code_of c) term (meant S) (rule_of B.value) (subst (λ ss. Stands ss (meant S) B.value) within body))

    pub iterate_here : (P : Box Rule Global) → R ≡ rule.Iterate P → (S : Rule) → S ≡ P.value → (B : Box RuleCode Global) → Stands slots (meant S) B.value → Stands slots (meant R) (code.Iterate B)
    iterate_here P is S same B body =
        by_forms slots _ _ (code.Iterate B) _ (plain_iterate R P is ∙ ap (λ (P : Rule). tree.Iterate (meant P)) (sym same)) (iterate_form (code.Iterate B) B refl)
        (iterate_resolved spec good slots (meant S) (rule_of B.value) body)

  -- rules over the values of a universe, by their parts
  module _ (slots : List Slot) (x u : Name) (t : Option Term) (S : Rule) where
    pub forall_here : (n : ℕ) → universe_number (named spec u) ≡ Some n → n < length (shape_of spec).universes → (inner : List Slot) → inner ≡ value_slot x ∷ slots
        → (c : Option Code) → Tested inner t c → (B : Box RuleCode Global) → Stands inner (meant S) B.value → Stands slots (tree.Forall x u (condition t) (meant S)) (code.Forall n c B)
    forall_here n number low inner within c test B body =
        by_forms slots _ _ (code.Forall n c B) _ refl (forall_form (code.Forall n c B) n c B refl)
        (forall_resolved spec good slots x u n number low (condition t) (option_map code_of c) (subst (λ ss. Tested ss t c) within test) (meant S) (rule_of B.value) (subst (λ ss. Stands ss (meant S) B.value) within body))

    pub forall_none_here : universe (program_of spec) u ≡ [] → Stands slots (tree.Forall x u (condition t) (meant S)) code.Skip
    forall_none_here none = by_forms slots _ _ code.Skip _ refl (skip_form code.Skip refl) (forall_of_none spec good slots x u (condition t) (meant S) none)

    module _ (Q : Option (Box Rule Global)) (d : RuleCode) (other : Stands slots (meant_branch Q) d) (D : Box RuleCode Global) (put : D.value ≡ d) where
      pub choose_here : (n : ℕ) → universe_number (named spec u) ≡ Some n → n < length (shape_of spec).universes → (inner : List Slot) → inner ≡ value_slot x ∷ slots
          → (c : Option Code) → Tested inner t c → (B : Box RuleCode Global) → Stands inner (meant S) B.value → Stands slots (tree.Choose x u (condition t) (meant S) (meant_branch Q)) (code.Choose n c B D)
      choose_here n number low inner within c test B body =
          by_forms slots _ _ (code.Choose n c B D) _ refl
          (choose_form (code.Choose n c B D) n c B D refl ∙ ap (λ k. codes.Choose n (option_map code_of c) (rule_of B.value) (rule_of k)) put)
          (choose_resolved spec good slots x u n number low (condition t) (option_map code_of c) (subst (λ ss. Tested ss t c) within test) (meant S) (meant_branch Q) (rule_of B.value) (rule_of d)
          (subst (λ ss. Stands ss (meant S) B.value) within body) other)

      pub choose_none_here : universe (program_of spec) u ≡ [] → (Y : Box RuleCode Global) → Y.value ≡ code.Skip → (w : Value) → w ≡ Truth false
          → Stands slots (tree.Choose x u (condition t) (meant S) (meant_branch Q)) (code.If (term_code.Constant w) Y D)
      choose_none_here none Y skips w never =
          let c = term_code.Constant w in
          by_forms slots _ _ (code.If c Y D) _ refl
          (if_form (code.If c Y D) c Y D refl
          ∙ (λ i. codes.If ((constant_form c w refl ∙ ap term_tree.Constant never) i) ((ap rule_of skips ∙ skip_form code.Skip refl) i) (rule_of (put i))))
          (choose_of_none spec good slots x u (condition t) (meant S) (meant_branch Q) (rule_of d) none other)

  -- turns under a condition
  pub while_here : (slots : List Slot) (t : Term) (S : Rule) (c : Code) → Valued slots t c → (B : Box RuleCode Global) → Stands slots (meant S) B.value
      → (Y D : Box RuleCode Global) → Y.value ≡ code.Skip → D.value ≡ code.If c B Y → Stands slots (tree.Iterate (tree.If (meant_term t) (meant S) tree.Skip)) (code.Iterate D)
  while_here slots t S c test B body Y D skips put =
      by_forms slots _ _ (code.Iterate D) _ refl
      (iterate_form (code.Iterate D) D refl ∙ ap codes.Iterate (ap rule_of put ∙ if_form (code.If c B Y) c B Y refl ∙ ap (λ k. codes.If (code_of c) (rule_of B.value) k) (ap rule_of skips ∙ skip_form code.Skip refl)))
      (iterate_resolved spec good slots (tree.If (meant_term t) (meant S) tree.Skip) (codes.If (code_of c) (rule_of B.value) codes.Skip)
      (if_resolved spec good slots (meant_term t) (code_of c) test (meant S) tree.Skip (rule_of B.value) codes.Skip body (skip_resolved spec good slots)))

-- ---- that the pass ends

module _ (checked : Checked) (R : Rule) where
  abbrev w : tree.Rule → ℕ
  w = rules_in (in_body checked)

  of_value : (S : Rule) (P : Box Rule Global) → S ≡ P.value → w (meant S) ≡ w (meant P.value)
  of_value S P same = ap (λ (S : Rule). w (meant S)) same

  pub if_yes_falls : (t : Term) (P : Box Rule Global) (Q : Option (Box Rule Global)) → R ≡ rule.If t P Q → (S : Rule) → S ≡ P.value → w (meant S) < w (meant R)
  if_yes_falls t P Q is S same = let whole = ap w (plain_if R t P Q is) in let part = of_value S P same in omega (arith, whole, part)

  pub if_no_falls : (t : Term) (P : Box Rule Global) (Q : Option (Box Rule Global)) → R ≡ rule.If t P Q → w (meant_branch Q) < w (meant R)
  if_no_falls t P Q is = let whole = ap w (plain_if R t P Q is) in omega (arith, whole)

  pub let_falls : (x : NameHere) (t : Term) (P : Box Rule Global) → R ≡ rule.Let x t P → (S : Rule) → S ≡ P.value → w (meant S) < w (meant R)
  let_falls x t P is S same = let whole = ap w (plain_let R x t P is) in let part = of_value S P same in omega (arith, whole, part)

  pub forall_falls : (x u : NameHere) (t : Option Term) (P : Box Rule Global) → R ≡ rule.Forall x u t P → (S : Rule) → S ≡ P.value → w (meant S) < w (meant R)
  forall_falls x u t P is S same = let whole = ap w (plain_forall R x u t P is) in let part = of_value S P same in omega (arith, whole, part)

  pub choose_both_fall : (x u : NameHere) (t : Option Term) (P : Box Rule Global) (Q : Option (Box Rule Global)) → R ≡ rule.Choose x u t P Q → (S : Rule) → S ≡ P.value → w (meant S) + w (meant_branch Q) < w (meant R)
  choose_both_fall x u t P Q is S same = let whole = ap w (plain_choose R x u t P Q is) in let part = of_value S P same in omega (arith, whole, part)

  pub iterate_falls : (P : Box Rule Global) → R ≡ rule.Iterate P → (S : Rule) → S ≡ P.value → w (meant S) < w (meant R)
  iterate_falls P is S same = let whole = ap w (plain_iterate R P is) in let part = of_value S P same in omega (arith, whole, part)

  pub while_falls : (t : Term) (P : Box Rule Global) → R ≡ rule.While t P → (S : Rule) → S ≡ P.value → w (meant S) < w (meant R)
  while_falls t P is S same = let whole = ap w (plain_while R t P is) in let part = of_value S P same in omega (arith, whole, part)

  pub par_falls : (Ps : Vec Rule Global) → R ≡ rule.Par Ps → (Qs : List Rule) → Qs ≡ Ps.items → rules_in_all (in_body checked) (meant_rules Qs) < w (meant R)
  par_falls Ps is Qs same = let whole = ap w (plain_par R Ps is) in let part = ap (λ Qs. rules_in_all (in_body checked) (meant_rules Qs)) same in omega (arith, whole, part)

  pub seq_falls : (Ps : Vec Rule Global) → R ≡ rule.Seq Ps → (Qs : List Rule) → Qs ≡ Ps.items → rules_in_all (in_body checked) (meant_rules Qs) < w (meant R)
  seq_falls Ps is Qs same = let whole = ap w (plain_seq R Ps is) in let part = ap (λ Qs. rules_in_all (in_body checked) (meant_rules Qs)) same in omega (arith, whole, part)

  pub call_falls : (to : Option Target) (f : NameHere) (ts : Vec Term Global) → R ≡ rule.Call to f ts → (us : List Term) → us ≡ ts.items
      → w (tree.Call (meant_target to) f.text (meant_terms us)) ≡ w (meant R)
  call_falls to f ts is us same = ap (λ us. w (tree.Call (meant_target to) f.text (meant_terms us))) same ∙ sym (ap w (plain_call R to f ts is))

pub other_falls : (checked : Checked) (Q : Option (Box Rule Global)) (P : Box Rule Global) → Q ≡ Some P → (S : Rule) → S ≡ P.value → rules_in (in_body checked) (meant S) ≡ rules_in (in_body checked) (meant_branch Q)
other_falls checked Q P is S same = ap (λ (S : Rule). rules_in (in_body checked) (meant S)) same ∙ sym (ap (λ Q. rules_in (in_body checked) (meant_branch Q)) is)

pub part_falls : (checked : Checked) (Ps : List Rule) (i : ℕ) (P : Rule) → i < length Ps → P ≡ get_or Ps i P → rules_in (in_body checked) (meant P) ≤ rules_in_all (in_body checked) (meant_rules Ps)
part_falls checked [] i P below is = absurd (omega (arith, below))
part_falls checked (Q ∷ Ps) zero P below is = let same = ap (λ (k : Rule). rules_in (in_body checked) (meant k)) is in omega (arith, same)
part_falls checked (Q ∷ Ps) (suc i) P below is = let rest = part_falls checked Ps i P (omega (arith, below)) is in omega (arith, rest)

-- ---- calls

counted : (spec : Spec) (good : IsWellFormed spec) (ts : List Term) → how_many spec good (meant_terms ts) ≡ length ts
counted spec good [] = refl
counted spec good (t ∷ ts) = ap suc (counted spec good ts)

same_parameters : (xs ys : List Name) (P Q : tree.Rule) → ◌≡◌ {A = Option Declared} (Some (NamedRule xs P)) (Some (NamedRule ys Q)) → xs ≡ ys
same_parameters xs ys P Q e = cc

-- terms behind as many as there are parameters are bound to none
bind_first : (spec : Spec) (good : IsWellFormed spec) (xs : List Name) (ts : List Term) (n : ℕ) (caller : Environment) → n ≡ min (length xs) (length ts)
    → bind_terms xs (meant_terms (take n ts)) caller ≡ bind_terms xs (meant_terms ts) caller
bind_first spec good [] ts n caller is = refl
bind_first spec good (x ∷ xs) [] zero caller is = refl
bind_first spec good (x ∷ xs) [] (suc n) caller is = absurd (omega (arith, is))
bind_first spec good (x ∷ xs) (t ∷ ts) zero caller is = absurd (omega (arith, is))
bind_first spec good (x ∷ xs) (t ∷ ts) (suc n) caller is = ap (with_term x (meant_term t) caller) (bind_first spec good xs ts n caller (omega (arith, is)))

-- a number that is a rule's
pub rule_is : (it : Option NameNumber) (r : ℕ) → rule_number it ≡ Some r → it ≡ Some (number.Rule r)
rule_is (Some (number.Rule s)) r e = let same : s ≡ r = cc in ap (λ k. Some (number.Rule k)) same
rule_is (Some (number.Universe n)) r e = cc
rule_is (Some (number.Element n)) r e = cc
rule_is (Some (number.Function n)) r e = cc
rule_is (Some (number.Derived n)) r e = cc
rule_is None r e = cc

module _ (spec : Spec) (good : IsWellFormed spec) (slots : List Slot) where
  -- a call of the rule with a number, whose body's code is known, and of as many of its terms as
  -- there are parameters
  pub called_here : (target : Option (Name × tree.Terms)) (f : Name) (r n : ℕ) (to : Option TargetCode) → rule_number (named spec f) ≡ Some r → (body : _) → IsRuleBody spec r (is_some to) n (rule_of (arc_value body))
      → resolved_target_in spec slots target (option_map target_code_of to) → (ts passed : List Term) → passed ≡ take n ts → (cs : Vec Code Global) → AllResolved (program_of spec) (shape_of spec) (names_in slots) passed cs.items
      → (xs : List NameHere) (R : Rule) → declared_with_number (rules_of spec) r ≡ Some (names_in_check.NamedRule (map name_of xs) (syntax.rule_of R)) → n ≡ min (length xs) (length ts)
      → IsResolvedRule (program_of spec) (shape_of spec) slots (tree.Call target f (meant_terms ts)) (rule_of (code.Call body to cs))
  called_here target f r n to is body known answer ts passed first cs are xs R says many =
      let here = numbered_rule spec (Some (number.Rule r)) r xs R refl says in
      let same = same_parameters known.parameters (map text_of xs) known.body (meant R) (sym known.stands ∙ here) in
      let long : length known.parameters ≡ length xs = ap length same ∙ length-map xs text_of in
      let count : how_many spec good (meant_terms passed) ≡ n = counted spec good passed ∙ ap length first ∙ length-take-le n ts (omega (arith, many)) in
      let bound : take n known.parameters ≡ take (how_many spec good (meant_terms passed)) known.parameters = ap (λ k. take k known.parameters) (sym count) in
      as_resolved_rule (program_of spec) (shape_of spec) slots _ _ _ _ refl (call_form (code.Call body to cs) body to cs refl)
      (call_resolved spec good slots target (option_map target_code_of to) answer f (meant_terms ts) (meant_terms passed) (codes_of (map code_of cs.items)) are known.parameters known.body
      (program_declares spec f ∙ ap (numbered spec) (rule_is (named spec f) r is) ∙ known.stands)
      (omega (arith, count, many, long))
      (λ caller. ap (λ us. bind_terms known.parameters (meant_terms us) caller) first ∙ bind_first spec good known.parameters ts n caller (many ∙ ap (λ k. min k (length ts)) (sym long)))
      (rule_of (arc_value body))
      (subst (λ ss. IsResolvedRule (program_of spec) (shape_of spec) ss known.body (rule_of (arc_value body))) (λ i. called_slots (mapped to i) (bound i)) known.resolved))
    where
      mapped : (to : Option TargetCode) → is_some to ≡ is_some (option_map target_code_of to)
      mapped None = refl
      mapped (Some to) = refl

  -- a call of no rule
  pub not_called_here : (target : Option (Name × tree.Terms)) (f : Name) (ts : List Term) → rule_number (named spec f) ≡ None → IsResolvedRule (program_of spec) (shape_of spec) slots (tree.Call target f (meant_terms ts)) (rule_of code.Skip)
  not_called_here target f ts none =
      as_resolved_rule (program_of spec) (shape_of spec) slots _ _ _ _ refl (skip_form code.Skip refl) (no_rule_resolved spec good slots target f (meant_terms ts) none)

-- the body of the rule with a number, for a call that binds n parameters
pub body_here : (spec : Spec) (r n : ℕ) (answers : Bool) (xs : List NameHere) (R : Rule) → declared_with_number (rules_of spec) r ≡ Some (names_in_check.NamedRule (map name_of xs) (syntax.rule_of R))
    → (names : List NameHere) → names ≡ take n xs → (scope : List Slot) → scope ≡ called_slots answers (map text_of names) → (c body : RuleCode) → body ≡ c
    → IsResolvedRule (program_of spec) (shape_of spec) scope (meant R) (rule_of c) → IsRuleBody spec r answers n (rule_of body)
body_here spec r n answers xs R says names first scope within c body is it = record {
  parameters = map text_of xs;
  body = meant R;
  stands = numbered_rule spec (Some (number.Rule r)) r xs R refl says;
  resolved = subst (λ ss. IsResolvedRule (program_of spec) (shape_of spec) ss (meant R) (rule_of body)) (within ∙ ap (called_slots answers) (ap (map text_of) first ∙ sym (take-map text_of n xs)))
      (subst (λ k. IsResolvedRule (program_of spec) (shape_of spec) scope (meant R) (rule_of k)) (sym is) it);
}
