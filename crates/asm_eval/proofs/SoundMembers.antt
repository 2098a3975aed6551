-- Free. The members of sound codes, of a sound chain, and of a sound `par` and `seq`: they are
-- sound, and smaller than the whole.
use Rattle.std.proofs.Common.{◌≡◌, ℕ, ◌+◌, ◌<◌, List, length, map, get_or, ap, subst, sym, ◌∙◌, arith, Box, Vec, Global}
use Rattle.std.specs.Arc.{arc_value}
use Rattle.std.specs.declared.sync.Arc.{Arc}
use Rattle.asm_state.specs.declared.operation.Op.{Op}
use Rattle.asm_state.specs.Signature.{Shape}
use Rattle.asm_code.specs.code.CodeViews.{code_of, codes_of, link_of, links_of}
use Rattle.asm_code.specs.code.RuleMeaning.{AreSoundRules, IsSoundRule, rule_size, rule_sizes}
use Rattle.asm_code.specs.code.RuleViews.{rule_of, rules_of}
use Rattle.asm_code.specs.code.Sizes.{size, sizes, link_sizes}
use Rattle.asm_code.specs.code.SoundCodes.{AreSound, AreSoundLinks, IsSound}
use Rattle.asm_code.specs.declared.code.Code.{Code}
use Rattle.asm_code.specs.declared.code.Code.TheVariants as code
use Rattle.asm_code.specs.declared.rule_code.RuleCode.{RuleCode}
use Rattle.asm_code.specs.declared.rule_code.RuleCode.TheVariants as rule
use Rattle.asm_code.proofs.CodeForms.{code_laws-chain_form as chain_form, code_laws-derived_form as derived_form, code_laws-held_form as held_form}
use Rattle.asm_code.proofs.RuleForms.{rule_laws-par_form as par_form, rule_laws-seq_form as seq_form}
use Rattle.asm_eval.proofs.Members.{sound_within, size_within, link_sound_within, link_size_within}
use Rattle.asm_eval.proofs.RuleYields.{sound_part, size_of_part}

module _ (shape : Shape) where
  pub member_laws-codes : (ts : List Code) (i : ℕ) (t : Code) → i < length ts → t ≡ get_or ts i t → AreSound shape (codes_of (map code_of ts)) → IsSound shape (code_of t)
  member_laws-codes = sound_within shape

  module _ (t : Code) (sound : IsSound shape (code_of t)) where
    pub member_laws-held : (f : ℕ) (ts : Vec Code Global) → t ≡ code.FunctionAt f ts → (us : List Code) → us ≡ ts.items
        → (i : ℕ) (u : Code) → i < length us → u ≡ get_or us i u → (size (code_of u) < size (code_of t)) × IsSound shape (code_of u)
    member_laws-held f ts is us same i u below at =
        let whole = held_form t f ts is in
        let all = subst (λ (us : List Code). AreSound shape (codes_of (map code_of us))) (sym same) (subst (IsSound shape) whole sound).2 in
        let within = size_within us i u below at in
        let size_is : size (code_of t) ≡ 1 + sizes (codes_of (map code_of us)) = ap size whole ∙ ap (λ (us : List Code). 1 + sizes (codes_of (map code_of us))) (sym same) in
        (omega (arith, within, size_is), sound_within shape us i u below at all)

    pub member_laws-derived : (body : Arc Code Global) (ts : Vec Code Global) → t ≡ code.Derived body ts → (us : List Code) → us ≡ ts.items
        → (i : ℕ) (u : Code) → i < length us → u ≡ get_or us i u → (size (code_of u) < size (code_of t)) × IsSound shape (code_of u)
    member_laws-derived body ts is us same i u below at =
        let whole = derived_form t body ts is in
        let all = subst (λ (us : List Code). AreSound shape (codes_of (map code_of us))) (sym same) (subst (IsSound shape) whole sound).1 in
        let within = size_within us i u below at in
        let size_is : size (code_of t) ≡ 1 + (size (code_of (arc_value body)) + sizes (codes_of (map code_of us))) =
        ap size whole ∙ ap (λ (us : List Code). 1 + (size (code_of (arc_value body)) + sizes (codes_of (map code_of us)))) (sym same) in
        (omega (arith, within, size_is), sound_within shape us i u below at all)

    pub member_laws-chain : (first : Box Code Global) (rest : Vec (Op × Code) Global) → t ≡ code.Chain first rest → (links : List (Op × Code)) → links ≡ rest.items
        → (i : ℕ) (l : Op × Code) → i < length links → l ≡ get_or links i l → (size (code_of l.1) < size (code_of t)) × IsSound shape (code_of l.1)
    member_laws-chain first rest is links same i l below at =
        let whole = chain_form t first rest is in
        let all = subst (λ (links : List (Op × Code)). AreSoundLinks shape (links_of (map link_of links))) (sym same) (subst (IsSound shape) whole sound).1 in
        let within = link_size_within links i l below at in
        let size_is : size (code_of t) ≡ 1 + (size (code_of first.value) + link_sizes (links_of (map link_of links))) =
        ap size whole ∙ ap (λ (links : List (Op × Code)). 1 + (size (code_of first.value) + link_sizes (links_of (map link_of links)))) (sym same) in
        (omega (arith, within, size_is), link_sound_within shape links i l below at all)

  module _ (P : RuleCode) (sound : IsSoundRule shape (rule_of P)) (Ps : Vec RuleCode Global) where
    part : AreSoundRules shape (rules_of (map rule_of Ps.items)) → rule_size (rule_of P) ≡ 1 + rule_sizes (rules_of (map rule_of Ps.items))
        → (Qs : List RuleCode) → Qs ≡ Ps.items → (i : ℕ) (Q : RuleCode) → i < length Qs → Q ≡ get_or Qs i Q → (rule_size (rule_of Q) < rule_size (rule_of P)) × IsSoundRule shape (rule_of Q)
    part sound size_is Qs same i Q below at =
        let within = size_of_part Qs i Q below at in
        let all = size_is ∙ ap (λ (Rs : List RuleCode). 1 + rule_sizes (rules_of (map rule_of Rs))) (sym same) in
        (omega (arith, within, all), sound_part shape Qs i Q below at (subst (λ (Rs : List RuleCode). AreSoundRules shape (rules_of (map rule_of Rs))) (sym same) sound))

    pub member_laws-par : P ≡ rule.Par Ps → (Qs : List RuleCode) → Qs ≡ Ps.items
        → (i : ℕ) (Q : RuleCode) → i < length Qs → Q ≡ get_or Qs i Q → (rule_size (rule_of Q) < rule_size (rule_of P)) × IsSoundRule shape (rule_of Q)
    member_laws-par is = part (subst (IsSoundRule shape) (par_form P Ps is) sound) (ap rule_size (par_form P Ps is))

    pub member_laws-seq : P ≡ rule.Seq Ps → (Qs : List RuleCode) → Qs ≡ Ps.items
        → (i : ℕ) (Q : RuleCode) → i < length Qs → Q ≡ get_or Qs i Q → (rule_size (rule_of Q) < rule_size (rule_of P)) × IsSoundRule shape (rule_of Q)
    member_laws-seq is = part (subst (IsSoundRule shape) (seq_form P Ps is) sound) (ap rule_size (seq_form P Ps is))
