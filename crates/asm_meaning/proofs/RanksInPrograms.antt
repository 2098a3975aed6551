-- Free. The ranks of a well-formed specification's derived functions and rules fall in its program
-- too.
use Rattle.std.proofs.Common.{◌≡◌, ℕ, ◌<◌, Bool, true, false, List, map, Option, Some, None, refl, sym, ap, subst, ◌∙◌, arith}
use Rattle.std.specs.Prelude.{option_map, slice_get}
use Rattle.asm_state.specs.declared.function.Function as state
use Rattle.asm_state.specs.declared.function.FunctionKind.{FunctionKind}
use Rattle.asm_state.specs.declared.function.FunctionKind.TheVariants as kind
use Rattle.asm_state.specs.declared.value.Value.{Value}
use Rattle.asm_state.specs.Signature.{Shape}
use Rattle.asm_state.specs.Universe.{element}
use Rattle.asm_syntax.specs.SourceTree as source
use Rattle.asm_syntax.specs.SourceTree.{Spec}
use Rattle.asm_syntax.specs.Tree.{Name, Term, Rule}
use Rattle.asm_syntax.specs.PlainTree.{plain_term, plain_rule}
use Rattle.asm_check.specs.Faults.{IsWellFormed}
use Rattle.asm_check.specs.Names as names
use Rattle.asm_check.specs.Names.{Meaning, text_of}
use Rattle.asm_check.specs.Numbers.{rules_of, number_in, named_as, named}
use Rattle.asm_check.specs.Ranks as source_ranks
use Rattle.asm_check.specs.Ranks.{derived_rank, rule_rank}
use Rattle.asm_check.specs.Shapes.{shape_of}
use Rattle.asm_check.specs.declared.checked.NameNumber.{NameNumber}
use Rattle.asm_check.specs.declared.checked.NameNumber.TheVariants as number
use Rattle.asm_check.proofs.CycleLemmas.Ranks.{ranks_exist}
use Rattle.asm_meaning.specs.Declarations.{program_of, held_as, function_at, body_of, numbered}
use Rattle.asm_meaning.specs.Program.{Declared, Universe, Enumerated, Derived, NamedRule, declared}
use Rattle.asm_meaning.specs.Ranks.{UsesBelow, IsUsable, AreDerivedRanked, IsCallable, CallsBelow, IsRanked}
use Rattle.asm_meaning.specs.Value.{nesting}
use Rattle.asm_meaning.proofs.CallsAndUses.{calls_weakened, uses_weakened}
use Rattle.asm_meaning.proofs.MeantDeclarations.{program_declares}
use Rattle.asm_check.specs.Laws.{NamesHaveNumbers, meaning_numbered}
use Rattle.asm_check.proofs.NumberLemmas.NamesNumbered.{names_have_numbers}

-- ---- bodies of the program are those of the specification

abbrev has_body : Declared → Bool
has_body (Derived xs t) = true
has_body (NamedRule xs P) = true
has_body it = false

-- a number that stands for a derived function or a rule leads to its declaration
module _ (it : Declared) (body : has_body it ≡ true) where
  never_held : (shape : Shape) (f : ℕ) (fn : state.Function) (k : FunctionKind) → ¬ (Some (held_as shape f fn k) ≡ Some it)
  never_held shape f fn kind.Controlled e = let same : held_as shape f fn kind.Controlled ≡ it = cc in let bad : false ≡ true = ap has_body same ∙ body in cc
  never_held shape f fn kind.Static e = let same : held_as shape f fn kind.Static ≡ it = cc in let bad : false ≡ true = ap has_body same ∙ body in cc

  never_function : (shape : Shape) (f : ℕ) (fn : Option state.Function) → ¬ (function_at shape f fn ≡ Some it)
  never_function shape f None e = cc
  never_function shape f (Some fn) e = never_held shape f fn fn.kind e

  never_universe : (u : Option (List Value)) → ¬ (option_map Universe u ≡ Some it)
  never_universe None e = cc
  never_universe (Some vs) e = let same : Universe vs ≡ it = cc in let bad : false ≡ true = ap has_body same ∙ body in cc

  body_number : (spec : Spec) (k : Option NameNumber) → numbered spec k ≡ Some it → (n : NameNumber) × (k ≡ Some n) × (body_of (meaning_numbered spec n) ≡ Some it)
  body_number spec None e = cc
  body_number spec (Some (number.Universe n)) e = absurd (never_universe (slice_get (shape_of spec).universes n) e)
  body_number spec (Some (number.Element n)) e = let same : Enumerated (element n) ≡ it = cc in let bad : false ≡ true = ap has_body same ∙ body in cc
  body_number spec (Some (number.Function f)) e = absurd (never_function (shape_of spec) f (slice_get (shape_of spec).functions f) e)
  body_number spec (Some (number.Derived d)) e = (number.Derived d, refl, e)
  body_number spec (Some (number.Rule r)) e = (number.Rule r, refl, e)

  body_of_program : NamesHaveNumbers → (spec : Spec) (x : Name) → declared (program_of spec) x ≡ Some it → body_of (names.declared spec x) ≡ Some it
  body_of_program law spec x e =
      let found = body_number spec (named spec x) (sym (program_declares spec x) ∙ e) in
      subst (λ m. body_of m ≡ Some it) ((law spec x).of_number found.0 found.1) found.2

-- a derived function's declaration, whose names and body have their paths
record IsDerived (xs : List Name) (t : Term) (m : Option Meaning) : Type 0 where
  parameters : List source.Name
  body : source.Term
  is_declared : m ≡ Some (names.Derived parameters body)
  same_parameters : map text_of parameters ≡ xs
  same_body : plain_term body ≡ t

derived_body : (xs : List Name) (t : Term) (m : Option Meaning) → body_of m ≡ Some (Derived xs t) → IsDerived xs t m
derived_body xs t None e = cc
derived_body xs t (Some names.Predeclared) e = cc
derived_body xs t (Some (names.Range first last)) e = cc
derived_body xs t (Some (names.Enumeration k)) e = cc
derived_body xs t (Some (names.Element k)) e = cc
derived_body xs t (Some (names.Controlled domain)) e = cc
derived_body xs t (Some (names.Static domain)) e = cc
derived_body xs t (Some (names.Derived ys s)) e = record { parameters = ys; body = s; is_declared = refl; same_parameters = cc; same_body = cc }
derived_body xs t (Some (names.NamedRule ys P)) e = cc

derived_of_program : (xs : List Name) (t : Term) → NamesHaveNumbers → (spec : Spec) (x : Name) → declared (program_of spec) x ≡ Some (Derived xs t) → IsDerived xs t (names.declared spec x)
derived_of_program xs t law spec x e = derived_body xs t (names.declared spec x) (body_of_program (Derived xs t) refl law spec x e)

-- likewise a rule's
record IsNamedRule (xs : List Name) (P : Rule) (m : Option Meaning) : Type 0 where
  parameters : List source.Name
  body : source.Rule
  is_declared : m ≡ Some (names.NamedRule parameters body)
  same_body : plain_rule body ≡ P

named_rule_body : (xs : List Name) (P : Rule) (m : Option Meaning) → body_of m ≡ Some (NamedRule xs P) → IsNamedRule xs P m
named_rule_body xs P None e = cc
named_rule_body xs P (Some names.Predeclared) e = cc
named_rule_body xs P (Some (names.Range first last)) e = cc
named_rule_body xs P (Some (names.Enumeration k)) e = cc
named_rule_body xs P (Some (names.Element k)) e = cc
named_rule_body xs P (Some (names.Controlled domain)) e = cc
named_rule_body xs P (Some (names.Static domain)) e = cc
named_rule_body xs P (Some (names.Derived ys s)) e = cc
named_rule_body xs P (Some (names.NamedRule ys Q)) e = record { parameters = ys; body = Q; is_declared = refl; same_body = cc }

named_rule_of_program : (xs : List Name) (P : Rule) → NamesHaveNumbers → (spec : Spec) (x : Name) → declared (program_of spec) x ≡ Some (NamedRule xs P) → IsNamedRule xs P (names.declared spec x)
named_rule_of_program xs P law spec x e = named_rule_body xs P (names.declared spec x) (body_of_program (NamedRule xs P) refl law spec x e)

-- and what is declared as a rule is a rule of the program
rule_numbered : (spec : Spec) (o : Option ℕ) (n : NameNumber) → option_map number.Rule o ≡ Some n → numbered spec (Some n) ≡ body_of (meaning_numbered spec n)
rule_numbered spec None n e = cc
rule_numbered spec (Some r) n e = let same : number.Rule r ≡ n = cc in subst (λ n. numbered spec (Some n) ≡ body_of (meaning_numbered spec n)) same refl

rule_as : (spec : Spec) (x : Name) (ys : List source.Name) (Q : source.Rule) (n : NameNumber) → names.declared spec x ≡ Some (names.NamedRule ys Q) → named spec x ≡ Some n
    → numbered spec (Some n) ≡ body_of (meaning_numbered spec n)
unfolding named
rule_as spec x ys Q n is e = rule_numbered spec (number_in (rules_of spec) x) n (ap (named_as spec x) (sym is) ∙ e)

program_calls : NamesHaveNumbers → (spec : Spec) (x : Name) (ys : List source.Name) (Q : source.Rule) → names.declared spec x ≡ Some (names.NamedRule ys Q)
    → declared (program_of spec) x ≡ Some (NamedRule (map text_of ys) (plain_rule Q))
program_calls law spec x ys Q is =
    let found = (law spec x).of_meaning (names.NamedRule ys Q) is (λ bad. cc) in
    program_declares spec x
    ∙ ap (numbered spec) found.1
    ∙ rule_as spec x ys Q found.0 is found.1
    ∙ ap body_of ((law spec x).of_number found.0 found.1 ∙ is)

-- ---- uses in a term without its paths

module _ (law : NamesHaveNumbers) (spec : Spec) (rank : Name → ℕ) (n : ℕ) where
  usable : (bound : List Name) (x : Name) → source_ranks.IsUsable spec rank n bound x → IsUsable (program_of spec) rank n bound x
  usable bound x h free xs t e =
      let d = derived_of_program xs t law spec x e in
      h free d.parameters d.body d.is_declared

ranked_by : NamesHaveNumbers → (spec : Spec) → IsWellFormed spec → AreDerivedRanked (program_of spec) (derived_rank spec)
ranked_by law spec good x xs t e =
    let d = derived_of_program xs t law spec x e in
    let rank = derived_rank spec in
    let below = uses_weakened (source_ranks.IsUsable spec rank (rank x)) (IsUsable (program_of spec) rank (rank x)) (usable law spec rank (rank x)) (plain_term d.body) (map text_of d.parameters)
    ((ranks_exist spec good).derived x d.parameters d.body d.is_declared) in
    subst (λ ys. UsesBelow (program_of spec) rank (rank x) t ys) d.same_parameters
    (subst (λ s. UsesBelow (program_of spec) rank (rank x) s (map text_of d.parameters)) d.same_body below)

pub declared_ranks-derived : (spec : Spec) → IsWellFormed spec → AreDerivedRanked (program_of spec) (derived_rank spec)
declared_ranks-derived spec good = ranked_by names_have_numbers spec good

pub declared_ranks-derived_low : (spec : Spec) (x : Name) → IsWellFormed spec → derived_rank spec x < nesting
declared_ranks-derived_low spec x good = let low = (ranks_exist spec good).derived_low x in omega (arith, low)

-- ---- calls in a rule without its paths

module _ (law : NamesHaveNumbers) (spec : Spec) (rank : Name → ℕ) (n : ℕ) where
  callable : (f : Name) → source_ranks.IsCallable spec rank n f → IsCallable (program_of spec) rank n f
  callable f c = record {
    parameters = map text_of c.parameters;
    body = plain_rule c.body;
    is_declared = program_calls law spec f c.parameters c.body c.is_declared;
    is_below = c.is_below;
  }

rules_ranked_by : NamesHaveNumbers → (spec : Spec) → IsWellFormed spec → IsRanked (program_of spec) (rule_rank spec)
rules_ranked_by law spec good f xs P e =
    let d = named_rule_of_program xs P law spec f e in
    let rank = rule_rank spec in
    subst (CallsBelow (program_of spec) rank (rank f)) d.same_body
    (calls_weakened (source_ranks.IsCallable spec rank (rank f)) (IsCallable (program_of spec) rank (rank f)) (callable law spec rank (rank f)) (plain_rule d.body)
    ((ranks_exist spec good).rules f d.parameters d.body d.is_declared))

pub declared_ranks-rules : (spec : Spec) → IsWellFormed spec → IsRanked (program_of spec) (rule_rank spec)
declared_ranks-rules spec good = rules_ranked_by names_have_numbers spec good

pub declared_ranks-rule_low : (spec : Spec) (x : Name) → IsWellFormed spec → rule_rank spec x < nesting
declared_ranks-rule_low spec x good = let low = (ranks_exist spec good).rules_low x in omega (arith, low)
