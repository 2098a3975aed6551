-- Free. A rule leads to rules alone, and a derived function to derived functions: ways of all steps
-- are ways of calls, or of uses.
use Rattle.std.proofs.Common.{◌≡◌, Bool, true, false, cond, List, [], ◌∷◌, ◌++◌, map, Option, Some, None, refl, sym, ap, subst, ◌∙◌, inl, inr, append-nil}
use Rattle.std.specs.Prelude.{Contains, filter}
use Rattle.std.proofs.lemmas.Bool.{false≢true}
use Rattle.asm_state.proofs.Lists.{Contains-cons_cases, Contains-from_map, Contains-none}
use Rattle.asm_syntax.specs.SourceTree.{Name, Rule, Term, Spec}
use Rattle.asm_check.specs.Names as names
use Rattle.asm_check.specs.Names.{Text, Meaning, NamedRule, Derived, Use, declared}
use Rattle.asm_check.specs.code.cycles.CallsAndUses.{called_or_used}
use Rattle.asm_check.specs.CallGraph.{called, used, calls_in, uses_in, is_call, is_use}
use Rattle.asm_check.proofs.UseLemmas.ResultCallsAlike.{called_alike}

pub data IsRule : Option Meaning → Type 0 where
  is_rule : (xs : List Name) (P : Rule) → IsRule (Some (NamedRule xs P))

pub data IsDerived : Option Meaning → Type 0 where
  is_derived : (xs : List Name) (t : Term) → IsDerived (Some (Derived xs t))

passes : {X : Type 0} (p : X → Bool) (xs : List X) (x : X) → Contains (filter p xs) x → p x ≡ true
passes p [] x c = absurd (Contains-none x c)
passes {X = X} p (y ∷ ys) x c =
    elim (p y) as (λ b. p y ≡ b → Contains (cond b (y ∷ filter p ys) (filter p ys)) x → p x ≡ true) [
      | true ↦ λ e c. elim (Contains-cons_cases y (filter p ys) x c) [ inl s ↦ subst (λ z. p z ≡ true) s e | inr rest ↦ passes p ys x rest ]
      | false ↦ λ e c. passes p ys x c
    ] refl c

no_calls : (spec : Spec) (m : Option Meaning) (u : Use) → Contains (calls_in spec m) u → IsRule m
no_calls spec (Some (NamedRule xs P)) u c = is_rule xs P
no_calls spec None u c = absurd (Contains-none u c)
no_calls spec (Some names.Predeclared) u c = absurd (Contains-none u c)
no_calls spec (Some (names.Range first last)) u c = absurd (Contains-none u c)
no_calls spec (Some (names.Enumeration k)) u c = absurd (Contains-none u c)
no_calls spec (Some (names.Element k)) u c = absurd (Contains-none u c)
no_calls spec (Some (names.Controlled domain)) u c = absurd (Contains-none u c)
no_calls spec (Some (names.Static domain)) u c = absurd (Contains-none u c)
no_calls spec (Some (Derived xs t)) u c = absurd (Contains-none u c)

no_uses : (spec : Spec) (m : Option Meaning) (u : Use) → Contains (uses_in spec m) u → IsDerived m
no_uses spec (Some (Derived xs t)) u c = is_derived xs t
no_uses spec None u c = absurd (Contains-none u c)
no_uses spec (Some names.Predeclared) u c = absurd (Contains-none u c)
no_uses spec (Some (names.Range first last)) u c = absurd (Contains-none u c)
no_uses spec (Some (names.Enumeration k)) u c = absurd (Contains-none u c)
no_uses spec (Some (names.Element k)) u c = absurd (Contains-none u c)
no_uses spec (Some (names.Controlled domain)) u c = absurd (Contains-none u c)
no_uses spec (Some (names.Static domain)) u c = absurd (Contains-none u c)
no_uses spec (Some (NamedRule xs P)) u c = absurd (Contains-none u c)

-- what calls is a rule, and so is what is called
pub caller : (spec : Spec) (f g : Text) → Contains (called spec f) g → IsRule (declared spec f)
unfolding called
caller spec f g c = let it = Contains-from_map (λ (u : Use). u.name.text) (calls_in spec (declared spec f)) g c in no_calls spec (declared spec f) it.0 it.1

pub user : (spec : Spec) (f g : Text) → Contains (used spec f) g → IsDerived (declared spec f)
unfolding used
user spec f g c = let it = Contains-from_map (λ (u : Use). u.name.text) (uses_in spec (declared spec f)) g c in no_uses spec (declared spec f) it.0 it.1

plain_call_of : (m : Option Meaning) → is_call names.AsRule m ≡ true → IsRule m
plain_call_of (Some (NamedRule xs P)) e = is_rule xs P
plain_call_of m e = absurd (false≢true e)

call_of : (role : names.Role) (m : Option Meaning) → is_call role m ≡ true → IsRule m
call_of names.AsRule m e = plain_call_of m e
call_of names.AsAnswering m e = plain_call_of m (sym (called_alike m) ∙ e)
call_of role m e = absurd (false≢true e)

use_by : (spec : Spec) (role : names.Role) (b : Bool) (m : Option Meaning) → is_use role b m ≡ true → IsDerived m
use_by spec names.InTerm false (Some (Derived xs t)) e = is_derived xs t
use_by spec names.InTerm true m e = absurd (false≢true e)
use_by spec names.InTerm false None e = absurd (false≢true e)
use_by spec names.InTerm false (Some names.Predeclared) e = absurd (false≢true e)
use_by spec names.InTerm false (Some (names.Range first last)) e = absurd (false≢true e)
use_by spec names.InTerm false (Some (names.Enumeration k)) e = absurd (false≢true e)
use_by spec names.InTerm false (Some (names.Element k)) e = absurd (false≢true e)
use_by spec names.InTerm false (Some (names.Controlled domain)) e = absurd (false≢true e)
use_by spec names.InTerm false (Some (names.Static domain)) e = absurd (false≢true e)
use_by spec names.InTerm false (Some (NamedRule xs P)) e = absurd (false≢true e)
use_by spec names.AsTarget b m e = absurd (false≢true e)
use_by spec names.AsRule b m e = absurd (false≢true e)
use_by spec names.AsAnswering b m e = absurd (false≢true e)
use_by spec names.AsUniverse b m e = absurd (false≢true e)
use_by spec names.AsCodomain b m e = absurd (false≢true e)
use_by spec names.AsElement b m e = absurd (false≢true e)
use_by spec names.AsResult b m e = absurd (false≢true e)

called_by : (spec : Spec) (m : Option Meaning) (u : Use) → Contains (calls_in spec m) u → is_call u.role (declared spec u.name.text) ≡ true
called_by spec (Some (NamedRule xs P)) u c = passes (λ u. is_call u.role (declared spec u.name.text)) (names.uses_of_rule P (names.rule_scope xs)) u c
called_by spec None u c = absurd (Contains-none u c)
called_by spec (Some names.Predeclared) u c = absurd (Contains-none u c)
called_by spec (Some (names.Range first last)) u c = absurd (Contains-none u c)
called_by spec (Some (names.Enumeration k)) u c = absurd (Contains-none u c)
called_by spec (Some (names.Element k)) u c = absurd (Contains-none u c)
called_by spec (Some (names.Controlled domain)) u c = absurd (Contains-none u c)
called_by spec (Some (names.Static domain)) u c = absurd (Contains-none u c)
called_by spec (Some (Derived xs t)) u c = absurd (Contains-none u c)

used_by : (spec : Spec) (m : Option Meaning) (u : Use) → Contains (uses_in spec m) u → is_use u.role u.is_bound (declared spec u.name.text) ≡ true
used_by spec (Some (Derived xs t)) u c = passes (λ u. is_use u.role u.is_bound (declared spec u.name.text)) (names.uses_of_term t (map names.text_of xs)) u c
used_by spec None u c = absurd (Contains-none u c)
used_by spec (Some names.Predeclared) u c = absurd (Contains-none u c)
used_by spec (Some (names.Range first last)) u c = absurd (Contains-none u c)
used_by spec (Some (names.Enumeration k)) u c = absurd (Contains-none u c)
used_by spec (Some (names.Element k)) u c = absurd (Contains-none u c)
used_by spec (Some (names.Controlled domain)) u c = absurd (Contains-none u c)
used_by spec (Some (names.Static domain)) u c = absurd (Contains-none u c)
used_by spec (Some (NamedRule xs P)) u c = absurd (Contains-none u c)

pub callee : (spec : Spec) (f g : Text) → Contains (called spec f) g → IsRule (declared spec g)
unfolding called
callee spec f g c =
    let it = Contains-from_map (λ (u : Use). u.name.text) (calls_in spec (declared spec f)) g c in
    subst (λ x. IsRule (declared spec x)) it.2 (call_of it.0.role (declared spec it.0.name.text) (called_by spec (declared spec f) it.0 it.1))

pub usee : (spec : Spec) (f g : Text) → Contains (used spec f) g → IsDerived (declared spec g)
unfolding used
usee spec f g c =
    let it = Contains-from_map (λ (u : Use). u.name.text) (uses_in spec (declared spec f)) g c in
    subst (λ x. IsDerived (declared spec x)) it.2 (use_by spec it.0.role it.0.is_bound (declared spec it.0.name.text) (used_by spec (declared spec f) it.0 it.1))

same_map : (xs : List Text) → map (λ x. x) xs ≡ xs
same_map [] = refl
same_map (x ∷ xs) = ap (λ ys. x ∷ ys) (same_map xs)

nothing_used : (spec : Spec) (m : Option Meaning) → IsRule m → uses_in spec m ≡ []
nothing_used spec m (is_rule xs P) = refl

nothing_called : (spec : Spec) (m : Option Meaning) → IsDerived m → calls_in spec m ≡ []
nothing_called spec m (is_derived xs t) = refl

pub all_calls : (spec : Spec) (f : Text) → IsRule (declared spec f) → map (λ x. x) (called spec f) ≡ called_or_used spec f
unfolding called_or_used used
all_calls spec f is =
    same_map (called spec f) ∙ sym (append-nil (called spec f)) ∙ ap (λ us. called spec f ++ map (λ u. u.name.text) us) (sym (nothing_used spec (declared spec f) is))

pub all_uses : (spec : Spec) (f : Text) → IsDerived (declared spec f) → map (λ x. x) (used spec f) ≡ called_or_used spec f
unfolding called_or_used called
all_uses spec f is =
    same_map (used spec f) ∙ ap (λ us. map (λ (u : Use). u.name.text) us ++ used spec f) (sym (nothing_called spec (declared spec f) is))
