-- Free. Steps that a loop collects, one element after another.
use Rattle.std.proofs.Common.{◌≡◌, ℕ, zero, suc, ◌+◌, ◌<◌, Bool, true, false, cond, List, [], ◌∷◌, ◌++◌, length, map, take, drop, get_or, Option, Some, None, is_some, refl, sym, subst, ap, ◌∙◌, arith}
use Rattle.std.specs.Prelude.{All, IfNone, filter, option_map, slice_get}
use Rattle.std.proofs.lemmas.List.{append_assoc, map-append, get_or-map, length-append, take_more, drop_more}
use Rattle.std.proofs.lemmas.List.Elements.{All-append, All-cons, All-nil}
use Rattle.std.proofs.lemmas.Option.{slice_get_within, get_or_from_slice_get}
use Rattle.asm_syntax.specs.SourceTree.{Spec}
use Rattle.asm_check.specs.code.cycles.Graph.{next_of}
use Rattle.asm_check.specs.Names.{Text, Meaning, Role, InTerm, AsTarget, AsRule, AsAnswering, AsUniverse, AsCodomain, AsElement, AsResult, Use, declared}
use Rattle.asm_check.specs.code.cycles.CallsAndUses.{called_or_used}
use Rattle.asm_check.specs.code.cycles.StepsOfBody.{is_stepping, stepping_to, onward_from}
use Rattle.asm_check.specs.code.names.Tables.{Entry, IsTableOf, text_at, declared_as_view}
use Rattle.asm_check.specs.code.uses.UseViews.{use_of}
use Rattle.asm_check.specs.CallGraph.{is_call, is_use, called, used}
use Rattle.asm_check.specs.code.limits.CountedSizes.{value_of_entry}
use Rattle.asm_check.specs.declared.names.declared_as.Declaration.{Declaration as CodeDeclaration}
use Rattle.asm_check.specs.declared.uses.declaration_uses.Use.{Use as CodeUse}
use Rattle.asm_check.proofs.NameLemmas.EachNameOnce.{entry_there, position_declared}

-- the names of the uses that are left, after those at the positions, are those of all uses
pub record AreSteps (entries : List Entry) (in_rule : Bool) (uses rest : List CodeUse) (positions : List ℕ) : Type 0 where
  pub within : All (λ n. n < length entries) positions
  pub steps : (spec : Spec) → IsTableOf spec entries → map (text_at entries) positions ++ stepping_to spec in_rule (map use_of rest) ≡ stepping_to spec in_rule (map use_of uses)

abbrev pub entry_onward : Spec → Entry → List Text
entry_onward spec e = onward_from spec (Some (declared_as_view e.1.meaning))

-- a use with a step stands for one more name
pub one_stepping : (spec : Spec) (in_rule : Bool) (texts : List Text) (u : Use) (us : List Use) → is_stepping spec in_rule u ≡ true
    → (texts ++ u.name.text ∷ []) ++ stepping_to spec in_rule us ≡ texts ++ stepping_to spec in_rule (u ∷ us)
one_stepping spec in_rule texts u us e =
    append_assoc texts (u.name.text ∷ []) (stepping_to spec in_rule us)
    ∙ ap (λ b. texts ++ map (λ u. u.name.text) (cond b (u ∷ filter (is_stepping spec in_rule) us) (filter (is_stepping spec in_rule) us))) (sym e)

pub none_stepping : (spec : Spec) (in_rule : Bool) (texts : List Text) (u : Use) (us : List Use) → is_stepping spec in_rule u ≡ false
    → texts ++ stepping_to spec in_rule us ≡ texts ++ stepping_to spec in_rule (u ∷ us)
none_stepping spec in_rule texts u us e =
    ap (λ b. texts ++ map (λ u. u.name.text) (cond b (u ∷ filter (is_stepping spec in_rule) us) (filter (is_stepping spec in_rule) us))) (sym e)

no_call : (role : Role) → is_call role None ≡ false
no_call InTerm = refl
no_call AsTarget = refl
no_call AsRule = refl
no_call AsAnswering = refl
no_call AsUniverse = refl
no_call AsCodomain = refl
no_call AsElement = refl
no_call AsResult = refl

no_use : (role : Role) (b : Bool) → is_use role b None ≡ false
no_use InTerm true = refl
no_use InTerm false = refl
no_use AsTarget b = refl
no_use AsRule b = refl
no_use AsAnswering b = refl
no_use AsUniverse b = refl
no_use AsCodomain b = refl
no_use AsElement b = refl
no_use AsResult b = refl

-- what isn't declared has no step
pub undeclared_stepping : (spec : Spec) (in_rule : Bool) (u : Use) → declared spec u.name.text ≡ None → is_stepping spec in_rule u ≡ false
undeclared_stepping spec true u e = ap (is_call u.role) e ∙ no_call u.role
undeclared_stepping spec false u e = ap (is_use u.role u.is_bound) e ∙ no_use u.role u.is_bound

-- what the code tests
pub stepping_there : (spec : Spec) (in_rule : Bool) (u : Use) (m : Option Meaning) (b : Bool) → m ≡ declared spec u.name.text
    → b ≡ cond in_rule (is_call u.role m) (is_use u.role u.is_bound m) → is_stepping spec in_rule u ≡ b
stepping_there spec in_rule u m b means e = ap (λ o. cond in_rule (is_call u.role o) (is_use u.role u.is_bound o)) (sym means) ∙ sym e

-- where a step leads, if the name is declared
pub step_there : (spec : Spec) (in_rule : Bool) (u : Use) (r : Option ℕ) → is_stepping spec in_rule u ≡ true → IfNone r (declared spec u.name.text ≡ None) → is_stepping spec in_rule u ≡ is_some r
step_there spec in_rule u None is none = undeclared_stepping spec in_rule u none
step_there spec in_rule u (Some n) is none = is

module _ (entries : List Entry) (in_rule : Bool) (uses rest more : List CodeUse) (positions : List ℕ) (x : CodeUse) (left : rest ≡ x ∷ more) (before : AreSteps entries in_rule uses rest positions) where
  pub step_taken : (n : ℕ) → n < length entries → text_at entries n ≡ x.name.now.text
      → ((spec : Spec) → IsTableOf spec entries → is_stepping spec in_rule (use_of x) ≡ true) → AreSteps entries in_rule uses more (positions ++ n ∷ [])
  step_taken n below name steps = record {
    within = All-append (λ n. n < length entries) positions (n ∷ []) before.within (All-cons (λ n. n < length entries) n [] below (All-nil (λ n. n < length entries)));
    steps = λ spec table.
        ap (λ ts. ts ++ stepping_to spec in_rule (map use_of more)) (map-append (text_at entries) positions (n ∷ []) ∙ ap (λ t. map (text_at entries) positions ++ t ∷ []) name)
        ∙ one_stepping spec in_rule (map (text_at entries) positions) (use_of x) (map use_of more) (steps spec table)
        ∙ ap (λ us. map (text_at entries) positions ++ stepping_to spec in_rule (map use_of us)) (sym left)
        ∙ before.steps spec table;
  }

  pub step_left : ((spec : Spec) → IsTableOf spec entries → is_stepping spec in_rule (use_of x) ≡ false) → AreSteps entries in_rule uses more positions
  step_left stays = record {
    within = before.within;
    steps = λ spec table.
        none_stepping spec in_rule (map (text_at entries) positions) (use_of x) (map use_of more) (stays spec table)
        ∙ ap (λ us. map (text_at entries) positions ++ stepping_to spec in_rule (map use_of us)) (sym left)
        ∙ before.steps spec table;
  }

pub no_step_yet : (entries : List Entry) (in_rule : Bool) (uses : List CodeUse) (positions : List ℕ) → positions ≡ [] → AreSteps entries in_rule uses uses positions
no_step_yet entries in_rule uses positions none = record {
  within = subst (All (λ n. n < length entries)) (sym none) (All-nil (λ n. n < length entries));
  steps = λ spec table. ap (λ ns. map (text_at entries) ns ++ stepping_to spec in_rule (map use_of uses)) none;
}

-- the steps of the entries that are left, after these, are those of all entries
pub record AreEntrySteps (spec : Spec) (entries rest : List Entry) (lists : List (List ℕ)) : Type 0 where
  pub counted : length lists + length rest ≡ length entries
  pub graph : All (All (λ n. n < length entries)) lists
  pub steps : map (map (text_at entries)) lists ++ map (entry_onward spec) rest ≡ map (entry_onward spec) entries

-- the entry at a position, with what is before and after it
pub record IsEntryAt (entries : List Entry) (i : ℕ) (r : CodeDeclaration) : Type 0 where
  pub entry : Entry
  pub declared : entry.1 ≡ r
  pub rest : drop i entries ≡ entry ∷ drop (i + 1) entries
  pub front : take (i + 1) entries ≡ take i entries ++ entry ∷ []

pub entry_at : (entries : List Entry) (i : ℕ) (r : CodeDeclaration) → option_map value_of_entry (slice_get entries i) ≡ Some r → IsEntryAt entries i r
entry_at entries i r h = go (slice_get entries i) refl h
  where
    go : (o : Option Entry) → slice_get entries i ≡ o → option_map value_of_entry o ≡ Some r → IsEntryAt entries i r
    go None s h = cc
    go (Some e) s h =
        let low : i < length entries = slice_get_within entries i e s in
        let same : get_or entries i e ≡ e = get_or_from_slice_get entries i e e s in
        record {
          entry = e;
          declared = cc;
          rest = drop_more entries i e low ∙ ap (λ x. x ∷ drop (i + 1) entries) same;
          front = take_more entries i e low ∙ ap (λ x. take i entries ++ x ∷ []) same;
        }

pub no_entry_yet : (spec : Spec) (entries rest : List Entry) (lists : List (List ℕ)) → lists ≡ [] → rest ≡ entries → AreEntrySteps spec entries rest lists
no_entry_yet spec entries rest lists none all = record {
  counted = omega (arith, ap length none, ap length all);
  graph = subst (All (All (λ n. n < length entries))) (sym none) (All-nil (All (λ n. n < length entries)));
  steps = ap (λ ls. map (map (text_at entries)) ls ++ map (entry_onward spec) rest) none ∙ ap (map (entry_onward spec)) all;
}

pub entry_taken : (spec : Spec) (entries rest more : List Entry) (lists : List (List ℕ)) (e : Entry) (ns : List ℕ) → rest ≡ e ∷ more → AreEntrySteps spec entries rest lists
    → All (λ n. n < length entries) ns → map (text_at entries) ns ≡ entry_onward spec e → AreEntrySteps spec entries more (lists ++ ns ∷ [])
entry_taken spec entries rest more lists e ns left before within texts = record {
  counted = omega (arith, length-append lists (ns ∷ []), ap length left, before.counted);
  graph = All-append (All (λ n. n < length entries)) lists (ns ∷ []) before.graph (All-cons (All (λ n. n < length entries)) ns [] within (All-nil (All (λ n. n < length entries))));
  steps =
      ap (λ ts. ts ++ map (entry_onward spec) more) (map-append (map (text_at entries)) lists (ns ∷ []) ∙ ap (λ t. map (map (text_at entries)) lists ++ t ∷ []) texts)
      ∙ append_assoc (map (map (text_at entries)) lists) (entry_onward spec e ∷ []) (map (entry_onward spec) more)
      ∙ ap (λ es. map (map (text_at entries)) lists ++ map (entry_onward spec) es) (sym left)
      ∙ before.steps;
}

pub got : (es : List Entry) (i : ℕ) (e : Entry) → slice_get es i ≡ Some e → get_or es i e ≡ e
got [] i e at = refl
got (f ∷ es) zero e at = cc
got (f ∷ es) (suc i) e at = got es i e at

-- the steps from a position of the table
pub onward_at : (spec : Spec) (entries : List Entry) (lists : List (List ℕ)) → IsTableOf spec entries → length lists ≡ length entries
    → map (map (text_at entries)) lists ≡ map (entry_onward spec) entries
    → (n : ℕ) → n < length entries → map (text_at entries) (next_of lists n) ≡ called_or_used spec (text_at entries n)
unfolding called_or_used called used
onward_at spec entries lists table same all n below =
    let there = entry_there entries n below in
    let within : n < length lists = omega (arith, same, below) in
    sym (get_or-map (map (text_at entries)) lists n [] [] within)
    ∙ ap (λ ts. get_or ts n []) all
    ∙ get_or-map (entry_onward spec) entries n there.0 [] below
    ∙ ap (entry_onward spec) (got entries n there.0 there.1)
    ∙ ap (onward_from spec) (sym (position_declared spec entries table n there.0 there.1))
