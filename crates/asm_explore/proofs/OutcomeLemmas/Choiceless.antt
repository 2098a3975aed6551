-- Free. Rules in which nothing is chosen, by those in them.
--     some_other, some_both     what holds if there is a number
--     one_more, none_of_parts   of parts beside or after each other
--     set_formed, exhausted_formed, set_shows, exhausted_shows
--                               the outcome that is formed is what the rule yields through each
--                               script
use Rattle.std.proofs.Common.{◌∙◌, ap, refl, ◌≡◌, ℕ, ◌+◌, ◌<◌, ◌≤◌, List, [], ◌∷◌, length, take, get_or, map, Option, Some, None, subst, sym}
use Rattle.std.specs.Prelude.{IfSome}
use Rattle.std.proofs.lemmas.List.{take_more, take_all}
use Rattle.asm_state.specs.Location.{State}
use Rattle.asm_state.specs.Signature.{Shape}
use Rattle.asm_state.specs.Updates.{UpdateSet}
use Rattle.asm_updates.specs.code.SummaryRanges.{SummaryRanges}
use Rattle.asm_updates.specs.code.Stands.{Stands}
use Rattle.asm_meaning.specs.Does.{Outcome}
use Rattle.asm_meaning.specs.Value.{Reading}
use Rattle.asm_meaning.specs.Yields.{Path, Result, Gives, Exhausted}
use Rattle.asm_eval.specs.code.FormedOutcomes.{IsFormed, IsSet}
use Rattle.asm_eval.specs.declared.outcome.Outcome.{Outcome as FormedOutcome}
use Rattle.asm_eval.specs.declared.outcome.Outcome.TheVariants as formed
use Rattle.asm_code.specs.code.RuleMeaning.{Locations, meaning}
use Rattle.asm_code.specs.code.RuleTree as tree
use Rattle.asm_code.specs.code.RuleViews.{rule_of, rules_of}
use Rattle.asm_code.specs.declared.rule_code.RuleCode.{RuleCode}
use Rattle.asm_explore.specs.code.ChooseNothing.{ChoosesNothing, ChooseNothing}
use Rattle.asm_explore.specs.ListElements.{Each}
use Rattle.asm_explore.specs.declared.outcomes.listed_outcome.RuleResult.TheVariants as answer
use Rattle.asm_explore.specs.declared.updates.Updates.{Updates}
use Rattle.asm_explore.specs.code.OutcomeLists.{Situation, picked, Shows}
use Rattle.asm_explore.proofs.ChoiceLemmas.NothingChosen.{same_for_all}
use Rattle.asm_explore.proofs.Elements.{each_append}

pub some_both : {X : Type 0} (A B : Type 0) (r : Option X) → A → IfSome r (λ n. B) → IfSome r (λ n. A × B)
some_both A B None a h = tt
some_both A B (Some n) a h = (a, h)

-- of each of the rules so far
abbrev pub EachChoosesNothing : List RuleCode → Type 0
EachChoosesNothing Ps = Each (λ P. ChoosesNothing (rule_of P)) Ps

pub one_more : (Ps : List RuleCode) (i : ℕ) (P : RuleCode) → i < length Ps → P ≡ get_or Ps i P → EachChoosesNothing (take i Ps) → ChoosesNothing (rule_of P) → EachChoosesNothing (take (i + 1) Ps)
one_more Ps i P low is h here =
    subst EachChoosesNothing (sym (take_more Ps i P low))
    (each_append (λ Q. ChoosesNothing (rule_of Q)) (take i Ps) (get_or Ps i P ∷ []) h (subst (λ Q. ChoosesNothing (rule_of Q)) is here, tt))

all_choose : (Ps : List RuleCode) → EachChoosesNothing Ps → ChooseNothing (rules_of (map rule_of Ps))
all_choose [] h = tt
all_choose (P ∷ Ps) h = (h.0, all_choose Ps h.1)

pub none_of_parts : (Ps : List RuleCode) (i : ℕ) → length Ps ≤ i → EachChoosesNothing (take i Ps) → ChooseNothing (rules_of (map rule_of Ps))
none_of_parts Ps i past h = all_choose Ps (subst EachChoosesNothing (take_all i Ps past) h)

-- ---- the outcome that is formed

pub set_formed : (o : Outcome) (shape : Shape) (it : FormedOutcome) (set : SummaryRanges) (instances : ℕ) → IsFormed shape o it → it ≡ formed.Set set instances → IsSet shape o set instances
set_formed o shape it set instances is same = subst (IsFormed shape o) same is

pub exhausted_formed : (o : Outcome) (shape : Shape) (it : FormedOutcome) (q : Path) → IsFormed shape o it → it ≡ formed.Exhausted q → o.result ≡ Exhausted q
exhausted_formed o shape it q is same = subst (IsFormed shape o) same is

module _ (shape : Shape) (turns : ℕ) (chosen : Path → ℕ) (P : tree.RuleCode) (rs : List Reading) (ls : Locations) (A : State) (p : Path) (nothing : ChoosesNothing P) where
  abbrev Formed : Outcome
  Formed = meaning shape turns chosen P rs ls A p

  abbrev Here : Situation → Result
  Here s = (meaning shape turns (picked s) P rs ls A p).result

  same_result : (r : Result) → Formed.result ≡ r → (s : Situation) → r ≡ Here s
  same_result r is s = sym is ∙ sym (ap (λ (o : Outcome). o.result) (same_for_all shape turns chosen (picked s) P rs ls A p nothing))

  pub set_shows : (set : SummaryRanges) (instances : ℕ) (updates : Updates) → IsSet shape Formed set instances → ((U : UpdateSet) → Stands shape set U → Stands shape updates.set U)
      → (s : Situation) → Shows shape (answer.Set updates) (Here s)
  set_shows set instances updates is stands s = subst (Shows shape (answer.Set updates)) (same_result (Gives is.set) is.gives s) (stands is.set is.stands)

  pub exhausted_shows : (q : Path) → Formed.result ≡ Exhausted q → (s : Situation) → Shows shape (answer.Exhausted q) (Here s)
  exhausted_shows q is s = subst (Shows shape (answer.Exhausted q)) (same_result (Exhausted q) is s) refl
