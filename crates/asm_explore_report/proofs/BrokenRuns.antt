-- Free. Conditions along a run.
--     held_first         they are true before the first state
--     held_more          if they are true before a state and in it, then before the next one
--     held_past          and before each later one, if the run ends there
--     none_asked         if there is none, each is true
--     all_true           they are true in a state, if none is found that isn't
--     ended_by_fault, ended_exhausted     a run that ends comes to no later state
--     first_found        a state in which one isn't true is the first
--     none_found         if there is none, they are true in all of a run
use Rattle.std.proofs.Common.{◌≡◌, ◌∙◌, ◌+◌, ◌<◌, ◌≤◌, ◌⊎◌, ℕ, true, false, List, [], ◌∷◌, Option, None, inl, inr, refl, sym, subst, arith, below_more, true≢false}
use Rattle.std.specs.Prelude.{IfNone, IfSome, Some, is_some}
use Rattle.std.specs.List.{list_all}
use Rattle.std.proofs.lemmas.Bool.{cases_lt}
use Rattle.asm_state.specs.declared.operation.Op.{Op}
use Rattle.asm_state.specs.Location.{State}
use Rattle.asm_state.specs.Updates.{IsConsistent, UpdateSet}
use Rattle.asm_syntax.specs.SourceTree as source
use Rattle.asm_syntax.specs.SourceTree.{Spec}
use Rattle.asm_syntax.specs.declared.term.Term.{Term}
use Rattle.asm_reader.specs.ScriptLines.{Script}
use Rattle.asm_meaning.specs.Declarations.{specification_of}
use Rattle.asm_meaning.specs.Run.{AtExhausted, AtFault, AtLimit, IsAfter, Specification, run, step}
use Rattle.asm_meaning.specs.RunLaws.{RunLaws}
use Rattle.asm_meaning.specs.Value.{is_true}
use Rattle.asm_meaning.specs.Yields.{Exhausted, Gives, Path}
use Rattle.asm_explore_texts.specs.code.CodedConditions.{IsJoined, terms_in}
use Rattle.asm_explore_texts.specs.Comments.{lines_of}
use Rattle.asm_explore_report.specs.BrokenRuns.{HoldBefore, IsFirstBroken}
use Rattle.asm_explore_report.specs.FaultWords.{IsBroken, value_in}
use Rattle.asm_explore_report.specs.declared.broken_run.BrokenState.{BrokenState}
use Rattle.asm_explore_report.specs.declared.told.Told.{Told}

module _ (s : Spec) (terms : List source.Term) (turns : ℕ) (script : Script) where
  abbrev AllTrue : State → Type 0
  AllTrue A = list_all (λ t. is_true (value_in s t A)) terms ≡ true

  abbrev After : ℕ → State → Type 0
  After n A = IsAfter (specification_of s) turns script n A

  pub held_first : HoldBefore s terms turns script 0
  held_first k low A after = absurd (omega (arith, low))

  pub held_more : (n : ℕ) (A : State) → After n A → AllTrue A → HoldBefore s terms turns script n → HoldBefore s terms turns script (n + 1)
  held_more n A here holds before = below_more (λ k. (B : State) → After k B → AllTrue B) n before (λ B there. subst AllTrue (sym here.1 ∙ there.1) holds)

  pub held_past : (n m : ℕ) → ((k : ℕ) → n < k → ¬ ((run (specification_of s) turns script k).end ≡ AtLimit)) → HoldBefore s terms turns script (n + 1) → HoldBefore s terms turns script m
  held_past n m ends before k low A after = at (cases_lt n k)
    where
      at : (n < k) ⊎ (k ≤ n) → AllTrue A
      at (inl past) = absurd (ends k past after.0)
      at (inr to) = before k (omega (arith, to)) A after

pub none_asked : (s : Spec) (links : List (Op × Term)) (t : Option Term) (turns : ℕ) (script : Script) (n : ℕ) → IsJoined links t → t ≡ None → HoldBefore s (terms_in links) turns script n
none_asked s [] t turns script n joined is k low A after = refl
none_asked s (link ∷ links) t turns script n joined is k low A after = cc

pub all_true : {X : Type 0} (told : Option X) (P : Type 0) → IfNone told P → is_some told ≡ false → P
all_true None P held none = held
all_true (Some x) P held none = absurd (true≢false none)

module _ (specification : Specification) (turns : ℕ) (script : Script) (laws : RunLaws specification turns script) (n : ℕ) (A : State) (here : IsAfter specification turns script n A) where
  pub ended_by_fault : (U : UpdateSet) → (step specification turns script (n + 1) A).result ≡ Gives U → ¬ (IsConsistent U) → (k : ℕ) → n < k → ¬ ((run specification turns script k).end ≡ AtLimit)
  ended_by_fault U gives bad k past limit =
      let ends = laws.faulty n k A U past here gives bad in
      let same : AtFault (n + 1) U ≡ AtLimit = sym ends.0 ∙ limit in
      cc

  pub ended_exhausted : (q : Path) → (step specification turns script (n + 1) A).result ≡ Exhausted q → (k : ℕ) → n < k → ¬ ((run specification turns script k).end ≡ AtLimit)
  ended_exhausted q is k past limit =
      let ends = laws.exhausted n k A q past here is in
      let same : AtExhausted (n + 1) q ≡ AtLimit = sym ends.0 ∙ limit in
      cc

module _ (s : Spec) (terms : List source.Term) (turns : ℕ) (script : Script) (n steps : ℕ) (A : State) (here : IsAfter (specification_of s) turns script n A) (before : HoldBefore s terms turns script n) where
  pub first_found : (found : Option BrokenState) (told : Option Told) → n ≤ steps → IfSome found (λ b. (b.steps ≡ n) × (told ≡ Some b.told))
      → IfSome told (λ t. IsBroken s terms A t.words.items (lines_of t.because.items))
      → IfSome found (λ b. (b.steps ≤ steps) × IsFirstBroken s terms turns script b.steps b.told.words.items (lines_of b.told.because.items))
  first_found None told low is broken = tt
  first_found (Some b) told low is broken =
      let at = subst (λ (o : Option Told). IfSome o (λ t. IsBroken s terms A t.words.items (lines_of t.because.items))) is.1 broken in (
        subst (λ k. k ≤ steps) (sym is.0) low,
        subst (λ k. IsFirstBroken s terms turns script k b.told.words.items (lines_of b.told.because.items)) (sym is.0) (record { state = A; after = here; before = before; broken = at }),
      )

  pub none_found : (found : Option BrokenState) (told : Option Told) → n ≡ steps → IfNone found (told ≡ None)
      → IfNone told (list_all (λ t. is_true (value_in s t A)) terms ≡ true) → IfNone found (HoldBefore s terms turns script (steps + 1))
  none_found (Some b) told same is held = tt
  none_found None told same is held =
      subst (λ k. HoldBefore s terms turns script (k + 1)) same
      (held_more s terms turns script n A here (subst (λ (o : Option Told). IfNone o (list_all (λ t. is_true (value_in s t A)) terms ≡ true)) is held) before)
