-- Free. A script without the later lines of each key picks as the script does.
use Rattle.std.proofs.Common.{◌≡◌, ℕ, Bool, true, false, not, cond, ◌&&◌, List, [], ◌∷◌, Option, Some, None, refl, sym, ap, ◌∙◌}
use Rattle.std.specs.Bool.{Decides, nat_eq}
use Rattle.std.specs.List.{filter, AllByRecursion, IsDistinct}
use Rattle.std.specs.Option.{option_or, unwrap_or}
use Rattle.std.specs.Cmp.Lexicographic.{pointwise}
use Rattle.std.proofs.lemmas.Bool.Decides.{Decides-eqb}
use Rattle.std.proofs.lemmas.Map.Keys.{IsDistinct-cons, IsDistinct-head, IsDistinct-tail}
use Rattle.std.proofs.lemmas.Slice.Eq.{slice_eq-Decides}
use Rattle.asm_meaning.specs.Yields.{Path}
use Rattle.asm_reader.specs.ScriptLines.{Line, EveryLine, Script, is_line_of, is_line_at, exact_choice, every_choice, pick}
use Rattle.asm_meaning.specs.Does.{does, does_within}
use Rattle.asm_meaning.specs.Value.{nesting}
use Rattle.asm_meaning.specs.Scripts.{have_one_key, have_one_path, firsts, unrepeated, UnrepeatedScript}

-- a filter keeps what holds of all, and keeps keys apart
all_filtered : {X : Type 0} (P : X → Type 0) (test : X → Bool) (xs : List X) → AllByRecursion P xs → AllByRecursion P (filter test xs)
all_filtered P test [] h = h
all_filtered P test (x ∷ xs) h =
    elim (test x) as (λ b. AllByRecursion P (cond b (x ∷ filter test xs) (filter test xs))) [
      | true ↦ (h.0, all_filtered P test xs h.1)
      | false ↦ all_filtered P test xs h.1
    ]

distinct_filtered : {X : Type 0} (eq : X → X → Bool) (test : X → Bool) (xs : List X) → IsDistinct eq xs → IsDistinct eq (filter test xs)
distinct_filtered eq test [] h = h
distinct_filtered eq test (x ∷ xs) h =
    elim (test x) as (λ b. IsDistinct eq (cond b (x ∷ filter test xs) (filter test xs))) [
      | true ↦ IsDistinct-cons eq x (filter test xs) (all_filtered _ test xs (IsDistinct-head eq x xs h)) (distinct_filtered eq test xs (IsDistinct-tail eq x xs h))
      | false ↦ distinct_filtered eq test xs (IsDistinct-tail eq x xs h)
    ]

-- what the filter leaves out has no longer the key
none_left : {X : Type 0} (test : X → Bool) (xs : List X) → AllByRecursion (λ x. test x ≡ false) (filter (λ x. not (test x)) xs)
none_left test [] = tt
none_left test (x ∷ xs) =
    elim (test x) as (λ b. test x ≡ b → AllByRecursion (λ x. test x ≡ false) (cond (not b) (x ∷ filter (λ x. not (test x)) xs) (filter (λ x. not (test x)) xs))) [
      | true ↦ λ e. none_left test xs
      | false ↦ λ e. (e, none_left test xs)
    ] refl

distinct : {L : Type 0} (have_one : L → L → Bool) (lines : List L) → IsDistinct have_one (firsts have_one lines)
unfolding IsDistinct
distinct have_one [] = tt
distinct have_one (line ∷ lines) =
    IsDistinct-cons have_one line _ (none_left (have_one line) (firsts have_one lines))
    (distinct_filtered have_one (λ other. not (have_one line other)) (firsts have_one lines) (distinct have_one lines))

-- ---- the picks

one_path : (p q : Path) → Decides (pointwise nat_eq p q) (p ≡ q)
one_path p q = slice_eq-Decides Decides-eqb p q (pointwise nat_eq p q) refl

both_true : (a b : Bool) → (a && b) ≡ true → (a ≡ true) × (b ≡ true)
both_true true b e = (refl, e)
both_true false b e = cc

key_is : (step : ℕ) (p : Path) (line : Line) → is_line_of step p line ≡ true → (line.step ≡ step) × (line.path ≡ p)
key_is step p line e =
    let both = both_true _ _ e in
    ((Decides-eqb line.step step).0 both.0, (one_path line.path p).0 both.1)

-- a line whose key is that of a line elsewhere is elsewhere too
elsewhere : (line other : Line) (step : ℕ) (p : Path) → is_line_of step p line ≡ false → have_one_key line other ≡ true → is_line_of step p other ≡ false
elsewhere line other step p apart one =
    let same = key_is line.step line.path other one in
    (λ i. nat_eq (same.0 i) step && pointwise nat_eq (same.1 i) p) ∙ apart

elsewhere_for_every : (line other : EveryLine) (p : Path) → is_line_at p line ≡ false → have_one_path line other ≡ true → is_line_at p other ≡ false
elsewhere_for_every line other p apart one =
    let same = (one_path other.path line.path).0 one in
    (λ i. pointwise nat_eq (same i) p) ∙ apart

-- what the first line says for which a test holds, if it holds for both or none of two lines with
-- one key
module _ {L : Type 0} (have_one : L → L → Bool) (choice : L → ℕ) (test : L → Bool) (apart : (line other : L) → test line ≡ false → have_one line other ≡ true → test other ≡ false) where
  abbrev pub first_choice : List L → Option ℕ
  first_choice [] = None
  first_choice (line ∷ lines) = cond (test line) (Some (choice line)) (first_choice lines)

  first_filtered : (line : L) (lines : List L) → test line ≡ false → first_choice (filter (λ other. not (have_one line other)) lines) ≡ first_choice lines
  first_filtered line [] not_here = refl
  first_filtered line (other ∷ lines) not_here =
      elim (have_one line other) as (λ b. have_one line other ≡ b
      → first_choice (cond (not b) (other ∷ filter (λ other. not (have_one line other)) lines) (filter (λ other. not (have_one line other)) lines))
      ≡ cond (test other) (Some (choice other)) (first_choice lines)) [
        | true ↦ λ e.
            first_filtered line lines not_here
            ∙ ap (λ b. cond b (Some (choice other)) (first_choice lines)) (sym (apart line other not_here e))
        | false ↦ λ e. ap (cond (test other) (Some (choice other))) (first_filtered line lines not_here)
      ] refl

  first_of_firsts : (lines : List L) → first_choice (firsts have_one lines) ≡ first_choice lines
  first_of_firsts [] = refl
  first_of_firsts (line ∷ lines) =
      elim (test line) as (λ b. test line ≡ b
      → cond b (Some (choice line)) (first_choice (filter (λ other. not (have_one line other)) (firsts have_one lines))) ≡ cond b (Some (choice line)) (first_choice lines)) [
        | true ↦ λ e. refl
        | false ↦ λ e. first_filtered line (firsts have_one lines) e ∙ first_of_firsts lines
      ] refl

module _ (step : ℕ) (p : Path) where
  abbrev first_exact : List Line → Option ℕ
  first_exact = first_choice have_one_key (λ line. line.choice) (is_line_of step p) (λ line other. elsewhere line other step p)

  abbrev first_every : List EveryLine → Option ℕ
  first_every = first_choice have_one_path (λ line. line.choice) (is_line_at p) (λ line other. elsewhere_for_every line other p)

  exact_is_first : (lines : List Line) → exact_choice lines step p ≡ first_exact lines
  exact_is_first [] = refl
  exact_is_first (line ∷ lines) = ap (cond (is_line_of step p line) (Some line.choice)) (exact_is_first lines)

  every_is_first : (lines : List EveryLine) → every_choice lines p ≡ first_every lines
  every_is_first [] = refl
  every_is_first (line ∷ lines) = ap (cond (is_line_at p line) (Some line.choice)) (every_is_first lines)

  exact_alike : (lines : List Line) → exact_choice (firsts have_one_key lines) step p ≡ exact_choice lines step p
  exact_alike lines =
      exact_is_first (firsts have_one_key lines)
      ∙ first_of_firsts have_one_key (λ line. line.choice) (is_line_of step p) (λ line other. elsewhere line other step p) lines ∙ sym (exact_is_first lines)

  every_alike : (lines : List EveryLine) → every_choice (firsts have_one_path lines) p ≡ every_choice lines p
  every_alike lines =
      every_is_first (firsts have_one_path lines)
      ∙ first_of_firsts have_one_path (λ line. line.choice) (is_line_at p) (λ line other. elsewhere_for_every line other p) lines ∙ sym (every_is_first lines)

picks : (script : Script) (step : ℕ) (p : Path) → pick (unrepeated script) step p ≡ pick script step p
picks script step p i = unwrap_or (option_or (exact_alike step p script.exact i) (every_alike step p script.every i)) 0

pub unrepeated_script : UnrepeatedScript
unfolding does
unrepeated_script script = record {
  is_unrepeated = (distinct have_one_key script.exact, distinct have_one_path script.every);
  picks = picks script;
  does_alike = λ program turns step A e p R i. does_within program turns (λ q. picks script step q i) nesting R A e p;
}
