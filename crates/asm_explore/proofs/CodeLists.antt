-- Free. Lists of codes, of values and of resolved rules.
--     none_within             no value is a location
--     sound_within            each of some sound codes is sound
--     readings_map            what the codes of a list are worth
--     universe_here           the universe with a number
--     sound_part, size_of_part    a part of sound rules is sound, and has no more nodes than all of
--                                 them
use Rattle.std.proofs.Common.{◌≡◌, ℕ, zero, suc, ◌≤◌, ◌<◌, List, [], ◌∷◌, ◌++◌, length, map, get_or, Option, None, refl, sym, ap, subst, arith}
use Rattle.std.specs.Prelude.{Some, slice_get, slice_index_or}
use Rattle.std.proofs.lemmas.Option.{get_or_from_slice_get}
use Rattle.asm_state.specs.declared.value.Value.{Value}
use Rattle.asm_state.specs.Location.{State}
use Rattle.asm_state.specs.Signature.{Shape}
use Rattle.asm_meaning.specs.Value.{Reading}
use Rattle.asm_code.specs.code.CodeViews.{code_of, codes_of}
use Rattle.asm_code.specs.code.Readings.{reading, readings}
use Rattle.asm_code.specs.code.RuleMeaning.{IsSoundRule, AreSoundRules, rule_size, rule_sizes}
use Rattle.asm_code.specs.code.RuleViews.{rule_of, rules_of}
use Rattle.asm_code.specs.code.SoundCodes.{IsSound, AreSound}
use Rattle.asm_code.specs.declared.code.Code.{Code}
use Rattle.asm_code.specs.declared.rule_code.RuleCode.{RuleCode}

pub none_within : {L : Type 0} (vs : List Value) (ls : List (Option L)) (i : ℕ) → i < length vs → None ≡ slice_index_or (map (λ (v : Value). None) vs ++ ls) i None
none_within [] ls i below = absurd (omega (arith, below))
none_within (v ∷ vs) ls zero below = refl
none_within (v ∷ vs) ls (suc i) below = none_within vs ls i (omega (arith, below))

pub sound_within : (shape : Shape) (ts : List Code) (i : ℕ) (t : Code) → i < length ts → t ≡ get_or ts i t → AreSound shape (codes_of (map code_of ts)) → IsSound shape (code_of t)
sound_within shape [] i t below is sound = absurd (omega (arith, below))
sound_within shape (u ∷ ts) zero t below is sound = subst (λ (t : Code). IsSound shape (code_of t)) (sym is) sound.0
sound_within shape (u ∷ ts) (suc i) t below is sound = sound_within shape ts i t (omega (arith, below)) is sound.1

pub readings_map : (shape : Shape) (rs : List Reading) (A : State) (ts : List Code)
    → readings shape (codes_of (map code_of ts)) rs A ≡ map (λ (t : Code). reading shape (code_of t) rs A) ts
unfolding readings
readings_map shape rs A [] = refl
readings_map shape rs A (t ∷ ts) = ap (λ vs. reading shape (code_of t) rs A ∷ vs) (readings_map shape rs A ts)

pub sound_part : (shape : Shape) (Ps : List RuleCode) (i : ℕ) (P : RuleCode) → i < length Ps → P ≡ get_or Ps i P → AreSoundRules shape (rules_of (map rule_of Ps)) → IsSoundRule shape (rule_of P)
sound_part shape [] i P below is sound = absurd (omega (arith, below))
sound_part shape (Q ∷ Ps) zero P below is sound = subst (λ (k : RuleCode). IsSoundRule shape (rule_of k)) (sym is) sound.0
sound_part shape (Q ∷ Ps) (suc i) P below is sound = sound_part shape Ps i P (omega (arith, below)) is sound.1

pub size_of_part : (Ps : List RuleCode) (i : ℕ) (P : RuleCode) → i < length Ps → P ≡ get_or Ps i P → rule_size (rule_of P) ≤ rule_sizes (rules_of (map rule_of Ps))
size_of_part [] i P below is = absurd (omega (arith, below))
size_of_part (Q ∷ Ps) zero P below is = let same = ap (λ (k : RuleCode). rule_size (rule_of k)) is in omega (arith, same)
size_of_part (Q ∷ Ps) (suc i) P below is = let rest = size_of_part Ps i P (omega (arith, below)) is in omega (arith, rest)

pub universe_here : (us : List (List Value)) (u : ℕ) (vs : List Value) → slice_get us u ≡ Some vs → slice_index_or us u [] ≡ vs
universe_here us u vs is = get_or_from_slice_get us u vs [] is
