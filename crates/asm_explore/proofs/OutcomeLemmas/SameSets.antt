-- Free. Sets with the same entries in the same order.
--     next_same      one entry more
--     all_same       a set whose entries are those of another stands for the same updates
--     sets_shown     its result shows what that of the other shows
use Rattle.std.proofs.Common.{◌≡◌, ℕ, ◌+◌, ◌<◌, ◌≤◌, length, take, get_or, ap, sym, subst, ◌∙◌}
use Rattle.std.specs.Prelude.{slice_get}
use Rattle.std.proofs.lemmas.List.{take_more_same, take_all}
use Rattle.std.proofs.lemmas.Option.{slice_get-get_or, get_or_from_slice_get}
use Rattle.asm_state.specs.Signature.{Shape}
use Rattle.asm_state.specs.Updates.{UpdateSet}
use Rattle.asm_state.specs.declared.value.Value.{Value}
use Rattle.asm_state.specs.declared.value.Value.TheVariants.{Undef}
use Rattle.asm_updates.specs.code.SummaryRanges.{NamedRanges, first_range}
use Rattle.asm_updates.specs.code.Stands.{Stands}
use Rattle.asm_meaning.specs.Yields.{Gives, Exhausted}
use Rattle.asm_explore.specs.code.OutcomeLists.{Shows, IsShownBy}
use Rattle.asm_explore.specs.declared.outcomes.listed_outcome.RuleResult.{RuleResult}
use Rattle.asm_explore.specs.declared.outcomes.listed_outcome.RuleResult.TheVariants as answer
use Rattle.asm_explore.specs.declared.updates.Updates.{Updates}

abbrev no_entry : ℕ × (Value × Value)
no_entry = (0, (Undef, Undef))

pub next_same : (xs ys : NamedRanges) (i : ℕ) → i < length xs → i < length ys → take i xs ≡ take i ys → slice_get xs i ≡ slice_get ys i → take (i + 1) xs ≡ take (i + 1) ys
next_same xs ys i low far so_far same =
    take_more_same xs ys i no_entry low far so_far
    (get_or_from_slice_get xs i (get_or ys i no_entry) no_entry (same ∙ slice_get-get_or ys i no_entry far))

pub all_same : (a b : Updates) (i : ℕ) → length a.set.ranges ≤ i → length b.set.ranges ≤ i → a.set.count ≡ b.set.count → take i a.set.ranges ≡ take i b.set.ranges
    → (shape : Shape) (U : UpdateSet) → Stands shape b.set U → Stands shape a.set U
all_same a b i past end count same shape U stands =
    let ranges : a.set.ranges ≡ b.set.ranges = sym (take_all i a.set.ranges past) ∙ same ∙ take_all i b.set.ranges end in
    record {
      is_sound = stands.is_sound;
      has_count = count ∙ stands.has_count;
      has_ranges = λ n low. ap (λ es. first_range es n) ranges ∙ stands.has_ranges n low;
      names_within = stands.names_within;
      marks_faults = a.marked shape stands.is_sound (count ∙ stands.has_count);
    }

module _ (u v : Updates) (stands : (shape : Shape) (U : UpdateSet) → Stands shape u.set U → Stands shape v.set U) where
  set_shown : IsShownBy (answer.Set u) (answer.Set v)
  set_shown shape (Gives U) h = stands shape U h
  set_shown shape (Exhausted q) h = absurd h

  pub sets_shown : (a b : RuleResult) → a ≡ answer.Set u → b ≡ answer.Set v → IsShownBy a b
  sets_shown a b is there shape r h = subst (λ x. Shows shape x r) (sym there) (set_shown shape r (subst (λ x. Shows shape x r) is h))
