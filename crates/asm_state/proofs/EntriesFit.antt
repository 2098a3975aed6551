-- Free. Whether the entries of a table are in a domain, each argument list once.
use Rattle.std.proofs.Common.{◌≡◌, ◌≢◌, ℕ, ◌+◌, ◌<◌, ◌≤◌, true, false, nat_eq, List, [], length, get_or, refl, sym, ap, subst, ◌∙◌, arith, IsTrue, All}
use Rattle.std.proofs.lemmas.Bool.{false≢true}
use Rattle.std.proofs.lemmas.Bool.Decides.{nat_tests}
use Rattle.std.proofs.lemmas.List.{get_or_default}
use Rattle.asm_state.specs.declared.value.Value.{Value}
use Rattle.asm_state.specs.Tables.{Domain, argument_lists, is_in, is_list, AreEntriesIn}
use Rattle.asm_state.specs.Universe.{IsUniverse}
use Rattle.asm_state.proofs.LayoutsSoFar.{listed_in}
use Rattle.asm_state.proofs.TableValues.{stands_once, other_list}
use Rattle.asm_state.proofs.ValueLaws.{value_laws}

abbrev pub Entry : Type 0
Entry = List Value × Value

-- the argument list of none of the first entries is this one
abbrev pub NoneIs : List Entry → ℕ → List Value → Type 0
NoneIs entries i vs = (j : ℕ) (d : Entry) → j < i → (get_or entries j d).0 ≢ vs

pub none_more : (entries : List Entry) (i : ℕ) (vs : List Value) (entry : Entry) → i < length entries → entry ≡ get_or entries i entry → NoneIs entries i vs → entry.0 ≢ vs → NoneIs entries (i + 1) vs
none_more entries i vs entry h is before other j d below same =
    elim (nat_eq j i) as (λ b. nat_eq j i ≡ b → ⊥) [
      | true ↦ λ e.
          let here : j ≡ i = grind (arith, nat_tests) in
          other (ap (λ (x : Entry). x.0) (is ∙ get_or_default entries i entry d h) ∙ ap (λ n. (get_or entries n d).0) (sym here) ∙ same)
      | false ↦ λ e. let earlier : j < i = grind (arith, nat_tests) in before j d earlier same
    ] refl

pub other_position : (domain : Domain) → All IsUniverse domain → (p k : ℕ) (us : List Value) → p < length (argument_lists domain) → k < length (argument_lists domain) → p ≢ k
    → get_or (argument_lists domain) p [] ≡ us → us ≢ get_or (argument_lists domain) k []
other_position domain sound p k us h g apart is same = stands_once domain sound p k h g (λ e. apart (sym e)) (is ∙ same)

pub outside_list : (domain : Domain) (k : ℕ) (us : List Value) → k < length (argument_lists domain) → is_in domain us ≡ false → us ≢ get_or (argument_lists domain) k []
outside_list domain k us h out same = false≢true (sym out ∙ ap (is_in domain) same ∙ listed_in domain k h)

-- the first entries are in the domain, each argument list once, and before a position
pub record FitSoFar (domain : Domain) (entries : List Entry) (i end : ℕ) : Type 0 where
  pub in_domain : (j : ℕ) (d : Entry) → j < i → IsTrue (is_in domain (get_or entries j d).0)
  pub apart : (j k : ℕ) (d : Entry) → j < k → k < i → is_list (get_or entries j d).0 (get_or entries k d).0 ≡ false
  pub before : (j : ℕ) (d : Entry) → j < i → (p : ℕ) × (p < end) × (p < length (argument_lists domain)) × (get_or (argument_lists domain) p [] ≡ (get_or entries j d).0)

pub none_fit : (domain : Domain) (entries : List Entry) → FitSoFar domain entries 0 0
none_fit domain entries = record {
  in_domain = λ j d h. absurd (nothing j h);
  apart = λ j k d h g. absurd (nothing k g);
  before = λ j d h. absurd (nothing j h);
}
  where
    nothing : (j : ℕ) → j < 0 → ⊥
    nothing j h = omega (arith, h)

-- those before the end of the others aren't at or after it
pub none_past : (domain : Domain) → All IsUniverse domain → (entries : List Entry) (i end k : ℕ) → FitSoFar domain entries i end → k < length (argument_lists domain) → end ≤ k → NoneIs entries i (get_or (argument_lists domain) k [])
none_past domain sound entries i end k so_far h past j d below =
    let it = so_far.before j d below in
    let apart : it.0 ≢ k = omega (arith, it.1, past) in
    other_position domain sound it.0 k (get_or entries j d).0 it.2 h apart it.3

pub fit_more : (domain : Domain) (entries : List Entry) (i end k : ℕ) (entry : Entry) → FitSoFar domain entries i end → i < length entries → entry ≡ get_or entries i entry
    → k < length (argument_lists domain) → get_or (argument_lists domain) k [] ≡ entry.0 → NoneIs entries i (get_or (argument_lists domain) k []) → (next : ℕ) → end ≤ next → k < next → FitSoFar domain entries (i + 1) next
fit_more domain entries i end k entry so_far h is inside at none next longer below = record {
  in_domain = λ j d g. each j d g (λ vs. IsTrue (is_in domain vs)) (so_far.in_domain j d) (subst (λ vs. is_in domain vs ≡ true) at (listed_in domain k inside));
  apart = λ j m d less g. apart_at j m d less g;
  before = λ j d g. each j d g (λ vs. (p : ℕ) × (p < next) × (p < length (argument_lists domain)) × (get_or (argument_lists domain) p [] ≡ vs))
      (λ earlier. let it = so_far.before j d earlier in (it.0, omega (arith, it.1, longer), it.2, it.3)) (k, below, inside, at);
}
  where
    here_is : (d : Entry) → get_or entries i d ≡ entry
    here_is d = get_or_default entries i d entry h ∙ sym is

    each : (j : ℕ) (d : Entry) → j < i + 1 → (P : List Value → Type 0) → (j < i → P (get_or entries j d).0) → P entry.0 → P (get_or entries j d).0
    each j d g P earlier last =
        elim (nat_eq j i) as (λ b. nat_eq j i ≡ b → P (get_or entries j d).0) [
          | true ↦ λ e. let same : j ≡ i = grind (arith, nat_tests) in subst (λ (x : Entry). P x.0) (sym (ap (λ n. get_or entries n d) same ∙ here_is d)) last
          | false ↦ λ e. let before : j < i = grind (arith, nat_tests) in earlier before
        ] refl

    apart_at : (j m : ℕ) (d : Entry) → j < m → m < i + 1 → is_list (get_or entries j d).0 (get_or entries m d).0 ≡ false
    apart_at j m d less g =
        elim (nat_eq m i) as (λ b. nat_eq m i ≡ b → is_list (get_or entries j d).0 (get_or entries m d).0 ≡ false) [
          | true ↦ λ e.
              let same : m ≡ i = grind (arith, nat_tests) in
              let earlier : j < i = omega (arith, less, same) in
              other_list (get_or entries j d).0 (get_or entries m d).0
              (λ alike. none j d earlier (alike ∙ ap (λ n. (get_or entries n d).0) same ∙ ap (λ (x : Entry). x.0) (here_is d) ∙ sym at))
          | false ↦ λ e. let before : m < i = grind (arith, nat_tests) in so_far.apart j m d less before
        ] refl

pub all_fit : (domain : Domain) (entries : List Entry) (i end : ℕ) → i ≡ length entries → FitSoFar domain entries i end → AreEntriesIn domain entries
all_fit domain entries i end all so_far = record {
  in_domain = λ j d h. so_far.in_domain j d (subst (λ n. j < n) (sym all) h);
  apart = λ j k d less h. so_far.apart j k d less (subst (λ n. k < n) (sym all) h);
}

-- ---- what shows that the entries don't fit

pub one_out : (domain : Domain) (entries : List Entry) (i : ℕ) (entry : Entry) → i < length entries → entry ≡ get_or entries i entry → is_in domain entry.0 ≡ false → ¬ (AreEntriesIn domain entries)
one_out domain entries i entry h is out fit = false≢true (sym out ∙ ap (λ (x : Entry). is_in domain x.0) is ∙ fit.in_domain i entry h)

pub one_twice : (domain : Domain) (entries : List Entry) (i j : ℕ) (entry : Entry) (vs : List Value) → i < length entries → entry ≡ get_or entries i entry → j < i
    → ((d : Entry) → (get_or entries j d).0 ≡ vs) → vs ≡ entry.0 → ¬ (AreEntriesIn domain entries)
one_twice domain entries i j entry vs h is less at same fit =
    false≢true (sym (fit.apart j i entry less h)
    ∙ (value_laws.same_list (get_or entries j entry).0 (get_or entries i entry).0).1 (at entry ∙ same ∙ ap (λ (x : Entry). x.0) is))
