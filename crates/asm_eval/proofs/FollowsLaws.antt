-- Free. How a summary and a count of instances come to hold an outcome.
--     forms_nothing, forms_both, forms_counted     of nothing, of two parts, and with one more
--                                                  instance
--     following_laws-..                            the same of what a call promises, and of an
--                                                  error that is handed on
use Rattle.std.proofs.Common.{◌≡◌, ℕ, ◌+◌, ◌≤◌, min, refl, sym, ap, subst, ◌∙◌, arith}
use Rattle.std.specs.Prelude.{Result, Ok, Err, IsErrAnd}
use Rattle.std.proofs.lemmas.Result.{IfErr-at_err}
use Rattle.asm_state.specs.Signature.{Shape}
use Rattle.asm_state.specs.Updates.{UpdateSet, none, together}
use Rattle.asm_state.proofs.UpdateLemmas.UnionsAndMerges.{union_laws}
use Rattle.asm_updates.specs.code.SummaryRanges.{SummaryRanges}
use Rattle.asm_updates.specs.code.Stands.{Stands, Adds}
use Rattle.asm_meaning.specs.Does.{Outcome, nothing, both, counted}
use Rattle.asm_eval.specs.code.FormedOutcomes.{Forms, Follows, IsStoppedAt, greatest_count}
use Rattle.asm_meaning.specs.Yields.{Path, Gives, Exhausted, beside}
use Rattle.asm_eval.specs.declared.outcome.Forming.{Forming}
use Rattle.asm_eval.specs.declared.stopped.Stopped.{Stopped}
use Rattle.asm_eval.specs.declared.stopped.Stopped.TheVariants as stopped

-- ---- what is added

-- the count is cut off, whether once or twice
same_count : (n g : ℕ) → n ≤ g → n ≡ min (n + 0) g
same_count n g small = omega arith

count_twice : (n a b g : ℕ) → min (min (n + a) g + b) g ≡ min (n + (a + b)) g
count_twice n a b g = omega arith

module _ (shape : Shape) where
  adds_none : (s : SummaryRanges) → Adds shape none s s
  adds_none s U stands = subst (Stands shape s) (sym (union_laws.swap U none ∙ union_laws.unit U)) stands

  -- one set after another
  adds_both : (old mid new : SummaryRanges) (V W : UpdateSet) → Adds shape V old mid → Adds shape W mid new → Adds shape (together V W) old new
  adds_both old mid new V W first then U stands = subst (Stands shape new) (union_laws.group U V W) (then (together U V) (first U stands))

  pub following_laws-forms_same : (o q : Outcome) (old new : SummaryRanges) (before after : ℕ) → o ≡ q → Forms shape o old new before after → Forms shape q old new before after
  following_laws-forms_same o q old new before after e = subst (λ it. Forms shape it old new before after) e

  pub forms_nothing : (s : SummaryRanges) (n : ℕ) → n ≤ greatest_count → Forms shape nothing s s n n
  forms_nothing s n small = record { set = none; gives = refl; adds = adds_none s; counts = same_count n greatest_count small }

  pub forms_both : (o q : Outcome) (old mid new : SummaryRanges) (before n after : ℕ)
      → Forms shape o old mid before n → Forms shape q mid new n after → Forms shape (both o q) old new before after
  forms_both o q old mid new before n after first then = record {
    set = together first.set then.set;
    gives = ap (λ r. beside r q.result) first.gives ∙ ap (beside (Gives first.set)) then.gives;
    adds = adds_both old mid new first.set then.set first.adds then.adds;
    counts = then.counts ∙ ap (λ m. min (m + q.instances) greatest_count) first.counts ∙ count_twice before o.instances q.instances greatest_count;
  }

  -- an instance is counted first
  pub forms_counted : (o : Outcome) (old new : SummaryRanges) (before more after : ℕ) → more ≡ min (before + 1) greatest_count
      → Forms shape o old new more after → Forms shape (counted o) old new before after
  forms_counted o old new before more after is formed = record {
    set = formed.set;
    gives = formed.gives;
    adds = formed.adds;
    counts = formed.counts ∙ ap (λ m. min (m + o.instances) greatest_count) is ∙ count_twice before 1 o.instances greatest_count;
  }

-- ---- where it stopped

-- what is exhausted together is exhausted at the same path
pub following_laws-stopped_with : (o q : Outcome) (p : Path) (stop : Stopped) → ((at : Path) → o.result ≡ Exhausted at → q.result ≡ Exhausted at) → IsStoppedAt o p stop → IsStoppedAt q p stop
following_laws-stopped_with o q p stopped.Memory ends is = tt
following_laws-stopped_with o q p stopped.Exhausted ends is = ends p is

-- ---- what a call promises, whichever way it ends

module _ {T : Type 0} (shape : Shape) where
  -- of an equal outcome
  pub following_laws-same : (r : Result T Stopped) (o q : Outcome) (old new : Forming) → o ≡ q → Follows shape o old new r → Follows shape q old new r
  following_laws-same r o q old new e = subst (λ it. Follows shape it old new r) e

  -- if nothing is to be formed
  pub following_laws-nothing : (x : T) (o : Outcome) (made : Forming) → nothing ≡ o → Follows shape o made made (Ok x)
  following_laws-nothing x o made e = record {
    count = refl;
    path = refl;
    formed = following_laws-forms_same shape nothing o made.set made.set made.instances made.instances e (forms_nothing shape made.set made.instances (omega (arith, made.in_range)));
    exhausted = tt;
  }

  -- of two parts, with a set after the first
  pub following_laws-both : {S : Type 0} (x : S) (r : Result T Stopped) (o q : Outcome) (old mid new : Forming)
      → Follows shape o old mid (Ok x) → Follows shape q mid new r → Follows shape (both o q) old new r
  following_laws-both x (Ok y) o q old mid new first then = record {
    count = then.count ∙ first.count;
    path = then.path ∙ first.path;
    formed = forms_both shape o q old.set mid.set new.set old.instances mid.instances new.instances first.formed then.formed;
    exhausted = tt;
  }
  following_laws-both x (Err stop) o q old mid new first then = record {
    count = then.count ∙ first.count;
    path = tt;
    formed = tt;
    exhausted = following_laws-stopped_with q (both o q) new.path.items stop
        (λ p ends. ap (λ it. beside it q.result) first.formed.gives ∙ ap (beside (Gives first.formed.set)) ends) then.exhausted;
  }

  -- with one more instance, counted first
  pub following_laws-counted : (r : Result T Stopped) (o : Outcome) (old mid new : Forming) → mid.set ≡ old.set → mid.path.items ≡ old.path.items
      → mid.instances ≡ min (old.instances + 1) greatest_count → Follows shape o mid new r → Follows shape (counted o) old new r
  following_laws-counted (Ok x) o old mid new same stays is then = record {
    count = then.count ∙ ap (λ (s : SummaryRanges). s.count) same;
    path = then.path ∙ stays;
    formed = subst (λ s. Forms shape (counted o) s new.set old.instances new.instances) same
        (forms_counted shape o mid.set new.set old.instances mid.instances new.instances is then.formed);
    exhausted = tt;
  }
  following_laws-counted (Err stop) o old mid new same stays is then = record {
    count = then.count ∙ ap (λ (s : SummaryRanges). s.count) same;
    path = tt;
    formed = tt;
    exhausted = following_laws-stopped_with o (counted o) new.path.items stop (λ p ends. ends) then.exhausted;
  }

  -- if an error is handed on
  pub following_laws-stopped : {S : Type 0} (given : Result S Stopped) (returned : Result T Stopped) (stop : Stopped) (o q : Outcome) (old mid new : Forming) → mid.set.count ≡ old.set.count
      → given ≡ Err stop → IsErrAnd returned (λ again. again ≡ stop) → ((p : Path) → o.result ≡ Exhausted p → q.result ≡ Exhausted p)
      → Follows shape o mid new given → Follows shape q old new returned
  following_laws-stopped given (Ok x) stop o q old mid new same was again too first = absurd again
  following_laws-stopped given (Err other) stop o q old mid new same was again too first = record {
    count = first.count ∙ same;
    path = tt;
    formed = tt;
    exhausted = subst (IsStoppedAt q new.path.items) (sym again) (following_laws-stopped_with o q new.path.items stop too (IfErr-at_err (IsStoppedAt o new.path.items) was first.exhausted));
  }
