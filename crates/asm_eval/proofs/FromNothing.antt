-- Free. What comes of forming an outcome that begins with nothing: its set and its instances, or
-- the path where it is exhausted.
use Rattle.std.proofs.Common.{◌≡◌, ℕ, ◌+◌, min, ap, subst, ◌∙◌, arith}
use Rattle.std.specs.Prelude.{Result, OnOk, IfErr}
use Rattle.std.proofs.lemmas.Result.{on_ok_weaker}
use Rattle.asm_state.specs.Signature.{Shape, count_of}
use Rattle.asm_state.specs.Updates.{none}
use Rattle.asm_state.proofs.UpdateLemmas.UnionsAndMerges.{union_laws}
use Rattle.asm_updates.specs.code.SummaryRanges.{SummaryRanges}
use Rattle.asm_updates.specs.code.Stands.{Stands}
use Rattle.asm_meaning.specs.Does.{Outcome}
use Rattle.asm_eval.specs.code.FormedOutcomes.{Forms, Follows, IsSet, IsStoppedAt, greatest_count}
use Rattle.asm_meaning.specs.Yields.{Path}
use Rattle.asm_eval.specs.declared.outcome.Forming.{Forming}
use Rattle.asm_eval.specs.declared.stopped.Stopped.{Stopped}

pub from_nothing_laws-formed : (shape : Shape) (o : Outcome) (old new : SummaryRanges) (before after : ℕ) → Stands shape old none → before ≡ 0 → new.count ≡ count_of shape
    → Forms shape o old new before after → IsSet shape o new after
from_nothing_laws-formed shape o old new before after nothing zero count formed = record {
  set = formed.set;
  gives = formed.gives;
  count = count;
  stands = subst (Stands shape new) (union_laws.unit formed.set) (formed.adds none nothing);
  counts = let all : before + o.instances ≡ o.instances = omega (arith, zero) in formed.counts ∙ ap (λ m. min m greatest_count) all;
}

module _ {T : Type 0} (shape : Shape) (o : Path → Outcome) (p : Path) (old new : Forming) (r : Result T Stopped)
    (nothing : Stands shape old.set none) (count : old.set.count ≡ count_of shape) (zero : old.instances ≡ 0) (at : old.path.items ≡ p)
    (follows : Follows shape (o old.path.items) old new r) where
  pub from_nothing_laws-set : OnOk r (IsSet shape (o p) new.set new.instances)
  from_nothing_laws-set =
      on_ok_weaker r
      (λ formed. subst (λ q. IsSet shape (o q) new.set new.instances) at
      (from_nothing_laws-formed shape (o old.path.items) old.set new.set old.instances new.instances nothing zero (follows.count ∙ count) formed))
      follows.formed

  pub from_nothing_laws-stopped : IfErr r (IsStoppedAt (o p) new.path.items)
  from_nothing_laws-stopped = subst (λ q. IfErr r (IsStoppedAt (o q) new.path.items)) at follows.exhausted
