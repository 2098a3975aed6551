-- Bridge to the code. What forming a rule's outcome does to a summary and to a number of instances.
--     Forms         an outcome that gives a set: its set is added, and its instances are counted
--     IsSet         a summary and a number are the set and the instances of an outcome that gives a
--                   set
--     IsFormed      an outcome of the code is one of the definitions
--     IsStoppedAt   what is said of an outcome whose forming stopped at a path
--     IsMergedPart  a part of a sequence gives a set, which is joined to those of the parts before
--                   it
--     Follows       what a call promises that forms an outcome, whether it ends, is exhausted or is
--                   out of memory
--     FollowsUpon   the same of a part of a sequence
--     KeepsForming  what a call leaves as it was that joins the set of a part to those before it
use Rattle.std.specs.Prelude.{◌≡◌, ℕ, ◌+◌, min, Result, OnOk, IfOk, IfErr}
use Rattle.asm_state.specs.Signature.{Shape, count_of}
use Rattle.asm_state.specs.Updates.{UpdateSet, IsConsistent, merge}
use Rattle.asm_updates.specs.code.SummaryRanges.{SummaryRanges}
use Rattle.asm_updates.specs.code.Stands.{Stands, Adds}
use Rattle.asm_eval.specs.code.PartSets.{IsPartSet}
use Rattle.asm_meaning.specs.Yields.{Path, Gives, Exhausted}
use Rattle.asm_meaning.specs.Does as does
pub use Rattle.asm_meaning.specs.Does.{greatest_count}
use Rattle.asm_eval.specs.declared.outcome.Forming.{Forming}
use Rattle.asm_eval.specs.declared.outcome.Outcome.{Outcome}
use Rattle.asm_eval.specs.declared.outcome.Outcome.TheVariants.{Set, Exhausted as ExhaustedAt}
use Rattle.asm_eval.specs.declared.part_set.PartSet.{PartSet}
use Rattle.asm_eval.specs.declared.stopped.Stopped.{Stopped}
use Rattle.asm_eval.specs.declared.stopped.Stopped.TheVariants as stopped
use Rattle.asm_eval.specs.declared.stopped.Stopped.TheVariants.{Memory}

pub record Forms (shape : Shape) (o : does.Outcome) (old new : SummaryRanges) (before after : ℕ) : Type 0 where
  pub set : UpdateSet
  pub gives : o.result ≡ Gives set
  pub adds : Adds shape set old new
  pub counts : after ≡ min (before + o.instances) greatest_count

-- a set by its summary, with the instances
pub record IsSet (shape : Shape) (o : does.Outcome) (summary : SummaryRanges) (instances : ℕ) : Type 0 where
  pub set : UpdateSet
  pub gives : o.result ≡ Gives set
  pub count : summary.count ≡ count_of shape
  pub stands : Stands shape summary set
  pub counts : instances ≡ min o.instances greatest_count

abbrev pub IsFormed : Shape → does.Outcome → Outcome → Type 0
IsFormed shape o (Set summary instances) = IsSet shape o summary instances
IsFormed shape o (ExhaustedAt p) = o.result ≡ Exhausted p

-- running out of memory says nothing of the outcome
abbrev pub IsStoppedAt : does.Outcome → Path → Stopped → Type 0
IsStoppedAt o p stopped.Memory = Unit {0}
IsStoppedAt o p stopped.Exhausted = o.result ≡ Exhausted p

-- a part after the set U: what its own set is, and the turbo merge of U with it
pub record IsMergedPart (shape : Shape) (o : does.Outcome) (U : UpdateSet) (so_far : SummaryRanges) (part : PartSet) (before after : ℕ) : Type 0 where
  pub set : UpdateSet
  pub gives : o.result ≡ Gives set
  pub is : IsPartSet set part
  pub merged : Stands shape so_far (merge U set)
  pub counts : after ≡ min (before + o.instances) greatest_count

-- what a call promises that forms an outcome
pub record Follows {T : Type 0} (shape : Shape) (o : does.Outcome) (old new : Forming) (result : Result T Stopped) : Type 0 where
  pub count : new.set.count ≡ old.set.count
  pub path : OnOk result (new.path.items ≡ old.path.items)
  pub formed : OnOk result (Forms shape o old.set new.set old.instances new.instances)
  pub exhausted : IfErr result (IsStoppedAt o new.path.items)

-- what a call promises that forms a part of a sequence, whose outcome depends on the set of the
-- parts before it
pub record FollowsUpon (shape : Shape) (o : UpdateSet → does.Outcome) (so_far joined : SummaryRanges) (old new : Forming) (result : Result PartSet Stopped) : Type 0 where
  pub count : new.set.count ≡ old.set.count
  pub so_far_count : OnOk result (joined.count ≡ so_far.count)
  pub path : OnOk result (new.path.items ≡ old.path.items)
  pub formed : (U : UpdateSet) → Stands shape so_far U → IsConsistent U → IfOk result (λ part. IsMergedPart shape (o U) U joined part old.instances new.instances)
  pub exhausted : (U : UpdateSet) → Stands shape so_far U → IsConsistent U → IfErr result (IsStoppedAt (o U) new.path.items)

-- what a call leaves as it was that joins the set of a part to those before it; it is refused for
-- memory alone
pub record KeepsForming {T : Type 0} (so_far joined : SummaryRanges) (old new : Forming) (result : Result T Stopped) : Type 0 where
  pub count : new.set.count ≡ old.set.count
  pub so_far_count : joined.count ≡ so_far.count
  pub path : new.path.items ≡ old.path.items
  pub instances : new.instances ≡ old.instances
  pub stopped : IfErr result (λ stop. stop ≡ Memory)
