use Rattle.std.proofs.Common.{◌∙◌, subst, refl, inl, inr}
use Rattle.asm_explore.specs.declared.outcomes.listed_outcome.RuleResult.TheVariants as answer
use Rattle.asm_explore.specs.declared.outcomes.listed_outcome.ListedOutcome.{ListedOutcome}
use Rattle.asm_explore.specs.code.Sequences.{IsTold}
use Rattle.asm_explore.proofs.OutcomeLemmas.SequenceOutcomes.{ends_exhausted, ends_set, goes_set}
use Rattle.asm_explore.proofs.outcomes.sequence_outcomes.add_one_of_part.Goals as goal

pub returns-in_ok-add_outcome-in-Exhausted-clause-sorts : goal.returns-in_ok-add_outcome-in-Exhausted-clause-sorts
returns-in_ok-add_outcome-in-Exhausted-clause-sorts c =
    let a = c.args in
    let joined : ListedOutcome = record { choices = c.in_ok-choices.choices; answer = answer.Exhausted c.in_ok-path-in-Exhausted.path; hash = c.hash_of-hash.result; below = tt } in
    record {
      joined = joined;
      chosen = c.in_ok-choices.ensures;
      counted = tt;
      went = inl (
        ends_exhausted a.signature.now a.turns a.so_far.now.set a.one.now joined c.in-Exhausted.path c.in_ok-path-in-Exhausted.path c.in-Exhausted.is refl c.in_ok-path-in-Exhausted.ensures,
        c.in_ok-add_outcome-in-Exhausted.ensures.grows,
        refl,
      );
    }

pub returns-in_ok-add_outcome-in-Set-clause-sorts : goal.returns-in_ok-add_outcome-in-Set-clause-sorts
returns-in_ok-add_outcome-in-Set-clause-sorts c =
    let a = c.args in
    let joined : ListedOutcome = record { choices = c.in_ok-choices.choices; answer = answer.Set c.in_ok-joined-in-Set.joined; hash = c.hash_of-hash-in-Set.result; below = tt } in
    record {
      joined = joined;
      chosen = c.in_ok-choices.ensures;
      counted = c.in_ok-joined-in-Set.ensures.count ∙ c.requires.so_far;
      went = inl (
        ends_set a.signature.now a.turns a.so_far.now.set a.one.now joined c.in-Set.set c.in_ok-joined-in-Set.joined c.in-Set.is refl c.in_ok-joined-in-Set.ensures.merges
            (subst (IsTold a.signature.now a.turns c.in-Set.set.set) c.if-last.true c.is_last-last.ensures),
        c.in_ok-add_outcome-in-Set.ensures.grows,
        refl,
      );
    }

pub returns-in_ok-add_outcome-in-Set-2-clause-sorts : goal.returns-in_ok-add_outcome-in-Set-2-clause-sorts
returns-in_ok-add_outcome-in-Set-2-clause-sorts c =
    let a = c.args in
    let joined : ListedOutcome = record { choices = c.in_ok-choices.choices; answer = answer.Set c.in_ok-joined-in-Set.joined; hash = c.hash_of-hash-in-Set.result; below = tt } in
    record {
      joined = joined;
      chosen = c.in_ok-choices.ensures;
      counted = c.in_ok-joined-in-Set.ensures.count ∙ c.requires.so_far;
      went = inr (
        goes_set a.signature.now a.turns a.so_far.now.set a.one.now joined c.in-Set.set c.in_ok-joined-in-Set.joined c.in-Set.is refl c.in_ok-joined-in-Set.ensures.merges
            (subst (IsTold a.signature.now a.turns c.in-Set.set.set) c.if-last.false c.is_last-last.ensures),
        c.in_ok-add_outcome-in-Set-2.ensures.grows,
        refl,
      );
    }
