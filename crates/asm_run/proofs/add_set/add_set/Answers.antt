use Rattle.std.proofs.Common.{◌∙◌, refl, sym, ap, subst, arith}
use Rattle.asm_state.specs.Updates.{together}
use Rattle.asm_state.proofs.UpdateLemmas.UnionsAndMerges.{union_laws}
use Rattle.asm_updates.specs.code.Stands.{Stands}
use Rattle.asm_run.proofs.add_set.add_set.Goals as goal

pub returns-then-is_empty : goal.returns-then-is_empty
returns-then-is_empty c shape o is =
    let a = c.args in
    record {
      count = c.requires;
      path = refl;
      formed = record {
        set = is.set;
        gives = is.gives;
        adds = λ U stands. subst (λ V. Stands shape a.set V)
            (sym (ap (λ X. together X is.set) ((c.is_empty.ensures.empty shape U stands).0 c.if-is_empty.true) ∙ union_laws.unit is.set)) is.stands;
        counts = omega (arith, c.saturating_add-forming.ensures, is.counts);
      };
      exhausted = tt;
    }

pub returns : goal.returns
returns c shape o is = record {
  count = c.in_ok-union.ensures.changes.count;
  path = refl;
  formed = record {
    set = is.set;
    gives = is.gives;
    adds = λ U stands. c.in_ok-union.ensures.union shape U is.set stands is.stands;
    counts = omega (arith, c.saturating_add-forming.ensures, is.counts);
  };
  exhausted = tt;
}
