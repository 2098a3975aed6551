-- Free. If each way ends, no cycle is reached.
use Rattle.std.proofs.Common.{List, subst, inl, inr}
use Rattle.std.specs.Prelude.{Contains}
use Rattle.asm_check.specs.CallGraph.{LeadsTo, at_once, by_way_of, ReachesCycle, IsAcyclic, settled}

module _ {A : Type 0} (next : A → List A) where
  pub one_more : {f g h : A} → LeadsTo next f g → Contains (next g) h → LeadsTo next f h
  one_more {g = g} (at_once c) step = by_way_of g c (at_once step)
  one_more (by_way_of g c rest) step = by_way_of g c (one_more rest step)

  -- what a way leads to is acyclic too
  along : {f g : A} → LeadsTo next f g → IsAcyclic next f → IsAcyclic next g
  along (at_once c) (settled each) = each _ c
  along (by_way_of g c rest) (settled each) = along rest (each g c)

  never_back : (g : A) → IsAcyclic next g → ¬ (LeadsTo next g g)
  never_back g (settled each) (at_once c) = never_back g (each g c) (at_once c)
  never_back g (settled each) (by_way_of h c rest) = never_back h (each h c) (one_more rest c)

  pub settled_reaches_no_cycle : (f : A) → IsAcyclic next f → ¬ (ReachesCycle next f)
  settled_reaches_no_cycle f ends (g, inl e, back) = never_back g (subst (IsAcyclic next) e ends) back
  settled_reaches_no_cycle f ends (g, inr way, back) = never_back g (along way ends) back
