-- Free. Nodes that edges lead to.
--     one_rises, one_shallow, none_found    one node alone
--     first_more      the first node stays the first
--     found_more      with the step from the next node, and the nodes that it leads to
--     next_more       which are no deeper than it allows
use Rattle.std.proofs.Common.{◌≡◌, ℕ, zero, suc, ◌+◌, ◌<◌, ◌≤◌, List, [], ◌∷◌, ◌++◌, length, inl, inr, refl, sym, ap, subst, ◌∙◌, arith}
use Rattle.std.specs.Prelude.{slice_get, Some}
use Rattle.std.proofs.lemmas.Option.{slice_get_within}
use Rattle.asm_explore.specs.code.OutcomeLists.{Each}
use Rattle.asm_graph.specs.declared.graph.Node.{Node}
use Rattle.asm_graph.specs.declared.graph.Step.{Step}
use Rattle.asm_graph.specs.Graphs.{AreFound, DepthsRise, LeadsTo}
use Rattle.asm_graph.specs.code.GraphSoFar.{AreNew, AreShallow}
use Rattle.asm_graph.proofs.MoreNodes.{at_more}
use Rattle.asm_graph.proofs.Paired.{each_weaker, got_same, later_got, slice_first, slice_last, some_at}

pub one_rises : (n : Node) → DepthsRise (n ∷ [])
one_rises n zero zero m k low here there = omega (arith, ap (λ (x : Node). x.depth) (got_same (n ∷ []) 0 m k here there))
one_rises n zero (suc j) m k low here there = cc
one_rises n (suc i) j m k low here there = cc

pub one_shallow : (nodes : List Node) (n : Node) → length nodes ≡ 1 → slice_get nodes 0 ≡ Some n → AreShallow (n.depth + 1) nodes
one_shallow [] n one there = cc
one_shallow (m ∷ []) n one there = (omega (arith, ap (λ (x : Node). x.depth) (got_same (m ∷ []) 0 m n refl there)), tt)
one_shallow (m ∷ k ∷ nodes) n one there = absurd (omega (arith, one))

pub none_found : (nodes : List Node) (steps : List Step) → length nodes ≡ 1 → AreFound nodes steps
none_found nodes steps one i n past there = absurd (omega (arith, one, past, slice_get_within nodes i n there))

pub first_more : (old more new : List Node) → new ≡ old ++ more → 0 < length old → slice_get new 0 ≡ slice_get old 0
first_more old more new is some = let n = some_at old 0 some in at_more old more new is 0 n.0 n.1 ∙ sym n.1

module _ (old more new : List Node) (is : new ≡ old ++ more) (k : ℕ) (n : Node) (there : slice_get old k ≡ Some n) where
  pub found_more : (made : List Step) (s : Step) → length made ≡ k → Each (λ (m : Node). m.depth ≡ n.depth + 1) more → AreNew old new (λ i. LeadsTo i s) → AreFound old made → AreFound new (made ++ s ∷ [])
  found_more made s count deep leads found i m past here =
      elim (later_got (λ (m : Node). m.depth ≡ n.depth + 1) old more i m deep (subst (λ ns. slice_get ns i ≡ Some m) is here)) [
        | inl early ↦
            let f = found i m past early in
            record {
              number = f.number;
              earlier = f.earlier;
              there = at_more old more new is f.number f.earlier f.there;
              onward = f.onward;
              shown = slice_first made (s ∷ []) f.number f.onward f.shown;
              leads = f.leads;
              deeper = f.deeper;
            }
        | inr late ↦ record {
          number = k;
          earlier = n;
          there = at_more old more new is k n there;
          onward = s;
          shown = subst (λ j. slice_get (made ++ s ∷ []) j ≡ Some s) count (slice_last made s);
          leads = leads i late.0 (slice_get_within new i m here);
          deeper = late.1;
        }
      ]

  pub next_more : DepthsRise new → AreShallow (n.depth + 1) new → (m : Node) → slice_get new (k + 1) ≡ Some m → AreShallow (m.depth + 1) new
  next_more rise shallow m next =
      let up = rise k (k + 1) n m (omega arith) (at_more old more new is k n there) next in
      each_weaker (λ (x : Node). x.depth ≤ n.depth + 1) (λ (x : Node). x.depth ≤ m.depth + 1) (λ x h. omega (arith, h, up)) new shallow
