-- Free. Nodes, as more of them are reached.
--     same_contents, differ        contents of one state are the same, and others are of another one
--     shallow_more, rise_more      with nodes after them that are as deep as given, or deeper
--     grows_none, grows_one, grows_both     nodes with none after them, with one, and with more
--                                           twice
--     new_both, none_new  numbers of nodes that are new
--     goes_more, near_more, shown_more      what leads to a node leads to it still
use Rattle.std.proofs.Common.{◌≡◌, ◌≢◌, ℕ, ◌+◌, ◌≤◌, Bool, List, [], ◌∷◌, ◌++◌, length, map, inl, inr, sym, ap, subst, ◌∙◌, append_assoc, append-nil, arith}
use Rattle.std.proofs.lemmas.Bool.{cases_lt}
use Rattle.std.proofs.lemmas.List.{ext_get_or, map-append}
use Rattle.std.proofs.lemmas.Option.{slice_get_within}
use Rattle.std.specs.Prelude.{slice_get, Some}
use Rattle.asm_state.proofs.StatesByNumbers.{state_laws}
use Rattle.asm_state.specs.Location.{State}
use Rattle.asm_state.specs.Signature.{Shape, location_at, state_of}
use Rattle.asm_state.specs.Updates.{fire}
use Rattle.asm_state.specs.code.Contents.{IsStateOf}
use Rattle.asm_state.specs.declared.value.Value.{Value}
use Rattle.asm_state.specs.declared.value.Value.TheVariants.{Undef}
use Rattle.asm_meaning.specs.Run.{Specification}
use Rattle.asm_meaning.specs.Yields.{Result}
use Rattle.asm_explore.specs.declared.outcomes.listed_outcome.ListedOutcome.{ListedOutcome}
use Rattle.asm_explore.specs.declared.outcomes.outcomes_error.RuleOverLimit.{RuleOverLimit}
use Rattle.asm_explore.specs.code.OutcomeLists.{Each}
use Rattle.asm_explore.specs.code.ReachedStates.{steps_from}
use Rattle.asm_graph.specs.declared.graph.Edge.{Edge}
use Rattle.asm_graph.specs.declared.graph.Node.{Node}
use Rattle.asm_graph.specs.declared.graph.Step.{Step}
use Rattle.asm_graph.specs.declared.graph.Step.TheVariants as step
use Rattle.asm_graph.specs.declared.graph.EdgeEnd.{EdgeEnd}
use Rattle.asm_graph.specs.declared.graph.EdgeEnd.TheVariants as target
use Rattle.asm_graph.specs.Graphs.{AreApart, AreEdges, DepthsRise, GoesTo, IsEdge, IsShown, StandsAt, state_at}
use Rattle.asm_graph.specs.code.GraphSoFar.{AreNear, AreNew, AreNodesRight, AreShallow, IsFollowed, IsNear, IsNodeRight, NodesGrow}
use Rattle.asm_graph.proofs.Paired.{any_weaker, apart_push, each_append, each_got, each_weaker, later_got, slice_first}

pub same_contents : (shape : Shape) (xs ys : List Value) → IsStateOf shape xs → IsStateOf shape ys → state_of shape xs ≡ state_of shape ys → xs ≡ ys
same_contents shape xs ys left right same =
    ext_get_or Undef xs ys (left.whole ∙ sym right.whole)
    (λ i low. state_laws.content_at shape xs i left (omega (arith, low, left.whole)) ∙ ap (λ A. A (location_at shape i)) same
    ∙ sym (state_laws.content_at shape ys i right (omega (arith, low, left.whole))))

-- contents that no node has are those of a state that none has
pub differ : (shape : Shape) (old : List Node) (xs : List Value) → Each (λ (m : Node). IsStateOf shape m.state) old → IsStateOf shape xs
    → Each (λ (m : Node). m.state ≢ xs) old → Each (λ A. A ≢ state_of shape xs) (map (state_at shape) old)
differ shape [] xs kept here new = tt
differ shape (m ∷ old) xs kept here new = (λ same. new.0 (same_contents shape m.state xs kept.0 here same), differ shape old xs kept.1 here new.1)

module _ (depth : ℕ) (old more new : List Node) (is : new ≡ old ++ more) (deep : Each (λ (n : Node). n.depth ≡ depth) more) (before : AreShallow depth old) where
  pub shallow_more : AreShallow depth new
  shallow_more = subst (AreShallow depth) (sym is)
      (each_append (λ (n : Node). n.depth ≤ depth) old more before (each_weaker (λ (n : Node). n.depth ≡ depth) (λ (n : Node). n.depth ≤ depth) (λ n h. omega (arith, h)) more deep))

  pub rise_more : DepthsRise old → DepthsRise new
  rise_more rise i j m n low here there =
      elim (later_got (λ (n : Node). n.depth ≡ depth) old more j n deep (subst (λ ns. slice_get ns j ≡ Some n) is there)) [
        | inl first ↦ elim (later_got (λ (n : Node). n.depth ≡ depth) old more i m deep (subst (λ ns. slice_get ns i ≡ Some m) is here)) [
          | inl early ↦ rise i j m n low early first
          | inr late ↦ absurd (omega (arith, low, late.0, slice_get_within old j n first))
        ]
        | inr last ↦ omega (arith, last.1, each_got (λ (n : Node). n.depth ≤ depth) new i m shallow_more here)
      ]

-- ---- nodes that are added

module _ (shape : Shape) (specification : Specification) (turns : ℕ) (within right rests : State → Bool) (steps most depth : ℕ) where
  abbrev AreRight : List Node → Type 0
  AreRight nodes = AreNodesRight shape specification turns within right rests steps most nodes

  abbrev Grow : (old new : List Node) → Type 0
  Grow old new = NodesGrow shape specification turns within right rests steps most depth old new

  pub grows_none : (old : List Node) → AreRight old → Grow old old
  grows_none old kept = record { more = []; is = sym (append-nil old); deep = tt; kept = kept }

  pub grows_one : (old new : List Node) (n : Node) → new ≡ old ++ n ∷ [] → AreRight old → AreShallow depth old
      → IsNodeRight shape specification turns within right rests n → n.depth ≡ depth → Each (λ (m : Node). m.state ≢ n.state) old → depth ≤ steps → length new ≤ most → Grow old new
  grows_one old new n is kept before here deep fresh low few =
      let one : Each (λ (m : Node). m.depth ≡ depth) (n ∷ []) = (deep, tt) in
      record {
        more = n ∷ [];
        is = is;
        deep = one;
        kept = record {
          each = subst (Each (IsNodeRight shape specification turns within right rests)) (sym is)
              (each_append (IsNodeRight shape specification turns within right rests) old (n ∷ []) kept.each (here, tt));
          apart = subst (λ ns. AreApart (map (state_at shape) ns)) (sym is)
              (subst AreApart (sym (map-append (state_at shape) old (n ∷ []))) (apart_push (map (state_at shape) old) (state_at shape n) kept.apart (differ shape old n.state
              (each_weaker (IsNodeRight shape specification turns within right rests) (λ (m : Node). IsStateOf shape m.state) (λ m h. h.kept) old kept.each) here.kept fresh)));
          rise = rise_more depth old (n ∷ []) new is one before kept.rise;
          shallow = each_weaker (λ (m : Node). m.depth ≤ depth) (λ (m : Node). m.depth ≤ steps) (λ m h. omega (arith, h, low)) new (shallow_more depth old (n ∷ []) new is one before);
          few = few;
        };
      }

  pub grows_both : (old mid new : List Node) → Grow old mid → Grow mid new → Grow old new
  grows_both old mid new first then = record {
    more = first.more ++ then.more;
    is = then.is ∙ ap (λ ns. ns ++ then.more) first.is ∙ append_assoc old first.more then.more;
    deep = each_append (λ (n : Node). n.depth ≡ depth) first.more then.more first.deep then.deep;
    kept = then.kept;
  }

  pub grown_shallow : (old new : List Node) → Grow old new → AreShallow depth old → AreShallow depth new
  grown_shallow old new grow before = shallow_more depth old grow.more new grow.is grow.deep before

pub none_new : (nodes : List Node) (P : ℕ → Type 0) → AreNew nodes nodes P
none_new nodes P i past low = absurd (omega (arith, past, low))

pub new_both : (old mid new : List Node) (P : ℕ → Type 0) → AreNew old mid P → AreNew mid new P → AreNew old new P
new_both old mid new P first then i past low = elim (cases_lt i (length mid)) [ inl below ↦ first i past below | inr above ↦ then i above low ]

-- ---- what leads to nodes

module _ (old more new : List Node) (is : new ≡ old ++ more) where
  pub at_more : (i : ℕ) (n : Node) → slice_get old i ≡ Some n → slice_get new i ≡ Some n
  at_more i n there = subst (λ ns. slice_get ns i ≡ Some n) (sym is) (slice_first old more i n there)

  pub near_more : (depth : ℕ) (end : EdgeEnd) → IsNear old depth end → IsNear new depth end
  near_more depth (target.Node i) h = (h.0, at_more i h.0 h.1, h.2)
  near_more depth (target.Fault f) h = h

  pub all_near_more : (n : Node) (s : Step) → AreNear old n s → AreNear new n s
  all_near_more n step.Cut h = h
  all_near_more n step.Crowded h = h
  all_near_more n (step.Edges es) h = each_weaker (λ (e : Edge). IsNear old (n.depth + 1) e.to) (λ (e : Edge). IsNear new (n.depth + 1) e.to) (λ e. near_more (n.depth + 1) e.to) es.items h

  module _ (shape : Shape) where
    pub stands_more : (i : ℕ) (B : State) → StandsAt shape old i B → StandsAt shape new i B
    stands_more i B h = (h.0, at_more i h.0 h.1, h.2)

    pub goes_more : (A : State) (r : Result) (t : EdgeEnd) → GoesTo shape old A r t → GoesTo shape new A r t
    goes_more A r (target.Node i) h = record { set = h.set; gives = h.gives; consistent = h.consistent; leads = stands_more i (fire A h.set) h.leads }
    goes_more A r (target.Fault f) h = h

    module _ (specification : Specification) (turns : ℕ) (A : State) where
      edge_more : (e : Edge) → IsEdge shape specification turns old A e → IsEdge shape specification turns new A e
      edge_more e h = record { apart = h.apart; own = h.own; goes = λ s taken. goes_more A (steps_from specification turns A s) e.to (h.goes s taken) }

      edges_more : (es : List Edge) → AreEdges shape specification turns old A es → AreEdges shape specification turns new A es
      edges_more es h = record {
        each = each_weaker (IsEdge shape specification turns old A) (IsEdge shape specification turns new A) edge_more es h.each;
        all = λ s.
            let r = steps_from specification turns A s in
            any_weaker (λ (e : Edge). GoesTo shape old A r e.to) (λ (e : Edge). GoesTo shape new A r e.to) (λ e. goes_more A r e.to) es (h.all s);
      }

    pub shown_more : (specification : Specification) (turns : ℕ) (within : State → Bool) (crowds : State → RuleOverLimit → Type 0) (steps : ℕ) (n : Node) (s : Step)
        → IsShown shape specification turns within crowds steps old n s → IsShown shape specification turns within crowds steps new n s
    shown_more specification turns within crowds steps n step.Cut h = h
    shown_more specification turns within crowds steps n step.Crowded h = h
    shown_more specification turns within crowds steps n (step.Edges es) h = (h.0, h.1, edges_more specification turns (state_at shape n) es.items h.2)

    -- an edge that follows an outcome
    pub followed_more : (specification : Specification) (turns : ℕ) (A : State) (depth : ℕ) (f : ListedOutcome) (e : Edge)
        → IsFollowed shape specification turns old A depth f e → IsFollowed shape specification turns new A depth f e
    followed_more specification turns A depth f e h = record { choices = h.choices; goes = λ r shows. goes_more A r e.to (h.goes r shows); near = near_more depth e.to h.near }
