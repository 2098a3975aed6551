-- Free. The test of quiet nodes.
--     quiet_is_back      it tells whether all edges lead back
use Rattle.std.proofs.Common.{◌≡◌, ◌↔◌, ℕ, Bool, true, false, ◌&&◌, List, [], ◌∷◌, refl, ap, ◌∙◌}
use Rattle.std.specs.Prelude.{IsTrue}
use Rattle.std.specs.List.{list_all}
use Rattle.std.proofs.lemmas.Bool.{eq-eqb, eqb-true, false≢true}
use Rattle.asm_explore.specs.ListElements.{Each}
use Rattle.asm_graph.specs.declared.graph.Edge.{Edge}
use Rattle.asm_graph.specs.declared.graph.EdgeEnd.{EdgeEnd}
use Rattle.asm_graph.specs.declared.graph.EdgeEnd.TheVariants as target
use Rattle.asm_graph.specs.declared.graph.Step.{Step}
use Rattle.asm_graph.specs.declared.graph.Step.TheVariants as step
use Rattle.asm_graph.specs.Dot.{is_node, is_quiet}
use Rattle.asm_graph.specs.Graphs.{LeadBack}

both : (a b : Bool) → (a && b) ≡ true → (a ≡ true) × (b ≡ true)
both true b h = (refl, h)
both false b h = absurd (false≢true h)

and_both : (a b : Bool) → a ≡ true → b ≡ true → (a && b) ≡ true
and_both a b left right = ap (λ x. x && b) left ∙ right

is_there : (i : ℕ) (to : EdgeEnd) → is_node i to ≡ true → to ≡ target.Node i
is_there i (target.Node j) h = ap target.Node (eqb-true j i h)
is_there i (target.Fault f) h = absurd (false≢true h)

there_is : (i : ℕ) (to : EdgeEnd) → to ≡ target.Node i → is_node i to ≡ true
there_is i to same = ap (is_node i) same ∙ eq-eqb i i refl

all_there : (i : ℕ) (es : List Edge) → list_all (λ (e : Edge). is_node i e.to) es ≡ true → Each (λ (e : Edge). e.to ≡ target.Node i) es
all_there i [] h = tt
all_there i (e ∷ es) h = let h2 = both (is_node i e.to) (list_all (λ (d : Edge). is_node i d.to) es) h in (is_there i e.to h2.0, all_there i es h2.1)

there_all : (i : ℕ) (es : List Edge) → Each (λ (e : Edge). e.to ≡ target.Node i) es → list_all (λ (e : Edge). is_node i e.to) es ≡ true
there_all i [] h = refl
there_all i (e ∷ es) h = and_both (is_node i e.to) (list_all (λ (d : Edge). is_node i d.to) es) (there_is i e.to h.0) (there_all i es h.1)

pub quiet_is_back : (i : ℕ) (s : Step) → IsTrue (is_quiet i s) ↔ LeadBack i s
quiet_is_back i step.Cut = (λ h. false≢true h, λ h. absurd h)
quiet_is_back i step.Crowded = (λ h. false≢true h, λ h. absurd h)
quiet_is_back i (step.Edges es) = (all_there i es.items, there_all i es.items)
