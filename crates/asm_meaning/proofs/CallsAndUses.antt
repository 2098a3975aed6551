-- Free. What is asked of each call in a rule, or of each use in a term, may be weakened; so what is
-- below a number is below a greater one.
use Rattle.std.proofs.Common.{ℕ, ◌<◌, ◌≤◌, List, ◌∷◌, arith}
use Rattle.asm_syntax.specs.Tree.{Name, Term, Constant, Named, Chain, Not, Negative, Exists, Every, Terms, no_terms, term_then, Links, no_links, link_then, Rule, Skip, Assign, Call, Par, Seq, If, Let, Forall, Choose, Iterate, Rules, no_rules, rule_then}
use Rattle.asm_syntax.specs.CallsAndUses.{CallsOnly, EachCallsOnly, UsesOnly, EachUsesOnly, LinksUseOnly}
use Rattle.asm_meaning.specs.Program.{Program}
use Rattle.asm_meaning.specs.Ranks.{IsCallable, CallsBelow, IsUsable, UsesBelow}

module _ (A B : Name → Type 0) (weaker : (f : Name) → A f → B f) where
  mutual
    pub calls_weakened : (R : Rule) → CallsOnly A R → CallsOnly B R
    calls_weakened Skip c = tt
    calls_weakened (Assign f ts t) c = tt
    calls_weakened (Call to f ts) c = weaker f c
    calls_weakened (Par Ps) c = each_call_weakened Ps c
    calls_weakened (Seq Ps) c = each_call_weakened Ps c
    calls_weakened (If t P Q) c = (calls_weakened P c.0, calls_weakened Q c.1)
    calls_weakened (Let x t P) c = calls_weakened P c
    calls_weakened (Forall x u t P) c = calls_weakened P c
    calls_weakened (Choose x u t P Q) c = (calls_weakened P c.0, calls_weakened Q c.1)
    calls_weakened (Iterate P) c = calls_weakened P c

    each_call_weakened : (Ps : Rules) → EachCallsOnly A Ps → EachCallsOnly B Ps
    each_call_weakened no_rules c = tt
    each_call_weakened (rule_then P Ps) c = (calls_weakened P c.0, each_call_weakened Ps c.1)

module _ (A B : List Name → Name → Type 0) (weaker : (bound : List Name) (x : Name) → A bound x → B bound x) where
  mutual
    pub uses_weakened : (t : Term) (bound : List Name) → UsesOnly A t bound → UsesOnly B t bound
    uses_weakened (Constant v) bound c = tt
    uses_weakened (Named x ts) bound c = (weaker bound x c.0, each_use_weakened ts bound c.1)
    uses_weakened (Chain t links) bound c = (uses_weakened t bound c.0, links_weakened links bound c.1)
    uses_weakened (Not t) bound c = uses_weakened t bound c
    uses_weakened (Negative t) bound c = uses_weakened t bound c
    uses_weakened (Exists x u t) bound c = uses_weakened t (x ∷ bound) c
    uses_weakened (Every x u t) bound c = uses_weakened t (x ∷ bound) c

    each_use_weakened : (ts : Terms) (bound : List Name) → EachUsesOnly A ts bound → EachUsesOnly B ts bound
    each_use_weakened no_terms bound c = tt
    each_use_weakened (term_then t ts) bound c = (uses_weakened t bound c.0, each_use_weakened ts bound c.1)

    links_weakened : (links : Links) (bound : List Name) → LinksUseOnly A links bound → LinksUseOnly B links bound
    links_weakened no_links bound c = tt
    links_weakened (link_then o t links) bound c = (uses_weakened t bound c.0, links_weakened links bound c.1)

module _ (program : Program) (rank : Name → ℕ) (m n : ℕ) (up : m ≤ n) where
  callable_higher : (f : Name) → IsCallable program rank m f → IsCallable program rank n f
  callable_higher f c = record { parameters = c.parameters; body = c.body; is_declared = c.is_declared; is_below = omega (arith, up, c.is_below) }

  pub lower : (R : Rule) → CallsBelow program rank m R → CallsBelow program rank n R
  lower R c = calls_weakened (IsCallable program rank m) (IsCallable program rank n) callable_higher R c

  usable_higher : (bound : List Name) (x : Name) → IsUsable program rank m bound x → IsUsable program rank n bound x
  usable_higher bound x c free xs t d = let below : rank x < m = c free xs t d in omega arith

  pub higher : (t : Term) (bound : List Name) → UsesBelow program rank m t bound → UsesBelow program rank n t bound
  higher t bound c = uses_weakened (IsUsable program rank m) (IsUsable program rank n) usable_higher t bound c
