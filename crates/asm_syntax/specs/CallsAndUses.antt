-- Definition. What is asked of each call in a rule, and of each use of a name in a term.
--     CallsOnly IsCallable R         each rule that R calls is so
--     UsesOnly IsUsable t bound      each name that t uses, inside binders of the names that are
--                                    bound there, is so
use Rattle.std.specs.Prelude.{List, ◌∷◌}
use Rattle.asm_syntax.specs.Tree.{Name, Term, Constant, Named, Chain, Not, Negative, Exists, Every, Terms, no_terms, term_then, Links, no_links, link_then, Rule, Skip, Assign, Call, Par, Seq, If, Let, Forall, Choose, Iterate, Rules, no_rules, rule_then}

module _ (IsCallable : Name → Type 0) where
  abbrev mutual
    pub CallsOnly : Rule → Type 0
    CallsOnly Skip = Unit {0}
    CallsOnly (Assign f ts t) = Unit {0}
    CallsOnly (Call to f ts) = IsCallable f
    CallsOnly (Par Ps) = EachCallsOnly Ps
    CallsOnly (Seq Ps) = EachCallsOnly Ps
    CallsOnly (If t P Q) = CallsOnly P × CallsOnly Q
    CallsOnly (Let x t P) = CallsOnly P
    CallsOnly (Forall x u t P) = CallsOnly P
    CallsOnly (Choose x u t P Q) = CallsOnly P × CallsOnly Q
    CallsOnly (Iterate P) = CallsOnly P

    pub EachCallsOnly : Rules → Type 0
    EachCallsOnly no_rules = Unit {0}
    EachCallsOnly (rule_then P Ps) = CallsOnly P × EachCallsOnly Ps

module _ (IsUsable : (bound : List Name) → Name → Type 0) where
  abbrev mutual
    pub UsesOnly : Term → (bound : List Name) → Type 0
    UsesOnly (Constant v) bound = Unit {0}
    UsesOnly (Named x ts) bound = IsUsable bound x × EachUsesOnly ts bound
    UsesOnly (Chain t links) bound = UsesOnly t bound × LinksUseOnly links bound
    UsesOnly (Not t) bound = UsesOnly t bound
    UsesOnly (Negative t) bound = UsesOnly t bound
    UsesOnly (Exists x u t) bound = UsesOnly t (x ∷ bound)
    UsesOnly (Every x u t) bound = UsesOnly t (x ∷ bound)

    pub EachUsesOnly : Terms → (bound : List Name) → Type 0
    EachUsesOnly no_terms bound = Unit {0}
    EachUsesOnly (term_then t ts) bound = UsesOnly t bound × EachUsesOnly ts bound

    pub LinksUseOnly : Links → (bound : List Name) → Type 0
    LinksUseOnly no_links bound = Unit {0}
    LinksUseOnly (link_then o t links) bound = UsesOnly t bound × LinksUseOnly links bound
