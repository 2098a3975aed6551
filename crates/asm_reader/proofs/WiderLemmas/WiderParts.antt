-- Free. A part that is put together from larger parts is larger.
use Rattle.std.proofs.Common.{List, [], ◌∷◌, Some, None, inl, inr}
use Rattle.asm_syntax.specs.declared.token.Kind.{Kind}
use Rattle.asm_syntax.specs.declared.token.Token.{Token}
use Rattle.asm_reader.specs.Productions.{Production, token, ◌then◌, ◌or◌, optional, repeated, ◌makes◌, past, several, separated, enclosed, between}

abbrev pub Includes : {A : Type 0} → Production A → Production A → Type 0
Includes {A} P Q = (ts : List Token) (x : A) → P ts x → Q ts x

pub same_part : {A : Type 0} (P : Production A) → Includes P P
same_part P ts x p = p

pub wider_then : {A B : Type 0} (P P' : Production A) (Q Q' : Production B) → Includes P P' → Includes Q Q' → Includes (P then Q) (P' then Q')
wider_then P P' Q Q' h k ts x s = record { front = s.front; back = s.back; whole = s.whole; first = h s.front x.0 s.first; second = k s.back x.1 s.second }

pub wider_or : {A : Type 0} (P P' Q Q' : Production A) → Includes P P' → Includes Q Q' → Includes (P or Q) (P' or Q')
wider_or P P' Q Q' h k ts x (inl p) = inl (h ts x p)
wider_or P P' Q Q' h k ts x (inr q) = inr (k ts x q)

pub wider_optional : {A : Type 0} (P P' : Production A) → Includes P P' → Includes (optional P) (optional P')
wider_optional P P' h ts None p = p
wider_optional P P' h ts (Some x) p = h ts x p

pub wider_repeated : {A : Type 0} (P P' : Production A) → Includes P P' → Includes (repeated P) (repeated P')
wider_repeated P P' h ts [] p = p
wider_repeated P P' h ts (x ∷ xs) p = (p.0, p.1, p.2, h p.0 x p.3, wider_repeated P P' h p.1 xs p.4)

pub wider_makes : {A B : Type 0} (P P' : Production A) (f : A → B) → Includes P P' → Includes (P makes f) (P' makes f)
wider_makes P P' f h ts y p = (p.0, h ts p.0 p.1, p.2)

pub wider_past : {A : Type 0} (k : Kind) (P P' : Production A) → Includes P P' → Includes (past k P) (past k P')
wider_past k P P' h = wider_makes (token k then P) (token k then P') (λ r. r.1) (wider_then (token k) (token k) P P' (same_part (token k)) h)

pub wider_several : {A : Type 0} (P P' : Production A) → Includes P P' → Includes (several P) (several P')
wider_several P P' h = wider_makes (P then repeated P) (P' then repeated P') (λ r. r.0 ∷ r.1) (wider_then P P' (repeated P) (repeated P') h (wider_repeated P P' h))

pub wider_separated : {A : Type 0} (k : Kind) (P P' : Production A) → Includes P P' → Includes (separated k P) (separated k P')
wider_separated k P P' h = wider_makes (P then repeated (past k P)) (P' then repeated (past k P')) (λ r. r.0 ∷ r.1)
    (wider_then P P' (repeated (past k P)) (repeated (past k P')) h (wider_repeated (past k P) (past k P') (wider_past k P P' h)))

pub wider_enclosed : {A : Type 0} (k close : Kind) (P P' : Production A) → Includes P P' → Includes (enclosed k close P) (enclosed k close P')
wider_enclosed k close P P' h = wider_makes (token k then P then token close) (token k then P' then token close) (λ r. (r.0, r.1.0))
    (wider_then (token k) (token k) (P then token close) (P' then token close) (same_part (token k)) (wider_then P P' (token close) (token close) h (same_part (token close))))

pub wider_between : {A : Type 0} (k close : Kind) (P P' : Production A) → Includes P P' → Includes (between k close P) (between k close P')
wider_between k close P P' h = wider_makes (enclosed k close P) (enclosed k close P') (λ r. r.1) (wider_enclosed k close P P' h)
