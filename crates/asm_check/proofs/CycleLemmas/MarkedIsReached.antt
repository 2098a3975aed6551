-- Free. The nodes that are marked from a node on are those to which it leads.
use Rattle.std.proofs.Common.{◌≡◌, Bool, true, List}
use Rattle.std.specs.Prelude.{Contains}
use Rattle.asm_check.specs.CallGraph.{LeadsTo, at_once, by_way_of}

module _ {A : Type 0} (next : A → List A) where
  module _ (is_marked : A → Bool) (closed : (g h : A) → is_marked g ≡ true → Contains (next g) h → is_marked h ≡ true) where
    pub marked_on : {f g : A} → ((h : A) → Contains (next f) h → is_marked h ≡ true) → LeadsTo next f g → is_marked g ≡ true
    marked_on {g = g} begun (at_once c) = begun g c
    marked_on begun (by_way_of h c rest) = marked_on (λ k step. closed h k (begun h c) step) rest
