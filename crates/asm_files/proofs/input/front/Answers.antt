use Rattle.std.proofs.Common.{◌≡◌, ◌∙◌, ap, ℕ, List, [], ◌++◌, Option, None, Some, take, IfSome}
use Rattle.std.specs.Prelude.{option_map}
use Rattle.asm_files.proofs.input.front.Goals as goal

-- what was read of known bytes is their front
read_front : (known : Option (List ℕ)) (most : ℕ) (old new : List ℕ) → old ≡ []
    → IfSome (option_map (take most) known) (λ xs. new ≡ old ++ xs) → IfSome known (λ bytes. new ≡ take most bytes)
read_front None most old new empty read = tt
read_front (Some bytes) most old new empty read = read ∙ ap (λ l. l ++ take most bytes) empty

pub returns-in-Ok : goal.returns-in-Ok
returns-in-Ok g c =
    read_front (g.I.Read.remaining c.args.input) c.args.most _ _ c.new-text.ensures.items
    (rw (c.take.ensures.limit, c.take.ensures.inner) at c.in-Ok.ensures.bytes)
