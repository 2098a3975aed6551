use Rattle.std.proofs.Common.{◌∙◌, ℕ, List, sym, ap, Vec, Global}
use Rattle.std.specs.List.{list_any}
use Rattle.std.specs.Str.{bytes_eq}
use Rattle.asm_explore_because.proofs.ReadTexts.{known_text, new_text}
use Rattle.asm_explore_because.proofs.reads.push_new.Goals as goal

pub returns-then-is_among : goal.returns-then-is_among
returns-then-is_among c =
    known_text c.args.texts.now.items c.in-Some.text c.args.text c.in-Some.is
    (sym c.if-is_among.true ∙ c.is_among.ensures ∙ ap (λ (ts : List (Vec ℕ Global)). list_any (λ other. bytes_eq other.items c.as_slice-2.result.now) ts) c.as_slice.ensures.value
    ∙ ap (λ (bs : List ℕ). list_any (λ other. bytes_eq other.items bs) c.args.texts.now.items) c.as_slice-2.ensures.value)

pub returns : goal.returns
returns c =
    new_text c.args.texts.now.items c.push.new.self.items c.in-Some.text c.args.text c.in-Some.is
    (sym c.if-is_among.false ∙ c.is_among.ensures ∙ ap (λ (ts : List (Vec ℕ Global)). list_any (λ other. bytes_eq other.items c.as_slice-2.result.now) ts) c.as_slice.ensures.value
    ∙ ap (λ (bs : List ℕ). list_any (λ other. bytes_eq other.items bs) c.args.texts.now.items) c.as_slice-2.ensures.value)
    c.in_ok-push.ensures.items
