use Rattle.std.proofs.Common.{◌≡◌, length, ◌∙◌}
use Rattle.asm_run.proofs.TextLemmas.KeptTexts.{all_within, all_kept}
use Rattle.asm_run.proofs.location_texts.LocationTexts.keep.Goals as goal

pub invariant_of-self-2 : goal.invariant_of-self-2
invariant_of-self-2 c =
    let behind : c.len-start.result ≡ length c.self.inside.bytes.items = c.len-start.ensures ∙ c.self.inside.bytes.ok.0 in
    rw c.in_ok-extend_from_slice.ensures.items
    (all_within c.self.inside.bytes.items c.args.text.now c.len-start.result behind c.self.inside.spans.items c.make_span.new.spans.items c.args.n
    c.in_ok-make_span.ensures.span c.make_span.ensures.same c.self.invariant)

pub returns : goal.returns
returns c =
    let behind : c.len-start.result ≡ length c.self.inside.bytes.items = c.len-start.ensures ∙ c.self.inside.bytes.ok.0 in
    rw (c.in_ok-extend_from_slice.ensures.items, ← c.self.view_is)
    (all_kept c.self.inside.bytes.items c.args.text.now c.len-start.result behind c.self.inside.spans.items c.make_span.new.spans.items c.args.n
    c.in_ok-make_span.ensures.span c.make_span.ensures.same c.self.invariant)
