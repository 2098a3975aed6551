use Rattle.std.proofs.Common.{◌≡◌, arith, get_or, length, sym, ap, subst, ◌∙◌}
use Rattle.std.specs.Prelude.{slice_get, Some}
use Rattle.asm_explore.specs.code.PackedNodes.{contents_of, between, begin_of}
use Rattle.asm_explore.proofs.StateLemmas.PackedNodes.{nodes_count, node_at, kept_within}
use Rattle.asm_explore.proofs.states.nodes.Nodes.contents.Goals as goal

pub begin-b-requires : goal.begin-b-requires
begin-b-requires c =
    let n = c.self.inside in
    let count : length c.args.self.now ≡ length n.links.items = ap length (sym c.self.view_is) ∙ nodes_count n.bytes.items n.words.items 0 0 n.links.items in
    omega (arith, c.requires, count, ap length c.as_slice.ensures.value)

pub index-link-requires : goal.index-link-requires
index-link-requires c =
    let n = c.self.inside in
    let count : length c.args.self.now ≡ length n.links.items = ap length (sym c.self.view_is) ∙ nodes_count n.bytes.items n.words.items 0 0 n.links.items in
    omega (arith, c.requires, count, n.links.ok.0)

-- where the contents of this node are

pub part-bytes-requires-clause-rise : goal.part-bytes-requires-clause-rise
part-bytes-requires-clause-rise c =
    let n = c.self.inside in
    let a = c.args in
    let count : length a.self.now ≡ length n.links.items = ap length (sym c.self.view_is) ∙ nodes_count n.bytes.items n.words.items 0 0 n.links.items in
    let within = kept_within (length n.bytes.items) (length n.words.items) 0 0 n.links.items a.number c.index-link.result.now c.self.invariant (omega (arith, c.requires, count)) in
    let begin : c.begin-b.result ≡ begin_of 0 0 n.links.items a.number = c.begin-b.ensures ∙ ap (λ ls. begin_of 0 0 ls a.number) c.as_slice.ensures.value in
    let link : get_or n.links.items a.number c.index-link.result.now ≡ c.index-link.result.now = sym c.index-link.ensures in
    omega (arith, within.bytes_rise, ap (λ p. p.0) begin, ap (λ l. l.bytes_end) link)

pub part-bytes-requires-clause-within : goal.part-bytes-requires-clause-within
part-bytes-requires-clause-within c =
    let n = c.self.inside in
    let a = c.args in
    let count : length a.self.now ≡ length n.links.items = ap length (sym c.self.view_is) ∙ nodes_count n.bytes.items n.words.items 0 0 n.links.items in
    let within = kept_within (length n.bytes.items) (length n.words.items) 0 0 n.links.items a.number c.index-link.result.now c.self.invariant (omega (arith, c.requires, count)) in
    let begin : c.begin-b.result ≡ begin_of 0 0 n.links.items a.number = c.begin-b.ensures ∙ ap (λ ls. begin_of 0 0 ls a.number) c.as_slice.ensures.value in
    let link : get_or n.links.items a.number c.index-link.result.now ≡ c.index-link.result.now = sym c.index-link.ensures in
    omega (arith, within.bytes_fit, ap (λ p. p.0) begin, ap (λ l. l.bytes_end) link, ap length c.as_slice-2.ensures.value)

pub part-words-requires-clause-rise : goal.part-words-requires-clause-rise
part-words-requires-clause-rise c =
    let n = c.self.inside in
    let a = c.args in
    let count : length a.self.now ≡ length n.links.items = ap length (sym c.self.view_is) ∙ nodes_count n.bytes.items n.words.items 0 0 n.links.items in
    let within = kept_within (length n.bytes.items) (length n.words.items) 0 0 n.links.items a.number c.index-link.result.now c.self.invariant (omega (arith, c.requires, count)) in
    let begin : c.begin-b.result ≡ begin_of 0 0 n.links.items a.number = c.begin-b.ensures ∙ ap (λ ls. begin_of 0 0 ls a.number) c.as_slice.ensures.value in
    let link : get_or n.links.items a.number c.index-link.result.now ≡ c.index-link.result.now = sym c.index-link.ensures in
    omega (arith, within.words_rise, ap (λ p. p.1) begin, ap (λ l. l.words_end) link)

pub part-words-requires-clause-within : goal.part-words-requires-clause-within
part-words-requires-clause-within c =
    let n = c.self.inside in
    let a = c.args in
    let count : length a.self.now ≡ length n.links.items = ap length (sym c.self.view_is) ∙ nodes_count n.bytes.items n.words.items 0 0 n.links.items in
    let within = kept_within (length n.bytes.items) (length n.words.items) 0 0 n.links.items a.number c.index-link.result.now c.self.invariant (omega (arith, c.requires, count)) in
    let begin : c.begin-b.result ≡ begin_of 0 0 n.links.items a.number = c.begin-b.ensures ∙ ap (λ ls. begin_of 0 0 ls a.number) c.as_slice.ensures.value in
    let link : get_or n.links.items a.number c.index-link.result.now ≡ c.index-link.result.now = sym c.index-link.ensures in
    omega (arith, within.words_fit, ap (λ p. p.1) begin, ap (λ l. l.words_end) link, ap length c.as_slice-3.ensures.value)

pub returns : goal.returns
returns c = λ node there.
    let n = c.self.inside in
    let a = c.args in
    let link = c.index-link.result.now in
    let begin : c.begin-b.result ≡ begin_of 0 0 n.links.items a.number = c.begin-b.ensures ∙ ap (λ ls. begin_of 0 0 ls a.number) c.as_slice.ensures.value in
    let is = node_at n.bytes.items n.words.items 0 0 n.links.items a.number node link (subst (λ ns. slice_get ns a.number ≡ Some node) (sym c.self.view_is) there) in
    ap (λ bytes. contents_of bytes c.part-words.result.now) c.part-bytes.ensures ∙ ap (λ words. contents_of (between c.as_slice-2.result.now c.begin-b.result.0 link.bytes_end) words) c.part-words.ensures
    ∙ ap (λ bytes. contents_of (between bytes c.begin-b.result.0 link.bytes_end) (between c.as_slice-3.result.now c.begin-b.result.1 link.words_end)) c.as_slice-2.ensures.value
    ∙ ap (λ words. contents_of (between n.bytes.items c.begin-b.result.0 link.bytes_end) (between words c.begin-b.result.1 link.words_end)) c.as_slice-3.ensures.value
    ∙ ap (λ b. contents_of (between n.bytes.items b.0 link.bytes_end) (between n.words.items b.1 link.words_end)) begin
    ∙ ap (λ l. contents_of (between n.bytes.items (begin_of 0 0 n.links.items a.number).0 l.bytes_end) (between n.words.items (begin_of 0 0 n.links.items a.number).1 l.words_end)) c.index-link.ensures
    ∙ sym (ap (λ m. m.state) is)
