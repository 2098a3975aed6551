use Rattle.std.proofs.Common.{◌≡◌, ◌+◌, ◌-◌, refl, ◌++◌, ◌∷◌, [], arith, length, take, drop, sym, ap, subst, ◌∙◌, append-nil}
use Rattle.asm_explore.specs.code.PackedNodes.{begin_of, ArePacked, nodes_from}
use Rattle.asm_explore.specs.declared.states.nodes.NodeRecord.{NodeRecord}
use Rattle.asm_explore.proofs.StateLemmas.PackedNodes.{junk_kept, junk_same, pushed_kept, pushed, bytes_size, on_err}
use Rattle.asm_explore.proofs.states.nodes.Nodes.push.Goals as goal

pub invariant_of-self : goal.invariant_of-self
invariant_of-self c =
    let n = c.self.inside in
    let begin : c.begin-b.result ≡ begin_of 0 0 n.links.items (length n.links.items) =
    c.begin-b.ensures ∙ ap (λ ls. begin_of 0 0 ls c.len.result) c.as_slice.ensures.value ∙ ap (begin_of 0 0 n.links.items) (c.len.ensures ∙ n.links.ok.0) in
    let bytes : c.put_bytes.new.bytes.items ≡ take c.begin-b.result.0 n.bytes.items ++ c.put_bytes.ensures.more.0 =
    c.put_bytes.ensures.more.1 ∙ ap (λ bs. bs ++ c.put_bytes.ensures.more.0) c.truncate.ensures.items in
    let words : c.truncate-2.new.self.items ≡ take c.begin-b.result.1 n.words.items ++ [] =
    c.truncate-2.ensures.items ∙ sym (append-nil (take c.begin-b.result.1 n.words.items)) in
    junk_kept n.bytes.items c.put_bytes.new.bytes.items c.put_bytes.ensures.more.0 n.words.items c.truncate-2.new.self.items [] n.links.items c.begin-b.result begin c.self.invariant bytes words

pub returns-in_err-put_bytes-clause-err : goal.returns-in_err-put_bytes-clause-err
returns-in_err-put_bytes-clause-err c =
    let n = c.self.inside in
    let begin : c.begin-b.result ≡ begin_of 0 0 n.links.items (length n.links.items) =
    c.begin-b.ensures ∙ ap (λ ls. begin_of 0 0 ls c.len.result) c.as_slice.ensures.value ∙ ap (begin_of 0 0 n.links.items) (c.len.ensures ∙ n.links.ok.0) in
    let bytes : c.put_bytes.new.bytes.items ≡ take c.begin-b.result.0 n.bytes.items ++ c.put_bytes.ensures.more.0 =
    c.put_bytes.ensures.more.1 ∙ ap (λ bs. bs ++ c.put_bytes.ensures.more.0) c.truncate.ensures.items in
    let words : c.truncate-2.new.self.items ≡ take c.begin-b.result.1 n.words.items ++ [] =
    c.truncate-2.ensures.items ∙ sym (append-nil (take c.begin-b.result.1 n.words.items)) in
    on_err c.from_residual.result (junk_same n.bytes.items c.put_bytes.new.bytes.items c.put_bytes.ensures.more.0 n.words.items c.truncate-2.new.self.items [] n.links.items c.begin-b.result begin c.self.invariant bytes words ∙ c.self.view_is)

pub overflow_sub-first : goal.overflow_sub-first
overflow_sub-first c =
    let n = c.self.inside in
    let begin : c.begin-b.result ≡ begin_of 0 0 n.links.items (length n.links.items) =
    c.begin-b.ensures ∙ ap (λ ls. begin_of 0 0 ls c.len.result) c.as_slice.ensures.value ∙ ap (begin_of 0 0 n.links.items) (c.len.ensures ∙ n.links.ok.0) in
    let bytes : c.put_bytes.new.bytes.items ≡ take c.begin-b.result.0 n.bytes.items ++ c.put_bytes.ensures.more.0 =
    c.put_bytes.ensures.more.1 ∙ ap (λ bs. bs ++ c.put_bytes.ensures.more.0) c.truncate.ensures.items in
    let words : c.truncate-2.new.self.items ≡ take c.begin-b.result.1 n.words.items ++ [] =
    c.truncate-2.ensures.items ∙ sym (append-nil (take c.begin-b.result.1 n.words.items)) in
    let size : length c.put_bytes.new.bytes.items ≡ c.begin-b.result.0 + length c.put_bytes.ensures.more.0 =
    bytes_size n.bytes.items c.put_bytes.new.bytes.items c.put_bytes.ensures.more.0 n.words.items c.truncate-2.new.self.items [] n.links.items c.begin-b.result begin c.self.invariant bytes words in
    omega (arith, size, c.len-2.ensures, c.put_bytes.new.bytes.ok.0)

pub invariant_of-self-in_err-put_words : goal.invariant_of-self-in_err-put_words
invariant_of-self-in_err-put_words c =
    let n = c.self.inside in
    let begin : c.begin-b.result ≡ begin_of 0 0 n.links.items (length n.links.items) =
    c.begin-b.ensures ∙ ap (λ ls. begin_of 0 0 ls c.len.result) c.as_slice.ensures.value ∙ ap (begin_of 0 0 n.links.items) (c.len.ensures ∙ n.links.ok.0) in
    let bytes : c.put_bytes.new.bytes.items ≡ take c.begin-b.result.0 n.bytes.items ++ c.put_bytes.ensures.more.0 =
    c.put_bytes.ensures.more.1 ∙ ap (λ bs. bs ++ c.put_bytes.ensures.more.0) c.truncate.ensures.items in
    let words : c.put_words.new.words.items ≡ take c.begin-b.result.1 n.words.items ++ c.put_words.ensures.more.0 =
    c.put_words.ensures.more.1 ∙ ap (λ ws. ws ++ c.put_words.ensures.more.0) c.truncate-2.ensures.items in
    junk_kept n.bytes.items c.put_bytes.new.bytes.items c.put_bytes.ensures.more.0 n.words.items c.put_words.new.words.items c.put_words.ensures.more.0 n.links.items c.begin-b.result begin c.self.invariant bytes words

pub returns-in_err-put_words-clause-err : goal.returns-in_err-put_words-clause-err
returns-in_err-put_words-clause-err c =
    let n = c.self.inside in
    let begin : c.begin-b.result ≡ begin_of 0 0 n.links.items (length n.links.items) =
    c.begin-b.ensures ∙ ap (λ ls. begin_of 0 0 ls c.len.result) c.as_slice.ensures.value ∙ ap (begin_of 0 0 n.links.items) (c.len.ensures ∙ n.links.ok.0) in
    let bytes : c.put_bytes.new.bytes.items ≡ take c.begin-b.result.0 n.bytes.items ++ c.put_bytes.ensures.more.0 =
    c.put_bytes.ensures.more.1 ∙ ap (λ bs. bs ++ c.put_bytes.ensures.more.0) c.truncate.ensures.items in
    let words : c.put_words.new.words.items ≡ take c.begin-b.result.1 n.words.items ++ c.put_words.ensures.more.0 =
    c.put_words.ensures.more.1 ∙ ap (λ ws. ws ++ c.put_words.ensures.more.0) c.truncate-2.ensures.items in
    on_err c.from_residual-in_err-put_words.result (junk_same n.bytes.items c.put_bytes.new.bytes.items c.put_bytes.ensures.more.0 n.words.items c.put_words.new.words.items c.put_words.ensures.more.0 n.links.items c.begin-b.result begin c.self.invariant bytes words ∙ c.self.view_is)

pub invariant_of-self-in_err-push : goal.invariant_of-self-in_err-push
invariant_of-self-in_err-push c =
    let n = c.self.inside in
    let begin : c.begin-b.result ≡ begin_of 0 0 n.links.items (length n.links.items) =
    c.begin-b.ensures ∙ ap (λ ls. begin_of 0 0 ls c.len.result) c.as_slice.ensures.value ∙ ap (begin_of 0 0 n.links.items) (c.len.ensures ∙ n.links.ok.0) in
    let bytes : c.put_bytes.new.bytes.items ≡ take c.begin-b.result.0 n.bytes.items ++ c.put_bytes.ensures.more.0 =
    c.put_bytes.ensures.more.1 ∙ ap (λ bs. bs ++ c.put_bytes.ensures.more.0) c.truncate.ensures.items in
    let words : c.put_words.new.words.items ≡ take c.begin-b.result.1 n.words.items ++ c.put_words.ensures.more.0 =
    c.put_words.ensures.more.1 ∙ ap (λ ws. ws ++ c.put_words.ensures.more.0) c.truncate-2.ensures.items in
    let links : c.push.new.self.items ≡ n.links.items = c.in_err-push.ensures.items in
    subst (λ ls. ArePacked (length c.put_bytes.new.bytes.items) (length c.put_words.new.words.items) 0 0 ls) (sym links) (junk_kept n.bytes.items c.put_bytes.new.bytes.items c.put_bytes.ensures.more.0 n.words.items c.put_words.new.words.items c.put_words.ensures.more.0 n.links.items c.begin-b.result begin c.self.invariant bytes words)

pub returns-in_err-push-clause-err : goal.returns-in_err-push-clause-err
returns-in_err-push-clause-err c =
    let n = c.self.inside in
    let begin : c.begin-b.result ≡ begin_of 0 0 n.links.items (length n.links.items) =
    c.begin-b.ensures ∙ ap (λ ls. begin_of 0 0 ls c.len.result) c.as_slice.ensures.value ∙ ap (begin_of 0 0 n.links.items) (c.len.ensures ∙ n.links.ok.0) in
    let bytes : c.put_bytes.new.bytes.items ≡ take c.begin-b.result.0 n.bytes.items ++ c.put_bytes.ensures.more.0 =
    c.put_bytes.ensures.more.1 ∙ ap (λ bs. bs ++ c.put_bytes.ensures.more.0) c.truncate.ensures.items in
    let words : c.put_words.new.words.items ≡ take c.begin-b.result.1 n.words.items ++ c.put_words.ensures.more.0 =
    c.put_words.ensures.more.1 ∙ ap (λ ws. ws ++ c.put_words.ensures.more.0) c.truncate-2.ensures.items in
    let links : c.push.new.self.items ≡ n.links.items = c.in_err-push.ensures.items in
    on_err c.from_residual-in_err-push.result (ap (λ ls. nodes_from c.put_bytes.new.bytes.items c.put_words.new.words.items 0 0 ls) links ∙ junk_same n.bytes.items c.put_bytes.new.bytes.items c.put_bytes.ensures.more.0 n.words.items c.put_words.new.words.items c.put_words.ensures.more.0 n.links.items c.begin-b.result begin c.self.invariant bytes words ∙ c.self.view_is)

pub invariant_of-self-2 : goal.invariant_of-self-2
invariant_of-self-2 c =
    let n = c.self.inside in
    let begin : c.begin-b.result ≡ begin_of 0 0 n.links.items (length n.links.items) =
    c.begin-b.ensures ∙ ap (λ ls. begin_of 0 0 ls c.len.result) c.as_slice.ensures.value ∙ ap (begin_of 0 0 n.links.items) (c.len.ensures ∙ n.links.ok.0) in
    let bytes : c.put_bytes.new.bytes.items ≡ take c.begin-b.result.0 n.bytes.items ++ c.put_bytes.ensures.more.0 =
    c.put_bytes.ensures.more.1 ∙ ap (λ bs. bs ++ c.put_bytes.ensures.more.0) c.truncate.ensures.items in
    let words : c.put_words.new.words.items ≡ take c.begin-b.result.1 n.words.items ++ c.put_words.ensures.more.0 =
    c.put_words.ensures.more.1 ∙ ap (λ ws. ws ++ c.put_words.ensures.more.0) c.truncate-2.ensures.items in
    let link : NodeRecord = record { bytes_end = c.len-3.result; words_end = c.len-4.result; from = c.args.from; depth = c.args.depth } in
    let links : c.push.new.self.items ≡ n.links.items ++ link ∷ [] = c.in_ok-push.ensures.items in
    let bytes_end : c.len-3.result ≡ length c.put_bytes.new.bytes.items = c.len-3.ensures ∙ c.put_bytes.new.bytes.ok.0 in
    let words_end : c.len-4.result ≡ length c.put_words.new.words.items = c.len-4.ensures ∙ c.put_words.new.words.ok.0 in
    subst (λ ls. ArePacked (length c.put_bytes.new.bytes.items) (length c.put_words.new.words.items) 0 0 ls) (sym links)
    (pushed_kept n.bytes.items c.put_bytes.new.bytes.items c.put_bytes.ensures.more.0 n.words.items c.put_words.new.words.items c.put_words.ensures.more.0 n.links.items c.begin-b.result begin c.self.invariant bytes words link bytes_end words_end)

pub returns-clause-ok : goal.returns-clause-ok
returns-clause-ok c =
    let n = c.self.inside in
    let begin : c.begin-b.result ≡ begin_of 0 0 n.links.items (length n.links.items) =
    c.begin-b.ensures ∙ ap (λ ls. begin_of 0 0 ls c.len.result) c.as_slice.ensures.value ∙ ap (begin_of 0 0 n.links.items) (c.len.ensures ∙ n.links.ok.0) in
    let bytes : c.put_bytes.new.bytes.items ≡ take c.begin-b.result.0 n.bytes.items ++ c.put_bytes.ensures.more.0 =
    c.put_bytes.ensures.more.1 ∙ ap (λ bs. bs ++ c.put_bytes.ensures.more.0) c.truncate.ensures.items in
    let back = drop (length c.put_bytes.ensures.more.0) c.args.state.now in
    let cut : c.truncate-2.new.self.items ≡ take c.begin-b.result.1 n.words.items ++ [] =
    c.truncate-2.ensures.items ∙ sym (append-nil (take c.begin-b.result.1 n.words.items)) in
    let size : length c.put_bytes.new.bytes.items ≡ c.begin-b.result.0 + length c.put_bytes.ensures.more.0 =
    bytes_size n.bytes.items c.put_bytes.new.bytes.items c.put_bytes.ensures.more.0 n.words.items c.truncate-2.new.self.items [] n.links.items c.begin-b.result begin c.self.invariant bytes cut in
    let first : c.len-2.result - c.begin-b.result.0 ≡ length c.put_bytes.ensures.more.0 = omega (arith, size, c.len-2.ensures, c.put_bytes.new.bytes.ok.0) in
    let words : c.put_words.new.words.items ≡ take c.begin-b.result.1 n.words.items ++ back =
    c.in_ok-put_words.ensures.ok ∙ ap (λ ws. ws ++ drop (c.len-2.result - c.begin-b.result.0) c.args.state.now) c.truncate-2.ensures.items
    ∙ ap (λ k. take c.begin-b.result.1 n.words.items ++ drop k c.args.state.now) first in
    let link : NodeRecord = record { bytes_end = c.len-3.result; words_end = c.len-4.result; from = c.args.from; depth = c.args.depth } in
    let links : c.push.new.self.items ≡ n.links.items ++ link ∷ [] = c.in_ok-push.ensures.items in
    let bytes_end : c.len-3.result ≡ length c.put_bytes.new.bytes.items = c.len-3.ensures ∙ c.put_bytes.new.bytes.ok.0 in
    let words_end : c.len-4.result ≡ length c.put_words.new.words.items = c.len-4.ensures ∙ c.put_words.new.words.ok.0 in
    ap (λ ls. nodes_from c.put_bytes.new.bytes.items c.put_words.new.words.items 0 0 ls) links
    ∙ pushed n.bytes.items c.put_bytes.new.bytes.items c.put_bytes.ensures.more.0 n.words.items c.put_words.new.words.items back n.links.items c.begin-b.result begin c.self.invariant bytes words link c.args.state.now bytes_end words_end c.put_bytes.ensures.more.2 refl
    ∙ ap (λ ns. ns ++ record { state = c.args.state.now; from = c.args.from; depth = c.args.depth } ∷ []) c.self.view_is
