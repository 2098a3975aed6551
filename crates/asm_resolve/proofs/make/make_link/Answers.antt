use Rattle.asm_resolve.proofs.LinkCodes.{with_reads, with_sound, both_reads, both_sound, if_so}
use Rattle.asm_resolve.proofs.make.make_link.Goals as goal

pub returns-in-Constant : goal.returns-in-Constant
returns-in-Constant c = record {
  sound = λ shape. if_so c.make_with.result _ _ c.make_with.ensures (λ k form left right. with_sound shape c.args.operation c.args.left c.in-Constant.right k form left);
  reads = λ shape rs A. if_so c.make_with.result _ _ c.make_with.ensures (λ k form. with_reads shape rs A c.args.operation c.args.left c.args.right c.in-Constant.right k c.in-Constant.is form);
}

pub returns-in_ok-new-in_default-2 : goal.returns-in_ok-new-in_default-2
returns-in_ok-new-in_default-2 c = record {
  sound = λ shape left right. both_sound shape c.args.operation c.in_ok-new-in_default.field-0 c.in_ok-new-in_default-2.field-0 c.args.left c.args.right c.in_ok-new-in_default.ensures.ok c.in_ok-new-in_default-2.ensures.ok left right;
  reads = λ shape rs A. both_reads shape rs A c.args.operation c.in_ok-new-in_default.field-0 c.in_ok-new-in_default-2.field-0 c.args.left c.args.right c.in_ok-new-in_default.ensures.ok c.in_ok-new-in_default-2.ensures.ok;
}
