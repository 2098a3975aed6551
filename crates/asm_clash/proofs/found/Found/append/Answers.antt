use Rattle.asm_clash.proofs.Founds.{put_after}
use Rattle.asm_clash.proofs.found.Found.append.Goals as goal

pub returns : goal.returns
returns c = λ most all more before behind.
    let others = c.args.others in
    put_after most all more c.args.self.now (record { first = c.append.new.self; count = c.saturating_add-self.result }) others before behind c.in_ok-append.ensures.items c.saturating_add-self.ensures
