use Rattle.std.proofs.Common.{ℕ, ◌++◌, ap, length}
use Rattle.drv_words.specs.Cuts.{stages_of}
use Rattle.ehci_driver.proofs.Offered.{taken_by, refused_by}
use Rattle.ehci_driver.proofs.driver.Driver.take_at.Goals as goal

pub returns-in-Ok-clause-accepted : goal.returns-in-Ok-clause-accepted
returns-in-Ok-clause-accepted c =
    taken_by _ c.args.self.now c.args.e c.args.endpoint.now (record { sort = c.args.sort; stages = stages_of c.args.cut.now; most = c.args.most; bytes = c.args.front.now ++ c.args.bytes.now })
    c.take_transfer.new.book c.args.mem.now c.take_transfer.new.mem _ _ c.self.view_is c.in-Ok.ensures.taken (ap (length {A = ℕ}) c.taken-keep.ensures) c.accept_at.ensures.accepted

pub returns-in-Err-clause-refused : goal.returns-in-Err-clause-refused
returns-in-Err-clause-refused c =
    refused_by _ c.args.self.now c.args.e c.args.endpoint.now (record { sort = c.args.sort; stages = stages_of c.args.cut.now; most = c.args.most; bytes = c.args.front.now ++ c.args.bytes.now })
    c.args.mem.now c.in-Err.why c.self.view_is c.in-Err.ensures.refused
