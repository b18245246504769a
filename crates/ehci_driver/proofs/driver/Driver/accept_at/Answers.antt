use Rattle.std.proofs.Common.{◌++◌, drop}
use Rattle.drv_words.specs.Cuts.{stages_of}
use Rattle.ehci_driver.proofs.Offered.{accepted_is}
use Rattle.ehci_driver.proofs.driver.Driver.accept_at.Goals as goal

pub returns-clause-accepted : goal.returns-clause-accepted
returns-clause-accepted c =
    accepted_is c.args.self.now c.write_at-queued.new.self c.enter.new.self c.args.mem.now c.write_at-queued.new.mem c.args.e c.args.endpoint.now
    (record { sort = c.args.sort; stages = stages_of c.args.cut.now; most = c.args.most; bytes = c.args.front.now ++ c.args.bytes.now }) (drop c.args.keep c.args.self.now.book.taken)
    c.write_at-queued.result.qtds c.write_at-queued.result.dummy c.write_at-queued.result.words
    c.write_at-queued.ensures.qtds c.write_at-queued.ensures.dummy c.write_at-queued.ensures.driver c.write_at-queued.ensures.words c.write_at-queued.ensures.memory c.enter.ensures.driver
