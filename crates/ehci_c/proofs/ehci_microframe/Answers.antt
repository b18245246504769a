use Rattle.std.proofs.Common.{subst}
use Rattle.hc_microframe.specs.Answers.{Told}
use Rattle.hc_microframe.specs.Microframe.{IsMade, IsWanted}
use Rattle.hc_microframe.proofs.Telling.{asks}
use Rattle.ehci_c.proofs.ehci_microframe.Goals as goal

pub returns-in-Made-clause-made : goal.returns-in-Made-clause-made
returns-in-Made-clause-made c is = record {
  after = c.microframe.new.desk;
  made =
      subst
      (λ (desk : Told).
      IsMade c.args.state.now c.args.words.now desk c.in-Made.made c.microframe.new.state c.microframe.new.words c.microframe.new.desk)
      c.of-desk.ensures
      (c.microframe.ensures.made c.in-Made.made c.in-Made.is);
}

pub returns-in-WantsBus-clause-wants : goal.returns-in-WantsBus-clause-wants
returns-in-WantsBus-clause-wants c is =
    asks c.args.state.now c.args.words.now c.args.answers.now c.args.bytes.now c.in-WantsBus.made c.microframe.new.desk
    c.tell_asked.new.ask c.tell_asked.new.out
    (subst (λ (desk : Told). IsWanted c.args.state.now c.args.words.now desk c.in-WantsBus.made c.microframe.new.desk) c.of-desk.ensures
    (c.microframe.ensures.wants c.in-WantsBus.made c.in-WantsBus.is)) c.tell_asked.ensures
