use Rattle.std.proofs.Common.{subst}
use Rattle.hc_microframe.specs.Answers.{Told}
use Rattle.hc_microframe.specs.Stepping.{IsStepped, IsHeldUp}
use Rattle.hc_microframe.proofs.Telling.{holds_up}
use Rattle.ehci_c.proofs.events.ehci_step.Goals as goal

pub returns-in-Event-clause-event : goal.returns-in-Event-clause-event
returns-in-Event-clause-event c small = record {
  kind = c.in-Event.kind;
  after = c.step.new.desk;
  made =
      subst
      (λ (desk : Told). IsStepped c.args.whole.now c.args.words.now desk c.in-Event.kind c.step.new.whole c.step.new.words c.step.new.desk)
      c.of-desk.ensures
      (c.step.ensures.event c.in-Event.kind c.in-Event.is);
  number_is = c.kind_number.ensures.number;
}

pub returns-in-WantsBus-clause-wants : goal.returns-in-WantsBus-clause-wants
returns-in-WantsBus-clause-wants c is =
    holds_up c.args.whole.now c.args.words.now c.args.answers.now c.args.bytes.now c.step.new.desk c.tell_asked.new.ask c.tell_asked.new.out
    (subst (λ (desk : Told). IsHeldUp c.args.whole.now c.args.words.now desk c.step.new.desk) c.of-desk.ensures
    (c.step.ensures.wants c.in-WantsBus.is)) c.tell_asked.ensures
