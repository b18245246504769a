use Rattle.std.proofs.Common.{rules, subst}
use Rattle.hc_microframe.specs.Answers.{Told}
use Rattle.hc_microframe.specs.Several.{IsRun, IsRunOver, IsRunHeldUp}
use Rattle.hc_microframe.proofs.Telling.{runs_to_ask}
use Rattle.ehci_c.proofs.events.ehci_run.Goals as goal

pub returns-in-Over-clause-over : goal.returns-in-Over-clause-over
returns-in-Over-clause-over c is = record {
  after = c.run-stop.new.desk;
  made =
      subst
      (λ (desk : Told).
      IsRunOver c.args.whole.now c.args.words.now desk c.in-Over.made c.run-stop.new.whole c.run-stop.new.words c.run-stop.new.desk)
      c.of-desk.ensures
      (c.run-stop.ensures.over c.in-Over.made c.in-Over.is);
  taken = search rules;
}

pub returns-in-WantsBus-clause-wants : goal.returns-in-WantsBus-clause-wants
returns-in-WantsBus-clause-wants c is =
    runs_to_ask c.args.whole.now c.args.words.now c.args.answers.now c.args.bytes.now c.in-WantsBus.made _ c.run-stop.new.whole
    c.run-stop.new.words c.run-stop.new.desk c.tell_asked.new.ask c.tell_asked.new.out
    (subst
    (λ (desk : Told).
    IsRunHeldUp c.args.whole.now c.args.words.now desk c.in-WantsBus.made c.run-stop.new.whole c.run-stop.new.words c.run-stop.new.desk)
    c.of-desk.ensures
    (c.run-stop.ensures.wants c.in-WantsBus.made c.in-WantsBus.is)) (search rules) c.tell_asked.ensures

pub returns-in-Long-clause-long : goal.returns-in-Long-clause-long
returns-in-Long-clause-long c is = record {
  after = c.run-stop.new.desk;
  made =
      subst
      (λ (desk : Told).
      IsRun c.args.whole.now c.args.words.now desk c.args.events.now c.run-stop.new.whole c.run-stop.new.words c.run-stop.new.desk)
      c.of-desk.ensures
      (c.run-stop.ensures.long c.in-Long.is);
  taken = search rules;
}
