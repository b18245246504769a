use Rattle.std.proofs.Common.{refl}
use Rattle.usb_base.specs.declared.packets.EpKind.TheVariants.{Bulk}
use Rattle.bus_wire.specs.declared.seats.Owner.TheVariants.{High}
use Rattle.claims_report.specs.Samples.{sender, receiver}
use Rattle.law_world.proofs.lemmas.streams.lemmas.taken_reports.Sampling.{none_at, one_apart}
use Rattle.law_world.proofs.streams.taken_reports.worked.before_the_first_line.Goals as goal

pub returns-clause-seated : goal.returns-clause-seated
returns-clause-seated c = record {
  seats = (
    λ moves. record { place = 0; seat = record { name = sender; kind = Bulk; owner = High 0 }; here = refl; name = refl; kind = refl },
    (λ moves. record { place = 1; seat = record { name = receiver; kind = Bulk; owner = High 0 }; here = refl; name = refl; kind = refl }, (tt, (tt, tt))),
  );
  apart = one_apart _;
}

pub returns-clause-unseated : goal.returns-clause-unseated
returns-clause-unseated c = λ k. none_at k.place k.seat k.here

pub returns-clause-report : goal.returns-clause-report
returns-clause-report c = (record { bytes = refl; once = refl; whole = refl }, tt)
