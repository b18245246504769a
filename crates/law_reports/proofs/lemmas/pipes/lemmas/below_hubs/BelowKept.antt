-- The streams of bulk endpoints below hubs are right at each moment of each script, and after its run.
use Rattle.std.proofs.Common.{ℕ, List}
use Rattle.script_types.specs.declared.scripts.Script.{Script}
use Rattle.script_text.specs.Faults.{Spells}
use Rattle.bus_wire.specs.Bus.{fixed_of}
use Rattle.bus_world.specs.Budgets.{moment}
use Rattle.bus_world.specs.Opening.{opening_world}
use Rattle.bus_world.specs.Orders.{at_place, orders_of}
use Rattle.claims_world.specs.BelowStreams.{AreBelowTakenStreams, AreBelowSentStreams, AreBelowStreams, AreBelowInStreams}
use Rattle.claims_world.specs.BelowStreams.{IsSparedAt, IsSparedBefore, LeavesTranslator, LeftInsAreRight}
use Rattle.claims_world.specs.Streams.{report_of}
use Rattle.claims_world.specs.BelowStreams.{BelowOutsAreTaken, BelowOutsAreSent, BelowStreamsEndRight}
use Rattle.law_world.specs.streams.put_laws.TakenLaws.{StreamsArePuts}
use Rattle.law_world.specs.streams.put_laws.TakenPuts.{puts_at}
use Rattle.law_world.specs.streams.taken_reports.Seats.{IsSeatedBus}
use Rattle.law_world.proofs.lemmas.streams.lemmas.put_laws.Ends.{streams_are_of_puts}
use Rattle.law_world.proofs.lemmas.streams.lemmas.put_laws.Rising.{texts_rise}
use Rattle.law_world.proofs.lemmas.streams.lemmas.taken_reports.Turning.{run_keeps_seats}
use Rattle.law_reports.specs.pipes.below_hubs.BelowLaws.{TextsKeepBelowStreams, TextsKeepStreams}
use Rattle.law_reports.specs.pipes.high_streams.Names.{HasItsNames}
use Rattle.law_reports.proofs.lemmas.pipes.lemmas.below_hubs.BehindMoments.{texts_are_behind}
use Rattle.law_reports.proofs.lemmas.pipes.lemmas.below_hubs.BelowReporting.{below_taken, below_sent, below_right}
use Rattle.law_reports.proofs.lemmas.pipes.lemmas.below_hubs.InwardReporting.{texts_keep_ins_below, asking_more}
use Rattle.law_reports.proofs.lemmas.pipes.lemmas.high_streams.AfterRuns.{after_run, at_end}
use Rattle.law_reports.proofs.lemmas.pipes.lemmas.high_streams.Names.{texts_have_names}
use Rattle.law_reports.proofs.lemmas.pipes.lemmas.high_streams.Opened.{moments_are_opened}
use Rattle.law_reports.proofs.lemmas.pipes.lemmas.hub_setups.Moments.{lines_spare_hubs}
use Rattle.law_reports.proofs.lemmas.pipes.lemmas.puts.PaidMoments.{texts_keep_all_high_streams}

module _ (text : List ℕ) (s : Script) (spelled : Spells text s) where
  names : HasItsNames s
  names = texts_have_names text s spelled

  seated : (k : ℕ) → IsSeatedBus s (fixed_of s) (moment s k).world.bus
  seated k = run_keeps_seats s (fixed_of s) (at_place (opening_world s) (orders_of s.lines)) k names.seated

  puts : (k : ℕ) → StreamsArePuts s (moment s k) (puts_at s k)
  puts k = streams_are_of_puts s (texts_rise text s spelled) k

  taken : BelowOutsAreTaken s
  taken k =
      below_taken s (moment s k) (puts_at s k) (texts_are_behind text s spelled k)
      (moments_are_opened s names.fit k) names (seated k) (puts k)

  sent : BelowOutsAreSent s
  sent k =
      below_sent s (moment s k) (puts_at s k) (texts_are_behind text s spelled k)
      (moments_are_opened s names.fit k) names (seated k) (puts k)

  ends_right : BelowStreamsEndRight s
  ends_right k none =
      below_right s (moment s k) (puts_at s k) (texts_are_behind text s spelled k) (moments_are_opened s names.fit k) names (seated k)
      (puts k) none

  left : LeftInsAreRight s
  left k =
      asking_more s (λ x. IsSparedBefore s x k) (LeavesTranslator s) (report_of (fixed_of s) (moment s k).world)
      (λ x leaves j low. lines_spare_hubs text s x spelled leaves j) (texts_keep_ins_below text s spelled k)

pub texts_keep_below_streams : TextsKeepBelowStreams
texts_keep_below_streams text s spelled = record {
  taken_throughout = taken text s spelled;
  sent_throughout = sent text s spelled;
  at_the_end = ends_right text s spelled;
  ins_throughout = texts_keep_ins_below text s spelled;
  left_throughout = left text s spelled;
  taken = after_run (AreBelowTakenStreams s) s (taken text s spelled);
  sent = after_run (AreBelowSentStreams s) s (sent text s spelled);
  all = at_end (AreBelowStreams s) s (ends_right text s spelled);
  ins = after_run (AreBelowInStreams s (λ x. (k : ℕ) → IsSparedAt s x k)) s (λ k.
      asking_more s (λ x. IsSparedBefore s x k) (λ x. (j : ℕ) → IsSparedAt s x j) (report_of (fixed_of s) (moment s k).world)
      (λ x spared j low. spared j) (texts_keep_ins_below text s spelled k));
  left_ins = after_run (AreBelowInStreams s (LeavesTranslator s)) s (left text s spelled);
}

pub texts_keep_streams : TextsKeepStreams
texts_keep_streams text s spelled = record {
  high = texts_keep_all_high_streams text s spelled;
  below = texts_keep_below_streams text s spelled;
}
