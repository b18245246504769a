use Rattle.law_world.proofs.lemmas.streams.lemmas.put_laws.SentAlike.{fewer_are_sent, accepted_sends, quiet_sends, harvest_sends, release_sends}
use Rattle.law_world.proofs.streams.put_laws.sent_laws.other_rows_send_whole.Goals as goal

pub returns : goal.returns
returns c = record {
  fewer = fewer_are_sent;
  command = accepted_sends;
  quiet = quiet_sends;
  harvest = harvest_sends;
  release =
      release_sends;
}
