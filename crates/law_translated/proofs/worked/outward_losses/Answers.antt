use Rattle.law_translated.proofs.WorkedPipes.{three_puts, repeated_packet, cleared_taken, third_silence, works_on}
use Rattle.law_translated.proofs.worked.outward_losses.Goals as goal

pub returns : goal.returns
returns c = record {
  put = three_puts;
  acknowledgement = repeated_packet;
  cleared = cleared_taken;
  silences = third_silence;
  cancelled = works_on;
}
