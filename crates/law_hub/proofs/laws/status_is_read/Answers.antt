use Rattle.law_hub.proofs.Answers.{read_has_four}
use Rattle.law_hub.proofs.Transfers.{read_reply, read_sent, read_received, read_status, read_after}
use Rattle.law_hub.proofs.laws.status_is_read.Goals as goal

pub returns : goal.returns
returns c = record {
  four_bytes = λ setup bytes h e. (read_has_four setup bytes h e).has;
  packet = read_reply;
  sent = read_sent;
  received = read_received;
  status = read_status;
  after = read_after;
}
