use Rattle.law_translated.proofs.Receiving as inward
use Rattle.law_translated.proofs.Sending as outward
use Rattle.law_translated.proofs.pipes.stranded_pipes_only_end.Goals as goal

pub returns : goal.returns
returns c = record { in_pipe = inward.only_ends; out_pipe = outward.only_ends }
