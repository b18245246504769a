use Rattle.law_answers.proofs.Samples.{opens_with_room, lacks_a_run}
use Rattle.law_answers.proofs.worked.an_open_needs_a_run_of_two_blocks.Goals as goal

pub returns : goal.returns
returns c = record { room = opens_with_room; lacks = lacks_a_run }
