use Rattle.law_hearing.proofs.Determined.{one_thing_is_heard}
use Rattle.law_hearing.proofs.one_thing_is_heard.Goals as goal

pub returns : goal.returns
returns c = one_thing_is_heard
