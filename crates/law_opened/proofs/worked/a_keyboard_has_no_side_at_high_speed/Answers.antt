use Rattle.std.proofs.lemmas.Bool.{false≢true}
use Rattle.law_opened.proofs.Sampling.{not_opened}
use Rattle.law_opened.proofs.worked.a_keyboard_has_no_side_at_high_speed.Goals as goal

pub returns-clause-unopened : goal.returns-clause-unopened
returns-clause-unopened c = λ o. not_opened o.place o.number o.here

pub returns-clause-none : goal.returns-clause-none
returns-clause-none c = λ is. false≢true is
