use Rattle.std.proofs.Common.{refl}
use Rattle.law_opened.proofs.worked.the_sides_beside_a_keyboard.Goals as goal

pub returns-clause-opened : goal.returns-clause-opened
returns-clause-opened c = record { place = 2; number = 7; here = refl }

pub returns-clause-sender : goal.returns-clause-sender
returns-clause-sender c = refl

pub returns-clause-taker : goal.returns-clause-taker
returns-clause-taker c = refl

pub returns-clause-behind : goal.returns-clause-behind
returns-clause-behind c = refl
