use Rattle.std.proofs.Common.{refl}
use Rattle.std.proofs.lemmas.Bool.{true≢false}
use Rattle.law_microframes.proofs.translators.worked.a_speaker_in_hand.Goals as goal

pub returns-clause-waits : goal.returns-clause-waits
returns-clause-waits c = record { hand = record { copy = _; part = refl; held = refl; at = refl }; unset = refl }

pub returns-clause-asked : goal.returns-clause-asked
returns-clause-asked c = λ u. let h = u.hand.held in let s = u.unset in cc

pub returns-clause-elsewhere : goal.returns-clause-elsewhere
returns-clause-elsewhere c = λ u. let h = u.hand.held in let a = u.hand.at in cc

pub returns-clause-lacks : goal.returns-clause-lacks
returns-clause-lacks c = λ on way some. ((λ own. refl), tt)

pub returns-clause-over : goal.returns-clause-over
returns-clause-over c = λ start vs k. true≢false ((k.held _ refl refl refl refl refl).0 refl)
