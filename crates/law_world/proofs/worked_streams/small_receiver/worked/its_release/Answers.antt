use Rattle.law_world.proofs.lemmas.worked_streams.lemmas.small_receiver.Moments.{is_released}
use Rattle.law_world.proofs.worked_streams.small_receiver.worked.its_release.Goals as goal

pub returns-clause-not_heard : goal.returns-clause-not_heard
returns-clause-not_heard c = is_released.0

pub returns-clause-heard : goal.returns-clause-heard
returns-clause-heard c = is_released.1

pub returns-clause-to_clear : goal.returns-clause-to_clear
returns-clause-to_clear c = is_released.2

pub returns-clause-cleared : goal.returns-clause-cleared
returns-clause-cleared c = is_released.3

pub returns-clause-to_release : goal.returns-clause-to_release
returns-clause-to_release c = is_released.4

pub returns-clause-gone : goal.returns-clause-gone
returns-clause-gone c = is_released.5

pub returns-clause-told : goal.returns-clause-told
returns-clause-told c = is_released.6

pub returns-clause-its_byte : goal.returns-clause-its_byte
returns-clause-its_byte c = is_released.7

pub returns-clause-blocks : goal.returns-clause-blocks
returns-clause-blocks c = is_released.8

pub returns-clause-rests : goal.returns-clause-rests
returns-clause-rests c = is_released.9

pub returns-clause-carried : goal.returns-clause-carried
returns-clause-carried c = is_released.10
