use Rattle.law_telling.proofs.PassingSamples.{nothing_noted_is_wrong, left_unread_is_wrong}
use Rattle.law_telling.proofs.worked.reading_is_broken_by_noting_nothing.Goals as goal

pub returns : goal.returns
returns c = record { noted = nothing_noted_is_wrong; unread = left_unread_is_wrong }
