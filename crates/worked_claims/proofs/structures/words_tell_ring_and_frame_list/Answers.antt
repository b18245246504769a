use Rattle.worked_claims.proofs.Reading.{ring_is_read, list_is_read, words_are_its_own}
use Rattle.worked_claims.proofs.structures.words_tell_ring_and_frame_list.Goals as goal

pub returns : goal.returns
returns c = record { ring = ring_is_read; list = list_is_read; queue_heads = words_are_its_own }
