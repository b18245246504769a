use Rattle.std.proofs.Common.{refl}
use Rattle.law_queues.proofs.lemmas.mended_heads.Sampled.{owes, ends, given, halts}
use Rattle.law_queues.proofs.mended_heads.worked.a_stall_is_harvested.Goals as goal

pub returns : goal.returns
returns c = record { found = refl; stall = (refl, refl); owes = owes; ends = ends; given = given; halts = halts }
