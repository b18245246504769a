use Rattle.std.proofs.Common.{refl}
use Rattle.mem_bytes.specs.Bytes.{places, all_reached}
use Rattle.hc_iso.specs.Itd.{fetched_itd, after_in}
use Rattle.law_microframes.proofs.worked_visits.rows.a_descriptor_is_in_time.Goals as goal

pub returns-clause-before : goal.returns-clause-before
unfolding fetched_itd after_in places all_reached
returns-clause-before c = refl

pub returns-clause-left : goal.returns-clause-left
unfolding fetched_itd after_in places all_reached
returns-clause-left c = refl

pub returns-clause-rest : goal.returns-clause-rest
unfolding fetched_itd after_in places all_reached
returns-clause-rest c = refl

pub returns-clause-in_time : goal.returns-clause-in_time
unfolding fetched_itd after_in places all_reached
returns-clause-in_time c = refl
