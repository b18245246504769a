use Rattle.std.proofs.Common.{refl}
use Rattle.mem_bytes.specs.Bytes.{places, all_reached}
use Rattle.hc_iso.specs.Itd.{fetched_itd, after_in}
use Rattle.law_microframes.proofs.worked_visits.rows.a_descriptor_is_paid.Goals as goal

pub returns-clause-own : goal.returns-clause-own
unfolding fetched_itd after_in places all_reached
returns-clause-own c = refl

pub returns-clause-its_load : goal.returns-clause-its_load
returns-clause-its_load c = refl

pub returns-clause-other : goal.returns-clause-other
unfolding fetched_itd
returns-clause-other c = refl

pub returns-clause-no_load : goal.returns-clause-no_load
returns-clause-no_load c = refl
