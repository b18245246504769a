use Rattle.std.proofs.Common.{refl}
use Rattle.mem_bytes.specs.Bytes.{places, all_reached}
use Rattle.hc_iso.specs.Itd.{fetched_itd}
use Rattle.law_microframes.proofs.worked_visits.rows.nothing_is_free.Goals as goal

pub returns : goal.returns
unfolding fetched_itd places all_reached
returns c = record { untaken = refl }
