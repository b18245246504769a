-- The streams at high speed of a script with a keyboard behind a hub are right at each moment.
use Rattle.std.proofs.Common.{refl}
use Rattle.law_opened.specs.Samples.{beside_split}
use Rattle.law_reports.specs.pipes.PipedLaws.{DeclaresOpens}
use Rattle.law_reports.proofs.lemmas.pipes.FollowedMoments.{scripts_are_followed}
use Rattle.claims_world.specs.HighStreams.{KeepsHighThroughout}
use Rattle.law_reports.proofs.lemmas.pipes.lemmas.high_streams.Joining.{piped_keep_high}
use Rattle.law_reports.proofs.lemmas.pipes.lemmas.high_streams.Names.{beside_mixed, beside_names}

beside_declares : DeclaresOpens beside_split
beside_declares = (refl, (refl, (refl, (tt, (tt, (tt, (tt, tt)))))))

pub beside_kept : KeepsHighThroughout beside_split
beside_kept =
    piped_keep_high beside_split beside_names
    (scripts_are_followed beside_split beside_mixed.fits beside_mixed.bytes beside_mixed.opens beside_declares)
