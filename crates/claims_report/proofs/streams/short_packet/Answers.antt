use Rattle.std.proofs.Common.{[], refl}
use Rattle.std.specs.Fmt.{digits}
use Rattle.hex.specs.Hex.{encode_with}
use Rattle.claims_report.proofs.streams.short_packet.Goals as goal

pub returns : goal.returns
unfolding digits encode_with
returns c = record { stream = refl; told = refl; right = (record { bytes = ([], refl); once = refl; whole = refl }, tt); text = refl }
