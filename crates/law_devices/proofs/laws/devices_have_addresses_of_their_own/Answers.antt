use Rattle.law_devices.proofs.Owning.{devices_have_addresses_of_their_own}
use Rattle.law_devices.proofs.laws.devices_have_addresses_of_their_own.Goals as goal

pub returns : goal.returns
returns c = devices_have_addresses_of_their_own
