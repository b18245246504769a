use Rattle.law_world.proofs.lemmas.steps.lemmas.endpoint_releases.Releasing.{endpoint_release_drives}
use Rattle.law_world.proofs.steps.endpoint_releases.laws.endpoint_release_drives.Goals as goal

pub returns : goal.returns
returns c = endpoint_release_drives
