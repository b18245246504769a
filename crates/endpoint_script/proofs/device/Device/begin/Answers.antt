use Rattle.endpoint_script.proofs.Where.{places_stay}
use Rattle.endpoint_script.proofs.device.Device.begin.Goals as goal

pub invariant_of-self : goal.invariant_of-self
invariant_of-self c = rw c.begin_all.ensures (places_stay c.self.inside.endpoints.items c.self.inside.places c.self.invariant)
