use Rattle.endpoint_script.proofs.Where.{within_for}
use Rattle.endpoint_script.proofs.device.Device.place.Goals as goal

pub returns-clause-within : goal.returns-clause-within
returns-clause-within c = rw (c.place_for.ensures c.self.inside.endpoints.items c.self.invariant, ← c.self.view_is) (within_for c.token.result c.self.inside.endpoints.items c.args.ask.now.ep)
