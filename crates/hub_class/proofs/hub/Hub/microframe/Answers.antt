use Rattle.hub_class.proofs.HubWork.{hub_works}
use Rattle.hub_class.proofs.hub.Hub.microframe.Goals as goal

pub returns : goal.returns
returns g c = rw (← c.self.view_is) (hub_works _ _ _ _ _ _ _ _ _ c.microframe.ensures.work c.microframe.ensures.multi)
