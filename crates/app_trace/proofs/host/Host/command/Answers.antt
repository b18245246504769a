use Rattle.std.proofs.Common.{refl, sym, ap, ◌∙◌}
use Rattle.app_trace.proofs.Offering.{why_of, offer_seen, refused_seen}
use Rattle.app_trace.proofs.host.Host.command.Goals as goal
use Rattle.app_trace.proofs.host.Host.command.Goals.{in-Ok, in-Err}

pub returns-clause-next : goal.returns-clause-next
returns-clause-next c =
    offer_seen _ _ _ c.args.cmd.now c.offer.result c.self.view_is c.offer.ensures.accepted c.offer.ensures.refused c.offer.ensures.same refl

pub returns-clause-refused : goal.returns-clause-refused
returns-clause-refused c =
    refused_seen _ _ c.args.cmd.now c.offer.result c.match-offer.result _ _ c.self.view_is c.offer.ensures.accepted c.offer.ensures.refused
    (elim c.match-offer.branch [ in-Ok w ↦ w.result-is ∙ ap why_of (sym w.in-Ok.is) | in-Err w ↦ w.result-is ∙ ap why_of (sym w.in-Err.is) ])
