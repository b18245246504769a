-- So each endpoint with a queue that is in its frames has its queue head there.
use Rattle.std.proofs.Common.{◌≡◌, true, Option, Some, None, option_map, ap, ◌∙◌, refl}
use Rattle.std.specs.Prelude.{is_some}
use Rattle.std.proofs.lemmas.Bool.{false≢true}
use Rattle.bandwidth.specs.declared.placements.Placement.{Placement}
use Rattle.drv_members.specs.Members.{is_linked}
use Rattle.drv_periodic_table.specs.Periodic.{queue_member}
use Rattle.drv_table.specs.DriverContent.{DriverContent}
use Rattle.claims_driver.specs.Leaving.{HasOwners}
use Rattle.claims_driver.specs.FrameListMembers.{framed_of}
use Rattle.law_driver.specs.listed_queues.Queues.{HasQueues, LinksQueues}

pub queue_heads_are_linked : (d : DriverContent) → HasOwners d → HasQueues d → LinksQueues d
queue_heads_are_linked d has old e x here on queued =
    let s = has.orderly.steady e x here in
    placed x.placement refl (s.placed ∙ s.frames on)
  where
    placed : (o : Option Placement) → x.placement ≡ o → is_some o ≡ true → (p : Placement) × ((x.placement ≡ Some p) × (is_linked d.periodic.list.members.schedule (queue_member x.queue p) ≡ true))
    placed None is some = absurd (false≢true some)
    placed (Some p) is some = (p, (is, old.each e (framed_of x) p (ap (option_map framed_of) here) on queued is))
