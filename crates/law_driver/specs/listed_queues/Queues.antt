-- The queue heads of interrupt endpoints in the frame list (EHCI 1.0, 4.6): each endpoint that is in its frames has its own there.
--     queue_of x p           the queue head of an endpoint, with its placement, as a member
--     is_in_queues s x p     it is linked
--     HasQueues d            each is, and there is room for those of endpoints that are still to be opened; an endpoint of which members
--                            are unlinked is in its frames until the last store
--     LinksQueues d          each endpoint with a queue that is in its frames has a placement, and its queue head is linked by it
--     KeepsQueues d m cmd    HasQueues is kept by the command, where it is accepted
use Rattle.std.specs.List.{list_any}
use Rattle.std.specs.Prelude.{◌≡◌, ℕ, true, false, slice_get, Some, Ok, ◌+◌, ◌≤◌, Bool, length}
use Rattle.usb_base.specs.declared.commands.Cmd.{Cmd}
use Rattle.word_mem.specs.Memory.{Mem}
use Rattle.bandwidth.specs.declared.placements.Placement.{Placement}
use Rattle.drv_chains.specs.declared.members.QueueHead.{QueueHead}
use Rattle.drv_chains.specs.Chains.{Schedule}
use Rattle.drv_members.specs.Members.{is_linked, is_this}
use Rattle.drv_periodic_table.specs.Periodic.{queue_member, queue_name}
use Rattle.drv_table.specs.declared.content.Command.TheVariants as unfinished
use Rattle.drv_table.specs.declared.content.Endpoint.{Endpoint}
use Rattle.drv_table.specs.DriverContent.{DriverContent}
use Rattle.drv_table.specs.Kinds.{is_iso}
use Rattle.drv_table.specs.Accepting.{Offered}
use Rattle.drv_table.specs.Offers.{offered}
use Rattle.claims_driver.specs.FrameListMembers.{Framed, framed_in, is_chained}

abbrev pub queue_of : Framed → Placement → QueueHead
queue_of x p = record { id = queue_name x.queue; period = p.period; phase = p.phase }

abbrev pub is_in_queues : Schedule → Framed → Placement → Bool
is_in_queues s x p = list_any (is_this (queue_of x p)) s.queues

pub record HasQueues (d : DriverContent) : Type 0 where
  pub each :
      (e : ℕ) (x : Framed) (p : Placement) → framed_in d.endpoints e ≡ Some x → x.chained ≡ true → x.isochronous ≡ false
      → x.placement ≡ Some p → is_in_queues d.periodic.list.members.schedule x p ≡ true
  pub many : length d.periodic.list.members.schedule.queues ≤ length d.endpoints
  pub room : length d.endpoints + d.room.endpoints ≤ d.periodic.list.members.queue_room
  pub leaving : (e : ℕ) → d.command ≡ Some (unfinished.Unchain e) → is_chained (framed_in d.endpoints e) ≡ true

abbrev pub LinksQueues : DriverContent → Type 0
LinksQueues d =
    (e : ℕ) (x : Endpoint) → slice_get d.endpoints e ≡ Some x → x.chained ≡ true → is_iso x.desc.kind ≡ false
    → (p : Placement) × ((x.placement ≡ Some p) × (is_linked d.periodic.list.members.schedule (queue_member x.queue p) ≡ true))

abbrev pub KeepsQueues : DriverContent → Mem → Cmd → Type 0
KeepsQueues d m cmd = (o : Offered) → HasQueues d → offered d m cmd ≡ Ok o → HasQueues o.driver
