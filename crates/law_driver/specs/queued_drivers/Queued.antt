-- What the driver's content tells of its queues, whatever kinds of endpoints it has (EHCI 1.0, 3.5, 3.6 and 4.10; USB 2.0, 5.5 to 5.8): a queue goes on alike in the
-- ring and in frames, and at each speed, so the queues of interrupt endpoints are told as those of bulk ones, all as if at high speed and in the ring; isochronous
-- endpoints have none, and stand as endpoints that were given back, with all their descriptors.
--     queued_desc x            the endpoint as one of the asynchronous schedule: a control endpoint by its way, and else a bulk one, at high speed
--     queued_endpoint x        .. in the ring until it is given back; an isochronous one is gone
--     queued_transfer xs y     a transfer of qTDs as it is; a descriptor was given back
--     queued_command xs c      an open that is to be linked in frames is one that is to be linked in the ring; descriptors, and members that are unlinked, are
--                              none
--     queued_made c made       how many of its events were made: the stores of the frame list are none of an open's
--     queued d                 the content, so told
--     FitsKind x               the way of the endpoint is that of its kind: those of control endpoints have both (USB 2.0, 5.5)
--     QueuesTakeTurns d        the transfers of all its queues are chained and take turns; those that are to be given back are transfers of qTDs, who has left its
--                              frames, or is to leave them, was cancelled, and who is to leave the ring isn't periodic
use Rattle.std.specs.Prelude.{◌≡◌, ℕ, zero, suc, ◌-◌, true, false, not, List, [], length, map, slice_get, Option, Some, None, if◌then◌else◌}
use Rattle.usb_base.specs.declared.endpoints.EndCause.TheVariants as causes
use Rattle.usb_base.specs.declared.endpoints.EpDesc.{EpDesc}
use Rattle.usb_base.specs.declared.packets.EpKind.{EpKind}
use Rattle.usb_base.specs.declared.packets.EpKind.TheVariants as kinds
use Rattle.usb_base.specs.declared.packets.Speed.TheVariants as speeds
use Rattle.usb_base.specs.declared.packets.Way.{Way}
use Rattle.usb_base.specs.declared.packets.Way.TheVariants as ways
use Rattle.drv_periodic_table.specs.Periodic.{is_periodic}
use Rattle.drv_table.specs.declared.content.Endpoint.{Endpoint}
use Rattle.drv_table.specs.declared.content.Transfer.{Transfer}
use Rattle.drv_table.specs.declared.content.Sort.{Sort}
use Rattle.drv_table.specs.declared.content.Sort.TheVariants as sorts
use Rattle.drv_table.specs.declared.content.Command.{Command}
use Rattle.drv_table.specs.declared.content.Command.TheVariants as unfinished
use Rattle.drv_table.specs.DriverContent.{DriverContent}
use Rattle.drv_table.specs.Kinds.{is_iso}
use Rattle.drv_table.specs.Parts.{Parts}
use Rattle.claims_driver.specs.Owners.{is_descriptor}
use Rattle.law_driver.specs.chained_transfers.Bulk.{sort_by}
use Rattle.law_driver.specs.chained_transfers.AsynchronousTurns.{AsynchronousTakesTurns}

-- ---- endpoints

abbrev pub queued_kind : Way → EpKind
queued_kind ways.Ctl = kinds.Control
queued_kind _ = kinds.Bulk

abbrev pub queued_desc : EpDesc → EpDesc
queued_desc x = record x { kind = queued_kind x.name.way; speed = speeds.High }

abbrev pub without_queue : Endpoint → Endpoint
without_queue x =
    record x { desc = queued_desc x.desc; placement = None; next = None; ended = Some causes.Cancel; cancelled = true; linked = false; chained = false; gone = true }

abbrev pub with_queue : Endpoint → Endpoint
with_queue x = record x { desc = queued_desc x.desc; placement = None; linked = if is_periodic x.desc.kind then not x.gone else x.linked; chained = false }

abbrev pub queued_endpoint : Endpoint → Endpoint
queued_endpoint x = if is_iso x.desc.kind then without_queue x else with_queue x

-- ---- transfers

abbrev pub sort_of_queue : Option Endpoint → Sort
sort_of_queue None = sorts.Get
sort_of_queue (Some x) = sort_by x.desc.name.way

abbrev pub queued_transfer : List Endpoint → Transfer → Transfer
queued_transfer xs y = if is_descriptor y.sort then record y { sort = sort_of_queue (slice_get xs y.endpoint); reported = true; released = true } else y

-- ---- the unfinished command

abbrev pub queue_of : Option Endpoint → ℕ
queue_of None = 0
queue_of (Some x) = x.queue

abbrev pub queued_command : List Endpoint → Option Command → Option Command
queued_command xs (Some unfinished.Chain) = Some (unfinished.Open (queue_of (slice_get xs (length xs - 1))))
queued_command xs (Some (unfinished.Iso e t count)) = None
queued_command xs (Some (unfinished.Unchain e)) = None
queued_command xs c = c

abbrev pub queued_made : Option Command → ℕ → ℕ
queued_made (Some unfinished.Chain) zero = 0
queued_made (Some unfinished.Chain) (suc made) = 1
queued_made (Some (unfinished.Iso e t count)) made = 0
queued_made (Some (unfinished.Unchain e)) made = 0
queued_made _ made = made

-- ---- all of it

abbrev pub queued : DriverContent → DriverContent
queued d = record d {
  endpoints = map queued_endpoint d.endpoints;
  transfers = map (queued_transfer d.endpoints) d.transfers;
  command = queued_command d.endpoints d.command;
  made = queued_made d.command d.made;
  periodic = record d.periodic { unlinks = []; removals = [] };
}

abbrev pub queued_parts : Parts → Parts
queued_parts p = record p { driver = queued p.driver }

-- ---- turns

abbrev pub IsOfWay : Way → EpKind → Type 0
IsOfWay ways.Ctl kind = kind ≡ kinds.Control
IsOfWay _ kinds.Control = ⊥
IsOfWay _ _ = Unit {0}

abbrev pub FitsKind : EpDesc → Type 0
FitsKind x = IsOfWay x.name.way x.kind

pub record QueuesTakeTurns (d : DriverContent) : Type 0 where
  pub turns : AsynchronousTakesTurns (queued d)
  pub kinds_fit : (e : ℕ) (x : Endpoint) → slice_get d.endpoints e ≡ Some x → FitsKind x.desc
  pub harvested : (i t : ℕ) (y : Transfer) → slice_get d.harvested i ≡ Some t → slice_get d.transfers t ≡ Some y → is_descriptor y.sort ≡ false
  pub cancelled : (e : ℕ) (x : Endpoint) → slice_get d.endpoints e ≡ Some x → is_periodic x.desc.kind ≡ true → x.chained ≡ false → x.cancelled ≡ true
  pub leaver : (e : ℕ) (x : Endpoint) → d.command ≡ Some (unfinished.Unchain e) → slice_get d.endpoints e ≡ Some x → x.cancelled ≡ true
  pub ring : (e b link : ℕ) (x : Endpoint) → d.command ≡ Some (unfinished.Unlink e b link) → slice_get d.endpoints e ≡ Some x → is_periodic x.desc.kind ≡ false
