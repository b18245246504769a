-- A cancel that is offered (EHCI 1.0, 4.6 and 4.8.2): the endpoint leaves the ring, or its members leave the frame list.
use Rattle.std.specs.Prelude.{ℕ, ◌-◌, true, [], List, ◌∷◌, filter, map, Option, slice_set, Result, Some, if◌then◌else◌, None, Ok, Err}
use Rattle.usb_base.specs.declared.endpoints.EndCause.{EndCause}
use Rattle.usb_base.specs.declared.endpoints.EndCause.TheVariants as causes
use Rattle.usb_base.specs.declared.reports.OfferError.{OfferError}
use Rattle.usb_base.specs.declared.reports.OfferError.TheVariants as errors
use Rattle.word_mem.specs.Memory.{Mem}
use Rattle.drv_chains.specs.declared.members.Member.{Member}
use Rattle.bandwidth.specs.declared.placements.Placement.{Placement}
use Rattle.drv_periodic_table.specs.Linking.{begun_next}
use Rattle.drv_periodic_table.specs.Periodic.{descriptor_member, queue_member}
use Rattle.drv_table.specs.declared.content.Command.TheVariants as unfinished
use Rattle.drv_table.specs.declared.content.Endpoint.{Endpoint}
use Rattle.drv_table.specs.declared.content.Transfer.{Transfer}
use Rattle.drv_table.specs.Accepting.{Offered, after, before}
use Rattle.drv_table.specs.Commands.{or_finished}
use Rattle.drv_table.specs.DriverContent.{DriverContent, waits_for}
use Rattle.drv_table.specs.Kinds.{is_iso}
use Rattle.drv_table.specs.Words.{queue_head_link}

-- ---- cancel

-- an endpoint that has ended keeps its cause; else a cancel ends it
abbrev pub first_end : Option EndCause → Option EndCause
first_end None = Some causes.Cancel
first_end (Some cause) = Some cause

-- the cancel of a bulk or control endpoint: the store that passes its queue head over comes next (4.8.2)
abbrev pub accepted_cancel : DriverContent → ℕ → Endpoint → DriverContent
accepted_cancel d e x =
    record d {
      endpoints = slice_set d.endpoints e (record x { cancelled = true; ended = first_end x.ended });
      command = Some (unfinished.Unlink e (before d e) (queue_head_link (after d e)));
      made = 0;
      room = record d.room { reports = d.room.reports - 1 };
    }

-- The queue head of an interrupt endpoint leaves its frames; of an isochronous endpoint each outstanding descriptor leaves its frame, the
-- oldest first.
abbrev pub outstanding_members : DriverContent → ℕ → List Member
outstanding_members d e = map (λ (t : Transfer). descriptor_member d.periodic.notes t.first) (filter (waits_for e) d.transfers)

-- what is to be unlinked of a periodic endpoint (4.6)
abbrev pub endpoint_members : DriverContent → ℕ → Endpoint → Placement → List Member
endpoint_members d e x p = if is_iso x.desc.kind then outstanding_members d e else queue_member x.queue p ∷ []

-- the cancel of a periodic endpoint, with these members still to be unlinked
abbrev pub with_cancel : DriverContent → ℕ → Endpoint → List Member → DriverContent
with_cancel d e x members =
    record d {
      endpoints = slice_set d.endpoints e (record x { cancelled = true; ended = first_end x.ended });
      command = Some (unfinished.Unchain e);
      made = 0;
      room = record d.room { reports = d.room.reports - 1 };
      periodic = begun_next true (record d.periodic { queued = members });
    }

-- with nothing to unlink the acceptance counts as the last store
abbrev pub accepted_unchain : DriverContent → ℕ → Endpoint → List Member → DriverContent
accepted_unchain d e x members = or_finished (with_cancel d e x members) (unfinished.Unchain e)

-- by whether the endpoint has a placement, and so is in the frame list and not in the ring
abbrev pub cancelled_by : DriverContent → ℕ → Endpoint → Option Placement → DriverContent
cancelled_by d e x None = accepted_cancel d e x
cancelled_by d e x (Some p) = accepted_unchain d e x (endpoint_members d e x p)

-- by whether there is such an endpoint, and whether it was cancelled already
abbrev pub offered_cancel : DriverContent → Mem → ℕ → Option Endpoint → Result Offered OfferError
offered_cancel d m e None = Err errors.NoEndpoint
offered_cancel d m e (Some x) =
    if x.cancelled then Err (errors.Closed causes.Cancel) else Ok (record { driver = cancelled_by d e x x.placement; memory = m })
