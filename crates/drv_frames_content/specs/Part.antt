-- The periodic part of a driver with the room that it has.
use Rattle.std.specs.Prelude.{ℕ, List}
use Rattle.usb_base.specs.declared.endpoints.EpDesc.{EpDesc}
use Rattle.bandwidth.specs.declared.placements.Placement.{Placement}
use Rattle.bandwidth.specs.Admission.{joined}
use Rattle.drv_chains.specs.declared.members.Member.{Member}
use Rattle.drv_periodic.specs.Periodic.{Periodic}
use Rattle.drv_periodic_table.specs.declared.content.DescriptorNote.{DescriptorNote}
use Rattle.drv_periodic_table.specs.declared.content.Removal.{Removal}
use Rattle.drv_periodic_table.specs.Periodic.{PeriodicContent, want_of}

pub record Held : Type 0 where
  pub periodic : PeriodicContent
  pub queued_room : ℕ  -- how many members a command may have to link or unlink
  pub unlink_room : ℕ  -- how many harvested descriptors may wait
  pub removal_room : ℕ  -- how many removals

abbrev pub with_periodic : Held → PeriodicContent → Held
with_periodic h p = record h { periodic = p }

abbrev pub with_list : Held → Periodic → Held
with_list h list = record h { periodic = record h.periodic { list = list } }

abbrev pub with_queued : Held → List Member → Held
with_queued h members = record h { periodic = record h.periodic { queued = members } }

abbrev pub with_notes : Held → List DescriptorNote → Held
with_notes h notes = record h { periodic = record h.periodic { notes = notes } }

abbrev pub with_removals : Held → List Removal → Held
with_removals h removals = record h { periodic = record h.periodic { removals = removals } }

-- the plan with a placement of endpoint e
abbrev pub with_place : Held → ℕ → EpDesc → Placement → Held
with_place h e x p =
    record h { periodic = record h.periodic { plan = record h.periodic.plan { placed = joined h.periodic.plan.placed (want_of e x) p } } }
