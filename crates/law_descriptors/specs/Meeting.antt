-- Whom the walk of the frames may meet, by what a driver has (EHCI 1.0, 3.1, 3.3, 3.4, 3.6 and 4.6): the members of its frame list to which some word may lead,
-- and from an unlinking store to the next microframe also those that were unlinked, since the controller may hold a link to one or stand at it.
--     kind_of q m             the kind of the structure of a member
--     kind_at q s n           the kind of the member of the schedule whose structure begins at byte address n
--     standing d n            the kind of such a member of the driver's frame list, to which a word may lead
--     no_recent n             nothing was unlinked in this microframe
--     met d recent n          the kind of a member that stands at n, or else of what was unlinked in this microframe
use Rattle.std.specs.Prelude.{ℕ, ◌*◌, ◌/◌, Bool, true, false, nat_eq, Option, Some, None}
use Rattle.std.specs.List.{list_any}
use Rattle.drv_chains.specs.declared.members.Descriptor.{Descriptor}
use Rattle.drv_chains.specs.declared.members.QueueHead.{QueueHead}
use Rattle.drv_chains.specs.declared.members.Member.{Member}
use Rattle.drv_chains.specs.declared.members.Member.TheVariants.{Once, Each}
use Rattle.drv_chains.specs.Chains.{Schedule}
use Rattle.drv_periodic_table.specs.Periodic.{PeriodicContent, note_at}
use Rattle.drv_table.specs.DriverContent.{DriverContent}
use Rattle.law_frames.specs.Met.{Kind, AQueue, AnItd, ASitd}
use Rattle.claims_driver.specs.Unlinked.{led_by}

-- ---- what they are

abbrev pub kind_of_descriptor : Bool → Kind
kind_of_descriptor true = ASitd
kind_of_descriptor false = AnItd

abbrev pub kind_of : PeriodicContent → Member → Kind
kind_of q (Each x) = AQueue
kind_of q (Once k) = kind_of_descriptor (note_at q.notes (k.id / 32)).split

abbrev pub queue_begins : ℕ → QueueHead → Bool
queue_begins n x = nat_eq (32 * (x.id / 32)) n

abbrev pub descriptor_begins : ℕ → Descriptor → Bool
descriptor_begins n k = nat_eq (32 * (k.id / 32)) n

-- a queue head, or else a descriptor
abbrev pub kind_by : Bool → Bool → Kind → Option Kind
kind_by true descriptor kind = Some AQueue
kind_by false true kind = Some kind
kind_by false false kind = None

abbrev pub kind_at : PeriodicContent → Schedule → ℕ → Option Kind
kind_at q s n =
    kind_by (list_any (queue_begins n) s.queues) (list_any (descriptor_begins n) s.descriptors) (kind_of_descriptor (note_at q.notes (n / 32)).split)

-- ---- whom the walk may meet

abbrev pub standing_in : PeriodicContent → ℕ → Option Kind
standing_in q n = kind_at q (led_by q.list.members.schedule q.list.work) n

abbrev pub standing : DriverContent → ℕ → Option Kind
standing d n = standing_in d.periodic n

abbrev pub no_recent : ℕ → Option Kind
no_recent n = None

abbrev pub or_recent : Option Kind → Option Kind → Option Kind
or_recent (Some kind) recent = Some kind
or_recent None recent = recent

abbrev pub met : DriverContent → (ℕ → Option Kind) → ℕ → Option Kind
met d recent n = or_recent (standing d n) (recent n)
