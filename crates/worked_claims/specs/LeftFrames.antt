-- A frame list with two live members, a queue head in block 1 and an isochronous descriptor in block 4; what stood in blocks 2, 3, 5 and 6
-- left it.
--     queue_at b              the queue head in this block
--     descriptor_at b         the iTD in this block
--     two_live d              the driver with that frame list
--     LeftLater x             the queue head in block 3 and the descriptor in block 5 left later, and no other did
--     LiveLeads, EndLeads, LaterLeads
--                             one that left may lead to a live one, to the end of the frame, and to one that left later
--     EarlierBreaks           .. and not to one that left earlier
use Rattle.std.specs.Prelude.{◌≡◌, ℕ, ◌+◌, ◌*◌, ◌⊎◌, [], ◌∷◌, None}
use Rattle.drv_chains.specs.declared.members.Descriptor.{Descriptor}
use Rattle.drv_chains.specs.declared.members.Member.{Member}
use Rattle.drv_chains.specs.declared.members.Member.TheVariants.{Once, Each}
use Rattle.drv_chains.specs.declared.members.QueueHead.{QueueHead}
use Rattle.drv_table.specs.DriverContent.{DriverContent}
use Rattle.claims_world.specs.Links.{EndsOrLeadsLater}

abbrev pub queue_at : ℕ → QueueHead
queue_at b = record { id = 32 * b + 2; period = 8; phase = 0 }

abbrev pub descriptor_at : ℕ → Descriptor
descriptor_at b = record { id = 32 * b; frame = 0 }

abbrev pub two_live : DriverContent → DriverContent
two_live d = record d {
  periodic = record d.periodic {
    list = record d.periodic.list {
      members = record d.periodic.list.members { schedule = record { descriptors = descriptor_at 4 ∷ []; queues = queue_at 1 ∷ [] } };
      work = None;
    };
  };
}

abbrev pub LeftLater : Member → Type 0
LeftLater x = (x ≡ Each (queue_at 3)) ⊎ (x ≡ Once (descriptor_at 5))

abbrev pub LiveLeads : Type 0
LiveLeads = (d : DriverContent) → EndsOrLeadsLater (two_live d) LeftLater 34 × EndsOrLeadsLater (two_live d) LeftLater 128

abbrev pub EndLeads : Type 0
EndLeads = (d : DriverContent) → EndsOrLeadsLater (two_live d) LeftLater 1

abbrev pub LaterLeads : Type 0
LaterLeads = (d : DriverContent) → EndsOrLeadsLater (two_live d) LeftLater 98 × EndsOrLeadsLater (two_live d) LeftLater 160

abbrev pub EarlierBreaks : Type 0
EarlierBreaks =
    (d : DriverContent) → (EndsOrLeadsLater (two_live d) LeftLater 66 → ⊥) × (EndsOrLeadsLater (two_live d) LeftLater 192 → ⊥)
