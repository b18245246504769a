-- What the driver has of its periodic endpoints (EHCI 1.0, 3.1, 4.6 and 4.7). A member of the frame list has as its name the word of a link
-- to it (3.1): 32 times the block in which it begins, and its type in bits 2:1, 0 for an iTD, 1 for a queue head, 2 for a siTD.
--     PeriodicContent        the content
--     new_periodic n e d rules     what it has when it was built, for a memory of n blocks, with room for e endpoints and d descriptors
--     is_periodic kind       the endpoint has a place in the frame list, and not in the ring
--     want_of e x            what endpoint e, so described, asks of the plan
--     itd_name, sitd_name, queue_name   the names of the structure that begins in a block
--     note_at notes b        what is known of the descriptor in block b
--     descriptor_member notes b   .. as a member of the frame list
--     queue_member b p       the queue head in block b as a member, by its placement
--     read_again n rs        the removals after one reading of FRINDEX more
use Rattle.std.specs.Prelude.{ℕ, ◌+◌, ◌*◌, Bool, true, false, List, [], ◌∷◌, map, replicate, slice_index_or, if◌then◌else◌}
use Rattle.usb_base.specs.declared.endpoints.EpDesc.{EpDesc}
use Rattle.usb_base.specs.declared.packets.EpKind.{EpKind}
use Rattle.usb_base.specs.declared.packets.EpKind.TheVariants as kinds
use Rattle.usb_base.specs.declared.packets.Way.{Way}
use Rattle.usb_base.specs.declared.packets.Way.TheVariants as ways
use Rattle.usb_base.specs.declared.packets.Dir.{Dir}
use Rattle.usb_base.specs.declared.packets.Dir.TheVariants as dirs
use Rattle.usb_base.specs.declared.rules.Rules.{Rules}
use Rattle.bandwidth.specs.declared.placements.Want.{Want}
use Rattle.bandwidth.specs.declared.placements.Placement.{Placement}
use Rattle.bandwidth.specs.Admission.{Admissions}
use Rattle.drv_chains.specs.declared.members.Member.{Member}
use Rattle.drv_chains.specs.declared.members.Member.TheVariants.{Once, Each}
use Rattle.drv_chains.specs.Boundary.{after_reading}
use Rattle.drv_periodic.specs.Periodic.{Periodic, new_list}
use Rattle.drv_periodic_table.specs.declared.content.DescriptorNote.{DescriptorNote}
use Rattle.drv_periodic_table.specs.declared.content.Removal.{Removal}

pub record PeriodicContent : Type 0 where
  pub plan : Admissions  -- the placements, each with the number of its endpoint
  pub list : Periodic  -- the members of the frame list, and the one that is linked or unlinked
  pub queued : List Member  -- those that the unfinished command links or unlinks after it, in their order
  pub notes : List DescriptorNote  -- by block: what is known of the descriptor there
  pub unlinks : List ℕ  -- harvested descriptors, by their transfers, that are still linked: in the order of harvest
  pub removals : List Removal  -- what was unlinked and isn't given back, in the order of the last unlinking stores
  pub status_next : Bool  -- where leaving work waits for both registers, it reads USBSTS next and not FRINDEX

abbrev pub no_descriptor : DescriptorNote
no_descriptor = record { frame = 0; split = false; smask = 0; cmask = 0; slot = 0; buffer = 0 ∷ 0 ∷ 0 ∷ 0 ∷ 0 ∷ 0 ∷ []; runs = 0 }

-- the frame list begins at byte address 0
abbrev pub new_periodic : ℕ → ℕ → ℕ → Rules → PeriodicContent
new_periodic n endpoints descriptors rules = record {
  plan = record { placed = []; room = endpoints; rules = rules };
  list = new_list 0 endpoints descriptors;
  queued = [];
  notes = replicate n no_descriptor;
  unlinks = [];
  removals = [];
  status_next = true;
}

-- ---- endpoints

abbrev pub is_periodic : EpKind → Bool
is_periodic kinds.Interrupt = true
is_periodic kinds.Iso = true
is_periodic kinds.Bulk = false
is_periodic kinds.Control = false

abbrev pub dir_of : Way → Dir
dir_of ways.In = dirs.In
dir_of ways.Out = dirs.Out
dir_of ways.Ctl = dirs.Out

abbrev pub want_of : ℕ → EpDesc → Want
want_of e x = record {
  id = e;
  speed = x.speed;
  kind = x.kind;
  dir = dir_of x.name.way;
  max = x.max;
  multi = x.multi;
  period = x.period;
  hub = x.hub;
  tt = x.tt;
}

-- ---- members of the frame list

abbrev pub itd_name : ℕ → ℕ
itd_name b = 32 * b

abbrev pub sitd_name : ℕ → ℕ
sitd_name b = 32 * b + 4

abbrev pub queue_name : ℕ → ℕ
queue_name b = 32 * b + 2

abbrev pub note_at : List DescriptorNote → ℕ → DescriptorNote
note_at notes b = slice_index_or notes b no_descriptor

abbrev pub descriptor_name : DescriptorNote → ℕ → ℕ
descriptor_name note b = if note.split then sitd_name b else itd_name b

abbrev pub descriptor_member : List DescriptorNote → ℕ → Member
descriptor_member notes b = Once (record { id = descriptor_name (note_at notes b) b; frame = (note_at notes b).frame })

abbrev pub queue_member : ℕ → Placement → Member
queue_member b p = Each (record { id = queue_name b; period = p.period; phase = p.phase })

-- ---- what was unlinked

abbrev pub read_once : ℕ → Removal → Removal
read_once n r = record r { boundary = after_reading n r.boundary }

abbrev pub read_again : ℕ → List Removal → List Removal
read_again n rs = map (read_once n) rs
