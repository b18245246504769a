-- A driver for worked rows. Its endpoints are a bulk one, with its queue head in block 130 and its inactive qTD in block 133; an interrupt one,
-- with its queue head in block 136; and an isochronous one of a full-speed device. A transfer of the first is out, in the qTD of block 132 with a buffer
-- in block 134. Of the third one descriptor, in block 138, was harvested and is still linked, and another, in block 140, waits in frame 7.
use Rattle.std.specs.Prelude.{ℕ, true, false, List, [], ◌∷◌, ◌++◌, replicate, Some, None}
use Rattle.usb_base.specs.declared.endpoints.EpDesc.{EpDesc}
use Rattle.usb_base.specs.declared.packets.EpKind.TheVariants as kinds
use Rattle.usb_base.specs.declared.packets.Speed.TheVariants as speeds
use Rattle.usb_base.specs.declared.packets.Way.TheVariants as ways
use Rattle.drv_chains.specs.Chains.{Schedule, of_lists}
use Rattle.drv_periodic_table.specs.declared.content.DescriptorNote.{DescriptorNote}
use Rattle.drv_periodic_table.specs.Periodic.{no_descriptor}
use Rattle.drv_table.specs.declared.content.Endpoint.{Endpoint}
use Rattle.drv_table.specs.declared.content.Transfer.{Transfer}
use Rattle.drv_table.specs.declared.content.QtdNote.{QtdNote}
use Rattle.drv_table.specs.declared.content.Sort.TheVariants as sorts
use Rattle.drv_table.specs.DriverContent.{DriverContent, no_note}
use Rattle.drv_table.specs.Opening.{opening}
use Rattle.usb_base.specs.Rules.{first_rules}
use Rattle.drv_table.specs.declared.content.Part.TheVariants as parts

abbrev pub bulk : EpDesc
bulk = record {
  name = record { addr = 1; num = 1; way = ways.In };
  speed = speeds.High;
  kind = kinds.Bulk;
  max = 512;
  period = 1;
  multi = 1;
  hub = None;
  port = 0;
  tt = 0;
}

abbrev pub interrupt : EpDesc
interrupt = record bulk { name = record { addr = 2; num = 1; way = ways.In }; kind = kinds.Interrupt; max = 8; period = 8 }

abbrev pub isochronous : EpDesc
isochronous = record bulk { name = record { addr = 3; num = 1; way = ways.In }; speed = speeds.Full; kind = kinds.Iso; max = 200; period = 8; hub = Some 9; port = 1 }

abbrev pub busy_endpoints : List Endpoint
busy_endpoints =
    (record { desc = bulk; placement = None; queue = 130; dummy = 133; next = Some 0; ended = None; cancelled = false; linked = true; chained = false; gone = false })
    ∷ (record {
      desc = interrupt;
      placement = Some (record { period = 8; phase = 0; smask = 1; cmask = 0 });
      queue = 136;
      dummy = 135;
      next = None;
      ended = None;
      cancelled = false;
      linked = false;
      chained = true;
      gone = false;
    })
    ∷ (record {
      desc = isochronous;
      placement = Some (record { period = 8; phase = 0; smask = 1; cmask = 28 });
      queue = 0;
      dummy = 0;
      next = Some 2;
      ended = None;
      cancelled = false;
      linked = false;
      chained = true;
      gone = false;
    })
    ∷ []

abbrev pub get_out : Transfer
get_out = record { endpoint = 0; sort = sorts.Get; first = 132; qtds = 1; place = 132; left = 1; most = 64; reported = false; released = false; part = parts.Own }

abbrev pub descriptor : ℕ → Transfer
descriptor b = record { endpoint = 2; sort = sorts.Descriptor; first = b; qtds = 0; place = b; left = 0; most = 200; reported = false; released = false; part = parts.Own }

abbrev pub busy_transfers : List Transfer
busy_transfers = get_out ∷ record (descriptor 138) { reported = true } ∷ descriptor 140 ∷ []

-- the notes from block 0 on
abbrev pub busy_notes : List QtdNote
busy_notes = replicate 132 no_note ++ (record { next = 133; buffer = 134 ∷ 0 ∷ 0 ∷ 0 ∷ 0 ∷ []; runs = 1; told = 64; moved = 0 }) ∷ replicate 123 no_note

abbrev pub noted : ℕ → ℕ → DescriptorNote
noted frame buffer = record no_descriptor { frame = frame; split = true; smask = 1; cmask = 28; slot = 200; buffer = buffer ∷ 0 ∷ 0 ∷ 0 ∷ 0 ∷ 0 ∷ []; runs = 1 }

abbrev pub busy_descriptors : List DescriptorNote
busy_descriptors = replicate 138 no_descriptor ++ noted 6 144 ∷ no_descriptor ∷ noted 7 152 ∷ replicate 115 no_descriptor

-- its members of the frame list
abbrev pub busy_schedule : Schedule
busy_schedule = of_lists ((record { id = 4420; frame = 6 }) ∷ (record { id = 4484; frame = 7 }) ∷ []) ((record { id = 4354; period = 8; phase = 0 }) ∷ [])

abbrev pub busy_driver : DriverContent
busy_driver =
    let d = (opening 2048 (record { endpoints = 4; transfers = 8; reports = 8; report_bytes = 4096; rules = first_rules })).driver in
    record d {
      endpoints = busy_endpoints;
      transfers = busy_transfers;
      notes = busy_notes;
      periodic = record d.periodic {
        list = record d.periodic.list { members = record d.periodic.list.members { schedule = busy_schedule } };
        notes = busy_descriptors;
        unlinks = 1 ∷ [];
      };
    }
