-- A driver with one bulk IN endpoint, whose cancel was accepted and has still to take it out of the ring (EHCI 1.0, 4.8.2).
use Rattle.std.specs.Prelude.{true, false, [], ◌∷◌, Some, None}
use Rattle.usb_base.specs.declared.endpoints.EndCause.TheVariants.{Cancel}
use Rattle.usb_base.specs.declared.packets.EpKind.TheVariants.{Bulk}
use Rattle.usb_base.specs.declared.packets.Speed.TheVariants.{High}
use Rattle.usb_base.specs.declared.packets.Way.TheVariants.{In}
use Rattle.word_mem.specs.Memory.{Mem}
use Rattle.op_registers.specs.RegisterFile.{RegisterFile}
use Rattle.drv_table.specs.declared.content.Command.TheVariants.{Unlink}
use Rattle.drv_table.specs.declared.content.Endpoint.{Endpoint}
use Rattle.drv_table.specs.declared.content.Reserve.{Reserve}
use Rattle.drv_table.specs.declared.content.Part.TheVariants.{Own}
use Rattle.drv_table.specs.declared.content.Sort.TheVariants.{Get}
use Rattle.drv_table.specs.declared.content.Transfer.{Transfer}
use Rattle.drv_table.specs.declared.rows.DriverRow.{DriverRow}
use Rattle.drv_table.specs.declared.rows.DriverRow.TheVariants.{Store}
use Rattle.drv_table.specs.DriverContent.{DriverContent, new_driver}
use Rattle.drv_table.specs.Parts.{Parts}
use Rattle.drv_table.specs.Rows.{after_driver_row}

abbrev pub bulk_in : Endpoint
bulk_in = record {
  desc = record {
    name = record { addr = 5; num = 1; way = In };
    speed = High;
    kind = Bulk;
    max = 512;
    period = 1;
    multi = 1;
    hub = None;
    port = 0;
    tt = 0;
  };
  placement = None;
  queue = 130;
  dummy = 133;
  next = Some 0;
  ended = Some Cancel;
  cancelled = true;
  linked = true;
  chained = false;
  gone = false;
}

abbrev pub a_get : Transfer
a_get = record {
  endpoint = 0;
  sort = Get;
  first = 132;
  qtds = 1;
  place = 132;
  left = 1;
  most = 512;
  reported = false;
  released = false;
  part = Own;
}

abbrev pub cancelled : Reserve → RegisterFile → Mem → Parts
cancelled room r m = record {
  driver = record (new_driver (record { slots = []; taken = [] }) 0 room) {
    endpoints = bulk_in ∷ [];
    transfers = a_get ∷ [];
    command = Some (Unlink 0 128 4098);
  };
  registers = r;
  memory = m;
}

-- the store that takes it out: the head, in block 128, leads to itself
abbrev pub passes_over : DriverRow
passes_over = Store 128 4096 4098

-- .. and what stands after it
abbrev pub passed_over : Reserve → RegisterFile → Mem → Parts
passed_over room r m = after_driver_row passes_over (cancelled room r m)

-- the same driver before the cancel
abbrev pub working : Endpoint
working = record bulk_in { ended = None; cancelled = false }

abbrev pub idle : Reserve → DriverContent
idle room = record (new_driver (record { slots = []; taken = [] }) 0 room) { endpoints = working ∷ []; transfers = a_get ∷ [] }
