-- Accepted commands for worked rows, of the driver of three endpoints that has a bulk, an interrupt and an isochronous one: an interrupt endpoint of a full-speed
-- keyboard is opened, with its queue head in block 160 and its inactive qTD in block 162; an isochronous one is opened; and those of interrupt and of isochronous
-- data are cancelled.
--     keyboard, keyboard_place       the interrupt endpoint that is opened, and its place in the frames
--     opened_keyboard, opened_camera, left_interrupt, left_isochronous      the driver once each of these commands was accepted
use Rattle.std.specs.Prelude.{true, false, [], Some, None}
use Rattle.usb_base.specs.declared.endpoints.EpDesc.{EpDesc}
use Rattle.usb_base.specs.declared.packets.Speed.TheVariants as speeds
use Rattle.usb_base.specs.declared.packets.Way.TheVariants as ways
use Rattle.mem_runs.specs.Book.{Holding}
use Rattle.bandwidth.specs.declared.placements.Placement.{Placement}
use Rattle.drv_table.specs.declared.content.Endpoint.{Endpoint}
use Rattle.drv_table.specs.DriverContent.{DriverContent}
use Rattle.drv_table.specs.Offers.{accepted_chain, accepted_iso}
use Rattle.drv_table.specs.CancelOffers.{accepted_unchain}
use Rattle.law_driver.specs.run_owners.Worked.{interrupt, isochronous, busy_driver}

abbrev pub keyboard : EpDesc
keyboard = record interrupt { name = record { addr = 4; num = 1; way = ways.In }; speed = speeds.Full; hub = Some 9; port = 2 }

abbrev pub keyboard_place : Placement
keyboard_place = record { period = 8; phase = 1; smask = 1; cmask = 28 }

abbrev pub camera : EpDesc
camera = record isochronous { name = record { addr = 5; num = 2; way = ways.In } }

abbrev pub busy_holding : Holding
busy_holding = record { book = busy_driver.book; memory = record { words = []; states = []; foreign = 0 } }

abbrev pub opened_keyboard : DriverContent
opened_keyboard = (accepted_chain busy_driver keyboard keyboard_place busy_holding 160 162).driver

abbrev pub opened_camera : DriverContent
opened_camera = accepted_iso busy_driver camera keyboard_place

-- the second and the third endpoint
abbrev pub second : Endpoint
second = record {
  desc = interrupt;
  placement = Some (record { period = 8; phase = 0; smask = 1; cmask = 0 });
  queue = 136;
  dummy = 135;
  next = None;
  ended = None;
  cancelled = false;
  linked = false;
  chained = true;
  gone = false;
}

abbrev pub third : Endpoint
third = record second {
  desc = isochronous;
  placement = Some (record { period = 8; phase = 0; smask = 1; cmask = 28 });
  queue = 0;
  dummy = 0;
  next = Some 2;
}

abbrev pub left_interrupt : DriverContent
left_interrupt = accepted_unchain busy_driver 1 second []

abbrev pub left_isochronous : DriverContent
left_isochronous = accepted_unchain busy_driver 2 third []
