-- Translators for worked rows: hub 9 has a camera whose isochronous IN is opened, and a speaker whose OUT comes in parts.
--     camera_start         the camera's start-split, of endpoint 1 of device 4
--     leaving              a driver that has opened it, and takes it out of its frames since this reading of the frame index
--     begun, gone_on       the speaker's first part came; so many microframes later, of which none brought a part
--     ended                .. and the last part came at once
--     spoken es            a world where the translator of hub 9 has these entries
--     speaking o es        .. and the siTD of the speaker is in hand, after the first of its parts, with this settlement
--     stuffed_bits n       the keyboard of the script has this number of stuffed bits in 36
use Rattle.std.specs.Prelude.{ℕ, true, false, Option, Some, List, [], ◌∷◌, map, replicate}
use Rattle.usb_base.specs.declared.packets.Ask.{Ask}
use Rattle.usb_base.specs.declared.packets.DataPart.TheVariants.{All, Begin, End}
use Rattle.usb_base.specs.declared.packets.EpKind.TheVariants.{Iso}
use Rattle.usb_base.specs.declared.packets.Pid.TheVariants.{In, Data0}
use Rattle.usb_base.specs.declared.packets.Reply.TheVariants.{Silent}
use Rattle.usb_base.specs.declared.packets.Speed.TheVariants.{Full}
use Rattle.usb_base.specs.declared.packets.Split.TheVariants.{Start}
use Rattle.usb_base.specs.declared.packets.Way.TheVariants as ways
use Rattle.script_types.specs.declared.devices.Item.TheVariants as items
use Rattle.hub_keys.specs.Keys.{key_of}
use Rattle.itd_sitd.specs.declared.sitd.Sitd.{Sitd}
use Rattle.hc_iso.specs.declared.held.SplitOutcome.{SplitOutcome}
use Rattle.periodic_walk.specs.declared.state.Hand.TheVariants as hands
use Rattle.hc_core.specs.declared.controller.MicroframePart.TheVariants.{Periodic}
use Rattle.hc_core.specs.Controller.{Control}
use Rattle.hub_keys.specs.declared.key.Key.{Key}
use Rattle.tt_bulk.specs.Contents as Bulk
use Rattle.tt_pipeline.specs.declared.entry.Entry.{Entry}
use Rattle.tt_pipeline.specs.Starting.{started}
use Rattle.tt_pipeline.specs.Worked.{iso_out, after_more}
use Rattle.drv_chains.specs.declared.boundary.Boundary.{Boundary}
use Rattle.drv_periodic_table.specs.declared.content.Removed.TheVariants as removed
use Rattle.drv_table.specs.DriverContent.{DriverContent}
use Rattle.hub_class.specs.HubContent.{HubContent}
use Rattle.bus_wire.specs.Bus.{Fixed, fixed_of}
use Rattle.bus_world.specs.World.{World}
use Rattle.bus_world.specs.Opening.{opening_world}
use Rattle.law_world.specs.memory.Samples.{keyboard, keyboard_and_disk}
use Rattle.law_microframes.specs.plans.Samples.{filmed}

-- ---- a camera

abbrev pub camera_start : Ask
camera_start =
    record { split = Start 9 1 All; pid = In; addr = 4; ep = 1; speed = Full; kind = Iso; toggle = Data0; limit = 179 }

abbrev pub camera_key : Key
camera_key = key_of camera_start

abbrev pub leaving : Boundary → DriverContent
leaving b = record filmed {
  periodic = record filmed.periodic {
    removals = record { what = removed.Endpoint 0; boundary = b } ∷ [];
  };
}

-- ---- a speaker

abbrev pub speaker_key : Key
speaker_key = key_of (iso_out Begin 1)

abbrev pub begun : List Entry
begun = started (iso_out Begin 1) (replicate 188 1) 0 []

abbrev pub gone_on : ℕ → List Entry
gone_on n = after_more n Silent begun

abbrev pub ended : ℕ → List Entry
ended n = started (iso_out End 1) (replicate 24 3) 0 (gone_on n)

abbrev pub with_pipeline : List Entry → HubContent → HubContent
with_pipeline es h = record h { translators = record { multi = false; all = record { bulk = Bulk.opening; pipeline = es } ∷ [] } }

abbrev pub spoken : List Entry → World
spoken es = record (opening_world keyboard_and_disk) {
  bus = record (opening_world keyboard_and_disk).bus {
    hubs = map (with_pipeline es) (opening_world keyboard_and_disk).bus.hubs;
  };
}

abbrev pub speaker_sitd : Sitd
speaker_sitd = record {
  link = record { t = true; typ = 0; address = 0 };
  addr = 3;
  ep = 1;
  hub = 9;
  port = 2;
  dir_in = false;
  smask = 6;
  cmask = 0;
  split_state = false;
  missed = false;
  xact_err = false;
  babble = false;
  buffer_error = false;
  err = false;
  active = true;
  c_prog = 2;
  total = 24;
  page_select = false;
  ioc = false;
  offset = 188;
  page0 = 4096;
  t_count = 1;
  tp = 3;
  page1 = 8192;
  back = record { t = true; address = 0 };
}

abbrev pub with_hand : Option SplitOutcome → Control → Control
with_hand o c = record c {
  part = Periodic;
  frame = record c.frame { hand = Some (hands.Sitd (record { at = 64; sitd = speaker_sitd; settled = o })) };
}

abbrev pub speaking : Option SplitOutcome → List Entry → World
speaking o es = record (spoken es) { control = with_hand o (spoken es).control }

-- ---- stuffed bits

abbrev pub stuffed_bits : ℕ → Fixed
stuffed_bits n = fixed_of (record keyboard_and_disk {
  devices = record {
    addr = 4;
    speed = Full;
    eps = record { desc = keyboard; items = items.Bytes (0 ∷ []) ∷ []; room = 0; stuff = n; clears = 0 } ∷ [];
  } ∷ [];
  endpoints = keyboard.name ∷ [];
})
