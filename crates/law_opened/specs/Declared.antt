-- The endpoints that a script opens have their sides on the bus (USB 2.0, 5.5, 5.8, 8.6 and 9.6.6): a bulk or interrupt endpoint whose
-- device is at high speed has its sender or its taker, and no other has one.
--     HasItsStream s x way     so it is of the endpoint x of this way; no sender and no taker has the name of a control endpoint
--     TextsDeclareStreams      of each endpoint that a script opens which a text spells
use Rattle.std.specs.Prelude.{◌≡◌, ℕ, ◌&&◌, false, List, is_some}
use Rattle.usb_base.specs.declared.endpoints.EpDesc.{EpDesc}
use Rattle.usb_base.specs.declared.packets.Way.{Way}
use Rattle.usb_base.specs.declared.packets.Way.TheVariants as ways
use Rattle.script_types.specs.declared.scripts.Script.{Script}
use Rattle.script_text.specs.Faults.{Spells}
use Rattle.bus_wire.specs.Bus.{opening_wired}
use Rattle.claims_report.specs.Streams.{has_stream}
use Rattle.drv_table.specs.Words.{is_high}
use Rattle.law_devices.specs.Senders.{sender_of}
use Rattle.law_devices.specs.scripted_takers.Takers.{taker_of}
use Rattle.law_opened.specs.Opened.{IsOpened}

abbrev pub HasItsStream : Script → EpDesc → Way → Type 0
HasItsStream s x ways.In = is_some (sender_of (opening_wired s) x.name.addr x.name.num) ≡ (has_stream x.kind && is_high x.speed)
HasItsStream s x ways.Out = is_some (taker_of (opening_wired s) x.name.addr x.name.num) ≡ (has_stream x.kind && is_high x.speed)
HasItsStream s x ways.Ctl =
    (is_some (sender_of (opening_wired s) x.name.addr x.name.num) ≡ false)
    × (is_some (taker_of (opening_wired s) x.name.addr x.name.num) ≡ false)

abbrev pub TextsDeclareStreams : Type 0
TextsDeclareStreams = (text : List ℕ) (s : Script) → Spells text s → (x : EpDesc) → IsOpened s x → HasItsStream s x x.name.way
