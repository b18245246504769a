-- What the devices of a script have at high speed, and how its endpoints are described (USB 2.0, 5.5, 5.7 and 5.8).
--     Sides                    by address and number: who sends, who takes, and the packets to send
--     sides_of s               those of a script
--     IsDeclared x d           the devices have a stream for the endpoint so described just where it is a bulk or interrupt one at high
--                              speed
--     AreDeclared x d          so is each endpoint of a driver
use Rattle.std.specs.Prelude.{◌≡◌, ℕ, ◌&&◌, Bool, false, List, slice_get, Some}
use Rattle.usb_base.specs.declared.endpoints.EpDesc.{EpDesc}
use Rattle.usb_base.specs.declared.packets.Way.{Way}
use Rattle.usb_base.specs.declared.packets.Way.TheVariants as ways
use Rattle.script_types.specs.declared.scripts.Script.{Script}
use Rattle.claims_report.specs.Streams.{has_stream}
use Rattle.drv_table.specs.declared.content.Endpoint.{Endpoint}
use Rattle.drv_table.specs.DriverContent.{DriverContent}
use Rattle.drv_table.specs.Words.{is_high}
use Rattle.law_world.specs.steps.Takers.{takes_of}
use Rattle.law_world.specs.streams.Feeding.{streams_of}

pub record Sides : Type 0 where
  pub sends : ℕ → ℕ → Bool
  pub takes : ℕ → ℕ → Bool
  pub packets : ℕ → ℕ → List (List ℕ)

abbrev pub sides_of : Script → Sides
sides_of s = record { sends = (streams_of s).stream; takes = takes_of s; packets = (streams_of s).packets }

-- a control endpoint has none (USB 2.0, 5.5)
abbrev pub IsDeclaredBy : Sides → EpDesc → Way → Type 0
IsDeclaredBy x d ways.In = x.sends d.name.addr d.name.num ≡ (has_stream d.kind && is_high d.speed)
IsDeclaredBy x d ways.Out = x.takes d.name.addr d.name.num ≡ (has_stream d.kind && is_high d.speed)
IsDeclaredBy x d ways.Ctl = (x.sends d.name.addr d.name.num ≡ false) × (x.takes d.name.addr d.name.num ≡ false)

abbrev pub IsDeclared : Sides → EpDesc → Type 0
IsDeclared x d = IsDeclaredBy x d d.name.way

abbrev pub AreDeclared : Sides → DriverContent → Type 0
AreDeclared x d = (e : ℕ) (y : Endpoint) → slice_get d.endpoints e ≡ Some y → IsDeclared x y.desc
