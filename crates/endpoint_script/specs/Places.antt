-- The index of a device's endpoints.
use Rattle.std.specs.Prelude.{◌≡◌, ℕ, ◌<◌, List, slice_get, Option, Some}
use Rattle.usb_base.specs.declared.packets.Way.{Way}
use Rattle.usb_base.specs.declared.packets.Way.TheVariants as Ways
use Rattle.endpoint_script.specs.declared.endpoint.Endpoint.{Endpoint}
use Rattle.endpoint_script.specs.declared.places.Places.{Places}
use Rattle.endpoint_script.specs.Device.{place_named}

-- each number's place of one way
abbrev pub IsIndex : List Endpoint → Way → List (Option ℕ) → Type 0
IsIndex es way index = (num : ℕ) → num < 16 → slice_get index num ≡ Some (place_named es num way)

pub record ArePlaces (es : List Endpoint) (p : Places) : Type 0 where
  pub ins : IsIndex es Ways.In p.ins
  pub outs : IsIndex es Ways.Out p.outs
  pub controls : IsIndex es Ways.Ctl p.controls
