-- The reset of an endpoint, as its halt is cleared (USB 2.0, 5.7.5, 5.8.5 and 9.4.5): its toggle is that of DATA0, and what the script
-- says of it goes on at its next epoch.
--     next_epoch items         what stands behind the beginning of the next epoch; nothing where no epoch follows
--     device_reset d name      the device once the endpoint with this name is reset
use Rattle.std.specs.Prelude.{ℕ, Bool, true, false, List, [], ◌∷◌, slice_get, slice_set, Option, Some, None, if◌then◌else◌}
use Rattle.usb_base.specs.declared.endpoints.EpName.{EpName}
use Rattle.script_types.specs.declared.devices.Item.{Item}
use Rattle.script_types.specs.declared.devices.Item.TheVariants.{Epoch}
use Rattle.dev_control.specs.Stages.{stages_reset}
use Rattle.endpoint_script.specs.declared.endpoint.Endpoint.{Endpoint}
use Rattle.endpoint_script.specs.declared.endpoint.Role.{Role}
use Rattle.endpoint_script.specs.declared.endpoint.Role.TheVariants.{Sends, Takes, Controls}
use Rattle.endpoint_script.specs.Sending.{Sending}
use Rattle.endpoint_script.specs.Taking.{Taking}
use Rattle.endpoint_script.specs.Controlling.{Controlling}
use Rattle.endpoint_script.specs.Device.{Device, place_of_name}

abbrev pub is_epoch : Item → Bool
is_epoch Epoch = true
is_epoch _ = false

unfoldable pub next_epoch : List Item → List Item
next_epoch [] = []
next_epoch (x ∷ xs) = if is_epoch x then xs else next_epoch xs

-- ---- one endpoint, by its part

abbrev pub sending_reset : Sending → Sending
sending_reset s = record { items = next_epoch s.items; toggle = false }

-- what it took stays
abbrev pub taking_reset : Taking → Taking
taking_reset t = record t { items = next_epoch t.items; toggle = false }

abbrev pub controlling_reset : Controlling → Controlling
controlling_reset c = record c { stages = stages_reset c.stages }

abbrev pub part_reset : Role → Role
part_reset (Sends s) = Sends (sending_reset s)
part_reset (Takes t) = Takes (taking_reset t)
part_reset (Controls c) = Controls (controlling_reset c)
part_reset part = part

abbrev pub endpoint_reset : Endpoint → Endpoint
endpoint_reset e = record e { part = part_reset e.part }

-- ---- the device

abbrev pub reset_at : List Endpoint → ℕ → Option Endpoint → List Endpoint
reset_at es place None = es
reset_at es place (Some e) = slice_set es place (endpoint_reset e)

abbrev pub reset_in : List Endpoint → Option ℕ → List Endpoint
reset_in es None = es
reset_in es (Some place) = reset_at es place (slice_get es place)

abbrev pub device_reset : EpName → Device → Device
device_reset name d = record d { endpoints = reset_in d.endpoints (place_of_name d name) }
