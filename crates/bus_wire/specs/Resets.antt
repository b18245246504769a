-- The bus once an endpoint is reset, as its halt is cleared (USB 2.0, 9.4.5): no packet is sent for it.
--     bus_reset name b      the bus after the reset of the endpoint with this name
use Rattle.std.specs.Prelude.{map}
use Rattle.usb_base.specs.declared.endpoints.EpName.{EpName}
use Rattle.endpoint_script.specs.Resets.{device_reset}
use Rattle.hub_class.specs.EndpointZero.{hub_reset}
use Rattle.bus_wire.specs.Bus.{Bus}

abbrev pub bus_reset : EpName → Bus → Bus
bus_reset name b = record b { devices = map (device_reset name) b.devices; hubs = map (hub_reset name) b.hubs }
