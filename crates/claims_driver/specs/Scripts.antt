-- Which way the data of an endpoint go (USB 2.0, 5.3.1).
--     receives way            the endpoint is no OUT endpoint
--     comes_in way            the endpoint is an IN endpoint: all its data come to the host
use Rattle.std.specs.Prelude.{Bool, true, false}
use Rattle.usb_base.specs.declared.packets.Way.{Way}
use Rattle.usb_base.specs.declared.packets.Way.TheVariants as ways

-- no OUT endpoint: data come to the host, of a control endpoint those of its requests that read
abbrev pub receives : Way → Bool
receives ways.Out = false
receives _ = true

-- an IN endpoint: it has a stream of data to the host, which a control endpoint has not
abbrev pub comes_in : Way → Bool
comes_in ways.In = true
comes_in _ = false
