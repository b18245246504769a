-- Samples of streams beside all others: the driver of three endpoints, a bulk IN one, an interrupt IN one at high speed and an
-- isochronous one, whose queue heads stand at 4160 and 4352.
--     both_ins, one_in, no_outs    the queue heads of both; of the bulk one alone; of none
--     named, unnamed               the streams of devices 1 and 2, at endpoint 1; none
--     ends                         the endpoints of these queue heads
--     key_end, key_packets         the interrupt endpoint, and what its device has to send
--     waits, takes_none            a device with an endpoint that sent nothing yet; none that takes anything
use Rattle.std.specs.Prelude.{ℕ, ◌==◌, ◌&&◌, ◌||◌, Bool, false, List, [], ◌∷◌, Option, Some, None, if◌then◌else◌}
use Rattle.law_ring.specs.Bus.{Sender}
use Rattle.law_ring.specs.OutBus.{Taker}
use Rattle.law_ring.specs.Told.{Endpoint as Told}

abbrev pub both_ins : ℕ → Bool
both_ins n = n == 4160 || n == 4352

abbrev pub one_in : ℕ → Bool
one_in n = n == 4160

abbrev pub no_outs : ℕ → Bool
no_outs n = false

abbrev pub named : ℕ → ℕ → Bool
named addr ep = (addr == 1 || addr == 2) && ep == 1

abbrev pub unnamed : ℕ → ℕ → Bool
unnamed addr ep = false

abbrev pub key_end : Told
key_end = record { addr = 2; ep = 1; speed = 2; max = 8; dtc = false; hub = 0; port = 0 }

abbrev pub ends : ℕ → Told
ends n = record { addr = if n == 4160 then 1 else 2; ep = 1; speed = 2; max = if n == 4160 then 512 else 8; dtc = false; hub = 0; port = 0 }

abbrev pub key_packets : List (List ℕ)
key_packets = (1 ∷ 2 ∷ []) ∷ []

abbrev pub packets : ℕ → ℕ → List (List ℕ)
packets addr ep = key_packets

abbrev pub waits : ℕ → ℕ → ℕ → Option Sender
waits wire addr ep = Some (record { left = key_packets; sends = false })

abbrev pub takes_none : ℕ → ℕ → ℕ → Option Taker
takes_none wire addr ep = None
