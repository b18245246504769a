-- The bus below a hub, and the high-speed bus, as buses of the same laws for each end of a pipe wherever its seat is: what isn't on the bus
-- that is asked hears nothing (USB 2.0, 8.6 and 11.14).
--     SendersBelow .. ControlsAnswerBelow       the bus below a hub
--     SendersAbove, TakersAbove           the high-speed bus
use Rattle.std.specs.Prelude.{ℕ, Bool}
use Rattle.law_ring.specs.Bus.{IsBus}
use Rattle.law_ring.specs.OutBus.{IsOutBus}
use Rattle.law_devices.specs.request_calls.Bus.{IsControlBus}
use Rattle.law_devices.specs.scripted_requests.Controls.{transacts_by}
use Rattle.law_below_hubs.specs.Raised.{transacts_below, control_below}
use Rattle.law_below_hubs.specs.Seated.{sender_on, sender_at, taker_on, taker_at}

abbrev pub SendersBelow : Type 0
SendersBelow = (stream : ℕ → ℕ → Bool) → IsBus transacts_below stream sender_on

abbrev pub TakersBelow : Type 0
TakersBelow = (stream : ℕ → ℕ → Bool) → IsOutBus transacts_below stream taker_on

abbrev pub ControlsAnswerBelow : Type 0
ControlsAnswerBelow = IsControlBus transacts_below control_below

abbrev pub SendersAbove : Type 0
SendersAbove = (stream : ℕ → ℕ → Bool) → IsBus transacts_by stream sender_at

abbrev pub TakersAbove : Type 0
TakersAbove = (stream : ℕ → ℕ → Bool) → IsOutBus transacts_by stream taker_at
