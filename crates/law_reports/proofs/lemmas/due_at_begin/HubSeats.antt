-- The endpoint of a hub that stands on the bus is its endpoint 0 (USB 2.0, 5.5.3 and 11.12).
use Rattle.std.proofs.Common.{◌≡◌, ℕ, ◌+◌, List, [], ◌∷◌, map, Option, Some, None, refl}
use Rattle.std.specs.List.{AllByRecursion}
use Rattle.law_common.proofs.Lists.{all_both, nth_all}
use Rattle.law_devices.proofs.Lists.{all_find, all_filter_map}
use Rattle.script_types.specs.declared.devices.DeviceText.{DeviceText}
use Rattle.script_types.specs.declared.devices.EpText.{EpText}
use Rattle.script_types.specs.declared.devices.HubText.{HubText}
use Rattle.script_types.specs.declared.scripts.Script.{Script}
use Rattle.bus_wire.specs.declared.seats.Owner.TheVariants as owners
use Rattle.bus_wire.specs.declared.seats.Seat.{Seat}
use Rattle.bus_wire.specs.Bus.{fixed_of}
use Rattle.bus_wire.specs.Fates.{is_same_name}
use Rattle.bus_wire.specs.Seats.{owner_at, seat_at, seats_from, hub_seats_from, seat_named, device_seats, seats_of}
use Rattle.law_reports.proofs.lemmas.due_at_begin.PipelinesLeft.{AreHubsZero}

abbrev IsZeroHub : Seat → Type 0
IsZeroHub s = (n : ℕ) → s.owner ≡ owners.Hub n → s.name.num ≡ 0

hub_zeroes : (k : ℕ) (hs : List HubText) → AllByRecursion IsZeroHub (hub_seats_from k hs)
hub_zeroes k [] = tt
hub_zeroes k (h ∷ hs) = ((λ n is. refl), hub_zeroes (k + 1) hs)

no_hub : (k : ℕ) (o : Option ℕ) (port stuff n : ℕ) {P : Type 0} → owner_at k o port stuff ≡ owners.Hub n → P
no_hub k None port stuff n is = absurd cc
no_hub k (Some hub) port stuff n is = absurd cc

its_seats : (k : ℕ) (es : List EpText) → AllByRecursion IsZeroHub (map (seat_at k) es)
its_seats k [] = tt
its_seats k (e ∷ es) = ((λ n is. no_hub k e.desc.hub e.desc.port e.stuff n is), its_seats k es)

device_zeroes : (k : ℕ) (ds : List DeviceText) → AllByRecursion IsZeroHub (seats_from k ds)
device_zeroes k [] = tt
device_zeroes k (d ∷ ds) =
    all_both IsZeroHub (map (seat_at k) d.eps) (seats_from (k + 1) ds) (its_seats k d.eps) (device_zeroes (k + 1) ds)

pub hubs_are_zero : (s : Script) → AreHubsZero (fixed_of s)
hubs_are_zero s place seat n there owner =
    nth_all IsZeroHub (seats_of s) place seat
    (all_both IsZeroHub (hub_seats_from 0 s.hubs) (device_seats s) (hub_zeroes 0 s.hubs)
    (all_filter_map IsZeroHub (seat_named (seats_from 0 s.devices)) s.endpoints
    (λ name. all_find IsZeroHub (λ v. is_same_name v.name name) (seats_from 0 s.devices) (device_zeroes 0 s.devices)))) there n owner
