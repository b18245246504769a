-- What never changes of a bus in a run.
use Rattle.std.specs.Prelude.{◌≡◌, ℕ, ◌&&◌, nat_le, Bool, List, Some, slice_get}
use Rattle.std.specs.List.{list_any}
use Rattle.std.specs.List.Sorted.{IsPermutation}
use Rattle.script_types.specs.declared.scripts.FateText.{FateText}
use Rattle.script_types.specs.declared.scripts.Script.{Script}
use Rattle.bus_wire.specs.declared.asked.Asked.{Asked}
use Rattle.bus_wire.specs.declared.seats.Seat.{Seat}
use Rattle.bus_wire.specs.Fates.{bad_numbers}
use Rattle.bus_wire.specs.Seats.{seats_of}

pub record Fixed : Type 0 where
  pub seats : List Seat  -- the endpoints: endpoint 0 of each hub, then those of the devices in the order of their lines
  pub fates : List FateText  -- the packets that are lost or damaged
  pub holds : List (ℕ × ℕ)  -- the spans of microframes in which the bus may not be used, the first and the last of each

abbrev pub fixed_of : Script → Fixed
fixed_of s = record { seats = seats_of s; fates = s.fates; holds = s.holds }

-- the bus may not be used in microframe m
abbrev pub is_held : List (ℕ × ℕ) → ℕ → Bool
is_held holds m = list_any (λ span. nat_le span.0 m && nat_le m span.1) holds

-- the numbers of the packets of each endpoint that don't get through on one of the two buses, in some order
pub record AreNumbers (fates : List FateText) (below : Bool) (seats : List Seat) (numbers : List (List ℕ)) : Type 0 where
  pub each : (place : ℕ) (seat : Seat) → slice_get seats place ≡ Some seat → (ns : List ℕ) × (slice_get numbers place ≡ Some ns) × IsPermutation (bad_numbers fates seat.name below) ns

-- an endpoint that is asked is the one of its place
pub record IsSeated (seats : List Seat) (e : Asked) : Type 0 where
  pub seat : Seat
  pub there : slice_get seats e.place ≡ Some seat
  pub named : seat.name ≡ e.name
