-- Endpoints that fit the budgets of bus time together, wherever they are placed (USB 2.0, 5.6.4, 5.7.4, 5.11.3 and 11.18).
--     opens_of lines             the endpoints that the lines open, in their order
--     most_cost x                the most bus time that an endpoint takes of a microframe, in picoseconds
--     own_time hub port x        its bus time in a frame below this translator, 0 where another serves it or none
--     own_bytes hub port x       .. the byte-times of its transaction there
--     HasPlace x                 some placement is allowed to it, if it is periodic
--     FitTogether xs             all these endpoints keep each budget at any places, and each has one that is allowed
--     FittingOpensHavePlaces     so it is of each script whose endpoints fit together
use Rattle.std.specs.Prelude.{◌≡◌, ℕ, ◌*◌, ◌<◌, ◌≤◌, Bool, true, if◌then◌else◌, List, ◌∷◌, filter_map, sum_by, slice_get, Option, Some, None}
use Rattle.std.specs.List.{AllByRecursion}
use Rattle.usb_base.specs.Cost.{bus_time, byte_times}
use Rattle.usb_base.specs.Limits.{byte_times_of_microframe, microframe_budget, frame_budget}
use Rattle.usb_base.specs.declared.commands.Cmd.{Cmd}
use Rattle.usb_base.specs.declared.commands.Cmd.TheVariants.{OpenEp}
use Rattle.usb_base.specs.declared.endpoints.EpDesc.{EpDesc}
use Rattle.usb_base.specs.declared.packets.Speed.TheVariants.{High}
use Rattle.usb_base.specs.declared.rules.Rules.{Rules}
use Rattle.script_types.specs.declared.scripts.Line.{Line}
use Rattle.script_types.specs.declared.scripts.Line.TheVariants as lines
use Rattle.script_types.specs.declared.scripts.Script.{Script}
use Rattle.script_fits.specs.Fits.{IsFit}
use Rattle.bandwidth.specs.declared.placements.Placement.{Placement}
use Rattle.bandwidth.specs.Placements.{allowed_by}
use Rattle.bandwidth.specs.Sums.{is_translator}
use Rattle.drv_periodic_table.specs.Periodic.{is_periodic, want_of, dir_of}
use Rattle.claims_world.specs.Places.{OpensHavePlaces}

abbrev pub opened_by : Line → Option EpDesc
opened_by (lines.Command (OpenEp x)) = Some x
opened_by _ = None

abbrev pub opens_of : List (ℕ × Line) → List EpDesc
opens_of xs = filter_map (λ (l : ℕ × Line). opened_by l.1) xs

-- only periodic endpoints are placed
abbrev pub if_placed : (EpDesc → ℕ) → EpDesc → ℕ
if_placed g x = if is_periodic x.kind then g x else 0

-- splits are priced as high-speed transactions
abbrev pub most_cost : EpDesc → ℕ
most_cost x = x.multi * bus_time High x.kind (dir_of x.name.way) x.max

abbrev pub is_below : ℕ → ℕ → EpDesc → Bool
is_below hub port x = is_translator (want_of 0 x) hub port

abbrev pub own_time : ℕ → ℕ → EpDesc → ℕ
own_time hub port x = if is_below hub port x then bus_time x.speed x.kind (dir_of x.name.way) x.max else 0

abbrev pub own_bytes : ℕ → ℕ → EpDesc → ℕ
own_bytes hub port x = if is_below hub port x then byte_times x.speed x.kind x.max else 0

pub record IsPlaceIn (rules : Rules) (n : ℕ) (x : EpDesc) : Type 0 where
  pub index : ℕ
  pub placement : Placement
  pub here : slice_get (allowed_by rules (want_of n x)) index ≡ Some placement

abbrev pub HasPlace : EpDesc → Type 0
HasPlace x = (rules : Rules) (n : ℕ) → is_periodic x.kind ≡ true → IsPlaceIn rules n x

pub record FitTogether (xs : List EpDesc) : Type 0 where
  pub loads : sum_by (if_placed most_cost) xs ≤ microframe_budget
  pub frames : (hub port : ℕ) → hub < 128 → port < 16 → sum_by (if_placed (own_time hub port)) xs ≤ frame_budget
  pub bytes : (hub port : ℕ) → hub < 128 → port < 16 → sum_by (if_placed (own_bytes hub port)) xs ≤ byte_times_of_microframe
  pub places : AllByRecursion HasPlace xs

abbrev pub FittingOpensHavePlaces : Type 0
FittingOpensHavePlaces = (s : Script) → IsFit s → FitTogether (opens_of s.lines) → OpensHavePlaces s
