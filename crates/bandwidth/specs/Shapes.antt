-- What a placement from one first microframe on does in each of its active frames, and how many cells of the tables that touches.
--     turns p             in how many of the 1,024 frames a placement of period p is active
--     IsAmounts a         amounts of the eight microframes, none outside from .. to
--     cost_cells w        how many microframes the bus times of a placement span
--     laid_cells w        in how many microframes its byte-times are laid
--     cells w             the cells of one active frame: of bus times, of byte-times, and that of the frame
--     IsShape w x         x is what the placements from its first microframe on do
--     IsOf x p            p is a placement of this shape
--     AreShapes w xs      one from each first microframe
use Rattle.std.specs.Prelude.{◌≡◌, ℕ, ◌+◌, ◌-◌, ◌/◌, ◌<◌, ◌≤◌, nat_lt, if◌then◌else◌, List, length, slice_index, slice_index_or}
use Rattle.usb_base.specs.declared.packets.EpKind.{EpKind}
use Rattle.usb_base.specs.declared.packets.EpKind.TheVariants.{Iso}
use Rattle.usb_base.specs.declared.packets.Dir.{Dir}
use Rattle.usb_base.specs.declared.packets.Dir.TheVariants.{In, Out}
use Rattle.usb_base.specs.Cost.{byte_times}
use Rattle.usb_base.specs.Limits.{byte_times_of_microframe, frame_list_length}
use Rattle.bandwidth.specs.declared.placements.Want.{Want}
use Rattle.bandwidth.specs.declared.placements.Placement.{Placement}
use Rattle.bandwidth.specs.declared.shapes.Amounts.{Amounts}
use Rattle.bandwidth.specs.declared.shapes.Shape.{Shape}
use Rattle.bandwidth.specs.Placements.{frame_period, is_classic, placement_row, placement_at, IsPlace}
use Rattle.bandwidth.specs.Sums.{cost_in, laid_in, time_of}

abbrev pub turns : ℕ → ℕ
turns period = frame_list_length / frame_period period

pub record IsAmounts (a : Amounts) : Type 0 where
  pub order : a.from ≤ a.to
  pub end : a.to ≤ 8
  pub small : (m : ℕ) → m < 8 → slice_index a.each m ≤ 1000000000000
  pub before : (m : ℕ) → m < a.from → slice_index a.each m ≡ 0
  pub after : (m : ℕ) → a.to ≤ m → m < 8 → slice_index a.each m ≡ 0

-- from the first start-split to the last complete-split
abbrev pub classic_cells : EpKind → Dir → ℕ → ℕ
classic_cells Iso In bytes = (bytes + 9 + (byte_times_of_microframe - 1)) / byte_times_of_microframe + 3
classic_cells Iso Out bytes = (bytes + (byte_times_of_microframe - 1)) / byte_times_of_microframe
classic_cells _ _ bytes = 5

abbrev pub cost_cells : Want → ℕ
cost_cells w =
    if is_classic w.speed then classic_cells w.kind w.dir w.max else (if nat_lt w.period 8 then 9 - w.period else 1)

abbrev pub laid_cells : Want → ℕ
laid_cells w = (byte_times w.speed w.kind w.max + (byte_times_of_microframe - 1)) / byte_times_of_microframe

abbrev pub cells : Want → ℕ
cells w = cost_cells w + laid_cells w + 1

pub record IsShape (w : Want) (x : Shape) : Type 0 where
  pub first : x.costs.from < (placement_row w).starts
  pub smask : x.smask ≡ (placement_row w).smask x.costs.from
  pub cmask : x.cmask ≡ (placement_row w).cmask x.costs.from
  pub costs : (m : ℕ) → m < 8 → slice_index x.costs.each m ≡ cost_in w (placement_at w 0 x.costs.from) m
  pub cost_amounts : IsAmounts x.costs
  pub cost_span : x.costs.to - x.costs.from ≤ cost_cells w
  pub bytes : (m : ℕ) → m < 8 → slice_index x.bytes.each m ≡ laid_in w (placement_at w 0 x.costs.from) m
  pub byte_amounts : IsAmounts x.bytes
  pub laid_span : x.bytes.to - x.bytes.from ≤ laid_cells w
  pub time : x.time ≡ time_of w
  pub small : x.time ≤ 1000000000000

pub record IsOf (x : Shape) (p : Placement) : Type 0 where
  pub place : IsPlace p
  pub smask : p.smask ≡ x.smask
  pub cmask : p.cmask ≡ x.cmask

-- one from each first microframe
pub record AreShapes (w : Want) (xs : List Shape) : Type 0 where
  pub count : length xs ≡ 8
  pub shapes : (s : ℕ) (d : Shape) → s < (placement_row w).starts → IsShape w (slice_index_or xs s d)
  pub first : (s : ℕ) (d : Shape) → s < (placement_row w).starts → (slice_index_or xs s d).costs.from ≡ s
