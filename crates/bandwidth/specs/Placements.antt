-- Where a periodic endpoint may be placed (EHCI 1.0, 4.7, 4.12.2.1 and 4.12.3.1; USB 2.0, 11.18).
--     mask test            the microframes of a frame that pass the test, microframe 0 in bit 0
--     has mask m           microframe m stands in the mask
--     first_in mask        the lowest microframe of a mask, 8 for none
--     frame_period p       how many frames a period of p microframes has, 1 below 8
--     IsWant w             what may be asked of a plan
--     placement_row w             the row of the table of placements that the endpoint has
--     allowed w            each placement of the table, by phase and then by first microframe
--     is_slack rules w p   where bits are stuffed, an isochronous OUT below a hub leaves the translator time for them
--     allowed_by rules w   each allowed placement, in the same order
use Rattle.std.specs.Prelude.{◌≡◌, ℕ, ◌+◌, ◌-◌, ◌/◌, ◌%◌, ◌^◌, ◌<◌, ◌≤◌, max, Bool, true, false, ◌&&◌, ◌||◌, not, filter, nat_eq, nat_lt, nat_le, if◌then◌else◌, List, [], ◌∷◌, map, sum_by, is_some}
use Rattle.std.specs.List.{range_with_len, flat_map, list_any, position_or_len}
use Rattle.usb_base.specs.declared.packets.Speed.{Speed}
use Rattle.usb_base.specs.declared.packets.Speed.TheVariants.{Full, Low, High}
use Rattle.usb_base.specs.declared.packets.EpKind.{EpKind}
use Rattle.usb_base.specs.declared.packets.EpKind.TheVariants.{Iso, Interrupt}
use Rattle.usb_base.specs.declared.packets.Dir.{Dir}
use Rattle.usb_base.specs.declared.packets.Dir.TheVariants.{In, Out}
use Rattle.usb_base.specs.Limits.{byte_times_of_microframe}
use Rattle.usb_base.specs.declared.rules.Rules.{Rules}
use Rattle.bandwidth.specs.declared.placements.Want.{Want}
use Rattle.bandwidth.specs.declared.placements.Placement.{Placement}

-- the numbers below n, in order
abbrev pub below : ℕ → List ℕ
below n = range_with_len 0 n

unfoldable pub mask : (ℕ → Bool) → ℕ
mask test = sum_by (λ m. if test m then 2 ^ m else 0) (below 8)

abbrev pub has : ℕ → ℕ → Bool
has mask m = nat_eq (mask / 2 ^ m % 2) 1

unfoldable pub first_in : ℕ → ℕ
first_in mask = position_or_len (has mask) (below 8)

-- n microframes from s on
abbrev pub run : ℕ → ℕ → ℕ
run s n = mask (λ m. nat_le s m && nat_lt m (s + n))

-- each microframe s, s + period, ..
abbrev pub every : ℕ → ℕ → ℕ
every period s = mask (λ m. nat_eq (m % period) s)

abbrev pub frame_period : ℕ → ℕ
frame_period period = max 1 (period / 8)

-- the powers of two from 1 to 8,192
abbrev pub periods : List ℕ
periods = 1 ∷ 2 ∷ 4 ∷ 8 ∷ 16 ∷ 32 ∷ 64 ∷ 128 ∷ 256 ∷ 512 ∷ 1024 ∷ 2048 ∷ 4096 ∷ 8192 ∷ []

abbrev pub is_period : ℕ → Bool
is_period period = list_any (λ p. nat_eq p period) periods

-- the shortest period, below a hub one frame
abbrev pub least_period : Speed → ℕ
least_period High = 1
least_period Full = 8
least_period Low = 8

-- the greatest packet of a periodic endpoint, 0 where there is no such endpoint (USB 2.0, 5.6.3 and 5.7.3)
abbrev pub most_bytes : Speed → EpKind → ℕ
most_bytes High Iso = 1024
most_bytes High Interrupt = 1024
most_bytes Full Iso = 1023
most_bytes Full Interrupt = 64
most_bytes Low Interrupt = 8
most_bytes _ _ = 0

-- the most transactions in a microframe (USB 2.0, 5.9)
abbrev pub most_multi : Speed → ℕ
most_multi High = 3
most_multi Full = 1
most_multi Low = 1

-- a full- or low-speed endpoint, which a translator serves
abbrev pub is_classic : Speed → Bool
is_classic High = false
is_classic Full = true
is_classic Low = true

pub record IsWant (w : Want) : Type 0 where
  pub period : is_period w.period ≡ true
  pub frames : least_period w.speed ≤ w.period
  pub some_bytes : 1 ≤ w.max
  pub bytes : w.max ≤ most_bytes w.speed w.kind
  pub some_multi : 1 ≤ w.multi
  pub multi : w.multi ≤ most_multi w.speed
  pub hub : is_some w.hub ≡ is_classic w.speed
  pub tt : w.tt < 16

-- how many first microframes there are, and the masks from each on
pub record PlacementRow : Type 0 where
  pub starts : ℕ
  pub smask : ℕ → ℕ
  pub cmask : ℕ → ℕ

abbrev pub high_row : ℕ → PlacementRow
high_row period =
    if nat_lt period 8
    then record { starts = period; smask = λ s. every period s; cmask = λ s. 0 }
    else record { starts = 8; smask = λ s. run s 1; cmask = λ s. 0 }

-- complete-splits in the second to the fourth microframe after the start-split
abbrev pub interrupt_row : PlacementRow
interrupt_row = record { starts = 4; smask = λ s. run s 1; cmask = λ s. run (s + 2) 3 }

-- k microframes of 188 byte-times, with the 9 that a transaction takes beside its bytes
abbrev pub iso_in_row : ℕ → PlacementRow
iso_in_row k = record { starts = 6 - k; smask = λ s. run s 1; cmask = λ s. run (s + 2) (k + 1) }

-- k start-splits of at most 188 bytes
abbrev pub iso_out_row : ℕ → PlacementRow
iso_out_row k = record { starts = 7 - k; smask = λ s. run s k; cmask = λ s. 0 }

abbrev pub classic_row : EpKind → Dir → ℕ → PlacementRow
classic_row Iso In bytes = iso_in_row ((bytes + 9 + (byte_times_of_microframe - 1)) / byte_times_of_microframe)
classic_row Iso Out bytes = iso_out_row ((bytes + (byte_times_of_microframe - 1)) / byte_times_of_microframe)
classic_row _ _ bytes = interrupt_row

abbrev pub placement_row : Want → PlacementRow
placement_row w = if is_classic w.speed then classic_row w.kind w.dir w.max else high_row w.period

abbrev pub placement_at : Want → ℕ → ℕ → Placement
placement_at w phase s =
    record { period = w.period; phase = phase; smask = (placement_row w).smask s; cmask = (placement_row w).cmask s }

-- the placements of one phase
abbrev pub in_phase : Want → ℕ → List Placement
in_phase w phase = map (placement_at w phase) (below (placement_row w).starts)

unfoldable pub allowed : Want → List Placement
allowed w = flat_map (in_phase w) (below (frame_period w.period))

-- from first microframe s on, where bits are stuffed: the bytes and the 9 byte-times beside them are laid before microframe 6
abbrev pub ends_by_sixth : Rules → EpKind → Dir → ℕ → ℕ → Bool
ends_by_sixth rules Iso Out bytes s =
    not rules.stuffed || nat_le (s + (bytes + 9 + (byte_times_of_microframe - 1)) / byte_times_of_microframe) 6
ends_by_sixth rules _ _ bytes s = true

abbrev pub is_slack_from : Rules → Want → ℕ → Bool
is_slack_from rules w s = if is_classic w.speed then ends_by_sixth rules w.kind w.dir w.max s else true

abbrev pub is_slack : Rules → Want → Placement → Bool
is_slack rules w p = is_slack_from rules w (first_in p.smask)

unfoldable pub allowed_by : Rules → Want → List Placement
allowed_by rules w = filter (is_slack rules w) (allowed w)

-- a place in the period: one of its frames
pub record IsPlace (p : Placement) : Type 0 where
  pub period : is_period p.period ≡ true
  pub phase : p.phase < frame_period p.period
