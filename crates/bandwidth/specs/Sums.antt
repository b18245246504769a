-- What placements cost, their sums and the budgets (USB 2.0, 5.11.3 and 11.18; EHCI 1.0, 4.12).
--     is_active p f            the placement is active in frame f
--     cost_in w p m            the bus time, in picoseconds, of microframe m of an active frame
--     laid_in w p m            the byte-times laid in the translator in microframe m of an active frame
--     load P u                 the bus time of microframe u
--     is_translator w hub port  the translator of this hub that serves this port, 0 for all, serves it
--     translator_of w          the number of its translator, if one serves it: 16 for each address of a hub, and its port
--     is_at w n                the translator with this number serves it
--     frame_sum P hub port f   the classic bus time below the translator in frame f, in picoseconds
--     tt_sum P hub port u      the byte-times in the translator in microframe u
--     Fits P, fits P           each sum is within its budget: as a fact, as a test
use Rattle.std.specs.Prelude.{ℕ, zero, suc, ◌+◌, ◌-◌, ◌*◌, ◌/◌, ◌%◌, ◌<◌, ◌≤◌, min, Bool, true, false, ◌&&◌, nat_eq, nat_le, if◌then◌else◌, List, sum_by, Option, Some, None, option_map}
use Rattle.usb_base.specs.declared.packets.Speed.TheVariants.{High}
use Rattle.usb_base.specs.declared.packets.EpKind.{EpKind}
use Rattle.usb_base.specs.declared.packets.EpKind.TheVariants.{Iso}
use Rattle.usb_base.specs.declared.packets.Dir.{Dir}
use Rattle.usb_base.specs.declared.packets.Dir.TheVariants.{In, Out}
use Rattle.usb_base.specs.Cost.{bus_time, byte_times}
use Rattle.usb_base.specs.Limits.{byte_times_of_microframe, microframe_budget, frame_budget, frame_list_length}
use Rattle.bandwidth.specs.declared.placements.Want.{Want}
use Rattle.bandwidth.specs.declared.placements.Placement.{Placement}
use Rattle.bandwidth.specs.declared.placements.Placed.{Placed}
use Rattle.bandwidth.specs.Placements.{has, first_in, frame_period, is_classic}

abbrev pub is_active : Placement → ℕ → Bool
is_active p f = nat_eq (f % frame_period p.period) p.phase

-- the bytes of a classic start-split: none for IN, parts of 188 for isochronous OUT, all for interrupt OUT
abbrev pub start_bytes : EpKind → Dir → ℕ → ℕ → ℕ
start_bytes _ In bytes part = 0
start_bytes Iso Out bytes part = min byte_times_of_microframe (bytes - byte_times_of_microframe * part)
start_bytes _ Out bytes part = bytes

-- the bytes of a complete-split: a part of at most 188 for isochronous IN, all for interrupt IN, none for OUT
abbrev pub complete_bytes : EpKind → Dir → ℕ → ℕ
complete_bytes _ Out bytes = 0
complete_bytes Iso In bytes = min bytes byte_times_of_microframe
complete_bytes _ In bytes = bytes

-- the bytes of the transaction of an S-mask bit, the bit being this many microframes after the first
abbrev pub sent_bytes : Want → ℕ → ℕ
sent_bytes w part = if is_classic w.speed then start_bytes w.kind w.dir w.max part else w.max

-- splits are priced as high-speed transactions
abbrev pub price : Want → ℕ → ℕ
price w bytes = w.multi * bus_time High w.kind w.dir bytes

abbrev pub cost_in : Want → Placement → ℕ → ℕ
cost_in w p m =
    if has p.smask m
    then price w (sent_bytes w (m - first_in p.smask))
    else (if has p.cmask m then price w (complete_bytes w.kind w.dir w.max) else 0)

-- 188 byte-times from the first microframe on, and in the last the rest
abbrev pub laid_in : Want → Placement → ℕ → ℕ
laid_in w p m =
    if nat_le (first_in p.smask) m
    then min byte_times_of_microframe (byte_times w.speed w.kind w.max - byte_times_of_microframe * (m - first_in p.smask))
    else 0

abbrev pub time_of : Want → ℕ
time_of w = bus_time w.speed w.kind w.dir w.max

abbrev pub cost_at : ℕ → Placed → ℕ
cost_at u x = if is_active x.placement (u / 8) then cost_in x.want x.placement (u % 8) else 0

abbrev pub laid_at : ℕ → Placed → ℕ
laid_at u x = if is_active x.placement (u / 8) then laid_in x.want x.placement (u % 8) else 0

abbrev pub time_at : ℕ → Placed → ℕ
time_at f x = if is_active x.placement f then time_of x.want else 0

abbrev pub is_hub : Option ℕ → ℕ → Bool
is_hub None hub = false
is_hub (Some h) hub = nat_eq h hub

-- a hub has one translator for all its ports, here 0, or one for each port (USB 2.0, 11.14)
abbrev pub is_translator : Want → ℕ → ℕ → Bool
is_translator w hub port = is_hub w.hub hub && nat_eq w.tt port

abbrev pub translator_of : Want → Option ℕ
translator_of w = option_map (λ hub. 16 * hub + w.tt) w.hub

abbrev pub is_at : Want → ℕ → Bool
is_at w n = is_translator w (n / 16) (n % 16)

abbrev pub load : List Placed → ℕ → ℕ
load placed u = sum_by (cost_at u) placed

abbrev pub frame_sum : List Placed → ℕ → ℕ → ℕ → ℕ
frame_sum placed hub port f = sum_by (λ x. if is_translator x.want hub port then time_at f x else 0) placed

abbrev pub tt_sum : List Placed → ℕ → ℕ → ℕ → ℕ
tt_sum placed hub port u = sum_by (λ x. if is_translator x.want hub port then laid_at u x else 0) placed

-- 8,192 microframes, 1,024 frames, 128 addresses of hubs, each with 16 translators at most
pub record Fits (placed : List Placed) : Type 0 where
  pub loads : (u : ℕ) → u < 8192 → load placed u ≤ microframe_budget
  pub frames : (hub port f : ℕ) → hub < 128 → port < 16 → f < frame_list_length → frame_sum placed hub port f ≤ frame_budget
  pub bytes : (hub port u : ℕ) → hub < 128 → port < 16 → u < 8192 → tt_sum placed hub port u ≤ byte_times_of_microframe

-- each number below n passes
unfoldable pub each_below : ℕ → (ℕ → Bool) → Bool
each_below zero test = true
each_below (suc n) test = each_below n test && test n

unfoldable pub fits : List Placed → Bool
fits placed =
    each_below 8192 (λ u. nat_le (load placed u) microframe_budget)
    && (each_below 128
    (λ hub. each_below 16 (λ port. each_below frame_list_length (λ f. nat_le (frame_sum placed hub port f) frame_budget)))
    && each_below 128
    (λ hub. each_below 16 (λ port. each_below 8192 (λ u. nat_le (tt_sum placed hub port u) byte_times_of_microframe))))
