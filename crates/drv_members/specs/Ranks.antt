-- The order in which queue heads are kept (EHCI 1.0, 4.6): the longer period first, then by phase, so that each class stands together.
--     rank period phase       where they stand: a lower rank comes first
--     rank_of q               the rank of a queue head
--     is_queue q              its period is one, and its phase is one of the period's frames
--     class_low, class_high level phase      the ranks of a class, from the lowest to the highest
--     is_between low high q   its rank lies there
--     is_named id q           it has this name
use Rattle.std.specs.Prelude.{ℕ, zero, suc, ◌+◌, ◌-◌, ◌*◌, ◌^◌, Bool, ◌&&◌, nat_eq, nat_le, nat_lt}
use Rattle.drv_chains.specs.declared.members.Descriptor.{Descriptor}
use Rattle.drv_chains.specs.declared.members.QueueHead.{QueueHead}
use Rattle.drv_chains.specs.Chains.{is_period, frame_period}

abbrev pub rank : ℕ → ℕ → ℕ
rank period phase = (8192 - period) * 1024 + phase

abbrev pub rank_of : QueueHead → ℕ
rank_of q = rank q.period q.phase

abbrev pub is_queue : QueueHead → Bool
is_queue q = is_period q.period && nat_lt q.phase (frame_period q.period)

abbrev pub class_low : ℕ → ℕ → ℕ
class_low level phase = rank (8 * 2 ^ level) phase

-- at level 0 stand all periods up to 8
abbrev pub class_high : ℕ → ℕ → ℕ
class_high zero phase = 2 ^ 24
class_high (suc level) phase = rank (8 * 2 ^ suc level) phase

abbrev pub is_between : ℕ → ℕ → QueueHead → Bool
is_between low high q = nat_le low (rank_of q) && nat_le (rank_of q) high

abbrev pub is_named : ℕ → QueueHead → Bool
is_named id q = nat_eq q.id id

abbrev pub is_called : ℕ → Descriptor → Bool
is_called id d = nat_eq d.id id
