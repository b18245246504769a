-- Schedules for worked rows.
use Rattle.std.specs.Prelude.{ℕ, List, [], ◌∷◌, map, take}
use Rattle.drv_chains.specs.declared.members.Descriptor.{Descriptor}
use Rattle.drv_chains.specs.declared.members.QueueHead.{QueueHead}
use Rattle.drv_chains.specs.declared.members.Member.TheVariants.{Each}
use Rattle.drv_chains.specs.Chains.{Schedule, id_of, chain, predecessors}
use Rattle.drv_chains.specs.Order.{frames}
use Rattle.drv_chains.specs.Stores.{half_linked, half_unlinked}
use Rattle.drv_chains.specs.declared.members.Predecessor.{Predecessor}

abbrev pub iso : ℕ → ℕ → Descriptor
iso id frame = record { id = id; frame = frame }

abbrev pub queue : ℕ → ℕ → ℕ → QueueHead
queue id period phase = record { id = id; period = period; phase = phase }

-- only queue heads, in the order of opening
abbrev pub queues_alone : List QueueHead → Schedule
queues_alone qs = record { descriptors = []; queues = qs }

-- the names of a frame's members
abbrev pub names_in : Schedule → ℕ → List ℕ
names_in s f = map id_of (chain s f)

-- three queue heads, and two descriptors of one endpoint in frame 5, of which the older isn't unlinked yet
abbrev pub busy : Schedule
busy = record {
  descriptors = iso 12 5 ∷ iso 11 4 ∷ iso 10 5 ∷ [];
  queues = queue 1 8 0 ∷ queue 2 16 1 ∷ queue 3 8 0 ∷ queue 4 4 0 ∷ queue 5 32 1 ∷ [];
}

-- one queue head of every frame, and with it one of every second
abbrev pub alone : Schedule
alone = queues_alone (queue 1 8 0 ∷ [])

abbrev pub joined : Schedule
joined = queues_alone (queue 1 8 0 ∷ queue 2 16 1 ∷ [])

abbrev pub joined_words : ℕ → List Predecessor
joined_words n = take n (predecessors joined (Each (queue 2 16 1)) (frames 2))

-- the names of frame f after n stores that link queue head 2, and after n that unlink it
abbrev pub linked_names : ℕ → ℕ → List ℕ
linked_names n f = map id_of (half_linked alone joined (Each (queue 2 16 1)) (joined_words n) f)

abbrev pub unlinked_names : ℕ → ℕ → List ℕ
unlinked_names n f = map id_of (half_unlinked joined alone (Each (queue 2 16 1)) (joined_words n) f)
