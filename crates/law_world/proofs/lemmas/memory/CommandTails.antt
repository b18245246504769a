-- The tail of a queue, by the unfinished command.
use Rattle.std.proofs.Common.{◌≡◌, ℕ, Bool, ◌-◌, ◌*◌, List, length, slice_get, None, ap, sym, subst}
use Rattle.law_world.proofs.Common.{unlinks_block}
use Rattle.drv_table.specs.declared.content.Endpoint.{Endpoint}
use Rattle.drv_table.specs.DriverContent.{DriverContent}
use Rattle.law_structures.specs.lent_structures.Structures.{StructureSets}
use Rattle.law_queues.specs.leaving_drivers.Before.{UnlinksAtMost}
use Rattle.law_queues.specs.standing_fronts.Reaching.{Reaches}
use Rattle.law_queues.specs.commanded_queues.Accepted.{ReachEnds}
use Rattle.law_queues.specs.standing_fronts.Tails.{tail_of, TailsStand}
use Rattle.law_world.specs.steps.left_queues.Standing.{IdleTailsStand, AllStand}
use Rattle.law_ring.specs.Told.{Endpoint as Told}
use Rattle.law_world.specs.memory.Mixed.{QueuesGoOn}

pub unlinks_tail : (d : DriverContent) (e : ℕ) (x : Endpoint) → UnlinksAtMost d.command → tail_of d e x ≡ 32 * x.dummy
unlinks_tail d e x may = ap (λ (b : ℕ). 32 * b) (unlinks_block d.command (slice_get d.transfers (length d.transfers - 1)) e x.dummy may)

none_unlinks : (d : DriverContent) → d.command ≡ None → UnlinksAtMost d.command
none_unlinks d idle = subst UnlinksAtMost (sym idle) tt

-- where no command is unfinished the tail is the end of the queue
pub idle_ends : (d : DriverContent) (parts : StructureSets) (order : ℕ → ℕ → ℕ) (out : ℕ → List ℕ) → d.command ≡ None → TailsStand d parts order out → ReachEnds d parts order out
idle_ends d parts order out idle tails e x here met =
    subst (λ (c : ℕ). Reaches d (parts (32 * x.queue)) (order (32 * x.queue)) (out (32 * x.queue)) e x c) (unlinks_tail d e x (none_unlinks d idle)) (tails e x here met)

-- .. and where one leaves the ring at most
pub ends_idle : (d : DriverContent) (parts : StructureSets) (order : ℕ → ℕ → ℕ) (out : ℕ → List ℕ) → UnlinksAtMost d.command → ReachEnds d parts order out → TailsStand d parts order out
ends_idle d parts order out may ends e x here met =
    subst (λ (c : ℕ). Reaches d (parts (32 * x.queue)) (order (32 * x.queue)) (out (32 * x.queue)) e x c) (sym (unlinks_tail d e x may)) (ends e x here met)

pub idle_tail : (d : DriverContent) (e : ℕ) (x : Endpoint) → d.command ≡ None → tail_of d e x ≡ 32 * x.dummy
idle_tail d e x idle = unlinks_tail d e x (none_unlinks d idle)

pub tails_stand : (d : DriverContent) (parts : StructureSets) (order : ℕ → ℕ → ℕ) (out : ℕ → List ℕ) → d.command ≡ None → IdleTailsStand d parts order out → TailsStand d parts order out
tails_stand d parts order out idle = ends_idle d parts order out (none_unlinks d idle)

-- so is all that is told of queues then
pub all_stand : (d : DriverContent) (near streams : ℕ → Bool) (ends : ℕ → Told) (parts : StructureSets) (order : ℕ → ℕ → ℕ) (out : ℕ → List ℕ) → d.command ≡ None → QueuesGoOn d near streams ends parts order out
    → AllStand d near streams ends parts order out
all_stand d near streams ends parts order out idle k =
    record { queues = k.queues; fronts = λ e x here met. (k.tails e x here met).stands; tails = idle_ends d parts order out idle k.tails }
