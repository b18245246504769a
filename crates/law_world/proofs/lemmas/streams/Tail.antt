-- The tail of a queue, by the unfinished command.
use Rattle.std.proofs.Common.{◌≡◌, ℕ, ◌-◌, ◌*◌, List, length, slice_get, Option, Some, None, ap, refl, subst, ◌∙◌}
use Rattle.drv_table.specs.declared.content.Endpoint.{Endpoint}
use Rattle.drv_table.specs.declared.content.Transfer.{Transfer}
use Rattle.drv_table.specs.declared.content.Command.{Command}
use Rattle.drv_table.specs.DriverContent.{DriverContent}
use Rattle.law_structures.specs.lent_structures.Structures.{StructureSets}
use Rattle.law_queues.specs.standing_fronts.Reaching.{Reaches}
use Rattle.law_queues.specs.commanded_queues.Accepted.{ReachEnds}
use Rattle.law_queues.specs.standing_fronts.Tails.{tail_block, tail_of, TailsStand}

none_block : (o : Option Transfer) (e dummy : ℕ) → tail_block None o e dummy ≡ dummy
none_block None e dummy = refl
none_block (Some y) e dummy = refl

pub idle_tail : (d : DriverContent) (e : ℕ) (x : Endpoint) → d.command ≡ None → tail_of d e x ≡ 32 * x.dummy
idle_tail d e x idle =
    let o = slice_get d.transfers (length d.transfers - 1) in
    ap (λ (c : Option Command). 32 * tail_block c o e x.dummy) idle ∙ ap (λ (b : ℕ). 32 * b) (none_block o e x.dummy)

-- where no command is unfinished the tail is the end of the queue
pub idle_ends : (d : DriverContent) (parts : StructureSets) (order : ℕ → ℕ → ℕ) (out : ℕ → List ℕ) → d.command ≡ None → TailsStand d parts order out → ReachEnds d parts order out
idle_ends d parts order out idle tails e x here met =
    subst (λ (c : ℕ). Reaches d (parts (32 * x.queue)) (order (32 * x.queue)) (out (32 * x.queue)) e x c) (idle_tail d e x idle) (tails e x here met)
