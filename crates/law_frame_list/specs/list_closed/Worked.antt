-- A queue head, in the block 130, that is linked in every eighth frame, from frame 3 on, and an iTD, in the block 140, in frame 3. The first of the queue head's
-- stores is made.
use Rattle.std.specs.Prelude.{ℕ, nat_eq, [], ◌∷◌, false, if◌then◌else◌}
use Rattle.drv_chains.specs.declared.members.Descriptor.{Descriptor}
use Rattle.drv_chains.specs.declared.members.QueueHead.{QueueHead}
use Rattle.drv_chains.specs.declared.members.Member.TheVariants.{Once, Each}
use Rattle.drv_chains.specs.declared.members.Predecessor.TheVariants.{After}
use Rattle.drv_chains.specs.Chains.{Schedule, of_lists}
use Rattle.drv_periodic.specs.declared.work.Work.{Work}
use Rattle.claims_driver.specs.FrameWords.{set_all}

abbrev pub queue : QueueHead
queue = record { id = 4162; period = 64; phase = 3 }

abbrev pub itd : Descriptor
itd = record { id = 4480; frame = 3 }

abbrev pub both : Schedule
both = of_lists (itd ∷ []) (queue ∷ [])

abbrev pub work : Work
work = record { member = Each queue; removes = false; made = 1 }

-- before it was linked: element 3 leads to the iTD, and each other word is the end
abbrev pub before : ℕ → ℕ
before at = if nat_eq at 12 then 4480 else 1

abbrev pub half : ℕ → ℕ
half = set_all 0 (After (Once itd) ∷ []) 4162 before
