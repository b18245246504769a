-- One event of the periodic part of a microframe (EHCI 1.0, 4.6, 4.7, 4.10 and 4.12): by the kind of the copy in hand.
use Rattle.std.specs.Prelude.{ℕ, List, Option, None, Some}
use Rattle.usb_base.specs.declared.packets.Ask.{Ask}
use Rattle.usb_base.specs.declared.packets.Reply.{Reply}
use Rattle.async_walk.specs.declared.state.WalkStep.{WalkStep}
use Rattle.periodic_walk.specs.declared.state.Hand.{Hand}
use Rattle.periodic_walk.specs.declared.state.Hand.TheVariants as hands
use Rattle.periodic_walk.specs.Place.{FramePlace, reading, Effect, HasEffect}
use Rattle.periodic_walk.specs.Place.Effect.{Leaves}
use Rattle.periodic_walk.specs.Chain.{chain_row, chain_read, chain_after, chain_step}
use Rattle.periodic_walk.specs.Queue.{queue_row, queue_read, queue_step, queue_effect}
use Rattle.periodic_walk.specs.Itd.{itd_row, itd_step, itd_effect}
use Rattle.periodic_walk.specs.Sitd.{sitd_row, sitd_step, sitd_effect}

abbrev pub step_at : FramePlace → Option Hand → WalkStep
step_at p None = chain_step (chain_row p.memory p.walk.cursor)
step_at p (Some (hands.Queue h)) = queue_step (queue_row p h) h (reading (queue_read p h) p)
step_at p (Some (hands.Itd h)) = itd_step (itd_row p.walk.left h) h p
step_at p (Some (hands.Sitd h)) = sitd_step (sitd_row p h) h p

-- what an event answers
abbrev pub step_of : FramePlace → WalkStep
step_of p = step_at p p.walk.hand

abbrev pub effect_at : FramePlace → Option Hand → Effect
effect_at p None = Leaves (chain_after (chain_row p.memory p.walk.cursor) (reading (chain_read p.memory p.walk.cursor) p))
effect_at p (Some (hands.Queue h)) = queue_effect (queue_row p h) h (reading (queue_read p h) p)
effect_at p (Some (hands.Itd h)) = itd_effect (itd_row p.walk.left h) h p
effect_at p (Some (hands.Sitd h)) = sitd_effect (sitd_row p h) h p

-- what an event does
abbrev pub effect_of : FramePlace → Effect
effect_of p = effect_at p p.walk.hand

-- what an event leaves, over a wire of which only a relation is known
abbrev pub Leads : {W : Type 0} → (W → Ask → List ℕ → Reply → W → Type 0) → FramePlace → W → FramePlace → W → Type 0
Leads transacts p before new after = HasEffect transacts (effect_of p) before new after
