-- The premises of each event's law, of a world with endpoints of every kind.
use Rattle.std.proofs.Common.{◌≡◌, ℕ, ◌*◌, true, ap, sym, subst, ◌∙◌, ⊎_elim}
use Rattle.std.proofs.lemmas.Bool.{false≢true}
use Rattle.drv_table.specs.Words.{head_block}
use Rattle.claims_base.specs.Controller.{opening_base}
use Rattle.law_driver.specs.queued_drivers.Queued.{queued}
use Rattle.law_ring.specs.QueueParts.{IsQueuePart}
use Rattle.law_driver_ring.specs.fed_queues.Places.{HasHead}
use Rattle.law_descriptors.specs.Meeting.{met}
use Rattle.law_descriptors.specs.PartLaws.{IsDescribing}
use Rattle.law_world.specs.steps.Streaming.{begins_by, transacts_by, wired}
use Rattle.bus_world.specs.World.{World, controller_parts, controller_next}
use Rattle.law_world.specs.memory.Mixed.{Standing, IsMixedAt}
use Rattle.law_world.specs.memory.Steps.{standing_then}
use Rattle.law_world.proofs.lemmas.memory.lemmas.pipe_steps.Events.{each_event_keeps_pipes}
use Rattle.law_microframes.specs.visits.WorldPipes.{ControllerKeepsPipes}
use Rattle.law_microframes.proofs.lemmas.visits.AskedHeads.{asked_is_near}

-- a queue head that is met stands in its part, but for the head of the ring
met_part : (s : Standing) (w : World) → IsMixedAt s w → (n : ℕ) → (n ≡ 32 * head_block → ⊥) → s.near n ≡ true → IsQueuePart n (s.parts n)
met_part s w k n beside on =
    ⊎_elim (λ (head : n ≡ 32 * head_block). absurd (beside head))
    (λ (h : HasHead (queued w.driver) n).
    subst (λ (i : ℕ). IsQueuePart i (s.parts i)) (sym h.at) (k.queues.sound h.number h.endpoint h.here h.met))
    (k.queues.queues.met.only n on)

pub controller_keeps_pipes : ControllerKeepsPipes
controller_keeps_pipes sends takes packets sender taker ins outs ends acc fixed s w bus keeps out_bus out_keeps k c by_way iso z p =
    let f = k.now.framed in
    let describing : IsDescribing w.driver s.descs s.parts =
    record { owners = f.place.sound.owners; driven = f.driven; described = f.described } in
    let beside : (n : ℕ) → outs n ≡ true → n ≡ 32 * head_block → ⊥ =
    λ n on same. false≢true (sym by_way.head.1 ∙ ap outs (sym same) ∙ on) in
    each_event_keeps_pipes begins_by transacts_by sender taker sends takes packets s.near ins outs ends acc opening_base s.member
    (met w.driver s.recent) w.driver s.descs s.parts s.hand s.frame (controller_parts w) (wired fixed w)
    (wired fixed (controller_next fixed w)) c.event.now c.event.later c.event.frame_later bus keeps out_bus out_keeps describing f.runs
    c.event.effect (asked_is_near s w k) iso.ins iso.outs
    (λ n on. (
      met_part s w k n (beside n on) (p.out_ends.members n on),
      met_part (standing_then s w c.event) (controller_next fixed w) c.mixed n (beside n on) (p.out_ends.members n on),
    )) z p
