-- Each event of the controller, of either walk, keeps queue heads going onward.
use Rattle.std.proofs.Common.{◌≡◌, ◌≢◌, ℕ, ◌*◌, true, Some, ap, refl, sym, subst, ◌∙◌}
use Rattle.qh_qtd.specs.declared.qtd.Qtd.{Qtd}
use Rattle.qh_qtd.specs.declared.queue_head.Qh.{Qh}
use Rattle.bus_wire.specs.Bus.{Fixed}
use Rattle.drv_table.specs.Words.{head_block}
use Rattle.law_structures.specs.lent_structures.Structures.{QueueHead, Structures, StructureSets}
use Rattle.law_structures.specs.lent_structures.Alters.{HadElement}
use Rattle.law_structures.proofs.lemmas.lent_structures.Members.{still_active}
use Rattle.claims_base.specs.Controller.{opening_base}
use Rattle.law_ring.specs.Front.{LinksRise}
use Rattle.law_controller.specs.controlled_streams.Kept.{HadHead, KeepsEach}
use Rattle.law_controller.specs.frame_control.Both.{RunsBoth}
use Rattle.law_driver.specs.queued_drivers.Queued.{queued}
use Rattle.law_driver_ring.specs.fed_queues.Places.{HasHead}
use Rattle.law_frames.proofs.lemmas.framed_fronts.Queues.{QueueEvent, stays}
use Rattle.law_descriptors.specs.Both.{both, parts_now}
use Rattle.law_descriptors.specs.Meeting.{met}
use Rattle.law_descriptors.proofs.lemmas.queue_events.Beside.{beside}
use Rattle.law_descriptors.proofs.lemmas.queue_events.Events.{both_keeps_structures}
use Rattle.law_world.specs.steps.Streaming.{begins_by, transacts_by, wired}
use Rattle.bus_world.specs.World.{World, controller_parts, controller_next}
use Rattle.law_world.specs.memory.Mixed.{Standing, IsMixedAt}
use Rattle.law_world.specs.memory.Steps.{IsEventOf, standing_then}
use Rattle.law_reports.specs.queues.Onward.{LeadsOnward}
use Rattle.law_reports.specs.queues.OnwardLaws.{GoOnward, ControllerKeepsOnward}
use Rattle.law_reports.proofs.lemmas.queues.Passing.{event_links, event_stands}
use Rattle.law_reports.proofs.lemmas.queues.Places.{head_of}
use Rattle.law_reports.proofs.lemmas.queues.QueueEvents.{both_event}

module _ (fixed : Fixed) (s : Standing) (w : World) (mixed : IsMixedAt s w) (a : IsEventOf fixed s w)
    (g : GoOnward s (queued w.driver)) where
  abbrev new : World
  new = controller_next fixed w

  abbrev then : StructureSets
  then = parts_now s.descs s.parts a.now

  runs : RunsBoth opening_base s.member (met w.driver s.recent) (both s.descs s.parts) s.hand s.frame (controller_parts w)
  runs = mixed.now.framed.runs

  kept : KeepsEach s.parts (parts_now s.descs s.parts a.now)
  kept = both_keeps_structures begins_by transacts_by opening_base s.member (met w.driver s.recent) s.descs s.parts s.hand s.frame
      (controller_parts w) (wired fixed w) (wired fixed new) a.now a.later a.frame_later runs a.effect

  event : (n : ℕ) (q : Qh) → s.parts n n ≡ Some (QueueHead q) → QueueEvent n (s.parts n) (parts_now s.descs s.parts a.now n)
  event n q here =
      beside s.descs s.parts a.now (QueueEvent n) n (stays refl)
      (λ same. both_event begins_by transacts_by opening_base s.member (met w.driver s.recent) (both s.descs s.parts) s.hand s.frame
      (controller_parts w) (wired fixed w) (wired fixed new) a.now a.later a.frame_later runs n q
      (ap (λ (part : Structures). part n) same ∙ here)
      a.effect)

  links_then : (n : ℕ) → LeadsOnward n (s.parts n) → LeadsOnward n (then n)
  links_then n old = record {
    next = λ b u here on.
        let had : HadElement (s.parts n) b u = (kept n).alters.element_before b u here in
        let same : u ≡ had.qtd = still_active had.qtd u had.after on in
        ap (λ (t : Qtd). t.next.t) same ∙ old.next b had.qtd had.here (ap (λ (t : Qtd). t.token.active) (sym same) ∙ on);
    rest = λ q here off idle.
        let had : HadHead (s.parts n) n q = (kept n).head_before n q here in
        (event_links n (s.parts n) (then n) old (event n had.queue had.here)).rest q here off idle;
  }

  rise : (n : ℕ) → s.near n ≡ true → n ≢ 32 * head_block → LinksRise (s.order n) (s.parts n)
  rise n on other =
      let h : HasHead (queued w.driver) n = head_of s w mixed n on other in
      subst (λ (i : ℕ). LinksRise (s.order i) (s.parts i)) (sym h.at)
      (mixed.queues.controls.rises h.number h.endpoint h.here h.met.there)

  pub onward_then : GoOnward (standing_then s w a) (queued (controller_next fixed w).driver)
  onward_then = record {
    links = λ n other. links_then n (g.links n other);
    stand = λ n q on other pipe here off.
        let had : HadHead (s.parts n) n q = (kept n).head_before n q here in
        event_stands (s.order n) (queued w.driver) n (s.parts n) (then n) (rise n on other) (g.links n other)
        (λ p there awake. g.stand n p on other pipe there awake) (event n had.queue had.here) q here off;
  }

pub controller_keeps_onward : ControllerKeepsOnward
controller_keeps_onward fixed s w mixed a g = onward_then fixed s w mixed a g
