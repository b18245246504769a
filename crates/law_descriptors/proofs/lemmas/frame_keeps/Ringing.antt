-- Each event of the ring's walk keeps parts, and so does each of the controller over a ring.
use Rattle.std.proofs.Common.{◌≡◌, ℕ, Bool, List, ap, sym, subst, ◌∙◌}
use Rattle.usb_base.specs.declared.packets.Ask.{Ask}
use Rattle.usb_base.specs.declared.packets.Reply.{Reply}
use Rattle.qh_qtd.specs.declared.queue_head.Qh.{Qh}
use Rattle.hc_copy.specs.Overlay.{advanced}
use Rattle.hc_copy.specs.WriteBack.{moved_by}
use Rattle.async_walk.specs.Rows.{WalkPlace}
use Rattle.hc_core.specs.Controller.{walk_place}
use Rattle.law_structures.specs.lent_structures.Structures.{QueueHead, StructureSets}
use Rattle.law_structures.specs.lent_structures.Sound.{IsSoundQueue, IsMember}
use Rattle.law_structures.proofs.lemmas.lent_structures.Altering.{found_queue}
use Rattle.law_ring.specs.Hand.{Copy, Settlement, settled_queue_of, Hand, Copied, Settled}
use Rattle.claims_base.specs.Controller.{Base}
use Rattle.law_ring.specs.Ring.{IsCopied, IsSettled, IsInHand, IsRing}
use Rattle.law_ring.specs.Effects.{received_into, reads, passes, ends, takes, makes, writes_back, WritesBack, Takes}
use Rattle.law_controller.specs.controlled_streams.Control.{a_microframe, a_step}
use Rattle.law_descriptors.specs.frame_keeps.Kept.{KeepsParts}
use Rattle.law_descriptors.specs.frame_keeps.Laws.{RingKeeps, ControlKeeps}
use Rattle.law_descriptors.proofs.lemmas.frame_keeps.Keeping.{head_keeps, parts_itself, parts_put}
use Rattle.law_descriptors.proofs.lemmas.frame_keeps.Backs.{advanced_bare, written_bare, settled_current, published, back_keeps}

module _ (base : Base) (member : ℕ → Bool) (parts : StructureSets) (hand : Hand) (p : WalkPlace) (k : IsRing base member parts hand p) where
  in_copy : (c : Copy) → hand ≡ Copied c → IsCopied member parts c
  in_copy c is = subst (IsInHand member parts p.walk.reply) is k.in_hand

  in_settled : (c : Copy) (z : Settlement) → hand ≡ Settled c z → IsCopied member parts c × IsSettled c.queue p.walk.reply z
  in_settled c z is = subst (IsInHand member parts p.walk.reply) is k.in_hand

  sound : (c : Copy) → IsCopied member parts c → IsSoundQueue (parts c.at) c.queue
  sound c copied =
      let m : IsMember member c.at (parts c.at) = k.members c.at copied.on in
      subst (IsSoundQueue (parts c.at)) (found_queue (parts c.at c.at) m.queue c.queue m.here copied.here) m.sound

  took : (now : StructureSets) (later : Hand) → Takes parts hand now later → KeepsParts parts now
  took now later t =
      let new : Qh = advanced t.copy.queue t.element t.qtd in
      subst (KeepsParts parts) (sym t.now_is)
      (parts_put parts t.copy.at t.copy.at (QueueHead new)
      (head_keeps (parts t.copy.at) t.copy.at t.copy.queue new (in_copy t.copy t.in_hand).here (advanced_bare t.copy.queue t.element t.qtd)))

  wrote : (now : StructureSets) (later : Hand) → WritesBack parts hand now later → KeepsParts parts now
  wrote now later r =
      let both : IsCopied member parts r.copy × IsSettled r.copy.queue p.walk.reply r.settled = in_settled r.copy r.settled r.in_hand in
      subst (KeepsParts parts) (sym r.now_is)
      (back_keeps parts r.copy.at r.copy.at r.copy.queue (settled_queue_of r.copy r.settled) (moved_by r.settled.outcome) r.settled.got
      (received_into (parts r.copy.at) r.copy.queue r.element r.settled.got) r.element (written_bare r.copy r.settled (moved_by r.settled.outcome))
      (published (parts r.copy.at) r.copy.queue r.element (sound r.copy both.0) both.1.works r.here) both.0.here (ap (parts r.copy.at) (settled_current r.copy r.settled) ∙ r.here) r.received_is)

pub ring_keeps : {W : Type 0} (transacts : W → Ask → List ℕ → Reply → W → Type 0) → RingKeeps transacts
ring_keeps transacts base member parts hand p wire after now later _ k (reads r same quiet) = parts_itself parts now same
ring_keeps transacts base member parts hand p wire after now later _ k (passes r same quiet) = parts_itself parts now same
ring_keeps transacts base member parts hand p wire after now later _ k (ends r same quiet) = parts_itself parts now same
ring_keeps transacts base member parts hand p wire after now later _ k (makes r same) = parts_itself parts now same
ring_keeps transacts base member parts hand p wire after now later _ k (takes r quiet) = took base member parts hand p k now later r
ring_keeps transacts base member parts hand p wire after now later _ k (writes_back r quiet) = wrote base member parts hand p k now later r

-- ---- the controller

pub control_keeps : {W : Type 0} (begins : W → ℕ → Bool → W → Type 0) (transacts : W → Ask → List ℕ → Reply → W → Type 0) → ControlKeeps begins transacts
control_keeps begins transacts base member parts hand c wire after now later k (a_microframe b) = parts_itself parts now b.parts_stay
control_keeps begins transacts base member parts hand c wire after now later k (a_step s) = ring_keeps transacts base member parts hand (walk_place c) wire after now later s.kind k s.effect
