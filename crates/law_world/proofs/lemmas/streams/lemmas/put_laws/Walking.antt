-- The buffers of a queue head that asks for no data, beside the walk.
use Rattle.std.proofs.Common.{◌≡◌, ◌≢◌, ℕ, Bool, true, false, ◌==◌, if◌then◌else◌, List, [], Some, ap, refl, sym, subst, ◌∙◌, ⊎_elim}
use Rattle.std.proofs.lemmas.Bool.{cases_eq, eqb-true}
use Rattle.law_world.proofs.Common.{same_buffers}
use Rattle.usb_base.specs.declared.packets.Ask.{Ask}
use Rattle.usb_base.specs.declared.packets.Pid.TheVariants as pids
use Rattle.usb_base.specs.declared.packets.Reply.{Reply}
use Rattle.qh_qtd.specs.declared.queue_head.Qh.{Qh}
use Rattle.hc_copy.specs.Overlay.{advanced, moved}
use Rattle.hc_copy.specs.Planning.{pid_at}
use Rattle.hc_copy.specs.WriteBack.{moved_by}
use Rattle.async_walk.specs.declared.state.WalkStep.{WalkStep}
use Rattle.law_structures.specs.lent_structures.Structures.{QueueHead, Element, Buffer, Structures, StructureSets, put}
use Rattle.law_structures.specs.lent_structures.Changes.{relinked}
use Rattle.law_structures.proofs.lemmas.lent_structures.Names.{put_beside, put_else}
use Rattle.law_structures.specs.lent_structures.WriteBack.{qtd_after, parts_back}
use Rattle.law_structures.proofs.lemmas.lent_structures.Found.{back_beside}
use Rattle.law_structures.specs.lent_structures.Sound.{IsWorking, IsSoundQueue, IsMember}
use Rattle.law_structures.proofs.lemmas.lent_structures.Altering.{found_queue, no_two}
use Rattle.law_ring.specs.Hand.{Hand, settled_queue_of}
use Rattle.law_ring.specs.Ring.{IsCopied, IsSettled, IsInHand}
use Rattle.law_ring.specs.Effects.{received_into, Takes, WritesBack, Effect}
use Rattle.law_ring.specs.Effects.Effect.{reads, passes, ends, takes, makes, writes_back}
use Rattle.law_ring.proofs.Writing.{settled_copy}
use Rattle.law_ring.specs.Streams.{AreMembers}
use Rattle.law_ring.specs.Pipes.{IsNotIn}
use Rattle.hc_core.specs.Controller.{walk_place}
use Rattle.law_controller.specs.controlled_streams.Control.{a_microframe, a_step}
use Rattle.law_world.specs.streams.put_laws.Rings.{BuffersStay, WalkLeavesBuffers, EventLeavesBuffers, OutsAskNone}

-- ---- PID codes

not_in : (code : ℕ) → code ≢ 1 → pid_at code ≢ pids.In
not_in code differs = by (code == 0) (code == 1) refl
  where
    by : (zero one : Bool) → (code == 1) ≡ one → (if zero then pids.Out else if one then pids.In else pids.Setup) ≡ pids.In → ⊥
    by true one is e = cc
    by false true is e = differs (eqb-true code 1 is)
    by false false is e = cc

pub outs_ask_none : OutsAskNone
outs_ask_none part outs a t here active is = zero_one (sym (outs a t here active) ∙ is)
  where
    zero_one : ◌≡◌ {A = ℕ} 0 1 → ⊥
    zero_one e = cc

-- ---- an event of the walk

module _ {W : Type 0} (transacts : W → Ask → List ℕ → Reply → W → Type 0) (member : ℕ → Bool) (parts : StructureSets) (hand : Hand) (reply : Reply) (wire after : W) (now : StructureSets) (later : Hand) (n : ℕ) (members : AreMembers member parts) (in_hand : IsInHand member parts reply hand) (none : member n ≡ true → IsNotIn (parts n)) where
  -- where a qTD is taken, its queue head's overlay is written
  taking : Takes parts hand now later → BuffersStay (parts n) (now n)
  taking t a pages k bs here =
      let copied : IsCopied member parts t.copy = subst (IsInHand member parts reply) t.in_hand in_hand in
      let head = QueueHead (advanced t.copy.queue t.element t.qtd) in
      ap (λ (ps : StructureSets). ps n a) t.now_is
      ∙ ⊎_elim
      (λ (is : n ≡ t.copy.at).
      let other : a ≢ t.copy.at =
      no_two (parts t.copy.at) a t.copy.at (Buffer pages k bs) (QueueHead t.copy.queue) (ap (λ (i : ℕ). parts i a) (sym is) ∙ here) copied.here (λ e. cc) in
      ap (λ (i : ℕ). put parts t.copy.at t.copy.at head i a) is ∙ put_else parts t.copy.at t.copy.at head a other ∙ ap (λ (i : ℕ). parts i a) (sym is) ∙ here)
      (λ (differs : n ≢ t.copy.at). ap (λ (part : Structures). part a) (put_beside parts t.copy.at t.copy.at head n differs) ∙ here) (cases_eq n t.copy.at)

  -- a transaction is written back: without bytes, as its qTD is no IN
  writing : WritesBack parts hand now later → BuffersStay (parts n) (now n)
  writing w a pages k bs here =
      let both : IsCopied member parts w.copy × IsSettled w.copy.queue reply w.settled = subst (IsInHand member parts reply) w.in_hand in_hand in
      let at = w.copy.at in
      let q : Qh = w.copy.queue in
      let x : Qh = settled_queue_of w.copy w.settled in
      let count = moved_by w.settled.outcome in
      let back : List ℕ → StructureSets = λ (got : List ℕ). parts_back parts at at q x count got (received_into (parts at) q w.element got) w.element in
      ap (λ (ps : StructureSets). ps n a) w.now_is
      ∙ ⊎_elim
      (λ (is : n ≡ at).
      let m : IsMember member at (parts at) = members at both.0.on in
      let sound : IsSoundQueue (parts at) q = subst (IsSoundQueue (parts at)) (found_queue (parts at at) m.queue q m.here both.0.here) m.sound in
      let work : IsWorking (parts at) q = sound.work both.1.works in
      let asks : IsNotIn (parts n) = none (ap member is ∙ both.0.on) in
      let pid : q.token.pid ≢ 1 = λ one. asks q.current work.element (ap (λ (i : ℕ). parts i q.current) is ∙ work.here) work.published (sym work.pid ∙ one) in
      let got : w.settled.got ≡ [] = both.1.bytes.none (not_in q.token.pid pid) in
      let there : parts at a ≡ Some (Buffer pages k bs) = ap (λ (i : ℕ). parts i a) (sym is) ∙ here in
      let beside_head : a ≢ at = no_two (parts at) a at (Buffer pages k bs) (QueueHead q) there both.0.here (λ e. cc) in
      let beside_element : a ≢ x.current =
      λ same. no_two (parts at) a q.current (Buffer pages k bs) (Element w.element) there w.here (λ e. cc) (same ∙ (settled_copy w.copy w.settled).current) in
      let head = QueueHead (relinked q (moved x count)) in
      ap (λ (bytes : List ℕ). back bytes n a) got ∙ ap (λ (i : ℕ). back [] i a) is
      ∙ put_else (put parts at at head) at x.current (Element (qtd_after (moved x count) w.element)) a beside_element
      ∙ put_else parts at at head a beside_head ∙ there)
      (λ (differs : n ≢ at).
      ap (λ (part : Structures). part a) (back_beside parts at at q x count w.settled.got (received_into (parts at) q w.element w.settled.got) w.element n differs) ∙ here)
      (cases_eq n at)

  walking : (kind : WalkStep) → Effect transacts parts hand wire after now later kind → BuffersStay (parts n) (now n)
  walking kind (reads r all quiet) = same_buffers (parts n) (now n) (ap (λ (ps : StructureSets). ps n) all)
  walking kind (passes r all quiet) = same_buffers (parts n) (now n) (ap (λ (ps : StructureSets). ps n) all)
  walking kind (ends r all quiet) = same_buffers (parts n) (now n) (ap (λ (ps : StructureSets). ps n) all)
  walking kind (makes r all) = same_buffers (parts n) (now n) (ap (λ (ps : StructureSets). ps n) all)
  walking kind (takes t quiet) = taking t
  walking kind (writes_back w quiet) = writing w

pub walk_leaves_buffers : {W : Type 0} (transacts : W → Ask → List ℕ → Reply → W → Type 0) → WalkLeavesBuffers transacts
walk_leaves_buffers transacts member parts hand reply wire after now later kind n members in_hand effect none = walking transacts member parts hand reply wire after now later n members in_hand none kind effect

pub event_leaves_buffers : {W : Type 0} (begins : W → ℕ → Bool → W → Type 0) (transacts : W → Ask → List ℕ → Reply → W → Type 0) → EventLeavesBuffers begins transacts
event_leaves_buffers begins transacts base member parts hand c wire after now later n controlled (a_microframe b) none = same_buffers (parts n) (now n) (ap (λ (ps : StructureSets). ps n) b.parts_stay)
event_leaves_buffers begins transacts base member parts hand c wire after now later n controlled (a_step s) none =
    walk_leaves_buffers transacts member parts hand (walk_place c).walk.reply wire after now later s.kind n controlled.ring.members controlled.ring.in_hand s.effect none
