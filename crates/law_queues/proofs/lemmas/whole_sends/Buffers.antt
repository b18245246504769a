-- The walk changes no byte of the buffers of an OUT endpoint.
use Rattle.std.proofs.Common.{◌≡◌, ◌≢◌, ℕ, Bool, List, [], ◌∷◌, ◌++◌, Option, Some, ap, refl, sym, subst, ◌∙◌, ⊎_elim}
use Rattle.std.proofs.lemmas.Bool.{cases_eq}
use Rattle.law_queues.proofs.Common2.{silent_bytes}
use Rattle.usb_base.specs.declared.packets.Ask.{Ask}
use Rattle.usb_base.specs.declared.packets.Reply.{Reply}
use Rattle.qh_qtd.specs.declared.queue_head.Qh.{Qh}
use Rattle.hc_copy.specs.Overlay.{advanced}
use Rattle.hc_copy.specs.WriteBack.{moved_by}
use Rattle.async_walk.specs.declared.state.WalkStep.{WalkStep}
use Rattle.law_structures.specs.lent_structures.Structures.{Structure, QueueHead, Element, Structures, StructureSets, put}
use Rattle.law_structures.proofs.lemmas.lent_structures.Names.{put_here, put_beside}
use Rattle.law_structures.specs.lent_structures.WriteBack.{CanBeWritten, Nothing, parts_back}
use Rattle.law_structures.proofs.lemmas.lent_structures.Found.{back_beside}
use Rattle.law_structures.specs.lent_structures.Sound.{buffer_name, IsWorking, IsSoundQueue, IsMember}
use Rattle.law_structures.specs.lent_structures.Alters.{Alters}
use Rattle.law_structures.proofs.lemmas.lent_structures.Altering.{found_queue}
use Rattle.law_structures.proofs.lemmas.lent_structures.Members.{name_after}
use Rattle.law_ring.specs.Hand.{settled_queue_of, Hand}
use Rattle.law_ring.specs.Ring.{IsCopied, IsSettled, IsInHand}
use Rattle.law_ring.specs.Effects.{bytes_in, received_into, Takes, WritesBack, Effect}
use Rattle.law_ring.specs.Effects.Effect.{reads, passes, ends, takes, makes, writes_back}
use Rattle.law_ring.proofs.Writing.{settled_copy, settled_range}
use Rattle.law_ring.specs.Streams.{AreMembers}
use Rattle.law_ring.proofs.Keeping.{bytes_beside_head}
use Rattle.law_ring.proofs.Altered.{effect_alters}
use Rattle.law_ring.specs.OutPipes.{IsOut}
use Rattle.law_queues.specs.whole_sends.Whole.{bytes_of_element, buffers_of}
use Rattle.law_queues.specs.whole_sends.Laws.{WalkKeepsBuffers}
use Rattle.law_queues.proofs.lemmas.whole_sends.Telling.{silent}

-- ---- an event

module _ {W : Type 0} (transacts : W → Ask → List ℕ → Reply → W → Type 0) (member : ℕ → Bool) (parts : StructureSets) (hand : Hand) (reply : Reply) (wire after : W) (now : StructureSets) (later : Hand) (n : ℕ) (members : AreMembers member parts) (in_hand : IsInHand member parts reply hand) (outs : IsOut (parts n)) where
  taken_bytes : (t : Takes parts hand now later) → (a : ℕ) → bytes_in (now n a) ≡ bytes_in (parts n a)
  taken_bytes t a =
      let copied : IsCopied member parts t.copy = subst (IsInHand member parts reply) t.in_hand in_hand in
      let new : Qh = advanced t.copy.queue t.element t.qtd in
      ap (λ (ps : StructureSets). bytes_in (ps n a)) t.now_is
      ∙ ⊎_elim (λ (is : n ≡ t.copy.at).
      ap (λ (i : ℕ). bytes_in (put parts t.copy.at t.copy.at (QueueHead new) i a)) is ∙ ap (λ (part : Structures). bytes_in (part a)) (put_here parts t.copy.at t.copy.at (QueueHead new))
      ∙ bytes_beside_head (parts t.copy.at) t.copy.at t.copy.queue new a copied.here ∙ ap (λ (i : ℕ). bytes_in (parts i a)) (sym is))
      (λ (differs : n ≢ t.copy.at). ap (λ (part : Structures). bytes_in (part a)) (put_beside parts t.copy.at t.copy.at (QueueHead new) n differs)) (cases_eq n t.copy.at)

  written_bytes : (w : WritesBack parts hand now later) → (a : ℕ) → bytes_in (now n a) ≡ bytes_in (parts n a)
  written_bytes w a = ap (λ (ps : StructureSets). bytes_in (ps n a)) w.now_is ∙ ⊎_elim here beside (cases_eq n w.copy.at)
    where
      beside : n ≢ w.copy.at → bytes_in (parts_back parts w.copy.at w.copy.at w.copy.queue (settled_queue_of w.copy w.settled) (moved_by w.settled.outcome) w.settled.got (received_into (parts w.copy.at) w.copy.queue w.element w.settled.got) w.element n a) ≡ bytes_in (parts n a)
      beside differs = ap (λ (part : Structures). bytes_in (part a)) (back_beside parts w.copy.at w.copy.at w.copy.queue (settled_queue_of w.copy w.settled) (moved_by w.settled.outcome) w.settled.got (received_into (parts w.copy.at) w.copy.queue w.element w.settled.got) w.element n differs)

      here : n ≡ w.copy.at → bytes_in (parts_back parts w.copy.at w.copy.at w.copy.queue (settled_queue_of w.copy w.settled) (moved_by w.settled.outcome) w.settled.got (received_into (parts w.copy.at) w.copy.queue w.element w.settled.got) w.element n a) ≡ bytes_in (parts n a)
      here is =
          let both : IsCopied member parts w.copy × IsSettled w.copy.queue reply w.settled = subst (IsInHand member parts reply) w.in_hand in_hand in
          let m : IsMember member w.copy.at (parts w.copy.at) = members w.copy.at both.0.on in
          let q : Qh = w.copy.queue in
          let working : IsWorking (parts w.copy.at) q = (subst (IsSoundQueue (parts w.copy.at)) (found_queue (parts w.copy.at w.copy.at) m.queue q m.here both.0.here) m.sound).work both.1.works in
          let pid : q.token.pid ≡ 0 = working.pid ∙ outs q.current working.element (ap (λ (i : ℕ). parts i q.current) is ∙ working.here) working.published in
          let none : w.settled.got ≡ [] = silent q reply w.settled both.1 pid in
          let quiet : CanBeWritten parts w.copy.at w.copy.at q (settled_queue_of w.copy w.settled) [] Nothing w.element = record {
            copy = record { head = both.0.here; range = settled_range w.copy w.settled reply both.0.range both.1; front = (settled_copy w.copy w.settled).front };
            element = ap (parts w.copy.at) (settled_copy w.copy w.settled).current ∙ w.here;
            received = refl;
          } in
          ap (λ (got : List ℕ). bytes_in (parts_back parts w.copy.at w.copy.at q (settled_queue_of w.copy w.settled) (moved_by w.settled.outcome) got (received_into (parts w.copy.at) q w.element got) w.element n a)) none
          ∙ ap (λ (i : ℕ). bytes_in (parts_back parts w.copy.at w.copy.at q (settled_queue_of w.copy w.settled) (moved_by w.settled.outcome) [] Nothing w.element i a)) is
          ∙ silent_bytes parts w.copy.at q (settled_queue_of w.copy w.settled) (moved_by w.settled.outcome) w.element a quiet ∙ ap (λ (i : ℕ). bytes_in (parts i a)) (sym is)

  bytes_same : (kind : WalkStep) → Effect transacts parts hand wire after now later kind → (a : ℕ) → bytes_in (now n a) ≡ bytes_in (parts n a)
  bytes_same kind (reads r all quiet) a = ap (λ (ps : StructureSets). bytes_in (ps n a)) all
  bytes_same kind (passes r all quiet) a = ap (λ (ps : StructureSets). bytes_in (ps n a)) all
  bytes_same kind (ends r all quiet) a = ap (λ (ps : StructureSets). bytes_in (ps n a)) all
  bytes_same kind (makes m all) a = ap (λ (ps : StructureSets). bytes_in (ps n a)) all
  bytes_same kind (takes t quiet) a = taken_bytes t a
  bytes_same kind (writes_back w quiet) a = written_bytes w a

-- ---- the buffers of the qTDs

element_bytes : (part now : Structures) (e : ℕ) (o p : Option Structure) → part e ≡ o → now e ≡ p → Alters part now → ((a : ℕ) → bytes_in (now a) ≡ bytes_in (part a)) → bytes_of_element now p ≡ bytes_of_element part o
element_bytes part now e o (Some (Element u)) was is alters same =
    let had = alters.element_before e u is in
    ap (λ (a : ℕ). bytes_in (now a)) (name_after had.qtd u had.after) ∙ same (buffer_name had.qtd) ∙ ap (bytes_of_element part) (sym had.here ∙ was)
element_bytes part now e (Some (Element t)) p was is alters same =
    let has = alters.element e t was in
    ap (bytes_of_element now) (sym is ∙ has.here) ∙ ap (λ (a : ℕ). bytes_in (now a)) (name_after t has.qtd has.after) ∙ same (buffer_name t)
element_bytes part now e _ _ was is alters same = refl

all_bytes : (part now : Structures) (es : List ℕ) → Alters part now → ((a : ℕ) → bytes_in (now a) ≡ bytes_in (part a)) → buffers_of now es ≡ buffers_of part es
all_bytes part now [] alters same = refl
all_bytes part now (e ∷ es) alters same =
    ap (λ (xs : List ℕ). xs ++ buffers_of now es) (element_bytes part now e (part e) (now e) refl refl alters same) ∙ ap (λ (xs : List ℕ). bytes_of_element part (part e) ++ xs) (all_bytes part now es alters same)

pub walk_keeps_buffers : {W : Type 0} (transacts : W → Ask → List ℕ → Reply → W → Type 0) → WalkKeepsBuffers transacts
walk_keeps_buffers transacts member parts hand reply wire after now later kind n out members in_hand effect outs =
    all_bytes (parts n) (now n) out (effect_alters transacts member parts hand reply wire after now later kind in_hand effect n)
    (bytes_same transacts member parts hand reply wire after now later n members in_hand outs kind effect)
