-- Nothing is in hand: the structure at the cursor is read, or the chain ends.
use Rattle.std.proofs.Common.{◌≡◌, ℕ, List, [], Option, Some, ap, refl, sym, subst, ◌∙◌, arith}
use Rattle.law_frames.proofs.Common.{early_below}
use Rattle.usb_base.specs.declared.packets.Ask.{Ask}
use Rattle.usb_base.specs.declared.packets.Reply.{Reply}
use Rattle.word_mem.specs.Memory.{Mem}
use Rattle.link_words.specs.declared.kinds.Link.{Link}
use Rattle.link_words.specs.declared.kinds.Link.TheVariants as links
use Rattle.qh_qtd.specs.declared.queue_head.Qh.{Qh}
use Rattle.itd_sitd.specs.declared.itd.Itd.{Itd}
use Rattle.itd_sitd.specs.declared.sitd.Sitd.{Sitd}
use Rattle.mem_queues.specs.Structures.{queue_head_at_address, queue_head_was_read}
use Rattle.mem_descriptors.specs.Descriptors.{itd_at_address, itd_was_read, sitd_at_address, sitd_was_read}
use Rattle.hc_interrupt.specs.Turns.{microframe_of}
use Rattle.hc_iso.specs.Itd.{fetched_itd}
use Rattle.hc_iso.proofs.Ranges.{fetched_held}
use Rattle.async_walk.specs.declared.state.WalkStep.{WalkStep}
use Rattle.async_walk.specs.declared.state.WalkStep.TheVariants as steps
use Rattle.periodic_walk.specs.declared.chain.ChainRow.TheVariants as rows
use Rattle.periodic_walk.specs.Walk.{stopped}
use Rattle.periodic_walk.specs.Place.{FramePlace, reading}
use Rattle.periodic_walk.specs.Chain.{queue_fetch, itd_fetch, sitd_fetch, chain_row, chain_read, chain_after, chain_step, fetched_queue, fetched_itd_walk, fetched_sitd}
use Rattle.periodic_walk.specs.Rows.{step_of, Leads}
use Rattle.law_structures.specs.lent_structures.Structures.{QueueHead, Isochronous, SplitIsochronous, HoldsQueueHead, HoldsIsochronous, HoldsSplitIsochronous, StructureSets, Tells}
use Rattle.law_structures.proofs.lemmas.lent_structures.Reading.{head_read, head_not_refused, itd_read_there, itd_not_refused, sitd_read_there, sitd_not_refused}
use Rattle.claims_base.specs.Controller.{base_of}
use Rattle.law_ring.specs.Effects.{AreBytesHeard}
use Rattle.law_frames.specs.Met.{Kind, AQueue, AnItd, ASitd, LeadsTo, IsMetQueue, IsMetItd, IsMetSitd}
use Rattle.law_frames.specs.FrameHand.{FrameHand, Nothing, OfQueue, OfItd, OfSitd, fetched_copy, fetched_itd_copy, fetched_sitd_copy}
use Rattle.law_frames.proofs.Counted.{in_none}
use Rattle.law_frames.specs.Frame.{IsCopiedQueue, IsCopiedItd, IsCopiedSitd, IsFrameWalk, IsFrame}
use Rattle.law_frames.specs.FrameEffects.{of_queue, of_itd, of_sitd, fetches, FrameEffect, FrameHappens}
use Rattle.law_frames.specs.FrameEffects.FrameEffect.{ends}
use Rattle.law_frames.proofs.StepStepping.{step_in_hand, effect_in_hand}
use Rattle.law_frames.specs.Fetches.{ReadsAt, a_queue, an_itd, a_sitd, LeavesRead}
use Rattle.law_frames.specs.Fetches.ReadsAt.{ends as ends_there}

module _ (met : ℕ → Option Kind) (parts : StructureSets) (p : FramePlace) (k : IsFrame met parts Nothing p) where
  -- ---- the copies

  queue_copied : (a : ℕ) → met a ≡ Some AQueue → (m : IsMetQueue met a (parts a)) → IsCopiedQueue met parts (fetched_copy a m.part_is.queue)
  queue_copied a on m =
      let h : HoldsQueueHead p.memory a m.part_is.queue = k.tells.each a a (QueueHead m.part_is.queue) m.part_is.here in
      record { on = on; here = m.part_is.here; link = m.link; range = h.range }

  itd_copied : (a : ℕ) → met a ≡ Some AnItd → (m : IsMetItd met a (parts a)) → IsCopiedItd met parts [] (fetched_itd_copy a (microframe_of p.walk.index) m.itd)
  unfolding fetched_itd
  itd_copied a on m =
      let h : HoldsIsochronous p.memory a m.itd = k.tells.each a a (Isochronous m.itd) m.here in
      record {
        on = on;
        here = m.here;
        link = m.link;
        same = refl;
        held = fetched_held a (microframe_of p.walk.index) m.itd h.aligned (early_below p.walk.index) h.range;
        slot = record { page = refl; offset = refl; length = refl; active = refl };
        count = sym (in_none m.itd.dir_in);
        small = λ i. omega arith;
        begun = λ some. absurd (omega (arith, some));
      }

  sitd_copied : (a : ℕ) → met a ≡ Some ASitd → (m : IsMetSitd met a (parts a)) → IsCopiedSitd met parts p.walk.reply (fetched_sitd_copy a m.sitd)
  sitd_copied a on m =
      let h : HoldsSplitIsochronous p.memory a m.sitd = k.tells.each a a (SplitIsochronous m.sitd) m.here in
      record { on = on; here = m.here; link = m.link; range = h.range; turn = refl }

  -- ---- the walk after each of them

  -- what an event leaves: this is in hand
  record Left (new : FramePlace) (l : Link) (kind : WalkStep) : Type 0 where
    later : FrameHand
    reads : ReadsAt parts p.walk l kind later
    cursor : new.walk.cursor ≡ l
    memory : new.memory ≡ p.memory
    registers : new.registers ≡ p.registers
    walk : IsFrameWalk met parts later new

  queue_left : (new : FramePlace) (a : ℕ) → met a ≡ Some AQueue → new ≡ chain_after (chain_row p.memory (links.Qh a)) (reading (chain_read p.memory (links.Qh a)) p) → Left new (links.Qh a) (chain_step (chain_row p.memory (links.Qh a)))
  queue_left new a on is =
      let m : IsMetQueue met a (parts a) = k.members a AQueue on in
      let q : Qh = m.part_is.queue in
      let there : queue_head_at_address p.memory a ≡ Some q = head_read p.memory parts a a q k.tells m.part_is.here in
      let left : new ≡ record p { walk = fetched_queue a q p.walk } =
      is ∙ ap (λ (o : Option Qh). chain_after (queue_fetch a o) (reading (queue_head_was_read p.memory a) p)) there
      ∙ ap (λ (w : Mem). chain_after (rows.Queue a q) (reading w p)) (head_not_refused p.memory parts a a q k.tells m.part_is.here) in
      subst (Left new (links.Qh a)) (sym (ap (λ (o : Option Qh). chain_step (queue_fetch a o)) there))
      (subst (λ (x : FramePlace). Left x (links.Qh a) steps.Fetch) (sym left)
      (record {
        later = OfQueue (fetched_copy a q) 0;
        reads = a_queue a q m.part_is.here;
        cursor = refl;
        memory = refl;
        registers = refl;
        walk = record { cursor = on; held = refl; in_hand = queue_copied a on m };
      }))

  itd_left : (new : FramePlace) (a : ℕ) → met a ≡ Some AnItd → new ≡ chain_after (chain_row p.memory (links.Itd a)) (reading (chain_read p.memory (links.Itd a)) p) → Left new (links.Itd a) (chain_step (chain_row p.memory (links.Itd a)))
  itd_left new a on is =
      let m : IsMetItd met a (parts a) = k.members a AnItd on in
      let v : Itd = m.itd in
      let there : itd_at_address p.memory a ≡ Some v = itd_read_there p.memory parts a a v k.tells m.here in
      let left : new ≡ record p { walk = fetched_itd_walk a v p.walk } =
      is ∙ ap (λ (o : Option Itd). chain_after (itd_fetch a o) (reading (itd_was_read p.memory a) p)) there
      ∙ ap (λ (w : Mem). chain_after (rows.Itd a v) (reading w p)) (itd_not_refused p.memory parts a a v k.tells m.here) in
      subst (Left new (links.Itd a)) (sym (ap (λ (o : Option Itd). chain_step (itd_fetch a o)) there))
      (subst (λ (x : FramePlace). Left x (links.Itd a) steps.Fetch) (sym left)
      (record {
        later = OfItd (fetched_itd_copy a (microframe_of p.walk.index) v);
        reads = an_itd a v m.here;
        cursor = refl;
        memory = refl;
        registers = refl;
        walk = record { cursor = on; held = refl; in_hand = itd_copied a on m };
      }))

  sitd_left : (new : FramePlace) (a : ℕ) → met a ≡ Some ASitd → new ≡ chain_after (chain_row p.memory (links.Sitd a)) (reading (chain_read p.memory (links.Sitd a)) p) → Left new (links.Sitd a) (chain_step (chain_row p.memory (links.Sitd a)))
  sitd_left new a on is =
      let m : IsMetSitd met a (parts a) = k.members a ASitd on in
      let v : Sitd = m.sitd in
      let there : sitd_at_address p.memory a ≡ Some v = sitd_read_there p.memory parts a a v k.tells m.here in
      let left : new ≡ record p { walk = fetched_sitd a v p.walk } =
      is ∙ ap (λ (o : Option Sitd). chain_after (sitd_fetch a o) (reading (sitd_was_read p.memory a) p)) there
      ∙ ap (λ (w : Mem). chain_after (rows.Sitd a v) (reading w p)) (sitd_not_refused p.memory parts a a v k.tells m.here) in
      subst (Left new (links.Sitd a)) (sym (ap (λ (o : Option Sitd). chain_step (sitd_fetch a o)) there))
      (subst (λ (x : FramePlace). Left x (links.Sitd a) steps.Fetch) (sym left)
      (record {
        later = OfSitd (fetched_sitd_copy a v);
        reads = a_sitd a v m.here;
        cursor = refl;
        memory = refl;
        registers = refl;
        walk = record { cursor = on; held = refl; in_hand = sitd_copied a on m };
      }))

  end_left : (new : FramePlace) → p.walk.cursor ≡ links.End → new ≡ record p { walk = stopped p.walk } → Left new links.End steps.Ended
  end_left new at_end is =
      subst (λ (x : FramePlace). Left x links.End steps.Ended) (sym is)
      (record {
        later = Nothing;
        reads = ends_there;
        cursor = at_end;
        memory = refl;
        registers = refl;
        walk = record { cursor = k.walk.cursor; held = refl; in_hand = tt };
      })

  left_at : (new : FramePlace) (l : Link) → p.walk.cursor ≡ l → LeadsTo met l → new ≡ chain_after (chain_row p.memory l) (reading (chain_read p.memory l) p) → Left new l (chain_step (chain_row p.memory l))
  left_at new links.End at on is = end_left new at is
  left_at new (links.Qh a) at on is = queue_left new a on is
  left_at new (links.Itd a) at on is = itd_left new a on is
  left_at new (links.Sitd a) at on is = sitd_left new a on is
  left_at new (links.Fstn a) at on is = absurd on

  -- ---- the event

  module _ {W : Type 0} (transacts : W → Ask → List ℕ → Reply → W → Type 0) (wire : W) (new : FramePlace) (after : W) (leads : Leads transacts p wire new after) where
    left : Left new p.walk.cursor (step_of p)
    left =
        subst (Left new p.walk.cursor) (sym (step_in_hand met parts Nothing p k))
        (left_at new p.walk.cursor refl k.walk.cursor ((effect_in_hand transacts met parts Nothing p wire new after k leads).0))

    same_wire : after ≡ wire
    same_wire = (effect_in_hand transacts met parts Nothing p wire new after k leads).1

    effect_by : (l : Link) (kind : WalkStep) (later : FrameHand) → ReadsAt parts p.walk l kind later → FrameEffect transacts parts p.walk Nothing wire after parts later kind
    effect_by l kind later ends_there = ends refl refl refl same_wire
    effect_by l kind later (a_queue a q here) = fetches refl (of_queue (record { at = a; queue = q; here = here; in_hand = refl })) refl same_wire
    effect_by l kind later (an_itd a v here) = fetches refl (of_itd (record { at = a; itd = v; here = here; in_hand = refl })) refl same_wire
    effect_by l kind later (a_sitd a v here) = fetches refl (of_sitd (record { at = a; sitd = v; here = here; in_hand = refl })) refl same_wire

    event : FrameHappens transacts met parts Nothing wire after p new (step_of p)
    event = record {
      now = parts;
      later = left.later;
      frame = record { tells = subst (λ (m : Mem). Tells m parts) (sym left.memory) k.tells; members = k.members; walk = left.walk };
      registers = ap base_of left.registers;
      effect = effect_by p.walk.cursor (step_of p) left.later left.reads;
    }

    read : LeavesRead parts p new (step_of p)
    read = record { later = left.later; reads = left.reads; in_hand = left.walk.held; cursor = left.cursor; memory = left.memory; registers = left.registers }

pub each_event_with_nothing_in_hand : {W : Type 0} (transacts : W → Ask → List ℕ → Reply → W → Type 0) (met : ℕ → Option Kind) (parts : StructureSets) (p : FramePlace) (wire : W) (new : FramePlace) (after : W) → IsFrame met parts Nothing p
    → AreBytesHeard transacts wire after → Leads transacts p wire new after → FrameHappens transacts met parts Nothing wire after p new (step_of p)
each_event_with_nothing_in_hand transacts met parts p wire new after k heard leads = event met parts p k transacts wire new after leads

pub cursor_is_read : {W : Type 0} (transacts : W → Ask → List ℕ → Reply → W → Type 0) (met : ℕ → Option Kind) (parts : StructureSets) (p : FramePlace) (wire : W) (new : FramePlace) (after : W) → IsFrame met parts Nothing p
    → Leads transacts p wire new after → LeavesRead parts p new (step_of p)
cursor_is_read transacts met parts p wire new after k leads = read met parts p k transacts wire new after leads

pub no_traversal_node_is_met : (met : ℕ → Option Kind) (parts : StructureSets) (p : FramePlace) (a : ℕ) → IsFrame met parts Nothing p → p.walk.cursor ≡ links.Fstn a → ⊥
no_traversal_node_is_met met parts p a k at = subst (LeadsTo met) at k.walk.cursor
