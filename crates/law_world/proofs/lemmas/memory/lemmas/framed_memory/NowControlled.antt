-- Each event of the controller keeps a driver framed with what was unlinked in this microframe; where a microframe begins, nothing was.
use Rattle.std.proofs.Common.{◌≡◌, ℕ, Bool, List, Option, ap, refl, sym, subst, ◌∙◌, inl}
use Rattle.law_controller.proofs.Common.{over_not_periodic}
use Rattle.law_frames.proofs.Common.{none_some}
use Rattle.law_world.proofs.Common.{begins_over}
use Rattle.usb_base.specs.declared.packets.Ask.{Ask}
use Rattle.usb_base.specs.declared.packets.Reply.{Reply}
use Rattle.op_registers.specs.Events.{next_index}
use Rattle.hc_core.specs.declared.controller.MicroframePart.TheVariants.{Over}
use Rattle.hc_core.specs.declared.controller.ControllerRow.{ControllerRow}
use Rattle.hc_core.specs.declared.controller.ControllerRow.TheVariants as events
use Rattle.hc_core.specs.Controller.{Content, microframe_row, entered, began, frame_place, walk_place, HasRow}
use Rattle.drv_table.specs.DriverContent.{DriverContent}
use Rattle.claims_driver.specs.Owners.{views_of}
use Rattle.law_structures.specs.lent_structures.Structures.{StructureSets}
use Rattle.law_ring.specs.Hand.{Hand}
use Rattle.claims_base.specs.Controller.{Base}
use Rattle.law_controller.specs.controlled_streams.Control.{a_microframe}
use Rattle.law_driver_ring.proofs.Sorts.{driven_same}
use Rattle.law_frames.specs.Met.{Kind}
use Rattle.law_frames.specs.FrameHand.{FrameHand, Nothing}
use Rattle.law_controller.specs.frame_control.Both.{RunsBoth, of_ring}
use Rattle.law_descriptors.proofs.lemmas.frame_keeps.Keeping.{parts_itself}
use Rattle.law_descriptors.specs.Both.{both, parts_now}
use Rattle.law_descriptors.specs.PartLaws.{AreStill}
use Rattle.law_descriptors.specs.Meeting.{no_recent, met}
use Rattle.law_descriptors.specs.Recent.{AreRecent}
use Rattle.law_descriptors.proofs.Closing.{begin_meets_members}
use Rattle.law_descriptors.proofs.Stays.{described_stay}
use Rattle.law_descriptors.proofs.lemmas.list_beside.Describing.{described_are_kept}
use Rattle.law_world.specs.memory.framed_memory.Framed.{FramedAfter}
use Rattle.law_world.specs.memory.framed_memory.Now.{IsFramedNow, recent_then, FramedNowAfter, ControllerKeepsNow}
use Rattle.law_world.proofs.lemmas.memory.lemmas.framed_memory.Framing.{stay_in_runs, controller_keeps_framed}
use Rattle.law_world.proofs.lemmas.memory.lemmas.framed_memory.Index.{ring_index, frame_index}
use Rattle.law_world.proofs.lemmas.memory.lemmas.framed_memory.Now.{now_has_frames, begins_there}

-- ---- it begins where it is over

module _ {W : Type 0} (begins : W → ℕ → Bool → W → Type 0) (transacts : W → Ask → List ℕ → Reply → W → Type 0) (base : Base) (member : ℕ → Bool) (recent : ℕ → Option Kind) (descs parts : StructureSets) (hand : Hand) (frame : FrameHand) (c : Content)
    (d : DriverContent) (wire : W) (new : Content) (after : W) (k : IsFramedNow base member recent descs parts hand frame c d) (after_it : FramedAfter begins transacts base member (met d recent) descs parts hand frame c d wire after new) where
  abbrev Kept : (ℕ → Option Kind) → Type 0
  Kept to_be = FramedNowAfter begins transacts base member to_be descs parts hand frame c d wire after new

  -- FRINDEX stays
  kept_at : new.registers.frame_index ≡ c.registers.frame_index → Kept recent
  kept_at same = record {
    now = after_it.event.now;
    later = after_it.event.later;
    frame_later = after_it.event.frame_later;
    effect = after_it.event.effect;
    framed = record {
      framed = after_it.framed;
      recent_are = λ n kind is. subst (λ (i : ℕ). AreRecent d i recent) (sym same) k.recent_are n kind is;
      apart = k.apart;
      chained = k.chained;
      queued = k.queued;
      planned = k.planned;
      in_frames = k.in_frames;
    };
  }

  -- a microframe begins
  kept_begun : c.control.part ≡ Over → HasRow begins transacts events.Begin c wire new after → Kept no_recent
  kept_begun over row =
      let all : StructureSets = both descs parts in
      let f = after_it.framed in
      let still : AreStill (views_of d) descs parts all = described_stay (views_of d) descs parts all k.framed.described (described_are_kept all all (parts_itself all all refl)) in
      let runs : RunsBoth base member (met d no_recent) all hand Nothing (began row.allowed c)
      = begin_meets_members base member recent all hand frame c d row.allowed k.framed.runs over (now_has_frames base member recent descs parts hand frame c d k)
      (begins_there base member recent descs parts hand frame c d k) in
      record {
        now = all;
        later = hand;
        frame_later = Nothing;
        effect = of_ring (a_microframe (record {
          index = next_index c.registers.frame_index;
          allowed = row.allowed;
          asked =
              row.asked;
          parts_stay = refl;
          hand_stays = refl;
        }))
            (k.framed.runs.outside (inl (λ same. over_not_periodic (sym over ∙ same))), refl);
        framed = record {
          framed = record {
            operating = f.operating;
            start = f.start;
            aligned = f.aligned;
            runs = subst (λ (ps : StructureSets). RunsBoth base member (met d no_recent) ps hand Nothing new) still.same
                (subst (RunsBoth base member (met d no_recent) all hand Nothing) (sym row.contents) runs);
            place = f.place;
            list = f.list;
            driven = driven_same (views_of d) parts (parts_now descs parts all) still.sorts k.framed.driven;
            described = still.described;
            extents = stay_in_runs (views_of d) parts (parts_now descs parts all) still.extents k.framed.extents;
          };
          recent_are = λ n kind is. absurd (none_some kind is);
          apart = λ n kind is. absurd (none_some kind is);
          chained = k.chained;
          queued = k.queued;
          planned = k.planned;
          in_frames = k.in_frames;
        };
      }

  by_event : (row : ControllerRow) → microframe_row c.registers c.control ≡ row → HasRow begins transacts row c wire new after → Kept (recent_then row recent)
  by_event events.Begin is row = kept_begun (begins_over c.registers.run c.registers c.control.frame c.control.part is) row
  by_event events.Frame is row = kept_at (frame_index transacts (frame_place c) wire (frame_place new) after row.walked)
  by_event events.Enter is row = kept_at (ring_index transacts (walk_place (entered c)) wire (walk_place new) after row.walked)
  by_event events.Go is row = kept_at (ring_index transacts (walk_place c) wire (walk_place new) after row.walked)
  by_event _ is row = kept_at (ap (λ (x : Content). x.registers.frame_index) row.0)

pub controller_keeps_now : {W : Type 0} (begins : W → ℕ → Bool → W → Type 0) (transacts : W → Ask → List ℕ → Reply → W → Type 0) → ControllerKeepsNow begins transacts
controller_keeps_now begins transacts base member recent descs parts hand frame c d wire new after k heard row =
    by_event begins transacts base member recent descs parts hand frame c d wire new after k
    (controller_keeps_framed begins transacts base member (met d recent) descs parts hand frame c d wire new after k.framed heard row) (microframe_row c.registers c.control) refl row
