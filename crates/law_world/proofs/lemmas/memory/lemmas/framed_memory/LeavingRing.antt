-- Just those queue heads are of the ring any more that its walk may reach.
use Rattle.std.proofs.Common.{ap, sym, ◌∙◌}
use Rattle.std.proofs.lemmas.Bool.{true≢false, false_from_ne_true}
use Rattle.claims_driver.specs.Walk.{IsWalkIn}
use Rattle.law_driver_ring.proofs.lemmas.walk_members.Driving.{the_driver_leaves_the_walk}
use Rattle.law_queues.proofs.lemmas.reached_rings.Narrowing.{narrow_ring}
use Rattle.hc_core.specs.Controller.{walk_place}
use Rattle.law_queues.specs.shared_memory.Shared.{parts_of, next_parts, after_driver}
use Rattle.law_descriptors.specs.Both.{both}
use Rattle.law_world.specs.memory.framed_memory.Now.{FramedNext, reads_alone}
use Rattle.law_world.proofs.lemmas.memory.lemmas.framed_memory.Now.{registers_keep_now}
use Rattle.law_world.specs.memory.framed_memory.Leaving.{NarrowKeepsNow, ClearNarrowsNow}

pub narrow_keeps_now : NarrowKeepsNow
narrow_keeps_now base member narrow recent descs parts hand frame c d k walk fewer are =
    let runs = k.framed.runs in
    record {
      framed = record {
        operating = k.framed.operating;
        start = k.framed.start;
        aligned = k.framed.aligned;
        runs = record {
          ring = narrow_ring base member narrow (both descs parts) hand (walk_place c) d runs.ring k.framed.place.sound.ring walk fewer are;
          between = runs.between;
          list = runs.list;
          elements = runs.elements;
          members = runs.members;
          apart = λ n kind on. false_from_ne_true (narrow n) (λ is. true≢false (sym (fewer n is) ∙ runs.apart n kind on));
          walk = runs.walk;
          outside = runs.outside;
        };
        place = k.framed.place;
        list = k.framed.list;
        driven = k.framed.driven;
        described = k.framed.described;
        extents = k.framed.extents;
      };
      recent_are = k.recent_are;
      apart = k.apart;
      chained = k.chained;
      queued = k.queued;
      planned = k.planned;
      in_frames = k.in_frames;
    }

pub clear_narrows_now : ClearNarrowsNow
clear_narrows_now base member narrow recent descs parts hand frame c d k is walk bell fewer are =
    let then : FramedNext base member recent descs parts hand frame c d = registers_keep_now base member recent descs parts hand frame c d k (ap reads_alone is) in
    let walks : IsWalkIn (next_parts c d).driver (next_parts c d).registers c.control.walk = the_driver_leaves_the_walk (parts_of c d) c.control.walk bell walk in
    narrow_keeps_now base member narrow recent descs parts hand frame (after_driver c d) (next_parts c d).driver then walks fewer are
