-- The streams of interrupt endpoints in the frames, event by event.
use Rattle.std.proofs.Common.{◌≡◌, ℕ, ◌==◌, Bool, true, false, if◌then◌else◌, List, [], ◌∷◌, Some, None, ap, refl, sym, subst, ◌∙◌}
use Rattle.std.proofs.lemmas.Bool.{eqb-true, false≢true}
use Rattle.std.proofs.lemmas.Option.{same_Some}
use Rattle.usb_base.specs.declared.packets.Pid.TheVariants.{Ack, Nyet}
use Rattle.usb_base.specs.declared.packets.Reply.TheVariants as replies
use Rattle.op_registers.specs.RegisterFile.{reset_file}
use Rattle.qh_qtd.specs.declared.qtd.Qtd.{Qtd}
use Rattle.qh_qtd.specs.declared.queue_head.Qh.{Qh}
use Rattle.hc_copy.specs.Overlay.{settled_queue, moved as moved_on}
use Rattle.async_walk.specs.declared.state.WalkStep.TheVariants as steps
use Rattle.periodic_walk.specs.Place.{FramePlace, place}
use Rattle.law_structures.proofs.lemmas.lent_structures.Altering.{found_queue, found_element}
use Rattle.law_structures.specs.lent_structures.Settles.{is_moved}
use Rattle.law_structures.specs.lent_structures.Structures.{StructureSets}
use Rattle.law_ring.specs.Hand.{Hand, Empty, Copied, Settled}
use Rattle.law_ring.specs.Effects.{buffer_of, Asks, came_to}
use Rattle.law_ring.specs.OutBus.{Takes, all_taken, all_dropped, took}
use Rattle.law_ring.specs.OutPipes.{IsNext, IsUnmoved, OutAgrees, level, ahead, ended as ended_pipe}
use Rattle.law_ring.specs.Streams.{StreamEffect}
use Rattle.law_ring.specs.Streams.StreamEffect.{same, aside, grows}
use Rattle.law_ring.specs.Told.{hand_bytes, Told, SameTold}
use Rattle.law_frames.specs.Met.{Kind, AQueue, IsMetQueue, IsMetAs}
use Rattle.law_frames.specs.FrameHand.{Nothing, OfQueue, OfSettled}
use Rattle.law_frames.specs.Frame.{IsFrame}
use Rattle.law_frames.specs.FrameEffects.{FrameEffect, writes, of_queue, was_missed}
use Rattle.law_frames.specs.FrameStreams.{IsIsoAsk}
use Rattle.law_frames.specs.Visits.{IsWrittenBack, back_of}
use Rattle.law_frames.specs.QueueVisitSamples.{met}
use Rattle.law_frames.specs.SplitSamples.{memory, parts, copy, started, waiting, ended, missed, hears, is_silent, completing}
use Rattle.law_frames.proofs.Telling.{frame_moves_streams}
use Rattle.law_frames.proofs.StreamSampled.{completes_so, streams_so, before_told, after_told}
use Rattle.law_frames.proofs.SplitSampled.{misses_it}
use Rattle.law_controller.specs.frame_control.Both.{BothEffect, of_frame}
use Rattle.law_controller.specs.frame_control.Joined.{joined, BothStreamEffect, moved}
use Rattle.law_controller.specs.frame_control.Samples.{steps_on}
use Rattle.example_frames.specs.StreamSamples.{in_frames, late, out_queue, out_element, out_part, out_copy, sent, as_interrupt, as_bulk, refused, acknowledged, moved_then, out_ask, none_taken, both_taken}

-- what is told is told once
told_once : (hand : Hand) (ps : StructureSets) (n e : ℕ) (xs ys : List ℕ) → Told hand ps n e xs → Told hand ps n e ys → xs ≡ ys
told_once hand ps n e xs ys one other =
    one.are
    ∙ ap (λ (q : Qh). hand_bytes hand n q e one.qtd (buffer_of (ps n) one.qtd))
    (found_queue (ps n n) one.queue other.queue one.head other.head)
    ∙ ap (λ (t : Qtd). hand_bytes hand n other.queue e t (buffer_of (ps n) t))
    (found_element (ps n e) one.qtd other.qtd one.here other.here)
    ∙ sym other.are

two_or_none : ◌≡◌ {A = List ℕ} [] (1 ∷ 2 ∷ []) → ⊥
two_or_none e = cc

module _ (v : IsWrittenBack met memory parts copy started) where
  -- ---- its complete-split

  pub completes_both : BothEffect steps_on hears v.now (in_frames completing) Empty (OfQueue waiting 0) 1 2 v.now Empty
      (OfSettled waiting ended 1)
  completes_both = of_frame (record { part = refl; kind = steps.Transact; effect = completes_so v; nothing = refl; hand_stays = refl })

  pub both_streams : BothStreamEffect steps_on (IsIsoAsk v.now) hears v.now (joined Empty (OfQueue waiting 0)) 1 2 v.now
      (joined Empty (OfSettled waiting ended 1))
  both_streams = moved (streams_so v)

  pub joined_before : Told (joined Empty (OfQueue waiting 0)) v.now 0 64 []
  joined_before = before_told v

  pub joined_after : Told (joined Empty (OfSettled waiting ended 1)) v.now 0 64 (1 ∷ 2 ∷ [])
  joined_after = after_told v

  pub tells_more : SameTold (joined Empty (OfQueue waiting 0)) v.now (joined Empty (OfSettled waiting ended 1)) v.now → ⊥
  tells_more same_told =
      two_or_none (told_once (joined Empty (OfSettled waiting ended 1)) v.now 0 64 [] (1 ∷ 2 ∷ [])
      (same_told.bytes 0 64 [] joined_before) joined_after)

  -- what is told without the copy
  read_before : Told (joined Empty Nothing) v.now 0 64 []
  read_before = record {
    queue = joined_before.queue;
    head = joined_before.head;
    qtd = joined_before.qtd;
    here = joined_before.here;
    are = joined_before.are;
  }

  pub let_go : SameTold (joined Empty (OfSettled waiting ended 1)) v.now (joined Empty Nothing) v.now → ⊥
  let_go same_told =
      two_or_none (told_once (joined Empty Nothing) v.now 0 64 [] (1 ∷ 2 ∷ []) read_before
      (same_told.bytes 0 64 (1 ∷ 2 ∷ []) joined_after))

  -- ---- a microframe was missed

  members_at : (b : Bool) (n : ℕ) (k : Kind) → (n == 0) ≡ b → (if b then Some AQueue else None) ≡ Some k → IsMetAs met n (v.now n) k
  members_at true n k is on =
      subst (λ (kind : Kind). IsMetAs met n (v.now n) kind) (same_Some AQueue k on)
      (subst (λ (i : ℕ). IsMetQueue met i (v.now i)) (sym (eqb-true n 0 is)) v.visit.met_is)
  members_at false n k is on = cc

  abbrev there : FramePlace
  there = place late reset_file (back_of copy started memory).memory

  frame_there : IsFrame met v.now (OfQueue waiting 0) there
  frame_there = record {
    tells = v.visit.tells;
    members = λ n k on. members_at (n == 0) n k refl on;
    walk = record { cursor = refl; held = refl; in_hand = v.visit.copied };
  }

  module _ (w : IsWrittenBack met (back_of copy started memory).memory v.now waiting missed) where
    misses_so : FrameEffect is_silent v.now late (OfQueue waiting 0) 1 1 w.now Nothing steps.WriteBack
    unfolding settled_queue moved_on
    misses_so = writes (of_queue (w.writes late (OfQueue waiting 0) 0 (was_missed refl misses_it refl))) refl

    pub misses_both : BothEffect steps_on is_silent v.now (in_frames late) Empty (OfQueue waiting 0) 1 1 w.now Empty Nothing
    misses_both = of_frame (record { part = refl; kind = steps.WriteBack; effect = misses_so; nothing = refl; hand_stays = refl })

    pub missed_same : SameTold (joined Empty (OfQueue waiting 0)) v.now (joined Empty Nothing) w.now
    missed_same =
        by (frame_moves_streams is_silent met v.now (OfQueue waiting 0) there 1 1 w.now Nothing steps.WriteBack frame_there misses_so)
      where
        none : (m : Asks is_silent v.now (Copied waiting) 1 1 Empty) → ⊥
        none m = let e : ◌≡◌ {A = Hand} Empty (Settled m.held (came_to m)) = m.later_is in cc

        by : StreamEffect (IsIsoAsk v.now) is_silent v.now (Copied waiting) 1 1 w.now Empty → SameTold (Copied waiting) v.now Empty w.now
        by (same told quiet) = told
        by (aside told ask out reply beside made) = told
        by (grows m all g) = absurd (none m)

-- ---- an OUT that is answered NYET

pub nyet_stays : is_moved (as_interrupt (replies.Hand Nyet)).outcome ≡ false
nyet_stays = refl

pub nyet_error : (as_interrupt (replies.Hand Nyet)).host.cerr ≡ 2
nyet_error = refl

pub nyet_goes_on : (as_interrupt (replies.Hand Nyet)).host.active ≡ true
nyet_goes_on = refl

pub nyet_toggle : (as_interrupt (replies.Hand Nyet)).host.toggle ≡ false
nyet_toggle = refl

pub nyet_in_a_ring : is_moved (as_bulk (replies.Hand Nyet)).outcome ≡ true
nyet_in_a_ring = refl

pub takes_it : Takes out_ask sent none_taken (replies.Hand Nyet) both_taken
takes_it = all_taken (replies.Hand Nyet) refl

its_packet : IsNext out_part out_queue sent
its_packet = record { element = out_element; here = refl; is = refl }

unmoved : IsUnmoved (Settled out_copy refused) 0
unmoved at = (nyet_stays, λ off. absurd (false≢true (sym off ∙ nyet_goes_on)))

pub ahead_by_it : OutAgrees out_part (Settled out_copy refused) 0 out_queue false [] both_taken
ahead_by_it = ahead sent refl refl refl refl its_packet unmoved

pub drops_it : Takes out_ask sent both_taken (replies.Hand Ack) both_taken
drops_it = all_dropped (replies.Hand Ack) (λ e. cc)

ack_toggle : acknowledged.host.toggle ≡ true
ack_toggle = refl

ack_bytes : moved_then ≡ sent
ack_bytes = refl

pub level_then : OutAgrees out_part (Settled out_copy acknowledged) 0 out_queue acknowledged.host.toggle
    moved_then both_taken
level_then = level (sym ack_toggle) (sym ack_bytes)

pub not_turned : OutAgrees out_part (Settled out_copy refused) 0 out_queue true [] both_taken → ⊥
not_turned (level e t) = cc
not_turned (ahead x e t own on next un) = cc
not_turned (ended_pipe x e t off halted) = cc

pub not_twice : OutAgrees out_part (Settled out_copy acknowledged) 0 out_queue true sent (took sent both_taken) → ⊥
not_twice (level e t) = cc
not_twice (ahead x e t own on next un) = cc
not_twice (ended_pipe x e t off halted) = cc
