-- What is told of the worked split transaction, event by event.
use Rattle.std.proofs.Common.{◌≡◌, ℕ, ◌<◌, ◌==◌, Bool, true, false, if◌then◌else◌, List, [], ◌∷◌, ◌++◌, Option, Some, None, ap, refl, sym, subst, ◌∙◌, arith}
use Rattle.std.proofs.lemmas.Bool.{eqb-true}
use Rattle.std.proofs.lemmas.Option.{same_Some}
use Rattle.usb_base.specs.declared.packets.Ask.{Ask}
use Rattle.usb_base.specs.declared.packets.Reply.{Reply}
use Rattle.op_registers.specs.RegisterFile.{reset_file}
use Rattle.qh_qtd.specs.declared.qtd.Qtd.{Qtd}
use Rattle.qh_qtd.specs.declared.queue_head.Qh.{Qh}
use Rattle.hc_masks.specs.Masks.{lacks}
use Rattle.hc_copy.specs.Overlay.{settled_queue, moved}
use Rattle.hc_interrupt.specs.declared.turns.Turn.TheVariants as turns
use Rattle.hc_interrupt.specs.Turns.{turn_of, planned}
use Rattle.hc_interrupt.specs.Copies.{with_split}
use Rattle.async_walk.specs.declared.state.WalkStep.TheVariants as steps
use Rattle.periodic_walk.specs.Place.{FramePlace, place}
use Rattle.law_structures.specs.lent_structures.Structures.{QueueHead, Element, StructureSets}
use Rattle.law_structures.specs.lent_structures.StructureSamples.{element}
use Rattle.law_structures.proofs.lemmas.lent_structures.Altering.{found_queue, found_element}
use Rattle.law_ring.specs.Hand.{Copy, Settlement, Hand, Empty, Copied, Settled}
use Rattle.law_ring.specs.Effects.{buffer_of, Asks, came_to}
use Rattle.law_ring.specs.Told.{hand_bytes, told_bytes, Told, SameTold}
use Rattle.law_ring.specs.Streams.{moved_bytes, Grows, StreamEffect}
use Rattle.law_ring.specs.Streams.StreamEffect.{same, aside, grows}
use Rattle.law_ring.proofs.Growing.{asked_grows}
use Rattle.law_frames.specs.Met.{Kind, AQueue, IsMetQueue, IsMetAs}
use Rattle.law_frames.specs.FrameHand.{Nothing, OfQueue, OfSettled, came, queue_hand}
use Rattle.law_frames.specs.Frame.{IsFrame}
use Rattle.law_frames.specs.FrameEffects.{AreOut, MakesOfQueue, FrameEffect, makes, writes, of_queue, was_worked}
use Rattle.law_frames.specs.FrameStreams.{IsIsoAsk}
use Rattle.law_frames.specs.Visits.{IsWrittenBack, back_of}
use Rattle.law_frames.specs.QueueVisitSamples.{met}
use Rattle.law_frames.specs.SplitSamples.{split_queue, memory, parts, copy, started, waiting, heard, ended, begun, is_silent, hears, completing}
use Rattle.law_frames.proofs.Telling.{same_copy, asked, frame_moves_streams}
use Rattle.law_frames.proofs.SplitSampled.{after_it}

-- ---- what is told is told once

told_once : (hand : Hand) (parts : StructureSets) (n e : ℕ) (xs ys : List ℕ) → Told hand parts n e xs → Told hand parts n e ys → xs ≡ ys
told_once hand parts n e xs ys one other =
    one.are
    ∙ ap (λ (q : Qh). hand_bytes hand n q e one.qtd (buffer_of (parts n) one.qtd))
    (found_queue (parts n n) one.queue other.queue one.head other.head)
    ∙ ap (λ (t : Qtd). hand_bytes hand n other.queue e t (buffer_of (parts n) t))
    (found_element (parts n e) one.qtd other.qtd one.here other.here)
    ∙ sym other.are

-- an event that begins with a settled copy tells nothing otherwise
told_still : {W : Type 0} (Beside : Ask → Type 0) (transacts : W → Ask → List ℕ → Reply → W → Type 0) (parts : StructureSets)
    (hand : Hand) (wire after : W) (now : StructureSets) (later : Hand) → ((m : Asks transacts parts hand wire after later) → ⊥)
    → StreamEffect Beside transacts parts hand wire after now later → SameTold hand parts later now
told_still Beside transacts parts hand wire after now later none (same told quiet) = told
told_still Beside transacts parts hand wire after now later none (aside told ask out reply beside made) = told
told_still Beside transacts parts hand wire after now later none (grows m all g) = absurd (none m)

-- ---- its start-split

pub settled_told : Told (queue_hand (OfSettled copy started 1)) parts 0 64 []
unfolding settled_queue moved with_split
settled_told = record { queue = split_queue; head = refl; qtd = element; here = refl; are = refl }

-- ---- its complete-split moves two bytes

abbrev settled_as : Hand → Settlement → Settlement
settled_as (Settled c z) other = z
settled_as _ other = other

same_settled : (c d : Copy) (y z : Settlement) → Settled c y ≡ Settled d z → y ≡ z
same_settled c d y z e = ap (λ (h : Hand). settled_as h y) e

moved_is : (t : Qtd) (bs : List ℕ) → moved_bytes waiting.queue t (came ended) bs ≡ 1 ∷ 2 ∷ []
unfolding settled_queue moved with_split
moved_is t bs = refl

moved_as : (c : Copy) (z : Settlement) (t : Qtd) (bs : List ℕ) → c ≡ waiting → z ≡ came ended → moved_bytes c.queue t z bs ≡ 1 ∷ 2 ∷ []
moved_as c z t bs is comes =
    ap (λ (y : Settlement). moved_bytes c.queue t y bs) comes ∙ ap (λ (d : Copy). moved_bytes d.queue t (came ended) bs) is ∙ moved_is t bs

module _ (v : IsWrittenBack met memory parts copy started) where
  starts_back : FrameEffect is_silent parts begun.walk (OfSettled copy started 1) 1 1 v.now Nothing steps.WriteBack
  unfolding settled_queue with_split
  starts_back = writes (of_queue (v.writes begun.walk (OfSettled copy started 1) 1 (was_worked refl))) refl

  no_transaction : (m : Asks is_silent parts (queue_hand (OfSettled copy started 1)) 1 1 (queue_hand Nothing)) → ⊥
  no_transaction m = let e : ◌≡◌ {A = Hand} (queue_hand (OfSettled copy started 1)) (Copied m.copy) = m.in_hand in cc

  pub written_told : Told (queue_hand Nothing) v.now 0 64 []
  written_told =
      (told_still (IsIsoAsk parts) is_silent parts (queue_hand (OfSettled copy started 1)) 1 1 v.now (queue_hand Nothing) no_transaction
      (frame_moves_streams is_silent met parts (OfSettled copy started 1) begun 1 1 v.now Nothing steps.WriteBack after_it
      starts_back)).bytes 0
      64 [] settled_told

  -- ---- its complete-split

  pub before_told : Told (queue_hand (OfQueue waiting 0)) v.now 0 64 []
  before_told = record {
    queue = written_told.queue;
    head = written_told.head;
    qtd = written_told.qtd;
    here = written_told.here;
    are =
        written_told.are;
  }

  waiting_active : waiting.queue.token.active ≡ true
  unfolding settled_queue moved with_split
  waiting_active = refl

  none_out : 0 ≡ (planned waiting.queue).bytes
  unfolding settled_queue moved with_split
  none_out = refl

  works_now : turn_of 42 waiting.queue ≡ turns.Work
  unfolding settled_queue moved with_split lacks
  works_now = refl

  completed : MakesOfQueue hears v.now completing (OfQueue waiting 0) 1 2 (OfSettled waiting ended 1)
  completed = record {
    copy = waiting;
    made = 0;
    in_hand = refl;
    works = waiting_active;
    turn = works_now;
    out = [];
    sent = record { count = none_out; are = λ some. absurd (let none = none_out in omega (arith, some, none)) };
    reply = heard;
    asked = (refl, refl);
    later_is = refl;
  }

  pub completes_so : FrameEffect hears v.now completing (OfQueue waiting 0) 1 2 v.now (OfSettled waiting ended 1) steps.Transact
  completes_so = makes (of_queue completed) refl

  members_at : (b : Bool) (n : ℕ) (k : Kind) → (n == 0) ≡ b → (if b then Some AQueue else None) ≡ Some k → IsMetAs met n (v.now n) k
  members_at true n k is on =
      subst (λ (kind : Kind). IsMetAs met n (v.now n) kind) (same_Some AQueue k on)
      (subst (λ (i : ℕ). IsMetQueue met i (v.now i)) (sym (eqb-true n 0 is)) v.visit.met_is)
  members_at false n k is on = cc

  abbrev there : FramePlace
  there = place completing reset_file (back_of copy started memory).memory

  frame_there : IsFrame met v.now (OfQueue waiting 0) there
  frame_there = record {
    tells = v.visit.tells;
    members = λ n k on. members_at (n == 0) n k refl on;
    walk =
        record { cursor = refl; held = refl; in_hand = v.visit.copied };
  }

  pub streams_so : StreamEffect (IsIsoAsk v.now) hears v.now (queue_hand (OfQueue waiting 0)) 1 2 v.now
      (queue_hand (OfSettled waiting ended 1))
  streams_so = frame_moves_streams hears met v.now (OfQueue waiting 0) there 1 2 v.now
      (OfSettled waiting ended 1) steps.Transact frame_there completes_so

  abbrev asks : Asks hears v.now (queue_hand (OfQueue waiting 0)) 1 2 (queue_hand (OfSettled waiting ended 1))
  asks = asked hears met v.now (OfQueue waiting 0) there 1 2 v.now (OfSettled waiting ended 1) frame_there completed

  current_is : waiting.queue.current ≡ 64
  unfolding settled_queue moved with_split
  current_is = refl

  grown : Grows (queue_hand (OfQueue waiting 0)) v.now (queue_hand (OfSettled waiting ended 1)) asks.copy (came_to asks) asks.sent.element
  grown = asked_grows hears v.now (queue_hand (OfQueue waiting 0)) 1 2 (queue_hand (OfSettled waiting ended 1)) asks

  copy_is : asks.copy ≡ waiting
  copy_is = sym (same_copy waiting asks.copy asks.in_hand)

  came_is : came_to asks ≡ came ended
  came_is = sym (same_settled waiting asks.held (came ended) (came_to asks) asks.later_is)

  told_at_copy : Told (queue_hand (OfQueue waiting 0)) v.now waiting.at waiting.queue.current []
  told_at_copy = subst (λ (e : ℕ). Told (queue_hand (OfQueue waiting 0)) v.now 0 e []) (sym current_is) before_told

  grown_by : Told (queue_hand (OfSettled waiting ended 1)) v.now asks.copy.at asks.copy.queue.current
      (moved_bytes asks.copy.queue asks.sent.element (came_to asks) (buffer_of (v.now asks.copy.at) asks.sent.element))
  grown_by = grown.bytes []
      (subst (λ (c : Copy). Told (queue_hand (OfQueue waiting 0)) v.now c.at c.queue.current []) (sym copy_is) told_at_copy)

  pub after_told : Told (queue_hand (OfSettled waiting ended 1)) v.now 0 64 (1 ∷ 2 ∷ [])
  after_told =
      subst (λ (e : ℕ). Told (queue_hand (OfSettled waiting ended 1)) v.now 0 e (1 ∷ 2 ∷ [])) current_is
      (subst (λ (c : Copy). Told (queue_hand (OfSettled waiting ended 1)) v.now c.at c.queue.current (1 ∷ 2 ∷ [])) copy_is
      (subst (Told (queue_hand (OfSettled waiting ended 1)) v.now asks.copy.at asks.copy.queue.current)
      (moved_as asks.copy (came_to asks) asks.sent.element (buffer_of (v.now asks.copy.at) asks.sent.element) copy_is came_is) grown_by))

  -- ---- it is let go

  pub let_go : Told (queue_hand Nothing) v.now 0 64 (1 ∷ 2 ∷ []) → ⊥
  let_go told = let e : ◌≡◌ {A = List ℕ} [] (1 ∷ 2 ∷ []) = told_once (queue_hand Nothing) v.now 0 64 [] (1 ∷ 2 ∷ []) written_told told in cc
