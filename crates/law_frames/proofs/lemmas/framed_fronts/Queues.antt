-- What an event of the walk of the frames is to the queue of one queue head: none, or it takes a qTD, or one of its transactions is written back.
use Rattle.std.proofs.Common.{◌≡◌, ◌≢◌, ℕ, true, false, if◌then◌else◌, List, Option, Some, ap, refl, sym, subst, ◌∙◌, ⊎_elim}
use Rattle.std.proofs.lemmas.Bool.{cases_eq}
use Rattle.law_ring.proofs.Common.{through_head, through_bytes}
use Rattle.law_frames.proofs.Common.{no_itd, no_sitd}
use Rattle.usb_base.specs.declared.packets.Ask.{Ask}
use Rattle.usb_base.specs.declared.packets.Reply.{Reply}
use Rattle.link_words.specs.declared.kinds.QtdLink.TheVariants as qtd_links
use Rattle.link_words.specs.Links.{qtd_link_of}
use Rattle.qh_qtd.specs.declared.qtd.Qtd.{Qtd}
use Rattle.qh_qtd.specs.declared.queue_head.Qh.{Qh}
use Rattle.hc_copy.specs.Overlay.{advanced, moved}
use Rattle.hc_copy.specs.Visits.{next_pointer}
use Rattle.hc_copy.specs.WriteBack.{moved_by}
use Rattle.hc_iso.specs.WriteBack.{sitd_received, moved_by as sitd_moved_by}
use Rattle.async_walk.specs.declared.state.WalkStep.{WalkStep}
use Rattle.periodic_walk.specs.Walk.{Walk}
use Rattle.law_structures.specs.lent_structures.Structures.{QueueHead, Element, Isochronous, SplitIsochronous, Structures, StructureSets, put}
use Rattle.law_structures.proofs.lemmas.lent_structures.Names.{put_here, put_same, put_else, put_beside, put_found}
use Rattle.law_structures.specs.lent_structures.WriteBack.{CanBeWritten, Received, received_parts, qtd_after, parts_back}
use Rattle.law_structures.proofs.lemmas.lent_structures.Found.{received_beside, back_beside, back_head, back_element, back_other_element}
use Rattle.law_structures.specs.lent_structures.Sound.{IsWorking, IsSoundQueue}
use Rattle.law_structures.specs.lent_structures.Alters.{Alters}
use Rattle.law_structures.proofs.lemmas.lent_structures.Altering.{found_queue, found_element, no_two, unaltered, a_queue_head_alters_nothing}
use Rattle.law_ring.specs.Hand.{Hand, Empty, Copied, Settled, Stale}
use Rattle.law_ring.specs.Effects.{received_into, Takes}
use Rattle.law_frames.specs.Met.{Kind, AQueue, IsMetQueue}
use Rattle.law_frames.specs.FrameHand.{settled_in, SitdCopy, FrameHand}
use Rattle.law_frames.specs.Frame.{IsQueueSettled, IsCopiedQueue, IsCopiedItd, IsCopiedSitd, IsInFrame}
use Rattle.law_frames.specs.FrameEffects.{IsWrittenFrom, made as was_made, missed as was_missed, queue_written, itd_back, sitd_back, WritesQueue, WritesOne, of_queue, of_itd, of_sitd, TakesOne, FrameEffect, fetches, passes, ends, makes, takes, writes}
use Rattle.law_frames.proofs.QueueBacks.{settled_facts, settled_range, written_facts, hand_is_settled, back_alters}
use Rattle.law_frames.specs.framed_fronts.FrameFronts.{AreMet}

-- ---- the events of one queue

-- the queue head takes the qTD that it leads to
pub record Advances (n : ℕ) (part now : Structures) : Type 0 where
  pub queue : Qh
  pub here : part n ≡ Some (QueueHead queue)
  pub idle : queue.token.active ≡ false
  pub goes_on : queue.token.halted ≡ false
  pub element : ℕ
  pub leads : qtd_link_of (next_pointer queue) ≡ qtd_links.To element
  pub new : Qh
  pub head_now : now n ≡ Some (QueueHead new)
  pub works : new.token.active ≡ true
  pub current : new.current ≡ element
  pub still : (a : ℕ) (u : Qtd) → part a ≡ Some (Element u) → now a ≡ Some (Element u)
  pub before : (a : ℕ) (u : Qtd) → now a ≡ Some (Element u) → part a ≡ Some (Element u)

-- the qTD has the token of the overlay where this isn't active any more
abbrev pub left_by : Qh → Qtd → Qtd
left_by q t = if q.token.active then t else record t { token = q.token }

-- the queue head, which works on the qTD, is written back
pub record Settles (n : ℕ) (part now : Structures) : Type 0 where
  pub queue : Qh
  pub here : part n ≡ Some (QueueHead queue)
  pub works : queue.token.active ≡ true
  pub goes_on : queue.token.halted ≡ false
  pub element : Qtd
  pub there : part queue.current ≡ Some (Element element)
  pub published : element.token.active ≡ true
  pub new : Qh
  pub head_now : now n ≡ Some (QueueHead new)
  pub current : new.current ≡ queue.current
  pub next : new.next ≡ element.next
  pub alternate : new.alternate ≡ element.alternate
  pub written : now queue.current ≡ Some (Element (left_by new element))
  pub still : (a : ℕ) (u : Qtd) → part a ≡ Some (Element u) → a ≢ queue.current → now a ≡ Some (Element u)
  pub before : (a : ℕ) (u : Qtd) → now a ≡ Some (Element u) → a ≢ queue.current → part a ≡ Some (Element u)

pub data QueueEvent (n : ℕ) (part now : Structures) : Type 0 where
  stays : now ≡ part → QueueEvent n part now
  advances : Advances n part now → QueueEvent n part now
  settles : Settles n part now → QueueEvent n part now

pub record HasEvent (n : ℕ) (part now : Structures) : Type 0 where
  pub event : QueueEvent n part now
  pub alters : Alters part now

same_part : (n : ℕ) (part now : Structures) → now ≡ part → HasEvent n part now
same_part n part now same = record { event = stays same; alters = subst (Alters part) (sym same) (unaltered part) }

-- ---- a qTD is taken

-- the queue head that a copy was made of stands there yet
abbrev IsThere : StructureSets → Hand → Type 0
IsThere parts Empty = Unit {0}
IsThere parts (Copied c) = parts c.at c.at ≡ Some (QueueHead c.queue)
IsThere parts (Settled c s) = Unit {0}
IsThere parts (Stale n q) = Unit {0}

advanced_is : (q : Qh) (a : ℕ) (t : Qtd) → ((advanced q a t).token.active ≡ t.token.active) × ((advanced q a t).current ≡ a)
unfolding advanced
advanced_is q a t = (refl, refl)

module _ (parts : StructureSets) (hand later : Hand) (now : StructureSets) (n : ℕ) (t : Takes parts hand now later) (there : parts t.copy.at t.copy.at ≡ Some (QueueHead t.copy.queue)) where
  abbrev new : Qh
  new = advanced t.copy.queue t.element t.qtd

  abbrev put_now : StructureSets
  put_now = put parts t.copy.at t.copy.at (QueueHead new)

  taken_at : n ≡ t.copy.at → HasEvent n (parts n) (now n)
  taken_at is =
      let now_at : now n ≡ put_now n = ap (λ (ps : StructureSets). ps n) t.now_is in
      record {
        event = advances (record {
          queue = t.copy.queue;
          here = ap (λ (i : ℕ). parts i i) is ∙ there;
          idle = t.idle;
          goes_on = t.goes_on;
          element = t.element;
          leads = t.leads;
          new = new;
          head_now = ap (λ (ps : StructureSets). ps n n) t.now_is ∙ ap (λ (i : ℕ). put_now i i) is ∙ put_same parts t.copy.at t.copy.at (QueueHead new);
          works = (advanced_is t.copy.queue t.element t.qtd).0 ∙ t.published;
          current = (advanced_is t.copy.queue t.element t.qtd).1;
          still = λ a u here.
              ap (λ (ps : StructureSets). ps n a) t.now_is ∙ ap (λ (i : ℕ). put_now i a) is
              ∙ put_else parts t.copy.at t.copy.at (QueueHead new) a (no_two (parts t.copy.at) a t.copy.at (Element u) (QueueHead t.copy.queue) (ap (λ (i : ℕ). parts i a) (sym is) ∙ here) there (λ e. cc))
              ∙ ap (λ (i : ℕ). parts i a) (sym is) ∙ here;
          before = λ a u found. through_head parts t.copy.at new n a u (sym (ap (λ (ps : StructureSets). ps n a) t.now_is) ∙ found);
        });
        alters = subst (Alters (parts n)) (sym now_at)
            (subst (λ (i : ℕ). Alters (parts i) (put_now i)) (sym is)
            (subst (Alters (parts t.copy.at)) (sym (put_here parts t.copy.at t.copy.at (QueueHead new))) (a_queue_head_alters_nothing (parts t.copy.at) t.copy.at t.copy.queue new there)));
      }

  taken_so : HasEvent n (parts n) (now n)
  taken_so =
      ⊎_elim taken_at
      (λ (differs : n ≢ t.copy.at). same_part n (parts n) (now n) (ap (λ (ps : StructureSets). ps n) t.now_is ∙ put_beside parts t.copy.at t.copy.at (QueueHead new) n differs)) (cases_eq n t.copy.at)

-- ---- a transaction is written back

module _ (parts : StructureSets) (walk : Walk) (hand : FrameHand) (now : StructureSets) (later : FrameHand) (n : ℕ) (reply : Reply) (w : WritesQueue parts walk hand now later) (here : parts w.copy.at w.copy.at ≡ Some (QueueHead w.copy.queue)) (works : IsWorking (parts w.copy.at) w.copy.queue) (is_settled : IsQueueSettled w.copy.queue reply w.settled) where
  abbrev received : Received
  received = received_into (parts w.copy.at) w.copy.queue w.element w.settled.got

  abbrev settled_head : Qh
  settled_head = settled_in w.copy w.settled

  abbrev all : StructureSets
  all = parts_back parts w.copy.at w.copy.at w.copy.queue settled_head (moved_by w.settled.outcome) w.settled.got received w.element

  abbrev new_head : Qh
  new_head = queue_written w.copy w.settled

  current_is : settled_head.current ≡ w.copy.queue.current
  current_is = (settled_facts w.copy w.settled).current

  -- the qTD as it then stands
  abbrev element_now : Qtd
  element_now = qtd_after (moved settled_head (moved_by w.settled.outcome)) w.element

  element_is : works.element ≡ w.element
  element_is = found_element (parts w.copy.at w.copy.queue.current) works.element w.element works.here w.here

  module _ (can : CanBeWritten parts w.copy.at w.copy.at w.copy.queue settled_head w.settled.got received w.element) where
    before_at : n ≡ w.copy.at → (a : ℕ) (u : Qtd) → now n a ≡ Some (Element u) → a ≢ w.copy.queue.current → parts n a ≡ Some (Element u)
    before_at is a u found differs =
        let first : StructureSets = received_parts parts w.copy.at w.settled.got received in
        let mid : StructureSets = put first w.copy.at w.copy.at (QueueHead new_head) in
        ⊎_elim (λ (last : (n ≡ w.copy.at) × (a ≡ settled_head.current) × (Element u ≡ Element element_now)). absurd (differs (last.1 ∙ current_is)))
        (λ (there : mid n a ≡ Some (Element u)). through_bytes parts w.copy.at w.settled.got received n a u (through_head first w.copy.at new_head n a u there))
        (put_found mid w.copy.at settled_head.current (Element element_now) n a (Element u) (sym (ap (λ (ps : StructureSets). ps n a) w.now_is) ∙ found))

    written_at : n ≡ w.copy.at → HasEvent n (parts n) (now n)
    written_at is =
        let now_at : (a : ℕ) → now n a ≡ all w.copy.at a = λ a. ap (λ (ps : StructureSets). ps n a) w.now_is ∙ ap (λ (i : ℕ). all i a) is in
        let v = written_facts w.copy w.settled in
        record {
          event = settles (record {
            queue = w.copy.queue;
            here = ap (λ (i : ℕ). parts i i) is ∙ here;
            works = is_settled.came_to.works;
            goes_on = works.goes_on;
            element = w.element;
            there = ap (λ (i : ℕ). parts i w.copy.queue.current) is ∙ w.here;
            published = ap (λ (t : Qtd). t.token.active) (sym element_is) ∙ works.published;
            new = new_head;
            head_now = now_at n ∙ ap (all w.copy.at) is ∙ back_head parts w.copy.at w.copy.at w.copy.queue settled_head (moved_by w.settled.outcome) w.settled.got received w.element can;
            current = v.current;
            next = v.next ∙ works.next ∙ ap (λ (t : Qtd). t.next) element_is;
            alternate = v.alternate ∙ works.alternate ∙ ap (λ (t : Qtd). t.alternate) element_is;
            written = now_at w.copy.queue.current ∙ ap (all w.copy.at) (sym current_is) ∙ back_element parts w.copy.at w.copy.at w.copy.queue settled_head (moved_by w.settled.outcome) w.settled.got received w.element;
            still = λ a u there differs.
                now_at a
                ∙ back_other_element parts w.copy.at w.copy.at w.copy.queue settled_head (moved_by w.settled.outcome) w.settled.got received w.element a u can (ap (λ (i : ℕ). parts i a) (sym is) ∙ there) (λ same. differs (same ∙ current_is));
            before = before_at is;
          });
          alters = subst (λ (ps : StructureSets). Alters (parts n) (ps n)) (sym w.now_is) (subst (λ (i : ℕ). Alters (parts i) (all i)) (sym is) (back_alters parts w.copy.at w.copy.queue settled_head (moved_by w.settled.outcome) w.settled.got received w.element can));
        }

    written_so : HasEvent n (parts n) (now n)
    written_so =
        ⊎_elim written_at
        (λ (differs : n ≢ w.copy.at). same_part n (parts n) (now n) (ap (λ (ps : StructureSets). ps n) w.now_is ∙ back_beside parts w.copy.at w.copy.at w.copy.queue settled_head (moved_by w.settled.outcome) w.settled.got received w.element n differs)) (cases_eq n w.copy.at)

-- ---- the event

written_from : (w : Walk) (copy back : SitdCopy) → IsWrittenFrom w copy back → (back.held.at ≡ copy.held.at)
written_from w copy back (was_made is) = ap (λ (c : SitdCopy). c.held.at) is
written_from w copy back (was_missed unsettled turn is) = ap (λ (c : SitdCopy). c.held.at) is

module _ (met : ℕ → Option Kind) (parts : StructureSets) (w : Walk) (hand : FrameHand) (now : StructureSets) (later : FrameHand) (n : ℕ) (q : Qh) (members : AreMet met parts) (in_hand : IsInFrame met parts w.got w.reply hand) (here : parts n n ≡ Some (QueueHead q)) where
  take_event : TakesOne parts hand now later → HasEvent n (parts n) (now n)
  take_event r =
      let copied : IsCopiedQueue met parts r.copy = subst (IsInFrame met parts w.got w.reply) r.in_hand in_hand in
      taken_so parts (Copied r.copy) (Copied r.new) now n r.takes (subst (IsThere parts) r.takes.in_hand copied.here)

  write_event : WritesOne parts w hand now later → HasEvent n (parts n) (now n)
  write_event (of_queue r) =
      let both : IsCopiedQueue met parts r.copy × IsQueueSettled r.copy.queue w.reply r.settled = hand_is_settled met parts w hand r.copy r.settled r.made in_hand r.from in
      let mine : IsMetQueue met r.copy.at (parts r.copy.at) = members r.copy.at AQueue both.0.on in
      let sound : IsSoundQueue (parts r.copy.at) r.copy.queue = subst (IsSoundQueue (parts r.copy.at)) (found_queue (parts r.copy.at r.copy.at) mine.part_is.queue r.copy.queue mine.part_is.here both.0.here) mine.part_is.sound in
      written_so parts w hand now later n w.reply r both.0.here (sound.work both.1.came_to.works) both.1 (record {
        copy = record { head = both.0.here; range = settled_range r.copy r.settled w.reply both.0.range both.1; front = (settled_facts r.copy r.settled).front };
        element = ap (parts r.copy.at) (settled_facts r.copy r.settled).current ∙ r.here;
        received = r.received_is;
      })
  write_event (of_itd r) =
      let copied : IsCopiedItd met parts w.got r.copy = subst (IsInFrame met parts w.got w.reply) r.in_hand in_hand in
      let differs : n ≢ r.copy.held.at = no_itd parts n q r.copy here copied.here in
      same_part n (parts n) (now n)
      (ap (λ (x : StructureSets). x n) r.now_is
      ∙ put_beside (received_parts parts r.copy.held.at w.got r.into) r.copy.held.at r.copy.held.at (Isochronous (itd_back r.copy)) n differs
      ∙ received_beside parts r.copy.held.at w.got r.into n differs)
  write_event (of_sitd r) =
      let copied : IsCopiedSitd met parts w.reply r.copy = subst (IsInFrame met parts w.got w.reply) r.in_hand in_hand in
      let differs : n ≢ r.back.held.at = subst (λ (a : ℕ). n ≢ a) (sym (written_from w r.copy r.back r.written)) (no_sitd parts n q r.copy here copied.here) in
      let got = sitd_received r.back.held.sitd.dir_in r.outcome w.reply in
      same_part n (parts n) (now n)
      (ap (λ (x : StructureSets). x n) r.now_is
      ∙ put_beside (received_parts parts r.back.held.at got r.into) r.back.held.at r.back.held.at (SplitIsochronous (sitd_back r.back (sitd_moved_by r.outcome))) n differs
      ∙ received_beside parts r.back.held.at got r.into n differs)

  pub event_of : {W : Type 0} (transacts : W → Ask → List ℕ → Reply → W → Type 0) (wire after : W) (kind : WalkStep) → FrameEffect transacts parts w hand wire after now later kind → HasEvent n (parts n) (now n)
  event_of transacts wire after _ (fetches none r same quiet) = same_part n (parts n) (now n) (ap (λ (x : StructureSets). x n) same)
  event_of transacts wire after _ (passes r nothing same quiet) = same_part n (parts n) (now n) (ap (λ (x : StructureSets). x n) same)
  event_of transacts wire after _ (ends none nothing same quiet) = same_part n (parts n) (now n) (ap (λ (x : StructureSets). x n) same)
  event_of transacts wire after _ (makes r same) = same_part n (parts n) (now n) (ap (λ (x : StructureSets). x n) same)
  event_of transacts wire after _ (takes r quiet) = take_event r
  event_of transacts wire after _ (writes r quiet) = write_event r
