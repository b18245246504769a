-- What the device of an OUT endpoint took begins the bytes of its qTDs, whichever walk meets its queue head: with another link it is one of
-- a ring, and what is in hand of it is a copy of the ring's.
use Rattle.std.proofs.Common.{◌≡◌, ◌≢◌, ℕ, Bool, true, List, [], ◌∷◌, ◌++◌, length, Option, Some, None, ap, refl, sym, subst, ◌∙◌}
use Rattle.std.proofs.Common.{⊎_elim, inl}
use Rattle.std.proofs.lemmas.Bool.{cases_eq}
use Rattle.std.proofs.lemmas.Option.{same_Some}
use Rattle.law_controller.proofs.Common.{over_not_periodic, asynchronous_not_periodic}
use Rattle.usb_base.specs.declared.packets.Reply.{Reply}
use Rattle.link_words.specs.declared.fields.LinkBits.{LinkBits}
use Rattle.qh_qtd.specs.declared.queue_head.Qh.{Qh}
use Rattle.qh_qtd.specs.QueueHead.{IsQhInRange}
use Rattle.drv_table.specs.Words.{to_queue_head}
use Rattle.hc_core.specs.declared.controller.MicroframePart.{MicroframePart}
use Rattle.hc_core.specs.declared.controller.MicroframePart.TheVariants.{Over, Periodic, Asynchronous}
use Rattle.hc_core.specs.Controller.{Content, walk_place, frame_place}
use Rattle.claims_base.specs.Controller.{Base}
use Rattle.claims_base.specs.Prefix.{IsPrefix}
use Rattle.law_structures.specs.lent_structures.Structures.{Structure, QueueHead, Element, Buffer, Table, Isochronous, SplitIsochronous}
use Rattle.law_structures.specs.lent_structures.Structures.{Structures, StructureSets, put}
use Rattle.law_structures.specs.lent_structures.Sound.{LeadsAmong, IsMember, buffer_name}
use Rattle.law_structures.proofs.lemmas.lent_structures.Altering.{found_queue}
use Rattle.law_structures.proofs.lemmas.lent_structures.Names.{put_same, put_else, put_beside}
use Rattle.law_ring.specs.Hand.{Copy, copied_queue, Settlement, Hand, Empty, Copied, Settled, Stale}
use Rattle.law_ring.specs.Ring.{IsSettled, IsInHand}
use Rattle.law_ring.specs.Told.{Endpoint as Told}
use Rattle.law_ring.specs.Order.{Accounts}
use Rattle.law_ring.specs.Front.{IsFront, IsBehind, HasFront, HasTail}
use Rattle.law_ring.specs.OutBus.{Taker}
use Rattle.law_ring.specs.OutPipes.{IsUnmoved, IsOutPipe}
use Rattle.law_ring.specs.QueueParts.{IsQueuePart}
use Rattle.law_ring.specs.Sparing.{SameHand}
use Rattle.law_ring.proofs.SparedSparing.{accounts_are_spared}
use Rattle.law_controller.specs.frame_control.Both.{RunsBoth}
use Rattle.law_controller.specs.frame_control.Joined.{joined}
use Rattle.law_controller.proofs.lemmas.controlled_streams.Outs.{out_is_spared}
use Rattle.law_driver_ring.proofs.Linking.{link_range}
use Rattle.law_frames.specs.Met.{Kind}
use Rattle.law_frames.specs.Frame.{IsInFrame, IsFrameWalk}
use Rattle.law_frames.specs.FrameHand.{FrameHand, Nothing, OfQueue, OfSettled, OfItd, OfSitd, QueueSettlement}
use Rattle.law_queues.specs.whole_sends.Whole.{EndsWhole, AreSentWhole, bytes_of_element, buffer_at, buffers_of}
use Rattle.law_queues.specs.whole_sends.Laws.{IsStopped, AreFresh}
use Rattle.law_world.specs.memory.SameQueues.{IsRelinked, IsSameQueue}
use Rattle.law_world.proofs.lemmas.streams.lemmas.put_laws.TakenBegins.{IsToldInTurn, told_in_turn}
use Rattle.law_reports.proofs.lemmas.lines.Same.{relinked_head, relinked_element, relinked_order, relinked_put}
use Rattle.law_reports.proofs.lemmas.pipes.lemmas.puts.Whole.{relinked_whole, member}

-- ---- what waits for its write-back

-- it is of a queue head that stands there
pub record IsHeld (parts : StructureSets) (c : Copy) (z : Settlement) : Type 0 where
  pub reply : Reply
  pub here : parts c.at c.at ≡ Some (QueueHead c.queue)
  pub range : IsQhInRange (copied_queue c)
  pub settled : IsSettled c.queue reply z

abbrev pub AreHeld : StructureSets → Hand → Type 0
AreHeld parts (Settled c z) = IsHeld parts c z
AreHeld parts _ = Unit {0}

module _ (base : Base) (member : ℕ → Bool) (met : ℕ → Option Kind) (parts : StructureSets) (hand : Hand) (frame : FrameHand) (c : Content)
    (k : RunsBoth base member met parts hand frame c) where
  of_ring : (h : Hand) → hand ≡ h → AreHeld parts h
  of_ring Empty is = tt
  of_ring (Copied copy) is = tt
  of_ring (Settled copy z) is =
      let both = subst (IsInHand member parts (walk_place c).walk.reply) is k.ring.in_hand in
      record { reply = (walk_place c).walk.reply; here = both.0.here; range = both.0.range; settled = both.1 }
  of_ring (Stale at q) is = tt

  -- outside the periodic part the frames have none
  in_periodic : (copy : Copy) (z : QueueSettlement) (made : ℕ) → frame ≡ OfSettled copy z made → (part : MicroframePart)
      → c.control.part ≡ part → c.control.part ≡ Periodic
  in_periodic copy z made is Periodic part = part
  in_periodic copy z made is Over part = absurd (some (sym is ∙ k.outside (inl (λ periodic. over_not_periodic (sym part ∙ periodic)))))
    where
      some : OfSettled copy z made ≡ Nothing → ⊥
      some e = cc
  in_periodic copy z made is Asynchronous part =
      absurd (some (sym is ∙ k.outside (inl (λ periodic. asynchronous_not_periodic (sym part ∙ periodic)))))
    where
      some : OfSettled copy z made ≡ Nothing → ⊥
      some e = cc

  of_frame : (f : FrameHand) → frame ≡ f → AreHeld parts (joined hand f)
  of_frame Nothing is = of_ring hand refl
  of_frame (OfQueue copy made) is = tt
  of_frame (OfSettled copy z made) is =
      let walk : IsFrameWalk met parts frame (frame_place c) = k.walk (in_periodic copy z made is c.control.part refl) in
      let both = subst (IsInFrame met parts (frame_place c).walk.got (frame_place c).walk.reply) is walk.in_hand in
      record { reply = (frame_place c).walk.reply; here = both.0.here; range = both.0.range; settled = both.1.came_to }
  of_frame (OfItd copy) is = of_ring hand refl
  of_frame (OfSitd copy) is = of_ring hand refl

  pub held_hand : AreHeld parts (joined hand frame)
  held_hand = of_frame frame refl

-- ---- with another link

abbrev ring_link : LinkBits
ring_link = to_queue_head 2

-- the same in hand, of a queue head of a ring
record IsRinged (now : StructureSets) (n : ℕ) (hand : Hand) : Type 0 where
  later : Hand
  same : SameHand hand later
  unmoved : IsUnmoved hand n → IsUnmoved later n
  ends : EndsWhole hand n → EndsWhole later n
  reply : Reply
  in_hand : IsInHand (λ m. true) now reply later

on_ring : LeadsAmong (λ m. true) (to_queue_head 2)
on_ring = record { to = 64; leads = refl; on = refl }

module _ (parts : StructureSets) (n : ℕ) (part : IsQueuePart n (parts n)) (any : Reply) where
  abbrev ringed : StructureSets
  ringed = put parts n n (QueueHead (record part.queue { link = to_queue_head 2 }))

  module _ (c : Copy) (z : Settlement) (held : IsHeld parts c z) where
    ringed_here : c.at ≡ n → IsRinged ringed n (Settled c z)
    ringed_here at =
        let own : c.queue ≡ part.queue =
        found_queue (parts n n) c.queue part.queue (ap (λ (i : ℕ). parts i i) (sym at) ∙ held.here) part.here in
        let copy : Copy = record c { queue = record c.queue { link = to_queue_head 2 }; link = to_queue_head 2 } in
        let s : IsSettled c.queue held.reply z = held.settled in
        record {
          later = Settled copy z;
          same = record { bytes = λ i q e t bs. refl; toggle = λ i q. refl };
          unmoved = λ un. un;
          ends = λ ends. ends;
          reply = held.reply;
          in_hand = (
            record {
              on = refl;
              here = ap (λ (i : ℕ). ringed i i) at ∙ put_same parts n n (QueueHead (record part.queue { link = to_queue_head 2 }))
                  ∙ ap (λ (q : Qh). Some (QueueHead (record q { link = to_queue_head 2 }))) (sym own);
              link = on_ring;
              range = link_range (copied_queue c) 2 held.range;
            },
            record { works = s.works; host = s.host; bytes = s.bytes; got = s.got; are_bytes = s.are_bytes },
          );
        }

    ringed_beside : c.at ≢ n → IsRinged ringed n (Settled c z)
    ringed_beside differs =
        let copy : Copy = record c { link = to_queue_head 2 } in
        record {
          later = Settled copy z;
          same = record { bytes = λ i q e t bs. refl; toggle = λ i q. refl };
          unmoved = λ un. un;
          ends = λ ends. ends;
          reply = held.reply;
          in_hand = (
            record {
              on = refl;
              here = ap (λ (x : Structures). x c.at)
                  (put_beside parts n n (QueueHead (record part.queue { link = to_queue_head 2 })) c.at differs)
                  ∙ held.here;
              link = on_ring;
              range = link_range (copied_queue c) 2 held.range;
            },
            held.settled,
          );
        }

  ringed_hand : (hand : Hand) → AreHeld parts hand → IsRinged ringed n hand
  ringed_hand Empty held = record {
    later = Empty;
    same = record { bytes = λ i q e t bs. refl; toggle = λ i q. refl };
    unmoved = λ un. un;
    ends = λ ends. ends;
    reply = any;
    in_hand = tt;
  }
  ringed_hand (Copied c) held = record {
    later = Empty;
    same = record { bytes = λ i q e t bs. refl; toggle = λ i q. refl };
    unmoved = λ un. un;
    ends = λ ends. ends;
    reply = any;
    in_hand = tt;
  }
  ringed_hand (Stale at q) held = record {
    later = Empty;
    same = record { bytes = λ i q e t bs. refl; toggle = λ i q. refl };
    unmoved = λ un. un;
    ends = λ ends. ends;
    reply = any;
    in_hand = tt;
  }
  ringed_hand (Settled c z) held = ⊎_elim (ringed_here c z held) (ringed_beside c z held) (cases_eq c.at n)

-- ---- what is told of it

module _ (parts now : StructureSets) (n : ℕ) (same : IsSameQueue n (parts n) (now n))
    (beside : (a : ℕ) → a ≢ n → now n a ≡ parts n a) (q r : Qh) (head : parts n n ≡ Some (QueueHead q))
    (head_now : now n n ≡ Some (QueueHead r)) where
  of_structure : (o : Option Structure) → bytes_of_element (now n) o ≡ bytes_of_element (parts n) o
  of_structure None = refl
  of_structure (Some (Element t)) = same.bytes (buffer_name t)
  of_structure (Some (QueueHead u)) = refl
  of_structure (Some (Buffer pages k bs)) = refl
  of_structure (Some (Table ws)) = refl
  of_structure (Some (Isochronous i)) = refl
  of_structure (Some (SplitIsochronous i)) = refl

  buffer_same : (e : ℕ) → buffer_at (now n) e ≡ buffer_at (parts n) e
  buffer_same e =
      of_structure (now n e)
      ∙ ⊎_elim
      (λ (is : e ≡ n).
      ap (λ (i : ℕ). bytes_of_element (parts n) (now n i)) is ∙ ap (bytes_of_element (parts n)) head_now
      ∙ sym (ap (bytes_of_element (parts n)) head) ∙ ap (λ (i : ℕ). bytes_of_element (parts n) (parts n i)) (sym is))
      (λ (differs : e ≢ n). ap (bytes_of_element (parts n)) (beside e differs)) (cases_eq e n)

  buffers_same : (es : List ℕ) → buffers_of (now n) es ≡ buffers_of (parts n) es
  buffers_same [] = refl
  buffers_same (e ∷ es) =
      ap (λ (bs : List ℕ). bs ++ buffers_of (now n) es) (buffer_same e)
      ∙ ap (λ (bs : List ℕ). buffer_at (parts n) e ++ bs) (buffers_same es)

  fresh_same : (out : List ℕ) → AreFresh out (parts n) → AreFresh out (now n)
  fresh_same out fresh a t among here on =
      fresh a t among (same.elements_were a t here) on ∙ sym (ap length (same.bytes (buffer_name t)))

  front_same : (order : ℕ → ℕ) (front : ℕ) (out : List ℕ) → HasFront order front out n (parts n) → HasFront order front out n (now n)
  front_same order front out k = record {
    queue = λ u here.
        let w : IsRelinked (parts n) n u = same.head_was u here in
        let f : IsFront order front (record u { link = w.link }) = k.queue (record u { link = w.link }) w.here in
        record { work = f.work; rest = f.rest };
    behind = λ a t among here off.
        let b : IsBehind order front (parts n) a = k.behind a t among (same.elements_were a t here) off in
        record { qtd = b.qtd; here = same.elements a b.qtd b.here; done = b.done; before = b.before; leads = b.leads };
    fresh = fresh_same out k.fresh;
    passes = λ a b e t u one other here there past.
        k.passes a b e t u one other (same.elements_were a t here) (same.elements_were e u there) past;
  }

  tail_same : (order : ℕ → ℕ) (tail front : ℕ) → HasTail order tail front n (parts n) → HasTail order tail front n (now n)
  tail_same order tail front k = record {
    most = k.most;
    rest = λ u b here goes off leads.
        let w : IsRelinked (parts n) n u = same.head_was u here in k.rest (record u { link = w.link }) b w.here goes off leads;
  }

  stopped_was : IsStopped now n → IsStopped parts n
  stopped_was k = let w : IsRelinked (parts n) n k.0 = same.head_was k.0 k.1 in (record (k.0) { link = w.link }, w.here, k.2, k.3)

  accounts_same : (order : ℕ → ℕ) (place : ℕ) (out : List ℕ) (hand later : Hand) (told : List ℕ) → SameHand hand later
      → Accounts order place out hand parts n told → Accounts order place out later now n told
  accounts_same order place out hand later told alike k =
      accounts_are_spared order order place place out hand later parts now n told alike (relinked_head parts now n same)
      (λ e among. relinked_element parts now n same e) (relinked_order parts now n same order place k.ordered) k.sorted
      (λ a t among here from. k.published a t among (same.elements_were a t here) from)
      (λ a t here on. k.complete a t (same.elements_were a t here) on) k

-- ---- either walk

module _ (base : Base) (members : ℕ → Bool) (met : ℕ → Option Kind) (all parts : StructureSets) (hand : Hand) (frame : FrameHand)
    (c : Content) (runs : RunsBoth base members met all hand frame c) (n : ℕ) (its : all n ≡ parts n) (part : IsQueuePart n (parts n))
    (goes_on : IsStopped parts n → ⊥) where
  part_all : IsQueuePart n (all n)
  part_all = subst (IsQueuePart n) (sym its) part

  abbrev now : StructureSets
  now = put all n n (QueueHead (record part_all.queue { link = to_queue_head 2 }))

  ring : IsRinged (put all n n (QueueHead (record part_all.queue { link = to_queue_head 2 }))) n (joined hand frame)
  ring = ringed_hand all n part_all (walk_place c).walk.reply (joined hand frame) (held_hand base members met all hand frame c runs)

  same : IsSameQueue n (parts n) (now n)
  same =
      subst (λ (x : Structures). IsSameQueue n x (now n)) its (relinked_put all n part_all.queue (to_queue_head 2) part_all.here n)

  beside : (a : ℕ) → a ≢ n → now n a ≡ parts n a
  beside a differs =
      put_else all n n (QueueHead (record part_all.queue { link = to_queue_head 2 })) a differs ∙ ap (λ (x : Structures). x a) its

  head_now : now n n ≡ Some (QueueHead (record part_all.queue { link = to_queue_head 2 }))
  head_now = put_same all n n (QueueHead (record part_all.queue { link = to_queue_head 2 }))

  its_member : IsMember (λ m. true) n (now n)
  its_member = member n (all n) part_all

  never : IsStopped now n → ⊥
  never k = goes_on (stopped_was parts now n same beside part.queue (record part_all.queue { link = to_queue_head 2 }) part.here head_now k)

  module _ (o : Option Taker) (z : Told) (order : ℕ → ℕ) (place : ℕ) (told harvested : List ℕ) where
    abbrev known : List ℕ
    known = harvested ++ told

    pipe_now : IsOutPipe o known parts (joined hand frame) n z → IsOutPipe o known now ring.later n z
    pipe_now p =
        out_is_spared (joined hand frame) ring.later parts now n z o known ring.same ring.unmoved (relinked_head parts now n same)
        (λ q here on. relinked_element parts now n same q.current) (λ a t here on. p.outs a t (same.elements_were a t here) on) p

    taker_same : (p : IsOutPipe o known parts (joined hand frame) n z) → (pipe_now p).taker ≡ p.taker
    taker_same p = same_Some (pipe_now p).taker p.taker (sym (pipe_now p).is ∙ p.is)

    in_turn : IsToldInTurn o z now ring.later n order place told harvested
    in_turn = told_in_turn (λ m. true) now ring.later ring.reply n order place told harvested o z its_member ring.in_hand never

    abbrev r : Qh
    r = record part_all.queue { link = to_queue_head 2 }

    whole_now : (out : List ℕ) → AreSentWhole order out (joined hand frame) n (parts n) → AreSentWhole order out ring.later n (now n)
    whole_now out whole = relinked_whole order out (joined hand frame) ring.later n (parts n) (now n) same ring.ends whole

    begins_so : (p : IsOutPipe o known parts (joined hand frame) n z) (es : List ℕ)
        → IsPrefix (pipe_now p).taker.taken (harvested ++ buffers_of (now n) es)
        → IsPrefix p.taker.taken (harvested ++ buffers_of (parts n) es)
    begins_so p es is =
        subst (λ (t : Taker). IsPrefix t.taken (harvested ++ buffers_of (parts n) es)) (taker_same p)
        (subst (λ (bs : List ℕ). IsPrefix (pipe_now p).taker.taken (harvested ++ bs))
        (buffers_same parts now n same beside part.queue r part.here head_now es) is)

    pub both_told_in_turn : IsToldInTurn o z parts (joined hand frame) n order place told harvested
    both_told_in_turn = record {
      ordered = λ out accounts fresh whole p.
          begins_so p out
          (in_turn.ordered out
          (accounts_same parts now n same beside part.queue r part.here head_now order place out (joined hand frame) ring.later told
          ring.same accounts)
          (fresh_same parts now n same beside part.queue r part.here head_now out fresh) (whole_now out whole) (pipe_now p));
      around = λ front e ahead behind accounts fronts tail below whole p.
          begins_so p ahead
          (in_turn.around front e ahead behind
          (accounts_same parts now n same beside part.queue r part.here head_now order place (ahead ++ behind) (joined hand frame)
          ring.later
          told ring.same accounts)
          (front_same parts now n same beside part.queue r part.here head_now order front (ahead ++ behind) fronts)
          (tail_same parts now n same beside part.queue r part.here head_now order e front tail) below (whole_now (ahead ++ behind) whole)
          (pipe_now p));
    }
