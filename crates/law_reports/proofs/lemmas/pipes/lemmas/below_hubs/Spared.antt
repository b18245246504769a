-- A pipe below a hub where a step spares its queue head, and what is new of its queue begins with a start-split.
use Rattle.std.proofs.Common.{◌≡◌, ℕ, ◌==◌, Bool, true, false, not, if◌then◌else◌, List, Some, ap, refl, sym, subst, ◌∙◌, ⊎_elim}
use Rattle.std.specs.Prelude.{◌⊎◌}
use Rattle.std.proofs.lemmas.Option.{same_Some}
use Rattle.usb_base.specs.declared.packets.Dir.TheVariants as Directions
use Rattle.usb_base.specs.declared.packets.EpKind.{EpKind}
use Rattle.hub_keys.specs.declared.key.Key.{Key}
use Rattle.bus_wire.specs.Bus.{Wired}
use Rattle.qh_qtd.specs.declared.token.Token.{Token}
use Rattle.qh_qtd.specs.declared.qtd.Qtd.{Qtd}
use Rattle.qh_qtd.specs.declared.queue_head.Qh.{Qh}
use Rattle.toggle_error.specs.declared.host.HostSide.{HostSide}
use Rattle.hc_host_side.specs.HostToken.{host_at}
use Rattle.hc_copy.specs.Planning.{host_in}
use Rattle.link_words.specs.declared.fields.LinkBits.{LinkBits}
use Rattle.law_structures.specs.lent_structures.Structures.{QueueHead, Element, StructureSets}
use Rattle.law_structures.proofs.lemmas.lent_structures.Altering.{found_queue}
use Rattle.law_ring.specs.Hand.{copied_queue, Hand, Empty, Copied, Settled, Stale}
use Rattle.law_ring.specs.Stores.{hand_linked, hand_stale}
use Rattle.law_ring.specs.Told.{Endpoint}
use Rattle.law_ring.specs.Sparing.{SameHand, SameOverlay, HasOverlay, SparesHead, SparesElement}
use Rattle.law_ring.specs.OutBus.{Taker}
use Rattle.law_ring.specs.OutPipes.{IsOut, IsUnmoved, OutAgrees, IsOutPipe}
use Rattle.law_controller.specs.frame_control.Joined.{joined}
use Rattle.law_controller.specs.frame_stores.Stores.{frame_linked}
use Rattle.law_frames.specs.FrameHand.{FrameHand, Nothing, OfQueue, OfSettled, OfItd, OfSitd, queue_hand}
use Rattle.law_below_hubs.specs.HostEvents.{hand_host, RestsToStart, StartsFirst, told_key, IsOutBehind, IsInBehind}
use Rattle.law_below_hubs.specs.HostIns.{InSide}
use Rattle.law_below_hubs.specs.HostOuts.{out_key, shadow, OutSide}
use Rattle.law_below_hubs.proofs.HostAsks.{host_toggle}
use Rattle.law_world.specs.memory.Steps.{HandStays, same_hand, linked_hand, FrameStays, same_frame, linked_frame}
use Rattle.law_world.proofs.lemmas.steps.Spared.{spared_pipe}

-- ---- what is in hand

abbrev pub HostAlike : Hand → Hand → Type 0
HostAlike hand later = (n : ℕ) (q : Qh) → hand_host later n q ≡ hand_host hand n q

pub host_itself : (hand : Hand) → HostAlike hand hand
host_itself hand n q = refl

pub host_linked : (at : ℕ) (l : LinkBits) (hand : Hand) → HostAlike hand (hand_linked at l hand)
host_linked at l Empty n q = refl
host_linked at l (Copied c) n q = refl
host_linked at l (Settled c z) n q = refl
host_linked at l (Stale m old) n q = refl

pub host_stale : (at : ℕ) (hand : Hand) → HostAlike hand (hand_stale at hand)
host_stale at Empty n q = refl
host_stale at (Copied c) n q = by (c.at == at)
  where
    by : (b : Bool) → hand_host (if b then Stale at (copied_queue c) else Copied c) n q ≡ host_in q
    by true = refl
    by false = refl
host_stale at (Settled c z) n q = refl
host_stale at (Stale m old) n q = refl

of_hand : (hand later : Hand) → HandStays hand later → HostAlike hand later
of_hand hand _ same_hand = host_itself hand
of_hand hand _ (linked_hand n l) = host_linked n l hand

pub same_frames : (hand later : Hand) (frame : FrameHand) → HostAlike hand later → HostAlike (joined hand frame) (joined later frame)
same_frames hand later Nothing k = k
same_frames hand later (OfQueue c made) k = host_itself (queue_hand (OfQueue c made))
same_frames hand later (OfSettled c s made) k = host_itself (queue_hand (OfSettled c s made))
same_frames hand later (OfItd c) k = k
same_frames hand later (OfSitd c) k = k

linked_frames : (hand later : Hand) (n : ℕ) (l : LinkBits) (frame : FrameHand) → HostAlike hand later
    → HostAlike (joined hand frame) (joined later (frame_linked n l frame))
linked_frames hand later n l Nothing k = k
linked_frames hand later n l (OfQueue c made) k = host_linked n l (queue_hand (OfQueue c made))
linked_frames hand later n l (OfSettled c s made) k = host_linked n l (queue_hand (OfSettled c s made))
linked_frames hand later n l (OfItd c) k = k
linked_frames hand later n l (OfSitd c) k = k

pub stays_host : (hand later : Hand) (frame frame_later : FrameHand) → HandStays hand later → FrameStays frame frame_later
    → HostAlike (joined hand frame) (joined later frame_later)
stays_host hand later frame _ stays same_frame = same_frames hand later frame (of_hand hand later stays)
stays_host hand later frame _ stays (linked_frame n l) = linked_frames hand later n l frame (of_hand hand later stays)

-- ---- a queue head that is spared

pub record SparesQueue (parts now : StructureSets) (hand later : Hand) (n pid : ℕ) : Type 0 where
  pub hands : SameHand hand later
  pub unmoved : pid ≡ 0 → IsUnmoved hand n → IsUnmoved later n
  pub hosts : HostAlike hand later
  pub head : SparesHead parts now n
  pub work : (q : Qh) → parts n n ≡ Some (QueueHead q) → q.token.active ≡ true → pid ≡ 0 → SparesElement parts now n q.current
  pub asks : (a : ℕ) (u : Qtd) → now n a ≡ Some (Element u) → u.token.active ≡ true
      → (parts n a ≡ Some (Element u)) ⊎ ((u.token.pid ≡ pid) × (u.token.split_state ≡ false))

module _ (parts now : StructureSets) (hand later : Hand) (n pid : ℕ) (k : SparesQueue parts now hand later n pid) where
  pub ways_stay : ((a : ℕ) (t : Qtd) → parts n a ≡ Some (Element t) → t.token.active ≡ true → t.token.pid ≡ pid)
      → (a : ℕ) (t : Qtd) → now n a ≡ Some (Element t) → t.token.active ≡ true → t.token.pid ≡ pid
  ways_stay were a t here on =
      ⊎_elim (λ (was : parts n a ≡ Some (Element t)). were a t was on)
      (λ (new : (t.token.pid ≡ pid) × (t.token.split_state ≡ false)). new.0) (k.asks a t here on)

  pub starts_stay : StartsFirst (parts n) → StartsFirst (now n)
  starts_stay were a t here on =
      ⊎_elim (λ (was : parts n a ≡ Some (Element t)). were a t was on)
      (λ (new : (t.token.pid ≡ pid) × (t.token.split_state ≡ false)). new.1) (k.asks a t here on)

  pub overlay_host : (q r : Qh) → SameOverlay q r → hand_host hand n r ≡ hand_host hand n q
  overlay_host q r same = by hand
    where
      own : host_in r ≡ host_in q
      own = ap (λ (t : Token). host_at t r.max) same.token ∙ ap (λ (e : Endpoint). host_at q.token e.max) same.endpoint

      by : (l : Hand) → hand_host l n r ≡ hand_host l n q
      by Empty = own
      by (Copied c) = own
      by (Settled c z) = ap (λ (host : HostSide). if c.at == n then z.host else host) own
      by (Stale m old) = own

  pub out_spared : (kind : EpKind) (wire : Wired) (i place : ℕ) (known : List ℕ) (x : Endpoint) → pid ≡ 0
      → (b : IsOutBehind kind wire i place known parts hand n x)
      → (c : IsOutBehind kind wire i place known now later n x) × (c.host.next ≡ b.host.next)
  out_spared kind wire i place known x zero b =
      let h : HostSide = hand_host hand n b.queue in
      let s : Taker = shadow (hand_host hand n b.queue).toggle known b.host.next in
      let outs : IsOut (now n) = λ a t here on. ways_stay (λ a t here on. b.outs a t here on ∙ sym zero) a t here on ∙ zero in
      let pipe : IsOutPipe (Some s) known parts hand n x = record {
        named = record { queue = b.queue; head = b.head; is = b.is };
        outs = b.outs;
        toggle = (hand_host hand n b.queue).toggle;
        expects = record {
          queue = b.queue;
          head = b.head;
          own = ap (λ (e : Endpoint). e.dtc) (sym b.is) ∙ b.own;
          is = host_toggle hand n b.queue;
        };
        taker = s;
        is = refl;
        agrees = b.host.agrees;
      } in
      let z : IsOutPipe (Some s) known now later n x = spared_pipe hand later parts now n x (Some s) known k.hands (k.unmoved zero)
      (record { head = k.head; work = λ q here on. k.work q here on zero }) outs pipe in
      let o : HasOverlay now n b.queue = k.head b.queue b.head in
      let r : Qh = o.queue in
      let same : hand_host later n o.queue ≡ hand_host hand n b.queue = k.hosts n o.queue ∙ overlay_host b.queue o.queue o.overlay in
      let one : z.expects.queue ≡ o.queue = found_queue (now n n) z.expects.queue o.queue z.expects.head o.here in
      let toggle : z.toggle ≡ (hand_host hand n b.queue).toggle = z.expects.is ∙ sym (host_toggle later n z.expects.queue)
      ∙ ap (λ (q : Qh). (hand_host later n q).toggle) one ∙ ap (λ (host : HostSide). host.toggle) same in
      let agreed : OutAgrees (now n) later n o.queue h.toggle known s =
      subst (λ (q : Qh). OutAgrees (now n) later n q h.toggle known s) one
      (subst (λ (toggle_now : Bool). OutAgrees (now n) later n z.expects.queue toggle_now known s) toggle
      (subst (OutAgrees (now n) later n z.expects.queue z.toggle known) (sym (same_Some s z.taker z.is)) z.agrees)) in
      let side : OutSide (out_key kind o.queue) i place wire h.toggle h.waiting known b.host.next =
      subst (λ (key : Key). OutSide key i place wire h.toggle h.waiting known b.host.next)
      (ap (told_key kind Directions.Out) (sym o.overlay.endpoint)) b.host.side in (
        record {
          queue = o.queue;
          head = o.here;
          is = b.is ∙ sym o.overlay.endpoint;
          below = b.below;
          own = b.own;
          outs = outs;
          first = starts_stay b.first;
          rests = subst RestsToStart (sym same) b.rests;
          hub = b.hub;
          host = record {
            next = b.host.next;
            side = subst (λ (host : HostSide). OutSide (out_key kind o.queue) i place wire host.toggle host.waiting known b.host.next)
                (sym same)
                side;
            agrees = subst
                (λ (host : HostSide). OutAgrees (now n) later n o.queue host.toggle known (shadow host.toggle known b.host.next)) (sym same)
                agreed;
          };
        },
        refl,
      )

  pub in_spared : (kind : EpKind) (packets : List (List ℕ)) (wire : Wired) (i place : ℕ) (timely : Bool) (known : List ℕ) (x : Endpoint)
      → pid ≡ 1
      → IsInBehind kind packets wire i place timely known parts hand n x → IsInBehind kind packets wire i place timely known now later n x
  in_spared kind packets wire i place timely known x one b =
      let o : HasOverlay now n b.queue = k.head b.queue b.head in
      let same : hand_host later n o.queue ≡ hand_host hand n b.queue = k.hosts n o.queue ∙ overlay_host b.queue o.queue o.overlay in
      record {
        queue = o.queue;
        head = o.here;
        is = b.is ∙ sym o.overlay.endpoint;
        below = b.below;
        own = b.own;
        ins = λ a t here on. ways_stay (λ a t here on. b.ins a t here on ∙ sym one) a t here on ∙ one;
        first = starts_stay b.first;
        rests = subst RestsToStart (sym same) b.rests;
        hub = b.hub;
        side = subst (λ (host : HostSide). InSide packets (told_key kind Directions.In x) i place wire host.toggle host.waiting
            (not host.halted) timely known) (sym same) b.side;
      }
