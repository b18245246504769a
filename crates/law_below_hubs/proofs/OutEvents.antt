-- Each event of the controller leaves a bulk or interrupt OUT endpoint below a hub as it must stand.
use Rattle.std.proofs.Common.{◌≡◌, ◌≢◌, ℕ, ◌==◌, ◌-◌, Bool, true, false, not, if◌then◌else◌, List, [], ◌++◌, take, drop, Option, Some}
use Rattle.std.proofs.Common.{ap, refl, sym, subst, ◌∙◌, ⊎_elim}
use Rattle.std.proofs.lemmas.Bool.{cases_eq, eq-eqb, false≢true}
use Rattle.std.proofs.lemmas.List.{append-nil}
use Rattle.usb_base.specs.declared.packets.Ask.{Ask}
use Rattle.usb_base.specs.declared.packets.Dir.TheVariants as Directions
use Rattle.usb_base.specs.declared.packets.EpKind.{EpKind}
use Rattle.usb_base.specs.declared.packets.EpKind.TheVariants as Kinds
use Rattle.hub_keys.specs.declared.key.Key.{Key}
use Rattle.bus_wire.specs.Bus.{Wired}
use Rattle.qh_qtd.specs.declared.qtd.Qtd.{Qtd}
use Rattle.qh_qtd.specs.declared.queue_head.Qh.{Qh}
use Rattle.drv_table.specs.DriverContent.{DriverContent}
use Rattle.toggle_error.specs.declared.host.HostSide.{HostSide}
use Rattle.hc_copy.specs.Overlay.{buffer_place}
use Rattle.hc_copy.specs.Planning.{host_in, transaction_of}
use Rattle.hc_copy.specs.Transacting.{call_in}
use Rattle.async_walk.specs.Naks.{kind_at}
use Rattle.hc_core.specs.Controller.{Content}
use Rattle.claims_base.specs.Controller.{Base}
use Rattle.claims_report.specs.Streams.{has_stream}
use Rattle.law_structures.specs.lent_structures.Settles.{is_moved, Settles}
use Rattle.law_structures.specs.lent_structures.Structures.{QueueHead, Structures, StructureSets}
use Rattle.law_structures.specs.lent_structures.Alters.{Alters}
use Rattle.law_structures.specs.lent_structures.Sound.{IsWorking, IsSoundQueue}
use Rattle.law_structures.proofs.lemmas.lent_structures.Altering.{found_queue, found_element}
use Rattle.law_common.proofs.Numbers.{other_number}
use Rattle.law_structures.proofs.lemmas.lent_structures.Settling.{a_transaction_settles}
use Rattle.law_ring.specs.Hand.{Copy, Settlement, Hand, Copied, Settled}
use Rattle.law_ring.specs.Effects.{buffer_of, AreSent, settlement_as, Asks, came_to}
use Rattle.law_ring.specs.QueueParts.{IsQueuePart}
use Rattle.law_ring.specs.Told.{hand_toggle, HasToggle, Endpoint, endpoint_of, HasEndpoint, SameTold}
use Rattle.law_ring.specs.Streams.{moved_bytes, Grows}
use Rattle.law_ring.specs.Streams.StreamEffect.{same, aside, grows}
use Rattle.law_ring.specs.OutBus.{Taker}
use Rattle.law_ring.specs.OutPipes.{IsOut, OutAgrees}
use Rattle.law_common.proofs.Booleans.{not_itself}
use Rattle.law_ring.proofs.Transporting.{out_still}
use Rattle.law_controller.specs.controlled_streams.Kept.{KeepsEach}
use Rattle.law_frames.specs.Met.{Kind}
use Rattle.law_frames.specs.FrameHand.{FrameHand}
use Rattle.law_frames.specs.FrameStreams.{IsIsoAsk}
use Rattle.law_controller.specs.frame_control.Both.{RunsBoth, BothEffect}
use Rattle.law_controller.specs.frame_control.Joined.{joined, BothStreamEffect, begun, moved}
use Rattle.law_devices.specs.scripted_requests.Controls.{transacts_by, begins_by}
use Rattle.law_descriptors.specs.Both.{owns, both, parts_now}
use Rattle.law_descriptors.specs.PartLaws.{IsDescribing}
use Rattle.law_descriptors.specs.queue_events.Pipes.{AskedAreNear}
use Rattle.law_descriptors.specs.queue_events.Streams.{bytes_of_both}
use Rattle.law_descriptors.proofs.Standing.{both_off}
use Rattle.law_descriptors.proofs.Telling.{queue_off}
use Rattle.law_descriptors.proofs.lemmas.queue_events.Events.{both_keeps_structures}
use Rattle.law_descriptors.proofs.lemmas.queue_events.Carrying.{walks_carry}
use Rattle.law_below_hubs.specs.HostOuts.{out_key, shadow, FindsNoneTold, OutSide, OutHost, IsOutBelow, IsOfOther}
use Rattle.law_below_hubs.specs.HostEvents.{hand_host, RestsToStart, StartsFirst, told_key, IsOutBehind, AsksAlone, IsWalkedAs}
use Rattle.law_below_hubs.specs.HostEvents.{StartsFindNoneTold, EventKeepsOutBehind, KeepsSent, sends_none, makes_one}
use Rattle.law_below_hubs.specs.Splits.{IsAtHub}
use Rattle.law_below_hubs.proofs.HostAsks.{host_toggle, first_still, asks_other}
use Rattle.law_below_hubs.proofs.HostBeside.{others_leave_out, begin_leaves_out}
use Rattle.law_below_hubs.proofs.HostCarries.{HostStays, IsUnmade, IsMadeBy, by_ring, by_frames, HostGoes, makes_own, stays, host_goes}
use Rattle.law_below_hubs.proofs.HostOuts.{own_out_goes_on}
use Rattle.law_below_hubs.proofs.HostRests.{own_out_rests, out_none_moved}

module _ (kind : EpKind) (near : ℕ → Bool) (n : ℕ) (x : Endpoint) (i place : ℕ) (known : List ℕ) (base : Base) (member : ℕ → Bool)
    (met : ℕ → Option Kind) (d : DriverContent) (descs parts : StructureSets) (hand : Hand) (frame : FrameHand) (c : Content)
    (wire after : Wired) (now : StructureSets) (later : Hand) (frame_later : FrameHand) (describing : IsDescribing d descs parts)
    (runs : RunsBoth base member met (both descs parts) hand frame c)
    (effect : BothEffect begins_by transacts_by (both descs parts) c.control hand frame wire after now later frame_later)
    (asked : AskedAreNear near parts (joined hand frame)) (alone : AsksAlone Directions.Out near parts n x)
    (iso : (ask : Ask) → IsIsoAsk (both descs parts) ask → IsOfOther (told_key kind Directions.Out x) ask)
    (streams : has_stream kind ≡ true) (walked : IsWalkedAs kind member met n)
    (fresh : StartsFindNoneTold kind x i place n (both descs parts) c.control.frame frame wire after frame_later)
    (part_is : IsQueuePart n (parts n)) (part_now : IsQueuePart n (parts_now descs parts now n))
    (hub_after : IsAtHub after.bus.hubs x.hub x.port i place) (k : IsOutBehind kind wire i place known parts (joined hand frame) n x) where
  abbrev one : Hand
  one = joined hand frame

  abbrev other : Hand
  other = joined later frame_later

  abbrev parts_then : StructureSets
  parts_then = parts_now descs parts now

  abbrev q : Qh
  q = k.queue

  abbrev side : HostSide
  side = hand_host (joined hand frame) n k.queue

  abbrev Behind : List ℕ → Type 0
  Behind ys = IsOutBehind kind after i place ys (parts_now descs parts now) (joined later frame_later) n x

  -- ---- its part

  off : owns descs n ≡ false
  off = queue_off d descs parts describing n n (QueueHead part_is.queue) part_is.here

  there : both descs parts n ≡ parts n
  there = both_off descs parts n off

  now_is : now n ≡ parts_then n
  now_is = sym (ap (λ (b : Bool). if b then parts n else now n) off)

  alters : Alters (parts n) (parts_then n)
  alters =
      let kept : KeepsEach parts (parts_now descs parts now) =
      both_keeps_structures begins_by transacts_by base member met descs parts hand frame c wire after now later frame_later runs effect in
      (kept n).alters

  head_both : both descs parts n n ≡ Some (QueueHead q)
  head_both = ap (λ (part : Structures). part n) there ∙ k.head

  abbrev Made : Asks transacts_by (both descs parts) (joined hand frame) wire after (joined later frame_later) → Type 0
  Made = IsMadeBy member met (both descs parts) c.control.frame frame frame_later (joined hand frame) (joined later frame_later) wire after

  goes : HostGoes (both descs parts) now one other n wire after Made
  goes = host_goes base member met (both descs parts) hand frame c wire after now later frame_later runs n q head_both effect

  dtc_off : q.dtc ≡ false
  dtc_off = ap (λ (e : Endpoint). e.dtc) (sym k.is) ∙ k.own

  had : HasToggle one parts n side.toggle
  had = record { queue = q; head = k.head; own = dtc_off; is = host_toggle one n q }

  key_is : out_key kind q ≡ told_key kind Directions.Out x
  key_is = sym (ap (told_key kind Directions.Out) k.is)

  finish : (ys : List ℕ) (r : Qh) → parts_then n n ≡ Some (QueueHead r) → x ≡ endpoint_of r → RestsToStart (hand_host other n r)
      → (host : OutHost kind (parts_then n) other n r i place after (hand_host other n r).toggle (hand_host other n r).waiting ys)
      → (b : Behind ys) × (b.host.next ≡ host.next)
  finish ys r here is rests host = (
    record {
      queue = r;
      head = here;
      is = is;
      below = k.below;
      own = k.own;
      outs = out_still (parts n) (parts_then n) alters k.outs;
      first = first_still (parts n) (parts_then n) alters k.first;
      rests = rests;
      hub = hub_after;
      host = host;
    },
    refl,
  )

  abbrev After : List ℕ → List ℕ → Type 0
  After all ys = (b : Behind all) × KeepsSent (parts n) (parts_now descs parts now n) k.queue.token.active k.host.next b.host.next ys

  -- ---- no transaction of it

  same_toggle : (l : Hand) (ps others : StructureSets) (h : Bool) → others n ≡ ps n → HasToggle l ps n h → HasToggle l others n h
  same_toggle l ps others h is has = record
      { queue = has.queue; head = ap (λ (part : Structures). part n) is ∙ has.head; own = has.own; is = has.is }

  carries : (s : Taker) (r : Qh) → parts_then n n ≡ Some (QueueHead r) → HasToggle other parts_then n side.toggle
      → OutAgrees (parts n) one n q side.toggle known s → OutAgrees (parts_then n) other n r side.toggle known s
  carries s r here has agrees =
      subst (λ (part : Structures). OutAgrees part other n r side.toggle known s) now_is
      (walks_carry begins_by transacts_by base member met (both descs parts) hand frame c wire after now later frame_later runs n
      side.toggle known s (subst (IsQueuePart n) (sym there) part_is) (subst (IsQueuePart n) (sym now_is) part_now)
      (subst IsOut (sym there) k.outs)
      (subst (λ (part : Structures). Alters (both descs parts n) part) (sym now_is)
      (subst (λ (part : Structures). Alters part (parts_then n)) (sym there) alters)) effect
      (same_toggle one parts (both descs parts) side.toggle there had) (same_toggle other parts_then now side.toggle now_is has)
      q r head_both (ap (λ (part : Structures). part n) now_is ∙ here)
      (subst (λ (part : Structures). OutAgrees part one n q side.toggle known s) (sym there) agrees))

  quiet : HostStays (both descs parts) now one other n → HasToggle other parts_then n side.toggle → HasEndpoint parts_then n x
      → OutSide (told_key kind Directions.Out x) i place after side.toggle side.waiting known k.host.next
      → (b : Behind known) × (b.host.next ≡ k.host.next)
  quiet still has named out_side =
      let r : Qh = has.queue in
      let is : x ≡ endpoint_of r = named.is ∙ ap endpoint_of (found_queue (parts_then n n) named.queue r named.head has.head) in
      let z = still q r head_both (ap (λ (part : Structures). part n) now_is ∙ has.head)
      (subst StartsFirst (sym there) k.first) k.rests in
      let toggle : side.toggle ≡ (hand_host other n r).toggle = has.is ∙ sym (host_toggle other n r) in
      finish known r has.head is z.rests
      (record {
        next = k.host.next;
        side = subst (λ (b : Bool). OutSide (out_key kind r) i place after b (hand_host other n r).waiting known k.host.next) toggle
            (subst (λ (b : Bool). OutSide (out_key kind r) i place after side.toggle b known k.host.next) (sym z.waiting)
            (subst (λ (key : Key). OutSide key i place after side.toggle side.waiting known k.host.next)
            (ap (told_key kind Directions.Out) is) out_side));
        agrees = subst (λ (b : Bool). OutAgrees (parts_then n) other n r b known (shadow b known k.host.next)) toggle
            (carries (shadow side.toggle known k.host.next) r has.head has k.host.agrees);
      })

  out_side : OutSide (told_key kind Directions.Out x) i place wire side.toggle side.waiting known k.host.next
  out_side = subst (λ (key : Key). OutSide key i place wire side.toggle side.waiting known k.host.next) key_is k.host.side

  nothing_more : (ys : List ℕ) → ys ≡ [] → (b : Behind known) × (b.host.next ≡ k.host.next) → After (known ++ ys) ys
  nothing_more ys none b =
      subst (λ (all : List ℕ). After all ys) (sym (ap (λ (zs : List ℕ). known ++ zs) none ∙ append-nil known)) (b.0, sends_none b.1 none)

  told_quiet : HostStays (both descs parts) now one other n → SameTold one parts other parts_then
      → OutSide (told_key kind Directions.Out x) i place after side.toggle side.waiting known k.host.next
      → (b : Behind known) × (b.host.next ≡ k.host.next)
  told_quiet still told s =
      quiet still (told.toggle n side.toggle had) (told.endpoint n x (record { queue = q; head = k.head; is = k.is })) s

  module _ (still : HostStays (both descs parts) now one other n) (unmade : IsUnmade (both descs parts) now one other n) where
    beside : (m : Asks transacts_by parts one wire after other) → m.copy.at ≢ n → parts_then ≡ parts
        → Grows one parts other m.copy (came_to m) m.sent.element → (b : Behind known) × (b.host.next ≡ k.host.next)
    beside m differs all g =
        let b = alone m.copy.at (asked m.copy m.in_hand m.here m.works) differs in
        let is : b.0 ≡ endpoint_of m.copy.queue = b.1.is
        ∙ ap endpoint_of (found_queue (parts m.copy.at m.copy.at) b.1.queue m.copy.queue b.1.head m.here) in
        let else_asked : IsOfOther (told_key kind Directions.Out x) (call_in (transaction_of m.kind m.copy.queue) m.out m.last).ask =
        asks_other kind Directions.Out (parts m.copy.at) m.copy.at m.copy.queue m.kind m.out m.last x b.0 m.part_is m.here m.works is b.2 in
        quiet still
        (subst (λ (ps : StructureSets). HasToggle other ps n side.toggle) (sym all)
        (g.other_toggles n side.toggle (λ (at : n ≡ m.copy.at). differs (sym at)) had))
        (subst (λ (ps : StructureSets). HasEndpoint ps n x) (sym all) (record { queue = q; head = k.head; is = k.is }))
        (others_leave_out (told_key kind Directions.Out x) i place wire (call_in (transaction_of m.kind m.copy.queue) m.out m.last).ask
        (call_in (transaction_of m.kind m.copy.queue) m.out m.last).out m.reply after side.toggle side.waiting known k.host.next refl
        streams
        else_asked m.made out_side)

    still_by : (z : BothStreamEffect begins_by (IsIsoAsk (both descs parts)) transacts_by parts one wire after parts_then other)
        → After (known ++ bytes_of_both n z) (bytes_of_both n z)
    still_by (begun index allowed begins told) =
        nothing_more [] refl
        (told_quiet still told
        (subst (λ (v : Wired). OutSide (told_key kind Directions.Out x) i place v side.toggle side.waiting known k.host.next) (sym begins.1)
        (begin_leaves_out (told_key kind Directions.Out x) i place index wire side.toggle side.waiting known k.host.next refl out_side)))
    still_by (moved (same told quiet_wire)) =
        nothing_more [] refl
        (told_quiet still told
        (subst (λ (v : Wired). OutSide (told_key kind Directions.Out x) i place v side.toggle side.waiting known k.host.next)
        (sym quiet_wire)
        out_side))
    still_by (moved (aside told ask out reply is_iso made)) =
        nothing_more [] refl
        (told_quiet still told
        (others_leave_out (told_key kind Directions.Out x) i place wire ask out reply after side.toggle side.waiting known k.host.next
        refl streams
        (iso ask is_iso) made out_side))
    still_by (moved (grows m all g)) =
        ⊎_elim
        (λ (at : m.copy.at ≡ n). absurd (unmade m.held (came_to m) m.later_is (m.at_same ∙ at) m.copy m.in_hand))
        (λ (differs : m.copy.at ≢ n).
        nothing_more (bytes_of_both {begins = begins_by} {Beside = IsIsoAsk (both descs parts)} n (moved (grows m all g)))
        (ap (λ (b : Bool). if b then moved_bytes m.copy.queue m.sent.element (came_to m)
        (buffer_of (parts m.copy.at) m.sent.element) else [])
        (other_number m.copy.at n differs)) (beside m differs all g))
        (cases_eq m.copy.at n)

  -- ---- its own transaction

  module _ (m : Asks transacts_by (both descs parts) (joined hand frame) wire after (joined later frame_later)) (at : m.copy.at ≡ n)
      (all : now ≡ both descs parts)
      (makes : IsMadeBy member met (both descs parts) c.control.frame frame frame_later (joined hand frame) (joined later frame_later) wire
      after m) where
    queue_is : m.copy.queue ≡ q
    queue_is = found_queue (both descs parts n n) m.copy.queue q (ap (λ (j : ℕ). both descs parts j j) (sym at) ∙ m.here) head_both

    works : q.token.active ≡ true
    works = ap (λ (y : Qh). y.token.active) (sym queue_is) ∙ m.works

    working : IsWorking (parts n) q
    working = (subst (IsSoundQueue (parts n)) (found_queue (parts n n) part_is.queue q part_is.here k.head) part_is.sound).work works

    below : IsOutBelow q
    below = record {
      below = ap (λ (e : Endpoint). e.speed == 2) (sym k.is) ∙ k.below;
      out = working.pid ∙ k.outs q.current working.element working.here working.published;
      works = works;
    }

    -- it is made by the walk that meets the queue head
    kind_is : m.kind ≡ kind
    kind_is = by kind refl makes
      where
        by : (y : EpKind) → kind ≡ y → Made m → m.kind ≡ kind
        by Kinds.Bulk is (by_ring on kind_at_is never) =
            kind_at_is ∙ ap kind_at (ap (λ (y : Qh). y.dtc) queue_is ∙ dtc_off) ∙ sym is
        by Kinds.Bulk is (by_frames on framed r one_copy last_is) =
            absurd (subst (λ (y : EpKind). IsWalkedAs y member met n) is walked (ap met (sym at) ∙ on))
        by Kinds.Interrupt is (by_ring on kind_at_is never) =
            absurd (subst (λ (y : EpKind). IsWalkedAs y member met n) is walked (ap member (sym at) ∙ on))
        by Kinds.Interrupt is (by_frames on framed r one_copy last_is) = framed ∙ sym is
        by Kinds.Control is made_so = absurd (false≢true (ap has_stream (sym is) ∙ streams))
        by Kinds.Iso is made_so = absurd (false≢true (ap has_stream (sym is) ∙ streams))

    finds : kind ≡ Kinds.Interrupt → q.token.split_state ≡ false → FindsNoneTold (out_key kind q) i place wire
    finds is state = by makes
      where
        by : Made m → FindsNoneTold (out_key kind q) i place wire
        by (by_ring on kind_at_is never) =
            absurd (subst (λ (y : EpKind). IsWalkedAs y member met n) is walked (ap member (sym at) ∙ on))
        by (by_frames on framed r one_copy last_is) =
            subst (λ (key : Key). FindsNoneTold key i place wire) (sym key_is)
            (fresh is r (ap (λ (e : Copy). e.at) one_copy ∙ at)
            (ap (λ (e : Copy). e.queue.token.split_state) one_copy ∙ ap (λ (y : Qh). y.token.split_state) queue_is ∙ state))

    -- what is known of the transaction, by the queue head and its kind
    record IsMade (y : Qh) (its : EpKind) : Type 0 where
      sent : AreSent (parts n) y (transaction_of its y).bytes m.out
      made : transacts_by wire (call_in (transaction_of its y) m.out m.last).ask
          (call_in (transaction_of its y) m.out m.last).out m.reply after
      left : other ≡ Settled m.held (settlement_as its y m.out m.last m.reply)
      element : sent.element ≡ m.sent.element

    is_made : IsMade q kind
    is_made =
        subst (λ (y : Qh). IsMade y kind) queue_is
        (subst (IsMade m.copy.queue) kind_is
        (record {
          sent = record {
            element = m.sent.element;
            here = ap (λ (part : Structures). part m.copy.queue.current) (sym there)
                ∙ ap (λ (j : ℕ). both descs parts j m.copy.queue.current) (sym at) ∙ m.sent.here;
            are = m.sent.are
                ∙ ap (λ (part : Structures). take (transaction_of m.kind m.copy.queue).bytes
                (drop (buffer_place m.copy.queue - m.sent.element.offset) (buffer_of part m.sent.element)))
                (ap (both descs parts) at ∙ there);
            all = m.sent.all;
          };
          made = m.made;
          left = m.later_is;
          element = refl;
        }))

    abbrev z : Settlement
    z = settlement_as kind k.queue m.out m.last m.reply

    abbrev bytes : List ℕ
    bytes = moved_bytes k.queue is_made.sent.element (settlement_as kind k.queue m.out m.last m.reply)
        (buffer_of (parts n) is_made.sent.element)

    before : side ≡ host_in q
    before = ap (λ (l : Hand). hand_host l n q) m.in_hand

    behind : (settlement_as kind k.queue m.out m.last m.reply).host ≡ hand_host other n q
    behind = sym (ap (λ (l : Hand). hand_host l n q) is_made.left
        ∙ ap (λ (b : Bool). if b then z.host else host_in q) (eq-eqb m.held.at n (m.at_same ∙ at)))

    host_then : OutHost kind (parts n) other n q i place after z.host.toggle z.host.waiting (known ++ bytes)
    host_then =
        own_out_goes_on kind m.last (parts n) one other n m.held q i place wire after known m.out m.reply streams below
        (subst (λ (e : Endpoint). IsAtHub wire.bus.hubs e.hub e.port i place) k.is k.hub) is_made.sent is_made.made is_made.left finds
        (subst (λ (host : HostSide). OutHost kind (parts n) one n q i place wire host.toggle host.waiting known) before k.host)

    part_same : parts_then n ≡ parts n
    part_same = sym now_is ∙ ap (λ (ps : StructureSets). ps n) all ∙ there

    own : After (known ++ bytes) bytes
    own =
        let f = finish (known ++ bytes) q (ap (λ (part : Structures). part n) part_same ∙ k.head) k.is
        (subst RestsToStart behind (own_out_rests kind m.last q m.out m.reply streams below is_made.sent.all))
        (subst (λ (part : Structures). OutHost kind part other n q i place after (hand_host other n q).toggle (hand_host other n q).waiting
        (known ++ bytes)) (sym part_same)
        (subst (λ (host : HostSide). OutHost kind (parts n) other n q i place after host.toggle host.waiting
        (known ++ bytes)) behind host_then))
        in
        (f.0, makes_one works part_same)

    -- the bytes that it moved are those that are told
    settled_so : Settles kind q m.out m.last m.reply
    settled_so = a_transaction_settles kind q m.out m.last m.reply is_made.sent.all

    unturned : z.host.toggle ≡ q.token.toggle → is_moved z.outcome ≡ false
    unturned same_one = by (is_moved z.outcome) refl
      where
        by : (b : Bool) → is_moved (settlement_as kind k.queue m.out m.last m.reply).outcome ≡ b
            → is_moved (settlement_as kind k.queue m.out m.last m.reply).outcome ≡ false
        by false still = still
        by true on =
            absurd (not_itself q.token.toggle (sym same_one ∙ settled_so.host.toggle
            ∙ ap (λ (b : Bool). if b then not q.token.toggle else q.token.toggle) on))

    told_none : SameTold one parts other parts_then → bytes ≡ []
    told_none told =
        let has : HasToggle other parts_then n side.toggle = told.toggle n side.toggle had in
        let now_toggle : side.toggle ≡ z.host.toggle = has.is ∙ ap (λ (l : Hand). hand_toggle l n has.queue) is_made.left
        ∙ ap (λ (b : Bool). if b then z.host.toggle else has.queue.token.toggle) (eq-eqb m.held.at n (m.at_same ∙ at)) in
        out_none_moved q is_made.sent.element z (buffer_of (parts n) is_made.sent.element) below.out
        (unturned (sym now_toggle ∙ ap (λ (host : HostSide). host.toggle) before))

    grown : (a : Asks transacts_by parts one wire after other) (same_parts : parts_then ≡ parts)
        (g : Grows one parts other a.copy (came_to a) a.sent.element)
        → bytes_of_both {begins = begins_by} {Beside = IsIsoAsk (both descs parts)} n (moved (grows a same_parts g)) ≡ bytes
    grown a same_parts g =
        let copy : a.copy ≡ m.copy = copies a.copy m.copy (sym a.in_hand ∙ m.in_hand) in
        let there_too : a.copy.at ≡ n = ap (λ (y : Copy). y.at) copy ∙ at in
        let queue : a.copy.queue ≡ q = ap (λ (y : Copy). y.queue) copy ∙ queue_is in
        let came : came_to a ≡ z = settlements a.held m.held (came_to a) z (sym a.later_is ∙ is_made.left) in
        let element : a.sent.element ≡ is_made.sent.element =
        found_element (parts n q.current) a.sent.element is_made.sent.element
        (ap (λ (y : Qh). parts n y.current) (sym queue) ∙ ap (λ (j : ℕ). parts j a.copy.queue.current) (sym there_too) ∙ a.sent.here)
        is_made.sent.here in
        ap (λ (b : Bool). if b then moved_bytes a.copy.queue a.sent.element (came_to a)
        (buffer_of (parts a.copy.at) a.sent.element) else [])
        (eq-eqb a.copy.at n there_too)
        ∙ ap (λ (j : ℕ). moved_bytes a.copy.queue a.sent.element (came_to a) (buffer_of (parts j) a.sent.element)) there_too
        ∙ ap (λ (y : Qh). moved_bytes y a.sent.element (came_to a) (buffer_of (parts n) a.sent.element)) queue
        ∙ ap (λ (t : Qtd). moved_bytes q t (came_to a) (buffer_of (parts n) t)) element
        ∙ ap (λ (s : Settlement). moved_bytes q is_made.sent.element s (buffer_of (parts n) is_made.sent.element)) came
      where
        copies : (e f : Copy) → Copied e ≡ Copied f → e ≡ f
        copies e f is = cc

        settlements : (e f : Copy) (s t : Settlement) → Settled e s ≡ Settled f t → s ≡ t
        settlements e f s t is = cc

    as_told : (z : BothStreamEffect begins_by (IsIsoAsk (both descs parts)) transacts_by parts one wire after parts_then other)
        → bytes_of_both n z ≡ bytes
    as_told (begun index allowed begins told) = sym (told_none told)
    as_told (moved (same told quiet_wire)) = sym (told_none told)
    as_told (moved (aside told ask out reply is_iso made)) = sym (told_none told)
    as_told (moved (grows a same_parts g)) = grown a same_parts g

    own_by : (z : BothStreamEffect begins_by (IsIsoAsk (both descs parts)) transacts_by parts one wire after parts_then other)
        → After (known ++ bytes_of_both n z) (bytes_of_both n z)
    own_by z = subst (λ (ys : List ℕ). After (known ++ ys) ys) (sym (as_told z)) own

  goes_by : HostGoes (both descs parts) now one other n wire after Made
      → (z : BothStreamEffect begins_by (IsIsoAsk (both descs parts)) transacts_by parts one wire after parts_then other)
      → After (known ++ bytes_of_both n z) (bytes_of_both n z)
  goes_by (makes_own m at all makes) z = own_by m at all makes z
  goes_by (stays still unmade) z = still_by still unmade z

  pub goes_on_so : (z : BothStreamEffect begins_by (IsIsoAsk (both descs parts)) transacts_by parts one wire after parts_then other)
      → After (known ++ bytes_of_both n z) (bytes_of_both n z)
  goes_on_so z = goes_by goes z

pub event_keeps_out_behind : EventKeepsOutBehind
event_keeps_out_behind kind near n x i place known base member met d descs parts hand frame c wire after now later frame_later describing
    runs effect asked alone iso streams walked fresh part_is part_now hub_after z k =
    goes_on_so kind near n x i place known base member met d descs parts hand frame c wire after now later frame_later describing
    runs effect asked alone iso streams walked fresh part_is part_now hub_after k z
