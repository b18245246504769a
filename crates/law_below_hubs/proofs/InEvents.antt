-- Each event of the controller leaves a bulk or interrupt IN endpoint below a hub as it must stand.
use Rattle.std.proofs.Common.{◌≡◌, ◌≢◌, ℕ, ◌==◌, ◌%◌, ◌-◌, Bool, true, false, not, if◌then◌else◌, List, [], ◌++◌, take, drop, Option, Some}
use Rattle.std.proofs.Common.{ap, refl, sym, subst, ◌∙◌, ⊎_elim}
use Rattle.std.proofs.lemmas.Bool.{cases_eq, eq-eqb, eqb-true, false≢true}
use Rattle.std.proofs.lemmas.List.{append-nil}
use Rattle.usb_base.specs.declared.packets.Ask.{Ask}
use Rattle.usb_base.specs.declared.packets.Dir.TheVariants as Directions
use Rattle.usb_base.specs.declared.packets.EpKind.{EpKind}
use Rattle.usb_base.specs.declared.packets.EpKind.TheVariants as Kinds
use Rattle.hub_keys.specs.declared.key.Key.{Key}
use Rattle.bus_wire.specs.Bus.{Wired, begin_after}
use Rattle.qh_qtd.specs.declared.qtd.Qtd.{Qtd}
use Rattle.qh_qtd.specs.declared.queue_head.Qh.{Qh}
use Rattle.drv_table.specs.DriverContent.{DriverContent}
use Rattle.toggle_error.specs.declared.host.HostSide.{HostSide}
use Rattle.hc_copy.specs.Overlay.{buffer_place}
use Rattle.hc_copy.specs.Planning.{host_in, transaction_of}
use Rattle.hc_copy.specs.Transacting.{call_in}
use Rattle.async_walk.specs.Naks.{kind_at}
use Rattle.hc_core.specs.Controller.{Content}
use Rattle.claims_base.specs.Controller.{Base}
use Rattle.claims_report.specs.Streams.{has_stream}
use Rattle.law_structures.specs.lent_structures.Settles.{is_moved, Settles}
use Rattle.law_structures.specs.lent_structures.Structures.{QueueHead, Structures, StructureSets}
use Rattle.law_structures.specs.lent_structures.Alters.{HadElement, Alters}
use Rattle.law_structures.specs.lent_structures.Sound.{IsWorking, IsSoundQueue}
use Rattle.law_structures.proofs.lemmas.lent_structures.Altering.{found_queue, found_element}
use Rattle.law_structures.proofs.lemmas.lent_structures.Members.{still_active}
use Rattle.law_common.proofs.Numbers.{other_number}
use Rattle.law_structures.proofs.lemmas.lent_structures.Settling.{a_transaction_settles}
use Rattle.law_ring.specs.Hand.{Copy, Settlement, Hand, Copied, Settled}
use Rattle.law_ring.specs.Effects.{buffer_of, AreSent, settlement_as, Asks, came_to}
use Rattle.law_ring.specs.QueueParts.{IsQueuePart}
use Rattle.law_ring.specs.Told.{hand_toggle, HasToggle, Endpoint, endpoint_of, HasEndpoint, SameTold}
use Rattle.law_ring.specs.Streams.{moved_bytes, Grows}
use Rattle.law_ring.specs.Streams.StreamEffect.{same, aside, grows}
use Rattle.law_ring.specs.Pipes.{IsIn}
use Rattle.law_common.proofs.Booleans.{not_itself}
use Rattle.law_controller.specs.controlled_streams.Kept.{KeepsEach}
use Rattle.law_frames.specs.Met.{Kind}
use Rattle.law_frames.specs.FrameHand.{FrameHand}
use Rattle.law_frames.specs.FrameStreams.{IsIsoAsk}
use Rattle.law_controller.specs.frame_control.Both.{RunsBoth, BothEffect}
use Rattle.law_controller.specs.frame_control.Joined.{joined, BothStreamEffect, begun, moved}
use Rattle.law_devices.specs.scripted_requests.Controls.{transacts_by, begins_by}
use Rattle.law_descriptors.specs.Both.{owns, both, parts_now}
use Rattle.law_descriptors.specs.PartLaws.{IsDescribing}
use Rattle.law_descriptors.specs.queue_events.Pipes.{AskedAreNear}
use Rattle.law_descriptors.specs.queue_events.Streams.{bytes_of_both}
use Rattle.law_descriptors.proofs.Standing.{both_off}
use Rattle.law_descriptors.proofs.Telling.{queue_off}
use Rattle.law_descriptors.proofs.lemmas.queue_events.Events.{both_keeps_structures}
use Rattle.law_below_hubs.specs.HostOuts.{IsOfOther}
use Rattle.law_below_hubs.specs.HostIns.{in_key, begun_timely, InSide, IsInTime, IsInBelow}
use Rattle.law_below_hubs.specs.HostEvents.{hand_host, RestsToStart, StartsFirst, IsHostLike, told_key, IsInBehind, AsksAlone}
use Rattle.law_below_hubs.specs.HostEvents.{IsWalkedAs, AsksInTime, StaysInTime, SparesKeyNow, EventKeepsInBehind}
use Rattle.law_below_hubs.specs.Splits.{IsAtHub}
use Rattle.law_below_hubs.proofs.HostAsks.{host_toggle, first_still, asks_other}
use Rattle.law_below_hubs.proofs.HostInBeside.{others_leave_in, begin_leaves_in, less_timely}
use Rattle.law_below_hubs.proofs.HostCarries.{HostStays, IsUnmade, IsMadeBy, by_ring, by_frames, HostGoes, makes_own, stays, host_goes}
use Rattle.law_below_hubs.proofs.HostIns.{own_in_goes_on}
use Rattle.law_below_hubs.proofs.HostRests.{own_in_rests, in_none_moved, in_none_got}

pub in_still : (part now : Structures) → Alters part now → IsIn part → IsIn now
in_still part now alters ins a u here on =
    let had : HadElement part a u = alters.element_before a u here in
    let same : u ≡ had.qtd = still_active had.qtd u had.after on in
    ap (λ (t : Qtd). t.token.pid) same ∙ ins a had.qtd had.here (ap (λ (t : Qtd). t.token.active) (sym same) ∙ on)

-- whether it is in time once the microframe began
begun_in_time : (index : ℕ) (waiting timely still : Bool) → (still ≡ true → timely ≡ true)
    → (still ≡ true → index % 8 ≡ 0 → waiting ≡ false) → still ≡ true → begun_timely index waiting timely ≡ true
begun_in_time index waiting timely still before off on = by (index % 8 == 0) refl
  where
    by : (b : Bool) → (index % 8 == 0) ≡ b → (if b then not waiting else timely) ≡ true
    by true is = ap not (off on (eqb-true (index % 8) 0 is))
    by false is = before on

module _ (kind : EpKind) (packets : List (List ℕ)) (near : ℕ → Bool) (n : ℕ) (x : Endpoint) (i place : ℕ) (timely still : Bool)
    (known : List ℕ) (base : Base) (member : ℕ → Bool) (met : ℕ → Option Kind) (d : DriverContent) (descs parts : StructureSets)
    (hand : Hand) (frame : FrameHand) (c : Content)
    (wire after : Wired) (now : StructureSets) (later : Hand) (frame_later : FrameHand) (describing : IsDescribing d descs parts)
    (runs : RunsBoth base member met (both descs parts) hand frame c)
    (effect : BothEffect begins_by transacts_by (both descs parts) c.control hand frame wire after now later frame_later)
    (asked : AskedAreNear near parts (joined hand frame)) (alone : AsksAlone Directions.In near parts n x)
    (iso : (ask : Ask) → IsIsoAsk (both descs parts) ask → IsOfOther (told_key kind Directions.In x) ask)
    (streams : has_stream kind ≡ true) (walked : IsWalkedAs kind member met n)
    (fresh : AsksInTime kind x i place n timely (both descs parts) c.control.frame frame wire after frame_later)
    (part_is : IsQueuePart n (parts n)) (part_now : IsQueuePart n (parts_now descs parts now n))
    (hub_after : IsAtHub after.bus.hubs x.hub x.port i place) (spares : SparesKeyNow
    (told_key kind Directions.In x) i place wire after)
    (k : IsInBehind kind packets wire i place timely known parts (joined hand frame) n x) where
  abbrev one : Hand
  one = joined hand frame

  abbrev other : Hand
  other = joined later frame_later

  abbrev parts_then : StructureSets
  parts_then = parts_now descs parts now

  abbrev q : Qh
  q = k.queue

  abbrev side : HostSide
  side = hand_host (joined hand frame) n k.queue

  abbrev Behind : List ℕ → Type 0
  Behind ys = IsInBehind kind packets after i place still ys (parts_now descs parts now) (joined later frame_later) n x

  -- ---- its part

  off : owns descs n ≡ false
  off = queue_off d descs parts describing n n (QueueHead part_is.queue) part_is.here

  there : both descs parts n ≡ parts n
  there = both_off descs parts n off

  now_is : now n ≡ parts_then n
  now_is = sym (ap (λ (b : Bool). if b then parts n else now n) off)

  alters : Alters (parts n) (parts_then n)
  alters =
      let kept : KeepsEach parts (parts_now descs parts now) =
      both_keeps_structures begins_by transacts_by base member met descs parts hand frame c wire after now later frame_later runs effect in
      (kept n).alters

  head_both : both descs parts n n ≡ Some (QueueHead q)
  head_both = ap (λ (part : Structures). part n) there ∙ k.head

  abbrev Made : Asks transacts_by (both descs parts) (joined hand frame) wire after (joined later frame_later) → Type 0
  Made = IsMadeBy member met (both descs parts) c.control.frame frame frame_later (joined hand frame) (joined later frame_later) wire after

  goes : HostGoes (both descs parts) now one other n wire after Made
  goes = host_goes base member met (both descs parts) hand frame c wire after now later frame_later runs n q head_both effect

  dtc_off : q.dtc ≡ false
  dtc_off = ap (λ (e : Endpoint). e.dtc) (sym k.is) ∙ k.own

  had : HasToggle one parts n side.toggle
  had = record { queue = q; head = k.head; own = dtc_off; is = host_toggle one n q }

  finish : (ys : List ℕ) (r : Qh) → parts_then n n ≡ Some (QueueHead r) → x ≡ endpoint_of r → RestsToStart (hand_host other n r)
      → InSide packets (told_key kind Directions.In x) i place after (hand_host other n r).toggle (hand_host other n r).waiting
      (not (hand_host other n r).halted) still ys → Behind ys
  finish ys r here is rests in_side = record {
    queue = r;
    head = here;
    is = is;
    below = k.below;
    own = k.own;
    ins = in_still (parts n) (parts_then n) alters k.ins;
    first = first_still (parts n) (parts_then n) alters k.first;
    rests = rests;
    hub = hub_after;
    side = in_side;
  }

  -- ---- no transaction of it

  abbrev InAfter : List ℕ → Type 0
  InAfter ys = InSide packets (told_key kind Directions.In x) i place after side.toggle side.waiting (not side.halted) still ys

  on_off : (b : Bool) → not b ≡ true → b ≡ false
  on_off false e = refl
  on_off true e = absurd (false≢true e)

  less : InSide packets (told_key kind Directions.In x) i place after side.toggle side.waiting (not side.halted) timely known
      → (still ≡ true → timely ≡ true)
      → InSide packets (told_key kind Directions.In x) i place after side.toggle side.waiting (not side.halted) still known
  less o fits =
      less_timely packets (told_key kind Directions.In x) i place after side.toggle side.waiting (not side.halted) timely still known fits o

  with_going : (v : Wired) (h waiting one_goes then_goes : Bool) (ys : List ℕ) → (then_goes ≡ true → one_goes ≡ true)
      → InSide packets (told_key kind Directions.In x) i place v h waiting one_goes still ys
      → InSide packets (told_key kind Directions.In x) i place v h waiting then_goes still ys
  with_going v h waiting one_goes then_goes ys goes_too s = record {
    line = s.line;
    wait = s.wait;
    slot = s.slot;
    is_wait = s.is_wait;
    in_time = s.in_time;
    knows = s.knows;
    expects = s.expects;
    goes = λ on. s.goes (goes_too on);
    has = s.has;
    right = s.right;
    sender = s.sender;
    holds = s.holds;
  }

  quiet : HostStays (both descs parts) now one other n → HasToggle other parts_then n side.toggle → HasEndpoint parts_then n x
      → InSide packets (told_key kind Directions.In x) i place after side.toggle side.waiting (not side.halted) still known → Behind known
  quiet stays_so has named in_side =
      let r : Qh = has.queue in
      let is : x ≡ endpoint_of r = named.is ∙ ap endpoint_of (found_queue (parts_then n n) named.queue r named.head has.head) in
      let z : IsHostLike side (hand_host other n r) = stays_so q r head_both (ap (λ (part : Structures). part n) now_is ∙ has.head)
      (subst StartsFirst (sym there) k.first) k.rests in
      let toggle : side.toggle ≡ (hand_host other n r).toggle = has.is ∙ sym (host_toggle other n r) in
      finish known r has.head is z.rests
      (with_going after (hand_host other n r).toggle (hand_host other n r).waiting (not side.halted)
      (not (hand_host other n r).halted) known
      (λ on. ap not (z.halted (on_off (hand_host other n r).halted on)))
      (subst (λ (b : Bool). InSide packets (told_key kind Directions.In x) i place after b (hand_host other n r).waiting
      (not side.halted) still known) toggle
      (subst (λ (b : Bool). InSide packets (told_key kind Directions.In x) i place after side.toggle b (not side.halted) still known)
      (sym z.waiting)
      in_side)))

  nothing_more : (ys : List ℕ) → ys ≡ [] → Behind known → Behind (known ++ ys)
  nothing_more ys none b = subst Behind (sym (ap (λ (zs : List ℕ). known ++ zs) none ∙ append-nil known)) b

  told_quiet : HostStays (both descs parts) now one other n → SameTold one parts other parts_then
      → InSide packets (told_key kind Directions.In x) i place after side.toggle side.waiting (not side.halted) still known → Behind known
  told_quiet stays_so told s =
      quiet stays_so (told.toggle n side.toggle had) (told.endpoint n x (record { queue = q; head = k.head; is = k.is })) s

  module _ (stays_so : HostStays (both descs parts) now one other n) (unmade : IsUnmade (both descs parts) now one other n) where
    beside : (m : Asks transacts_by parts one wire after other) → m.copy.at ≢ n → parts_then ≡ parts
        → Grows one parts other m.copy (came_to m) m.sent.element → (still ≡ true → timely ≡ true) → Behind known
    beside m differs all g fits =
        let b = alone m.copy.at (asked m.copy m.in_hand m.here m.works) differs in
        let is : b.0 ≡ endpoint_of m.copy.queue = b.1.is
        ∙ ap endpoint_of (found_queue (parts m.copy.at m.copy.at) b.1.queue m.copy.queue b.1.head m.here) in
        let else_asked : IsOfOther (told_key kind Directions.In x) (call_in (transaction_of m.kind m.copy.queue) m.out m.last).ask =
        asks_other kind Directions.In (parts m.copy.at) m.copy.at m.copy.queue m.kind m.out m.last x b.0 m.part_is m.here m.works is b.2 in
        quiet stays_so
        (subst (λ (ps : StructureSets). HasToggle other ps n side.toggle) (sym all)
        (g.other_toggles n side.toggle (λ (at : n ≡ m.copy.at). differs (sym at)) had))
        (subst (λ (ps : StructureSets). HasEndpoint ps n x) (sym all) (record { queue = q; head = k.head; is = k.is }))
        (less (others_leave_in packets (told_key kind Directions.In x) i place wire (call_in
        (transaction_of m.kind m.copy.queue) m.out m.last).ask
        (call_in (transaction_of m.kind m.copy.queue) m.out m.last).out m.reply after side.toggle side.waiting
        (not side.halted) timely known refl streams else_asked
        (spares (call_in (transaction_of m.kind m.copy.queue) m.out m.last).ask
        (call_in (transaction_of m.kind m.copy.queue) m.out m.last).out
        m.reply m.made) m.made k.side) fits)

    abbrev SideAt : Wired → Bool → Type 0
    SideAt v on = InSide packets (told_key kind Directions.In x) i place v side.toggle side.waiting (not side.halted) on known

    still_by : (z : BothStreamEffect begins_by (IsIsoAsk (both descs parts)) transacts_by parts one wire after parts_then other)
        → StaysInTime z side timely still → Behind (known ++ bytes_of_both n z)
    still_by (begun index allowed begins told) on_time =
        nothing_more [] refl
        (told_quiet stays_so told
        (subst (λ (v : Wired). SideAt v still) (sym begins.1)
        (less_timely packets (told_key kind Directions.In x) i place (record wire { bus = begin_after wire.fixed index wire.bus })
        side.toggle side.waiting (not side.halted) (begun_timely index side.waiting timely) still known
        (begun_in_time index side.waiting timely still on_time.before on_time.begun)
        (begin_leaves_in packets (told_key kind Directions.In x) i place index wire side.toggle side.waiting
        (not side.halted) timely known refl streams k.side))))
    still_by (moved (same told quiet_wire)) on_time =
        nothing_more [] refl
        (told_quiet stays_so told (subst (λ (v : Wired). SideAt v still) (sym quiet_wire)
        (less_timely packets (told_key kind Directions.In x) i place wire side.toggle side.waiting (not side.halted) timely still known
        on_time.before k.side)))
    still_by (moved (aside told ask out reply is_iso made)) on_time =
        nothing_more [] refl
        (told_quiet stays_so told
        (less (others_leave_in packets (told_key kind Directions.In x) i place wire ask out reply after side.toggle side.waiting
        (not side.halted) timely known refl streams (iso ask is_iso) (spares ask out reply made) made k.side) on_time.before))
    still_by (moved (grows m all g)) on_time =
        ⊎_elim
        (λ (at : m.copy.at ≡ n). absurd (unmade m.held (came_to m) m.later_is (m.at_same ∙ at) m.copy m.in_hand))
        (λ (differs : m.copy.at ≢ n).
        nothing_more (bytes_of_both {begins = begins_by} {Beside = IsIsoAsk (both descs parts)} n (moved (grows m all g)))
        (ap (λ (b : Bool). if b then moved_bytes m.copy.queue m.sent.element (came_to m)
        (buffer_of (parts m.copy.at) m.sent.element) else [])
        (other_number m.copy.at n differs)) (beside m differs all g on_time.before))
        (cases_eq m.copy.at n)

  -- ---- its own transaction

  module _ (m : Asks transacts_by (both descs parts) (joined hand frame) wire after (joined later frame_later)) (at : m.copy.at ≡ n)
      (all : now ≡ both descs parts)
      (makes : IsMadeBy member met (both descs parts) c.control.frame frame frame_later (joined hand frame) (joined later frame_later) wire
      after m) where
    queue_is : m.copy.queue ≡ q
    queue_is = found_queue (both descs parts n n) m.copy.queue q (ap (λ (j : ℕ). both descs parts j j) (sym at) ∙ m.here) head_both

    works : q.token.active ≡ true
    works = ap (λ (y : Qh). y.token.active) (sym queue_is) ∙ m.works

    working : IsWorking (parts n) q
    working = (subst (IsSoundQueue (parts n)) (found_queue (parts n n) part_is.queue q part_is.here k.head) part_is.sound).work works

    below : IsInBelow q
    below = record {
      below = ap (λ (e : Endpoint). e.speed == 2) (sym k.is) ∙ k.below;
      inward = working.pid ∙ k.ins q.current working.element working.here working.published;
      goes_on = working.goes_on;
    }

    -- it is made by the walk that meets the queue head
    kind_is : m.kind ≡ kind
    kind_is = by kind refl makes
      where
        by : (y : EpKind) → kind ≡ y → Made m → m.kind ≡ kind
        by Kinds.Bulk is (by_ring on kind_at_is never) =
            kind_at_is ∙ ap kind_at (ap (λ (y : Qh). y.dtc) queue_is ∙ dtc_off) ∙ sym is
        by Kinds.Bulk is (by_frames on framed r one_copy last_is) =
            absurd (subst (λ (y : EpKind). IsWalkedAs y member met n) is walked (ap met (sym at) ∙ on))
        by Kinds.Interrupt is (by_ring on kind_at_is never) =
            absurd (subst (λ (y : EpKind). IsWalkedAs y member met n) is walked (ap member (sym at) ∙ on))
        by Kinds.Interrupt is (by_frames on framed r one_copy last_is) = framed ∙ sym is
        by Kinds.Control is made_so = absurd (false≢true (ap has_stream (sym is) ∙ streams))
        by Kinds.Iso is made_so = absurd (false≢true (ap has_stream (sym is) ∙ streams))

    key_is : in_key kind q ≡ told_key kind Directions.In x
    key_is = sym (ap (told_key kind Directions.In) k.is)

    in_time : kind ≡ Kinds.Interrupt → IsInTime (in_key kind q) i place wire q.token.split_state m.last timely
    in_time is = by makes
      where
        by : Made m → IsInTime (in_key kind q) i place wire q.token.split_state m.last timely
        by (by_ring on kind_at_is never) =
            absurd (subst (λ (y : EpKind). IsWalkedAs y member met n) is walked (ap member (sym at) ∙ on))
        by (by_frames on framed r one_copy last_is) =
            subst (λ (key : Key). IsInTime key i place wire q.token.split_state m.last timely) (sym key_is)
            (subst (λ (b : Bool). IsInTime (told_key kind Directions.In x) i place wire b m.last timely)
            (ap (λ (e : Copy). e.queue.token.split_state) one_copy ∙ ap (λ (y : Qh). y.token.split_state) queue_is)
            (subst (λ (b : Bool). IsInTime (told_key kind Directions.In x) i place wire r.copy.queue.token.split_state b timely)
            (sym last_is) (fresh is r (ap (λ (e : Copy). e.at) one_copy ∙ at))))

    -- what is known of the transaction, by the queue head and its kind
    record IsMade (y : Qh) (its : EpKind) : Type 0 where
      sent : AreSent (parts n) y (transaction_of its y).bytes m.out
      made : transacts_by wire (call_in (transaction_of its y) m.out m.last).ask
          (call_in (transaction_of its y) m.out m.last).out m.reply after
      left : other ≡ Settled m.held (settlement_as its y m.out m.last m.reply)
      element : sent.element ≡ m.sent.element

    is_made : IsMade q kind
    is_made =
        subst (λ (y : Qh). IsMade y kind) queue_is
        (subst (IsMade m.copy.queue) kind_is
        (record {
          sent = record {
            element = m.sent.element;
            here = ap (λ (part : Structures). part m.copy.queue.current) (sym there)
                ∙ ap (λ (j : ℕ). both descs parts j m.copy.queue.current) (sym at) ∙ m.sent.here;
            are = m.sent.are
                ∙ ap (λ (part : Structures). take (transaction_of m.kind m.copy.queue).bytes
                (drop (buffer_place m.copy.queue - m.sent.element.offset) (buffer_of part m.sent.element)))
                (ap (both descs parts) at ∙ there);
            all = m.sent.all;
          };
          made = m.made;
          left = m.later_is;
          element = refl;
        }))

    abbrev z : Settlement
    z = settlement_as kind k.queue m.out m.last m.reply

    abbrev bytes : List ℕ
    bytes = moved_bytes k.queue is_made.sent.element (settlement_as kind k.queue m.out m.last m.reply)
        (buffer_of (parts n) is_made.sent.element)

    before : side ≡ host_in q
    before = ap (λ (l : Hand). hand_host l n q) m.in_hand

    behind : (settlement_as kind k.queue m.out m.last m.reply).host ≡ hand_host other n q
    behind = sym (ap (λ (l : Hand). hand_host l n q) is_made.left
        ∙ ap (λ (b : Bool). if b then z.host else host_in q) (eq-eqb m.held.at n (m.at_same ∙ at)))

    abbrev Side : HostSide → Wired → List ℕ → Type 0
    Side host v ys = InSide packets (told_key kind Directions.In x) i place v host.toggle host.waiting (not host.halted) timely ys

    side_then : Side z.host after (known ++ bytes)
    side_then =
        subst (λ (key : Key). InSide packets key i place after z.host.toggle z.host.waiting (not z.host.halted) timely
        (known ++ bytes))
        (sym (ap (told_key kind Directions.In) k.is))
        (own_in_goes_on kind m.last packets (parts n) q i place wire after timely known m.out m.reply streams below
        (subst (λ (e : Endpoint). IsAtHub wire.bus.hubs e.hub e.port i place) k.is k.hub) is_made.sent is_made.made in_time
        (subst (λ (key : Key). InSide packets key i place wire q.token.toggle q.token.split_state (not q.token.halted) timely known)
        (ap (told_key kind Directions.In) k.is)
        (subst (λ (host : HostSide). Side host wire known) before k.side)))

    part_same : parts_then n ≡ parts n
    part_same = sym now_is ∙ ap (λ (ps : StructureSets). ps n) all ∙ there

    own : (still ≡ true → timely ≡ true) → Behind (known ++ bytes)
    own fits =
        finish (known ++ bytes) q (ap (λ (part : Structures). part n) part_same ∙ k.head) k.is
        (subst RestsToStart behind (own_in_rests kind m.last q m.out m.reply streams below works))
        (less_timely packets (told_key kind Directions.In x) i place after (hand_host other n q).toggle (hand_host other n q).waiting
        (not (hand_host other n q).halted) timely still (known ++ bytes) fits
        (subst (λ (host : HostSide). Side host after (known ++ bytes)) behind side_then))

    -- the bytes that it moved are those that are told
    settled_so : Settles kind q m.out m.last m.reply
    settled_so = a_transaction_settles kind q m.out m.last m.reply is_made.sent.all

    unturned : z.host.toggle ≡ q.token.toggle → is_moved z.outcome ≡ false
    unturned same_one = by (is_moved z.outcome) refl
      where
        by : (b : Bool) → is_moved (settlement_as kind k.queue m.out m.last m.reply).outcome ≡ b
            → is_moved (settlement_as kind k.queue m.out m.last m.reply).outcome ≡ false
        by false still = still
        by true on =
            absurd (not_itself q.token.toggle (sym same_one ∙ settled_so.host.toggle
            ∙ ap (λ (b : Bool). if b then not q.token.toggle else q.token.toggle) on))

    told_none : SameTold one parts other parts_then → bytes ≡ []
    told_none told =
        let has : HasToggle other parts_then n side.toggle = told.toggle n side.toggle had in
        let now_toggle : side.toggle ≡ z.host.toggle = has.is ∙ ap (λ (l : Hand). hand_toggle l n has.queue) is_made.left
        ∙ ap (λ (b : Bool). if b then z.host.toggle else has.queue.token.toggle) (eq-eqb m.held.at n (m.at_same ∙ at)) in
        in_none_moved q is_made.sent.element z (buffer_of (parts n) is_made.sent.element) below.inward
        (in_none_got kind m.last q m.out m.reply below.inward is_made.sent.all
        (unturned (sym now_toggle ∙ ap (λ (host : HostSide). host.toggle) before)))

    grown : (a : Asks transacts_by parts one wire after other) (same_parts : parts_then ≡ parts)
        (g : Grows one parts other a.copy (came_to a) a.sent.element)
        → bytes_of_both {begins = begins_by} {Beside = IsIsoAsk (both descs parts)} n (moved (grows a same_parts g)) ≡ bytes
    grown a same_parts g =
        let copy : a.copy ≡ m.copy = copies a.copy m.copy (sym a.in_hand ∙ m.in_hand) in
        let there_too : a.copy.at ≡ n = ap (λ (y : Copy). y.at) copy ∙ at in
        let queue : a.copy.queue ≡ q = ap (λ (y : Copy). y.queue) copy ∙ queue_is in
        let came : came_to a ≡ z = settlements a.held m.held (came_to a) z (sym a.later_is ∙ is_made.left) in
        let element : a.sent.element ≡ is_made.sent.element =
        found_element (parts n q.current) a.sent.element is_made.sent.element
        (ap (λ (y : Qh). parts n y.current) (sym queue) ∙ ap (λ (j : ℕ). parts j a.copy.queue.current) (sym there_too) ∙ a.sent.here)
        is_made.sent.here in
        ap (λ (b : Bool). if b then moved_bytes a.copy.queue a.sent.element (came_to a)
        (buffer_of (parts a.copy.at) a.sent.element) else [])
        (eq-eqb a.copy.at n there_too)
        ∙ ap (λ (j : ℕ). moved_bytes a.copy.queue a.sent.element (came_to a) (buffer_of (parts j) a.sent.element)) there_too
        ∙ ap (λ (y : Qh). moved_bytes y a.sent.element (came_to a) (buffer_of (parts n) a.sent.element)) queue
        ∙ ap (λ (t : Qtd). moved_bytes q t (came_to a) (buffer_of (parts n) t)) element
        ∙ ap (λ (s : Settlement). moved_bytes q is_made.sent.element s (buffer_of (parts n) is_made.sent.element)) came
      where
        copies : (e f : Copy) → Copied e ≡ Copied f → e ≡ f
        copies e f is = cc

        settlements : (e f : Copy) (s t : Settlement) → Settled e s ≡ Settled f t → s ≡ t
        settlements e f s t is = cc

    as_told : (z : BothStreamEffect begins_by (IsIsoAsk (both descs parts)) transacts_by parts one wire after parts_then other)
        → bytes_of_both n z ≡ bytes
    as_told (begun index allowed begins told) = sym (told_none told)
    as_told (moved (same told quiet_wire)) = sym (told_none told)
    as_told (moved (aside told ask out reply is_iso made)) = sym (told_none told)
    as_told (moved (grows a same_parts g)) = grown a same_parts g

    own_by : (z : BothStreamEffect begins_by (IsIsoAsk (both descs parts)) transacts_by parts one wire after parts_then other)
        → StaysInTime z side timely still → Behind (known ++ bytes_of_both n z)
    own_by z on_time = subst (λ (ys : List ℕ). Behind (known ++ ys)) (sym (as_told z)) (own on_time.before)

  goes_by : HostGoes (both descs parts) now one other n wire after Made
      → (z : BothStreamEffect begins_by (IsIsoAsk (both descs parts)) transacts_by parts one wire after parts_then other)
      → StaysInTime z side timely still → Behind (known ++ bytes_of_both n z)
  goes_by (makes_own m at all makes) z on_time = own_by m at all makes z on_time
  goes_by (stays stays_so unmade) z on_time = still_by stays_so unmade z on_time

  pub goes_on_so : (z : BothStreamEffect begins_by (IsIsoAsk (both descs parts)) transacts_by parts one wire after parts_then other)
      → StaysInTime z side timely still → Behind (known ++ bytes_of_both n z)
  goes_on_so z on_time = goes_by goes z on_time

pub event_keeps_in_behind : EventKeepsInBehind
event_keeps_in_behind kind packets near n x i place timely still known base member met d descs parts hand frame c wire after now later
    frame_later describing runs effect asked alone iso streams walked fresh part_is part_now hub_after spares z k on_time =
    goes_on_so kind packets near n x i place timely still known base member met d descs parts hand frame c wire after now later frame_later
    describing runs effect asked alone iso streams walked fresh part_is part_now hub_after spares k z on_time
