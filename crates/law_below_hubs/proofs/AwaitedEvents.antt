-- What the host of a bulk or control endpoint below a hub waits for is there, or comes, after each event of the controller.
use Rattle.std.proofs.Common.{◌≡◌, ◌≢◌, ℕ, ◌==◌, ◌&&◌, Bool, true, false, if◌then◌else◌, List, slice_get, Option, Some, None}
use Rattle.std.proofs.Common.{ap, refl, sym, subst, ◌∙◌, ⊎_elim, inl, inr}
use Rattle.std.specs.Prelude.{◌⊎◌}
use Rattle.std.proofs.lemmas.Bool.{cases_eq, eq-eqb, false≢true}
use Rattle.usb_base.specs.declared.packets.Ask.{Ask}
use Rattle.usb_base.specs.declared.packets.Dir.{Dir}
use Rattle.usb_base.specs.declared.packets.Dir.TheVariants as Directions
use Rattle.usb_base.specs.declared.packets.EpKind.{EpKind}
use Rattle.usb_base.specs.declared.packets.Pid.{Pid}
use Rattle.usb_base.specs.declared.packets.Pid.TheVariants as Pids
use Rattle.hub_keys.specs.Keys.{direction_of, key_of, is_same_direction}
use Rattle.hub_keys.specs.declared.key.Key.{Key}
use Rattle.bus_wire.specs.Asking.{translator_answer}
use Rattle.bus_wire.specs.Bus.{Wired}
use Rattle.qh_qtd.specs.declared.qtd.Qtd.{Qtd}
use Rattle.qh_qtd.specs.declared.queue_head.Qh.{Qh}
use Rattle.drv_table.specs.DriverContent.{DriverContent}
use Rattle.drv_table.specs.Words.{is_control}
use Rattle.toggle_error.specs.declared.host.HostSide.{HostSide}
use Rattle.hc_copy.specs.declared.held.Transaction.{Transaction}
use Rattle.hc_copy.specs.Planning.{pid_at, host_in, transaction_of}
use Rattle.hc_copy.specs.Transacting.{call_in}
use Rattle.async_walk.specs.Naks.{kind_at}
use Rattle.hc_core.specs.Controller.{Content}
use Rattle.claims_base.specs.Controller.{Base}
use Rattle.law_structures.specs.lent_structures.Structures.{QueueHead, Element, Structures, StructureSets}
use Rattle.law_structures.specs.lent_structures.Alters.{HadElement, Alters}
use Rattle.law_structures.specs.lent_structures.Sound.{IsWorking, IsSoundQueue}
use Rattle.law_structures.proofs.lemmas.lent_structures.Altering.{found_queue}
use Rattle.law_structures.proofs.lemmas.lent_structures.Members.{still_active}
use Rattle.law_ring.specs.Hand.{Settlement, Hand, Settled}
use Rattle.law_ring.specs.Effects.{settlement_as, Asks, came_to}
use Rattle.law_ring.specs.QueueParts.{IsQueuePart}
use Rattle.law_ring.specs.Told.{Endpoint, endpoint_of, HasEndpoint}
use Rattle.law_ring.specs.Streams.StreamEffect.{same, aside, grows}
use Rattle.law_controller.specs.controlled_streams.Kept.{KeepsEach}
use Rattle.law_frames.specs.Met.{Kind, AQueue}
use Rattle.law_frames.specs.FrameHand.{FrameHand}
use Rattle.law_frames.specs.FrameStreams.{IsIsoAsk}
use Rattle.law_controller.specs.frame_control.Both.{RunsBoth, BothEffect}
use Rattle.law_controller.specs.frame_control.Joined.{joined, BothStreamEffect, begun, moved}
use Rattle.law_devices.specs.scripted_requests.Controls.{transacts_by, begins_by}
use Rattle.law_descriptors.specs.Both.{owns, both, parts_now}
use Rattle.law_descriptors.specs.PartLaws.{IsDescribing}
use Rattle.law_descriptors.specs.queue_events.Pipes.{AskedAreNear}
use Rattle.law_descriptors.proofs.Standing.{both_off}
use Rattle.law_descriptors.proofs.Telling.{queue_off}
use Rattle.law_descriptors.proofs.lemmas.queue_events.Events.{both_keeps_structures}
use Rattle.law_translated.specs.Lift.{Buffered}
use Rattle.law_translated.specs.KeySlots.{way_of}
use Rattle.law_below_hubs.specs.Awaited.{IsTokenOf, of_in, of_out, of_setup, IsOfWay, awaits, awaits_in, KeyStands, Asking, Moves, Controls}
use Rattle.law_below_hubs.specs.Awaited.{its_kind, IsMoving, IsCodeOf, faces, IsSplitTo, starts, completes, own_key, IsHostOf, RestsIdle}
use Rattle.law_below_hubs.specs.Awaited.{OwnAwaited, IsAwaiting, HearsAll, EventKeepsAwaiting, UnaskedLeavesKey}
use Rattle.law_below_hubs.specs.HostEvents.{hand_host, RestsToStart, StartsFirst, IsHostLike, told_key, AsksAlone, SparesKeyNow}
use Rattle.law_below_hubs.specs.HostOuts.{IsOfOther}
use Rattle.law_below_hubs.specs.Splits.{IsAtHub}
use Rattle.law_below_hubs.proofs.AwaitedHeads.{IsHeadStill, head_stays}
use Rattle.law_below_hubs.proofs.AwaitedSettles.{pid_cases}
use Rattle.law_below_hubs.proofs.AwaitedKeys.{own_splits_are_awaited, others_leave_key}
use Rattle.law_below_hubs.proofs.AwaitedBegins.{begin_leaves_key}
use Rattle.law_below_hubs.proofs.HostAsks.{first_still, asks_other}
use Rattle.law_below_hubs.proofs.HostCarries.{HostStays, IsUnmade, IsMadeBy, by_ring, by_frames, HostGoes, makes_own, stays, host_goes}
use Rattle.law_below_hubs.proofs.HostOpens.{asked_other}
use Rattle.law_below_hubs.proofs.HostSettles.{is_starting, is_completing}

-- ---- what is awaited is of the key's direction

code_token : (control : Bool) (code : ℕ) → (pid_at code ≡ Pids.Setup → control ≡ true)
    → IsTokenOf control (pid_at code) (direction_of (pid_at code))
code_token control code setup = by (pid_at code) (pid_cases code) setup
  where
    by : (pid : Pid) → (pid ≡ Pids.In) ⊎ ((pid ≡ Pids.Out) ⊎ (pid ≡ Pids.Setup)) → (pid ≡ Pids.Setup → control ≡ true)
        → IsTokenOf control pid (direction_of pid)
    by pid (inl is) setup = of_in is (ap direction_of is)
    by pid (inr (inl is)) setup = of_out is (ap direction_of is)
    by pid (inr (inr is)) setup = of_setup (setup is) is (ap direction_of is)

-- a bulk endpoint has no SETUP
moves_none : (a : Asking) (code : ℕ) → IsMoving a → IsCodeOf a code → pid_at code ≡ Pids.Setup → is_control (its_kind a) ≡ true
moves_none Controls code moving is setup = refl
moves_none (Moves its) code (inl one) is setup = absurd (let both : _ ≡ _ = sym setup ∙ ap pid_at (is ∙ one) in cc)
moves_none (Moves its) code (inr none) is setup = absurd (let both : _ ≡ _ = sym setup ∙ ap pid_at (is ∙ none) in cc)

same_directions : (one other : Dir) → is_same_direction one other ≡ true → one ≡ other
same_directions Directions.In Directions.In is = refl
same_directions Directions.Out Directions.Out is = refl
same_directions Directions.In Directions.Out is = absurd (false≢true is)
same_directions Directions.Out Directions.In is = absurd (false≢true is)

same_direction : (dir : Dir) → is_same_direction dir dir ≡ true
same_direction Directions.In = refl
same_direction Directions.Out = refl

pub is_of_way : (a : Asking) (dir : Dir) (waiting : Bool) (code : ℕ) → IsMoving a → (waiting ≡ true → IsCodeOf a code)
    → IsOfWay (is_control (its_kind a)) (awaits_in dir waiting (pid_at code)) dir
is_of_way a dir false code moving of = tt
is_of_way a dir true code moving of = by (is_same_direction (direction_of (pid_at code)) dir) refl
  where
    by : (b : Bool) → is_same_direction (direction_of (pid_at code)) dir ≡ b
        → IsOfWay (is_control (its_kind a)) (if b then Some (pid_at code) else None) dir
    by false is = tt
    by true is =
        subst (IsTokenOf (is_control (its_kind a)) (pid_at code)) (same_directions (direction_of (pid_at code)) dir is)
        (code_token (is_control (its_kind a)) code (moves_none a code moving (of refl)))

-- in its own direction, and in the other one
pub own_awaits : (waiting : Bool) (pid : Pid) → awaits_in (direction_of pid) waiting pid ≡ awaits waiting pid
own_awaits waiting pid = ap (λ (b : Bool). awaits (waiting && b) pid) (same_direction (direction_of pid)) ∙ by waiting
  where
    by : (b : Bool) → awaits (b && true) pid ≡ awaits b pid
    by true = refl
    by false = refl

beside_awaits : (dir : Dir) (waiting : Bool) (pid : Pid) → is_same_direction (direction_of pid) dir ≡ false
    → awaits_in dir waiting pid ≡ None
beside_awaits dir waiting pid differs = ap (λ (b : Bool). awaits (waiting && b) pid) differs ∙ by waiting
  where
    by : (b : Bool) → awaits (b && false) pid ≡ None
    by true = refl
    by false = refl

-- where it waits for nothing, whatever its token
rested : (dir : Dir) (waiting : Bool) (one other : Pid) → (waiting ≡ true → one ≡ other)
    → awaits_in dir waiting one ≡ awaits_in dir waiting other
rested dir false one other alike = refl
rested dir true one other alike = ap (awaits_in dir true) (alike refl)

pub its_way : (a : Asking) → way_of (its_kind a) ≡ Some Buffered
its_way (Moves code) = refl
its_way Controls = refl

ring_kind : (a : Asking) → kind_at (is_control (its_kind a)) ≡ its_kind a
ring_kind (Moves code) = refl
ring_kind Controls = refl

pub faces_own : (a : Asking) (code : ℕ) → IsCodeOf a code → faces a (direction_of (pid_at code))
faces_own (Moves its) code is = ap (λ (c : ℕ). direction_of (pid_at c)) is
faces_own Controls code is = tt

-- it works on such a qTD
codes_at : (a : Asking) (one other : ℕ) → one ≡ other → IsCodeOf a other → IsCodeOf a one
codes_at a one other alike is = subst (IsCodeOf a) (sym alike) is

-- the host's transaction is a split one of its key
module _ (kind : EpKind) (q : Qh) (out : List ℕ) (below : (q.eps == 2) ≡ false) where
  abbrev IsOwn : Transaction → Type 0
  IsOwn t = IsSplitTo q.hub q.port (call_in t out false).ask.split × (key_of (call_in t out false).ask ≡ own_key kind q.token.pid q)
      × ((call_in t out false).ask.pid ≡ pid_at q.token.pid)

  own_by : (b : Bool) → q.token.split_state ≡ b → IsOwn (transaction_of kind q)
  own_by false state = subst IsOwn (sym (is_starting kind q q.token.pid below state refl)) (starts, refl, refl)
  own_by true state = subst IsOwn (sym (is_completing kind q q.token.pid below state refl)) (completes, refl, refl)

  pub own_split : IsOwn (transaction_of kind q)
  own_split = own_by q.token.split_state refl

-- an active qTD stays one of its codes
pub ways_still : (a : Asking) (part now : Structures) → Alters part now
    → ((b : ℕ) (t : Qtd) → part b ≡ Some (Element t) → t.token.active ≡ true → IsCodeOf a t.token.pid)
    → (b : ℕ) (t : Qtd) → now b ≡ Some (Element t) → t.token.active ≡ true → IsCodeOf a t.token.pid
ways_still a part now alters were b u here on =
    let had : HadElement part b u = alters.element_before b u here in
    let same : u ≡ had.qtd = still_active had.qtd u had.after on in
    subst (λ (t : Qtd). IsCodeOf a t.token.pid) (sym same)
    (were b had.qtd had.here (ap (λ (t : Qtd). t.token.active) (sym same) ∙ on))

module _ (a : Asking) (near : ℕ → Bool) (n : ℕ) (x : Endpoint) (i place : ℕ) (base : Base) (member : ℕ → Bool)
    (met : ℕ → Option Kind) (d : DriverContent) (descs parts : StructureSets) (hand : Hand) (frame : FrameHand) (c : Content)
    (wire after : Wired) (now : StructureSets) (later : Hand) (frame_later : FrameHand) (describing : IsDescribing d descs parts)
    (runs : RunsBoth base member met (both descs parts) hand frame c)
    (effect : BothEffect begins_by transacts_by (both descs parts) c.control hand frame wire after now later frame_later)
    (asked : AskedAreNear near parts (joined hand frame)) (alone : (dir : Dir) → faces a dir → AsksAlone dir near parts n x)
    (iso : (dir : Dir) → faces a dir → (ask : Ask) → IsIsoAsk (both descs parts) ask → IsOfOther (told_key (its_kind a) dir x) ask)
    (unmet : met n ≡ Some AQueue → ⊥) (part_is : IsQueuePart n (parts n)) (part_now : IsQueuePart n (parts_now descs parts now n))
    (hub_after : IsAtHub after.bus.hubs x.hub x.port i place)
    (spares : (dir : Dir) → faces a dir → SparesKeyNow (told_key (its_kind a) dir x) i place wire after)
    (hears : HearsAll a x i wire after) (moving : IsMoving a)
    (k : IsAwaiting a wire i place parts (joined hand frame) n x) where
  abbrev one : Hand
  one = joined hand frame

  abbrev other : Hand
  other = joined later frame_later

  abbrev parts_then : StructureSets
  parts_then = parts_now descs parts now

  abbrev q : Qh
  q = k.queue

  abbrev side : HostSide
  side = hand_host (joined hand frame) n k.queue

  abbrev its_key : Dir → Key
  its_key dir = told_key (its_kind a) dir x

  off : owns descs n ≡ false
  off = queue_off d descs parts describing n n (QueueHead part_is.queue) part_is.here

  there : both descs parts n ≡ parts n
  there = both_off descs parts n off

  now_is : now n ≡ parts_then n
  now_is = sym (ap (λ (b : Bool). if b then parts n else now n) off)

  alters : Alters (parts n) (parts_then n)
  alters =
      let kept : KeepsEach parts (parts_now descs parts now) =
      both_keeps_structures begins_by transacts_by base member met descs parts hand frame c wire after now later frame_later runs effect in
      (kept n).alters

  head_both : both descs parts n n ≡ Some (QueueHead k.queue)
  head_both = ap (λ (part : Structures). part n) there ∙ k.head

  abbrev Made : Asks transacts_by (both descs parts) (joined hand frame) wire after (joined later frame_later) → Type 0
  Made = IsMadeBy member met (both descs parts) c.control.frame frame frame_later (joined hand frame) (joined later frame_later) wire after

  goes : HostGoes (both descs parts) now (joined hand frame) (joined later frame_later) n wire after Made
  goes = host_goes base member met (both descs parts) hand frame c wire after now later frame_later runs n k.queue head_both effect

  abbrev Awaiting : Type 0
  Awaiting = IsAwaiting a after i place (parts_now descs parts now) (joined later frame_later) n x

  abbrev Keys : Wired → Bool → ℕ → Type 0
  Keys v waiting code = (dir : Dir) → faces a dir → KeyStands (told_key (its_kind a) dir x) i place v (awaits_in dir waiting (pid_at code))

  finish : (r : Qh) → parts_then n n ≡ Some (QueueHead r) → x ≡ endpoint_of r → RestsIdle (hand_host other n r)
      → ((hand_host other n r).waiting ≡ true → IsCodeOf a r.token.pid) → Keys after (hand_host other n r).waiting r.token.pid → Awaiting
  finish r here is rests waits keys = record {
    queue = r;
    head = here;
    is = is;
    below = k.below;
    own = k.own;
    ways = ways_still a (parts n) (parts_then n) alters k.ways;
    first = first_still (parts n) (parts_then n) alters k.first;
    rests = rests;
    waits = waits;
    hub = hub_after;
    keys = keys;
  }

  -- ---- no transaction of it

  idle : RestsToStart side
  idle stops on = k.rests stops

  quiet : HostStays (both descs parts) now one other n → IsUnmade (both descs parts) now one other n → HasEndpoint parts_then n x
      → Keys after side.waiting q.token.pid → Awaiting
  quiet still unmade named keys =
      let r : Qh = named.queue in
      let there_now : now n n ≡ Some (QueueHead r) = ap (λ (part : Structures). part n) now_is ∙ named.head in
      let z : IsHostLike side (hand_host other n r) = still q r head_both there_now (subst StartsFirst (sym there) k.first) idle in
      let y : IsHeadStill one other n q r =
      head_stays base member met (both descs parts) hand frame c wire after now later frame_later runs n
      k.queue head_both unmet effect unmade
      q r head_both there_now k.rests in
      finish r named.head named.is
      (λ stops. by (hand_host (joined hand frame) n k.queue).waiting refl z y stops)
      (λ on. codes_at a r.token.pid q.token.pid (y.pid (sym z.waiting ∙ on)) (k.waits (sym z.waiting ∙ on)))
      (λ dir its. subst (KeyStands (told_key (its_kind a) dir x) i place after)
      (rested dir side.waiting (pid_at q.token.pid) (pid_at r.token.pid) (λ on. ap pid_at (sym (y.pid on)))
      ∙ ap (λ (b : Bool). awaits_in dir b (pid_at r.token.pid)) (sym z.waiting)) (keys dir its))
    where
      by : (b : Bool) → (hand_host (joined hand frame) n k.queue).waiting ≡ b
          → IsHostLike (hand_host (joined hand frame) n k.queue) (hand_host (joined later frame_later) n named.queue)
          → IsHeadStill (joined hand frame) (joined later frame_later) n k.queue named.queue
          → (hand_host (joined later frame_later) n named.queue).active ≡ false
          → (hand_host (joined later frame_later) n named.queue).waiting ≡ false
      by false is z y stops = z.waiting ∙ is
      by true is z y stops = z.waiting ∙ k.rests (sym (y.active is) ∙ stops)

  has_now : HasEndpoint parts n x
  has_now = record { queue = q; head = k.head; is = k.is }

  way_of_key : (dir : Dir) → IsOfWay (is_control (its_kind a)) (awaits_in dir side.waiting (pid_at q.token.pid)) dir
  way_of_key dir = is_of_way a dir side.waiting q.token.pid moving k.waits

  module _ (still : HostStays (both descs parts) now one other n) (unmade : IsUnmade (both descs parts) now one other n) where
    beside : (m : Asks transacts_by parts one wire after other) → m.copy.at ≢ n → parts_then ≡ parts → Awaiting
    beside m differs all =
        quiet still unmade (subst (λ (ps : StructureSets). HasEndpoint ps n x) (sym all) has_now) (λ dir its.
        let b = alone dir its m.copy.at (asked m.copy m.in_hand m.here m.works) differs in
        let is : b.0 ≡ endpoint_of m.copy.queue = b.1.is
        ∙ ap endpoint_of (found_queue (parts m.copy.at m.copy.at) b.1.queue m.copy.queue b.1.head m.here) in
        let else_asked : IsOfOther (its_key dir) (call_in (transaction_of m.kind m.copy.queue) m.out m.last).ask =
        asks_other (its_kind a) dir (parts m.copy.at) m.copy.at m.copy.queue m.kind m.out m.last x b.0 m.part_is m.here m.works is b.2 in
        others_leave_key (its_key dir) i place wire (call_in (transaction_of m.kind m.copy.queue) m.out m.last).ask
        (call_in (transaction_of m.kind m.copy.queue) m.out m.last).out m.reply after (awaits_in dir side.waiting (pid_at q.token.pid))
        (its_way a) else_asked
        (spares dir its (call_in (transaction_of m.kind m.copy.queue) m.out m.last).ask
        (call_in (transaction_of m.kind m.copy.queue) m.out m.last).out m.reply m.made) m.made (k.keys dir its))

    still_by : BothStreamEffect begins_by (IsIsoAsk (both descs parts)) transacts_by parts one wire after parts_then other → Awaiting
    still_by (begun index allowed begins told) =
        quiet still unmade (told.endpoint n x has_now) (λ dir its.
        subst (λ (v : Wired). KeyStands (its_key dir) i place v (awaits_in dir side.waiting (pid_at q.token.pid))) (sym begins.1)
        (begin_leaves_key (its_key dir) i place index wire (awaits_in dir side.waiting (pid_at q.token.pid))
        (way_of_key dir) (k.keys dir its)))
    still_by (moved (same told quiet_wire)) =
        quiet still unmade (told.endpoint n x has_now)
        (subst (λ (v : Wired). Keys v side.waiting q.token.pid) (sym quiet_wire) k.keys)
    still_by (moved (aside told ask out reply is_iso made)) =
        quiet still unmade (told.endpoint n x has_now) (λ dir its.
        others_leave_key (its_key dir) i place wire ask out reply after (awaits_in dir side.waiting (pid_at q.token.pid)) (its_way a)
        (iso dir its ask is_iso) (spares dir its ask out reply made) made (k.keys dir its))
    still_by (moved (grows m all g)) =
        ⊎_elim
        (λ (at : m.copy.at ≡ n). absurd (unmade m.held (came_to m) m.later_is (m.at_same ∙ at) m.copy m.in_hand))
        (λ (differs : m.copy.at ≢ n). beside m differs all)
        (cases_eq m.copy.at n)

  -- ---- its own transaction

  module _ (m : Asks transacts_by (both descs parts) (joined hand frame) wire after (joined later frame_later)) (at : m.copy.at ≡ n)
      (all : now ≡ both descs parts)
      (makes : IsMadeBy member met (both descs parts) c.control.frame frame frame_later (joined hand frame) (joined later frame_later) wire
      after m) where
    queue_is : m.copy.queue ≡ k.queue
    queue_is = found_queue (both descs parts n n) m.copy.queue q (ap (λ (j : ℕ). both descs parts j j) (sym at) ∙ m.here) head_both

    works : k.queue.token.active ≡ true
    works = ap (λ (y : Qh). y.token.active) (sym queue_is) ∙ m.works

    working : IsWorking (parts n) k.queue
    working = (subst (IsSoundQueue (parts n)) (found_queue (parts n n) part_is.queue q part_is.here k.head) part_is.sound).work works

    code_is : IsCodeOf a k.queue.token.pid
    code_is = codes_at a q.token.pid _ working.pid (k.ways q.current working.element working.here working.published)

    host_is : IsHostOf a k.queue
    host_is = record { below = ap (λ (e : Endpoint). e.speed == 2) (sym k.is) ∙ k.below; moving = moving; code = code_is }

    abbrev kind : EpKind
    kind = its_kind a

    -- the ring makes it
    kinds_are : (m.kind ≡ its_kind a) × (m.last ≡ false)
    kinds_are = by makes
      where
        by : Made m → (m.kind ≡ its_kind a) × (m.last ≡ false)
        by (by_ring on kind_at_is never) = (
          kind_at_is ∙ ap kind_at (ap (λ (y : Qh). y.dtc) queue_is ∙ ap (λ (e : Endpoint). e.dtc) (sym k.is) ∙ k.own) ∙ ring_kind a,
          never,
        )
        by (by_frames on framed r one_copy last_is) = absurd (unmet (ap met (sym at) ∙ on))

    -- what is known of the transaction, by the queue head and its kind
    record IsMade (y : Qh) (kind : EpKind) (last : Bool) : Type 0 where
      made : transacts_by wire (call_in (transaction_of kind y) m.out last).ask
          (call_in (transaction_of kind y) m.out last).out m.reply after
      left : other ≡ Settled m.held (settlement_as kind y m.out last m.reply)

    is_made : IsMade k.queue (its_kind a) false
    is_made =
        subst (λ (y : Qh). IsMade y (its_kind a) false) queue_is
        (subst (IsMade m.copy.queue (its_kind a)) kinds_are.1
        (subst (λ (x : EpKind). IsMade m.copy.queue x m.last) kinds_are.0 (record { made = m.made; left = m.later_is })))

    abbrev z : Settlement
    z = settlement_as (its_kind a) k.queue m.out false m.reply

    before : side ≡ host_in k.queue
    before = ap (λ (l : Hand). hand_host l n q) m.in_hand

    behind : (settlement_as (its_kind a) k.queue m.out false m.reply).host ≡ hand_host other n k.queue
    behind = sym (ap (λ (l : Hand). hand_host l n q) is_made.left
        ∙ ap (λ (b : Bool). if b then z.host else host_in q) (eq-eqb m.held.at n (m.at_same ∙ at)))

    abbrev own_dir : Dir
    own_dir = direction_of (pid_at k.queue.token.pid)

    -- as the queue head tells its key
    key_is : own_key (its_kind a) k.queue.token.pid k.queue ≡ its_key own_dir
    key_is = ap (told_key (its_kind a) own_dir) (sym k.is)

    abbrev ask : Ask
    ask = (call_in (transaction_of (its_kind a) k.queue) m.out false).ask

    abbrev its_split : IsOwn (its_kind a) k.queue m.out host_is.below (transaction_of (its_kind a) k.queue)
    its_split = own_split (its_kind a) k.queue m.out host_is.below

    says : m.reply ≡ translator_answer (slice_get wire.bus.hubs i) (call_in (transaction_of (its_kind a) k.queue) m.out false).ask
    says =
        let s = own_split (its_kind a) q m.out host_is.below in
        hears q.token.pid code_is ask (call_in (transaction_of (its_kind a) q) m.out false).out m.reply
        (subst (λ (e : Endpoint). IsSplitTo e.hub e.port ask.split) (sym k.is) s.0)
        (s.1 ∙ key_is) s.2 is_made.made

    awaited : OwnAwaited (its_kind a) k.queue m.out m.reply i place after
    awaited =
        own_splits_are_awaited a k.queue i place wire after m.out m.reply host_is works
        (subst (λ (e : Endpoint). IsAtHub wire.bus.hubs e.hub e.port i place) k.is k.hub) is_made.made says
        (subst (λ (key : Key). KeyStands key i place wire (awaits q.token.split_state (pid_at q.token.pid))) (sym key_is)
        (subst (λ (host : HostSide). KeyStands (its_key own_dir) i place wire (awaits host.waiting (pid_at q.token.pid))) before
        (subst (KeyStands (its_key own_dir) i place wire) (own_awaits side.waiting (pid_at q.token.pid))
        (k.keys own_dir (faces_own a q.token.pid code_is)))))

    part_same : parts_then n ≡ parts n
    part_same = sym now_is ∙ ap (λ (ps : StructureSets). ps n) all ∙ there

    -- in the other direction nothing is awaited
    keys_then : (dir : Dir) → faces a dir
        → KeyStands (told_key (its_kind a) dir x) i place after (awaits_in dir z.host.waiting (pid_at q.token.pid))
    keys_then dir its = by (is_same_direction own_dir dir) refl
      where
        by : (b : Bool) → is_same_direction (direction_of (pid_at k.queue.token.pid)) dir ≡ b
            → KeyStands (told_key (its_kind a) dir x) i place after
            (awaits_in dir (settlement_as (its_kind a) k.queue m.out false m.reply).host.waiting (pid_at k.queue.token.pid))
        by true alike =
            subst (λ (v : Dir). KeyStands (told_key (its_kind a) v x) i place after (awaits_in v z.host.waiting (pid_at q.token.pid)))
            (same_directions own_dir dir alike)
            (subst (KeyStands (its_key own_dir) i place after) (sym (own_awaits z.host.waiting (pid_at q.token.pid)))
            (subst (λ (key : Key). KeyStands key i place after (awaits z.host.waiting (pid_at q.token.pid))) key_is awaited.key))
        by false differs =
            subst (KeyStands (told_key (its_kind a) dir x) i place after)
            (sym (beside_awaits dir z.host.waiting (pid_at q.token.pid) differs))
            (others_leave_key (told_key (its_kind a) dir x) i place wire ask
            (call_in (transaction_of (its_kind a) k.queue) m.out false).out m.reply after None (its_way a)
            (λ way addr ep.
            false≢true (sym differs ∙ ap (λ (v : Dir). is_same_direction v dir)
            (sym (ap direction_of (own_split (its_kind a) q m.out host_is.below).2) ∙ way) ∙ same_direction dir))
            (spares dir its ask (call_in (transaction_of (its_kind a) k.queue) m.out false).out m.reply is_made.made) is_made.made
            (subst (KeyStands (told_key (its_kind a) dir x) i place wire) (beside_awaits dir side.waiting (pid_at q.token.pid) differs)
            (k.keys dir its)))

    own : Awaiting
    own =
        finish q (ap (λ (part : Structures). part n) part_same ∙ k.head) k.is (subst RestsIdle behind awaited.rests) (λ on. code_is)
        (λ dir its. subst (λ (host : HostSide). KeyStands (told_key (its_kind a) dir x) i place after
        (awaits_in dir host.waiting (pid_at q.token.pid))) behind (keys_then dir its))

  goes_by : HostGoes (both descs parts) now one other n wire after Made
      → BothStreamEffect begins_by (IsIsoAsk (both descs parts)) transacts_by parts one wire after parts_then other → Awaiting
  goes_by (makes_own m at all makes) effect_is = own m at all makes
  goes_by (stays still unmade) effect_is = still_by still unmade effect_is

  goes_on_so : BothStreamEffect begins_by (IsIsoAsk (both descs parts)) transacts_by parts one wire after parts_then other → Awaiting
  goes_on_so effect_is = goes_by goes effect_is

pub event_keeps_awaiting : EventKeepsAwaiting
event_keeps_awaiting a near n x i place base member met d descs parts hand frame c wire after now later frame_later describing
    runs effect asked alone iso unmet part_is part_now hub_after spares hears moving z k =
    goes_on_so a near n x i place base member met d descs parts hand frame c wire after now later frame_later describing
    runs effect asked alone iso unmet part_is part_now hub_after spares hears moving k z

-- ---- where none asks it

pub unasked_leaves_key : UnaskedLeavesKey
unasked_leaves_key kind dir near x i place descs parts hand wire after now later o is_its asked none beside spares way
    (begun index allowed begins told) key =
    subst (λ (v : Wired). KeyStands (told_key kind dir x) i place v o) (sym begins.1)
    (begin_leaves_key (told_key kind dir x) i place index wire o way key)
unasked_leaves_key kind dir near x i place descs parts hand wire after now later o is_its asked none beside spares way
    (moved (same told quiet)) key =
    subst (λ (v : Wired). KeyStands (told_key kind dir x) i place v o) (sym quiet) key
unasked_leaves_key kind dir near x i place descs parts hand wire after now later o is_its asked none beside spares way
    (moved (aside told ask out reply is made)) key =
    others_leave_key (told_key kind dir x) i place wire ask out reply after o is_its (beside ask is)
    (spares ask out reply made) made key
unasked_leaves_key kind dir near x i place descs parts hand wire after now later o is_its asked none beside spares way
    (moved (grows m all g)) key =
    others_leave_key (told_key kind dir x) i place wire (call_in (transaction_of m.kind m.copy.queue) m.out m.last).ask
    (call_in (transaction_of m.kind m.copy.queue) m.out m.last).out m.reply after o is_its
    (asked_other kind dir near x parts hand wire after later asked none m) (spares _ _ m.reply m.made) m.made key
