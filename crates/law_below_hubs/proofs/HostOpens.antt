-- How an endpoint with a stream, below a hub, begins, and that it stands so where none asks it.
use Rattle.std.proofs.Common.{◌≡◌, ℕ, Bool, true, false, not, List, [], None, refl, sym, subst, ap, ◌∙◌, inl}
use Rattle.usb_base.specs.declared.packets.Dir.{Dir}
use Rattle.usb_base.specs.declared.packets.Dir.TheVariants as Directions
use Rattle.usb_base.specs.declared.packets.EpKind.{EpKind}
use Rattle.hub_keys.specs.declared.key.Key.{Key}
use Rattle.bus_wire.specs.Bus.{Wired, begin_after}
use Rattle.claims_report.specs.Streams.{has_stream}
use Rattle.hc_copy.specs.Planning.{transaction_of}
use Rattle.hc_copy.specs.Transacting.{call_in}
use Rattle.law_structures.specs.lent_structures.Structures.{StructureSets}
use Rattle.law_ring.specs.Hand.{Hand}
use Rattle.law_ring.specs.Effects.{Asks}
use Rattle.law_ring.specs.OutPipes.{level}
use Rattle.law_ring.specs.Streams.StreamEffect.{same, aside, grows}
use Rattle.law_ring.specs.Told.{Endpoint, endpoint_of}
use Rattle.law_controller.specs.frame_control.Joined.{begun, moved}
use Rattle.law_structures.proofs.lemmas.lent_structures.Altering.{found_queue}
use Rattle.law_devices.specs.scripted_requests.Controls.{transacts_by}
use Rattle.law_descriptors.specs.queue_events.Pipes.{AskedAreNear}
use Rattle.law_translated.specs.InPipes.{in_opening}
use Rattle.law_translated.specs.Lift.{Idle, Empty}
use Rattle.law_translated.specs.OutPipes.{out_opening}
use Rattle.law_translated.proofs.Receiving.{opening_counts}
use Rattle.law_below_hubs.specs.HostEvents.{hand_host, told_key}
use Rattle.law_below_hubs.specs.HostIns.{starts, begun_timely, InSide}
use Rattle.law_below_hubs.specs.HostOpens.{OutOpens, InOpens, HeadOpensOut, HeadOpensIn, AsksNone, UnaskedLeavesOut, UnaskedLeavesIn}
use Rattle.law_below_hubs.specs.HostOuts.{OutSide, IsOfOther}
use Rattle.law_below_hubs.proofs.HostAsks.{asks_other}
use Rattle.law_below_hubs.proofs.HostBeside.{others_leave_out, begin_leaves_out}
use Rattle.law_below_hubs.proofs.HostInBeside.{others_leave_in, begin_leaves_in, rested_is_timely}

-- ---- nothing was asked

pub out_opens : OutOpens
out_opens k i place w has right taker = record {
  line = out_opening;
  slot = Empty;
  knows = refl;
  sends = refl;
  rest = refl;
  has = has;
  right = right;
  taker = taker;
  holds = record { near = inl refl; sends_parity = refl; expects_parity = refl };
}

pub in_opens : InOpens
in_opens packets k i place w going timely has right sender = record {
  line = in_opening packets;
  wait = Idle;
  slot = Empty;
  is_wait = starts;
  in_time = λ one on late. cc;
  knows = refl;
  expects = refl;
  goes = λ on. refl;
  has = has;
  right = right;
  sender = sender;
  holds = record { at = opening_counts packets; aside = tt };
}

-- ---- a new queue head

pub head_opens_out : HeadOpensOut
head_opens_out kind w i place parts hand n x q head is below own outs first host hub side = (
  record {
    queue = q;
    head = head;
    is = is;
    below = below;
    own = own;
    outs = outs;
    first = first;
    rests = λ off on. host.waiting;
    hub = hub;
    host = record {
      next = None;
      side = subst (λ (b : Bool). OutSide (told_key kind Directions.Out (endpoint_of q)) i place w b (hand_host hand n q).waiting [] None)
          (sym host.toggle)
          (subst (λ (b : Bool). OutSide (told_key kind Directions.Out (endpoint_of q)) i place w false b [] None) (sym host.waiting)
          (subst (λ (y : Endpoint). OutSide (told_key kind Directions.Out y) i place w false false [] None) is side));
      agrees = level refl refl;
    };
  },
  refl,
)

pub head_opens_in : HeadOpensIn
head_opens_in kind packets w i place timely parts hand n x q head is below own ins first host hub side = record {
  queue = q;
  head = head;
  is = is;
  below = below;
  own = own;
  ins = ins;
  first = first;
  rests = λ off on. host.waiting;
  hub = hub;
  side = subst (λ (b : Bool). InSide packets (told_key kind Directions.In x) i place w b (hand_host hand n q).waiting
      (not (hand_host hand n q).halted) timely []) (sym host.toggle)
      (subst (λ (b : Bool). InSide packets (told_key kind Directions.In x) i place w false b (not (hand_host hand n q).halted)
      timely [])
      (sym host.waiting) (side (not (hand_host hand n q).halted)));
}

-- ---- where none asks it

pub asked_other : (own : EpKind) (dir : Dir) (near : ℕ → Bool) (x : Endpoint) (parts : StructureSets) (hand : Hand) (wire after : Wired)
    (later : Hand)
    → AskedAreNear near parts hand → AsksNone dir near parts x → (m : Asks transacts_by parts hand wire after later)
    → IsOfOther (told_key own dir x) (call_in (transaction_of m.kind m.copy.queue) m.out m.last).ask
asked_other own dir near x parts hand wire after later asked none m =
    let b = none m.copy.at (asked m.copy m.in_hand m.here m.works) in
    let is : b.0 ≡ endpoint_of m.copy.queue = b.1.is
    ∙ ap endpoint_of (found_queue (parts m.copy.at m.copy.at) b.1.queue m.copy.queue b.1.head m.here) in
    asks_other own dir (parts m.copy.at) m.copy.at m.copy.queue m.kind m.out m.last x b.0 m.part_is m.here m.works is b.2

pub unasked_leaves_out : UnaskedLeavesOut
unasked_leaves_out kind near x i place descs parts hand wire after now later h waiting known next asked none beside streams
    (begun index allowed begins told) side =
    subst (λ (v : Wired). OutSide (told_key kind Directions.Out x) i place v h waiting known next) (sym begins.1)
    (begin_leaves_out (told_key kind Directions.Out x) i place index wire h waiting known next refl side)
unasked_leaves_out kind near x i place descs parts hand wire after now later h waiting known next asked none beside streams
    (moved (same told quiet)) side =
    subst (λ (v : Wired). OutSide (told_key kind Directions.Out x) i place v h waiting known next) (sym quiet) side
unasked_leaves_out kind near x i place descs parts hand wire after now later h waiting known next asked none beside streams
    (moved (aside told ask out reply is made)) side =
    others_leave_out (told_key kind Directions.Out x) i place wire ask out reply after h waiting known next refl streams
    (beside ask is) made side
unasked_leaves_out kind near x i place descs parts hand wire after now later h waiting known next asked none beside streams
    (moved (grows m all g)) side =
    others_leave_out (told_key kind Directions.Out x) i place wire (call_in (transaction_of m.kind m.copy.queue) m.out m.last).ask
    (call_in (transaction_of m.kind m.copy.queue) m.out m.last).out m.reply after h waiting known next refl streams
    (asked_other kind Directions.Out near x parts hand wire after later asked none m) m.made side

-- its host doesn't wait, so it is in time whatever begins
rests_begun : (packets : List (List ℕ)) (k : Key) (i place index : ℕ) (w : Wired) (h going timely : Bool) (known : List ℕ)
    → k.dir ≡ Directions.In → has_stream k.kind ≡ true → InSide packets k i place w h false going timely known
    → InSide packets k i place (record w { bus = begin_after w.fixed index w.bus }) h false going timely known
rests_begun packets k i place index w h going timely known inward streams side =
    rested_is_timely packets k i place (record w { bus = begin_after w.fixed index w.bus }) h going (begun_timely index false timely) timely
    known (begin_leaves_in packets k i place index w h false going timely known inward streams side)

pub unasked_leaves_in : UnaskedLeavesIn
unasked_leaves_in kind packets near x i place descs parts hand wire after now later h going timely known asked none beside streams spares
    (begun index allowed begins told) side =
    subst (λ (v : Wired). InSide packets (told_key kind Directions.In x) i place v h false going timely known) (sym begins.1)
    (rests_begun packets (told_key kind Directions.In x) i place index wire h going timely known refl streams side)
unasked_leaves_in kind packets near x i place descs parts hand wire after now later h going timely known asked none beside streams spares
    (moved (same told quiet)) side =
    subst (λ (v : Wired). InSide packets (told_key kind Directions.In x) i place v h false going timely known) (sym quiet) side
unasked_leaves_in kind packets near x i place descs parts hand wire after now later h going timely known asked none beside streams spares
    (moved (aside told ask out reply is made)) side =
    others_leave_in packets (told_key kind Directions.In x) i place wire ask out reply after h false going timely known refl streams
    (beside ask is) (spares ask out reply made) made side
unasked_leaves_in kind packets near x i place descs parts hand wire after now later h going timely known asked none beside streams spares
    (moved (grows m all g)) side =
    others_leave_in packets (told_key kind Directions.In x) i place wire (call_in
    (transaction_of m.kind m.copy.queue) m.out m.last).ask
    (call_in (transaction_of m.kind m.copy.queue) m.out m.last).out m.reply after h false going timely known refl streams
    (asked_other kind Directions.In near x parts hand wire after later asked none m) (spares _ _ m.reply m.made) m.made side
