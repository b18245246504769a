-- What all other transactions, and the work of the hubs, leave of an IN endpoint below a hub.
use Rattle.std.proofs.Common.{◌≡◌, ◌≢◌, ◌⊎◌, inl, inr, ℕ, ◌%◌, ◌==◌, Bool, true, false, not, if◌then◌else◌, List, Some, ap, refl, sym, subst, ◌∙◌}
use Rattle.std.specs.List.{concat}
use Rattle.std.proofs.lemmas.Bool.{false≢true}
use Rattle.usb_base.specs.declared.packets.Ask.{Ask}
use Rattle.usb_base.specs.declared.packets.Dir.TheVariants as Directions
use Rattle.usb_base.specs.declared.packets.EpKind.{EpKind}
use Rattle.usb_base.specs.declared.packets.EpKind.TheVariants as Kinds
use Rattle.usb_base.specs.declared.packets.Reply.{Reply}
use Rattle.usb_base.specs.declared.packets.Split.{Split}
use Rattle.usb_base.specs.declared.packets.Split.TheVariants.{Plain, Start, Complete}
use Rattle.hub_keys.specs.Asks.{classic_of}
use Rattle.hub_keys.specs.Keys.{direction_of, key_of, is_same_key}
use Rattle.hub_keys.specs.declared.key.Key.{Key}
use Rattle.bus_wire.specs.Bus.{Wired}
use Rattle.claims_report.specs.Streams.{has_stream}
use Rattle.law_ring.specs.Bus.{Sender}
use Rattle.law_devices.specs.scripted_requests.Controls.{transacts_by}
use Rattle.law_translated.specs.Lift.{Way, Buffered, Piped, Wait, Idle, Waits, Late, Empty, Asked, Hidden, There, Told, gone_wait, Holds}
use Rattle.law_translated.specs.InPipes.{Line, Counts, IsGone, IsNear, in_halves, in_claims}
use Rattle.law_translated.specs.KeySlots.{KeySlot, way_of}
use Rattle.law_translated.specs.KeyEvents.{left_wait, EventsOf}
use Rattle.law_translated.specs.KeySteps.{OtherStart}
use Rattle.law_translated.specs.KeySteps.OtherStart.{stays, forgets}
use Rattle.law_translated.proofs.KeyEvents.{events_of}
use Rattle.law_translated.proofs.Lifting.{run_keeps}
use Rattle.law_translated.proofs.Receiving.{in_keeps}
use Rattle.law_below_hubs.specs.Seated.{sender_at}
use Rattle.law_below_hubs.specs.Kept.{IfStart}
use Rattle.law_below_hubs.specs.HubsKeys.{HubsHave, IsOfKind, AreRightHubs}
use Rattle.law_below_hubs.specs.InWork.{in_asked, in_answer, sender_of_line}
use Rattle.law_below_hubs.specs.Splits.{LeavesKey}
use Rattle.law_below_hubs.specs.HostOuts.{its_way, IsOfOther}
use Rattle.law_below_hubs.specs.HostIns.{IsWait, starts, completes, too_late, IsTimely, in_split, InSide, SparesKey, OthersLeaveIn}
use Rattle.law_below_hubs.specs.HostIns.{begun_timely, BeginLeavesIn, RestedIsTimely, HaltedIsTimely}
use Rattle.law_below_hubs.proofs.HighBuses.{senders_above}
use Rattle.law_below_hubs.proofs.HostBeside.{other_key}
use Rattle.law_below_hubs.proofs.HostOuts.{goes_so}
use Rattle.law_below_hubs.proofs.Kept.{transactions_keep_right}
use Rattle.law_below_hubs.proofs.InBegin.{in_work_is_events}
use Rattle.law_below_hubs.proofs.SplitsBeside.{splits_by_key}

-- ---- whether the host waits

gone_still : (waiting : Bool) (u : Wait) → IsWait waiting u → IsWait waiting (gone_wait u)
gone_still _ _ starts = starts
gone_still _ _ completes = too_late
gone_still _ _ too_late = too_late

pub then_waits : (waiting : Bool) (u next : Wait) → IsWait waiting u → (next ≡ u) ⊎ (next ≡ gone_wait u) → IsWait waiting next
then_waits waiting u next is (inl same) = subst (IsWait waiting) (sym same) is
then_waits waiting u next is (inr gone) = subst (IsWait waiting) (sym gone) (gone_still waiting u is)

events : EventsOf in_halves in_asked in_answer
events = events_of in_halves in_asked in_answer

module _ (packets : List (List ℕ)) (k : Key) (i place : ℕ) (w : Wired) (ask : Ask) (out : List ℕ) (reply : Reply) (v : Wired)
    (h waiting going timely : Bool) (known : List ℕ) (inward : k.dir ≡ Directions.In) (streams : has_stream k.kind ≡ true)
    (other : IsOfOther k ask)
    (spares : SparesKey k i place w ask v) (made : transacts_by w ask out reply v)
    (o : InSide packets k i place w h waiting going timely known) where
  abbrev apart : is_same_key (key_of ask) k ≡ false
  apart = other_key k ask other

  abbrev way : Way
  way = its_way k.kind

  kind_is : way_of k.kind ≡ Some (its_way k.kind)
  kind_is = goes_so k.kind streams

  sender : sender_at v k.addr k.ep ≡ Some (sender_of_line o.line)
  sender = (senders_above (λ addr ep. true)).others w ask out reply v k.addr k.ep (sender_of_line o.line) made refl o.sender
      (λ a same. other (ap direction_of a.token ∙ sym inward) (sym same.0) (sym same.1))

  if_start : (split : Split) → IfStart split (IsOfKind k (classic_of ask))
  if_start Plain = tt
  if_start (Start hub port part) = λ dir addr ep. absurd (other dir addr ep)
  if_start (Complete hub port) = tt

  right : AreRightHubs (IsOfKind k) v.bus.hubs
  right = transactions_keep_right (IsOfKind k) w ask out reply v made (if_start ask.split) o.right

  side_with : (later : Wait) (slot : KeySlot) → IsWait waiting later → IsTimely k.kind timely later
      → HubsHave (its_way k.kind) k i place v.bus.hubs slot
      → Holds in_halves (in_claims packets) (its_way k.kind) (in_split o.line later slot) → InSide packets k i place v h waiting going
      timely known
  side_with later slot is on_time has holds = record {
    line = o.line;
    wait = later;
    slot = slot;
    is_wait = is;
    in_time = on_time;
    knows = o.knows;
    expects = o.expects;
    goes = o.goes;
    has = has;
    right = right;
    sender = sender;
    holds = holds;
  }

  -- a start of another endpoint may take a buffer, and nothing of a pipeline
  by_start : (x : EpKind) → k.kind ≡ x → (s : KeySlot) → HubsHave (its_way k.kind) k i place v.bus.hubs s
      → OtherStart (its_way x) o.slot s → InSide packets k i place v h waiting going timely known
  by_start Kinds.Bulk is s has step =
      let e = events.starts.other Buffered o.slot s o.line o.wait Empty step in
      let holds : Holds in_halves (in_claims packets) Buffered (in_split o.line o.wait o.slot) =
      subst (λ (y : EpKind). Holds in_halves (in_claims packets) (its_way y) (in_split o.line o.wait o.slot)) is o.holds in
      side_with e.0 s (then_waits waiting o.wait e.0 o.is_wait e.2)
      (λ periodic. absurd (let never : Kinds.Bulk ≡ Kinds.Interrupt = sym is ∙ periodic in cc)) has
      (subst (λ (y : EpKind). Holds in_halves (in_claims packets) (its_way y) (in_split o.line e.0 s)) (sym is)
      (run_keeps in_halves (in_claims packets) (in_keeps packets) Buffered (in_split o.line o.wait o.slot) (in_split o.line e.0 s) e.1
      holds))
  by_start Kinds.Interrupt is _ has stays = side_with o.wait o.slot o.is_wait o.in_time has o.holds
  by_start Kinds.Interrupt is _ has (forgets a r buffered told_is) = absurd (let e : Piped ≡ Buffered = buffered in cc)
  by_start Kinds.Control is s has step = absurd (false≢true (ap has_stream (sym is) ∙ streams))
  by_start Kinds.Iso is s has step = absurd (false≢true (ap has_stream (sym is) ∙ streams))

  by_split : (split : Split) → ask.split ≡ split → InSide packets k i place v h waiting going timely known
  by_split Plain is = side_with o.wait o.slot o.is_wait o.in_time (spares is o.slot o.has) o.holds
  by_split (Start hub port part) is =
      let z : LeavesKey way k i place o.slot v =
      splits_by_key.starts_other way k i place hub port part w ask out reply v o.slot is kind_is apart o.has made in
      by_start k.kind refl z.slot z.has z.step
  by_split (Complete hub port) is =
      side_with o.wait o.slot o.is_wait o.in_time
      (splits_by_key.completes_other way k i place hub port w ask out reply v o.slot is kind_is apart o.has made) o.holds

pub others_leave_in : OthersLeaveIn
others_leave_in packets k i place w ask out reply v h waiting going timely known inward streams other spares made o =
    by_split packets k i place w ask out reply v h waiting going timely known inward streams other spares made o ask.split refl

-- ---- where a microframe begins

-- a frame's answers go where the next one begins
left_still : (way : Way) (frindex : ℕ) (waiting : Bool) (u : Wait) → IsWait waiting u → IsWait waiting (left_wait way frindex u)
left_still Buffered frindex waiting u is = is
left_still Piped frindex waiting u is = by (frindex % 8 == 0)
  where
    by : (b : Bool) → IsWait waiting (if b then gone_wait u else u)
    by true = gone_still waiting u is
    by false = is

begun_time : (frindex : ℕ) (waiting timely : Bool) (u : Wait) → IsWait waiting u → (timely ≡ true → u ≢ Late)
    → begun_timely frindex waiting timely ≡ true → left_wait Piped frindex u ≢ Late
begun_time frindex waiting timely u is on_time on = by (frindex % 8 == 0) waiting u is on_time on
  where
    by : (b : Bool) (waiting : Bool) (u : Wait) → IsWait waiting u → (timely ≡ true → u ≢ Late)
        → (if b then not waiting else timely) ≡ true → (if b then gone_wait u else u) ≢ Late
    by true _ _ starts on_time on = λ late. cc
    by true _ _ completes on_time on = absurd (false≢true on)
    by true _ _ too_late on_time on = absurd (false≢true on)
    by false waiting u is on_time on = on_time on

left_by_kind : (kind : EpKind) (frindex : ℕ) (waiting timely : Bool) (u : Wait) → IsWait waiting u → IsTimely kind timely u
    → IsTimely kind (begun_timely frindex waiting timely) (left_wait (its_way kind) frindex u)
left_by_kind kind frindex waiting timely u is on_time one on =
    subst (λ (x : EpKind). left_wait (its_way x) frindex u ≢ Late) (sym one)
    (begun_time frindex waiting timely u is (on_time one) on)

pub begin_leaves_in : BeginLeavesIn
begin_leaves_in packets k i place frindex w h waiting going timely known inward streams o =
    let way : Way = its_way k.kind in
    let r = in_work_is_events way k i place frindex o.slot o.line o.wait Empty w inward o.has o.right o.sender in
    record {
      line = r.line;
      wait = left_wait way frindex o.wait;
      slot = r.slot;
      is_wait = left_still way frindex waiting o.wait o.is_wait;
      in_time = left_by_kind k.kind frindex waiting timely o.wait o.is_wait o.in_time;
      knows = ap concat r.host.accepted ∙ o.knows;
      expects = r.host.expects ∙ o.expects;
      goes = λ on. r.host.going ∙ o.goes on;
      has = r.has;
      right = r.right;
      sender = r.sender;
      holds = run_keeps in_halves (in_claims packets) (in_keeps packets) way (in_split o.line o.wait o.slot)
          (in_split r.line (left_wait way frindex o.wait) r.slot) r.run o.holds;
    }

-- ---- who is in time

rested_off : (u : Wait) → IsWait false u → u ≢ Late
rested_off _ starts = λ late. cc

pub rested_is_timely : RestedIsTimely
rested_is_timely packets k i place w h going timely later known o = record {
  line = o.line;
  wait = o.wait;
  slot = o.slot;
  is_wait = o.is_wait;
  in_time = λ one on. rested_off o.wait o.is_wait;
  knows = o.knows;
  expects = o.expects;
  goes = o.goes;
  has = o.has;
  right = o.right;
  sender = o.sender;
  holds = o.holds;
}

halted_counts : (packets : List (List ℕ)) (l : Line) → Counts packets IsGone l → Counts packets IsNear (record l { going = false })
halted_counts packets l c = record {
  known = c.known;
  count = c.count;
  left = c.left;
  sends_parity = c.sends_parity;
  expects_parity = c.expects_parity;
  in_order = c.in_order;
  stand = λ on. absurd (false≢true on);
}

-- an answer that is gone makes no difference to a host that has ended
ended_at : (packets : List (List ℕ)) (how : Way) (s : KeySlot) (l : Line) → Holds in_halves (in_claims packets) how (in_split l Late s)
    → Holds in_halves (in_claims packets) how (in_split (record l { going = false }) Waits s)
ended_at packets how Empty l h = record { at = halted_counts packets l h.at; aside = tt }
ended_at packets how (Asked a) l h = absurd h.at
ended_at packets how (Hidden a r) l h = absurd h.at
ended_at packets how (There a r) l h = absurd h.at
ended_at packets how (Told a r) l h = absurd h.at

pub halted_is_timely : HaltedIsTimely
halted_is_timely packets k i place w h waiting timely later known o = by waiting o.wait o.is_wait o.holds
  where
    with_wait : (b : Bool) (u : Wait) (l : Line) → IsWait b u → u ≢ Late → l.accepted ≡ o.line.accepted
        → l.expects ≡ o.line.expects → sender_of_line l ≡ sender_of_line o.line
        → Holds in_halves (in_claims packets) (its_way k.kind) (in_split l u o.slot)
        → InSide packets k i place w h b false later known
    with_wait b u l is never accepted expects same holds = record {
      line = l;
      wait = u;
      slot = o.slot;
      is_wait = is;
      in_time = λ one on. never;
      knows = ap concat accepted ∙ o.knows;
      expects = expects ∙ o.expects;
      goes = λ on. absurd (false≢true on);
      has = o.has;
      right = o.right;
      sender = o.sender ∙ ap (λ (s : Sender). Some s) (sym same);
      holds = holds;
    }

    by : (b : Bool) (u : Wait) → IsWait b u
        → Holds in_halves (in_claims packets) (its_way k.kind) (in_split o.line u o.slot) → InSide packets k i place w h b false later known
    by _ _ starts holds = with_wait false Idle o.line starts (λ late. cc) refl refl refl holds
    by _ _ completes holds = with_wait true Waits o.line completes (λ late. cc) refl refl refl holds
    by _ _ too_late holds =
        with_wait true Waits (record o.line { going = false }) completes (λ late. cc) refl refl refl
        (ended_at packets (its_way k.kind) o.slot o.line holds)

pub less_timely : (packets : List (List ℕ)) (k : Key) (i place : ℕ) (w : Wired) (h waiting going timely still : Bool) (known : List ℕ)
    → (still ≡ true → timely ≡ true) → InSide packets k i place w h waiting going timely known
    → InSide packets k i place w h waiting going still known
less_timely packets k i place w h waiting going timely still known fits o = record {
  line = o.line;
  wait = o.wait;
  slot = o.slot;
  is_wait = o.is_wait;
  in_time = λ one on. o.in_time one (fits on);
  knows = o.knows;
  expects = o.expects;
  goes = o.goes;
  has = o.has;
  right = o.right;
  sender = o.sender;
  holds = o.holds;
}
