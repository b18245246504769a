-- What all other transactions, and the work of the hubs, leave of an OUT endpoint below a hub.
use Rattle.std.proofs.Common.{◌≡◌, inl, inr, ℕ, ◌==◌, ◌&&◌, ◌%◌, Bool, true, false, if◌then◌else◌, List, Option, Some, ap, refl}
use Rattle.std.proofs.Common.{sym, subst, ◌∙◌}
use Rattle.std.specs.List.{concat}
use Rattle.std.proofs.lemmas.Bool.{eqb-true, and_parts}
use Rattle.usb_base.specs.declared.packets.Ask.{Ask}
use Rattle.usb_base.specs.declared.packets.Dir.{Dir}
use Rattle.usb_base.specs.declared.packets.Dir.TheVariants as Directions
use Rattle.usb_base.specs.declared.packets.Reply.{Reply}
use Rattle.usb_base.specs.declared.packets.Split.{Split}
use Rattle.usb_base.specs.declared.packets.Split.TheVariants.{Plain, Start, Complete}
use Rattle.hub_keys.specs.Asks.{classic_of}
use Rattle.hub_keys.specs.Keys.{direction_of, key_of, is_same_direction, is_same_kind, is_same_key}
use Rattle.hub_keys.specs.declared.key.Key.{Key}
use Rattle.bus_wire.specs.Bus.{Wired}
use Rattle.claims_report.specs.Streams.{has_stream}
use Rattle.law_devices.specs.scripted_requests.Controls.{transacts_by}
use Rattle.law_translated.specs.Lift.{Way, Buffered, Piped, Wait, Idle, Waits, Empty, gone_wait}
use Rattle.law_translated.specs.OutPipes.{out_halves}
use Rattle.law_translated.specs.KeySlots.{KeySlot}
use Rattle.law_translated.specs.KeySteps.{OtherStart, stays, forgets}
use Rattle.law_translated.specs.KeyEvents.{left_wait, with_slot}
use Rattle.law_below_hubs.specs.Seated.{taker_at}
use Rattle.law_below_hubs.specs.Kept.{IfStart}
use Rattle.law_below_hubs.specs.HubsKeys.{HubsHave, AreRightHubs}
use Rattle.law_below_hubs.specs.OutWork.{IsPut, out_asked, out_answer, taker_of_line}
use Rattle.law_below_hubs.specs.PlainAsks.{LeftOrEmpty, PlainLeaves}
use Rattle.law_below_hubs.specs.Splits.{LeavesKey}
use Rattle.law_below_hubs.specs.HostOuts.{its_way, OutAt, out_slot, OutSide, IsOfOther, OthersLeaveOut, BeginLeavesOut}
use Rattle.law_below_hubs.proofs.HighBuses.{takers_above}
use Rattle.law_below_hubs.proofs.HostKept.{agrees, is_waiting, gone_waiting, OutHolds, run_kept}
use Rattle.law_below_hubs.proofs.HostOuts.{goes_so}
use Rattle.law_below_hubs.proofs.Kept.{transactions_keep_right}
use Rattle.law_below_hubs.proofs.OutBegin.{out_work_is_events}
use Rattle.law_below_hubs.proofs.PlainAsks.{plain_asks_by_key}
use Rattle.law_below_hubs.proofs.SplitsBeside.{splits_by_key}

-- ---- keys

same_direction : (a b : Dir) → is_same_direction a b ≡ true → a ≡ b
same_direction Directions.In Directions.In e = refl
same_direction Directions.Out Directions.Out e = refl
same_direction Directions.In Directions.Out e = absurd cc
same_direction Directions.Out Directions.In e = absurd cc

pub other_key : (k : Key) (ask : Ask) → IsOfOther k ask → is_same_key (key_of ask) k ≡ false
other_key k ask other = by (is_same_key (key_of ask) k) refl
  where
    by : (b : Bool) → is_same_key (key_of ask) k ≡ b → is_same_key (key_of ask) k ≡ false
    by false is = is
    by true is =
        let one = and_parts (ask.addr == k.addr && ask.ep == k.ep && is_same_direction (direction_of ask.pid) k.dir)
        (is_same_kind ask.kind k.kind) is in
        let two = and_parts (ask.addr == k.addr && ask.ep == k.ep) (is_same_direction (direction_of ask.pid) k.dir) one.0 in
        let three = and_parts (ask.addr == k.addr) (ask.ep == k.ep) two.0 in
        absurd (other (same_direction (direction_of ask.pid) k.dir two.1) (eqb-true ask.addr k.addr three.0)
        (eqb-true ask.ep k.ep three.1))

module _ (k : Key) (i place : ℕ) (w : Wired) (ask : Ask) (out : List ℕ) (reply : Reply) (v : Wired) (h waiting : Bool) (known : List ℕ)
    (next : Option (List ℕ)) (outward : k.dir ≡ Directions.Out) (streams : has_stream k.kind ≡ true) (other : IsOfOther k ask)
    (made : transacts_by w ask out reply v) (o : OutSide k i place w h waiting known next) where
  abbrev apart : is_same_key (key_of ask) k ≡ false
  apart = other_key k ask other

  abbrev way : Way
  way = its_way k.kind

  taker : taker_at v k.addr k.ep ≡ Some (taker_of_line o.line)
  taker = (takers_above (λ addr ep. true)).others w ask out reply v k.addr k.ep (taker_of_line o.line) made refl o.taker
      (λ a same. other (ap direction_of a.token ∙ sym outward) (sym same.0) (sym same.1))

  if_start : (split : Split) → IfStart split (IsPut k (classic_of ask))
  if_start Plain = tt
  if_start (Start hub port part) =
      record { kind = λ dir addr ep. absurd (other dir addr ep); packet = λ dir addr ep. absurd (other dir addr ep) }
  if_start (Complete hub port) = tt

  right : AreRightHubs (IsPut k) v.bus.hubs
  right = transactions_keep_right (IsPut k) w ask out reply v made (if_start ask.split) o.right

  side_with : (slot : KeySlot) → HubsHave (its_way k.kind) k i place v.bus.hubs slot → OutAt (out_slot slot) waiting o.line
      → OutSide k i place v h waiting known next
  side_with slot has holds = record {
    line = o.line;
    slot = slot;
    knows = o.knows;
    sends = o.sends;
    rest = o.rest;
    has = has;
    right = right;
    taker = taker;
    holds = holds;
  }

  -- what was there is gone
  emptied : OutAt (out_slot Empty) waiting o.line
  emptied = agrees (out_slot o.slot) waiting o.line o.holds

  by_plain : (s : KeySlot) → HubsHave (its_way k.kind) k i place v.bus.hubs s → LeftOrEmpty o.slot s
      → OutSide k i place v h waiting known next
  by_plain s has (inl same) = side_with s has (subst (λ (t : KeySlot). OutAt (out_slot t) waiting o.line) (sym same) o.holds)
  by_plain s has (inr none) = side_with s has (subst (λ (t : KeySlot). OutAt (out_slot t) waiting o.line) (sym none) emptied)

  by_other : (s : KeySlot) → HubsHave (its_way k.kind) k i place v.bus.hubs s → OtherStart (its_way k.kind) o.slot s
      → OutAt (out_slot s) waiting o.line
  by_other _ has stays = o.holds
  by_other _ has (forgets a r buffered is) = emptied

  by_split : (split : Split) → ask.split ≡ split → OutSide k i place v h waiting known next
  by_split Plain is =
      let p : PlainLeaves way k i place o.slot v = plain_asks_by_key way k i place w ask out reply v o.slot is o.has made in
      by_plain p.slot p.has p.left
  by_split (Start hub port part) is =
      let z : LeavesKey way k i place o.slot v =
      splits_by_key.starts_other way k i place hub port part w ask out reply v o.slot is (goes_so k.kind streams) apart o.has made in
      side_with z.slot z.has (by_other z.slot z.has z.step)
  by_split (Complete hub port) is =
      side_with o.slot
      (splits_by_key.completes_other way k i place hub port w ask out reply v o.slot is (goes_so k.kind streams) apart o.has made) o.holds

pub others_leave_out : OthersLeaveOut
others_leave_out k i place w ask out reply v h waiting known next outward streams other made o =
    by_split k i place w ask out reply v h waiting known next outward streams other made o ask.split refl

-- ---- the work of the hubs

abbrev as_wait : Bool → Wait
as_wait false = Idle
as_wait true = Waits

waits_as : (b : Bool) → is_waiting (as_wait b) ≡ b
waits_as true = refl
waits_as false = refl

-- where a frame begins a pipeline's answer goes, and the host waits on
waits_on : (way : Way) (frindex : ℕ) (b : Bool) → is_waiting (left_wait way frindex (as_wait b)) ≡ b
waits_on Buffered frindex b = waits_as b
waits_on Piped frindex b = by (frindex % 8 == 0)
  where
    by : (c : Bool) → is_waiting (if c then gone_wait (as_wait b) else as_wait b) ≡ b
    by true = gone_waiting (as_wait b) ∙ waits_as b
    by false = waits_as b

pub begin_leaves_out : BeginLeavesOut
begin_leaves_out k i place frindex w h waiting known next outward o =
    let way : Way = its_way k.kind in
    let u : Wait = as_wait waiting in
    let r = out_work_is_events way k i place frindex o.slot o.line u Empty w outward o.has o.right o.taker in
    let z : OutHolds (with_slot out_halves out_asked out_answer r.line (left_wait way frindex u) r.slot Empty) =
    run_kept way (with_slot out_halves out_asked out_answer o.line u o.slot Empty)
    (with_slot out_halves out_asked out_answer r.line (left_wait way frindex u) r.slot Empty) r.run
    (record { at = subst (λ (b : Bool). OutAt (out_slot o.slot) b o.line) (sym (waits_as waiting)) o.holds; aside = tt }) in
    record {
      line = r.line;
      slot = r.slot;
      knows = ap concat r.host.known ∙ o.knows;
      sends = r.host.sends ∙ o.sends;
      rest = r.host.rest ∙ o.rest;
      has = r.has;
      right = r.right;
      taker = r.taker;
      holds = subst (λ (b : Bool). OutAt (out_slot r.slot) b r.line) (waits_on way frindex waiting) z.at;
    }
