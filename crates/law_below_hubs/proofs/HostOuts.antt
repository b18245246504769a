-- Each transaction of the host of a bulk or interrupt OUT endpoint below a hub leaves host, hub and device as they must stand.
use Rattle.std.proofs.Common.{◌≡◌, ℕ, ◌-◌, min, Bool, true, false, not, if◌then◌else◌, List, [], ◌∷◌, ◌++◌, take, drop, Option, Some}
use Rattle.std.proofs.Common.{None, ap, refl, sym, subst, ◌∙◌}
use Rattle.std.specs.List.{concat}
use Rattle.std.proofs.lemmas.Bool.{false≢true}
use Rattle.std.proofs.lemmas.List.{append-nil, append_cancel_left}
use Rattle.std.proofs.lemmas.List.Folds.{concat-append}
use Rattle.usb_base.specs.declared.packets.Ask.{Ask}
use Rattle.usb_base.specs.declared.packets.DataPart.TheVariants as Parts
use Rattle.usb_base.specs.declared.packets.EpKind.{EpKind}
use Rattle.usb_base.specs.declared.packets.EpKind.TheVariants as Kinds
use Rattle.usb_base.specs.declared.packets.Pid.TheVariants as Packets
use Rattle.usb_base.specs.declared.packets.Reply.{Reply}
use Rattle.usb_base.specs.declared.packets.Reply.TheVariants as Replies
use Rattle.usb_base.specs.declared.packets.Split.{Split}
use Rattle.usb_base.specs.declared.packets.Split.TheVariants.{Plain, Start, Complete}
use Rattle.hub_keys.specs.Asks.{classic_of}
use Rattle.hub_keys.specs.declared.key.Key.{Key}
use Rattle.tt_bulk.specs.Contents.{Taken}
use Rattle.bus_wire.specs.Bus.{Wired}
use Rattle.claims_report.specs.Streams.{has_stream}
use Rattle.qh_qtd.specs.declared.qtd.Qtd.{Qtd}
use Rattle.qh_qtd.specs.declared.queue_head.Qh.{Qh}
use Rattle.toggle_error.specs.declared.host.Outcome.{Outcome}
use Rattle.toggle_error.specs.declared.host.Outcome.TheVariants as outcomes
use Rattle.toggle_error.specs.Columns.{expected_pid, limit_of, heard_of}
use Rattle.hc_copy.specs.declared.held.Transaction.{Transaction}
use Rattle.hc_copy.specs.Overlay.{buffer_place}
use Rattle.hc_copy.specs.Planning.{host_in, transaction_of}
use Rattle.hc_copy.specs.Transacting.{call_in}
use Rattle.hc_copy.specs.WriteBack.{moved_by}
use Rattle.law_structures.specs.lent_structures.Settles.{is_moved, Settles}
use Rattle.law_structures.specs.lent_structures.Structures.{Structures}
use Rattle.law_structures.proofs.lemmas.lent_structures.Altering.{found_element}
use Rattle.law_structures.proofs.lemmas.lent_structures.Settling.{a_transaction_settles}
use Rattle.law_ring.specs.Hand.{Copy, Settlement, Hand, Settled}
use Rattle.law_ring.specs.Effects.{buffer_of, AreSent, settlement_as}
use Rattle.law_ring.specs.Streams.{moved_bytes}
use Rattle.law_ring.specs.OutBus.{Taker}
use Rattle.law_ring.specs.OutPipes.{IsNext, IsUnmoved, OutAgrees, level, ahead, ended}
use Rattle.law_ring.proofs.OutPipeAgreeing.{still_agrees}
use Rattle.law_common.proofs.Booleans.{not_itself}
use Rattle.law_ring.proofs.OutPipeEvents.{unmoved_made}
use Rattle.law_devices.specs.scripted_requests.Controls.{transacts_by}
use Rattle.law_translated.specs.Lift.{Way, Buffered, Piped, Slot, Empty, Asked, Hidden, There, Told, told, IsQuiet}
use Rattle.law_translated.specs.OutPipes.{Line, with_known}
use Rattle.law_translated.specs.OutPipes as Pipe
use Rattle.law_translated.specs.OutPipes.Alone.{puts}
use Rattle.law_translated.proofs.Sending.{learns_agrees}
use Rattle.law_translated.specs.KeySlots.{KeySlot, way_of}
use Rattle.law_translated.specs.KeySteps.{OwnStart, given_reply}
use Rattle.law_translated.specs.KeySteps.OwnStart.{starts as own_starts, repeats as own_repeats, is_full as own_is_full}
use Rattle.law_translated.specs.KeySteps.OwnStart.{replaces as own_replaces, starts_none as own_starts_none}
use Rattle.law_translated.specs.KeyLaws.{start_of}
use Rattle.law_below_hubs.specs.Seated.{taker_at}
use Rattle.law_below_hubs.specs.HubsKeys.{is_second, HubsHave}
use Rattle.law_below_hubs.specs.OutWork.{IsPut, out_asked, taker_of_line}
use Rattle.law_below_hubs.specs.Splits.{IsAtHub, StartHeard, StartsAtHub, CompleteHeard, CompletesAtHub}
use Rattle.law_below_hubs.specs.HostOuts.{its_way, out_key, listed, shadow, OutAt, out_slot, IsUntold, FindsNoneTold, OutSide, OutHost}
use Rattle.law_below_hubs.specs.HostOuts.{IsOutBelow, OwnOutGoesOn}
use Rattle.law_below_hubs.proofs.HighBuses.{takers_above}
use Rattle.law_below_hubs.proofs.HostKept.{agrees, by_itself, given, leaves, told_answer}
use Rattle.law_below_hubs.proofs.Kept.{transactions_keep_right}
use Rattle.law_below_hubs.proofs.SplitsBeside.{splits_by_key}
use Rattle.law_below_hubs.proofs.HostRests.{out_moved, out_none_moved}
use Rattle.law_below_hubs.proofs.HostSettles.{starting, completing, is_starting, is_completing, is_taken, StartSettles, start_settles}
use Rattle.law_below_hubs.proofs.HostSettles.{OutSettles, out_settles}
use Rattle.law_below_hubs.proofs.HostSettles.OutSettles.{is_acked, moves_none}

-- ---- kinds

pub goes_so : (kind : EpKind) → has_stream kind ≡ true → way_of kind ≡ Some (its_way kind)
goes_so Kinds.Bulk streams = refl
goes_so Kinds.Interrupt streams = refl
goes_so Kinds.Control streams = absurd (false≢true streams)
goes_so Kinds.Iso streams = absurd (false≢true streams)

-- ---- what the host has

second_of : (b : Bool) → is_second (expected_pid b) ≡ b
second_of true = refl
second_of false = refl

same_packet : (part : Structures) (q : Qh) (x y : List ℕ) → IsNext part q x → IsNext part q y → x ≡ y
same_packet part q x y one other =
    one.is
    ∙ ap (λ (t : Qtd). take (min q.max q.token.total) (drop (buffer_place q - t.offset) (buffer_of part t)))
    (found_element (part q.current) one.element other.element one.here other.here)
    ∙ sym other.is

-- while it works, what it sent is its next packet
sent_next : (part : Structures) (hand : Hand) (n : ℕ) (q : Qh) (h : Bool) (known x y : List ℕ) → q.token.active ≡ true
    → IsNext part q y → OutAgrees part hand n q h known (shadow h known (Some x)) → x ≡ y
sent_next part hand n q h known x y works next (level e t) = absurd (not_itself h (sym e))
sent_next part hand n q h known x y works next (ahead v e t same on is old) =
    append_cancel_left known x v t ∙ same_packet part q v y is next
sent_next part hand n q h known x y works next (ended v e t off halted) = absurd (false≢true (sym off ∙ works))

-- the line once the packet is to be sent
asked_line : (part : Structures) (hand : Hand) (n : ℕ) (q : Qh) (h b : Bool) (known y : List ℕ) (next : Option (List ℕ)) (l : Line)
    (s : KeySlot) → q.token.active ≡ true → IsNext part q y → l.rest ≡ listed next
    → OutAgrees part hand n q h known (shadow h known next) → OutAt (out_slot s) b l → OutAt (out_slot s) b (record l { rest = y ∷ [] })
asked_line part hand n q h b known y None l s works is rest agrees h0 =
    subst (λ (xs : List (List ℕ)). OutAt (out_slot s) b (record l { rest = xs ++ y ∷ [] })) rest
    (by_itself (out_slot s) b l (record l { rest = l.rest ++ y ∷ [] }) (puts y) h0)
asked_line part hand n q h b known y (Some x) l s works is rest agrees h0 =
    subst (λ (xs : List (List ℕ)). OutAt (out_slot s) b (record l { rest = xs }))
    (rest ∙ ap (λ (v : List ℕ). v ∷ []) (sent_next part hand n q h known x y works is agrees)) h0

-- ---- what a start leaves

-- the host hears nothing more of it than that it is to wait
untold_waits : (s : KeySlot) (l : Line) → IsUntold s → OutAt (out_slot s) false l → OutAt (out_slot s) true l
untold_waits Empty l un h = h
untold_waits (Asked a) l un h = h
untold_waits (Hidden a r) l un h = h
untold_waits (There a r) l un h = h
untold_waits (Told a r) l un h = absurd un

busy_untold : (s : KeySlot) → (IsQuiet s → ⊥) → IsUntold s
busy_untold Empty busy = tt
busy_untold (Asked a) busy = tt
busy_untold (Hidden a r) busy = tt
busy_untold (There a r) busy = tt
busy_untold (Told a r) busy = absurd (busy tt)

-- a start that the hub heard leaves nothing that was told
record IsStarted (way : Way) (l : Line) (r : Reply) (new : KeySlot) : Type 0 where
  untold : IsUntold new
  at : OutAt (out_slot new) false l

started : (way : Way) (a : Taken) (s : KeySlot) (r : Reply) (new : KeySlot) (l : Line) → Pipe.Is l (out_asked a)
    → OutAt (out_slot s) false l → OwnStart way a s r new → IsStarted way l r new
started way a s _ _ l is h (own_starts quiet) = record { untold = tt; at = (is, agrees (out_slot s) false l h) }
started way a s _ _ l is h (own_repeats buffered busy) = record { untold = busy_untold s busy; at = h }
started way a s _ _ l is h (own_is_full buffered empty) = record { untold = subst IsUntold (sym empty) tt; at = h }
started way a s _ _ l is h (own_replaces piped busy) = record { untold = tt; at = (is, agrees (out_slot s) false l h) }
started way a s _ _ l is h (own_starts_none piped empty) = record { untold = subst IsUntold (sym empty) tt; at = h }

-- ---- a transaction

module _ (kind : EpKind) (last : Bool) (part : Structures) (hand later : Hand) (n : ℕ) (c : Copy) (q : Qh) (i place : ℕ)
    (w v : Wired) (known out : List ℕ) (reply : Reply) (streams : has_stream kind ≡ true) (at : IsOutBelow q)
    (hub : IsAtHub w.bus.hubs q.hub q.port i place)
    (sent : AreSent part q (transaction_of kind q).bytes out)
    (made : transacts_by w (call_in (transaction_of kind q) out last).ask
    (call_in (transaction_of kind q) out last).out reply v)
    (later_is : later ≡ Settled c (settlement_as kind q out last reply))
    (fresh : kind ≡ Kinds.Interrupt → q.token.split_state ≡ false → FindsNoneTold (out_key kind q) i place w) where
  abbrev z : Settlement
  z = settlement_as kind q out last reply

  abbrev bs : List ℕ
  bs = buffer_of part sent.element

  abbrev moved : List ℕ
  moved = moved_bytes q sent.element (settlement_as kind q out last reply) (buffer_of part sent.element)

  abbrev h : Bool
  h = q.token.toggle

  abbrev now : Bool
  now = (settlement_as kind q out last reply).host.toggle

  abbrev first : List ℕ
  first = take (min q.max q.token.total) (drop (buffer_place q - sent.element.offset) (buffer_of part sent.element))

  next_is : IsNext part q first
  next_is = record { element = sent.element; here = sent.here; is = refl }

  settled_so : Settles kind q out last reply
  settled_so = a_transaction_settles kind q out last reply sent.all

  un : now ≡ h → IsUnmoved later n
  un same = subst (λ (l : Hand). IsUnmoved l n) (sym later_is) (unmoved_made kind last c q out reply n at.works sent.all same)

  toggle_by : (b : Bool) → is_moved z.outcome ≡ b → now ≡ (if b then not h else h)
  toggle_by b is = settled_so.host.toggle ∙ ap (λ (y : Bool). if y then not h else h) is

  moved_out : moved ≡ take (moved_by z.outcome) (drop (buffer_place q - sent.element.offset) bs)
  moved_out = out_moved q sent.element z bs at.out

  moved_nothing : is_moved z.outcome ≡ false → moved ≡ []
  moved_nothing still = out_none_moved q sent.element z bs at.out still

  -- ---- what the host hears moves nothing

  still_known : is_moved z.outcome ≡ false → known ≡ known ++ moved
  still_known still = sym (ap (λ (xs : List ℕ). known ++ xs) (moved_nothing still) ∙ append-nil known)

  same_shadow : is_moved z.outcome ≡ false → (next : Option (List ℕ)) → shadow h known next ≡ shadow now (known ++ moved) next
  same_shadow still next =
      ap (λ (b : Bool). shadow b known next) (sym (toggle_by false still)) ∙ ap (λ (xs : List ℕ). shadow now xs next) (still_known still)

  agrees_still : is_moved z.outcome ≡ false → (next : Option (List ℕ)) → OutAgrees part hand n q h known (shadow h known next)
      → OutAgrees part later n q now (known ++ moved) (shadow now (known ++ moved) next)
  agrees_still still next k =
      subst (λ (s : Taker). OutAgrees part later n q now (known ++ moved) s) (same_shadow still next)
      (still_agrees part hand later n q h now known moved first (shadow h known next) refl at.works next_is un (toggle_by false still)
      (moved_nothing still) k)

  -- the packet is on its way
  agrees_sent : is_moved z.outcome ≡ false → (y : List ℕ) → IsNext part q y
      → OutAgrees part later n q now (known ++ moved) (shadow now (known ++ moved) (Some y))
  agrees_sent still y is = ahead y refl refl (toggle_by false still) at.works is (un (toggle_by false still))

  -- ---- the bus

  abbrev k : Key
  k = out_key kind q

  taker_stays : (split : Split) (s : Taker) → (call_in (transaction_of kind q) out last).ask.split ≡ split → (split ≡ Plain → ⊥)
      → taker_at w q.addr q.ep ≡ Some s → taker_at v q.addr q.ep ≡ Some s
  taker_stays split s is other here =
      (takers_above (λ addr ep. true)).others w (call_in (transaction_of kind q) out last).ask
      (call_in (transaction_of kind q) out last).out reply v q.addr q.ep s made refl here
      (λ a. absurd (other (sym is ∙ a.plain)))

  -- ---- a start-split

  module _ (state : q.token.split_state ≡ false) where
    call_is : transaction_of kind q ≡ starting kind q 0
    call_is = is_starting kind q 0 at.below state at.out

    abbrev asked : Ask
    asked = (call_in (starting kind q 0) out last).ask

    made_start : transacts_by w asked out reply v
    made_start = subst (λ (t : Transaction). transacts_by w (call_in t out last).ask (call_in t out last).out reply v) call_is made

    facts : StartSettles kind q reply z
    facts = start_settles kind last q 0 out reply streams at.below state at.out

    out_is : IsNext part q out
    out_is = record {
      element = sent.element;
      here = sent.here;
      is = sent.are ∙ ap (λ (t : Transaction). take t.bytes (drop (buffer_place q - sent.element.offset) bs)) call_is;
    }

    put : IsPut k (classic_of asked)
    put = record { kind = λ dir addr ep. refl; packet = λ dir addr ep. record { token = refl; second = q.token.toggle; toggle = refl } }

    module _ (o : OutHost kind part hand n q i place w h q.token.split_state known) where
      abbrev asking : Line
      asking = record o.side.line { rest = out ∷ [] }

      heard : StartsAtHub (its_way kind) i place asked out o.side.slot reply v
      heard = splits_by_key.starts (its_way kind) i place q.hub q.port Parts.All w asked out reply v o.side.slot refl (goes_so kind streams)
          hub o.side.has made_start

      holds : OutAt (out_slot o.side.slot) false asking
      holds = subst (λ (b : Bool). OutAt (out_slot o.side.slot) b asking) state
          (asked_line part hand n q h q.token.split_state known out o.next o.side.line o.side.slot at.works out_is o.side.rest o.agrees
          o.side.holds)

      abbrev taken : Taken
      taken = start_of asked out heard.stuff

      is_asked : Pipe.Is asking (out_asked taken)
      is_asked = record { parity = second_of q.token.toggle ∙ sym o.side.sends; later = []; rest = refl }

      waits_by : (b : Bool) → z.host.waiting ≡ b → OutAt (out_slot heard.slot) b asking
          → OutSide k i place v now z.host.waiting (known ++ moved) (Some out)
      waits_by b is h0 = record {
        line = asking;
        slot = heard.slot;
        knows = o.side.knows ∙ still_known facts.still;
        sends = o.side.sends ∙ sym (toggle_by false facts.still);
        rest = refl;
        has = heard.has;
        right = transactions_keep_right (IsPut k) w asked out reply v made_start put o.side.right;
        taker = taker_stays (Start q.hub q.port Parts.All) (taker_of_line o.side.line)
            (ap (λ (t : Transaction). (call_in t out last).ask.split) call_is) (λ e. cc) o.side.taker;
        holds = subst (λ (x : Bool). OutAt (out_slot heard.slot) x asking) (sym is) h0;
      }

      -- where the start was heard, the host may wait for what is there
      with_start : IsStarted (its_way kind) asking reply heard.slot
          → OutSide k i place v now z.host.waiting (known ++ moved) (Some out)
      with_start s = by z.host.waiting refl
        where
          by : (b : Bool) → z.host.waiting ≡ b → OutSide k i place v now z.host.waiting (known ++ moved) (Some out)
          by true is = waits_by true is (untold_waits heard.slot asking s.untold s.at)
          by false is = waits_by false is s.at

      -- one that wasn't heard; a buffer's host doesn't wait then, and a pipeline has nothing that was told
      with_lost : reply ≡ Replies.Silent → o.side.slot ≡ heard.slot
          → OutSide k i place v now z.host.waiting (known ++ moved) (Some out)
      with_lost silent same = by kind refl
        where
          waits : z.host.waiting ≡ is_taken kind (heard_of (host_in q) Replies.Silent)
          waits = facts.waits ∙ ap (λ (r : Reply). is_taken kind (heard_of (host_in q) r)) silent

          at_slot : OutAt (out_slot heard.slot) false asking
          at_slot = subst (λ (s : KeySlot). OutAt (out_slot s) false asking) same holds

          by : (x : EpKind) → kind ≡ x → OutSide k i place v now z.host.waiting (known ++ moved) (Some out)
          by Kinds.Bulk is = waits_by false (waits ∙ ap (λ (x : EpKind). is_taken x (heard_of (host_in q) Replies.Silent)) is) at_slot
          by Kinds.Interrupt is =
              waits_by true (waits ∙ ap (λ (x : EpKind). is_taken x (heard_of (host_in q) Replies.Silent)) is)
              (untold_waits heard.slot asking
              (subst IsUntold same
              (fresh is state o.side.slot
              (subst (λ (way : Way). HubsHave way k i place w.bus.hubs o.side.slot) (ap its_way is) o.side.has))) at_slot)
          by Kinds.Control is = absurd (false≢true (ap has_stream (sym is) ∙ streams))
          by Kinds.Iso is = absurd (false≢true (ap has_stream (sym is) ∙ streams))

      by_step : (r : Reply) (new : KeySlot) → reply ≡ r → new ≡ heard.slot → StartHeard (its_way kind) taken o.side.slot r new
          → OutSide k i place v now z.host.waiting (known ++ moved) (Some out)
      by_step _ _ is same StartHeard.lost = with_lost is same
      by_step _ _ is same (StartHeard.heard answer new own) =
          let s = started (its_way kind) taken o.side.slot answer new asking is_asked holds own in
          with_start (record {
            untold = subst IsUntold same s.untold;
            at = subst (λ (x : KeySlot). OutAt (out_slot x) false asking) same s.at;
          })
      by_step _ _ is same (StartHeard.unheard answer new own) =
          let s = started (its_way kind) taken o.side.slot answer new asking is_asked holds own in
          with_start (record {
            untold = subst IsUntold same s.untold;
            at = subst (λ (x : KeySlot). OutAt (out_slot x) false asking) same s.at;
          })

      start_law : OutHost kind part later n q i place v now (settlement_as kind q out last reply).host.waiting (known ++ moved)
      start_law = record {
        next = Some out;
        side = by_step reply heard.slot refl refl heard.step;
        agrees = agrees_sent facts.still out out_is;
      }

  -- ---- a complete-split

  module _ (state : q.token.split_state ≡ true) where
    completes_is : transaction_of kind q ≡ completing kind q 0
    completes_is = is_completing kind q 0 at.below state at.out

    abbrev complete_asked : Ask
    complete_asked = (call_in (completing kind q 0) out last).ask

    made_complete : transacts_by w complete_asked [] reply v
    made_complete =
        subst (λ (t : Transaction). transacts_by w (call_in t out last).ask (call_in t out last).out reply v) completes_is made

    module _ (o : OutHost kind part hand n q i place w h q.token.split_state known) where
      abbrev line : Line
      line = o.side.line

      told_at : CompletesAtHub (its_way kind) i place complete_asked o.side.slot reply v
      told_at = splits_by_key.completes (its_way kind) i place q.hub q.port w complete_asked [] reply v o.side.slot refl
          (goes_so kind streams) hub o.side.has made_complete

      waiting : OutAt (out_slot o.side.slot) true line
      waiting = subst (λ (b : Bool). OutAt (out_slot o.side.slot) b line) state o.side.holds

      -- what it hears doesn't end it, or is nothing
      mapped_told : (s : KeySlot) → told (out_slot s) ≡ out_slot (told s)
      mapped_told Empty = refl
      mapped_told (Asked a) = refl
      mapped_told (Hidden a r) = refl
      mapped_told (There a r) = refl
      mapped_told (Told a r) = refl

      half : OutAt (out_slot (told o.side.slot)) true line
      half = subst (λ (s : Slot Pipe.Ask Pipe.Reply). OutAt s true line) (mapped_told o.side.slot)
          (given (out_slot o.side.slot) true line waiting)

      half_by : (r : Reply) (new : KeySlot) → CompleteHeard (its_way kind) o.side.slot r new → OutAt (out_slot new) true line
      half_by _ _ CompleteHeard.lost = waiting
      half_by _ _ CompleteHeard.heard = half
      half_by _ _ CompleteHeard.unheard = half

      side_with : (l : Line) (next : Option (List ℕ)) → concat l.known ≡ known ++ moved → l.sends ≡ now → l.rest ≡ listed next
          → taker_of_line l ≡ taker_of_line line → OutAt (out_slot told_at.slot) z.host.waiting l
          → OutSide k i place v now z.host.waiting (known ++ moved) next
      side_with l next knows sends rest same h0 = record {
        line = l;
        slot = told_at.slot;
        knows = knows;
        sends = sends;
        rest = rest;
        has = told_at.has;
        right = transactions_keep_right (IsPut k) w complete_asked [] reply v made_complete tt o.side.right;
        taker = taker_stays (Complete q.hub q.port) (taker_of_line line)
            (ap (λ (t : Transaction). (call_in t out last).ask.split) completes_is) (λ e. cc) o.side.taker
            ∙ ap (λ (s : Taker). Some s) (sym same);
        holds = h0;
      }

      -- whether it waits on, or starts again
      either : (b : Bool) → OutAt (out_slot told_at.slot) true line → OutAt (out_slot told_at.slot) b line
      either true h0 = h0
      either false h0 = leaves (out_slot told_at.slot) true line h0

      still_host : is_moved z.outcome ≡ false
          → OutHost kind part later n q i place v now z.host.waiting (known ++ moved)
      still_host still = record {
        next = o.next;
        side = side_with line o.next (o.side.knows ∙ still_known still) (o.side.sends ∙ sym (toggle_by false still)) o.side.rest refl
            (either z.host.waiting (half_by reply told_at.slot told_at.step));
        agrees = agrees_still still o.next o.agrees;
      }

      -- ---- the acknowledgement of the packet

      record IsGiven : Type 0 where
        ask : Taken
        is : told o.side.slot ≡ Told ask (Replies.Hand Packets.Ack)
        slot : told_at.slot ≡ told o.side.slot

      ack_at : (way : Way) (s : KeySlot) → given_reply way s ≡ Replies.Hand Packets.Ack
          → (a : Taken) × (told s ≡ Told a (Replies.Hand Packets.Ack))
      ack_at Buffered Empty is = absurd cc
      ack_at Piped Empty is = absurd cc
      ack_at way (Asked a) is = absurd cc
      ack_at way (Hidden a t) is = absurd cc
      ack_at way (There a t) is = (a, ap (Told a) is)
      ack_at way (Told a t) is = (a, ap (Told a) is)

      acknowledged : (r : Reply) (new : KeySlot) → r ≡ Replies.Hand Packets.Ack → told_at.slot ≡ new
          → CompleteHeard (its_way kind) o.side.slot r new → IsGiven
      acknowledged _ _ is at_slot CompleteHeard.lost = absurd cc
      acknowledged _ _ is at_slot CompleteHeard.unheard = absurd cc
      acknowledged _ _ is at_slot CompleteHeard.heard =
          let g = ack_at (its_way kind) o.side.slot is in
          record { ask = g.0; is = g.1; slot = at_slot }

      -- the packet of the line is the one that the overlay sends
      record IsLearned (x : List ℕ) (rest : List (List ℕ)) : Type 0 where
        packet : x ≡ first
        none : rest ≡ []

      learned : (next : Option (List ℕ)) (x : List ℕ) (rest : List (List ℕ)) → line.rest ≡ listed next → line.rest ≡ x ∷ rest
          → OutAgrees part hand n q h known (shadow h known next) → IsLearned x rest
      learned None x rest is also agrees = absurd (let e : [] ≡ x ∷ rest = sym is ∙ also in cc)
      learned (Some y) x rest is also agrees =
          let e : y ∷ [] ≡ x ∷ rest = sym is ∙ also in
          let same : y ≡ x = cc in
          let none : [] ≡ rest = cc in
          record { packet = sym same ∙ sent_next part hand n q h known y first at.works next_is agrees; none = sym none }

      acked : z.outcome ≡ outcomes.Moved (limit_of (host_in q)) → z.host.waiting ≡ false → IsGiven
          → OutHost kind part later n q i place v now z.host.waiting (known ++ moved)
      acked outcome off g =
          let answered : Pipe.Answered line (out_asked g.ask) Pipe.Ack =
          told_answer (out_slot o.side.slot) (out_asked g.ask) Pipe.Ack line (mapped_told o.side.slot ∙ ap out_slot g.is) waiting in
          let x : List ℕ = g.ask.packet in
          let isn : Pipe.IsNext line (is_second g.ask.ask.toggle) x = answered.is in
          let l : IsLearned x isn.later = learned o.next x isn.later o.side.rest isn.rest o.agrees in
          let turned : now ≡ not h = toggle_by true (ap is_moved outcome) in
          let bytes : moved ≡ x = moved_out
          ∙ ap (λ (y : Outcome). take (moved_by y) (drop (buffer_place q - sent.element.offset) bs)) outcome ∙ sym l.packet in
          let stands : Pipe.Agrees (with_known x isn.later line) = learns_agrees line x isn.later isn.rest answered.agrees answered.ahead in
          record {
            next = None;
            side = side_with (with_known x isn.later line) None
                (concat-append line.known (x ∷ []) ∙ ap (λ (xs : List ℕ). concat line.known ++ xs) (append-nil x)
                ∙ ap (λ (xs : List ℕ). xs ++ x) o.side.knows ∙ ap (λ (xs : List ℕ). known ++ xs) (sym bytes))
                (ap not o.side.sends ∙ sym turned) l.none refl
                (subst (λ (b : Bool). OutAt (out_slot told_at.slot) b (with_known x isn.later line)) (sym off)
                (subst (λ (s : KeySlot). OutAt (out_slot s) false (with_known x isn.later line)) (sym (g.slot ∙ g.is)) stands));
            agrees = level refl refl;
          }

      complete_by : (r : Reply) → reply ≡ r → OutSettles q z r
          → OutHost kind part later n q i place v now z.host.waiting (known ++ moved)
      complete_by _ is (is_acked outcome off) = acked outcome off (acknowledged reply told_at.slot is refl told_at.step)
      complete_by r is (moves_none _ still) = still_host still

      complete_law : OutHost kind part later n q i place v now z.host.waiting (known ++ moved)
      complete_law = complete_by reply refl (out_settles kind last q out reply streams at.below state at.out)

  pub own_law : (b : Bool) → q.token.split_state ≡ b → OutHost kind part hand n q i place w h q.token.split_state known
      → OutHost kind part later n q i place v now (settlement_as kind q out last reply).host.waiting (known ++ moved)
  own_law true state o = complete_law state o
  own_law false state o = start_law state o

pub own_out_goes_on : OwnOutGoesOn
own_out_goes_on kind last part hand later n c q i place w v known out reply streams at hub sent made later_is fresh o =
    own_law kind last part hand later n c q i place w v known out reply streams at hub sent made later_is fresh q.token.split_state refl o
