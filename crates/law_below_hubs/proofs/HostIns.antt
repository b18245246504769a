-- Each transaction of the host of a bulk or interrupt IN endpoint below a hub leaves host, hub and device as they must stand.
use Rattle.std.proofs.Common.{◌≡◌, ℕ, ◌≢◌, ◌-◌, ◌==◌, Bool, true, false, not, if◌then◌else◌, List, [], ◌∷◌, ◌++◌, take, drop, Some, ap, refl}
use Rattle.std.proofs.Common.{sym, subst, ◌∙◌, ◌⊎◌, inl, inr, ⊎_elim}
use Rattle.std.specs.List.{concat}
use Rattle.std.proofs.lemmas.Bool.{false≢true}
use Rattle.std.proofs.lemmas.List.{append-nil}
use Rattle.std.proofs.lemmas.List.Folds.{concat-append}
use Rattle.usb_base.specs.declared.packets.Ask.{Ask}
use Rattle.usb_base.specs.declared.packets.DataPart.TheVariants as Parts
use Rattle.usb_base.specs.declared.packets.EpKind.{EpKind}
use Rattle.usb_base.specs.declared.packets.EpKind.TheVariants as Kinds
use Rattle.usb_base.specs.declared.packets.Pid.{Pid}
use Rattle.usb_base.specs.declared.packets.Pid.TheVariants as Packets
use Rattle.usb_base.specs.declared.packets.Reply.{Reply}
use Rattle.usb_base.specs.declared.packets.Reply.TheVariants.{Silent, Bytes, Hand}
use Rattle.usb_base.specs.declared.packets.Split.{Split}
use Rattle.usb_base.specs.declared.packets.Split.TheVariants.{Plain, Start, Complete}
use Rattle.hub_keys.specs.declared.key.Key.{Key}
use Rattle.tt_bulk.specs.Contents.{Taken}
use Rattle.bus_wire.specs.Bus.{Wired}
use Rattle.qh_qtd.specs.declared.queue_head.Qh.{Qh}
use Rattle.hc_copy.specs.declared.held.Transaction.{Transaction}
use Rattle.hc_copy.specs.Overlay.{buffer_place}
use Rattle.hc_copy.specs.Planning.{pid_at, host_in, transaction_of}
use Rattle.hc_copy.specs.Transacting.{call_in}
use Rattle.hc_copy.specs.WriteBack.{moved_by}
use Rattle.claims_report.specs.Streams.{has_stream}
use Rattle.toggle_error.specs.Columns.{heard_of}
use Rattle.law_pipe.specs.Pipe.{alike}
use Rattle.law_structures.specs.lent_structures.Settles.{is_moved, Settles}
use Rattle.law_structures.specs.lent_structures.Structures.{Structures}
use Rattle.law_structures.proofs.lemmas.lent_structures.Settling.{a_transaction_settles}
use Rattle.law_ring.specs.Hand.{Settlement}
use Rattle.law_ring.specs.Effects.{buffer_of, AreSent, settlement_as}
use Rattle.law_ring.specs.Streams.{moved_bytes}
use Rattle.law_ring.specs.Bus.{Sender}
use Rattle.law_ring.proofs.Common.{by_none}
use Rattle.law_devices.specs.scripted_requests.Controls.{transacts_by}
use Rattle.law_translated.specs.Lift.{Way, Buffered, Piped, Wait, Idle, Waits, Late, Empty, Asked, Hidden, There, Told, told, IsQuiet, Step, Run, Holds}
use Rattle.law_translated.specs.InPipes.{Line, Hears, in_halves, in_claims}
use Rattle.law_translated.specs.InPipes as Pipe
use Rattle.law_translated.specs.InPipes.Hears.{takes, is_long, drops, waits, stops, fails}
use Rattle.law_translated.specs.KeySlots.{KeySlot}
use Rattle.law_translated.specs.KeySteps.{OwnStart, given_reply}
use Rattle.law_translated.specs.KeySteps.OwnStart.{starts as own_starts, repeats as own_repeats, is_full as own_is_full}
use Rattle.law_translated.specs.KeySteps.OwnStart.{replaces as own_replaces, starts_none as own_starts_none}
use Rattle.law_translated.specs.KeyLaws.{start_of}
use Rattle.law_translated.specs.KeyEvents.{EventsOf}
use Rattle.law_translated.proofs.KeyEvents.{events_of}
use Rattle.law_translated.proofs.Lifting.{run_keeps}
use Rattle.law_translated.proofs.Receiving.{in_keeps, pipe_kept}
use Rattle.law_below_hubs.specs.Seated.{sender_at}
use Rattle.law_below_hubs.specs.HubsKeys.{is_second, HubsHave, IsOfKind}
use Rattle.law_below_hubs.specs.InWork.{in_asked, in_answer, sender_of_line}
use Rattle.law_below_hubs.specs.Splits.{IsAtHub, StartHeard, StartsAtHub, CompleteHeard, CompletesAtHub}
use Rattle.law_below_hubs.specs.HostOuts.{its_way, IsUntold}
use Rattle.law_below_hubs.specs.HostIns.{IsWait, starts, completes, too_late}
use Rattle.law_below_hubs.specs.HostIns.{IsTimely, in_key, in_split, InSide, IsOver, IsInTime, IsInBelow, OwnInGoesOn}
use Rattle.law_below_hubs.proofs.HighBuses.{senders_above}
use Rattle.law_below_hubs.proofs.Kept.{transactions_keep_right}
use Rattle.law_below_hubs.proofs.SplitsBeside.{splits_by_key}
use Rattle.law_below_hubs.proofs.HostOuts.{goes_so}
use Rattle.law_below_hubs.proofs.HostRests.{none_of}
use Rattle.law_below_hubs.proofs.HostSettles.{starting, completing, is_starting, is_completing, is_taken, StartSettles, start_settles}
use Rattle.law_below_hubs.proofs.HostInSettles.{InSettles, in_settles}
use Rattle.law_below_hubs.proofs.HostInSettles.InSettles.{took, too_long, repeated, is_refused, is_stalled, broke, gave_up, goes_on}

pub start_answers : (a : Taken) (s : KeySlot) (r : Reply) (new : KeySlot) → OwnStart Buffered a s r new
    → (r ≡ Hand Packets.Ack) ⊎ (r ≡ Hand Packets.Nak)
start_answers a s _ _ (own_starts quiet) = inl refl
start_answers a s _ _ (own_repeats way busy) = inl refl
start_answers a s _ _ (own_is_full way empty) = inr refl
start_answers a s _ _ (own_replaces way busy) = absurd cc
start_answers a s _ _ (own_starts_none way empty) = absurd cc

pub starts_idle : (u : Wait) → IsWait false u → u ≡ Idle
starts_idle _ starts = refl

idle_timely : (kind : EpKind) (timely : Bool) → IsTimely kind timely Idle
idle_timely kind timely one on late = cc

waits_timely : (kind : EpKind) (timely : Bool) → IsTimely kind timely Waits
waits_timely kind timely one on late = cc

events : EventsOf in_halves in_asked in_answer
events = events_of in_halves in_asked in_answer

abbrev InHolds : List (List ℕ) → Way → Line → Wait → KeySlot → Type 0
InHolds packets way l u s = Holds in_halves (in_claims packets) way (in_split l u s)

runs : (packets : List (List ℕ)) (way : Way) (l m : Line) (u v : Wait) (s t : KeySlot)
    → Run in_halves way (in_split l u s) (in_split m v t) → InHolds packets way l u s → InHolds packets way m v t
runs packets way l m u v s t run h =
    run_keeps in_halves (in_claims packets) (in_keeps packets) way (in_split l u s) (in_split m v t) run h

steps : (packets : List (List ℕ)) (way : Way) (l m : Line) (u v : Wait) (s t : KeySlot)
    → Step in_halves way (in_split l u s) (in_split m v t) → InHolds packets way l u s → InHolds packets way m v t
steps packets way l m u v s t step h = pipe_kept packets way (in_split l u s) (in_split m v t) step h

-- ---- a pipeline's

-- a host that doesn't wait left nothing there that is to come
quiet_idle : (packets : List (List ℕ)) (l : Line) (s : KeySlot) → InHolds packets Piped l Idle s → IsQuiet s
quiet_idle packets l Empty h = tt
quiet_idle packets l (Asked a) h = absurd h.at
quiet_idle packets l (Hidden a r) h = absurd h.at
quiet_idle packets l (There a r) h = absurd h.at
quiet_idle packets l (Told a r) h = tt

-- a start that wasn't heard
none_starts : (packets : List (List ℕ)) (l : Line) (s : KeySlot) → IsUntold s → InHolds packets Piped l Idle s
    → InHolds packets Piped l Waits s
none_starts packets l Empty un h = steps packets Piped l l Idle Waits Empty Empty (Step.starts_none refl refl refl) h
none_starts packets l (Asked a) un h = absurd h.at
none_starts packets l (Hidden a r) un h = absurd h.at
none_starts packets l (There a r) un h = absurd h.at
none_starts packets l (Told a r) un h = absurd un

-- the last complete-split is answered NYET
none_came : (packets : List (List ℕ)) (l : Line) (s : KeySlot) → IsOver s → given_reply Piped s ≡ Hand Packets.Nyet
    → InHolds packets Piped l Waits s → InHolds packets Piped l Idle (told s)
none_came packets l Empty over is h = steps packets Piped l l Waits Idle Empty Empty (Step.gives_up refl refl refl) h
none_came packets l (Asked a) over is h = absurd over
none_came packets l (Hidden a r) over is h = absurd over
none_came packets l (There a r) over is h =
    steps packets Piped l l Waits Idle (There a r) (Told a r)
    (events.completes.heard Piped a r (There a r) l l Empty refl
    (subst (λ (x : Reply). Hears l Pipe.In (in_answer x) l) (sym is) waits)) h
none_came packets l (Told a r) over is h =
    steps packets Piped l l Waits Idle (Told a r) (Told a r)
    (events.completes.heard Piped a r (Told a r) l l Empty refl
    (subst (λ (x : Reply). Hears l Pipe.In (in_answer x) l) (sym is) waits)) h

-- the answer that a slot gives, where it is one
given_at : (way : Way) (s : KeySlot) (r : Reply) → given_reply way s ≡ r → (r ≡ Silent → ⊥) → (r ≡ Hand Packets.Nyet → ⊥)
    → (a : Taken) × (told s ≡ Told a r)
given_at Buffered Empty r is answers ends = absurd (answers (sym is))
given_at Piped Empty r is answers ends = absurd (ends (sym is))
given_at Buffered (Asked a) r is answers ends = absurd (ends (sym is))
given_at Piped (Asked a) r is answers ends = absurd (ends (sym is))
given_at Buffered (Hidden a t) r is answers ends = absurd (ends (sym is))
given_at Piped (Hidden a t) r is answers ends = absurd (ends (sym is))
given_at Buffered (There a t) r is answers ends = (a, ap (Told a) is)
given_at Piped (There a t) r is answers ends = (a, ap (Told a) is)
given_at Buffered (Told a t) r is answers ends = (a, ap (Told a) is)
given_at Piped (Told a t) r is answers ends = (a, ap (Told a) is)

-- ---- a transaction

module _ (kind : EpKind) (last : Bool) (packets : List (List ℕ)) (part : Structures) (q : Qh) (i place : ℕ) (w v : Wired) (timely : Bool)
    (known out : List ℕ) (reply : Reply) (streams : has_stream kind ≡ true) (at : IsInBelow q)
    (hub : IsAtHub w.bus.hubs q.hub q.port i place)
    (sent : AreSent part q (transaction_of kind q).bytes out)
    (made : transacts_by w (call_in (transaction_of kind q) out last).ask
    (call_in (transaction_of kind q) out last).out reply v)
    (in_time : kind ≡ Kinds.Interrupt → IsInTime (in_key kind q) i place w q.token.split_state last timely)
  where
    abbrev z : Settlement
    z = settlement_as kind q out last reply

    abbrev moved : List ℕ
    moved = moved_bytes q sent.element (settlement_as kind q out last reply) (buffer_of part sent.element)

    abbrev h : Bool
    h = q.token.toggle

    abbrev now : Bool
    now = (settlement_as kind q out last reply).host.toggle

    abbrev going : Bool
    going = not (settlement_as kind q out last reply).host.halted

    abbrev Before : Type 0
    Before = InSide packets (in_key kind q) i place w q.token.toggle q.token.split_state (not q.token.halted) timely known

    abbrev After : Type 0
    After = InSide packets (in_key kind q) i place v now (settlement_as kind q out last reply).host.waiting going timely (known ++ moved)

    settled_so : Settles kind q out last reply
    settled_so = a_transaction_settles kind q out last reply sent.all

    toggle_by : (b : Bool) → is_moved z.outcome ≡ b → now ≡ (if b then not h else h)
    toggle_by b is = settled_so.host.toggle ∙ ap (λ (y : Bool). if y then not h else h) is

    moved_in : moved ≡ z.got
    moved_in = ap (λ (code : ℕ). if code == 1 then z.got else take (moved_by z.outcome)
        (drop (buffer_place q - sent.element.offset) (buffer_of part sent.element))) at.inward

    moved_nothing : (is_moved z.outcome ≡ false) × (moved_by z.outcome ≡ 0) → moved ≡ []
    moved_nothing still = moved_in ∙ none_of z.got (settled_so.bytes.all (ap pid_at at.inward) ∙ still.1)

    still_known : (is_moved z.outcome ≡ false) × (moved_by z.outcome ≡ 0) → known ≡ known ++ moved
    still_known still = sym (ap (λ (xs : List ℕ). known ++ xs) (moved_nothing still) ∙ append-nil known)

    abbrev k : Key
    k = in_key kind q

    sender_stays : (split : Split) (s : Sender) → (call_in (transaction_of kind q) out last).ask.split ≡ split → (split ≡ Plain → ⊥)
        → sender_at w q.addr q.ep ≡ Some s → sender_at v q.addr q.ep ≡ Some s
    sender_stays split s is other here =
        (senders_above (λ addr ep. true)).others w (call_in (transaction_of kind q) out last).ask
        (call_in (transaction_of kind q) out last).out reply v q.addr q.ep s made refl here
        (λ a. absurd (other (sym is ∙ a.plain)))

    module _ (o : InSide packets (in_key kind q) i place w q.token.toggle q.token.split_state (not q.token.halted) timely known) where
      abbrev line : Line
      line = o.line

      goes_now : line.going ≡ true
      goes_now = o.goes (ap not at.goes_on)

      -- ---- a start-split

      module _ (state : q.token.split_state ≡ false) where
        call_is : transaction_of kind q ≡ starting kind q 1
        call_is = is_starting kind q 1 at.below state at.inward

        abbrev asked : Ask
        asked = (call_in (starting kind q 1) out last).ask

        made_start : transacts_by w asked [] reply v
        made_start = subst (λ (t : Transaction). transacts_by w (call_in t out last).ask (call_in t out last).out reply v) call_is made

        facts : StartSettles kind q reply z
        facts = start_settles kind last q 1 out reply streams at.below state at.inward

        still : (is_moved z.outcome ≡ false) × (moved_by z.outcome ≡ 0)
        still = (facts.still, by_none z.outcome facts.still)

        heard : StartsAtHub (its_way kind) i place asked [] o.slot reply v
        heard = splits_by_key.starts (its_way kind) i place q.hub q.port Parts.All w asked [] reply v o.slot refl (goes_so kind streams) hub
            o.has made_start

        idle : o.wait ≡ Idle
        idle = starts_idle o.wait (subst (λ (b : Bool). IsWait b o.wait) state o.is_wait)

        holds : InHolds packets (its_way kind) line Idle o.slot
        holds = subst (λ (u : Wait). InHolds packets (its_way kind) line u o.slot) idle o.holds

        abbrev taken : Taken
        taken = start_of asked [] heard.stuff

        with_wait : (u : Wait) (b : Bool) → IsWait b u → IsTimely kind timely u → z.host.waiting ≡ b
            → InHolds packets (its_way kind) line u heard.slot → After
        with_wait u b wait on_time is h0 = record {
          line = line;
          wait = u;
          slot = heard.slot;
          is_wait = subst (λ (x : Bool). IsWait x u) (sym is) wait;
          in_time = on_time;
          knows = o.knows ∙ still_known still;
          expects = o.expects ∙ sym (toggle_by false facts.still);
          goes = λ on. goes_now;
          has = heard.has;
          right = transactions_keep_right (IsOfKind k) w asked [] reply v made_start (λ dir addr ep. refl) o.right;
          sender = sender_stays (Start q.hub q.port Parts.All) (sender_of_line line)
              (ap (λ (t : Transaction). (call_in t out last).ask.split) call_is) (λ e. cc) o.sender;
          holds = h0;
        }

        -- its kind is known
        abbrev At : Way → Wait → KeySlot → Type 0
        At way u s = InHolds packets way line u s

        to_own : (x : EpKind) → kind ≡ x → (u : Wait) (s : KeySlot) → At (its_way x) u s → At (its_way kind) u s
        to_own x is u s h0 = subst (λ (y : EpKind). At (its_way y) u s) (sym is) h0

        as_known : (x : EpKind) → kind ≡ x → (u : Wait) (s : KeySlot) → At (its_way kind) u s → At (its_way x) u s
        as_known x is u s h0 = subst (λ (y : EpKind). At (its_way y) u s) is h0

        step_known : (x : EpKind) → kind ≡ x → StartHeard (its_way x) taken o.slot reply heard.slot
        step_known x is = subst (λ (y : EpKind). StartHeard (its_way y) taken o.slot reply heard.slot) is heard.step

        waits_by : (x : EpKind) (r : Reply) → kind ≡ x → reply ≡ r → z.host.waiting ≡ is_taken x (heard_of (host_in q) r)
        waits_by x r is said =
            facts.waits ∙ ap (λ (y : EpKind). is_taken y (heard_of (host_in q) reply)) is
            ∙ ap (λ (y : Reply). is_taken x (heard_of (host_in q) y)) said

        -- ---- a buffer's

        module _ (bulk : kind ≡ Kinds.Bulk) where
          of_own : (r : Reply) (new : KeySlot) → reply ≡ r → OwnStart Buffered taken o.slot r new → new ≡ heard.slot → After
          of_own r new is own at_slot =
              ⊎_elim
              (λ (acked : r ≡ Hand Packets.Ack).
              with_wait Waits true completes (waits_timely kind timely) (waits_by Kinds.Bulk (Hand Packets.Ack) bulk (is ∙ acked))
              (to_own Kinds.Bulk bulk Waits heard.slot
              (subst (At Buffered Waits) at_slot
              (steps packets Buffered line line Idle Waits o.slot new
              (events.starts.heard taken o.slot new line Empty
              (subst (λ (x : Reply). OwnStart Buffered taken o.slot x new) acked own) tt)
              (as_known Kinds.Bulk bulk Idle o.slot holds)))))
              (λ (refused : r ≡ Hand Packets.Nak).
              with_wait Idle false starts (idle_timely kind timely) (waits_by Kinds.Bulk (Hand Packets.Nak) bulk (is ∙ refused))
              (to_own Kinds.Bulk bulk Idle heard.slot
              (subst (At Buffered Idle) at_slot
              (runs packets Buffered line line Idle Idle o.slot new (events.starts.unheard taken o.slot r new line Empty own tt)
              (as_known Kinds.Bulk bulk Idle o.slot holds)))))
              (start_answers taken o.slot r new own)

          by_step : (r : Reply) (new : KeySlot) → reply ≡ r → new ≡ heard.slot → StartHeard Buffered taken o.slot r new → After
          by_step _ _ is at_slot StartHeard.lost =
              with_wait Idle false starts (idle_timely kind timely) (waits_by Kinds.Bulk Silent bulk is)
              (subst (At (its_way kind) Idle) at_slot holds)
          by_step _ _ is at_slot (StartHeard.heard answer new own) = of_own answer new is own at_slot
          by_step _ _ is at_slot (StartHeard.unheard answer new own) =
              with_wait Idle false starts (idle_timely kind timely) (waits_by Kinds.Bulk Silent bulk is)
              (to_own Kinds.Bulk bulk Idle heard.slot
              (subst (At Buffered Idle) at_slot
              (runs packets Buffered line line Idle Idle o.slot new (events.starts.unheard taken o.slot answer new line Empty own tt)
              (as_known Kinds.Bulk bulk Idle o.slot holds))))

          bulk_law : After
          bulk_law = by_step reply heard.slot refl refl (step_known Kinds.Bulk bulk)

        -- ---- a pipeline's, which has no handshake

        module _ (own_kind : kind ≡ Kinds.Interrupt) where
          rests : At Piped Idle o.slot
          rests = as_known Kinds.Interrupt own_kind Idle o.slot holds

          untold : IsUntold o.slot
          untold =
              (in_time own_kind).starts state o.slot
              (subst (λ (x : EpKind). HubsHave (its_way x) k i place w.bus.hubs o.slot) own_kind o.has)

          waiting_then : At Piped Waits heard.slot → After
          waiting_then h0 =
              with_wait Waits true completes (waits_timely kind timely) (waits_by Kinds.Interrupt reply own_kind refl)
              (to_own Kinds.Interrupt own_kind Waits heard.slot h0)

          of_start : (r : Reply) (new : KeySlot) → OwnStart Piped taken o.slot r new → At Piped Waits new
          of_start r new own =
              steps packets Piped line line Idle Waits o.slot new
              (events.starts.periodic taken o.slot r new line Empty own tt (quiet_idle packets line o.slot rests)) rests

          by_start : (r : Reply) (new : KeySlot) → StartHeard Piped taken o.slot r new → At Piped Waits new
          by_start _ _ StartHeard.lost = none_starts packets line o.slot untold rests
          by_start _ _ (StartHeard.heard answer new own) = of_start answer new own
          by_start _ _ (StartHeard.unheard answer new own) = of_start answer new own

          periodic_law : After
          periodic_law = waiting_then (by_start reply heard.slot (step_known Kinds.Interrupt own_kind))

        start_law : After
        start_law = by kind refl
          where
            by : (x : EpKind) → kind ≡ x → After
            by Kinds.Bulk is = bulk_law is
            by Kinds.Interrupt is = periodic_law is
            by Kinds.Control is = absurd (false≢true (ap has_stream (sym is) ∙ streams))
            by Kinds.Iso is = absurd (false≢true (ap has_stream (sym is) ∙ streams))

      -- ---- a complete-split

      module _ (state : q.token.split_state ≡ true) where
        completes_is : transaction_of kind q ≡ completing kind q 1
        completes_is = is_completing kind q 1 at.below state at.inward

        abbrev complete_asked : Ask
        complete_asked = (call_in (completing kind q 1) out last).ask

        made_complete : transacts_by w complete_asked [] reply v
        made_complete =
            subst (λ (t : Transaction). transacts_by w (call_in t out last).ask (call_in t out last).out reply v) completes_is made

        told_at : CompletesAtHub (its_way kind) i place complete_asked o.slot reply v
        told_at = splits_by_key.completes (its_way kind) i place q.hub q.port w complete_asked [] reply v o.slot refl (goes_so kind streams)
            hub o.has made_complete

        waiting : IsWait true o.wait
        waiting = subst (λ (b : Bool). IsWait b o.wait) state o.is_wait

        abbrev Then : Line → Wait → KeySlot → Type 0
        Then l u s = InHolds packets (its_way kind) l u s

        half : (u : Wait) (s : KeySlot) → IsWait true u → Then line u s → Then line u (told s)
        half _ s completes h0 =
            steps packets (its_way kind) line line Waits Waits s (told s) (events.completes.unheard (its_way kind) s line Empty) h0
        half _ Empty too_late h0 = h0
        half _ (Asked a) too_late h0 = absurd h0.at
        half _ (Hidden a r) too_late h0 = absurd h0.at
        half _ (There a r) too_late h0 = absurd h0.at
        half _ (Told a r) too_late h0 = absurd h0.at

        half_by : (r : Reply) (new : KeySlot) → CompleteHeard (its_way kind) o.slot r new → Then line o.wait new
        half_by _ _ CompleteHeard.lost = o.holds
        half_by _ _ CompleteHeard.heard = half o.wait o.slot waiting o.holds
        half_by _ _ CompleteHeard.unheard = half o.wait o.slot waiting o.holds

        side_with : (l : Line) (u : Wait) (b : Bool) → IsWait b u → IsTimely kind timely u → z.host.waiting ≡ b
            → concat l.accepted ≡ known ++ moved → l.expects ≡ now
            → (going ≡ true → l.going ≡ true) → sender_of_line l ≡ sender_of_line line → Then l u told_at.slot → After
        side_with l u b wait on_time is knows expects goes same h0 = record {
          line = l;
          wait = u;
          slot = told_at.slot;
          is_wait = subst (λ (x : Bool). IsWait x u) (sym is) wait;
          in_time = on_time;
          knows = knows;
          expects = expects;
          goes = goes;
          has = told_at.has;
          right = transactions_keep_right (IsOfKind k) w complete_asked [] reply v made_complete tt o.right;
          sender = sender_stays (Complete q.hub q.port) (sender_of_line line)
              (ap (λ (t : Transaction). (call_in t out last).ask.split) completes_is) (λ e. cc) o.sender
              ∙ ap (λ (s : Sender). Some s) (sym same);
          holds = h0;
        }

        still_side : (l : Line) (u : Wait) (b : Bool) → is_moved z.outcome ≡ false → IsWait b u → IsTimely kind timely u
            → z.host.waiting ≡ b → l.accepted ≡ line.accepted → l.expects ≡ line.expects → (going ≡ true → l.going ≡ true)
            → sender_of_line l ≡ sender_of_line line → Then l u told_at.slot → After
        still_side l u b still wait on_time is accepted expects goes same h0 =
            side_with l u b wait on_time is (ap concat accepted ∙ o.knows ∙ still_known (still, by_none z.outcome still))
            (expects ∙ o.expects ∙ sym (toggle_by false still)) goes same h0

        -- an answer of the device, which the translator tells
        record IsGiven (r : Reply) : Type 0 where
          ask : Taken
          wait : o.wait ≡ Waits
          is : told o.slot ≡ Told ask r
          slot : told_at.slot ≡ told o.slot

        not_late : (u : Wait) (s : KeySlot) (a : Taken) (r : Reply) → told s ≡ Told a r → IsWait true u
            → Then line u s → u ≡ Waits
        not_late _ s a r is completes h0 = refl
        not_late _ Empty a r is too_late h0 = absurd cc
        not_late _ (Asked b) a r is too_late h0 = absurd h0.at
        not_late _ (Hidden b t) a r is too_late h0 = absurd h0.at
        not_late _ (There b t) a r is too_late h0 = absurd h0.at
        not_late _ (Told b t) a r is too_late h0 = absurd h0.at

        given : (r x : Reply) (new : KeySlot) → r ≡ x → told_at.slot ≡ new → (x ≡ Silent → ⊥) → (x ≡ Hand Packets.Nyet → ⊥)
            → CompleteHeard (its_way kind) o.slot r new → IsGiven x
        given _ x _ is at_slot answers ends CompleteHeard.lost = absurd (answers (sym is))
        given _ x _ is at_slot answers ends CompleteHeard.unheard = absurd (answers (sym is))
        given _ x _ is at_slot answers ends CompleteHeard.heard =
            let g = given_at (its_way kind) o.slot x is answers ends in
            record { ask = g.0; wait = not_late o.wait o.slot g.0 x g.1 waiting o.holds; is = g.1; slot = at_slot }

        hears : (r : Reply) (g : IsGiven r) (l : Line) → Hears line Pipe.In (in_answer r) l → Then l Idle told_at.slot
        hears r g l heard =
            subst (Then l Idle) (sym g.slot)
            (steps packets (its_way kind) line l Waits Idle o.slot (told o.slot)
            (events.completes.heard (its_way kind) g.ask r o.slot line l Empty g.is heard)
            (subst (λ (u : Wait). Then line u o.slot) g.wait o.holds))

        -- ---- the last complete-split of a frame, which is answered NYET

        module _ (own_kind : kind ≡ Kinds.Interrupt) (at_last : last ≡ true) where
          on_time : IsInTime (in_key kind q) i place w q.token.split_state last timely
          on_time = in_time own_kind

          over : IsOver o.slot
          over =
              on_time.over state at_last o.slot
              (subst (λ (x : EpKind). HubsHave (its_way x) k i place w.bus.hubs o.slot) own_kind o.has)

          in_waits : o.wait ≡ Waits
          in_waits = by o.wait waiting (o.in_time own_kind (on_time.completes state at_last))
            where
              by : (u : Wait) → IsWait true u → u ≢ Late → u ≡ Waits
              by _ completes never = refl
              by _ too_late never = absurd (never refl)

          piped : InHolds packets Piped line Waits o.slot
          piped =
              subst (λ (x : EpKind). InHolds packets (its_way x) line Waits o.slot) own_kind
              (subst (λ (u : Wait). Then line u o.slot) in_waits o.holds)

          given_none : (r : Reply) (new : KeySlot) → r ≡ Hand Packets.Nyet → CompleteHeard Piped o.slot r new
              → InHolds packets Piped line Idle new
          given_none _ _ is CompleteHeard.lost = absurd (let e : Silent ≡ Hand Packets.Nyet = is in cc)
          given_none _ _ is CompleteHeard.unheard = absurd (let e : Silent ≡ Hand Packets.Nyet = is in cc)
          given_none _ _ is CompleteHeard.heard = none_came packets line o.slot over is piped

          gave_none : reply ≡ Hand Packets.Nyet → Then line Idle told_at.slot
          gave_none is =
              subst (λ (x : EpKind). InHolds packets (its_way x) line Idle told_at.slot) (sym own_kind)
              (given_none reply told_at.slot is
              (subst (λ (x : EpKind). CompleteHeard (its_way x) o.slot reply told_at.slot) own_kind told_at.step))

        data_given : (pid : Pid) (bs : List ℕ) → reply ≡ Bytes pid bs → IsGiven (Bytes pid bs)
        data_given pid bs is = given reply (Bytes pid bs) told_at.slot is refl (λ e. cc) (λ e. cc) told_at.step

        hand_given : (pid : Pid) → reply ≡ Hand pid → (pid ≡ Packets.Nyet → ⊥) → IsGiven (Hand pid)
        hand_given pid is other = given reply (Hand pid) told_at.slot is refl (λ e. cc) (λ e. other cc) told_at.step

        as_line : (pid : Pid) (b : Bool) → alike (is_second pid) h ≡ b → alike (is_second pid) line.expects ≡ b
        as_line pid b is = ap (alike (is_second pid)) o.expects ∙ is

        halted_off : z.host.halted ≡ true → (l : Line) → going ≡ true → l.going ≡ true
        halted_off on l off = absurd (false≢true (sym (ap not on) ∙ off))

        complete_by : (r : Reply) → reply ≡ r → InSettles kind last q z r → After
        complete_by _ is (took pid bs same outcome got off) =
            let l : Line = record line { accepted = line.accepted ++ bs ∷ []; expects = not line.expects } in
            side_with l Idle false starts (idle_timely kind timely) off
            (concat-append line.accepted (bs ∷ []) ∙ ap (λ (xs : List ℕ). concat line.accepted ++ xs) (append-nil bs)
            ∙ ap (λ (xs : List ℕ). xs ++ bs) o.knows ∙ ap (λ (xs : List ℕ). known ++ xs) (sym (moved_in ∙ got)))
            (ap not o.expects ∙ sym (toggle_by true (ap is_moved outcome))) (λ on. goes_now) refl
            (hears (Bytes pid bs) (data_given pid bs is) l (takes (is_second pid) bs goes_now (as_line pid true same)))
        complete_by _ is (too_long pid bs same still off halted) =
            let l : Line = record line { going = false } in
            still_side l Idle false still starts (idle_timely kind timely) off refl refl (halted_off halted l) refl
            (hears (Bytes pid bs) (data_given pid bs is) l (is_long (is_second pid) bs (as_line pid true same)))
        complete_by _ is (repeated pid bs differs still off) =
            still_side line Idle false still starts (idle_timely kind timely) off refl refl (λ on. goes_now) refl
            (hears (Bytes pid bs) (data_given pid bs is) line (drops (is_second pid) bs (as_line pid false differs)))
        complete_by _ is (is_refused still off) =
            still_side line Idle false still starts (idle_timely kind timely) off refl refl (λ on. goes_now) refl
            (hears (Hand Packets.Nak) (hand_given Packets.Nak is (λ e. cc)) line waits)
        complete_by _ is (is_stalled still off halted) =
            let l : Line = record line { going = false } in
            still_side l Idle false still starts (idle_timely kind timely) off refl refl (halted_off halted l) refl
            (hears (Hand Packets.Stall) (hand_given Packets.Stall is (λ e. cc)) l stops)
        complete_by _ is (broke own_kind still off) =
            still_side line Idle false still starts (idle_timely kind timely) off refl refl (λ on. goes_now) refl
            (hears (Hand Packets.Err) (hand_given Packets.Err is (λ e. cc)) line fails)
        complete_by _ is (gave_up own_kind at_last still off) =
            still_side line Idle false still starts (idle_timely kind timely) off refl refl (λ on. goes_now) refl
            (gave_none own_kind at_last is)
        complete_by r is (goes_on _ still on) =
            still_side line o.wait true still waiting o.in_time on refl refl (λ on. goes_now) refl (half_by reply told_at.slot told_at.step)

        complete_law : After
        complete_law = complete_by reply refl (in_settles kind last q out reply streams at.below state at.inward)

    pub own_law : (b : Bool) → q.token.split_state ≡ b → Before → After
    own_law true state o = complete_law o state
    own_law false state o = start_law o state

pub own_in_goes_on : OwnInGoesOn
own_in_goes_on kind last packets part q i place w v timely known out reply streams at hub sent made in_time o =
    own_law kind last packets part q i place w v timely known out reply streams at hub sent made in_time q.token.split_state refl o
