-- Each transaction of the host of a request below a hub leaves host, hub and device as they must stand.
use Rattle.std.proofs.Common.{◌≡◌, ◌≤◌, ◌⊎◌, ℕ, Bool, true, false, List, [], Some, ap, refl, sym, subst, ◌∙◌, ⊎_elim, inl}
use Rattle.std.proofs.Common.{inr}
use Rattle.std.proofs.lemmas.Bool.{false≢true}
use Rattle.usb_base.specs.declared.packets.Ask.{Ask}
use Rattle.usb_base.specs.declared.packets.DataPart.TheVariants as Parts
use Rattle.usb_base.specs.declared.packets.Dir.{Dir}
use Rattle.usb_base.specs.declared.packets.EpKind.TheVariants as Kinds
use Rattle.usb_base.specs.declared.packets.Pid.{Pid}
use Rattle.usb_base.specs.declared.packets.Pid.TheVariants as Packets
use Rattle.usb_base.specs.declared.packets.Reply.{Reply}
use Rattle.usb_base.specs.declared.packets.Reply.TheVariants.{Silent, Hand}
use Rattle.usb_base.specs.declared.packets.Split.{Split}
use Rattle.usb_base.specs.declared.packets.Split.TheVariants.{Plain, Start, Complete}
use Rattle.qh_qtd.specs.declared.queue_head.Qh.{Qh}
use Rattle.toggle_error.specs.declared.host.HostSide.{HostSide}
use Rattle.toggle_error.specs.declared.rows.AskToken.{AskToken}
use Rattle.toggle_error.specs.declared.rows.AskToken.TheVariants as tokens
use Rattle.toggle_error.specs.Columns.{out_token, token_at as column_at, heard_of}
use Rattle.transactions.specs.Asks.{sends, ask_of}
use Rattle.transactions.specs.Calls.{Call, complete_sent}
use Rattle.hub_keys.specs.Keys.{direction_of}
use Rattle.tt_bulk.specs.Contents.{Taken}
use Rattle.bus_wire.specs.Bus.{Wired}
use Rattle.hc_copy.specs.declared.held.Transaction.{Transaction}
use Rattle.hc_copy.specs.Planning.{speed_at, transaction_at}
use Rattle.hc_copy.specs.Transacting.{call_in, outcome_in, host_after}
use Rattle.async_walk.specs.Naks.{planned}
use Rattle.claims_report.specs.Requests.{Request}
use Rattle.law_request.specs.Host.{Endpoint, Host, is_over, token_at, call_at, settled_by, heard_by}
use Rattle.law_request.specs.Line.{Line as Window}
use Rattle.law_request.specs.Standing.{Stands}
use Rattle.law_request.specs.Windows.{IsRequest}
use Rattle.law_request.proofs.Steps.{window_is_right}
use Rattle.law_devices.specs.request_calls.Bus.{device_of}
use Rattle.law_devices.specs.request_calls.Stages.{AreGiven, moved_of}
use Rattle.law_devices.specs.scripted_requests.Controls.{transacts_by}
use Rattle.law_translated.specs.Lift.{Buffered, Wait, Idle, Waits, Empty, Asked, Hidden, There, Told, told}
use Rattle.law_translated.specs.Lift.Step.{alone}
use Rattle.law_translated.specs.KeySlots.{KeySlot}
use Rattle.law_translated.specs.KeySteps.{OwnStart, given_reply}
use Rattle.law_translated.specs.KeyLaws.{start_of}
use Rattle.law_translated.specs.KeyEvents.{mapped}
use Rattle.law_translated.specs.Windows.{Line, IsAlike, alike, counts, Is, settles, Hears}
use Rattle.law_below_hubs.specs.SeatedControls.{control_at}
use Rattle.law_below_hubs.specs.HubsKeys.{HubsHave, AreRightHubs}
use Rattle.law_below_hubs.specs.ControlAsks.{IsRequestAsk}
use Rattle.law_below_hubs.specs.ControlWork.{control_call, control_answer, control_key}
use Rattle.law_below_hubs.specs.ControlTurns.{turned}
use Rattle.law_below_hubs.specs.ControlStands.{RequestHolds}
use Rattle.law_below_hubs.specs.HostIns.{IsWait, starts, completes, too_late}
use Rattle.law_below_hubs.specs.HostRequests.{unpinged, goes_on, ended, RequestSide, RequestBelow, IsWorkingBelow}
use Rattle.law_below_hubs.specs.HostRequests.{RequestGoesOnBy, OwnRequestGoesOn}
use Rattle.law_below_hubs.specs.Splits.{IsAtHub, StartHeard, StartsAtHub, CompleteHeard, CompletesAtHub, LeavesKey}
use Rattle.law_below_hubs.proofs.ControlAsks.{request_starts_are_right}
use Rattle.law_below_hubs.proofs.ControlBuses.{controls_at}
use Rattle.law_below_hubs.proofs.HostBeside.{other_key}
use Rattle.law_below_hubs.proofs.HostIns.{start_answers, starts_idle}
use Rattle.law_below_hubs.proofs.HostSettles.{is_taken}
use Rattle.law_below_hubs.proofs.Kept.{transactions_keep_right}
use Rattle.law_below_hubs.proofs.RequestHears.{low_pipe, stage_token, column, planned_by, start_is, heard_is}
use Rattle.law_below_hubs.proofs.RequestSettles.{Stays, still, halts, stays_stands, start_stays, below_outcome, below_host}
use Rattle.law_below_hubs.proofs.RequestSettles.{IsAnswer, Completes, waits_on, answered, completes as completes_as}
use Rattle.law_below_hubs.proofs.SplitsBeside.{splits_by_key}
use Rattle.law_below_hubs.proofs.RequestLines.{
  not_turned,
  turned_back,
  one_turn,
  same_or_not,
  once_within,
  line_goes,
  events,
  runs,
  steps,
  aside_leaves,
  turns_to,
}

-- ---- a transaction

module _ (e : Endpoint) (r : Request) (q : Qh) (source out : List ℕ) (reply : Reply) (i place : ℕ) (w v : Wired) (l : Window)
    (acts : List (List ℕ)) (request : IsRequest r) (whole : 8 ≤ e.max) (at : IsWorkingBelow e r q l.host)
    (given : AreGiven r q l.host source out) (hub : IsAtHub w.bus.hubs q.hub q.port i place) (o : RequestBelow e r i place w l acts)
  where
    abbrev h : Host
    h = l.host

    abbrev token : Pid
    token = token_at r l.host.stage

    abbrev dir : Dir
    dir = direction_of (token_at r l.host.stage)

    abbrev m : Line
    m = o.side.line

    -- what a transaction that is planned so comes to
    record GoesOnAs (t : Transaction) : Type 0 where
      line : Window
      host : line.host ≡ settled_by r (outcome_in t out false reply) (host_after t out false reply)
          (moved_of q (outcome_in t out false reply) reply source) l.host
      stands : RequestBelow e r i place v line acts

    own_line : m.window.host ≡ unpinged l.host
    own_line = line_goes h m at.goes_on o.side.is_line

    faces : o.side.dir ≡ direction_of (token_at r l.host.stage)
    faces = o.side.faces at.goes_on

    own_has : HubsHave Buffered (control_key e dir) i place w.bus.hubs o.side.slot
    own_has = subst (λ (d : Dir). HubsHave Buffered (control_key e d) i place w.bus.hubs o.side.slot) faces o.side.has

    own_other : HubsHave Buffered (control_key e (turned dir)) i place w.bus.hubs o.side.aside
    own_other = subst (λ (d : Dir). HubsHave Buffered (control_key e (turned d)) i place w.bus.hubs o.side.aside) faces o.side.other

    device_stays : (ask : Ask) (bytes : List ℕ) (split : Split) → ask.split ≡ split → (split ≡ Plain → ⊥)
        → transacts_by w ask bytes reply v → control_at v e.addr e.num ≡ Some (device_of e o.side.line.window.device)
    device_stays ask bytes split is other made =
        controls_at.others w ask bytes reply v e.addr e.num (device_of e m.window.device) made o.side.device
        (λ for. other (sym is ∙ for.plain))

    -- ---- it moves nothing

    module _ (slot aside : KeySlot) (has : HubsHave Buffered (control_key e dir) i place v.bus.hubs slot)
        (other : HubsHave Buffered (control_key e (turned dir)) i place v.bus.hubs aside)
        (right : AreRightHubs (IsRequestAsk r e.addr e.num) v.bus.hubs)
        (device : control_at v e.addr e.num ≡ Some (device_of e o.side.line.window.device)) where
      stays_side : (b : Bool) (g : Host) → Stays b l.host g → (u : Wait) → IsWait b u → RequestHolds e r o.side.line u slot aside
          → RequestSide e r i place v g acts
      stays_side b _ (still side t left a max is) u wait h0 =
          let g : Host = record { stage = l.host.stage; side = side; moved = l.host.moved } in
          let like : IsAlike (unpinged l.host) (unpinged g) = alike (record side { ping = false }) t left max a in
          let next : Line = record m { window = record m.window { host = unpinged g } } in
          record {
            line = next;
            wait = u;
            dir = dir;
            slot = slot;
            aside = aside;
            is_line = goes_on refl;
            is_wait = subst (λ (x : Bool). IsWait x u) (sym is) wait;
            faces = λ on. refl;
            idle = λ over no_error. absurd (false≢true (sym at.goes_on ∙ over));
            acted = o.side.acted;
            has = has;
            other = other;
            right = right;
            device = device;
            holds = steps e r request m next u u slot slot aside
                (alone next (counts (unpinged g) (subst (λ (x : Host). IsAlike x (unpinged g)) (sym own_line) like)
                (sym (ap (λ (x : Host). x.side.ping) own_line)))) h0;
          }
      stays_side b _ (halts side max is) u wait h0 = record {
        line = m;
        wait = u;
        dir = dir;
        slot = slot;
        aside = aside;
        is_line = ended refl;
        is_wait = subst (λ (x : Bool). IsWait x u) (sym is) wait;
        faces = λ on. absurd (false≢true (sym on));
        idle = λ over no_error. absurd (no_error refl);
        acted = o.side.acted;
        has = has;
        other = other;
        right = right;
        device = device;
        holds = h0;
      }

      stays_below : (b : Bool) (g : Host) → Stays b l.host g → (u : Wait) → IsWait b u → RequestHolds e r o.side.line u slot aside
          → RequestBelow e r i place v (record { host = g; device = l.device; acts = l.acts }) acts
      stays_below b g stays u wait h0 = record {
        side = stays_side b g stays u wait h0;
        stands = stays_stands e r b l.host g l.device l.acts stays o.stands;
        within = o.within;
      }

    -- ---- a start-split

    module _ (state : q.token.split_state ≡ false)
        (made : transacts_by w (call_in (transaction_at (Start q.hub q.port Parts.All) (low_pipe e q
        (token_at r l.host.stage)) l.host.side) out
        false).ask
        (call_in (transaction_at (Start q.hub q.port Parts.All)
        (low_pipe e q (token_at r l.host.stage)) l.host.side) out false).out reply v)
      where
        abbrev asked : Ask
        asked = ask_of (Start q.hub q.port Parts.All) (low_pipe e q (token_at r l.host.stage)) l.host.side

        abbrev bytes : List ℕ
        bytes = sends (Start q.hub q.port Parts.All) (token_at r l.host.stage) out

        heard : StartsAtHub Buffered i place asked bytes o.side.slot reply v
        heard = splits_by_key.starts Buffered i place q.hub q.port Parts.All w asked bytes reply v o.side.slot refl refl hub own_has made

        beside : LeavesKey Buffered (control_key e (turned dir)) i place o.side.aside v
        beside =
            splits_by_key.starts_other Buffered
            (control_key e (turned dir)) i place q.hub q.port Parts.All w asked bytes reply v o.side.aside
            refl refl (other_key (control_key e (turned dir)) asked (λ same addr ep. not_turned dir same)) own_other made

        idle : o.side.wait ≡ Idle
        idle = starts_idle o.side.wait (subst (λ (b : Bool). IsWait b o.side.wait)
            (sym (ap (λ (x : HostSide). x.waiting) at.side) ∙ state) o.side.is_wait)

        off : l.host.side.waiting ≡ false
        off = sym (ap (λ (x : HostSide). x.waiting) at.side) ∙ state

        holds : RequestHolds e r o.side.line Idle o.side.slot beside.slot
        holds =
            aside_leaves e r request m Idle o.side.slot o.side.aside beside.slot beside.step
            (subst (λ (u : Wait). RequestHolds e r m u o.side.slot o.side.aside) idle o.side.holds)

        abbrev taken : Taken
        taken = start_of asked bytes heard.stuff

        is_asked : Is e r o.side.line (control_call (start_of asked bytes heard.stuff))
        is_asked = record {
          on = ap (λ (x : Host). is_over x.stage) own_line ∙ at.goes_on;
          asks = start_is e r q source out l request whole at given o.stands heard.stuff state ∙ ap (call_at e r) (sym own_line);
        }

        right : AreRightHubs (IsRequestAsk r e.addr e.num) v.bus.hubs
        right =
            transactions_keep_right (IsRequestAsk r e.addr e.num) w asked bytes reply v made
            (request_starts_are_right r e.addr e.num h (low_pipe e q token) at.goes_on refl refl) o.side.right

        device : control_at v e.addr e.num ≡ Some (device_of e o.side.line.window.device)
        device = device_stays asked bytes (Start q.hub q.port Parts.All) refl (λ x. cc) made

        abbrev left : Reply → Host
        left x = settled_by r
            (outcome_in (transaction_at (Start q.hub q.port Parts.All) (low_pipe e q (token_at r l.host.stage)) l.host.side) out false x)
            (host_after (transaction_at (Start q.hub q.port Parts.All) (low_pipe e q (token_at r l.host.stage)) l.host.side) out false x)
            (moved_of q (outcome_in (transaction_at (Start q.hub q.port Parts.All) (low_pipe e q
            (token_at r l.host.stage)) l.host.side) out false
            x) x source) l.host

        with_wait : (x : Reply) (u : Wait) → reply ≡ x → IsWait (is_taken Kinds.Control (heard_of l.host.side x)) u
            → RequestHolds e r o.side.line u heard.slot beside.slot
            → RequestBelow e r i place v (record { host = left reply; device = l.device; acts = l.acts }) acts
        with_wait x u is wait h0 =
            stays_below heard.slot beside.slot heard.has beside.has right device (is_taken Kinds.Control (heard_of h.side reply))
            (left reply) (start_stays r (heard_of h.side reply) h _ off) u
            (subst (λ (y : Reply). IsWait (is_taken Kinds.Control (heard_of h.side y)) u) (sym is) wait) h0

        of_own : (x : Reply) (new : KeySlot) → reply ≡ x → OwnStart Buffered taken o.side.slot x new → new ≡ heard.slot
            → RequestBelow e r i place v (record { host = left reply; device = l.device; acts = l.acts }) acts
        of_own x new is own at_slot =
            ⊎_elim
            (λ (acked : x ≡ Hand Packets.Ack).
            with_wait (Hand Packets.Ack) Waits (is ∙ acked) completes
            (subst (λ (s : KeySlot). RequestHolds e r m Waits s beside.slot) at_slot
            (steps e r request m m Idle Waits o.side.slot new beside.slot
            ((events e r request).starts.heard taken o.side.slot new m (mapped control_call control_answer beside.slot)
            (subst (λ (y : Reply). OwnStart Buffered taken o.side.slot y new) acked own) is_asked) holds)))
            (λ (refused : x ≡ Hand Packets.Nak).
            with_wait (Hand Packets.Nak) Idle (is ∙ refused) starts
            (subst (λ (s : KeySlot). RequestHolds e r m Idle s beside.slot) at_slot
            (runs e r request m m Idle Idle o.side.slot new beside.slot
            ((events e r request).starts.unheard taken o.side.slot x new m (mapped control_call control_answer beside.slot) own is_asked)
            holds)))
            (start_answers taken o.side.slot x new own)

        by_step : (x : Reply) (new : KeySlot) → reply ≡ x → new ≡ heard.slot → StartHeard Buffered taken o.side.slot x new
            → RequestBelow e r i place v (record { host = left reply; device = l.device; acts = l.acts }) acts
        by_step _ _ is at_slot StartHeard.lost =
            with_wait Silent Idle is starts (subst (λ (s : KeySlot). RequestHolds e r m Idle s beside.slot) at_slot holds)
        by_step _ _ is at_slot (StartHeard.heard answer new own) = of_own answer new is own at_slot
        by_step _ _ is at_slot (StartHeard.unheard answer new own) =
            with_wait Silent Idle is starts
            (subst (λ (s : KeySlot). RequestHolds e r m Idle s beside.slot) at_slot
            (runs e r request m m Idle Idle o.side.slot new beside.slot
            ((events e r request).starts.unheard taken o.side.slot answer new m
            (mapped control_call control_answer beside.slot) own is_asked)
            holds))

        start_law : GoesOnAs (transaction_at (Start q.hub q.port Parts.All) (low_pipe e q (token_at r l.host.stage)) l.host.side)
        start_law = record {
          line = record { host = left reply; device = l.device; acts = l.acts };
          host = refl;
          stands = by_step reply heard.slot refl refl heard.step;
        }

    -- ---- a complete-split

    module _ (state : q.token.split_state ≡ true)
        (made : transacts_by w (call_in (transaction_at (Complete q.hub q.port) (low_pipe e q (token_at r l.host.stage)) l.host.side) out
        false).ask
        (call_in (transaction_at (Complete q.hub q.port) (low_pipe e q (token_at r l.host.stage)) l.host.side) out false).out reply v)
      where
        abbrev complete_asked : Ask
        complete_asked = ask_of (Complete q.hub q.port) (low_pipe e q (token_at r l.host.stage)) l.host.side

        told_at : CompletesAtHub Buffered i place complete_asked o.side.slot reply v
        told_at = splits_by_key.completes Buffered i place q.hub q.port w complete_asked [] reply v o.side.slot refl refl hub own_has made

        still_other : HubsHave Buffered (control_key e (turned dir)) i place v.bus.hubs o.side.aside
        still_other =
            splits_by_key.completes_other Buffered (control_key e (turned dir)) i place q.hub q.port w complete_asked
            [] reply v o.side.aside
            refl refl (other_key (control_key e (turned dir)) complete_asked (λ same addr ep. not_turned dir same)) own_other made

        still_right : AreRightHubs (IsRequestAsk r e.addr e.num) v.bus.hubs
        still_right = transactions_keep_right (IsRequestAsk r e.addr e.num) w complete_asked [] reply v made tt o.side.right

        still_device : control_at v e.addr e.num ≡ Some (device_of e o.side.line.window.device)
        still_device = device_stays complete_asked [] (Complete q.hub q.port) refl (λ x. cc) made

        on : l.host.side.waiting ≡ true
        on = sym (ap (λ (x : HostSide). x.waiting) at.side) ∙ state

        waiting : IsWait true o.side.wait
        waiting = subst (λ (b : Bool). IsWait b o.side.wait) on o.side.is_wait

        half : (u : Wait) (s : KeySlot) → IsWait true u → RequestHolds e r o.side.line u s o.side.aside
            → RequestHolds e r o.side.line u (told s) o.side.aside
        half _ s completes h0 =
            steps e r request m m Waits Waits s (told s) o.side.aside
            ((events e r request).completes.unheard Buffered s m (mapped control_call control_answer o.side.aside)) h0
        half _ Empty too_late h0 = h0
        half _ (Asked a) too_late h0 = absurd h0.at
        half _ (Hidden a t) too_late h0 = absurd h0.at
        half _ (There a t) too_late h0 = absurd h0.at
        half _ (Told a t) too_late h0 = absurd h0.at

        half_by : (x : Reply) (new : KeySlot) → CompleteHeard Buffered o.side.slot x new
            → RequestHolds e r o.side.line o.side.wait new o.side.aside
        half_by _ _ CompleteHeard.lost = o.side.holds
        half_by _ _ CompleteHeard.heard = half o.side.wait o.side.slot waiting o.side.holds
        half_by _ _ CompleteHeard.unheard = half o.side.wait o.side.slot waiting o.side.holds

        -- an answer of the device, which the translator tells
        record IsGiven (x : Reply) : Type 0 where
          ask : Taken
          is : told o.side.slot ≡ Told ask x
          slot : told_at.slot ≡ told o.side.slot
          at_told : RequestHolds e r o.side.line Waits (Told ask x) o.side.aside

        not_late : (u : Wait) (s : KeySlot) (a : Taken) (x : Reply) → told s ≡ Told a x → IsWait true u
            → RequestHolds e r o.side.line u s o.side.aside → RequestHolds e r o.side.line Waits (Told a x) o.side.aside
        not_late _ s a x is completes h0 =
            subst (λ (y : KeySlot). RequestHolds e r m Waits y o.side.aside) is (half Waits s completes h0)
        not_late _ Empty a x is too_late h0 = absurd cc
        not_late _ (Asked b) a x is too_late h0 = absurd h0.at
        not_late _ (Hidden b t) a x is too_late h0 = absurd h0.at
        not_late _ (There b t) a x is too_late h0 = absurd h0.at
        not_late _ (Told b t) a x is too_late h0 = absurd h0.at

        given_at : (s : KeySlot) (x : Reply) → given_reply Buffered s ≡ x → (x ≡ Silent → ⊥) → (x ≡ Hand Packets.Nyet → ⊥)
            → (a : Taken) × (told s ≡ Told a x)
        given_at Empty x is answers ends = absurd (answers (sym is))
        given_at (Asked a) x is answers ends = absurd (ends (sym is))
        given_at (Hidden a t) x is answers ends = absurd (ends (sym is))
        given_at (There a t) x is answers ends = (a, ap (Told a) is)
        given_at (Told a t) x is answers ends = (a, ap (Told a) is)

        given_by : (x : Reply) (new : KeySlot) → (x ≡ Silent → ⊥) → (x ≡ Hand Packets.Nyet → ⊥) → told_at.slot ≡ new
            → CompleteHeard Buffered o.side.slot x new → IsGiven x
        given_by _ _ answers ends at_slot CompleteHeard.lost = absurd (answers refl)
        given_by _ _ answers ends at_slot CompleteHeard.unheard = absurd (answers refl)
        given_by _ _ answers ends at_slot CompleteHeard.heard =
            let g = given_at o.side.slot (given_reply Buffered o.side.slot) refl answers ends in
            record {
              ask = g.0;
              is = g.1;
              slot = at_slot;
              at_told = not_late o.side.wait o.side.slot g.0 (given_reply Buffered o.side.slot) g.1 waiting o.side.holds;
            }

        abbrev column_below : AskToken
        column_below = column_at (token_at r l.host.stage) (out_token (speed_at q.eps) Kinds.Control)

        abbrev column_plain : AskToken
        column_plain = column_at (token_at r l.host.stage) tokens.PingedOut

        abbrev n : ℕ
        n = complete_sent (token_at r l.host.stage) l.host.side

        -- what the host is left as
        abbrev left_now : Host
        left_now = below_host r (column_at (token_at r l.host.stage) (out_token (speed_at q.eps) Kinds.Control))
            (heard_of l.host.side reply)
            (complete_sent (token_at r l.host.stage) l.host.side)
            (moved_of q (below_outcome (column_at (token_at r l.host.stage) (out_token (speed_at q.eps) Kinds.Control))
            (heard_of l.host.side reply) (complete_sent (token_at r l.host.stage) l.host.side) l.host.side) reply source) l.host

        abbrev LeftSo : Type 0
        LeftSo = (line : Window) × (line.host ≡ left_now) × RequestBelow e r i place v line acts

        waits_still : ((got : List ℕ) → Stays true l.host (below_host r column_below (heard_of l.host.side reply) n got l.host)) → LeftSo
        waits_still stays = (
          record { host = left_now; device = l.device; acts = l.acts },
          refl,
          stays_below told_at.slot o.side.aside told_at.has still_other still_right still_device true left_now (stays _) o.side.wait waiting
              (half_by reply told_at.slot told_at.step),
        )

        -- ---- the device's answer

        module _ (a : IsAnswer r column_below column_plain n (heard_of l.host.side reply) l.host) (g : IsGiven reply) where
          abbrev next : Line
          next = record o.side.line { window = record o.side.line.window { host = unpinged left_now } }

          asked_so : control_call g.ask ≡ call_at e r o.side.line.window.host
          asked_so = g.at_told.at.is.asks

          hears_it : Hears e r o.side.line (control_call g.ask) reply next
          hears_it =
              settles (unpinged left_now)
              (subst (λ (c : Call). IsAlike (heard_by r c reply m.window.host) (unpinged left_now)) (sym asked_so)
              (subst (λ (x : Host). IsAlike (heard_by r (call_at e r x) reply x) (unpinged left_now)) (sym own_line)
              (heard_is e r q source out l request whole at given o.stands reply a)))

          heard_holds : RequestHolds e r next Idle (Told g.ask reply) o.side.aside
          heard_holds =
              steps e r request m next Waits Idle (Told g.ask reply) (Told g.ask reply) o.side.aside
              ((events e r request).completes.heard Buffered g.ask reply (Told g.ask reply) m next
              (mapped control_call control_answer o.side.aside) refl hears_it) g.at_told

          own_told : HubsHave Buffered (control_key e dir) i place v.bus.hubs (Told g.ask reply)
          own_told = subst (HubsHave Buffered (control_key e dir) i place v.bus.hubs) (g.slot ∙ g.is) told_at.has

          waits_not : left_now.side.waiting ≡ false
          waits_not = a.waits _

          abbrev next_dir : Dir
          next_dir = direction_of (token_at r left_now.stage)

          faced : ((dir ≡ next_dir) ⊎ (dir ≡ next_dir → ⊥)) → RequestSide e r i place v left_now acts
          faced (inl same) = record {
            line = next;
            wait = Idle;
            dir = dir;
            slot = Told g.ask reply;
            aside = o.side.aside;
            is_line = goes_on refl;
            is_wait = subst (λ (b : Bool). IsWait b Idle) (sym waits_not) starts;
            faces = λ going. same;
            idle = λ over no_error. waits_not;
            acted = o.side.acted;
            has = own_told;
            other = still_other;
            right = still_right;
            device = still_device;
            holds = heard_holds;
          }
          faced (inr other) = record {
            line = next;
            wait = Idle;
            dir = turned dir;
            slot = o.side.aside;
            aside = Told g.ask reply;
            is_line = goes_on refl;
            is_wait = subst (λ (b : Bool). IsWait b Idle) (sym waits_not) starts;
            faces = λ going. sym (one_turn dir next_dir other);
            idle = λ over no_error. waits_not;
            acted = o.side.acted;
            has = still_other;
            other = subst (λ (d : Dir). HubsHave Buffered (control_key e d) i place v.bus.hubs (Told g.ask reply))
                (sym (turned_back dir)) own_told;
            right = still_right;
            device = still_device;
            holds = turns_to e r request next (Told g.ask reply) o.side.aside tt heard_holds;
          }

          stands_now : Stands e r (record o.side.line.window { host = unpinged left_now })
          stands_now = heard_holds.at

          answer_left : LeftSo
          answer_left = (
            record { host = left_now; device = m.window.device; acts = m.window.acts },
            refl,
            record {
              side = faced (same_or_not dir next_dir);
              stands = record { host_max = stands_now.host_max; device_max = stands_now.device_max; stage = stands_now.stage };
              within = once_within m.window.acts o.side.acted (window_is_right e r next.window stands_now).once;
            },
          )

        complete_as : Completes r column_below column_plain n (heard_of l.host.side reply) l.host → LeftSo
        complete_as (waits_on stays) = waits_still stays
        complete_as (answered a) =
            answer_left a
            (given_by reply told_at.slot (λ x. a.answers (ap (heard_of h.side) x)) (λ x. a.ends (ap (heard_of h.side) x)) refl told_at.step)

        complete_law : GoesOnAs (transaction_at (Complete q.hub q.port) (low_pipe e q (token_at r l.host.stage)) l.host.side)
        complete_law =
            let k = complete_as (completes_as r n h column_below column_plain (heard_of h.side reply)
            (column token (stage_token r h.stage at.goes_on) (speed_at q.eps)) on) in
            record { line = k.0; host = k.1; stands = k.2 }

    -- ---- both

    law_by : (b : Bool) → q.token.split_state ≡ b
        → transacts_by w (call_in (planned q) out false).ask (call_in (planned q) out false).out reply v → GoesOnAs (planned q)
    law_by false state made =
        let is = planned_by e r q h false at state in
        subst GoesOnAs (sym is)
        (start_law state (subst (λ (t : Transaction). transacts_by w (call_in t out false).ask (call_in t out false).out reply v) is made))
    law_by true state made =
        let is = planned_by e r q h true at state in
        subst GoesOnAs (sym is)
        (complete_law state (subst (λ (t : Transaction). transacts_by w (call_in t out false).ask
        (call_in t out false).out reply v) is made))

    own_law : transacts_by w (call_in (planned q) out false).ask (call_in (planned q) out false).out reply v
        → RequestGoesOnBy e r q source out reply i place v l acts
    own_law made =
        let k = law_by q.token.split_state refl made in
        record { line = k.line; host = k.host; stands = k.stands }

pub own_request_goes_on : OwnRequestGoesOn
own_request_goes_on e r q source out reply i place w v l acts request whole at given hub made o =
    own_law e r q source out reply i place w v l acts request whole at given hub o made
