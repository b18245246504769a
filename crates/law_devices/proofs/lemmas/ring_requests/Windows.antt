-- Each event of the walk, by its effect, transaction_keeps the windows of all requests.
use Rattle.std.proofs.Common.{◌≡◌, ◌≢◌, ℕ, suc, ◌-◌, ◌<◌, ◌≤◌, ◌==◌, ◌&&◌, Bool, true, false, if◌then◌else◌, List, [], ◌++◌, drop, Option, Some, None, ap, refl, sym, subst, ◌∙◌, ⊎_elim, arith}
use Rattle.std.proofs.lemmas.Bool.{cases_eq, cases_lt, eq-eqb, false≢true}
use Rattle.law_common.proofs.Booleans.{and_both}
use Rattle.law_common.proofs.Numbers.{other_number}
use Rattle.usb_base.specs.declared.endpoints.EndCause.{EndCause}
use Rattle.usb_base.specs.declared.packets.Ask.{Ask}
use Rattle.usb_base.specs.declared.packets.Reply.{Reply}
use Rattle.qh_qtd.specs.declared.qtd.Qtd.{Qtd}
use Rattle.qh_qtd.specs.declared.queue_head.Qh.{Qh}
use Rattle.toggle_error.specs.declared.host.HostSide.{HostSide}
use Rattle.hc_copy.specs.Overlay.{advanced, buffer_place}
use Rattle.hc_copy.specs.Planning.{pid_at, host_in}
use Rattle.hc_copy.specs.Transacting.{call_in}
use Rattle.async_walk.specs.declared.state.WalkStep.{WalkStep}
use Rattle.async_walk.specs.Naks.{kind_at, planned}
use Rattle.async_walk.specs.Rows.{WalkPlace, at_event, event_row, step_of, Leads}
use Rattle.law_structures.specs.lent_structures.Settles.{Settles}
use Rattle.law_structures.proofs.lemmas.lent_structures.Settling.{a_transaction_settles}
use Rattle.law_structures.specs.lent_structures.Structures.{QueueHead, Element, Structures, StructureSets, with_structure}
use Rattle.law_structures.proofs.lemmas.lent_structures.Names.{put_here, put_beside, with_here}
use Rattle.law_structures.proofs.lemmas.lent_structures.Found.{back_beside}
use Rattle.law_structures.specs.lent_structures.Sound.{AreOwn, IsWorking, IsSoundQueue, IsMember}
use Rattle.law_structures.specs.lent_structures.Alters.{Alters}
use Rattle.law_structures.proofs.lemmas.lent_structures.Altering.{found_queue, found_element}
use Rattle.law_ring.specs.Hand.{Copy, Settlement, settled_queue_of, Hand, Settled}
use Rattle.claims_base.specs.Controller.{Base}
use Rattle.law_ring.specs.Ring.{IsCopied, IsSettled, IsInHand, IsRing}
use Rattle.law_ring.specs.Effects.{buffer_of, received_into, settlement, counted, taken, Takes, Makes, WritesBack, Effect, Happens, AreBytesHeard}
use Rattle.law_ring.specs.Effects.Effect.{reads, passes, ends, takes, makes, writes_back}
use Rattle.law_ring.proofs.Stepping.{each_event}
use Rattle.law_ring.proofs.Writing.{queue_written}
use Rattle.law_ring.specs.Told.{Told, endpoint_of, SameTold}
use Rattle.law_ring.specs.Streams.{AreMembers, Grows}
use Rattle.law_ring.proofs.Altered.{effect_alters}
use Rattle.law_ring.proofs.Keeping.{IsUnsettled, empty_unsettled, copied_unsettled, same_kept, taking_tells_the_same}
use Rattle.law_ring.proofs.Growing.{transaction_grows}
use Rattle.law_ring.proofs.Written.{writing_tells_the_same}
use Rattle.claims_report.specs.Requests.{Request}
use Rattle.law_request.specs.Host.{Endpoint, Host, Stage, Setup, Data, Status, Done, Halted, is_over, settled_by}
use Rattle.law_request.specs.Line.{Line, transacted}
use Rattle.law_request.specs.Standing.{sight_of}
use Rattle.law_request.specs.Windows.{IsRight}
use Rattle.law_request.proofs.Steps.{transaction_keeps, window_opens, window_is_right}
use Rattle.claims_report.specs.ControlSides.{Device}
use Rattle.law_devices.specs.request_calls.Bus.{device_of, IsAskFor, IsControlBus}
use Rattle.law_devices.specs.request_calls.Stages.{IsEndpoint, WorksOn, AreGiven, moved_of, IsTransaction}
use Rattle.law_devices.proofs.lemmas.request_calls.Making.{makes_one}
use Rattle.law_devices.specs.ring_requests.Laid.{Places, place_at, IsPlace, AreApart, HasBytes}
use Rattle.law_devices.specs.ring_requests.Shown.{hand_side, AreFresh, IsPending, Works, Ends, Shows, IsAmong}
use Rattle.law_devices.specs.ring_requests.Shown.Shows.{works, waits, ends, halts}
use Rattle.law_devices.specs.ring_requests.Windows.{Sent, Queue, sent_at, Lines, IsWindow, IsFinished, IsBehind, HasEnded, IsActedOnce, HasTail, IsQueueOf, IsQueue, AreSent, IsElsewhere, AreWindows, AreHigh, Transaction, Advance, Step, opened, progressed, stepped, stage_of, is_done, IsTransactionAt, advance_at, IsStepOf, HaltedStay, WindowsGoOn}
use Rattle.law_devices.proofs.lemmas.ring_requests.Stages.{idle_still}
use Rattle.law_devices.proofs.lemmas.ring_requests.Outcomes.{call_leaves, moved_none}
use Rattle.law_devices.proofs.lemmas.ring_requests.Given.{sized, IsSized, stage_given}
use Rattle.law_devices.proofs.lemmas.ring_requests.Moving.{shows_after, moved_in_data, moved_beside}
use Rattle.law_devices.proofs.lemmas.ring_requests.Telling.{finished_once, queue_ended}
use Rattle.law_devices.proofs.lemmas.ring_requests.Taking.{endpoint_taken, taken_shows, fresh_there as fresh_taken, taken_works, none_more, done_is, ends_only, next_waits}
use Rattle.law_devices.proofs.lemmas.ring_requests.Writing.{endpoint_back, head_now, host_now, back_shows, among_back, fresh_there as fresh_back}

-- ---- the host's side in hand

pub side_unsettled : (hand : Hand) (n : ℕ) (q : Qh) → IsUnsettled hand → hand_side hand n q ≡ host_in q
side_unsettled (Settled c z) n q un = absurd (un c z refl)
side_unsettled _ n q un = refl

pub side_here : (hand : Hand) (c : Copy) (z : Settlement) (q : Qh) → hand ≡ Settled c z → hand_side hand c.at q ≡ z.host
side_here hand c z q is = ap (λ (h : Hand). hand_side h c.at q) is ∙ ap (λ (b : Bool). if b then z.host else host_in q) (eq-eqb c.at c.at refl)

pub side_beside : (hand : Hand) (c : Copy) (z : Settlement) (n : ℕ) (q : Qh) → hand ≡ Settled c z → c.at ≢ n → hand_side hand n q ≡ host_in q
side_beside hand c z n q is differs = ap (λ (h : Hand). hand_side h n q) is ∙ ap (λ (b : Bool). if b then z.host else host_in q) (other_number c.at n differs)

-- ---- a window that goes on as it was

window_same : (v : Sent) (l : Line) (hand later : Hand) (parts now : StructureSets) (n : ℕ) (o : Option Device) → now n ≡ parts n → ((q : Qh) → hand_side later n q ≡ hand_side hand n q)
    → ((xs : List ℕ) → Told hand parts n v.places.data_at xs → Told later now n v.places.data_at xs) → IsWindow v l hand parts n o → IsWindow v l later now n o
window_same v l hand later parts now n o same sides told w = record {
  queue = w.queue;
  head = ap (λ (part : Structures). part n) same ∙ w.head;
  control = w.control;
  shown = subst (λ (part : Structures). Shows v.endpoint v.request v.places part (hand_side later n w.queue) w.queue l.host) (sym same)
      (subst (λ (s : HostSide). Shows v.endpoint v.request v.places (parts n) s w.queue l.host) (sym (sides w.queue)) w.shown);
  among = w.among;
  moved = λ some. told l.host.moved (w.moved some);
  device = w.device;
  stands = w.stands;
}

-- a window whose queue head is written
window_at : (v : Sent) (l : Line) (hand later : Hand) (parts now : StructureSets) (n : ℕ) (o : Option Device) (new : Qh) (side : HostSide) → now n n ≡ Some (QueueHead new) → IsEndpoint v.endpoint new → hand_side later n new ≡ side
    → Shows v.endpoint v.request v.places (now n) side new l.host → IsAmong v.places new → ((xs : List ℕ) → Told hand parts n v.places.data_at xs → Told later now n v.places.data_at xs) → IsWindow v l hand parts n o → IsWindow v l later now n o
window_at v l hand later parts now n o new side head control sides shown among told w = record {
  queue = new;
  head = head;
  control = control;
  shown = subst (λ (s : HostSide). Shows v.endpoint v.request v.places (now n) s new l.host) (sym sides) shown;
  among = among;
  moved = λ some. told l.host.moved (w.moved some);
  device = w.device;
  stands = w.stands;
}

-- ---- the requests before it and behind it

finished_same : (v : Sent) (l : Line) (hand later : Hand) (parts now : StructureSets) (n : ℕ) → ((xs : List ℕ) → Told hand parts n v.places.data_at xs → Told later now n v.places.data_at xs) → IsFinished v l hand parts n → IsFinished v l later now n
finished_same v l hand later parts now n told w = record { done = w.done; moved = λ some. told l.host.moved (w.moved some); stands = w.stands }

abbrev Fresh : Queue → ℕ → Structures → Type 0
Fresh v i part = AreFresh v.endpoint (v.requests i) (v.places i) part Setup

-- whatever is said of the request under way, before an event and after it
module _ (window_is next_is : Sent → Line → Type 0) (v : Queue) (l : Lines) (hand later : Hand) (parts now : StructureSets) (n : ℕ)
    (fresh : (i : ℕ) → l.under < i → i < v.count → AreFresh v.endpoint (v.requests i) (v.places i) (parts n) Setup
    → AreFresh v.endpoint (v.requests i) (v.places i) (now n) Setup)
    (tail : HasTail v (parts n) → HasTail v (now n)) where
  behind_after : (i : ℕ) → ((xs : List ℕ) → Told hand parts n (v.places i).data_at xs → Told later now n (v.places i).data_at xs)
      → l.under < i → i < v.count → IsBehind (sent_at v i) hand parts n → IsBehind (sent_at v i) later now n
  behind_after i told more few w = record { fresh = fresh i more few w.fresh; none_told = λ some. told [] (w.none_told some) }

  -- the request under way goes on
  pub queue_goes_on : (line : ℕ → Line) → ((i : ℕ) → i < l.under → line i ≡ l.line i) → next_is (sent_at v l.under) (line l.under)
      → ((i : ℕ) → i < v.count → i ≢ l.under → (xs : List ℕ) → Told hand parts n (v.places i).data_at xs
      → Told later now n (v.places i).data_at xs)
      → IsQueueOf window_is v l hand parts n → IsQueueOf next_is v (record { under = l.under; line = line }) later now n
  queue_goes_on line same window told w = record {
    within = w.within;
    window = window;
    finished = λ i less.
        let within = w.within in
        subst (λ (x : Line). IsFinished (sent_at v i) x later now n) (sym (same i less))
        (finished_same (sent_at v i) (l.line i) hand later parts now n (told i (omega (arith, less, within)) (λ is. omega (arith, less, is)))
        (w.finished i less));
    behind = λ i more few. behind_after i (told i few (λ is. omega (arith, more, is))) more few (w.behind i more few);
    tail = tail w.tail;
  }

  -- it is done
  module _ (is_finished : IsFinished (sent_at v l.under) (l.line l.under) hand parts n) where
    finished_until : IsQueueOf window_is v l hand parts n → (i : ℕ) → i < suc l.under → IsFinished (sent_at v i) (l.line i) hand parts n
    finished_until w i less =
        ⊎_elim {C = IsFinished (sent_at v i) (l.line i) hand parts n}
        (λ (same : i ≡ l.under). subst (λ (j : ℕ). IsFinished (sent_at v j) (l.line j) hand parts n) (sym same) is_finished)
        (λ (differs : i ≢ l.under). w.finished i (omega (arith, less, differs))) (cases_eq i l.under)

    -- and the next one is begun
    pub queue_goes_next : (line : ℕ → Line) → suc l.under < v.count → ((i : ℕ) → i < suc l.under → line i ≡ l.line i)
        → next_is (sent_at v (suc l.under)) (line (suc l.under))
        → ((i : ℕ) (xs : List ℕ) → Told hand parts n (v.places i).data_at xs → Told later now n (v.places i).data_at xs)
        → IsQueueOf window_is v l hand parts n → IsQueueOf next_is v (record { under = suc l.under; line = line }) later now n
    queue_goes_next line some same window told w = record {
      within = some;
      window = window;
      finished = λ i less.
          subst (λ (x : Line). IsFinished (sent_at v i) x later now n) (sym (same i less))
          (finished_same (sent_at v i) (l.line i) hand later parts now n (told i) (finished_until w i less));
      behind = λ i more few. behind_after i (told i) (omega (arith, more)) few (w.behind i (omega (arith, more)) few);
      tail = tail w.tail;
    }

module _ (v : Queue) (l : Lines) (hand later : Hand) (parts now : StructureSets) (n : ℕ) (o new : Option Device) (fresh : (i : ℕ) → l.under < i → i < v.count → Fresh v i (parts n) → Fresh v i (now n)) (tail : HasTail v (parts n) → HasTail v (now n)) where
  abbrev Before : Sent → Line → Type 0
  Before s x = IsWindow s x hand parts n o

  abbrev After : Sent → Line → Type 0
  After s x = IsWindow s x later now n new

  queue_goes : (line : ℕ → Line) → ((i : ℕ) → i < l.under → line i ≡ l.line i) → IsWindow (sent_at v l.under) (line l.under) later now n new
      → ((i : ℕ) → i < v.count → i ≢ l.under → (xs : List ℕ) → Told hand parts n (v.places i).data_at xs → Told later now n (v.places i).data_at xs) → IsQueue v l hand parts n o → IsQueue v (record { under = l.under; line = line }) later now n new
  queue_goes line same window told w = queue_goes_on Before After v l hand later parts now n fresh tail line same window told w

  queue_next : (line : ℕ → Line) → suc l.under < v.count → stage_of l ≡ Done → ((i : ℕ) → i < suc l.under → line i ≡ l.line i) → IsWindow (sent_at v (suc l.under)) (line (suc l.under)) later now n new
      → ((i : ℕ) (xs : List ℕ) → Told hand parts n (v.places i).data_at xs → Told later now n (v.places i).data_at xs) → IsQueue v l hand parts n o → IsQueue v (record { under = suc l.under; line = line }) later now n new
  queue_next line some done same window told w =
      queue_goes_next Before After v l hand later parts now n fresh tail (record { done = done; moved = w.window.moved; stands = w.window.stands })
      line some same window told w

-- all of them go on as they were
pub queue_same : (v : Queue) (l : Lines) (hand later : Hand) (parts now : StructureSets) (n : ℕ) (o : Option Device) → now n ≡ parts n → ((q : Qh) → hand_side later n q ≡ hand_side hand n q)
    → ((a : ℕ) (xs : List ℕ) → Told hand parts n a xs → Told later now n a xs) → IsQueue v l hand parts n o → IsQueue v l later now n o
queue_same v l hand later parts now n o same sides told w =
    let k = queue_goes v l hand later parts now n o o (λ i more few. subst (Fresh v i) (sym same)) (subst (HasTail v) (sym same)) l.line (λ i less. refl)
    (window_same (sent_at v l.under) (l.line l.under) hand later parts now n o same sides (told (v.places l.under).data_at) w.window) (λ i few differs. told (v.places i).data_at) w in
    record { within = k.within; window = k.window; finished = k.finished; behind = k.behind; tail = k.tail }

elsewhere_still : (windows : ℕ → Bool) (sent : ℕ → Queue) (hand later : Hand) (parts now : StructureSets) (n : ℕ) → SameTold hand parts later now → IsElsewhere windows sent parts n → IsElsewhere windows sent now n
elsewhere_still windows sent hand later parts now n same w = record { own = w.own; has = same.endpoint n w.own w.has; other = w.other }

works_only : (e : Endpoint) (r : Request) (x : Places) (part : Structures) (side : HostSide) (q : Qh) (h : Host) → side.active ≡ true → Shows e r x part side q h → Works e r x part side q h
works_only e r x part side q h on (works w) = w
works_only e r x part side q h on (waits w) = absurd (false≢true (sym w.idle ∙ on))
works_only e r x part side q h on (ends w) = absurd (false≢true (sym w.idle ∙ on))
works_only e r x part side q h on (halts w) = absurd (false≢true (sym w.idle ∙ on))

-- ---- steps

module _ (windows : ℕ → Bool) (lines : ℕ → Lines) where
  pub none_stay : HaltedStay windows lines None
  none_stay n cause on halted s is = absurd cc

  abbrev place_of : Option Step → ℕ
  place_of None = 0
  place_of (Some s) = s.at

  one_stays : (x : Step) → ((cause : EndCause) → windows x.at ≡ true → stage_of (lines x.at) ≡ Halted cause → ⊥) → HaltedStay windows lines (Some x)
  one_stays x none n cause on halted s is same =
      let at : n ≡ x.at = same ∙ sym (ap place_of is) in
      none cause (ap windows (sym at) ∙ on) (ap (λ (i : ℕ). stage_of (lines i)) (sym at) ∙ halted)

pub requests_behind_a_halted_one_are_not_begun : (windows : ℕ → Bool) (sent : ℕ → Queue) (lines : ℕ → Lines) (step : Option Step) (n : ℕ) (cause : EndCause) → HaltedStay windows lines step → windows n ≡ true → stage_of (lines n) ≡ Halted cause → stepped sent step lines n ≡ lines n
requests_behind_a_halted_one_are_not_begun windows sent lines None n cause stay on halted = refl
requests_behind_a_halted_one_are_not_begun windows sent lines (Some s) n cause stay on halted = ap (λ (b : Bool). if b then progressed (sent n) s.is (lines n) else lines n) (other_number n s.at (stay n cause on halted s refl))

not_both : (a b : Bool) → (a && b) ≡ false → a ≡ true → b ≡ false
not_both true false off on = refl
not_both true true off on = absurd (false≢true (sym off))
not_both false b off on = absurd (false≢true on)

module _ {W : Type 0} (transacts : W → Ask → List ℕ → Reply → W → Type 0) (device : W → ℕ → ℕ → Option Device) (bus : IsControlBus transacts device) (member windows : ℕ → Bool) (sent : ℕ → Queue) (fixed : AreSent member windows sent) (lines : ℕ → Lines) (parts : StructureSets) (hand : Hand) (reply : Reply) (wire : W) (members : AreMembers member parts) (in_hand : IsInHand member parts reply hand) (all : AreWindows device member windows sent lines parts hand wire) (high : AreHigh windows parts) (after : W) (now : StructureSets) (later : Hand) (kind : WalkStep) where
  abbrev device_at : W → ℕ → Option Device
  device_at w n = device w (sent n).endpoint.addr (sent n).endpoint.num

  pub record Rest (effect : Effect transacts parts hand wire after now later kind) : Type 0 where
    pub step : Option Step
    pub windows_are : AreWindows device member windows sent (stepped sent step lines) now later after
    pub is : IsStepOf windows lines step effect
    pub halted : HaltedStay windows lines step

  tail_still : (n : ℕ) → Alters (parts n) (now n) → HasTail (sent n) (parts n) → HasTail (sent n) (now n)
  tail_still n alters tail i a one is = idle_still (parts n) (now n) a alters (tail i a one is)

  -- nothing was asked
  kept : SameTold hand parts later now → after ≡ wire → ((n : ℕ) → windows n ≡ true → IsQueue (sent n) (lines n) hand parts n (device_at wire n) → IsQueue (sent n) (lines n) later now n (device_at wire n))
      → AreWindows device member windows sent (stepped sent None lines) now later after
  kept same quiet each = record {
    each = λ n on. subst (λ (w : W). IsQueue (sent n) (lines n) later now n (device_at w n)) (sym quiet) (each n on (all.each n on));
    others = λ n on off. elsewhere_still windows sent hand later parts now n same (all.others n on off);
  }

  -- the structures stay, and neither hand has a transaction
  all_kept : now ≡ parts → IsUnsettled hand → IsUnsettled later → after ≡ wire → AreWindows device member windows sent (stepped sent None lines) now later after
  all_kept same before un quiet =
      let told : SameTold hand parts later now = same_kept hand later parts now same before un in
      kept told quiet (λ n on. queue_same (sent n) (lines n) hand later parts now n (device_at wire n) (ap (λ (ps : StructureSets). ps n) same) (λ q. side_unsettled later n q un ∙ sym (side_unsettled hand n q before)) (told.bytes n))

  -- ---- a qTD is taken

  module _ (k : Takes parts hand now later) (copied : IsCopied member parts k.copy) (quiet : after ≡ wire) (alters : (n : ℕ) → Alters (parts n) (now n)) where
    abbrev new : Qh
    new = advanced k.copy.queue k.element k.qtd

    before : IsUnsettled hand
    before = copied_unsettled hand k.copy k.in_hand

    un : IsUnsettled later
    un = copied_unsettled later (taken k.copy k.element k.qtd) k.later_is

    told : SameTold hand parts later now
    told = taking_tells_the_same parts hand now later k copied.here

    at_is : now k.copy.at ≡ with_structure (parts k.copy.at) k.copy.at (QueueHead new)
    at_is = ap (λ (ps : StructureSets). ps k.copy.at) k.now_is ∙ put_here parts k.copy.at k.copy.at (QueueHead new)

    -- the queue head that takes it
    module _ (n : ℕ) (at : n ≡ k.copy.at) (on : windows n ≡ true) (w : IsQueue (sent n) (lines n) hand parts n (device_at wire n)) where
      abbrev mine : Queue
      mine = sent n

      abbrev began : ℕ
      began = (lines n).under

      abbrev line_began : Line
      line_began = (lines n).line (lines n).under

      here : parts n n ≡ Some (QueueHead k.copy.queue)
      here = ap (λ (i : ℕ). parts i i) at ∙ copied.here

      control_taken : IsEndpoint (sent n).endpoint k.copy.queue
      control_taken = subst (IsEndpoint mine.endpoint) (found_queue (parts n n) w.window.queue k.copy.queue w.window.head here) w.window.control

      shown : Shows (sent n).endpoint ((sent n).requests (lines n).under) ((sent n).places (lines n).under) (parts n) (host_in k.copy.queue) k.copy.queue ((lines n).line (lines n).under).host
      shown =
          subst (λ (q : Qh). Shows mine.endpoint (mine.requests began) (mine.places began) (parts n) (host_in q) q line_began.host) (found_queue (parts n n) w.window.queue k.copy.queue w.window.head here)
          (subst (λ (s : HostSide). Shows mine.endpoint (mine.requests began) (mine.places began) (parts n) s w.window.queue line_began.host) (side_unsettled hand n w.window.queue before) w.window.shown)

      there : parts n k.element ≡ Some (Element k.qtd)
      there = ap (λ (i : ℕ). parts i k.element) at ∙ k.here

      whole : now n ≡ with_structure (parts n) n (QueueHead (advanced k.copy.queue k.element k.qtd))
      whole = subst (λ (i : ℕ). now i ≡ with_structure (parts i) i (QueueHead new)) (sym at) at_is

      fresh_taken_there : (j : ℕ) → Fresh (sent n) j (parts n) → Fresh (sent n) j (now n)
      fresh_taken_there j fresh = subst (Fresh mine j) (sym whole) (λ s comes. fresh_taken (parts n) n k.copy.queue new here mine.endpoint (mine.requests j) (mine.places j) s (fresh s comes))

      -- it works on a stage of this request
      window_works : (r : Request) (x : Places) (line : Line) → Works (sent n).endpoint r x (with_structure (parts n) n (QueueHead (advanced k.copy.queue k.element k.qtd))) (host_in (advanced k.copy.queue k.element k.qtd)) (advanced k.copy.queue k.element k.qtd) line.host
          → IsWindow (record { endpoint = (sent n).endpoint; request = r; places = x }) line hand parts n (device_at wire n) → IsWindow (record { endpoint = (sent n).endpoint; request = r; places = x }) line later now n (device_at wire n)
      window_works r x line work window =
          window_at (record { endpoint = mine.endpoint; request = r; places = x }) line hand later parts now n (device_at wire n) new (host_in new) (ap (λ (part : Structures). part n) whole ∙ with_here (parts n) n (QueueHead new))
          (endpoint_taken mine.endpoint k.copy.queue k.element k.qtd control_taken) (side_unsettled later n new un) (subst (λ (part : Structures). Shows mine.endpoint r x part (host_in new) new line.host) (sym whole) (works work))
          (λ active. record { stage = line.host.stage; is = work.current }) (told.bytes n x.data_at) window

      taken_queue : is_done (stage_of (lines n)) ≡ false → IsQueue (sent n) (lines n) later now n (device_at wire n)
      taken_queue going =
          let z = queue_goes mine (lines n) hand later parts now n (device_at wire n) (device_at wire n) (λ j more few. fresh_taken_there j) (tail_still n (alters n)) (lines n).line (λ j less. refl)
          (window_works (mine.requests began) (mine.places began) line_began (taken_shows mine.endpoint (mine.requests began) (mine.places began) (parts n) n k.copy.queue line_began.host here control_taken (high n k.copy.queue on here) k.element k.qtd k.idle k.goes_on k.leads there k.published going shown) w.window)
          (λ j few differs. told.bytes n (mine.places j).data_at) w in
          record { within = z.within; window = z.window; finished = z.finished; behind = z.behind; tail = z.tail }

      -- the next request is begun
      module _ (done : is_done (stage_of (lines n)) ≡ true) where
        abbrev next_line : Line
        next_line = opened (sent n) (suc (lines n).under) ((lines n).line (lines n).under)

        ended : Ends ((sent n).places (lines n).under) (parts n) (host_in k.copy.queue) k.copy.queue ((lines n).line (lines n).under).host
        ended = ends_only mine.endpoint (mine.requests began) (mine.places began) (parts n) (host_in k.copy.queue) k.copy.queue line_began.host done shown

        more : suc (lines n).under < (sent n).count
        more =
            ⊎_elim {C = suc began < mine.count} (λ (some : suc began < mine.count). some)
            (λ (none : mine.count ≤ suc began).
            let within = w.within in
            absurd (none_more (mine.places began) (parts n) k.copy.queue line_began.host k.element k.qtd k.leads there k.published ended (λ b is. w.tail began b (omega (arith, none, within)) is))) (cases_lt (suc began) mine.count)

        next : IsBehind (sent_at (sent n) (suc (lines n).under)) hand parts n
        next = w.behind (suc began) (omega (arith)) more

        -- its window as it window_opens, while the queue head still waits
        next_works : Works (sent n).endpoint ((sent n).requests (suc (lines n).under)) ((sent n).places (suc (lines n).under)) (with_structure (parts n) n (QueueHead (advanced k.copy.queue k.element k.qtd))) (host_in (advanced k.copy.queue k.element k.qtd)) (advanced k.copy.queue k.element k.qtd) next_line.host
        next_works =
            taken_works mine.endpoint (mine.requests (suc began)) (mine.places (suc began)) (parts n) n k.copy.queue next_line.host here control_taken (high n k.copy.queue on here) k.element k.qtd k.idle k.goes_on k.leads there k.published
            (next_waits mine.endpoint (mine.places began) (parts n) k.copy.queue line_began.host (mine.requests (suc began)) (mine.places (suc began)) k.idle (fixed.chained n on began more) ended next.fresh)

        next_window : IsWindow (sent_at (sent n) (suc (lines n).under)) (opened (sent n) (suc (lines n).under) ((lines n).line (lines n).under)) later now n (device_at wire n)
        next_window = record {
          queue = new;
          head = ap (λ (part : Structures). part n) whole ∙ with_here (parts n) n (QueueHead new);
          control = endpoint_taken mine.endpoint k.copy.queue k.element k.qtd control_taken;
          shown = subst (λ (s : HostSide). Shows mine.endpoint (mine.requests (suc began)) (mine.places (suc began)) (now n) s new next_line.host) (sym (side_unsettled later n new un))
              (subst (λ (part : Structures). Shows mine.endpoint (mine.requests (suc began)) (mine.places (suc began)) part (host_in new) new next_line.host) (sym whole) (works next_works));
          among = λ active. record { stage = Setup; is = next_works.current };
          moved = λ some. told.bytes n (mine.places (suc began)).data_at [] (next.none_told some);
          device = w.window.device;
          stands = window_opens mine.endpoint (mine.requests (suc began)) line_began.host.side.ping line_began.device
              w.window.stands.device_max;
        }

        abbrev next_lines : ℕ → Line
        next_lines j = if j == suc (lines n).under then opened (sent n) j ((lines n).line (lines n).under) else (lines n).line j

        taken_next : IsQueue (sent n) (progressed (sent n) Advance (lines n)) later now n (device_at wire n)
        taken_next =
            queue_next mine (lines n) hand later parts now n (device_at wire n) (device_at wire n) (λ j more few. fresh_taken_there j) (tail_still n (alters n)) next_lines more (done_is (stage_of (lines n)) done)
            (λ j less. ap (λ (b : Bool). if b then opened mine j line_began else (lines n).line j) (other_number j (suc began) (λ same. omega (arith, less, same))))
            (subst (λ (b : Bool). IsWindow (sent_at mine (suc began)) (if b then opened mine (suc began) line_began else (lines n).line (suc began)) later now n (device_at wire n)) (sym (eq-eqb (suc began) (suc began) refl)) next_window)
            (λ j. told.bytes n (mine.places j).data_at) w

    taken_beside : (n : ℕ) → n ≢ k.copy.at → IsQueue (sent n) (lines n) hand parts n (device_at wire n) → IsQueue (sent n) (lines n) later now n (device_at wire n)
    taken_beside n differs w =
        queue_same (sent n) (lines n) hand later parts now n (device_at wire n) (ap (λ (ps : StructureSets). ps n) k.now_is ∙ put_beside parts k.copy.at k.copy.at (QueueHead new) n differs)
        (λ q. side_unsettled later n q un ∙ sym (side_unsettled hand n q before)) (told.bytes n) w

    abbrev advances : Step
    advances = record { at = k.copy.at; is = Advance }

    one_taken : windows k.copy.at ≡ true → is_done (stage_of (lines k.copy.at)) ≡ true → (n : ℕ) → windows n ≡ true → IsQueue (sent n) (stepped sent (Some advances) lines n) later now n (device_at wire n)
    one_taken on done n one =
        ⊎_elim {C = IsQueue (sent n) (stepped sent (Some advances) lines n) later now n (device_at wire n)}
        (λ (at : n ≡ k.copy.at).
        subst (λ (b : Bool). IsQueue (sent n) (if b then progressed (sent n) Advance (lines n) else lines n) later now n (device_at wire n)) (sym (eq-eqb n k.copy.at at))
        (taken_next n at one (all.each n one) (ap (λ (i : ℕ). is_done (stage_of (lines i))) at ∙ done)))
        (λ (differs : n ≢ k.copy.at).
        subst (λ (b : Bool). IsQueue (sent n) (if b then progressed (sent n) Advance (lines n) else lines n) later now n (device_at wire n)) (sym (other_number n k.copy.at differs)) (taken_beside n differs (all.each n one)))
        (cases_eq n k.copy.at)

    record TakesRest (o : Option Step) : Type 0 where
      windows_are : AreWindows device member windows sent (stepped sent o lines) now later after
      halted : HaltedStay windows lines o

    taken_by : (b : Bool) → (windows k.copy.at && is_done (stage_of (lines k.copy.at))) ≡ b → TakesRest (if b then Some advances else None)
    taken_by false off = record {
      windows_are = kept told quiet (λ n on w.
          ⊎_elim {C = IsQueue (sent n) (lines n) later now n (device_at wire n)}
          (λ (at : n ≡ k.copy.at). taken_queue n at on w (not_both (windows n) (is_done (stage_of (lines n))) (ap (λ (i : ℕ). windows i && is_done (stage_of (lines i))) at ∙ off) on))
          (λ (differs : n ≢ k.copy.at). taken_beside n differs w) (cases_eq n k.copy.at));
      halted = none_stay windows lines;
    }
    taken_by true on = record {
      windows_are = record {
        each = λ n one. subst (λ (x : W). IsQueue (sent n) (stepped sent (Some advances) lines n) later now n (device_at x n)) (sym quiet) (one_taken both.0 both.1 n one);
        others = λ n yes off. elsewhere_still windows sent hand later parts now n told (all.others n yes off);
      };
      halted = one_stays windows lines advances (λ cause yes halted. false≢true (ap is_done (sym halted) ∙ both.1));
    }
      where
        both : (windows k.copy.at ≡ true) × (is_done (stage_of (lines k.copy.at)) ≡ true)
        both = and_both (windows k.copy.at) (is_done (stage_of (lines k.copy.at))) on

    taken_all : TakesRest (advance_at windows lines k.copy.at)
    taken_all = taken_by (windows k.copy.at && is_done (stage_of (lines k.copy.at))) refl

  -- ---- a transaction is written back

  module _ (k : WritesBack parts hand now later) (copied : IsCopied member parts k.copy) (settled : IsSettled k.copy.queue reply k.settled) (quiet : after ≡ wire) (alters : (n : ℕ) → Alters (parts n) (now n)) where
    abbrev written : Qh
    written = queue_written k.copy k.settled

    no_hand : IsUnsettled later
    no_hand = empty_unsettled later k.nothing

    told_back : SameTold hand parts later now
    told_back = writing_tells_the_same member parts hand now later k reply copied settled (members k.copy.at copied.on).own

    module _ (on : windows k.copy.at ≡ true) (w : IsQueue (sent k.copy.at) (lines k.copy.at) hand parts k.copy.at (device_at wire k.copy.at)) where
      abbrev writer : ℕ
      writer = k.copy.at

      abbrev theirs : Queue
      theirs = sent k.copy.at

      abbrev worked : ℕ
      worked = (lines k.copy.at).under

      abbrev places_worked : Places
      places_worked = (sent k.copy.at).places (lines k.copy.at).under

      abbrev line_worked : Line
      line_worked = (lines k.copy.at).line (lines k.copy.at).under

      own_parts : AreOwn (parts k.copy.at)
      own_parts = (members k.copy.at copied.on).own

      same_written : w.window.queue ≡ k.copy.queue
      same_written = found_queue (parts writer writer) w.window.queue k.copy.queue w.window.head copied.here

      among_copy : IsAmong ((sent k.copy.at).places (lines k.copy.at).under) k.copy.queue
      among_copy = subst (λ (q : Qh). IsAmong places_worked q) same_written w.window.among

      apart_each : (j : ℕ) → j < (sent k.copy.at).count → AreApart ((sent k.copy.at).places j)
      apart_each j few = fixed.places writer j on few

      fresh_written : (j : ℕ) → (lines k.copy.at).under < j → j < (sent k.copy.at).count → Fresh (sent k.copy.at) j (parts k.copy.at) → Fresh (sent k.copy.at) j (now k.copy.at)
      fresh_written j more few fresh s comes =
          let place : IsPlace places_worked k.copy.queue.current = among_copy settled.works in
          fresh_back theirs.endpoint (theirs.requests j) (theirs.places j) (apart_each j few) member parts hand now later k reply copied settled own_parts (alters writer) line_worked.host s
          (λ here. fixed.others writer j worked on few w.within (λ is. omega (arith, more, is)) s place.stage (here ∙ place.is)) (fresh s comes)

      back_window : IsWindow (sent_at (sent k.copy.at) (lines k.copy.at).under) ((lines k.copy.at).line (lines k.copy.at).under) later now k.copy.at (device_at wire k.copy.at)
      back_window =
          let control : IsEndpoint theirs.endpoint k.copy.queue = subst (IsEndpoint theirs.endpoint) same_written w.window.control in
          let shown : Shows theirs.endpoint (theirs.requests worked) places_worked (parts writer) k.settled.host k.copy.queue line_worked.host =
          subst (λ (q : Qh). Shows theirs.endpoint (theirs.requests worked) places_worked (parts writer) k.settled.host q line_worked.host) same_written
          (subst (λ (s : HostSide). Shows theirs.endpoint (theirs.requests worked) places_worked (parts writer) s w.window.queue line_worked.host) (side_here hand k.copy k.settled w.window.queue k.in_hand) w.window.shown) in
          window_at (sent_at theirs worked) line_worked hand later parts now writer (device_at wire writer) written k.settled.host
          (head_now theirs.endpoint (theirs.requests worked) places_worked (apart_each worked w.within) member parts hand now later k reply copied settled own_parts (alters writer) line_worked.host)
          (endpoint_back theirs.endpoint k.copy k.settled control)
          (side_unsettled later writer written no_hand ∙ host_now theirs.endpoint (theirs.requests worked) places_worked (apart_each worked w.within) member parts hand now later k reply copied settled own_parts (alters writer) line_worked.host)
          (back_shows theirs.endpoint (theirs.requests worked) places_worked (apart_each worked w.within) member parts hand now later k reply copied settled own_parts (alters writer) line_worked.host shown)
          (among_back theirs.endpoint (theirs.requests worked) places_worked (apart_each worked w.within) member parts hand now later k reply copied settled own_parts (alters writer) line_worked.host among_copy)
          (told_back.bytes writer places_worked.data_at) w.window

      back_queue : IsQueue (sent k.copy.at) (lines k.copy.at) later now k.copy.at (device_at wire k.copy.at)
      back_queue =
          let z = queue_goes theirs (lines writer) hand later parts now writer (device_at wire writer) (device_at wire writer) fresh_written (tail_still writer (alters writer)) (lines writer).line (λ j less. refl) back_window (λ j few differs. told_back.bytes writer (theirs.places j).data_at) w in
          record { within = z.within; window = z.window; finished = z.finished; behind = z.behind; tail = z.tail }

    written_all : AreWindows device member windows sent (stepped sent None lines) now later after
    written_all =
        kept told_back quiet (λ n on w.
        ⊎_elim {C = IsQueue (sent n) (lines n) later now n (device_at wire n)}
        (λ (at : n ≡ k.copy.at). subst (λ (i : ℕ). windows i ≡ true → IsQueue (sent i) (lines i) hand parts i (device_at wire i) → IsQueue (sent i) (lines i) later now i (device_at wire i)) (sym at) back_queue on w)
        (λ (differs : n ≢ k.copy.at).
        queue_same (sent n) (lines n) hand later parts now n (device_at wire n)
        (ap (λ (ps : StructureSets). ps n) k.now_is ∙ back_beside parts k.copy.at k.copy.at k.copy.queue (settled_queue_of k.copy k.settled) _ k.settled.got (received_into (parts k.copy.at) k.copy.queue k.element k.settled.got) k.element n differs)
        (λ q. side_unsettled later n q no_hand ∙ sym (side_beside hand k.copy k.settled n q k.in_hand (λ is. differs (sym is)))) (told_back.bytes n) w) (cases_eq n k.copy.at))

  -- ---- a transaction is made

  module _ (m : Makes transacts parts hand wire after later) (same : now ≡ parts) (copied : IsCopied member parts m.copy) where
    abbrev made : Settlement
    made = settlement m.copy.queue m.out m.reply

    abbrev asked : Ask
    asked = (call_in (planned m.copy.queue) m.out false).ask

    abbrev at : ℕ
    at = m.copy.at

    grows : Grows hand parts later m.copy (settlement m.copy.queue m.out m.reply) m.sent.element
    grows = transaction_grows transacts member parts hand wire after later m (members m.copy.at copied.on) copied.here

    unmade : IsUnsettled hand
    unmade = copied_unsettled hand m.copy m.in_hand

    -- the queue of an endpoint that isn't asked
    beside_queue : (n : ℕ) → n ≢ at → windows n ≡ true → (IsAskFor (sent n).endpoint.addr (sent n).endpoint.num asked → ⊥) → IsQueue (sent n) (lines n) hand parts n (device_at wire n) → IsQueue (sent n) (lines n) later now n (device_at after n)
    beside_queue n differs on not_asked w =
        let device_is : device_at wire n ≡ Some (device_of (sent n).endpoint ((lines n).line (lines n).under).device) = w.window.device in
        let kept_device : device_at after n ≡ Some (device_of (sent n).endpoint ((lines n).line (lines n).under).device) =
        bus.others wire asked (call_in (planned m.copy.queue) m.out false).out m.reply after (sent n).endpoint.addr (sent n).endpoint.num (device_of (sent n).endpoint ((lines n).line (lines n).under).device) m.made device_is not_asked in
        subst (λ (o : Option Device). IsQueue (sent n) (lines n) later now n o) (device_is ∙ sym kept_device)
        (queue_same (sent n) (lines n) hand later parts now n (device_at wire n) (ap (λ (ps : StructureSets). ps n) same)
        (λ q. side_beside later (counted m.copy m.out m.reply) made n q m.later_is (λ is. differs (sym is)) ∙ sym (side_unsettled hand n q unmade))
        (λ a xs told. subst (λ (ps : StructureSets). Told later ps n a xs) (sym same) (grows.other_bytes n a xs (λ both. differs both.0) told)) w)

    elsewhere_made : (n : ℕ) → IsElsewhere windows sent parts n → IsElsewhere windows sent now n
    elsewhere_made n w = subst (λ (ps : StructureSets). IsElsewhere windows sent ps n) (sym same) w

    -- another endpoint was asked
    other_all : windows at ≡ false → AreWindows device member windows sent (stepped sent None lines) now later after
    other_all off = record {
      each = λ n on. beside_queue n (λ is. false≢true (sym off ∙ ap windows (sym is) ∙ on)) on (λ for. not_for n on for) (all.each n on);
      others = λ n on none. elsewhere_made n (all.others n on none);
    }
      where
        own : IsElsewhere windows sent parts at
        own = all.others at copied.on off

        is_own : own.own ≡ endpoint_of m.copy.queue
        is_own = own.has.is ∙ ap endpoint_of (found_queue (parts at at) own.has.queue m.copy.queue own.has.head copied.here)

        not_for : (n : ℕ) → windows n ≡ true → IsAskFor (sent n).endpoint.addr (sent n).endpoint.num asked → ⊥
        not_for n on for = own.other n on (for.address ∙ sym (ap (λ x. x.addr) is_own)) (for.number ∙ sym (ap (λ x. x.ep) is_own))

    -- one of the requests was asked
    module _ (on : windows m.copy.at ≡ true) where
      abbrev q : Qh
      q = m.copy.queue

      abbrev queue : Queue
      queue = sent m.copy.at

      abbrev v : Sent
      v = sent_at (sent m.copy.at) (lines m.copy.at).under

      abbrev i : ℕ
      i = (lines m.copy.at).under

      abbrev line : Line
      line = (lines m.copy.at).line (lines m.copy.at).under

      abbrev source : List ℕ
      source = drop (buffer_place m.copy.queue - m.sent.element.offset) (buffer_of (parts m.copy.at) m.sent.element)

      requests : IsQueue (sent m.copy.at) (lines m.copy.at) hand parts m.copy.at (device_at wire m.copy.at)
      requests = all.each m.copy.at on

      window : IsWindow (sent_at (sent m.copy.at) (lines m.copy.at).under) ((lines m.copy.at).line (lines m.copy.at).under) hand parts m.copy.at (device_at wire m.copy.at)
      window = requests.window

      apart : AreApart ((sent m.copy.at).places (lines m.copy.at).under)
      apart = fixed.places at i on requests.within

      same_queue : window.queue ≡ m.copy.queue
      same_queue = found_queue (parts at at) window.queue q window.head copied.here

      control : IsEndpoint (sent m.copy.at).endpoint m.copy.queue
      control = subst (IsEndpoint v.endpoint) same_queue window.control

      work : Works (sent m.copy.at).endpoint ((sent m.copy.at).requests (lines m.copy.at).under) ((sent m.copy.at).places (lines m.copy.at).under) (parts m.copy.at) (host_in m.copy.queue) m.copy.queue ((lines m.copy.at).line (lines m.copy.at).under).host
      work = works_only v.endpoint v.request v.places (parts at) (host_in q) q line.host m.works
          (subst (λ (z : Qh). Shows v.endpoint v.request v.places (parts at) (host_in z) z line.host) same_queue
          (subst (λ (s : HostSide). Shows v.endpoint v.request v.places (parts at) s window.queue line.host) (side_unsettled hand at window.queue unmade) window.shown))

      on_stage : WorksOn (sent m.copy.at).endpoint ((sent m.copy.at).requests (lines m.copy.at).under) m.copy.queue ((lines m.copy.at).line (lines m.copy.at).under).host
      on_stage = record { endpoint = control; high = high m.copy.at m.copy.queue on copied.here; pid = ap pid_at work.pid ∙ work.stage.pid; side = work.side_is }

      element : m.sent.element ≡ work.stage.qtd
      element = found_element (parts at q.current) m.sent.element work.stage.qtd m.sent.here (ap (parts at) work.current ∙ work.stage.here)

      published : IsPending (parts m.copy.at) m.copy.queue.current
      published =
          let k : IsMember member at (parts at) = members at copied.on in
          let w : IsWorking (parts at) q = (subst (IsSoundQueue (parts at)) (found_queue (parts at at) k.queue q k.here copied.here) k.sound).work m.works in
          record { qtd = w.element; here = w.here; published = w.published }

      size : IsSized m.copy.queue m.sent.element (buffer_of (parts m.copy.at) m.sent.element)
      size =
          let k : IsMember member at (parts at) = members at copied.on in
          let sound : IsSoundQueue (parts at) q = subst (IsSoundQueue (parts at)) (found_queue (parts at at) k.queue q k.here copied.here) k.sound in
          let w : IsWorking (parts at) q = sound.work m.works in
          subst (λ (t : Qtd). IsSized q t (buffer_of (parts at) t)) (found_element (parts at q.current) w.element m.sent.element w.here m.sent.here)
          (sized (parts at) q w ((k.elements q.current w.element w.here).work w.published))

      given : AreGiven ((sent m.copy.at).requests (lines m.copy.at).under) m.copy.queue ((lines m.copy.at).line (lines m.copy.at).under).host source m.out
      given = record {
        are = m.sent.are;
        stage = stage_given v.endpoint v.request q (parts at) m.sent.element line.host.side line.host.moved (sight_of line) refl refl (ap (λ (s : HostSide). s.left) work.side_is) (fixed.requests at i on requests.within) (fixed.whole at on) window.stands.host_max size
            line.host.stage work.goes_on on_stage.pid window.stands.stage (subst (λ (t : Qtd). HasBytes v.request (parts at) line.host.stage t) (sym element) work.stage.bytes);
      }

      turn : IsTransaction (sent m.copy.at).endpoint ((sent m.copy.at).requests (lines m.copy.at).under) m.copy.queue source m.out m.reply ((lines m.copy.at).line (lines m.copy.at).under) (device_at after m.copy.at)
      turn = makes_one transacts device bus v.endpoint v.request q line on_stage source m.out given work.goes_on wire after m.reply window.device m.made

      abbrev outcome_is : Host
      outcome_is = settled_by v.request made.outcome made.host (moved_of q made.outcome m.reply source) line.host

      shown_now : Shows (sent m.copy.at).endpoint ((sent m.copy.at).requests (lines m.copy.at).under) ((sent m.copy.at).places (lines m.copy.at).under) (parts m.copy.at) made.host m.copy.queue outcome_is
      shown_now =
          let s : Settles (kind_at q.dtc) q m.out false m.reply = a_transaction_settles (kind_at q.dtc) q m.out false m.reply m.sent.all in
          shows_after v.endpoint v.request v.places apart (parts at) q line.host work made.host (s.host.packets ∙ control.packets) published made.outcome (moved_of q made.outcome m.reply source) (call_leaves v.endpoint q m.out m.reply control (high m.copy.at m.copy.queue on copied.here))

      -- what is told of its data
      told_at : (s : Stage) → line.host.stage ≡ s → Told hand parts at v.places.data_at line.host.moved → Told later parts at v.places.data_at outcome_is.moved
      told_at Data is told =
          let here : q.current ≡ v.places.data_at = work.current ∙ ap (place_at v.places) is in
          subst (λ (xs : List ℕ). Told later parts at v.places.data_at xs) (sym (moved_in_data v.request made.outcome made.host (moved_of q made.outcome m.reply source) line.host is (λ off. moved_none q made.outcome m.reply source off)))
          (subst (λ (a : ℕ). Told later parts at a (line.host.moved ++ moved_of q made.outcome m.reply source)) here (grows.bytes line.host.moved (subst (λ (a : ℕ). Told hand parts at a line.host.moved) (sym here) told)))
      told_at Setup is told =
          subst (λ (xs : List ℕ). Told later parts at v.places.data_at xs) (sym (moved_beside v.request made.outcome made.host (moved_of q made.outcome m.reply source) line.host (λ e. by (sym is ∙ e))))
          (grows.other_bytes at v.places.data_at line.host.moved (λ both. apart.setup_data (sym (both.1 ∙ work.current ∙ ap (place_at v.places) is))) told)
        where
          by : Setup ≡ Data → ⊥
          by e = cc
      told_at Status is told =
          subst (λ (xs : List ℕ). Told later parts at v.places.data_at xs) (sym (moved_beside v.request made.outcome made.host (moved_of q made.outcome m.reply source) line.host (λ e. by (sym is ∙ e))))
          (grows.other_bytes at v.places.data_at line.host.moved (λ both. apart.data_status (both.1 ∙ work.current ∙ ap (place_at v.places) is)) told)
        where
          by : Status ≡ Data → ⊥
          by e = cc
      told_at Done is told = absurd (false≢true (sym work.goes_on ∙ ap is_over is))
      told_at (Halted cause) is told = absurd (false≢true (sym work.goes_on ∙ ap is_over is))

      window_now : IsWindow (sent_at (sent m.copy.at) (lines m.copy.at).under) (transacted (sent m.copy.at).endpoint ((sent m.copy.at).requests (lines m.copy.at).under) turn.losses ((lines m.copy.at).line (lines m.copy.at).under)) later now m.copy.at (device_at after m.copy.at)
      window_now = record {
        queue = q;
        head = ap (λ (ps : StructureSets). ps at at) same ∙ copied.here;
        control = control;
        shown = subst (λ (part : Structures). Shows v.endpoint v.request v.places part (hand_side later at q) q (transacted v.endpoint v.request turn.losses line).host) (sym (ap (λ (ps : StructureSets). ps at) same))
            (subst (λ (s : HostSide). Shows v.endpoint v.request v.places (parts at) s q (transacted v.endpoint v.request turn.losses line).host) (sym (side_here later (counted m.copy m.out m.reply) made q m.later_is))
            (subst (λ (h : Host). Shows v.endpoint v.request v.places (parts at) made.host q h) (sym turn.host) shown_now));
        moved = λ some.
            subst (λ (ps : StructureSets). Told later ps at v.places.data_at (transacted v.endpoint v.request turn.losses line).host.moved) (sym same)
            (subst (λ (h : Host). Told later parts at v.places.data_at h.moved) (sym turn.host) (told_at line.host.stage refl (window.moved some)));
        among = subst (λ (z : Qh). IsAmong v.places z) same_queue window.among;
        device = turn.device;
        stands = transaction_keeps v.endpoint v.request turn.losses line (fixed.requests at i on requests.within) window.stands;
      }

      -- another request isn't asked
      not_other : (n : ℕ) → n ≢ m.copy.at → windows n ≡ true → IsAskFor (sent n).endpoint.addr (sent n).endpoint.num asked → ⊥
      not_other n differs one for = differs (fixed.apart n at one on (for.address ∙ control.address) (for.number ∙ control.number))

      abbrev step_is : Option Step
      step_is = Some (record { at = m.copy.at; is = Transaction turn.losses })

      queue_now : IsQueue (sent m.copy.at) (progressed (sent m.copy.at) (Transaction turn.losses) (lines m.copy.at)) later now m.copy.at (device_at after m.copy.at)
      queue_now =
          queue_goes queue (lines at) hand later parts now at (device_at wire at) (device_at after at) (λ j more few. subst (Fresh queue j) (sym (ap (λ (ps : StructureSets). ps at) same))) (subst (HasTail queue) (sym (ap (λ (ps : StructureSets). ps at) same)))
          (λ j. if j == i then transacted queue.endpoint (queue.requests j) turn.losses ((lines at).line j) else (lines at).line j)
          (λ j less. ap (λ (b : Bool). if b then transacted queue.endpoint (queue.requests j) turn.losses ((lines at).line j) else (lines at).line j) (other_number j i (λ is. omega (arith, less, is))))
          (subst (λ (b : Bool). IsWindow v (if b then transacted v.endpoint v.request turn.losses line else line) later now at (device_at after at)) (sym (eq-eqb i i refl)) window_now)
          (λ j few differs xs told. subst (λ (ps : StructureSets). Told later ps at (queue.places j).data_at xs) (sym same)
          (grows.other_bytes at (queue.places j).data_at xs (λ both. fixed.others at j i on few requests.within differs Data line.host.stage (both.1 ∙ work.current)) told)) requests

      one_all : AreWindows device member windows sent (stepped sent step_is lines) now later after
      one_all = record {
        each = λ n one.
            ⊎_elim {C = IsQueue (sent n) (stepped sent step_is lines n) later now n (device_at after n)}
            (λ (is : n ≡ m.copy.at).
            subst (λ (i : ℕ). IsQueue (sent i) (stepped sent step_is lines i) later now i (device_at after i)) (sym is)
            (subst (λ (b : Bool). IsQueue queue (if b then progressed queue (Transaction turn.losses) (lines at) else lines at) later now at (device_at after at)) (sym (eq-eqb at at refl)) queue_now))
            (λ (differs : n ≢ m.copy.at).
            subst (λ (b : Bool). IsQueue (sent n) (if b then progressed (sent n) (Transaction turn.losses) (lines n) else lines n) later now n (device_at after n)) (sym (other_number n at differs))
            (beside_queue n differs one (not_other n differs one) (all.each n one))) (cases_eq n m.copy.at);
        others = λ n yes none. elsewhere_made n (all.others n yes none);
      }

      one_halted : HaltedStay windows lines (Some (record { at = m.copy.at; is = Transaction turn.losses }))
      one_halted = one_stays windows lines (record { at = m.copy.at; is = Transaction turn.losses }) (λ cause yes halted. false≢true (sym work.goes_on ∙ ap is_over halted))

    pub record MadeRest : Type 0 where
      pub step : Option Step
      pub windows_are : AreWindows device member windows sent (stepped sent step lines) now later after
      pub is : (windows m.copy.at ≡ true → IsTransactionAt m.copy.at step) × (windows m.copy.at ≡ false → step ≡ None)
      pub halted : HaltedStay windows lines step

    makes_rest : (b : Bool) → windows m.copy.at ≡ b → MadeRest
    makes_rest true on = record {
      step = Some (record { at = m.copy.at; is = Transaction (turn on).losses });
      windows_are = one_all on;
      is = (λ yes. record { losses = (turn on).losses; is = refl }, λ none. absurd (false≢true (sym none ∙ on)));
      halted = one_halted on;
    }
    makes_rest false off = record { step = None; windows_are = other_all off; is = (λ yes. absurd (false≢true (sym off ∙ yes)), λ none. refl); halted = none_stay windows lines }

-- ---- an event

module _ {W : Type 0} (transacts : W → Ask → List ℕ → Reply → W → Type 0) (device : W → ℕ → ℕ → Option Device) (bus : IsControlBus transacts device) (member windows : ℕ → Bool) (sent : ℕ → Queue) (fixed : AreSent member windows sent) (lines : ℕ → Lines) where
  pub rest_by : (parts : StructureSets) (hand : Hand) (reply : Reply) (wire : W) (members : AreMembers member parts) (in_hand : IsInHand member parts reply hand) (all : AreWindows device member windows sent lines parts hand wire) (high : AreHigh windows parts) (after : W) (now : StructureSets) (later : Hand) (kind : WalkStep) (effect : Effect transacts parts hand wire after now later kind)
      → Rest transacts device bus member windows sent fixed lines parts hand reply wire members in_hand all high after now later kind effect
  rest_by parts hand reply wire members in_hand all high after now later kind (reads k same quiet) = record {
    step = None;
    windows_are = all_kept transacts device bus member windows sent fixed lines parts hand reply wire members in_hand all high after now later kind same (empty_unsettled hand k.nothing) (copied_unsettled later k.copy k.in_hand) quiet;
    is = refl;
    halted = none_stay windows lines;
  }
  rest_by parts hand reply wire members in_hand all high after now later kind (passes k same quiet) = record {
    step = None;
    windows_are = all_kept transacts device bus member windows sent fixed lines parts hand reply wire members in_hand all high after now later kind same k.unsettled (empty_unsettled later k.nothing) quiet;
    is = refl;
    halted = none_stay windows lines;
  }
  rest_by parts hand reply wire members in_hand all high after now later kind (ends k same quiet) = record {
    step = None;
    windows_are = all_kept transacts device bus member windows sent fixed lines parts hand reply wire members in_hand all high after now later kind same k.unsettled (empty_unsettled later k.nothing) quiet;
    is = refl;
    halted = none_stay windows lines;
  }
  rest_by parts hand reply wire members in_hand all high after now later kind (takes k quiet) =
      let copied : IsCopied member parts k.copy = subst (IsInHand member parts reply) k.in_hand in_hand in
      let z = taken_all transacts device bus member windows sent fixed lines parts hand reply wire members in_hand all high after now later kind k copied quiet
      (λ n. effect_alters transacts member parts hand reply wire after now later kind in_hand (takes k quiet) n) in
      record { step = advance_at windows lines k.copy.at; windows_are = z.windows_are; is = refl; halted = z.halted }
  rest_by parts hand reply wire members in_hand all high after now later kind (makes m same) =
      let copied : IsCopied member parts m.copy = subst (IsInHand member parts reply) m.in_hand in_hand in
      let k = makes_rest transacts device bus member windows sent fixed lines parts hand reply wire members in_hand all high after now later kind m same copied (windows m.copy.at) refl in
      record { step = k.step; windows_are = k.windows_are; is = k.is; halted = k.halted }
  rest_by parts hand reply wire members in_hand all high after now later kind (writes_back k quiet) =
      let both : IsCopied member parts k.copy × IsSettled k.copy.queue reply k.settled = subst (IsInHand member parts reply) k.in_hand in_hand in
      record {
        step = None;
        windows_are = written_all transacts device bus member windows sent fixed lines parts hand reply wire members in_hand all high after now later kind k both.0 both.1 quiet
            (λ n. effect_alters transacts member parts hand reply wire after now later kind in_hand (writes_back k quiet) n);
        is = refl;
        halted = none_stay windows lines;
      }

pub each_event_keeps_the_windows : {W : Type 0} (transacts : W → Ask → List ℕ → Reply → W → Type 0) (device : W → ℕ → ℕ → Option Device) (base : Base) (member windows : ℕ → Bool) (sent : ℕ → Queue) (lines : ℕ → Lines) (parts : StructureSets) (hand : Hand) (p : WalkPlace) (wire : W) (new : WalkPlace) (after : W)
    → AreSent member windows sent → IsControlBus transacts device → IsRing base member parts hand p → AreWindows device member windows sent lines parts hand wire
    → AreHigh windows parts
    → AreBytesHeard transacts wire after → Leads transacts (event_row p) (at_event p) wire new after
    → WindowsGoOn transacts device base member windows sent lines parts hand wire after new (step_of (event_row p) (at_event p))
each_event_keeps_the_windows transacts device base member windows sent lines parts hand p wire new after fixed bus ring all high heard lead =
    let h : Happens transacts base member parts hand wire after new (step_of (event_row p) (at_event p)) = each_event transacts base member parts hand p wire new after ring heard lead in
    let r = rest_by transacts device bus member windows sent fixed lines parts hand p.walk.reply wire ring.members ring.in_hand all high after h.now h.later (step_of (event_row p) (at_event p)) h.effect in
    record { event = h; step = r.step; all = r.windows_are; is = r.is; halted = r.halted }

pub each_window_is_right : {W : Type 0} (device : W → ℕ → ℕ → Option Device) (member windows : ℕ → Bool) (sent : ℕ → Queue) (lines : ℕ → Lines) (parts : StructureSets) (hand : Hand) (wire : W) (n i : ℕ) → AreWindows device member windows sent lines parts hand wire → windows n ≡ true
    → i ≤ (lines n).under → IsRight (sent n).endpoint ((sent n).requests i) ((lines n).line i)
each_window_is_right device member windows sent lines parts hand wire n i all on begun =
    let w : IsQueue (sent n) (lines n) hand parts n (device wire (sent n).endpoint.addr (sent n).endpoint.num) = all.each n on in
    ⊎_elim {C = IsRight (sent n).endpoint ((sent n).requests i) ((lines n).line i)}
    (λ (same : i ≡ (lines n).under).
    subst (λ (j : ℕ). IsRight (sent n).endpoint ((sent n).requests j) ((lines n).line j)) (sym same) (window_is_right (sent n).endpoint ((sent n).requests (lines n).under) ((lines n).line (lines n).under) w.window.stands))
    (λ (differs : i ≢ (lines n).under). window_is_right (sent n).endpoint ((sent n).requests i) ((lines n).line i) (w.finished i (omega (arith, begun, differs))).stands) (cases_eq i (lines n).under)

pub each_request_before_was_acted_on_once : {W : Type 0} (device : W → ℕ → ℕ → Option Device) (member windows : ℕ → Bool) (sent : ℕ → Queue) (lines : ℕ → Lines) (parts : StructureSets) (hand : Hand) (wire : W) (n i : ℕ) → AreWindows device member windows sent lines parts hand wire → windows n ≡ true
    → i < (lines n).under → IsActedOnce (sent_at (sent n) i) ((lines n).line i) hand parts n
each_request_before_was_acted_on_once device member windows sent lines parts hand wire n i all on less = finished_once (sent_at (sent n) i) ((lines n).line i) hand parts n ((all.each n on).finished i less)

pub window_ended : {W : Type 0} (device : W → ℕ → ℕ → Option Device) (base : Base) (member windows : ℕ → Bool) (sent : ℕ → Queue) (lines : ℕ → Lines) (parts : StructureSets) (hand : Hand) (p : WalkPlace) (wire : W) (n i : ℕ) → AreSent member windows sent → IsRing base member parts hand p
    → AreWindows device member windows sent lines parts hand wire → windows n ≡ true → i < (sent n).count → HasEnded (sent_at (sent n) i) parts n → IsActedOnce (sent_at (sent n) i) ((lines n).line i) hand parts n
window_ended device base member windows sent lines parts hand p wire n i fixed ring all on few ended =
    queue_ended member parts hand p.walk.reply n i (sent n) (lines n) (device wire (sent n).endpoint.addr (sent n).endpoint.num) (ring.members n (fixed.members n on)) ring.in_hand few (all.each n on) ended
