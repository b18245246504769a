-- What a settlement leaves of the host of a request below a hub, and what an advance to the qTD of its next stage does.
use Rattle.std.proofs.Common.{◌≡◌, ℕ, ◌-◌, ◌==◌, ◌&&◌, ◌||◌, Bool, true, false, not, if◌then◌else◌, List}
use Rattle.std.proofs.Common.{Some, ap, refl, sym, subst, ◌∙◌}
use Rattle.std.proofs.lemmas.Bool.{false≢true}
use Rattle.usb_base.specs.declared.endpoints.EndCause.TheVariants as Causes
use Rattle.usb_base.specs.declared.packets.Reply.{Reply}
use Rattle.link_words.specs.declared.kinds.QtdLink.TheVariants.{To}
use Rattle.link_words.specs.Links.{qtd_link_of}
use Rattle.qh_qtd.specs.declared.qtd.Qtd.{Qtd}
use Rattle.qh_qtd.specs.declared.queue_head.Qh.{Qh}
use Rattle.toggle_error.specs.declared.host.HostSide.{HostSide}
use Rattle.toggle_error.specs.declared.host.Outcome.{Outcome}
use Rattle.toggle_error.specs.declared.host.Outcome.TheVariants.{Moved, Error, Halt}
use Rattle.toggle_error.specs.declared.rows.CompleteRow.TheVariants as Completes
use Rattle.toggle_error.specs.declared.rows.PlainRow.{PlainRow}
use Rattle.toggle_error.specs.declared.rows.PlainRow.TheVariants as Rows
use Rattle.toggle_error.specs.declared.rows.SettleRow.{SettleRow}
use Rattle.toggle_error.specs.declared.rows.SettleRow.TheVariants as Settling
use Rattle.toggle_error.specs.declared.rows.StartRow.TheVariants as Starts
use Rattle.toggle_error.specs.PlainRows.{is_last_error, plain_outcome, after_plain}
use Rattle.toggle_error.specs.Settle.{settle_row, outcome_of_row, after_settle_row}
use Rattle.hc_copy.specs.declared.held.Transaction.{Transaction}
use Rattle.hc_copy.specs.Overlay.{advanced, settled_queue, moved as moved_queue}
use Rattle.hc_copy.specs.Planning.{host_in}
use Rattle.hc_copy.specs.Transacting.{call_in, host_after, outcome_in}
use Rattle.hc_copy.specs.Visits.{next_pointer}
use Rattle.async_walk.specs.Naks.{planned}
use Rattle.bus_wire.specs.Bus.{Wired}
use Rattle.claims_report.specs.Requests.{Request}
use Rattle.law_structures.specs.lent_structures.Structures.{QueueHead, Element, Structures, with_structure}
use Rattle.law_structures.proofs.lemmas.lent_structures.Altering.{found_element}
use Rattle.law_ring.specs.Hand.{Copy, Settlement}
use Rattle.law_ring.proofs.Writing.{queue_written}
use Rattle.law_request.specs.Host.{Endpoint, Host, Stage, Setup, Data, Status, Done, Halted, side_at}
use Rattle.law_request.specs.Line.{Line as Window}
use Rattle.law_request.proofs.Hearing.{Same, stands_quiet}
use Rattle.law_devices.specs.ring_requests.Laid.{Places, place_at, IsStage, IsFresh}
use Rattle.law_devices.specs.ring_requests.Shown.{Works, Waits, Shows}
use Rattle.law_devices.specs.ring_requests.Shown.Shows.{works, waits, ends as shown_ends, halts}
use Rattle.law_devices.specs.ring_requests.Windows.{is_done}
use Rattle.law_devices.proofs.lemmas.ring_requests.Outcomes.{LeavesActive}
use Rattle.law_devices.proofs.lemmas.ring_requests.Stages.{comes_self, comes_later, to_same}
use Rattle.law_devices.proofs.lemmas.ring_requests.Taking.{fresh_there, stage_there, stage_there_qtd}
use Rattle.qh_qtd.specs.declared.token.Token.{Token}
use Rattle.law_translated.specs.Windows.{Line}
use Rattle.law_below_hubs.specs.HostIns.{IsWait}
use Rattle.law_below_hubs.specs.HostRequests.{unpinged, IsLineOf, goes_on, ended, RequestSide, RequestBelow}
use Rattle.law_below_hubs.specs.RequestWindows.{IsControlBelow}
use Rattle.law_below_hubs.specs.Splits.{IsAtHub}

-- ---- what a settlement leaves

error_leaves : (host : HostSide) (last ping : Bool) → LeavesActive (if last then Halt Causes.Error else Error) host
    (record host { xact_err = true; cerr = host.cerr - 1; halted = last || host.halted; active = not last && host.active; ping = ping })
error_leaves host true ping = (refl, refl)
error_leaves host false ping = refl

failed_leaves : (host : HostSide) (last later : Bool) → LeavesActive (if last then Halt Causes.Error else Error) host
    (record host { xact_err = true; cerr = host.cerr - 1; halted = last || host.halted; active = not last && host.active; waiting = later })
failed_leaves host true later = (refl, refl)
failed_leaves host false later = refl

plain_leaves : (row : PlainRow) (host : HostSide) → LeavesActive (plain_outcome row host) host (after_plain row host)
plain_leaves (Rows.Received n) host = tt
plain_leaves Rows.Babbled host = (refl, refl)
plain_leaves (Rows.Sent n) host = tt
plain_leaves (Rows.SentLast n) host = tt
plain_leaves Rows.Stalled host = (refl, refl)
plain_leaves Rows.Failed host = error_leaves host (is_last_error host) host.ping
plain_leaves Rows.FailedPinged host = error_leaves host (is_last_error host) true
plain_leaves _ host = refl

-- the host waits no more
waits_no_more : (o : Outcome) (host after : HostSide) → LeavesActive o host after → LeavesActive o host (record after { waiting = false })
waits_no_more (Moved n) host after leaves = tt
waits_no_more (Halt cause) host after leaves = leaves
waits_no_more _ host after leaves = leaves

row_leaves : (row : SettleRow) (host : HostSide) → LeavesActive (outcome_of_row row host) host (after_settle_row row host)
row_leaves (Settling.Plain row) host = plain_leaves row host
row_leaves (Settling.Start Starts.Unheard) host = error_leaves host (is_last_error host) host.ping
row_leaves (Settling.Start _) host = refl
row_leaves (Settling.Complete Completes.Pending) host = refl
row_leaves (Settling.Complete Completes.NeverCame) host = failed_leaves host (is_last_error host) false
row_leaves (Settling.Complete (Completes.Answered row)) host =
    waits_no_more (plain_outcome row host) host (after_plain row host) (plain_leaves row host)
row_leaves (Settling.Complete Completes.BrokeBelow) host = failed_leaves host (is_last_error host) false
row_leaves (Settling.Complete Completes.Unanswered) host = error_leaves host (is_last_error host) host.ping

pub call_leaves : (q : Qh) (out : List ℕ) (reply : Reply)
    → LeavesActive (outcome_in (planned q) out false reply) (host_in q) (host_after (planned q) out false reply)
call_leaves q out reply =
    let t : Transaction = planned q in
    row_leaves (settle_row (call_in t out false).ask (call_in t out false).sent false reply (host_in q)) (host_in q)

pub works_only : (e : Endpoint) (r : Request) (x : Places) (part : Structures) (side : HostSide) (q : Qh) (h : Host) → side.active ≡ true
    → Shows e r x part side q h → Works e r x part side q h
works_only e r x part side q h on (works w) = w
works_only e r x part side q h on (waits w) = absurd (false≢true (sym w.idle ∙ on))
works_only e r x part side q h on (shown_ends w) = absurd (false≢true (sym w.idle ∙ on))
works_only e r x part side q h on (halts w) = absurd (false≢true (sym w.idle ∙ on))

-- ---- a queue head that is advanced, or written

pub control_taken : (e : Endpoint) (q : Qh) (a : ℕ) (t : Qtd) → IsControlBelow e q → IsControlBelow e (advanced q a t)
unfolding advanced
control_taken e q a t is = record { toggles = is.toggles; below = is.below; address = is.address; number = is.number; packets = is.packets }

pub hub_taken : (w : Wired) (i place : ℕ) (q : Qh) (a : ℕ) (t : Qtd) → IsAtHub w.bus.hubs q.hub q.port i place
    → IsAtHub w.bus.hubs (advanced q a t).hub (advanced q a t).port i place
unfolding advanced
hub_taken w i place q a t is = is

-- the host's side that this token tells
abbrev side_of : Qh → Token → ℕ → HostSide
side_of q t max = host_in (record q { token = t; max = max })

-- the ping state comes with the qTD
host_taken : (e : Endpoint) (q : Qh) (a : ℕ) (t : Qtd) → IsControlBelow e q → host_in (advanced q a t) ≡ side_of q t.token e.max
unfolding advanced
host_taken e q a t is =
    ap (λ (b : Bool). side_of q (record t.token {
      toggle = if b then t.token.toggle else q.token.toggle;
      ping =
          if q.eps == 2 then q.token.ping else t.token.ping;
    }) q.max) is.toggles
    ∙ ap (λ (b : Bool). side_of q (record t.token { ping = if b then q.token.ping else t.token.ping }) q.max) is.below
    ∙ ap (side_of q t.token) is.packets

record IsTaken (q : Qh) (a : ℕ) (t : Qtd) (new : Qh) : Type 0 where
  active : new.token.active ≡ t.token.active
  current : new.current ≡ a
  pid : new.token.pid ≡ t.token.pid
  next : new.next ≡ t.next
  alternate : new.alternate ≡ t.alternate

is_taken : (q : Qh) (a : ℕ) (t : Qtd) → IsTaken q a t (advanced q a t)
unfolding advanced
is_taken q a t = record { active = refl; current = refl; pid = refl; next = refl; alternate = refl }

pub control_back : (e : Endpoint) (c : Copy) (z : Settlement) → IsControlBelow e c.queue → IsControlBelow e (queue_written c z)
unfolding moved_queue settled_queue
control_back e c z is = record { toggles = is.toggles; below = is.below; address = is.address; number = is.number; packets = is.packets }

pub hub_back : (w : Wired) (i place : ℕ) (c : Copy) (z : Settlement) → IsAtHub w.bus.hubs c.queue.hub c.queue.port i place
    → IsAtHub w.bus.hubs (queue_written c z).hub (queue_written c z).port i place
unfolding moved_queue settled_queue
hub_back w i place c z is = is

-- ---- the stage's side begins with another ping state

same_begun : (r : Request) (m : ℕ) (p b : Bool) (s : Stage)
    → record (side_at r m p s) { ping = false } ≡ record (side_at r m b s) { ping = false }
same_begun r m p b Setup = refl
same_begun r m p b Data = refl
same_begun r m p b Status = refl
same_begun r m p b Done = refl
same_begun r m p b (Halted cause) = refl

begun_toggle : (r : Request) (m : ℕ) (p b : Bool) (s : Stage) → (side_at r m p s).toggle ≡ (side_at r m b s).toggle
begun_toggle r m p b Setup = refl
begun_toggle r m p b Data = refl
begun_toggle r m p b Status = refl
begun_toggle r m p b Done = refl
begun_toggle r m p b (Halted cause) = refl

begun_left : (r : Request) (m : ℕ) (p b : Bool) (s : Stage) → (side_at r m p s).left ≡ (side_at r m b s).left
begun_left r m p b Setup = refl
begun_left r m p b Data = refl
begun_left r m p b Status = refl
begun_left r m p b Done = refl
begun_left r m p b (Halted cause) = refl

begun_active : (r : Request) (m : ℕ) (p b : Bool) (s : Stage) → (side_at r m p s).active ≡ (side_at r m b s).active
begun_active r m p b Setup = refl
begun_active r m p b Data = refl
begun_active r m p b Status = refl
begun_active r m p b Done = refl
begun_active r m p b (Halted cause) = refl

begun_max : (r : Request) (m : ℕ) (p b : Bool) (s : Stage) → (side_at r m p s).max ≡ (side_at r m b s).max
begun_max r m p b Setup = refl
begun_max r m p b Data = refl
begun_max r m p b Status = refl
begun_max r m p b Done = refl
begun_max r m p b (Halted cause) = refl

begun_waits : (r : Request) (m : ℕ) (p b : Bool) (s : Stage) → (side_at r m p s).waiting ≡ (side_at r m b s).waiting
begun_waits r m p b Setup = refl
begun_waits r m p b Data = refl
begun_waits r m p b Status = refl
begun_waits r m p b Done = refl
begun_waits r m p b (Halted cause) = refl

-- so it is the same request to hub and device
module _ (e : Endpoint) (r : Request) (i place : ℕ) (w : Wired) (l : Window) (acts : List (List ℕ)) (p b : Bool)
    (side : l.host.side ≡ side_at r e.max p l.host.stage) where
  abbrev begun : Host
  begun = record l.host { side = side_at r e.max b l.host.stage }

  unpinged_same : unpinged l.host ≡ unpinged begun
  unpinged_same =
      ap (λ (s : HostSide). record l.host { side = record s { ping = false } }) side
      ∙ ap (λ (s : HostSide). record l.host { side = s }) (same_begun r e.max p b l.host.stage)

  line_same : (m : Line) → IsLineOf l.host m → IsLineOf begun m
  line_same m (goes_on is) = goes_on (is ∙ unpinged_same)
  line_same m (ended is) = ended is

  side_same : RequestSide e r i place w l.host acts → RequestSide e r i place w begun acts
  side_same o = record {
    line = o.line;
    wait = o.wait;
    dir = o.dir;
    slot = o.slot;
    aside = o.aside;
    is_line = line_same o.line o.is_line;
    is_wait = subst (λ (x : Bool). IsWait x o.wait)
        (ap (λ (s : HostSide). s.waiting) side ∙ begun_waits r e.max p b l.host.stage) o.is_wait;
    faces = o.faces;
    idle = λ over no_error. sym (ap (λ (s : HostSide). s.waiting) side ∙ begun_waits r e.max p b l.host.stage) ∙ o.idle over no_error;
    acted = o.acted;
    has = o.has;
    other = o.other;
    right = o.right;
    device = o.device;
    holds = o.holds;
  }

  pub begun_same : RequestBelow e r i place w l acts → RequestBelow e r i place w (record l { host = begun }) acts
  begun_same o = record {
    side = side_same o.side;
    stands = stands_quiet e r l.host begun l.device l.acts
        (Same (side_at r e.max b l.host.stage)
        (begun_toggle r e.max b p l.host.stage ∙ sym (ap (λ (s : HostSide). s.toggle) side))
        (begun_left r e.max b p l.host.stage ∙ sym (ap (λ (s : HostSide). s.left) side))
        (begun_active r e.max b p l.host.stage ∙ sym (ap (λ (s : HostSide). s.active) side))
        (begun_max r e.max b p l.host.stage ∙ sym (ap (λ (s : HostSide). s.max) side))) o.stands;
    within = o.within;
  }

-- ---- the qTD of the next stage is taken

module _ (e : Endpoint) (r : Request) (x : Places) (part : Structures) (n : ℕ) (q : Qh) (h : Host) (here : part n ≡ Some (QueueHead q))
    (is : IsControlBelow e q) (a : ℕ) (t : Qtd) (leads : qtd_link_of (next_pointer q) ≡ To a) (there : part a ≡ Some (Element t))
    (published : t.token.active ≡ true) (w : Waits e r x part (host_in q) q h) where
  abbrev new : Qh
  new = advanced q a t

  f : IsFresh e r x part h.stage
  f = w.fresh h.stage (comes_self r h.stage w.goes_on)

  at_place : a ≡ place_at x h.stage
  at_place = to_same a (place_at x h.stage) (sym leads ∙ w.leads)

  same : t ≡ f.stage.qtd
  same = found_element (part a) t f.stage.qtd there (ap part at_place ∙ f.stage.here)

  abbrev stage_now : IsStage e r x (with_structure part n (QueueHead new)) h.stage
  stage_now = stage_there part n q new here e r x h.stage f.stage

  qtd : t ≡ stage_now.qtd
  qtd = same ∙ sym (stage_there_qtd part n q new here e r x h.stage f.stage)

  pub taken_works : Works e r x (with_structure part n (QueueHead (advanced q a t))) (host_in (advanced q a t)) (advanced q a t)
      (record h { side = side_at r e.max t.token.ping h.stage })
  taken_works =
      let v = is_taken q a t in
      record {
        goes_on = w.goes_on;
        active = v.active ∙ published;
        side_is = host_taken e q a t is ∙ ap (λ (u : Qtd). side_of q (record u.token { ping = t.token.ping }) e.max) same
            ∙ f.begins t.token.ping;
        current = v.current ∙ at_place;
        stage = stage_now;
        pid = v.pid ∙ ap (λ (u : Qtd). u.token.pid) qtd;
        next = v.next ∙ ap (λ (u : Qtd). u.next) qtd;
        alternate = v.alternate ∙ ap (λ (u : Qtd). u.alternate) qtd;
        later = λ s on. fresh_there part n q new here e r x s (w.fresh s (comes_later r h.stage s w.goes_on on));
      }

pub waits_only : (e : Endpoint) (r : Request) (x : Places) (part : Structures) (q : Qh) (h : Host) → q.token.active ≡ false
    → q.token.halted ≡ false → is_done h.stage ≡ false → Shows e r x part (host_in q) q h → Waits e r x part (host_in q) q h
waits_only e r x part q h idle goes going (works w) = absurd (false≢true (sym idle ∙ w.active))
waits_only e r x part q h idle goes going (waits w) = w
waits_only e r x part q h idle goes going (shown_ends w) = absurd (false≢true (sym going ∙ ap is_done w.done))
waits_only e r x part q h idle goes going (halts w) = absurd (false≢true (sym goes ∙ w.halted))
