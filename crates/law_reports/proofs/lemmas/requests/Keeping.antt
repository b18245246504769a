-- Where the structures of a queue head keep all that its requests are shown by, its queue stands as it did.
use Rattle.std.proofs.Common.{◌≡◌, ◌≢◌, ℕ, suc, ◌-◌, ◌<◌, ◌≤◌, ◌==◌, true, false, if◌then◌else◌, List, [], length, take, Option, Some, ap, refl, sym, subst, ◌∙◌, ⊎_elim, inl, inr, arith}
use Rattle.std.specs.Prelude.{◌⊎◌}
use Rattle.std.proofs.lemmas.Bool.{cases_lt, false≢true}
use Rattle.std.proofs.lemmas.Option.{same_Some}
use Rattle.link_words.specs.declared.fields.ShortLink.{ShortLink}
use Rattle.link_words.specs.Links.{qtd_link_of}
use Rattle.qh_qtd.specs.declared.token.Token.{Token}
use Rattle.qh_qtd.specs.declared.qtd.Qtd.{Qtd}
use Rattle.qh_qtd.specs.declared.queue_head.Qh.{Qh}
use Rattle.toggle_error.specs.declared.host.HostSide.{HostSide}
use Rattle.hc_copy.specs.Planning.{host_in}
use Rattle.law_structures.specs.lent_structures.Structures.{QueueHead, StructureSets}
use Rattle.law_structures.specs.lent_structures.Sound.{element_pages}
use Rattle.law_structures.proofs.lemmas.lent_structures.Altering.{found_queue}
use Rattle.dev_control.specs.Stages.{Stages}
use Rattle.claims_report.specs.Requests.{Request}
use Rattle.law_request.specs.Host.{Endpoint, Host, Stage, Setup, Data, Status, next_stage}
use Rattle.law_request.specs.Line.{Line}
use Rattle.claims_report.specs.ControlSides.{Device}
use Rattle.law_ring.specs.Hand.{Hand, Settled}
use Rattle.law_ring.specs.Effects.{buffer_of}
use Rattle.law_ring.specs.Front.{SameRest}
use Rattle.law_ring.specs.Sparing.{SparesElement}
use Rattle.law_ring.specs.Told.{Told, endpoint_of, Endpoint as Characteristics}
use Rattle.law_ring.proofs.Ordering.{not_worked, works_by}
use Rattle.law_ring.proofs.SparedSparing.{spared_is_told}
use Rattle.law_devices.specs.ring_requests.Laid.{Places, IsPlace, IsIdle, IsLinkBehind, LeadBehind, Leads, HasBytes, IsStage, IsFresh}
use Rattle.law_devices.specs.ring_requests.Shown.{hand_side, pointer_at, AreFresh, IsPending, Shows, IsAmong}
use Rattle.law_devices.specs.ring_requests.Shown.Shows.{works, waits, ends, halts}
use Rattle.law_devices.specs.ring_requests.Windows.{Queue, sent_at, Lines, IsWindow, IsFinished, IsBehind, IsQueue}
use Rattle.law_devices.specs.ring_requests.Resting.{IsAtRest, HeadStays}
use Rattle.law_devices.proofs.lemmas.ring_requests.Stages.{pointer_same}
use Rattle.law_devices.proofs.lemmas.ring_requests.RestingSpared.{endpoint_same, host_same, rest_is_spared}
use Rattle.law_reports.specs.requests.Courses.{AreInLine, IsAsking, IsResting}
use Rattle.law_reports.specs.requests.Spared.{KeepsBuffer, KeepsQtds, KeepsQueue}

-- ---- the queue head

side_same : (hand : Hand) (n : ℕ) (q r : Qh) → host_in r ≡ host_in q → hand_side hand n r ≡ hand_side hand n q
side_same (Settled c z) n q r host = ap (λ (s : HostSide). if c.at == n then z.host else s) host
side_same _ n q r host = host

-- ---- the last request leads to the end of the queue, and each other one to the next

pub record HasBehind (x : Places) : Type 0 where
  pub at : ℕ
  pub is : x.behind ≡ Some at

pub has_behind : (v : Queue) (b i : ℕ) → AreInLine v b → i < v.count → HasBehind (v.places i)
has_behind v b i line few =
    ⊎_elim {C = HasBehind (v.places i)} (λ (more : suc i < v.count). record { at = (v.places (suc i)).setup; is = line.chained i more })
    (λ (none : v.count ≤ suc i). record { at = b; is = line.last i (omega (arith, none, few)) }) (cases_lt (suc i) v.count)

-- ---- the qTDs

module _ (v : Queue) (b : ℕ) (parts now : StructureSets) (n : ℕ) (line : AreInLine v b) (keeps : KeepsQtds v (parts n) (now n)) where
  module _ (i : ℕ) (few : i < v.count) where
    abbrev e : Endpoint
    e = v.endpoint

    abbrev r : Request
    r = v.requests i

    abbrev x : Places
    x = v.places i

    -- ---- links

    link_kept : (link new : ShortLink) → new ≡ link → IsLinkBehind (parts n) (v.places i).behind link → IsLinkBehind (now n) (v.places i).behind new
    link_kept link new same leads =
        let k : HasBehind x = has_behind v b i line few in
        subst (λ (o : Option ℕ). IsLinkBehind (now n) o new) (sym k.is) (ap qtd_link_of same ∙ subst (λ (o : Option ℕ). IsLinkBehind (parts n) o link) k.is leads)

    behind_kept : (t : Qtd) → LeadBehind (parts n) (v.places i).behind t → LeadBehind (now n) (v.places i).behind t
    behind_kept t k = record {
      next = link_kept t.next t.next refl k.next;
      alternate = ⊎_elim {C = (t.alternate.t ≡ true) ⊎ IsLinkBehind (now n) x.behind t.alternate} (λ (none : t.alternate.t ≡ true). inl none)
          (λ (leads : IsLinkBehind (parts n) x.behind t.alternate). inr (link_kept t.alternate t.alternate refl leads)) k.alternate;
    }

    leads_kept : (t : Qtd) (s : Stage) → Leads (v.requests i) (v.places i) (parts n) s t → Leads (v.requests i) (v.places i) (now n) s t
    leads_kept t Setup leads = leads
    leads_kept t Data leads = leads
    leads_kept t _ leads = behind_kept t leads

    -- ---- qTDs

    has_kept : (s : Stage) (t : Qtd) → KeepsBuffer (parts n) (now n) t → HasBytes (v.requests i) (parts n) s t → HasBytes (v.requests i) (now n) s t
    has_kept Setup t k has = k.here (element_pages t) t.offset r.setup has
    has_kept Data t k has = λ off. k.here (element_pages t) t.offset r.bytes (has off)
    has_kept _ t k has = tt

    abbrev stage_kept : (s : Stage) → IsStage v.endpoint (v.requests i) (v.places i) (parts n) s → IsStage v.endpoint (v.requests i) (v.places i) (now n) s
    stage_kept s k = record {
      qtd = k.qtd;
      here = keeps.place i s k.qtd few k.here;
      pid = k.pid;
      leads = leads_kept k.qtd s k.leads;
      bytes = has_kept s k.qtd (keeps.buffer i s k.qtd few k.here) k.bytes;
    }

    pub fresh_kept : (from : Stage) → AreFresh v.endpoint (v.requests i) (v.places i) (parts n) from → AreFresh v.endpoint (v.requests i) (v.places i) (now n) from
    fresh_kept from fresh s on = let k : IsFresh e r x (parts n) s = fresh s on in record { stage = stage_kept s k.stage; begins = k.begins }

  -- ---- where the queue head isn't active

  module _ (hand later : Hand) (q new : Qh) (head : parts n n ≡ Some (QueueHead q)) (idle : q.token.active ≡ false) (there : now n n ≡ Some (QueueHead new)) (still_idle : new.token.active ≡ false) where
    told_idle : (i : ℕ) → i < v.count → (xs : List ℕ) → Told hand parts n (v.places i).data_at xs → Told later now n (v.places i).data_at xs
    told_idle i few xs t =
        let a : ℕ = (v.places i).data_at in
        let is : q ≡ t.queue = found_queue (parts n n) q t.queue head t.head in
        let off = works_by t.queue a false (ap (λ (z : Qh). z.token.active) (sym is) ∙ idle) (λ on. absurd (false≢true on)) in
        let off_now = works_by new a false still_idle (λ on. absurd (false≢true on)) in
        record {
          queue = new;
          head = there;
          qtd = t.qtd;
          here = keeps.place i Data t.qtd few t.here;
          are = t.are ∙ not_worked hand n t.queue a t.qtd (buffer_of (parts n) t.qtd) off
              ∙ ap (λ (bs : List ℕ). take (length bs - t.qtd.token.total) bs) (sym (keeps.buffer i Data t.qtd few t.here).bytes) ∙ sym (not_worked later n new a t.qtd (buffer_of (now n) t.qtd) off_now);
        }

    pub behind_idle : (i : ℕ) → i < v.count → IsBehind (sent_at v i) hand parts n → IsBehind (sent_at v i) later now n
    behind_idle i few w = record { fresh = fresh_kept i few Setup w.fresh; none_told = λ some. told_idle i few [] (w.none_told some) }

-- ---- a queue

module _ (v : Queue) (b : ℕ) (hand later : Hand) (parts now : StructureSets) (n : ℕ) (line : AreInLine v b) (keeps : KeepsQueue v b hand later parts now n) where
  abbrev qtds : KeepsQtds v (parts n) (now n)
  qtds = keeps.qtds

  module _ (i : ℕ) (few : i < v.count) where
    spares_data : SparesElement parts now n (v.places i).data_at
    spares_data = record { element = λ t here. qtds.place i Data t few here; bytes = λ t here. (qtds.buffer i Data t few here).bytes }

    pub told_kept : (xs : List ℕ) → Told hand parts n (v.places i).data_at xs → Told later now n (v.places i).data_at xs
    told_kept xs told = spared_is_told hand later parts now n (v.places i).data_at xs keeps.same keeps.overlay spares_data told

    -- ---- what is shown

    shows_kept : (side : HostSide) (q new : Qh) (h : Host) → SameRest q new → Shows v.endpoint (v.requests i) (v.places i) (parts n) side q h → Shows v.endpoint (v.requests i) (v.places i) (now n) side new h
    shows_kept side q new h same (works w) = works (record {
      goes_on = w.goes_on;
      active = w.active;
      side_is = w.side_is;
      current = same.current ∙ w.current;
      stage = stage_kept v b parts now n line keeps.qtds i few h.stage w.stage;
      pid = ap (λ (t : Token). t.pid) same.token ∙ w.pid;
      next = same.next ∙ w.next;
      alternate = same.alternate ∙ w.alternate;
      later = fresh_kept v b parts now n line keeps.qtds i few (next_stage (v.requests i) h.stage) w.later;
    })
    shows_kept side q new h same (waits w) = waits (record {
      goes_on = w.goes_on;
      idle = w.idle;
      side_is = w.side_is;
      leads = ap qtd_link_of (pointer_same side.left q new same.next same.alternate) ∙ w.leads;
      fresh = fresh_kept v b parts now n line keeps.qtds i few h.stage w.fresh;
      beside = λ on s comes is. w.beside (ap (λ (t : Token). t.active) (sym same.token) ∙ on) s comes (is ∙ same.current);
    })
    shows_kept side q new h same (ends w) = ends (record {
      done = w.done;
      idle = w.idle;
      ping = w.ping;
      behind = link_kept v b parts now n line keeps.qtds i few (pointer_at side.left q) (pointer_at side.left new) (pointer_same side.left q new same.next same.alternate) w.behind;
      worked = λ on. same.current ∙ w.worked (ap (λ (t : Token). t.active) (sym same.token) ∙ on);
    })
    shows_kept side q new h same (halts w) = halts (record {
      cause = w.cause;
      ended = w.ended;
      idle = w.idle;
      halted = w.halted;
      pending = λ on.
          let k : IsPending (parts n) (v.places i).status = w.pending (ap (λ (t : Token). t.active) (sym same.token) ∙ on) in
          record { qtd = k.qtd; here = qtds.place i Status k.qtd few k.here; published = k.published };
      status = λ t here. w.status t (qtds.before i Status t few here);
    })

    among_kept : (q new : Qh) → SameRest q new → IsAmong (v.places i) q → IsAmong (v.places i) new
    among_kept q new same among on =
        let k : IsPlace (v.places i) q.current = among (ap (λ (t : Token). t.active) (sym same.token) ∙ on) in
        record { stage = k.stage; is = same.current ∙ k.is }

    window_kept : (l : Line) (o : Option Device) → IsWindow (sent_at v i) l hand parts n o → IsWindow (sent_at v i) l later now n o
    window_kept l o w =
        let head : HeadStays (parts n) (now n) n = keeps.head in
        let queue : head.queue ≡ w.queue = found_queue (parts n n) head.queue w.queue head.here w.head in
        let same : SameRest w.queue head.later = subst (λ (q : Qh). SameRest q head.later) queue head.rest in
        let own : endpoint_of head.later ≡ endpoint_of w.queue = head.own ∙ ap endpoint_of queue in
        let side : hand_side later n head.later ≡ hand_side hand n w.queue =
        keeps.side head.later ∙ side_same hand n w.queue head.later (host_same w.queue head.later same.token (ap (λ (y : Characteristics). y.max) own)) in
        record {
          queue = head.later;
          head = head.there;
          control = endpoint_same v.endpoint w.queue head.later own w.control;
          shown = subst (λ (s : HostSide). Shows v.endpoint (v.requests i) (v.places i) (now n) s head.later l.host) (sym side) (shows_kept (hand_side hand n w.queue) w.queue head.later l.host same w.shown);
          among = among_kept w.queue head.later same w.among;
          moved = λ some. told_kept l.host.moved (w.moved some);
          device = w.device;
          stands = w.stands;
        }

    finished_kept : (l : Line) → IsFinished (sent_at v i) l hand parts n → IsFinished (sent_at v i) l later now n
    finished_kept l w = record { done = w.done; moved = λ some. told_kept l.host.moved (w.moved some); stands = w.stands }

    pub one_behind_kept : IsBehind (sent_at v i) hand parts n → IsBehind (sent_at v i) later now n
    one_behind_kept w = record { fresh = fresh_kept v b parts now n line keeps.qtds i few Setup w.fresh; none_told = λ some. told_kept [] (w.none_told some) }

  tail_is : (i a : ℕ) → suc i ≡ v.count → (v.places i).behind ≡ Some a → b ≡ a
  tail_is i a last is = same_Some b a (sym (line.last i last) ∙ is)

  pub queue_kept : (l : Lines) (o : Option Device) → IsQueue v l hand parts n o → IsQueue v l later now n o
  queue_kept l o w = record {
    within = w.within;
    window = window_kept l.under w.within (l.line l.under) o w.window;
    finished = λ i less. let within = w.within in finished_kept i (omega (arith, less, within)) (l.line i) (w.finished i less);
    behind = λ i more few. one_behind_kept i few (w.behind i more few);
    tail = λ i a last is. subst (λ (j : ℕ). IsIdle (now n) j) (tail_is i a last is) keeps.tail;
  }

  pub asking_kept : (l : Lines) (o : Option Device) → IsAsking v b l hand parts n o → IsAsking v b l later now n o
  asking_kept l o k = record { line = k.line; queue = queue_kept l o k.queue }

  pub resting_kept : (c : Stages) (o : Option Device) → IsResting v b c hand parts n o → IsResting v b c later now n o
  resting_kept c o k =
      let head : HeadStays (parts n) (now n) n = keeps.head in
      let rest : IsAtRest v.endpoint c b later now n o = rest_is_spared v.endpoint c b n hand later parts now o keeps.side head keeps.tail k.rest in
      let queue : head.queue ≡ k.rest.queue = found_queue (parts n n) head.queue k.rest.queue head.here k.rest.head in
      let new : rest.queue ≡ head.later = found_queue (now n n) rest.queue head.later rest.head head.there in
      record {
        line = k.line;
        rest = rest;
        wait = λ some. ap (λ (q : Qh). q.token.halted) new ∙ ap (λ (t : Token). t.halted) head.rest.token ∙ ap (λ (q : Qh). q.token.halted) queue ∙ k.wait some;
        behind = λ i few. one_behind_kept i few (k.behind i few);
      }
