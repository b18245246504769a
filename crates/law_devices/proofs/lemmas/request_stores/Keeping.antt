-- Where the structures of a queue head keep all that its requests are shown by, the queue stands as it did.
use Rattle.std.proofs.Common.{◌≡◌, ◌≢◌, ℕ, ◌<◌, Bool, true, false, List, Option, Some, None, ap, refl, sym, ◌∙◌, ⊎_elim, inl, inr, arith}
use Rattle.std.specs.Prelude.{◌⊎◌}
use Rattle.link_words.specs.declared.fields.ShortLink.{ShortLink}
use Rattle.link_words.specs.declared.kinds.QtdLink.TheVariants.{To}
use Rattle.link_words.specs.Links.{qtd_link_of}
use Rattle.qh_qtd.specs.declared.qtd.Qtd.{Qtd}
use Rattle.qh_qtd.specs.declared.queue_head.Qh.{Qh}
use Rattle.toggle_error.specs.declared.host.HostSide.{HostSide}
use Rattle.law_structures.specs.lent_structures.Structures.{QueueHead, Element, Buffer, Structures, StructureSets}
use Rattle.law_structures.specs.lent_structures.Sound.{element_pages, buffer_name}
use Rattle.claims_report.specs.Requests.{Request}
use Rattle.law_request.specs.Host.{Endpoint, Host, Stage, Setup, Data, Status, next_stage}
use Rattle.law_request.specs.Line.{Line}
use Rattle.claims_report.specs.ControlSides.{Device}
use Rattle.law_ring.specs.Hand.{Hand}
use Rattle.law_ring.specs.Effects.{buffer_of}
use Rattle.law_ring.specs.Told.{hand_bytes, Told}
use Rattle.law_devices.specs.ring_requests.Laid.{Places, place_at, IsUnpublished, IsLinkBehind, LeadBehind, Leads, HasBytes, IsStage, IsFresh}
use Rattle.law_devices.specs.ring_requests.Shown.{hand_side, pointer_at, AreFresh, IsPending, Shows}
use Rattle.law_devices.specs.ring_requests.Shown.Shows.{works, waits, ends, halts}
use Rattle.law_devices.specs.ring_requests.Windows.{Queue, sent_at, Lines, IsWindow, IsFinished, IsBehind, HasTail, IsQueue}
use Rattle.law_devices.specs.request_stores.Published.{IsUnled}

pub record Keeps (v : Queue) (n : ℕ) (part now : Structures) : Type 0 where
  pub head : (q : Qh) → part n ≡ Some (QueueHead q) → now n ≡ Some (QueueHead q)
  pub place : (i : ℕ) (s : Stage) (t : Qtd) → i < v.count → part (place_at (v.places i) s) ≡ Some (Element t) → now (place_at (v.places i) s) ≡ Some (Element t)
  pub before : (i : ℕ) (s : Stage) (t : Qtd) → i < v.count → now (place_at (v.places i) s) ≡ Some (Element t) → part (place_at (v.places i) s) ≡ Some (Element t)
  pub buffer : (b : ℕ) (pages : List ℕ) (k : ℕ) (bs : List ℕ) → part b ≡ Some (Buffer pages k bs) → now b ≡ Some (Buffer pages k bs)
  pub bytes : (b : ℕ) (t : Qtd) → part b ≡ Some (Element t) → buffer_of now t ≡ buffer_of part t
  pub links : (i a : ℕ) (t : Qtd) → i < v.count → (v.places i).behind ≡ None → now a ≡ Some (Element t) → t.token.active ≡ true → (part a ≡ Some (Element t)) ⊎ IsUnled part a

module _ (v : Queue) (hand : Hand) (parts now : StructureSets) (n : ℕ) (keeps : Keeps v n (parts n) (now n)) where
  module _ (i : ℕ) (few : i < v.count) where
    abbrev e : Endpoint
    e = v.endpoint

    abbrev r : Request
    r = v.requests i

    abbrev x : Places
    x = v.places i

    -- ---- links

    none_kept : (v.places i).behind ≡ None → (link : ShortLink) → ((a : ℕ) → IsUnled (parts n) a → qtd_link_of link ≢ To a) → IsUnpublished (parts n) link → IsUnpublished (now n) link
    none_kept none link led nots a t leads here = by t.token.active refl
      where
        by : (b : Bool) → t.token.active ≡ b → t.token.active ≡ false
        by false off = off
        by true on = ⊎_elim (λ (there : parts n a ≡ Some (Element t)). nots a t leads there) (λ (k : IsUnled (parts n) a). absurd (led a k leads)) (keeps.links i a t few none here on)

    link_kept : (link : ShortLink) → ((a : ℕ) → IsUnled (parts n) a → qtd_link_of link ≢ To a) → IsLinkBehind (parts n) (v.places i).behind link → IsLinkBehind (now n) (v.places i).behind link
    link_kept link led = by x.behind refl
      where
        by : (o : Option ℕ) → x.behind ≡ o → IsLinkBehind (parts n) o link → IsLinkBehind (now n) o link
        by None is nots = none_kept is link led nots
        by (Some a) is leads = leads

    behind_kept : (b : ℕ) (t : Qtd) → parts n b ≡ Some (Element t) → LeadBehind (parts n) (v.places i).behind t → LeadBehind (now n) (v.places i).behind t
    behind_kept b t here k = record {
      next = link_kept t.next (λ a un. un.next b t here) k.next;
      alternate = ⊎_elim {C = (t.alternate.t ≡ true) ⊎ IsLinkBehind (now n) x.behind t.alternate} (λ (none : t.alternate.t ≡ true). inl none)
          (λ (leads : IsLinkBehind (parts n) x.behind t.alternate). inr (link_kept t.alternate (λ a un. un.alternate b t here) leads)) k.alternate;
    }

    leads_kept : (b : ℕ) (t : Qtd) → parts n b ≡ Some (Element t) → (s : Stage) → Leads (v.requests i) (v.places i) (parts n) s t → Leads (v.requests i) (v.places i) (now n) s t
    leads_kept b t here Setup leads = leads
    leads_kept b t here Data leads = leads
    leads_kept b t here _ leads = behind_kept b t here leads

    -- ---- qTDs

    has_kept : (s : Stage) (t : Qtd) → HasBytes (v.requests i) (parts n) s t → HasBytes (v.requests i) (now n) s t
    has_kept Setup t has = keeps.buffer (buffer_name t) (element_pages t) t.offset r.setup has
    has_kept Data t has = λ off. keeps.buffer (buffer_name t) (element_pages t) t.offset r.bytes (has off)
    has_kept _ t has = tt

    abbrev stage_kept : (s : Stage) → IsStage v.endpoint (v.requests i) (v.places i) (parts n) s → IsStage v.endpoint (v.requests i) (v.places i) (now n) s
    stage_kept s k = record {
      qtd = k.qtd;
      here = keeps.place i s k.qtd few k.here;
      pid = k.pid;
      leads = leads_kept (place_at x s) k.qtd k.here s k.leads;
      bytes = has_kept s k.qtd k.bytes;
    }

    pub fresh_kept : (from : Stage) → AreFresh v.endpoint (v.requests i) (v.places i) (parts n) from → AreFresh v.endpoint (v.requests i) (v.places i) (now n) from
    fresh_kept from fresh s on = let k : IsFresh e r x (parts n) s = fresh s on in record { stage = stage_kept s k.stage; begins = k.begins }

    pub told_kept : (xs : List ℕ) → Told hand parts n (v.places i).data_at xs → Told hand now n (v.places i).data_at xs
    told_kept xs k = record {
      queue = k.queue;
      head = keeps.head k.queue k.head;
      qtd = k.qtd;
      here = keeps.place i Data k.qtd few k.here;
      are = k.are ∙ ap (λ (bs : List ℕ). hand_bytes hand n k.queue x.data_at k.qtd bs) (sym (keeps.bytes x.data_at k.qtd k.here));
    }

    -- ---- what is shown

    shows_kept : (side : HostSide) (q : Qh) (h : Host) → parts n n ≡ Some (QueueHead q) → Shows v.endpoint (v.requests i) (v.places i) (parts n) side q h → Shows v.endpoint (v.requests i) (v.places i) (now n) side q h
    shows_kept side q h head (works w) = works (record {
      goes_on = w.goes_on;
      active = w.active;
      side_is = w.side_is;
      current = w.current;
      stage = stage_kept h.stage w.stage;
      pid = w.pid;
      next = w.next;
      alternate = w.alternate;
      later = fresh_kept (next_stage r h.stage) w.later;
    })
    shows_kept side q h head (waits w) = waits (record { goes_on = w.goes_on; idle = w.idle; side_is = w.side_is; leads = w.leads; fresh = fresh_kept h.stage w.fresh; beside = w.beside })
    shows_kept side q h head (ends w) = ends (record { done = w.done; idle = w.idle; ping = w.ping; behind = link_kept (pointer_at side.left q) (λ a un. un.overlay n side.left q head) w.behind; worked = w.worked })
    shows_kept side q h head (halts w) = halts (record {
      cause = w.cause;
      ended = w.ended;
      idle = w.idle;
      halted = w.halted;
      pending = λ on. let k : IsPending (parts n) x.status = w.pending on in record { qtd = k.qtd; here = keeps.place i Status k.qtd few k.here; published = k.published };
      status = λ t here. w.status t (keeps.before i Status t few here);
    })

    pub window_kept : (l : Line) (o : Option Device) → IsWindow (sent_at v i) l hand parts n o → IsWindow (sent_at v i) l hand now n o
    window_kept l o w = record {
      queue = w.queue;
      head = keeps.head w.queue w.head;
      control = w.control;
      shown = shows_kept (hand_side hand n w.queue) w.queue l.host w.head w.shown;
      among = w.among;
      moved = λ some. told_kept l.host.moved (w.moved some);
      device = w.device;
      stands = w.stands;
    }

    pub finished_kept : (l : Line) → IsFinished (sent_at v i) l hand parts n → IsFinished (sent_at v i) l hand now n
    finished_kept l w = record { done = w.done; moved = λ some. told_kept l.host.moved (w.moved some); stands = w.stands }

    pub one_behind_kept : IsBehind (sent_at v i) hand parts n → IsBehind (sent_at v i) hand now n
    one_behind_kept w = record { fresh = fresh_kept Setup w.fresh; none_told = λ some. told_kept _ (w.none_told some) }

  pub queue_kept : (l : Lines) (o : Option Device) → HasTail v (now n) → IsQueue v l hand parts n o → IsQueue v l hand now n o
  queue_kept l o tail w = record {
    within = w.within;
    window = window_kept l.under w.within (l.line l.under) o w.window;
    finished = λ i less. let within = w.within in finished_kept i (omega (arith, less, within)) (l.line i) (w.finished i less);
    behind = λ i more few. one_behind_kept i few (w.behind i more few);
    tail = tail;
  }
