-- What is told of the queues goes on where a content has the same queues, and where the frame list is stored, or the link of one structure.
use Rattle.std.proofs.Common.{◌≡◌, ◌≢◌, ℕ, ◌*◌, Bool, false, List, length, slice_get, Some, ap, refl, sym, subst, ◌∙◌, ⊎_elim, inl, inr}
use Rattle.std.specs.Prelude.{◌⊎◌, slice_set}
use Rattle.std.proofs.lemmas.Bool.{cases_eq}
use Rattle.std.proofs.lemmas.Option.{same_Some}
use Rattle.law_common.proofs.Lists.{all_more}
use Rattle.link_words.specs.Links.{link_read, link_fields, qtd_link_of}
use Rattle.link_words.specs.declared.fields.LinkBits.{LinkBits}
use Rattle.link_words.specs.declared.kinds.QtdLink.{QtdLink}
use Rattle.link_words.specs.declared.kinds.QtdLink.TheVariants as qtd_links
use Rattle.qh_qtd.specs.declared.qtd.Qtd.{Qtd}
use Rattle.qh_qtd.specs.declared.queue_head.Qh.{Qh}
use Rattle.itd_sitd.specs.declared.itd.Itd.{Itd}
use Rattle.itd_sitd.specs.declared.sitd.Sitd.{Sitd}
use Rattle.hc_copy.specs.Visits.{next_pointer}
use Rattle.mem_runs.specs.Book.{Book, slot_of}
use Rattle.drv_table.specs.declared.content.Endpoint.{Endpoint}
use Rattle.drv_table.specs.declared.content.QtdNote.{QtdNote}
use Rattle.drv_table.specs.declared.content.Sort.{Sort}
use Rattle.drv_table.specs.declared.content.Command.TheVariants as unfinished
use Rattle.drv_table.specs.DriverContent.{DriverContent}
use Rattle.drv_table.specs.Harvests.{note_at}
use Rattle.drv_table.specs.Words.{head_block, dummy_qtd}
use Rattle.claims_driver.specs.Owners.{note_in}
use Rattle.law_driver.specs.endpoint_lives.Lives.{may_meet}
use Rattle.law_structures.specs.lent_structures.Structures.{Structure, QueueHead, Element, Buffer, Table, Isochronous, SplitIsochronous, Structures, StructureSets, put}
use Rattle.law_structures.specs.lent_structures.Sound.{element_pages, buffer_name, LeadsOn, HasBuffer, IsSoundElement, IsSoundQueue}
use Rattle.law_structures.proofs.lemmas.lent_structures.Names.{put_same, put_else, put_beside}
use Rattle.law_structures.proofs.lemmas.lent_structures.Altering.{same_queue}
use Rattle.law_driver_ring.specs.Inventory.{IsLent}
use Rattle.claims_base.specs.Controller.{Base}
use Rattle.law_ring.specs.Told.{Endpoint as Told}
use Rattle.law_ring.specs.Effects.{bytes_in}
use Rattle.law_ring.specs.Front.{LinksRise, HadRest, LinksWithin, HasTail}
use Rattle.law_ring.specs.Halted.{HaltStops}
use Rattle.law_ring.proofs.FrontGoing.{front_is_spared}
use Rattle.law_ring.proofs.HaltSparing.{halt_is_spared}
use Rattle.law_driver.specs.chained_transfers.Chains.{piece_at}
use Rattle.law_driver_ring.specs.fed_queues.Fed.{IsPieceFed, IsPublished, AreFed, sized}
use Rattle.law_driver_ring.specs.fed_queues.Places.{IsThere, IsMet, HasHead, AreMet, HaveStreams, AreLast}
use Rattle.law_queues.specs.fed_lends.Commands.{QueuesStand}
use Rattle.law_queues.specs.standing_fronts.Reaching.{Reaches}
use Rattle.law_queues.specs.mended_heads.Owed.{StalledQueue, IsOwed}
use Rattle.law_queues.specs.mended_heads.Waiting.{MendsStand}
use Rattle.law_queues.specs.mended_heads.Standing.{KeepsHalted}
use Rattle.law_queues.proofs.lemmas.mended_heads.Standing.{stand_on}
use Rattle.law_world.specs.steps.control_queues.Controls.{ControlsStand}
use Rattle.law_frames.specs.Met.{IsQueuePart}
use Rattle.law_frames.specs.FrameHand.{FrameHand}
use Rattle.law_controller.specs.frame_stores.Stores.{HasLink, linked}
use Rattle.law_descriptors.specs.Both.{both, parts_now}
use Rattle.law_descriptors.specs.ListRows.{IsStoredIn, an_element, a_link}
use Rattle.law_descriptors.proofs.lemmas.queue_events.Beside.{beside}
use Rattle.law_driver.specs.queued_drivers.Rows.{QueuesAlike}
use Rattle.law_driver.proofs.lemmas.queued_drivers.RowTurns.{alike_subst}
use Rattle.law_queues.specs.open_laws.Queues.{IsOpenThere, IsNewPart}
use Rattle.law_world.specs.memory.Mixed.{QueuesGoOn}
use Rattle.law_world.specs.memory.SameQueues.{IsRelinked, IsSameQueue}

-- ---- the same queues

-- a dummy's run is lent in f's book only where it is in d's
abbrev pub DummiesWereLent : DriverContent → DriverContent → Type 0
DummiesWereLent d f = (e : ℕ) (x : Endpoint) → slice_get d.endpoints e ≡ Some x → x.gone ≡ false → IsLent (slot_of f.book.slots x.dummy) → IsLent (slot_of d.book.slots x.dummy)

-- .. as where the book is the same
pub same_lent : (d f : DriverContent) → f.book ≡ d.book → DummiesWereLent d f
same_lent d f book e x here kept lent = subst (λ (k : Book). IsLent (slot_of k.slots x.dummy)) book lent

-- the same endpoints of d may be met, wherever those stand that leave
abbrev pub NearAlike : DriverContent → DriverContent → Type 0
NearAlike d f = (e : ℕ) (x : Endpoint) → slice_get d.endpoints e ≡ Some x → may_meet f e x ≡ may_meet d e x

-- h, with all of d's queues but who leaves
abbrev pub queues_in : DriverContent → DriverContent → DriverContent
queues_in d h =
    record h { endpoints = d.endpoints; transfers = d.transfers; notes = d.notes; command = d.command; made = d.made; mends = d.mends; harvested = d.harvested }

module _ (d h : DriverContent) (near : NearAlike d h) where
  abbrev f : DriverContent
  f = queues_in d h

  there_was : (x : Endpoint) → IsThere f x → IsThere d x
  there_was x t = record { linked = t.linked; kept = t.kept }

  met_was : (e : ℕ) (x : Endpoint) → slice_get d.endpoints e ≡ Some x → IsMet f e x → IsMet d e x
  met_was e x here m = record { there = there_was x m.there; near = sym (near e x here) ∙ m.near }

  met_now : (e : ℕ) (x : Endpoint) → slice_get d.endpoints e ≡ Some x → IsMet d e x → IsMet f e x
  met_now e x here m = record { there = record { linked = m.there.linked; kept = m.there.kept }; near = near e x here ∙ m.near }

  head_now : (n : ℕ) → HasHead d n → HasHead f n
  head_now n h = record { number = h.number; endpoint = h.endpoint; here = h.here; met = met_now h.number h.endpoint h.here h.met; at = h.at }

  pub ring_near : (member : ℕ → Bool) → AreMet d member → AreMet (queues_in d h) member
  ring_near member k = record {
    head = k.head;
    each = λ e x here m. k.each e x here (met_was e x here m);
    only = λ n on. ⊎_elim (λ (head : n ≡ 32 * head_block). inl head) (λ (has : HasHead d n). inr (head_now n has)) (k.only n on);
  }

  streams_near : (streams : ℕ → Bool) (ends : ℕ → Told) → HaveStreams d streams ends → HaveStreams f streams ends
  streams_near streams ends k = record { each = λ e x here m. k.each e x here (met_was e x here m); only = λ n on. head_now n (k.only n on) }

  published_near : (parts : StructureSets) (b : ℕ) (words : List ℕ) → IsPublished d parts b words → IsPublished f parts b words
  published_near parts b words k = record {
    number = k.number;
    transfer = k.transfer;
    endpoint = k.endpoint;
    newest = k.newest;
    there = k.there;
    fresh = k.fresh;
    place = k.place;
    here = k.here;
    going = k.going;
    qtd = k.qtd;
    are = k.are;
    range = k.range;
    noted = k.noted;
    active = k.active;
    pid = k.pid;
    total = k.total;
    stored = k.stored;
    places = k.places;
    blank = k.blank;
    few = k.few;
    long = k.long;
    may = k.may;
  }

  stands_near : (part : Structures) (order : ℕ → ℕ) (out : List ℕ) (e : ℕ) (x : Endpoint) (c : ℕ) → Reaches d part order out e x c → Reaches f part order out e x c
  stands_near part order out e x c k =
      record { stands = record { front = k.stands.front; has = k.stands.has; ended = k.stands.ended; passed = k.stands.passed }; within = k.within; tail = k.tail }

  owed_near : (s : StalledQueue) → IsOwed d s → IsOwed f s
  owed_near s k =
      record { number = k.number; endpoint = k.endpoint; here = k.here; control = k.control; kept = k.kept; going = k.going; queue = k.queue; onward = k.onward; some = k.some }

  mends_near : (parts : StructureSets) (out : ℕ → List ℕ) → MendsStand d parts out → MendsStand f parts out
  mends_near parts out k = record {
    queues = k.queues;
    are = record { mends = k.are.mends; owed = all_more (IsOwed d) (IsOwed f) k.queues owed_near k.are.owed; wait = k.are.wait; apart = k.are.apart };
  }

  module _ (dummies : DummiesWereLent d h) (member streams : ℕ → Bool) (ends : ℕ → Told) (parts : StructureSets) (order : ℕ → ℕ → ℕ) (out : ℕ → List ℕ) where
    fed_near : AreFed d parts → AreFed f parts
    fed_near k = record {
      dummies = λ e x here kept lent. k.dummies e x here kept (dummies e x here kept lent);
      pieces = k.pieces;
      publishes = λ b words is. published_near parts b words (k.publishes b words is);
    }

    last_near : AreLast d parts order → AreLast f parts order
    last_near k = record { dummies = λ e x here kept lent. k.dummies e x here kept (dummies e x here kept lent); taken = k.taken; sorted = k.sorted }

    queues_near : QueuesStand d member streams ends parts order out → QueuesStand f member streams ends parts order out
    queues_near k = record {
      met = ring_near member k.met;
      streams_are = streams_near streams ends k.streams_are;
      fed = fed_near k.fed;
      last = last_near k.last;
      out_are = λ e x here there. k.out_are e x here (there_was x there);
    }

    controls_near : ControlsStand d parts order out → ControlsStand f parts order out
    controls_near k = record {
      rises = λ e x here there. k.rises e x here (there_was x there);
      sorted = λ e x here there. k.sorted e x here (there_was x there);
      stops = λ e x here m. k.stops e x here (met_was e x here m);
      mends = mends_near parts out k.mends;
    }

    pub goes_on_near : QueuesGoOn d member streams ends parts order out → QueuesGoOn (queues_in d h) member streams ends parts order out
    goes_on_near k = record {
      queues = queues_near k.queues;
      sound = λ e x here m. k.sound e x here (met_was e x here m);
      tails = λ e x here m. stands_near (parts (32 * x.queue)) (order (32 * x.queue)) (out (32 * x.queue)) e x _ (k.tails e x here (met_was e x here m));
      controls = controls_near k.controls;
    }

-- f, with all of d's queues
abbrev all_in : DriverContent → DriverContent → DriverContent
all_in d f = record (queues_in d f) { waiting = d.waiting; rung = d.rung; cleared = d.cleared; bell = d.bell }

pub goes_on_alike : (d f : DriverContent) (member streams : ℕ → Bool) (ends : ℕ → Told) (parts : StructureSets) (order : ℕ → ℕ → ℕ) (out : ℕ → List ℕ) → QueuesAlike d f → DummiesWereLent d f
    → QueuesGoOn d member streams ends parts order out → QueuesGoOn f member streams ends parts order out
goes_on_alike d f member streams ends parts order out k dummies old =
    alike_subst (λ (g : DriverContent). QueuesGoOn g member streams ends parts order out) d f k (goes_on_near d (all_in d f) (λ e x here. refl) dummies member streams ends parts order out old)

-- .. and so is what the walk of the ring meets
pub ring_alike : (d f : DriverContent) (member : ℕ → Bool) → QueuesAlike d f → AreMet d member → AreMet f member
ring_alike d f member k old = alike_subst (λ (g : DriverContent). AreMet g member) d f k (ring_near d (all_in d f) (λ e x here. refl) member old)

-- an open's endpoint stands there too
abbrev pub there_alike : (g f : DriverContent) (parts : StructureSets) → QueuesAlike g f → IsOpenThere g parts → IsOpenThere f parts
there_alike g f parts alike k = record {
  number = k.number;
  endpoint = k.endpoint;
  here = ap (λ (xs : List Endpoint). slice_get xs k.number) alike.endpoints ∙ k.here;
  command = alike.command ∙ k.command;
  fresh = k.fresh;
  none = λ t y there. k.none t y (ap (λ ts. slice_get ts t) (sym alike.transfers) ∙ there);
  part = k.part;
}

-- ---- structures of one queue head that differ at most in its link

pub same_itself : (n : ℕ) (part : Structures) → IsSameQueue n part part
same_itself n part = record {
  elements = λ a t is. is;
  elements_were = λ a t is. is;
  buffers = λ a pages j bs is. is;
  buffers_were = λ a pages j bs is. is;
  bytes = λ a. refl;
  head = λ q is. record { link = q.link; here = is };
  head_was = λ q is. record { link = q.link; here = is };
}

module _ (n : ℕ) (part now : Structures) (k : IsSameQueue n part now) where
  leads_on : (l : QtdLink) → LeadsOn part l → LeadsOn now l
  leads_on qtd_links.End leads = tt
  leads_on (qtd_links.To a) leads = record { qtd = leads.qtd; here = k.elements a leads.qtd leads.here }

  has_buffer : (t : Qtd) (size : ℕ) → HasBuffer part t size → HasBuffer now t size
  has_buffer t size has = record { bytes = has.bytes; here = k.buffers (buffer_name t) (element_pages t) t.offset has.bytes has.here; size = has.size }

  sound_element : (t : Qtd) → IsSoundElement part t → IsSoundElement now t
  sound_element t s = record {
    next = leads_on (qtd_link_of t.next) s.next;
    alternate = leads_on (qtd_link_of t.alternate) s.alternate;
    work = λ on. let w = s.work on in record { goes_on = w.goes_on; start = w.start; buffer = λ some. has_buffer t t.token.total (w.buffer some) };
  }

  sound_queue : (q : Qh) (l : LinkBits) → IsSoundQueue part q → IsSoundQueue now (record q { link = l })
  sound_queue q l s = record {
    rest = λ awake idle. leads_on (qtd_link_of (next_pointer q)) (s.rest awake idle);
    work = λ on.
        let w = s.work on in
        record {
          element = w.element;
          here = k.elements q.current w.element w.here;
          published = w.published;
          goes_on = w.goes_on;
          pid = w.pid;
          pages = w.pages;
          next = w.next;
          alternate = w.alternate;
          fewer = w.fewer;
          place = w.place;
        };
  }

  pub queue_part : IsQueuePart n part → IsQueuePart n now
  queue_part s =
      let h = k.head s.queue s.here in
      record {
        queue = record s.queue { link = h.link };
        here = h.here;
        sound = sound_queue s.queue h.link s.sound;
        elements = λ a t is. sound_element t (s.elements a t (k.elements_were a t is));
        own = λ a b t u pages j bs one other same buffer. s.own a b t u pages j bs (k.elements_were a t one) (k.elements_were b u other) same (k.buffers_were (buffer_name t) pages j bs buffer);
      }

  piece_fed : (sort : Sort) (note : QtdNote) (b end : ℕ) → IsPieceFed sort part note b end → IsPieceFed sort now note b end
  piece_fed sort note b end g = record {
    qtd = g.qtd;
    here = k.elements (32 * b) g.qtd g.here;
    noted = g.noted;
    buffer = λ some. has_buffer g.qtd note.told (g.buffer some);
    long = ap length (k.bytes (buffer_name g.qtd)) ∙ g.long;
    places = g.places;
    fresh = g.fresh;
    blank = g.blank;
  }

  had_rest : (q : Qh) → now n ≡ Some (QueueHead q) → HadRest part n q
  had_rest q is = let h = k.head_was q is in record { queue = record q { link = h.link }; here = h.here; rest = record { token = refl; current = refl; next = refl; alternate = refl } }

  rises_still : (order : ℕ → ℕ) → LinksRise order part → LinksRise order now
  rises_still order r = record { next = λ a t b is to. r.next a t b (k.elements_were a t is) to; alternate = λ a t b is to. r.alternate a t b (k.elements_were a t is) to }

  within_still : (order : ℕ → ℕ) (c : ℕ) → LinksWithin order c part → LinksWithin order c now
  within_still order c r = record {
    below = λ a t is. r.below a t (k.elements_were a t is);
    next = λ a b t is. r.next a b t (k.elements_were a t is);
    alternate = λ a b t is. r.alternate a b t (k.elements_were a t is);
  }

  tail_still : (order : ℕ → ℕ) (c front : ℕ) → HasTail order c front n part → HasTail order c front n now
  tail_still order c front r = record { most = r.most; rest = λ q b is awake idle to. let h = k.head_was q is in r.rest (record q { link = h.link }) b h.here awake idle to }

  stops_still : (order : ℕ → ℕ) (out : List ℕ) → HaltStops order out n part → HaltStops order out n now
  stops_still order out s = halt_is_spared order out out n part now had_rest (λ a t among is. inl (among, k.elements_were a t is)) s

reaches_still : (d : DriverContent) (part now : Structures) (order : ℕ → ℕ) (out : List ℕ) (e : ℕ) (x : Endpoint) (c : ℕ) → IsSameQueue (32 * x.queue) part now → Reaches d part order out e x c
    → Reaches d now order out e x c
reaches_still d part now order out e x c k r =
    let n : ℕ = 32 * x.queue in
    record {
      stands = record {
        front = r.stands.front;
        has = front_is_spared order r.stands.front out out n part now r.stands.has (had_rest n part now k) (λ a t among is. inl (among, k.elements_were a t is, ap length (k.bytes (buffer_name t))));
        ended = r.stands.ended;
        passed = λ i t j y at there held same from below.
            let p = r.stands.passed i t j y at there held same from below in
            record { qtd = p.qtd; here = k.elements _ p.qtd p.here; published = p.published; before = p.before };
      };
      within = within_still n part now k order c r.within;
      tail = tail_still n part now k order c r.stands.front r.tail;
    }

-- a new queue stays one
pub new_still : (x : Endpoint) (part now : Structures) → IsSameQueue (32 * x.queue) part now → IsNewPart x part → IsNewPart x now
new_still x part now k old =
    let h = k.head old.queue old.here in
    record {
      queue = record old.queue { link = h.link };
      here = h.here;
      rests = record { idle = old.rests.idle; leads = old.rests.leads };
      dummy = k.elements (32 * x.dummy) dummy_qtd old.dummy;
      only = λ a t is. old.only a t (k.elements_were a t is);
    }

-- ---- all queues, while no transfer is being published

module _ (d : DriverContent) (parts now : StructureSets) (same : (n : ℕ) → IsSameQueue n (parts n) (now n)) (none : (b : ℕ) (words : List ℕ) → d.command ≢ Some (unfinished.Publish b words)) where
  fed_still : AreFed d parts → AreFed d now
  fed_still k = record {
    dummies = λ e x here kept lent. (same (32 * x.queue)).elements (32 * x.dummy) dummy_qtd (k.dummies e x here kept lent);
    pieces = λ t j y x there held here from below.
        piece_fed (32 * x.queue) (parts (32 * x.queue)) (now (32 * x.queue)) (same (32 * x.queue)) y.sort (sized y.sort j (note_at d.notes (piece_at (note_in d.notes) y.first j)))
        (piece_at (note_in d.notes) y.first j) (piece_at (note_in d.notes) y.first y.qtds) (k.pieces t j y x there held here from below);
    publishes = λ b words is. absurd (none b words is);
  }

  last_still : (order : ℕ → ℕ → ℕ) → AreLast d parts order → AreLast d now order
  last_still order k = record {
    dummies = λ e x here kept lent a t is. k.dummies e x here kept lent a t ((same (32 * x.queue)).elements_were a t is);
    taken = λ b words t y x command. absurd (none b words command);
    sorted = k.sorted;
  }

  keeps_halted : (out : ℕ → List ℕ) (n : ℕ) → KeepsHalted parts now out out n
  keeps_halted out n = record {
    head = λ q is halted. let h = (same n).head q is in record { queue = record q { link = h.link }; here = h.here; rest = record { token = refl; current = refl; next = refl; alternate = refl } };
    published = λ a t among is. inl (among, (same n).elements_were a t is);
  }

  pub goes_on_still : (member streams : ℕ → Bool) (ends : ℕ → Told) (order : ℕ → ℕ → ℕ) (out : ℕ → List ℕ) → QueuesGoOn d member streams ends parts order out
      → QueuesGoOn d member streams ends now order out
  goes_on_still member streams ends order out k = record {
    queues = record {
      met = k.queues.met;
      streams_are = k.queues.streams_are;
      fed = fed_still k.queues.fed;
      last = last_still order k.queues.last;
      out_are = k.queues.out_are;
    };
    sound = λ e x here m. queue_part (32 * x.queue) (parts (32 * x.queue)) (now (32 * x.queue)) (same (32 * x.queue)) (k.sound e x here m);
    tails = λ e x here m. reaches_still d (parts (32 * x.queue)) (now (32 * x.queue)) (order (32 * x.queue)) (out (32 * x.queue)) e x _ (same (32 * x.queue)) (k.tails e x here m);
    controls = record {
      rises = λ e x here there. rises_still (32 * x.queue) (parts (32 * x.queue)) (now (32 * x.queue)) (same (32 * x.queue)) (order (32 * x.queue)) (k.controls.rises e x here there);
      sorted = k.controls.sorted;
      stops = λ e x here m. stops_still (32 * x.queue) (parts (32 * x.queue)) (now (32 * x.queue)) (same (32 * x.queue)) (order (32 * x.queue)) (out (32 * x.queue)) (k.controls.stops e x here m);
      mends = stand_on d d parts now out out refl (λ s owed. owed) (λ s owed. keeps_halted out (32 * s.queue)) k.controls.mends;
    };
  }

-- ---- a structure with another link

data Relinked : Structure → Structure → Type 0 where
  a_table : (ws vs : List ℕ) → Relinked (Table ws) (Table vs)
  a_head : (q : Qh) (l : LinkBits) → Relinked (QueueHead q) (QueueHead (record q { link = l }))
  an_itd : (v w : Itd) → Relinked (Isochronous v) (Isochronous w)
  a_sitd : (v w : Sitd) → Relinked (SplitIsochronous v) (SplitIsochronous w)

relinked_by : (s : Structure) (l : LinkBits) → HasLink s → Relinked s (linked l s)
relinked_by (QueueHead q) l has = a_head q l
relinked_by (Isochronous v) l has = an_itd v (record v { link = l })
relinked_by (SplitIsochronous v) l has = a_sitd v (record v { link = l })
relinked_by _ l has = absurd has

no_element : (s r : Structure) (t : Qtd) → Relinked s r → (s ≢ Element t) × (r ≢ Element t)
no_element _ _ t (a_table ws vs) = (λ is. cc, λ is. cc)
no_element _ _ t (a_head q l) = (λ is. cc, λ is. cc)
no_element _ _ t (an_itd v w) = (λ is. cc, λ is. cc)
no_element _ _ t (a_sitd v w) = (λ is. cc, λ is. cc)

no_buffer : (s r : Structure) (pages : List ℕ) (j : ℕ) (bs : List ℕ) → Relinked s r → (s ≢ Buffer pages j bs) × (r ≢ Buffer pages j bs)
no_buffer _ _ pages j bs (a_table ws vs) = (λ is. cc, λ is. cc)
no_buffer _ _ pages j bs (a_head q l) = (λ is. cc, λ is. cc)
no_buffer _ _ pages j bs (an_itd v w) = (λ is. cc, λ is. cc)
no_buffer _ _ pages j bs (a_sitd v w) = (λ is. cc, λ is. cc)

no_bytes : (s r : Structure) → Relinked s r → bytes_in (Some r) ≡ bytes_in (Some s)
no_bytes _ _ (a_table ws vs) = refl
no_bytes _ _ (a_head q l) = refl
no_bytes _ _ (an_itd v w) = refl
no_bytes _ _ (a_sitd v w) = refl

record IsHeadBy (s : Structure) (q : Qh) : Type 0 where
  link : LinkBits
  is : s ≡ QueueHead (record q { link = link })

head_then : (s r : Structure) (q : Qh) → Relinked s r → s ≡ QueueHead q → IsHeadBy r q
head_then _ _ q (a_table ws vs) same = absurd (cc)
head_then _ _ q (a_head z l) same = record { link = l; is = ap (λ (y : Qh). QueueHead (record y { link = l })) (same_queue z q same) }
head_then _ _ q (an_itd v w) same = absurd (cc)
head_then _ _ q (a_sitd v w) same = absurd (cc)

head_before : (s r : Structure) (q : Qh) → Relinked s r → r ≡ QueueHead q → IsHeadBy s q
head_before _ _ q (a_table ws vs) same = absurd (cc)
head_before _ _ q (a_head z l) same = record { link = z.link; is = ap (λ (y : Qh). QueueHead (record y { link = z.link })) (same_queue (record z { link = l }) q same) }
head_before _ _ q (an_itd v w) same = absurd (cc)
head_before _ _ q (a_sitd v w) same = absurd (cc)

module _ (parts : StructureSets) (m : ℕ) (s r : Structure) (here : parts m m ≡ Some s) (like : Relinked s r) where
  abbrev put_now : StructureSets
  put_now = put parts m m r

  record IsOwn (n a : ℕ) : Type 0 where
    was : parts n a ≡ Some s
    is : put_now n a ≡ Some r

  which : (n a : ℕ) → (put_now n a ≡ parts n a) ⊎ IsOwn n a
  which n a =
      ⊎_elim {C = (put_now n a ≡ parts n a) ⊎ IsOwn n a}
      (λ (owner : n ≡ m).
      ⊎_elim {C = (put_now n a ≡ parts n a) ⊎ IsOwn n a}
      (λ (name : a ≡ m).
      inr (record {
        was = ap (λ (i : ℕ). parts i a) owner ∙ ap (parts m) name ∙ here;
        is = ap (λ (i : ℕ). put_now i a) owner ∙ ap (put_now m) name ∙ put_same parts m m r;
      }))
      (λ (differs : a ≢ m). inl (ap (λ (i : ℕ). put_now i a) owner ∙ put_else parts m m r a differs ∙ ap (λ (i : ℕ). parts i a) (sym owner))) (cases_eq a m))
      (λ (differs : n ≢ m). inl (ap (λ (part : Structures). part a) (put_beside parts m m r n differs))) (cases_eq n m)

  put_is_same : (n : ℕ) → IsSameQueue n (parts n) (put_now n)
  put_is_same n = record {
    elements = λ a t is.
        ⊎_elim (λ (same : put_now n a ≡ parts n a). same ∙ is)
        (λ (own : IsOwn n a). absurd ((no_element s r t like).0 (same_Some s (Element t) (sym own.was ∙ is)))) (which n a);
    elements_were = λ a t is.
        ⊎_elim (λ (same : put_now n a ≡ parts n a). sym same ∙ is)
        (λ (own : IsOwn n a). absurd ((no_element s r t like).1 (same_Some r (Element t) (sym own.is ∙ is)))) (which n a);
    buffers = λ a pages j bs is.
        ⊎_elim (λ (same : put_now n a ≡ parts n a). same ∙ is)
        (λ (own : IsOwn n a). absurd ((no_buffer s r pages j bs like).0 (same_Some s (Buffer pages j bs) (sym own.was ∙ is)))) (which n a);
    buffers_were = λ a pages j bs is.
        ⊎_elim (λ (same : put_now n a ≡ parts n a). sym same ∙ is)
        (λ (own : IsOwn n a). absurd ((no_buffer s r pages j bs like).1 (same_Some r (Buffer pages j bs) (sym own.is ∙ is)))) (which n a);
    bytes = λ a.
        ⊎_elim (λ (same : put_now n a ≡ parts n a). ap bytes_in same)
        (λ (own : IsOwn n a). ap bytes_in own.is ∙ no_bytes s r like ∙ sym (ap bytes_in own.was)) (which n a);
    head = λ q is.
        ⊎_elim {C = IsRelinked (put_now n) n q} (λ (same : put_now n n ≡ parts n n). record { link = q.link; here = same ∙ is })
        (λ (own : IsOwn n n). let h = head_then s r q like (same_Some s (QueueHead q) (sym own.was ∙ is)) in record { link = h.link; here = own.is ∙ ap (λ (z : Structure). Some z) h.is }) (which n n);
    head_was = λ q is.
        ⊎_elim {C = IsRelinked (parts n) n q} (λ (same : put_now n n ≡ parts n n). record { link = q.link; here = sym same ∙ is })
        (λ (own : IsOwn n n). let h = head_before s r q like (same_Some r (QueueHead q) (sym own.is ∙ is)) in record { link = h.link; here = own.was ∙ ap (λ (z : Structure). Some z) h.is }) (which n n);
  }

-- the queue head at m has another link
pub relinked_same : (parts : StructureSets) (m : ℕ) (q : Qh) (l : LinkBits) → parts m m ≡ Some (QueueHead q) → (n : ℕ)
    → IsSameQueue n (parts n) (put parts m m (QueueHead (record q { link = l })) n)
relinked_same parts m q l here = put_is_same parts m (QueueHead q) (QueueHead (record q { link = l })) here (a_head q l)

-- ---- a store of the frame list

stored_same : (base : Base) (parts : StructureSets) (frame : FrameHand) (at v : ℕ) (now : StructureSets) (later : FrameHand) → IsStoredIn base parts frame at v now later → (n : ℕ)
    → IsSameQueue n (parts n) (now n)
stored_same base parts frame at v now later (an_element k list below place is later_is) n =
    let start : ℕ = base.periodic_list_base in
    subst (λ (z : StructureSets). IsSameQueue n (parts n) (z n)) (sym is)
    (put_is_same parts start (Table list.words) (Table (slice_set list.words k v)) list.here (a_table list.words (slice_set list.words k v)) n)
stored_same base parts frame at v now later (a_link s here has is later_is) n =
    let l : LinkBits = link_fields (link_read v) in
    subst (λ (z : StructureSets). IsSameQueue n (parts n) (z n)) (sym is) (put_is_same parts at s (linked l s) here (relinked_by s l has) n)

-- what stands in the queues differs at most in the link of a queue head
pub queues_stored : (base : Base) (descs parts : StructureSets) (frame : FrameHand) (at v : ℕ) (now : StructureSets) (later : FrameHand) → IsStoredIn base (both descs parts) frame at v now later
    → (n : ℕ) → IsSameQueue n (parts n) (parts_now descs parts now n)
queues_stored base descs parts frame at v now later stored n =
    beside descs parts now (λ (part then : Structures). IsSameQueue n part then) n (same_itself n (parts n)) (λ same. stored_same base (both descs parts) frame at v now later stored n)

pub goes_on_relinked : (base : Base) (descs parts : StructureSets) (frame : FrameHand) (at v : ℕ) (now : StructureSets) (later : FrameHand) (d : DriverContent) (member streams : ℕ → Bool)
    (ends : ℕ → Told) (order : ℕ → ℕ → ℕ) (out : ℕ → List ℕ) → IsStoredIn base (both descs parts) frame at v now later
    → ((b : ℕ) (words : List ℕ) → d.command ≢ Some (unfinished.Publish b words)) → QueuesGoOn d member streams ends parts order out
    → QueuesGoOn d member streams ends (parts_now descs parts now) order out
goes_on_relinked base descs parts frame at v now later d member streams ends order out stored none k =
    goes_on_still d parts (parts_now descs parts now) (queues_stored base descs parts frame at v now later stored) none member streams ends order out k
