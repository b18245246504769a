-- A transaction is written back: memory shows what the copy in hand showed.
use Rattle.std.proofs.Common.{◌≡◌, ◌≢◌, ℕ, Bool, true, false, if◌then◌else◌, List, [], ◌∷◌, Some, ap, refl, sym, subst, ◌∙◌, ⊎_elim}
use Rattle.std.proofs.lemmas.Bool.{cases_eq, false≢true}
use Rattle.usb_base.specs.declared.packets.Pid.TheVariants as pids
use Rattle.usb_base.specs.declared.packets.Reply.{Reply}
use Rattle.link_words.specs.Links.{qtd_link_of}
use Rattle.qh_qtd.specs.declared.qtd.Qtd.{Qtd}
use Rattle.qh_qtd.specs.declared.queue_head.Qh.{Qh}
use Rattle.law_structures.specs.lent_structures.Structures.{QueueHead, Element, Buffer, Structures, StructureSets}
use Rattle.hc_copy.specs.Overlay.{settled_queue, moved}
use Rattle.hc_copy.specs.Planning.{pid_at, host_in}
use Rattle.hc_copy.specs.WriteBack.{moved_by}
use Rattle.law_structures.specs.lent_structures.WriteBack.{Received, IsReceived, CanBeWritten, parts_back}
use Rattle.law_structures.proofs.lemmas.lent_structures.Found.{IsNotInto, back_element, back_head, back_other_element, back_other_buffer}
use Rattle.law_structures.specs.lent_structures.Sound.{element_pages, buffer_name, AreOwn}
use Rattle.law_structures.specs.lent_structures.Alters.{Alters}
use Rattle.law_structures.proofs.lemmas.lent_structures.Altering.{found_element}
use Rattle.law_ring.specs.Hand.{Copy, Settlement, settled_queue_of, Hand}
use Rattle.law_ring.specs.Ring.{IsCopied, IsSettled}
use Rattle.law_ring.specs.Effects.{buffer_of, received_into, WritesBack}
use Rattle.law_ring.proofs.Writing.{settled_copy, settled_range, is_written, queue_written}
use Rattle.claims_report.specs.Requests.{Request}
use Rattle.law_request.specs.Host.{Endpoint, Host, Stage, Setup, Data, Status, Done, Halted, data_token, token_at}
use Rattle.law_devices.specs.request_calls.Stages.{IsEndpoint}
use Rattle.law_devices.specs.ring_requests.Laid.{Places, place_at, IsPlace, AreApart, HasBytes, IsLinkBehind, IsFresh}
use Rattle.law_devices.specs.ring_requests.Shown.{pointer_at, IsPending, Works, Shows, IsAmong}
use Rattle.law_devices.specs.ring_requests.Shown.Shows.{works, waits, ends, halts}
use Rattle.law_devices.proofs.lemmas.ring_requests.Stages.{next_apart, pointer_same, link_still, stage_still, fresh_still}

-- ---- the queue head written

host_back : (c : Copy) (z : Settlement) → z.host.max ≡ c.queue.max → host_in (queue_written c z) ≡ z.host
unfolding moved settled_queue
host_back c z packets = ap (λ (m : ℕ). record z.host { max = m }) (sym packets)

pub endpoint_back : (e : Endpoint) (c : Copy) (z : Settlement) → IsEndpoint e c.queue → IsEndpoint e (queue_written c z)
unfolding moved settled_queue
endpoint_back e c z is = record { toggles = is.toggles; address = is.address; number = is.number; packets = is.packets }

active_back : (c : Copy) (z : Settlement) → (moved (settled_queue_of c z) (moved_by z.outcome)).token.active ≡ z.host.active
unfolding moved settled_queue
active_back c z = refl

halted_back : (c : Copy) (z : Settlement) → (moved (settled_queue_of c z) (moved_by z.outcome)).token.halted ≡ z.host.halted
unfolding moved settled_queue
halted_back c z = refl

not_into_none : (part : Structures) (q : Qh) (t : Qtd) (got : List ℕ) (b : ℕ) → got ≡ [] → IsNotInto (received_into part q t got) b
not_into_none part q t got b none = subst (λ (bs : List ℕ). IsNotInto (received_into part q t bs) b) (sym none) tt

-- another qTD has another buffer
not_into_other : (part : Structures) (q c : Qh) (t : Qtd) (got : List ℕ) (a e : ℕ) (u : Qtd) → AreOwn part → IsReceived part c got (received_into part q t got) → part a ≡ Some (Element t) → part e ≡ Some (Element u) → e ≢ a → IsNotInto (received_into part q t got) (buffer_name u)
not_into_other part q c t [] a e u own is current other differs = tt
not_into_other part q c t (b ∷ bs) a e u own is current other differs = λ same.
    differs (own e a u t (element_pages t) t.offset (buffer_of part t) other current same (ap part same ∙ is.buffer))

module _ (e : Endpoint) (r : Request) (x : Places) (apart : AreApart x) (member : ℕ → Bool) (parts : StructureSets) (hand : Hand) (now : StructureSets) (later : Hand) (k : WritesBack parts hand now later) (reply : Reply) (copied : IsCopied member parts k.copy) (settled : IsSettled k.copy.queue reply k.settled) (own : AreOwn (parts k.copy.at)) (alters : Alters (parts k.copy.at) (now k.copy.at)) (h : Host) where
  abbrev owner : ℕ
  owner = k.copy.at

  abbrev q : Qh
  q = k.copy.queue

  abbrev part : Structures
  part = parts k.copy.at

  abbrev later_part : Structures
  later_part = now k.copy.at

  abbrev new : Qh
  new = queue_written k.copy k.settled

  abbrev copy_queue : Qh
  copy_queue = settled_queue_of k.copy k.settled

  abbrev into : Received
  into = received_into (parts k.copy.at) k.copy.queue k.element k.settled.got

  can : CanBeWritten parts k.copy.at k.copy.at k.copy.queue (settled_queue_of k.copy k.settled) k.settled.got (received_into (parts k.copy.at) k.copy.queue k.element k.settled.got) k.element
  can = record {
    copy = record { head = copied.here; range = settled_range k.copy k.settled reply copied.range settled; front = (settled_copy k.copy k.settled).front };
    element = ap (parts k.copy.at) (settled_copy k.copy k.settled).current ∙ k.here;
    received = k.received_is;
  }

  pub head_now : now k.copy.at k.copy.at ≡ Some (QueueHead (queue_written k.copy k.settled))
  head_now = ap (λ (ps : StructureSets). ps owner owner) k.now_is ∙ back_head parts owner owner q copy_queue (moved_by k.settled.outcome) k.settled.got into k.element can

  pub host_now : host_in (queue_written k.copy k.settled) ≡ k.settled.host
  host_now = host_back k.copy k.settled settled.host.packets

  -- another qTD with its buffer
  other_there : (a : ℕ) (t : Qtd) → a ≢ q.current → part a ≡ Some (Element t) → later_part a ≡ Some (Element t)
  other_there a t differs there =
      ap (λ (ps : StructureSets). ps owner a) k.now_is
      ∙ back_other_element parts owner owner q copy_queue (moved_by k.settled.outcome) k.settled.got into k.element a t can there (λ is. differs (is ∙ (settled_copy k.copy k.settled).current))

  buffer_there : (b : ℕ) (pages : List ℕ) (i : ℕ) (bs : List ℕ) → IsNotInto into b → part b ≡ Some (Buffer pages i bs) → later_part b ≡ Some (Buffer pages i bs)
  buffer_there b pages i bs other there =
      ap (λ (ps : StructureSets). ps owner b) k.now_is
      ∙ back_other_buffer parts owner owner q copy_queue (moved_by k.settled.outcome) k.settled.got into k.element b pages i bs can there other

  bytes_there : (s : Stage) (t : Qtd) → IsNotInto into (buffer_name t) → HasBytes r part s t → HasBytes r later_part s t
  bytes_there Setup t other has = buffer_there (buffer_name t) (element_pages t) t.offset r.setup other has
  bytes_there Data t other has = λ off. buffer_there (buffer_name t) (element_pages t) t.offset r.bytes other (has off)
  bytes_there _ t other has = tt

  pub fresh_there : (s : Stage) → place_at x s ≢ q.current → IsFresh e r x part s → IsFresh e r x later_part s
  fresh_there s differs f =
      fresh_still e r x part later_part s f alters (other_there (place_at x s) f.stage.qtd differs f.stage.here)
      (bytes_there s f.stage.qtd (not_into_other part q copy_queue k.element k.settled.got q.current (place_at x s) f.stage.qtd own k.received_is k.here f.stage.here differs))

  -- the qTD that goes on
  current_there : k.settled.host.active ≡ true → later_part q.current ≡ Some (Element k.element)
  current_there on =
      ap (λ (ps : StructureSets). ps owner q.current) k.now_is
      ∙ ap (parts_back parts owner owner q copy_queue (moved_by k.settled.outcome) k.settled.got into k.element owner) (sym (settled_copy k.copy k.settled).current)
      ∙ back_element parts owner owner q copy_queue (moved_by k.settled.outcome) k.settled.got into k.element
      ∙ ap (λ (b : Bool). Some (Element (if b then k.element else record k.element { token = (moved copy_queue (moved_by k.settled.outcome)).token }))) (active_back k.copy k.settled ∙ on)

  none_got : pid_at q.token.pid ≢ pids.In → k.settled.got ≡ []
  none_got other = settled.bytes.none other

  current_bytes : (s : Stage) (t : Qtd) → pid_at q.token.pid ≡ token_at r s → HasBytes r part s t → HasBytes r later_part s t
  current_bytes Setup t pid has =
      buffer_there (buffer_name t) (element_pages t) t.offset r.setup (not_into_none part q k.element k.settled.got (buffer_name t) (none_got (λ is. by (sym pid ∙ is)))) has
    where
      by : pids.Setup ≡ pids.In → ⊥
      by e = cc
  current_bytes Data t pid has = λ off.
      buffer_there (buffer_name t) (element_pages t) t.offset r.bytes (not_into_none part q k.element k.settled.got (buffer_name t) (none_got (λ is. by (sym (ap data_token off) ∙ sym pid ∙ is)))) (has off)
    where
      by : pids.Out ≡ pids.In → ⊥
      by e = cc
  current_bytes Status t pid has = tt
  current_bytes Done t pid has = tt
  current_bytes (Halted cause) t pid has = tt

  back_works : Works e r x part k.settled.host q h → Shows e r x later_part k.settled.host new h
  back_works w =
      let v = is_written k.copy k.settled in
      let t = w.stage.qtd in
      let element : k.element ≡ t = found_element (part q.current) k.element t k.here (ap part w.current ∙ w.stage.here) in
      let there : later_part (place_at x h.stage) ≡ Some (Element t) = ap later_part (sym w.current) ∙ current_there w.active ∙ ap (λ (u : Qtd). Some (Element u)) element in
      let pid : pid_at q.token.pid ≡ token_at r h.stage = ap pid_at w.pid ∙ w.stage.pid in
      works (record {
        goes_on = w.goes_on;
        active = w.active;
        side_is = w.side_is;
        current = v.current ∙ w.current;
        stage = record { qtd = t; here = there; pid = w.stage.pid; leads = (stage_still e r x part later_part h.stage w.stage alters there (current_bytes h.stage t pid)).leads; bytes = current_bytes h.stage t pid w.stage.bytes };
        pid = v.pid ∙ w.pid;
        next = v.next ∙ w.next;
        alternate = v.alternate ∙ w.alternate;
        later = λ s on. fresh_there s (λ is. next_apart r x apart h.stage s w.goes_on on (is ∙ w.current)) (w.later s on);
      })

  -- where the transaction halted the endpoint, the qTD that it worked on is halted
  ended_there : k.settled.host.active ≡ false → later_part q.current ≡ Some (Element (record k.element { token = (moved copy_queue (moved_by k.settled.outcome)).token }))
  ended_there off =
      ap (λ (ps : StructureSets). ps owner q.current) k.now_is
      ∙ ap (parts_back parts owner owner q copy_queue (moved_by k.settled.outcome) k.settled.got into k.element owner) (sym (settled_copy k.copy k.settled).current)
      ∙ back_element parts owner owner q copy_queue (moved_by k.settled.outcome) k.settled.got into k.element
      ∙ ap (λ (b : Bool). Some (Element (if b then k.element else record k.element { token = (moved copy_queue (moved_by k.settled.outcome)).token }))) (active_back k.copy k.settled ∙ off)

  status_halted : k.settled.host.active ≡ false → k.settled.host.halted ≡ true → IsPending part x.status → (t : Qtd) → later_part x.status ≡ Some (Element t) → t.token.active ≡ false → t.token.halted ≡ true
  status_halted off halted pending t here ended =
      ⊎_elim {C = t.token.halted ≡ true}
      (λ (same : x.status ≡ q.current).
      ap (λ (u : Qtd). u.token.halted) (found_element (later_part x.status) t (record k.element { token = (moved copy_queue (moved_by k.settled.outcome)).token }) here (ap later_part same ∙ ended_there off))
      ∙ halted_back k.copy k.settled
      ∙ halted)
      (λ (differs : x.status ≢ q.current).
      absurd (false≢true (sym ended ∙ ap (λ (u : Qtd). u.token.active) (found_element (later_part x.status) t pending.qtd here (other_there x.status pending.qtd differs pending.here)) ∙ pending.published))) (cases_eq x.status q.current)

  pub back_shows : Shows e r x part k.settled.host q h → Shows e r x later_part k.settled.host new h
  back_shows (works w) = back_works w
  back_shows (waits w) =
      let v = is_written k.copy k.settled in
      waits (record {
        goes_on = w.goes_on;
        idle = w.idle;
        side_is = w.side_is;
        leads = ap qtd_link_of (pointer_same k.settled.host.left q new v.next v.alternate) ∙ w.leads;
        fresh = λ s on. fresh_there s (w.beside settled.works s on) (w.fresh s on);
        beside = λ on s is. absurd (false≢true (sym w.idle ∙ sym v.active ∙ on));
      })
  back_shows (ends w) =
      let v = is_written k.copy k.settled in
      ends (record {
        done = w.done;
        idle = w.idle;
        ping = w.ping;
        behind = subst (IsLinkBehind later_part x.behind) (sym (pointer_same k.settled.host.left q new v.next v.alternate)) (link_still part later_part x.behind (pointer_at k.settled.host.left q) alters w.behind);
        worked = λ on. absurd (false≢true (sym w.idle ∙ sym v.active ∙ on));
      })
  back_shows (halts w) =
      let v = is_written k.copy k.settled in
      halts (record {
        cause = w.cause;
        ended = w.ended;
        idle = w.idle;
        halted = w.halted;
        pending = λ on. absurd (false≢true (sym w.idle ∙ sym v.active ∙ on));
        status = status_halted w.idle w.halted (w.pending settled.works);
      })

  pub among_back : IsAmong x q → IsAmong x new
  among_back among on = let place : IsPlace x q.current = among settled.works in record { stage = place.stage; is = (is_written k.copy k.settled).current ∙ place.is }
