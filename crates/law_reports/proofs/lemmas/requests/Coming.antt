-- A request that is being published, until it is.
use Rattle.std.proofs.Common.{◌≡◌, ◌≢◌, ℕ, Bool, true, false, if◌then◌else◌, List, [], ◌∷◌, Option, Some, ap, refl, sym, subst, ◌∙◌, ⊎_elim, inl, inr}
use Rattle.std.specs.Prelude.{◌⊎◌}
use Rattle.std.proofs.lemmas.Bool.{cases_eq, false≢true}
use Rattle.std.proofs.lemmas.Option.{same_Some}
use Rattle.law_devices.proofs.Common.{status_comes}
use Rattle.law_queues.proofs.Common.{unnamed_still}
use Rattle.usb_base.specs.declared.endpoints.EndCause.{EndCause}
use Rattle.usb_base.specs.declared.packets.Ask.{Ask}
use Rattle.usb_base.specs.declared.packets.Reply.{Reply}
use Rattle.link_words.specs.declared.fields.ShortLink.{ShortLink}
use Rattle.qh_qtd.specs.declared.qtd.Qtd.{Qtd}
use Rattle.qh_qtd.specs.declared.queue_head.Qh.{Qh}
use Rattle.hc_copy.specs.Overlay.{advanced}
use Rattle.hc_copy.specs.WriteBack.{moved_by}
use Rattle.async_walk.specs.declared.state.WalkStep.{WalkStep}
use Rattle.hc_core.specs.Controller.{Content, walk_place}
use Rattle.law_structures.specs.lent_structures.Structures.{QueueHead, Element, Buffer, Structures, StructureSets, put, with_structure}
use Rattle.law_structures.specs.lent_structures.WriteBack.{CanBeWritten}
use Rattle.law_structures.specs.lent_structures.Sound.{element_pages, buffer_name, HasBuffer, IsWorking, IsSoundQueue, IsMember}
use Rattle.law_structures.specs.lent_structures.Alters.{Alters}
use Rattle.law_structures.proofs.lemmas.lent_structures.Names.{put_same, put_else, put_here, put_beside}
use Rattle.law_structures.proofs.lemmas.lent_structures.Altering.{found_queue, found_element, no_two}
use Rattle.law_structures.proofs.lemmas.lent_structures.Found.{IsNotInto, back_beside, back_other_element, back_other_buffer}
use Rattle.claims_report.specs.Requests.{Request}
use Rattle.law_request.specs.Host.{Endpoint, Stage, Setup, Data, Status, Done, Halted, has_data, next_stage}
use Rattle.claims_report.specs.ControlSides.{Device}
use Rattle.law_devices.specs.request_calls.Bus.{IsControlBus, KeepsDevices}
use Rattle.law_ring.specs.Hand.{settled_queue_of, Hand}
use Rattle.claims_base.specs.Controller.{Base}
use Rattle.law_ring.specs.Ring.{IsCopied, IsSettled, IsInHand, IsRing}
use Rattle.law_ring.specs.Effects.{received_into, WritesBack, Effect}
use Rattle.law_ring.specs.Effects.Effect.{reads, passes, ends, takes, makes, writes_back}
use Rattle.law_ring.specs.Stores.{IsUnnamed}
use Rattle.law_ring.proofs.Altered.{effect_alters}
use Rattle.law_ring.proofs.Writing.{settled_copy, settled_range}
use Rattle.law_controller.specs.controlled_streams.Control.{IsControlled, ControlEffect, a_microframe, a_step}
use Rattle.law_devices.specs.ring_requests.Laid.{Places, place_at, IsPlace, AreApart, comes, IsLinkBehind, LeadBehind, Leads, HasBytes, IsBuffer, IsIdle, IsFresh}
use Rattle.law_devices.specs.ring_requests.Shown.{AreFresh}
use Rattle.law_devices.specs.ring_requests.Windows.{Queue, Lines}
use Rattle.law_devices.specs.ring_requests.Resting.{IsAlone}
use Rattle.law_devices.proofs.lemmas.ring_requests.Stages.{comes_later, idle_still}
use Rattle.law_devices.proofs.lemmas.ring_requests.Taking.{element_there, buffer_there}
use Rattle.law_devices.proofs.lemmas.control_requests.Resting.{an_event_leaves_a_queue_at_rest}
use Rattle.law_reports.specs.requests.Courses.{Course, NoQueue, Asks, Rests, has_queue, queue_in, tail_in, AreInLine, IsCourse, IsAsking, IsResting, CoursesStand}
use Rattle.law_reports.specs.requests.QueueChanges.{IsPublishedAt}
use Rattle.law_reports.specs.requests.Coming.{IsSetup, IsComing, LentIsComing, StoreKeepsComing, EventKeepsComing, ComingIsPublished}
use Rattle.law_reports.proofs.lemmas.requests.Courses.{queue_alone}
use Rattle.law_reports.proofs.lemmas.requests.Writing.{tail_of}

-- ---- its stages

later_by : (r : Request) (b : Bool) (s : Stage) → has_data r ≡ b → comes r (if b then Data else Status) s ≡ true → ((s ≡ Data) × (has_data r ≡ true)) ⊎ (s ≡ Status)
later_by r true Setup is on = absurd (false≢true on)
later_by r true Data is on = inl (refl, is)
later_by r true Status is on = inr refl
later_by r true Done is on = absurd (false≢true on)
later_by r true (Halted cause) is on = absurd (false≢true on)
later_by r false Setup is on = absurd (false≢true on)
later_by r false Data is on = absurd (false≢true on)
later_by r false Status is on = inr refl
later_by r false Done is on = absurd (false≢true on)
later_by r false (Halted cause) is on = absurd (false≢true on)

-- its data, if it has any, or its status
which : (r : Request) (s : Stage) → comes r (next_stage r Setup) s ≡ true → ((s ≡ Data) × (has_data r ≡ true)) ⊎ (s ≡ Status)
which r s on = later_by r (has_data r) s refl on

comes_data : (r : Request) (b : Bool) → has_data r ≡ b → b ≡ true → comes r (if b then Data else Status) Data ≡ true
comes_data r true is on = refl
comes_data r false is on = absurd (false≢true on)

setup_data : Setup ≡ Data → ⊥
setup_data same = cc

setup_status : Setup ≡ Status → ⊥
setup_status same = cc

data_status : Data ≡ Status → ⊥
data_status same = cc

done_data : Done ≡ Data → ⊥
done_data same = cc

done_status : Done ≡ Status → ⊥
done_status same = cc

halted_data : (cause : EndCause) → Halted cause ≡ Data → ⊥
halted_data cause same = cc

halted_status : (cause : EndCause) → Halted cause ≡ Status → ⊥
halted_status cause same = cc

-- ---- a qTD and its buffer elsewhere

module _ (e : Endpoint) (r : Request) (x : Places) (d : ℕ) (behind : x.behind ≡ Some d) (part now : Structures) where
  link_moved : (link : ShortLink) → IsLinkBehind part x.behind link → IsLinkBehind now x.behind link
  link_moved link leads = subst (λ (o : Option ℕ). IsLinkBehind now o link) (sym behind) (subst (λ (o : Option ℕ). IsLinkBehind part o link) behind leads)

  behind_moved : (t : Qtd) → LeadBehind part x.behind t → LeadBehind now x.behind t
  behind_moved t k = record {
    next = link_moved t.next k.next;
    alternate = ⊎_elim {C = (t.alternate.t ≡ true) ⊎ IsLinkBehind now x.behind t.alternate} (λ (none : t.alternate.t ≡ true). inl none)
        (λ (leads : IsLinkBehind part x.behind t.alternate). inr (link_moved t.alternate leads)) k.alternate;
  }

  leads_moved : (s : Stage) (t : Qtd) → Leads r x part s t → Leads r x now s t
  leads_moved Setup t leads = leads
  leads_moved Data t leads = leads
  leads_moved _ t leads = behind_moved t leads

  bytes_moved : (s : Stage) (t : Qtd) → ((pages : List ℕ) (j : ℕ) (bs : List ℕ) → part (buffer_name t) ≡ Some (Buffer pages j bs) → now (buffer_name t) ≡ Some (Buffer pages j bs)) → HasBytes r part s t → HasBytes r now s t
  bytes_moved Setup t buffer has = buffer (element_pages t) t.offset r.setup has
  bytes_moved Data t buffer has = λ off. buffer (element_pages t) t.offset r.bytes (has off)
  bytes_moved _ t buffer has = tt

  fresh_moved : (s : Stage) (f : IsFresh e r x part s) → now (place_at x s) ≡ Some (Element f.stage.qtd)
      → ((s ≡ Status → ⊥) → (pages : List ℕ) (j : ℕ) (bs : List ℕ) → part (buffer_name f.stage.qtd) ≡ Some (Buffer pages j bs) → now (buffer_name f.stage.qtd) ≡ Some (Buffer pages j bs)) → IsFresh e r x now s
  fresh_moved s f here buffer = record {
    stage = record { qtd = f.stage.qtd; here = here; pid = f.stage.pid; leads = leads_moved s f.stage.qtd f.stage.leads; bytes = by s buffer f.stage.bytes };
    begins = f.begins;
  }
    where
      by : (s : Stage) → ((s ≡ Status → ⊥) → (pages : List ℕ) (j : ℕ) (bs : List ℕ) → part (buffer_name f.stage.qtd) ≡ Some (Buffer pages j bs) → now (buffer_name f.stage.qtd) ≡ Some (Buffer pages j bs))
          → HasBytes r part s f.stage.qtd → HasBytes r now s f.stage.qtd
      by Setup buffer has = bytes_moved Setup f.stage.qtd (buffer setup_status) has
      by Data buffer has = bytes_moved Data f.stage.qtd (buffer data_status) has
      by _ buffer has = tt

-- ---- what is kept

-- the qTDs of its data and its status, and the buffer of its data
module _ (e : Endpoint) (r : Request) (x : Places) (d : ℕ) (behind : x.behind ≡ Some d) (part now : Structures) (fresh : AreFresh e r x part (next_stage r Setup))
    (elements : (a : ℕ) (t : Qtd) → (a ≡ x.data_at) ⊎ (a ≡ x.status) → part a ≡ Some (Element t) → now a ≡ Some (Element t))
    (buffers : (t : Qtd) (pages : List ℕ) (j : ℕ) (bs : List ℕ) → part x.data_at ≡ Some (Element t) → part (buffer_name t) ≡ Some (Buffer pages j bs) → now (buffer_name t) ≡ Some (Buffer pages j bs)) where
  later_kept : AreFresh e r x now (next_stage r Setup)
  later_kept stage on = by stage (which r stage on) (fresh stage on)
    where
      by : (z : Stage) → ((z ≡ Data) × (has_data r ≡ true)) ⊎ (z ≡ Status) → IsFresh e r x part z → IsFresh e r x now z
      by Data at f = fresh_moved e r x d behind part now Data f (elements x.data_at f.stage.qtd (inl refl) f.stage.here) (λ other pages j bs. buffers f.stage.qtd pages j bs f.stage.here)
      by Status at f = fresh_moved e r x d behind part now Status f (elements x.status f.stage.qtd (inr refl) f.stage.here) (λ other. absurd (other refl))
      by Setup at f = absurd (⊎_elim {C = ⊥} (λ (same : (Setup ≡ Data) × (has_data r ≡ true)). setup_data same.0) (λ (same : Setup ≡ Status). setup_status same) at)
      by Done at f = absurd (⊎_elim {C = ⊥} (λ (same : (Done ≡ Data) × (has_data r ≡ true)). done_data same.0) (λ (same : Done ≡ Status). done_status same) at)
      by (Halted cause) at f = absurd (⊎_elim {C = ⊥} (λ (same : (Halted cause ≡ Data) × (has_data r ≡ true)). halted_data cause same.0) (λ (same : Halted cause ≡ Status). halted_status cause same) at)

  buffer_kept : (has_data r ≡ true → (t : Qtd) → part x.data_at ≡ Some (Element t) → HasBuffer part t t.token.total) → has_data r ≡ true → (t : Qtd) → now x.data_at ≡ Some (Element t) → HasBuffer now t t.token.total
  buffer_kept buffer some t here =
      let f : IsFresh e r x part Data = fresh Data (comes_data r (has_data r) refl some) in
      let same : t ≡ f.stage.qtd = found_element (now x.data_at) t f.stage.qtd here (elements x.data_at f.stage.qtd (inl refl) f.stage.here) in
      let z : HasBuffer part f.stage.qtd f.stage.qtd.token.total = buffer some f.stage.qtd f.stage.here in
      subst (λ (u : Qtd). HasBuffer now u u.token.total) (sym same) (record { bytes = z.bytes; here = buffers f.stage.qtd (element_pages f.stage.qtd) f.stage.qtd.offset z.bytes f.stage.here z.here; size = z.size })

module _ (v : Queue) (r : Request) (x : Places) (b d : ℕ) (s : Qtd) (part now : Structures) (k : IsComing v r x b d s part)
    (elements : (a : ℕ) (t : Qtd) → (a ≡ x.data_at) ⊎ (a ≡ x.status) → part a ≡ Some (Element t) → now a ≡ Some (Element t))
    (buffers : (t : Qtd) (pages : List ℕ) (j : ℕ) (bs : List ℕ) → part x.data_at ≡ Some (Element t) → part (buffer_name t) ≡ Some (Buffer pages j bs) → now (buffer_name t) ≡ Some (Buffer pages j bs)) where
  kept : IsBuffer now s r.setup → IsUnnamed now b s → IsIdle now d → IsComing v r x b d s now
  kept bytes unnamed tail = record {
    request = k.request;
    setup = k.setup;
    behind = k.behind;
    apart = k.apart;
    others = k.others;
    beside = k.beside;
    first = k.first;
    later = later_kept v.endpoint r x d k.behind part now k.later elements buffers;
    buffer = buffer_kept v.endpoint r x d k.behind part now k.later elements buffers k.buffer;
    bytes = bytes;
    unnamed = unnamed;
    tail = tail;
  }

-- neither stands where its SETUP does
not_setup : (x : Places) (b a : ℕ) → x.setup ≡ b → AreApart x → (a ≡ x.data_at) ⊎ (a ≡ x.status) → a ≢ b
not_setup x b a setup apart at same =
    ⊎_elim {C = ⊥} (λ (is : a ≡ x.data_at). apart.setup_data (setup ∙ sym same ∙ is)) (λ (is : a ≡ x.status). apart.setup_status (setup ∙ sym same ∙ is)) at

-- ---- it is lent

pub lent_is_coming : LentIsComing
lent_is_coming v r x b d s part now k =
    let f : IsFresh v.endpoint r x part Setup = k.fresh Setup refl in
    let same : f.stage.qtd ≡ s = found_element (part b) f.stage.qtd s (ap part (sym k.setup) ∙ f.stage.here) k.here in
    record {
      request = k.request;
      setup = k.setup;
      behind = k.behind;
      apart = k.apart;
      others = k.others;
      beside = k.beside;
      first = subst (IsSetup v.endpoint r x) same (record { pid = f.stage.pid; leads = f.stage.leads; begins = f.begins });
      later = later_kept v.endpoint r x d k.behind part now (λ z on. k.fresh z (comes_later r Setup z refl on)) (λ a t at here. sym (k.same a (not_setup x b a k.setup k.apart at)) ∙ here)
          (λ t pages j bs here there. sym (k.same (buffer_name t) (no_two part (buffer_name t) b (Buffer pages j bs) (Element s) there k.here (λ z. cc))) ∙ there);
      buffer = k.buffer;
      bytes = subst (λ (t : Qtd). IsBuffer now t r.setup) same
          (sym (k.same (buffer_name f.stage.qtd) (no_two part (buffer_name f.stage.qtd) b (Buffer (element_pages f.stage.qtd) f.stage.qtd.offset r.setup) (Element s) f.stage.bytes k.here (λ z. cc))) ∙ f.stage.bytes);
      unnamed = k.unnamed;
      tail = k.tail;
    }

-- ---- a store over the qTD at the end

module _ (v : Queue) (r : Request) (x : Places) (b d n : ℕ) (s old new : Qtd) (parts : StructureSets) (here : parts n b ≡ Some (Element old)) (k : IsComing v r x b d s (parts n)) where
  abbrev stored : Structures
  stored = put parts n b (Element new) n

  else_there : (a : ℕ) → a ≢ b → put parts n b (Element new) n a ≡ parts n a
  else_there a differs = put_else parts n b (Element new) a differs

  elements_there : (a : ℕ) (t : Qtd) → (a ≡ x.data_at) ⊎ (a ≡ x.status) → parts n a ≡ Some (Element t) → put parts n b (Element new) n a ≡ Some (Element t)
  elements_there a t at there = else_there a (not_setup x b a k.setup k.apart at) ∙ there

  buffer_stays : (a : ℕ) (pages : List ℕ) (j : ℕ) (bs : List ℕ) → parts n a ≡ Some (Buffer pages j bs) → put parts n b (Element new) n a ≡ Some (Buffer pages j bs)
  buffer_stays a pages j bs there = else_there a (no_two (parts n) a b (Buffer pages j bs) (Element old) there here (λ z. cc)) ∙ there

  unnamed_there : IsUnnamed (put parts n b (Element new) n) b s
  unnamed_there c u differs at same buf =
      k.unnamed c u differs (sym (else_there c differs) ∙ at) same
      (record {
        pages = buf.pages;
        start = buf.start;
        bytes = buf.bytes;
        here = sym (else_there (buffer_name s) (no_two stored (buffer_name s) b (Buffer buf.pages buf.start buf.bytes) (Element new) buf.here (put_same parts n b (Element new)) (λ z. cc))) ∙ buf.here;
      })

  store_kept : IsComing v r x b d s (put parts n b (Element new) n)
  store_kept =
      kept v r x b d s (parts n) stored k elements_there (λ t pages j bs at there. buffer_stays (buffer_name t) pages j bs there) (buffer_stays (buffer_name s) (element_pages s) s.offset r.setup k.bytes) unnamed_there
      (record { qtd = k.tail.qtd; here = else_there d k.beside ∙ k.tail.here; idle = k.tail.idle })

pub store_keeps_coming : StoreKeepsComing
store_keeps_coming v r x b d n s old new parts here k = store_kept v r x b d n s old new parts here k

-- ---- the last store

module _ (v : Queue) (r : Request) (x : Places) (b d n : ℕ) (s : Qtd) (parts : StructureSets) (line : AreInLine v b) (idle : IsIdle (parts n) b) (k : IsComing v r x b d s (parts n)) where
  abbrev published : Structures
  published = put parts n b (Element s) n

  after : IsComing v r x b d s (put parts n b (Element s) n)
  after = store_kept v r x b d n s idle.qtd s parts idle.here k

  fresh_all : AreFresh v.endpoint r x (put parts n b (Element s) n) Setup
  fresh_all Setup on = record {
    stage = record { qtd = s; here = ap published k.setup ∙ put_same parts n b (Element s); pid = k.first.pid; leads = k.first.leads; bytes = after.bytes };
    begins = k.first.begins;
  }
  fresh_all Data on = after.later Data (comes_data r (has_data r) refl on)
  fresh_all Status on = after.later Status (status_comes r (has_data r))
  fresh_all _ on = absurd (false≢true on)

  coming_published : IsPublishedAt v r x b d parts n s
  coming_published = record {
    setup = k.setup;
    behind = k.behind;
    next = record {
      request = k.request;
      apart = k.apart;
      others = k.others;
      behind = λ i last. line.last i last ∙ ap (λ (a : ℕ). Some a) (sym k.setup);
      fresh = fresh_all;
      buffer = after.buffer;
      tail = λ a is. subst (IsIdle published) (same_Some d a (sym k.behind ∙ is)) after.tail;
    };
  }

pub coming_is_published : ComingIsPublished
coming_is_published v r x b d n s parts line idle k = coming_published v r x b d n s parts line idle k

-- ---- an event of the walk

not_into : (part : Structures) (q : Qh) (t : Qtd) (got : List ℕ) (a : ℕ) → a ≢ buffer_name t → IsNotInto (received_into part q t got) a
not_into part q t [] a differs = tt
not_into part q t (g ∷ got) a differs = differs

module _ {W : Type 0} (transacts : W → Ask → List ℕ → Reply → W → Type 0) (member : ℕ → Bool) (parts : StructureSets) (hand : Hand) (reply : Reply) (wire after : W) (now : StructureSets) (later : Hand) (members : (n : ℕ) → member n ≡ true → IsMember member n (parts n)) (in_hand : IsInHand member parts reply hand)
    (v : Queue) (r : Request) (x : Places) (b d n : ℕ) (s : Qtd) (l : Lines) (o : Option Device) (met : member n ≡ true) (asking : IsAsking v b l hand parts n o) (tail : IsIdle (parts n) b) (k : IsComing v r x b d s (parts n)) where
  same_coming : now n ≡ parts n → IsComing v r x b d s (now n)
  same_coming same = subst (IsComing v r x b d s) (sym same) k

  all_same : now ≡ parts → IsComing v r x b d s (now n)
  all_same same = same_coming (ap (λ (ps : StructureSets). ps n) same)

  -- where the queue head alone changes
  taken_coming : (old new : Qh) → parts n n ≡ Some (QueueHead old) → now n ≡ with_structure (parts n) n (QueueHead new) → Alters (parts n) (now n) → IsComing v r x b d s (now n)
  taken_coming old new head is alters =
      let part : Structures = with_structure (parts n) n (QueueHead new) in
      let altered : Alters (parts n) part = subst (Alters (parts n)) is alters in
      subst (IsComing v r x b d s) (sym is)
      (kept v r x b d s (parts n) part k (λ a t at there. element_there (parts n) n old new head a t there) (λ t pages j bs at there. buffer_there (parts n) n old new head (buffer_name t) pages j bs there)
      (buffer_there (parts n) n old new head (buffer_name s) (element_pages s) s.offset r.setup k.bytes) (unnamed_still (parts n) part b s altered k.unnamed) (idle_still (parts n) part d altered k.tail))

  -- where a transaction is written back
  module _ (z : WritesBack parts hand now later) (copied : IsCopied member parts z.copy) (settled : IsSettled z.copy.queue reply z.settled) (at : n ≡ z.copy.at) (alters : Alters (parts n) (now n)) where
    abbrev current : ℕ
    current = z.copy.queue.current

    here : parts n n ≡ Some (QueueHead z.copy.queue)
    here = ap (λ (i : ℕ). parts i i) at ∙ copied.here

    element_here : parts n z.copy.queue.current ≡ Some (Element z.element)
    element_here = ap (λ (i : ℕ). parts i current) at ∙ z.here

    member_here : IsMember member n (parts n)
    member_here = members n met

    working : IsWorking (parts n) z.copy.queue
    working = (subst (IsSoundQueue (parts n)) (found_queue (parts n n) member_here.queue z.copy.queue member_here.here here) member_here.sound).work settled.works

    not_tail : z.copy.queue.current ≢ b
    not_tail same =
        false≢true (sym tail.idle ∙ ap (λ (t : Qtd). t.token.active) (found_element (parts n b) tail.qtd working.element tail.here (ap (parts n) (sym same) ∙ working.here)) ∙ working.published)

    place : IsPlace (v.places l.under) z.copy.queue.current
    place =
        let same : asking.queue.window.queue ≡ z.copy.queue = found_queue (parts n n) asking.queue.window.queue z.copy.queue asking.queue.window.head here in
        subst (λ (q : Qh). IsPlace (v.places l.under) q.current) same (asking.queue.window.among (ap (λ (q : Qh). q.token.active) same ∙ settled.works))

    other_place : (a : ℕ) → (a ≡ x.data_at) ⊎ (a ≡ x.status) → a ≢ z.copy.queue.current
    other_place a which same =
        ⊎_elim {C = ⊥} (λ (is : a ≡ x.data_at). k.others l.under asking.queue.within place.stage Data (sym place.is ∙ sym same ∙ is))
        (λ (is : a ≡ x.status). k.others l.under asking.queue.within place.stage Status (sym place.is ∙ sym same ∙ is)) which

    can : CanBeWritten parts z.copy.at z.copy.at z.copy.queue (settled_queue_of z.copy z.settled) z.settled.got (received_into (parts z.copy.at) z.copy.queue z.element z.settled.got) z.element
    can = record {
      copy = record { head = copied.here; range = settled_range z.copy z.settled reply copied.range settled; front = (settled_copy z.copy z.settled).front };
      element = ap (parts z.copy.at) (settled_copy z.copy z.settled).current ∙ z.here;
      received = z.received_is;
    }

    elements_stay : (a : ℕ) (t : Qtd) → (a ≡ x.data_at) ⊎ (a ≡ x.status) → parts n a ≡ Some (Element t) → now n a ≡ Some (Element t)
    elements_stay a t which there =
        ap (λ (i : ℕ). now i a) at ∙ ap (λ (ps : StructureSets). ps z.copy.at a) z.now_is
        ∙ back_other_element parts z.copy.at z.copy.at z.copy.queue (settled_queue_of z.copy z.settled) (moved_by z.settled.outcome) z.settled.got (received_into (parts z.copy.at) z.copy.queue z.element z.settled.got) z.element a t can
        (ap (λ (i : ℕ). parts i a) (sym at) ∙ there) (λ same. other_place a which (same ∙ (settled_copy z.copy z.settled).current))

    other_buffer : (a : ℕ) (pages : List ℕ) (j : ℕ) (bs : List ℕ) → a ≢ buffer_name z.element → parts n a ≡ Some (Buffer pages j bs) → now n a ≡ Some (Buffer pages j bs)
    other_buffer a pages j bs differs there =
        ap (λ (i : ℕ). now i a) at ∙ ap (λ (ps : StructureSets). ps z.copy.at a) z.now_is
        ∙ back_other_buffer parts z.copy.at z.copy.at z.copy.queue (settled_queue_of z.copy z.settled) (moved_by z.settled.outcome) z.settled.got (received_into (parts z.copy.at) z.copy.queue z.element z.settled.got) z.element a pages j bs can
        (ap (λ (i : ℕ). parts i a) (sym at) ∙ there) (not_into (parts z.copy.at) z.copy.queue z.element z.settled.got a differs)

    written_coming : IsComing v r x b d s (now n)
    written_coming =
        kept v r x b d s (parts n) (now n) k elements_stay
        (λ t pages j bs there has. other_buffer (buffer_name t) pages j bs (λ same. other_place x.data_at (inl refl) (member_here.own x.data_at current t z.element pages j bs there element_here same has)) has)
        (other_buffer (buffer_name s) (element_pages s) s.offset r.setup
        (λ same. k.unnamed current z.element not_tail element_here (sym same) (record { pages = element_pages s; start = s.offset; bytes = r.setup; here = k.bytes })) k.bytes)
        (unnamed_still (parts n) (now n) b s alters k.unnamed) (idle_still (parts n) (now n) d alters k.tail)

  walk_coming : (kind : WalkStep) (effect : Effect transacts parts hand wire after now later kind) → IsComing v r x b d s (now n)
  walk_coming kind (reads z same quiet) = all_same same
  walk_coming kind (passes z same quiet) = all_same same
  walk_coming kind (ends z same quiet) = all_same same
  walk_coming kind (makes m same) = all_same same
  walk_coming kind (takes z quiet) =
      let copied : IsCopied member parts z.copy = subst (IsInHand member parts reply) z.in_hand in_hand in
      ⊎_elim {C = IsComing v r x b d s (now n)}
      (λ (at : n ≡ z.copy.at).
      taken_coming z.copy.queue (advanced z.copy.queue z.element z.qtd) (ap (λ (i : ℕ). parts i i) at ∙ copied.here)
      (subst (λ (i : ℕ). now i ≡ with_structure (parts i) i (QueueHead (advanced z.copy.queue z.element z.qtd))) (sym at)
      (ap (λ (ps : StructureSets). ps z.copy.at) z.now_is ∙ put_here parts z.copy.at z.copy.at (QueueHead (advanced z.copy.queue z.element z.qtd))))
      (effect_alters transacts member parts hand reply wire after now later kind in_hand (takes z quiet) n))
      (λ (differs : n ≢ z.copy.at). same_coming (ap (λ (ps : StructureSets). ps n) z.now_is ∙ put_beside parts z.copy.at z.copy.at (QueueHead (advanced z.copy.queue z.element z.qtd)) n differs)) (cases_eq n z.copy.at)
  walk_coming kind (writes_back z quiet) =
      let both : IsCopied member parts z.copy × IsSettled z.copy.queue reply z.settled = subst (IsInHand member parts reply) z.in_hand in_hand in
      ⊎_elim {C = IsComing v r x b d s (now n)}
      (λ (at : n ≡ z.copy.at). written_coming z both.0 both.1 at (effect_alters transacts member parts hand reply wire after now later kind in_hand (writes_back z quiet) n))
      (λ (differs : n ≢ z.copy.at).
      same_coming
      (ap (λ (ps : StructureSets). ps n) z.now_is
      ∙ back_beside parts z.copy.at z.copy.at z.copy.queue (settled_queue_of z.copy z.settled) _ z.settled.got (received_into (parts z.copy.at) z.copy.queue z.element z.settled.got) z.element n differs)) (cases_eq n z.copy.at)

-- ---- an event of the controller

module _ {W : Type 0} (begins : W → ℕ → Bool → W → Type 0) (transacts : W → Ask → List ℕ → Reply → W → Type 0) (device : W → ℕ → ℕ → Option Device) (base : Base) (member : ℕ → Bool) (courses : ℕ → Course) (parts : StructureSets) (hand : Hand) (content : Content) (wire after : W) (now : StructureSets) (later : Hand) (n d : ℕ) (r : Request) (x : Places) (s : Qtd) (bus : IsControlBus transacts device) (keeps : KeepsDevices begins device) (controlled : IsControlled base member parts hand content) (stand : CoursesStand device member courses parts hand wire) where
  event_by : (effect : ControlEffect begins transacts parts hand wire after now later) (c : Course) → courses n ≡ c → has_queue c ≡ true → IsComing (queue_in c) r x (tail_in c) d s (parts n) → IsComing (queue_in c) r x (tail_in c) d s (now n)
  event_by (a_microframe m) c is on k = subst (λ (ps : StructureSets). IsComing (queue_in c) r x (tail_in c) d s (ps n)) (sym m.parts_stay) k
  event_by (a_step z) NoQueue is on k = absurd (false≢true on)
  event_by (a_step z) (Asks v b l) is on k =
      let ring : IsRing base member parts hand (walk_place content) = controlled.ring in
      let asking : IsAsking v b l hand parts n (device wire v.endpoint.addr v.endpoint.num) = subst (IsCourse device parts hand wire n) is (stand.each n) in
      walk_coming transacts member parts hand (walk_place content).walk.reply wire after now later ring.members ring.in_hand v r x b d n s l (device wire v.endpoint.addr v.endpoint.num) (stand.members n (ap has_queue is)) asking
      (tail_of device parts hand wire n (Asks v b l) refl asking) k z.kind z.effect
  event_by (a_step z) (Rests v b c) is on k =
      let resting : IsResting v b c hand parts n (device wire v.endpoint.addr v.endpoint.num) = subst (IsCourse device parts hand wire n) is (stand.each n) in
      let alone = subst (λ (y : Course). IsAlone member (queue_in y).endpoint parts n) is (queue_alone device member courses parts hand wire stand n (ap has_queue is)) in
      let stays = an_event_leaves_a_queue_at_rest begins transacts device base member v.endpoint c b n parts hand content wire after now later (a_step z) bus keeps controlled alone resting.rest in
      subst (IsComing v r x b d s) (sym stays.same) k

pub event_coming : {W : Type 0} (begins : W → ℕ → Bool → W → Type 0) (transacts : W → Ask → List ℕ → Reply → W → Type 0) (device : W → ℕ → ℕ → Option Device) → EventKeepsComing begins transacts device
event_coming begins transacts device base member courses parts hand content wire after now later effect n d r x s bus keeps controlled stand on k =
    event_by begins transacts device base member courses parts hand content wire after now later n d r x s bus keeps controlled stand effect (courses n) refl on k
