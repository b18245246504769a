-- Once the buffers of a request are lent, its qTDs are as a new request's must be.
use Rattle.std.proofs.Common.{◌≡◌, ◌≢◌, ℕ, zero, suc, ◌*◌, ◌/◌, ◌<◌, ◌≤◌, Bool, true, false, not, ◌&&◌, nat_eq, if◌then◌else◌, List, [], ◌∷◌, length, take, get_or, Some, ap, refl, sym, subst, ◌∙◌, ⊎_elim, inl, inr, arith}
use Rattle.std.proofs.lemmas.Bool.{cases_eq, true≢false}
use Rattle.std.proofs.lemmas.List.{take_all}
use Rattle.std.proofs.lemmas.Option.{same_Some}
use Rattle.law_structures.proofs.Common.{element_is}
use Rattle.word_mem.specs.Memory.{Mem}
use Rattle.qh_qtd.specs.declared.qtd.Qtd.{Qtd}
use Rattle.mem_runs.specs.Book.{Holding, holding, slot_of, lend_taken, Stands}
use Rattle.law_driver.proofs.lemmas.ring_members.Freed.{lent_words}
use Rattle.drv_table.specs.declared.content.QtdNote.{QtdNote}
use Rattle.drv_table.specs.declared.content.Stage.{Stage}
use Rattle.drv_table.specs.Words.{dummy_qtd, asks_in, request_length, setup_stage, data_stage, status_stage, request_stages}
use Rattle.drv_table.specs.Harvests.{note_at, buffer_address, buffer_bytes}
use Rattle.drv_table.specs.Offers.{is_last}
use Rattle.law_driver.specs.run_owners.Accepts.{AreShort}
use Rattle.law_structures.specs.lent_structures.Structures.{Element, Buffer, Structures, StructureSets, Tells}
use Rattle.law_structures.specs.lent_structures.Sound.{element_pages, buffer_name, HasBuffer}
use Rattle.law_driver_ring.proofs.lemmas.harvested_streams.Harvesting.{bytes_are_read}
use Rattle.law_driver_ring.specs.Written.{AreNoted, IsStageNoted}
use Rattle.law_driver_ring.specs.Pieces.{stage_qtd, AreStanding, AreBuffered}
use Rattle.law_queues.proofs.lemmas.fed_lends.Feeding.{places_new}
use Rattle.law_world.proofs.lemmas.streams.lemmas.put_laws.Words.{bytes_same}
use Rattle.hc_copy.specs.Planning.{pid_at}
use Rattle.dev_control.specs.Stages.{is_read}
use Rattle.claims_report.specs.Requests.{Request}
use Rattle.law_request.specs.Host.{Endpoint, Setup, Data, Status, Done, Halted, has_data, data_token, status_token}
use Rattle.law_devices.specs.ring_requests.Laid.{Places, LeadTo, place_at}
use Rattle.law_devices.specs.ring_requests.Shown.{AreFresh}
use Rattle.law_reports.specs.requests.request_bytes.Held.{RequestIsHeld}
use Rattle.law_reports.specs.requests.request_bytes.Fresh.{data_places, other_places, next_of, IsStoredAt, LentRequestIsFresh}
use Rattle.law_reports.proofs.lemmas.requests.lemmas.request_bytes.Requests.{no_data, with_data, request_case}

-- ---- tokens

pid_data : (b : Bool) → pid_at (if b then 1 else 0) ≡ data_token b
pid_data true = refl
pid_data false = refl

pid_status : (b : Bool) → pid_at (if not b then 1 else 0) ≡ status_token b
pid_status true = refl
pid_status false = refl

pub positive : (n : ℕ) → not (nat_eq n 0) ≡ true → 0 < n
positive zero some = absurd (true≢false (sym some))
positive (suc n) some = omega arith

-- ---- what is stored over the inactive qTD

element_there : (part now : Structures) (a i : ℕ) (t u : Qtd) → IsStoredAt part now a t → now i ≡ Some (Element u) → u.token.active ≡ true → part i ≡ Some (Element u)
element_there part now a i t u k here active =
    ⊎_elim
    (λ (same : i ≡ a).
    let is : dummy_qtd ≡ u = element_is dummy_qtd u (same_Some (Element dummy_qtd) (Element u) (sym k.before ∙ ap now (sym same) ∙ here)) in
    absurd (true≢false (sym active ∙ ap (λ (q : Qtd). q.token.active) (sym is))))
    (λ (differs : i ≢ a). k.others i differs ∙ here) (cases_eq i a)

buffer_there : (part now : Structures) (a i : ℕ) (t : Qtd) (pages : List ℕ) (n : ℕ) (bs : List ℕ) → IsStoredAt part now a t → now i ≡ Some (Buffer pages n bs) → part i ≡ Some (Buffer pages n bs)
buffer_there part now a i t pages n bs k here =
    ⊎_elim
    (λ (same : i ≡ a). let e : Some (Element dummy_qtd) ≡ Some (Buffer pages n bs) = sym k.before ∙ ap now (sym same) ∙ here in absurd (cc))
    (λ (differs : i ≢ a). k.others i differs ∙ here) (cases_eq i a)

-- ---- the bytes of a buffer

told_aside : (m : Mem) (note : QtdNote) (n k : ℕ) → buffer_bytes m note k ≡ buffer_bytes m (record note { told = n }) k
unfolding buffer_bytes
told_aside m note n k = refl

lent_buffer : (h : Holding) (now : StructureSets) (q : ℕ) (notes : List QtdNote) (s : Stage) (b dummy : ℕ) (last : Bool) → Stands h → IsStageNoted (slot_of h.book.slots) (note_at notes b) s → s.long ≤ 20480 → 0 < s.long
    → (0 < s.long → HasBuffer (now q) (stage_qtd notes s b dummy last) s.long) → Tells (lend_taken h).memory now
    → now q (buffer_name (stage_qtd notes s b dummy last)) ≡ Some (Buffer (element_pages (stage_qtd notes s b dummy last)) (stage_qtd notes s b dummy last).offset (buffer_bytes h.memory (note_at notes b) s.long))
lent_buffer h now q notes s b dummy last stands noted short some has tells =
    let note = note_at notes b in
    let u = stage_qtd notes s b dummy last in
    let k = has some in
    let size = k.size in
    let after = (lend_taken h).memory in
    let read : buffer_bytes after (record note { told = length k.bytes }) s.long ≡ take s.long k.bytes =
    bytes_are_read after now q u k.bytes (record note { told = length k.bytes }) s.long tells k.here (record { told = refl; places = λ j below. places_new h note s j stands noted short (omega (arith, below, size)) }) (omega (arith, size)) in
    let same : buffer_bytes after note s.long ≡ buffer_bytes h.memory note s.long =
    bytes_same h.memory after note s.long (λ j below. ap (λ (ws : List ℕ). get_or ws (buffer_address note j / 4) 0) (lent_words h)) in
    let are : k.bytes ≡ buffer_bytes h.memory note s.long = sym (take_all s.long k.bytes (omega (arith, size))) ∙ sym read ∙ sym (told_aside after note (length k.bytes) s.long) ∙ same in
    k.here ∙ ap (λ (bs : List ℕ). Some (Buffer (element_pages u) u.offset bs)) are

-- ---- a request with a data stage, and one without

module _ (h : Holding) (now : StructureSets) (q : ℕ) (notes : List QtdNote) (b dummy : ℕ) (part : Structures) (e : Endpoint) (r : Request) (stands : Stands h) (held : RequestIsHeld h.memory notes b r) (tells : Tells (lend_taken h).memory now) where
  abbrev next : ℕ
  next = next_of notes b

  abbrev data_is : Stage
  data_is = data_stage (asks_in r.setup) (request_length r.setup)

  setup_bytes : (u : Qtd) (last : Bool) → IsStoredAt part (now q) (32 * b) u → IsStageNoted (slot_of h.book.slots) (note_at notes b) setup_stage → (0 < 8 → HasBuffer (now q) (stage_qtd notes setup_stage b dummy last) 8)
      → part (buffer_name (stage_qtd notes setup_stage b dummy last)) ≡ Some (Buffer (element_pages (stage_qtd notes setup_stage b dummy last)) (stage_qtd notes setup_stage b dummy last).offset r.setup)
  setup_bytes u last k noted has =
      let w = stage_qtd notes setup_stage b dummy last in
      buffer_there part (now q) (32 * b) (buffer_name w) u (element_pages w) w.offset r.setup k
      (lent_buffer h now q notes setup_stage b dummy last stands noted (omega arith) (omega arith) has tells ∙ ap (λ (bs : List ℕ). Some (Buffer (element_pages w) w.offset bs)) held.setup)

  pub data_fresh : has_data r ≡ true → AreNoted (slot_of h.book.slots) notes (with_data r.setup) b → AreShort (with_data r.setup) → AreStanding (now q) notes dummy (data_is ∷ status_stage (not (asks_in r.setup)) ∷ []) next
      → AreBuffered (now q) notes dummy (with_data r.setup) b → IsStoredAt part (now q) (32 * b) (stage_qtd notes setup_stage b dummy false)
      → AreFresh e r (data_places b next (next_of notes next) (next_of notes (next_of notes next))) part Setup
  data_fresh some noted short stand buffered k Setup comes = record {
    stage = record {
      qtd = stage_qtd notes setup_stage b dummy false;
      here = k.here;
      pid = refl;
      leads = subst (λ (g : Bool). LeadsAfter g) (sym some) (record { next = refl; alternate = inl refl });
      bytes = setup_bytes (stage_qtd notes setup_stage b dummy false) false k noted.0 buffered.0;
    };
    begins = λ ping. refl;
  }
    where
      LeadsAfter : Bool → Type 0
      LeadsAfter g = LeadTo (stage_qtd notes setup_stage b dummy false) (place_at (data_places b next (next_of notes next) (next_of notes (next_of notes next))) (if g then Data else Status))
  data_fresh some noted short stand buffered k Data comes = record {
    stage = record {
      qtd = stage_qtd notes data_is next dummy false;
      here = element_there part (now q) (32 * b) (32 * next) (stage_qtd notes setup_stage b dummy false) (stage_qtd notes data_is next dummy false) k stand.0 refl;
      pid = pid_data (asks_in r.setup);
      leads = record { next = refl; alternate = inr refl };
      bytes = λ out.
          let w = stage_qtd notes data_is next dummy false in
          buffer_there part (now q) (32 * b) (buffer_name w) (stage_qtd notes setup_stage b dummy false) (element_pages w) w.offset r.bytes k
          (lent_buffer h now q notes data_is next dummy false stands noted.1.0 short.1.0 (positive (request_length r.setup) some) buffered.1.0 tells
          ∙ ap (λ (bs : List ℕ). Some (Buffer (element_pages w) w.offset bs)) (held.sent some out));
    };
    begins = λ ping. refl;
  }
  data_fresh some noted short stand buffered k Status comes = record {
    stage = record {
      qtd = stage_qtd notes (status_stage (not (asks_in r.setup))) (next_of notes next) dummy true;
      here = element_there part (now q) (32 * b) (32 * next_of notes next) (stage_qtd notes setup_stage b dummy false) (stage_qtd notes (status_stage (not (asks_in r.setup))) (next_of notes next) dummy true) k stand.1.0 refl;
      pid = pid_status (asks_in r.setup) ∙ sym (ap (λ (g : Bool). status_token (g && is_read r.setup)) some);
      leads = record { next = refl; alternate = inl refl };
      bytes = tt;
    };
    begins = λ ping. refl;
  }
  data_fresh some noted short stand buffered k Done comes = absurd (true≢false (sym comes))
  data_fresh some noted short stand buffered k (Halted cause) comes = absurd (true≢false (sym comes))

  pub other_fresh : has_data r ≡ false → AreNoted (slot_of h.book.slots) notes no_data b → AreStanding (now q) notes dummy (status_stage true ∷ []) next
      → AreBuffered (now q) notes dummy no_data b → IsStoredAt part (now q) (32 * b) (stage_qtd notes setup_stage b dummy false)
      → AreFresh e r (other_places b next (next_of notes next)) part Setup
  other_fresh none noted stand buffered k Setup comes = record {
    stage = record {
      qtd = stage_qtd notes setup_stage b dummy false;
      here = k.here;
      pid = refl;
      leads = subst (λ (g : Bool). LeadsAfter g) (sym none) (record { next = refl; alternate = inl refl });
      bytes = setup_bytes (stage_qtd notes setup_stage b dummy false) false k noted.0 buffered.0;
    };
    begins = λ ping. refl;
  }
    where
      LeadsAfter : Bool → Type 0
      LeadsAfter g = LeadTo (stage_qtd notes setup_stage b dummy false) (place_at (other_places b next (next_of notes next)) (if g then Data else Status))
  other_fresh none noted stand buffered k Data comes = absurd (true≢false (sym comes ∙ none))
  other_fresh none noted stand buffered k Status comes = record {
    stage = record {
      qtd = stage_qtd notes (status_stage true) next dummy true;
      here = element_there part (now q) (32 * b) (32 * next) (stage_qtd notes setup_stage b dummy false) (stage_qtd notes (status_stage true) next dummy true) k stand.0 refl;
      pid = sym (ap (λ (g : Bool). status_token (g && is_read r.setup)) none);
      leads = record { next = refl; alternate = inl refl };
      bytes = tt;
    };
    begins = λ ping. refl;
  }
  other_fresh none noted stand buffered k Done comes = absurd (true≢false (sym comes))
  other_fresh none noted stand buffered k (Halted cause) comes = absurd (true≢false (sym comes))

-- ---- by the stages that were asked for

abbrev first_stage : List Stage → Stage
first_stage [] = setup_stage
first_stage (s ∷ ss) = s

abbrev others_of : List Stage → List Stage
others_of [] = []
others_of (s ∷ ss) = ss

record AreThere (h : Holding) (now : StructureSets) (q : ℕ) (notes : List QtdNote) (b dummy : ℕ) (part : Structures) (ss : List Stage) : Type 0 where
  noted : AreNoted (slot_of h.book.slots) notes ss b
  short : AreShort ss
  standing : AreStanding (now q) notes dummy (others_of ss) (next_of notes b)
  buffered : AreBuffered (now q) notes dummy ss b
  stored : IsStoredAt part (now q) (32 * b) (stage_qtd notes (first_stage ss) b dummy (is_last (others_of ss)))

abbrev places_by : List QtdNote → ℕ → Bool → Places
places_by notes b some =
    if some then data_places b (next_of notes b) (next_of notes (next_of notes b)) (next_of notes (next_of notes (next_of notes b)))
    else other_places b (next_of notes b) (next_of notes (next_of notes b))

pub lent_request_is_fresh : LentRequestIsFresh
lent_request_is_fresh d m t y x s rest slot parts now part e r k are stands held pieces tells stored =
    let h = holding d.book m in
    let q = 32 * x.queue in
    let there : AreThere h now q d.notes y.first x.dummy part (s ∷ rest) = record { noted = k.noted; short = k.short; standing = pieces.standing; buffered = pieces.buffered; stored = stored } in
    ⊎_elim
    (λ (none : (has_data r ≡ false) × (request_stages r.setup ≡ no_data)).
    let g : AreThere h now q d.notes y.first x.dummy part no_data = subst (AreThere h now q d.notes y.first x.dummy part) (are ∙ none.1) there in
    subst (λ (z : Places). AreFresh e r z part Setup) (sym (ap (λ (b : Bool). places_by d.notes y.first b) none.0))
    (other_fresh h now q d.notes y.first x.dummy part e r stands held tells none.0 g.noted g.standing g.buffered g.stored))
    (λ (some : (has_data r ≡ true) × (request_stages r.setup ≡ with_data r.setup)).
    let g : AreThere h now q d.notes y.first x.dummy part (with_data r.setup) = subst (AreThere h now q d.notes y.first x.dummy part) (are ∙ some.1) there in
    subst (λ (z : Places). AreFresh e r z part Setup) (sym (ap (λ (b : Bool). places_by d.notes y.first b) some.0))
    (data_fresh h now q d.notes y.first x.dummy part e r stands held tells some.0 g.noted g.short g.standing g.buffered g.stored))
    (request_case r)
