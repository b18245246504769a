-- What is told of the driver's queues stays: the endpoint that leaves has its queue still, and the walk may meet it.
use Rattle.std.proofs.Common.{◌≡◌, ◌≢◌, ℕ, suc, ◌*◌, Bool, true, false, nat_eq, if◌then◌else◌, List, [], ◌∷◌, ◌++◌, length, slice_get, Option, Some, None, ap, refl, sym, subst, ◌∙◌, ⊎_elim, inl, inr, arith, ◌||◌}
use Rattle.std.proofs.lemmas.Bool.{cases_eq}
use Rattle.std.proofs.lemmas.Option.{same_Some}
use Rattle.law_queues.proofs.Common.{none_open, none_published}
use Rattle.law_world.proofs.Common.{unlink_open}
use Rattle.law_common.proofs.Lists.{set_here, set_there}
use Rattle.usb_base.specs.declared.endpoints.EpDesc.{EpDesc}
use Rattle.link_words.specs.declared.fields.LinkBits.{LinkBits}
use Rattle.qh_qtd.specs.declared.queue_head.Qh.{Qh}
use Rattle.mem_runs.specs.Book.{slot_of}
use Rattle.drv_table.specs.declared.content.Endpoint.{Endpoint}
use Rattle.drv_table.specs.declared.content.Transfer.{Transfer}
use Rattle.drv_table.specs.declared.content.QtdNote.{QtdNote}
use Rattle.drv_table.specs.declared.content.Sort.{Sort}
use Rattle.drv_table.specs.declared.content.Command.{Command}
use Rattle.drv_table.specs.declared.content.Command.TheVariants as unfinished
use Rattle.drv_table.specs.DriverContent.{DriverContent}
use Rattle.drv_table.specs.Harvests.{note_at}
use Rattle.drv_table.specs.Words.{head_block, to_queue_head, queue_head_link, queue_head, dummy_qtd}
use Rattle.claims_driver.specs.Owners.{NoteRuns, note_in}
use Rattle.law_structures.specs.lent_structures.Structures.{Structure, QueueHead, Buffer, StructureSets}
use Rattle.law_structures.specs.lent_structures.Sound.{element_pages, buffer_name, HasBuffer}
use Rattle.law_ring.specs.Told.{Endpoint as Told, endpoint_of}
use Rattle.law_driver_ring.specs.Inventory.{IsLent}
use Rattle.claims_driver.specs.Scripts.{comes_in}
use Rattle.law_driver.specs.chained_transfers.Chains.{piece_at}
use Rattle.law_driver.specs.chained_transfers.Out.{unpublished, out_of_transfer, out_of, out_now}
use Rattle.law_driver_ring.specs.fed_queues.Fed.{IsPieceFed, unpublished_of, AreFed, sized}
use Rattle.law_driver_ring.specs.fed_queues.Places.{IsMet, HasHead, AreMet, HaveStreams, IsLast, AreLast, AreStillOut, IsThere}
use Rattle.law_queues.specs.publish_laws.Stores.{QueuesThen}
use Rattle.law_world.specs.steps.unlinked_streams.Unlinks.{IsAtUnlink, driver_then, parts_unlinked, UnlinkLeavesQueues}
use Rattle.law_world.proofs.lemmas.steps.lemmas.unlinked_streams.Passing.{driver_is}
use Rattle.law_world.proofs.lemmas.steps.lemmas.unlinked_streams.Sparing.{stays, element_stays, element_was, buffer_stays}
use Rattle.law_driver.specs.endpoint_lives.Lives.{is_one_of, may_meet}
use Rattle.law_driver.proofs.lemmas.endpoint_lives.Lives.{one_of_end, one_of_others, linked_met, waiting_met}

-- ---- the command

unlink_out : (note : ℕ → NoteRuns) (e number before link made : ℕ) (ts : List Transfer) → out_of note e (Some (unfinished.Unlink number before link)) made ts ≡ out_of note e None 0 ts
unlink_out note e number before link made (z ∷ w ∷ zs) = ap (λ (xs : List ℕ). out_of_transfer note e 0 z ++ xs) (unlink_out note e number before link made (w ∷ zs))
unlink_out note e number before link made _ = refl

abbrev none_if : Bool → ℕ
none_if b = if b then 0 else 0

none_either : (b : Bool) → none_if b ≡ 0
none_either true = refl
none_either false = refl

-- ---- endpoints

-- endpoint i was this one, but for its place in the ring
pub record WasThere (d f : DriverContent) (i : ℕ) (y : Endpoint) : Type 0 where
  pub endpoint : Endpoint
  pub here : slice_get d.endpoints i ≡ Some endpoint
  pub desc : y.desc ≡ endpoint.desc
  pub queue : y.queue ≡ endpoint.queue
  pub dummy : y.dummy ≡ endpoint.dummy
  pub gone : y.gone ≡ endpoint.gone
  -- it may be met as before: one that leaves waits for the doorbell
  pub near : may_meet f i y ≡ may_meet d i endpoint

module _ (d : DriverContent) (member : ℕ → Bool) (parts : StructureSets) (k : IsAtUnlink d member parts) where
  abbrev e : ℕ
  e = k.number

  abbrev x : Endpoint
  x = k.endpoint

  abbrev left : Endpoint
  left = record x { linked = false }

  abbrev f : DriverContent
  f = driver_then d e x

  abbrev at : ℕ
  at = 32 * k.before

  abbrev l : LinkBits
  l = to_queue_head k.after

  abbrev now : StructureSets
  now = parts_unlinked parts k.before k.queue k.after

  was : (i : ℕ) (y : Endpoint) → slice_get f.endpoints i ≡ Some y → WasThere d f i y
  was i y there =
      ⊎_elim (λ (same : i ≡ e).
      let is : left ≡ y = same_Some left y (sym (set_here d.endpoints e x left k.here) ∙ ap (slice_get f.endpoints) (sym same) ∙ there) in
      record {
        endpoint = x;
        here = ap (slice_get d.endpoints) same ∙ k.here;
        desc = ap (λ (z : Endpoint). z.desc) (sym is);
        queue = ap (λ (z : Endpoint). z.queue) (sym is);
        dummy = ap (λ (z : Endpoint). z.dummy) (sym is);
        gone = ap (λ (z : Endpoint). z.gone) (sym is);
        near = waiting_met f i y (ap (λ (j : ℕ). is_one_of j f.waiting) same ∙ one_of_end e d.waiting) ∙ sym (linked_met d i x k.linked);
      })
      (λ (differs : i ≢ e). record {
        endpoint = y;
        here = sym (set_there d.endpoints e i left differs) ∙ there;
        desc = refl;
        queue = refl;
        dummy = refl;
        gone = refl;
        near = ap (λ (b : Bool). y.linked || (b || is_one_of i d.rung)) (one_of_others i e d.waiting differs);
      }) (cases_eq i e)

  is_now : (i : ℕ) (y : Endpoint) → slice_get d.endpoints i ≡ Some y → WasThere f d i y
  is_now i y there =
      ⊎_elim (λ (same : i ≡ e).
      let is : y ≡ x = same_Some y x (sym there ∙ ap (slice_get d.endpoints) same ∙ k.here) in
      record {
        endpoint = left;
        here = ap (slice_get f.endpoints) same ∙ set_here d.endpoints e x left k.here;
        desc = ap (λ (z : Endpoint). z.desc) is;
        queue = ap (λ (z : Endpoint). z.queue) is;
        dummy = ap (λ (z : Endpoint). z.dummy) is;
        gone = ap (λ (z : Endpoint). z.gone) is;
        near = linked_met d i y (ap (λ (z : Endpoint). z.linked) is ∙ k.linked) ∙ sym (waiting_met f i left (ap (λ (j : ℕ). is_one_of j f.waiting) same ∙ one_of_end e d.waiting));
      })
      (λ (differs : i ≢ e). record {
        endpoint = y;
        here = set_there d.endpoints e i left differs ∙ there;
        desc = refl;
        queue = refl;
        dummy = refl;
        gone = refl;
        near = sym (ap (λ (b : Bool). y.linked || (b || is_one_of i d.rung)) (one_of_others i e d.waiting differs));
      }) (cases_eq i e)

  there_before : (y : Endpoint) → y.gone ≡ false → IsThere d y
  there_before y kept = record { linked = λ same. unlink_open e k.before (queue_head_link k.after) y.queue (sym k.command ∙ same); kept = kept }

  met_before : (i : ℕ) (y : Endpoint) (w : WasThere d f i y) → IsMet f i y → IsMet d i w.endpoint
  met_before i y w met = record { there = there_before w.endpoint (sym w.gone ∙ met.there.kept); near = sym w.near ∙ met.near }

  still : (n : ℕ) → HasHead d n → HasHead f n
  still n h =
      let w = is_now h.number h.endpoint h.here in
      record {
        number = h.number;
        endpoint = w.endpoint;
        here = w.here;
        met = record { there = record { linked = none_open w.endpoint.queue; kept = sym w.gone ∙ h.met.there.kept }; near = sym w.near ∙ h.met.near };
        at = h.at ∙ ap (λ (b : ℕ). 32 * b) w.queue;
      }

  met_then : AreMet d member → AreMet f member
  met_then old = record {
    head = old.head;
    each = λ i y there met.
        let w : WasThere d f i y = was i y there in
        ap (λ (b : ℕ). member (32 * b)) w.queue ∙ old.each i w.endpoint w.here (met_before i y w met);
    only = λ n on. ⊎_elim (λ (head : n ≡ 32 * head_block). inl head) (λ (h : HasHead d n). inr (still n h)) (old.only n on);
  }

  streams_then : (streams : ℕ → Bool) (ends : ℕ → Told) → HaveStreams d streams ends → HaveStreams f streams ends
  streams_then streams ends old = record {
    each = λ i y there met.
        let w : WasThere d f i y = was i y there in
        let both = old.each i w.endpoint w.here (met_before i y w met) in (
          ap (λ (b : ℕ). streams (32 * b)) w.queue ∙ both.0 ∙ ap (λ (z : EpDesc). comes_in z.name.way) (sym w.desc),
          ap (λ (b : ℕ). ends (32 * b)) w.queue ∙ both.1 ∙ ap (λ (z : EpDesc). endpoint_of (queue_head z 0 w.endpoint.dummy)) (sym w.desc)
              ∙ ap (λ (b : ℕ). endpoint_of (queue_head y.desc 0 b)) (sym w.dummy),
        );
    only = λ n on. still n (old.only n on);
  }

  -- ---- the structures

  no_buffer : (pages : List ℕ) (j : ℕ) (bs : List ℕ) (r : Qh) → Buffer pages j bs ≢ QueueHead r
  no_buffer pages j bs r same = cc

  fed_now : (sort : Sort) (m : ℕ) (note : QtdNote) (b end : ℕ) → IsPieceFed sort (parts m) note b end → IsPieceFed sort (now m) note b end
  fed_now sort m note b end g = record {
    qtd = g.qtd;
    here = element_stays parts at k.queue l k.head m (32 * b) g.qtd g.here;
    noted = g.noted;
    buffer = λ some.
        let has : HasBuffer (parts m) g.qtd note.told = g.buffer some in
        let buffer : Structure = Buffer (element_pages g.qtd) g.qtd.offset has.bytes in
        record { bytes = has.bytes; here = stays parts at k.queue l k.head m (buffer_name g.qtd) buffer (no_buffer (element_pages g.qtd) g.qtd.offset has.bytes) has.here; size = has.size };
    long = ap length (buffer_stays parts at k.queue l k.head m g.qtd) ∙ g.long;
    places = g.places;
    fresh = g.fresh;
    blank = g.blank;
  }

  none_before : (t : ℕ) (y : Transfer) → unpublished_of d t y ≡ 0
  none_before t y = ap (λ (o : Option Command). if nat_eq (suc t) (length d.transfers) then unpublished o d.made y.qtds else 0) k.command ∙ none_either (nat_eq (suc t) (length d.transfers))

  fed_then : AreFed d parts → AreFed f now
  fed_then old = record {
    dummies = λ i y there kept lent.
        let w : WasThere d f i y = was i y there in
        let m = 32 * w.endpoint.queue in
        ap (λ (b : ℕ). now (32 * b) (32 * y.dummy)) w.queue ∙ ap (λ (b : ℕ). now m (32 * b)) w.dummy
        ∙ element_stays parts at k.queue l k.head m (32 * w.endpoint.dummy) dummy_qtd
        (old.dummies i w.endpoint w.here (sym w.gone ∙ kept) (subst (λ (b : ℕ). IsLent (slot_of d.book.slots b)) w.dummy lent));
    pieces = λ t j y z there held here from below.
        let w : WasThere d f y.endpoint z = was y.endpoint z here in
        let none = none_before t y in
        let b = piece_at (note_in d.notes) y.first j in
        let end = piece_at (note_in d.notes) y.first y.qtds in
        subst (λ (q : ℕ). IsPieceFed y.sort (now (32 * q)) (sized y.sort j (note_at d.notes b)) b end) (sym w.queue)
        (fed_now y.sort (32 * w.endpoint.queue) (sized y.sort j (note_at d.notes b)) b end (old.pieces t j y w.endpoint there held w.here (omega (arith, none)) below));
    publishes = λ b words command. absurd (none_published b words command);
  }

  last_still : (order : ℕ → ℕ → ℕ) (m a : ℕ) → IsLast (order m) (parts m) a → IsLast (order m) (now m) a
  last_still order m a old b t is differs = old b t (element_was parts at k.queue l k.head m b t is) differs

  last_then : (order : ℕ → ℕ → ℕ) → AreLast d parts order → AreLast f now order
  last_then order old = record {
    dummies = λ i y there kept lent.
        let w : WasThere d f i y = was i y there in
        let m = 32 * w.endpoint.queue in
        let last : IsLast (order m) (now m) (32 * w.endpoint.dummy) =
        last_still order m (32 * w.endpoint.dummy) (old.dummies i w.endpoint w.here (sym w.gone ∙ kept) (subst (λ (b : ℕ). IsLent (slot_of d.book.slots b)) w.dummy lent)) in
        subst (λ (q : ℕ). IsLast (order (32 * q)) (now (32 * q)) (32 * y.dummy)) (sym w.queue) (subst (λ (b : ℕ). IsLast (order m) (now m) (32 * b)) (sym w.dummy) last);
    taken = λ b words t y z command made newest there first here. absurd (none_published b words command);
    sorted = λ b words t y z command made newest there first here. absurd (none_published b words command);
  }

  -- ---- what is out

  out_before : (i : ℕ) → out_now d i ≡ out_now f i
  out_before i = ap (λ (o : Option Command). out_of (note_in d.notes) i o d.made d.transfers) k.command ∙ unlink_out (note_in d.notes) i e k.before (queue_head_link k.after) d.made d.transfers

  out_then : (out : ℕ → List ℕ) → AreStillOut d out → AreStillOut f out
  out_then out old i y there met =
      let w : WasThere d f i y = was i y there in
      ap (λ (b : ℕ). out (32 * b)) w.queue ∙ old i w.endpoint w.here (there_before w.endpoint (sym w.gone ∙ met.kept)) ∙ out_before i

  queues_then : (streams : ℕ → Bool) (ends : ℕ → Told) (order : ℕ → ℕ → ℕ) (out : ℕ → List ℕ) → QueuesThen d member streams ends parts order out → QueuesThen f member streams ends now order out
  queues_then streams ends order out old = record {
    met = met_then old.met;
    streams_are = streams_then streams ends old.streams_are;
    fed = fed_then old.fed;
    last = last_then order old.last;
    out_are = out_then out old.out_are;
  }

pub unlink_leaves_queues : UnlinkLeavesQueues
unlink_leaves_queues p member streams ends parts order out k old =
    subst (λ (g : DriverContent). QueuesThen g member streams ends (parts_unlinked parts k.before k.queue k.after) order out) (sym (driver_is p member parts k))
    (queues_then p.driver member parts k streams ends order out old)
