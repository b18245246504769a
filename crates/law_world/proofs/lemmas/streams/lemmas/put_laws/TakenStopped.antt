-- The queue head of an OUT endpoint that has ended is halted, and stays so.
use Rattle.std.proofs.Common.{◌≡◌, ◌≢◌, ℕ, suc, ◌-◌, ◌*◌, Bool, true, false, nat_le, if◌then◌else◌, List, [], ◌∷◌, ◌++◌, length, set, slice_get, option_map, Option, Some, None, ap, refl, sym, subst, ◌∙◌, ⊎_elim, inl, inr, arith}
use Rattle.std.specs.Prelude.{◌⊎◌, nat_eq}
use Rattle.std.proofs.lemmas.Bool.{cases_eq, false≢true, true≢false}
use Rattle.law_footprints.proofs.Fields.{endpoints_stays}
use Rattle.law_driver.proofs.Common.{waits_is}
use Rattle.usb_base.specs.declared.endpoints.EndCause.{EndCause}
use Rattle.usb_base.specs.declared.endpoints.EpDesc.{EpDesc}
use Rattle.usb_base.specs.declared.packets.Ask.{Ask}
use Rattle.usb_base.specs.declared.packets.Reply.{Reply}
use Rattle.usb_base.specs.declared.reports.What.{What}
use Rattle.usb_base.specs.declared.reports.What.TheVariants as lines
use Rattle.word_mem.specs.Memory.{Mem}
use Rattle.qh_qtd.specs.declared.queue_head.Qh.{Qh}
use Rattle.qh_qtd.specs.declared.token.Token.{Token}
use Rattle.hc_copy.specs.Overlay.{advanced}
use Rattle.hc_copy.specs.WriteBack.{moved_by}
use Rattle.async_walk.specs.declared.state.WalkStep.{WalkStep}
use Rattle.drv_table.specs.declared.content.Endpoint.{Endpoint}
use Rattle.drv_table.specs.declared.content.Transfer.{Transfer}
use Rattle.drv_table.specs.declared.rows.DriverRow.{DriverRow}
use Rattle.drv_table.specs.declared.rows.DriverRow.TheVariants as rows
use Rattle.drv_table.specs.declared.rows.Found.{Found}
use Rattle.drv_table.specs.declared.rows.Found.TheVariants as founds
use Rattle.drv_table.specs.DriverContent.{DriverContent, waits_for, next_after}
use Rattle.drv_table.specs.Harvests.{note_at, token_in, halt_of, moved_of, done_of, ends_by, end_of, is_stall, found_in, noted}
use Rattle.drv_table.specs.Parts.{Parts}
use Rattle.drv_table.specs.Harvesting.{mends_of, after_end, told_with, served, harvested_as, after_harvest}
use Rattle.drv_table.specs.Rows.{driver_row, after_driver_row}
use Rattle.law_driver.proofs.lemmas.endpoint_lives.Lives.{told_some}
use Rattle.law_driver.specs.run_owners.Due.{IsDue, IsHarvestDue}
use Rattle.claims_driver.specs.Owners.{note_in}
use Rattle.law_driver.proofs.lemmas.run_owners.Reasons.{each_event_is_due}
use Rattle.claims_driver.specs.Scripts.{receives}
use Rattle.law_driver.specs.chained_transfers.Asynchronous.{OnlyAsynchronous}
use Rattle.law_driver.specs.chained_transfers.Chains.{piece_at}
use Rattle.law_driver.specs.chained_transfers.AsynchronousTurns.{AsynchronousTakesTurns}
use Rattle.law_driver.specs.chained_transfers.Turns.{IsAtPlace, turn_of, IsNotGone}
use Rattle.law_driver.proofs.lemmas.chained_transfers.Rows.{set_which}
use Rattle.law_driver.proofs.lemmas.chained_transfers.Staying.{stands_alive}
use Rattle.law_driver.proofs.lemmas.chained_transfers.Stalled.{behind_tells}
use Rattle.law_driver.proofs.lemmas.chained_transfers.Ways.{moves_queued, found_by}
use Rattle.law_driver_ring.proofs.lemmas.harvested_streams.Harvesting.{token_is_read}
use Rattle.law_structures.specs.lent_structures.Structures.{QueueHead, Element, StructureSets, Tells}
use Rattle.law_structures.proofs.lemmas.lent_structures.Names.{put_beside}
use Rattle.law_structures.proofs.lemmas.lent_structures.Found.{back_beside}
use Rattle.law_ring.specs.QueueParts.{IsQueuePart}
use Rattle.law_structures.proofs.lemmas.lent_structures.Altering.{found_queue}
use Rattle.law_ring.specs.Hand.{Hand, settled_queue_of}
use Rattle.law_ring.specs.Ring.{IsCopied, IsSettled, IsInHand}
use Rattle.law_ring.specs.Effects.{received_into, Effect}
use Rattle.law_ring.specs.Effects.Effect.{reads, passes, ends, takes, makes, writes_back}
use Rattle.law_controller.specs.controlled_streams.Control.{ControlEffect, a_microframe, a_step}
use Rattle.law_ring.specs.Sparing.{HasOverlay}
use Rattle.law_queues.specs.whole_sends.Whole.{AreSentWhole}
use Rattle.law_queues.specs.whole_sends.Laws.{IsStopped}
use Rattle.law_driver_ring.specs.fed_queues.Fed.{AreFed, IsPieceFed, unpublished_of, sized}
use Rattle.law_queues.proofs.lemmas.released_queues.Queues.{none_yet}
use Rattle.law_world.specs.streams.put_laws.OwedTaken.{EndedAreStopped, EventKeepsStopped, SparedStayStopped, AlikeStayStopped, HarvestStops}
use Rattle.law_world.proofs.lemmas.streams.lemmas.put_laws.Same.{not_gone, WasEnd, WereEnds, ends_same}
use Rattle.law_world.proofs.lemmas.streams.lemmas.put_laws.Driver.{row_no_more}

-- ---- steps that spare queue heads

pub spared_stay_stopped : SparedStayStopped
spared_stay_stopped d parts now spares ended e x cause here alive sends over =
    let k : IsStopped parts (32 * x.queue) = ended e x cause here alive sends over in
    let s : HasOverlay now (32 * x.queue) k.0 = spares e x here k.0 k.1 in
    (s.queue, s.here, ap (λ (t : Token). t.active) s.overlay.token ∙ k.2, ap (λ (t : Token). t.halted) s.overlay.token ∙ k.3)

-- ---- an event of the controller

same_stopped : (parts now : StructureSets) (n : ℕ) → now n ≡ parts n → IsStopped parts n → IsStopped now n
same_stopped parts now n is k = (k.0, ap (λ f. f n) is ∙ k.1, k.2, k.3)

module _ {W : Type 0} (transacts : W → Ask → List ℕ → Reply → W → Type 0) (member : ℕ → Bool) (parts : StructureSets) (hand : Hand) (reply : Reply) (wire after : W) (now : StructureSets) (later : Hand) (n : ℕ) (in_hand : IsInHand member parts reply hand) (k : IsStopped parts n) where
  pub stopped_by : (kind : WalkStep) → Effect transacts parts hand wire after now later kind → IsStopped now n
  stopped_by kind (reads r same quiet) = same_stopped parts now n (ap (λ (ps : StructureSets). ps n) same) k
  stopped_by kind (passes r same quiet) = same_stopped parts now n (ap (λ (ps : StructureSets). ps n) same) k
  stopped_by kind (ends r same quiet) = same_stopped parts now n (ap (λ (ps : StructureSets). ps n) same) k
  stopped_by kind (makes m same) = same_stopped parts now n (ap (λ (ps : StructureSets). ps n) same) k
  stopped_by kind (takes t quiet) =
      let copied : IsCopied member parts t.copy = subst (IsInHand member parts reply) t.in_hand in_hand in
      ⊎_elim (λ (is : n ≡ t.copy.at).
      let same : t.copy.queue ≡ k.0 = found_queue (parts n n) t.copy.queue k.0 (ap (λ (i : ℕ). parts i i) is ∙ copied.here) k.1 in
      absurd (false≢true (sym t.goes_on ∙ ap (λ (q : Qh). q.token.halted) same ∙ k.3)))
      (λ (differs : n ≢ t.copy.at). same_stopped parts now n (ap (λ (ps : StructureSets). ps n) t.now_is ∙ put_beside parts t.copy.at t.copy.at (QueueHead (advanced t.copy.queue t.element t.qtd)) n differs) k) (cases_eq n t.copy.at)
  stopped_by kind (writes_back w quiet) =
      let both : IsCopied member parts w.copy × IsSettled w.copy.queue reply w.settled = subst (IsInHand member parts reply) w.in_hand in_hand in
      ⊎_elim (λ (is : n ≡ w.copy.at).
      let same : w.copy.queue ≡ k.0 = found_queue (parts n n) w.copy.queue k.0 (ap (λ (i : ℕ). parts i i) is ∙ both.0.here) k.1 in
      absurd (true≢false (sym both.1.works ∙ ap (λ (q : Qh). q.token.active) same ∙ k.2)))
      (λ (differs : n ≢ w.copy.at).
      same_stopped parts now n (ap (λ (ps : StructureSets). ps n) w.now_is ∙ back_beside parts w.copy.at w.copy.at w.copy.queue (settled_queue_of w.copy w.settled) (moved_by w.settled.outcome) w.settled.got (received_into (parts w.copy.at) w.copy.queue w.element w.settled.got) w.element n differs) k)
      (cases_eq n w.copy.at)

pub event_one : {W : Type 0} (begins : W → ℕ → Bool → W → Type 0) (transacts : W → Ask → List ℕ → Reply → W → Type 0) (member : ℕ → Bool) (parts : StructureSets) (hand : Hand) (reply : Reply) (wire after : W) (now : StructureSets) (later : Hand) (n : ℕ)
    → IsInHand member parts reply hand → ControlEffect begins transacts parts hand wire after now later → IsStopped parts n → IsStopped now n
event_one begins transacts member parts hand reply wire after now later n in_hand (a_microframe b) k = same_stopped parts now n (ap (λ (ps : StructureSets). ps n) b.parts_stay) k
event_one begins transacts member parts hand reply wire after now later n in_hand (a_step s) k = stopped_by transacts member parts hand reply wire after now later n in_hand k s.kind s.effect

pub event_stopped : {W : Type 0} (begins : W → ℕ → Bool → W → Type 0) (transacts : W → Ask → List ℕ → Reply → W → Type 0) → EventKeepsStopped begins transacts
event_stopped begins transacts base member parts hand c wire after now later d controlled effect ended e x cause here alive sends over =
    event_one begins transacts member parts hand _ wire after now later (32 * x.queue) controlled.ring.in_hand effect (ended e x cause here alive sends over)

-- ---- rows of the driver by which no endpoint ends

pub were_ended : (d f : DriverContent) (parts : StructureSets) → WereEnds d f → EndedAreStopped d parts → EndedAreStopped f parts
were_ended d f parts were ended e z cause here alive sends over =
    let w : WasEnd d e z = were e z here in
    subst (λ (q : ℕ). IsStopped parts (32 * q)) (sym w.queue) (ended e w.endpoint cause w.here (sym w.gone ∙ alive) (ap (λ (r : EpDesc). receives r.name.way) (sym w.desc) ∙ sends) (sym w.ends ∙ over))

row_ends : (p : Parts) (row : DriverRow) → IsDue p row → OnlyAsynchronous p.driver → ((e t : ℕ) (found : Found) → row ≢ rows.Harvest e t found) → ((e : ℕ) → row ≢ rows.ReleaseEndpoint e) → WereEnds p.driver (after_driver_row row p).driver
row_ends p (rows.ReleaseTransfer t) due bulk harvest endpoint =
    ends_same p.driver (after_driver_row (rows.ReleaseTransfer t) p).driver
    (endpoints_stays (rows.ReleaseTransfer t) p p.driver.command refl refl)
row_ends p row due bulk harvest endpoint = (row_no_more p row due bulk harvest (λ t is. cc) endpoint).alike.ends

pub alike_stay_stopped : AlikeStayStopped
alike_stay_stopped p parts turns harvest endpoint ended = were_ended p.driver (after_driver_row (driver_row p) p).driver parts (row_ends p (driver_row p) (each_event_is_due p) turns.asynchronous harvest endpoint) ended

-- ---- a harvest

-- an endpoint that has ended had ended before, or is the one that is harvested, of which this holds
record EndsAt (d f : DriverContent) (x : Endpoint) (Halts : Type 0) : Type 0 where
  was : (i : ℕ) (z : Endpoint) (cause : EndCause) → slice_get f.endpoints i ≡ Some z → z.ended ≡ Some cause → (slice_get d.endpoints i ≡ Some z) ⊎ ((z.queue ≡ x.queue) × (z.desc ≡ x.desc) × Halts)

ends_itself : (d f : DriverContent) (x : Endpoint) (Halts : Type 0) → f.endpoints ≡ d.endpoints → EndsAt d f x Halts
ends_itself d f x Halts same = record { was = λ i z cause here over. inl (ap (λ (xs : List Endpoint). slice_get xs i) (sym same) ∙ here) }

none_some : {X : Type 0} (x : X) → ◌≡◌ {A = Option X} None (Some x) → ⊥
none_some x is = cc

-- one that goes on
ends_on : (d f : DriverContent) (e : ℕ) (x w : Endpoint) (Halts : Type 0) → slice_get d.endpoints e ≡ Some x → w.ended ≡ None → f.endpoints ≡ set d.endpoints e w → EndsAt d f x Halts
ends_on d f e x w Halts here goes same = record {
  was = λ i z cause there over.
      ⊎_elim (λ (own : (i ≡ e) × (z ≡ w)). absurd (none_some cause (sym goes ∙ ap (λ (r : Endpoint). r.ended) (sym own.1) ∙ over)))
      (λ (other : slice_get d.endpoints i ≡ Some z). inl other) (set_which d.endpoints e i x w z here (ap (λ (xs : List Endpoint). slice_get xs i) (sym same) ∙ there));
}

ends_now : (d f : DriverContent) (e : ℕ) (x w : Endpoint) (Halts : Type 0) → slice_get d.endpoints e ≡ Some x → w.queue ≡ x.queue → w.desc ≡ x.desc → Halts → f.endpoints ≡ set d.endpoints e w → EndsAt d f x Halts
ends_now d f e x w Halts here queue desc halts same = record {
  was = λ i z cause there over.
      ⊎_elim (λ (own : (i ≡ e) × (z ≡ w)). inr (ap (λ (r : Endpoint). r.queue) own.1 ∙ queue, ap (λ (r : Endpoint). r.desc) own.1 ∙ desc, halts))
      (λ (other : slice_get d.endpoints i ≡ Some z). inl other) (set_which d.endpoints e i x w z here (ap (λ (xs : List Endpoint). slice_get xs i) (sym same) ∙ there));
}

module _ (d : DriverContent) (m : Mem) (e t : ℕ) (x : Endpoint) (y : Transfer) (here : slice_get d.endpoints e ≡ Some x) (goes : x.ended ≡ None) (waits : waits_for e y ≡ true) (Halts : Type 0) where
  -- after what was harvested
  end_any : (g : DriverContent) (what : What) (o : Option EndCause) → g.endpoints ≡ d.endpoints → end_of x.desc.kind what ≡ o → (o ≢ None → Halts) → EndsAt d (after_end g e t x (is_stall what) o) x Halts
  end_any g what (Some cause) same is halts = ends_now d _ e x (record x { ended = Some cause }) Halts here refl refl (halts (λ no. cc)) (ap (λ (xs : List Endpoint). set xs e (record x { ended = Some cause })) same)
  end_any g what None same is halts = by (is_stall what)
    where
      -- a control endpoint goes on after a STALL
      by : (b : Bool) → EndsAt d (after_end g e t x b None) x Halts
      by true =
          let first = record g { harvested = g.harvested ++ t ∷ []; endpoints = set g.endpoints e (record x { next = None }); mends = g.mends ++ mends_of x } in
          ends_on d _ e x (record x { next = None }) Halts here goes
          ((behind_tells first e x.desc.name (suc t) (length g.transfers - suc t)).endpoints ∙ ap (λ (xs : List Endpoint). set xs e (record x { next = None })) same)
      by false = ends_on d _ e x (record x { next = next_after g.transfers e t }) Halts here goes (ap (λ (xs : List Endpoint). set xs e (record x { next = next_after g.transfers e t })) same)

  ended_as : (n : ℕ) (what : What) → (end_of x.desc.kind what ≢ None → Halts) → EndsAt d (harvested_as d m e t x y (founds.Ended n what)) x Halts
  ended_as n what halts = end_any (told_with d m t y what x.desc.name (noted d.notes y.place n)) what (end_of x.desc.kind what) refl refl halts

  done_as : (last : Bool) (n : ℕ) → EndsAt d (harvested_as d m e t x y (done_of last n)) x Halts
  done_as true n = ended_as n lines.Done (λ some. absurd (some refl))
  done_as false n = ends_itself d (harvested_as d m e t x y (founds.Moved n)) x Halts refl

  found_as : (a h last : Bool) (n : ℕ) (tok : Token) → (a ≡ false → h ≡ true → Halts)
      → EndsAt d (harvested_as d m e t x y (if a then founds.Active else (if h then founds.Ended n (halt_of tok) else done_of last n))) x Halts
  found_as true h last n tok halts = ends_itself d d x Halts refl
  found_as false true last n tok halts = ended_as n (halt_of tok) (λ some. halts refl refl)
  found_as false false last n tok halts = done_as last n

module _ (order : ℕ → ℕ) (out : List ℕ) (p : Parts) (parts : StructureSets) (hand : Hand) (e t : ℕ) (found : Found) (due : IsHarvestDue p e t found) (turns : AsynchronousTakesTurns p.driver) (fed : AreFed p.driver parts) where
  abbrev d : DriverContent
  d = p.driver

  abbrev x : Endpoint
  x = due.endpoint

  abbrev y : Transfer
  y = due.transfer

  abbrev n : ℕ
  n = 32 * x.queue

  abbrev i : ℕ
  i = y.qtds - y.left

  its : (y.endpoint ≡ e) × (y.reported ≡ false)
  its = waits_is e y due.waits

  its_alive : IsNotGone (slice_get p.driver.endpoints) due.transfer.endpoint
  its_alive = not_gone p.driver e due.endpoint due.transfer due.here (stands_alive due.endpoint (turns.asynchronous.endpoints e due.endpoint due.here) due.goes_on) its.0

  held : y.released ≡ false
  held = by_test y.released refl
    where
      by_test : (b : Bool) → y.released ≡ b → b ≡ false
      by_test false is = refl
      by_test true is = absurd (true≢false (sym (turns.turns.turns.told t (turn_of y) (ap (λ (o : Option Transfer). option_map turn_of o) due.there) its_alive is) ∙ its.1))

  at_place : IsAtPlace (note_in d.notes) y
  at_place = turns.turns.places t y due.there held

  piece : IsPieceFed y.sort (parts n) (sized y.sort i (note_at d.notes (piece_at (note_in d.notes) y.first i))) (piece_at (note_in d.notes) y.first i) (piece_at (note_in d.notes) y.first y.qtds)
  piece =
      let none : unpublished_of d t y ≡ 0 = none_yet d.command d.made y.qtds (nat_eq (suc t) (length d.transfers)) due.idle in
      let some = at_place.some in
      let most = at_place.most in
      fed.pieces t i y x due.there held (ap (slice_get d.endpoints) its.0 ∙ due.here) (omega (arith, none)) (omega (arith, some, most))

  here : parts n (32 * y.place) ≡ Some (Element piece.qtd)
  here = ap (λ (c : ℕ). parts n (32 * c)) at_place.place ∙ piece.here

  abbrev Halts : Type 0
  Halts = ((token_in p.memory y.place).active ≡ false) × ((token_in p.memory y.place).halted ≡ true)

  found_is : found ≡ found_in y.sort (nat_le y.left 1) (note_at d.notes y.place) (token_in p.memory y.place)
  found_is = due.tells ∙ found_by d p.memory y y.sort (moves_queued d y (turns.asynchronous.moves t y due.there))

  ends_at : EndsAt d (harvested_as d p.memory e t x y found) x Halts
  ends_at =
      let tok = token_in p.memory y.place in
      subst (λ (f : Found). EndsAt d (harvested_as d p.memory e t x y f) x Halts) (sym found_is)
      (found_as d p.memory e t x y due.here due.goes_on due.waits Halts tok.active tok.halted (ends_by y.sort (nat_le y.left 1) tok.total) (moved_of (note_at d.notes y.place).told tok.total) tok (λ off halted. (off, halted)))

  -- the content after it
  endpoints : (after_driver_row (rows.Harvest e t found) p).driver.endpoints ≡ (harvested_as d p.memory e t x y found).endpoints
  endpoints =
      ap (λ (o : Option Endpoint). (after_harvest d p.memory e t found o (slice_get d.transfers t)).endpoints) due.here
      ∙ ap (λ (o : Option Transfer). (after_harvest d p.memory e t found (Some x) o).endpoints) due.there
      ∙ ap (λ (b : Bool). (if b then served (harvested_as d p.memory e t x y found) e else d).endpoints) due.waits

  module _ (tells : Tells p.memory parts) (mem : IsQueuePart n (parts n)) (k : AreSentWhole order out hand n (parts n)) (halts : Halts) where
    token_is : token_in p.memory y.place ≡ piece.qtd.token
    token_is = token_is_read p.memory parts n y.place piece.qtd tells here

    halted : mem.queue.token.halted ≡ true
    halted = by_test mem.queue.token.halted refl
      where
        by_test : (b : Bool) → mem.queue.token.halted ≡ b → b ≡ true
        by_test true is = refl
        by_test false is =
            absurd (false≢true (sym (k.goes_on mem.queue (32 * y.place) piece.qtd mem.here is here (ap (λ (z : Token). z.active) (sym token_is) ∙ halts.0)) ∙ ap (λ (z : Token). z.halted) (sym token_is) ∙ halts.1))

    idle : mem.queue.token.active ≡ false
    idle = by_test mem.queue.token.active refl
      where
        by_test : (b : Bool) → mem.queue.token.active ≡ b → b ≡ false
        by_test false is = refl
        by_test true is = absurd (false≢true (sym (mem.sound.work is).goes_on ∙ halted))

    pub stopped : IsStopped parts n
    stopped = (mem.queue, mem.here, idle, halted)

pub harvest_stops : HarvestStops
harvest_stops order out p parts hand e t found due owners turns fed tells mem sent ended i z cause there still sends over =
    ⊎_elim (λ (was : slice_get p.driver.endpoints i ≡ Some z). ended i z cause was still sends over)
    (λ (now : (z.queue ≡ due.endpoint.queue) × (z.desc ≡ due.endpoint.desc) × Halts order out p parts hand e t found due turns fed).
    subst (λ (q : ℕ). IsStopped parts (32 * q)) (sym now.0)
    (stopped order out p parts hand e t found due turns fed tells mem (sent (ap (λ (r : EpDesc). receives r.name.way) (sym now.1) ∙ sends)) now.2))
    ((ends_at order out p parts hand e t found due turns fed).was i z cause (ap (λ (xs : List Endpoint). slice_get xs i) (sym (endpoints order out p parts hand e t found due turns fed)) ∙ there) (told_some z cause over).ended)
