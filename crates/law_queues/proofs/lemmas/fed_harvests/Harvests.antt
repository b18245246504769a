-- A harvest takes the first qTD out that no short packet passed over.
use Rattle.std.proofs.Common.{◌≡◌, ◌≢◌, ℕ, zero, suc, ◌+◌, ◌-◌, ◌*◌, ◌≤◌, Bool, true, false, ◌||◌, ◌==◌, cond, nat_le, List, ◌∷◌, ◌++◌, set, drop, slice_get, Option, Some, None, option_map, ap, sym, subst, ◌∙◌, ⊎_elim, refl, arith}
use Rattle.std.proofs.lemmas.Bool.{cases_eq, false≢true}
use Rattle.std.proofs.lemmas.Option.{same_Some}
use Rattle.law_common.proofs.Lists.{set_same, set_here, set_there}
use Rattle.law_queues.proofs.Common.{bulk_unstalled, none_of, own_out}
use Rattle.law_common.proofs.Numbers.{same_number, other_number}
use Rattle.law_driver.proofs.Common.{waits_is}
use Rattle.usb_base.specs.declared.endpoints.EndCause.{EndCause}
use Rattle.usb_base.specs.declared.reports.What.{What}
use Rattle.drv_table.specs.declared.content.Endpoint.{Endpoint}
use Rattle.drv_table.specs.declared.content.Transfer.{Transfer}
use Rattle.drv_table.specs.declared.content.QtdNote.{QtdNote}
use Rattle.drv_table.specs.declared.content.Command.{Command}
use Rattle.drv_table.specs.declared.content.Command.TheVariants as unfinished
use Rattle.drv_table.specs.declared.rows.Found.{Found}
use Rattle.drv_table.specs.declared.rows.Found.TheVariants as founds
use Rattle.drv_table.specs.declared.rows.DriverRow.TheVariants as rows
use Rattle.drv_table.specs.DriverContent.{DriverContent, no_note, waits_for, next_after}
use Rattle.drv_table.specs.Harvests.{note_at, token_in, noted, end_of, is_stall}
use Rattle.drv_table.specs.Parts.{Parts}
use Rattle.drv_table.specs.Kinds.{is_iso}
use Rattle.drv_table.specs.Rows.{after_driver_row}
use Rattle.drv_table.specs.Harvesting.{after_harvest, harvested_as, served, after_end, told_with, goes_on, stalled}
use Rattle.law_driver.specs.run_owners.Due.{IsHarvestDue}
use Rattle.claims_driver.specs.Leaving.{HasOwners}
use Rattle.claims_driver.specs.Owners.{Owner, QueueHead, NoteRuns, runs_of_endpoint, note_in}
use Rattle.law_driver.proofs.lemmas.run_owners.Stays.{same_item}
use Rattle.law_structures.specs.lent_structures.Structures.{StructureSets}
use Rattle.law_ring.specs.Told.{Endpoint as Told}
use Rattle.law_driver.specs.chained_transfers.Turns.{turn_of}
use Rattle.law_driver.specs.chained_transfers.AsynchronousTurns.{AsynchronousTakesTurns}
use Rattle.law_driver.specs.chained_transfers.Out.{pieces_from, passed, out_of_transfer, out_of, out_now}
use Rattle.law_driver.proofs.lemmas.chained_transfers.Ways.{found_by, moves_queued}
use Rattle.law_driver.proofs.lemmas.chained_transfers.Harvested.{not_served, note_same}
use Rattle.law_driver_ring.specs.fed_queues.Places.{AreStillOut, IsThere}
use Rattle.law_queues.specs.fed_lends.Commands.{QueuesStand}
use Rattle.law_queues.proofs.lemmas.fed_lends.Asked.{set_which}
use Rattle.law_queues.specs.fed_harvests.Harvests.{IsLike, Harvested, with_out, HarvestLeaves, UnstalledStands, HarvestStands, WaitStands}
use Rattle.law_queues.proofs.lemmas.fed_harvests.Like.{alike_stands}
use Rattle.law_queues.proofs.lemmas.fed_harvests.Lists.{all_of, all_out, all_same, splits, all_set}
use Rattle.law_driver_ring.proofs.lemmas.fed_queues.Places.{SameQueues, same_ends, met_stays, streams_stay}
use Rattle.law_driver.proofs.lemmas.chained_transfers.BulkAndControl.{not_iso, bulk_is_asynchronous}
use Rattle.law_driver.proofs.lemmas.chained_transfers.Staying.{stands_alive}
use Rattle.law_queues.specs.mended_heads.Stalling.{IsStall}

-- ---- a content after a harvest

module _ (d : DriverContent) (e t : ℕ) (x : Endpoint) (y : Transfer) (idle : d.command ≡ None) (here : slice_get d.endpoints e ≡ Some x) (there : slice_get d.transfers t ≡ Some y) where
  pub record Becomes (f : DriverContent) : Type 0 where
    pub command : f.command ≡ d.command
    pub made : f.made ≡ d.made
    pub slots : f.book.slots ≡ d.book.slots
    pub waiting : f.waiting ≡ d.waiting
    pub rung : f.rung ≡ d.rung
    pub moved : ℕ
    pub notes : f.notes ≡ noted d.notes y.place moved
    pub x_now : Endpoint
    pub endpoints : f.endpoints ≡ set d.endpoints e x_now
    pub x_like : (x_now.queue ≡ x.queue) × (x_now.dummy ≡ x.dummy) × (x_now.desc ≡ x.desc) × (x_now.linked ≡ x.linked) × (x_now.gone ≡ x.gone)
    pub y_now : Transfer
    pub transfers : f.transfers ≡ set d.transfers t y_now
    pub y_like : (y_now.endpoint ≡ y.endpoint) × (y_now.first ≡ y.first) × (y_now.qtds ≡ y.qtds) × (y_now.released ≡ y.released) × (y_now.sort ≡ y.sort)

  pub note_field : {A : Type 0} (f : QtdNote → A) (n : ℕ) → f (record (note_at d.notes y.place) { moved = n }) ≡ f (note_at d.notes y.place) → (b : ℕ) → f (note_at (noted d.notes y.place n) b) ≡ f (note_at d.notes b)
  note_field f n same b = same_item f d.notes y.place (record (note_at d.notes y.place) { moved = n }) no_note same b

  pub like : (f : DriverContent) → Becomes f → IsLike d f
  like f k = record {
    idle = idle;
    idle_now = k.command ∙ idle;
    slots = k.slots;
    waiting = k.waiting;
    rung = k.rung;
    notes = λ b. ap (λ (ns : List QtdNote). note_in ns b) k.notes ∙ note_same d.notes y.place k.moved b;
    next = λ b. ap (λ (ns : List QtdNote). (note_at ns b).next) k.notes ∙ note_field (λ (q : QtdNote). q.next) k.moved refl b;
    buffer = λ b. ap (λ (ns : List QtdNote). (note_at ns b).buffer) k.notes ∙ note_field (λ (q : QtdNote). q.buffer) k.moved refl b;
    told = λ b. ap (λ (ns : List QtdNote). (note_at ns b).told) k.notes ∙ note_field (λ (q : QtdNote). q.told) k.moved refl b;
    ends = λ i z at.
        ⊎_elim (λ (own : (i ≡ e) × (z ≡ k.x_now)).
        record {
          endpoint = x;
          there = ap (slice_get d.endpoints) own.0 ∙ here;
          queue = ap (λ (r : Endpoint). r.queue) own.1 ∙ k.x_like.0;
          dummy = ap (λ (r : Endpoint). r.dummy) own.1 ∙ k.x_like.1;
          desc = ap (λ (r : Endpoint). r.desc) own.1 ∙ k.x_like.2;
          linked = ap (λ (r : Endpoint). r.linked) own.1 ∙ k.x_like.3;
          gone = ap (λ (r : Endpoint). r.gone) own.1 ∙ k.x_like.4;
        })
        (λ (other : (i ≢ e) × (slice_get d.endpoints i ≡ Some z)). record { endpoint = z; there = other.1; queue = refl; dummy = refl; desc = refl; linked = refl; gone = refl })
        (set_which d.endpoints e i x k.x_now z here (sym (ap (λ (xs : List Endpoint). slice_get xs i) k.endpoints) ∙ at));
    ends_now = λ i z at.
        ⊎_elim (λ (own : i ≡ e).
        let same : z ≡ x = same_Some z x (sym at ∙ ap (slice_get d.endpoints) own ∙ here) in
        record {
          endpoint = k.x_now;
          there = ap (slice_get f.endpoints) own ∙ ap (λ (xs : List Endpoint). slice_get xs e) k.endpoints ∙ set_here d.endpoints e x k.x_now here;
          queue = ap (λ (r : Endpoint). r.queue) same ∙ sym k.x_like.0;
          dummy = ap (λ (r : Endpoint). r.dummy) same ∙ sym k.x_like.1;
          desc = ap (λ (r : Endpoint). r.desc) same ∙ sym k.x_like.2;
          linked = ap (λ (r : Endpoint). r.linked) same ∙ sym k.x_like.3;
          gone = ap (λ (r : Endpoint). r.gone) same ∙ sym k.x_like.4;
        })
        (λ (other : i ≢ e). record { endpoint = z; there = ap (λ (xs : List Endpoint). slice_get xs i) k.endpoints ∙ set_there d.endpoints e i k.x_now other ∙ at; queue = refl; dummy = refl; desc = refl; linked = refl; gone = refl }) (cases_eq i e);
    transfers = λ u z at.
        ⊎_elim (λ (own : (u ≡ t) × (z ≡ k.y_now)).
        record {
          transfer = y;
          there = ap (slice_get d.transfers) own.0 ∙ there;
          endpoint = ap (λ (r : Transfer). r.endpoint) own.1 ∙ k.y_like.0;
          first = ap (λ (r : Transfer). r.first) own.1 ∙ k.y_like.1;
          qtds = ap (λ (r : Transfer). r.qtds) own.1 ∙ k.y_like.2;
          released = ap (λ (r : Transfer). r.released) own.1 ∙ k.y_like.3;
          sort = ap (λ (r : Transfer). r.sort) own.1 ∙ k.y_like.4;
        })
        (λ (other : (u ≢ t) × (slice_get d.transfers u ≡ Some z)). record { transfer = z; there = other.1; endpoint = refl; first = refl; qtds = refl; released = refl; sort = refl })
        (set_which d.transfers t u y k.y_now z there (sym (ap (λ (xs : List Transfer). slice_get xs u) k.transfers) ∙ at));
  }

  -- ---- what is out

  now_of : (c : DriverContent) (i : ℕ) → c.command ≡ None → out_now c i ≡ all_of (note_in c.notes) i c.transfers
  now_of c i none = ap (λ o. out_of (note_in c.notes) i o c.made c.transfers) none ∙ all_out (note_in c.notes) i c.made c.transfers

  later_of : (f : DriverContent) (k : Becomes f) (i : ℕ) → out_now f i ≡ all_of (note_in d.notes) i (set d.transfers t k.y_now)
  later_of f k i =
      now_of f i (k.command ∙ idle) ∙ ap (λ (ns : List QtdNote). all_of (note_in ns) i f.transfers) k.notes
      ∙ ap (λ (ts : List Transfer). all_of (note_in (noted d.notes y.place k.moved)) i ts) k.transfers
      ∙ all_same (note_in d.notes) (note_in (noted d.notes y.place k.moved)) i (set d.transfers t k.y_now) (note_same d.notes y.place k.moved)

  taken : (f : DriverContent) (k : Becomes f) (r : List ℕ) → out_of_transfer (note_in d.notes) e 0 y ≡ 32 * y.place ∷ r → out_of_transfer (note_in d.notes) e 0 k.y_now ≡ r → Harvested d f e t y
  taken f k r first rest =
      let s = splits (note_in d.notes) e d.transfers t y k.y_now (32 * y.place) r there first rest in
      record {
        before = s.before;
        behind = s.behind;
        was = now_of d e idle ∙ s.was;
        now = later_of f k e ∙ s.is;
        passed = λ p among. let b = s.passed_over p among in record { number = b.number; transfer = b.transfer; earlier = b.earlier; here = b.here; among = b.among };
      }

  same_out : (f : DriverContent) (k : Becomes f) (i : ℕ) → y.endpoint ≢ i → out_now f i ≡ out_now d i
  same_out f k i differs =
      later_of f k i
      ∙ all_set (note_in d.notes) i d.transfers t y k.y_now there (none_of (note_in d.notes) i k.y_now (λ same. differs (sym k.y_like.0 ∙ same)) ∙ sym (none_of (note_in d.notes) i y differs))
      ∙ sym (now_of d i idle)

-- ---- the three ways

piece_list : (note : ℕ → NoteRuns) (b n : ℕ) → 1 ≤ n → pieces_from note b n ≡ 32 * b ∷ pieces_from note (note b).next (n - 1)
piece_list note b zero some = absurd (omega arith)
piece_list note b (suc n) some = let less : n ≡ suc n - 1 = omega arith in ap (λ (k : ℕ). 32 * b ∷ pieces_from note (note b).next k) less

number_of : Owner → ℕ
number_of (QueueHead e) = e
number_of _ = 0

module _ (p : Parts) (e t : ℕ) (found : Found) (due : IsHarvestDue p e t found) (owners : HasOwners p.driver) (turns : AsynchronousTakesTurns p.driver) (member streams : ℕ → Bool) (ends : ℕ → Told) (parts : StructureSets) (order : ℕ → ℕ → ℕ) (out : ℕ → List ℕ) (old : QueuesStand p.driver member streams ends parts order out) where
  d : DriverContent
  d = p.driver

  x : Endpoint
  x = due.endpoint

  y : Transfer
  y = due.transfer

  pub remains : due.endpoint.gone ≡ false
  remains = stands_alive due.endpoint (turns.asynchronous.endpoints e due.endpoint due.here) due.goes_on

  pub held : due.transfer.released ≡ false
  held = by due.transfer.released refl
    where
      by : (b : Bool) → due.transfer.released ≡ b → due.transfer.released ≡ false
      by false is = is
      by true is =
          let own = waits_is e due.transfer due.waits in
          absurd (false≢true (sym own.1 ∙ turns.turns.turns.told t (turn_of due.transfer) (ap (option_map turn_of) due.there)
          (record { endpoint = due.endpoint; here = ap (slice_get p.driver.endpoints) own.0 ∙ due.here; gone = remains }) is))

  pub rest_of : List ℕ
  rest_of = pieces_from (note_in p.driver.notes) (note_in p.driver.notes due.transfer.place).next (due.transfer.left - 1)

  pub all_pieces : pieces_from (note_in p.driver.notes) due.transfer.place due.transfer.left ≡ 32 * due.transfer.place ∷ rest_of
  unfolding rest_of
  all_pieces = piece_list (note_in p.driver.notes) due.transfer.place due.transfer.left (turns.turns.places t due.transfer due.there held).some

  pub first_out : out_of_transfer (note_in p.driver.notes) e 0 due.transfer ≡ 32 * due.transfer.place ∷ rest_of
  first_out =
      own_out (note_in p.driver.notes) e due.transfer (waits_is e due.transfer due.waits).0 held
      ∙ ap (λ (b : Bool). drop (0 + passed b) (pieces_from (note_in p.driver.notes) due.transfer.place due.transfer.left)) (waits_is e due.transfer due.waits).1 ∙ all_pieces

  pub apart : (i : ℕ) (z : Endpoint) → slice_get p.driver.endpoints i ≡ Some z → z.gone ≡ false → i ≢ e → 32 * z.queue ≢ 32 * due.endpoint.queue
  unfolding number_of
  apart i z at kept differs same =
      let bare : (j : ℕ) (w : Endpoint) → slice_get p.driver.endpoints j ≡ Some w → w.gone ≡ false → is_iso w.desc.kind || w.gone ≡ false =
      λ j w there still. let s = turns.asynchronous.endpoints j w there in ap (λ (b : Bool). b || w.gone) (not_iso w.desc s.asynchronous) ∙ still in
      let one = owners.owned.each.queue i (runs_of_endpoint z) (ap (option_map runs_of_endpoint) at) (bare i z at kept) in
      let two = owners.owned.each.queue e (runs_of_endpoint due.endpoint) (ap (option_map runs_of_endpoint) due.here) (bare e due.endpoint due.here remains) in
      let block : z.queue ≡ due.endpoint.queue = omega (arith, same) in
      differs (ap number_of (sym one.owned ∙ ap owners.owner block ∙ two.owned))

  leaves_by : (f : DriverContent) (k : Becomes p.driver e t due.endpoint due.transfer due.idle due.here due.there f) → out_of_transfer (note_in p.driver.notes) e 0 k.y_now ≡ rest_of
      → (h : Harvested p.driver f e t due.transfer) × QueuesStand f member streams ends parts order (with_out out (32 * due.endpoint.queue) (h.before ++ h.behind))
  leaves_by f k rest =
      let h = taken p.driver e t due.endpoint due.transfer due.idle due.here due.there f k rest_of first_out rest in
      let l = like p.driver e t due.endpoint due.transfer due.idle due.here due.there f k in
      let at = 32 * due.endpoint.queue in
      let still : AreStillOut f (with_out out at (h.before ++ h.behind)) = λ i z here met.
      let w = l.ends i z here in
      ⊎_elim
      (λ (own : i ≡ e).
      let same : w.endpoint ≡ due.endpoint = same_Some w.endpoint due.endpoint (sym w.there ∙ ap (slice_get p.driver.endpoints) own ∙ due.here) in
      let block : 32 * z.queue ≡ at = ap (λ (q : ℕ). 32 * q) (w.queue ∙ ap (λ (r : Endpoint). r.queue) same) in
      ap (λ (n : ℕ). cond (n == at) (h.before ++ h.behind) (out n)) block ∙ ap (λ (b : Bool). cond b (h.before ++ h.behind) (out at)) (same_number at)
      ∙ sym h.now ∙ ap (out_now f) (sym own))
      (λ (other : i ≢ e).
      let differs : 32 * z.queue ≢ at = λ same. apart i w.endpoint w.there (sym w.gone ∙ met.kept) other (ap (λ (q : ℕ). 32 * q) (sym w.queue) ∙ same) in
      ap (λ (b : Bool). cond b (h.before ++ h.behind) (out (32 * z.queue))) (other_number (32 * z.queue) at differs)
      ∙ ap (λ (q : ℕ). out (32 * q)) w.queue ∙ old.out_are i w.endpoint w.there (idle_there w.endpoint (sym w.gone ∙ met.kept))
      ∙ sym (same_out p.driver e t due.endpoint due.transfer due.idle due.here due.there f k i (λ same. other (sym same ∙ (waits_is e due.transfer due.waits).0))))
      (cases_eq i e) in
      (h, alike_stands p.driver f member streams ends parts order out (with_out out at (h.before ++ h.behind)) l still old)
    where
      no_open : (c : ℕ) → p.driver.command ≡ Some (unfinished.Open c) → ⊥
      no_open c is = let none : ◌≡◌ {A = Option Command} None (Some (unfinished.Open c)) = sym due.idle ∙ is in cc

      idle_there : (z : Endpoint) → z.gone ≡ false → IsThere p.driver z
      idle_there z kept = record { linked = no_open z.queue; kept = kept }

  told_rest : (z : Transfer) → z ≡ record due.transfer { reported = true } → out_of_transfer (note_in p.driver.notes) e 0 z ≡ rest_of
  told_rest z is =
      own_out (note_in p.driver.notes) e z (ap (λ (r : Transfer). r.endpoint) is ∙ (waits_is e due.transfer due.waits).0) (ap (λ (r : Transfer). r.released) is ∙ held)
      ∙ ap (λ (r : Transfer). drop (0 + passed r.reported) (pieces_from (note_in p.driver.notes) r.place r.left)) is
      ∙ ap (λ xs. drop 1 xs) all_pieces

  -- it becomes this, and its transfer is reported
  EndsAs : DriverContent → Type 0
  EndsAs f = (k : Becomes p.driver e t due.endpoint due.transfer due.idle due.here due.there f) × (k.y_now ≡ record due.transfer { reported = true })

  ended_by : (n : ℕ) (what : What) (o : Option EndCause) → (IsStall due.endpoint.desc.kind (founds.Ended n what) → ⊥) → end_of due.endpoint.desc.kind what ≡ o
      → EndsAs (served (after_end (told_with p.driver p.memory t due.transfer what due.endpoint.desc.name (noted p.driver.notes due.transfer.place n)) e t due.endpoint (is_stall what) o) e)
  unfolding EndsAs
  ended_by n what (Some cause) unstalled is = (
    record {
      command = refl;
      made = refl;
      slots = refl;
      waiting = refl;
      rung = refl;
      moved = n;
      notes = refl;
      x_now = record due.endpoint { ended = Some cause };
      endpoints = refl;
      x_like = (refl, refl, refl, refl, refl);
      y_now = record due.transfer { reported = true };
      transfers = refl;
      y_like = (refl, refl, refl, refl, refl);
    },
    refl,
  )
  ended_by n what None unstalled is = by (is_stall what) (off (is_stall what) refl)
    where
      off : (b : Bool) → is_stall what ≡ b → b ≡ false
      off false stall = refl
      off true stall = absurd (unstalled (stall, is))

      by : (b : Bool) → b ≡ false
          → EndsAs (served (cond b (stalled (told_with p.driver p.memory t due.transfer what due.endpoint.desc.name (noted p.driver.notes due.transfer.place n)) e t due.endpoint) (goes_on (told_with p.driver p.memory t due.transfer what due.endpoint.desc.name (noted p.driver.notes due.transfer.place n)) e t due.endpoint)) e)
      by true none = absurd (false≢true (sym none))
      by false none = (
        record {
          command = refl;
          made = refl;
          slots = refl;
          waiting = refl;
          rung = refl;
          moved = n;
          notes = refl;
          x_now = record due.endpoint { next = next_after (set p.driver.transfers t (record due.transfer { reported = true })) e t };
          endpoints = refl;
          x_like = (refl, refl, refl, refl, refl);
          y_now = record due.transfer { reported = true };
          transfers = refl;
          y_like = (refl, refl, refl, refl, refl);
        },
        refl,
      )

  Leaves : DriverContent → Type 0
  Leaves f = (h : Harvested p.driver f e t due.transfer) × QueuesStand f member streams ends parts order (with_out out (32 * due.endpoint.queue) (h.before ++ h.behind))

  read : (n : Found) → (IsStall due.endpoint.desc.kind n → ⊥) → n ≢ founds.Active → ((k : ℕ) → n ≢ founds.Served k) → Leaves (served (harvested_as p.driver p.memory e t due.endpoint due.transfer n) e)
  unfolding Leaves EndsAs rest_of
  read founds.Active unstalled differs none = absurd (differs refl)
  read (founds.Served k) unstalled differs none = absurd (none k refl)
  read (founds.Ended n what) unstalled differs none =
      let k = ended_by n what (end_of due.endpoint.desc.kind what) unstalled refl in
      leaves_by (served (harvested_as p.driver p.memory e t due.endpoint due.transfer (founds.Ended n what)) e) k.0 (told_rest k.0.y_now k.1)
  read (founds.Moved n) unstalled differs none =
      let z : Transfer = record due.transfer { place = (note_at p.driver.notes due.transfer.place).next; left = due.transfer.left - 1 } in
      leaves_by (served (harvested_as p.driver p.memory e t due.endpoint due.transfer (founds.Moved n)) e)
      (record {
        command = refl;
        made = refl;
        slots = refl;
        waiting = refl;
        rung = refl;
        moved = n;
        notes = refl;
        x_now = due.endpoint;
        endpoints = sym (set_same p.driver.endpoints e due.endpoint due.here);
        x_like = (refl, refl, refl, refl, refl);
        y_now = z;
        transfers = refl;
        y_like = (refl, refl, refl, refl, refl);
      })
      (own_out (note_in p.driver.notes) e z (waits_is e due.transfer due.waits).0 held
      ∙ ap (λ (b : Bool). drop (0 + passed b) (pieces_from (note_in p.driver.notes) z.place z.left)) (waits_is e due.transfer due.waits).1)

  row_leaves : Leaves (after_harvest p.driver p.memory e t found (Some due.endpoint) (Some due.transfer)) → Leaves (after_driver_row (rows.Harvest e t found) p).driver
  unfolding Leaves
  row_leaves k =
      subst (λ (o : Option Endpoint). Leaves (after_harvest p.driver p.memory e t found o (slice_get p.driver.transfers t))) (sym due.here)
      (subst (λ (o : Option Transfer). Leaves (after_harvest p.driver p.memory e t found (Some due.endpoint) o)) (sym due.there) k)

  pub leaves : found ≢ founds.Active → (IsStall due.endpoint.desc.kind found → ⊥) → HarvestLeaves p e t found due member streams ends parts order out
  unfolding Leaves
  leaves differs unstalled =
      let is = due.tells ∙ found_by p.driver p.memory due.transfer due.transfer.sort (moves_queued p.driver due.transfer (turns.asynchronous.moves t due.transfer due.there)) in
      let none = not_served due.transfer.sort (nat_le due.transfer.left 1) (note_at p.driver.notes due.transfer.place) (token_in p.memory due.transfer.place) found is in
      let k = row_leaves (subst (λ (b : Bool). Leaves (cond b (served (harvested_as p.driver p.memory e t due.endpoint due.transfer found) e) p.driver)) (sym due.waits) (read found unstalled differs none)) in
      record { harvested = k.0; stand = k.1 }

pub unstalled_stands : UnstalledStands
unstalled_stands p e t found member streams ends parts order out due differs unstalled owners turns old = leaves p e t found due owners turns member streams ends parts order out old differs unstalled

pub harvest_stands : HarvestStands
harvest_stands p e t found member streams ends parts order out due differs owners turns old =
    unstalled_stands p e t found member streams ends parts order out due differs (bulk_unstalled due.endpoint.desc.kind found (turns.bulk.endpoints e due.endpoint due.here).bulk.kind) owners (bulk_is_asynchronous p.driver turns) old

-- ---- where it isn't done

pub wait_stands : WaitStands
wait_stands p e t member streams ends parts order out due old =
    subst (λ (o : Option Endpoint). Stand (after_harvest p.driver p.memory e t founds.Active o (slice_get p.driver.transfers t))) (sym due.here)
    (subst (λ (o : Option Transfer). Stand (after_harvest p.driver p.memory e t founds.Active (Some due.endpoint) o)) (sym due.there) (by (waits_for e due.transfer)))
  where
    Stand : DriverContent → Type 0
    Stand f = QueuesStand f member streams ends parts order out

    by : (b : Bool) → Stand (cond b (served p.driver e) p.driver)
    by true = record {
      met = met_stays p.driver (served p.driver e) member same old.met;
      streams_are = streams_stay p.driver (served p.driver e) streams ends same old.streams_are;
      fed = record { dummies = old.fed.dummies; pieces = old.fed.pieces; publishes = λ b words is. let e : ◌≡◌ {A = Option Command} None (Some (unfinished.Publish b words)) = sym due.idle ∙ is in absurd (cc) };
      last = record { dummies = old.last.dummies; taken = old.last.taken; sorted = old.last.sorted };
      out_are = λ i z here there. old.out_are i z here (record { linked = there.linked; kept = there.kept });
    }
      where
        same : SameQueues p.driver (served p.driver e)
        same = same_ends p.driver (served p.driver e) (record { waiting = refl; rung = refl; opens = λ c is. is }) (record { waiting = refl; rung = refl; opens = λ c is. is }) refl
    by false = old
