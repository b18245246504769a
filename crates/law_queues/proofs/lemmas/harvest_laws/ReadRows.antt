-- The row of a harvest.
use Rattle.std.proofs.Common.{◌≡◌, ◌≢◌, ℕ, zero, suc, ◌-◌, ◌*◌, ◌≤◌, ◌||◌, nat_le, Bool, true, false, if◌then◌else◌, List, [], slice_get, Some, None, option_map, ap, refl, sym, subst, ◌∙◌, inl, arith}
use Rattle.std.proofs.lemmas.Option.{same_Some}
use Rattle.law_driver.proofs.Common.{waits_is, same_endpoint}
use Rattle.law_queues.proofs.Common.{none_unpublished, same_piece, after_is, all_read}
use Rattle.mem_runs.specs.Book.{slot_of}
use Rattle.law_structures.specs.lent_structures.Structures.{Structures, StructureSets, Tells}
use Rattle.law_ring.specs.QueueParts.{IsQueuePart}
use Rattle.law_ring.specs.Hand.{Hand}
use Rattle.law_ring.specs.Told.{Told}
use Rattle.usb_base.specs.declared.packets.EpKind.{EpKind}
use Rattle.usb_base.specs.declared.packets.EpKind.TheVariants as kinds
use Rattle.usb_base.specs.declared.packets.Way.{Way}
use Rattle.usb_base.specs.declared.packets.Way.TheVariants as ways
use Rattle.drv_table.specs.declared.content.Endpoint.{Endpoint}
use Rattle.drv_table.specs.declared.content.Transfer.{Transfer}
use Rattle.drv_table.specs.declared.content.QtdNote.{QtdNote}
use Rattle.drv_table.specs.declared.content.Sort.{Sort}
use Rattle.drv_table.specs.declared.rows.DriverRow.TheVariants as rows
use Rattle.drv_table.specs.declared.rows.Found.{Found}
use Rattle.drv_table.specs.declared.rows.Found.TheVariants as founds
use Rattle.drv_table.specs.DriverContent.{DriverContent}
use Rattle.drv_table.specs.Harvests.{note_at, token_in, moved_of, halt_of, done_of, ends_by}
use Rattle.drv_table.specs.Parts.{Parts}
use Rattle.drv_table.specs.Harvesting.{served}
use Rattle.drv_table.specs.Rows.{after_driver_row}
use Rattle.claims_driver.specs.Owners.{Element, QueueHead, IsPlaced, is_descriptor, runs_of_endpoint, runs_of_transfer, note_in}
use Rattle.claims_driver.specs.Leaving.{HasOwners}
use Rattle.law_driver.specs.run_owners.Due.{IsHarvestDue}
use Rattle.law_driver.specs.chained_transfers.Bulk.{sort_by}
use Rattle.law_driver.specs.chained_transfers.Chains.{piece_at}
use Rattle.law_driver.specs.chained_transfers.Turns.{IsAtPlace, Turn, turn_of, turn_in, AreReportedTo}
use Rattle.law_driver.specs.AsynchronousScripts.{IsKindOf}
use Rattle.law_driver.specs.chained_transfers.AsynchronousTurns.{AsynchronousTakesTurns}
use Rattle.law_driver.specs.chained_transfers.Out.{out_now}
use Rattle.law_driver.proofs.lemmas.chained_transfers.BulkAndControl.{not_iso}
use Rattle.law_driver.proofs.lemmas.chained_transfers.Ways.{found_by, moves_queued}
use Rattle.law_driver_ring.specs.told_harvests.Held.{IsOneFrom, IsRead, AreRead}
use Rattle.law_queues.specs.harvest_laws.Holds.{IsNextOf}
use Rattle.law_queues.specs.harvest_laws.RowLaws.{IsReadNext}
use Rattle.law_queues.specs.harvest_laws.Outs.{IsOutEarlier}
use Rattle.law_queues.proofs.lemmas.harvest_laws.Places.{one_later, owner_is}
use Rattle.law_controller.specs.controlled_streams.Reported.{IsReported}
use Rattle.law_driver_ring.specs.fed_queues.Fed.{AreFed, IsPieceFed, is_request}
use Rattle.law_driver_ring.proofs.lemmas.fed_queues.Sized.{told_fed}
use Rattle.law_queues.specs.harvest_laws.Told.{ToldStands}
use Rattle.law_queues.specs.harvest_laws.ToldLaws.{HarvestReports}
use Rattle.law_queues.proofs.lemmas.harvest_laws.Standing.{alike_is_told}
use Rattle.law_queues.proofs.lemmas.harvest_laws.ToldHarvesting.{harvested_is_told}
use Rattle.law_driver.specs.endpoint_lives.Lives.{told_end}
use Rattle.law_driver.proofs.lemmas.endpoint_lives.Lives.{none_told}
use Rattle.law_driver.proofs.lemmas.chained_transfers.Staying.{told_stands_alive}
use Rattle.law_driver.proofs.lemmas.chained_transfers.Holding.{stands_unreleased}

fed_read : (sort : Sort) (part : Structures) (note : QtdNote) (b end : ℕ) → IsPieceFed sort part note b end → IsRead part note b
fed_read sort part note b end k = record { qtd = k.qtd; here = k.here; long = k.long; buffer = k.buffer; places = k.places }

-- a bulk endpoint takes no requests
no_request : (way : Way) (kind : EpKind) → IsKindOf way kind → kind ≡ kinds.Bulk → is_request (sort_by way) ≡ false
no_request ways.Ctl kind is bulk = absurd (let both : kinds.Control ≡ kinds.Bulk = sym is ∙ bulk in cc)
no_request _ kind is bulk = refl

module _ (p : Parts) (e t : ℕ) (found : Found) (due : IsHarvestDue p e t found) (owners : HasOwners p.driver) (turns : AsynchronousTakesTurns p.driver) where
  -- what isn't reported of an endpoint that goes on isn't given back
  kept : (u : ℕ) (z : Transfer) (w : Endpoint) → slice_get p.driver.transfers u ≡ Some z → slice_get p.driver.endpoints z.endpoint ≡ Some w → told_end w ≡ None → z.reported ≡ false → z.released ≡ false
  kept u z w there here goes waits = stands_unreleased p.driver u z w (turns.asynchronous.endpoints z.endpoint w here) turns.turns there here goes waits

  goes : told_end due.endpoint ≡ None
  goes = none_told due.endpoint due.goes_on

  next_waits : (f u : ℕ) (w : Endpoint) (z : Transfer) → IsNextOf p.driver f u w z → (z.endpoint ≡ f) × (z.reported ≡ false)
  next_waits f u w z is =
      let n = subst (AreReportedTo (turn_in p.driver.transfers) f) is.next (turns.turns.turns.next f w is.endpoint is.going) in
      let same : n.transfer ≡ turn_of z = same_Some n.transfer (turn_of z) (sym n.here ∙ ap (option_map turn_of) is.transfer) in
      (ap (λ (r : Turn). r.endpoint) (sym same) ∙ n.endpoint, ap (λ (r : Turn). r.reported) (sym same) ∙ n.waits)

  pieces_of : (u : ℕ) (z : Transfer) → slice_get p.driver.transfers u ≡ Some z → z.released ≡ false → (c : ℕ) → IsOneFrom (note_at p.driver.notes) z.first z.qtds c → owners.owner c ≡ Element u
  pieces_of u z there held c one = owner_is (slot_of p.driver.book.slots) owners.owner p.driver.notes u z.first z.qtds c (owners.owned.each.pieces u (runs_of_transfer z) (ap (option_map runs_of_transfer) there) held) one

  own : (due.transfer.endpoint ≡ e) × (due.transfer.reported ≡ false)
  own = waits_is e due.transfer due.waits

  its_end : slice_get p.driver.endpoints due.transfer.endpoint ≡ Some due.endpoint
  its_end = ap (slice_get p.driver.endpoints) own.0 ∙ due.here

  held : due.transfer.released ≡ false
  held = kept t due.transfer due.endpoint due.there its_end goes own.1

  at : IsAtPlace (note_in p.driver.notes) due.transfer
  at = turns.turns.places t due.transfer due.there held

  its_place : IsOneFrom (note_at p.driver.notes) due.transfer.first due.transfer.qtds due.transfer.place
  its_place =
      let some = at.some in
      let most = at.most in
      one_later p.driver.notes due.transfer.first (due.transfer.qtds - due.transfer.left) due.transfer.left due.transfer.qtds due.transfer.place (omega (arith, most))
      (first_one due.transfer.left (piece_at (note_in p.driver.notes) due.transfer.first (due.transfer.qtds - due.transfer.left)) some at.place)
    where
      first_one : (l b : ℕ) → 1 ≤ l → due.transfer.place ≡ b → IsOneFrom (note_at p.driver.notes) b l due.transfer.place
      first_one zero b some is = absurd (omega (arith, some))
      first_one (suc l) b some is = inl is

  pub read_next : IsReadNext p.driver e t due.endpoint due.transfer
  read_next = record {
    next = record { endpoint = due.here; going = goes; next = due.next; transfer = due.there };
    command = due.idle;
    kept = held;
    waits = next_waits;
    unreleased = kept;
    places = λ u z there waits still. turns.turns.places u z there still;
    others = λ u z there waits still differs one. differs (same_piece u t (sym (pieces_of u z there still due.transfer.place one) ∙ pieces_of t due.transfer due.there held due.transfer.place its_place));
  }

  pub queue_alone : (k : ℕ) (z : Endpoint) → slice_get p.driver.endpoints k ≡ Some z → z.gone ≡ false → z.queue ≡ due.endpoint.queue → k ≡ e
  queue_alone k z there alone same =
      same_endpoint k e (sym (placed k z there alone).owned ∙ ap owners.owner same
      ∙ (placed e due.endpoint due.here (told_stands_alive due.endpoint (turns.asynchronous.endpoints e due.endpoint due.here)
      goes)).owned)
    where
      placed : (i : ℕ) (w : Endpoint) → slice_get p.driver.endpoints i ≡ Some w → w.gone ≡ false → IsPlaced (slot_of p.driver.book.slots) owners.owner w.queue (QueueHead i)
      placed i w here alone =
          let s = turns.asynchronous.endpoints i w here in
          owners.owned.each.queue i (runs_of_endpoint w) (ap (option_map runs_of_endpoint) here) (ap (λ k. k || w.gone) (not_iso w.desc s.asynchronous) ∙ alone)

  tells_all : due.endpoint.desc.kind ≡ kinds.Bulk → is_request due.transfer.sort ≡ false
  tells_all bulk =
      let moves = turns.asynchronous.moves t due.transfer due.there in
      let same : moves.endpoint ≡ due.endpoint = same_Some moves.endpoint due.endpoint (sym moves.here ∙ its_end) in
      ap is_request moves.sort ∙ ap (λ (w : Endpoint). is_request (sort_by w.desc.name.way)) same
      ∙ no_request due.endpoint.desc.name.way due.endpoint.desc.kind (turns.asynchronous.endpoints e due.endpoint due.here).asynchronous.kind bulk

  pub reads : due.endpoint.desc.kind ≡ kinds.Bulk → (parts : StructureSets) → AreFed p.driver parts → AreRead (parts (32 * due.endpoint.queue)) (note_at p.driver.notes) due.transfer.first due.transfer.qtds
  reads bulk parts fed =
      all_read (parts (32 * due.endpoint.queue)) p.driver.notes due.transfer.first due.transfer.qtds
      (λ i below.
      let none = none_unpublished p.driver t due.transfer due.idle in
      fed_read due.transfer.sort (parts (32 * due.endpoint.queue)) (note_at p.driver.notes (piece_at (note_in p.driver.notes) due.transfer.first i)) (piece_at (note_in p.driver.notes) due.transfer.first i) (piece_at (note_in p.driver.notes) due.transfer.first due.transfer.qtds)
      (told_fed due.transfer.sort (parts (32 * due.endpoint.queue)) i (note_at p.driver.notes (piece_at (note_in p.driver.notes) due.transfer.first i)) (piece_at (note_in p.driver.notes) due.transfer.first i) (piece_at (note_in p.driver.notes) due.transfer.first due.transfer.qtds) (tells_all bulk)
      (fed.pieces t i due.transfer due.endpoint due.there held its_end (omega (arith, none)) below)))

  pub its_sort : is_descriptor due.transfer.sort ≡ false
  its_sort = moves_queued p.driver due.transfer (turns.asynchronous.moves t due.transfer due.there)

  pub not_active : found ≢ founds.Active → (token_in p.memory due.transfer.place).active ≡ false
  not_active differs = by_active (token_in p.memory due.transfer.place).active refl
    where
      by_active : (b : Bool) → (token_in p.memory due.transfer.place).active ≡ b → b ≡ false
      by_active false is = refl
      by_active true is =
          absurd (differs (due.tells ∙ found_by p.driver p.memory due.transfer due.transfer.sort its_sort
          ∙ ap (λ (b : Bool). if b then founds.Active else if (token_in p.memory due.transfer.place).halted then founds.Ended (moved_of (note_at p.driver.notes due.transfer.place).told (token_in p.memory due.transfer.place).total) (halt_of (token_in p.memory due.transfer.place)) else done_of (ends_by due.transfer.sort (nat_le due.transfer.left 1) (token_in p.memory due.transfer.place).total) (moved_of (note_at p.driver.notes due.transfer.place).told (token_in p.memory due.transfer.place).total)) is))

pub harvest_row_is_told : (order : ℕ → ℕ) (p : Parts) (parts : StructureSets) (hand : Hand) (e t : ℕ) (found : Found) (acc : List (List ℕ)) (reported : ℕ → List ℕ) → (due : IsHarvestDue p e t found) → found ≢ founds.Active
    → HasOwners p.driver → AsynchronousTakesTurns p.driver → due.endpoint.desc.kind ≡ kinds.Bulk → AreFed p.driver parts → Tells p.memory parts → IsQueuePart (32 * due.endpoint.queue) (parts (32 * due.endpoint.queue))
    → ((a : ℕ) (z : List ℕ) → IsOutEarlier (note_in p.driver.notes) e t p.driver.transfers a → Told hand parts (32 * due.endpoint.queue) a z → z ≡ [])
    → ToldStands p.driver hand parts reported → IsReported order (out_now p.driver e) hand parts (32 * due.endpoint.queue) acc (reported (32 * due.endpoint.queue))
    → HarvestReports order p.driver (after_driver_row (rows.Harvest e t found) p).driver hand parts e due.endpoint acc reported
harvest_row_is_told order p parts hand e t found acc reported due differs owners turns bulk fed tells on none told r =
    subst (λ (d : DriverContent). HarvestReports order p.driver d hand parts e due.endpoint acc reported) (sym (after_is p e t found due))
    (harvested_is_told order p.driver p.memory parts hand e t due.endpoint due.transfer found acc reported (read_next p e t found due owners turns)
    (record {
      bulk = bulk;
      queued = its_sort p e t found due owners turns;
      tells = tells;
      on = on;
      read = reads p e t found due owners turns bulk parts fed;
      off = not_active p e t found due owners turns differs;
      none = none;
    }) (queue_alone p e t found due owners turns) due.tells told r)

pub wait_is_told : (p : Parts) (parts : StructureSets) (hand : Hand) (e t : ℕ) (reported : ℕ → List ℕ) → IsHarvestDue p e t founds.Active → ToldStands p.driver hand parts reported
    → ToldStands (after_driver_row (rows.Harvest e t founds.Active) p).driver hand parts reported
wait_is_told p parts hand e t reported due k =
    subst (λ (d : DriverContent). ToldStands d hand parts reported) (sym (after_is p e t founds.Active due ∙ ap (λ (b : Bool). if b then served p.driver e else p.driver) due.waits))
    (alike_is_told p.driver (served p.driver e) hand parts reported (record { reports = refl; store = refl; endpoints = refl; transfers = refl; notes = refl }) (λ x meets. record { linked = meets.linked; kept = meets.kept }) (λ x opens. opens) k)
