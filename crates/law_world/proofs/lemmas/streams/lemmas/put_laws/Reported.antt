-- The row of a harvest.
use Rattle.std.proofs.Common.{◌≡◌, ◌≢◌, ℕ, suc, ◌+◌, ◌-◌, ◌*◌, ◌==◌, Bool, true, false, if◌then◌else◌, List, [], ◌∷◌, ◌++◌, set, drop, nat_le, slice_get, Option, Some, ap, refl, sym, subst, ◌∙◌, ⊎_elim, arith}
use Rattle.std.specs.List.{concat}
use Rattle.std.proofs.lemmas.Bool.{eq-eqb}
use Rattle.law_queues.proofs.Common.{none_open, own_out}
use Rattle.law_driver.proofs.Common.{two_kinds, out_way, waits_is}
use Rattle.law_common.proofs.Numbers.{other_number}
use Rattle.usb_base.specs.declared.endpoints.EpDesc.{EpDesc}
use Rattle.usb_base.specs.declared.packets.EpKind.TheVariants as kinds
use Rattle.usb_base.specs.declared.packets.Way.{Way}
use Rattle.claims_report.specs.Streams.{has_stream}
use Rattle.word_mem.specs.Memory.{Mem}
use Rattle.law_structures.specs.lent_structures.Structures.{StructureSets, Tells}
use Rattle.law_ring.specs.Hand.{Hand}
use Rattle.law_ring.specs.Told.{Told}
use Rattle.law_ring.specs.QueueParts.{IsQueuePart}
use Rattle.law_ring.specs.Order.{AllTold, Accounts}
use Rattle.qh_qtd.specs.declared.token.Token.{Token}
use Rattle.drv_table.specs.declared.content.Command.{Command}
use Rattle.drv_table.specs.declared.content.Endpoint.{Endpoint}
use Rattle.drv_table.specs.declared.content.Transfer.{Transfer}
use Rattle.drv_table.specs.declared.rows.DriverRow.TheVariants as rows
use Rattle.drv_table.specs.declared.rows.Found.{Found}
use Rattle.drv_table.specs.declared.rows.Found.TheVariants as founds
use Rattle.drv_table.specs.DriverContent.{DriverContent}
use Rattle.drv_table.specs.Harvests.{note_at, token_in, moved_of, is_get, found_in, buffer_bytes}
use Rattle.drv_table.specs.Parts.{Parts}
use Rattle.drv_table.specs.Harvesting.{served, harvested_as, after_harvest}
use Rattle.drv_table.specs.Rows.{after_driver_row}
use Rattle.law_driver.specs.run_owners.Due.{IsHarvestDue}
use Rattle.claims_driver.specs.Leaving.{HasOwners}
use Rattle.claims_driver.specs.Owners.{note_in}
use Rattle.claims_driver.specs.Scripts.{receives}
use Rattle.law_driver.specs.AsynchronousScripts.{IsKindOf}
use Rattle.law_driver.specs.chained_transfers.Asynchronous.{StandsAsynchronous}
use Rattle.law_driver.specs.chained_transfers.AsynchronousTurns.{AsynchronousTakesTurns}
use Rattle.law_driver.specs.chained_transfers.Out.{pieces_from, passed, out_of_transfer, out_of, out_now}
use Rattle.law_driver.specs.chained_transfers.Turns.{IsAtPlace, IsNotGone}
use Rattle.law_driver.proofs.lemmas.chained_transfers.Harvested.{harvest_in_turn}
use Rattle.law_driver.proofs.lemmas.chained_transfers.Staying.{stands_alive, stands_fresh}
use Rattle.law_driver.proofs.lemmas.chained_transfers.Ways.{moves_queued, found_by}
use Rattle.law_driver_ring.specs.told_harvests.Held.{IsRead}
use Rattle.law_driver_ring.specs.told_harvests.Passed.{HarvestsFirst}
use Rattle.law_driver_ring.proofs.lemmas.told_harvests.Passing.{harvest_takes_first}
use Rattle.law_driver_ring.proofs.lemmas.harvested_streams.Harvesting.{token_is_read}
use Rattle.law_queues.specs.harvest_laws.Outs.{IsOutEarlier}
use Rattle.law_queues.proofs.lemmas.harvest_laws.Outing.{goes_on_out, ends_out}
use Rattle.law_queues.proofs.lemmas.harvest_laws.Places.{read_at}
use Rattle.law_controller.specs.controlled_streams.Reported.{IsReported}
use Rattle.law_driver_ring.specs.fed_queues.Fed.{AreFed}
use Rattle.law_driver_ring.specs.fed_queues.Places.{IsThere}
use Rattle.law_queues.proofs.lemmas.fed_harvests.Lists.{all_of, all_out, all_same, IsBefore, Splits, splits}
use Rattle.law_queues.specs.harvest_laws.Told.{ToldStands}
use Rattle.law_queues.specs.harvest_laws.ToldLaws.{HarvestReports}
use Rattle.law_queues.specs.harvest_laws.ReadLaws.{LeavesStreams}
use Rattle.law_queues.proofs.lemmas.harvest_laws.Requests.{other_harvest_is_told}
use Rattle.law_queues.proofs.lemmas.harvest_laws.ReadRows.{harvest_row_is_told, queue_alone, reads, not_active}
use Rattle.law_world.specs.streams.put_laws.Owed.{Owes}
use Rattle.law_world.specs.streams.put_laws.OwedLaws.{IsMovedWhole, HarvestOwes, WaitOwes}
use Rattle.law_world.proofs.lemmas.streams.lemmas.put_laws.Same.{not_gone, kept, its_sort}
use Rattle.law_world.proofs.lemmas.streams.lemmas.put_laws.OwedReading.{NextIs, told_same, all_once, more_is, bytes_are}
use Rattle.law_world.proofs.lemmas.streams.lemmas.put_laws.Harvests.{HowRead, on, done, halts, ReadsTo, found_row}
use Rattle.law_world.proofs.lemmas.streams.lemmas.put_laws.Paying.{paid_owes}
use Rattle.law_world.proofs.lemmas.streams.lemmas.put_laws.OtherHarvests.{harvest_beside, other_out, other_owes}

pub row_is : (p : Parts) (e t : ℕ) (found : Found) (due : IsHarvestDue p e t found) → (after_driver_row (rows.Harvest e t found) p).driver ≡ served (harvested_as p.driver p.memory e t due.endpoint due.transfer found) e
row_is p e t found due =
    ap (λ (o : Option Endpoint). after_harvest p.driver p.memory e t found o (slice_get p.driver.transfers t)) due.here ∙ ap (after_harvest p.driver p.memory e t found (Some due.endpoint)) due.there
    ∙ ap (λ (b : Bool). if b then served (harvested_as p.driver p.memory e t due.endpoint due.transfer found) e else p.driver) due.waits

-- whose turn it is then
next_then : (p : Parts) (e t : ℕ) (found : Found) → IsHarvestDue p e t found → AsynchronousTakesTurns p.driver → NextIs (after_driver_row (rows.Harvest e t found) p).driver
next_then p e t found due turns =
    let d = p.driver in
    let m = p.memory in
    let x = due.endpoint in
    let y = due.transfer in
    let standing : StandsAsynchronous x = turns.asynchronous.endpoints e x due.here in
    subst NextIs
    (sym (ap (λ (o : Option Endpoint). after_harvest d m e t found o (slice_get d.transfers t)) due.here ∙ ap (after_harvest d m e t found (Some x)) due.there))
    (harvest_in_turn (IsNotGone (slice_get d.endpoints)) d m e t x y due.here due.there due.goes_on (stands_fresh x standing due.goes_on) due.next due.waits
    (record { endpoint = x; here = due.here; gone = stands_alive x standing due.goes_on })
    (record { places = turns.turns.places; turns = turns.turns.turns }) found (due.tells ∙ found_by d m y y.sort (moves_queued d y (turns.asynchronous.moves t y due.there)))).turns.next

-- an OUT endpoint has a stream
out_streams : (x : Endpoint) → StandsAsynchronous x → receives x.desc.name.way ≡ false → has_stream x.desc.kind ≡ true
out_streams x s sends = ap has_stream (subst (λ (w : Way). IsKindOf w x.desc.kind) (out_way x.desc.name.way sends) s.asynchronous.kind)

module _ (order : ℕ → ℕ) (p : Parts) (parts : StructureSets) (hand : Hand) (e t : ℕ) (found : Found) (acc : List (List ℕ)) (puts reported told : ℕ → List ℕ) (due : IsHarvestDue p e t found) (differs : found ≢ founds.Active) (owners : HasOwners p.driver) (turns : AsynchronousTakesTurns p.driver) (bulk : due.endpoint.desc.kind ≡ kinds.Bulk) (fed : AreFed p.driver parts) (tells : Tells p.memory parts) (on_it : IsQueuePart (32 * due.endpoint.queue) (parts (32 * due.endpoint.queue)))
    (none : (a : ℕ) (z : List ℕ) → IsOutEarlier (note_in p.driver.notes) e t p.driver.transfers a → Told hand parts (32 * due.endpoint.queue) a z → z ≡ []) (r : IsReported order (out_now p.driver e) hand parts (32 * due.endpoint.queue) acc (reported (32 * due.endpoint.queue))) (whole : receives due.endpoint.desc.name.way ≡ false → IsMovedWhole p.driver p.memory due.transfer)
    (before : ToldStands p.driver hand parts reported) (after : ToldStands (after_driver_row (rows.Harvest e t found) p).driver hand parts told) (owes : Owes p.driver p.memory puts reported) where
  abbrev d : DriverContent
  d = p.driver

  abbrev m : Mem
  m = p.memory

  abbrev x : Endpoint
  x = due.endpoint

  abbrev y : Transfer
  y = due.transfer

  abbrev n : ℕ
  n = 32 * due.endpoint.queue

  abbrev new : DriverContent
  new = (after_driver_row (rows.Harvest e t found) p).driver

  own : (y.endpoint ≡ e) × (y.reported ≡ false)
  own = waits_is e y due.waits

  standing : StandsAsynchronous due.endpoint
  standing = turns.asynchronous.endpoints e due.endpoint due.here

  its_alive : due.endpoint.gone ≡ false
  its_alive = stands_alive due.endpoint standing due.goes_on

  released : y.released ≡ false
  released = kept d t y turns due.there (not_gone d e due.endpoint y due.here its_alive own.0) own.1

  place : IsAtPlace (note_in d.notes) y
  place = turns.turns.places t y due.there released

  left_is : y.left ≡ suc (y.left - 1)
  left_is = let some = place.some in omega (arith, some)

  found_is : found ≡ found_in y.sort (nat_le y.left 1) (note_at d.notes y.place) (token_in m y.place)
  found_is = due.tells ∙ found_by d m y y.sort (moves_queued d y (turns.asynchronous.moves t y due.there))

  off : (token_in m y.place).active ≡ false
  off = not_active p e t found due owners turns differs

  k : ReadsTo d new m e t x y
  k = subst (λ (f : DriverContent). ReadsTo d f m e t x y) (sym (row_is p e t found due)) (found_row d m e t x y due.here due.goes_on bulk place.some off found found_is)

  next_now : NextIs new
  next_now = next_then p e t found due turns

  hr : HarvestReports order d new hand parts e x acc reported
  hr = harvest_row_is_told order p parts hand e t found acc reported due differs owners turns bulk fed tells on_it none before r

  -- ---- what is reported then

  now : ℕ → List ℕ
  now q = if q == 32 * due.endpoint.queue then reported q ++ hr.bytes else reported q

  now_here : now (32 * due.endpoint.queue) ≡ reported (32 * due.endpoint.queue) ++ hr.bytes
  unfolding now
  now_here = ap (λ (b : Bool). if b then reported (32 * due.endpoint.queue) ++ hr.bytes else reported (32 * due.endpoint.queue)) (eq-eqb (32 * due.endpoint.queue) (32 * due.endpoint.queue) refl)

  now_beside : (q : ℕ) → q ≢ 32 * due.endpoint.queue → now q ≡ reported q
  unfolding now
  now_beside q apart = ap (λ (b : Bool). if b then reported q ++ hr.bytes else reported q) (other_number q (32 * due.endpoint.queue) apart)

  there_now : (v : Endpoint) → v.gone ≡ false → IsThere new v
  there_now v still = record { linked = λ is. none_open v.queue (sym due.idle ∙ sym k.command ∙ is); kept = still }

  told_is : (f : ℕ) (v : Endpoint) → slice_get new.endpoints f ≡ Some v → has_stream v.desc.kind ≡ true → v.gone ≡ false → told (32 * v.queue) ≡ now (32 * v.queue)
  told_is f v at streams still = told_same new hand parts told now next_now after (hr.stands now now_here now_beside) f v at streams (there_now v still)

  told_here : told (32 * due.endpoint.queue) ≡ reported (32 * due.endpoint.queue) ++ hr.bytes
  told_here = ap (λ (q : ℕ). told (32 * q)) (sym k.queue) ∙ told_is e k.endpoint k.here (ap (λ (r : EpDesc). has_stream r.kind) k.desc ∙ ap has_stream bulk) (k.gone ∙ its_alive) ∙ ap (λ (q : ℕ). now (32 * q)) k.queue ∙ now_here

  told_beside : (f : ℕ) (v : Endpoint) → f ≢ e → slice_get d.endpoints f ≡ Some v → v.gone ≡ false → receives v.desc.name.way ≡ false → told (32 * v.queue) ≡ reported (32 * v.queue)
  told_beside f v apart at still sends =
      told_is f v (k.beside f v apart at) (out_streams v (turns.asynchronous.endpoints f v at) sends) still
      ∙ now_beside (32 * v.queue) (λ same. apart (queue_alone p e t found due owners turns f v at still (let q : v.queue ≡ due.endpoint.queue = omega (arith, same) in q)))

  -- ---- which bytes these are

  is_read : IsRead (parts (32 * due.endpoint.queue)) (note_at d.notes y.place) y.place
  is_read =
      let some = place.some in
      let most = place.most in
      subst (λ (b : ℕ). IsRead (parts (32 * due.endpoint.queue)) (note_at d.notes b) b) (sym place.place)
      (read_at (parts (32 * due.endpoint.queue)) d.notes y.first (y.qtds - y.left) y.qtds (omega (arith, some, most)) (reads p e t found due owners turns bulk parts fed))

  abbrev behind_it : List ℕ
  behind_it = pieces_from (note_in p.driver.notes) (note_at p.driver.notes due.transfer.place).next (due.transfer.left - 1)

  out_was : out_now d e ≡ all_of (note_in d.notes) e d.transfers
  out_was = ap (λ (c : Option Command). out_of (note_in d.notes) e c d.made d.transfers) due.idle ∙ all_out (note_in d.notes) e d.made d.transfers

  out_is : out_now new e ≡ all_of (note_in d.notes) e (set d.transfers t k.transfer)
  out_is =
      ap (λ (c : Option Command). out_of (note_in new.notes) e c new.made new.transfers) (k.command ∙ due.idle) ∙ all_out (note_in new.notes) e new.made new.transfers
      ∙ ap (all_of (note_in new.notes) e) k.transfers ∙ all_same (note_in d.notes) (note_in new.notes) e (set d.transfers t k.transfer) k.views

  first_out : out_of_transfer (note_in d.notes) e 0 y ≡ 32 * y.place ∷ behind_it
  first_out =
      own_out (note_in d.notes) e y own.0 released ∙ ap (λ (b : Bool). drop (0 + passed b) (pieces_from (note_in d.notes) y.place y.left)) own.1
      ∙ ap (pieces_from (note_in d.notes) y.place) left_is

  its_out : HowRead d m y k.transfer k.endpoint → out_of_transfer (note_in d.notes) e 0 k.transfer ≡ behind_it
  its_out (on is ended going) = ap (out_of_transfer (note_in d.notes) e 0) is ∙ goes_on_out (note_in d.notes) e (y.left - 1) y own.0 released own.1 left_is
  its_out (done is ended last going) = ap (out_of_transfer (note_in d.notes) e 0) is ∙ ends_out (note_in d.notes) e (y.left - 1) y own.0 released left_is
  its_out (halts cause is ended halted) = ap (out_of_transfer (note_in d.notes) e 0) is ∙ ends_out (note_in d.notes) e (y.left - 1) y own.0 released left_is

  bytes_is : receives due.endpoint.desc.name.way ≡ false → hr.bytes ≡ buffer_bytes m (note_at d.notes y.place) (moved_of (note_at d.notes y.place).told (token_in m y.place).total)
  bytes_is sends =
      let how : HowRead d m y k.transfer k.endpoint = k.how (ap is_get (its_sort d e t x y turns due.here sends due.there own.0)) in
      let s : Splits (note_in d.notes) e d.transfers (set d.transfers t k.transfer) t (32 * y.place) =
      splits (note_in d.notes) e d.transfers t y k.transfer (32 * y.place) behind_it due.there first_out (its_out how) in
      let hf : HarvestsFirst order r.place (32 * y.place) (s.before ++ s.behind) hand parts (32 * due.endpoint.queue) r.told =
      harvest_takes_first order r.place (32 * y.place) s.before s.behind hand parts (32 * due.endpoint.queue) r.told is_read.qtd
      is_read.here
      (ap (λ (z : Token). z.active) (sym (token_is_read m parts (32 * due.endpoint.queue) y.place is_read.qtd tells is_read.here)) ∙ off)
      (λ a z among of_it.
      let b : IsBefore (note_in d.notes) e d.transfers t a = s.passed_over a among in
      none a z (record { number = b.number; earlier = b.earlier; transfer = b.transfer; here = b.here; among = b.among }) of_it)
      (subst (λ (out : List ℕ). Accounts order r.place out hand parts (32 * due.endpoint.queue) r.told) (out_was ∙ s.was) r.accounts) in
      let same : hr.right.told ≡ hf.others =
      all_once hand parts (32 * due.endpoint.queue) (s.before ++ s.behind) hr.right.told hf.others
      (subst (λ (out : List ℕ). AllTold hand parts (32 * due.endpoint.queue) out hr.right.told) (out_is ∙ s.is) hr.right.accounts.told) hf.accounts.told in
      more_is (reported (32 * due.endpoint.queue)) hr.bytes hf.bytes hf.others hr.right.told (concat acc) (ap (λ (us : List ℕ). reported (32 * due.endpoint.queue) ++ us) (sym hf.sum) ∙ r.sum) hr.right.sum same
      ∙ bytes_are m parts hand (32 * due.endpoint.queue) y.place hf.bytes (note_at d.notes y.place) tells on_it is_read off hf.told

  pub row_owes : Owes (after_driver_row (rows.Harvest e t found) p).driver p.memory puts told
  row_owes = paid_owes d new m e t x y turns due.idle due.here due.goes_on due.next due.there due.waits k puts reported told hr.bytes bytes_is whole told_here told_beside owes

-- ---- a control endpoint's

-- what is told of the OUT endpoints is what was
module _ (p : Parts) (e t : ℕ) (found : Found) (parts : StructureSets) (hand : Hand) (reported told : ℕ → List ℕ) (due : IsHarvestDue p e t found) (owners : HasOwners p.driver) (turns : AsynchronousTakesTurns p.driver) (control : due.endpoint.desc.kind ≡ kinds.Control)
    (before : ToldStands p.driver hand parts reported) (after : ToldStands (after_driver_row (rows.Harvest e t found) p).driver hand parts told) where
  nothing_told : (f : ℕ) (v : Endpoint) → slice_get (after_driver_row (rows.Harvest e t found) p).driver.endpoints f ≡ Some v → v.gone ≡ false → receives v.desc.name.way ≡ false → told (32 * v.queue) ≡ reported (32 * v.queue)
  nothing_told f v at still sends =
      let new = (after_driver_row (rows.Harvest e t found) p).driver in
      let left : LeavesStreams p.driver new hand parts e reported = other_harvest_is_told p parts hand e t found reported due owners turns control before in
      let beside = harvest_beside p e t found due in
      let turns_now : NextIs new = next_then p e t found due turns in
      let was = other_out p e t found due control turns f v at sends in
      told_same new hand parts told reported turns_now after left.stands f v at (out_streams v (turns.asynchronous.endpoints f v was.1) sends)
      (record { linked = λ is. none_open v.queue (sym due.idle ∙ sym beside.command ∙ is); kept = still })

pub harvest_owes : HarvestOwes
harvest_owes order p parts hand e t found acc puts reported told due differs owners turns fed tells on_it none r whole before after owes =
    ⊎_elim (λ (bulk : due.endpoint.desc.kind ≡ kinds.Bulk). row_owes order p parts hand e t found acc puts reported told due differs owners turns bulk fed tells on_it (none (ap has_stream bulk)) (r (ap has_stream bulk)) whole before after owes)
    (λ (control : due.endpoint.desc.kind ≡ kinds.Control). other_owes p e t found due control turns puts reported told (nothing_told p e t found parts hand reported told due owners turns control before after) owes)
    (two_kinds due.endpoint.desc.name.way due.endpoint.desc.kind (turns.asynchronous.endpoints e due.endpoint due.here).asynchronous.kind)

pub wait_owes : WaitOwes
wait_owes p e t puts reported due owes =
    subst (λ (d : DriverContent). Owes d p.memory puts reported) (sym (row_is p e t founds.Active due)) (record {
      going = λ f x here there sends goes. owes.going f x here (record { linked = there.linked; kept = there.kept }) sends goes;
      over = λ f x cause here there sends ends. owes.over f x cause here (record { linked = there.linked; kept = there.kept }) sends ends;
      opening = owes.opening;
      last = owes.last;
    })
