-- The qTD whose token is read next, of a transfer that has no line yet, stands among the structures of its queue.
use Rattle.std.proofs.Common.{◌≡◌, ◌≢◌, ℕ, suc, ◌-◌, ◌*◌, Bool, true, false, cond, List, length, slice_get, Option, Some, None}
use Rattle.std.proofs.Common.{if◌then◌else◌, ap, refl, sym, subst, ◌∙◌, ⊎_elim, arith}
use Rattle.std.specs.Prelude.{nat_eq}
use Rattle.std.proofs.lemmas.Bool.{cases_eq}
use Rattle.std.proofs.lemmas.Option.{same_Some}
use Rattle.law_common.proofs.Numbers.{other_number}
use Rattle.law_driver.proofs.lemmas.chained_transfers.Staying.{stands_alive}
use Rattle.law_driver_ring.proofs.lemmas.fed_queues.Places.{stands_met}
use Rattle.law_driver_ring.proofs.lemmas.harvested_streams.Harvesting.{token_is_read}
use Rattle.qh_qtd.specs.declared.qtd.Qtd.{Qtd}
use Rattle.drv_table.specs.declared.content.Command.{Command}
use Rattle.drv_table.specs.declared.content.Command.TheVariants as unfinished
use Rattle.drv_table.specs.declared.content.Endpoint.{Endpoint}
use Rattle.drv_table.specs.declared.content.Transfer.{Transfer}
use Rattle.drv_table.specs.DriverContent.{DriverContent}
use Rattle.drv_table.specs.Kinds.{is_iso}
use Rattle.claims_driver.specs.Owners.{is_descriptor, note_in}
use Rattle.law_driver.specs.chained_transfers.Chains.{piece_at}
use Rattle.law_driver.specs.chained_transfers.Out.{unpublished}
use Rattle.law_driver.specs.chained_transfers.Turns.{IsAtPlace}
use Rattle.law_driver.specs.queued_drivers.Queued.{queued, queued_endpoint, with_queue}
use Rattle.law_driver.proofs.Common.{of_queue}
use Rattle.law_driver.proofs.lemmas.chained_transfers.Holding.{stands_unreleased}
use Rattle.law_driver.proofs.lemmas.queued_drivers.RowEvents.{queue_of_transfer}
use Rattle.law_driver.proofs.lemmas.queued_drivers.RowLists.{queue_at, moves_at}
use Rattle.law_structures.specs.lent_structures.Structures.{Element}
use Rattle.law_structures.proofs.lemmas.lent_structures.Reading.{head_read}
use Rattle.mem_queues.specs.Structures.{queue_head_at_address}
use Rattle.claims_answers.specs.Telling.{token_of}
use Rattle.law_ring.specs.QueueParts.{IsQueuePart}
use Rattle.law_driver_ring.specs.fed_queues.Places.{IsMet}
use Rattle.law_driver_ring.specs.Published.{partly}
use Rattle.law_driver_ring.specs.fed_queues.Fed.{IsPublished, IsPieceFed, unpublished_of}
use Rattle.bus_world.specs.World.{World}
use Rattle.law_world.specs.memory.Mixed.{Standing, IsMixedAt}
use Rattle.law_world.proofs.lemmas.memory.HarvestKept.{tells_of}
use Rattle.law_reports.proofs.lemmas.queues.Opening.{not_opening}
use Rattle.law_reports.proofs.lemmas.queues.Spared.{stores}

none_told : {A : Type 0} (c : Bool) (o : Option A) → o ≡ None → cond c None o ≡ None
none_told true o is = refl
none_told false o is = is

pub record IsThere (s : Standing) (n a : ℕ) : Type 0 where
  pub qtd : Qtd
  pub here : s.parts n a ≡ Some (Element qtd)

module _ (s : Standing) (w : World) (mixed : IsMixedAt s w) (t : ℕ) (y : Transfer) (x : Endpoint)
    (there : slice_get w.driver.transfers t ≡ Some y) (here : slice_get w.driver.endpoints y.endpoint ≡ Some x)
    (sort : is_descriptor y.sort ≡ false) (untold : y.reported ≡ false) (going : x.ended ≡ None) where
  abbrev d : DriverContent
  d = queued w.driver

  iso : is_iso x.desc.kind ≡ false
  iso = queue_of_transfer w.driver t y x there here sort mixed.now.framed.place.sound.owners.orderly

  moves : slice_get (queued w.driver).transfers t ≡ Some y
  moves = moves_at w.driver.endpoints w.driver.transfers t y there sort

  pub queue_is : slice_get (queued w.driver).endpoints y.endpoint ≡ Some (with_queue x)
  queue_is = queue_at w.driver.endpoints y.endpoint x here iso

  held : y.released ≡ false
  held = stands_unreleased (queued w.driver) t y (with_queue x) (mixed.turns.turns.asynchronous.endpoints y.endpoint
      (with_queue x) queue_is)
      mixed.turns.turns.turns moves queue_is (none_told _ x.ended going) untold

  place : IsAtPlace (note_in (queued w.driver).notes) y
  place = mixed.turns.turns.turns.places t y moves held

  zero_by : (c : Option Command) → stores c ≡ false → (b : Bool) (made n : ℕ) → (if b then unpublished c made n else 0) ≡ 0
  zero_by c none false made n = refl
  zero_by (Some (unfinished.Publish b words)) none true made n = absurd (cc)
  zero_by (Some (unfinished.Open q)) none true made n = refl
  zero_by (Some (unfinished.Unlink e b link)) none true made n = refl
  zero_by (Some unfinished.Chain) none true made n = refl
  zero_by (Some (unfinished.Iso e u count)) none true made n = refl
  zero_by (Some (unfinished.Unchain e)) none true made n = refl
  zero_by None none true made n = refl

  none_stored_yet : (c : Option Command) → (queued w.driver).command ≡ c → stores c ≡ false → unpublished_of (queued w.driver) t y ≡ 0
  none_stored_yet c is none =
      ap (λ (o : Option Command). if nat_eq (suc t) (length d.transfers) then unpublished o d.made y.qtds else 0) is
      ∙ zero_by c none (nat_eq (suc t) (length d.transfers)) d.made y.qtds

  -- once it is published
  fed_there : unpublished_of (queued w.driver) t y ≡ 0 → IsThere s (32 * x.queue) (32 * y.place)
  fed_there none =
      let some = place.some in
      let most = place.most in
      let f : IsPieceFed y.sort (s.parts (32 * x.queue)) _ (piece_at (note_in d.notes) y.first (y.qtds - y.left)) (piece_at
      (note_in d.notes) y.first y.qtds) =
      mixed.queues.queues.fed.pieces t (y.qtds - y.left) y (with_queue x) moves held queue_is (omega (arith, none)) (omega
      (arith, some, most)) in
      record { qtd = f.qtd; here = ap (λ (b : ℕ). s.parts (32 * x.queue) (32 * b)) place.place ∙ f.here }

  -- while it is being stored
  stored_there : (b : ℕ) (words : List ℕ) → IsPublished (queued w.driver) s.parts b words → suc t ≡ length (queued w.driver).transfers
      → IsThere s (32 * x.queue) (32 * y.place)
  stored_there b words g newest =
      let one : g.number ≡ t = (let a = g.newest in omega (arith, a, newest)) in
      let transfer : g.transfer ≡ y = same_Some g.transfer y (sym g.there ∙ ap (slice_get d.transfers) one ∙ moves) in
      let endpoint : g.endpoint ≡ with_queue x = same_Some g.endpoint (with_queue x)
      (sym g.here ∙ ap (λ (z : Transfer). slice_get d.endpoints z.endpoint) transfer ∙ queue_is) in
      let at : b ≡ y.place = sym g.place.1 ∙ ap (λ (z : Transfer). z.place) transfer in
      record {
        qtd = partly g.qtd (d.made - 1);
        here = ap (λ (z : Endpoint). s.parts (32 * z.queue) (32 * y.place)) (sym endpoint)
            ∙ ap (λ (c : ℕ). s.parts (32 * g.endpoint.queue) (32 * c)) (sym at) ∙ g.stored;
      }

  by_command : (c : Option Command) → (queued w.driver).command ≡ c → IsThere s (32 * x.queue) (32 * y.place)
  by_command (Some (unfinished.Publish b words)) is =
      ⊎_elim (λ (newest : suc t ≡ length d.transfers). stored_there b words (mixed.queues.queues.fed.publishes b words is) newest)
      (λ (older : suc t ≢ length d.transfers).
      fed_there (ap (λ (c : Bool). if c then unpublished d.command d.made y.qtds else 0) (other_number (suc t) (length d.transfers) older)))
      (cases_eq (suc t) (length d.transfers))
  by_command (Some (unfinished.Open q)) is = fed_there (none_stored_yet (Some (unfinished.Open q)) is refl)
  by_command (Some (unfinished.Unlink e b link)) is = fed_there (none_stored_yet (Some (unfinished.Unlink e b link)) is refl)
  by_command (Some unfinished.Chain) is = fed_there (none_stored_yet (Some unfinished.Chain) is refl)
  by_command (Some (unfinished.Iso e u count)) is = fed_there (none_stored_yet (Some (unfinished.Iso e u count)) is refl)
  by_command (Some (unfinished.Unchain e)) is = fed_there (none_stored_yet (Some (unfinished.Unchain e)) is refl)
  by_command None is = fed_there (none_stored_yet None is refl)

  pub token_there : IsThere s (32 * x.queue) (32 * y.place)
  token_there = by_command (queued w.driver).command refl

  -- ---- and its queue head, of its endpoint

  kept : x.gone ≡ false
  kept = stands_alive (with_queue x) (mixed.turns.turns.asynchronous.endpoints y.endpoint (with_queue x) queue_is) going

  pub is_met : IsMet (queued w.driver) y.endpoint (with_queue x)
  is_met = stands_met (queued w.driver) y.endpoint (with_queue x) (mixed.turns.turns.asynchronous.endpoints y.endpoint
      (with_queue x) queue_is) going
      (not_opening s w mixed y.endpoint x here iso kept t y there refl sort)

  pub part_there : IsQueuePart (32 * x.queue) (s.parts (32 * x.queue))
  part_there = mixed.queues.sound y.endpoint (with_queue x) queue_is is_met

  pub head_there : queue_head_at_address w.memory (32 * x.queue) ≡ Some part_there.queue
  head_there = head_read w.memory s.parts (32 * x.queue) (32 * x.queue) part_there.queue (tells_of s w mixed) part_there.here

  pub token_read : (token_of w.memory y.place) ≡ token_there.qtd.token
  token_read = token_is_read w.memory s.parts (32 * x.queue) y.place token_there.qtd (tells_of s w mixed) token_there.here

  -- told as it is
  pub met_as : IsMet (queued w.driver) y.endpoint (with_queue x) → IsMet (queued w.driver) y.endpoint (queued_endpoint x)
  met_as met = subst (IsMet (queued w.driver) y.endpoint) (sym (of_queue x iso)) met
