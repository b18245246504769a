-- What a queue has, and what of it goes with a transfer that is given back.
use Rattle.std.proofs.Common.{◌≡◌, ◌≢◌, ℕ, suc, ◌+◌, ◌*◌, ◌||◌, ◌<◌, ◌≤◌, Bool, true, false, List, length, slice_get, Some, None, option_map, ap, refl, sym, subst, ◌∙◌, ⊎_elim, arith}
use Rattle.std.specs.Prelude.{nat_eq}
use Rattle.std.specs.List.{AllByRecursion}
use Rattle.std.proofs.lemmas.Bool.{cases_lt, true≢false}
use Rattle.std.proofs.lemmas.Option.{same_Some}
use Rattle.law_common.proofs.Numbers.{other_number}
use Rattle.law_driver_ring.proofs.Common.{piece_among}
use Rattle.qh_qtd.specs.declared.qtd.Qtd.{Qtd}
use Rattle.drv_table.specs.declared.content.Endpoint.{Endpoint}
use Rattle.drv_table.specs.declared.content.Transfer.{Transfer}
use Rattle.drv_table.specs.DriverContent.{DriverContent}
use Rattle.drv_table.specs.Parts.{Parts as DriverParts}
use Rattle.drv_table.specs.Harvests.{note_at}
use Rattle.claims_driver.specs.Owners.{Owner, QueueHead as QueueHeadOf, Element, IsPlaced, ArePieces, EndpointRuns, TransferRuns, NoteRuns, runs_of_endpoint, runs_of_transfer, note_in, Views, views_of, IsQueueIn}
use Rattle.law_driver.specs.chained_transfers.Chains.{piece_at, end_of, NoneFrom}
use Rattle.law_driver.specs.chained_transfers.Turns.{turn_of, StandsBefore}
use Rattle.law_driver.proofs.lemmas.chained_transfers.Ways.{moves_queued}
use Rattle.law_driver.proofs.lemmas.chained_transfers.Chained.{within_list}
use Rattle.law_driver.proofs.lemmas.chained_transfers.BulkAndControl.{not_iso}
use Rattle.law_structures.specs.lent_structures.Structures.{Element as ElementOf, StructureSets}
use Rattle.law_driver_ring.specs.Inventory.{Sort, sort_of, OfElement, IsLent, IsTransferIn, IsDriverOwned, the_list, the_head, a_queue, a_dummy, a_piece, a_buffer}
use Rattle.law_driver_ring.proofs.LendOwning.{number_of as owner_number}
use Rattle.law_driver_ring.specs.Released.{blocks_of, goes_of, IsToGo}
use Rattle.law_driver_ring.proofs.Blocks.{mine, all_mine, none_mine, is_named, is_not_named, placed_buffer}
use Rattle.law_driver_ring.specs.fed_queues.Fed.{IsPieceFed, unpublished_of, sized}
use Rattle.law_queues.specs.released_queues.Fronts.{piece_address}
use Rattle.law_queues.specs.released_queues.Released.{IsReturning}
use Rattle.law_queues.proofs.lemmas.released_queues.Pieces.{piece_is, number_of, HasNext, find_next}
use Rattle.law_driver.proofs.lemmas.chained_transfers.Holding.{held_alive}
use Rattle.law_queues.specs.released_queues.Staying.{QueuesAreTold}
use Rattle.law_queues.proofs.lemmas.released_queues.Links.{mapped, none_yet}
use Rattle.drv_table.specs.declared.content.Command.TheVariants as unfinished
use Rattle.law_driver_ring.specs.fed_queues.Places.{IsMet}

module _ (parts : StructureSets) (p : DriverParts) (order : ℕ → ℕ → ℕ) (out : ℕ → List ℕ) (t : ℕ) (y : Transfer) (x : Endpoint) (s : QueuesAreTold parts p order out) (k : IsReturning p.driver t y x) where
  abbrev d : DriverContent
  d = p.driver

  abbrev v : Views
  v = views_of d

  abbrev n : ℕ
  n = 32 * x.queue

  abbrev note : ℕ → NoteRuns
  note = note_in d.notes

  abbrev owner : ℕ → Owner
  owner = s.owners.owner

  abbrev goes : ℕ → Bool
  goes = goes_of d y

  abbrev blocks : List ℕ
  blocks = blocks_of note y.first y.qtds

  -- the endpoint of a transfer that wasn't given back
  pub its_alive : x.gone ≡ false
  its_alive = held_alive d t y x s.turns k.here k.held k.endpoint

  pub queue_of : (e : ℕ) (z : Endpoint) → slice_get d.endpoints e ≡ Some z → z.gone ≡ false → IsQueueIn v e (runs_of_endpoint z)
  queue_of e z here kept =
      let st = s.asynchronous.endpoints e z here in
      record { here = ap (option_map runs_of_endpoint) here; queued = ap (λ (i : Bool). i || z.gone) (not_iso z.desc st.asynchronous) ∙ kept }

  pub transfer_of : (u : ℕ) (z : Transfer) (e : Endpoint) → slice_get d.transfers u ≡ Some z → z.released ≡ false → slice_get d.endpoints z.endpoint ≡ Some e → IsTransferIn v u (runs_of_transfer z) (runs_of_endpoint e)
  transfer_of u z e here held at = record {
    here = ap (option_map runs_of_transfer) here;
    held = held;
    qtds = moves_queued d z (s.asynchronous.moves u z here);
    queue = queue_of z.endpoint e at (held_alive d u z e s.turns here held at);
  }

  pub to_go : IsToGo d t y (runs_of_endpoint x)
  to_go = record { here = k.here; held = k.held; qtds = moves_queued d y (s.asynchronous.moves t y k.here); queue = queue_of y.endpoint x k.endpoint its_alive }

  pub pieces_of : (u : ℕ) (z : Transfer) → slice_get d.transfers u ≡ Some z → z.released ≡ false → ArePieces v.slot owner v.note u z.first z.qtds
  pieces_of u z here held = s.owners.owned.each.pieces u (runs_of_transfer z) (ap (option_map runs_of_transfer) here) held

  they_are_mine : AllByRecursion (λ c. mine t (owner c) ≡ true) blocks
  they_are_mine = all_mine v.slot owner v.note t y.first y.qtds (pieces_of t y k.here k.held)

  pub goes_off : (c : ℕ) → mine t (owner c) ≡ false → goes (32 * c) ≡ false
  goes_off c off = is_not_named blocks c (none_mine owner t c blocks off they_are_mine)

  pub goes_on : (i : ℕ) → i < y.qtds → goes (piece_address d y i) ≡ true
  goes_on i below = is_named blocks (piece_at note y.first i) (piece_among note y.first y.qtds (piece_at note y.first i) (piece_is note y.first y.qtds i below))

  -- ---- whose queue it is

  queue_placed : (e : ℕ) (z : EndpointRuns) → IsQueueIn v e z → owner z.queue ≡ QueueHeadOf e
  queue_placed e z is = (s.owners.owned.each.queue e z is.here is.queued).owned

  pub one_queue : (e : ℕ) (z : EndpointRuns) → IsQueueIn v e z → z.queue ≡ x.queue → (e ≡ y.endpoint) × (z ≡ runs_of_endpoint x)
  one_queue e z is same =
      let mine_too = queue_of y.endpoint x k.endpoint its_alive in
      let number : e ≡ y.endpoint = ap owner_number (sym (queue_placed e z is) ∙ ap owner same ∙ queue_placed y.endpoint (runs_of_endpoint x) mine_too) in
      (number, same_Some z (runs_of_endpoint x) (sym is.here ∙ ap v.endpoint number ∙ mine_too.here))

  pub head_off : mine t (owner x.queue) ≡ false
  head_off = ap (mine t) (queue_placed y.endpoint (runs_of_endpoint x) (queue_of y.endpoint x k.endpoint its_alive))

  pub dummy_off : (e : ℕ) (z : Endpoint) → slice_get d.endpoints e ≡ Some z → z.gone ≡ false → mine t (owner z.dummy) ≡ false
  dummy_off e z here kept = let is = queue_of e z here kept in ap (mine t) (s.owners.owned.each.dummy e (runs_of_endpoint z) is.here is.queued).owned

  -- ---- what stands in it

  pub data InQueue (a : ℕ) : Type 0 where
    is_dummy : a ≡ 32 * x.dummy → IsLent (v.slot x.dummy) → InQueue a
    is_piece : (u i : ℕ) (z : Transfer) → slice_get d.transfers u ≡ Some z → z.released ≡ false → z.endpoint ≡ y.endpoint → i < z.qtds → a ≡ piece_address d z i → InQueue a

  in_queue_of : (m a : ℕ) (i : Sort) → m ≡ n → i ≡ OfElement → IsDriverOwned v m a i → InQueue a
  in_queue_of _ _ _ at is the_list = absurd (cc)
  in_queue_of _ _ _ at is the_head = absurd (cc)
  in_queue_of _ _ _ at is (a_queue e z queued lent) = absurd (cc)
  in_queue_of _ _ _ at is (a_dummy e z queued lent) =
      let same = one_queue e z queued (let i : z.queue ≡ x.queue = omega (arith, at) in i) in
      is_dummy (ap (λ (r : EndpointRuns). 32 * r.dummy) same.1) (subst (λ (r : EndpointRuns). IsLent (v.slot r.dummy)) same.1 lent)
  in_queue_of _ _ _ at is (a_piece u b r e transfer piece lent) =
      let same = one_queue r.endpoint e transfer.queue (let i : e.queue ≡ x.queue = omega (arith, at) in i) in
      let z = mapped runs_of_transfer (slice_get d.transfers u) r transfer.here in
      let place = number_of note r.first r.qtds b piece in
      is_piece u place.number z.0 z.1 (ap (λ (i : TransferRuns). i.released) (sym z.2) ∙ transfer.held) (ap (λ (i : TransferRuns). i.endpoint) (sym z.2) ∙ same.0)
      (subst (λ (i : TransferRuns). place.number < i.qtds) z.2 place.below) (ap (λ (i : ℕ). 32 * i) (place.at ∙ ap (λ (i : TransferRuns). piece_at note i.first place.number) z.2))
  in_queue_of _ _ _ at is (a_buffer u b c cs r e transfer piece first lent) = absurd (cc)

  pub in_queue : (a : ℕ) (q : Qtd) → parts n a ≡ Some (ElementOf q) → InQueue a
  in_queue a q here = in_queue_of n a OfElement refl refl (s.driven.only n a OfElement (ap (option_map sort_of) here))

  -- ---- other transfers of the endpoint

  same_endpoint : (z : Transfer) → z.endpoint ≡ y.endpoint → slice_get d.endpoints z.endpoint ≡ Some x
  same_endpoint z same = ap (slice_get d.endpoints) same ∙ k.endpoint

  pub fed_piece : (u i : ℕ) (z : Transfer) → slice_get d.transfers u ≡ Some z → z.released ≡ false → z.endpoint ≡ y.endpoint → i < z.qtds
      → IsPieceFed z.sort (parts n) (sized z.sort i (note_at d.notes (piece_at note z.first i))) (piece_at note z.first i) (piece_at note z.first z.qtds)
  fed_piece u i z here held same below =
      let none : unpublished_of d u z ≡ 0 = none_yet d.command d.made z.qtds (nat_eq (suc u) (length d.transfers)) k.free in
      s.fed.pieces u i z x here held (same_endpoint z same) (omega (arith, none)) below

  pub is_later : (u : ℕ) (z : Transfer) → slice_get d.transfers u ≡ Some z → z.released ≡ false → z.endpoint ≡ y.endpoint → u ≢ t → t < u
  is_later u z here held same differs =
      ⊎_elim (λ (less : u < t).
      absurd (⊎_elim (λ (gone : z.released ≡ true). true≢false (sym gone ∙ held)) (λ (before : StandsBefore d.harvested 0 u). let none = before.earlier in absurd (omega (arith, none)))
      (s.turns.turns.order 0 u t (turn_of z) (turn_of y) k.first less (ap (option_map turn_of) here) (ap (option_map turn_of) k.here) (sym same))))
      (λ (most : t ≤ u). omega (arith, most, differs)) (cases_lt u t)

  piece_placed : (u i : ℕ) (z : Transfer) → slice_get d.transfers u ≡ Some z → z.released ≡ false → i < z.qtds → IsPlaced v.slot owner (piece_at note z.first i) (Element u)
  piece_placed u i z here held below =
      (placed_buffer v.slot owner v.note u z.first z.qtds (piece_at note z.first i) (pieces_of u z here held) (piece_is note z.first z.qtds i below)).0

  pub piece_off : (u i : ℕ) (z : Transfer) → slice_get d.transfers u ≡ Some z → z.released ≡ false → i < z.qtds → u ≢ t → mine t (owner (piece_at note z.first i)) ≡ false
  piece_off u i z here held below differs = ap (mine t) (piece_placed u i z here held below).owned ∙ other_number u t differs

  none_at_all : (u : ℕ) (z : Transfer) → NoneFrom v z.endpoint (suc u) (suc u + length d.transfers) → (to : ℕ) → NoneFrom v z.endpoint (suc u) to
  none_at_all u z none to i r after below there =
      let within = within_list runs_of_transfer d.transfers i r there in
      none i r after (omega (arith, within)) there

  not_released : (u i : ℕ) (z : Transfer) (r : TransferRuns) → slice_get d.transfers u ≡ Some z → z.released ≡ false → u < i → v.transfer i ≡ Some r → r.endpoint ≡ z.endpoint → r.released ≡ false
  not_released u i z r here held less there same = by_test r.released refl
    where
      by_test : (b : Bool) → r.released ≡ b → b ≡ false
      by_test false is = refl
      by_test true is =
          let a = mapped runs_of_transfer (slice_get d.transfers i) r there in
          let gone : z.released ≡ true = s.turns.turns.released u i (turn_of z) (turn_of a.0) less (ap (option_map turn_of) here) (ap (option_map turn_of) a.1)
          (ap (λ (j : TransferRuns). j.endpoint) (sym a.2) ∙ same) (ap (λ (j : TransferRuns). j.released) (sym a.2) ∙ is) in
          sym gone ∙ held

  pub end_off : (u : ℕ) (z : Transfer) → slice_get d.transfers u ≡ Some z → z.released ≡ false → z.endpoint ≡ y.endpoint → u ≢ t → mine t (owner (piece_at note z.first z.qtds)) ≡ false
  end_off u z here held same differs =
      let there = ap (option_map runs_of_transfer) here in
      ⊎_elim (λ (found : HasNext v z.endpoint (suc u)).
      let after = found.after in
      let less : u < found.number = omega (arith, after) in
      let off : found.transfer.released ≡ false = not_released u found.number z found.transfer here held less found.here found.endpoint in
      let some = s.chained.some found.number found.transfer found.here off in
      let first : end_of v (runs_of_transfer z) ≡ found.transfer.first = s.chained.next u found.number (runs_of_transfer z) found.transfer there held found.here less found.endpoint found.none in
      let placed = (placed_buffer v.slot owner v.note found.number found.transfer.first found.transfer.qtds found.transfer.first (s.owners.owned.each.pieces found.number found.transfer found.here off) (piece_is v.note found.transfer.first found.transfer.qtds 0 some)).0 in
      let later = is_later u z here held same differs in
      ap (λ (i : ℕ). mine t (owner i)) first ∙ ap (mine t) placed.owned
      ∙ other_number found.number t (λ one. omega (arith, one, later, less)))
      (λ (none : NoneFrom v z.endpoint (suc u) (suc u + length d.transfers)).
      let last : end_of v (runs_of_transfer z) ≡ x.dummy = s.chained.last u (runs_of_transfer z) (runs_of_endpoint x) there held (ap (option_map runs_of_endpoint) (same_endpoint z same)) (none_at_all u z none) in
      ap (λ (i : ℕ). mine t (owner i)) last ∙ dummy_off y.endpoint x k.endpoint its_alive)
      (find_next v z.endpoint (suc u) (length d.transfers))

  pub link_off : (u i : ℕ) (z : Transfer) → slice_get d.transfers u ≡ Some z → z.released ≡ false → z.endpoint ≡ y.endpoint → u ≢ t → i < z.qtds → goes (piece_address d z (suc i)) ≡ false
  link_off u i z here held same differs below =
      goes_off (piece_at note z.first (suc i))
      (⊎_elim (λ (less : suc i < z.qtds). piece_off u (suc i) z here held less differs)
      (λ (most : z.qtds ≤ suc i). let last : suc i ≡ z.qtds = omega (arith, most, below) in ap (λ (j : ℕ). mine t (owner (piece_at note z.first j))) last ∙ end_off u z here held same differs)
      (cases_lt (suc i) z.qtds))

  -- ---- the walk may meet it

  not_opening : d.command ≡ None → d.command ≢ Some (unfinished.Open x.queue)
  not_opening free is = none_some (sym free ∙ is)
    where
      none_some : None ≡ Some (unfinished.Open x.queue) → ⊥
      none_some bad = cc

  pub met : IsMet d y.endpoint x
  met = record { there = record { linked = not_opening k.free; kept = its_alive }; near = k.near }
