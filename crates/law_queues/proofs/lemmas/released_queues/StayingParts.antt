-- Nothing that stays leads to what goes, or needs it.
use Rattle.std.proofs.Common.{◌≡◌, ◌≢◌, ℕ, suc, ◌*◌, ◌<◌, ◌⊎◌, Bool, true, false, List, slice_get, slice_index, Some, option_map, ap, refl, sym, subst, ◌∙◌, ⊎_elim, inl, inr, arith}
use Rattle.std.specs.List.{AllByRecursion}
use Rattle.std.proofs.lemmas.Bool.{cases_eq, true≢false}
use Rattle.std.proofs.lemmas.Option.{same_Some}
use Rattle.law_common.proofs.Numbers.{other_number}
use Rattle.law_driver.proofs.Common.{piece_next}
use Rattle.law_ring.proofs.Common.{link_there}
use Rattle.law_queues.proofs.Common.{one_target}
use Rattle.link_words.specs.declared.kinds.QtdLink.TheVariants as qtd_links
use Rattle.link_words.specs.Links.{qtd_link_of}
use Rattle.qh_qtd.specs.declared.qtd.Qtd.{Qtd}
use Rattle.qh_qtd.specs.declared.queue_head.Qh.{Qh}
use Rattle.hc_copy.specs.Visits.{next_pointer}
use Rattle.drv_table.specs.declared.content.Endpoint.{Endpoint}
use Rattle.drv_table.specs.declared.content.Transfer.{Transfer}
use Rattle.drv_table.specs.DriverContent.{DriverContent}
use Rattle.drv_table.specs.Parts.{Parts as DriverParts}
use Rattle.drv_table.specs.Words.{dummy_qtd}
use Rattle.drv_table.specs.Harvests.{note_at}
use Rattle.claims_driver.specs.Owners.{Buffer, IsPlaced, TransferRuns, NoteRuns, runs_of_transfer, note_in, Views, views_of, IsPieceOf}
use Rattle.law_driver.specs.chained_transfers.Chains.{piece_at}
use Rattle.law_structures.specs.lent_structures.Structures.{Element as ElementOf, QueueHead, Buffer as BufferOf, StructureSets}
use Rattle.law_structures.specs.lent_structures.Sound.{IsElement, element_pages, buffer_name, HasBuffer, IsWorking, IsSoundQueue}
use Rattle.law_structures.proofs.lemmas.lent_structures.Altering.{found_queue, found_element}
use Rattle.law_ring.specs.Fewer.{MayGo}
use Rattle.law_ring.specs.Front.{IsFront, LinksRise}
use Rattle.law_controller.specs.controlled_streams.Returned.{KeepsBuffers}
use Rattle.law_driver_ring.specs.Inventory.{Sort, sort_of, OfBuffer, IsDriverOwned, the_list, the_head, a_queue, a_dummy, a_piece, a_buffer}
use Rattle.law_driver_ring.specs.Released.{goes_of}
use Rattle.law_driver_ring.proofs.Blocks.{mine, placed_buffer}
use Rattle.law_driver_ring.specs.fed_queues.Fed.{IsPieceFed, sized}
use Rattle.law_queues.specs.released_queues.Fronts.{piece_address, StandsAt}
use Rattle.law_queues.proofs.lemmas.released_queues.Pieces.{HasNumber, number_of, rises_below, first_taken, name_noted}
use Rattle.law_driver_ring.specs.fed_queues.Places.{IsMet}
use Rattle.law_frames.specs.Met.{IsQueuePart}
use Rattle.law_queues.specs.released_queues.Released.{IsReturning}
use Rattle.law_queues.specs.released_queues.Staying.{QueuesAreTold}
use Rattle.law_queues.proofs.lemmas.released_queues.Links.{mapped, alternate_to}
use Rattle.law_queues.proofs.lemmas.released_queues.StayingQueues.{its_alive, met as its_met, goes_off, goes_on, head_off, InQueue, is_dummy, is_piece, in_queue, one_queue, fed_piece, piece_off, link_off, end_off, dummy_off}

module _ (parts : StructureSets) (p : DriverParts) (order : ℕ → ℕ → ℕ) (out : ℕ → List ℕ) (t : ℕ) (y : Transfer) (x : Endpoint) (s : QueuesAreTold parts p order out) (k : IsReturning p.driver t y x) (whole : IsQueuePart (32 * x.queue) (parts (32 * x.queue))) where
  abbrev d : DriverContent
  d = p.driver

  abbrev v : Views
  v = views_of d

  abbrev n : ℕ
  n = 32 * x.queue

  abbrev note : ℕ → NoteRuns
  note = note_in d.notes

  abbrev goes : ℕ → Bool
  goes = goes_of d y

  -- what was shown of the queue, here
  off : (c : ℕ) → mine t (s.owners.owner c) ≡ false → goes (32 * c) ≡ false
  off = goes_off parts p order out t y x s k

  on : (i : ℕ) → i < y.qtds → goes (piece_address d y i) ≡ true
  on = goes_on parts p order out t y x s k

  among : (a : ℕ) (q : Qtd) → parts n a ≡ Some (ElementOf q) → InQueue parts p order out t y x s k a
  among = in_queue parts p order out t y x s k

  fed : (u i : ℕ) (z : Transfer) → slice_get d.transfers u ≡ Some z → z.released ≡ false → z.endpoint ≡ y.endpoint → i < z.qtds → IsPieceFed z.sort (parts n) (sized z.sort i (note_at d.notes (piece_at note z.first i))) (piece_at note z.first i) (piece_at note z.first z.qtds)
  fed = fed_piece parts p order out t y x s k

  same_transfer : (u : ℕ) (z : Transfer) → slice_get d.transfers u ≡ Some z → u ≡ t → z ≡ y
  same_transfer u z here same = same_Some z y (sym here ∙ ap (slice_get d.transfers) same ∙ k.here)

  alive : x.gone ≡ false
  alive = its_alive parts p order out t y x s k

  met : IsMet d y.endpoint x
  met = its_met parts p order out t y x s k

  pub stand : StandsAt d (parts n) (order n) (out n) y.endpoint x
  stand = s.fronts y.endpoint x k.endpoint met

  pub rise : LinksRise (order n) (parts n)
  rise = s.rise y.endpoint x k.endpoint met.there

  -- ---- orders

  step : (i : ℕ) → i < y.qtds → order n (piece_address d y i) < order n (piece_address d y (suc i))
  step i below =
      let f = fed t i y k.here k.held refl below in
      rise.next (piece_address d y i) f.qtd (piece_address d y (suc i)) f.here (ap qtd_link_of f.noted.next ∙ ap (λ (c : ℕ). qtd_links.To (32 * c)) (sym (piece_next note y.first i)))

  pub before_front : (i : ℕ) → i < y.qtds → order n (piece_address d y i) < stand.front
  before_front i below =
      let less = rises_below (λ j. order n (piece_address d y j)) i y.qtds below (λ j from under. step j under) in
      let most = stand.ended 0 t y k.first k.here k.held refl in
      omega (arith, less, most)

  -- a qTD goes only where it stands before the front
  stays_or_before : (a : ℕ) (q : Qtd) → parts n a ≡ Some (ElementOf q) → (goes a ≡ false) ⊎ (order n a < stand.front)
  stays_or_before a q here = by_place (among a q here)
    where
      by_place : InQueue parts p order out t y x s k a → (goes a ≡ false) ⊎ (order n a < stand.front)
      by_place (is_dummy at lent) = inl (ap goes at ∙ off x.dummy (dummy_off parts p order out t y x s k y.endpoint x k.endpoint alive))
      by_place (is_piece u i z there held same below at) =
          ⊎_elim (λ (one : u ≡ t).
          let is : z ≡ y = same_transfer u z there one in
          inr (subst (λ (j : ℕ). order n j < stand.front) (sym (at ∙ ap (λ (r : Transfer). piece_address d r i) is)) (before_front i (subst (λ (r : Transfer). i < r.qtds) is below))))
          (λ (differs : u ≢ t). inl (ap goes at ∙ off (piece_at note z.first i) (piece_off parts p order out t y x s k u i z there held below differs))) (cases_eq u t)

  -- ---- links

  dummy_links : (a b : ℕ) (q : Qtd) → a ≡ 32 * x.dummy → parts n (32 * x.dummy) ≡ Some (ElementOf dummy_qtd) → parts n a ≡ Some (ElementOf q) → (qtd_link_of q.next ≡ qtd_links.To b → ⊥) × (qtd_link_of q.alternate ≡ qtd_links.To b → ⊥)
  dummy_links a b q at there here =
      let is : q ≡ dummy_qtd = found_element (parts n a) q dummy_qtd here (ap (parts n) at ∙ there) in
      (λ to. no_link b (ap (λ (r : Qtd). qtd_link_of r.next) (sym is) ∙ to), λ to. no_link b (ap (λ (r : Qtd). qtd_link_of r.alternate) (sym is) ∙ to))
    where
      no_link : (b : ℕ) → qtd_links.End ≡ qtd_links.To b → ⊥
      no_link b bad = cc

  -- the links of a qTD that stays lead to what stays
  links_stay : (a b : ℕ) (q : Qtd) → parts n a ≡ Some (ElementOf q) → goes a ≡ false → ((qtd_link_of q.next ≡ qtd_links.To b) ⊎ (qtd_link_of q.alternate ≡ qtd_links.To b)) → goes b ≡ false
  links_stay a b q here stay leads = by_place (among a q here)
    where
      by_place : InQueue parts p order out t y x s k a → goes b ≡ false
      by_place (is_dummy at lent) =
          let none = dummy_links a b q at (s.fed.dummies y.endpoint x k.endpoint alive lent) here in
          absurd (⊎_elim (λ (to : qtd_link_of q.next ≡ qtd_links.To b). none.0 to) (λ (to : qtd_link_of q.alternate ≡ qtd_links.To b). none.1 to) leads)
      by_place (is_piece u i z there held same below at) =
          ⊎_elim (λ (one : u ≡ t).
          let is : z ≡ y = same_transfer u z there one in
          absurd (true≢false (sym (on i (subst (λ (r : Transfer). i < r.qtds) is below)) ∙ ap goes (sym (at ∙ ap (λ (r : Transfer). piece_address d r i) is)) ∙ stay)))
          (λ (differs : u ≢ t).
          let f = fed u i z there held same below in
          let is : q ≡ f.qtd = found_element (parts n a) q f.qtd here (ap (parts n) at ∙ f.here) in
          ⊎_elim (λ (to : qtd_link_of q.next ≡ qtd_links.To b).
          let b_is : 32 * (note (piece_at note z.first i)).next ≡ b = one_target (32 * (note (piece_at note z.first i)).next) b (sym (ap qtd_link_of f.noted.next) ∙ ap (λ (r : Qtd). qtd_link_of r.next) (sym is) ∙ to) in
          ap goes (sym b_is ∙ ap (λ (c : ℕ). 32 * c) (sym (piece_next note z.first i))) ∙ link_off parts p order out t y x s k u i z there held same differs below)
          (λ (to : qtd_link_of q.alternate ≡ qtd_links.To b).
          let next : ℕ = (note (piece_at note z.first i)).next in
          let end : ℕ = piece_at note z.first z.qtds in
          ⊎_elim (λ (b_is : 32 * end ≡ b). ap goes (sym b_is) ∙ off end (end_off parts p order out t y x s k u z there held same differs))
          (λ (b_is : 32 * next ≡ b).
          ap goes (sym b_is ∙ ap (λ (c : ℕ). 32 * c) (sym (piece_next note z.first i))) ∙ link_off parts p order out t y x s k u i z there held same differs below)
          (alternate_to z.sort f.qtd.alternate next end b f.noted.alternate (ap (λ (r : Qtd). qtd_link_of r.alternate) (sym is) ∙ to))) leads) (cases_eq u t)

  -- ---- buffers

  -- a buffer that goes is that of a qTD that goes
  buffer_owned : (m a : ℕ) (i : Sort) (b : ℕ) (q : Qtd) (pages : List ℕ) (j : ℕ) (bs : List ℕ) → m ≡ n → i ≡ OfBuffer → parts n b ≡ Some (ElementOf q) → goes b ≡ false → a ≡ buffer_name q → parts n a ≡ Some (BufferOf pages j bs) → IsDriverOwned v m a i → goes a ≡ false
  buffer_owned _ _ _ b q pages j bs at is here stay name there the_list = absurd (cc)
  buffer_owned _ _ _ b q pages j bs at is here stay name there the_head = absurd (cc)
  buffer_owned _ _ _ b q pages j bs at is here stay name there (a_queue e z queued lent) = absurd (cc)
  buffer_owned _ _ _ b q pages j bs at is here stay name there (a_dummy e z queued lent) = absurd (cc)
  buffer_owned _ _ _ b q pages j bs at is here stay name there (a_piece u c r e transfer piece lent) = absurd (cc)
  buffer_owned _ _ _ b q pages j bs at is here stay name there (a_buffer u c g gs r e transfer piece first lent) =
      let queue = one_queue parts p order out t y x s k r.endpoint e transfer.queue (let same : e.queue ≡ x.queue = omega (arith, at) in same) in
      let z = mapped runs_of_transfer (slice_get d.transfers u) r transfer.here in
      let held : z.0.released ≡ false = ap (λ (f : TransferRuns). f.released) (sym z.2) ∙ transfer.held in
      let placed = (placed_buffer v.slot s.owners.owner v.note u r.first r.qtds c (s.owners.owned.each.pieces u r transfer.here transfer.held) piece).1 in
      let mine_first = subst (AllByRecursion (λ f. IsPlaced v.slot s.owners.owner f (Buffer u))) first placed in
      ⊎_elim (λ (one : u ≡ t).
      let is_y : z.0 ≡ y = same_transfer u z.0 z.1 one in
      let runs_are : r ≡ runs_of_transfer y = z.2 ∙ ap runs_of_transfer is_y in
      let place : HasNumber note y.first y.qtds c = number_of note y.first y.qtds c (subst (λ (f : TransferRuns). IsPieceOf note f.first f.qtds c) runs_are piece) in
      let f = fed t place.number y k.here k.held refl place.below in
      let first_is : slice_index (note_at d.notes (piece_at note y.first place.number)).buffer 0 ≡ g = ap (λ (i : ℕ). slice_index (note_at d.notes i).buffer 0) (sym place.at) ∙ first_taken (note_at d.notes c).runs g gs (note_at d.notes c).buffer first in
      let name_is : buffer_name f.qtd ≡ 32 * g = name_noted y.sort f.qtd (sized y.sort place.number (note_at d.notes (piece_at note y.first place.number))) (piece_at note y.first y.qtds) f.noted ∙ ap (λ (i : ℕ). 32 * i) first_is in
      let same : b ≡ piece_address d y place.number = whole.own b (piece_address d y place.number) q f.qtd pages j bs here f.here (sym name ∙ sym name_is) (ap (parts n) (sym name) ∙ there) in
      absurd (true≢false (sym (on place.number place.below) ∙ ap goes (sym same) ∙ stay)))
      (λ (differs : u ≢ t). off g (ap (mine t) mine_first.0.owned ∙ other_number u t differs)) (cases_eq u t)

  pub buffers_stay : KeepsBuffers goes (parts n)
  buffers_stay a q here stay buffer =
      buffer_owned n (buffer_name q) OfBuffer a q buffer.pages buffer.start buffer.bytes refl refl here stay refl buffer.here (s.driven.only n (buffer_name q) OfBuffer (ap (option_map sort_of) buffer.here))

  -- ---- the whole

  pub head_stays : goes n ≡ false
  head_stays = off x.queue (head_off parts p order out t y x s k)

  pub may_go : (q : Qh) → parts n n ≡ Some (QueueHead q) → MayGo goes n (parts n) q
  may_go q here =
      let is : whole.queue ≡ q = found_queue (parts n n) whole.queue q whole.here here in
      let sound : IsSoundQueue (parts n) q = subst (IsSoundQueue (parts n)) is whole.sound in
      let f : IsFront (order n) (stand.front) q = stand.has.queue q here in
      record {
        head = head_stays;
        work = λ active.
            let w0 : IsWorking (parts n) q = sound.work active in
            ⊎_elim (λ (stay : goes q.current ≡ false). stay) (λ (less : order n q.current < stand.front). absurd (let at = f.work active in omega (arith, at, less))) (stays_or_before q.current w0.element w0.here);
        rest = λ a goes_on_too idle to.
            let there : IsElement (parts n) a = link_there (parts n) (qtd_link_of (next_pointer q)) a (sound.rest goes_on_too idle) to in
            ⊎_elim (λ (stay : goes a ≡ false). stay) (λ (less : order n a < stand.front). absurd (let at = f.rest a goes_on_too idle to in omega (arith, at, less))) (stays_or_before a there.qtd there.here);
        next = λ a b e there stay to. links_stay a b e there stay (inl to);
        alternate = λ a b e there stay to. links_stay a b e there stay (inr to);
        buffer = λ a e there stay active some.
            let has : HasBuffer (parts n) e e.token.total = ((whole.elements a e there).work active).buffer some in
            buffers_stay a e there stay (record { pages = element_pages e; start = e.offset; bytes = has.bytes; here = has.here });
      }
