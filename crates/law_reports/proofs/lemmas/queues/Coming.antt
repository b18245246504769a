-- A queue head with an unfinished transfer comes to work.
use Rattle.std.proofs.Common.{◌≡◌, ◌≢◌, ℕ, zero, suc, ◌-◌, ◌*◌, ◌<◌, ◌≤◌, ◌⊎◌, ◌||◌, Bool, true, false, if◌then◌else◌, List, length, slice_get, Some, None, option_map, ap, refl, sym, subst, ◌∙◌, ⊎_elim, arith}
use Rattle.std.specs.Prelude.{nat_eq}
use Rattle.std.proofs.lemmas.Bool.{cases_eq, cases_lt, false≢true, true≢false}
use Rattle.std.proofs.lemmas.List.{length-map}
use Rattle.std.proofs.lemmas.Option.{same_Some, slice_get_within}
use Rattle.law_queues.proofs.Common.{one_target, no_end}
use Rattle.law_common.proofs.Numbers.{other_number, same_blocks}
use Rattle.usb_base.specs.declared.packets.EpKind.{EpKind}
use Rattle.usb_base.specs.declared.packets.Way.{Way}
use Rattle.usb_base.specs.declared.packets.Way.TheVariants as ways
use Rattle.script_fits.proofs.Texts.{spelled_fits}
use Rattle.link_words.specs.declared.kinds.QtdLink.TheVariants as qtd_links
use Rattle.link_words.specs.Links.{qtd_link_of}
use Rattle.qh_qtd.specs.declared.qtd.Qtd.{Qtd}
use Rattle.qh_qtd.specs.declared.queue_head.Qh.{Qh}
use Rattle.hc_copy.specs.Visits.{next_pointer}
use Rattle.mem_queues.specs.Structures.{queue_head_at_address, qtd_at_address}
use Rattle.drv_table.specs.declared.content.Command.TheVariants as unfinished
use Rattle.drv_table.specs.declared.content.Endpoint.{Endpoint}
use Rattle.drv_table.specs.declared.content.QtdNote.{QtdNote}
use Rattle.drv_table.specs.declared.content.Transfer.{Transfer}
use Rattle.drv_table.specs.DriverContent.{DriverContent}
use Rattle.drv_table.specs.Harvests.{note_at}
use Rattle.drv_table.specs.Kinds.{is_iso}
use Rattle.drv_table.specs.Words.{head_block, dummy_qtd, is_control}
use Rattle.claims_driver.specs.Owners.{runs_of_endpoint, views_of, note_in, IsQueueIn}
use Rattle.law_driver.specs.chained_transfers.Chains.{piece_at}
use Rattle.law_driver.specs.chained_transfers.Out.{unpublished}
use Rattle.law_driver.specs.queued_drivers.Queued.{IsOfWay, queued_kind, with_queue, queued}
use Rattle.law_driver.proofs.lemmas.queued_drivers.RowLists.{queue_at, moves_at}
use Rattle.law_driver.proofs.lemmas.ring_members.Placed.{has_queue, queue_off_head}
use Rattle.law_driver.proofs.lemmas.chained_transfers.BulkAndControl.{not_iso}
use Rattle.law_driver.proofs.lemmas.chained_transfers.Staying.{stands_alive}
use Rattle.law_structures.specs.lent_structures.Structures.{QueueHead, Element, Structures, Tells}
use Rattle.law_structures.specs.lent_structures.Sound.{LeadsOn, IsElement}
use Rattle.law_structures.proofs.lemmas.lent_structures.Altering.{found_element}
use Rattle.law_structures.proofs.lemmas.lent_structures.Reading.{head_read, element_read}
use Rattle.law_ring.specs.Front.{own_pointer, LinksRise}
use Rattle.law_ring.specs.QueueParts.{IsQueuePart}
use Rattle.law_ring.specs.Told.{Endpoint as Told}
use Rattle.law_driver_ring.specs.fed_queues.Fed.{IsPieceFed, IsPublished, unpublished_of, sized}
use Rattle.law_driver_ring.specs.fed_queues.Places.{IsLast, IsMet}
use Rattle.law_driver_ring.proofs.lemmas.fed_queues.Places.{stands_met}
use Rattle.law_queues.specs.released_queues.Fronts.{piece_address, end_at}
use Rattle.law_scripts.proofs.lemmas.script_bytes.Texts.{a_text_spells_bytes}
use Rattle.bus_world.specs.World.{World}
use Rattle.law_world.specs.memory.Mixed.{Standing, IsMixedAt}
use Rattle.law_world.proofs.lemmas.memory.FittingTexts.{texts_open_fitting}
use Rattle.law_world.proofs.lemmas.memory.HarvestKept.{owners_of, driven_of, tells_of}
use Rattle.law_world.proofs.lemmas.memory.QueueViews.{told_queue}
use Rattle.law_world.proofs.lemmas.memory.Texts.{texts_fit}
use Rattle.law_world.proofs.lemmas.memory.Together.{lines_fit}
use Rattle.claims_world.specs.Unfinished.{qtd_block, IsUnfinished, GoesOnToWork, works, goes_on}
use Rattle.law_reports.specs.queues.Onward.{place_of, IsSkipped, IsUnpublished, StandsOnward}
use Rattle.law_reports.specs.queues.OnwardLaws.{GoOnward, OnwardComesToWork, ScriptsComeToWork, TextsComeToWork}
use Rattle.law_reports.proofs.lemmas.queues.Moments.{scripts_go_onward}
use Rattle.law_reports.proofs.lemmas.queues.Passing.{place_leads, leads_to}
use Rattle.law_reports.proofs.lemmas.queues.Opening.{not_opening}
use Rattle.law_reports.proofs.lemmas.queues.Ordered.{InQueue, is_dummy, is_piece, one_queue, in_queue, stored_before, along, rises, own_within, later}
use Rattle.law_reports.proofs.lemmas.queues.Storing.{publish_is, all_published, none_left, from_first}

-- ---- as the queues tell it

block_is : (notes : List QtdNote) (b i : ℕ) → qtd_block notes b i ≡ piece_at (note_in notes) b i
block_is notes b zero = refl
block_is notes b (suc i) = block_is notes (note_at notes b).next i

-- a bulk or interrupt endpoint is told as a bulk one
told_plain : (way : Way) (kind : EpKind) → IsOfWay way kind → is_control kind ≡ false → is_control (queued_kind way) ≡ false
told_plain ways.Ctl kind fits plain = absurd (false≢true (sym plain ∙ ap is_control fits))
told_plain ways.In kind fits plain = refl
told_plain ways.Out kind fits plain = refl

module _ (s : Standing) (w : World) (mixed : IsMixedAt s w) (g : GoOnward s (queued w.driver)) (e : ℕ) (x : Endpoint) (q : Qh)
    (here : slice_get w.driver.endpoints e ≡ Some x) (iso : is_iso x.desc.kind ≡ false) (plain : is_control x.desc.kind ≡ false)
    (going : x.ended ≡ None) (read : queue_head_at_address w.memory (32 * x.queue) ≡ Some q)
    (awake : q.token.halted ≡ false) (u : IsUnfinished w.driver w.memory e) where
  abbrev d : DriverContent
  d = queued w.driver

  abbrev z : Endpoint
  z = with_queue x

  abbrev y : Transfer
  y = u.transfer

  abbrev n : ℕ
  n = 32 * x.queue

  abbrev part : Structures
  part = s.parts (32 * x.queue)

  abbrev o : ℕ → ℕ
  o = s.order (32 * x.queue)

  there : slice_get (queued w.driver).endpoints e ≡ Some (with_queue x)
  there = queue_at w.driver.endpoints e x here iso

  kept : x.gone ≡ false
  kept = stands_alive z (mixed.turns.turns.asynchronous.endpoints e z there) going

  met : IsMet (queued w.driver) e (with_queue x)
  met = stands_met d e z (mixed.turns.turns.asynchronous.endpoints e z there) going
      (not_opening s w mixed e x here iso kept u.number u.transfer u.here u.endpoint u.sort)

  near : s.near (32 * x.queue) ≡ true
  near = mixed.queues.queues.met.each e z there met

  other : 32 * x.queue ≢ 32 * head_block
  other same = queue_off_head d e z (owners_of s w mixed) there (has_queue z (told_queue x) kept) (same_blocks x.queue head_block same)

  pipe : (s.ends (32 * x.queue)).dtc ≡ false
  pipe = ap (λ (t : Told). t.dtc) (mixed.queues.queues.streams_are.each e z there met).1
      ∙ told_plain x.desc.name.way x.desc.kind (mixed.turns.kinds_fit e x here) plain

  sound : IsQueuePart (32 * x.queue) (s.parts (32 * x.queue))
  sound = mixed.queues.sound e z there met

  tells : Tells w.memory s.parts
  tells = tells_of s w mixed

  queue_is : sound.queue ≡ q
  queue_is = same_Some sound.queue q (sym (head_read w.memory s.parts n n sound.queue tells sound.here) ∙ read)

  stands_here : part n ≡ Some (QueueHead q)
  stands_here = subst (λ (r : Qh). part n ≡ Some (QueueHead r)) queue_is sound.here

  -- ---- the qTD that is active

  moves : slice_get (queued w.driver).transfers u.number ≡ Some u.transfer
  moves = moves_at w.driver.endpoints w.driver.transfers u.number u.transfer u.here u.sort

  many : length (queued w.driver).transfers ≡ length w.driver.transfers
  many = length-map w.driver.transfers _

  not_publishing : suc u.number ≡ length (queued w.driver).transfers → (b : ℕ) (words : List ℕ)
      → (queued w.driver).command ≢ Some (unfinished.Publish b words)
  not_publishing newest b words is = u.stored (record {
    block = b;
    words = words;
    command = publish_is w.driver.endpoints w.driver.command b words is;
    newest = newest ∙ many;
  })

  stored : unpublished_of (queued w.driver) u.number u.transfer ≡ 0
  stored = ⊎_elim
      (λ (newest : suc u.number ≡ length d.transfers). none_left (nat_eq (suc u.number) (length d.transfers))
      (unpublished d.command d.made y.qtds)
      (all_published d.command d.made y.qtds (not_publishing newest)))
      (λ (older : suc u.number ≢ length d.transfers). ap (λ (b : Bool). if b then unpublished d.command d.made y.qtds else 0)
      (other_number (suc u.number) (length d.transfers) older)) (cases_eq (suc u.number) (length d.transfers))

  stored_from : (i : ℕ) → unpublished_of (queued w.driver) u.number u.transfer ≤ i
  stored_from i = let none = stored in omega (arith, none)

  abbrev a : ℕ
  a = piece_address (queued w.driver) u.transfer u.piece

  fed : (i : ℕ) → i < u.transfer.qtds
      → IsPieceFed y.sort part (sized y.sort i (note_at d.notes (piece_at (note_in d.notes) y.first i)))
      (piece_at (note_in d.notes) y.first i)
      (piece_at (note_in d.notes) y.first y.qtds)
  fed i below =
      mixed.queues.queues.fed.pieces u.number i y z moves u.held (ap (slice_get d.endpoints) u.endpoint ∙ there) (stored_from i) below

  -- what memory has of it
  read_at : (i : ℕ) (t : Qtd) → part (piece_address d y i) ≡ Some (Element t)
      → qtd_at_address w.memory (32 * qtd_block w.driver.notes y.first i) ≡ Some t
  read_at i t found =
      ap (λ (b : ℕ). qtd_at_address w.memory (32 * b)) (block_is w.driver.notes y.first i)
      ∙ element_read w.memory s.parts n (piece_address d y i) t tells found

  active_here : part a ≡ Some (Element u.qtd)
  active_here =
      let f = fed u.piece u.below in
      subst (λ (t : Qtd). part a ≡ Some (Element t)) (same_Some f.qtd u.qtd (sym (read_at u.piece f.qtd f.here) ∙ u.read)) f.here

  -- ---- it wasn't skipped

  rise : LinksRise (s.order (32 * x.queue)) (s.parts (32 * x.queue))
  rise = mixed.queues.controls.rises e z there met.there

  before_end : o a < o (end_at d y)
  before_end = rises d s.parts o mixed.turns.turns mixed.queues.queues.fed e z there rise u.number u.piece y.qtds y moves u.held
      u.endpoint (stored_from u.piece) u.below (omega arith)

  after_first : o (32 * y.first) ≤ o a
  after_first = along d s.parts o mixed.turns.turns mixed.queues.queues.fed e z there rise u.number 0 u.piece y moves u.held u.endpoint
      (stored_from 0) (omega arith) (let below = u.below in omega (arith, below))

  not_skipped_by : (k : IsSkipped o part a) → InQueue (queued w.driver) e (with_queue x) k.by → ⊥
  not_skipped_by k (is_dummy is lent) =
      let end : part (32 * x.dummy) ≡ Some (Element dummy_qtd) = mixed.queues.queues.fed.dummies e z there kept lent in
      let same : k.qtd ≡ dummy_qtd = found_element (part k.by) k.qtd dummy_qtd k.here (ap part is ∙ end) in
      no_end k.to (ap (λ (t : Qtd). qtd_link_of (own_pointer t)) (sym same) ∙ k.leads)
  not_skipped_by k (is_piece v i t at held own below is run) =
      let from = k.from in
      let past = k.past in
      let by_is = ap o is in
      ⊎_elim
      (λ (same : v ≡ u.number).
      let one : t ≡ y = same_Some t y (sym at ∙ ap (slice_get d.transfers) same ∙ moves) in
      let its : k.by ≡ piece_address d y i = is ∙ ap (λ (c : Transfer). piece_address d c i) one in
      let its_order = ap o its in
      let within : i < y.qtds = subst (λ (c : Transfer). i < c.qtds) one below in
      ⊎_elim
      (λ (less : i < u.piece).
      let leads = u.whole i k.qtd less (read_at i k.qtd (ap part (sym its) ∙ k.here)) k.done in
      let to_is : k.to ≡ piece_address d y (suc i) = one_target k.to (piece_address d y (suc i))
      (sym k.leads ∙ leads ∙ ap (λ (b : ℕ). qtd_links.To (32 * b)) (block_is w.driver.notes y.first (suc i))) in
      let to_order = ap o to_is in
      let up = along d s.parts o mixed.turns.turns mixed.queues.queues.fed e z there rise u.number (suc i) u.piece y moves u.held
      u.endpoint (stored_from (suc i)) (omega (arith, less)) (let low = u.below in omega (arith, low)) in
      absurd (omega (arith, past, to_order, up)))
      (λ (more : u.piece ≤ i).
      ⊎_elim
      (λ (equal : i ≡ u.piece).
      let there_too : part k.by ≡ Some (Element u.qtd) = ap part (its ∙ ap (piece_address d y) equal) ∙ active_here in
      true≢false (sym u.active ∙ ap (λ (c : Qtd). c.token.active) (found_element (part k.by) u.qtd k.qtd there_too k.here) ∙ k.done))
      (λ (differs : i ≢ u.piece).
      let up = rises d s.parts o mixed.turns.turns mixed.queues.queues.fed e z there rise u.number u.piece i y moves u.held u.endpoint
      (stored_from u.piece) (omega (arith, more, differs)) (omega (arith, within)) in
      absurd (omega (arith, from, its_order, up))) (cases_eq i u.piece))
      (cases_lt i u.piece))
      (λ (differs : v ≢ u.number).
      ⊎_elim
      (λ (less : v < u.number).
      let none = stored_before d s.parts o mixed.turns.turns mixed.queues.queues.fed e z there rise u.number y moves u.endpoint v t less in
      let bound = own_within d s.parts o mixed.turns.turns mixed.queues.queues.fed e z there rise v i t k.qtd k.to at held own
      (omega (arith, none)) below (ap part (sym is) ∙ k.here) k.leads in
      let first = later d s.parts o mixed.turns.turns mixed.queues.queues.fed e z there rise u.number y moves u.endpoint v t at held own
      less in
      let up = after_first in
      absurd (omega (arith, past, bound, first, up)))
      (λ (more : u.number ≤ v).
      let first = later d s.parts o mixed.turns.turns mixed.queues.queues.fed e z there rise v t at own u.number y moves u.held u.endpoint
      (omega (arith, more, differs)) in
      let up = from_first s w mixed e z there rise v t at held own i below run in
      let end = before_end in
      absurd (omega (arith, from, by_is, first, up, end)))
      (cases_lt v u.number))
      (cases_eq v u.number)

  not_skipped : IsSkipped o part a → ⊥
  not_skipped k = not_skipped_by k
      (in_queue d s.parts (owners_of s w mixed) mixed.turns.turns (driven_of s w mixed) e z there kept k.by k.qtd k.here)

  -- ---- what it comes to

  stand : StandsOnward o d n part q
  stand = g.stand n q near other pipe stands_here awake

  -- what is being stored stands behind it
  before_unpublished : (b : ℕ) → IsUnpublished d n b → o a < o b
  before_unpublished b un =
      let g : IsPublished d s.parts un.block un.words = mixed.queues.queues.fed.publishes un.block un.words un.command in
      let last : length d.transfers - 1 ≡ g.number = (let one = g.newest in omega (arith, one)) in
      let same : un.transfer ≡ g.transfer = same_Some un.transfer g.transfer (sym un.newest ∙ ap (slice_get d.transfers) last ∙ g.there) in
      let one : un.endpoint ≡ g.endpoint = same_Some un.endpoint g.endpoint
      (sym un.here ∙ ap (λ (t : Transfer). slice_get d.endpoints t.endpoint) same ∙ g.here) in
      let alive : g.endpoint.gone ≡ false = stands_alive g.endpoint
      (mixed.turns.turns.asynchronous.endpoints g.transfer.endpoint g.endpoint g.here)
      g.going in
      let queue : IsQueueIn (views_of d) g.transfer.endpoint (runs_of_endpoint g.endpoint) = record {
        here = ap (option_map runs_of_endpoint) g.here;
        queued = ap (λ (c : Bool). c || g.endpoint.gone)
            (not_iso g.endpoint.desc (mixed.turns.turns.asynchronous.endpoints g.transfer.endpoint g.endpoint g.here).asynchronous) ∙ alive;
      } in
      let block : g.endpoint.queue ≡ x.queue =
      ap (λ (c : Endpoint). c.queue) (sym one) ∙ sym (same_blocks x.queue un.endpoint.queue un.its) in
      let its : g.transfer.endpoint ≡ e =
      (one_queue d s.parts (owners_of s w mixed) mixed.turns.turns (driven_of s w mixed) e z there kept g.transfer.endpoint
      (runs_of_endpoint g.endpoint) queue block).0 in
      let differs : u.number ≢ g.number = λ number. not_publishing (ap suc number ∙ g.newest) un.block un.words un.command in
      let within = slice_get_within d.transfers u.number y moves in
      let newest = g.newest in
      let first = later d s.parts o mixed.turns.turns mixed.queues.queues.fed e z there rise g.number g.transfer g.there its u.number
      y moves u.held
      u.endpoint (omega (arith, within, newest, differs)) in
      let at = ap o (un.at ∙ ap (λ (c : ℕ). 32 * c) (sym g.place.0)) in
      let end = before_end in
      omega (arith, end, first, at)

  place_before : place_of o q ≤ o a
  place_before = ⊎_elim (λ (before : o a < place_of o q). absurd (not_skipped (stand.active a u.qtd active_here u.active before)))
      (λ (from : place_of o q ≤ o a). from) (cases_lt (o a) (place_of o q))

  module _ (idle : q.token.active ≡ false) where
    abbrev b : ℕ
    b = (next_pointer q).address

    leads : qtd_link_of (next_pointer q) ≡ qtd_links.To b
    leads = leads_to (next_pointer q) ((g.links n other).rest q stands_here awake idle)

    element : IsElement part b
    element = subst (LeadsOn part) leads
        (subst (λ (r : Qh). LeadsOn part (qtd_link_of (next_pointer r))) queue_is
        (sound.sound.rest (ap (λ (r : Qh). r.token.halted) queue_is ∙ awake) (ap (λ (r : Qh). r.token.active) queue_is ∙ idle)))

    place : place_of o q ≡ o b
    place = place_leads o q b idle leads

    its_active : (c : Bool) → element.qtd.token.active ≡ c → element.qtd.token.active ≡ true
    its_active true on = on
    its_active false off =
        let up = place_before in
        ⊎_elim (λ (before : o b < place_of o q). absurd (let same = place in omega (arith, before, same)))
        (λ (rest : IsLast o part b ⊎ IsUnpublished d n b).
        ⊎_elim
        (λ (last : IsLast o part b).
        let differs : a ≢ b = λ same. true≢false (sym u.active
        ∙ ap (λ (t : Qtd). t.token.active) (found_element (part a) u.qtd element.qtd active_here (ap part same ∙ element.here)) ∙ off) in
        let less = last a u.qtd active_here differs in
        let same = place in
        absurd (omega (arith, less, same, up)))
        (λ (un : IsUnpublished d n b). absurd (let less = before_unpublished b un in let same = place in omega (arith, less, same, up)))
        rest)
        (stand.done b element.qtd element.here off)

    comes : GoesOnToWork w.memory q
    comes =
        let on = its_active element.qtd.token.active refl in
        goes_on b element.qtd idle leads (element_read w.memory s.parts n b element.qtd tells element.here) on
        ((sound.elements b element.qtd element.here).work on).goes_on

  pub comes_to : (c : Bool) → q.token.active ≡ c → GoesOnToWork w.memory q
  comes_to true on = works on
  comes_to false idle = comes idle

pub onward_comes_to_work : OnwardComesToWork
onward_comes_to_work w k e x q here iso plain going read awake u =
    comes_to k.standing w k.mixed k.onward e x q here iso plain going read awake u q.token.active refl

pub scripts_come_to_work : ScriptsComeToWork
scripts_come_to_work s fit bytes opens k = onward_comes_to_work _ (scripts_go_onward s fit bytes opens k)

pub texts_come_to_work : TextsComeToWork
texts_come_to_work text s spelled =
    scripts_come_to_work s (spelled_fits text s spelled) (a_text_spells_bytes text s spelled)
    (lines_fit s.lines (texts_fit text s spelled) (texts_open_fitting text s spelled))
