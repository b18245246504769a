-- Which qTDs of a control endpoint's queue memory has: the one at which the queue goes on, and the one that is read next, which is out.
use Rattle.std.proofs.Common.{◌≡◌, ◌≢◌, ℕ, zero, suc, ◌+◌, ◌-◌, ◌*◌, ◌<◌, ◌≤◌, ◌==◌, Bool, true, false, not, ◌&&◌, ◌||◌, cond, List, [], ◌∷◌, drop, slice_get, Option, Some, None, option_map, ap, sym, subst, ◌∙◌, inl, refl, arith}
use Rattle.std.proofs.lemmas.Bool.{false≢true, true≢false, eq-eqb}
use Rattle.std.proofs.lemmas.Option.{same_Some}
use Rattle.law_queues.proofs.Common2.{element_by}
use Rattle.law_queues.proofs.Common.{among_left, among_right, if_zero, told_at}
use Rattle.law_driver.proofs.Common.{control_kind}
use Rattle.mem_runs.specs.Book.{slot_of}
use Rattle.mem_runs.specs.declared.slots.Slot.{Slot}
use Rattle.drv_table.specs.declared.content.Endpoint.{Endpoint}
use Rattle.drv_table.specs.declared.content.Transfer.{Transfer}
use Rattle.drv_table.specs.declared.content.Command.{Command}
use Rattle.drv_table.specs.declared.content.Command.TheVariants as unfinished
use Rattle.drv_table.specs.DriverContent.{DriverContent}
use Rattle.drv_table.specs.Kinds.{is_iso}
use Rattle.claims_driver.specs.Owners.{Owner, QueueHead, Dummy, Element as OfTransfer, HasRun, IsPlaced, ArePieces, NoteRuns, Views, views_of, note_in, runs_of_endpoint, runs_of_transfer, is_descriptor, IsQueueIn}
use Rattle.claims_driver.specs.Leaving.{HasOwners}
use Rattle.law_driver.proofs.lemmas.run_owners.Runs.{placed_run}
use Rattle.claims_driver.specs.LentRuns.{AreLent}
use Rattle.law_driver.proofs.lemmas.lent_runs.Laws.{all_are_lent_between_commands}
use Rattle.law_structures.specs.lent_structures.Structures.{StructureSets}
use Rattle.law_structures.specs.lent_structures.Sound.{IsElement}
use Rattle.law_ring.specs.Order.{IsAmong}
use Rattle.law_driver_ring.specs.Inventory.{OfElement, sorts_of, IsDriven}
use Rattle.law_driver.specs.chained_transfers.Chains.{piece_at, AreChained}
use Rattle.law_driver.specs.chained_transfers.Turns.{Turn, turn_of, turn_in, AreReportedTo, AreInTurn}
use Rattle.law_driver.specs.chained_transfers.Out.{pieces_from, passed, out_of_transfer, if_last, out_of}
use Rattle.law_driver_ring.specs.fed_queues.Places.{AreStillOut}
use Rattle.law_queues.specs.mended_heads.Owed.{StalledQueue, GoesOnAt, IsOwed}

-- ---- control endpoints have queues

-- its endpoint, as the runs are told
pub queued_in : (d : DriverContent) (e : ℕ) (x : Endpoint) → slice_get d.endpoints e ≡ Some x → is_iso x.desc.kind ≡ false → x.gone ≡ false → IsQueueIn (views_of d) e (runs_of_endpoint x)
queued_in d e x here queued kept = record { here = ap (option_map runs_of_endpoint) here; queued = ap (λ (b : Bool). b || x.gone) queued ∙ kept }

pub queue_placed : (d : DriverContent) (has : HasOwners d) (e : ℕ) (x : Endpoint) → slice_get d.endpoints e ≡ Some x → is_iso x.desc.kind ≡ false → x.gone ≡ false → IsPlaced (slot_of d.book.slots) has.owner x.queue (QueueHead e)
queue_placed d has e x here queued kept = let q = queued_in d e x here queued kept in has.owned.each.queue e (runs_of_endpoint x) q.here q.queued

-- ---- elements

pub is_element : (parts : StructureSets) (n a : ℕ) → sorts_of parts n a ≡ Some OfElement → IsElement (parts n) a
is_element parts n a is = let e = element_by (parts n a) is in record { qtd = e.0; here = e.1 }

placed_at : (slot : ℕ → Slot) (owner : ℕ → Owner) (note : ℕ → NoteRuns) (t b n i : ℕ) → ArePieces slot owner note t b n → i < n → IsPlaced slot owner (piece_at note b i) (OfTransfer t)
placed_at slot owner note t b zero i all below = absurd (omega (arith, below))
placed_at slot owner note t b (suc n) zero all below = all.0.element
placed_at slot owner note t b (suc n) (suc i) all below = placed_at slot owner note t (note b).next n i all.1 (omega (arith, below))

-- ---- transfers of an endpoint that goes on

-- transfer t of endpoint e isn't reported, and so it wasn't given back
pub record IsUntold (d : DriverContent) (e t : ℕ) (y : Transfer) : Type 0 where
  pub there : slice_get d.transfers t ≡ Some y
  pub endpoint : y.endpoint ≡ e
  pub waits : y.reported ≡ false
  pub held : y.released ≡ false

held_by : (d : DriverContent) (e t : ℕ) (x : Endpoint) (y : Transfer) → AreInTurn d → slice_get d.endpoints e ≡ Some x → x.gone ≡ false → slice_get d.transfers t ≡ Some y → y.endpoint ≡ e → y.reported ≡ false → y.released ≡ false
held_by d e t x y turns here kept there own waits = by y.released refl
  where
    by : (b : Bool) → y.released ≡ b → y.released ≡ false
    by false is = is
    by true is =
        absurd (false≢true (sym waits
        ∙ turns.turns.told t (turn_of y) (ap (option_map turn_of) there) (record { endpoint = x; here = ap (slice_get d.endpoints) own ∙ here; gone = kept }) is))

pub untold_by : (d : DriverContent) (e t : ℕ) (x : Endpoint) (y : Transfer) → AreInTurn d → slice_get d.endpoints e ≡ Some x → x.gone ≡ false → slice_get d.transfers t ≡ Some y → y.endpoint ≡ e → y.reported ≡ false → IsUntold d e t y
untold_by d e t x y turns here kept there own waits = record { there = there; endpoint = own; waits = waits; held = held_by d e t x y turns here kept there own waits }

module _ (d : DriverContent) (has : HasOwners d) (lent : AreLent d) (idle : d.command ≡ None) (parts : StructureSets) (driven : IsDriven (views_of d) (sorts_of parts)) (e : ℕ) (x : Endpoint) (here : slice_get d.endpoints e ≡ Some x) (queued : is_iso x.desc.kind ≡ false) (kept : x.gone ≡ false) where
  abbrev v : Views
  v = views_of d

  dummy_there : IsElement (parts (32 * x.queue)) (32 * x.dummy)
  dummy_there =
      let q = queued_in d e x here queued kept in
      let run : HasRun (slot_of d.book.slots x.dummy) = placed_run x.dummy (Dummy e) (has.owned.each.dummy e (runs_of_endpoint x) q.here q.queued) in
      is_element parts (32 * x.queue) (32 * x.dummy) (driven.dummy e (runs_of_endpoint x) q
      (all_are_lent_between_commands d x.dummy idle lent run))

  -- each qTD of a transfer that isn't reported
  pub piece_there : (t i : ℕ) (y : Transfer) → IsUntold d e t y → i < y.qtds → IsElement (parts (32 * x.queue)) (32 * piece_at (note_in d.notes) y.first i)
  piece_there t i y u below =
      let there : v.transfer t ≡ Some (runs_of_transfer y) = ap (option_map runs_of_transfer) u.there in
      let sort : is_descriptor y.sort ≡ false = has.orderly.sorts t y x u.there (ap (slice_get d.endpoints) u.endpoint ∙ here) ∙ queued in
      let q : IsQueueIn v y.endpoint (runs_of_endpoint x) = queued_in d y.endpoint x (ap (slice_get d.endpoints) u.endpoint ∙ here) queued kept in
      let b = piece_at (note_in d.notes) y.first i in
      let told = told_at v (sorts_of parts (32 * x.queue)) y.first y.qtds i (driven.pieces t (runs_of_transfer y) (runs_of_endpoint x) (record { here = there; held = u.held; qtds = sort; queue = q })) below in
      let run : HasRun (slot_of d.book.slots b) = placed_run b (OfTransfer t) (placed_at (slot_of d.book.slots) has.owner (note_in d.notes) t y.first y.qtds i (has.owned.each.pieces t (runs_of_transfer y) there u.held) below) in
      is_element parts (32 * x.queue) (32 * b) (told.element (all_are_lent_between_commands d b idle lent run))

  onward_by : (next : Option ℕ) (b : ℕ) → AreChained (views_of d) → AreInTurn d → AreReportedTo (turn_in d.transfers) e next → GoesOnAt d.transfers x.dummy next b → IsElement (parts (32 * x.queue)) (32 * b)
  onward_by None b chained turns reported is = subst (λ (c : ℕ). IsElement (parts (32 * x.queue)) (32 * c)) (sym is) dummy_there
  onward_by (Some t) b chained turns next is =
      let y = is.transfer in
      let same : turn_of y ≡ next.transfer = same_Some (turn_of y) next.transfer (sym (ap (option_map turn_of) is.here) ∙ next.here) in
      let u = untold_by d e t x y turns here kept is.here (ap (λ (z : Turn). z.endpoint) same ∙ next.endpoint) (ap (λ (z : Turn). z.reported) same ∙ next.waits) in
      subst (λ (c : ℕ). IsElement (parts (32 * x.queue)) (32 * c)) (sym is.first)
      (piece_there t 0 y u (chained.some t (runs_of_transfer y) (ap (option_map runs_of_transfer) is.here) u.held))

-- the qTD at which the queue goes on
pub onward_there : (d : DriverContent) (parts : StructureSets) (s : StalledQueue) → HasOwners d → AreLent d → AreChained (views_of d) → AreInTurn d → d.command ≡ None → IsDriven (views_of d) (sorts_of parts) → IsOwed d s
    → IsElement (parts (32 * s.queue)) (32 * s.onward)
onward_there d parts s has lent chained turns idle driven k =
    subst (λ (q : ℕ). IsElement (parts (32 * q)) (32 * s.onward)) k.queue
    (onward_by d has lent idle parts driven k.number k.endpoint k.here (control_kind k.endpoint.desc.kind k.control) k.kept k.endpoint.next s.onward chained turns (turns.turns.next k.number k.endpoint k.here k.going) k.onward)

-- ---- the one that is read next is out

first_out : (note : ℕ → NoteRuns) (b n : ℕ) → 1 ≤ n → IsAmong (32 * b) (pieces_from note b n)
first_out note b zero some = absurd (omega (arith, some))
first_out note b (suc n) some = inl refl

out_by : (b c : Bool) (xs : List ℕ) (a : ℕ) → b ≡ true → c ≡ false → IsAmong a xs → IsAmong a (cond b (drop (0 + passed c) xs) [])
out_by true false xs a on off is = is
out_by false c xs a on off is = absurd (false≢true on)
out_by true true xs a on off is = absurd (true≢false off)

place_out : (note : ℕ → NoteRuns) (e : ℕ) (y : Transfer) → y.endpoint ≡ e → y.released ≡ false → y.reported ≡ false → 1 ≤ y.left → IsAmong (32 * y.place) (out_of_transfer note e 0 y)
place_out note e y own held waits some =
    out_by (y.endpoint == e && not y.released) y.reported (pieces_from note y.place y.left) (32 * y.place)
    (ap (λ (b : Bool). b && not y.released) (eq-eqb y.endpoint e own) ∙ ap not held) waits (first_out note y.place y.left some)

place_among : (note : ℕ → NoteRuns) (e t made : ℕ) (ts : List Transfer) (y : Transfer) → slice_get ts t ≡ Some y → y.endpoint ≡ e → y.released ≡ false → y.reported ≡ false → 1 ≤ y.left
    → IsAmong (32 * y.place) (out_of note e None made ts)
place_among note e t made [] y there own held waits some = absurd (cc)
place_among note e zero made (z ∷ zs) y there own held waits some =
    let same : z ≡ y = cc in
    among_left (32 * y.place) (out_of_transfer note e (if_last zs 0) z) (out_of note e None made zs)
    (subst (λ (n : ℕ). IsAmong (32 * y.place) (out_of_transfer note e n z)) (sym (if_zero zs))
    (subst (λ (w : Transfer). IsAmong (32 * y.place) (out_of_transfer note e 0 w)) (sym same) (place_out note e y own held waits some)))
place_among note e (suc t) made (z ∷ zs) y there own held waits some =
    among_right (32 * y.place) (out_of_transfer note e (if_last zs 0) z) (out_of note e None made zs) (place_among note e t made zs y there own held waits some)

never_open : (c : Option Command) (q : ℕ) → c ≡ None → c ≢ Some (unfinished.Open q)
never_open c q none opens = let never : ◌≡◌ {A = Option Command} None (Some (unfinished.Open q)) = sym none ∙ opens in never_both q never
  where
    never_both : (q : ℕ) → ◌≡◌ {A = Option Command} None (Some (unfinished.Open q)) → ⊥
    never_both q same = cc

pub place_is_out : (d : DriverContent) (out : ℕ → List ℕ) (e t : ℕ) (x : Endpoint) (y : Transfer) → AreInTurn d → AreStillOut d out → d.command ≡ None → slice_get d.endpoints e ≡ Some x → x.gone ≡ false → IsUntold d e t y
    → IsAmong (32 * y.place) (out (32 * x.queue))
place_is_out d out e t x y turns still idle here kept u =
    let at = turns.places t y u.there u.held in
    subst (IsAmong (32 * y.place)) (sym (still e x here (record { linked = never_open d.command x.queue idle; kept = kept })))
    (subst (λ (c : Option Command). IsAmong (32 * y.place) (out_of (note_in d.notes) e c d.made d.transfers)) (sym idle)
    (place_among (note_in d.notes) e t d.made d.transfers y u.there u.endpoint u.held u.waits at.some))

pub place_there : (d : DriverContent) (parts : StructureSets) (e t : ℕ) (x : Endpoint) (y : Transfer) → HasOwners d → AreLent d → AreInTurn d → d.command ≡ None → IsDriven (views_of d) (sorts_of parts)
    → slice_get d.endpoints e ≡ Some x → is_iso x.desc.kind ≡ false → x.gone ≡ false → IsUntold d e t y → IsElement (parts (32 * x.queue)) (32 * y.place)
place_there d parts e t x y has lent turns idle driven here queued kept u =
    let at = turns.places t y u.there u.held in
    let some = at.some in
    let most = at.most in
    subst (λ (b : ℕ). IsElement (parts (32 * x.queue)) (32 * b)) (sym at.place) (piece_there d has lent idle parts driven e x here queued kept t (y.qtds - y.left) y u (omega (arith, some, most)))
