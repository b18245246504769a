-- Each command, refused or accepted, leaves the queues of interrupt endpoints with data alone: the stages of a get are INs, and those of a put OUTs.
use Rattle.std.proofs.Common.{◌≡◌, ℕ, zero, suc, ◌+◌, ◌-◌, ◌*◌, ◌/◌, ◌<◌, ◌≤◌, ◌⊎◌, ◌||◌, true, false, List, [], ◌∷◌, ◌++◌, length, take, drop, get_or, slice_get, Option, Some, None, Result, Ok, Err, option_map, ap, refl, sym, subst, ◌∙◌, ⊎_elim, inl, inr, arith}
use Rattle.std.specs.List.{AllByRecursion}
use Rattle.std.proofs.lemmas.Bool.{false≢true}
use Rattle.std.proofs.lemmas.Option.{same_Some}
use Rattle.std.proofs.lemmas.List.{length-append, length-map}
use Rattle.law_microframes.proofs.Common.{idle_by}
use Rattle.law_common.proofs.Lists.{drop_first, push_which}
use Rattle.usb_base.specs.declared.commands.Cmd.{Cmd}
use Rattle.usb_base.specs.declared.packets.Dir.{Dir}
use Rattle.usb_base.specs.declared.packets.Dir.TheVariants as directions
use Rattle.usb_base.specs.declared.packets.EpKind.{EpKind}
use Rattle.usb_base.specs.declared.packets.EpKind.TheVariants.{Interrupt}
use Rattle.usb_base.specs.declared.packets.Way.{Way}
use Rattle.usb_base.specs.declared.packets.Way.TheVariants as ways
use Rattle.usb_base.specs.declared.reports.OfferError.{OfferError}
use Rattle.word_mem.specs.Memory.{Mem, IsShaped, is_lent, reaches, word_at}
use Rattle.mem_runs.specs.declared.slots.Slot.{Slot}
use Rattle.mem_runs.specs.declared.slots.Slot.TheVariants as slots
use Rattle.mem_runs.specs.Book.{holding, Stands, slot_of}
use Rattle.mem_runs.proofs.Standing.{lends_at, lends_all}
use Rattle.qh_qtd.specs.declared.qtd.Qtd.{Qtd}
use Rattle.drv_periodic_table.specs.Periodic.{dir_of}
use Rattle.drv_table.specs.declared.content.Command.{Command}
use Rattle.drv_table.specs.declared.content.Command.TheVariants as unfinished
use Rattle.drv_table.specs.declared.content.Endpoint.{Endpoint}
use Rattle.drv_table.specs.declared.content.QtdNote.{QtdNote}
use Rattle.drv_table.specs.declared.content.Slots.{Slots}
use Rattle.drv_table.specs.declared.content.Stage.{Stage}
use Rattle.drv_table.specs.declared.content.Transfer.{Transfer}
use Rattle.drv_table.specs.DriverContent.{DriverContent}
use Rattle.drv_table.specs.Words.{needs, dummy_qtd}
use Rattle.drv_table.specs.Harvests.{note_at}
use Rattle.drv_table.specs.Accepting.{Offered, new_runs}
use Rattle.drv_table.specs.IsoOffers.{Descriptors, slot_runs, descriptor_transfer}
use Rattle.drv_table.specs.Offers.{offered, new_transfer, note_stages, is_last}
use Rattle.drv_table.specs.CancelOffers.{with_cancel, endpoint_members}
use Rattle.law_driver.specs.run_owners.Accepts.{Accepts, opens, chains, places, transfers, describes, cancels, unchains, Transfers, Describes, Unchains, AreShort}
use Rattle.claims_driver.specs.Owners.{Element, HasRun, IsPlaced, is_descriptor, runs_of_endpoint, runs_of_note, runs_of_transfer, note_in}
use Rattle.claims_driver.specs.Leaving.{HasOwners}
use Rattle.law_driver_ring.specs.Inventory.{IsLent}
use Rattle.law_driver_ring.specs.Written.{AreNoted, AreWritten}
use Rattle.law_driver_ring.specs.Published.{partly}
use Rattle.law_driver_ring.specs.Pieces.{stage_qtd}
use Rattle.law_driver.specs.chained_transfers.Bulk.{stage_by}
use Rattle.law_driver.specs.chained_transfers.Chains.{piece_at}
use Rattle.law_driver_ring.specs.fed_queues.Fed.{IsPublished}
use Rattle.law_driver.specs.in_place.InPlace.{IsInPlace}
use Rattle.law_driver_ring.proofs.Holding.{qtd_range, blocks_low}
use Rattle.law_driver.proofs.lemmas.chained_transfers.Chained.{piece_same, pieces_same}
use Rattle.law_driver.proofs.lemmas.chained_transfers.Queued.{not_dummy}
use Rattle.law_driver.proofs.lemmas.run_owners.Chains.{notes_apart}
use Rattle.law_driver.proofs.lemmas.run_owners.Commands.{each_command_has_its_reason}
use Rattle.law_driver.proofs.lemmas.run_owners.Runs.{placed_run}
use Rattle.law_driver.proofs.lemmas.run_owners.Stays.{or_done as stays_or_done}
use Rattle.law_driver.proofs.lemmas.run_owners.Taking.{runs_taken}
use Rattle.law_driver.proofs.lemmas.run_owners.Transferred.{are_new, goes_on_alive}
use Rattle.law_structures.specs.lent_structures.Structures.{Tells}
use Rattle.law_structures.specs.lent_structures.Changes.{Leaves}
use Rattle.law_queues.specs.fed_lends.ToLend.{AreStagesBy, IsToBeLent}
use Rattle.law_queues.proofs.lemmas.fed_lends.Asked.{not_taken}
use Rattle.law_descriptors.proofs.Accepted.{made, all_transfers}
use Rattle.law_driver.specs.queued_drivers.Queued.{with_queue, queued_transfer, queued, IsOfWay}
use Rattle.bus_world.specs.World.{World, name_in, commanded_by}
use Rattle.law_world.specs.memory.Mixed.{Standing, IsMixedAt, IsMixedWorld, IsUnderWay}
use Rattle.law_world.proofs.lemmas.memory.CommandKeeping.{command_keeps_mixed}
use Rattle.law_world.proofs.lemmas.memory.QueueViews.{queues_told}
use Rattle.law_microframes.proofs.lemmas.visits.BelongSeen.{Seen, seen_in, IsSeenIn, seen_set, seen_there, or_done}
use Rattle.law_world.proofs.lemmas.memory.LeavesLent.{leaves_lent}
use Rattle.law_microframes.proofs.lemmas.visits.BelongTold.{or_left}
use Rattle.law_microframes.specs.time.DataQueues.{qtd_in, pid_of, way_of, SendsData, QueuesSendData, CommandKeepsData}
use Rattle.law_microframes.proofs.lemmas.time.DataWords.{told_qtd, of_words, same_sends}
use Rattle.law_microframes.proofs.lemmas.time.DataTold.{pid_low, piece_run, there_queued, here_queued}

-- ---- what was accepted

-- the newest transfer is to be published
record IsNewest (d : DriverContent) (t : ℕ) : Type 0 where
  block : ℕ
  words : List ℕ
  command : d.command ≡ Some (unfinished.Publish block words)
  made : d.made ≡ 0
  newest : suc t ≡ length d.transfers

record IsTold (d : DriverContent) (o : Offered) : Type 0 where
  transfers_are : (t : ℕ) (z : Transfer) → slice_get o.driver.transfers t ≡ Some z → is_descriptor z.sort ≡ false → (slice_get d.transfers t ≡ Some z) ⊎ IsNewest o.driver t
  pieces_are : (t i : ℕ) (z : Transfer) → slice_get d.transfers t ≡ Some z → z.released ≡ false → i < z.qtds → piece_at (note_in o.driver.notes) z.first i ≡ piece_at (note_in d.notes) z.first i
  endpoints_are : (e : ℕ) (x : Endpoint) → e < length d.endpoints → slice_get o.driver.endpoints e ≡ Some x → IsSeenIn d.endpoints e x

record IsLater (ys : List Transfer) (z : Transfer) : Type 0 where
  index : ℕ
  there : slice_get ys index ≡ Some z

which : (xs ys : List Transfer) (t : ℕ) (z : Transfer) → slice_get (xs ++ ys) t ≡ Some z → (slice_get xs t ≡ Some z) ⊎ IsLater ys z
which [] ys t z there = inr (record { index = t; there = there })
which (x ∷ xs) ys zero z there = inl there
which (x ∷ xs) ys (suc t) z there = which xs ys t z there

made_is : (e : ℕ) (s : Slots) (n : ℕ) (rs : List ℕ) (i : ℕ) (y : Transfer) → slice_get (made e s n rs) i ≡ Some y → is_descriptor y.sort ≡ true
made_is e s zero rs i y there = absurd (cc)
made_is e s (suc n) rs zero y there = ap (λ (t : Transfer). is_descriptor t.sort) (sym (same_Some (descriptor_transfer e s (get_or rs 0 0)) y there))
made_is e s (suc n) rs (suc i) y there = made_is e s n (drop (suc (slot_runs s)) rs) i y there

module _ (d : DriverContent) (o : Offered) where
  -- endpoints are seen as they were
  by_seen : ((i : ℕ) → seen_in o.driver.endpoints i ≡ seen_in d.endpoints i) → (e : ℕ) (x : Endpoint) → e < length d.endpoints → slice_get o.driver.endpoints e ≡ Some x → IsSeenIn d.endpoints e x
  by_seen same e x below here = seen_there o.driver.endpoints d.endpoints e x (sym (same e)) here

  -- or one is new
  by_pushed : (new : Endpoint) → o.driver.endpoints ≡ d.endpoints ++ new ∷ [] → (e : ℕ) (x : Endpoint) → e < length d.endpoints → slice_get o.driver.endpoints e ≡ Some x → IsSeenIn d.endpoints e x
  by_pushed new are e x below here =
      ⊎_elim {C = IsSeenIn d.endpoints e x} (λ (was : slice_get d.endpoints e ≡ Some x). record { endpoint = x; here = was; same = refl })
      (λ (is : (e ≡ length d.endpoints) × (x ≡ new)). let same = is.0 in absurd (omega (arith, same, below)))
      (push_which d.endpoints new e x (ap (λ (xs : List Endpoint). slice_get xs e) (sym are) ∙ here))

  -- the same transfers, with the same notes
  same_transfers : o.driver.transfers ≡ d.transfers → (t : ℕ) (z : Transfer) → slice_get o.driver.transfers t ≡ Some z → is_descriptor z.sort ≡ false
      → (slice_get d.transfers t ≡ Some z) ⊎ IsNewest o.driver t
  same_transfers same t z there sort = inl (ap (λ (ts : List Transfer). slice_get ts t) (sym same) ∙ there)

  same_pieces : o.driver.notes ≡ d.notes → (t i : ℕ) (z : Transfer) → slice_get d.transfers t ≡ Some z → z.released ≡ false → i < z.qtds
      → piece_at (note_in o.driver.notes) z.first i ≡ piece_at (note_in d.notes) z.first i
  same_pieces same t i z there held below = ap (λ (ns : List QtdNote). piece_at (note_in ns) z.first i) same

module _ (d : DriverContent) (m : Mem) (o : Offered) (stands : Stands (holding d.book m)) (owners : HasOwners d) where
  -- a get or a put notes qTDs of its own
  taken_pieces : (why : Transfers d m o) (t i : ℕ) (z : Transfer) → slice_get d.transfers t ≡ Some z → z.released ≡ false → i < z.qtds
      → piece_at (note_in o.driver.notes) z.first i ≡ piece_at (note_in d.notes) z.first i
  taken_pieces why t i z there held below =
      let all = runs_taken (holding d.book m) why.holding_after (needs why.asked.stages) stands why.runs in
      let bs = all.blocks in
      let ss = why.asked.stages in
      let n = length ss in
      let x = why.endpoint in
      let e = why.number in
      let new : new_runs d why.holding_after ≡ bs = ap (drop (length d.book.taken)) all.are.taken ∙ drop_first d.book.taken bs in
      let alive = goes_on_alive x why.goes_on (owners.orderly.steady e x why.here) in
      let was = owners.owned.each.dummy e (runs_of_endpoint x) (ap (option_map runs_of_endpoint) why.here) (ap (λ k. k || x.gone) why.queued ∙ alive) in
      let are = are_new ss owners.owner x.dummy e (length d.transfers) why.some all.are was in
      let notes = note_stages d.notes ss x.dummy (take n bs) (drop n bs) in
      let same : (c u : ℕ) → IsPlaced (slot_of d.book.slots) owners.owner c (Element u) → note_at notes c ≡ note_at d.notes c =
      λ c u p. notes_apart d.notes ss x.dummy (take n bs) (drop n bs) c (are.apart c (placed_run c (Element u) p) (not_dummy x.dummy c e u was p)) in
      let is : o.driver.notes ≡ notes
      = ap (λ (g : Offered). g.driver.notes) why.is ∙ ap (λ (rs : List ℕ). note_stages d.notes ss x.dummy (take n rs) (drop n rs)) new in
      ap (λ (ns : List QtdNote). piece_at (note_in ns) z.first i) is
      ∙ pieces_same (slot_of d.book.slots) owners.owner (note_in d.notes) (note_in notes) t z.first z.qtds
      (owners.owned.each.pieces t (runs_of_transfer z) (ap (option_map runs_of_transfer) there) held) (λ c p. ap runs_of_note (same c t p)) i (omega (arith, below))

  taken_told : Transfers d m o → IsTold d o
  taken_told why =
      let y = new_transfer why.number why.asked why.endpoint.dummy in
      let are : o.driver.transfers ≡ d.transfers ++ y ∷ [] = ap (λ (g : Offered). g.driver.transfers) why.is in
      let many : length o.driver.transfers ≡ length (d.transfers ++ y ∷ []) = ap (λ (ts : List Transfer). length ts) are in
      record {
        transfers_are = λ t z there sort.
            ⊎_elim {C = (slice_get d.transfers t ≡ Some z) ⊎ IsNewest o.driver t} (λ (was : slice_get d.transfers t ≡ Some z). inl was)
            (λ (new : (t ≡ length d.transfers) × (z ≡ y)).
            let at = new.0 in
            inr (record {
              block = why.endpoint.dummy;
              words = _;
              command = ap (λ (g : Offered). g.driver.command) why.is;
              made = ap (λ (g : Offered). g.driver.made) why.is;
              newest = omega (arith, at, many, length-append d.transfers (y ∷ []));
            }))
            (push_which d.transfers y t z (ap (λ (ts : List Transfer). slice_get ts t) (sym are) ∙ there));
        pieces_are = taken_pieces why;
        endpoints_are = by_seen d o (λ i. ap (λ (g : Offered). seen_in g.driver.endpoints i) why.is ∙ seen_set d.endpoints why.number i why.endpoint _ why.here refl);
      }

  described_told : Describes d m o → IsTold d o
  described_told why =
      let rs = new_runs d why.holding_after in
      let first : Descriptors = record { notes = d.periodic.notes; transfers = d.transfers; memory = why.holding_after.memory } in
      let are : o.driver.transfers ≡ d.transfers ++ made why.number why.slots why.count rs
      = ap (λ (g : Offered). g.driver.transfers) why.is ∙ all_transfers why.holding_after.book why.number why.endpoint.desc why.slots why.count why.seed rs first in
      record {
        transfers_are = λ t z there sort.
            ⊎_elim {C = (slice_get d.transfers t ≡ Some z) ⊎ IsNewest o.driver t} (λ (was : slice_get d.transfers t ≡ Some z). inl was)
            (λ (new : IsLater (made why.number why.slots why.count rs) z). absurd (false≢true (sym sort ∙ made_is why.number why.slots why.count rs new.index z new.there)))
            (which d.transfers (made why.number why.slots why.count rs) t z (ap (λ (ts : List Transfer). slice_get ts t) (sym are) ∙ there));
        pieces_are = same_pieces d o (ap (λ (g : Offered). g.driver.notes) why.is);
        endpoints_are = by_seen d o (λ i. ap (λ (g : Offered). seen_in g.driver.endpoints i) why.is ∙ seen_set d.endpoints why.number i why.endpoint _ why.here refl);
      }

  unchained_told : Unchains d m o → IsTold d o
  unchained_told why =
      let with = with_cancel d why.number why.endpoint (endpoint_members d why.number why.endpoint why.placement) in
      let stays = stays_or_done with (unfinished.Unchain why.number) in
      record {
        transfers_are = same_transfers d o (ap (λ (g : Offered). g.driver.transfers) why.is ∙ or_left with (unfinished.Unchain why.number));
        pieces_are = λ t i z there held below.
            ap (λ (g : Offered). piece_at (note_in g.driver.notes) z.first i) why.is ∙ piece_same (note_in d.notes) _ z.first i stays.same.notes;
        endpoints_are = by_seen d o (λ i.
            ap (λ (g : Offered). seen_in g.driver.endpoints i) why.is
            ∙ or_done i with (unfinished.Unchain why.number)
            ∙ seen_set d.endpoints why.number i why.endpoint _ why.here refl);
      }

  told_by : Accepts d m o → IsTold d o
  told_by (opens why) = record {
    transfers_are = same_transfers d o (ap (λ (g : Offered). g.driver.transfers) why.is);
    pieces_are = same_pieces d o (ap (λ (g : Offered). g.driver.notes) why.is);
    endpoints_are = by_pushed d o _ (ap (λ (g : Offered). g.driver.endpoints) why.is);
  }
  told_by (chains why) = record {
    transfers_are = same_transfers d o (ap (λ (g : Offered). g.driver.transfers) why.is);
    pieces_are = same_pieces d o (ap (λ (g : Offered). g.driver.notes) why.is);
    endpoints_are = by_pushed d o _ (ap (λ (g : Offered). g.driver.endpoints) why.is);
  }
  told_by (places why) = record {
    transfers_are = same_transfers d o (ap (λ (g : Offered). g.driver.transfers) why.is);
    pieces_are = same_pieces d o (ap (λ (g : Offered). g.driver.notes) why.is);
    endpoints_are = by_pushed d o _ (ap (λ (g : Offered). g.driver.endpoints) why.is);
  }
  told_by (transfers why) = taken_told why
  told_by (describes why) = described_told why
  told_by (cancels why) = record {
    transfers_are = same_transfers d o (ap (λ (g : Offered). g.driver.transfers) why.is);
    pieces_are = same_pieces d o (ap (λ (g : Offered). g.driver.notes) why.is);
    endpoints_are = by_seen d o (λ i. ap (λ (g : Offered). seen_in g.driver.endpoints i) why.is ∙ seen_set d.endpoints why.number i why.endpoint _ why.here refl);
  }
  told_by (unchains why) = unchained_told why

-- ---- a transfer that there was

-- while no command is unfinished each qTD is lent, and its words stay
word_stays : (d : DriverContent) (m new : Mem) (b : ℕ) → IsInPlace m d → d.command ≡ None → Leaves m new → HasRun (slot_of d.book.slots b) → word_at new (32 * b + 8) ≡ word_at m (32 * b + 8)
word_stays d m new b place idle leaves run = by (slot_of d.book.slots b) refl
  where
    lent : IsLent (slot_of d.book.slots b)
    lent = not_taken d b place.lent idle run

    by : (c : Slot) → slot_of d.book.slots b ≡ c → word_at new (32 * b + 8) ≡ word_at m (32 * b + 8)
    by (slots.Lends r) is =
        let h = holding d.book m in
        let at = lends_at h b r place.sound.stands is in
        let first = at.0 in
        let some = at.1 in
        let on : reaches m (32 * b + 8) ≡ true = ap is_lent (lends_all h b r place.sound.stands is ((32 * b + 8) / 32) (omega (arith, first)) (omega (arith, first, some))) in
        leaves.words (32 * b + 8) on
    by _ is = absurd (subst IsLent is lent)

-- ---- a new one

abbrev GoBy : Dir → List Stage → Type 0
GoBy dir ss = AllByRecursion (λ s. s.pid ≡ pid_of dir) ss

go_in : (ss : List Stage) → AllByRecursion (λ s. s ≡ stage_by ways.In s.long) ss → GoBy directions.In ss
go_in [] all = tt
go_in (s ∷ ss) all = (ap (λ (r : Stage). r.pid) all.0, go_in ss all.1)

go_out : (ss : List Stage) → AllByRecursion (λ s. s ≡ stage_by ways.Out s.long) ss → GoBy directions.Out ss
go_out [] all = tt
go_out (s ∷ ss) all = (ap (λ (r : Stage). r.pid) all.0, go_out ss all.1)

stages_go : (way : Way) (kind : EpKind) (ss : List Stage) → IsOfWay way kind → kind ≡ Interrupt → AreStagesBy way ss → GoBy (dir_of way) ss
stages_go ways.In kind ss fits is are = go_in ss are
stages_go ways.Out kind ss fits is are = go_out ss are
stages_go ways.Ctl kind ss fits is are = absurd (let e = sym fits ∙ is in cc)

written_sends : (dir : Dir) (d : DriverContent) (m : Mem) (dummy : ℕ) (ss : List Stage) (b j : ℕ) → Stands (holding d.book m) → IsShaped m
    → AreWritten m d.notes dummy ss b → AreNoted (slot_of d.book.slots) d.notes ss b
    → AreShort ss → GoBy dir ss → j < length ss → SendsData dir (qtd_in m (piece_at (note_in d.notes) b j))
written_sends dir d m dummy [] b j stands shape words noted short low below = absurd (omega (arith, below))
written_sends dir d m dummy (s ∷ ss) b zero stands shape words noted short low below =
    let t : Qtd = stage_qtd d.notes s b dummy (is_last ss) in
    let pid = low.0 in
    let few = pid_low dir in
    let is : qtd_in m b ≡ t =
    of_words m b t words.0
    (qtd_range s (note_at d.notes b).next dummy (note_at d.notes b).buffer (is_last ss) (omega (arith, pid, few)) short.0
    (blocks_low (holding d.book m) (note_at d.notes b) s stands shape noted.0)) in
    subst (SendsData dir) (sym is) (λ on. low.0)
written_sends dir d m dummy (s ∷ ss) b (suc j) stands shape words noted short low below =
    written_sends dir d m dummy ss (note_at d.notes b).next j stands shape words.1 noted.1 short.1 low.1 (omega (arith, below))

module _ (s : Standing) (v : World) (k : IsMixedAt s v) (t : ℕ) (z : Transfer) (x : Endpoint) (there : slice_get v.driver.transfers t ≡ Some z) (sort : is_descriptor z.sort ≡ false)
    (held : z.released ≡ false) (here : slice_get v.driver.endpoints z.endpoint ≡ Some x) (kind : x.desc.kind ≡ Interrupt) (new : IsNewest v.driver t) where
  abbrev d : DriverContent
  d = v.driver

  to_be_lent : IsToBeLent (queued v.driver) v.memory new.block new.words
  to_be_lent =
      ⊎_elim (λ (g : IsToBeLent (queued v.driver) v.memory new.block new.words). g) (λ (some : 1 ≤ v.driver.made). let none = new.made in absurd (omega (arith, none, some)))
      (subst (λ (c : Option Command). IsUnderWay v.driver v.memory s.member s.recent s.parts c) new.command k.under_way)

  there_too : slice_get (queued v.driver).transfers t ≡ Some z
  there_too = there_queued d k.turns t z x there sort held here kind

  own : to_be_lent.transfer ≡ z
  own =
      let g = to_be_lent in
      let many : length (queued d).transfers ≡ length d.transfers = length-map d.transfers (queued_transfer d.endpoints) in
      let one = g.newest in
      let other = new.newest in
      let number : g.number ≡ t = omega (arith, one, other, many) in
      same_Some g.transfer z (sym g.there ∙ ap (slice_get (queued d).transfers) number ∙ there_too)

  endpoint_is : to_be_lent.endpoint ≡ with_queue x
  endpoint_is =
      let g = to_be_lent in
      same_Some g.endpoint (with_queue x) (sym g.here ∙ ap (λ (y : Transfer). slice_get (queued d).endpoints y.endpoint) own ∙ here_queued d k.turns t z x there sort held here kind)

  low : GoBy (way_of x) (to_be_lent.stage ∷ to_be_lent.further)
  low =
      let g = to_be_lent in
      stages_go x.desc.name.way x.desc.kind (g.stage ∷ g.further) (k.turns.kinds_fit z.endpoint x here) kind
      (subst (λ (y : Endpoint). AreStagesBy y.desc.name.way (g.stage ∷ g.further)) endpoint_is g.stages)

  -- the first is still the inactive qTD that stood at the end of the queue
  first_sends : SendsData (way_of x) (qtd_in v.memory z.first)
  first_sends =
      let g = to_be_lent in
      let h : IsPublished (queued d) s.parts new.block new.words = k.queues.queues.fed.publishes new.block new.words g.command in
      let f = k.now.framed in
      let tells : Tells v.memory s.parts = queues_told d v.memory s.descs s.parts (record { owners = f.place.sound.owners; driven = f.driven; described = f.described }) f.runs.ring.tells in
      let is : qtd_in v.memory new.block ≡ partly h.qtd ((queued d).made - 1) = told_qtd v.memory new.block _ (tells.each _ _ _ h.stored) in
      let idle : qtd_in v.memory z.first ≡ dummy_qtd
      = ap (λ (y : Transfer). qtd_in v.memory y.first) (sym own) ∙ ap (qtd_in v.memory) g.first ∙ is ∙ ap (λ (n : ℕ). partly h.qtd (n - 1)) g.made in
      λ on. absurd (false≢true (ap (λ (q : Qtd). q.token.active) (sym idle) ∙ on))

  new_sends : (i : ℕ) → i < z.qtds → SendsData (way_of x) (qtd_in v.memory (piece_at (note_in v.driver.notes) z.first i))
  new_sends zero below = first_sends
  new_sends (suc j) below =
      let g = to_be_lent in
      let a = g.awaits in
      let sound = k.now.framed.place.sound in
      let long : z.qtds ≡ suc (length g.further) = ap (λ (y : Transfer). y.qtds) (sym own) ∙ a.qtds in
      let all = written_sends (way_of x) (queued d) v.memory g.endpoint.dummy g.further (note_at d.notes g.transfer.first).next j
      sound.stands sound.shape a.words a.noted.1 a.short.1 low.1 (omega (arith, below, long)) in
      subst (λ (y : Transfer). SendsData (way_of x) (qtd_in v.memory (piece_at (note_in d.notes) (note_at d.notes y.first).next j))) own all

-- ---- any command

accepted_sends : (w : World) (line : ℕ) (cmd : Cmd) (o : Offered) → offered w.driver w.memory cmd ≡ Ok o → IsMixedWorld w → IsMixedWorld (commanded_by w line (name_in cmd) (Ok o))
    → QueuesSendData w.driver w.memory → QueuesSendData o.driver o.memory
accepted_sends w line cmd o is mixed then old t i z x there sort held here kind below =
    let d = w.driver in
    let place = mixed.mixed.now.framed.place in
    let reason = each_command_has_its_reason d w.memory cmd o is in
    let told : IsTold d o = told_by d w.memory o place.sound.stands place.sound.owners reason in
    ⊎_elim
    (λ (was : slice_get d.transfers t ≡ Some z).
    let b : ℕ = piece_at (note_in d.notes) z.first i in
    let of : IsSeenIn d.endpoints z.endpoint x = told.endpoints_are z.endpoint x (place.sound.owners.orderly.within t z was) here in
    let sends : SendsData (way_of x) (qtd_in w.memory b) =
    subst (λ (e : Seen). SendsData (dir_of e.desc.name.way) (qtd_in w.memory b)) of.same
    (old t i z of.endpoint was sort held of.here (ap (λ (e : Seen). e.desc.kind) of.same ∙ kind) below) in
    let run = piece_run d place.sound.owners t i z was held below in
    subst (λ (c : ℕ). SendsData (way_of x) (qtd_in o.memory c)) (sym (told.pieces_are t i z was held below))
    (same_sends (way_of x) w.memory o.memory b
    (word_stays d w.memory o.memory b place (idle_by d w.memory o reason) (leaves_lent d w.memory o reason place) run) sends))
    (λ (new : IsNewest o.driver t). new_sends then.standing (commanded_by w line (name_in cmd) (Ok o)) then.mixed t z x there sort held here kind new i below) (told.transfers_are t z there sort)

by_offer : (w : World) (line : ℕ) (cmd : Cmd) (r : Result Offered OfferError) → offered w.driver w.memory cmd ≡ r → IsMixedWorld w → IsMixedWorld (commanded_by w line (name_in cmd) r)
    → QueuesSendData w.driver w.memory → QueuesSendData (commanded_by w line (name_in cmd) r).driver (commanded_by w line (name_in cmd) r).memory
by_offer w line cmd (Err why) is mixed then old = old
by_offer w line cmd (Ok o) is mixed then old = accepted_sends w line cmd o is mixed then old

pub command_keeps_data : CommandKeepsData
command_keeps_data w line cmd fits room mixed old = by_offer w line cmd (offered w.driver w.memory cmd) refl mixed (command_keeps_mixed w line cmd fits room mixed) old
