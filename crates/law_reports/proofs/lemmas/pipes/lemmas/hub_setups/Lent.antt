-- A transfer is lent: no new qTD is a SETUP, and where it is a request its setup bytes stand in the buffer that its first qTD will name.
use Rattle.std.proofs.Common.{◌≡◌, ◌≢◌, ℕ, suc, ◌-◌, ◌*◌, nat_eq, Bool, true, false, List, [], ◌∷◌, length, slice_get}
use Rattle.std.proofs.Common.{if◌then◌else◌, Option, Some, option_map, ap, sym, subst, ◌∙◌, ⊎_elim, inl, inr, arith}
use Rattle.std.specs.Prelude.{◌⊎◌, not}
use Rattle.std.specs.List.{AllByRecursion}
use Rattle.std.proofs.lemmas.Bool.{cases_eq, true≢false}
use Rattle.std.proofs.lemmas.Option.{same_Some}
use Rattle.law_queues.proofs.Common.{one_qtd}
use Rattle.usb_base.specs.declared.packets.Pid.TheVariants as pids
use Rattle.usb_base.specs.declared.packets.Way.{Way}
use Rattle.usb_base.specs.declared.packets.Way.TheVariants as ways
use Rattle.word_mem.specs.Memory.{Mem, IsShaped}
use Rattle.qh_qtd.specs.declared.qtd.Qtd.{Qtd}
use Rattle.qh_qtd.specs.Qtd.{qtd_words, IsQtdInRange}
use Rattle.hc_copy.specs.Planning.{pid_at}
use Rattle.mem_runs.specs.declared.slots.Slot.{Slot}
use Rattle.mem_runs.specs.Book.{holding, slot_of, Stands}
use Rattle.drv_table.specs.declared.content.Command.TheVariants as unfinished
use Rattle.drv_table.specs.declared.content.Endpoint.{Endpoint}
use Rattle.drv_table.specs.declared.content.QtdNote.{QtdNote}
use Rattle.drv_table.specs.declared.content.Stage.{Stage}
use Rattle.drv_table.specs.declared.content.Transfer.{Transfer}
use Rattle.drv_table.specs.DriverContent.{DriverContent}
use Rattle.drv_table.specs.Harvests.{note_at}
use Rattle.drv_table.specs.Offers.{is_last}
use Rattle.drv_table.specs.Words.{dummy_qtd, request_stages, request_length, asks_in, setup_stage, data_stage, status_stage}
use Rattle.claims_driver.specs.Owners.{EndpointRuns, TransferRuns, runs_of_endpoint, runs_of_transfer, views_of}
use Rattle.claims_report.specs.Requests.{Request}
use Rattle.law_driver.specs.chained_transfers.Bulk.{stage_by}
use Rattle.law_driver.specs.queued_drivers.Queued.{queued}
use Rattle.law_driver.proofs.lemmas.queued_drivers.RowOwners.{queued_has_owners}
use Rattle.law_driver_ring.specs.Inventory.{sorts_of}
use Rattle.law_driver_ring.specs.Pieces.{stage_qtd, IsNewQtd}
use Rattle.law_driver_ring.specs.Published.{partly, IsPublishable}
use Rattle.law_driver_ring.specs.TransferLaws.{HasPieces, lent_driver, lent_memory}
use Rattle.law_driver_ring.specs.Written.{AwaitsLend}
use Rattle.law_driver_ring.specs.fed_queues.Fed.{IsPublished, AreFed}
use Rattle.law_queues.specs.fed_lends.ToLend.{AreStagesBy, IsToBeLent, lent_now}
use Rattle.law_queues.proofs.lemmas.fed_lends.Fed.{y_of, x_of}
use Rattle.law_queues.specs.lent_fronts.Stands.{parts_with}
use Rattle.law_queues.proofs.lemmas.lent_fronts.Row.{both as lent_pieces}
use Rattle.law_structures.specs.lent_structures.Structures.{Element, StructureSets, Tells}
use Rattle.law_ring.specs.Effects.{bytes_in, buffer_of}
use Rattle.law_request.specs.Windows.{IsRequest}
use Rattle.law_world.specs.memory.Mixed.{Standing, IsMixedAt}
use Rattle.law_world.specs.memory.Steps.{HasBehind}
use Rattle.law_world.proofs.lemmas.memory.QueueViews.{queued_driven}
use Rattle.bus_world.specs.World.{World}
use Rattle.law_reports.specs.requests.Asking.{IsHeldRequest}
use Rattle.law_reports.specs.requests.Coming.{IsComing}
use Rattle.law_reports.specs.requests.Courses.{nobody}
use Rattle.law_reports.specs.requests.request_bytes.Fresh.{request_places}
use Rattle.law_reports.specs.requests.request_bytes.Held.{RequestIsHeld}
use Rattle.law_reports.proofs.lemmas.requests.Awaited.{ranged, pieces_as, apart_awaits}
use Rattle.law_reports.proofs.lemmas.requests.Lent.{request_is_lent}
use Rattle.law_reports.specs.pipes.hub_setups.Setups.{SendsOnly, IsSetupHeld, IsSettingUp, PublishesOnly}
use Rattle.law_reports.proofs.lemmas.pipes.lemmas.hub_setups.Sets.{IsFewer, fewer_same, sends_whole}

-- ---- no stage but the first of a request is a SETUP

abbrev IsNoSetup : Stage → Type 0
IsNoSetup s = pid_at s.pid ≡ pids.Setup → ⊥

flag_pid : (b : Bool) → pid_at (if b then 1 else 0) ≡ pids.Setup → ⊥
flag_pid true e = cc
flag_pid false e = cc

data_none : (way : Way) (n : ℕ) → pid_at (stage_by way n).pid ≡ pids.Setup → ⊥
data_none ways.Out n e = cc
data_none ways.In n e = cc
data_none ways.Ctl n e = cc

all_data : (way : Way) (ss : List Stage) → AllByRecursion (λ s. s ≡ stage_by way s.long) ss → AllByRecursion IsNoSetup ss
all_data way [] all = tt
all_data way (s ∷ ss) all = ((λ two. data_none way s.long (sym (ap (λ (r : Stage). pid_at r.pid) all.0) ∙ two)), all_data way ss all.1)

behind_one : (s z : Stage) (ss zs : List Stage) → s ∷ ss ≡ z ∷ zs → ss ≡ zs
behind_one s z ss zs e = cc

behind_setup : (s : Stage) (ss : List Stage) (setup : List ℕ) → s ∷ ss ≡ request_stages setup → AllByRecursion IsNoSetup ss
behind_setup s ss setup = by (nat_eq (request_length setup) 0)
  where
    by : (b : Bool)
        → s ∷ ss ≡ (if b then setup_stage ∷ status_stage true ∷ [] else setup_stage ∷ data_stage (asks_in setup) (request_length setup)
        ∷ status_stage (not (asks_in setup)) ∷ []) → AllByRecursion IsNoSetup ss
    by true is = subst (AllByRecursion IsNoSetup) (sym (behind_one s setup_stage ss (status_stage true ∷ []) is)) (flag_pid true, tt)
    by false is =
        subst (AllByRecursion IsNoSetup)
        (sym (behind_one s setup_stage ss (data_stage (asks_in setup) (request_length setup) ∷ status_stage (not (asks_in setup)) ∷ []) is))
        (flag_pid (asks_in setup), (flag_pid (not (asks_in setup)), tt))

further_none : (way : Way) (s : Stage) (ss : List Stage) → AreStagesBy way (s ∷ ss) → AllByRecursion IsNoSetup ss
further_none ways.In s ss are = all_data ways.In ss are.1
further_none ways.Out s ss are = all_data ways.Out ss are.1
further_none ways.Ctl s ss are = behind_setup s ss are.0 are.1

new_none : (notes : List QtdNote) (dummy : ℕ) (ss : List Stage) (b c : ℕ) (u : Qtd) → AllByRecursion IsNoSetup ss
    → IsNewQtd notes dummy ss b c u → u.token.active ≡ true → pid_at u.token.pid ≡ pids.Setup → ⊥
new_none notes dummy [] b c u all new on two = true≢false (sym on ∙ ap (λ (t : Qtd). t.token.active) new.1)
new_none notes dummy (s ∷ ss) b c u all (inl new) on two = all.0 (sym (ap (λ (t : Qtd). pid_at t.token.pid) new.1) ∙ two)
new_none notes dummy (s ∷ ss) b c u all (inr new) on two = new_none notes dummy ss (note_at notes b).next c u all.1 new on two

-- ---- what stands then

module _ (s : Standing) (w : World) (mixed : IsMixedAt s w) (b : ℕ) (words : List ℕ) (get : IsToBeLent (queued w.driver) w.memory b words)
    (order : ℕ → ℕ → ℕ) (out : ℕ → List ℕ) (behind : HasBehind s w b words get order out) where
  abbrev d : DriverContent
  d = queued w.driver

  abbrev now : StructureSets
  now = parts_with get s.parts

  abbrev own : ℕ
  own = 32 * get.endpoint.queue

  stands : Stands (holding (queued w.driver).book w.memory)
  stands = mixed.now.framed.place.sound.stands

  shape : IsShaped w.memory
  shape = mixed.now.framed.place.sound.shape

  abbrev slot : ℕ → Slot
  slot = slot_of (lent_driver (queued w.driver) w.memory).book.slots

  pieces : HasPieces (queued w.driver) (slot_of (lent_driver (queued w.driver) w.memory).book.slots) s.parts (parts_with get s.parts)
      (y_of get) (x_of get) get.stage get.further
  pieces =
      (lent_pieces (queued w.driver) w.memory b words s.parts s.order s.out get
      (queued_has_owners w.driver mixed.now.framed.place.sound.owners mixed.turns) stands shape mixed.turns.turns.asynchronous
      mixed.turns.turns.turns (queued_driven w.driver (sorts_of s.parts) mixed.now.framed.driven) mixed.queues.queues.fed
      mixed.queues.queues.last mixed.queues.queues.out_are).0

  own_fewer : IsFewer (s.parts (32 * get.endpoint.queue)) (parts_with get s.parts (32 * get.endpoint.queue))
  own_fewer c u here on two =
      ⊎_elim
      (λ (was : s.parts own c ≡ Some (Element u)).
      record { was = was; bytes = inl ((behind.elements own c u was).bytes u was) })
      (λ (new : IsNewQtd (queued w.driver).notes get.endpoint.dummy get.further
      (note_at (queued w.driver).notes get.transfer.first).next c u).
      absurd (new_none (queued w.driver).notes get.endpoint.dummy get.further (note_at (queued w.driver).notes get.transfer.first).next c u
      (further_none get.endpoint.desc.name.way get.stage get.further get.stages) new on two))
      (pieces.elements c u here)

  pub fewer_lent : (n : ℕ) → IsFewer (s.parts n) (parts_with get s.parts n)
  fewer_lent n =
      ⊎_elim
      (λ (same : n ≡ own). subst (λ (i : ℕ). IsFewer (s.parts i) (parts_with get s.parts i)) (sym same) own_fewer)
      (λ (differs : n ≢ own). fewer_same (s.parts n) (now n) (pieces.beside n differs)) (cases_eq n own)

  -- ---- a request

  module _ (fed : AreFed (lent_now (queued w.driver) w.memory) (parts_with get s.parts))
      (tells : Tells (lent_memory (queued w.driver) w.memory) (parts_with get s.parts)) where
    first : IsPublished (lent_now (queued w.driver) w.memory) (parts_with get s.parts) b words
    first = fed.publishes b words get.command

    pieces_for : (t : ℕ) (y : TransferRuns) (z : EndpointRuns) (r : Stage) (rs : List Stage) → suc t ≡ length (queued w.driver).transfers
        → AwaitsLend (queued w.driver) w.memory t y z r rs
        → words ≡ qtd_words (stage_qtd (queued w.driver).notes r y.first z.dummy (is_last rs))
        → HasPieces (queued w.driver) (slot_of (lent_driver (queued w.driver) w.memory).book.slots) s.parts (parts_with get s.parts) y z r
        rs
    pieces_for t y z r rs newest waits are =
        let u : Qtd = stage_qtd d.notes r y.first z.dummy (is_last rs) in
        let last = first.newest in
        let other = behind.behind.newest in
        let number : t ≡ first.number = omega (arith, newest, last) in
        let transfer : y ≡ runs_of_transfer first.transfer = same_Some y (runs_of_transfer first.transfer)
        (sym waits.here.here ∙ ap (views_of d).transfer number ∙ ap (option_map runs_of_transfer) first.there) in
        let end : z ≡ runs_of_endpoint first.endpoint = same_Some z (runs_of_endpoint first.endpoint)
        (sym waits.here.queue.here ∙ ap (λ (i : TransferRuns). (views_of d).endpoint i.endpoint) transfer
        ∙ ap (option_map runs_of_endpoint) first.here) in
        let qtd : first.qtd ≡ u = one_qtd first.qtd u first.range
        (ranged d w.memory stands shape r y.first z.dummy (is_last rs) waits.pids.0 waits.short.0 waits.noted.0) (sym first.are ∙ are) in
        let may : IsPublishable (now (32 * first.endpoint.queue)) (32 * b) first.qtd = first.may (omega arith) in
        let block : y.first ≡ b = ap (λ (i : TransferRuns). i.first) transfer ∙ first.place.0 in
        let it : IsPublishable (now (32 * z.queue)) (32 * y.first) u =
        subst (λ (i : EndpointRuns). IsPublishable (now (32 * i.queue)) (32 * y.first) u) (sym end)
        (subst (λ (j : ℕ). IsPublishable (now (32 * first.endpoint.queue)) (32 * j) u) (sym block)
        (subst (IsPublishable (now (32 * first.endpoint.queue)) (32 * b)) qtd may)) in
        let l = behind.behind in
        pieces_as d w.memory stands shape t l.number y l.transfer z l.endpoint r l.stage rs l.further slot s.parts now
        (omega (arith, newest, other)) waits l.awaits it l.pieces

    module _ (r : Request) (whole : IsRequest r) (h : IsHeldRequest (queued w.driver) w.memory b words r) where
      abbrev l : IsToBeLent (queued w.driver) w.memory b words
      l = h.lends

      -- its first qTD is still the inactive one
      inactive : s.parts (32 * l.endpoint.queue) (32 * l.transfer.first) ≡ Some (Element dummy_qtd)
      inactive =
          let p : IsPublished d s.parts b words = mixed.queues.queues.fed.publishes b words get.command in
          let one = p.newest in
          let two = l.newest in
          let number : p.number ≡ l.number = omega (arith, one, two) in
          let transfer : p.transfer ≡ l.transfer =
          same_Some p.transfer l.transfer (sym p.there ∙ ap (slice_get d.transfers) number ∙ l.there) in
          let end : p.endpoint ≡ l.endpoint =
          same_Some p.endpoint l.endpoint (sym p.here ∙ ap (λ (i : Transfer). slice_get d.endpoints i.endpoint) transfer ∙ l.here) in
          let none : d.made - 1 ≡ 0 = (let made = get.made in omega (arith, made)) in
          ap (λ (i : ℕ). s.parts (32 * l.endpoint.queue) (32 * i)) l.first
          ∙ ap (λ (i : Endpoint). s.parts (32 * i.queue) (32 * b)) (sym end) ∙ p.stored
          ∙ ap (λ (i : ℕ). Some (Element (partly p.qtd i))) none

      coming : IsComing nobody r (request_places (queued w.driver).notes l.transfer.first r) (32 * l.transfer.first) (32 * l.endpoint.dummy)
          (stage_qtd (queued w.driver).notes l.stage l.transfer.first l.endpoint.dummy (is_last l.further)) (now (32 * l.endpoint.queue))
      coming =
          request_is_lent d w.memory l.number (runs_of_transfer l.transfer) (runs_of_endpoint l.endpoint) l.stage l.further slot s.parts now
          nobody r l.awaits h.stages stands (subst (λ (i : ℕ). RequestIsHeld w.memory d.notes i r) (sym l.first) h.held)
          (pieces_for l.number (runs_of_transfer l.transfer) (runs_of_endpoint l.endpoint) l.stage l.further l.newest l.awaits l.are)
          tells inactive whole
          (apart_awaits d w.memory l.number (runs_of_transfer l.transfer) (runs_of_endpoint l.endpoint) l.stage l.further r l.awaits
          h.stages)
          (λ i few. absurd (omega (arith, few)))

      -- the qTD with these words names its setup bytes
      pub lent_bytes : (u : Qtd) → words ≡ qtd_words u → IsQtdInRange u → buffer_of (now (32 * l.endpoint.queue)) u ≡ r.setup
      lent_bytes u are range =
          let setup : Qtd = stage_qtd d.notes l.stage l.transfer.first l.endpoint.dummy (is_last l.further) in
          let same : u ≡ setup = one_qtd u setup range
          (ranged d w.memory stands shape l.stage l.transfer.first l.endpoint.dummy (is_last l.further) l.awaits.pids.0 l.awaits.short.0
          l.awaits.noted.0) (sym are ∙ l.are) in
          ap (λ (v : Qtd). buffer_of (now (32 * l.endpoint.queue)) v) same ∙ ap bytes_in coming.bytes

    -- so it sends only these, whatever it names
    pub publishes_lent : (a : ℕ) (Q : List ℕ → Type 0) (new : Mem) → PublishesOnly a Q (queued w.driver) w.memory s.parts
        → PublishesOnly a Q (lent_now (queued w.driver) w.memory) new (parts_with get s.parts)
    publishes_lent a Q new old c ws t y x command newest there here sort address =
        let set : IsSettingUp Q d w.memory (s.parts (32 * x.queue)) c ws = old c ws t y x command newest there here sort address in
        let held : IsSetupHeld Q d w.memory c ws = set.held get.made in
        let one : (c ≡ b) × (ws ≡ words) = one_publish c b ws words (sym command ∙ get.command) in
        let its : IsHeldRequest d w.memory b words held.request =
        subst (λ (i : ℕ). IsHeldRequest d w.memory i words held.request) one.0
        (subst (λ (vs : List ℕ). IsHeldRequest d w.memory c vs held.request) one.1 held.held) in
        let l : IsToBeLent d w.memory b words = its.lends in
        let last = l.newest in
        let number : t ≡ l.number = omega (arith, newest, last) in
        let transfer : y ≡ l.transfer = same_Some y l.transfer (sym there ∙ ap (slice_get d.transfers) number ∙ l.there) in
        let end : x ≡ l.endpoint =
        same_Some x l.endpoint (sym here ∙ ap (λ (i : Transfer). slice_get d.endpoints i.endpoint) transfer ∙ l.here) in
        record {
          held = λ none. absurd (omega (arith, none));
          lent = λ some u are range.
              subst (SendsOnly Q)
              (sym (ap (λ (z : Endpoint). buffer_of (now (32 * z.queue)) u) end
              ∙ lent_bytes held.request held.whole its u (sym one.1 ∙ are) range))
              (sends_whole Q held.request.setup held.whole.setup held.fits);
        }
      where
        one_publish : (c e : ℕ) (ws vs : List ℕ)
            → ◌≡◌ {A = Option _} (Some (unfinished.Publish c ws)) (Some (unfinished.Publish e vs)) → (c ≡ e) × (ws ≡ vs)
        one_publish c e ws vs is = (cc, cc)
