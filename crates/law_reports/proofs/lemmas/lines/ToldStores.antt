-- A word of the first qTD of a transfer is stored: nothing was moved of it, also once it is published, and what is told of each queue
-- stays.
use Rattle.std.proofs.Common.{◌≡◌, ◌≢◌, ℕ, suc, ◌-◌, ◌*◌, ◌<◌, ◌≤◌, true, List, slice_get, Some, option_map, Bool, ap, refl, sym, subst, ◌∙◌, ⊎_elim, arith}
use Rattle.std.specs.Prelude.{Result, Ok}
use Rattle.std.proofs.lemmas.Bool.{cases_eq, cases_lt}
use Rattle.std.proofs.lemmas.Option.{same_Some}
use Rattle.law_queues.proofs.Common.{none_open, ok_same, same_piece}
use Rattle.law_controller.proofs.Common.{same_hand}
use Rattle.law_driver_ring.proofs.Common.{partly_idle as idle}
use Rattle.law_common.proofs.Numbers.{same_blocks}
use Rattle.law_world.proofs.Common.{none_some}
use Rattle.link_words.specs.declared.refusal.Bad.{Bad}
use Rattle.qh_qtd.specs.declared.qtd.Qtd.{Qtd}
use Rattle.qh_qtd.specs.Qtd.{qtd_read}
use Rattle.qh_qtd.proofs.QtdLaws.{qtd_read-words}
use Rattle.mem_runs.specs.Book.{slot_of}
use Rattle.drv_table.specs.declared.content.Command.TheVariants as unfinished
use Rattle.drv_table.specs.declared.content.Endpoint.{Endpoint}
use Rattle.drv_table.specs.declared.content.Transfer.{Transfer}
use Rattle.drv_table.specs.DriverContent.{DriverContent}
use Rattle.drv_table.specs.Harvests.{note_at}
use Rattle.drv_table.specs.Parts.{Parts as DriverParts}
use Rattle.claims_driver.specs.Owners.{Element as PieceOf, runs_of_transfer}
use Rattle.law_driver.specs.chained_transfers.Out.{out_now}
use Rattle.law_driver.specs.queued_drivers.Queued.{queued_command, queued}
use Rattle.law_structures.specs.lent_structures.Structures.{Element, Structures, StructureSets}
use Rattle.law_structures.proofs.lemmas.lent_structures.Names.{put_beside}
use Rattle.law_ring.specs.Hand.{Hand}
use Rattle.law_ring.specs.Order.{IsFresh}
use Rattle.law_ring.specs.QueueParts.{IsQueuePart}
use Rattle.law_ring.specs.Told.{Endpoint as Told}
use Rattle.law_controller.specs.controlled_streams.Reported.{IsReported, AreReported}
use Rattle.law_controller.specs.controlled_streams.Storing.{IsStore, with_out, stored_parts}
use Rattle.law_controller.proofs.lemmas.controlled_streams.Storing.{spares_head, spares_element}
use Rattle.law_controller.proofs.lemmas.controlled_streams.Streams.{idle_store_leaves_reports, last_store_leaves_reports, out_here, out_beside}
use Rattle.law_driver_ring.specs.Published.{partly}
use Rattle.law_driver_ring.specs.fed_queues.Fed.{IsPublished}
use Rattle.law_driver_ring.specs.fed_queues.Places.{IsMet}
use Rattle.law_driver_ring.specs.told_harvests.Held.{IsOneFrom}
use Rattle.law_queues.specs.harvest_laws.Holds.{IsNextOf}
use Rattle.law_queues.specs.harvest_laws.Told.{ToldStands}
use Rattle.law_queues.specs.harvest_laws.ToldLaws.{SparesDone}
use Rattle.law_queues.proofs.lemmas.harvest_laws.Places.{one_sooner, owner_is}
use Rattle.law_queues.proofs.lemmas.harvest_laws.Standing.{alike_is_told, spared_is_told}
use Rattle.law_queues.specs.publish_laws.Stores.{parts_then, out_then, next_of}
use Rattle.law_queues.proofs.lemmas.publish_laws.Feeding.{more, done}
use Rattle.law_queues.proofs.lemmas.publish_laws.Linked.{partly_later}
use Rattle.law_world.specs.streams.Feeding.{there_of}
use Rattle.law_world.proofs.lemmas.streams.There.{next_waits}
use Rattle.law_world.proofs.lemmas.streams.Told.{there_before, there_same}
use Rattle.law_world.specs.memory.Mixed.{Standing, IsMixedAt}
use Rattle.law_world.specs.memory.Steps.{told_parts, IsNextStore}
use Rattle.law_world.proofs.lemmas.memory.HarvestKept.{owners_of}
use Rattle.law_world.proofs.lemmas.memory.PublishStores.{IsStoring, published_by, below, parts_are, split, sorted, element, here, links, never_opens, met_now, there_now, out_is, out_more, then_more, then_done, eighth_by, by_store, one_more, finished}
use Rattle.law_driver.proofs.lemmas.queued_drivers.RowOwners.{queued_are_lent}
use Rattle.bus_world.specs.World.{World}
use Rattle.law_reports.specs.lines.Lined.{in_hand, Lines, IsTelling}
use Rattle.law_reports.specs.lines.TellingSteps.{StoreTells}

-- ---- of a driver

module _ (p : DriverParts) (member streams : ℕ → Bool) (ends : ℕ → Told) (parts : StructureSets) (order : ℕ → ℕ → ℕ) (out : ℕ → List ℕ)
    (b : ℕ)
    (words : List ℕ) (k : IsStoring p.driver member streams ends parts order out b words) where
  abbrev d : DriverContent
  d = p.driver

  abbrev g : IsPublished p.driver parts b words
  g = published_by k

  abbrev y : Transfer
  y = g.transfer

  abbrev n : ℕ
  n = 32 * g.endpoint.queue

  abbrev i : ℕ
  i = d.made - 1

  abbrev now : StructureSets
  now = stored_parts parts n (32 * b) (partly g.qtd (suc i))

  its_met : IsMet d y.endpoint g.endpoint
  its_met = met_now p member streams ends parts order out b words k

  store : IsStore (order n) (out n) parts n (32 * b) (partly g.qtd i) (partly g.qtd (suc i))
  store = record {
    here = g.stored;
    idle = idle g.qtd i (below p member streams ends parts order out b words k);
    before = (split p member streams ends parts order out b words k).before;
    after = (split p member streams ends parts order out b words k).after;
    out_is = k.queues.out_are y.endpoint g.endpoint g.here its_met.there ∙ out_is p member streams ends parts order out b words k y.endpoint
        ∙ (split p member streams ends parts order out b words k).out i;
    sorted = sorted p member streams ends parts order out b words k;
    later = partly_later (order n) (32 * b) g.qtd (suc i) (links p member streams ends parts order out b words k);
  }

  -- ---- what was moved

  module _ (hand : Hand) (heads : ℕ → Bool) (acc : ℕ → List (List ℕ)) (reported : ℕ → List ℕ) (part : IsQueuePart n (parts n))
      (right : AreReported heads order out hand parts acc reported) where
    abbrev then_out : DriverContent → ℕ → List ℕ
    then_out f = with_out out n (out_now f y.endpoint)

    abbrev d_more : DriverContent
    d_more = more d parts b words g i (here p member streams ends parts order out b words k) k.queues.fed

    abbrev d_done : DriverContent
    d_done = done d parts b words g i (here p member streams ends parts order out b words k) k.queues.fed

    out_stays : (m : ℕ) → then_out d_more m ≡ out m
    out_stays m =
        ⊎_elim (λ (same : m ≡ n).
        ap (then_out d_more) same ∙ out_here out n (out_now d_more y.endpoint)
        ∙ out_more p member streams ends parts order out b words k y.endpoint
        ∙ sym (k.queues.out_are y.endpoint g.endpoint g.here its_met.there) ∙ ap out (sym same))
        (λ (differs : m ≢ n). out_beside out n (out_now d_more y.endpoint) m differs) (cases_eq m n)

    reports_more : suc i < 8 → AreReported heads order (then_out d_more) hand now acc reported
    reports_more low m on =
        subst (λ (xs : List ℕ). IsReported (order m) xs hand now m (acc m) (reported m)) (sym (out_stays m))
        (idle_store_leaves_reports heads order out hand parts acc reported n (32 * b) (partly g.qtd i) (partly g.qtd (suc i)) store
        (idle g.qtd (suc i) low) right m on)

    fresh_last : suc i ≡ 8 → IsFresh (parts n) (partly g.qtd (suc i))
    fresh_last eighth =
        subst (λ (j : ℕ). IsFresh (parts n) (partly g.qtd j)) (sym eighth)
        (let fresh : IsFresh (parts n) g.qtd = g.total ∙ sym (g.long k.made) in fresh)

    reports_done : suc i ≡ 8 → AreReported heads order (then_out d_done) hand now acc reported
    unfolding store
    reports_done eighth =
        subst (λ (xs : List ℕ). AreReported heads order (with_out out n xs) hand now acc reported)
        (sym (split p member streams ends parts order out b words k).all)
        (last_store_leaves_reports heads order out hand parts acc reported n (32 * b) (partly g.qtd i) (partly g.qtd (suc i)) store
        (ap (λ (j : ℕ). (partly g.qtd j).token.active) eighth ∙ g.active) (fresh_last eighth) part right)

    pub reports_by : AreReported heads order (out_then out (next_of p).driver g) hand (parts_then g) acc reported
    reports_by =
        parts_are p member streams ends parts order out b words k
        (λ (ps : StructureSets). AreReported heads order (out_then out (next_of p).driver g) hand ps acc reported)
        (⊎_elim
        (λ (low : suc i < 8).
        subst (λ (f : DriverContent). AreReported heads order (out_then out f g) hand now acc reported)
        (sym (then_more p member streams ends parts order out b words k low)) (reports_more low))
        (λ (over : 8 ≤ suc i).
        let eighth = eighth_by p member streams ends parts order out b words k over in
        subst (λ (f : DriverContent). AreReported heads order (out_then out f g) hand now acc reported)
        (sym (then_done p member streams ends parts order out b words k eighth)) (reports_done eighth)) (cases_lt (suc i) 8))

  -- ---- what is told: the qTD that is stored is none of those that were read

  not_read : (e t : ℕ) (x : Endpoint) (z : Transfer) (a : ℕ) → IsNextOf p.driver e t x z
      → IsOneFrom (note_at p.driver.notes) z.first (z.qtds - z.left) a → a ≢ b
  not_read e t x z a is one same =
      let owners = k.owners in
      let pieces = owners.owned.each.pieces t (runs_of_transfer z) (ap (option_map runs_of_transfer) is.transfer)
      (next_waits d e t x z k.turns is).1 in
      let own : owners.owner a ≡ PieceOf t =
      owner_is (slot_of d.book.slots) owners.owner d.notes t z.first z.qtds a pieces
      (one_sooner (note_at d.notes) z.first (z.qtds - z.left) z.qtds a (omega arith) one) in
      let number : t ≡ g.number =
      same_piece t g.number (sym own ∙ ap owners.owner same ∙ (element p member streams ends parts order out b words k).owned) in
      let transfer : z ≡ y = same_Some z y (sym is.transfer ∙ ap (slice_get d.transfers) number ∙ g.there) in
      let left : z.left ≡ z.qtds = ap (λ (w : Transfer). w.left) transfer ∙ g.place.2 ∙ sym (ap (λ (w : Transfer). w.qtds) transfer) in
      absurd (subst (λ (j : ℕ). IsOneFrom (note_at d.notes) z.first j a) (let none : z.qtds - z.left ≡ 0 = omega (arith, left) in none) one)

  spares_done : SparesDone p.driver parts (parts_then g)
  spares_done = record {
    heads = λ e x is stream. spares_head parts n (32 * b) (partly g.qtd i) (partly g.qtd d.made) g.stored (32 * x.queue);
    done = λ e t x z a is stream one.
        spares_element parts n (32 * b) (partly g.qtd i) (partly g.qtd d.made) g.stored (32 * x.queue) (32 * a)
        (λ name owner. not_read e t x z a is one (same_blocks a b name));
  }

  pub told_stored : (hand : Hand) (reported : ℕ → List ℕ) → ToldStands p.driver hand parts reported
      → ToldStands (next_of p).driver hand (parts_then g) reported
  told_stored hand reported told =
      let spared : ToldStands d hand (parts_then g) reported
      = spared_is_told d hand hand parts (parts_then g) reported (same_hand hand) spares_done told in
      by_store p member streams ends parts order out b words k (λ (f : DriverContent). ToldStands f hand (parts_then g) reported)
      (λ low.
      alike_is_told d (one_more p member streams ends parts order out b words k) hand (parts_then g) reported
      (record { reports = refl; store = refl; endpoints = refl; transfers = refl; notes = refl })
      (λ x meets. there_now p member streams ends parts order out b words k x meets.kept) (λ x is. is) spared)
      (λ eighth.
      alike_is_told d (finished p member streams ends parts order out b words k) hand (parts_then g) reported
      (record { reports = refl; store = refl; endpoints = refl; transfers = refl; notes = refl })
      (λ x meets. there_now p member streams ends parts order out b words k x meets.kept) (λ x is. absurd (none_open x.queue is))
      spared)

  pub stored_there : (j : ℕ) → there_of (next_of p).driver j ≡ true → there_of p.driver j ≡ true
  stored_there j =
      by_store p member streams ends parts order out b words k (λ (f : DriverContent). there_of f j ≡ true → there_of p.driver j ≡ true)
      (λ low on. sym (there_same d (one_more p member streams ends parts order out b words k) j refl refl) ∙ on)
      (λ eighth on.
      there_before d (finished p member streams ends parts order out b words k) j refl
      (never_opens p member streams ends parts order out b words k) on)

  pub still_met : IsMet (next_of p).driver y.endpoint g.endpoint
  still_met =
      by_store p member streams ends parts order out b words k (λ (f : DriverContent). IsMet f y.endpoint g.endpoint)
      (λ low. record { there = record { linked = its_met.there.linked; kept = its_met.there.kept }; near = its_met.near })
      (λ eighth. record {
        there = record { linked = λ is. none_open g.endpoint.queue is; kept = its_met.there.kept };
        near = its_met.near;
      })

  pub same_ends : (next_of p).driver.endpoints ≡ p.driver.endpoints
  same_ends =
      by_store p member streams ends parts order out b words k (λ (f : DriverContent). f.endpoints ≡ p.driver.endpoints) (λ low. refl)
      (λ eighth. refl)

-- ---- what is published is told by the driver's content

ok_in : Result Qtd Bad → Qtd → Qtd
ok_in (Ok q) other = q
ok_in _ other = other

module _ (d : DriverContent) (parts : StructureSets) (b : ℕ) (words : List ℕ) (g h : IsPublished d parts b words) where
  number : g.number ≡ h.number
  number = let one = g.newest in let other = h.newest in omega (arith, one, other)

  transfer : g.transfer ≡ h.transfer
  transfer = same_Some g.transfer h.transfer (sym g.there ∙ ap (slice_get d.transfers) number ∙ h.there)

  pub one_endpoint : g.endpoint ≡ h.endpoint
  one_endpoint =
      same_Some g.endpoint h.endpoint (sym g.here ∙ ap (λ (y : Transfer). slice_get d.endpoints y.endpoint) transfer ∙ h.here)

  one_qtd : g.qtd ≡ h.qtd
  one_qtd = ok_same g.qtd h.qtd (sym (qtd_read-words g.qtd g.range) ∙ ap qtd_read (sym g.are ∙ h.are) ∙ qtd_read-words h.qtd h.range)

  pub one_parts : parts_then g ≡ parts_then h
  one_parts =
      ap (λ (x : Endpoint). stored_parts parts (32 * x.queue) (32 * b) (partly g.qtd d.made)) one_endpoint
      ∙ ap (λ (t : Qtd). stored_parts parts (32 * h.endpoint.queue) (32 * b) (partly t d.made)) one_qtd

  pub one_out : (out : ℕ → List ℕ) (new : DriverContent) → out_then out new g ≡ out_then out new h
  one_out out new =
      ap (λ (x : Endpoint). with_out out (32 * x.queue) (out_now new g.transfer.endpoint)) one_endpoint
      ∙ ap (λ (y : Transfer). with_out out (32 * h.endpoint.queue) (out_now new y.endpoint)) transfer

-- ---- of a world

module _ (s : Standing) (m : Lines) (w new : World) (k : IsMixedAt s w) (g : IsTelling s m w) (b : ℕ) (words : List ℕ)
    (p : IsPublished (queued w.driver) s.parts b words) (is : IsNextStore s w new b words p) where
  publish_not_iso : (e t count : ℕ) → w.driver.command ≡ Some (unfinished.Iso e t count) → ⊥
  publish_not_iso e t count iso = none_some (unfinished.Publish b words) (sym (ap (queued_command w.driver.endpoints) iso)
      ∙ is.command)

  pub storing : IsStoring (queued w.driver) s.near s.streams s.ends s.parts s.order s.out b words
  storing = record {
    command = is.command;
    made = is.made;
    owners = owners_of s w k;
    lent = queued_are_lent w.driver k.now.framed.place.lent (λ e t count iso. absurd (publish_not_iso e t count iso));
    turns = k.turns.turns;
    queues = k.queues.queues;
  }

  abbrev q : DriverParts
  q = told_parts w

  abbrev own : IsPublished (queued w.driver) s.parts b words
  own = published_by storing

  abbrev stored_now : StructureSets
  stored_now = parts_then own

  abbrev later : ℕ → List ℕ
  later = out_then s.out (next_of (told_parts w)).driver own

  met : IsMet (queued w.driver) own.transfer.endpoint own.endpoint
  met = met_now q s.near s.streams s.ends s.parts s.order s.out b words storing

  part : IsQueuePart (32 * own.endpoint.queue) (s.parts (32 * own.endpoint.queue))
  part = k.queues.sound own.transfer.endpoint own.endpoint own.here met

  was : (i : ℕ) → there_of (queued new.driver) i ≡ true → there_of (queued w.driver) i ≡ true
  was i on =
      stored_there q s.near s.streams s.ends s.parts s.order s.out b words storing i
      (ap (λ (c : DriverContent). there_of c i) (sym is.told) ∙ on)

  sound_then : IsMixedAt (record s { parts = parts_then own; out = out_then s.out (next_of (told_parts w)).driver own }) new → (i : ℕ)
      → there_of (queued w.driver) i ≡ true → IsQueuePart i (parts_then own i)
  sound_then mixed i on =
      ⊎_elim
      (λ (same : i ≡ 32 * own.endpoint.queue).
      subst (λ (j : ℕ). IsQueuePart j (stored_now j)) (sym same)
      (mixed.queues.sound own.transfer.endpoint own.endpoint
      (ap (λ (c : DriverContent). slice_get c.endpoints own.transfer.endpoint) is.told
      ∙ ap (λ (xs : List Endpoint). slice_get xs own.transfer.endpoint)
      (same_ends q s.near s.streams s.ends s.parts s.order s.out b words storing) ∙ own.here)
      (subst (λ (c : DriverContent). IsMet c own.transfer.endpoint own.endpoint) (sym is.told)
      (still_met q s.near s.streams s.ends s.parts s.order s.out b words storing))))
      (λ (differs : i ≢ 32 * own.endpoint.queue).
      subst (λ (ps : Structures). IsQueuePart i ps) (sym (put_beside s.parts (32 * own.endpoint.queue) (32 * b)
      (Element (partly own.qtd (queued w.driver).made)) i differs))
      (g.sound i on)) (cases_eq i (32 * own.endpoint.queue))

  own_telling : IsMixedAt (record s { parts = parts_then own; out = out_then s.out (next_of (told_parts w)).driver own }) new
      → IsTelling (record s { parts = parts_then own; out = out_then s.out (next_of (told_parts w)).driver own }) m new
  own_telling mixed = record {
    told = subst (λ (c : DriverContent). ToldStands c (in_hand s) stored_now m.reported) (sym is.told)
        (told_stored q s.near s.streams s.ends s.parts s.order s.out b words storing (in_hand s) m.reported g.told);
    moved = λ i on.
        reports_by q s.near s.streams s.ends s.parts s.order s.out b words storing (in_hand s) (there_of (queued w.driver)) m.acc
        m.reported part g.moved i
        (was i on);
    sound = λ i on. sound_then mixed i (was i on);
  }

  abbrev At : StructureSets → (ℕ → List ℕ) → Standing
  At parts out = record s { parts = parts; out = out }

  -- what is published is one and the same
  pub store_then : IsMixedAt (record s { parts = parts_then p; out = out_then s.out (next_of (told_parts w)).driver p }) new
      → IsTelling (record s { parts = parts_then p; out = out_then s.out (next_of (told_parts w)).driver p }) m new
  store_then mixed =
      let same_parts : parts_then own ≡ parts_then p = one_parts (queued w.driver) s.parts b words own p in
      let same_out : later ≡ out_then s.out (next_of (told_parts w)).driver p = one_out (queued w.driver) s.parts b words own p s.out
      (next_of (told_parts w)).driver in
      let there : IsMixedAt (At stored_now later) new =
      subst (λ (ps : StructureSets). IsMixedAt (At ps later) new) (sym same_parts)
      (subst (λ (es : ℕ → List ℕ). IsMixedAt (At (parts_then p) es) new) (sym same_out) mixed) in
      subst (λ (ps : StructureSets). IsTelling (At ps (out_then s.out (next_of (told_parts w)).driver p)) m new) same_parts
      (subst (λ (es : ℕ → List ℕ). IsTelling (At stored_now es) m new) same_out (own_telling there))

pub store_tells : StoreTells
store_tells s m w new k g b words p is mixed = store_then s m w new k g b words p is mixed
