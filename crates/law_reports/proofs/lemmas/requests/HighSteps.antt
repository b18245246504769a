-- Each step of a queue leaves the requests of control endpoints at high speed as they must stand, in a world with endpoints of every kind:
-- the laws of the driver's
-- rows, by what the queues tell of the driver.
use Rattle.std.proofs.Common.{◌≡◌, ◌≢◌, ℕ, ◌*◌, Bool, true, false, List, [], ◌∷◌, slice_get, Option, Some, None, option_map, if◌then◌else◌}
use Rattle.std.proofs.Common.{ap, refl, sym, subst, ◌∙◌}
use Rattle.std.specs.Prelude.{nat_le}
use Rattle.std.specs.List.{AllByRecursion}
use Rattle.std.proofs.lemmas.Bool.{false≢true}
use Rattle.std.proofs.lemmas.Option.{same_Some, slice_get-map}
use Rattle.law_driver.proofs.Common.{control_told, control_kind}
use Rattle.usb_base.specs.declared.endpoints.EpDesc.{EpDesc}
use Rattle.usb_base.specs.declared.packets.Speed.{Speed}
use Rattle.usb_base.specs.declared.packets.Speed.TheVariants as speeds
use Rattle.usb_base.specs.declared.packets.Way.{Way}
use Rattle.usb_base.specs.declared.packets.Way.TheVariants as ways
use Rattle.usb_base.specs.declared.reports.What.{What}
use Rattle.word_mem.specs.Memory.{Mem}
use Rattle.bus_wire.specs.Bus.{Fixed}
use Rattle.drv_table.specs.declared.content.Command.{Command}
use Rattle.drv_table.specs.declared.content.Command.TheVariants as unfinished
use Rattle.drv_table.specs.declared.content.Endpoint.{Endpoint}
use Rattle.drv_table.specs.declared.content.Transfer.{Transfer}
use Rattle.drv_table.specs.declared.rows.DriverRow.{DriverRow}
use Rattle.drv_table.specs.declared.rows.DriverRow.TheVariants as rows
use Rattle.drv_table.specs.declared.rows.Found.{Found}
use Rattle.drv_table.specs.declared.rows.Found.TheVariants as founds
use Rattle.drv_table.specs.DriverContent.{DriverContent}
use Rattle.drv_table.specs.Harvests.{note_at, token_in, found_in}
use Rattle.drv_table.specs.Kinds.{is_iso}
use Rattle.drv_table.specs.Parts.{Parts}
use Rattle.drv_table.specs.Rows.{driver_row, after_driver_row}
use Rattle.drv_table.specs.Words.{is_control, is_high, queue_head_link}
use Rattle.law_driver.specs.run_owners.Due.{IsHarvestDue}
use Rattle.law_driver.specs.chained_transfers.AsynchronousTurns.{AsynchronousTakesTurns}
use Rattle.law_driver.proofs.lemmas.chained_transfers.Harvested.{not_served}
use Rattle.law_driver.proofs.lemmas.chained_transfers.Ways.{found_by, moves_queued}
use Rattle.law_driver.specs.queued_drivers.Queued.{with_queue, without_queue, queued_endpoint, queued_desc, queued_kind, sort_of_queue, queued_transfer, queued_command}
use Rattle.law_driver.specs.queued_drivers.Queued.{queued, IsOfWay}
use Rattle.law_driver.specs.queued_drivers.Rows.{IsOfQueues}
use Rattle.law_driver.proofs.lemmas.queued_drivers.RowEvents.{idle_told}
use Rattle.law_driver.proofs.lemmas.queued_drivers.RowLists.{queue_at}
use Rattle.law_driver_ring.specs.fed_queues.Fed.{IsPublished, AreFed}
use Rattle.law_driver_ring.specs.fed_queues.Places.{AreMet}
use Rattle.law_queues.specs.fed_lends.ToLend.{IsToBeLent, lent_now}
use Rattle.law_queues.specs.lent_fronts.Stands.{parts_with}
use Rattle.law_queues.proofs.lemmas.lent_fronts.Row.{lend_is_made}
use Rattle.law_queues.specs.mended_heads.Mended.{IsAtMend, driver_mended, parts_then as parts_mended, hand_then as hand_mended}
use Rattle.law_queues.specs.mended_heads.Owed.{StalledQueue, store_due, GoesOnAt, IsOwed}
use Rattle.law_queues.specs.publish_laws.Stores.{parts_then as parts_stored, next_of}
use Rattle.law_queues.specs.released_queues.Released.{IsReturning}
use Rattle.law_structures.specs.lent_structures.Structures.{StructureSets, Tells}
use Rattle.claims_report.specs.Requests.{Request}
use Rattle.law_ring.specs.Hand.{Hand}
use Rattle.claims_world.specs.Requests.{wired, Windows}
use Rattle.bus_world.specs.World.{World, driver_parts, driver_next}
use Rattle.law_world.specs.steps.unlinked_streams.Unlinks.{IsAtUnlink, driver_then, parts_unlinked, hand_unlinked}
use Rattle.law_ring.specs.Fewer.{without_those}
use Rattle.law_driver_ring.specs.Released.{goes_of}
use Rattle.claims_driver.specs.Owners.{is_descriptor}
use Rattle.law_world.proofs.lemmas.steps.lemmas.unlinked_streams.Passing.{unlink_row}
use Rattle.law_world.specs.memory.Mixed.{Standing, IsMixedAt}
use Rattle.law_world.specs.memory.Steps.{told_parts, IsToldRow, HasBehind, IsNextStore}
use Rattle.law_world.proofs.lemmas.memory.HarvestKept.{tells_of}
use Rattle.law_world.proofs.lemmas.memory.PublishStores.{by_store}
use Rattle.law_world.proofs.lemmas.memory.RingBasis.{due_is, row_alike}
use Rattle.law_reports.specs.lines.Lined.{Lines}
use Rattle.law_reports.proofs.lemmas.lines.ToldStores.{storing}
use Rattle.law_reports.specs.pipes.Declared.{Sides as Pipes}
use Rattle.law_reports.specs.pipes.Piped.{Heads, IsPiped}
use Rattle.law_reports.proofs.lemmas.pipes.Opened.{off}
use Rattle.law_reports.specs.requests.Asking.{Sides, Asking, HasAsks, AsksIn}
use Rattle.law_reports.specs.requests.Courses.{have_queues}
use Rattle.law_reports.specs.requests.Footing.{IsFooting}
use Rattle.law_reports.specs.requests.HighAsking.{told_world, told_standing, told_streams, AreSuited, AsksAt}
use Rattle.law_reports.specs.requests.Reading.{AreSilent}
use Rattle.law_reports.proofs.lemmas.requests.Clearing.{cleared, cleared_asks}
use Rattle.law_reports.proofs.lemmas.requests.Driving.{EndsAs, as_done, as_halt, as_miss, read_as}
use Rattle.law_reports.proofs.lemmas.requests.Ended.{has, piece_here, qtd_here}
use Rattle.law_reports.proofs.lemmas.requests.EndedBeside.{beside_asks}
use Rattle.law_reports.proofs.lemmas.requests.Endings.{halt_asks, done_asks}
use Rattle.law_reports.specs.requests.Ended.{ended_driver}
use Rattle.law_reports.proofs.lemmas.requests.Lending.{lent_asks}
use Rattle.law_reports.proofs.lemmas.requests.Mending.{mended_asks}
use Rattle.law_reports.proofs.lemmas.requests.Missed.{harvest_misses_none}
use Rattle.law_reports.proofs.lemmas.requests.Moves.{moved_asks}
use Rattle.law_reports.proofs.lemmas.requests.Releasing.{released_asks}
use Rattle.law_reports.proofs.lemmas.requests.Storing.{stored_asks}
use Rattle.law_reports.proofs.lemmas.requests.Unlinking.{unlinked_asks}
use Rattle.law_reports.proofs.lemmas.requests.Waits.{waits_asks}

-- ---- commands that the queues tell

pub publish_not_chain : (c : Option Command) (xs : List Endpoint) (b : ℕ) (words : List ℕ)
    → queued_command xs c ≡ Some (unfinished.Publish b words)
    → c ≢ Some unfinished.Chain
publish_not_chain c xs b words told is =
    let bad : ◌≡◌ {A = Option Command} (queued_command xs (Some unfinished.Chain)) (Some (unfinished.Publish b words)) =
    ap (queued_command xs) (sym is) ∙ told in
    cc

-- ---- a high-speed control endpoint is told as it is

pub desc_same : (y : Endpoint) → (queued_endpoint y).desc ≡ queued_desc y.desc
desc_same y = by (is_iso y.desc.kind)
  where
    by : (b : Bool) → (if b then without_queue y else with_queue y).desc ≡ queued_desc y.desc
    by true = refl
    by false = refl

control_way : (way : Way) → is_control (queued_kind way) ≡ true → way ≡ ways.Ctl
control_way ways.Ctl on = refl
control_way ways.In on = absurd (false≢true on)
control_way ways.Out on = absurd (false≢true on)

pub high_is : (speed : Speed) → is_high speed ≡ true → speed ≡ speeds.High
high_is speeds.High on = refl
high_is _ on = absurd (false≢true on)

-- .. and one of another speed but for that
pub told_but_speed : (x : EpDesc) → IsOfWay x.name.way x.kind → is_control (queued_kind x.name.way) ≡ true
    → record (queued_desc x) { speed = x.speed } ≡ x
told_but_speed x fits control =
    let way : x.name.way ≡ ways.Ctl = control_way x.name.way control in
    let kind : queued_kind x.name.way ≡ x.kind = ap queued_kind way ∙ sym (subst (λ (u : Way). IsOfWay u x.kind) way fits) in
    λ i. record x { kind = kind i }

pub told_as_is : (x : EpDesc) → IsOfWay x.name.way x.kind → is_control (queued_kind x.name.way) ≡ true → is_high x.speed ≡ true
    → queued_desc x ≡ x
told_as_is x fits control high =
    let way : x.name.way ≡ ways.Ctl = control_way x.name.way control in
    let kind : queued_kind x.name.way ≡ x.kind = ap queued_kind way ∙ sym (subst (λ (u : Way). IsOfWay u x.kind) way fits) in
    λ i. record x { kind = kind i; speed = sym (high_is x.speed high) i }

module _ (g : Sides) (fixed : Fixed) (x : Pipes) (s : Standing) (m : Lines) (h : Heads) (w : World) (k : IsPiped fixed x s m h w)
    (f : IsFooting s.near (told_streams s) (told_standing s m) (told_world w)) (suited : AreSuited g w.driver)
    (silent : AreSilent (queued w.driver)) (a : Asking) (v : Windows) (asks : ℕ → Request) (q : AsksAt g fixed s a v asks w) where
  abbrev Now : (ℕ → Bool) → StructureSets → Hand → Type 0
  Now near parts hand = HasAsks g near parts hand v asks (queued (driver_next w).driver) (driver_next w).memory (wired fixed w)

  -- ---- memory

  told_memory : (row : DriverRow) → driver_row (driver_parts w) ≡ row → IsOfQueues (driver_parts w) row
      → (after_driver_row row (told_parts w)).memory ≡ (driver_next w).memory
  told_memory row is of =
      ap (λ (p : Parts). p.memory) (sym (row_alike s w k.mixed row is of).same)
      ∙ ap (λ (r : DriverRow). (after_driver_row r (driver_parts w)).memory) (sym is)

  -- of another asking, with the driver's content and memory as they are then
  given : (near : ℕ → Bool) (parts : StructureSets) (hand : Hand) (b : Asking) (c : DriverContent) (i : Mem)
      → queued (driver_next w).driver ≡ c → i ≡ (driver_next w).memory → AsksIn g near parts hand b v asks c i (wired fixed w)
      → Now near parts hand
  given near parts hand b c i driver memory z = record {
    asking = b;
    world = subst (λ (j : Mem). AsksIn g near parts hand b v asks (queued (driver_next w).driver) j (wired fixed w)) memory
        (subst (λ (e : DriverContent). AsksIn g near parts hand b v asks e i (wired fixed w)) (sym driver) z);
  }

  has_given : (near : ℕ → Bool) (parts : StructureSets) (hand : Hand) (c : DriverContent) → queued (driver_next w).driver ≡ c
      → HasAsks g near parts hand v asks c (driver_next w).memory (wired fixed w) → Now near parts hand
  has_given near parts hand c driver z = given near parts hand z.asking c (driver_next w).memory driver refl z.world

  -- ---- a harvest

  module _ (e t : ℕ) (found : Found) (due : IsHarvestDue (told_parts w) e t found)
      (row : IsToldRow w (driver_next w) (rows.Harvest e t found)) (turns : AsynchronousTakesTurns (queued (driver_next w).driver)) where
    harvest_memory : (after_driver_row (rows.Harvest e t found) (told_parts w)).memory ≡ w.memory
    harvest_memory = refl

    real_memory : (driver_next w).memory ≡ w.memory
    real_memory = ap (λ (r : DriverRow). (after_driver_row r (driver_parts w)).memory) row.next

    turns_then : AsynchronousTakesTurns (ended_driver (told_world w) e t found)
    turns_then = subst AsynchronousTakesTurns row.told turns

    found_is : found ≡ found_in due.transfer.sort (nat_le due.transfer.left 1) (note_at w.driver.notes due.transfer.place)
        (token_in w.memory due.transfer.place)
    found_is = due.tells ∙ found_by (queued w.driver) w.memory due.transfer due.transfer.sort
        (moves_queued (queued w.driver) due.transfer (k.mixed.turns.turns.asynchronous.moves t due.transfer due.there))

    abbrev Read : Type 0
    Read = HasAsks g s.near s.parts s.hand v asks (ended_driver (told_world w) e t found) w.memory (wired fixed w)

    read_then : Read → Now s.near s.parts s.hand
    read_then z = given s.near s.parts s.hand z.asking (ended_driver (told_world w) e t found) w.memory row.told (sym real_memory) z.world

  harvested_ended : (e t n : ℕ) (what : What) (due : IsHarvestDue (told_parts w) e t (founds.Ended n what))
      → AsynchronousTakesTurns (ended_driver (told_world w) e t (founds.Ended n what)) → EndsAs what → (b : Bool)
      → g.asks due.endpoint.desc ≡ b
      → HasAsks g s.near s.parts s.hand v asks (ended_driver (told_world w) e t (founds.Ended n what)) w.memory (wired fixed w)
  harvested_ended e t n what due turns ends false off = record {
    asking = _;
    world = beside_asks g fixed s.near (told_streams s) (told_standing s m) a v asks (told_world w) e t n what due turns f q
        (λ z here. ap (λ (y : Endpoint). g.asks y.desc) (same_Some z due.endpoint (sym here ∙ due.here)) ∙ off);
  }
  harvested_ended e t n what due turns (as_done is) true on =
      subst (λ (u : What). (r : IsHarvestDue (told_parts w) e t (founds.Ended n u))
      → AsynchronousTakesTurns (ended_driver (told_world w) e t (founds.Ended n u))
      → g.asks r.endpoint.desc ≡ true
      → HasAsks g s.near s.parts s.hand v asks (ended_driver (told_world w) e t (founds.Ended n u)) w.memory (wired fixed w)) (sym is)
      (λ r turned control. done_asks g fixed s.near (told_streams s) (told_standing s m) a v asks (told_world w) e t n r turned f silent q
      control) due turns on
  harvested_ended e t n what due turns (as_halt cause is) true on =
      subst (λ (u : What). (r : IsHarvestDue (told_parts w) e t (founds.Ended n u))
      → AsynchronousTakesTurns (ended_driver (told_world w) e t (founds.Ended n u))
      → g.asks r.endpoint.desc ≡ true
      → HasAsks g s.near s.parts s.hand v asks (ended_driver (told_world w) e t (founds.Ended n u)) w.memory (wired fixed w)) (sym is)
      (λ r turned control. halt_asks g fixed s.near (told_streams s) (told_standing s m) a v asks (told_world w) e t n cause r turned f
      silent q control) due turns on
  -- that bit is of split transactions (3.5.3)
  harvested_ended e t n what due turns (as_miss is) true on =
      absurd
      (harvest_misses_none (have_queues a.courses) (told_parts w) e t n (32 * due.endpoint.queue) what due s.parts
      (piece_here g fixed s.near (told_streams s) (told_standing s m) a v asks (told_world w) e t (founds.Ended n what) due on f silent
      q).qtd f.turns.asynchronous
      f.tells (has g fixed s.near (told_streams s) (told_standing s m) a v asks (told_world w) e t (founds.Ended n what) due on f silent
      q).queue
      (qtd_here g fixed s.near (told_streams s) (told_standing s m) a v asks (told_world w) e t (founds.Ended n what) due on f silent q)
      q.unmissed.structures is)

  pub harvested : (e t : ℕ) (found : Found) (due : IsHarvestDue (told_parts w) e t found)
      → IsToldRow w (driver_next w) (rows.Harvest e t found)
      → AsynchronousTakesTurns (queued (driver_next w).driver) → Now s.near s.parts s.hand
  harvested e t founds.Active due row turns =
      read_then e t founds.Active due row turns
      (record { asking = a; world = waits_asks g fixed s.near (told_standing s m) a v asks (told_world w) e t due q })
  harvested e t (founds.Moved n) due row turns =
      read_then e t (founds.Moved n) due row turns
      (record {
        asking = a;
        world =
            moved_asks g fixed s.near (told_streams s) (told_standing s m) a v asks (told_world w) e t n due f silent q;
      })
  harvested e t (founds.Ended n what) due row turns =
      read_then e t (founds.Ended n what) due row turns
      (harvested_ended e t n what due (turns_then e t (founds.Ended n what) due row turns)
      (read_as due.transfer.sort (nat_le due.transfer.left 1) (note_at w.driver.notes due.transfer.place)
      (token_in w.memory due.transfer.place) n what
      (found_is e t (founds.Ended n what) due row turns)) (g.asks due.endpoint.desc) refl)
  -- no descriptor of the frame list is read
  harvested e t (founds.Served n) due row turns =
      absurd (not_served due.transfer.sort (nat_le due.transfer.left 1) (note_at w.driver.notes due.transfer.place)
      (token_in w.memory due.transfer.place) (founds.Served n)
      (found_is e t (founds.Served n) due row turns) n refl)

  -- ---- a transfer is given back

  pub returned : (t : ℕ) (y : Transfer) (own : Endpoint) → IsToldRow w (driver_next w) (rows.ReleaseTransfer t)
      → IsReturning (queued w.driver) t y own
      → HasAsks g s.near (without_those s.parts (32 * own.queue) (goes_of w.driver y)) s.hand v asks (queued (driver_next w).driver)
      (driver_next w).memory (wired fixed w)
  returned t y own row r =
      given s.near (without_those s.parts (32 * own.queue) (goes_of w.driver y)) s.hand
      (record { courses = a.courses; numbers = a.numbers }) _ _ row.told (told_memory (rows.ReleaseTransfer t) row.next tt)
      (released_asks g fixed s.near (told_streams s) (told_standing s m) a v asks (told_world w) f q t y own r)

  -- ---- a transfer is published

  pub lent : (b : ℕ) (words : List ℕ) (get : IsToBeLent (queued w.driver) w.memory b words) (order : ℕ → ℕ → ℕ) (out : ℕ → List ℕ)
      → IsToldRow w (driver_next w) rows.Lend → HasBehind s w b words get order out
      → IsMixedAt (record s { parts = parts_with get s.parts; order = order; out = out }) (driver_next w)
      → Now s.near (parts_with get s.parts) s.hand
  lent b words get order out row behind mixed =
      let made = lend_is_made (told_parts w) b words get in
      let driver : queued (driver_next w).driver ≡ lent_now (queued w.driver) w.memory = row.told ∙ ap (λ (p : Parts). p.driver) made in
      let of : IsOfQueues (driver_parts w) rows.Lend = publish_not_chain w.driver.command w.driver.endpoints b words get.command in
      given s.near (parts_with get s.parts) s.hand a (lent_now (queued w.driver) w.memory) (driver_next w).memory driver refl
      (lent_asks g fixed s.near (told_streams s) (told_standing s m) a v asks (told_world w) f q b words get (parts_with get s.parts)
      order out behind.behind behind.still behind.heads behind.elements
      (subst (λ (c : DriverContent). AreFed c (parts_with get s.parts)) driver mixed.queues.queues.fed)
      (subst (λ (i : Mem). Tells i (parts_with get s.parts)) (sym (told_memory rows.Lend row.next of) ∙ ap (λ (p : Parts). p.memory) made)
      (tells_of (record s { parts = parts_with get s.parts; order = order; out = out }) (driver_next w) mixed)) (driver_next w).memory)

  pub stored : (b : ℕ) (words : List ℕ) (p : IsPublished (queued w.driver) s.parts b words) → IsNextStore s w (driver_next w) b words p
      → Now s.near (parts_stored p) s.hand
  stored b words p next =
      has_given s.near (parts_stored p) s.hand (next_of (told_parts w)).driver next.told
      (stored_asks g fixed s.near (told_streams s) (told_standing s m) a v asks (told_world w) f q b words next.command next.made p
      (driver_next w).memory (next_of (told_parts w)).driver
      (by_store (told_parts w) s.near s.streams s.ends s.parts s.order s.out b words
      (storing s m w (driver_next w) k.mixed k.telling b words p next)))

  -- ---- a stalled queue goes on

  onward_told : (o : Option ℕ) (dummy b : ℕ) → GoesOnAt w.driver.transfers dummy o b → GoesOnAt (queued w.driver).transfers dummy o b
  onward_told None dummy b is = is
  onward_told (Some t) dummy b is = record {
    transfer = queued_transfer w.driver.endpoints is.transfer;
    here = slice_get-map (queued_transfer w.driver.endpoints) w.driver.transfers t
        ∙ ap (option_map (queued_transfer w.driver.endpoints)) is.here;
    first = is.first ∙ sym (first_same is.transfer);
  }
    where
      first_same : (y : Transfer) → (queued_transfer w.driver.endpoints y).first ≡ y.first
      first_same y = by (is_descriptor y.sort)
        where
          by : (c : Bool) → (if c then record y
              { sort = sort_of_queue (slice_get w.driver.endpoints y.endpoint); reported = true; released = true } else y).first ≡ y.first
          by true = refl
          by false = refl

  owed_told : (u : StalledQueue) → IsOwed w.driver u → IsOwed (queued w.driver) u
  owed_told u o = record {
    number = o.number;
    endpoint = with_queue o.endpoint;
    here = queue_at w.driver.endpoints o.number o.endpoint o.here (control_kind o.endpoint.desc.kind o.control);
    control = control_told o.endpoint.desc.name.way o.endpoint.desc.kind (k.mixed.turns.kinds_fit o.number o.endpoint o.here) o.control;
    kept = o.kept;
    going = o.going;
    queue = o.queue;
    onward = onward_told o.endpoint.next o.endpoint.dummy u.onward o.onward;
    some = o.some;
  }

  all_owed : (us : List StalledQueue) → AllByRecursion (IsOwed w.driver) us → AllByRecursion (IsOwed (queued w.driver)) us
  all_owed [] all = tt
  all_owed (u ∷ us) all = (owed_told u all.0, all_owed us all.1)

  pub mended : (at : IsAtMend (driver_parts w) s.parts s.out) → IsToldRow w (driver_next w) (rows.Mend (store_due at.stalled))
      → Now s.near (parts_mended at) (hand_mended at s.hand)
  mended at row =
      has_given s.near (parts_mended at) (hand_mended at s.hand) (driver_mended (queued w.driver)) row.told
      (mended_asks g fixed s.near (told_streams s) (told_standing s m) a v asks (told_world w) f q (driver_parts w) at
      (idle_told w.driver at.idle) at.are.mends
      (all_owed (at.stalled ∷ at.others) at.are.owed) (driver_next w).memory)

  -- ---- a queue head leaves the ring, and is met no more

  pub unlinked : (at : IsAtUnlink (queued w.driver) s.near s.parts)
      → IsToldRow w (driver_next w) (rows.Store at.before (32 * at.before) (queue_head_link at.after))
      → Now s.near (parts_unlinked s.parts at.before at.queue at.after) (hand_unlinked s.hand at.before at.after)
  unlinked at row =
      let is = unlink_row (told_parts w) s.near s.parts at in
      given s.near _ _ (record { courses = a.courses; numbers = a.numbers }) (driver_then (queued w.driver) at.number at.endpoint)
      (driver_next w).memory
      (row.told ∙ ap (λ (r : DriverRow). (after_driver_row r (told_parts w)).driver) (sym is.row) ∙ is.driver) refl
      (unlinked_asks g fixed s.near (told_standing s m) a v asks (told_world w) q at (driver_next w).memory)

  pub narrowed : (near : ℕ → Bool) → IsToldRow w (driver_next w) rows.ClearAdvance → AreMet (queued (driver_next w).driver) near
      → Now near s.parts s.hand
  narrowed near row met =
      given near s.parts s.hand _ (cleared (queued w.driver)) (driver_next w).memory row.told refl
      (cleared_asks g fixed s.near (told_streams s) (told_standing s m) a v asks (told_world w) f q near
      (subst (λ (c : DriverContent). AreMet c near) row.told met) (idle_told w.driver (due_is s w k.mixed rows.ClearAdvance row.next).0)
      (driver_next w).memory)
