-- A harvested transfer's blocks are given back, or an endpoint's: what is still to be sent of the others stands.
use Rattle.std.proofs.Common.{◌≡◌, ℕ, ◌*◌, true, false, List, ◌++◌, set, slice_get, Option, Some, None, ap, refl, sym, subst, ◌∙◌}
use Rattle.std.proofs.Common.{⊎_elim}
use Rattle.std.specs.List.{concat}
use Rattle.std.proofs.lemmas.Bool.{true≢false}
use Rattle.law_driver.proofs.Common.{out_way}
use Rattle.law_world.proofs.Common.{none_some}
use Rattle.usb_base.specs.declared.endpoints.EpName.{EpName}
use Rattle.word_mem.specs.Memory.{Mem}
use Rattle.mem_runs.specs.Book.{holding}
use Rattle.qh_qtd.specs.declared.queue_head.Qh.{Qh}
use Rattle.bus_wire.specs.Bus.{Fixed}
use Rattle.claims_base.specs.Prefix.{IsPrefix}
use Rattle.drv_table.specs.declared.content.Command.TheVariants as unfinished
use Rattle.drv_table.specs.declared.content.Endpoint.{Endpoint}
use Rattle.drv_table.specs.declared.content.QtdNote.{QtdNote}
use Rattle.drv_table.specs.declared.content.Sort.TheVariants as sorts
use Rattle.drv_table.specs.declared.content.Transfer.{Transfer}
use Rattle.drv_table.specs.declared.rows.DriverRow.TheVariants as rows
use Rattle.drv_table.specs.DriverContent.{DriverContent}
use Rattle.drv_table.specs.Parts.{Parts}
use Rattle.drv_table.specs.Releases.{freed_by, after_transfer}
use Rattle.drv_table.specs.Rows.{after_driver_row}
use Rattle.law_driver.specs.queued_drivers.Queued.{queued}
use Rattle.law_driver.specs.queued_drivers.Rows.{QueuesAlike}
use Rattle.law_driver.proofs.lemmas.chained_transfers.Rows.{set_which}
use Rattle.law_driver.proofs.lemmas.queued_drivers.CommandFields.{name_same}
use Rattle.law_driver_ring.specs.fed_queues.Places.{IsThere}
use Rattle.law_ring.specs.QueueParts.{IsQueuePart}
use Rattle.law_structures.specs.lent_structures.Structures.{QueueHead, Buffer, Structure}
use Rattle.law_structures.proofs.lemmas.lent_structures.Altering.{found_queue}
use Rattle.law_queues.specs.leaving_drivers.Before.{WasSame, UnlinksAtMost}
use Rattle.law_queues.specs.released_queues.Released.{IsReturning}
use Rattle.law_queues.specs.whole_sends.Laws.{IsStopped}
use Rattle.law_world.specs.memory.Mixed.{Standing, IsMixedAt}
use Rattle.law_world.specs.memory.Steps.{IsToldRow, told_parts, IsGivenBack}
use Rattle.law_world.specs.streams.put_laws.HeldPuts.{HoldsPuts}
use Rattle.law_world.specs.streams.put_laws.Owed.{rest_from, Owes}
use Rattle.law_world.specs.streams.put_laws.OwedTaken.{EndedAreStopped}
use Rattle.law_world.specs.streams.put_laws.TakenPuts.{puts_from}
use Rattle.law_world.proofs.lemmas.memory.HarvestKept.{tells_of}
use Rattle.law_world.proofs.lemmas.streams.lemmas.left_puts.Others.{command_same, notes_same, other_end, held_back}
use Rattle.law_world.proofs.lemmas.streams.lemmas.left_puts.Released.{endpoint_release_owes}
use Rattle.law_world.proofs.lemmas.streams.lemmas.put_laws.HeldAlike.{WasThere, was_itself, same_holds}
use Rattle.law_world.proofs.lemmas.streams.lemmas.put_laws.Same.{WereEnds, ends_same, same_owes, idle_there, gone_owes}
use Rattle.law_world.proofs.lemmas.streams.lemmas.put_laws.TakenStopped.{were_ended}
use Rattle.law_reports.specs.lines.Lined.{Lines, IsTelling}
use Rattle.law_reports.proofs.lemmas.lines.ToldGoes.{IsKnown, known}
use Rattle.law_reports.specs.pipes.Declared.{Sides}
use Rattle.law_reports.specs.pipes.Piped.{Heads, IsPiped}
use Rattle.law_reports.proofs.lemmas.pipes.Names.{WasQueued, was_queued, queue_same}
use Rattle.law_reports.specs.pipes.puts.Paid.{Pays}
use Rattle.law_reports.proofs.lemmas.pipes.lemmas.puts.Held.{idle_out, backward_holds}
use Rattle.law_reports.proofs.lemmas.pipes.lemmas.puts.Steps.{IsThereOut, part_at}
use Rattle.bus_world.specs.World.{World, driver_next}

-- ---- the same content

pub owes_alike : (g f : DriverContent) (m : Mem) (puts told : ℕ → List ℕ) → QueuesAlike g f → Owes g m puts told → Owes f m puts told
owes_alike g f m puts told alike owes = record {
  going = λ e x here there sends goes.
      ap (λ (ts : List Transfer). told (32 * x.queue) ++ rest_from m f.notes e ts) alike.transfers
      ∙ ap (λ (ns : List QtdNote). told (32 * x.queue) ++ rest_from m ns e g.transfers) alike.notes
      ∙ owes.going e x (was e x here) (there_was x there) sends goes
      ∙ sym (ap (λ (ts : List Transfer). concat (puts_from puts e 0 ts)) alike.transfers);
  over = λ e x cause here there sends ends.
      subst (λ (ts : List Transfer). IsPrefix (told (32 * x.queue)) (concat (puts_from puts e 0 ts))) (sym alike.transfers)
      (owes.over e x cause (was e x here) (there_was x there) sends ends);
  opening = λ e t x y here alive is there.
      owes.opening e t x y (was e x here) alive (sym alike.command ∙ is)
      (ap (λ (ts : List Transfer). slice_get ts t) (sym alike.transfers) ∙ there);
  last = λ t y x there here sends goes is held.
      owes.last t y x (ap (λ (ts : List Transfer). slice_get ts t) (sym alike.transfers) ∙ there) (was y.endpoint x here)
      sends goes is held;
}
  where
    was : (e : ℕ) (x : Endpoint) → slice_get f.endpoints e ≡ Some x → slice_get g.endpoints e ≡ Some x
    was e x here = ap (λ (xs : List Endpoint). slice_get xs e) (sym alike.endpoints) ∙ here

    there_was : (x : Endpoint) → IsThere f x → IsThere g x
    there_was x there = record { linked = λ opens. there.linked (alike.command ∙ opens); kept = there.kept }

module _ (fixed : Fixed) (x : Sides) (s : Standing) (m : Lines) (h : Heads) (puts : ℕ → List ℕ) (w : World)
    (k : IsPiped fixed x s m h w) (pays : Pays fixed x s m puts w) where
  abbrev d : DriverContent
  d = queued w.driver

  abbrev new : DriverContent
  new = queued (driver_next w).driver

  -- ---- the queue heads that stay are as they were

  module _ (t : Standing) (mixed : IsMixedAt t (driver_next w)) (l : Lines) (telling : IsTelling t l (driver_next w))
      (idle : (queued (driver_next w).driver).command ≡ None)
      (back : (n a : ℕ) (u : Structure) → t.parts n a ≡ Some u → s.parts n a ≡ Some u) where
    ended_back : EndedAreStopped (queued (driver_next w).driver) s.parts → EndedAreStopped (queued (driver_next w).driver) t.parts
    ended_back ended e z cause here alive sends over =
        let n : ℕ = 32 * z.queue in
        let v : WasQueued (driver_next w).driver.endpoints e z = was_queued (driver_next w).driver.endpoints e z here in
        let there : IsThere (queued (driver_next w).driver) z = idle_there new idle z alive in
        let o : IsThereOut (driver_next w).driver (32 * z.queue) = record {
          number = e;
          endpoint = v.endpoint;
          here = v.here;
          there = subst (IsThere (queued (driver_next w).driver)) v.is there;
          way_is = ap (λ (name : EpName). name.way) (sym (name_same v.endpoint)) ∙ ap (λ (u : Endpoint). u.desc.name.way) (sym v.is)
              ∙ out_way z.desc.name.way sends;
          at = ap (λ (u : Endpoint). 32 * u.queue) v.is ∙ ap (λ (q : ℕ). 32 * q) (queue_same v.endpoint);
        } in
        let part : IsQueuePart (32 * z.queue) (t.parts (32 * z.queue)) = part_at t l (driver_next w) mixed telling n o in
        let was : IsStopped s.parts (32 * z.queue) = ended e z cause here alive sends over in
        let same : part.queue ≡ was.0 = found_queue (s.parts n n) part.queue was.0 (back n n (QueueHead part.queue) part.here) was.1 in
        (part.queue, part.here, ap (λ (q : Qh). q.token.active) same ∙ was.2, ap (λ (q : Qh). q.token.halted) same ∙ was.3)

    holds_back : (queued (driver_next w).driver).notes ≡ (queued w.driver).notes
        → ((i : ℕ) (y : Transfer) → slice_get (queued (driver_next w).driver).transfers i ≡ Some y → y.sort ≡ sorts.Put → y.released ≡ false
        → WasThere (queued w.driver).transfers i y) → HoldsPuts (queued (driver_next w).driver) (driver_next w).memory puts
    holds_back notes were =
        backward_holds d new w.memory (driver_next w).memory s.parts t.parts puts mixed.turns.turns mixed.queues.queues.fed
        (tells_of s w k.mixed) (tells_of t (driver_next w) mixed) (idle_out new idle) notes
        (λ n a pages j bs here. back n a (Buffer pages j bs) here) were pays.held

  -- ---- a transfer's

  module _ (i : ℕ) (y : Transfer) (v : Endpoint) (is : IsToldRow w (driver_next w) (rows.ReleaseTransfer i))
      (r : IsReturning (queued w.driver) i y v) (t : Standing) (mixed : IsMixedAt t (driver_next w)) (l : Lines)
      (telling : IsTelling t l (driver_next w)) (back : (n a : ℕ) (u : Structure) → t.parts n a ≡ Some u → s.parts n a ≡ Some u)
      (lines : l ≡ m) where
    abbrev p : Parts
    p = told_parts w

    abbrev gone : Transfer
    gone = record y { released = true }

    row_is : queued (driver_next w).driver
        ≡ (after_transfer (told_parts w) i (Some y) (freed_by (queued w.driver) (holding (queued w.driver).book w.memory) (Some y))).driver
    row_is =
        is.told
        ∙ ap (λ (o : Option Transfer). (after_transfer p i o (freed_by d (holding d.book w.memory) o)).driver) r.here

    ends : (queued (driver_next w).driver).endpoints ≡ (queued w.driver).endpoints
    ends = ap (λ (g : DriverContent). g.endpoints) row_is

    transfers : (queued (driver_next w).driver).transfers ≡ set (queued w.driver).transfers i (record y { released = true })
    transfers = ap (λ (g : DriverContent). g.transfers) row_is

    notes : (queued (driver_next w).driver).notes ≡ (queued w.driver).notes
    notes = ap (λ (g : DriverContent). g.notes) row_is

    command : (queued (driver_next w).driver).command ≡ (queued w.driver).command
    command = ap (λ (g : DriverContent). g.command) row_is

    pub returned_ended : EndedAreStopped (queued (driver_next w).driver) t.parts
    returned_ended =
        ended_back t mixed l telling (command ∙ r.free) back (were_ended d new s.parts (ends_same d new ends) pays.ended)

    pub returned_holds : HoldsPuts (queued (driver_next w).driver) (driver_next w).memory puts
    returned_holds =
        holds_back t mixed l telling (command ∙ r.free) back notes
        (λ j z here put held.
        ⊎_elim
        (λ (own : (j ≡ i) × (z ≡ gone)). absurd (true≢false (ap (λ (u : Transfer). u.released) (sym own.1) ∙ held)))
        (λ (other : slice_get (queued w.driver).transfers j ≡ Some z). was_itself d.transfers j z other)
        (set_which d.transfers i j y gone z r.here (ap (λ (ts : List Transfer). slice_get ts j) (sym transfers) ∙ here)))

    pub returned_owes : Owes (queued (driver_next w).driver) (driver_next w).memory puts l.reported
    returned_owes =
        subst (λ (z : Lines). Owes (queued (driver_next w).driver) (driver_next w).memory puts z.reported) (sym lines)
        (gone_owes d new w.memory (driver_next w).memory i y puts m.reported k.mixed.turns.turns r.here r.reported ends transfers notes
        command
        pays.held returned_holds pays.owes)

  -- ---- an endpoint's

  module _ (e : ℕ) (z : Endpoint) (g : DriverContent) (t : Standing) (given : IsGivenBack w (driver_next w) e z g)
      (mixed : IsMixedAt t (driver_next w)) (l : Lines) (telling : IsTelling t l (driver_next w))
      (back : (n a : ℕ) (u : Structure) → t.parts n a ≡ Some u → s.parts n a ≡ Some u) (lines : l ≡ m) where
    abbrev q : Parts
    q = record (told_parts w) { driver = g }

    abbrev left : DriverContent
    left = (after_driver_row (rows.ReleaseEndpoint e) q).driver

    what : IsKnown w e z g
    what = known s w k.mixed e z g given.left given.leaves

    idle : (queued (driver_next w).driver).command ≡ None
    idle = given.told.command ∙ command_same q e z given.leaves ∙ what.idle

    -- it was so before it left
    were : WereEnds (queued w.driver) g
    were i u here =
        let b : WasSame (queued w.driver) i u = what.before.ends i u here in
        record { endpoint = b.endpoint; here = b.here; queue = b.queue; desc = b.desc; gone = b.gone; ends = b.ends }

    kept_transfers : g.transfers ≡ (queued w.driver).transfers
    kept_transfers = what.before.transfers

    held_before : HoldsPuts g w.memory puts
    held_before = same_holds d g w.memory w.memory puts kept_transfers what.before.notes (λ at. refl) pays.held

    owes_before : Owes g w.memory puts m.reported
    owes_before =
        same_owes d g w.memory w.memory puts puts m.reported m.reported k.mixed.turns.turns
        (record { ends = were; transfers = kept_transfers; notes = what.before.notes }) (λ j low. refl) pays.held held_before
        (λ i u here there before. refl)
        (λ i u here there opening. absurd (before_none u.queue opening))
        (λ u opening. absurd (none_some (unfinished.Open u.queue) (sym what.idle ∙ opening))) pays.owes
      where
        before_none : (i : ℕ) → (queued w.driver).command ≡ Some (unfinished.Open i) → ⊥
        before_none i opening = subst UnlinksAtMost opening what.before.idle

    pub given_ended : EndedAreStopped (queued (driver_next w).driver) t.parts
    given_ended =
        ended_back t mixed l telling idle back
        (λ i u cause here alive sends over.
        let was = other_end q e z given.leaves i u (ap (λ (xs : List Endpoint). slice_get xs i) (sym given.told.endpoints) ∙ here) alive in
        were_ended d g s.parts were pays.ended i u cause was.1 alive sends over)

    pub given_holds : HoldsPuts (queued (driver_next w).driver) (driver_next w).memory puts
    given_holds =
        holds_back t mixed l telling idle back (given.told.notes ∙ notes_same q e z given.leaves ∙ what.before.notes)
        (λ i y here put held.
        let was = held_back q e z given.leaves i y (ap (λ (ts : List Transfer). slice_get ts i) (sym given.told.transfers) ∙ here) held in
        was_itself d.transfers i y (ap (λ (ts : List Transfer). slice_get ts i) (sym kept_transfers) ∙ was.1))

    -- as its row leaves it
    held_row : HoldsPuts (after_driver_row (rows.ReleaseEndpoint e) (record (told_parts w) { driver = g })).driver
        (after_driver_row (rows.ReleaseEndpoint e) (record (told_parts w) { driver = g })).memory puts
    held_row =
        subst (λ (mem : Mem). HoldsPuts left mem puts) what.memory
        (same_holds new left (driver_next w).memory (driver_next w).memory puts (sym given.told.transfers) (sym given.told.notes)
        (λ at. refl)
        given_holds)

    pub given_owes : Owes (queued (driver_next w).driver) (driver_next w).memory puts l.reported
    given_owes =
        subst (λ (b : Lines). Owes (queued (driver_next w).driver) (driver_next w).memory puts b.reported) (sym lines)
        (owes_alike left new (driver_next w).memory puts m.reported given.told
        (subst (λ (mem : Mem). Owes left mem puts m.reported) (sym what.memory)
        (endpoint_release_owes q e z puts m.reported m.reported what.turns given.leaves (λ i u differs here kept sends. refl) held_before
        held_row
        owes_before)))
