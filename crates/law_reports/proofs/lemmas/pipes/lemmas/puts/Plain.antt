-- Events of the driver by which nothing is harvested or given back, and that are no command: what is still to be sent stands.
use Rattle.std.proofs.Common.{◌≡◌, ◌≢◌, ℕ, ◌*◌, false, List, [], slice_get, Option, Some, None, ap, refl, sym, subst, ◌∙◌}
use Rattle.std.proofs.Common.{◌-◌, ⊎_elim}
use Rattle.std.proofs.lemmas.Bool.{cases_eq}
use Rattle.std.proofs.lemmas.Option.{same_Some}
use Rattle.law_queues.proofs.Common.{none_open}
use Rattle.law_controller.proofs.Common.{heads_stay as heads_beside}
use Rattle.law_driver.proofs.Common.{out_way}
use Rattle.law_world.proofs.Common.{none_some, same_queue}
use Rattle.law_common.proofs.Numbers.{same_blocks}
use Rattle.usb_base.specs.declared.endpoints.EpName.{EpName}
use Rattle.mem_runs.specs.Book.{holding, lend_taken}
use Rattle.qh_qtd.specs.declared.qtd.Qtd.{Qtd}
use Rattle.qh_qtd.specs.declared.queue_head.Qh.{Qh}
use Rattle.bus_wire.specs.Bus.{Fixed}
use Rattle.claims_driver.specs.Owners.{runs_of_endpoint, views_of}
use Rattle.claims_driver.specs.Scripts.{receives}
use Rattle.drv_table.specs.Words.{dummy_qtd}
use Rattle.drv_table.specs.declared.content.Command.{Command}
use Rattle.drv_table.specs.declared.content.Command.TheVariants as unfinished
use Rattle.drv_table.specs.declared.content.Endpoint.{Endpoint}
use Rattle.drv_table.specs.declared.rows.DriverRow.{DriverRow}
use Rattle.drv_table.specs.declared.rows.DriverRow.TheVariants as rows
use Rattle.drv_table.specs.declared.rows.Found.{Found}
use Rattle.drv_table.specs.DriverContent.{DriverContent}
use Rattle.drv_table.specs.Rows.{driver_row, after_driver_row}
use Rattle.law_driver.specs.chained_transfers.Asynchronous.{OnlyAsynchronous}
use Rattle.law_driver.specs.queued_drivers.Queued.{queued}
use Rattle.law_driver.specs.queued_drivers.Rows.{QueuesAlike}
use Rattle.law_driver.specs.run_owners.Due.{IsDue}
use Rattle.law_driver.proofs.lemmas.queued_drivers.CommandFields.{name_same}
use Rattle.law_driver.proofs.lemmas.queued_drivers.RowEvents.{idle_told}
use Rattle.law_driver.proofs.lemmas.run_owners.Reasons.{each_event_is_due}
use Rattle.law_driver_ring.specs.fed_queues.Fed.{IsPublished}
use Rattle.law_driver_ring.specs.Published.{partly}
use Rattle.law_driver_ring.specs.fed_queues.Places.{IsThere}
use Rattle.law_driver_ring.proofs.LendOpening.{two_lent, lent_content}
use Rattle.law_driver_ring.proofs.LendOwning.{none_there}
use Rattle.law_structures.specs.lent_structures.Structures.{QueueHead, Element, Buffer, Structure, Structures, StructureSets, put}
use Rattle.law_structures.proofs.lemmas.lent_structures.Names.{put_beside, put_else}
use Rattle.law_ring.specs.Sparing.{HasOverlay, SparesHead}
use Rattle.law_queues.specs.mended_heads.Mended.{IsAtMend, head_at, mended}
use Rattle.law_queues.specs.open_laws.Queues.{IsOpenToLend, open_lent, open_finished, parts_opened}
use Rattle.law_queues.specs.whole_sends.Laws.{IsStopped}
use Rattle.law_world.specs.memory.Mixed.{Standing, IsMixedAt}
use Rattle.law_world.specs.memory.Steps.{IsToldRow, told_parts, AreStill, left_alike, left_by_frames, left_by_bell, left_by_status}
use Rattle.law_world.specs.memory.Steps.{left_by_command}
use Rattle.law_world.specs.memory.Steps.{QueueStep, stays, harvests, returns, lends, stores, mends, begins, opens, unlinks, narrows, goes}
use Rattle.law_world.specs.streams.put_laws.OwedTaken.{EndedAreStopped}
use Rattle.law_world.specs.streams.put_laws.Rings.{BuffersStay}
use Rattle.law_world.specs.streams.put_laws.HeldPuts.{HoldsPuts}
use Rattle.law_world.specs.streams.put_laws.Owed.{Owes}
use Rattle.law_world.proofs.lemmas.memory.HarvestKept.{owners_of, driven_of}
use Rattle.law_world.proofs.lemmas.streams.lemmas.put_laws.Driver.{IsNoMore, no_more_itself, advanced_no_more, quiet_no_more, row_no_more}
use Rattle.law_world.proofs.lemmas.streams.lemmas.put_laws.Same.{idle_there, ends_same, same_owes}
use Rattle.law_world.proofs.lemmas.streams.lemmas.put_laws.TakenStopped.{were_ended}
use Rattle.law_reports.specs.lines.Lined.{Lines}
use Rattle.law_reports.specs.lines.TellingLaws.{LinesAfter}
use Rattle.law_reports.proofs.lemmas.lines.Same.{relinked_head, relinked_put}
use Rattle.law_reports.specs.pipes.Declared.{Sides}
use Rattle.law_reports.specs.pipes.Piped.{Heads, IsPiped}
use Rattle.law_reports.proofs.lemmas.pipes.Leaving.{step_opens}
use Rattle.law_reports.proofs.lemmas.pipes.Names.{WasQueued, was_queued, queue_same}
use Rattle.law_reports.specs.pipes.puts.Paid.{IsSentOut, Pays}
use Rattle.law_reports.proofs.lemmas.pipes.lemmas.puts.Held.{were_same, notes_same}
use Rattle.law_reports.proofs.lemmas.pipes.lemmas.puts.HeldEvents.{driven_holds}
use Rattle.law_reports.proofs.lemmas.pipes.lemmas.puts.Steps.{IsThereOut, opening_beside, mend_apart}
use Rattle.bus_world.specs.World.{World, driver_parts, driver_next}

abbrev pub IsPlain : {s : Standing} {w new : World} {t : Standing} → QueueStep s w new t → Type 0
IsPlain (stays t (left_by_command line cmd fits room is) still) = ⊥
IsPlain (harvests e t found due later row after) = ⊥
IsPlain (returns t y x row r) = ⊥
IsPlain (goes e x d t back is) = ⊥
IsPlain _ = Unit {0}

-- ---- a qTD stands in the place of one

element_buffer : (new : Qtd) (pages : List ℕ) (j : ℕ) (bs : List ℕ) → ◌≡◌ {A = Structure} (Element new) (Buffer pages j bs) → ⊥
element_buffer new pages j bs is = cc

element_head : (new : Qtd) (q : Qh) → ◌≡◌ {A = Structure} (Element new) (QueueHead q) → ⊥
element_head new q is = cc

module _ (parts : StructureSets) (n e : ℕ) (old new : Qtd) (there : parts n e ≡ Some (Element old)) where
  stands_still : (u : Structure) (other : Element old ≡ u → ⊥) (m a : ℕ) → parts m a ≡ Some u → put parts n e (Element new) m a ≡ Some u
  stands_still u other m a here =
      ⊎_elim
      (λ (same : m ≡ n).
      let at : parts n a ≡ Some u = ap (λ (i : ℕ). parts i a) (sym same) ∙ here in
      ap (λ (i : ℕ). put parts n e (Element new) i a) same
      ∙ put_else parts n e (Element new) a (λ (is : a ≡ e).
      other (same_Some (Element old) u (sym there ∙ ap (parts n) (sym is) ∙ at)))
      ∙ at)
      (λ (differs : m ≢ n). ap (λ (part : Structures). part a) (put_beside parts n e (Element new) m differs) ∙ here) (cases_eq m n)

  buffers_still : (m : ℕ) → BuffersStay (parts m) (put parts n e (Element new) m)
  buffers_still m a pages j bs here = stands_still (Buffer pages j bs) (element_buffer old pages j bs) m a here

  head_still : (m : ℕ) → SparesHead parts (put parts n e (Element new)) m
  head_still m q here = record {
    queue = q;
    here = stands_still (QueueHead q) (element_head old q) m m here;
    overlay = record { token = refl; current = refl; offset = refl; endpoint = refl };
  }

heads_itself : (parts : StructureSets) (n : ℕ) → SparesHead parts parts n
heads_itself parts n q here = record {
  queue = q;
  here = here;
  overlay = record { token = refl; current = refl; offset = refl; endpoint = refl };
}

beside_still : (parts now : StructureSets) (n : ℕ) → now n ≡ parts n → BuffersStay (parts n) (now n)
beside_still parts now n same a pages j bs here = ap (λ (part : Structures). part a) same ∙ here

-- a content that tells the same as one that does
like : (d g f : DriverContent) → IsNoMore d g → QueuesAlike g f → IsNoMore d f
like d g f k alike = record {
  alike = record {
    ends = λ e z here. k.alike.ends e z (ap (λ (xs : List Endpoint). slice_get xs e) (sym alike.endpoints) ∙ here);
    transfers = alike.transfers ∙ k.alike.transfers;
    notes = alike.notes ∙ k.alike.notes;
  };
  opens = λ q is. k.opens q (sym alike.command ∙ is);
}

module _ (fixed : Fixed) (x : Sides) (s : Standing) (m : Lines) (h : Heads) (puts : ℕ → List ℕ) (w : World)
    (k : IsPiped fixed x s m h w) (pays : Pays fixed x s m puts w) where
  abbrev d : DriverContent
  d = queued w.driver

  abbrev f : DriverContent
  f = queued (driver_next w).driver

  bulk : OnlyAsynchronous (queued w.driver)
  bulk = k.mixed.turns.turns.asynchronous

  -- ---- the content

  row_so : (row : DriverRow) → IsToldRow w (driver_next w) row → IsNoMore (queued w.driver) (after_driver_row row (told_parts w)).driver
      → IsNoMore (queued w.driver) (queued (driver_next w).driver)
  row_so row is more = subst (IsNoMore d) (sym is.told) more

  -- while a command is unfinished
  module _ (c : Command) (busy : (queued w.driver).command ≡ Some c) where
    due_so : (row : DriverRow) → driver_row (told_parts w) ≡ row → IsDue (told_parts w) row
    due_so row is = subst (IsDue (told_parts w)) is (each_event_is_due (told_parts w))

    no_harvest : (e t : ℕ) (found : Found) → driver_row (told_parts w) ≢ rows.Harvest e t found
    no_harvest e t found is = none_some c (sym (due_so (rows.Harvest e t found) is).idle ∙ busy)

    no_return : (t : ℕ) → driver_row (told_parts w) ≢ rows.ReleaseTransfer t
    no_return t is = none_some c (sym (due_so (rows.ReleaseTransfer t) is).idle ∙ busy)

    no_leave : (e : ℕ) → driver_row (told_parts w) ≢ rows.ReleaseEndpoint e
    no_leave e is = none_some c (sym (due_so (rows.ReleaseEndpoint e) is).idle ∙ busy)

  pub no_more : (t : Standing) (step : QueueStep s w (driver_next w) t) → IsPlain step
      → IsNoMore (queued w.driver) (queued (driver_next w).driver)
  no_more _ (stays t (left_alike alike tells) still) plain = like d d f (no_more_itself d) alike
  no_more _ (stays t (left_by_frames alike of is) still) plain = like d d f (no_more_itself d) alike
  no_more _ (stays t (left_by_bell is) still) plain = row_so rows.RingBell is (quiet_no_more d _ refl refl refl refl)
  no_more _ (stays t (left_by_status heard is) still) plain = row_so (rows.ReadStatus heard) is (quiet_no_more d _ refl refl refl refl)
  no_more _ (stays t (left_by_command line cmd fits room is) still) plain = absurd plain
  no_more _ (harvests e t found due later is after) plain = absurd plain
  no_more _ (returns t y z is r) plain = absurd plain
  no_more _ (lends b words get order out is behind) plain =
      row_so rows.Lend is
      (advanced_no_more d (record (queued w.driver) { book = (lend_taken (holding (queued w.driver).book w.memory)).book }) bulk.command
      (quiet_no_more d _ refl refl refl refl))
  no_more _ (stores b words g is) plain =
      subst (IsNoMore d) (sym is.told)
      (row_no_more (told_parts w) (driver_row (told_parts w)) (each_event_is_due (told_parts w)) bulk
      (no_harvest (unfinished.Publish b words) is.command) (no_return (unfinished.Publish b words) is.command)
      (no_leave (unfinished.Publish b words) is.command))
  no_more _ (mends at is) plain = row_so (rows.Mend _) is (quiet_no_more d _ refl refl refl refl)
  no_more _ (begins at is alike) plain = like d (open_lent d w.memory) f (quiet_no_more d _ refl refl refl refl) alike
  no_more _ (opens at t alike opened) plain =
      like d (open_finished d) f (record {
        alike = record { ends = ends_same d (open_finished d) refl; transfers = refl; notes = refl };
        opens = λ q is. absurd (none_open q is);
      }) alike
  no_more _ (unlinks at is) plain =
      row_so (rows.Store at.before (32 * at.before) _) is (advanced_no_more d d bulk.command (no_more_itself d))
  no_more _ (narrows member near is are fewer) plain = row_so rows.ClearAdvance is (quiet_no_more d _ refl refl refl refl)
  no_more _ (goes e z g t back is) plain = absurd plain

  -- ---- the structures

  opened_beside : (at : IsOpenToLend (queued w.driver) w.memory) (n : ℕ) → n ≢ 32 * at.endpoint.queue
      → parts_opened at s.parts n ≡ s.parts n
  opened_beside at n differs =
      let own : ℕ = 32 * at.endpoint.queue in
      put_beside (put s.parts own own (QueueHead at.queue)) own (32 * at.endpoint.dummy) (Element dummy_qtd) n differs
      ∙ put_beside s.parts own own (QueueHead at.queue) n differs

  -- nothing stood there
  none_lent : (at : IsOpenToLend (queued w.driver) w.memory) (a : ℕ) → s.parts (32 * at.endpoint.queue) a ≡ None
  none_lent at a =
      none_there (views_of d) (views_of (lent_content d w.memory)) (owners_of s w k.mixed).owner at.number
      (runs_of_endpoint at.endpoint) s.parts a
      (two_lent d w.memory at.number (runs_of_endpoint at.endpoint) at.queue at.opened (owners_of s w k.mixed)) (driven_of s w k.mixed)

  no_structure : (u : Structure) → ◌≡◌ {A = Option Structure} None (Some u) → ⊥
  no_structure u is = cc

  abbrev its_at : (b : ℕ) (words : List ℕ) → IsPublished (queued w.driver) s.parts b words → ℕ
  its_at b words g = 32 * g.endpoint.queue

  out_beside : (n : ℕ) (o : IsThereOut w.driver n) (at : IsAtMend (driver_parts w) s.parts s.out) → n ≢ 32 * at.stalled.queue
  out_beside n o at =
      mend_apart s m w k.mixed k.telling n o
      (subst (IsSentOut s) (sym o.at) (pays.outs o.number o.endpoint o.here o.there o.way_is)).whole at

  pub buffers_stay : (t : Standing) (step : QueueStep s w (driver_next w) t) → IsPlain step → (n : ℕ) → IsThereOut w.driver n
      → BuffersStay (s.parts n) (t.parts n)
  buffers_stay _ (stays t none still) plain n o = (still.told.parts n).buffers
  buffers_stay _ (harvests e t found due later is after) plain n o = absurd plain
  buffers_stay _ (returns t y z is r) plain n o = absurd plain
  buffers_stay _ (lends b words get order out is behind) plain n o = λ a pages j bs here. behind.still n a (Buffer pages j bs) here
  buffers_stay _ (stores b words g is) plain n o =
      buffers_still s.parts (32 * g.endpoint.queue) (32 * b) (partly g.qtd (d.made - 1)) (partly g.qtd d.made) g.stored n
  buffers_stay t (mends at is) plain n o =
      beside_still s.parts t.parts n
      (put_beside s.parts (32 * at.stalled.queue) (32 * at.stalled.queue) (QueueHead (mended at.stalled (head_at at))) n
      (out_beside n o at))
  buffers_stay t (begins at is alike) plain n o =
      beside_still s.parts t.parts n (opened_beside at n (opening_beside s m w k.mixed k.telling n o at.endpoint.queue at.command))
  buffers_stay _ (opens at t alike opened) plain n o = (opened.told.parts n).buffers
  buffers_stay _ (unlinks at is) plain n o = (relinked_put s.parts (32 * at.before) at.queue _ at.head n).buffers
  buffers_stay _ (narrows member near is are fewer) plain n o = λ a pages j bs here. here
  buffers_stay _ (goes e z g t back is) plain n o = absurd plain

  -- the queue head of an OUT endpoint that goes on
  pub heads_stay : (t : Standing) (step : QueueStep s w (driver_next w) t) → IsPlain step → (e : ℕ) (z : Endpoint)
      → slice_get (queued w.driver).endpoints e ≡ Some z → z.gone ≡ false → receives z.desc.name.way ≡ false
      → SparesHead s.parts t.parts (32 * z.queue)
  heads_stay _ (stays t none still) plain e z here alive sends = relinked_head s.parts t.parts (32 * z.queue)
      (still.told.parts (32 * z.queue))
  heads_stay _ (harvests u t found due later is after) plain e z here alive sends = absurd plain
  heads_stay _ (returns t y v is r) plain e z here alive sends = absurd plain
  heads_stay _ (lends b words get order out is behind) plain e z here alive sends = behind.heads (32 * z.queue)
  heads_stay _ (stores b words g is) plain e z here alive sends =
      head_still s.parts (32 * g.endpoint.queue) (32 * b) (partly g.qtd (d.made - 1)) (partly g.qtd d.made) g.stored (32 * z.queue)
  heads_stay t (mends at is) plain e z here alive sends =
      let v : WasQueued w.driver.endpoints e z = was_queued w.driver.endpoints e z here in
      let there : IsThere (queued w.driver) z = idle_there d (idle_told w.driver at.idle) z alive in
      let o : IsThereOut w.driver (32 * z.queue) = record {
        number = e;
        endpoint = v.endpoint;
        here = v.here;
        there = subst (IsThere (queued w.driver)) v.is there;
        way_is = ap (λ (name : EpName). name.way) (sym (name_same v.endpoint)) ∙ ap (λ (u : Endpoint). u.desc.name.way) (sym v.is)
            ∙ out_way z.desc.name.way sends;
        at = ap (λ (u : Endpoint). 32 * u.queue) v.is ∙ ap (λ (q : ℕ). 32 * q) (queue_same v.endpoint);
      } in
      heads_beside s.parts t.parts (32 * z.queue)
      (put_beside s.parts (32 * at.stalled.queue) (32 * at.stalled.queue) (QueueHead (mended at.stalled (head_at at))) (32 * z.queue)
      (out_beside (32 * z.queue) o at))
  heads_stay t (begins at is alike) plain e z here alive sends =
      ⊎_elim
      (λ (same : 32 * z.queue ≡ 32 * at.endpoint.queue).
      λ q head. absurd (no_structure (QueueHead q)
      (sym (none_lent at (32 * z.queue)) ∙ ap (λ (i : ℕ). s.parts i (32 * z.queue)) (sym same) ∙ head)))
      (λ (differs : 32 * z.queue ≢ 32 * at.endpoint.queue). heads_beside s.parts t.parts (32 * z.queue)
      (opened_beside at (32 * z.queue) differs))
      (cases_eq (32 * z.queue) (32 * at.endpoint.queue))
  heads_stay _ (opens at t alike opened) plain e z here alive sends = relinked_head s.parts t.parts (32 * z.queue)
      (opened.told.parts (32 * z.queue))
  heads_stay t (unlinks at is) plain e z here alive sends =
      relinked_head s.parts t.parts (32 * z.queue) (relinked_put s.parts (32 * at.before) at.queue _ at.head (32 * z.queue))
  heads_stay t (narrows member near is are fewer) plain e z here alive sends = heads_itself s.parts (32 * z.queue)
  heads_stay _ (goes u v g t back is) plain e z here alive sends = absurd plain

  -- ---- what stands

  pub plain_ended : (t : Standing) (step : QueueStep s w (driver_next w) t) → IsPlain step
      → EndedAreStopped (queued (driver_next w).driver) t.parts
  plain_ended t step plain =
      were_ended d f t.parts (no_more t step plain).alike.ends
      (λ e z cause here alive sends over.
      let was : IsStopped s.parts (32 * z.queue) = pays.ended e z cause here alive sends over in
      let o : HasOverlay t.parts (32 * z.queue) was.0 = heads_stay t step plain e z here alive sends was.0 was.1 in
      (o.queue, o.here, ap (λ v. v.active) o.overlay.token ∙ was.2, ap (λ v. v.halted) o.overlay.token ∙ was.3))

  pub plain_holds : (t : Standing) (step : QueueStep s w (driver_next w) t) → IsPlain step → IsMixedAt t (driver_next w)
      → HoldsPuts (queued (driver_next w).driver) (driver_next w).memory puts
  plain_holds t step plain mixed =
      let more : IsNoMore (queued w.driver) (queued (driver_next w).driver) = no_more t step plain in
      driven_holds fixed x s m puts w k.mixed pays t mixed (buffers_stay t step plain) (were_same d f more.alike.transfers)
      (notes_same d f more.alike.notes)

  -- ---- what is still to be sent

  module _ (t : Standing) (step : QueueStep s w (driver_next w) t) (plain : IsPlain step) (mixed : IsMixedAt t (driver_next w))
      (told : ℕ → List ℕ) where
    owes_so : ((e : ℕ) (z : Endpoint) → slice_get (queued w.driver).endpoints e ≡ Some z → IsThere (queued (driver_next w).driver) z
        → IsThere (queued w.driver) z → told (32 * z.queue) ≡ m.reported (32 * z.queue))
        → ((e : ℕ) (z : Endpoint) → slice_get (queued w.driver).endpoints e ≡ Some z → IsThere (queued (driver_next w).driver) z
        → (queued w.driver).command ≡ Some (unfinished.Open z.queue) → told (32 * z.queue) ≡ [])
        → Owes (queued (driver_next w).driver) (driver_next w).memory puts told
    owes_so met opened =
        let more : IsNoMore (queued w.driver) (queued (driver_next w).driver) = no_more t step plain in
        same_owes d f w.memory (driver_next w).memory puts puts m.reported told k.mixed.turns.turns more.alike (λ i low. refl) pays.held
        (plain_holds t step plain mixed) met opened (λ z is. more.opens z.queue is) pays.owes

  abbrev PlainOwes : (t : Standing) → QueueStep s w (driver_next w) t → Type 0
  PlainOwes t step = IsMixedAt t (driver_next w) → (l : Lines) → LinesAfter step m l
      → Owes (queued (driver_next w).driver) (driver_next w).memory puts l.reported

  quiet_owes : (t : Standing) (step : QueueStep s w (driver_next w) t) → IsPlain step
      → ((q : ℕ) → (queued w.driver).command ≡ Some (unfinished.Open q) → (queued (driver_next w).driver).command
      ≡ Some (unfinished.Open q))
      → IsMixedAt t (driver_next w) → (l : Lines) → l ≡ m → Owes (queued (driver_next w).driver) (driver_next w).memory puts l.reported
  quiet_owes t step plain still mixed l same =
      owes_so t step plain mixed l.reported (λ e z here there before. ap (λ (r : Lines). r.reported (32 * z.queue)) same)
      (λ e z here there opening. absurd (there.linked (still z.queue opening)))

  pub plain_owes : (t : Standing) (step : QueueStep s w (driver_next w) t) → IsPlain step → PlainOwes t step
  plain_owes _ (stays t none still) plain mixed l after =
      quiet_owes t (stays t none still) plain (step_opens s w k.mixed t (stays t none still) tt) mixed l after
  plain_owes _ (harvests e t found due later is out) plain mixed l after = absurd plain
  plain_owes _ (returns t y z is r) plain mixed l after = absurd plain
  plain_owes t (lends b words get order out is behind) plain mixed l after =
      quiet_owes t (lends b words get order out is behind) plain
      (step_opens s w k.mixed t (lends b words get order out is behind) tt) mixed l after
  plain_owes t (stores b words g is) plain mixed l after =
      quiet_owes t (stores b words g is) plain (step_opens s w k.mixed t (stores b words g is) tt) mixed l after
  plain_owes t (mends at is) plain mixed l after =
      quiet_owes t (mends at is) plain (step_opens s w k.mixed t (mends at is) tt) mixed l after
  plain_owes t (begins at is alike) plain mixed l after =
      quiet_owes t (begins at is alike) plain (step_opens s w k.mixed t (begins at is alike) tt) mixed l after
  plain_owes _ (opens at t alike opened) plain mixed l after =
      owes_so t (opens at t alike opened) plain mixed l.reported
      (λ e z here there before.
      after.beside (32 * z.queue) (λ same.
      before.linked (at.command ∙ ap (λ (q : ℕ). Some (unfinished.Open q)) (sym (same_blocks z.queue at.endpoint.queue same)))))
      (λ e z here there opening.
      ap (λ (q : ℕ). l.reported (32 * q)) (same_queue z.queue at.endpoint.queue (sym opening ∙ at.command)) ∙ after.untold)
  plain_owes t (unlinks at is) plain mixed l after =
      quiet_owes t (unlinks at is) plain (step_opens s w k.mixed t (unlinks at is) tt) mixed l after
  plain_owes t (narrows member near is are fewer) plain mixed l after =
      quiet_owes t (narrows member near is are fewer) plain
      (step_opens s w k.mixed t (narrows member near is are fewer) tt) mixed l after
  plain_owes _ (goes e z g t back is) plain mixed l after = absurd plain

  -- ---- where the queues are told the same, and their structures too

  pub record IsQuiet (t : Standing) (l : Lines) : Type 0 where
    pub ended : EndedAreStopped (queued (driver_next w).driver) t.parts
    pub held : HoldsPuts (queued (driver_next w).driver) (driver_next w).memory puts
    pub owes : Owes (queued (driver_next w).driver) (driver_next w).memory puts l.reported

  pub quiet_pays : (t : Standing) (l : Lines) → IsNoMore (queued w.driver) (queued (driver_next w).driver) → AreStill s t
      → IsMixedAt t (driver_next w) → l ≡ m
      → ((q : ℕ) → (queued w.driver).command ≡ Some (unfinished.Open q) → (queued (driver_next w).driver).command
      ≡ Some (unfinished.Open q))
      → IsQuiet t l
  quiet_pays t l more still mixed same opens_still =
      let held : HoldsPuts (queued (driver_next w).driver) (driver_next w).memory puts =
      driven_holds fixed x s m puts w k.mixed pays t mixed (λ n o. (still.told.parts n).buffers) (were_same d f more.alike.transfers)
      (notes_same d f more.alike.notes) in
      record {
        ended = were_ended d f t.parts more.alike.ends
            (λ e z cause here alive sends over.
            let was : IsStopped s.parts (32 * z.queue) = pays.ended e z cause here alive sends over in
            let o : HasOverlay t.parts (32 * z.queue) was.0 =
            relinked_head s.parts t.parts (32 * z.queue) (still.told.parts (32 * z.queue)) was.0 was.1 in
            (o.queue, o.here, ap (λ v. v.active) o.overlay.token ∙ was.2, ap (λ v. v.halted) o.overlay.token ∙ was.3));
        held = held;
        owes = same_owes d f w.memory (driver_next w).memory puts puts m.reported l.reported k.mixed.turns.turns more.alike (λ i low. refl)
            pays.held held (λ e z here there before. ap (λ (r : Lines). r.reported (32 * z.queue)) same)
            (λ e z here there opening. absurd (there.linked (opens_still z.queue opening))) (λ z is. more.opens z.queue is) pays.owes;
      }
