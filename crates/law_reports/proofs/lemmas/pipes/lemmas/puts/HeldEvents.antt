-- The buffers of puts hold their bytes after each event of the controller, and after an event of the driver by which none is given back.
use Rattle.std.proofs.Common.{◌≡◌, ℕ, zero, suc, ◌*◌, ◌/◌, ◌≤◌, false, List, get_or, reverse, slice_get, Option, Some, None, ap}
use Rattle.std.proofs.Common.{refl, sym, subst, ◌∙◌, ⊎_elim, inl, inr, arith}
use Rattle.std.specs.Prelude.{◌⊎◌}
use Rattle.law_queues.proofs.Common.{none_published}
use Rattle.law_driver.proofs.Common.{out_way}
use Rattle.word_mem.specs.Memory.{word_at}
use Rattle.mem_runs.specs.Book.{holding, none_taken}
use Rattle.bus_wire.specs.Bus.{Fixed}
use Rattle.claims_base.specs.Controller.{opening_base}
use Rattle.claims_driver.specs.Owners.{note_in}
use Rattle.claims_driver.specs.Scripts.{receives}
use Rattle.drv_table.specs.declared.content.Command.{Command}
use Rattle.drv_table.specs.declared.content.Command.TheVariants as unfinished
use Rattle.drv_table.specs.declared.content.Endpoint.{Endpoint}
use Rattle.drv_table.specs.declared.content.Sort.TheVariants as sorts
use Rattle.drv_table.specs.declared.content.Transfer.{Transfer}
use Rattle.drv_table.specs.declared.rows.DriverRow.{DriverRow}
use Rattle.drv_table.specs.declared.rows.DriverRow.TheVariants as rows
use Rattle.drv_table.specs.DriverContent.{DriverContent}
use Rattle.drv_table.specs.Harvests.{note_at}
use Rattle.drv_table.specs.Commands.{command_row}
use Rattle.drv_table.specs.Rows.{driver_row, after_driver_row, row_for}
use Rattle.law_controller.proofs.lemmas.aligned_copies.Controlling.{aligned_placed}
use Rattle.law_controller.proofs.lemmas.lent_writes.Controlling.{each_event_of_the_controller_writes_lent_words}
use Rattle.law_driver.specs.chained_transfers.Bulk.{MovesAs}
use Rattle.law_driver.specs.chained_transfers.Chains.{piece_at}
use Rattle.law_driver.specs.queued_drivers.Queued.{queued_command, queued_made, queued}
use Rattle.law_driver.proofs.lemmas.chained_transfers.Holding.{held_alive}
use Rattle.law_driver.proofs.lemmas.queued_drivers.CommandFields.{name_same}
use Rattle.usb_base.specs.declared.endpoints.EpName.{EpName}
use Rattle.law_driver_ring.specs.fed_queues.Places.{IsThere}
use Rattle.law_ring.specs.walk_writes.Writes.{WritesLent}
use Rattle.law_structures.specs.lent_structures.Structures.{QueueHead}
use Rattle.law_descriptors.specs.Both.{parts_now}
use Rattle.law_descriptors.specs.Meeting.{met}
use Rattle.law_descriptors.proofs.Telling.{queue_off}
use Rattle.law_queues.specs.fed_lends.ToLend.{IsToBeLent}
use Rattle.law_world.specs.steps.Streaming.{begins_by, transacts_by, wired}
use Rattle.law_world.proofs.lemmas.steps.StreamTurning.{world_has_row}
use Rattle.law_world.specs.memory.Mixed.{IsUnderWay, Standing, IsMixedAt}
use Rattle.law_world.specs.memory.Steps.{IsMixedControlled, standing_then}
use Rattle.law_world.specs.streams.put_laws.HeldLaws.{IsPublishing}
use Rattle.law_world.specs.streams.put_laws.HeldPuts.{HoldsPuts}
use Rattle.law_world.specs.streams.put_laws.Rings.{BuffersStay}
use Rattle.law_world.proofs.lemmas.memory.HarvestKept.{describes, tells_of}
use Rattle.law_world.proofs.lemmas.streams.lemmas.put_laws.Beside.{put_sends, Waits, IsOut, waits_or_out, waiting_held}
use Rattle.law_world.proofs.lemmas.streams.lemmas.put_laws.HeldAlike.{note_itself, held_alike, alike_holds, WereThere, SameNotes}
use Rattle.law_world.proofs.lemmas.streams.lemmas.put_laws.Rows.{runs_words}
use Rattle.law_world.proofs.lemmas.streams.lemmas.put_laws.Same.{there_or}
use Rattle.law_reports.specs.lines.Lined.{Lines}
use Rattle.law_reports.specs.pipes.Declared.{Sides}
use Rattle.law_reports.specs.pipes.Piped.{Heads, IsPiped}
use Rattle.law_reports.specs.pipes.puts.Paid.{IsSentOut, Pays}
use Rattle.law_reports.proofs.lemmas.pipes.Controlled.{c}
use Rattle.law_reports.proofs.lemmas.pipes.Names.{WasQueued, was_queued, queue_same}
use Rattle.law_reports.proofs.lemmas.pipes.lemmas.puts.Buffers.{both_leave_buffers}
use Rattle.law_reports.proofs.lemmas.pipes.lemmas.puts.Held.{IsLentOut, forward_bytes, forward_holds}
use Rattle.law_reports.proofs.lemmas.pipes.lemmas.puts.Steps.{IsThereOut, part_at}
use Rattle.bus_world.specs.World.{World, driver_parts, driver_next, controller_next, controller_parts}

-- ---- a row that lends changes no word

pub lend_words : (w : World) → driver_row (driver_parts w) ≡ rows.Lend → (at : ℕ) → word_at (driver_next w).memory at ≡ word_at w.memory at
lend_words w is at =
    let p = driver_parts w in
    ap (λ (row : DriverRow). word_at (after_driver_row row p).memory at) is
    ∙ ap (λ (ws : List ℕ). get_or ws (at / 4) 0) (runs_words (none_taken (holding p.driver.book p.memory)) (reverse p.driver.book.taken))

publish_open : (b q : ℕ) (words : List ℕ)
    → ◌≡◌ {A = Option Command} (Some (unfinished.Open q)) (Some (unfinished.Publish b words)) → ⊥
publish_open b q words is = cc

publish_unlink : (b e a link : ℕ) (words : List ℕ)
    → ◌≡◌ {A = Option Command} (Some (unfinished.Unlink e a link)) (Some (unfinished.Publish b words)) → ⊥
publish_unlink b e a link words is = cc

-- a put is to be lent next, or what is published is lent
pub lends_or_out : (w : World) → (driver_row (driver_parts w) ≡ rows.Lend) ⊎ IsLentOut (queued w.driver)
lends_or_out w = by w.driver.command refl w.driver.made refl
  where
    told : (o : Option Command) → w.driver.command ≡ o → (queued w.driver).command ≡ queued_command w.driver.endpoints o
    told o is = ap (queued_command w.driver.endpoints) is

    by : (o : Option Command) → w.driver.command ≡ o → (made : ℕ) → w.driver.made ≡ made
        → (driver_row (driver_parts w) ≡ rows.Lend) ⊎ IsLentOut (queued w.driver)
    by None is made at = inr (λ b words publish. absurd (none_published b words (sym (told None is) ∙ publish)))
    by (Some (unfinished.Publish c ws)) is zero at =
        inl (ap (row_for (driver_parts w)) is ∙ ap (command_row (unfinished.Publish c ws)) at)
    by (Some (unfinished.Publish c ws)) is (suc made) at =
        inr (λ b words publish.
        let same : (queued w.driver).made ≡ w.driver.made = ap (λ (o : Option Command). queued_made o w.driver.made) is in
        omega (arith, same, at))
    by (Some (unfinished.Open q)) is made at =
        inr (λ b words publish. absurd (publish_open b q words (sym (told (Some (unfinished.Open q)) is) ∙ publish)))
    by (Some (unfinished.Unlink e a link)) is made at =
        inr (λ b words publish. absurd (publish_unlink b e a link words (sym (told (Some (unfinished.Unlink e a link)) is) ∙ publish)))
    by (Some unfinished.Chain) is made at =
        inr (λ b words publish. absurd (publish_open b _ words (sym (told (Some unfinished.Chain) is) ∙ publish)))
    by (Some (unfinished.Iso e t count)) is made at =
        inr (λ b words publish. absurd (none_published b words (sym (told (Some (unfinished.Iso e t count)) is) ∙ publish)))
    by (Some (unfinished.Unchain e)) is made at =
        inr (λ b words publish. absurd (none_published b words (sym (told (Some (unfinished.Unchain e)) is) ∙ publish)))

module _ (fixed : Fixed) (x : Sides) (s : Standing) (m : Lines) (puts : ℕ → List ℕ) (w : World) (mixed : IsMixedAt s w)
    (pays : Pays fixed x s m puts w) where
  abbrev d : DriverContent
  d = queued w.driver

  -- ---- whose buffers these are

  -- a put is one of an OUT endpoint that is there
  pub put_head : (t : ℕ) (y : Transfer) → slice_get (queued w.driver).transfers t ≡ Some y → y.sort ≡ sorts.Put → y.released ≡ false
      → (moves : MovesAs (queued w.driver) y) → IsThereOut w.driver (32 * moves.endpoint.queue)
  put_head t y there put held moves =
      let z : Endpoint = moves.endpoint in
      let v : WasQueued w.driver.endpoints y.endpoint z = was_queued w.driver.endpoints y.endpoint z moves.here in
      let alive : z.gone ≡ false = held_alive (queued w.driver) t y z mixed.turns.turns.turns there held moves.here in
      let sends : receives z.desc.name.way ≡ false = put_sends z.desc.name.way (sym moves.sort ∙ put) in
      let there_so : IsThere (queued w.driver) z =
      ⊎_elim
      (λ (opens : (queued w.driver).command ≡ Some (unfinished.Open z.queue)).
      absurd (pays.owes.opening y.endpoint t z y moves.here alive opens there refl))
      (λ (is : IsThere (queued w.driver) z). is) (there_or (queued w.driver) z alive) in
      record {
        number = y.endpoint;
        endpoint = v.endpoint;
        here = v.here;
        there = subst (IsThere (queued w.driver)) v.is there_so;
        way_is = ap (λ (name : EpName). name.way) (sym (name_same v.endpoint)) ∙ ap (λ (u : Endpoint). u.desc.name.way) (sym v.is)
            ∙ out_way z.desc.name.way sends;
        at = ap (λ (u : Endpoint). 32 * u.queue) v.is ∙ ap (λ (q : ℕ). 32 * q) (queue_same v.endpoint);
      }

  pub sent_at : (n : ℕ) → IsThereOut w.driver n → IsSentOut s n
  sent_at n is = subst (IsSentOut s) (sym is.at) (pays.outs is.number is.endpoint is.here is.there is.way_is)

  -- ---- an event of the driver

  -- where no buffer of these changes, but while a put is lent
  module _ (t : Standing) (after : IsMixedAt t (driver_next w))
      (stay : (n : ℕ) → IsThereOut w.driver n → BuffersStay (s.parts n) (t.parts n))
      (were : WereThere (queued w.driver).transfers (queued (driver_next w).driver).transfers)
      (notes : SameNotes (queued w.driver).notes (queued (driver_next w).driver).notes) where
    pub driven_holds : HoldsPuts (queued (driver_next w).driver) (driver_next w).memory puts
    driven_holds =
        let f : DriverContent = queued (driver_next w).driver in
        ⊎_elim
        (λ (lends : driver_row (driver_parts w) ≡ rows.Lend).
        alike_holds d f w.memory (driver_next w).memory puts were notes (lend_words w lends) pays.held)
        (λ (out : IsLentOut (queued w.driver)).
        forward_holds d f w.memory (driver_next w).memory s.parts t.parts puts mixed.turns.turns mixed.queues.queues.fed
        (tells_of s w mixed) (tells_of t (driver_next w) after)
        (λ i y there put held moves. stay (32 * moves.endpoint.queue) (put_head i y there put held moves)) out
        (λ i y here put held. were i y here) notes pays.held)
        (lends_or_out w)

  -- ---- what is to be lent

  pub publishing : IsPublishing (queued w.driver) w.memory
  publishing = by w.driver.command refl mixed.under_way
    where
      told : (o : Option Command) → w.driver.command ≡ o → (queued w.driver).command ≡ queued_command w.driver.endpoints o
      told o is = ap (queued_command w.driver.endpoints) is

      one_block : (b e : ℕ) (ws vs : List ℕ)
          → ◌≡◌ {A = Option Command} (Some (unfinished.Publish b ws)) (Some (unfinished.Publish e vs)) → b ≡ e
      one_block b e ws vs is = cc

      one_words : (b e : ℕ) (ws vs : List ℕ)
          → ◌≡◌ {A = Option Command} (Some (unfinished.Publish b ws)) (Some (unfinished.Publish e vs)) → ws ≡ vs
      one_words b e ws vs is = cc

      by : (o : Option Command) → w.driver.command ≡ o → IsUnderWay w.driver w.memory s.member s.recent s.parts o
          → IsPublishing (queued w.driver) w.memory
      by None is u b words publish = absurd (none_published b words (sym (told None is) ∙ publish))
      by (Some (unfinished.Publish e ws)) is u b words publish =
          let own = sym (told (Some (unfinished.Publish e ws)) is) ∙ publish in
          ⊎_elim
          (λ (lend : IsToBeLent (queued w.driver) w.memory e ws).
          inl (subst (λ (a : ℕ). IsToBeLent (queued w.driver) w.memory a words) (one_block e b ws words own)
          (subst (λ (vs : List ℕ). IsToBeLent (queued w.driver) w.memory e vs) (one_words e b ws words own) lend)))
          (λ (made : 1 ≤ w.driver.made).
          let same : (queued w.driver).made ≡ w.driver.made = ap (λ (q : Option Command). queued_made q w.driver.made) is in
          inr (omega (arith, same, made))) u
      by (Some (unfinished.Open q)) is u b words publish =
          absurd (publish_open b q words (sym (told (Some (unfinished.Open q)) is) ∙ publish))
      by (Some (unfinished.Unlink e a link)) is u b words publish =
          absurd (publish_unlink b e a link words (sym (told (Some (unfinished.Unlink e a link)) is) ∙ publish))
      by (Some unfinished.Chain) is u b words publish =
          absurd (publish_open b _ words (sym (told (Some unfinished.Chain) is) ∙ publish))
      by (Some (unfinished.Iso e t count)) is u b words publish =
          absurd (none_published b words (sym (told (Some (unfinished.Iso e t count)) is) ∙ publish))
      by (Some (unfinished.Unchain e)) is u b words publish =
          absurd (none_published b words (sym (told (Some (unfinished.Unchain e)) is) ∙ publish))

-- ---- an event of the controller

module _ (fixed : Fixed) (x : Sides) (s : Standing) (m : Lines) (h : Heads) (puts : ℕ → List ℕ) (w : World)
    (k : IsPiped fixed x s m h w) (pays : Pays fixed x s m puts w) where
  abbrev new : World
  new = controller_next fixed w

  abbrev event : IsMixedControlled fixed s w
  event = c fixed x s m h w k

  writes : WritesLent w.memory (controller_next fixed w).memory
  writes =
      each_event_of_the_controller_writes_lent_words begins_by transacts_by (controller_parts w) (wired fixed w) (controller_parts new)
      (wired fixed new)
      (aligned_placed (controller_parts w) k.mixed.now.framed.aligned) (world_has_row fixed w)

  stay : (n : ℕ) → IsThereOut w.driver n → BuffersStay (s.parts n) (parts_now s.descs s.parts (c fixed x s m h w k).event.now n)
  stay n is =
      let part = part_at s m w k.mixed k.telling n is in
      both_leave_buffers begins_by transacts_by opening_base s.member (met w.driver s.recent) s.descs s.parts s.hand s.frame
      (controller_parts w) (wired fixed w) (wired fixed (controller_next fixed w)) event.event.now event.event.later event.event.frame_later
      k.mixed.now.framed.runs event.event.effect n
      (queue_off w.driver s.descs s.parts (describes s w k.mixed) n n (QueueHead part.queue) part.here) part
      (sent_at fixed x s m puts w k.mixed pays n is).outs

  pub controlled_holds : HoldsPuts (queued w.driver) (controller_next fixed w).memory puts
  controlled_holds = record {
    each = λ t y there put held.
        let d : DriverContent = queued w.driver in
        ⊎_elim
        (λ (v : Waits (queued w.driver) w.memory t).
        waiting_held d w.memory new.memory t y v.0 v.1 v.2 v.3 there put k.mixed.now.framed.place.sound.stands writes.words)
        (λ (out : IsOut (queued w.driver) t).
        held_alike w.memory new.memory d.notes d.notes y.first y.qtds
        (λ i below. note_itself (note_at d.notes (piece_at (note_in d.notes) y.first i)))
        (λ i below.
        forward_bytes d d w.memory new.memory s.parts (parts_now s.descs s.parts event.event.now)
        puts k.mixed.turns.turns k.mixed.queues.queues.fed (tells_of s w k.mixed)
        (tells_of (standing_then s w (c fixed x s m h w k).event) (controller_next fixed w) event.mixed)
        (λ u z is_there is_put is_held moves.
        stay (32 * moves.endpoint.queue) (put_head fixed x s m puts w k.mixed pays u z is_there is_put is_held moves))
        t i y out there put held below))
        (waits_or_out d w.memory t d.command refl (publishing fixed x s m puts w k.mixed pays))
        ∙ pays.held.each t y there put held;
  }
