-- A word of the first qTD of a transfer is stored, in a world with endpoints of every kind.
use Rattle.std.proofs.Common.{◌≡◌, ◌≢◌, ℕ, suc, ◌-◌, ◌*◌, ◌<◌, ◌≤◌, Bool, if◌then◌else◌, List, Option, Some, None, ap, refl, sym, subst, ◌∙◌, ⊎_elim, inr, arith}
use Rattle.std.proofs.lemmas.Bool.{cases_eq, cases_lt, lt-ltb, false≢true}
use Rattle.law_world.proofs.Common.{none_some}
use Rattle.word_mem.specs.Memory.{Mem}
use Rattle.qh_qtd.specs.declared.qtd.Qtd.{Qtd}
use Rattle.drv_table.specs.declared.content.Command.{Command}
use Rattle.drv_table.specs.declared.content.Command.TheVariants as unfinished
use Rattle.drv_table.specs.declared.rows.DriverRow.{DriverRow}
use Rattle.drv_table.specs.DriverContent.{DriverContent}
use Rattle.drv_table.specs.Parts.{Parts as DriverParts}
use Rattle.drv_table.specs.Commands.{links}
use Rattle.drv_table.specs.Rows.{driver_row, after_driver_row}
use Rattle.law_driver.specs.run_owners.Due.{IsDue, IsNextOf, IsLinkOf}
use Rattle.claims_driver.specs.Leaving.{HasOwners}
use Rattle.law_structures.specs.lent_structures.Structures.{Element, Structures, StructureSets, with_structure}
use Rattle.law_structures.proofs.lemmas.lent_structures.Names.{put_here, put_beside}
use Rattle.claims_base.specs.Controller.{opening_base}
use Rattle.law_driver_ring.specs.Published.{partly, publish_row, IsPublishable}
use Rattle.law_queues.specs.publish_laws.Publishing.{IsBeingPublished}
use Rattle.law_queues.proofs.lemmas.publish_laws.Rows.{counted, row_is, after_is}
use Rattle.law_queues.specs.publish_laws.Stores.{parts_then, out_then, next_of}
use Rattle.law_controller.specs.controlled_streams.Storing.{stored_parts}
use Rattle.law_frames.specs.Met.{IsQueuePart}
use Rattle.law_driver_ring.specs.fed_queues.Fed.{IsPublished}
use Rattle.law_driver_ring.specs.fed_queues.Places.{AreMet}
use Rattle.law_driver_ring.proofs.lemmas.fed_queues.Places.{same_ends, met_stays}
use Rattle.law_descriptors.specs.queue_events.Events.{PartsStand}
use Rattle.law_world.specs.memory.framed_memory.Now.{IsFramedNow, FramedNext}
use Rattle.law_world.proofs.lemmas.memory.lemmas.framed_memory.Publishing.{publish_keeps_now}
use Rattle.law_driver.specs.queued_drivers.Queued.{queued, queued_parts, queued_command, queued_made}
use Rattle.law_driver.specs.queued_drivers.Rows.{IsToldAlike}
use Rattle.law_driver.proofs.lemmas.queued_drivers.RowOwners.{queued_has_owners, queued_are_lent}
use Rattle.bus_world.specs.World.{World, driver_parts, controller_parts, driver_next}
use Rattle.law_world.specs.memory.Mixed.{QueuesGoOn, IsUnderWay, Standing, IsMixedAt}
use Rattle.law_world.specs.memory.Steps.{QueueStep, stores, IsMixedNext}
use Rattle.law_world.proofs.lemmas.memory.Next.{mixed_next}
use Rattle.law_world.proofs.lemmas.memory.PublishStores.{IsStoring, published_by, made_is, below, being, by_store, stands_by, met_now, met_still}
use Rattle.law_world.proofs.lemmas.memory.PublishControls.{controls_then}
use Rattle.law_world.proofs.lemmas.memory.PublishTails.{tails_then}
use Rattle.law_world.proofs.lemmas.memory.PublishParts.{part_published}
use Rattle.law_world.proofs.lemmas.memory.PublishLent.{not_described}
use Rattle.law_world.proofs.lemmas.memory.RingBasis.{due_is, row_alike}

same_command : (a b : Command) → ◌≡◌ {A = Option Command} (Some a) (Some b) → a ≡ b
same_command a b same = cc

-- ---- what stands before it

-- which word of which qTD comes next
pub record IsPublishPlace (w : World) (parts : StructureSets) (b : ℕ) : Type 0 where
  pub owner : ℕ
  pub qtd : Qtd
  pub number : ℕ
  pub low : number < 8
  pub here : parts owner (32 * b) ≡ Some (Element (partly qtd number))
  pub row : driver_row (driver_parts w) ≡ publish_row b qtd number

module _ (s : Standing) (w : World) (b : ℕ) (words : List ℕ) (k : IsMixedAt s w) (command : w.driver.command ≡ Some (unfinished.Publish b words)) (made : 1 ≤ w.driver.made) where
  abbrev p : DriverParts
  p = driver_parts w

  abbrev q : DriverParts
  q = queued_parts (driver_parts w)

  owners : HasOwners w.driver
  owners = k.now.framed.place.sound.owners

  told_made : (queued w.driver).made ≡ w.driver.made
  told_made = ap (λ (c : Option Command). queued_made c w.driver.made) command

  abbrev at : IsStoring (queued w.driver) s.near s.streams s.ends s.parts s.order s.out b words
  at = record {
    command = ap (queued_command w.driver.endpoints) command;
    made = subst (λ (j : ℕ). 1 ≤ j) (sym told_made) made;
    owners = queued_has_owners w.driver owners k.turns;
    lent = queued_are_lent w.driver k.now.framed.place.lent (λ e t count is. absurd (not_described w.driver b words e t count command is));
    turns = k.turns.turns;
    queues = k.queues.queues;
  }

  abbrev g : IsPublished (queued w.driver) s.parts b words
  g = published_by at

  abbrev n : ℕ
  n = 32 * g.endpoint.queue

  abbrev i : ℕ
  i = (queued w.driver).made - 1

  abbrev new : Qtd
  new = partly g.qtd (queued w.driver).made

  abbrev now : StructureSets
  now = parts_then g

  abbrev later : ℕ → List ℕ
  later = out_then s.out (next_of q).driver g

  made_now : (queued w.driver).made ≡ suc i
  made_now = made_is q s.near s.streams s.ends s.parts s.order s.out b words at

  low_now : i < 8
  low_now = below q s.near s.streams s.ends s.parts s.order s.out b words at

  may : IsPublishable (s.parts n) (32 * b) g.qtd
  may = g.may at.made

  -- ---- the row

  being_here : IsBeingPublished w.driver s.member s.parts n b g.qtd i
  being_here = record {
    command = command ∙ ap (λ (ws : List ℕ). Some (unfinished.Publish b ws)) g.are;
    made = sym told_made ∙ made_now;
    below = low_now;
    here = g.stored;
    range = g.range;
    may = λ on. may;
  }

  row_here : driver_row p ≡ publish_row b g.qtd i
  row_here = row_is p s.member s.parts n b g.qtd i being_here

  pub publish_place : IsPublishPlace w s.parts b
  publish_place = record { owner = n; qtd = g.qtd; number = i; low = low_now; here = g.stored; row = row_here }

  row_of_queues : driver_row q ≡ publish_row b g.qtd i
  row_of_queues = row_is q s.near s.parts n b g.qtd i (being q s.near s.streams s.ends s.parts s.order s.out b words at)

  due : IsDue p (publish_row b g.qtd i)
  due = due_is s w k (publish_row b g.qtd i) row_here

  no_links : IsLinkOf p (publish_row b g.qtd i) → ⊥
  no_links link = false≢true (ap links (same_command (unfinished.Publish b words) link.command (sym command ∙ link.unfinished)) ∙ link.links)

  its_own : IsNextOf p (publish_row b g.qtd i)
  its_own = ⊎_elim (λ (own : IsNextOf p (publish_row b g.qtd i)). own) (λ (link : IsLinkOf p (publish_row b g.qtd i)). absurd (no_links link)) due

  alike : IsToldAlike p (publish_row b g.qtd i)
  alike = row_alike s w k (publish_row b g.qtd i) row_here its_own

  -- its queues tell the same store
  same : queued (driver_next w).driver ≡ (next_of q).driver
  same =
      ap (λ (row : DriverRow). queued (after_driver_row row p).driver) row_here ∙ ap (λ (r : DriverParts). r.driver) alike.same
      ∙ ap (λ (row : DriverRow). (after_driver_row row q).driver) (sym row_of_queues)

  -- ---- memory

  framed_then : IsFramedNow opening_base s.member s.recent s.descs now s.hand s.frame (controller_parts (driver_next w)) (driver_next w).driver
  framed_then =
      subst (λ (j : ℕ). FramedNext opening_base s.member s.recent s.descs (stored_parts s.parts n (32 * b) (partly g.qtd j)) s.hand s.frame (controller_parts w) w.driver) (sym made_now)
      (publish_keeps_now opening_base s.member s.recent s.descs s.parts s.hand s.frame (controller_parts w) w.driver n b words g.qtd i k.now command row_here low_now g.stored g.range (λ on. may) (λ on. may))

  -- ---- the queues

  own_part : IsQueuePart n (s.parts n)
  own_part = k.queues.sound g.transfer.endpoint g.endpoint g.here (met_now q s.near s.streams s.ends s.parts s.order s.out b words at)

  part_now : IsQueuePart n (now n)
  part_now =
      subst (IsQueuePart n) (sym (put_here s.parts n (32 * b) (Element new)))
      (subst (λ (j : ℕ). IsQueuePart n (with_structure (s.parts n) (32 * b) (Element (partly g.qtd j)))) (sym made_now) (part_published n (s.parts n) (32 * b) g.qtd i low_now g.stored g.range may own_part))

  part_then : (m : ℕ) → IsQueuePart m (s.parts m) → IsQueuePart m (now m)
  part_then m was =
      ⊎_elim (λ (own : m ≡ n). subst (λ (j : ℕ). IsQueuePart j (now j)) (sym own) part_now)
      (λ (differs : m ≢ n). subst (λ (part : Structures). IsQueuePart m part) (sym (put_beside s.parts n (32 * b) (Element new) m differs)) was) (cases_eq m n)

  sound_then : PartsStand (next_of q).driver now
  sound_then =
      by_store q s.near s.streams s.ends s.parts s.order s.out b words at (λ (f : DriverContent). PartsStand f now)
      (λ low e x here meets. part_then (32 * x.queue) (k.queues.sound e x here (met_still q s.near s.streams s.ends s.parts s.order s.out b words at e x meets.there.kept meets.near)))
      (λ eighth e x here meets. part_then (32 * x.queue) (k.queues.sound e x here (met_still q s.near s.streams s.ends s.parts s.order s.out b words at e x meets.there.kept meets.near)))

  go_on : QueuesGoOn (next_of q).driver s.near s.streams s.ends now s.order later
  go_on =
      let stands = stands_by q s.near s.streams s.ends s.parts s.order s.out b words at in
      record {
        queues = stands;
        sound = sound_then;
        tails = tails_then q s.near s.streams s.ends s.parts s.order s.out b words at stands part_now k.queues.tails;
        controls = controls_then q s.near s.streams s.ends s.parts s.order s.out b words at k.queues.controls;
      }

  -- ---- the driver's content

  abbrev more : DriverContent
  more = record w.driver { made = suc w.driver.made }

  abbrev done : DriverContent
  done = record w.driver { command = None; made = 0 }

  driver_is : (driver_next w).driver ≡ counted w.driver w.driver.made
  driver_is = after_is p s.member s.parts n b g.qtd i being_here ∙ ap (counted w.driver) (sym (sym told_made ∙ made_now))

  each_store : (P : DriverContent → Type 0) → P more → P done → P (driver_next w).driver
  each_store P low_one last_one =
      subst P (sym driver_is)
      (⊎_elim
      (λ (low : suc w.driver.made < 9).
      subst (λ (x : Bool). P (if x then more else done)) (sym (lt-ltb (suc w.driver.made) 9 low)) low_one)
      (λ (over : 9 ≤ suc w.driver.made).
      let few = g.few in
      let is = told_made in
      let eighth : w.driver.made ≡ 8 = omega (arith, few, is, over) in
      subst (λ (j : ℕ). P (counted w.driver j)) (sym eighth) last_one) (cases_lt (suc w.driver.made) 9))

  publish_not_open : (c : ℕ) → ◌≡◌ {A = Option Command} (Some (unfinished.Publish b words)) (Some (unfinished.Open c)) → ⊥
  publish_not_open c same_one = cc

  ring_then : AreMet (driver_next w).driver s.member
  ring_then =
      each_store (λ (f : DriverContent). AreMet f s.member)
      (met_stays w.driver more s.member
      (same_ends w.driver more (record { waiting = refl; rung = refl; opens = λ c is. is }) (record { waiting = refl; rung = refl; opens = λ c is. is }) refl) k.ring)
      (met_stays w.driver done s.member
      (same_ends w.driver done (record { waiting = refl; rung = refl; opens = λ c is. absurd (none_some (unfinished.Open c) is) })
      (record { waiting = refl; rung = refl; opens = λ c is. absurd (publish_not_open c (sym command ∙ is)) }) refl) k.ring)

  under_way_then : (m : Mem) → IsUnderWay (driver_next w).driver m s.member s.recent now (driver_next w).driver.command
  under_way_then m =
      each_store (λ (f : DriverContent). IsUnderWay f m s.member s.recent now f.command)
      (subst (λ (c : Option Command). IsUnderWay more m s.member s.recent now c) (sym command) (inr (let one : 1 ≤ suc w.driver.made = omega arith in one))) tt

  -- ---- the whole

  abbrev after_store : Standing
  after_store = record s { parts = now; out = later }

  its_step : QueueStep s w (driver_next w) after_store
  its_step = stores b words g (record { command = at.command; made = at.made; next = row_here; told = same })

  pub publish_stored : IsMixedNext s w (driver_next w)
  publish_stored =
      mixed_next s w k after_store its_step framed_then ring_then (subst (λ (f : DriverContent). QueuesGoOn f s.near s.streams s.ends now s.order later) (sym same) go_on)
      (under_way_then (driver_next w).memory)
