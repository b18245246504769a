-- An open of an interrupt endpoint, from its acceptance to its last store.
use Rattle.std.proofs.Common.{◌≡◌, ℕ, suc, ◌+◌, ◌<◌, Bool, true, false, ◌&&◌, cond, List, [], length, Option, Some, None, nat_le, nat_lt, unwrap_or, if◌then◌else◌, ap, refl, sym, subst, ◌∙◌, ⊎_elim, inl, inr, arith}
use Rattle.std.specs.Prelude.{is_none, is_some}
use Rattle.law_world.proofs.Common2.{done_none}
use Rattle.law_driver_ring.proofs.Common.{speed_small}
use Rattle.law_descriptors.proofs.Common.{either}
use Rattle.usb_base.specs.declared.packets.Ask.{Ask}
use Rattle.usb_base.specs.declared.packets.Reply.{Reply}
use Rattle.word_mem.specs.Memory.{Mem}
use Rattle.mem_runs.specs.Book.{holding, lend_taken}
use Rattle.drv_periodic.specs.declared.work.Work.{Work}
use Rattle.drv_periodic.specs.declared.work.Store.{Store}
use Rattle.drv_periodic.specs.Periodic.{is_more, members_after, next_store, after_work, after_store}
use Rattle.drv_periodic_table.specs.Periodic.{PeriodicContent}
use Rattle.drv_periodic_table.specs.Linking.{with_first, begun_next}
use Rattle.drv_table.specs.declared.content.Command.{Command}
use Rattle.drv_table.specs.declared.content.Command.TheVariants as unfinished
use Rattle.drv_table.specs.declared.rows.DriverRow.{DriverRow}
use Rattle.drv_table.specs.declared.rows.DriverRow.TheVariants as rows
use Rattle.drv_table.specs.DriverContent.{DriverContent}
use Rattle.drv_table.specs.Words.{is_high}
use Rattle.drv_table.specs.Accepting.{Offered}
use Rattle.drv_table.specs.CancelOffers.{endpoint_members, with_cancel}
use Rattle.drv_table.specs.Parts.{Parts}
use Rattle.drv_table.specs.Kinds.{is_iso}
use Rattle.drv_table.specs.Commands.{events_of, links, removes_members, no_command, list_after, finished, or_finished, linked_on, advanced_by, advance, link_row, command_row}
use Rattle.drv_table.specs.FrameChoice.{framed_by, linked_by}
use Rattle.drv_table.specs.Rows.{row_for, driver_row, after_driver_row}
use Rattle.law_driver.specs.run_owners.Accepts.{Chains, Accepts, opens, chains, places, transfers, describes, cancels, unchains, Unchains}
use Rattle.law_driver.specs.run_owners.Due.{IsDue, IsLinkOf}
use Rattle.law_driver.proofs.lemmas.run_owners.Commands.{each_command_has_its_reason}
use Rattle.law_driver.proofs.lemmas.run_owners.Reasons.{each_event_is_due}
use Rattle.hc_core.specs.Controller.{Content}
use Rattle.law_structures.specs.lent_structures.Structures.{StructureSets}
use Rattle.law_ring.specs.Hand.{Hand}
use Rattle.claims_base.specs.Controller.{Base}
use Rattle.law_driver.specs.listed_members.Members.{IsUnderWay}
use Rattle.law_queues.specs.shared_memory.Shared.{parts_of, next_parts}
use Rattle.law_frames.specs.Met.{Kind}
use Rattle.law_frames.specs.FrameHand.{FrameHand}
use Rattle.law_descriptors.specs.Both.{parts_now}
use Rattle.law_descriptors.specs.ListRows.{leaves_now, recent_with}
use Rattle.law_footprints.proofs.Fields.{command_stays}
use Rattle.law_world.specs.memory.framed_memory.Now.{IsFramedNow, reads_alone}
use Rattle.law_world.specs.memory.framed_memory.NowRows.{FramedLinked}
use Rattle.law_world.proofs.lemmas.memory.lemmas.framed_memory.Now.{registers_keep_now}
use Rattle.law_world.proofs.lemmas.memory.lemmas.framed_memory.NowRows.{link_keeps_now}
use Rattle.law_world.specs.memory.framed_memory.Chained.{IsChainReady, chained_parts, IsChainLent, ChainStands, NewChainStands, AcceptedChainStands, OtherChainStands, ChainStandsBeside, ChainGoesOn, lends, stores, rests, ChainGoesOnNow, ChainedHeadIsInRange}
use Rattle.law_world.proofs.lemmas.memory.lemmas.framed_memory.ChainedLent.{chain_becomes_ready, chain_ready_stays, row_is, framed, driver_begun, lent_then, chain_comes_first, chain_stays_lent, chain_links_on}

-- ---- whether such an open is unfinished

abbrev IsChaining : DriverContent → Type 0
IsChaining d = d.command ≡ Some unfinished.Chain

none_chains : (d : DriverContent) → d.command ≡ None → IsChaining d → ⊥
none_chains d none is = let no : ◌≡◌ {A = Option Command} None (Some unfinished.Chain) = sym none ∙ is in cc

other_chains : (d : DriverContent) (c : Command) → d.command ≡ Some c → (Some c ≡ Some unfinished.Chain → ⊥) → IsChaining d → ⊥
other_chains d c is other chaining = other (sym is ∙ chaining)

-- an event of a command begins none
abbrev NoChain : DriverContent → Type 0
NoChain d = IsChaining d → ⊥

command_goes : (d : DriverContent) (o : Option Command) → NoChain d → NoChain (advanced_by d o)
command_goes d None none = none
command_goes d (Some c) none =
    either NoChain (record d { made = suc d.made }) (cond (links c) (linked_on d c) (finished d c)) (nat_lt (suc d.made) (length (events_of c))) still
    (either NoChain (linked_on d c) (finished d c) (links c) linked (none_chains (finished d c) (done_none d c)))
  where
    g : DriverContent
    g = record d { made = length (events_of c); periodic = begun_next (removes_members c) (record d.periodic { list = list_after d c }) }

    still : NoChain (record d { made = suc d.made })
    still is = none is

    goes : NoChain g
    goes is = none is

    linked : NoChain (linked_on d c)
    linked = either NoChain (finished g c) g (is_none g.periodic.list.work) (none_chains (finished g c) (done_none g c)) goes

frames_goes : (d : DriverContent) (n : ℕ) (o : Option Command) → NoChain d → NoChain (framed_by d n o)
frames_goes d n (Some (unfinished.Iso e t count)) none = command_goes _ d.command none
frames_goes d n _ none = none

same_command : (d f : DriverContent) → f.command ≡ d.command → NoChain d → NoChain f
same_command d f same none is = none (sym same ∙ is)

row_goes : (row : DriverRow) (p : Parts) → IsDue p row → NoChain p.driver → NoChain (after_driver_row row p).driver
row_goes rows.Lend p due none =
    command_goes (record p.driver { book = (lend_taken (holding p.driver.book p.memory)).book }) p.driver.command (same_command p.driver (record p.driver { book = (lend_taken (holding p.driver.book p.memory)).book }) refl none)
row_goes (rows.Store b at v) p due none = command_goes p.driver p.driver.command none
row_goes rows.Frames p due none = frames_goes p.driver p.registers.frame_index p.driver.command none
row_goes rows.LendDescriptors p due none =
    command_goes (record p.driver { book = (lend_taken (holding p.driver.book (linked_by p.driver p.memory p.driver.command))).book }) p.driver.command
    (same_command p.driver (record p.driver { book = (lend_taken (holding p.driver.book (linked_by p.driver p.memory p.driver.command))).book }) refl none)
row_goes row p due none = same_command p.driver (after_driver_row row p).driver (command_stays row p p.driver.command refl refl) none

stands_none : (d : DriverContent) (m : Mem) (member : ℕ → Bool) (recent : ℕ → Option Kind) (parts : StructureSets) → NoChain d → ChainStands d m member recent parts
stands_none d m member recent parts none is = absurd (none is)

to_none : (d : DriverContent) → (d.command ≡ Some unfinished.Chain → ⊥) → NoChain d
to_none d none = none

pub other_chain_stands : OtherChainStands
other_chain_stands c d m member recent parts none =
    stands_none (next_parts c d).driver m member recent parts (row_goes (driver_row (parts_of c d)) (parts_of c d) (each_event_is_due (parts_of c d)) (to_none d none))

pub new_chain_stands : NewChainStands
new_chain_stands n room m member recent parts is = absurd (cc)

-- ---- accepted commands

module _ (d : DriverContent) (m : Mem) (o : Offered) (member : ℕ → Bool) (recent : ℕ → Option Kind) (parts : StructureSets) where
  unlike : (c : Command) → o.driver.command ≡ Some c → (Some c ≡ Some unfinished.Chain → ⊥) → ChainStands o.driver o.memory member recent parts
  unlike c is other = stands_none o.driver o.memory member recent parts (other_chains o.driver c is other)

  unchained : Unchains d m o → NoChain o.driver
  unchained why =
      let e : ℕ = why.number in
      let f : DriverContent = with_cancel d e why.endpoint (endpoint_members d e why.endpoint why.placement) in
      let c : Command = unfinished.Unchain e in
      subst (λ (g : Offered). NoChain g.driver) (sym why.is)
      (either NoChain (finished f c) f (is_none f.periodic.list.work) (none_chains (finished f c) (done_none f c)) (other_chains f c refl (λ same. cc)))

  by_reason : Accepts d m o → (Chains d m o → IsChainReady o.driver o.memory) → ChainStands o.driver o.memory member recent parts
  by_reason (opens why) ready = unlike _ (ap (λ (f : Offered). f.driver.command) why.is) (λ same. cc)
  by_reason (chains why) ready = λ is. inl (ready why)
  by_reason (places why) ready = stands_none o.driver o.memory member recent parts (none_chains o.driver (ap (λ (f : Offered). f.driver.command) why.is ∙ why.idle))
  by_reason (transfers why) ready = unlike _ (ap (λ (f : Offered). f.driver.command) why.is) (λ same. cc)
  by_reason (describes why) ready = unlike _ (ap (λ (f : Offered). f.driver.command) why.is) (λ same. cc)
  by_reason (cancels why) ready = unlike _ (ap (λ (f : Offered). f.driver.command) why.is) (λ same. cc)
  by_reason (unchains why) ready = stands_none o.driver o.memory member recent parts (unchained why)

pub accepted_chain_stands : AcceptedChainStands
accepted_chain_stands d m cmd o member recent parts place range is =
    by_reason d m o member recent parts (each_command_has_its_reason d m cmd o is) (λ why. chain_becomes_ready m d o why place (range why))

-- ---- an event of the controller

pub chain_stands_beside : {W : Type 0} (begins : W → ℕ → Bool → W → Type 0) (transacts : W → Ask → List ℕ → Reply → W → Type 0) → ChainStandsBeside begins transacts
chain_stands_beside begins transacts base member recent descs parts hand frame c d wire new after row k e same stands is =
    ⊎_elim (λ (r : IsChainReady d c.memory). inl (chain_ready_stays d c.memory new.memory k.framed.place.sound.owners k.framed.place.sound.stands same r))
    (λ (r : IsChainLent d member recent parts). inr (chain_stays_lent begins transacts base member recent descs parts hand frame c d wire new after row k e r)) (stands is)

-- ---- the driver's next event

-- nothing more is begun
none_begun : (q : PeriodicContent) → q.list.work ≡ None → q.queued ≡ [] → begun_next false q ≡ q
none_begun q work queued = ap (λ (o : Option Work). cond (is_none o) (with_first false q q.queued) q) work ∙ ap (with_first false q) queued

finishes : (g : DriverContent) (q : PeriodicContent) → q.list.work ≡ None → q.queued ≡ [] → (or_finished (record g { made = 1; periodic = begun_next false q }) unfinished.Chain).command ≡ None
finishes g q work queued =
    ap (λ (r : PeriodicContent). (or_finished (record g { made = 1; periodic = r }) unfinished.Chain).command) (none_begun q work queued)
    ∙ ap (λ (o : Option Work). (cond (is_none o) (no_command (record g { made = 1; periodic = q })) (record g { made = 1; periodic = q })).command) work

module _ (base : Base) (member : ℕ → Bool) (recent : ℕ → Option Kind) (descs parts : StructureSets) (hand : Hand) (frame : FrameHand) (c : Content) (d : DriverContent) (k : IsFramedNow base member recent descs parts hand frame c d) (command : d.command ≡ Some unfinished.Chain) where
  queued : d.periodic.queued ≡ []
  queued = (subst (λ (o : Option Command). IsUnderWay d o) command k.framed.place.sound.listed.way).1

  ended : (m : Mem) (later : ℕ → Option Kind) (now : StructureSets) → (next_parts c d).driver.command ≡ None → ChainStands (next_parts c d).driver m member later now
  ended m later now none = stands_none (next_parts c d).driver m member later now (none_chains (next_parts c d).driver none)

  -- ---- the lend

  of_ready : IsChainReady d c.memory → ChainGoesOn base member recent descs parts hand frame c d
  of_ready r =
      lends r (row_is base member recent descs parts hand frame c d k r) (framed base member recent descs parts hand frame c d k r) (by d.periodic.list.work refl)
    where
      by : (o : Option Work) → d.periodic.list.work ≡ o → ChainStands (next_parts c d).driver (next_parts c d).memory member recent (chained_parts parts r)
      by None is =
          ended (next_parts c d).memory recent (chained_parts parts r)
          (ap (λ (f : DriverContent). f.command) (driver_begun base member recent descs parts hand frame c d k r)
          ∙ finishes (record d { book = (lend_taken (holding d.book c.memory)).book }) d.periodic is queued)
      by (Some w) is = λ same. inr (lent_then base member recent descs parts hand frame c d k r w is)

  -- ---- a store of the frame list

  goes_on : d.made ≡ 1 → advance d ≡ or_finished (record d { made = 1; periodic = begun_next false (record d.periodic { list = after_store d.periodic.list }) }) unfinished.Chain
  goes_on made =
      ap (advanced_by d) command
      ∙ ap (λ (i : ℕ). cond (nat_lt (suc i) 1) (record d { made = suc d.made }) (linked_on d unfinished.Chain)) made
      ∙ ap (λ (i : ℕ). or_finished (record d { made = 1; periodic = begun_next false (record d.periodic { list = cond (nat_lt i 1) d.periodic.list (after_store d.periodic.list) }) }) unfinished.Chain) made

  none_left : (w : Work) → d.periodic.list.work ≡ Some w → is_more d.periodic.list.members.schedule w ≡ false → (after_store d.periodic.list).work ≡ None
  none_left w under_way last =
      ap (λ (o : Option Work). (after_work d.periodic.list o).work) under_way
      ∙ ap (λ (b : Bool). (cond b (record d.periodic.list { work = Some (record w { made = w.made + 1 }) }) (record { list = d.periodic.list.list; members = members_after d.periodic.list.members w; work = None })).work) last

  row_then : d.made ≡ 1 → driver_row (parts_of c d) ≡ link_row (next_store d.periodic.list)
  row_then made =
      ap (row_for (parts_of c d)) command
      ∙ ap (λ (i : ℕ). cond (true && nat_le 1 i) (link_row (next_store d.periodic.list)) (command_row unfinished.Chain i)) made

  stored : (r : IsChainLent d member recent parts) (why : IsLinkOf (parts_of c d) (driver_row (parts_of c d))) → ChainGoesOn base member recent descs parts hand frame c d
  stored r why =
      let e : FramedLinked base member recent descs parts hand frame c d why.store =
      link_keeps_now base member recent descs parts hand frame c d k why (λ same. chain_comes_first base member recent descs parts hand frame c d k r) in
      stores why e (by e (is_more d.periodic.list.members.schedule r.work) refl)
    where
      by : (e : FramedLinked base member recent descs parts hand frame c d why.store) (b : Bool) → is_more d.periodic.list.members.schedule r.work ≡ b
          → ChainStands (next_parts c d).driver (next_parts c d).memory member (recent_with d.periodic (leaves_now d.periodic.list) recent) (parts_now descs parts e.event.now)
      by e true more = λ same. inr (chain_links_on base member recent descs parts hand frame c d why e r more)
      by e false last =
          ended (next_parts c d).memory (recent_with d.periodic (leaves_now d.periodic.list) recent) (parts_now descs parts e.event.now)
          (ap (λ (row : DriverRow). (after_driver_row row (parts_of c d)).driver.command) why.is
          ∙ ap (λ (f : DriverContent). f.command) (goes_on r.made)
          ∙ finishes d (record d.periodic { list = after_store d.periodic.list }) (none_left r.work r.under_way last) queued)

  rested : (r : IsChainLent d member recent parts) → driver_row (parts_of c d) ≡ rows.Rest → ChainGoesOn base member recent descs parts hand frame c d
  rested r is =
      rests is (registers_keep_now base member recent descs parts hand frame c d k (ap reads_alone is))
      (subst (λ (f : DriverContent). ChainStands f (next_parts c d).memory member recent parts) (sym (ap (λ (row : DriverRow). (after_driver_row row (parts_of c d)).driver) is)) (λ same. inr r))

  of_lent : IsChainLent d member recent parts → ChainGoesOn base member recent descs parts hand frame c d
  of_lent r = by (next_store d.periodic.list) refl
    where
      by : (o : Option Store) → next_store d.periodic.list ≡ o → ChainGoesOn base member recent descs parts hand frame c d
      by None is = rested r (row_then r.made ∙ ap link_row is)
      by (Some st) is =
          let made = r.made in
          stored r (record {
            command = unfinished.Chain;
            unfinished = command;
            links = refl;
            late = omega (arith, made);
            store = st;
            next = is;
            is = row_then r.made ∙ ap link_row is;
          })

pub chain_goes_on_now : ChainGoesOnNow
chain_goes_on_now base member recent descs parts hand frame c d k command stands =
    ⊎_elim (of_ready base member recent descs parts hand frame c d k command) (of_lent base member recent descs parts hand frame c d k command) (stands command)

-- ---- the fields of the queue head

either_below : (b : Bool) (n k : ℕ) → n < suc k → (if b then 0 else n) < suc k
either_below true n k below = omega arith
either_below false n k below = below

pub chained_head_is_in_range : ChainedHeadIsInRange
chained_head_is_in_range x p link dummy fits most port multi masks =
    let hub : (if is_high x.speed then 0 else unwrap_or x.hub 0) < 128 = either_below (is_high x.speed) (unwrap_or x.hub 0) 127 fits.hub in
    let place : (if is_high x.speed then 0 else x.port) < 128 = either_below (is_high x.speed) x.port 127 (omega (arith, port)) in (
      (omega arith, (omega arith, tt)),
      (
        (omega arith, (most, (speed_small x.speed, (fits.num, (fits.addr, tt))))),
        (
          (omega (arith, multi), (place, (hub, (masks.cmask, (masks.smask, tt))))),
          (
            (refl, tt),
            (
              (omega arith, tt),
              (
                (refl, (omega arith, tt)),
                (
                  (omega arith, (omega arith, (omega arith, (omega arith, tt)))),
                  (
                    (omega arith, (omega arith, tt)),
                    (
                      (omega arith, (omega arith, tt)),
                      ((omega arith, (omega arith, (omega arith, tt))), ((omega arith, tt), ((omega arith, tt), tt))),
                    ),
                  ),
                ),
              ),
            ),
          ),
        ),
      ),
    )
