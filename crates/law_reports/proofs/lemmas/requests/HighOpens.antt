-- An endpoint that is opened, and one that is given back, leave the requests of control endpoints at high speed as they must stand, in a
-- world with endpoints of
-- every kind.
use Rattle.std.proofs.Common.{◌≡◌, ◌≢◌, ℕ, ◌*◌, ◌||◌, Bool, true, false, List, slice_get, Option, Some, None, option_map, ap, refl, sym}
use Rattle.std.proofs.Common.{subst, ◌∙◌, ⊎_elim}
use Rattle.std.proofs.lemmas.Bool.{false≢true, true≢false}
use Rattle.std.proofs.lemmas.Option.{same_Some}
use Rattle.law_common.proofs.Numbers.{same_blocks}
use Rattle.law_world.proofs.Common.{same_queue}
use Rattle.law_driver.proofs.Common.{of_queue, same_control}
use Rattle.usb_base.specs.declared.endpoints.EpDesc.{EpDesc}
use Rattle.usb_base.specs.declared.endpoints.EpName.{EpName}
use Rattle.usb_base.specs.declared.packets.EpKind.{EpKind}
use Rattle.usb_base.specs.declared.packets.EpKind.TheVariants as kinds
use Rattle.word_mem.specs.Memory.{Mem}
use Rattle.bus_wire.specs.Bus.{Fixed, Wired}
use Rattle.claims_driver.specs.Leaving.{HasOwners}
use Rattle.claims_driver.specs.Owners.{runs_of_endpoint, views_of, EndpointRuns, IsQueueIn}
use Rattle.law_driver.proofs.lemmas.ring_members.Placed.{in_ring_alive}
use Rattle.law_driver.proofs.lemmas.chained_transfers.Staying.{linked_stands_alive}
use Rattle.law_queues.specs.told_endpoints.Telling.{lines_in}
use Rattle.law_reports.specs.requests.told_requests.Told.{AreToldTo}
use Rattle.drv_periodic_table.specs.Periodic.{is_periodic}
use Rattle.qh_qtd.specs.declared.queue_head.Qh.{Qh}
use Rattle.drv_table.specs.declared.content.Command.{Command}
use Rattle.drv_table.specs.declared.content.Command.TheVariants as unfinished
use Rattle.drv_table.specs.declared.content.Endpoint.{Endpoint}
use Rattle.drv_table.specs.DriverContent.{DriverContent}
use Rattle.drv_table.specs.Kinds.{is_iso}
use Rattle.drv_table.specs.Words.{is_control, queue_head, dummy_qtd}
use Rattle.law_driver.specs.endpoint_lives.Lives.{is_one_of}
use Rattle.law_driver.specs.queued_drivers.Queued.{with_queue, queued_desc, queued_kind, queued_command, queued_made, queued}
use Rattle.law_driver.specs.queued_drivers.Rows.{QueuesAlike, TellsAlike}
use Rattle.law_driver.proofs.lemmas.queued_drivers.CommandFields.{name_same}
use Rattle.law_driver_ring.specs.Linked.{no_part, opened_part, with_member}
use Rattle.law_driver_ring.proofs.LendOwning.{queue_no_dummy}
use Rattle.law_queues.specs.open_laws.Opens.{IsOpenLent}
use Rattle.law_queues.specs.open_laws.Lends.{IsOpenReady}
use Rattle.law_queues.specs.open_laws.Queues.{IsOpenToLend, IsOpenThere, parts_opened, open_lent, open_finished}
use Rattle.law_structures.specs.lent_structures.Structures.{QueueHead, Element, StructureSets, with_structure}
use Rattle.law_structures.proofs.lemmas.lent_structures.Names.{with_here, with_there}
use Rattle.claims_report.specs.Requests.{Request, Window}
use Rattle.law_ring.specs.Hand.{Hand}
use Rattle.claims_world.specs.Requests.{wired, Windows}
use Rattle.bus_world.specs.World.{World, driver_next}
use Rattle.law_world.specs.memory.Mixed.{IsChainToLend, IsChainThere, IsUnderWay, Standing, IsMixedAt}
use Rattle.law_world.specs.memory.Steps.{HasOpened, opens}
use Rattle.law_world.proofs.lemmas.memory.RingBasis.{linked_still}
use Rattle.law_reports.specs.lines.Lined.{Lines}
use Rattle.law_reports.specs.lines.TellingLaws.{IsTellingNext}
use Rattle.law_reports.specs.pipes.Declared.{Sides as Pipes}
use Rattle.law_reports.specs.pipes.Piped.{Heads, asked_as, IsPiped}
use Rattle.law_reports.proofs.lemmas.pipes.Names.{WasQueued, queue_same, kept_as, same_number}
use Rattle.law_reports.proofs.lemmas.pipes.NewHeads.{made_once}
use Rattle.law_reports.proofs.lemmas.pipes.Opened.{its, off, head_there}
use Rattle.law_reports.specs.requests.Asking.{Sides, Asking, HasAsks, AsksIn}
use Rattle.law_reports.specs.requests.Footing.{IsFooting}
use Rattle.law_reports.specs.requests.HighAsking.{told_world, told_standing, told_streams, AreSuited, AsksAt}
use Rattle.law_reports.proofs.lemmas.requests.HighAlike.{is_alike_in, alike_asks}
use Rattle.law_reports.proofs.lemmas.requests.HighSteps.{told_but_speed}
use Rattle.law_reports.proofs.lemmas.requests.Leaving.{IsQuiet, idle_quiet, open_quiet}
use Rattle.law_reports.proofs.lemmas.requests.NewHeads.{IsHeadOf, IsNewHead, only_dummy}
use Rattle.law_reports.proofs.lemmas.requests.OpenLending.{open_lent_asks}
use Rattle.law_reports.proofs.lemmas.requests.OpenLinking.{opened_asks}

-- ---- contents with the same queues and the same report, while nothing is being published

module _ (g : Sides) (near : ℕ → Bool) (parts : StructureSets) (hand : Hand) (a : Asking) (v : Windows) (asks : ℕ → Request)
    (d : DriverContent) (m : Mem) (wire : Wired) (q : AsksIn g near parts hand a v asks d m wire) where
  pub carried_asks : (f : DriverContent) (new : Mem) → QueuesAlike d f → TellsAlike d f → IsQuiet d
      → AsksIn g near parts hand a v asks f new wire
  carried_asks f new alike tells quiet =
      subst (λ (c : DriverContent). AsksIn g near parts hand a v asks c new wire) (sym (is_alike_in d f alike))
      (alike_asks g near parts parts hand hand a v asks d f m new wire q
      (record { structures = q.unmissed.structures; in_hand = q.unmissed.in_hand; first = quiet.first }) q.stand
      (λ e x is next. absurd (false≢true (sym (quiet.none e) ∙ next)))
      (λ e t x y is going next there. q.read e t x y is going next there)
      (λ e x is. record {
        lines = ap (lines_in x.desc.name) tells.reports;
        telling = λ reported waits z. record {
          numbers = z.numbers;
          told = told_same x.desc.name (g.whole x.desc.name) _ _ z.told;
          wait = z.wait;
        };
      })
      (λ name none. ap (lines_in name) tells.reports))
    where
      told_same : (name : EpName) (whole : Request → List ℕ) (ws left : List Window) → AreToldTo d.reports d.store name whole ws left
          → AreToldTo f.reports f.store name whole ws left
      told_same name whole ws left told =
          subst (λ (rs : _). AreToldTo rs f.store name whole ws left) (sym tells.reports)
          (subst (λ (bs : List ℕ). AreToldTo d.reports bs name whole ws left) (sym tells.store) told)

-- ---- an open

part_head : (x : EndpointRuns) (c : Qh) → x.queue ≢ x.dummy → opened_part x c (32 * x.queue) ≡ Some (QueueHead c)
part_head x c differs =
    with_there (with_structure no_part (32 * x.queue) (QueueHead c)) (32 * x.dummy) (Element dummy_qtd) (32 * x.queue)
    (λ same. differs (same_blocks x.queue x.dummy same))
    ∙ with_here no_part (32 * x.queue) (QueueHead c)

module _ (g : Sides) (fixed : Fixed) (x : Pipes) (s : Standing) (m : Lines) (h : Heads) (w : World) (k : IsPiped fixed x s m h w)
    (f : IsFooting s.near (told_streams s) (told_standing s m) (told_world w)) (suited : AreSuited g w.driver)
    (a : Asking) (v : Windows) (asks : ℕ → Request) (q : AsksAt g fixed s a v asks w) where
  abbrev Now : (ℕ → Bool) → StructureSets → Hand → Type 0
  Now near parts hand = HasAsks g near parts hand v asks (queued (driver_next w).driver) (driver_next w).memory (wired fixed w)

  -- its queue head and its inactive qTD are lent
  pub begun : (at : IsOpenToLend (queued w.driver) w.memory)
      → QueuesAlike (open_lent (queued w.driver) w.memory) (queued (driver_next w).driver)
      → TellsAlike (queued w.driver) (queued (driver_next w).driver) → Now s.near (parts_opened at s.parts) s.hand
  begun at alike tells = record {
    asking = a;
    world = carried_asks g s.near (parts_opened at s.parts) s.hand a v asks (open_lent (queued w.driver) w.memory) (driver_next w).memory
        (wired fixed w)
        (open_lent_asks g fixed s.near (told_streams s) (told_standing s m) a v asks (told_world w) f q at (driver_next w).memory)
        (queued (driver_next w).driver) (driver_next w).memory alike (record { reports = tells.reports; store = tells.store })
        (open_quiet (open_lent (queued w.driver) w.memory) at.endpoint.queue at.command);
  }

  module _ (at : IsOpenThere (queued w.driver) s.parts) (t : Standing)
      (alike : QueuesAlike (open_finished (queued w.driver)) (queued (driver_next w).driver)) (opened : HasOpened s t at.endpoint)
      (mixed : IsMixedAt t (driver_next w)) (next : IsTellingNext s m w (driver_next w) t (opens at t alike opened))
      (tells : TellsAlike (queued w.driver) (queued (driver_next w).driver)) where
    abbrev own : WasQueued w.driver.endpoints at.number at.endpoint
    own = its fixed x s m h w k at t alike opened mixed next

    abbrev y : Endpoint
    y = (its fixed x s m h w k at t alike opened mixed next).endpoint

    owners : HasOwners w.driver
    owners = k.mixed.now.framed.place.sound.owners

    unmet : s.near (32 * at.endpoint.queue) ≡ false
    unmet = off fixed x s m h w k at t alike opened mixed next

    name_is : at.endpoint.desc.name ≡ y.desc.name
    name_is = ap (λ (z : Endpoint). z.desc.name) own.is ∙ name_same y

    named : IsHeadOf s.parts at.endpoint
    named = record {
      own = asked_as y.desc;
      has = (head_there fixed x s m h w k at t alike opened mixed next).named;
      address = ap (λ (n : EpName). n.addr) (sym name_is);
      ep = ap (λ (n : EpName). n.num) (sym name_is);
    }

    -- ---- a control endpoint

    module _ (on : g.asks at.endpoint.desc ≡ true) where
      control_told_is : is_control at.endpoint.desc.kind ≡ true
      control_told_is = g.controls at.endpoint.desc on

      queue_real : at.endpoint.queue ≡ y.queue
      queue_real = ap (λ (z : Endpoint). z.queue) own.is ∙ queue_same y

      alive : at.endpoint.gone ≡ false
      alive = linked_stands_alive at.endpoint (k.mixed.turns.turns.asynchronous.endpoints at.number at.endpoint at.here) at.fresh

      kept : (y.gone ≡ false) × (is_iso y.desc.kind ≡ false)
      kept = kept_as y (sym (ap (λ (z : Endpoint). z.gone) own.is) ∙ alive)

      as_told : at.endpoint ≡ with_queue y
      as_told = own.is ∙ of_queue y kept.1

      way_control : is_control (queued_kind y.desc.name.way) ≡ true
      way_control = ap (λ (z : Endpoint). is_control z.desc.kind) (sym as_told) ∙ control_told_is

      control_real : is_control y.desc.kind ≡ true
      control_real = sym (same_control y.desc.name.way y.desc.kind (k.mixed.turns.kinds_fit at.number y own.here)) ∙ way_control

      in_ring : is_periodic y.desc.kind ≡ false
      in_ring = off_frames y.desc.kind control_real
        where
          off_frames : (kind : EpKind) → is_control kind ≡ true → is_periodic kind ≡ false
          off_frames kinds.Control on = refl
          off_frames _ on = absurd (false≢true on)

      desc_is : record (queued_desc y.desc) { speed = y.desc.speed } ≡ y.desc
      desc_is = told_but_speed y.desc (k.mixed.turns.kinds_fit at.number y own.here) way_control

      linked : y.linked ≡ true
      linked = sym (linked_still y in_ring) ∙ ap (λ (z : Endpoint). z.linked) (sym as_told) ∙ at.fresh

      once : (queued w.driver).made ≡ 1
      once = made_once s w k.mixed at

      -- what the driver wrote for it
      lent_head : (l : IsOpenLent w.driver s.member s.parts) → l.endpoint ≡ y → IsNewHead s.parts (with_queue y)
      lent_head l is =
          let runs : EndpointRuns = runs_of_endpoint y in
          let part : (b : ℕ) → s.parts (32 * y.queue) b ≡ opened_part (runs_of_endpoint y) (queue_head y.desc l.link y.dummy) b =
          subst (λ (z : Endpoint). (b : ℕ)
          → s.parts (32 * z.queue) b ≡ opened_part (runs_of_endpoint z) (queue_head z.desc l.link z.dummy) b) is l.part in
          record {
            speed = y.desc.speed;
            link = l.link;
            here = part (32 * y.queue)
                ∙ part_head runs (queue_head y.desc l.link y.dummy) dummy_apart
                ∙ ap (λ (c : EpDesc). Some (QueueHead (queue_head c l.link y.dummy))) (sym desc_is);
            tail = part (32 * y.dummy)
                ∙ with_here (with_structure no_part (32 * y.queue) (QueueHead (queue_head y.desc l.link y.dummy))) (32 * y.dummy)
                (Element dummy_qtd);
            only = λ b u there. only_dummy (32 * y.queue) (queue_head y.desc l.link y.dummy) (32 * y.dummy) b u (sym (part b) ∙ there);
          }
        where
          queued_in : IsQueueIn (views_of w.driver) at.number (runs_of_endpoint y)
          queued_in = record {
            here = ap (option_map runs_of_endpoint) own.here;
            queued = ap (λ (b : Bool). b || y.gone) kept.1 ∙ kept.0;
          }

          dummy_apart : y.queue ≢ y.dummy
          dummy_apart =
              queue_no_dummy (views_of w.driver) owners.owner at.number at.number (runs_of_endpoint y) (runs_of_endpoint y)
              owners.owned.each queued_in queued_in

      -- it is the one that is being opened
      its_own : (l : IsOpenLent w.driver s.member s.parts) → l.endpoint.queue ≡ y.queue → l.endpoint ≡ y
      its_own l same =
          let alive_l = in_ring_alive w.driver l.number l.endpoint owners.orderly l.here l.fresh in
          let parts_l = or_parts (is_iso l.endpoint.desc.kind) l.endpoint.gone alive_l in
          let one : l.number ≡ at.number =
          same_number w.driver owners l.number at.number l.endpoint y l.here own.here (parts_l.1, parts_l.0) kept
          (ap (λ (b : ℕ). 32 * b) same) in
          same_Some l.endpoint y (sym l.here ∙ ap (slice_get w.driver.endpoints) one ∙ own.here)
        where
          or_parts : (b c : Bool) → (b || c) ≡ false → (b ≡ false) × (c ≡ false)
          or_parts true c is = absurd (true≢false is)
          or_parts false c is = (refl, is)

      by_command : (c : Option Command) → w.driver.command ≡ c → IsNewHead s.parts (with_queue y)
      by_command (Some (unfinished.Open b)) is =
          ⊎_elim
          (λ (r : IsOpenReady w.driver w.memory).
          absurd (not_once (sym (ap (λ (o : Option Command). queued_made o w.driver.made) is ∙ r.made) ∙ once)))
          (λ (l : IsOpenLent w.driver s.member s.parts).
          lent_head l (its_own l
          (same_queue l.endpoint.queue b (sym l.command ∙ is)
          ∙ same_queue b at.endpoint.queue (sym (ap (queued_command w.driver.endpoints) is) ∙ at.command) ∙ queue_real)))
          (subst (IsUnderWay w.driver w.memory s.member s.recent s.parts) is k.mixed.under_way)
        where
          not_once : ◌≡◌ {A = ℕ} 0 1 → ⊥
          not_once e = cc
      -- one that is being linked in frames isn't in the ring
      by_command (Some unfinished.Chain) is =
          ⊎_elim
          (λ (r : IsChainToLend w.driver w.memory).
          absurd (none_made (sym
          (ap (λ (o : Option Command). queued_made o w.driver.made) is ∙ ap (queued_made (Some unfinished.Chain)) r.ready.made)
          ∙ once)))
          (λ (c : IsChainThere w.driver s.member s.recent s.parts).
          let one : c.there.endpoint.queue ≡ y.queue =
          same_queue c.there.endpoint.queue at.endpoint.queue (sym c.there.command ∙ at.command) ∙ queue_real in
          let met : s.member (32 * y.queue) ≡ true = k.mixed.ring.each at.number y own.here
          (record {
            there = record { linked = λ opens. chain_not_open y.queue (sym is ∙ opens); kept = kept.0 };
            near = ap (λ (b : Bool). b || (is_one_of at.number w.driver.waiting || is_one_of at.number w.driver.rung)) linked;
          }) in
          absurd (true≢false (sym met ∙ ap (λ (b : ℕ). s.member (32 * b)) (sym one) ∙ c.unmet)))
          (subst (IsUnderWay w.driver w.memory s.member s.recent s.parts) is k.mixed.under_way)
        where
          none_made : ◌≡◌ {A = ℕ} 0 1 → ⊥
          none_made e = cc

          chain_not_open : (b : ℕ) → ◌≡◌ {A = Option Command} (Some unfinished.Chain) (Some (unfinished.Open b)) → ⊥
          chain_not_open b e = cc
      by_command None is = absurd
          (let bad : ◌≡◌ {A = Option Command} None (Some (unfinished.Open at.endpoint.queue)) =
          sym (ap (queued_command w.driver.endpoints) is) ∙ at.command in cc)
      by_command (Some (unfinished.Publish b words)) is =
          absurd (let bad : ◌≡◌ {A = Option Command} (Some (unfinished.Publish b words)) (Some (unfinished.Open at.endpoint.queue)) =
          sym (ap (queued_command w.driver.endpoints) is) ∙ at.command in cc)
      by_command (Some (unfinished.Unlink e b link)) is =
          absurd (let bad : ◌≡◌ {A = Option Command} (Some (unfinished.Unlink e b link)) (Some (unfinished.Open at.endpoint.queue)) =
          sym (ap (queued_command w.driver.endpoints) is) ∙ at.command in cc)
      by_command (Some (unfinished.Iso e n count)) is =
          absurd (let bad : ◌≡◌ {A = Option Command} None (Some (unfinished.Open at.endpoint.queue)) =
          sym (ap (queued_command w.driver.endpoints) is) ∙ at.command in cc)
      by_command (Some (unfinished.Unchain e)) is =
          absurd (let bad : ◌≡◌ {A = Option Command} None (Some (unfinished.Open at.endpoint.queue)) =
          sym (ap (queued_command w.driver.endpoints) is) ∙ at.command in cc)

      new_head : IsNewHead s.parts at.endpoint
      new_head = subst (IsNewHead s.parts) (sym as_told) (by_command w.driver.command refl)

    pub opened_then : Now t.near t.parts t.hand
    opened_then =
        let z = opened_asks g fixed s.near (told_streams s) (told_standing s m) a v asks (told_world w) f q at.number at.endpoint at.here
        at.command at.fresh at.none unmet named (λ on. new_head on)
        t.parts t.hand opened.told.parts opened.told.hand (driver_next w).memory in
        record {
          asking = z.asking;
          world = subst (λ (near : ℕ → Bool). AsksIn g near t.parts t.hand z.asking v asks (queued (driver_next w).driver)
              (driver_next w).memory (wired fixed w)) (sym opened.near)
              (carried_asks g (with_member s.near (32 * at.endpoint.queue)) t.parts t.hand z.asking v asks
              (open_finished (queued w.driver)) (driver_next w).memory (wired fixed w) z.world
              (queued (driver_next w).driver) (driver_next w).memory alike (record { reports = tells.reports; store = tells.store })
              (idle_quiet (open_finished (queued w.driver)) refl));
        }
