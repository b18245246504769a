-- An endpoint with a queue is opened, in the ring or in frames: its queue head and its inactive qTD are to be lent.
use Rattle.std.proofs.Common.{◌≡◌, ◌≢◌, ℕ, ◌+◌, ◌*◌, ◌<◌, ◌≤◌, Bool, true, false, if◌then◌else◌, ◌||◌, List, [], ◌∷◌, length, drop, get_or, slice_get, Option, Some, None, option_map, unwrap_or, ap, refl, sym, subst, ◌∙◌, ⊎_elim, inl, arith}
use Rattle.std.specs.Prelude.{slice_index}
use Rattle.std.proofs.lemmas.Bool.{false≢true}
use Rattle.std.proofs.lemmas.List.{length-append}
use Rattle.law_world.proofs.Common.{same_queue, multi_few, none_some, open_tail}
use Rattle.law_driver_ring.proofs.Common.{speed_small}
use Rattle.law_common.proofs.Lists.{last_of_all, drop_first, push_which}
use Rattle.law_driver.proofs.Common.{ring_queue}
use Rattle.usb_base.specs.declared.commands.Cmd.TheVariants as commands
use Rattle.usb_base.specs.declared.endpoints.EpDesc.{EpDesc}
use Rattle.word_mem.specs.Memory.{Mem}
use Rattle.mem_runs.specs.Book.{Holding, holding, Stands}
use Rattle.qh_qtd.specs.QueueHead.{IsQhInRange}
use Rattle.bandwidth.specs.declared.placements.Placed.{Placed}
use Rattle.bandwidth.specs.Placements.{IsWant}
use Rattle.drv_periodic.specs.Periodic.{begun}
use Rattle.drv_periodic_table.specs.Periodic.{is_periodic, want_of, queue_member}
use Rattle.drv_table.specs.declared.content.Endpoint.{Endpoint}
use Rattle.drv_table.specs.declared.content.Command.{Command}
use Rattle.drv_table.specs.declared.content.Command.TheVariants as unfinished
use Rattle.drv_table.specs.DriverContent.{DriverContent}
use Rattle.drv_table.specs.Words.{is_high, queue_head}
use Rattle.drv_table.specs.Kinds.{is_iso}
use Rattle.drv_table.specs.Accepting.{Offered, new_runs, newest_of}
use Rattle.drv_table.specs.Offers.{new_endpoint, placed_endpoint, accepted_open}
use Rattle.law_driver.specs.run_owners.Accepts.{Opens, Chains}
use Rattle.law_driver.specs.in_place.InPlace.{IsInPlace}
use Rattle.claims_driver.specs.Leaving.{HasOwners}
use Rattle.claims_driver.specs.Owners.{QueueHead, runs_of_endpoint}
use Rattle.law_driver.proofs.lemmas.run_owners.Laws.{commands_keep_owners}
use Rattle.law_driver.proofs.lemmas.run_owners.Runs.{placed_run}
use Rattle.law_driver.proofs.lemmas.run_owners.Taking.{runs_taken}
use Rattle.law_driver.proofs.lemmas.run_owners.Accepted.{fresh_differs}
use Rattle.law_driver_ring.specs.LendOpened.{opened_head}
use Rattle.claims_base.specs.Controller.{opening_base}
use Rattle.law_driver_ring.specs.fed_queues.Places.{IsThere, IsMet}
use Rattle.law_queues.proofs.lemmas.fed_lends.Opened.{open_stands}
use Rattle.law_queues.proofs.lemmas.open_laws.AcceptWaiting.{open_becomes_ready}
use Rattle.law_queues.specs.standing_fronts.Reaching.{Reaches}
use Rattle.law_queues.proofs.lemmas.commanded_queues.Tails.{reaches_open}
use Rattle.law_world.proofs.lemmas.steps.lemmas.control_queues.Alike.{ThereAlike}
use Rattle.law_world.proofs.lemmas.steps.lemmas.control_queues.Beside.{commands_keep_controls}
use Rattle.law_world.specs.memory.framed_memory.Masks.{HasMasks, AreMasked}
use Rattle.law_world.specs.memory.framed_memory.Isochronous.{NumbersFit}
use Rattle.law_world.proofs.lemmas.memory.lemmas.framed_memory.Masking.{commands_keep_masks}
use Rattle.law_world.specs.memory.framed_memory.QueueRows.{chained_head}
use Rattle.law_world.proofs.lemmas.memory.lemmas.framed_memory.QueueAccepting.{open_keeps_now}
use Rattle.law_world.proofs.lemmas.memory.lemmas.framed_memory.Chained.{chain_keeps_now}
use Rattle.law_world.proofs.lemmas.memory.lemmas.framed_memory.ChainedLent.{IsReadyAt, chain_ready_at}
use Rattle.law_world.proofs.lemmas.memory.lemmas.framed_memory.ChainedRuns.{chained_head_is_in_range}
use Rattle.law_driver.specs.queued_drivers.Queued.{queued_desc, queued}
use Rattle.law_driver.specs.queued_drivers.Commands.{opened_queue, IsQueueOpened}
use Rattle.law_driver.proofs.lemmas.queued_drivers.CommandFields.{desc_asynchronous}
use Rattle.bus_world.specs.World.{World, controller_parts}
use Rattle.law_world.specs.memory.Mixed.{QueuesGoOn, IsChainToLend, IsUnderWay, Standing}
use Rattle.law_world.proofs.lemmas.memory.RingBasis.{near_ring}
use Rattle.law_world.proofs.lemmas.memory.CommandBeside.{sound_by, by_alike}
use Rattle.law_world.proofs.lemmas.memory.CommandMet.{pushed_met}
use Rattle.law_world.proofs.lemmas.memory.CommandTails.{idle_ends}
use Rattle.law_world.proofs.lemmas.memory.ChainBegun.{chain_begun}
use Rattle.law_world.proofs.lemmas.memory.CommandShared.{IsAccepted, LeavesMixed, place, in_place, idle, idle_queues, owners, lent}

-- ---- the queues

opened_there : (d : DriverContent) (desc : EpDesc) (h : Holding) (queue dummy : ℕ) → d.command ≡ None → ThereAlike d (accepted_open d desc h queue dummy).driver
opened_there d desc h queue dummy idle i x here there =
    let new = new_endpoint desc queue dummy in
    ⊎_elim
    (λ (was : slice_get d.endpoints i ≡ Some x).
    let t : IsThere d x = record { linked = λ is. none_some (unfinished.Open x.queue) (sym idle ∙ is); kept = there.kept } in
    record { endpoint = x; here = was; there = t; queue = refl; met = λ m. record { there = t; near = m.near } })
    (λ (is : (i ≡ length d.endpoints) × (x ≡ new)). absurd (there.linked (ap (λ (y : Endpoint). Some (unfinished.Open y.queue)) (sym is.1))))
    (push_which d.endpoints new i x here)

open_there : (d : DriverContent) (m : Mem) (o : Offered) → Opens d m o → ThereAlike d o.driver
open_there d m o w = subst (λ (q : Offered). ThereAlike d q.driver) (sym w.is) (opened_there d w.desc w.holding_after _ _ w.idle)

module _ (s : Standing) (w : World) (line : ℕ) (x : EpDesc) (o : Offered) (a : IsAccepted s w line (commands.OpenEp x) o) (k : IsQueueOpened w.driver w.memory x o) where
  abbrev d : DriverContent
  d = queued w.driver

  abbrev c : Offered
  c = opened_queue w.driver x k.holding_after

  now_owners : HasOwners (opened_queue w.driver x k.holding_after).driver
  now_owners = commands_keep_owners d w.memory (commands.OpenEp (queued_desc x)) c (place s w line (commands.OpenEp x) o a).sound.stands (owners s w line (commands.OpenEp x) o a) k.takes

  ring_queues : QueuesGoOn (opened_queue w.driver x k.holding_after).driver s.near s.streams s.ends s.parts s.order s.out
  ring_queues =
      let p = place s w line (commands.OpenEp x) o a in
      let old = a.mixed.queues in
      let turns = a.mixed.turns.turns in
      record {
        queues = open_stands d w.memory c s.near s.streams s.ends s.parts s.order s.out k.opens p.sound.stands p.sound.shape (owners s w line (commands.OpenEp x) o a) now_owners
            (lent s w line (commands.OpenEp x) o a) turns old.queues;
        sound = sound_by d c.driver s.parts (open_there d w.memory c k.opens) old.sound;
        tails = λ e z here met.
            subst (λ (n : ℕ). Reaches c.driver (s.parts (32 * z.queue)) (s.order (32 * z.queue)) (s.out (32 * z.queue)) e z n) (sym (open_tail c.driver e _ z refl))
            (reaches_open d w.memory c s.parts s.order s.out k.opens (idle_ends d s.parts s.order s.out (idle_queues s w line (commands.OpenEp x) o a) old.tails) e z here met);
        controls = commands_keep_controls d w.memory (commands.OpenEp (queued_desc x)) c s.parts s.order s.out turns.asynchronous (desc_asynchronous x) k.takes old.controls;
      }

  pub opened_queues : QueuesGoOn (queued o.driver) s.near s.streams s.ends s.parts s.order s.out
  opened_queues = by_alike (queued o.driver) c.driver s.near s.streams s.ends s.parts s.order s.out k.alike ring_queues

-- ---- the fields of a queue head of the ring, at any speed (3.6.2)

either_below : (b : Bool) (n k : ℕ) → n < k → (if b then 0 else n) < k
either_below true n k below = omega (arith, below)
either_below false n k below = below

four_at_most : (b : Bool) → (if b then 4 else 0) < 16
four_at_most true = omega arith
four_at_most false = omega arith

ring_head_range : (x : EpDesc) (link dummy : ℕ) → NumbersFit x → x.max ≤ 1024 → x.port ≤ 127 → IsQhInRange (queue_head x link dummy)
ring_head_range x link dummy fits most port =
    let naks : (if is_high x.speed then 4 else 0) < 16 = four_at_most (is_high x.speed) in
    let hub : (if is_high x.speed then 0 else unwrap_or x.hub 0) < 128 = either_below (is_high x.speed) (unwrap_or x.hub 0) 128 fits.hub in
    let place : (if is_high x.speed then 0 else x.port) < 128 = either_below (is_high x.speed) x.port 128 (omega (arith, port)) in (
      (omega arith, (omega arith, tt)),
      (
        (omega (arith, naks), (most, (speed_small x.speed, (fits.num, (fits.addr, tt))))),
        (
          (omega arith, (place, (hub, (omega arith, (omega arith, tt))))),
          (
            (refl, tt),
            (
              (omega arith, tt),
              (
                (refl, (omega arith, tt)),
                (
                  (omega arith, (omega arith, (omega arith, (omega arith, tt)))),
                  (
                    (omega arith, (omega arith, tt)),
                    (
                      (omega arith, (omega arith, tt)),
                      ((omega arith, (omega arith, (omega arith, tt))), ((omega arith, tt), ((omega arith, tt), tt))),
                    ),
                  ),
                ),
              ),
            ),
          ),
        ),
      ),
    )

-- ---- in the ring

-- the new queue head has blocks of its own
new_apart : (d : DriverContent) (m : Mem) (o : Offered) (why : Opens d m o) (e : ℕ) (z : Endpoint) → HasOwners d → Stands (holding d.book m) → slice_get d.endpoints e ≡ Some z → IsMet d e z
    → o.driver.command ≢ Some (unfinished.Open z.queue)
new_apart d m o why e z has stands here met is =
    let ring = near_ring d e z has here met.near in
    let all = runs_taken (holding d.book m) why.holding_after (2 ∷ 1 ∷ []) stands why.runs in
    let bs = all.blocks in
    let two : length bs ≡ 2 = all.are.long in
    let runs : new_runs d why.holding_after ≡ bs = ap (drop (length d.book.taken)) all.are.taken ∙ drop_first d.book.taken bs in
    let alive : is_iso z.desc.kind || z.gone ≡ false = ap (λ (b : Bool). b || z.gone) (ring_queue z.desc.kind ring.0) ∙ ring.1 in
    let command : o.driver.command ≡ Some (unfinished.Open (slice_index (new_runs d why.holding_after) 0)) = ap (λ (p : Offered). p.driver.command) why.is in
    fresh_differs 0 z.queue all.are (omega (arith, two))
    (placed_run z.queue (QueueHead e) (has.owned.each.queue e (runs_of_endpoint z) (ap (option_map runs_of_endpoint) here) alive))
    (ap (λ (rs : List ℕ). get_or rs 0 0) (sym runs) ∙ same_queue (slice_index (new_runs d why.holding_after) 0) z.queue (sym command ∙ is))

pub open_leaves : (s : Standing) (w : World) (line : ℕ) (x : EpDesc) (o : Offered) → IsAccepted s w line (commands.OpenEp x) o
    → QueuesGoOn (queued o.driver) s.near s.streams s.ends s.parts s.order s.out → (why : Opens w.driver w.memory o) → why.desc ≡ x → LeavesMixed s w o
open_leaves s w line x o a queues why same =
    let d = w.driver in
    let cmd = commands.OpenEp x in
    let p = place s w line cmd o a in
    let queue : ℕ = slice_index (new_runs d why.holding_after) 0 in
    let dummy : ℕ = slice_index (new_runs d why.holding_after) 1 in
    let new : Endpoint = new_endpoint why.desc queue dummy in
    let command : o.driver.command ≡ Some (unfinished.Open queue) = ap (λ (g : Offered). g.driver.command) why.is in
    let range : IsQhInRange (opened_head d why.desc why.holding_after) =
    subst (λ (y : EpDesc). IsQhInRange (opened_head d y why.holding_after)) (sym same) (ring_head_range x (newest_of d.endpoints) dummy a.fits.numbers a.room.1 a.room.2) in
    record {
      now = open_keeps_now opening_base s.member s.recent s.descs s.parts s.hand s.frame (controller_parts w) d cmd o a.mixed.now why a.room
          a.is;
      ring = pushed_met d o.driver new s.member (idle s w line cmd o a) (ap (λ (g : Offered). g.driver.endpoints) why.is) (ap (λ (g : Offered). g.driver.waiting) why.is)
          (ap (λ (g : Offered). g.driver.rung) why.is) (λ e z here met. new_apart d w.memory o why e z p.sound.owners p.sound.stands here met)
          (λ e z here is met. met.there.linked (command ∙ ap (λ (y : Endpoint). Some (unfinished.Open y.queue)) (sym is))) a.mixed.ring;
      queues = queues;
      under_way = subst (λ (c : Option Command). IsUnderWay o.driver o.memory s.member s.recent s.parts c) (sym command)
          (inl (open_becomes_ready w.memory d o why p.sound.owners p.lent p.sound.stands p.sound.shape range));
    }

-- ---- in frames

chain_masks : (d : DriverContent) (m : Mem) (o : Offered) (why : Chains d m o) → AreMasked o.driver → HasMasks why.placement
chain_masks d m o why all = last_of_all (λ (y : Placed). HasMasks y.placement) d.periodic.plan.placed _ (subst (λ (g : Offered). AreMasked g.driver) why.is all)

-- the endpoint is the newest
chain_to_lend : (m : Mem) (d : DriverContent) (o : Offered) → (why : Chains d m o) → IsInPlace m d → IsInPlace o.memory o.driver
    → IsQhInRange (chained_head d why.desc why.placement why.holding_after)
    → IsChainToLend o.driver o.memory
chain_to_lend m d o why place now range =
    let x : Endpoint = placed_endpoint why.desc why.placement (slice_index (new_runs d why.holding_after) 0) (slice_index (new_runs d why.holding_after) 1) in
    let r : IsReadyAt o.driver o.memory (length d.endpoints) = chain_ready_at m d o why place range in
    let many : length o.driver.endpoints ≡ length d.endpoints + 1 = ap (λ (g : Offered). length g.driver.endpoints) why.is ∙ length-append d.endpoints (x ∷ []) in
    record {
      ready = r.ready;
      work = begun (queue_member (slice_index (new_runs d why.holding_after) 0) why.placement) false;
      begun = chain_begun m d o why place now;
      newest = (let at = r.at in omega (arith, at, many));
    }

pub chain_leaves : (s : Standing) (w : World) (line : ℕ) (x : EpDesc) (o : Offered) → IsAccepted s w line (commands.OpenEp x) o
    → QueuesGoOn (queued o.driver) s.near s.streams s.ends s.parts s.order s.out → (why : Chains w.driver w.memory o) → why.desc ≡ x → LeavesMixed s w o
chain_leaves s w line x o a queues why same =
    let d = w.driver in
    let cmd = commands.OpenEp x in
    let p = place s w line cmd o a in
    let n = in_place s w line cmd o a in
    let new : Endpoint = placed_endpoint why.desc why.placement (slice_index (new_runs d why.holding_after) 0) (slice_index (new_runs d why.holding_after) 1) in
    let command : o.driver.command ≡ Some unfinished.Chain = ap (λ (g : Offered). g.driver.command) why.is in
    let periodic : is_periodic x.kind ≡ true = ap (λ (y : EpDesc). is_periodic y.kind) (sym same) ∙ why.periodic in
    let want : IsWant (want_of 0 x) = a.room.3 periodic in
    let masks : HasMasks why.placement = chain_masks d w.memory o why (commands_keep_masks d w.memory cmd o a.mixed.masks a.is) in
    let range : IsQhInRange (chained_head d why.desc why.placement why.holding_after) =
    subst (λ (y : EpDesc). IsQhInRange (chained_head d y why.placement why.holding_after)) (sym same)
    (chained_head_is_in_range x why.placement _ (slice_index (new_runs d why.holding_after) 1) a.fits.numbers a.room.1 a.room.2 (multi_few x.speed x.multi want.multi) masks) in
    record {
      now = chain_keeps_now opening_base s.member s.recent s.descs s.parts s.hand s.frame (controller_parts w) d cmd o a.mixed.now why a.room a.is;
      ring = pushed_met d o.driver new s.member (idle s w line cmd o a) (ap (λ (g : Offered). g.driver.endpoints) why.is) (ap (λ (g : Offered). g.driver.waiting) why.is)
          (ap (λ (g : Offered). g.driver.rung) why.is)
          (λ e z here met is. let both : ◌≡◌ {A = Option Command} (Some unfinished.Chain) (Some (unfinished.Open z.queue)) = sym command ∙ is in cc)
          (λ e z here is met. false≢true (sym (near_ring o.driver e z n.sound.owners here met.near).0 ∙ (ap (λ (y : Endpoint). is_periodic y.desc.kind) is ∙ why.periodic))) a.mixed.ring;
      queues = queues;
      under_way = subst (λ (c : Option Command). IsUnderWay o.driver o.memory s.member s.recent s.parts c) (sym command)
          (inl (chain_to_lend w.memory d o why p n range));
    }
