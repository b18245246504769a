-- What an event of an interrupt endpoint's open leaves of the driver's content, and of the whole, once memory and queues are told.
use Rattle.std.proofs.Common.{◌≡◌, ℕ, suc, ◌*◌, ◌⊎◌, Bool, true, false, cond, List, Option, Some, None, nat_lt, ap, refl, sym, subst, ◌∙◌, ⊎_elim, inl, inr}
use Rattle.std.specs.Prelude.{is_none}
use Rattle.std.proofs.lemmas.Bool.{cases_eq}
use Rattle.law_world.proofs.Common.{none_some}
use Rattle.drv_periodic.specs.declared.work.Work.{Work}
use Rattle.drv_periodic_table.specs.Periodic.{PeriodicContent}
use Rattle.drv_periodic_table.specs.Linking.{with_first, begun_next}
use Rattle.drv_table.specs.declared.content.Command.{Command}
use Rattle.drv_table.specs.declared.content.Command.TheVariants as unfinished
use Rattle.drv_table.specs.declared.content.Endpoint.{Endpoint}
use Rattle.drv_table.specs.DriverContent.{DriverContent}
use Rattle.drv_table.specs.Commands.{removes_members, list_after, no_command, or_finished, advanced_by, advance}
use Rattle.claims_driver.specs.Leaving.{HasOwners}
use Rattle.law_structures.specs.lent_structures.Structures.{StructureSets}
use Rattle.law_ring.specs.Told.{Endpoint as Told}
use Rattle.law_driver_ring.specs.Linked.{with_member}
use Rattle.law_controller.specs.controlled_streams.Opened.{with_end, with_none}
use Rattle.law_driver.specs.chained_transfers.AsynchronousTurns.{AsynchronousTakesTurns}
use Rattle.law_driver_ring.specs.fed_queues.Places.{AreMet}
use Rattle.law_driver_ring.proofs.lemmas.fed_queues.Places.{same_ends, met_stays}
use Rattle.law_frames.specs.Met.{IsQueuePart}
use Rattle.law_queues.specs.open_laws.Opens.{end_then, streams_then}
use Rattle.law_queues.specs.open_laws.Queues.{IsOpenThere, open_finished}
use Rattle.law_world.specs.steps.control_queues.Queues.{IsOpenWhole}
use Rattle.law_world.proofs.lemmas.steps.lemmas.control_queues.Opens.{open_is_whole}
use Rattle.law_driver.specs.queued_drivers.Queued.{queued}
use Rattle.law_descriptors.specs.queue_events.Events.{PartsStand}
use Rattle.law_world.specs.memory.Mixed.{QueuesGoOn}
use Rattle.law_world.proofs.lemmas.memory.ChainNew.{new_sound}

-- ---- the driver's content

-- one event more was made, or its own events are over, and the command goes on or is finished
chain_either : (P : DriverContent → Type 0) (d : DriverContent) → d.command ≡ Some unfinished.Chain → P (record d { made = suc d.made }) → ((q : PeriodicContent) → P (record d { made = 1; periodic = q }))
    → ((q : PeriodicContent) → P (no_command (record d { made = 1; periodic = q }))) → P (advance d)
chain_either P d command more on over =
    let q = begun_next (removes_members unfinished.Chain) (record d.periodic { list = list_after d unfinished.Chain }) in
    subst (λ (o : Option Command). P (advanced_by d o)) (sym command) (by q (nat_lt (suc d.made) 1) (is_none q.list.work))
  where
    by : (q : PeriodicContent) (a b : Bool) → P (cond a (record d { made = suc d.made }) (cond b (no_command (record d { made = 1; periodic = q })) (record d { made = 1; periodic = q })))
    by q true b = more
    by q false true = over q
    by q false false = on q

-- the ring is the same
pub record SameRing (d f : DriverContent) : Type 0 where
  pub endpoints : f.endpoints ≡ d.endpoints
  pub waiting : f.waiting ≡ d.waiting
  pub rung : f.rung ≡ d.rung
  pub command : (f.command ≡ Some unfinished.Chain) ⊎ (f.command ≡ None)

pub record AfterChain (d f : DriverContent) : Type 0 where
  pub book : f.book ≡ d.book
  pub ring : SameRing d f

pub after_chain : (d : DriverContent) → d.command ≡ Some unfinished.Chain → AfterChain d (advance d)
after_chain d is =
    chain_either (AfterChain d) d is (record { book = refl; ring = record { endpoints = refl; waiting = refl; rung = refl; command = inl is } }) (λ q. record { book = refl; ring = record { endpoints = refl; waiting = refl; rung = refl; command = inl is } })
    (λ q. record { book = refl; ring = record { endpoints = refl; waiting = refl; rung = refl; command = inr refl } })

-- with something to link it goes on
some_begun : (q : PeriodicContent) (v : Work) → q.list.work ≡ Some v → begun_next false q ≡ q
some_begun q v work = ap (λ (o : Option Work). cond (is_none o) (with_first false q q.queued) q) work

pub chain_stays : (g : DriverContent) (q : PeriodicContent) (v : Work) → q.list.work ≡ Some v
    → (or_finished (record g { made = 1; periodic = begun_next false q }) unfinished.Chain).command ≡ g.command
chain_stays g q v work =
    ap (λ (r : PeriodicContent). (or_finished (record g { made = 1; periodic = r }) unfinished.Chain).command) (some_begun q v work)
    ∙ ap (λ (o : Option Work). (cond (is_none o) (no_command (record g { made = 1; periodic = q })) (record g { made = 1; periodic = q })).command) work

-- the walk of the ring meets the same queue heads
module _ (d f : DriverContent) (was : d.command ≡ Some unfinished.Chain) (a : SameRing d f) where
  never_opens : (o : Option Command) → (o ≡ Some unfinished.Chain) ⊎ (o ≡ None) → (q : ℕ) → o ≡ Some (unfinished.Open q) → ⊥
  never_opens o which q is = ⊎_elim (λ (chain : o ≡ Some unfinished.Chain). one (sym chain ∙ is)) (λ (none : o ≡ None). none_some (unfinished.Open q) (sym none ∙ is)) which
    where
      one : ◌≡◌ {A = Option Command} (Some unfinished.Chain) (Some (unfinished.Open q)) → ⊥
      one same = cc

  pub ring_on : (member : ℕ → Bool) → AreMet d member → AreMet f member
  ring_on member =
      met_stays d f member
      (same_ends d f (record { waiting = a.waiting; rung = a.rung; opens = λ q is. absurd (never_opens f.command a.command q is) })
      (record { waiting = sym a.waiting; rung = sym a.rung; opens = λ q is. absurd (never_opens d.command (inl was) q is) }) a.endpoints)

-- ---- the open is finished

module _ (d : DriverContent) (near streams : ℕ → Bool) (ends : ℕ → Told) (parts : StructureSets) (order : ℕ → ℕ → ℕ) (out : ℕ → List ℕ) (owners : HasOwners d) (turns : AsynchronousTakesTurns d) (k : IsOpenThere d parts) (g : QueuesGoOn d near streams ends parts order out) where
  abbrev x : Endpoint
  x = k.endpoint

  abbrev n : ℕ
  n = 32 * k.endpoint.queue

  whole : IsOpenWhole d k.number k.endpoint near streams ends parts order out
  whole = open_is_whole d near streams ends parts order out owners turns k g.queues

  one_queue : (a b : ℕ) → ◌≡◌ {A = Option Command} (Some (unfinished.Open a)) (Some (unfinished.Open b)) → b ≡ a
  one_queue a b same = cc

  all_sound : PartsStand (open_finished d) parts
  all_sound e y here m =
      ⊎_elim {C = IsQueuePart (32 * y.queue) (parts (32 * y.queue))} (λ (same : 32 * y.queue ≡ n). subst (λ (i : ℕ). IsQueuePart i (parts i)) (sym same) (new_sound x (parts n) k.part))
      (λ differs.
      g.sound e y here
      (record { there = record { linked = λ is. differs (ap (λ (q : ℕ). 32 * q) (one_queue x.queue y.queue (sym k.command ∙ is))); kept = m.there.kept }; near = m.near }))
      (cases_eq (32 * y.queue) n)

  pub finished_goes : QueuesGoOn (open_finished d) (with_member near (32 * k.endpoint.queue)) (streams_then streams k.endpoint) (with_end ends (32 * k.endpoint.queue) (end_then k.endpoint)) parts order (with_none out (32 * k.endpoint.queue))
  finished_goes = record { queues = whole.queues; sound = all_sound; tails = whole.tails g.tails; controls = whole.controls g.controls }
