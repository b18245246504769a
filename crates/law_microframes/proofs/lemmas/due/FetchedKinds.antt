-- What the walk fetches where the queue head of an interrupt endpoint in its frames stands is a queue head (EHCI 1.0, 3.1 and 4.6).
use Rattle.std.proofs.Common.{◌≡◌, ℕ, ◌*◌, ◌/◌, true, Option, Some, None, option_map, ap, refl, sym, subst, ◌∙◌, arith}
use Rattle.std.proofs.lemmas.Option.{same_Some}
use Rattle.word_mem.specs.Memory.{Mem}
use Rattle.link_words.specs.declared.kinds.Link.{Link}
use Rattle.link_words.specs.declared.kinds.Link.TheVariants as links
use Rattle.qh_qtd.specs.declared.queue_head.Qh.{Qh}
use Rattle.itd_sitd.specs.declared.itd.Itd.{Itd}
use Rattle.itd_sitd.specs.declared.sitd.Sitd.{Sitd}
use Rattle.bandwidth.specs.declared.placements.Placement.{Placement}
use Rattle.drv_members.specs.Members.{is_linked}
use Rattle.drv_periodic_table.specs.Periodic.{queue_name, queue_member}
use Rattle.drv_table.specs.declared.content.Endpoint.{Endpoint}
use Rattle.drv_table.specs.Kinds.{is_iso}
use Rattle.mem_queues.specs.Structures.{queue_head_at_address}
use Rattle.mem_descriptors.specs.Descriptors.{itd_at_address, sitd_at_address}
use Rattle.periodic_walk.specs.declared.chain.ChainRow.{ChainRow}
use Rattle.periodic_walk.specs.declared.chain.ChainRow.TheVariants as chains
use Rattle.periodic_walk.specs.Chain.{queue_fetch, itd_fetch, sitd_fetch, chain_row}
use Rattle.hc_core.specs.declared.controller.MicroframePart.TheVariants.{Periodic}
use Rattle.claims_driver.specs.FrameListMembers.{framed_of}
use Rattle.law_frames.specs.Met.{Kind, AQueue, AnItd, ASitd, LeadsTo}
use Rattle.law_descriptors.specs.Meeting.{met}
use Rattle.bus_world.specs.World.{World}
use Rattle.claims_world.specs.Visits.{fetched_by}
use Rattle.law_world.specs.memory.Mixed.{IsMixedWorld}
use Rattle.claims_world.specs.Coming.{IsInItsFrames}
use Rattle.law_microframes.proofs.lemmas.due.Linked.{queue_met}

pub begins_there : (q : ℕ) → 32 * (queue_name q / 32) ≡ 32 * q
begins_there q = omega arith

-- it is a member of the frame list
pub its_member : (w : World) (e q : ℕ) (p : Placement) → IsMixedWorld w → IsInItsFrames w.driver e q p
    → is_linked w.driver.periodic.list.members.schedule (queue_member q p) ≡ true
its_member w e q p k i =
    let x : Endpoint = i.endpoint in
    let on : is_linked w.driver.periodic.list.members.schedule (queue_member x.queue p) ≡ true =
    k.mixed.now.framed.place.queues.each e (framed_of x) p (ap (option_map framed_of) i.here) i.chained (ap is_iso i.kind) i.placed in
    ap (λ (b : ℕ). is_linked w.driver.periodic.list.members.schedule (queue_member b p)) (sym i.queue) ∙ on

-- ---- the link to what is fetched

itd_link : (a : ℕ) (o : Option Itd) (c : ℕ) (v : Itd) → itd_fetch a o ≡ chains.Itd c v → a ≡ c
itd_link a None c v is = absurd cc
itd_link a (Some x) c v is = cc

queue_itd : (a : ℕ) (o : Option Qh) (c : ℕ) (v : Itd) → queue_fetch a o ≡ chains.Itd c v → ⊥
queue_itd a None c v is = cc
queue_itd a (Some x) c v is = cc

sitd_itd : (a : ℕ) (o : Option Sitd) (c : ℕ) (v : Itd) → sitd_fetch a o ≡ chains.Itd c v → ⊥
sitd_itd a None c v is = cc
sitd_itd a (Some x) c v is = cc

by_itd : (m : Mem) (link : Link) (c : ℕ) (v : Itd) → chain_row m link ≡ chains.Itd c v → link ≡ links.Itd c
by_itd m links.End c v is = absurd cc
by_itd m (links.Itd a) c v is = ap links.Itd (itd_link a (itd_at_address m a) c v is)
by_itd m (links.Qh a) c v is = absurd (queue_itd a (queue_head_at_address m a) c v is)
by_itd m (links.Sitd a) c v is = absurd (sitd_itd a (sitd_at_address m a) c v is)
by_itd m (links.Fstn a) c v is = absurd cc

sitd_link : (a : ℕ) (o : Option Sitd) (c : ℕ) (v : Sitd) → sitd_fetch a o ≡ chains.Sitd c v → a ≡ c
sitd_link a None c v is = absurd cc
sitd_link a (Some x) c v is = cc

queue_sitd : (a : ℕ) (o : Option Qh) (c : ℕ) (v : Sitd) → queue_fetch a o ≡ chains.Sitd c v → ⊥
queue_sitd a None c v is = cc
queue_sitd a (Some x) c v is = cc

itd_sitd : (a : ℕ) (o : Option Itd) (c : ℕ) (v : Sitd) → itd_fetch a o ≡ chains.Sitd c v → ⊥
itd_sitd a None c v is = cc
itd_sitd a (Some x) c v is = cc

by_sitd : (m : Mem) (link : Link) (c : ℕ) (v : Sitd) → chain_row m link ≡ chains.Sitd c v → link ≡ links.Sitd c
by_sitd m links.End c v is = absurd cc
by_sitd m (links.Itd a) c v is = absurd (itd_sitd a (itd_at_address m a) c v is)
by_sitd m (links.Qh a) c v is = absurd (queue_sitd a (queue_head_at_address m a) c v is)
by_sitd m (links.Sitd a) c v is = ap links.Sitd (sitd_link a (sitd_at_address m a) c v is)
by_sitd m (links.Fstn a) c v is = absurd cc

-- ---- it is a queue head

other_kind : (o : Option Kind) (kind : Kind) → o ≡ Some AQueue → o ≡ Some kind → AQueue ≡ kind
other_kind o kind one two = same_Some AQueue kind (sym one ∙ two)

pub record IsFetchedQueue (row : ChainRow) (a : ℕ) : Type 0 where
  pub head : Qh
  pub is : row ≡ chains.Queue a head

module _ (w : World) (k : IsMixedWorld w) (part : w.control.part ≡ Periodic) (e q : ℕ) (p : Placement)
    (i : IsInItsFrames w.driver e q p) where
  leads : LeadsTo (met w.driver k.standing.recent) w.control.frame.cursor
  leads = (k.mixed.now.framed.runs.walk part).cursor

  met_queue : met w.driver k.standing.recent (32 * q) ≡ Some AQueue
  met_queue =
      ap (met w.driver k.standing.recent) (sym (begins_there q))
      ∙ queue_met k.standing w (record { id = queue_name q; period = p.period; phase = p.phase }) k.mixed (its_member w e q p k i) i.idle

  by_row : (r : ChainRow) (a : ℕ) → chain_row w.memory w.control.frame.cursor ≡ r → fetched_by r ≡ Some a → a ≡ 32 * q → IsFetchedQueue r a
  by_row chains.Fault a row is at = absurd cc
  by_row chains.Ends a row is at = absurd cc
  by_row (chains.Queue c h) a row is at = record { head = h; is = ap (λ (n : ℕ). chains.Queue n h) (same_Some c a is) }
  by_row (chains.Itd c v) a row is at =
      let link : w.control.frame.cursor ≡ links.Itd c = by_itd w.memory w.control.frame.cursor c v row in
      let one : met w.driver k.standing.recent c ≡ Some AnItd = subst (LeadsTo (met w.driver k.standing.recent)) link leads in
      let two : met w.driver k.standing.recent c ≡ Some AQueue = ap (met w.driver k.standing.recent) (same_Some c a is ∙ at) ∙ met_queue in
      let same : AQueue ≡ AnItd = other_kind (met w.driver k.standing.recent c) AnItd two one in
      absurd cc
  by_row (chains.Sitd c v) a row is at =
      let link : w.control.frame.cursor ≡ links.Sitd c = by_sitd w.memory w.control.frame.cursor c v row in
      let one : met w.driver k.standing.recent c ≡ Some ASitd = subst (LeadsTo (met w.driver k.standing.recent)) link leads in
      let two : met w.driver k.standing.recent c ≡ Some AQueue = ap (met w.driver k.standing.recent) (same_Some c a is ∙ at) ∙ met_queue in
      let same : AQueue ≡ ASitd = other_kind (met w.driver k.standing.recent c) ASitd two one in
      absurd cc

  pub fetched_queue : (a : ℕ) → fetched_by (chain_row w.memory w.control.frame.cursor) ≡ Some a → a ≡ 32 * q
      → IsFetchedQueue (chain_row w.memory w.control.frame.cursor) a
  fetched_queue a is at = by_row (chain_row w.memory w.control.frame.cursor) a refl is at
