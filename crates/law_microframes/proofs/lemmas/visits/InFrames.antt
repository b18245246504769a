-- The member that is the queue head of an interrupt endpoint stands in the frames in which the endpoint's placement is active (EHCI 1.0, 3.6 and 4.6); and an event of the driver takes
-- no queue head for that of another endpoint, nor changes a placement.
use Rattle.std.proofs.Common.{◌≡◌, ℕ, ◌*◌, ◌/◌, ◌%◌, true, false, List, slice_get, Some, option_map, ap, sym, subst, ◌∙◌}
use Rattle.std.proofs.lemmas.Option.{same_Some}
use Rattle.law_driver.proofs.Common.{each_is, same_endpoint}
use Rattle.law_common.proofs.Numbers.{same_test, same_blocks}
use Rattle.law_frame_list.proofs.Common.{no_descriptor}
use Rattle.drv_chains.specs.declared.members.Descriptor.{Descriptor}
use Rattle.drv_chains.specs.declared.members.QueueHead.{QueueHead as Queue}
use Rattle.drv_chains.specs.declared.members.Member.{Member}
use Rattle.drv_chains.specs.declared.members.Member.TheVariants.{Once, Each}
use Rattle.drv_chains.specs.Chains.{is_active as queue_stands}
use Rattle.drv_members.specs.Members.{is_linked}
use Rattle.bandwidth.specs.declared.placements.Placement.{Placement}
use Rattle.bandwidth.specs.Placements.{frame_period}
use Rattle.bandwidth.specs.Sums.{is_active}
use Rattle.drv_periodic_table.specs.Periodic.{queue_name, queue_member}
use Rattle.drv_table.specs.declared.content.Endpoint.{Endpoint}
use Rattle.drv_table.specs.declared.content.Transfer.{Transfer}
use Rattle.drv_table.specs.declared.rows.DriverRow.{DriverRow}
use Rattle.drv_table.specs.DriverContent.{DriverContent}
use Rattle.drv_table.specs.Parts.{Parts}
use Rattle.drv_table.specs.Rows.{after_driver_row}
use Rattle.claims_driver.specs.Owners.{QueueHead, is_descriptor, runs_of_transfer, views_of}
use Rattle.claims_driver.specs.Leaving.{HasOwners}
use Rattle.claims_driver.specs.FrameListMembers.{Framed}
use Rattle.law_driver.specs.listed_members.Members.{IsQueueOf, IsListed}
use Rattle.law_driver.proofs.lemmas.listed_members.Owned.{queue_owned, descriptor_owned}
use Rattle.law_driver.proofs.lemmas.listed_members.Standing.{IsFramed, framed}
use Rattle.law_driver.proofs.lemmas.ring_members.Placed.{queue_placed, has_queue}
use Rattle.law_driver.specs.planned_endpoints.Planned.{IsPlanned}
use Rattle.law_frame_list.proofs.lemmas.list_spread.Spreading.{queue_there, standing_there}
use Rattle.law_budgets.specs.visit_prices.Spent.{IsAmong, placed_as}
use Rattle.claims_world.specs.Visits.{begins}
use Rattle.law_microframes.specs.visits.Visited.{IsActiveAs}
use Rattle.law_microframes.specs.visits.Belonging.{placed_of, IsQueueAt, IsStillAt}
use Rattle.law_microframes.proofs.lemmas.visits.BelongSeen.{seen_in, row_seen}
use Rattle.law_microframes.proofs.lemmas.visits.BelongPlan.{row_less}
use Rattle.law_microframes.proofs.lemmas.visits.BelongKeeps.{not_iso, stays_in, queue_stays}

-- ---- one endpoint's at one place

module _ (d : DriverContent) (has : HasOwners d) (n : ℕ) where
  owned_at : (b : IsQueueAt d n) → has.owner b.belongs.endpoint.queue ≡ QueueHead b.belongs.number
  owned_at b = (queue_placed d b.belongs.number b.belongs.endpoint has b.belongs.here (has_queue b.belongs.endpoint (not_iso b.kind) b.belongs.kept)).owned

  number_by : (b : IsQueueAt d n) (block e : ℕ) → n ≡ 32 * block → has.owner block ≡ QueueHead e → b.belongs.number ≡ e
  number_by b block e at owned =
      let same : b.belongs.endpoint.queue ≡ block = same_blocks b.belongs.endpoint.queue block (sym b.name ∙ at) in
      same_endpoint b.belongs.number e (sym (owned_at b) ∙ ap has.owner same ∙ owned)

  pub one_number : (b c : IsQueueAt d n) → b.belongs.number ≡ c.belongs.number
  one_number b c = number_by b c.belongs.endpoint.queue c.belongs.number c.name (owned_at c)

  pub one_placed : (b c : IsQueueAt d n) → placed_of b.belongs ≡ placed_of c.belongs
  one_placed b c =
      let number : b.belongs.number ≡ c.belongs.number = one_number b c in
      let endpoint : b.belongs.endpoint ≡ c.belongs.endpoint
      = same_Some b.belongs.endpoint c.belongs.endpoint (sym b.belongs.here ∙ ap (slice_get d.endpoints) number ∙ c.belongs.here) in
      let placement : b.belongs.placement ≡ c.belongs.placement
      = same_Some b.belongs.placement c.belongs.placement (sym b.belongs.placed ∙ ap (λ (x : Endpoint). x.placement) endpoint ∙ c.belongs.placed) in
      ap (λ (e : ℕ). placed_as e b.belongs.endpoint.desc b.belongs.placement) number
      ∙ ap (λ (x : Endpoint). placed_as c.belongs.number x.desc b.belongs.placement) endpoint
      ∙ ap (λ (p : Placement). placed_as c.belongs.number c.belongs.endpoint.desc p) placement

  -- no descriptor with a run begins there
  pub no_transfer : (b : IsQueueAt d n) (t : ℕ) (y : Transfer) → slice_get d.transfers t ≡ Some y → is_descriptor y.sort ≡ true → y.released ≡ false → n ≡ 32 * y.first → ⊥
  no_transfer b t y there sort held at =
      let o = has.owned.each.described t (runs_of_transfer y) (ap (option_map runs_of_transfer) there) sort held in
      let same : b.belongs.endpoint.queue ≡ y.first = same_blocks b.belongs.endpoint.queue y.first (sym b.name ∙ at) in
      no_descriptor b.belongs.number t ((views_of d).descriptor y.first).split (sym (owned_at b) ∙ ap has.owner same ∙ o.descriptor.owned)

-- ---- a member of the list

frames_of : (q : Queue) (b : ℕ) (p : Placement) (f : ℕ) → Each q ≡ queue_member b p → queue_stands f q ≡ is_active p f
frames_of q b p f e =
    let is = each_is q (record { id = queue_name b; period = p.period; phase = p.phase }) e in
    ap (queue_stands f) is ∙ same_test p.phase (f % frame_period p.period)

module _ (d : DriverContent) (has : HasOwners d) (listed : IsListed d) (n : ℕ) where
  queue_active : (q : Queue) → is_linked d.periodic.list.members.schedule (Each q) ≡ true → begins (Each q) ≡ n → IsActiveAs d n (Each q)
  queue_active q on at b f stands =
      let s : IsQueueOf d q = queue_there d q listed on in
      let number : b.belongs.number ≡ s.number = number_by d has n b (q.id / 32) s.number (sym at) (queue_owned d q has s).owned in
      let x : IsFramed d.endpoints s.number s.framed = framed d.endpoints s.number s.framed s.here in
      let endpoint : x.endpoint ≡ b.belongs.endpoint = same_Some x.endpoint b.belongs.endpoint (sym x.here ∙ ap (slice_get d.endpoints) (sym number) ∙ b.belongs.here) in
      let place : s.place ≡ b.belongs.placement
      = same_Some s.place b.belongs.placement (sym s.placed ∙ ap (λ (z : Framed). z.placement) x.is ∙ ap (λ (z : Endpoint). z.placement) endpoint ∙ b.belongs.placed) in
      ap (λ (p : Placement). is_active p f) (sym place) ∙ sym (frames_of q s.framed.queue s.place f s.is) ∙ stands

  descriptor_active : (c : Descriptor) → is_linked d.periodic.list.members.schedule (Once c) ≡ true → begins (Once c) ≡ n → IsActiveAs d n (Once c)
  descriptor_active c on at b f stands =
      let o = descriptor_owned d c has (standing_there d c listed on) in
      let same : b.belongs.endpoint.queue ≡ c.id / 32 = same_blocks b.belongs.endpoint.queue (c.id / 32) (sym b.name ∙ sym at) in
      absurd (no_descriptor b.belongs.number o.1.0 o.0 (sym (owned_at d has n b) ∙ ap has.owner same ∙ o.1.1.owned))

  pub linked_active : (x : Member) → is_linked d.periodic.list.members.schedule x ≡ true → begins x ≡ n → IsActiveAs d n x
  linked_active (Each q) on at = queue_active q on at
  linked_active (Once c) on at = descriptor_active c on at

-- ---- whose it was

pub same_back : (d new : DriverContent) → IsPlanned d → new.endpoints ≡ d.endpoints → new.periodic.plan ≡ d.periodic.plan → (n : ℕ) (b : IsQueueAt new n) → IsStillAt b d
same_back d new planned ends plan n b =
    queue_stays new d n b
    (stays_in new d n b.belongs planned (ap (λ (xs : List Endpoint). seen_in xs b.belongs.number) (sym ends)) (subst (λ p. IsAmong p.placed (placed_of b.belongs)) plan b.belongs.planned))

pub row_back : (row : DriverRow) (p : Parts) → IsPlanned p.driver → (n : ℕ) (b : IsQueueAt (after_driver_row row p).driver n) → IsStillAt b p.driver
row_back row p planned n b =
    queue_stays (after_driver_row row p).driver p.driver n b
    (stays_in (after_driver_row row p).driver p.driver n b.belongs planned (sym (row_seen b.belongs.number row p)) (row_less row p (placed_of b.belongs) b.belongs.planned))
