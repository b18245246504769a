-- The visits go on with each event of the driver, by which row it is.
use Rattle.std.proofs.Common.{◌≡◌, ℕ, ◌≤◌, length, slice_get, Option, Some, None, ⊎_elim, ap, refl, sym, subst, ◌∙◌, arith, List}
use Rattle.std.proofs.lemmas.Bool.{false≢true}
use Rattle.drv_table.specs.declared.content.Command.{Command}
use Rattle.drv_table.specs.declared.content.Command.TheVariants as unfinished
use Rattle.drv_table.specs.declared.content.Transfer.{Transfer}
use Rattle.drv_table.specs.declared.rows.DriverRow.{DriverRow}
use Rattle.drv_table.specs.declared.rows.DriverRow.TheVariants as rows
use Rattle.drv_table.specs.Commands.{events_of, links}
use Rattle.drv_table.specs.Removals.{after_unlink}
use Rattle.drv_table.specs.Rows.{driver_row, after_driver_row}
use Rattle.law_driver.specs.run_owners.Due.{IsDue, IsNextOf, IsLinkOf}
use Rattle.claims_base.specs.Controller.{opening_base}
use Rattle.law_driver.proofs.lemmas.run_owners.Reasons.{each_event_is_due}
use Rattle.law_descriptors.specs.Both.{both}
use Rattle.law_descriptors.specs.ListRows.{ComesFirst}
use Rattle.bus_world.specs.World.{World, driver_parts, controller_parts, with_parts, driver_next}
use Rattle.law_world.specs.memory.framed_memory.NowRows.{FramedLinked}
use Rattle.law_world.proofs.lemmas.memory.lemmas.framed_memory.ChainedLent.{chain_comes_first}
use Rattle.law_world.proofs.lemmas.memory.lemmas.framed_memory.NowRows.{link_keeps_now}
use Rattle.law_world.specs.memory.Mixed.{IsChainToLend, IsChainThere, IsUnderWay, Standing, IsMixedAt}
use Rattle.law_microframes.specs.visits.Visited.{IsGoneOn, VisitsGoOnAt}
use Rattle.law_microframes.specs.visits.VisitLaws.{RowKeepsVisiting}
use Rattle.law_microframes.proofs.lemmas.visits.RowVisits.{described_visits, unchained_visits, chained_visits}
use Rattle.law_microframes.proofs.lemmas.visits.UnlinkVisits.{unlink_visits}
use Rattle.law_microframes.proofs.lemmas.visits.DriverVisits.{rest_visits, status_visits, cleared_visits, doorbell_visits, frame_read_visits, mend_visits, lend_visits, store_visits, frames_visits, described_lent_visits}
use Rattle.law_microframes.proofs.lemmas.visits.ReturnVisits.{transfer_visits, removed_visits, endpoint_visits}
use Rattle.law_microframes.proofs.lemmas.visits.HarvestVisits.{harvest_visits}

module _ (s : Standing) (w : World) (k : IsMixedAt s w) (start : World) (vs : List ℕ) (v : VisitsGoOnAt s start w vs) where
  -- ---- a queue head is linked in its frames

  chain_there : w.driver.command ≡ Some unfinished.Chain → 1 ≤ w.driver.made → IsChainThere w.driver s.member s.recent s.parts
  chain_there is late =
      ⊎_elim (λ (t : IsChainToLend w.driver w.memory). absurd (not_both w.driver.made t.ready.made late)) (λ (t : IsChainThere w.driver s.member s.recent s.parts). t)
      (subst (IsUnderWay w.driver w.memory s.member s.recent s.parts) is k.under_way)
    where
      not_both : (n : ℕ) → n ≡ 0 → 1 ≤ n → ⊥
      not_both n zero some = omega (arith, zero, some)

  linked_by : (why : IsLinkOf (driver_parts w) (driver_row (driver_parts w))) → (why.command ≡ unfinished.Chain → ComesFirst s.member s.recent (both s.descs s.parts) w.driver w.driver.periodic.list)
      → FramedLinked opening_base s.member s.recent s.descs s.parts s.hand s.frame (controller_parts w) w.driver why.store
  linked_by why comes =
      link_keeps_now opening_base s.member s.recent s.descs s.parts s.hand s.frame (controller_parts w) w.driver k.now why comes

  link_visits : (c : Command) → (why : IsLinkOf (driver_parts w) (driver_row (driver_parts w))) → why.command ≡ c → IsGoneOn start w (driver_next w) vs
  link_visits (unfinished.Open queue) why is = absurd (false≢true (ap links (sym is) ∙ why.links))
  link_visits (unfinished.Publish b words) why is = absurd (false≢true (ap links (sym is) ∙ why.links))
  link_visits (unfinished.Unlink e b link) why is = absurd (false≢true (ap links (sym is) ∙ why.links))
  link_visits unfinished.Chain why is =
      let command : w.driver.command ≡ Some unfinished.Chain = why.unfinished ∙ ap (λ (c : Command). Some c) is in
      let late : 1 ≤ w.driver.made = subst (λ (c : Command). length (events_of c) ≤ w.driver.made) is why.late in
      let t : IsChainThere w.driver s.member s.recent s.parts = chain_there command late in
      chained_visits s w k start vs v why
      (linked_by why (λ chain. chain_comes_first opening_base s.member s.recent s.descs s.parts s.hand s.frame (controller_parts w) w.driver k.now t.lent)) t.lent
  link_visits (unfinished.Iso e t count) why is =
      described_visits s w k start vs v why (linked_by why (λ chain. absurd (iso_chain e t count (sym is ∙ chain)))) e t count (why.unfinished ∙ ap (λ (c : Command). Some c) is)
    where
      iso_chain : (e t count : ℕ) → unfinished.Iso e t count ≡ unfinished.Chain → ⊥
      iso_chain e t count same = cc
  link_visits (unfinished.Unchain e) why is =
      unchained_visits s w k start vs v why (linked_by why (λ chain. absurd (unchain_chain e (sym is ∙ chain)))) e (why.unfinished ∙ ap (λ (c : Command). Some c) is)
    where
      unchain_chain : (e : ℕ) → unfinished.Unchain e ≡ unfinished.Chain → ⊥
      unchain_chain e same = cc

  -- ---- a harvested descriptor is unlinked

  unlinked_by : (t : ℕ) (o : Option Transfer) → slice_get w.driver.transfers t ≡ o → driver_row (driver_parts w) ≡ rows.Unlink t → IsGoneOn start w (driver_next w) vs
  unlinked_by t (Some y) there is = unlink_visits s w k start vs v t y is there
  unlinked_by t None there is =
      subst (λ (r : DriverRow). IsGoneOn start w (with_parts w (after_driver_row r (driver_parts w))) vs) (sym is)
      (subst (λ (o : Option Transfer). IsGoneOn start w (with_parts w (after_unlink (driver_parts w) t o)) vs) (sym there)
      (record { visits = v.visits; back = record { came = λ n off t. t; stood = λ n off h. h } }))

  by_row : (row : DriverRow) → driver_row (driver_parts w) ≡ row → IsDue (driver_parts w) row → IsGoneOn start w (driver_next w) vs
  by_row rows.Lend is due = lend_visits s w k start vs v is
  by_row (rows.Store b at x) is due =
      ⊎_elim (λ (next : IsNextOf (driver_parts w) (rows.Store b at x)). store_visits s w k start vs v b at x is next)
      (λ (link : IsLinkOf (driver_parts w) (rows.Store b at x)). let why = subst (IsLinkOf (driver_parts w)) (sym is) link in link_visits why.command why refl) due
  by_row (rows.Mend x) is due = mend_visits s w k start vs v x is
  by_row rows.Frames is due = frames_visits s w k start vs v is
  by_row rows.LendDescriptors is due = described_lent_visits s w k start vs v is
  by_row (rows.Unlink t) is due = unlinked_by t (slice_get w.driver.transfers t) refl is
  by_row (rows.ReleaseRemoved what) is due = removed_visits s w k start vs v what is
  by_row (rows.ReleaseTransfer t) is due = transfer_visits s w k start vs v t is
  by_row (rows.ReleaseEndpoint e) is due = endpoint_visits s w k start vs v e is
  by_row rows.ClearAdvance is due = cleared_visits s w k start vs v is
  by_row rows.RingBell is due = doorbell_visits s w k start vs v is
  by_row (rows.ReadStatus heard) is due = status_visits s w k start vs v heard is
  by_row (rows.ReadFrame n) is due = frame_read_visits s w k start vs v n is
  by_row (rows.Harvest e t found) is due = harvest_visits s w k start vs v e t found is
  by_row rows.Rest is due = rest_visits s w k start vs v is

pub each_row_keeps_visiting : (row : DriverRow) → RowKeepsVisiting row
each_row_keeps_visiting row s start w vs k v is =
    by_row s w k start vs v row is (subst (IsDue (driver_parts w)) is (each_event_is_due (driver_parts w)))
