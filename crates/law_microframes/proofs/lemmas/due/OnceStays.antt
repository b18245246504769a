-- An isochronous descriptor to which a word leads is led to still after an event of the driver, where its endpoint isn't cancelled and it
-- wasn't harvested (EHCI 1.0, 3.1, 3.3.1 and 4.6): nothing else unlinks it. A command unlinks none.
use Rattle.std.proofs.Common.{◌≡◌, ◌≢◌, ℕ, ◌*◌, ◌/◌, true, false, List, [], ◌∷◌, slice_get, Option, Some, None}
use Rattle.std.proofs.Common.{⊎_elim, inr, ap, refl, sym, ◌∙◌, arith}
use Rattle.std.proofs.lemmas.Bool.{true≢false, cases_Bool}
use Rattle.std.proofs.lemmas.Option.{same_Some}
use Rattle.drv_chains.specs.declared.members.Descriptor.{Descriptor}
use Rattle.drv_chains.specs.declared.members.Member.{Member}
use Rattle.drv_chains.specs.declared.members.Member.TheVariants.{Once}
use Rattle.drv_chains.specs.Chains.{id_of}
use Rattle.drv_members.specs.Members.{is_linked}
use Rattle.drv_periodic.specs.declared.work.Work.{Work}
use Rattle.drv_periodic_table.specs.Periodic.{descriptor_member}
use Rattle.drv_table.specs.declared.content.Command.{Command}
use Rattle.drv_table.specs.declared.content.Command.TheVariants as unfinished
use Rattle.drv_table.specs.declared.content.Transfer.{Transfer}
use Rattle.drv_table.specs.DriverContent.{DriverContent}
use Rattle.law_driver.specs.listed_members.Members.{IsStanding, IsListed, IsUnchaining, IsUnderWay, IsWaitingOf}
use Rattle.claims_driver.specs.Leaving.{HasOwners}
use Rattle.claims_driver.specs.Owners.{is_descriptor}
use Rattle.claims_driver.specs.Unlinked.{led}
use Rattle.claims_world.specs.DueAtBegin.{IsUncancelled}
use Rattle.claims_world.specs.SlotsAtBegin.{IsDescriptorOfEndpoint}
use Rattle.claims_world.specs.Visits.{begins}
use Rattle.law_driver.proofs.lemmas.listed_members.Standing.{IsSeen, seen, IsReported, unlinks_reported, descriptor_block, standing_block}
use Rattle.law_driver.proofs.lemmas.listed_members.Standing.{owns, one_number}
use Rattle.law_driver.proofs.lemmas.run_owners.Orders.{times_first, one_same}
use Rattle.law_driver.proofs.Common.{among_first}
use Rattle.law_frame_list.proofs.lemmas.list_spread.Spreading.{standing_there}
use Rattle.law_descriptors.proofs.Leading.{led_linked}
use Rattle.law_world.specs.memory.Mixed.{IsMixedWorld}
use Rattle.law_world.proofs.lemmas.memory.FrameLeft.{IsLast, IsUnlinkedFor, by_command, once_harvested, last_store, itself}
use Rattle.law_world.proofs.lemmas.memory.FrameOnce.{unreleased}
use Rattle.bus_world.specs.World.{World, driver_next}
use Rattle.law_microframes.proofs.lemmas.visits.ActiveStands.{same_run}

first_is : (x y : Member) (xs : List Member) → (x ∷ xs) ≡ (y ∷ []) → x ≡ y
first_is x y xs same = cc

none_works : (d : DriverContent) (v : Work) → d.periodic.list.work ≡ None → d.periodic.list.work ≡ Some v → ⊥
none_works d v none is = let never : ◌≡◌ {A = Option Work} None (Some v) = sym none ∙ is in cc never

-- ---- whose it is

module _ (d : DriverContent) (has : HasOwners d) (listed : IsListed d) (c : Descriptor)
    (on : is_linked d.periodic.list.members.schedule (Once c) ≡ true) (n : ℕ) (at : begins (Once c) ≡ n) where
  pub standing : IsStanding d (Once c)
  standing = standing_there d c listed on

  pub view : IsSeen d.endpoints d.transfers standing.number standing.placed
  view = seen d.endpoints d.transfers standing.number standing.placed standing.here

  held : view.transfer.released ≡ false
  held = unreleased d has (Once c) standing view

  begins_there : n ≡ 32 * view.transfer.first
  begins_there = sym at ∙ ap (λ (b : ℕ). 32 * b) (standing_block d (Once c) standing ∙ view.block)

  pub member_of_descriptor : IsDescriptorOfEndpoint d view.transfer.endpoint n
  member_of_descriptor = record {
    number = standing.number;
    transfer = view.transfer;
    here = view.there;
    sort = view.sort;
    held = held;
    at = begins_there;
    endpoint = refl;
  }

  -- ---- what the unfinished command unlinks is of a cancelled endpoint

  module _ (e : ℕ) (of : IsDescriptorOfEndpoint d e n) (off : IsUncancelled d e) where
    its : view.transfer ≡ of.transfer
    its =
        same_run d has standing.number of.number n view.transfer of.transfer view.there of.here view.sort of.sort
        held of.held begins_there of.at

    waits_not : (f : ℕ) (u : IsUnchaining d f) → IsWaitingOf d f 0 u.work.member → u.work.member ≡ Once c → ⊥
    waits_not f u l same =
        let number : standing.number ≡ l.number =
        one_number d (Once c) l.number l.placed (owns d has) standing l.here (inr l.waits) (ap id_of (sym same ∙ sym l.is)) in
        let w : IsSeen d.endpoints d.transfers l.number l.placed = seen d.endpoints d.transfers l.number l.placed l.here in
        let one : w.transfer ≡ view.transfer =
        same_Some w.transfer view.transfer (sym w.there ∙ ap (slice_get d.transfers) (sym number) ∙ view.there) in
        let its_endpoint : f ≡ e =
        sym l.endpoint ∙ w.endpoint ∙ ap (λ (y : Transfer). y.endpoint) (one ∙ its) ∙ of.endpoint in
        true≢false (sym u.cancelled ∙ off u.endpoint (ap (slice_get d.endpoints) (sym its_endpoint) ∙ u.here))

    unchains_not : (f : ℕ) → IsUnchaining d f → (v : Work) → d.periodic.list.work ≡ Some v → v.member ≡ Once c → ⊥
    unchains_not f u v is same =
        let member : u.work.member ≡ Once c = ap (λ (x : Work). x.member) (same_Some u.work v (sym u.begun ∙ is)) ∙ same in
        ⊎_elim (λ (iso : u.framed.isochronous ≡ true). waits_not f u ((u.leaving.descriptors iso).0).0 member)
        (λ (queued : u.framed.isochronous ≡ false).
        let l = u.leaving.queue queued in
        let never = sym member ∙ first_is u.work.member _ d.periodic.queued l.1.1 in cc never)
        (cases_Bool u.framed.isochronous)

    removes_not : (o : Option Command) → IsUnderWay d o → (v : Work) → d.periodic.list.work ≡ Some v → v.removes ≡ true
        → v.member ≡ Once c → ⊥
    removes_not None way v is removes same = none_works d v way.work is
    removes_not (Some (unfinished.Open b)) way v is removes same = none_works d v way.work is
    removes_not (Some (unfinished.Publish b words)) way v is removes same = none_works d v way.work is
    removes_not (Some (unfinished.Unlink f b link)) way v is removes same = none_works d v way.work is
    removes_not (Some unfinished.Chain) way v is removes same = true≢false (sym removes ∙ way.0 v is)
    removes_not (Some (unfinished.Iso f t count)) way v is removes same = true≢false (sym removes ∙ way.links v is)
    removes_not (Some (unfinished.Unchain f)) way v is removes same = unchains_not f way v is same

    pub not_removed : (v : Work) → d.periodic.list.work ≡ Some v → v.removes ≡ true → v.member ≢ Once c
    not_removed = removes_not d.command listed.way

    -- ---- nor was it harvested

    module _ (untold : of.transfer.reported ≡ false) where
      harvested_not : (t : ℕ) (y : Transfer) → slice_get d.periodic.unlinks 0 ≡ Some t → slice_get d.transfers t ≡ Some y
          → Once c ≡ descriptor_member d.periodic.notes y.first → ⊥
      harvested_not t y first there same =
          let r : IsReported d.transfers t = unlinks_reported d t has.orderly (among_first t d.periodic.unlinks first) in
          let is : r.transfer ≡ y = same_Some r.transfer y (sym r.there ∙ there) in
          let sort : is_descriptor y.sort ≡ true =
          has.orderly.unlinked t y (let n = times_first t t d.periodic.unlinks first in let o = one_same t in omega (arith, n, o)) there in
          let block : c.id / 32 ≡ y.first = ap (λ (m : Member). id_of m / 32) same ∙ descriptor_block d.periodic y.first in
          let one : y ≡ of.transfer =
          same_run d has t of.number n y of.transfer there of.here sort of.sort
          (ap (λ (z : Transfer). z.released) (sym is) ∙ r.released) of.held (sym at ∙ ap (λ (b : ℕ). 32 * b) block) of.at in
          true≢false (sym r.reported ∙ ap (λ (z : Transfer). z.reported) (is ∙ one) ∙ untold)

-- ---- an event of the driver

module _ (w : World) (k : IsMixedWorld w) (c : Descriptor) (on : is_linked (led w.driver) (Once c) ≡ true) (n : ℕ)
    (at : begins (Once c) ≡ n) (e : ℕ) (of : IsDescriptorOfEndpoint w.driver e n) (off : IsUncancelled w.driver e)
    (untold : of.transfer.reported ≡ false) where
  has : HasOwners w.driver
  has = k.mixed.now.framed.place.sound.owners

  listed : IsListed w.driver
  listed = k.mixed.now.framed.place.sound.listed

  linked : is_linked w.driver.periodic.list.members.schedule (Once c) ≡ true
  linked = led_linked w.driver.periodic.list.members.schedule w.driver.periodic.list.work (Once c) on

  module _ (out : is_linked (led (driver_next w).driver) (Once c) ≡ false) where
    abbrev last : IsLast k.standing w k.mixed (Once c) on out
    last = last_store k.standing w k.mixed (Once c) on out

    own : Once c ≡ last.work.member
    own = itself k.standing w k.mixed (Once c) on out

    by_cause : IsUnlinkedFor w.driver last.work → ⊥
    by_cause (by_command is) = not_removed w.driver has listed c linked n at e of off last.work is last.leaves.removes (sym own)
    by_cause (once_harvested t y first there same) =
        harvested_not w.driver has listed c linked n at e of off untold t y first there (own ∙ same)

    never_out : ⊥
    never_out = by_cause last.cause

  pub led_still : is_linked (led (driver_next w).driver) (Once c) ≡ true
  led_still =
      ⊎_elim (λ (still : is_linked (led (driver_next w).driver) (Once c) ≡ true). still)
      (λ (out : is_linked (led (driver_next w).driver) (Once c) ≡ false). absurd (never_out out))
      (cases_Bool (is_linked (led (driver_next w).driver) (Once c)))
