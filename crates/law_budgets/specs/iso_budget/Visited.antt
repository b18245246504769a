-- The visits of one microframe to the queue heads and to the isochronous descriptors of its frame (EHCI 1.0, 4.6, 4.7 and 4.10).
--     AreDifferent ks                   no descriptor stands there twice
--     IsDescriptorVisit d f k v         a visit to a descriptor that is due in frame f, of the endpoint that has it
--     AreDescriptorVisits d f ks vs     visits to these descriptors, one each and in their order
--     AreVisits d f vs ks ws            visits of frame f: vs to the queue heads of its chain, ws to these of its descriptors
use Rattle.std.specs.Prelude.{◌≡◌, ◌≢◌, ℕ, List, [], ◌∷◌}
use Rattle.std.specs.List.{AllByRecursion}
use Rattle.usb_base.specs.declared.packets.EpKind.TheVariants.{Interrupt}
use Rattle.drv_chains.specs.declared.members.Descriptor.{Descriptor}
use Rattle.drv_table.specs.DriverContent.{DriverContent}
use Rattle.law_budgets.specs.visit_prices.Spent.{Visit, placed_as}
use Rattle.law_budgets.specs.frame_budget.Visited.{VisitsDue}
use Rattle.claims_driver.specs.DueMembers.{IsDueDescriptor}

abbrev pub AreDifferent : List Descriptor → Type 0
AreDifferent [] = Unit {0}
AreDifferent (k ∷ ks) = AllByRecursion (λ l. l ≢ k) ks × AreDifferent ks

pub record IsDescriptorVisit (d : DriverContent) (f : ℕ) (k : Descriptor) (v : Visit) : Type 0 where
  pub due : IsDueDescriptor d f k
  pub of : v.of ≡ placed_as due.number due.endpoint.desc due.placement

abbrev pub AreDescriptorVisits : DriverContent → ℕ → List Descriptor → List Visit → Type 0
AreDescriptorVisits d f [] [] = Unit {0}
AreDescriptorVisits d f (k ∷ ks) (v ∷ vs) = IsDescriptorVisit d f k v × AreDescriptorVisits d f ks vs
AreDescriptorVisits d f [] (v ∷ vs) = ⊥
AreDescriptorVisits d f (k ∷ ks) [] = ⊥

pub record AreVisits (d : DriverContent) (f : ℕ) (vs : List Visit) (ks : List Descriptor) (ws : List Visit) : Type 0 where
  pub queues : VisitsDue d f vs
  pub interrupts : AllByRecursion (λ v. v.of.want.kind ≡ Interrupt) vs
  pub descriptors : AreDescriptorVisits d f ks ws
  pub different : AreDifferent ks
