-- No line of an isochronous endpoint ends it before it is given back: so it stays at each command, accepted or refused.
use Rattle.std.proofs.Common.{◌≡◌, ◌≢◌, ℕ, Bool, true, false, List, [], ◌∷◌, ◌++◌, length, set, slice_get}
use Rattle.std.proofs.Common.{Some, None, Result, Ok, Err, ap, refl, sym, subst, ◌∙◌, ⊎_elim}
use Rattle.std.specs.Prelude.{◌&&◌, not}
use Rattle.law_common.proofs.Lists.{push_which}
use Rattle.law_queues.proofs.Common.{set_which}
use Rattle.usb_base.specs.declared.commands.Cmd.{Cmd}
use Rattle.usb_base.specs.declared.endpoints.EpDesc.{EpDesc}
use Rattle.usb_base.specs.declared.endpoints.EpName.{EpName}
use Rattle.usb_base.specs.declared.reports.OfferError.{OfferError}
use Rattle.usb_base.specs.declared.reports.Report.{Report}
use Rattle.usb_base.specs.declared.reports.What.TheVariants.{Refused}
use Rattle.bus_wire.specs.Fates.{is_same_name}
use Rattle.word_mem.specs.Memory.{Mem}
use Rattle.drv_table.specs.declared.content.Endpoint.{Endpoint}
use Rattle.drv_table.specs.DriverContent.{DriverContent, endpoint_of}
use Rattle.drv_table.specs.Accepting.{Offered, first_waiting}
use Rattle.drv_table.specs.Kinds.{is_iso}
use Rattle.drv_table.specs.Offers.{offered, with_queued, new_endpoint, placed_endpoint}
use Rattle.law_driver.specs.run_owners.Accepts.{Accepts, opens, chains, places, transfers, describes, cancels, unchains}
use Rattle.law_driver.proofs.lemmas.run_owners.Commands.{each_command_has_its_reason}
use Rattle.law_driver.proofs.lemmas.queued_drivers.CommandLeaves.{unchained}
use Rattle.law_driver.specs.queued_drivers.Queued.{queued}
use Rattle.law_structures.specs.lent_structures.Structures.{StructureSets}
use Rattle.law_ring.specs.Hand.{Hand}
use Rattle.law_queues.specs.told_endpoints.Telling.{lines_in, has_end}
use Rattle.law_queues.specs.harvest_laws.Told.{ToldStands}
use Rattle.law_queues.proofs.lemmas.told_endpoints.Lines.{line_of_other}
use Rattle.bus_world.specs.World.{World, refused_line, commanded_by}
use Rattle.law_reports.specs.lines.Lined.{AreIsoGoing}
use Rattle.law_reports.proofs.lemmas.lines.CommandedEnds.{fresh_names}

module _ (d : DriverContent) (hand : Hand) (parts : StructureSets) (harvested : ℕ → List ℕ) (going : AreIsoGoing d)
    (told : ToldStands (queued d) hand parts harvested) where
  -- an endpoint more, of a new name
  pub more_goes : (f : DriverContent) (x : Endpoint) → f.endpoints ≡ d.endpoints ++ x ∷ [] → f.reports ≡ d.reports
      → endpoint_of d x.desc.name ≡ None → AreIsoGoing f
  more_goes f x ends reports new e y here iso kept =
      ⊎_elim (λ (was : slice_get d.endpoints e ≡ Some y).
      ap (λ (ls : List Report). has_end (lines_in y.desc.name ls)) reports ∙ going e y was iso kept)
      (λ (own : (e ≡ length d.endpoints) × (y ≡ x)).
      ap (λ (ls : List Report). has_end (lines_in y.desc.name ls)) reports
      ∙ ap (λ (z : Endpoint). has_end (lines_in z.desc.name d.reports)) own.1
      ∙ ap has_end (told.tells.only x.desc.name (fresh_names d x.desc.name new)))
      (push_which d.endpoints x e y (ap (λ (xs : List Endpoint). slice_get xs e) (sym ends) ∙ here))

  -- one of the endpoints is told anew
  pub anew_goes : (f : DriverContent) (e : ℕ) (x z : Endpoint) → slice_get d.endpoints e ≡ Some x → f.endpoints ≡ set d.endpoints e z
      → z.desc ≡ x.desc → z.gone ≡ x.gone → f.reports ≡ d.reports → AreIsoGoing f
  anew_goes f e x z at ends desc gone reports i y here iso kept =
      ⊎_elim (λ (own : (i ≡ e) × (y ≡ z)).
      let same : y.desc ≡ x.desc = ap (λ (v : Endpoint). v.desc) own.1 ∙ desc in
      ap (λ (ls : List Report). has_end (lines_in y.desc.name ls)) reports
      ∙ ap (λ (c : EpDesc). has_end (lines_in c.name d.reports)) same
      ∙ going e x at (ap (λ (c : EpDesc). is_iso c.kind) (sym same) ∙ iso) (sym (ap (λ (v : Endpoint). v.gone) own.1 ∙ gone) ∙ kept))
      (λ (other : (i ≢ e) × (slice_get d.endpoints i ≡ Some y)).
      ap (λ (ls : List Report). has_end (lines_in y.desc.name ls)) reports ∙ going i y other.1 iso kept)
      (set_which d.endpoints e i x z y at (ap (λ (xs : List Endpoint). slice_get xs i) (sym ends) ∙ here))

  accepted_goes : (m : Mem) (o : Offered) → Accepts d m o → AreIsoGoing o.driver
  accepted_goes m o (opens w) =
      more_goes o.driver (new_endpoint w.desc _ _) (ap (λ (g : Offered). g.driver.endpoints) w.is)
      (ap (λ (g : Offered). g.driver.reports) w.is)
      w.new_name
  accepted_goes m o (chains w) =
      more_goes o.driver (placed_endpoint w.desc w.placement _ _) (ap (λ (g : Offered). g.driver.endpoints) w.is)
      (ap (λ (g : Offered). g.driver.reports) w.is) w.new_name
  accepted_goes m o (places w) =
      more_goes o.driver (placed_endpoint w.desc w.placement 0 0) (ap (λ (g : Offered). g.driver.endpoints) w.is)
      (ap (λ (g : Offered). g.driver.reports) w.is) w.new_name
  accepted_goes m o (transfers w) =
      anew_goes o.driver w.number w.endpoint (with_queued w.endpoint _ (length d.transfers)) w.here
      (ap (λ (g : Offered). g.driver.endpoints) w.is)
      refl refl (ap (λ (g : Offered). g.driver.reports) w.is)
  accepted_goes m o (describes w) =
      anew_goes o.driver w.number w.endpoint (record w.endpoint { next = first_waiting w.endpoint.next (length d.transfers) }) w.here
      (ap (λ (g : Offered). g.driver.endpoints) w.is) refl refl (ap (λ (g : Offered). g.driver.reports) w.is)
  accepted_goes m o (cancels w) =
      anew_goes o.driver w.number w.endpoint _ w.here (ap (λ (g : Offered). g.driver.endpoints) w.is) refl refl
      (ap (λ (g : Offered). g.driver.reports) w.is)
  accepted_goes m o (unchains w) =
      let u = unchained d m o w in
      anew_goes o.driver w.number w.endpoint _ w.here (ap (λ (f : DriverContent). f.endpoints) u.is) refl refl
      (ap (λ (f : DriverContent). f.reports) u.is)

  refusal : (b : Bool) → (b && not true) ≡ false
  refusal true = refl
  refusal false = refl

  refused_goes : (line : ℕ) (name : EpName) (why : OfferError) → AreIsoGoing (refused_line d line name why)
  refused_goes line name why e y here iso kept =
      let one : Report = record { name = name; what = Refused line why; from = length d.store; len = 0 } in
      ap has_end (line_of_other y.desc.name d.reports one (refusal (is_same_name name y.desc.name))) ∙ going e y here iso kept

  pub command_goes : (w : World) (line : ℕ) (name : EpName) (cmd : Cmd) (r : Result Offered OfferError) → w.driver ≡ d
      → offered w.driver w.memory cmd ≡ r → AreIsoGoing (commanded_by w line name r).driver
  command_goes w line name cmd (Ok o) same is =
      accepted_goes w.memory o (subst (λ (c : DriverContent). Accepts c w.memory o) same
      (each_command_has_its_reason w.driver w.memory cmd o is))
  command_goes w line name cmd (Err why) same is =
      subst (λ (c : DriverContent). AreIsoGoing (refused_line c line name why)) (sym same) (refused_goes line name why)
