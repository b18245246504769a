-- What is told of each queue where an endpoint leaves the ring.
use Rattle.std.proofs.Common.{◌≡◌, ℕ, ◌*◌, ◌≤◌, true, List, slice_get, Option, Some, None, option_map, ap, sym, subst, ◌∙◌, refl}
use Rattle.law_queues.proofs.Common.{not_open}
use Rattle.usb_base.specs.declared.reports.Report.{Report}
use Rattle.law_structures.specs.lent_structures.Structures.{StructureSets}
use Rattle.law_ring.specs.Hand.{Hand}
use Rattle.claims_report.specs.Streams.{has_stream}
use Rattle.drv_table.specs.declared.content.Endpoint.{Endpoint}
use Rattle.drv_table.specs.declared.content.Transfer.{Transfer}
use Rattle.drv_table.specs.declared.content.QtdNote.{QtdNote}
use Rattle.drv_table.specs.DriverContent.{DriverContent}
use Rattle.drv_table.specs.Harvests.{note_at}
use Rattle.law_queues.specs.told_endpoints.Telling.{named_of, named_in, TellsEach}
use Rattle.law_queues.proofs.lemmas.told_endpoints.Tellings.{keeps_names}
use Rattle.law_driver_ring.specs.told_harvests.Held.{told_of}
use Rattle.law_driver.specs.endpoint_lives.Lives.{told_end}
use Rattle.law_queues.specs.harvest_laws.Holds.{IsUnderWay, IsToCome, HoldsEach}
use Rattle.law_queues.specs.harvest_laws.Told.{ToldStands}
use Rattle.law_queues.specs.leaving_drivers.Before.{WasSame, IsAsBefore}

same_stream : (x z : Endpoint) → x.desc ≡ z.desc → has_stream x.desc.kind ≡ true → has_stream z.desc.kind ≡ true
same_stream x z same on = ap (λ d. has_stream d.kind) (sym same) ∙ on

before_holds : (d f : DriverContent) (hand : Hand) (parts : StructureSets) (held : ℕ → List ℕ) → IsAsBefore d f → HoldsEach d hand parts held → HoldsEach f hand parts held
before_holds d f hand parts held b k = record {
  next = λ e t z y is on.
      let w : WasSame d e z = b.ends e z is.endpoint in
      subst (λ (q : ℕ). IsUnderWay hand parts (32 * q) (note_at f.notes) y (held e)) (sym w.queue)
      (subst (λ (ns : List QtdNote). IsUnderWay hand parts (32 * w.endpoint.queue) (note_at ns) y (held e)) (sym b.notes)
      (k.next e t w.endpoint y (record { endpoint = w.here; going = sym w.ends ∙ is.going; next = sym w.next ∙ is.next; transfer = ap (λ (ts : List Transfer). slice_get ts t) (sym b.transfers) ∙ is.transfer }) (same_stream z w.endpoint w.desc on)));
  none = λ e z here last on. let w : WasSame d e z = b.ends e z here in k.none e w.endpoint w.here (sym w.next ∙ last) (same_stream z w.endpoint w.desc on);
  to_come = λ t y here waits kept other.
      subst (λ (ns : List QtdNote). IsToCome (note_at ns) y) (sym b.notes)
      (k.to_come t y (ap (λ (ts : List Transfer). slice_get ts t) (sym b.transfers) ∙ here) waits kept
      (λ x there is. let w : WasSame f y.endpoint x = b.ends_now y.endpoint x there in other w.endpoint w.here (sym w.next ∙ is)));
  within = λ t y here kept.
      subst (λ (ns : List QtdNote). told_of (note_at ns) y.first y.qtds ≤ y.most) (sym b.notes) (k.within t y (ap (λ (ts : List Transfer). slice_get ts t) (sym b.transfers) ∙ here) kept);
}

same_named : (x z : Endpoint) → z.desc ≡ x.desc → told_end z ≡ told_end x → named_of z ≡ named_of x
same_named x z desc ends = ap (λ d. record { name = d.name; stream = has_stream d.kind; ended = told_end z }) desc ∙ ap (λ c. record { name = x.desc.name; stream = has_stream x.desc.kind; ended = c }) ends

before_names : (d f : DriverContent) → IsAsBefore d f → (e : ℕ) → named_in f.endpoints e ≡ named_in d.endpoints e
before_names d f b e = by (slice_get f.endpoints e) (slice_get d.endpoints e) refl refl
  where
    none_some : (x : Endpoint) → None ≡ Some x → ⊥
    none_some x is = cc

    by : (o r : Option Endpoint) → slice_get f.endpoints e ≡ o → slice_get d.endpoints e ≡ r → option_map named_of o ≡ option_map named_of r
    by None None now was = refl
    by None (Some x) now was = let w : WasSame f e x = b.ends_now e x was in absurd (none_some w.endpoint (sym now ∙ w.here))
    by (Some z) r now was =
        let w : WasSame d e z = b.ends e z now in
        ap Some (same_named w.endpoint z w.desc w.ends) ∙ ap (option_map named_of) (sym w.here ∙ was)

pub leaves_are_told : (d f : DriverContent) (hand : Hand) (parts : StructureSets) (reported : ℕ → List ℕ) → IsAsBefore d f → ToldStands d hand parts reported → ToldStands f hand parts reported
leaves_are_told d f hand parts reported b k = record {
  held = k.held;
  told = k.told;
  holds = before_holds d f hand parts k.held b k.holds;
  tells = subst (λ (ls : List Report). TellsEach ls f.store (named_in f.endpoints) k.held k.told) (sym b.reports)
      (subst (λ (bs : List ℕ). TellsEach d.reports bs (named_in f.endpoints) k.held k.told) (sym b.store)
      (keeps_names d.reports d.store (named_in d.endpoints) (named_in f.endpoints) k.held k.told (before_names d f b) k.tells));
  met = λ e z here meets.
      let w : WasSame d e z = b.ends e z here in
      k.met e w.endpoint w.here (record { linked = not_open d.command w.endpoint.queue b.idle; kept = sym w.gone ∙ meets.kept }) ∙ ap (λ (q : ℕ). reported (32 * q)) (sym w.queue);
  opening = λ e z here kept opens. absurd (not_open f.command z.queue b.idle_now opens);
}
