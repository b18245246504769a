-- What is told of each queue where a command is accepted.
use Rattle.std.proofs.Common.{◌≡◌, ◌≢◌, ℕ, ◌*◌, nat_lt, Bool, true, false, cond, if◌then◌else◌, ◌==◌, List, [], ◌∷◌, ◌++◌, length, position, slice_get, slice_set, slice_index, Option, Some, None, option_map, ap, refl, sym, subst, ◌∙◌, ⊎_elim, arith}
use Rattle.std.specs.Prelude.{◌⊎◌}
use Rattle.std.specs.List.{position_or_len}
use Rattle.std.proofs.lemmas.Bool.{cases_eq, false≢true}
use Rattle.std.proofs.lemmas.Option.{same_Some, slice_get_within, slice_get_past}
use Rattle.law_common.proofs.Numbers.{is_less}
use Rattle.law_common.proofs.Lists.{pushed_last, pushed_beside, set_here, set_there, push_which}
use Rattle.law_queues.proofs.Common.{has_place, set_which}
use Rattle.usb_base.specs.declared.reports.Report.{Report}
use Rattle.word_mem.specs.Memory.{Mem}
use Rattle.mem_runs.specs.Book.{holding, Stands}
use Rattle.law_structures.specs.lent_structures.Structures.{StructureSets}
use Rattle.law_ring.specs.Hand.{Hand}
use Rattle.bus_wire.specs.Fates.{is_same_name}
use Rattle.drv_table.specs.declared.content.Endpoint.{Endpoint}
use Rattle.drv_table.specs.declared.content.Command.TheVariants as unfinished
use Rattle.drv_table.specs.DriverContent.{DriverContent, is_same_name as is_driver_name}
use Rattle.drv_table.specs.Accepting.{Offered, new_runs}
use Rattle.drv_table.specs.Offers.{new_endpoint}
use Rattle.claims_driver.specs.Owners.{note_in}
use Rattle.law_driver.specs.run_owners.Accepts.{Opens, Transfers}
use Rattle.claims_driver.specs.Leaving.{HasOwners}
use Rattle.law_driver.specs.chained_transfers.Turns.{AreAtPlaces}
use Rattle.law_driver.specs.chained_transfers.Accepted.{IsAsked}
use Rattle.law_driver.specs.chained_transfers.Asynchronous.{IsRequested}
use Rattle.law_queues.specs.told_endpoints.Telling.{Named, named_of, named_in, IsToldTo, TellsEach}
use Rattle.law_queues.specs.told_endpoints.Steps.{Clears}
use Rattle.law_queues.proofs.lemmas.told_endpoints.Names.{driver_name}
use Rattle.law_queues.proofs.lemmas.told_endpoints.Tellings.{keeps_names, open_adds_endpoint}
use Rattle.law_queues.proofs.lemmas.harvest_laws.RowRows.{cleared_at}
use Rattle.law_queues.specs.harvest_laws.HeldLaws.{AreThere}
use Rattle.law_queues.proofs.lemmas.harvest_laws.Opening.{open_holds}
use Rattle.law_queues.proofs.lemmas.harvest_laws.Asking.{asked_holds, requested_holds}
use Rattle.law_queues.specs.harvest_laws.Holds.{HoldsEach}
use Rattle.law_queues.specs.harvest_laws.Told.{ToldStands}
use Rattle.law_driver_ring.specs.fed_queues.Places.{IsThere}

-- ---- lists

not_found : (b : Bool) (i : ℕ) → cond b (Some i) None ≡ None → b ≡ false
not_found true i is = absurd cc
not_found false i is = refl

pub none_passes : (p : Endpoint → Bool) (xs : List Endpoint) → position p xs ≡ None → (k : ℕ) (y : Endpoint) → slice_get xs k ≡ Some y → p y ≡ false
none_passes p xs none k y here = by_pass (p y) refl
  where
    by_pass : (b : Bool) → p y ≡ b → b ≡ false
    by_pass false is = refl
    by_pass true is =
        absurd (false≢true (sym (not_found (nat_lt (position_or_len p xs) (length xs)) (position_or_len p xs) none) ∙ is_less (position_or_len p xs) (length xs) (has_place p xs k y here is)))

-- ---- what is told depends on the endpoints that there are

pub tells_like : (reports : List Report) (store : List ℕ) (named : ℕ → Option Named) (held later told now : ℕ → List ℕ) → ((e : ℕ) (x : Named) → named e ≡ Some x → (later e ≡ held e) × (now e ≡ told e)) → TellsEach reports store named held told
    → TellsEach reports store named later now
tells_like reports store named held later told now same k = record {
  stored = k.stored;
  each = λ e x here on.
      subst (λ (xs : List ℕ). IsToldTo reports store x xs (now e)) (sym (same e x here).0) (subst (λ (xs : List ℕ). IsToldTo reports store x (held e) xs) (sym (same e x here).1) (k.each e x here on));
  only = k.only;
  apart = k.apart;
}

pub named_there : (xs : List Endpoint) (e : ℕ) (x : Named) → named_in xs e ≡ Some x → (y : Endpoint) × (slice_get xs e ≡ Some y) × (named_of y ≡ x)
named_there xs e x is = by_end (slice_get xs e) refl is
  where
    by_end : (o : Option Endpoint) → slice_get xs e ≡ o → option_map named_of o ≡ Some x → (y : Endpoint) × (slice_get xs e ≡ Some y) × (named_of y ≡ x)
    by_end None here none = absurd cc
    by_end (Some y) here some = (y, here, same_Some (named_of y) x some)

-- ---- an endpoint is opened

pub opened_is_told : (d : DriverContent) (m : Mem) (o : Offered) (hand : Hand) (parts : StructureSets) (reported : ℕ → List ℕ) → Opens d m o → ((e : ℕ) (x : Endpoint) → slice_get d.endpoints e ≡ Some x → x.gone ≡ false → o.driver.command ≢ Some (unfinished.Open x.queue))
    → ToldStands d hand parts reported → ToldStands o.driver hand parts reported
opened_is_told d m o hand parts reported why others k = record {
  held = later;
  told = now;
  holds = open_holds d m o hand parts k.held later why clears k.holds;
  tells = subst (λ (g : Offered). TellsEach g.driver.reports g.driver.store (named_in g.driver.endpoints) later now) (sym why.is)
      (open_adds_endpoint d.reports d.store (named_in d.endpoints) (named_in (d.endpoints ++ x ∷ [])) later now n (named_of x) (ap (option_map named_of) (slice_get_past d.endpoints n (omega arith)))
      (record { here = ap (option_map named_of) (pushed_last d.endpoints x); beside = λ e differs. ap (option_map named_of) (pushed_beside d.endpoints x e differs) }) refl
      (λ e y here.
      let z = named_there d.endpoints e y here in
      ap (λ (v : Named). is_same_name v.name why.desc.name) (sym z.2) ∙ sym (driver_name z.0.desc.name why.desc.name) ∙ none_passes (λ v. is_driver_name v.desc.name why.desc.name) d.endpoints why.new_name e z.0 z.1)
      clears.here (cleared_at n k.told).here
      (tells_like d.reports d.store (named_in d.endpoints) k.held later k.told now (λ e y here. let z = named_there d.endpoints e y here in (clears.beside e (older e z.0 z.1), (cleared_at n k.told).beside e (older e z.0 z.1))) k.tells));
  met = λ e y here meets.
      ⊎_elim (λ (was : slice_get d.endpoints e ≡ Some y). (cleared_at n k.told).beside e (older e y was) ∙ k.met e y was (idle y meets.kept))
      (λ (new : (e ≡ n) × (y ≡ x)). absurd (meets.linked (ap (λ (g : Offered). g.driver.command) why.is ∙ ap (λ (v : Endpoint). Some (unfinished.Open v.queue)) (sym new.1)))) (which e y here);
  opening = λ e y here kept is.
      ⊎_elim (λ (was : slice_get d.endpoints e ≡ Some y). absurd (others e y was kept is)) (λ (new : (e ≡ n) × (y ≡ x)). ap now new.0 ∙ (cleared_at n k.told).here) (which e y here);
}
  where
    x : Endpoint
    x = new_endpoint why.desc (slice_index (new_runs d why.holding_after) 0) (slice_index (new_runs d why.holding_after) 1)

    n : ℕ
    n = length d.endpoints

    later : ℕ → List ℕ
    later f = if f == length d.endpoints then [] else k.held f

    now : ℕ → List ℕ
    now f = if f == length d.endpoints then [] else k.told f

    clears : Clears (length d.endpoints) k.held later
    clears = cleared_at (length d.endpoints) k.held

    older : (e : ℕ) (y : Endpoint) → slice_get d.endpoints e ≡ Some y → e ≢ length d.endpoints
    older e y here is = let low = slice_get_within d.endpoints e y here in omega (arith, low, is)

    no_open : (b : ℕ) → None ≡ Some (unfinished.Open b) → ⊥
    no_open b is = cc

    idle : (y : Endpoint) → y.gone ≡ false → IsThere d y
    idle y kept = record { linked = λ is. no_open y.queue (sym why.idle ∙ is); kept = kept }

    which : (e : ℕ) (y : Endpoint) → slice_get o.driver.endpoints e ≡ Some y → (slice_get d.endpoints e ≡ Some y) ⊎ ((e ≡ length d.endpoints) × (y ≡ x))
    which e y here = push_which d.endpoints x e y (ap (λ (g : Offered). slice_get g.driver.endpoints e) (sym why.is) ∙ here)

-- ---- a transfer is asked

transfer_told : (d : DriverContent) (m : Mem) (o : Offered) (hand : Hand) (parts : StructureSets) (reported : ℕ → List ℕ) (why : Transfers d m o) → ((held : ℕ → List ℕ) → HoldsEach d hand parts held → HoldsEach o.driver hand parts held)
    → ToldStands d hand parts reported → ToldStands o.driver hand parts reported
transfer_told d m o hand parts reported why holds_on k = record {
  held = k.held;
  told = k.told;
  holds = holds_on k.held k.holds;
  tells = subst (λ (ls : List Report). TellsEach ls o.driver.store (named_in o.driver.endpoints) k.held k.told) (sym (ap (λ (g : Offered). g.driver.reports) why.is))
      (subst (λ (bs : List ℕ). TellsEach d.reports bs (named_in o.driver.endpoints) k.held k.told) (sym (ap (λ (g : Offered). g.driver.store) why.is))
      (keeps_names d.reports d.store (named_in d.endpoints) (named_in o.driver.endpoints) k.held k.told names k.tells));
  met = λ e y here meets. let w = was e y here in k.met e w.0 w.1 (idle w.0 (w.3 ∙ meets.kept)) ∙ ap (λ (q : ℕ). reported (32 * q)) w.2;
  opening = λ e y here kept is. absurd (no_publish y.queue is);
}
  where
    no_open : (b : ℕ) → None ≡ Some (unfinished.Open b) → ⊥
    no_open b is = cc

    idle : (y : Endpoint) → y.gone ≡ false → IsThere d y
    idle y kept = record { linked = λ is. no_open y.queue (sym why.idle ∙ is); kept = kept }

    not_publish : (b c : ℕ) (words : List ℕ) → Some (unfinished.Publish c words) ≡ Some (unfinished.Open b) → ⊥
    not_publish b c words is = cc

    no_publish : (b : ℕ) → o.driver.command ≡ Some (unfinished.Open b) → ⊥
    no_publish b is = not_publish b why.endpoint.dummy _ (sym (ap (λ (g : Offered). g.driver.command) why.is) ∙ is)

    was : (e : ℕ) (y : Endpoint) → slice_get o.driver.endpoints e ≡ Some y → (z : Endpoint) × (slice_get d.endpoints e ≡ Some z) × (z.queue ≡ y.queue) × (z.gone ≡ y.gone)
    was e y here =
        let at = ap (λ (g : Offered). slice_get g.driver.endpoints e) (sym why.is) ∙ here in
        ⊎_elim (λ own. (why.endpoint, ap (slice_get d.endpoints) own.0 ∙ why.here, sym (ap (λ (v : Endpoint). v.queue) own.1), sym (ap (λ (v : Endpoint). v.gone) own.1)))
        (λ other. (y, other.1, refl, refl)) (set_which d.endpoints why.number e why.endpoint _ y why.here at)

    name_at : (xs : List Endpoint) (n : ℕ) (x w : Endpoint) → slice_get xs n ≡ Some x → named_of w ≡ named_of x → (e : ℕ) → named_in (slice_set xs n w) e ≡ named_in xs e
    name_at xs n x w here same e =
        ⊎_elim (λ (is : e ≡ n). ap (λ (i : ℕ). named_in (slice_set xs n w) i) is ∙ ap (option_map named_of) (set_here xs n x w here) ∙ ap Some same ∙ sym (ap (λ (i : ℕ). named_in xs i) is ∙ ap (option_map named_of) here))
        (λ (differs : e ≢ n). ap (option_map named_of) (set_there xs n e w differs)) (cases_eq e n)

    names : (e : ℕ) → named_in o.driver.endpoints e ≡ named_in d.endpoints e
    names e = ap (λ (g : Offered). named_in g.driver.endpoints e) why.is ∙ name_at d.endpoints why.number why.endpoint _ why.here refl e

-- a get or a put
pub asked_is_told : (d : DriverContent) (m : Mem) (o : Offered) (hand : Hand) (parts : StructureSets) (reported : ℕ → List ℕ) → IsAsked d m o → Stands (holding d.book m) → HasOwners d → AreThere d → AreAtPlaces (note_in d.notes) d.transfers
    → ToldStands d hand parts reported → ToldStands o.driver hand parts reported
asked_is_told d m o hand parts reported asked stands owners there places =
    transfer_told d m o hand parts reported asked.transfers (λ held. asked_holds d m o hand parts held asked stands owners there places)

-- a request
pub requested_is_told : (d : DriverContent) (m : Mem) (o : Offered) (hand : Hand) (parts : StructureSets) (reported : ℕ → List ℕ) → IsRequested d m o → Stands (holding d.book m) → HasOwners d → AreThere d
    → AreAtPlaces (note_in d.notes) d.transfers
    → ToldStands d hand parts reported → ToldStands o.driver hand parts reported
requested_is_told d m o hand parts reported asked stands owners there places =
    transfer_told d m o hand parts reported asked.transfers (λ held. requested_holds d m o hand parts held asked stands owners there places)
