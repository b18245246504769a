-- What is told of each queue where structures change, or the driver's content in other ways.
use Rattle.std.proofs.Common.{◌≡◌, ◌≢◌, ℕ, ◌-◌, ◌*◌, Bool, true, List, [], ◌∷◌, ◌++◌, length, slice_get, slice_set, Option, Some, None, ap, sym, subst, ◌∙◌, ⊎_elim, arith}
use Rattle.std.proofs.lemmas.Bool.{cases_eq}
use Rattle.law_common.proofs.Lists.{nothing_at}
use Rattle.law_queues.proofs.Common.{same_queue}
use Rattle.usb_base.specs.declared.packets.Ask.{Ask}
use Rattle.usb_base.specs.declared.packets.Reply.{Reply}
use Rattle.usb_base.specs.declared.reports.Report.{Report}
use Rattle.law_structures.specs.lent_structures.Structures.{StructureSets}
use Rattle.law_ring.specs.Hand.{Hand}
use Rattle.claims_base.specs.Controller.{Base}
use Rattle.hc_core.specs.Controller.{Content}
use Rattle.law_controller.specs.controlled_streams.Control.{IsControlled, ControlEffect, a_microframe, a_step}
use Rattle.law_ring.specs.Sparing.{SameHand}
use Rattle.claims_report.specs.Reports.{is_refusal}
use Rattle.claims_report.specs.Streams.{has_stream}
use Rattle.drv_table.specs.declared.content.Endpoint.{Endpoint}
use Rattle.drv_table.specs.declared.content.Transfer.{Transfer}
use Rattle.drv_table.specs.declared.content.Command.{Command}
use Rattle.drv_table.specs.declared.content.Command.TheVariants as unfinished
use Rattle.drv_table.specs.declared.content.Reserve.{Reserve}
use Rattle.drv_table.specs.DriverContent.{DriverContent}
use Rattle.drv_table.specs.Opening.{opening}
use Rattle.law_queues.specs.told_endpoints.Telling.{named_in, TellsEach}
use Rattle.law_queues.proofs.lemmas.told_endpoints.Tellings.{adds_refusal}
use Rattle.drv_table.specs.Harvests.{note_at}
use Rattle.law_driver_ring.specs.told_harvests.Held.{IsDone, IsOneFrom}
use Rattle.law_driver_ring.proofs.lemmas.told_harvests.Keeping.{events_keep_what_is_done, spared_is_done}
use Rattle.law_queues.specs.harvest_laws.Holds.{IsNextOf}
use Rattle.law_queues.proofs.lemmas.harvest_laws.Holding.{holds_the_same}
use Rattle.law_queues.proofs.lemmas.harvest_laws.RowHarvesting.{holds_still}
use Rattle.law_queues.proofs.lemmas.harvest_laws.Begun.{opening_holds, opening_tells}
use Rattle.law_queues.specs.harvest_laws.HeldLaws.{AreThere}
use Rattle.law_queues.proofs.lemmas.harvest_laws.Opening.{return_holds}
use Rattle.law_controller.specs.controlled_streams.Kept.{KeepsEach}
use Rattle.law_queues.specs.harvest_laws.Told.{ToldStands}
use Rattle.law_queues.specs.harvest_laws.ToldLaws.{SparesDone, IsAlike}
use Rattle.law_driver_ring.specs.fed_queues.Places.{IsThere}

pub new_is_told : (n : ℕ) (room : Reserve) (hand : Hand) (parts : StructureSets) (reported : ℕ → List ℕ) → ToldStands (opening n room).driver hand parts reported
new_is_told n room hand parts reported = record {
  held = λ e. [];
  told = λ e. [];
  holds = opening_holds n room hand parts;
  tells = opening_tells n room;
  met = λ e x here meets. absurd (nothing_at e x here);
  opening = λ e x here kept opens. absurd (nothing_at e x here);
}

-- ---- structures

pub still_told : (d : DriverContent) (hand later : Hand) (parts now : StructureSets) (reported : ℕ → List ℕ)
    → ((e t : ℕ) (x : Endpoint) (y : Transfer) (a k : ℕ) (z : List ℕ) → IsNextOf d e t x y → has_stream x.desc.kind ≡ true → IsOneFrom (note_at d.notes) y.first (y.qtds - y.left) a → IsDone hand parts (32 * x.queue) a k z → IsDone later now (32 * x.queue) a k z)
    → ToldStands d hand parts reported → ToldStands d later now reported
still_told d hand later parts now reported still k = record {
  held = k.held;
  told = k.told;
  holds = holds_still d hand later parts now k.held still k.holds;
  tells = k.tells;
  met = k.met;
  opening = k.opening;
}

pub spared_is_told : (d : DriverContent) (hand later : Hand) (parts now : StructureSets) (reported : ℕ → List ℕ) → SameHand hand later → SparesDone d parts now → ToldStands d hand parts reported → ToldStands d later now reported
spared_is_told d hand later parts now reported same spares k =
    still_told d hand later parts now reported
    (λ e t x y a i z is on one done. spared_is_done hand later parts now (32 * x.queue) a i z same (spares.heads e x is.endpoint on) (spares.done e t x y a is on one) done) k

module _ {W : Type 0} (begins : W → ℕ → Bool → W → Type 0) (transacts : W → Ask → List ℕ → Reply → W → Type 0) (base : Base) (member : ℕ → Bool) (parts : StructureSets) (hand : Hand) (c : Content) (wire after : W) (now : StructureSets) (later : Hand) (d : DriverContent) (reported : ℕ → List ℕ) where
  pub beside_told : IsControlled base member parts hand c → ControlEffect begins transacts parts hand wire after now later → KeepsEach parts now → ToldStands d hand parts reported → ToldStands d later now reported
  beside_told controlled (a_microframe b) keeps k =
      subst (λ (h : Hand). ToldStands d h now reported) (sym b.hand_stays) (subst (λ (ps : StructureSets). ToldStands d hand ps reported) (sym b.parts_stay) k)
  beside_told controlled (a_step s) keeps k =
      still_told d hand later parts now reported
      (λ e t x y a i z is on one done.
      events_keep_what_is_done transacts parts hand wire after now later (32 * x.queue) a i z (λ b t there off. (keeps (32 * x.queue)).idle b t there off) s.streams done) k

-- ---- content

tells_alike : (d new : DriverContent) (held told : ℕ → List ℕ) → new.reports ≡ d.reports → new.store ≡ d.store → new.endpoints ≡ d.endpoints → TellsEach d.reports d.store (named_in d.endpoints) held told
    → TellsEach new.reports new.store (named_in new.endpoints) held told
tells_alike d new held told reports store ends k =
    subst (λ (xs : List Endpoint). TellsEach new.reports new.store (named_in xs) held told) (sym ends)
    (subst (λ (ls : List Report). TellsEach ls new.store (named_in d.endpoints) held told) (sym reports) (subst (λ (bs : List ℕ). TellsEach d.reports bs (named_in d.endpoints) held told) (sym store) k))

pub alike_is_told : (d new : DriverContent) (hand : Hand) (parts : StructureSets) (reported : ℕ → List ℕ) → IsAlike d new → ((x : Endpoint) → IsThere new x → IsThere d x)
    → ((x : Endpoint) → new.command ≡ Some (unfinished.Open x.queue) → d.command ≡ Some (unfinished.Open x.queue)) → ToldStands d hand parts reported → ToldStands new hand parts reported
alike_is_told d new hand parts reported a met opens k = record {
  held = k.held;
  told = k.told;
  holds = holds_the_same d new hand parts k.held a.endpoints a.transfers a.notes k.holds;
  tells = tells_alike d new k.held k.told a.reports a.store a.endpoints k.tells;
  met = λ e x here meets. k.met e x (ap (λ (xs : List Endpoint). slice_get xs e) (sym a.endpoints) ∙ here) (met x meets);
  opening = λ e x here kept is. k.opening e x (ap (λ (xs : List Endpoint). slice_get xs e) (sym a.endpoints) ∙ here) kept (opens x is);
}

queue_in : Option Command → ℕ
queue_in (Some (unfinished.Open b)) = b
queue_in _ = 0

pub met_is_told : (d new : DriverContent) (hand : Hand) (parts : StructureSets) (reported now : ℕ → List ℕ) (b : ℕ) → IsAlike d new → d.command ≡ Some (unfinished.Open b) → new.command ≡ None
    → now (32 * b) ≡ [] → ((k : ℕ) → k ≢ 32 * b → now k ≡ reported k) → ToldStands d hand parts reported → ToldStands new hand parts now
met_is_told d new hand parts reported now b a opens done here beside k = record {
  held = k.held;
  told = k.told;
  holds = holds_the_same d new hand parts k.held a.endpoints a.transfers a.notes k.holds;
  tells = tells_alike d new k.held k.told a.reports a.store a.endpoints k.tells;
  met = λ e x at meets.
      let there : slice_get d.endpoints e ≡ Some x = ap (λ (xs : List Endpoint). slice_get xs e) (sym a.endpoints) ∙ at in
      ⊎_elim (λ (is : x.queue ≡ b). k.opening e x there meets.kept (opens ∙ ap (λ (c : ℕ). Some (unfinished.Open c)) (sym is)) ∙ sym (ap (λ (c : ℕ). now (32 * c)) is ∙ here))
      (λ (differs : x.queue ≢ b). k.met e x there (record { linked = λ is. differs (sym (same_queue b x.queue (sym opens ∙ is))); kept = meets.kept }) ∙ sym (beside (32 * x.queue) (λ same. differs (omega (arith, same))))) (cases_eq x.queue b);
  opening = λ e x at kept is. absurd (no_open x.queue (sym done ∙ is));
}
  where
    no_open : (c : ℕ) → None ≡ Some (unfinished.Open c) → ⊥
    no_open c is = cc

pub refused_is_told : (d new : DriverContent) (hand : Hand) (parts : StructureSets) (reported : ℕ → List ℕ) (line : Report) → is_refusal line.what ≡ true → line.from ≡ length d.store → line.len ≡ 0
    → new.reports ≡ d.reports ++ line ∷ [] → new.store ≡ d.store → new.endpoints ≡ d.endpoints → new.transfers ≡ d.transfers → new.notes ≡ d.notes → new.command ≡ d.command
    → ToldStands d hand parts reported → ToldStands new hand parts reported
refused_is_told d new hand parts reported line refusal from none reports store ends transfers notes command k = record {
  held = k.held;
  told = k.told;
  holds = holds_the_same d new hand parts k.held ends transfers notes k.holds;
  tells = subst (λ (xs : List Endpoint). TellsEach new.reports new.store (named_in xs) k.held k.told) (sym ends)
      (subst (λ (ls : List Report). TellsEach ls new.store (named_in d.endpoints) k.held k.told) (sym reports)
      (subst (λ (bs : List ℕ). TellsEach (d.reports ++ line ∷ []) bs (named_in d.endpoints) k.held k.told) (sym store) (adds_refusal d.reports d.store (named_in d.endpoints) k.held k.told line refusal from none k.tells)));
  met = λ e x here meets. k.met e x (ap (λ (xs : List Endpoint). slice_get xs e) (sym ends) ∙ here) (record { linked = λ is. meets.linked (command ∙ is); kept = meets.kept });
  opening = λ e x here kept is. k.opening e x (ap (λ (xs : List Endpoint). slice_get xs e) (sym ends) ∙ here) kept (sym command ∙ is);
}

pub returned_is_told : (d new : DriverContent) (t : ℕ) (y : Transfer) (hand : Hand) (parts : StructureSets) (reported : ℕ → List ℕ) → slice_get d.transfers t ≡ Some y → y.reported ≡ true → AreThere d
    → new.reports ≡ d.reports → new.store ≡ d.store → new.endpoints ≡ d.endpoints → new.transfers ≡ slice_set d.transfers t (record y { released = true }) → new.notes ≡ d.notes → new.command ≡ d.command
    → ToldStands d hand parts reported → ToldStands new hand parts reported
returned_is_told d new t y hand parts reported here told there reports store ends transfers notes command k = record {
  held = k.held;
  told = k.told;
  holds = return_holds d new t y hand parts k.held here told there ends transfers notes k.holds;
  tells = tells_alike d new k.held k.told reports store ends k.tells;
  met = λ e x at meets. k.met e x (ap (λ (xs : List Endpoint). slice_get xs e) (sym ends) ∙ at) (record { linked = λ is. meets.linked (command ∙ is); kept = meets.kept });
  opening = λ e x at kept is. k.opening e x (ap (λ (xs : List Endpoint). slice_get xs e) (sym ends) ∙ at) kept (sym command ∙ is);
}
