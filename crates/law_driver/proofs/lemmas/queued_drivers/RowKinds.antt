-- Each event of a driver is one of a queue or one of frames, links a queue head in frames, or gives back an interrupt endpoint.
use Rattle.std.proofs.Common.{◌≡◌, ◌≢◌, true, false, Option, Some, None, slice_get, ap, sym, ◌∙◌, ⊎_elim, inl, inr, refl}
use Rattle.std.proofs.lemmas.Bool.{cases_Bool}
use Rattle.std.proofs.lemmas.Option.{same_Some}
use Rattle.drv_periodic_table.specs.declared.content.Removed.TheVariants as removed
use Rattle.drv_table.specs.declared.content.Endpoint.{Endpoint}
use Rattle.drv_table.specs.declared.content.Transfer.{Transfer}
use Rattle.drv_table.specs.declared.content.Command.{Command}
use Rattle.drv_table.specs.declared.content.Command.TheVariants as unfinished
use Rattle.drv_table.specs.declared.rows.DriverRow.{DriverRow}
use Rattle.drv_table.specs.declared.rows.DriverRow.TheVariants as rows
use Rattle.drv_table.specs.Kinds.{is_iso}
use Rattle.drv_table.specs.Parts.{Parts}
use Rattle.drv_table.specs.Commands.{advance}
use Rattle.drv_table.specs.Rows.{after_driver_row}
use Rattle.claims_driver.specs.Owners.{is_descriptor}
use Rattle.law_driver.specs.run_owners.Due.{IsDue}
use Rattle.claims_driver.specs.Leaving.{HasOwners}
use Rattle.law_driver.proofs.lemmas.run_owners.Leaves.{first_removed}
use Rattle.law_driver.specs.queued_drivers.Rows.{EventKind, of_queues, of_frames, lends_chain, finishes_chain, gives_back}
use Rattle.law_driver.proofs.lemmas.queued_drivers.RowTurns.{is_chain, not_chain}

pub event_kind : (row : DriverRow) (p : Parts) → HasOwners p.driver → IsDue p row → EventKind p row
event_kind rows.Lend p owners due = ⊎_elim
    (λ (chain : due.command ≡ unfinished.Chain). by (after_driver_row rows.Lend p).driver.command refl (due.unfinished ∙ ap (λ (c : Command). Some c) chain))
    (λ (other : due.command ≢ unfinished.Chain). of_queues (not_chain p due.command due.unfinished other)) (is_chain due.command)
  where
    by : (o : Option Command) → (after_driver_row rows.Lend p).driver.command ≡ o → p.driver.command ≡ Some unfinished.Chain → EventKind p rows.Lend
    by None none chain = finishes_chain (record { chain = chain; finished = none })
    by (Some c) is chain = lends_chain (record { is = refl; on = record { chain = chain; unfinished = λ none. let e : ◌≡◌ {A = Option Command} None (Some c) = sym none ∙ is in cc } })
event_kind (rows.Store b at v) p owners (inl next) = of_queues next
event_kind (rows.Store b at v) p owners (inr link) = by (advance p.driver).command refl
  where
    by : (o : Option Command) → (advance p.driver).command ≡ o → EventKind p (rows.Store b at v)
    by (Some c) is = of_frames (record { link = link; goes_on = λ chain none. let e : ◌≡◌ {A = Option Command} None (Some c) = sym none ∙ is in cc })
    by None is = ⊎_elim
        (λ (chain : link.command ≡ unfinished.Chain). finishes_chain (record { chain = link.unfinished ∙ ap (λ (c : Command). Some c) chain; finished = is }))
        (λ (other : link.command ≢ unfinished.Chain). of_frames (record { link = link; goes_on = λ chain none. absurd (not_chain p link.command link.unfinished other chain) })) (is_chain link.command)
event_kind rows.Frames p owners due = of_frames tt
event_kind rows.LendDescriptors p owners due = of_frames tt
event_kind (rows.Unlink t) p owners due = of_frames tt
event_kind (rows.ReleaseRemoved (removed.Descriptor t)) p owners due = of_frames tt
event_kind (rows.ReleaseRemoved (removed.Endpoint e)) p owners due =
    let l = first_removed e due.removal due.first due.is owners.orderly in
    ⊎_elim
    (λ (iso : is_iso l.endpoint.desc.kind ≡ true). of_frames (λ x here. ap (λ (z : Endpoint). is_iso z.desc.kind) (same_Some x l.endpoint (sym here ∙ l.here)) ∙ iso))
    (λ (queue : is_iso l.endpoint.desc.kind ≡ false). gives_back (record { number = e; endpoint = l.endpoint; is = refl; here = l.here; queue = queue }))
    (cases_Bool (is_iso l.endpoint.desc.kind))
event_kind (rows.ReadFrame n) p owners due = of_frames tt
event_kind (rows.Harvest e t found) p owners due =
    let same = λ (y : Transfer) (there : slice_get p.driver.transfers t ≡ Some y). ap (λ (z : Transfer). is_descriptor z.sort) (same_Some y due.transfer (sym there ∙ due.there)) in
    ⊎_elim
    (λ (is : is_descriptor due.transfer.sort ≡ true). of_frames (λ y there. same y there ∙ is))
    (λ (moves : is_descriptor due.transfer.sort ≡ false). of_queues (λ y there. same y there ∙ moves))
    (cases_Bool (is_descriptor due.transfer.sort))
event_kind row p owners due = of_queues tt
