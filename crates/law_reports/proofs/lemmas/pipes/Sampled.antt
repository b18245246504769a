-- The worked rows.
use Rattle.std.proofs.Common.{◌≡◌, ℕ, zero, suc, ◌*◌, true, slice_get, Option, Some, None, ap, refl, subst, ◌∙◌}
use Rattle.std.proofs.lemmas.Bool.{false≢true, true≢false}
use Rattle.std.proofs.lemmas.Option.{same_Some}
use Rattle.itd_sitd.specs.Sitd.{sitd_at}
use Rattle.drv_periodic_table.specs.Periodic.{note_at}
use Rattle.claims_driver.specs.Owners.{is_descriptor}
use Rattle.drv_table.specs.declared.content.Command.{Command}
use Rattle.drv_table.specs.declared.content.Command.TheVariants as unfinished
use Rattle.drv_table.specs.declared.content.Endpoint.{Endpoint}
use Rattle.drv_table.specs.declared.content.Transfer.{Transfer}
use Rattle.law_driver.specs.run_owners.Worked.{busy_driver, isochronous, descriptor}
use Rattle.law_driver.specs.queued_drivers.Queued.{queued, queued_endpoint}
use Rattle.law_driver.specs.queued_drivers.CommandsWorked.{second}
use Rattle.law_driver_ring.specs.fed_queues.Places.{IsMet}
use Rattle.law_ring.specs.Told.{Endpoint as Told}
use Rattle.law_world.specs.memory.Samples.{keyboard_and_disk}
use Rattle.law_world.specs.memory.StepSamples.{key_driver, key_memory}
use Rattle.law_world.specs.memory.pipe_steps.Samples.{ends}
use Rattle.law_reports.specs.pipes.Declared.{IsDeclared, AreDeclared}
use Rattle.law_reports.specs.pipes.DescriptorNames.{TellsBy, AreDescriptorsNamed}
use Rattle.law_reports.specs.pipes.Piped.{asked_as, AreEndsNamed}
use Rattle.law_reports.specs.pipes.PipedLaws.{DeclaresOpens}
use Rattle.law_reports.specs.pipes.Samples.{both_send, one_sends, other_ends, named_memory, alone}

-- ---- what the devices have

pub both_declared : AreDeclared both_send key_driver
both_declared zero y here = subst (λ (x : Endpoint). IsDeclared both_send x.desc) (same_Some _ y here) refl
both_declared (suc zero) y here = subst (λ (x : Endpoint). IsDeclared both_send x.desc) (same_Some _ y here) refl
both_declared (suc (suc zero)) y here = subst (λ (x : Endpoint). IsDeclared both_send x.desc) (same_Some _ y here) refl
both_declared (suc (suc (suc e))) y here = absurd cc

pub one_undeclared : AreDeclared one_sends key_driver → ⊥
one_undeclared k = false≢true (k 1 (record second { next = Some 3 }) refl)

-- ---- queue heads

never_opens : (b : ℕ) → ◌≡◌ {A = Option Command} None (Some (unfinished.Open b)) → ⊥
never_opens b is = cc

key_met : IsMet (queued key_driver) 1 (queued_endpoint (record second { next = Some 3 }))
key_met = record { there = record { linked = λ is. never_opens 136 is; kept = refl }; near = refl }

pub real_names : AreEndsNamed key_driver ends
real_names zero y here met = subst (λ (x : Endpoint). ends (32 * x.queue) ≡ asked_as x.desc) (same_Some _ y here) refl
real_names (suc zero) y here met = subst (λ (x : Endpoint). ends (32 * x.queue) ≡ asked_as x.desc) (same_Some _ y here) refl
real_names (suc (suc zero)) y here met =
    absurd (true≢false (ap (λ (x : Endpoint). (queued_endpoint x).gone) (same_Some _ y here) ∙ met.there.kept))
real_names (suc (suc (suc e))) y here met = absurd cc

pub longer_names : AreEndsNamed key_driver other_ends → ⊥
longer_names k = apart (ap (λ (x : Told). x.max) (k 1 (record second { next = Some 3 }) refl key_met))
  where
    apart : ◌≡◌ {A = ℕ} 1024 8 → ⊥
    apart e = cc

-- ---- descriptors

tells_first : TellsBy true named_memory 138 isochronous
unfolding sitd_at
tells_first = record { address = refl; number = refl; way = refl }

tells_next : TellsBy true named_memory 140 isochronous
unfolding sitd_at
tells_next = record { address = refl; number = refl; way = refl }

abbrev Tells : Transfer → Type 0
Tells y = (x : Endpoint) → slice_get busy_driver.endpoints y.endpoint ≡ Some x
    → TellsBy (note_at busy_driver.periodic.notes y.first).split named_memory y.first x.desc

pub tells_names : AreDescriptorsNamed busy_driver named_memory
tells_names zero y x here sort held there = absurd (false≢true (ap (λ (z : Transfer). is_descriptor z.sort) (same_Some _ y here) ∙ sort))
tells_names (suc zero) y x here sort held there =
    subst Tells (same_Some _ y here)
    (λ v at. subst (λ (u : Endpoint). TellsBy true named_memory 138 u.desc) (same_Some _ v at) tells_first) x there
tells_names (suc (suc zero)) y x here sort held there =
    subst Tells (same_Some _ y here)
    (λ v at. subst (λ (u : Endpoint). TellsBy true named_memory 140 u.desc) (same_Some _ v at) tells_next) x there
tells_names (suc (suc (suc t))) y x here sort held there = absurd cc

abbrev its_endpoint : Endpoint
its_endpoint = record second {
  desc = isochronous;
  placement = Some (record { period = 8; phase = 0; smask = 1; cmask = 28 });
  queue = 0;
  dummy = 0;
  next = Some 2;
}

no_name : TellsBy true key_memory 140 isochronous → ⊥
unfolding sitd_at
no_name k = apart k.address
  where
    apart : ◌≡◌ {A = ℕ} 0 3 → ⊥
    apart e = cc

pub tells_none : AreDescriptorsNamed busy_driver key_memory → ⊥
tells_none k = no_name (k 2 (descriptor 140) its_endpoint refl refl refl refl)

-- ---- a script

pub script_declares : DeclaresOpens keyboard_and_disk
script_declares = (refl, (tt, (refl, (tt, (tt, (tt, (tt, tt)))))))

pub none_declares : DeclaresOpens alone → ⊥
none_declares k = false≢true k.1.1.0
