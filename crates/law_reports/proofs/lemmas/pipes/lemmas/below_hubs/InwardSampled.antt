-- The keyboard behind a hub has a right stream; and who isn't such an endpoint, or isn't spared.
use Rattle.std.proofs.Common.{◌≡◌, ℕ, zero, suc, List, Option, Some, ap, refl, sym, ◌∙◌}
use Rattle.std.specs.Prelude.{false, slice_get}
use Rattle.std.proofs.lemmas.Bool.{true≢false}
use Rattle.std.proofs.lemmas.Option.{same_Some}
use Rattle.usb_base.specs.declared.commands.Cmd.TheVariants as commands
use Rattle.script_types.specs.declared.scripts.Line.{Line}
use Rattle.script_types.specs.declared.scripts.Line.TheVariants as lines
use Rattle.script_text.specs.Faults.{Spells}
use Rattle.hub_class.specs.Worked as hubs
use Rattle.bus_wire.specs.Bus.{fixed_of, opening_wired}
use Rattle.bus_world.specs.Budgets.{moment}
use Rattle.claims_report.specs.Streams.{IsRightStream}
use Rattle.claims_world.specs.BelowStreams.{IsSparedBefore, heard_clear}
use Rattle.claims_world.specs.Streams.{report_of}
use Rattle.law_opened.specs.Opened.{IsOpened}
use Rattle.law_world.specs.memory.Samples.{keyboard, disk, keyboard_and_disk}
use Rattle.law_reports.specs.pipes.below_hubs.DeafLaws.{IsUnopenedHub}
use Rattle.law_reports.specs.pipes.below_hubs.Inward.{IsSpared}
use Rattle.law_reports.specs.pipes.below_hubs.InwardLaws.{IsInletOf, inlet_of, takes_in}
use Rattle.law_reports.specs.pipes.below_hubs.LateSamples.{cleared}
use Rattle.law_reports.specs.pipes.below_hubs.Samples.{sheet, scanner, asks_hub}
use Rattle.law_reports.proofs.lemmas.pipes.lemmas.below_hubs.DeafRuns.{unopened_hubs_are_spared}
use Rattle.law_reports.proofs.lemmas.pipes.lemmas.below_hubs.InwardReporting.{texts_keep_ins}

-- ---- the endpoint

pub keyboard_is_inlet : IsInletOf keyboard_and_disk keyboard
keyboard_is_inlet = record { claims = refl; opened = record { place = 0; number = 6; here = refl } }

disk_claims : takes_in keyboard_and_disk disk ≡ false
disk_claims = refl

pub disk_isnt : IsInletOf keyboard_and_disk disk → ⊥
disk_isnt i = true≢false (sym i.claims ∙ disk_claims)

-- the address that a line opens, or 0
abbrev address_in : Option (ℕ × Line) → ℕ
address_in (Some (n, lines.Command (commands.OpenEp d))) = d.name.addr
address_in _ = 0

opens_at : {n : ℕ} (place : ℕ) → slice_get asks_hub.lines place ≡ Some (n, lines.Command (commands.OpenEp (sheet (Some 9) 4))) → ⊥
opens_at zero here = let apart : ◌≡◌ {A = ℕ} 9 3 = ap address_in here in cc apart
opens_at (suc k) here = cc

none_opens : IsOpened asks_hub (sheet (Some 9) 4) → ⊥
none_opens o = opens_at o.place o.here

pub scanner_isnt_opened : IsInletOf asks_hub (sheet (Some 9) 4) → ⊥
scanner_isnt_opened i = none_opens i.opened

-- ---- its hub

keyboard_unopened : IsUnopenedHub keyboard_and_disk keyboard
keyboard_unopened a is = ((λ addr num. cc), (tt, ((λ addr num. cc), (tt, (tt, (tt, (tt, tt)))))))

pub keyboard_is_spared : (text : List ℕ) → Spells text keyboard_and_disk → (k : ℕ) → IsSparedBefore keyboard_and_disk keyboard k
keyboard_is_spared text spelled k j low = unopened_hubs_are_spared text keyboard_and_disk keyboard spelled keyboard_unopened j

pub keyboard_keeps : (text : List ℕ) → Spells text keyboard_and_disk → (k : ℕ)
    → IsRightStream keyboard_and_disk (report_of (fixed_of keyboard_and_disk) (moment keyboard_and_disk k).world) keyboard.name
keyboard_keeps text spelled k =
    texts_keep_ins text keyboard_and_disk keyboard spelled keyboard_is_inlet k (keyboard_is_spared text spelled k)

-- ---- who is spared

pub silent_is_spared : IsSpared (inlet_of scanner (sheet (Some 9) 4)) (opening_wired scanner)
silent_is_spared h here = ap heard_clear (sym (same_Some _ h here))

pub cleared_isnt : IsSpared (inlet_of scanner (sheet (Some 9) 4)) cleared → ⊥
cleared_isnt spared = true≢false (spared (hubs.told hubs.clear_first hubs.hub) refl)
