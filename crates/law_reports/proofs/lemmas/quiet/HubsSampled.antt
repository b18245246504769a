-- The endpoint of a keyboard behind a hub of its script has its hub and port; without the hub it has none.
use Rattle.std.proofs.Common.{◌≡◌, false, true, refl}
use Rattle.std.specs.List.{AllByRecursion}
use Rattle.std.proofs.lemmas.Bool.{false≢true, true≢false}
use Rattle.law_common.proofs.Lists.{nth_all}
use Rattle.usb_base.specs.declared.commands.Cmd.TheVariants as commands
use Rattle.script_types.specs.declared.scripts.Line.{Line}
use Rattle.script_types.specs.declared.scripts.Line.TheVariants as lines
use Rattle.claims_world.specs.BelowStreams.{has_hub}
use Rattle.drv_table.specs.Words.{is_high}
use Rattle.law_opened.specs.Samples.{beside_split, board}
use Rattle.law_reports.specs.quiet.AwaitingLaws.{HaveHubs}
use Rattle.law_reports.specs.quiet.HubSamples.{lacks_hub}

abbrev OpensBehind : Line → Type 0
OpensBehind (lines.Command (commands.OpenEp x)) = is_high x.speed ≡ false → has_hub beside_split x.hub x.port ≡ true
OpensBehind _ = Unit {0}

each_behind : AllByRecursion (λ l. OpensBehind l.1) beside_split.lines
each_behind =
    ((λ slow. absurd (true≢false slow)), ((λ slow. absurd (true≢false slow)), ((λ slow. refl), (tt, (tt, (tt, (tt, tt)))))))

pub a_board_has_its_hub : HaveHubs beside_split
a_board_has_its_hub x o =
    nth_all (λ l. OpensBehind l.1) beside_split.lines o.place (o.number, lines.Command (commands.OpenEp x)) each_behind o.here

pub no_hub_breaks_it : HaveHubs lacks_hub → ⊥
no_hub_breaks_it k = false≢true (k board (record { place = 2; number = 7; here = refl }) refl)
