-- Where the first qTD of a transfer is published, a queue of the driver starts as it must.
use Rattle.std.proofs.Common.{◌≡◌, ℕ, ◌≤◌, false, List, Option, Some, None, ◌∙◌}
use Rattle.qh_qtd.specs.Qtd.{IsQtdInRange}
use Rattle.qh_qtd.specs.declared.qtd.Qtd.{Qtd}
use Rattle.drv_table.specs.declared.content.Command.{Command}
use Rattle.drv_table.specs.declared.content.Command.TheVariants as unfinished
use Rattle.drv_table.specs.DriverContent.{DriverContent}
use Rattle.law_driver.specs.queued_drivers.Queued.{queued_command, queued_made, queued}
use Rattle.law_reports.specs.pipes.below_hubs.Steps.{PublishesStart}
use Rattle.law_reports.specs.quiet.Errors.{PublishesLeft}

its_words : (b c : ℕ) (words others : List ℕ)
    → ◌≡◌ {A = Option Command} (Some (unfinished.Publish c others)) (Some (unfinished.Publish b words)) → others ≡ words
its_words b c words others e = cc

pub publishes_start : (d : DriverContent) → PublishesLeft d.made d.command → PublishesStart (queued d)
publishes_start d old b words t is some are range = by d.command is some old
  where
    by : (c : Option Command) → queued_command d.endpoints c ≡ Some (unfinished.Publish b words) → 1 ≤ queued_made c d.made
        → PublishesLeft d.made c → t.token.split_state ≡ false
    by (Some (unfinished.Publish c others)) same one left = (left one t (its_words b c words others same ∙ are) range).begins
    by (Some (unfinished.Open c)) same one left = absurd (cc)
    by (Some (unfinished.Unlink e c link)) same one left = absurd (cc)
    by (Some unfinished.Chain) same one left = absurd (cc)
    by (Some (unfinished.Iso e i count)) same one left = absurd (cc)
    by (Some (unfinished.Unchain e)) same one left = absurd (cc)
    by None same one left = absurd (cc)
