use Rattle.ehci_cli.proofs.Admitted.{source_admits, source_keeps_to_lent, source_owns, source_keeps_schedule}
use Rattle.ehci_cli.proofs.Causes.{source_has_causes, source_is_heard, source_rests_when_done, source_tells_for_reasons, source_counts_pending}
use Rattle.ehci_cli.proofs.Memory.{source_keeps_memory, source_reaches_lent, source_keeps_to_owners, source_gives_back_last, source_leaves_what_is_back}
use Rattle.ehci_cli.proofs.Memory.{source_keeps_links}
use Rattle.ehci_cli.proofs.Drawn.{load_is_plain}
use Rattle.ehci_cli.proofs.Due.{source_moves_packets}
use Rattle.ehci_cli.proofs.Headline.{source_keeps_headline}
use Rattle.ehci_cli.proofs.OutPipes.{source_keeps_pipes}
use Rattle.ehci_cli.proofs.Places.{load_has_places}
use Rattle.ehci_cli.proofs.Requests.{source_keeps_requests}
use Rattle.ehci_cli.proofs.Streams.{source_ends_once, source_misses_below, source_keeps_errors, source_keeps_streams}
use Rattle.ehci_cli.proofs.Visits.{source_keeps_visits, source_pays_within_load, source_is_in_time, source_ends_microframes, source_keeps_due, source_does_slots, source_keeps_to_work, source_repeats_after_losses}
use Rattle.ehci_cli.proofs.Visits.{source_does_what_is_due_at_begin, source_does_slots_at_begin, source_keeps_translators}
use Rattle.ehci_cli.proofs.Visits.{source_makes_splits, source_takes_results, source_goes_on_with_splits, source_serves_sitds}
use Rattle.ehci_cli.proofs.Visits.{source_serves_sitds_at_begin}
use Rattle.app_forms.proofs.Finished.{finishes}
use Rattle.ehci_cli.proofs.Whole.{whole_load, whole_program, source_runs_plain, source_first_is_plain}
use Rattle.ehci_cli.proofs.program.ehci.Goals as goal

pub returns-clause-load : goal.returns-clause-load
returns-clause-load g c = whole_load _ _ _ _ c.ehci_machine.ensures.load

pub returns-clause-plain : goal.returns-clause-plain
returns-clause-plain g c = source_runs_plain _ _

pub returns-clause-first : goal.returns-clause-first
returns-clause-first g c = source_first_is_plain _ _

pub returns-clause-drawn : goal.returns-clause-drawn
returns-clause-drawn g c = load_is_plain _

pub returns-clause-headline : goal.returns-clause-headline
returns-clause-headline g c = source_keeps_headline _ _

pub returns-clause-budgets : goal.returns-clause-budgets
returns-clause-budgets g c = source_admits _ _

pub returns-clause-lent : goal.returns-clause-lent
returns-clause-lent g c = source_keeps_to_lent _ _

pub returns-clause-owned : goal.returns-clause-owned
returns-clause-owned g c = source_owns _ _

pub returns-clause-schedule : goal.returns-clause-schedule
returns-clause-schedule g c = source_keeps_schedule _ _

pub returns-clause-memory : goal.returns-clause-memory
returns-clause-memory g c = source_keeps_memory _ _

pub returns-clause-reach : goal.returns-clause-reach
returns-clause-reach g c = source_reaches_lent _ _

pub returns-clause-owners : goal.returns-clause-owners
returns-clause-owners g c = source_keeps_to_owners _ _

pub returns-clause-releases : goal.returns-clause-releases
returns-clause-releases g c = source_gives_back_last _ _

pub returns-clause-given_back : goal.returns-clause-given_back
returns-clause-given_back g c = source_leaves_what_is_back _ _

pub returns-clause-links : goal.returns-clause-links
returns-clause-links g c = source_keeps_links _ _

pub returns-clause-visits : goal.returns-clause-visits
returns-clause-visits g c = source_keeps_visits _ _

pub returns-clause-microframes : goal.returns-clause-microframes
returns-clause-microframes g c = source_ends_microframes _ _

pub returns-clause-within_load : goal.returns-clause-within_load
returns-clause-within_load g c = source_pays_within_load _ _

pub returns-clause-in_time : goal.returns-clause-in_time
returns-clause-in_time g c = source_is_in_time _ _

pub returns-clause-repeats : goal.returns-clause-repeats
returns-clause-repeats g c = source_repeats_after_losses _ _

pub returns-clause-translators : goal.returns-clause-translators
returns-clause-translators g c = source_keeps_translators _ _

pub returns-clause-due : goal.returns-clause-due
returns-clause-due g c = source_keeps_due _ _

pub returns-clause-due_at_begin : goal.returns-clause-due_at_begin
returns-clause-due_at_begin g c = source_does_what_is_due_at_begin _ _

pub returns-clause-packets : goal.returns-clause-packets
returns-clause-packets g c = source_moves_packets _ _

pub returns-clause-slots : goal.returns-clause-slots
returns-clause-slots g c = source_does_slots _ _

pub returns-clause-slots_at_begin : goal.returns-clause-slots_at_begin
returns-clause-slots_at_begin g c = source_does_slots_at_begin _ _

pub returns-clause-splits_at_begin : goal.returns-clause-splits_at_begin
returns-clause-splits_at_begin g c = source_makes_splits _ _

pub returns-clause-results : goal.returns-clause-results
returns-clause-results g c = source_takes_results _ _

pub returns-clause-splits_go_on : goal.returns-clause-splits_go_on
returns-clause-splits_go_on g c = source_goes_on_with_splits _ _

pub returns-clause-sitds : goal.returns-clause-sitds
returns-clause-sitds g c = source_serves_sitds _ _

pub returns-clause-sitds_at_begin : goal.returns-clause-sitds_at_begin
returns-clause-sitds_at_begin g c = source_serves_sitds_at_begin _ _

pub returns-clause-goes_on : goal.returns-clause-goes_on
returns-clause-goes_on g c = source_keeps_to_work _ _

pub returns-clause-streams : goal.returns-clause-streams
returns-clause-streams g c = source_keeps_streams _ _

pub returns-clause-pipes : goal.returns-clause-pipes
returns-clause-pipes g c = source_keeps_pipes _ _

pub returns-clause-ends : goal.returns-clause-ends
returns-clause-ends g c = source_ends_once _ _

pub returns-clause-misses : goal.returns-clause-misses
returns-clause-misses g c = source_misses_below _ _

pub returns-clause-errors : goal.returns-clause-errors
returns-clause-errors g c = source_keeps_errors _ _

pub returns-clause-requests : goal.returns-clause-requests
returns-clause-requests g c = source_keeps_requests _ _

pub returns-clause-answers : goal.returns-clause-answers
returns-clause-answers g c = source_has_causes _ _

pub returns-clause-places : goal.returns-clause-places
returns-clause-places g c = load_has_places _

pub returns-clause-hears : goal.returns-clause-hears
returns-clause-hears g c = source_is_heard _ _

pub returns-clause-works : goal.returns-clause-works
returns-clause-works g c = source_rests_when_done _ _

pub returns-clause-lines : goal.returns-clause-lines
returns-clause-lines g c = source_tells_for_reasons _ _

pub returns-clause-pending : goal.returns-clause-pending
returns-clause-pending g c = source_counts_pending _ _

pub returns-clause-finishes : goal.returns-clause-finishes
returns-clause-finishes g c =
    let ends = c.ehci_machine.ensures in
    finishes _ _ _ _ _ _ (λ is. ends.words.0 is) ends.read ends.write _ (whole_program _ _ _ _ _ ends.output) (whole_load _ _ _ _ ends.load)
