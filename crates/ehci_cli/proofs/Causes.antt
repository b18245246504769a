-- Of each script that the source's bytes spell: the causes of refusals, who hears each packet, when the driver rests, the reasons of its
-- lines, and what is pending.
use Rattle.std.proofs.Common.{ℕ, List, Option}
use Rattle.app_forms.specs.Scripts.{OfEachPlainScript}
use Rattle.ehci_cli.proofs.Each.{of_each_plain}
use Rattle.claims_world.specs.Heard.{HearsThroughout}
use Rattle.claims_world.specs.Pending.{PendingIsCounted}
use Rattle.claims_world.specs.Refused.{CommandsHaveCauses}
use Rattle.claims_world.specs.Rests.{RestsThroughout}
use Rattle.claims_world.specs.Told.{LinesHaveReasons}
use Rattle.law_reports.proofs.lemmas.answers.Texts.{texts_have_causes, texts_are_heard, texts_rest_when_done, texts_tell_for_reasons, texts_count_pending}

pub source_has_causes : (words : List (List ℕ)) (left : Option (List ℕ)) → OfEachPlainScript CommandsHaveCauses words left
source_has_causes = of_each_plain CommandsHaveCauses texts_have_causes

pub source_is_heard : (words : List (List ℕ)) (left : Option (List ℕ)) → OfEachPlainScript HearsThroughout words left
source_is_heard = of_each_plain HearsThroughout texts_are_heard

pub source_rests_when_done : (words : List (List ℕ)) (left : Option (List ℕ)) → OfEachPlainScript RestsThroughout words left
source_rests_when_done = of_each_plain RestsThroughout texts_rest_when_done

pub source_tells_for_reasons : (words : List (List ℕ)) (left : Option (List ℕ)) → OfEachPlainScript LinesHaveReasons words left
source_tells_for_reasons = of_each_plain LinesHaveReasons texts_tell_for_reasons

pub source_counts_pending : (words : List (List ℕ)) (left : Option (List ℕ)) → OfEachPlainScript PendingIsCounted words left
source_counts_pending = of_each_plain PendingIsCounted texts_count_pending
