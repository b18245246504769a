-- At each moment of a script's run the words of ring and frame list stand for the live endpoints, the controller goes on, all that it can
-- come to is Lent, each word is written by its owner, what left is given back once it was let go, and links lead to live structures or to
-- what left later.
use Rattle.std.proofs.Common.{ℕ, List, Option}
use Rattle.claims_world.specs.Memory.{KeepsMemory}
use Rattle.claims_world.specs.Links.{KeepsLinks}
use Rattle.claims_world.specs.Reach.{ReachesLentThroughout}
use Rattle.claims_world.specs.Owners.{KeepsToOwnersThroughout}
use Rattle.claims_world.specs.Releases.{GivesBackLast, StaysUntouched}
use Rattle.law_reports.proofs.HandedOn.{texts_keep_memory, texts_reach_lent, texts_keep_to_owners, scripts_give_back_last}
use Rattle.law_reports.proofs.HandedOn.{texts_keep_links, scripts_leave_what_is_back}
use Rattle.script_fits.proofs.Texts.{spelled_fits}
use Rattle.app_forms.specs.Scripts.{OfEachPlainScript}
use Rattle.ehci_cli.proofs.Each.{of_each_plain}

pub source_keeps_memory : (words : List (List ℕ)) (left : Option (List ℕ)) → OfEachPlainScript KeepsMemory words left
source_keeps_memory = of_each_plain KeepsMemory texts_keep_memory

pub source_reaches_lent : (words : List (List ℕ)) (left : Option (List ℕ)) → OfEachPlainScript ReachesLentThroughout words left
source_reaches_lent = of_each_plain ReachesLentThroughout texts_reach_lent

pub source_keeps_to_owners : (words : List (List ℕ)) (left : Option (List ℕ)) → OfEachPlainScript KeepsToOwnersThroughout words left
source_keeps_to_owners = of_each_plain KeepsToOwnersThroughout texts_keep_to_owners

pub source_gives_back_last : (words : List (List ℕ)) (left : Option (List ℕ)) → OfEachPlainScript GivesBackLast words left
source_gives_back_last = of_each_plain GivesBackLast (λ text s spelled. scripts_give_back_last s)

pub source_leaves_what_is_back : (words : List (List ℕ)) (left : Option (List ℕ)) → OfEachPlainScript StaysUntouched words left
source_leaves_what_is_back = of_each_plain StaysUntouched (λ text s spelled. scripts_leave_what_is_back s (spelled_fits text s spelled))

pub source_keeps_links : (words : List (List ℕ)) (left : Option (List ℕ)) → OfEachPlainScript KeepsLinks words left
source_keeps_links = of_each_plain KeepsLinks texts_keep_links
