use Rattle.law_microframes.proofs.lemmas.time.SitdParts.{parts_stay, parts_are_within}
use Rattle.law_microframes.proofs.time.splits.parts_of_a_packet_are_placed.Goals as goal

pub returns : goal.returns
returns c = record { stay = parts_stay; within = parts_are_within }
