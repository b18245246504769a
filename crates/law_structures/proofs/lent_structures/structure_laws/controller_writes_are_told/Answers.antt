use Rattle.law_structures.proofs.lemmas.lent_structures.Writing.{overlay_is_told, token_is_told}
use Rattle.law_structures.proofs.lemmas.lent_structures.Storing.{bytes_are_told}
use Rattle.law_structures.proofs.lent_structures.structure_laws.controller_writes_are_told.Goals as goal

pub returns : goal.returns
returns c = record { overlay = overlay_is_told; token = token_is_told; bytes = bytes_are_told }
