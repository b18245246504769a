use Rattle.law_scripts.proofs.lemmas.script_spelling.Hexes.{hex_spells, hex_reads}
use Rattle.law_scripts.proofs.script_spelling.laws.bytes_are_spelled.Goals as goal

pub returns-clause-reads : goal.returns-clause-reads
returns-clause-reads c = λ w bytes e. hex_spells w bytes e

pub returns-clause-spells : goal.returns-clause-spells
returns-clause-spells c = λ bytes h. hex_reads bytes h
