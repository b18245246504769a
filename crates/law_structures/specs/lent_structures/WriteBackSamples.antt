-- A worked write-back over the small memory of lent_structures.
--     settled                the copy of its queue head once two bytes were received, with an older link
--     written                the parts after its write-back
use Rattle.std.specs.Prelude.{ℕ, true, false, List, [], ◌∷◌}
use Rattle.qh_qtd.specs.declared.queue_head.Qh.{Qh}
use Rattle.law_structures.specs.lent_structures.Structures.{StructureSets}
use Rattle.law_structures.specs.lent_structures.StructureSamples.{token, queue, element, bytes, pages, parts}
use Rattle.law_structures.specs.lent_structures.WriteBack.{Received, Into, parts_back}

abbrev pub settled : Qh
settled = record queue {
  link = record { t = false; typ = 1; address = 0x1000 };
  token = record token { active = false; total = 0; toggle = true };
}

abbrev pub got : List ℕ
got = 1 ∷ 2 ∷ []

abbrev pub into : Received
into = Into pages 100 bytes 0

abbrev pub written : StructureSets
written = parts_back parts 0 0 queue settled 2 got into element
