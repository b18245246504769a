-- A worked part: the queue head at 64 ended its qTD after a short packet, and goes on at the inactive qTD at 192; the qTD at 128, which it passed over,
-- is published still.
--     rested, passed       the queue head and the qTD
--     part, goes           the part, and what goes of it
use Rattle.std.specs.Prelude.{ℕ, Bool, true, false, ◌==◌, None}
use Rattle.qh_qtd.specs.Blank.{blank_token, blank_qtd, blank_head}
use Rattle.qh_qtd.specs.declared.qtd.Qtd.{Qtd}
use Rattle.qh_qtd.specs.declared.queue_head.Qh.{Qh}
use Rattle.law_structures.specs.lent_structures.Structures.{QueueHead, Element, Structures, with_structure}

abbrev pub rested : Qh
rested = record blank_head {
  current = 96;
  next = record { t = false; address = 128 };
  alternate = record { t = false; address = 192 };
  token = record blank_token { pid = 1; total = 1 };
}

abbrev pub passed : Qtd
passed = record blank_qtd { next = record { t = false; address = 192 }; token = record blank_token { active = true; pid = 1 } }

abbrev pub nothing : Structures
nothing a = None

abbrev pub part : Structures
part = with_structure (with_structure (with_structure nothing 64 (QueueHead rested)) 128 (Element passed)) 192 (Element blank_qtd)

abbrev pub goes : ℕ → Bool
goes a = a == 128
