-- Overlays for worked rows: one that is halted, one that is at rest with no link to follow, and one that goes on at the qTD in block 133.
use Rattle.std.specs.Prelude.{true, false}
use Rattle.qh_qtd.specs.declared.queue_head.Qh.{Qh}
use Rattle.qh_qtd.specs.Blank.{blank_head}
use Rattle.drv_table.specs.Words.{idle_token, to_qtd}

abbrev pub halted : Qh
halted = record blank_head { token = idle_token true; next = to_qtd 133 }

abbrev pub at_rest : Qh
at_rest = record blank_head { token = idle_token false }

abbrev pub goes_on : Qh
goes_on = record blank_head { token = idle_token false; next = to_qtd 133 }
