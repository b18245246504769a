-- A queue head at 64 that was halted at its qTD at 128; another is published at 192, behind it.
use Rattle.std.specs.Prelude.{true, false, List, ℕ, None, [], ◌∷◌}
use Rattle.qh_qtd.specs.declared.qtd.Qtd.{Qtd}
use Rattle.qh_qtd.specs.declared.queue_head.Qh.{Qh}
use Rattle.qh_qtd.specs.declared.token.Token.{Token}
use Rattle.qh_qtd.specs.Blank.{blank_token, blank_qtd, blank_head}
use Rattle.law_structures.specs.lent_structures.Structures.{QueueHead, Element, Structures, with_structure}

abbrev pub halted_token : Token
halted_token = record blank_token { halted = true; pid = 1; total = 2 }

abbrev pub halted_queue : Qh
halted_queue = record blank_head { current = 128; token = halted_token }

abbrev pub halted_element : Qtd
halted_element = record blank_qtd { next = record { t = false; address = 192 }; token = halted_token }

-- it asks for no bytes
abbrev pub published_element : Qtd
published_element = record blank_qtd { token = record blank_token { active = true; pid = 1 } }

abbrev pub none : Structures
none a = None

abbrev pub halted_part : Structures
halted_part = with_structure (with_structure (with_structure none 64 (QueueHead halted_queue)) 128 (Element halted_element)) 192 (Element published_element)

abbrev pub both_out : List ℕ
both_out = 128 ∷ 192 ∷ []
