-- A worked OUT queue: the queue head at 64 sent the two bytes of its first qTD, at 128, and two of the three bytes of the second, at 192. A transfer of
-- two more qTDs is being published: the one at 224 is at the tail still, and the one at 256 is active behind it; the queue ends at 288.
--     order                    the qTDs in their order
--     ahead, behind            those that are published, before the tail and behind it
--     working, second          the queue head, and the qTD that it works on
--     halted, halted_second    the same, once the device stalled
--     queue_of q t             the structures of the queue head q, whose second qTD is t
--     parts, parts_halted      those of both
--     earlier                  the first, before the transfer was lent
--     sent                     the transaction of the last byte of the second qTD, which was acknowledged
--     written, sent_second     the structures once it is written back, and the second qTD then
use Rattle.std.specs.Prelude.{ℕ, ◌/◌, ◌==◌, ◌||◌, Bool, true, false, List, [], ◌∷◌, None, if◌then◌else◌}
use Rattle.usb_base.specs.declared.packets.Pid.TheVariants as pids
use Rattle.usb_base.specs.declared.packets.Reply.{Reply}
use Rattle.usb_base.specs.declared.packets.Reply.TheVariants as replies
use Rattle.qh_qtd.specs.Blank.{blank_token, blank_qtd, blank_head}
use Rattle.qh_qtd.specs.declared.token.Token.{Token}
use Rattle.qh_qtd.specs.declared.qtd.Qtd.{Qtd}
use Rattle.qh_qtd.specs.declared.queue_head.Qh.{Qh}
use Rattle.law_structures.specs.lent_structures.Structures.{QueueHead, Element, Buffer, Structures, StructureSets, with_structure}
use Rattle.law_structures.specs.lent_structures.WriteBack.{Nothing, parts_back}
use Rattle.law_ring.specs.Hand.{Copy, Settlement, settled_queue_of, Hand, Settled}
use Rattle.law_ring.specs.Effects.{settlement}
use Rattle.law_ring.specs.Fewer.{fewer_structures}

abbrev pub order : ℕ → ℕ
order a = a / 32

abbrev pub ahead : List ℕ
ahead = 128 ∷ 192 ∷ []

abbrev pub behind : List ℕ
behind = 256 ∷ []

abbrev pub active_token : ℕ → Token
active_token n = record blank_token { active = true; cerr = 3; total = n }

abbrev pub first : Qtd
first = record blank_qtd { next = record { t = false; address = 192 }; token = record blank_token { cerr = 3 }; offset = 512 }

abbrev pub second : Qtd
second = record blank_qtd { next = record { t = false; address = 224 }; token = active_token 3; offset = 544 }

abbrev pub tail : Qtd
tail = record blank_qtd { next = record { t = false; address = 256 } }

abbrev pub more : Qtd
more = record blank_qtd { next = record { t = false; address = 288 }; token = active_token 2; offset = 576 }

abbrev pub working : Qh
working = record blank_head {
  link = record { t = false; typ = 1; address = 64 };
  addr = 5;
  ep = 2;
  eps = 2;
  max = 2;
  mult = 1;
  current = 192;
  next = second.next;
  token = active_token 1;
  offset = 546;
}

abbrev pub halted_token : Token
halted_token = record blank_token { halted = true; cerr = 3; total = 1 }

abbrev pub halted : Qh
halted = record working { token = halted_token }

abbrev pub halted_second : Qtd
halted_second = record second { token = halted_token }

abbrev pub pages : List ℕ
pages = 0 ∷ 0 ∷ 0 ∷ 0 ∷ 0 ∷ []

abbrev pub no_part : Structures
no_part a = None

abbrev pub head_of : Qh → Structures
head_of q = with_structure no_part 64 (QueueHead q)

abbrev pub queue_of : Qh → Qtd → Structures
queue_of q t =
    with_structure (with_structure (with_structure (with_structure (with_structure (with_structure (with_structure (with_structure (head_of q) 128 (Element first)) 192 (Element t)) 224 (Element tail))
    256 (Element more)) 288 (Element blank_qtd)) 512 (Buffer pages 512 (7 ∷ 9 ∷ []))) 544 (Buffer pages 544 (1 ∷ 2 ∷ 3 ∷ []))) 576 (Buffer pages 576 (6 ∷ 8 ∷ []))

abbrev pub owned : Structures → StructureSets
owned part n = if n == 64 then part else no_part

abbrev pub parts : StructureSets
parts = owned (queue_of working second)

abbrev pub earlier : Structures
earlier = fewer_structures (λ a. a == 256 || a == 288) (queue_of working second)

abbrev pub parts_halted : StructureSets
parts_halted = owned (queue_of halted halted_second)

abbrev pub member : ℕ → Bool
member n = n == 64

abbrev pub copy : Copy
copy = record { at = 64; queue = working; link = working.link; naks = 0 }

abbrev pub acknowledgement : Reply
acknowledgement = replies.Hand pids.Ack

abbrev pub last : Settlement
last = settlement working (3 ∷ []) acknowledgement

abbrev pub sent : Hand
sent = Settled copy last

abbrev pub written : StructureSets
written = parts_back parts 64 64 working (settled_queue_of copy last) 1 [] Nothing second

abbrev pub sent_second : Qtd
sent_second = record second { token = record blank_token { cerr = 3; toggle = true } }
