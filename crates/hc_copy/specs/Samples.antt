-- Queue heads of worked rows.
--     ring_head     the head of the ring, which is halted
--     bulk_in       a high-speed bulk IN queue head with 515 bytes left to move; its NAKs aren't counted
--     counted rl n  the same with a reload count and a count of NAKs
--     bulk_out p    the same for OUT, in the ping state p
--     setup         a high-speed control queue head with a SETUP of 8 bytes
--     full_in w, full_out w  bulk queue heads of a full-speed device at port 2 of hub 9, in Do-Complete where w is true
--     done n t      its overlay is done with n bytes left, and T of its alternate pointer is t
--     short_qtd     an active qTD of 18 bytes with toggle 0
use Rattle.std.specs.Prelude.{ℕ, Bool, true, false}
use Rattle.qh_qtd.specs.Blank.{blank_token, blank_qtd, blank_head}
use Rattle.qh_qtd.specs.declared.token.Token.{Token}
use Rattle.qh_qtd.specs.declared.qtd.Qtd.{Qtd}
use Rattle.qh_qtd.specs.declared.queue_head.Qh.{Qh}

abbrev pub moving : Token
moving = record blank_token { active = true; pid = 1; cerr = 3; total = 515; toggle = true }

abbrev pub bulk_in : Qh
bulk_in = record blank_head {
  link = record { t = false; typ = 1; address = 0x1000 };
  addr = 3;
  ep = 1;
  eps = 2;
  max = 512;
  mult = 1;
  current = 0x1060;
  next = record { t = false; address = 0x1080 };
  alternate = record { t = false; address = 0x10A0 };
  token = moving;
  offset = 0xFFD;
  page0 = 2;
  c_prog = 7;
  page1 = 3;
  frame_tag = 5;
  s_bytes = 6;
  page2 = 4;
  page3 = 5;
  page4 = 6;
}

abbrev pub bulk_out : Bool → Qh
bulk_out ping = record bulk_in { token = record moving { pid = 0; ping = ping } }

abbrev pub setup : Qh
setup = record bulk_in { ep = 0; dtc = true; max = 64; token = record moving { pid = 2; total = 8; toggle = false } }

abbrev pub full_in : Bool → Qh
full_in w = record bulk_in { eps = 0; max = 64; hub = 9; port = 2; token = record moving { split_state = w } }

abbrev pub full_out : Bool → Qh
full_out w = record bulk_in { eps = 0; max = 64; hub = 9; port = 2; token = record moving { pid = 0; split_state = w } }

abbrev pub ring_head : Qh
ring_head = record bulk_in {
  link = record { t = false; typ = 1; address = 0x1040 };
  addr = 0;
  ep = 0;
  head = true;
  max = 64;
  token = record moving { active = false; halted = true; pid = 0; cerr = 0; total = 0; toggle = false };
}

abbrev pub counted : ℕ → ℕ → Qh
counted rl n = record bulk_in { rl = rl; nak_cnt = n }

abbrev pub done : ℕ → Bool → Qh
done n t = record bulk_in {
  token = record moving { active = false; total = n };
  alternate = record { t = t; address = 0x10A0 };
}

abbrev pub short_qtd : Qtd
short_qtd = record blank_qtd {
  alternate = record { t = false; address = 0x10C0 };
  token = record moving { ping = true; ioc = true; total = 18; toggle = false };
  offset = 0x123;
  page0 = 0x20;
  page1 = 0x21;
  page2 = 0x22;
  page3 = 0x23;
  page4 = 0x24;
}
