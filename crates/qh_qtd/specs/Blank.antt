-- Structures with nothing in them, from which others are written by the fields that they have.
--     blank_token     the word 0
--     blank_qtd       both links end, and all else is 0
--     blank_head      the link and the overlay's two links end, and all else is 0
use Rattle.std.specs.Prelude.{false}
use Rattle.link_words.specs.Links.{no_link, no_qtd}
use Rattle.qh_qtd.specs.declared.token.Token.{Token}
use Rattle.qh_qtd.specs.declared.qtd.Qtd.{Qtd}
use Rattle.qh_qtd.specs.declared.queue_head.Qh.{Qh}

abbrev pub blank_token : Token
blank_token = record {
  ping = false;
  split_state = false;
  missed = false;
  xact_err = false;
  babble = false;
  buffer_error = false;
  halted = false;
  active = false;
  pid = 0;
  cerr = 0;
  c_page = 0;
  ioc = false;
  total = 0;
  toggle = false;
}

abbrev pub blank_qtd : Qtd
blank_qtd = record {
  next = no_qtd;
  alternate = no_qtd;
  token = blank_token;
  offset = 0;
  page0 = 0;
  page1 = 0;
  page2 = 0;
  page3 = 0;
  page4 = 0;
}

abbrev pub blank_head : Qh
blank_head = record {
  link = no_link;
  addr = 0;
  inactivate = false;
  ep = 0;
  eps = 0;
  dtc = false;
  head = false;
  max = 0;
  control = false;
  rl = 0;
  smask = 0;
  cmask = 0;
  hub = 0;
  port = 0;
  mult = 0;
  current = 0;
  next = no_qtd;
  alternate = no_qtd;
  nak_cnt = 0;
  token = blank_token;
  offset = 0;
  page0 = 0;
  c_prog = 0;
  page1 = 0;
  frame_tag = 0;
  s_bytes = 0;
  page2 = 0;
  page3 = 0;
  page4 = 0;
}
