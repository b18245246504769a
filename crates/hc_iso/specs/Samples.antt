-- Isochronous descriptors of worked rows.
--     itd d n        an iTD with packets of up to 1,024 bytes, three a microframe; an IN where d is true; its microframe 2 is active with n bytes
--                    from byte FF0h of page 1 on, and no other is
--     begun d n      its copy in microframe 2, before the first transaction
--     split_in w t   a siTD of an IN: a start-split in microframe 0, complete-splits in 2, 3 and 4; in Do-Complete where w is true; t bytes are left
--     split_out t k p  a siTD of an OUT of up to three parts in the microframes 1, 2 and 3: t bytes and k parts are left, in the position p
use Rattle.std.specs.Prelude.{ℕ, Bool, true, false, [], ◌∷◌}
use Rattle.itd_sitd.specs.declared.slot.ItdSlot.{ItdSlot}
use Rattle.itd_sitd.specs.declared.itd.Itd.{Itd}
use Rattle.itd_sitd.specs.declared.sitd.Sitd.{Sitd}
use Rattle.itd_sitd.specs.Slot.{no_slot}
use Rattle.hc_iso.specs.declared.held.HeldItd.{HeldItd}
use Rattle.hc_iso.specs.Itd.{copy_of_slot}

abbrev pub slot : ℕ → ItdSlot
slot n = record no_slot { offset = 0xFF0; pg = 1; ioc = true; length = n; active = true }

abbrev pub itd : Bool → ℕ → Itd
itd d n = record {
  link = record { t = false; typ = 1; address = 0x2000 };
  slots = no_slot ∷ no_slot ∷ slot n ∷ no_slot ∷ no_slot ∷ no_slot ∷ no_slot ∷ no_slot ∷ [];
  addr = 5;
  ep = 3;
  page0 = 0x10;
  max = 1024;
  dir_in = d;
  page1 = 0x11;
  multi = 3;
  page2 = 0x12;
  page3 = 0;
  page4 = 0;
  page5 = 0;
  page6 = 0;
}

abbrev pub begun : Bool → ℕ → HeldItd
begun d n = copy_of_slot 0x1000 2 (itd d n) (slot n)

abbrev pub split_in : Bool → ℕ → Sitd
split_in w t = record {
  link = record { t = true; typ = 0; address = 0 };
  addr = 5;
  ep = 3;
  hub = 9;
  port = 2;
  dir_in = true;
  smask = 0x01;
  cmask = 0x1C;
  split_state = w;
  missed = false;
  xact_err = false;
  babble = false;
  buffer_error = false;
  err = false;
  active = true;
  c_prog = 0;
  total = t;
  page_select = false;
  ioc = true;
  offset = 0xFF0;
  page0 = 0x10;
  t_count = 0;
  tp = 0;
  page1 = 0x11;
  back = record { t = true; address = 0 };
}

abbrev pub split_out : ℕ → ℕ → ℕ → Sitd
split_out t k p = record (split_in false t) { dir_in = false; smask = 0x0E; cmask = 0; t_count = k; tp = p }
