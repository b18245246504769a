-- Interrupt queue heads of worked rows. Frame 5 has the microframes 40 to 47 of FRINDEX, and its tag is 5.
--     high_in          a high-speed IN with packets of 64 bytes, up to three a microframe, in the microframes 0 and 4 of its frames
--     split_in w prog  an IN of a full-speed device below a hub: a start-split in microframe 0, complete-splits in 2, 3 and 4; in Do-Complete
--                      where w is true, with these of them made
--     erred w prog     the same once one transaction went wrong: an error less is left
--     held q           its copy in hand
use Rattle.std.specs.Prelude.{ℕ, Bool, true, None}
use Rattle.qh_qtd.specs.declared.queue_head.Qh.{Qh}
use Rattle.hc_copy.specs.declared.held.Held.{Held}
use Rattle.hc_copy.specs.Samples.{moving, bulk_in, full_in}

abbrev pub high_in : Qh
high_in = record bulk_in { max = 64; smask = 0x11; mult = 3 }

abbrev pub split_in : Bool → ℕ → Qh
split_in w prog = record (full_in w) { smask = 0x01; cmask = 0x1C; c_prog = prog; frame_tag = 5 }

abbrev pub erred : Bool → ℕ → Qh
erred w prog = record (split_in w prog) { token = record moving { split_state = w; cerr = 2; xact_err = true } }

abbrev pub held : Qh → Held
held q = record { at = 0x2000; queue_head = q; settled = None }
