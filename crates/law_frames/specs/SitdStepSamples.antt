-- The walk with the worked siTD of `sitd_back_worked` in hand.
--     at u          in microframe u of frame 0, before its transaction
--     settled       in microframe 2, once two bytes came
use Rattle.std.specs.Prelude.{ℕ, Some}
use Rattle.link_words.specs.declared.kinds.Link.TheVariants as links
use Rattle.op_registers.specs.RegisterFile.{reset_file}
use Rattle.periodic_walk.specs.declared.state.Hand.TheVariants as hands
use Rattle.periodic_walk.specs.Walk.{Walk, new_walk, begun}
use Rattle.periodic_walk.specs.Place.{FramePlace, place}
use Rattle.law_frames.specs.SitdBackSamples.{memory, fetched, heard, moved}

abbrev pub walk : ℕ → Walk
walk u = record (begun new_walk (links.Sitd 64) u 10000000) { hand = Some (hands.Sitd fetched.held) }

abbrev pub at : ℕ → FramePlace
at u = place (walk u) reset_file memory

abbrev pub settled : FramePlace
settled = place (record (walk 2) { hand = Some (hands.Sitd moved.held); reply = heard }) reset_file memory
