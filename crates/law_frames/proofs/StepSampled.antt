-- The worked frame before its iTD is read.
use Rattle.std.proofs.Common.{◌≡◌, refl}
use Rattle.word_mem.specs.Views.{words_in}
use Rattle.link_words.specs.Links.{link_read}
use Rattle.link_words.specs.Layout.{first_bad_bit}
use Rattle.qh_qtd.specs.QueueHead.{qh_words}
use Rattle.itd_sitd.specs.Slot.{slot_at, slot_word}
use Rattle.itd_sitd.specs.Itd.{itd_read, itd_bad, itd_at, itd_words}
use Rattle.async_walk.specs.declared.state.WalkStep.TheVariants as steps
use Rattle.periodic_walk.specs.Rows.{step_of}
use Rattle.law_frames.specs.PartSamples.{at}

pub first_fetch : step_of at ≡ steps.Fetch
unfolding words_in link_read first_bad_bit qh_words slot_at slot_word itd_read itd_bad itd_at itd_words
first_fetch = refl
