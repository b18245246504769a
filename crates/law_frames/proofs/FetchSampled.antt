-- The worked frame, wherever its walk goes on.
use Rattle.std.proofs.Common.{◌≡◌, refl}
use Rattle.word_mem.specs.Views.{words_in}
use Rattle.link_words.specs.declared.kinds.Link.{Link}
use Rattle.link_words.specs.declared.kinds.Link.TheVariants as links
use Rattle.link_words.specs.Links.{link_read}
use Rattle.link_words.specs.Layout.{first_bad_bit}
use Rattle.qh_qtd.specs.Token.{token_at, token_word}
use Rattle.qh_qtd.specs.QueueHead.{qh_words, qh_read, qh_bad, qh_at}
use Rattle.itd_sitd.specs.Slot.{slot_at, slot_word}
use Rattle.itd_sitd.specs.Itd.{itd_read, itd_bad, itd_at, itd_words}
use Rattle.hc_iso.specs.Itd.{fetched_itd}
use Rattle.async_walk.specs.declared.state.WalkStep.TheVariants as steps
use Rattle.periodic_walk.specs.Rows.{step_of, Leads}
use Rattle.law_frames.specs.Met.{LeadsTo}
use Rattle.law_frames.specs.FrameHand.{Nothing}
use Rattle.law_frames.specs.Frame.{IsFrame}
use Rattle.law_frames.specs.PartSamples.{met, parts, at, fetched}
use Rattle.law_frames.proofs.PartSampled.{before_it}
use Rattle.law_frames.specs.FetchSamples.{is_asked, behind, queue_read, last}

frame_at : (l : Link) → LeadsTo met l → IsFrame met parts Nothing (record at { walk = record at.walk { cursor = l } })
frame_at l on = record { tells = before_it.tells; members = before_it.members; walk = record { cursor = on; held = refl; in_hand = tt } }

pub frame_behind : IsFrame met parts Nothing behind
frame_behind = frame_at (links.Qh 128) refl

pub frame_last : IsFrame met parts Nothing last
frame_last = frame_at links.End tt

pub itd_comes : step_of at ≡ steps.Fetch
unfolding words_in link_read first_bad_bit qh_words slot_at slot_word itd_read itd_bad itd_at itd_words
itd_comes = refl

pub itd_led : Leads is_asked at 0 fetched 0
unfolding fetched_itd words_in link_read first_bad_bit qh_words slot_at slot_word itd_read itd_bad itd_at itd_words
itd_led = (refl, refl)

pub queue_comes : step_of behind ≡ steps.Fetch
unfolding words_in link_read first_bad_bit itd_words slot_word qh_words qh_read qh_bad qh_at token_at token_word
queue_comes = refl

pub queue_led : Leads is_asked behind 0 queue_read 0
unfolding words_in link_read first_bad_bit itd_words slot_word qh_words qh_read qh_bad qh_at token_at token_word
queue_led = (refl, refl)
