use Rattle.std.proofs.Common.{refl}
use Rattle.std.specs.Fmt.{digits}
use Rattle.link_words.specs.Layout.{first_bad_bit}
use Rattle.link_words.specs.Links.{link_read, qtd_link_read}
use Rattle.qh_qtd.specs.Token.{token_at}
use Rattle.qh_qtd.specs.QueueHead.{qh_at, qh_bad, qh_read}
use Rattle.itd_sitd.specs.Itd.{itd_at, itd_bad, itd_read}
use Rattle.itd_sitd.specs.Slot.{slot_at}
use Rattle.image_show.specs.Linked.{count, ending_at, first_below, list_text}
use Rattle.image_show.specs.Shown.{structure_text}
use Rattle.image_show.proofs.shown_laws.rings.Goals as goal

pub returns : goal.returns
unfolding digits first_bad_bit link_read qtd_link_read token_at qh_bad qh_at qh_read itd_bad itd_at itd_read slot_at count ending_at first_below list_text structure_text
returns c = record { alone = refl; looped = refl; end = refl; bad = refl; fstn = refl; outside = refl; bad_kind = refl; kind = refl }
