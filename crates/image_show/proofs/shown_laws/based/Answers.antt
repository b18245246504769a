use Rattle.std.proofs.Common.{refl}
use Rattle.std.specs.Fmt.{digits}
use Rattle.link_words.specs.Layout.{first_bad_bit}
use Rattle.link_words.specs.Links.{link_read, qtd_link_read}
use Rattle.qh_qtd.specs.Token.{token_at}
use Rattle.qh_qtd.specs.QueueHead.{qh_at, qh_bad, qh_read}
use Rattle.qh_qtd.specs.Qtd.{qtd_at, qtd_bad, qtd_read}
use Rattle.image_show.specs.Linked.{count, ending_at, first_below, list_text}
use Rattle.image_show.specs.Shown.{descriptor_text, header_line, structure_text}
use Rattle.image_show.proofs.shown_laws.based.Goals as goal

pub returns : goal.returns
unfolding digits first_bad_bit link_read qtd_link_read token_at qh_bad qh_at qh_read qtd_bad qtd_at qtd_read count ending_at first_below list_text descriptor_text header_line structure_text
returns c = record { ring = refl; below = refl; queue = refl; header = refl }
