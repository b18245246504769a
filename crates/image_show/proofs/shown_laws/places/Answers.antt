use Rattle.std.proofs.Common.{refl}
use Rattle.link_words.specs.Links.{link_read}
use Rattle.image_show.proofs.shown_laws.places.Goals as goal

pub returns : goal.returns
unfolding link_read
returns c = record { from = refl; below = refl; address = refl; back = refl; link = refl; end = refl; none = refl }
