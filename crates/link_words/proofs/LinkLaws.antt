-- The laws of link words.
use Rattle.std.proofs.Common.{◌≡◌, ℕ, arith, refl}
use Rattle.std.proofs.lemmas.Grind.{common_steps}
use Rattle.link_words.specs.declared.kinds.Link.{Link}
use Rattle.link_words.specs.declared.kinds.Link.TheVariants as kinds
use Rattle.link_words.specs.declared.kinds.QtdLink.{QtdLink}
use Rattle.link_words.specs.declared.kinds.QtdLink.TheVariants as qtd_kinds
use Rattle.link_words.specs.declared.fields.LinkBits.{LinkBits}
use Rattle.link_words.specs.declared.fields.ShortLink.{ShortLink}
use Rattle.link_words.specs.Fields.{link_rows, link_at, short_link_rows, short_link_at}
use Rattle.link_words.proofs.Tables.{SaysWord}
use Rattle.link_words.specs.Layout.{word_of}
use Rattle.link_words.specs.Links.{link_of, link_fields, qtd_link_of, qtd_link_fields, link_read, link_word, IsAligned, IsLinkWord, qtd_link_read, qtd_link_word, IsQtdAligned, IsQtdLinkWord}

-- what a link's word says, and that nothing else does
pub link_says : (w : ℕ) → SaysWord link_rows w (link_at w)
link_says w = (refl, (refl, (refl, tt)))

pub link_same : (w : ℕ) (l : LinkBits) → SaysWord link_rows w l → l ≡ link_at w
link_same w l (address, (typ, (t, _))) = λ i. record { t = t i; typ = typ i; address = address i }

pub short_link_says : (w : ℕ) → SaysWord short_link_rows w (short_link_at w)
short_link_says w = (refl, (refl, tt))

pub short_link_same : (w : ℕ) (l : ShortLink) → SaysWord short_link_rows w l → l ≡ short_link_at w
short_link_same w l (address, (t, _)) = λ i. record { t = t i; address = address i }

-- a link that was written is read
pub link_read-word : (link : Link) → IsAligned link → link_read (link_word link) ≡ link
unfolding link_read link_word
link_read-word kinds.End h = refl
link_read-word _ h = grind (arith, common_steps)

pub qtd_link_read-word : (link : QtdLink) → IsQtdAligned link → qtd_link_read (qtd_link_word link) ≡ link
unfolding qtd_link_read qtd_link_word
qtd_link_read-word qtd_kinds.End h = refl
qtd_link_read-word (qtd_kinds.To a) h = grind (arith, common_steps)

-- a word that a link is written as is written again
pub link_word-read : (w : ℕ) → IsLinkWord w → link_word (link_read w) ≡ w
unfolding link_read link_word
link_word-read w h = grind (arith, common_steps)

pub qtd_link_word-read : (w : ℕ) → IsQtdLinkWord w → qtd_link_word (qtd_link_read w) ≡ w
unfolding qtd_link_read qtd_link_word
qtd_link_word-read w h = grind (arith, common_steps)

-- ---- links and their fields

-- a link is written as its fields
pub word_of-fields : (link : Link) → word_of link_rows (link_fields link) ≡ link_word link
unfolding link_word
word_of-fields link = refl

pub qtd_word_of-fields : (link : QtdLink) → word_of short_link_rows (qtd_link_fields link) ≡ qtd_link_word link
unfolding qtd_link_word
qtd_word_of-fields link = refl

-- and its fields lead where it does
pub link_of-fields : (link : Link) → link_of (link_fields link) ≡ link
link_of-fields kinds.End = refl
link_of-fields _ = refl

pub qtd_link_of-fields : (link : QtdLink) → qtd_link_of (qtd_link_fields link) ≡ link
qtd_link_of-fields qtd_kinds.End = refl
qtd_link_of-fields (qtd_kinds.To a) = refl

-- for `using`: that what was written is read, and the other way round
pub ruleset link_laws = (link_read-word, qtd_link_read-word, link_word-read, qtd_link_word-read, word_of-fields, qtd_word_of-fields, link_of-fields, qtd_link_of-fields)
