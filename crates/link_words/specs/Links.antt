-- What a link says (EHCI 1.0, 3.3.1 and 3.5.1).
use Rattle.std.specs.Prelude.{◌≡◌, ℕ, ◌%◌, ◌==◌, Bool, true, false, if◌then◌else◌, ◌⊎◌}
use Rattle.link_words.specs.declared.fields.LinkBits.{LinkBits}
use Rattle.link_words.specs.declared.fields.ShortLink.{ShortLink}
use Rattle.link_words.specs.declared.kinds.Link.{Link}
use Rattle.link_words.specs.declared.kinds.Link.TheVariants as kinds
use Rattle.link_words.specs.declared.kinds.QtdLink.{QtdLink}
use Rattle.link_words.specs.declared.kinds.QtdLink.TheVariants as qtd_kinds
use Rattle.link_words.specs.Layout.{word_of, bits}
use Rattle.link_words.specs.Fields.{link_rows, short_link_rows, link_at, short_link_at}

-- the types of structures: 0 is an iTD, 1 a queue head, 2 a siTD, 3 an FSTN
abbrev pub typed : ℕ → ℕ → Link
typed typ a = if typ == 0 then kinds.Itd a else if typ == 1 then kinds.Qh a else if typ == 2 then kinds.Sitd a else kinds.Fstn a

-- where the fields of a link lead: T=1 ends the list, whatever else they say
abbrev pub link_of : LinkBits → Link
link_of l = if l.t then kinds.End else typed l.typ l.address

abbrev pub qtd_link_of : ShortLink → QtdLink
qtd_link_of l = if l.t then qtd_kinds.End else qtd_kinds.To l.address

-- the fields of a link that leads nowhere: T=1, and else 0
abbrev pub no_link : LinkBits
no_link = record { t = true; typ = 0; address = 0 }

abbrev pub no_qtd : ShortLink
no_qtd = record { t = true; address = 0 }

-- the fields of a link
abbrev pub link_fields : Link → LinkBits
link_fields kinds.End = no_link
link_fields (kinds.Itd a) = record { t = false; typ = 0; address = a }
link_fields (kinds.Qh a) = record { t = false; typ = 1; address = a }
link_fields (kinds.Sitd a) = record { t = false; typ = 2; address = a }
link_fields (kinds.Fstn a) = record { t = false; typ = 3; address = a }

abbrev pub qtd_link_fields : QtdLink → ShortLink
qtd_link_fields qtd_kinds.End = no_qtd
qtd_link_fields (qtd_kinds.To a) = record { t = false; address = a }

-- the byte address that a link names; the end of a list names none, which is told as 0
abbrev pub address_of : Link → ℕ
address_of kinds.End = 0
address_of (kinds.Itd a) = a
address_of (kinds.Qh a) = a
address_of (kinds.Sitd a) = a
address_of (kinds.Fstn a) = a

-- whether a link ends its list
abbrev pub is_end : Link → Bool
is_end kinds.End = true
is_end (kinds.Itd a) = false
is_end (kinds.Qh a) = false
is_end (kinds.Sitd a) = false
is_end (kinds.Fstn a) = false

-- where a link word leads
unfoldable pub link_read : ℕ → Link
link_read w = link_of (link_at w)

unfoldable pub qtd_link_read : ℕ → QtdLink
qtd_link_read w = qtd_link_of (short_link_at w)

-- the word of a link
unfoldable pub link_word : Link → ℕ
link_word link = word_of link_rows (link_fields link)

unfoldable pub qtd_link_word : QtdLink → ℕ
qtd_link_word link = word_of short_link_rows (qtd_link_fields link)

-- the address is a multiple of 32
abbrev pub IsAligned : Link → Type 0
IsAligned kinds.End = Unit {0}
IsAligned (kinds.Itd a) = a % 32 ≡ 0
IsAligned (kinds.Qh a) = a % 32 ≡ 0
IsAligned (kinds.Sitd a) = a % 32 ≡ 0
IsAligned (kinds.Fstn a) = a % 32 ≡ 0

abbrev pub IsQtdAligned : QtdLink → Type 0
IsQtdAligned qtd_kinds.End = Unit {0}
IsQtdAligned (qtd_kinds.To a) = a % 32 ≡ 0

-- the word that a link is written as: it is 1, or has T=0 and no reserved bit
abbrev pub IsLinkWord : ℕ → Type 0
IsLinkWord w = (w ≡ 1) ⊎ ((w % 2 ≡ 0) × (bits 4 3 w ≡ 0))

abbrev pub IsQtdLinkWord : ℕ → Type 0
IsQtdLinkWord w = (w ≡ 1) ⊎ ((w % 2 ≡ 0) × (bits 4 1 w ≡ 0))
