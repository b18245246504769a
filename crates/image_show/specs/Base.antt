-- Memory whose first word has a byte address of its own, its base. A place is a byte address that is counted from there on, modulo 2^32:
-- what lies below the base has a place past the last word.
--     lowered base a          the place of a byte address
--     raised base p           the byte address of a place
--     link_from base word     where a link word leads, by its place (EHCI 1.0, 3.1)
--     qtd_from base word      the same in a queue (EHCI 1.0, 3.5)
use Rattle.std.specs.Prelude.{ℕ, ◌+◌, ◌-◌, ◌%◌}
use Rattle.link_words.specs.declared.kinds.Link.{Link}
use Rattle.link_words.specs.declared.kinds.Link.TheVariants as links
use Rattle.link_words.specs.declared.kinds.QtdLink.{QtdLink}
use Rattle.link_words.specs.declared.kinds.QtdLink.TheVariants as queue_links
use Rattle.link_words.specs.Links.{link_read, qtd_link_read}

abbrev pub lowered : ℕ → ℕ → ℕ
lowered base a = (a + (4294967296 - base)) % 4294967296

abbrev pub raised : ℕ → ℕ → ℕ
raised base p = (p + base) % 4294967296

abbrev pub lowered_link : ℕ → Link → Link
lowered_link base links.End = links.End
lowered_link base (links.Itd a) = links.Itd (lowered base a)
lowered_link base (links.Qh a) = links.Qh (lowered base a)
lowered_link base (links.Sitd a) = links.Sitd (lowered base a)
lowered_link base (links.Fstn a) = links.Fstn (lowered base a)

abbrev pub lowered_qtd : ℕ → QtdLink → QtdLink
lowered_qtd base queue_links.End = queue_links.End
lowered_qtd base (queue_links.To a) = queue_links.To (lowered base a)

abbrev pub link_from : ℕ → ℕ → Link
link_from base word = lowered_link base (link_read word)

abbrev pub qtd_from : ℕ → ℕ → QtdLink
qtd_from base word = lowered_qtd base (qtd_link_read word)
