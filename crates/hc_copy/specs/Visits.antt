-- What there is to do at a queue head (EHCI 1.0, 4.10 and 4.10.2).
use Rattle.std.specs.Prelude.{◌≡◌, ◌%◌, Bool, true, false, not, ◌&&◌, ◌==◌, if◌then◌else◌}
use Rattle.link_words.specs.declared.fields.ShortLink.{ShortLink}
use Rattle.link_words.specs.declared.kinds.QtdLink.{QtdLink}
use Rattle.link_words.specs.Links.{qtd_link_of}
use Rattle.qh_qtd.specs.declared.queue_head.Qh.{Qh}
use Rattle.qh_qtd.specs.QueueHead.{IsQhInRange}
use Rattle.hc_copy.specs.declared.held.Held.{Held}
use Rattle.hc_copy.specs.declared.held.Visit.{Visit}
use Rattle.hc_copy.specs.declared.held.Visit.TheVariants.{Rest, Work, Take}

-- Where bytes remain the qTD ended short, and its alternate is taken if it has one, else the next (4.10.2).
abbrev pub next_pointer : Qh → ShortLink
next_pointer q = if not (q.token.total == 0) && not q.alternate.t then q.alternate else q.next

-- by whether it may work now, whether its overlay is halted and whether that is active
abbrev pub visit_at : Bool → Bool → Bool → QtdLink → Visit
visit_at false _ _ _ = Rest
visit_at true true _ _ = Rest
visit_at true false true _ = Work
visit_at true false false link = Take link

abbrev pub visit_of : Bool → Qh → Visit
visit_of may q = visit_at may q.token.halted q.token.active (qtd_link_of (next_pointer q))

-- its address is a multiple of 32, and each field of the copy is in its range
pub record IsHeld (h : Held) : Type 0 where
  pub aligned : h.at % 32 ≡ 0
  pub range : IsQhInRange h.queue_head
