-- What an event of the controller keeps of each structure (EHCI 1.0, 3.5, 3.6 and 4.10): of a queue head all but its overlay, of a qTD all but its token,
-- which changes only where it ends, and of a buffer all but its bytes.
--     bare q                  the queue head with a blank overlay
--     HasHeadAfter, HadHead   a queue head with these other fields is there afterwards, was there before
--     Keeps part now          what one owner's structures keep
--     KeepsEach parts now     .. and those of each owner
use Rattle.std.specs.Prelude.{◌≡◌, ℕ, false, Some}
use Rattle.link_words.specs.Links.{no_qtd}
use Rattle.qh_qtd.specs.Blank.{blank_token}
use Rattle.qh_qtd.specs.declared.qtd.Qtd.{Qtd}
use Rattle.qh_qtd.specs.declared.queue_head.Qh.{Qh}
use Rattle.law_structures.specs.lent_structures.Structures.{QueueHead, Element, Structures, StructureSets}
use Rattle.law_structures.specs.lent_structures.Alters.{Alters}

abbrev pub bare : Qh → Qh
bare q = record q {
  current = 0;
  next = no_qtd;
  alternate = no_qtd;
  nak_cnt = 0;
  token = blank_token;
  offset = 0;
  page0 = 0;
  c_prog = 0;
  page1 = 0;
  frame_tag = 0;
  s_bytes = 0;
  page2 = 0;
  page3 = 0;
  page4 = 0;
}

pub record HasHeadAfter (part : Structures) (a : ℕ) (q : Qh) : Type 0 where
  pub queue : Qh
  pub here : part a ≡ Some (QueueHead queue)
  pub same : bare queue ≡ bare q

pub record HadHead (part : Structures) (a : ℕ) (r : Qh) : Type 0 where
  pub queue : Qh
  pub here : part a ≡ Some (QueueHead queue)
  pub same : bare r ≡ bare queue

-- a qTD that isn't active stays as it is
pub record Keeps (part now : Structures) : Type 0 where
  pub alters : Alters part now
  pub idle : (a : ℕ) (t : Qtd) → part a ≡ Some (Element t) → t.token.active ≡ false → now a ≡ Some (Element t)
  pub head : (a : ℕ) (q : Qh) → part a ≡ Some (QueueHead q) → HasHeadAfter now a q
  pub head_before : (a : ℕ) (r : Qh) → now a ≡ Some (QueueHead r) → HadHead part a r

abbrev pub KeepsEach : StructureSets → StructureSets → Type 0
KeepsEach parts now = (n : ℕ) → Keeps (parts n) (now n)
