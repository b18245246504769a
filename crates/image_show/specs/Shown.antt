-- The text that shows an image: each list with its structures in order, up to the first link that ends it. Structures are found by their
-- places; the text has their byte addresses.
use Rattle.std.specs.Prelude.{ℕ, zero, suc, ◌+◌, ◌*◌, ◌/◌, Bool, true, false, not, ◌&&◌, ◌==◌, nat_lt, if◌then◌else◌, List, [], ◌∷◌, ◌++◌, length, take, drop, slice_index, codes, decimal, Option, Some, None, is_some, Result, Ok, Err}
use Rattle.std.specs.Result.{result_err}
use Rattle.usb_base.specs.Limits.{frame_list_length}
use Rattle.link_words.specs.declared.refusal.Bad.{Bad}
use Rattle.link_words.specs.declared.kinds.Link.{Link}
use Rattle.link_words.specs.declared.kinds.Link.TheVariants as links
use Rattle.link_words.specs.declared.kinds.QtdLink.{QtdLink}
use Rattle.link_words.specs.declared.kinds.QtdLink.TheVariants as queue_links
use Rattle.link_words.specs.Links.{address_of, is_end}
use Rattle.qh_qtd.specs.declared.qtd.Qtd.{Qtd}
use Rattle.qh_qtd.specs.declared.queue_head.Qh.{Qh}
use Rattle.qh_qtd.specs.Qtd.{qtd_read}
use Rattle.qh_qtd.specs.QueueHead.{qh_read}
use Rattle.itd_sitd.specs.declared.itd.Itd.{Itd}
use Rattle.itd_sitd.specs.declared.sitd.Sitd.{Sitd}
use Rattle.itd_sitd.specs.Itd.{itd_read}
use Rattle.itd_sitd.specs.Sitd.{sitd_read}
use Rattle.image_show.specs.declared.image_at.ImageAt.{ImageAt}
use Rattle.image_show.specs.Base.{lowered, raised, link_from, qtd_from}
use Rattle.image_show.specs.declared.ending.Ending.{Ending}
use Rattle.image_show.specs.declared.ending.Ending.TheVariants as endings
use Rattle.image_show.specs.Linked.{Linked, count, first_ending, is_in, ending_line, list_text, passed, when}
use Rattle.image_show.specs.Text.{hex, line}

-- ---- memory, by places (specs/Base.antt)

-- the word at a place
abbrev pub word_at : List ℕ → ℕ → ℕ
word_at words a = slice_index words (a / 4)

-- the n words from a place on
abbrev pub words_at : List ℕ → ℕ → ℕ → List ℕ
words_at words a n = take n (drop (a / 4) words)

-- n words from a place on are not all within memory
abbrev pub is_outside : List ℕ → ℕ → ℕ → Bool
is_outside words a n = nat_lt (4 * length words) (a + 4 * n)

-- memory's units of 32 bytes
abbrev pub units : List ℕ → ℕ
units words = length words / 8

abbrev pub bad_ending : ℕ → Option Bad → Option Ending
bad_ending a None = None
bad_ending a (Some bad) = Some (endings.Bad a bad)

-- ---- queues (EHCI 1.0, 3.5)

-- the descriptor at a place
abbrev pub descriptor : List ℕ → ℕ → Result Qtd Bad
descriptor words a = qtd_read (words_at words a 8)

abbrev pub queue_address : QtdLink → ℕ
queue_address queue_links.End = 0
queue_address (queue_links.To a) = a

abbrev pub is_queue_end : QtdLink → Bool
is_queue_end queue_links.End = true
is_queue_end (queue_links.To a) = false

-- the link of the descriptor that a link leads to
abbrev pub next_in_queue : ℕ → List ℕ → QtdLink → QtdLink
next_in_queue base words link = qtd_from base (word_at words (queue_address link))

-- what ends a queue at a link, in order. `here` says that the link's descriptor is already in the queue.
abbrev pub queue_endings : ℕ → List ℕ → Bool → QtdLink → List (Option Ending)
queue_endings base words here link =
    let p = queue_address link in
    let a = raised base p in
    when (is_queue_end link) endings.Silent
    ∷ when (is_outside words p 8) (endings.Outside a)
    ∷ when here (endings.Loop a)
    ∷ bad_ending a (result_err (descriptor words p))
    ∷ []

-- why a queue ends at a link: the first that holds
abbrev pub queue_ending : ℕ → List ℕ → Bool → QtdLink → Option Ending
queue_ending base words here link = first_ending (queue_endings base words here link)

abbrev pub pid_text : ℕ → List ℕ
pid_text pid = if pid == 0 then codes "out" else if pid == 1 then codes "in" else codes "setup"

-- a descriptor at an address, with the word of its token
abbrev pub qtd_line : ℕ → ℕ → Qtd → List ℕ
qtd_line a token q =
    line (codes "    qtd " ++ hex 8 a ++ codes " " ++ pid_text q.token.pid ++ codes " total " ++ decimal q.token.total
    ++ codes " cerr " ++ decimal q.token.cerr ++ codes " token " ++ hex 8 token)

abbrev pub qtd_text : ℕ → ℕ → Result Qtd Bad → List ℕ
qtd_text a token (Ok q) = qtd_line a token q
qtd_text a token (Err bad) = []

-- the line of the descriptor at a place
unfoldable pub descriptor_text : ℕ → List ℕ → ℕ → List ℕ
descriptor_text base words p = qtd_text (raised base p) (word_at words (p + 8)) (descriptor words p)

-- the queues of memory
abbrev pub queue : ℕ → List ℕ → Linked QtdLink
queue base words = record {
  next = next_in_queue base words;
  address = queue_address;
  ending = λ begun here link. queue_ending base words here link;
  text = λ link. descriptor_text base words (queue_address link);
  indent = codes "    ";
  most = units words;
}

-- ---- structures (EHCI 1.0, 3.3, 3.4 and 3.6)

-- the words of a structure
abbrev pub size_of : Link → ℕ
size_of links.End = 0
size_of (links.Itd a) = 16
size_of (links.Qh a) = 12
size_of (links.Sitd a) = 7
size_of (links.Fstn a) = 2

abbrev pub is_fstn : Link → Bool
is_fstn (links.Fstn a) = true
is_fstn _ = false

abbrev pub is_queue_head : Link → Bool
is_queue_head (links.Qh a) = true
is_queue_head _ = false

abbrev pub itd_at_address : List ℕ → ℕ → Result Itd Bad
itd_at_address words a = itd_read (words_at words a 16)

abbrev pub queue_head : List ℕ → ℕ → Result Qh Bad
queue_head words a = qh_read (words_at words a 12)

abbrev pub sitd_at_address : List ℕ → ℕ → Result Sitd Bad
sitd_at_address words a = sitd_read (words_at words a 7)

-- the first reserved bit of the structure that a link leads to
abbrev pub bad_of : List ℕ → Link → Option Bad
bad_of words (links.Itd a) = result_err (itd_at_address words a)
bad_of words (links.Qh a) = result_err (queue_head words a)
bad_of words (links.Sitd a) = result_err (sitd_at_address words a)
bad_of words _ = None

abbrev pub speed_text : ℕ → List ℕ
speed_text eps = if eps == 0 then codes "full" else if eps == 1 then codes "low" else codes "high"

abbrev pub direction_text : Bool → List ℕ
direction_text dir_in = if dir_in then codes "in" else codes "out"

-- a queue head at an address, with the word of its token
abbrev pub qh_line : ℕ → ℕ → Qh → List ℕ
qh_line a token q =
    line (codes "  qh " ++ hex 8 a ++ codes " " ++ decimal q.addr ++ codes "." ++ decimal q.ep ++ codes " " ++ speed_text q.eps ++ codes " max " ++ decimal q.max
    ++ codes " s " ++ hex 2 q.smask ++ codes " c " ++ hex 2 q.cmask ++ codes " token " ++ hex 8 token)

-- a queue head, and then its queue from the overlay's next pointer on
abbrev pub qh_text : ℕ → List ℕ → ℕ → Result Qh Bad → List ℕ
qh_text base words p (Ok q) =
    qh_line (raised base p) (word_at words (p + 24)) q ++ list_text (queue base words) (qtd_from base (word_at words (p + 16)))
qh_text base words p (Err bad) = []

abbrev pub itd_line : ℕ → Itd → List ℕ
itd_line a i =
    line (codes "  itd " ++ hex 8 a ++ codes " " ++ decimal i.addr ++ codes "." ++ decimal i.ep ++ codes " " ++ direction_text i.dir_in ++ codes " max " ++ decimal i.max
    ++ codes " multi " ++ decimal i.multi)

abbrev pub itd_text : ℕ → Result Itd Bad → List ℕ
itd_text a (Ok i) = itd_line a i
itd_text a (Err bad) = []

abbrev pub sitd_line : ℕ → Sitd → List ℕ
sitd_line a s =
    line (codes "  sitd " ++ hex 8 a ++ codes " " ++ decimal s.addr ++ codes "." ++ decimal s.ep ++ codes " " ++ direction_text s.dir_in ++ codes " hub " ++ decimal s.hub
    ++ codes " port " ++ decimal s.port ++ codes " total " ++ decimal s.total)

abbrev pub sitd_text : ℕ → Result Sitd Bad → List ℕ
sitd_text a (Ok s) = sitd_line a s
sitd_text a (Err bad) = []

-- the lines of the structure that a link leads to
unfoldable pub structure_text : ℕ → List ℕ → Link → List ℕ
structure_text base words (links.Itd p) = itd_text (raised base p) (itd_at_address words p)
structure_text base words (links.Qh p) = qh_text base words p (queue_head words p)
structure_text base words (links.Sitd p) = sitd_text (raised base p) (sitd_at_address words p)
structure_text base words _ = []

-- ---- chains of frames, and the ring (EHCI 1.0, 3.1 and 4.8)

-- the link of the structure that a link leads to
abbrev pub next_in_chain : ℕ → List ℕ → Link → Link
next_in_chain base words link = link_from base (word_at words (address_of link))

-- what T=1 ends: the chain of a frame, or the ring from `home` on
abbrev pub end_of : Option ℕ → Ending
end_of None = endings.Silent
end_of (Some home) = endings.End

abbrev pub is_home : Option ℕ → ℕ → Bool
is_home None a = false
is_home (Some home) a = home == a

-- What ends a chain, or the ring from `home` on, at a link, in order. `begun` says that it has structures already, `here`
-- that the link's structure is one of them, and `earlier` that an earlier list has shown it.
abbrev pub chain_endings : ℕ → List ℕ → Option ℕ → Bool → Bool → Bool → Link → List (Option Ending)
chain_endings base words home begun here earlier link =
    let p = address_of link in
    let a = raised base p in
    when (is_end link) (end_of home)
    ∷ when (begun && is_home home p) endings.Ring
    ∷ when (is_outside words p (size_of link)) (endings.Outside a)
    ∷ when here (endings.Loop a)
    ∷ when earlier (endings.Seen a)
    ∷ when (is_fstn link) (endings.Fstn a)
    ∷ bad_ending a (bad_of words link)
    ∷ when (is_some home && not (is_queue_head link)) (endings.Kind a)
    ∷ []

-- why it ends at a link: the first that holds
abbrev pub chain_ending : ℕ → List ℕ → Option ℕ → Bool → Bool → Bool → Link → Option Ending
chain_ending base words home begun here earlier link = first_ending (chain_endings base words home begun here earlier link)

-- the chains of frames, or the ring from `home` on, where earlier lists have shown the structures `seen`
abbrev pub chain : ℕ → List ℕ → Option ℕ → List ℕ → Linked Link
chain base words home seen = record {
  next = next_in_chain base words;
  address = address_of;
  ending = λ begun here link. chain_ending base words home begun here (is_in (address_of link) seen) link;
  text = structure_text base words;
  indent = codes "  ";
  most = units words;
}

-- ---- frames (EHCI 1.0, 3.1), and the whole text

-- the place of a frame list element
abbrev pub element_at : ImageAt → ℕ → ℕ
element_at i n = lowered i.base i.list_base + 4 * n

-- where a frame's chain begins; an element outside of memory begins none
unfoldable pub frame_first : ImageAt → ℕ → Link
frame_first i n = if is_outside i.words (element_at i n) 1 then links.End else link_from i.base (word_at i.words (element_at i n))

-- the places of the structures that the first n frames show
unfoldable pub seen_before : ImageAt → ℕ → List ℕ
seen_before i zero = []
seen_before i (suc n) =
    let seen = seen_before i n in
    seen ++ passed (chain i.base i.words None seen) (frame_first i n) (count (chain i.base i.words None seen) (frame_first i n))

unfoldable pub frame_line : ℕ → List ℕ
frame_line n = line (codes "frame " ++ decimal n)

-- a frame whose element is outside of memory
unfoldable pub outside_text : ℕ → ℕ → List ℕ
outside_text n at = frame_line n ++ ending_line (codes "  ") (endings.Outside at)

-- a frame whose element is within memory; T=1 there shows nothing
abbrev pub frame_chain : ImageAt → ℕ → Link → List ℕ
frame_chain i n link = if is_end link then [] else frame_line n ++ list_text (chain i.base i.words None (seen_before i n)) link

unfoldable pub frame_text : ImageAt → ℕ → List ℕ
frame_text i n =
    if is_outside i.words (element_at i n) 1 then outside_text n (raised i.base (element_at i n))
    else frame_chain i n (frame_first i n)

-- the first n frames
unfoldable pub frames_text : ImageAt → ℕ → List ℕ
frames_text i zero = []
frames_text i (suc n) = frames_text i n ++ frame_text i n

-- where the words begin, if not at address 0
abbrev pub base_text : ℕ → List ℕ
base_text base = if base == 0 then [] else codes " from " ++ hex 8 base

unfoldable pub header_line : ImageAt → List ℕ
header_line i =
    line (codes "frindex " ++ hex 4 i.frindex ++ codes " list " ++ hex 8 i.list_base ++ codes " async " ++ hex 8 i.async_at ++ codes " words " ++ decimal (length i.words)
    ++ base_text i.base)

-- the ring begins at ASYNCLISTADDR, after the 1,024 frames
unfoldable pub ring_text : ImageAt → List ℕ
ring_text i =
    line (codes "async")
    ++ list_text (chain i.base i.words (Some (lowered i.base i.async_at)) (seen_before i frame_list_length)) (links.Qh (lowered i.base i.async_at))

-- the shown text of an image
unfoldable pub shown : ImageAt → List ℕ
shown i = header_line i ++ (frames_text i frame_list_length ++ ring_text i)
