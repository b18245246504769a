-- Where the links of the frame list lead (EHCI 1.0, 3.1, 3.3.1 and 4.6), at each moment at which the words of memory stand for it.
--     IsInFrame s f m          m is linked, and stands in frame f
--     IsNext s f o             o is such a member, or the end
--     LeadsInto s f n          the link word n leads to a member that stands in frame f, or is the end
--     ListIsClosed m d         the word of each element leads into its frame
--     MembersAreClosed m d     the link word of each member leads into each of its frames
--     link_met word at k       the link word that one comes to from the word at this address behind k structures
--     MeetsMembersAlone m d    each link word that one comes to from an element leads into its frame, until the end
--     HaveFrames d             each member stands in its first frame
--     structure q m            the block and the type of a member, as a link: a queue head, or the iTD or siTD that is noted of its block
--     TellStructures d         such a word, read as a link, tells the structure, or the end
use Rattle.std.specs.Prelude.{◌≡◌, ◌≢◌, ℕ, zero, suc, ◌*◌, ◌/◌, ◌<◌, true, if◌then◌else◌, Option, Some, None}
use Rattle.word_mem.specs.Memory.{Mem, word_at}
use Rattle.drv_chains.specs.declared.members.Member.{Member}
use Rattle.drv_chains.specs.declared.members.Member.TheVariants.{Once, Each}
use Rattle.drv_chains.specs.declared.members.Predecessor.TheVariants.{Element, After}
use Rattle.drv_chains.specs.Chains.{Schedule, stands_in}
use Rattle.drv_members.specs.Members.{is_linked, frame_of}
use Rattle.drv_periodic.specs.Periodic.{link_to, address_of}
use Rattle.link_words.specs.declared.kinds.Link.{Link}
use Rattle.link_words.specs.declared.kinds.Link.TheVariants as kinds
use Rattle.link_words.specs.Links.{link_read}
use Rattle.drv_periodic_table.specs.Periodic.{PeriodicContent, note_at}
use Rattle.drv_table.specs.DriverContent.{DriverContent}

abbrev pub IsInFrame : Schedule → ℕ → Member → Type 0
IsInFrame s f m = (is_linked s m ≡ true) × (stands_in f m ≡ true)

abbrev pub IsNext : Schedule → ℕ → Option Member → Type 0
IsNext s f None = Unit {0}
IsNext s f (Some m) = IsInFrame s f m

pub record LeadsInto (s : Schedule) (f n : ℕ) : Type 0 where
  pub next : Option Member
  pub stands : IsNext s f next
  pub word : n ≡ link_to next

abbrev pub ListIsClosed : Mem → DriverContent → Type 0
ListIsClosed m d = (f : ℕ) → f < 1024 → LeadsInto d.periodic.list.members.schedule f (word_at m (address_of d.periodic.list.list (Element f)))

abbrev pub MembersAreClosed : Mem → DriverContent → Type 0
MembersAreClosed m d =
    (f : ℕ) (x : Member) → f < 1024 → IsInFrame d.periodic.list.members.schedule f x
    → LeadsInto d.periodic.list.members.schedule f (word_at m (address_of d.periodic.list.list (After x)))

-- ---- following the links

-- the link of a structure is its first word
unfoldable pub link_met : (ℕ → ℕ) → ℕ → ℕ → ℕ
link_met word at zero = word at
link_met word at (suc k) = word (link_met word at k / 32 * 32)

abbrev pub MeetsMembersAlone : Mem → DriverContent → Type 0
MeetsMembersAlone m d =
    (f k : ℕ) → f < 1024 → ((j : ℕ) → j < k → link_met (word_at m) (address_of d.periodic.list.list (Element f)) j ≢ 1)
    → LeadsInto d.periodic.list.members.schedule f (link_met (word_at m) (address_of d.periodic.list.list (Element f)) k)

abbrev pub HaveFrames : DriverContent → Type 0
HaveFrames d = (x : Member) → is_linked d.periodic.list.members.schedule x ≡ true → (frame_of x < 1024) × IsInFrame d.periodic.list.members.schedule (frame_of x) x

-- ---- blocks and types

abbrev pub structure : PeriodicContent → Option Member → Link
structure q None = kinds.End
structure q (Some (Each x)) = kinds.Qh (32 * (x.id / 32))
structure q (Some (Once k)) = if (note_at q.notes (k.id / 32)).split then kinds.Sitd (32 * (k.id / 32)) else kinds.Itd (32 * (k.id / 32))

abbrev pub TellStructures : DriverContent → Type 0
TellStructures d = (f n : ℕ) → (leads : LeadsInto d.periodic.list.members.schedule f n) → link_read n ≡ structure d.periodic leads.next
