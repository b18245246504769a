-- The chain of each frame (EHCI 1.0, 4.6): its isochronous descriptors, the newest first, then the interrupt queue heads that are active
-- in it, with the longer period first, and among equal periods in the order of opening.
--     Schedule                the descriptors, the newest first, and the queue heads in the order of opening
--     of_lists ds qs          the schedule of these
--     is_period p             p is a period in microframes: a power of two from 1 to 8,192
--     is_active f q           queue head q stands in frame f
--     chain s f               the members of frame f
--     has_name s id           a member of the schedule has this name
--     predecessor s m f       the word whose link leads to member m in frame f: of the member right before it, or the element
--     successor s m f         the member right behind m in frame f
--     first_frame p           the first frame, in the order of frames, whose chain has the word p: an element's own; a descriptor's
--                             only one; a queue head's phase, since its other frames have the same bits below and more above
--     predecessors s m fs     the words that are stored where m is linked or unlinked, in the order of the frames fs
--     frames_of p fs          the frames among fs whose chains have the word p
use Rattle.std.specs.Prelude.{ℕ, ◌/◌, ◌%◌, max, Bool, ◌&&◌, ◌||◌, nat_eq, if◌then◌else◌, List, [], ◌∷◌, ◌++◌, map, filter, Option, Some, None}
use Rattle.std.specs.List.{flat_map, list_any}
use Rattle.drv_chains.specs.declared.members.Descriptor.{Descriptor}
use Rattle.drv_chains.specs.declared.members.QueueHead.{QueueHead}
use Rattle.drv_chains.specs.declared.members.Member.{Member}
use Rattle.drv_chains.specs.declared.members.Member.TheVariants.{Once, Each}
use Rattle.drv_chains.specs.declared.members.Predecessor.{Predecessor}
use Rattle.drv_chains.specs.declared.members.Predecessor.TheVariants.{Element, After}

pub record Schedule : Type 0 where
  pub descriptors : List Descriptor
  pub queues : List QueueHead

abbrev pub of_lists : List Descriptor → List QueueHead → Schedule
of_lists ds qs = record { descriptors = ds; queues = qs }

-- the periods in microframes, the longest first
abbrev pub periods : List ℕ
periods = 8192 ∷ 4096 ∷ 2048 ∷ 1024 ∷ 512 ∷ 256 ∷ 128 ∷ 64 ∷ 32 ∷ 16 ∷ 8 ∷ 4 ∷ 2 ∷ 1 ∷ []

abbrev pub is_period : ℕ → Bool
is_period period = list_any (λ p. nat_eq period p) periods

-- the frames of a period, 1 below 8 microframes
abbrev pub frame_period : ℕ → ℕ
frame_period period = max 1 (period / 8)

abbrev pub is_active : ℕ → QueueHead → Bool
is_active f q = nat_eq q.phase (f % frame_period q.period)

abbrev pub at_place : ℕ → ℕ → QueueHead → Bool
at_place period phase q = nat_eq q.period period && nat_eq q.phase phase

abbrev pub descriptors_in : Schedule → ℕ → List Descriptor
descriptors_in s f = filter (λ d. nat_eq d.frame f) s.descriptors

abbrev pub queues_in : Schedule → ℕ → ℕ → List QueueHead
queues_in s f period = filter (at_place period (f % frame_period period)) s.queues

abbrev pub chain : Schedule → ℕ → List Member
chain s f = map Once (descriptors_in s f) ++ map Each (flat_map (queues_in s f) periods)

abbrev pub has_name : Schedule → ℕ → Bool
has_name s id = list_any (λ d. nat_eq d.id id) s.descriptors || list_any (λ q. nat_eq q.id id) s.queues

abbrev pub id_of : Member → ℕ
id_of (Once d) = d.id
id_of (Each q) = q.id

abbrev pub is_the : Member → Member → Bool
is_the m other = nat_eq (id_of other) (id_of m)

abbrev pub stands_in : ℕ → Member → Bool
stands_in f (Once d) = nat_eq d.frame f
stands_in f (Each q) = is_active f q

-- the word after which one comes that follows these members
unfoldable pub word_after : Predecessor → List Member → Predecessor
word_after word [] = word
word_after word (m ∷ ms) = word_after (After m) ms

abbrev pub first_of : List Member → Option Member
first_of [] = None
first_of (m ∷ ms) = Some m

-- the members before this one, and those behind it
unfoldable pub before_the : Member → List Member → List Member
before_the m [] = []
before_the m (x ∷ xs) = if is_the m x then [] else x ∷ before_the m xs

unfoldable pub behind_the : Member → List Member → List Member
behind_the m [] = []
behind_the m (x ∷ xs) = if is_the m x then xs else behind_the m xs

abbrev pub predecessor : Schedule → Member → ℕ → Predecessor
predecessor s m f = word_after (Element f) (before_the m (chain s f))

abbrev pub successor : Schedule → Member → ℕ → Option Member
successor s m f = first_of (behind_the m (chain s f))

abbrev pub first_frame : Predecessor → ℕ
first_frame (Element f) = f
first_frame (After (Once d)) = d.frame
first_frame (After (Each q)) = q.phase

-- the word before m in frame f, where that frame is the word's first
abbrev pub word_met : Schedule → Member → ℕ → List Predecessor
word_met s m f = if nat_eq (first_frame (predecessor s m f)) f then predecessor s m f ∷ [] else []

unfoldable pub predecessors : Schedule → Member → List ℕ → List Predecessor
predecessors s m fs = flat_map (word_met s m) (filter (λ f. stands_in f m) fs)

abbrev pub has_word : ℕ → Predecessor → Bool
has_word f (Element g) = nat_eq g f
has_word f (After m) = stands_in f m

abbrev pub frames_of : Predecessor → List ℕ → List ℕ
frames_of word fs = filter (λ f. has_word f word) fs
