-- What a plan keeps beside its list: a table for each sum that an admission asks for (USB 2.0, 5.11.3 and 11.18).
--     HubTables             the tables of one translator: the classic bus time of each frame and the byte-times of each microframe
--     Pool                  the tables that translators have, by their numbers, and those that no translator has
--     Book                  the list, its room, the bus time of each microframe, and the pool
--     IsPlaced x            what is placed was asked for rightly and has a place
--     serves P n               something is placed below the translator
--     HubStands P n t          a translator has tables exactly where something is placed below it, and their cells are its sums
--     IsLess x P Q          Q is P without one x
--     IsBook b              every cell is its sum, and what is placed keeps every budget
--     sheet_at b n             what an admission below this translator, if there is one, sees of the tables
--     LoadsFit, FramesFit, BytesFit      the cells of a placement's own frames keep their budget with it
--     CellsWithin, FrameWithin           the cells that a placement adds to are at most so much with it
use Rattle.std.specs.Prelude.{◌≡◌, ◌↔◌, ℕ, ◌+◌, ◌*◌, ◌/◌, ◌%◌, ◌<◌, ◌≤◌, min, Bool, true, false, ◌||◌, if◌then◌else◌}
use Rattle.std.specs.Prelude.{List, [], Option, Some, None, is_some, sum_by, slice_index, slice_index_or, slice_set, All, length}
use Rattle.std.specs.List.{list_any, count_by}
use Rattle.usb_base.specs.Limits.{byte_times_of_microframe, microframe_budget, frame_budget, frame_list_length}
use Rattle.bandwidth.specs.declared.placements.Want.{Want}
use Rattle.bandwidth.specs.declared.placements.Placement.{Placement}
use Rattle.bandwidth.specs.declared.placements.Placed.{Placed}
use Rattle.bandwidth.specs.Placements.{IsWant, IsPlace}
use Rattle.bandwidth.specs.Admission.{AreDistinct}
use Rattle.bandwidth.specs.Sums.{load, frame_sum, tt_sum, Fits, is_active, is_at, translator_of, laid_in, time_of}

-- 1,024 frames and 8,192 microframes
pub record HubTables : Type 0 where
  pub frames : List ℕ
  pub bytes : List ℕ

pub record Pool : Type 0 where
  pub hubs : List (Option HubTables)  -- by the number of the translator
  pub free : List HubTables

pub record Book : Type 0 where
  pub room : ℕ
  pub placed : List Placed
  pub loads : List ℕ
  pub pool : Pool

abbrev pub tables_of : Pool → ℕ → Option HubTables
tables_of pool number = slice_index_or pool.hubs number None

-- how many tables there are
abbrev pub pool_size : Pool → ℕ
pool_size pool = length pool.free + count_by is_some pool.hubs

pub record AreCells (t : HubTables) : Type 0 where
  pub frames : length t.frames ≡ frame_list_length
  pub bytes : length t.bytes ≡ 8192

pub record AreZero (t : HubTables) : Type 0 where
  pub cells : AreCells t
  pub frames : (f : ℕ) → f < frame_list_length → slice_index t.frames f ≡ 0
  pub bytes : (u : ℕ) → u < 8192 → slice_index t.bytes u ≡ 0

pub record AreHubSums (placed : List Placed) (number : ℕ) (t : HubTables) : Type 0 where
  pub cells : AreCells t
  pub frames : (f : ℕ) → f < frame_list_length → slice_index t.frames f ≡ frame_sum placed (number / 16) (number % 16) f
  pub bytes : (u : ℕ) → u < 8192 → slice_index t.bytes u ≡ tt_sum placed (number / 16) (number % 16) u

pub record IsPlaced (x : Placed) : Type 0 where
  pub want : IsWant x.want
  pub place : IsPlace x.placement

abbrev pub serves : List Placed → ℕ → Bool
serves placed number = list_any (λ x. is_at x.want number) placed

abbrev pub HubStands : List Placed → ℕ → Option HubTables → Type 0
HubStands placed number None = serves placed number ≡ false
HubStands placed number (Some t) = (serves placed number ≡ true) × AreHubSums placed number t

-- left is all without one x
pub record IsLess (x : Placed) (all left : List Placed) : Type 0 where
  pub sums : (f : Placed → ℕ) → sum_by f all ≡ sum_by f left + f x
  pub serves : (number : ℕ) → serves all number ≡ (is_at x.want number || serves left number)

-- 2,048 translators
pub record IsPool (placed : List Placed) (pool : Pool) : Type 0 where
  pub count : length pool.hubs ≡ 2048
  pub hubs : (number : ℕ) → number < 2048 → HubStands placed number (tables_of pool number)

-- the pool stands for a list that has one x more
pub record HadMore (x : Placed) (left : List Placed) (next : Pool) : Type 0 where
  pub all : List Placed
  pub less : IsLess x all left
  pub pool : IsPool all next

-- what no translator has is 0, and there is room for all of it
pub record IsRoomy (pool : Pool) (room : ℕ) : Type 0 where
  pub count : length pool.hubs ≡ 2048
  pub free : All AreZero pool.free
  pub fits : pool_size pool ≤ room

-- 8,192 microframes
pub record IsBook (b : Book) : Type 0 where
  pub cells : length b.loads ≡ 8192
  pub loads : (u : ℕ) → u < 8192 → slice_index b.loads u ≡ load b.placed u
  pub pool : IsPool b.placed b.pool
  pub size : pool_size b.pool ≡ min b.room 2048
  pub room : length b.placed ≤ b.room
  pub placed : All IsPlaced b.placed
  pub fits : Fits b.placed
  pub ids : AreDistinct b.placed

-- ---- what a placement below a translator adds to its tables, by its classic time and its byte-times in a frame

abbrev pub frame_share : ℕ → Placement → ℕ → ℕ
frame_share time p f = if is_active p f then time else 0

abbrev pub byte_share : (ℕ → ℕ) → Placement → ℕ → ℕ
byte_share laid p u = if is_active p (u / 8) then laid (u % 8) else 0

-- the cells of u are those of t with one placement more
pub record Adds (time : ℕ) (laid : ℕ → ℕ) (p : Placement) (t u : HubTables) : Type 0 where
  pub cells : AreCells u
  pub frames : (f : ℕ) → f < frame_list_length → slice_index u.frames f ≡ slice_index t.frames f + frame_share time p f
  pub bytes : (m : ℕ) → m < 8192 → slice_index u.bytes m ≡ slice_index t.bytes m + byte_share laid p m

-- the cells hold what the placement adds
pub record Holds (time : ℕ) (laid : ℕ → ℕ) (p : Placement) (t : HubTables) : Type 0 where
  pub cells : AreCells t
  pub frames : (f : ℕ) → f < frame_list_length → is_active p f ≡ true → time ≤ slice_index t.frames f
  pub bytes : (m : ℕ) → m < 8192 → is_active p (m / 8) ≡ true → laid (m % 8) ≤ slice_index t.bytes m

-- within the budgets
pub record AreWithin (t : HubTables) : Type 0 where
  pub cells : AreCells t
  pub frames : (f : ℕ) → f < frame_list_length → slice_index t.frames f ≤ frame_budget
  pub bytes : (m : ℕ) → m < 8192 → slice_index t.bytes m ≤ byte_times_of_microframe

-- the tables that a translator has, or new ones
abbrev pub Had : Option HubTables → HubTables → Type 0
Had None t = AreZero t
Had (Some s) t = s ≡ t

-- the translator without tables gets some
pub record Gives (old new : Pool) (number : ℕ) : Type 0 where
  pub given : HubTables
  pub zero : AreZero given
  pub hubs : new.hubs ≡ slice_set old.hubs number (Some given)

-- a placement more stands in the tables of the translator
pub record AddsAt (old new : Pool) (number time : ℕ) (laid : ℕ → ℕ) (p : Placement) : Type 0 where
  pub was : HubTables
  pub now : HubTables
  pub had : Had (tables_of old number) was
  pub adds : Adds time laid p was now
  pub hubs : new.hubs ≡ slice_set old.hubs number (Some now)

-- a placement less
pub record TakesAt (old new : Pool) (number time : ℕ) (laid : ℕ → ℕ) (p : Placement) : Type 0 where
  pub was : HubTables
  pub now : HubTables
  pub had : tables_of old number ≡ Some was
  pub cells : AreCells now
  pub adds : Adds time laid p now was
  pub hubs : new.hubs ≡ slice_set old.hubs number (Some now)

-- ---- what an admission sees

pub record Sheet : Type 0 where
  pub placed : List Placed
  pub loads : List ℕ
  pub frames : List ℕ
  pub bytes : List ℕ

-- a translator without tables has no sum above 0, as an empty table
abbrev pub tables_or_none : Option HubTables → HubTables
tables_or_none None = record { frames = []; bytes = [] }
tables_or_none (Some t) = t

abbrev pub tables_at : Pool → Option ℕ → HubTables
tables_at pool None = record { frames = []; bytes = [] }
tables_at pool (Some number) = tables_or_none (tables_of pool number)

abbrev pub sheet_at : Book → Option ℕ → Sheet
sheet_at b number =
    record { placed = b.placed; loads = b.loads; frames = (tables_at b.pool number).frames; bytes = (tables_at b.pool number).bytes }

pub record AreSums (s : Sheet) (number : Option ℕ) : Type 0 where
  pub loads : (u : ℕ) → u < 8192 → slice_index s.loads u ≡ load s.placed u
  pub frames :
      (h f : ℕ) → number ≡ Some h → h < 2048 → f < frame_list_length
      → slice_index s.frames f ≡ frame_sum s.placed (h / 16) (h % 16) f
  pub bytes :
      (h u : ℕ) → number ≡ Some h → h < 2048 → u < 8192
      → slice_index s.bytes u ≡ tt_sum s.placed (h / 16) (h % 16) u

-- what must stay within the budgets in the placement's own frames

abbrev pub LoadsFit : List ℕ → (ℕ → ℕ) → Placement → Type 0
LoadsFit loads cost p =
    (u : ℕ) → u < 8192 → is_active p (u / 8) ≡ true → slice_index loads u + cost (u % 8) ≤ microframe_budget

abbrev pub FramesFit : List ℕ → ℕ → Placement → Type 0
FramesFit frames time p = (f : ℕ) → f < frame_list_length → is_active p f ≡ true → slice_index frames f + time ≤ frame_budget

abbrev pub BytesFit : List ℕ → (ℕ → ℕ) → Placement → Type 0
BytesFit bytes laid p =
    (u : ℕ) → u < 8192 → is_active p (u / 8) ≡ true → slice_index bytes u + laid (u % 8) ≤ byte_times_of_microframe

-- each cell of the placement's own frames that gets an amount is at most n with it
abbrev pub CellsWithin : List ℕ → (ℕ → ℕ) → Placement → ℕ → Type 0
CellsWithin cells amount p n =
    (u : ℕ) → u < 8192 → is_active p (u / 8) ≡ true → 1 ≤ amount (u % 8) → slice_index cells u + amount (u % 8) ≤ n

-- the same of one frame
abbrev pub FrameWithin : List ℕ → ℕ → (ℕ → ℕ) → ℕ → Type 0
FrameWithin cells frame amount n = (m : ℕ) → m < 8 → 1 ≤ amount m → slice_index cells (8 * frame + m) + amount m ≤ n

pub record BelowFits (t : HubTables) (time : ℕ) (laid : ℕ → ℕ) (p : Placement) : Type 0 where
  pub frames : FramesFit t.frames time p
  pub bytes : BytesFit t.bytes laid p

-- what the answer r of a test of the budgets below the translator, if there is one, says
pub record Tells (b : Book) (w : Want) (p : Placement) (r : Bool) : Type 0 where
  pub alone : translator_of w ≡ None → r ≡ true
  pub fits :
      (number : ℕ) → translator_of w ≡ Some number
      → (r ≡ true) ↔ (BelowFits (tables_at b.pool (Some number)) (time_of w) (laid_in w p) p)
  pub small : (number : ℕ) → translator_of w ≡ Some number → number < 2048
