-- The load script: forty endpoints at high speed and behind two hubs, whose periods, lengths and seeds are drawn from one number.
--     drawn x            the number after one draw; what is drawn is its upper half
--     draws x n          n draws from x on: ten periods, and then a length and a seed for each endpoint
--     piece s ds i       what part s of the script says of endpoint or device i
--     load_text n        the whole text
use Rattle.std.specs.Prelude.{ℕ, zero, suc, ◌+◌, ◌*◌, ◌/◌, ◌%◌, ◌^◌, ◌-◌, ◌==◌, Bool, true, false, List, [], ◌∷◌, ◌++◌, slice_index, nat_lt, codes, if◌then◌else◌}
use Rattle.std.specs.Fmt.{decimal}
use Rattle.std.specs.List.{flat_map, range_with_len}
use Rattle.script_load.specs.declared.parts.Load.{Load}
use Rattle.script_load.specs.declared.parts.Load.TheVariants.{Bulk512, Bulk64, Interrupt}
use Rattle.script_load.specs.declared.parts.LoadPart.{LoadPart}
use Rattle.script_load.specs.declared.parts.LoadPart.TheVariants as parts

-- ---- draws

abbrev pub drawn : ℕ → ℕ
drawn x = (x * 1664525 + 1013904223) % 4294967296

unfoldable pub draws : ℕ → ℕ → List ℕ
draws x zero = []
draws x (suc n) = drawn x / 65536 ∷ draws (drawn x) n

-- ---- endpoint i: of device i / 2 + 1, an IN of number 1 and then an OUT of number 2; the first ten devices are high-speed ones

abbrev pub address : ℕ → ℕ
address i = i / 2 + 1

abbrev pub is_in : ℕ → Bool
is_in i = i % 2 == 0

abbrev pub load_of : ℕ → Load
load_of i = if nat_lt i 20 then Bulk512 else (if is_in i then Interrupt else Bulk64)

abbrev pub period : List ℕ → ℕ → ℕ
period ds i = 8 * 2 ^ (slice_index ds (address i - 11) % 4)

-- by what was drawn
abbrev pub long : Load → ℕ → ℕ
long Bulk512 d = 512 + d % 8192
long Bulk64 d = 64 * (1 + d % 32)
long Interrupt d = 8 * (1 + d % 16)

abbrev pub length_of : List ℕ → ℕ → ℕ
length_of ds i = long (load_of i) (slice_index ds (10 + 2 * i))

abbrev pub seed_of : List ℕ → ℕ → ℕ
seed_of ds i = slice_index ds (11 + 2 * i) % 256

-- ---- lines

abbrev pub end_words : Bool → List ℕ
end_words true = codes " 1 in"
end_words false = codes " 2 out"

-- `<address> <number> <way>`
abbrev pub ep_words : ℕ → List ℕ
ep_words i = decimal (address i) ++ end_words (is_in i)

-- five devices at the ports of hub 101, and five at those of hub 102
abbrev pub hub_words : ℕ → List ℕ
hub_words k = if nat_lt k 16 then codes " full 101 " ++ decimal (k - 10) else codes " full 102 " ++ decimal (k - 15)

abbrev pub device_line : ℕ → List ℕ
device_line k = codes "dev " ++ (decimal k ++ ((if nat_lt k 11 then codes " high" else hub_words k) ++ 10 ∷ []))

abbrev pub kind_words : Load → ℕ → List ℕ
kind_words Bulk512 p = codes " bulk 512"
kind_words Bulk64 p = codes " bulk 64"
kind_words Interrupt p = codes " interrupt 8 " ++ (decimal p ++ codes " 1")

abbrev pub endpoint_line : List ℕ → ℕ → List ℕ
endpoint_line ds i = codes "ep " ++ (ep_words i ++ (kind_words (load_of i) (period ds i) ++ 10 ∷ []))

-- ` fill <length> <seed>`
abbrev pub fill_words : List ℕ → ℕ → List ℕ
fill_words ds i = codes " fill " ++ (decimal (length_of ds i) ++ (32 ∷ decimal (seed_of ds i)))

abbrev pub reply_line : List ℕ → ℕ → List ℕ
reply_line ds i = if is_in i then codes "reply " ++ (ep_words i ++ (fill_words ds i ++ 10 ∷ [])) else []

abbrev pub open_lines : ℕ → List ℕ
open_lines i = codes "open " ++ (ep_words i ++ codes "\norder d 2000\n")

abbrev pub get_line : List ℕ → ℕ → List ℕ
get_line ds i = codes "get " ++ (ep_words i ++ (32 ∷ decimal (length_of ds i)))

abbrev pub put_line : List ℕ → ℕ → List ℕ
put_line ds i = codes "put " ++ (ep_words i ++ fill_words ds i)

abbrev pub transfer_lines : List ℕ → ℕ → List ℕ
transfer_lines ds i = (if is_in i then get_line ds i else put_line ds i) ++ codes "\norder d 100\n"

-- ---- the text

abbrev pub piece : LoadPart → List ℕ → ℕ → List ℕ
piece parts.Devices ds i = device_line (i + 1)
piece parts.Endpoints ds i = endpoint_line ds i
piece parts.Replies ds i = reply_line ds i
piece parts.Opens ds i = open_lines i
piece parts.Transfers ds i = transfer_lines ds i

unfoldable pub part_text : LoadPart → List ℕ → ℕ → List ℕ
part_text s ds n = flat_map (piece s ds) (range_with_len 0 n)

abbrev pub all_parts : List ℕ → List ℕ
all_parts ds =
    codes "ehci 1\nmem 262144\nhub 101 5\nhub 102 5\n"
    ++ (part_text parts.Devices ds 20
    ++ (part_text parts.Endpoints ds 40
    ++ (part_text parts.Replies ds 40
    ++ (part_text parts.Opens ds 40
    ++ (part_text parts.Transfers ds 40
    ++ codes "order m 4000\n")))))

abbrev pub load_text : ℕ → List ℕ
load_text n = all_parts (draws n 90)
