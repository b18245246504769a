-- A capture (pcapng 1.0): a section with an interface for each speed, and a block for each packet. Numbers stand with their lowest byte
-- first.
use Rattle.std.specs.Prelude.{ℕ, ◌+◌, ◌*◌, ◌/◌, ◌%◌, ◌==◌, List, [], ◌∷◌, ◌++◌, if◌then◌else◌}

abbrev pub half : ℕ → List ℕ
half n = n % 256 ∷ n / 256 % 256 ∷ []

unfoldable pub word : ℕ → List ℕ
word n = n % 256 ∷ n / 256 % 256 ∷ n / 65536 % 256 ∷ n / 16777216 % 256 ∷ []

-- version 1.0, of any length
abbrev pub section_header : List ℕ
section_header = word 0x0a0d0d0a ++ word 28 ++ word 0x1a2b3c4d ++ half 1 ++ half 0 ++ word 0xffffffff ++ word 0xffffffff ++ word 28

-- an interface with this link type, packets of at most 65,535 bytes, and times in units of 10^-9 seconds
abbrev pub interface_header : ℕ → List ℕ
interface_header link = word 1 ++ word 32 ++ half link ++ half 0 ++ word 65535 ++ half 9 ++ half 1 ++ word 9 ++ word 0 ++ word 32

-- USB 2.0 packets as they go at high, full and low speed: link types 295, 294 and 293
abbrev pub file_header : List ℕ
file_header = section_header ++ interface_header 295 ++ interface_header 294 ++ interface_header 293

-- up to a multiple of four
abbrev pub padded : ℕ → ℕ
padded n = (n + 3) / 4 * 4

-- the kind of a packet's block, its length, and its interface
unfoldable pub block_header : ℕ → ℕ → List ℕ
block_header interface bytes = word 6 ++ word (padded bytes + 32) ++ word interface

-- the upper 32 bits first
unfoldable pub time_words : ℕ → List ℕ
time_words nanos = word (nanos / 4294967296) ++ word (nanos % 4294967296)

-- all bytes of a packet stand here
unfoldable pub size_words : ℕ → List ℕ
size_words bytes = word bytes ++ word bytes

-- before a packet: its interface, its time in nanoseconds, and its bytes
unfoldable pub packet_header : ℕ → ℕ → ℕ → List ℕ
packet_header interface nanos bytes = block_header interface bytes ++ time_words nanos ++ size_words bytes

-- zeros behind so many bytes
unfoldable pub padding : ℕ → List ℕ
padding n = if n % 4 == 1 then 0 ∷ 0 ∷ 0 ∷ [] else (if n % 4 == 2 then 0 ∷ 0 ∷ [] else (if n % 4 == 3 then 0 ∷ [] else []))

-- behind a packet of so many bytes
unfoldable pub packet_tail : ℕ → List ℕ
packet_tail bytes = padding bytes ++ word (padded bytes + 32)
