-- Packets as bytes (USB 2.0, 8.3 and 8.4).
--     token_bytes pid addr ep       IN, OUT, SETUP or PING
--     split_bytes x                 the SPLIT before a token
--     data_bytes pid bytes          a data packet
--     handshake_bytes pid           a handshake
use Rattle.std.specs.Prelude.{ℕ, ◌+◌, ◌-◌, ◌*◌, ◌/◌, ◌%◌, Bool, true, false, List, [], ◌∷◌, ◌++◌}
use Rattle.usb_base.specs.Acknowledgement.{pid_bits}
use Rattle.usb_base.specs.declared.packets.Pid.{Pid}
use Rattle.usb_base.specs.declared.packets.Pid.TheVariants as pids
use Rattle.bus_capture.specs.declared.packets.SplitPacket.{SplitPacket}
use Rattle.bus_capture.specs.Checks.{check5, check16}

-- the four bits of the identifier, and above them the same inverted (8.3.1)
abbrev pub pid_byte : Pid → ℕ
pid_byte pid = pid_bits pid + 16 * (15 - pid_bits pid)

abbrev pub low_byte : ℕ → ℕ
low_byte n = n % 256

-- the fields of a token: seven bits of address, four of the endpoint (8.4.1)
abbrev pub token_fields : ℕ → ℕ → ℕ
token_fields addr ep = addr % 128 + 128 * (ep % 16)

-- the fields, and above them their check
abbrev pub checked : ℕ → ℕ → ℕ → ℕ
checked fields k size = fields + size * check5 fields k

abbrev pub token_word : ℕ → ℕ → ℕ
token_word addr ep = checked (token_fields addr ep) 11 2048

abbrev pub token_bytes : Pid → ℕ → ℕ → List ℕ
token_bytes pid addr ep = pid_byte pid ∷ low_byte (token_word addr ep) ∷ low_byte (token_word addr ep / 256) ∷ []

-- one bit
abbrev pub bit : Bool → ℕ → ℕ
bit true n = n
bit false n = 0

-- The fields of a SPLIT: the hub's address, complete or start, the port, two bits by the kind, and the two bits of the transfer type (8.4.2).
abbrev pub split_fields : SplitPacket → ℕ
split_fields x = x.hub % 128 + bit x.complete 128 + 256 * (x.port % 128) + bit x.speed 32768 + bit x.end 65536 + 131072 * (x.kind % 4)

abbrev pub split_word : SplitPacket → ℕ
split_word x = checked (split_fields x) 19 524288

abbrev pub split_bytes : SplitPacket → List ℕ
split_bytes x = pid_byte pids.Split ∷ low_byte (split_word x) ∷ low_byte (split_word x / 256) ∷ low_byte (split_word x / 65536) ∷ []

-- the check goes with its lower byte first (8.4.4)
abbrev pub check_bytes : ℕ → List ℕ
check_bytes n = low_byte n ∷ low_byte (n / 256) ∷ []

abbrev pub data_bytes : Pid → List ℕ → List ℕ
data_bytes pid bytes = (pid_byte pid ∷ []) ++ (bytes ++ check_bytes (check16 bytes))

abbrev pub handshake_bytes : Pid → List ℕ
handshake_bytes pid = pid_byte pid ∷ []
