-- Data packets, and the damaged ones.
use Rattle.std.proofs.Common.{◌≡◌, ℕ, ◌+◌, ◌/◌, List, [], ◌∷◌, ◌++◌, length, ap, sym, refl, ◌∙◌, arith, Result, Ok, Err, IfOk}
use Rattle.std.proofs.lemmas.List.{append_assoc, length-append}
use Rattle.usb_base.specs.declared.packets.Pid.{Pid}
use Rattle.bus_capture.specs.Checks.{check16}
use Rattle.bus_capture.specs.Packets.{data_bytes, pid_byte, low_byte, check_bytes, handshake_bytes}
use Rattle.bus_packets.specs.Packets.{turned, turned_last, damaged_check, header_at, record_at}
use Rattle.usb_base.specs.declared.packets.Speed.{Speed}
use Rattle.bus_capture.specs.Capture.{packet_tail}

-- of bytes with two more behind them the second of these is turned
turned_behind : (x : ℕ) (xs : List ℕ) (a b : ℕ) → turned_last (x ∷ (xs ++ (a ∷ b ∷ []))) ≡ x ∷ (xs ++ (a ∷ turned b ∷ []))
unfolding turned_last
turned_behind x [] a b = refl
turned_behind x (y ∷ ys) a b = ap (λ zs. x ∷ zs) (turned_behind y ys a b)

pub damaged_data : (pid : Pid) (bytes : List ℕ) → turned_last (data_bytes pid bytes) ≡ handshake_bytes pid ++ (bytes ++ damaged_check (check16 bytes))
damaged_data pid bytes = turned_behind (pid_byte pid) bytes (low_byte (check16 bytes)) (low_byte (check16 bytes / 256))

pub data_length : (pid : Pid) (bytes : List ℕ) → length (data_bytes pid bytes) ≡ length bytes + 3
data_length pid bytes = omega (arith, length-append bytes (check_bytes (check16 bytes)))

pub damaged_length : (pid : Pid) (bytes : List ℕ) → length (turned_last (data_bytes pid bytes)) ≡ length bytes + 3
damaged_length pid bytes =
    ap length (damaged_data pid bytes) ∙ omega (arith, length-append bytes (damaged_check (check16 bytes)))

-- three pieces were appended
pub in_three : (t0 t1 t2 t3 x y z w : List ℕ) → t1 ≡ t0 ++ x → t2 ≡ t1 ++ y → t3 ≡ t2 ++ z → w ≡ x ++ (y ++ z) → t3 ≡ t0 ++ w
in_three t0 t1 t2 t3 x y z w a b c e =
    c ∙ ap (λ t. t ++ z) b ∙ ap (λ t. t ++ y ++ z) a ∙ append_assoc (t0 ++ x) y z ∙ append_assoc t0 x (y ++ z) ∙ ap (λ t. t0 ++ t) (sym e)

-- what stands before a packet was appended, then the packet, and what stands behind it if that went well
pub in_block : {T E : Type 0} (r : Result T E) (speed : Speed) (ps n : ℕ) (t0 t1 t2 t3 x : List ℕ) → t1 ≡ t0 ++ header_at speed ps n → length x ≡ n → t2 ≡ t1 ++ x
    → IfOk r (λ _. t3 ≡ t2 ++ packet_tail n) → IfOk r (λ _. t3 ≡ t0 ++ record_at speed ps x)
unfolding record_at
in_block (Err e) speed ps n t0 t1 t2 t3 x a b c d = tt
in_block (Ok u) speed ps n t0 t1 t2 t3 x a b c d =
    in_three t0 t1 t2 t3 (header_at speed ps (length x)) x (packet_tail (length x)) _ (a ∙ ap (λ k. t0 ++ header_at speed ps k) (sym b)) c
    (d ∙ ap (λ k. t2 ++ packet_tail k) (sym b)) refl
