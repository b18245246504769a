-- The bytes that the controller reads from a buffer and writes to it, of which it tests first that they lie in the buffer's pages (EHCI
-- 1.0, 4.10.6). A place counts from the start of the first page.
use Rattle.std.specs.Prelude.{ℕ, ◌+◌, ◌-◌, ◌*◌, Bool, ◌&&◌, nat_le, List, length, take, if◌then◌else◌}
use Rattle.word_mem.specs.Memory.{Mem, refused}
use Rattle.mem_bytes.specs.Bytes.{bytes_at, stored, all_reached}
use Rattle.qh_qtd.specs.declared.queue_head.Qh.{Qh}
use Rattle.hc_copy.specs.declared.held.Transaction.{Transaction}
use Rattle.hc_copy.specs.Overlay.{pages_of, buffer_place}

-- the bytes of these pages
abbrev pub size_of : List ℕ → ℕ
size_of pages = 4096 * length pages

-- ---- reading

-- what was read, memory after it, and whether all of it was read
pub record Reading : Type 0 where
  pub bytes : List ℕ
  pub memory : Mem
  pub all : Bool

-- n bytes from a place on. Where one of them lies past the last page none is tried; the first that the controller may not touch is one
-- more refusal.
abbrev pub bytes_read : List ℕ → ℕ → ℕ → Mem → Reading
bytes_read pages from n m = record {
  bytes = bytes_at m pages from n;
  memory = if nat_le (from + n) (size_of pages) then (if all_reached m pages from n then m else refused m) else m;
  all = nat_le (from + n) (size_of pages) && all_reached m pages from n;
}

-- the bytes that a transaction sends
abbrev pub sending : Transaction → Qh → Mem → Reading
sending t q m = bytes_read (pages_of q) (buffer_place q) t.bytes m

-- ---- writing

-- memory after some writes, and whether all of them were made
pub record Writing : Type 0 where
  pub memory : Mem
  pub all : Bool

-- the bytes that have a place in the pages
abbrev pub placed : List ℕ → ℕ → List ℕ → List ℕ
placed pages from got = take (size_of pages - from) got

-- Received bytes from a place on. Those past the last page have no place, and the first that the controller may not touch ends it.
abbrev pub bytes_written : List ℕ → ℕ → List ℕ → Mem → Writing
bytes_written pages from got m = record {
  memory = stored m pages from (placed pages from got);
  all = all_reached m pages from (length (placed pages from got)) && nat_le (from + length got) (size_of pages);
}
