-- Bytes that lie in a buffer are read, and received bytes are put into it.
use Rattle.std.proofs.Common.{◌≡◌, ◌≢◌, ℕ, zero, suc, ◌+◌, ◌-◌, ◌<◌, ◌≤◌, true, List, [], ◌∷◌, length, take, drop, Some, refl, sym, subst, ◌∙◌, arith}
use Rattle.std.specs.Prelude.{slice_index}
use Rattle.std.proofs.lemmas.List.{length-take-le, length-drop}
use Rattle.law_structures.proofs.Common.{read_whole, wrote_bytes}
use Rattle.word_mem.specs.Memory.{Mem}
use Rattle.mem_bytes.specs.Bytes.{place, bytes_at, with_bytes, all_reached, AreReached}
use Rattle.mem_bytes.proofs.Reach.{all_reached_if, with_bytes_none}
use Rattle.mem_bytes.proofs.Loads.{bytes_at_none}
use Rattle.hc_copy.specs.Buffer.{size_of, bytes_read, bytes_written}
use Rattle.law_structures.specs.lent_structures.Structures.{Structure, Buffer, HoldsBuffer, Structures, StructureSets, put, Tells}
use Rattle.law_structures.specs.lent_structures.Changes.{overwritten}
use Rattle.law_structures.proofs.lemmas.lent_structures.Names.{names_differ, put_here, put_else}
use Rattle.law_structures.proofs.lemmas.lent_structures.Reading.{bytes_part, bytes_reached, part_reached}
use Rattle.law_structures.proofs.lemmas.lent_structures.Storing.{bytes_are_told, length-overwritten}
use Rattle.law_structures.specs.lent_structures.Alters.{Alters}
use Rattle.law_structures.proofs.lemmas.lent_structures.Altering.{unaltered, buffer_put}
use Rattle.law_structures.specs.lent_structures.WriteBack.{Received, Nothing, Into, received_parts}
use Rattle.law_frames.specs.Met.{IsBuffered}
use Rattle.law_frames.specs.FrameEffects.{AreOut, AreReceivedAt}

-- ---- a part of them

pub part_buffered : (part : Structures) (pages : List ℕ) (from n other count : ℕ) → IsBuffered part pages from n → from ≤ other → other + count ≤ from + n → IsBuffered part pages other count
part_buffered part pages from n other count b low high =
    let after = b.after in
    let within = b.within in
    record { start = b.start; bytes = b.bytes; here = b.here; after = omega (arith, after, low); within = omega (arith, within, high) }

-- they lie in the pages
pub buffered_within : (m : Mem) (parts : StructureSets) (n : ℕ) (pages : List ℕ) (from count : ℕ) → Tells m parts → IsBuffered (parts n) pages from count → from + count ≤ size_of pages
buffered_within m parts n pages from count told b =
    let h : HoldsBuffer m (place pages b.start) pages b.start b.bytes = told.each n (place pages b.start) (Buffer pages b.start b.bytes) b.here in
    let room = h.within in
    let within = b.within in
    omega (arith, room, within)

-- ---- reading

-- the bytes that go out, all of which are read
pub record IsRead (m : Mem) (part : Structures) (pages : List ℕ) (from n : ℕ) : Type 0 where
  pub out : List ℕ
  pub are : AreOut part pages from n out
  pub read : bytes_read pages from n m ≡ record { bytes = out; memory = m; all = true }

none_read : (m : Mem) (part : Structures) (pages : List ℕ) (from : ℕ) → from ≤ size_of pages → IsRead m part pages from 0
none_read m part pages from low = record {
  out = [];
  are = record { count = refl; are = λ some. absurd (omega (arith, some)) };
  read = read_whole pages from 0 m [] (omega (arith, low)) (all_reached_if m pages from 0 (λ i below. absurd (omega (arith, below)))) (bytes_at_none m pages from);
}

some_read : (m : Mem) (parts : StructureSets) (n : ℕ) (pages : List ℕ) (from count : ℕ) → Tells m parts → IsBuffered (parts n) pages from count → IsRead m (parts n) pages from count
some_read m parts n pages from count told b =
    let after = b.after in
    let within = b.within in
    let j : ℕ = from - b.start in
    let e : b.start + j ≡ from = omega (arith, after) in
    let fits : j + count ≤ length b.bytes = omega (arith, after, within) in
    let rest = length-drop j b.bytes in
    record {
      out = take count (drop j b.bytes);
      are = record {
        count = length-take-le count (drop j b.bytes) (omega (arith, rest, fits));
        are = λ some. record { start = b.start; bytes = b.bytes; here = b.here; after = b.after; are = refl };
      };
      read = read_whole pages from count m (take count (drop j b.bytes)) (buffered_within m parts n pages from count told b)
          (subst (λ (k : ℕ). all_reached m pages k count ≡ true) e (bytes_reached m parts n (place pages b.start) pages b.start b.bytes j count told b.here fits))
          (subst (λ (k : ℕ). bytes_at m pages k count ≡ take count (drop j b.bytes)) e (bytes_part m parts n (place pages b.start) pages b.start b.bytes j count told b.here fits));
    }

pub all_read : (m : Mem) (parts : StructureSets) (n : ℕ) (pages : List ℕ) (from count : ℕ) → Tells m parts → from ≤ size_of pages → (0 < count → IsBuffered (parts n) pages from count) → IsRead m (parts n) pages from count
all_read m parts n pages from zero told low buffered = none_read m (parts n) pages from low
all_read m parts n pages from (suc count) told low buffered = some_read m parts n pages from (suc count) told (buffered (omega arith))

-- ---- received bytes

-- they are put into the buffer, none of them is refused, and memory is told
pub record IsPut (m : Mem) (parts : StructureSets) (n : ℕ) (pages : List ℕ) (from : ℕ) (got : List ℕ) : Type 0 where
  pub into : Received
  pub are : AreReceivedAt (parts n) pages from got into
  pub written : bytes_written pages from got m ≡ record { memory = with_bytes m pages from got; all = true }
  pub tells : Tells (with_bytes m pages from got) (received_parts parts n got into)

none_put : (m : Mem) (parts : StructureSets) (n : ℕ) (pages : List ℕ) (from : ℕ) → Tells m parts → from ≤ size_of pages → IsPut m parts n pages from []
none_put m parts n pages from told low = record {
  into = Nothing;
  are = refl;
  written = wrote_bytes m pages from [] (omega (arith, low)) (λ i below. absurd (omega (arith, below)));
  tells = subst (λ (x : Mem). Tells x parts) (with_bytes_none m pages from) told;
}

some_put : (m : Mem) (parts : StructureSets) (n : ℕ) (pages : List ℕ) (from : ℕ) (got : List ℕ) → Tells m parts → IsBuffered (parts n) pages from (length got) → ((i : ℕ) → slice_index got i < 256) → IsPut m parts n pages from got
some_put m parts n pages from got told b small =
    let after = b.after in
    let within = b.within in
    let j : ℕ = from - b.start in
    let e : b.start + j ≡ from = omega (arith, after) in
    let fits : j + length got ≤ length b.bytes = omega (arith, after, within) in
    record {
      into = Into pages b.start b.bytes j;
      are = record { pages_are = refl; buffer = b.here; place_is = sym e; fits = fits; bytes = small };
      written = wrote_bytes m pages from got (buffered_within m parts n pages from (length got) told b)
          (subst (λ (k : ℕ). AreReached m pages k (length got)) e
          (part_reached m (place pages b.start) pages b.start b.bytes j (length got) (told.each n (place pages b.start) (Buffer pages b.start b.bytes) b.here) fits));
      tells = subst (λ (k : ℕ). Tells (with_bytes m pages k got) (put parts n (place pages b.start) (Buffer pages b.start (overwritten b.bytes j got)))) e
          (bytes_are_told m parts n (place pages b.start) pages b.start b.bytes j got told b.here fits small);
    }

pub all_put : (m : Mem) (parts : StructureSets) (n : ℕ) (pages : List ℕ) (from : ℕ) (got : List ℕ) → Tells m parts → from ≤ size_of pages → (0 < length got → IsBuffered (parts n) pages from (length got)) → ((i : ℕ) → slice_index got i < 256) → IsPut m parts n pages from got
all_put m parts n pages from [] told low buffered small = none_put m parts n pages from told low
all_put m parts n pages from (b ∷ bs) told low buffered small = some_put m parts n pages from (b ∷ bs) told (buffered (omega arith)) small

-- ---- what stays where they are put

-- a buffer stays one of as many bytes
pub received_alters : (parts : StructureSets) (n : ℕ) (pages : List ℕ) (from : ℕ) (got : List ℕ) (r : Received) → AreReceivedAt (parts n) pages from got r → Alters (parts n) (received_parts parts n got r n)
received_alters parts n pages from got Nothing is = unaltered (parts n)
received_alters parts n pages from got (Into ps k bs j) is =
    subst (Alters (parts n)) (sym (put_here parts n (place ps k) (Buffer ps k (overwritten bs j got))))
    (buffer_put (parts n) (place ps k) ps k bs (overwritten bs j got) is.buffer (length-overwritten bs j got is.fits))

pub altered_buffered : (part now : Structures) (pages : List ℕ) (from n : ℕ) → Alters part now → IsBuffered part pages from n → IsBuffered now pages from n
altered_buffered part now pages from n alters b =
    let is = alters.buffer (place pages b.start) pages b.start b.bytes b.here in
    let size = is.size in
    let within = b.within in
    record { start = b.start; bytes = is.bytes; here = is.here; after = b.after; within = omega (arith, size, within) }

-- bytes stay in a buffer where a structure of another kind is put in the place of one
pub buffered_beside : (parts : StructureSets) (n a : ℕ) (old new : Structure) (pages : List ℕ) (from count : ℕ) → parts n a ≡ Some old → ((ps : List ℕ) (k : ℕ) (bs : List ℕ) → old ≢ Buffer ps k bs) → IsBuffered (parts n) pages from count → IsBuffered (put parts n a new n) pages from count
buffered_beside parts n a old new pages from count here other b = record {
  start = b.start;
  bytes = b.bytes;
  here = put_else parts n a new (place pages b.start)
      (λ same. names_differ (parts n) a (place pages b.start) old (Buffer pages b.start b.bytes) here b.here (other pages b.start b.bytes) (sym same)) ∙ b.here;
  after = b.after;
  within = b.within;
}
