-- Bytes of a buffer that is told, read and written from any place of its pages on.
use Rattle.std.proofs.Common.{◌≡◌, ◌≢◌, ℕ, ◌+◌, ◌-◌, ◌<◌, ◌≤◌, true, List, [], ◌∷◌, length, take, drop, slice_index, Some, ap, refl, sym, subst, ◌∙◌, ⊎_elim, arith}
use Rattle.std.proofs.lemmas.Bool.{cases_lt, cases_eq}
use Rattle.std.proofs.lemmas.List.{length-take, length-drop}
use Rattle.std.proofs.lemmas.Option.{same_Some}
use Rattle.law_structures.proofs.Common.{read_whole, wrote_bytes}
use Rattle.law_frames.proofs.Common.{sitd_is_no_buffer}
use Rattle.word_mem.specs.Memory.{Mem}
use Rattle.mem_bytes.specs.Bytes.{place, with_bytes, AreReached}
use Rattle.mem_bytes.proofs.Reach.{all_reached_if, with_bytes_none}
use Rattle.mem_bytes.proofs.Loads.{bytes_at_none}
use Rattle.itd_sitd.specs.declared.sitd.Sitd.{Sitd}
use Rattle.hc_copy.specs.Buffer.{size_of, bytes_read, bytes_written}
use Rattle.law_structures.specs.lent_structures.Structures.{Buffer, SplitIsochronous, HoldsBuffer, Structures, StructureSets, put, Tells}
use Rattle.law_structures.specs.lent_structures.Changes.{overwritten}
use Rattle.law_structures.proofs.lemmas.lent_structures.Names.{names_differ, put_same, put_else}
use Rattle.law_structures.proofs.lemmas.lent_structures.Reading.{bytes_part, bytes_reached, part_reached}
use Rattle.law_structures.proofs.lemmas.lent_structures.Storing.{bytes_are_told, length-overwritten}
use Rattle.law_structures.specs.lent_structures.WriteBack.{Received, Nothing, Into, received_parts}
use Rattle.law_frames.specs.Met.{IsBuffered}
use Rattle.law_frames.specs.FrameEffects.{AreReceivedAt}
use Rattle.law_frames.specs.SitdBacks.{AreRead}

-- ---- they are read

none_read : (part : Structures) (pages : List ℕ) (from n : ℕ) (m : Mem) → from ≤ size_of pages → n ≤ 0 → AreRead part pages from n m
none_read part pages from n m inside few =
    let none : n ≡ 0 = omega (arith, few) in
    record {
      out = [];
      are = record { count = omega (arith, none); are = λ some. absurd (omega (arith, few, some)) };
      read = ap (λ (k : ℕ). bytes_read pages from k m) none
          ∙ read_whole pages from 0 m [] (omega (arith, inside)) (all_reached_if m pages from 0 (λ i below. absurd (omega (arith, below)))) (bytes_at_none m pages from);
    }

some_read : (m : Mem) (parts : StructureSets) (a : ℕ) (pages : List ℕ) (from n : ℕ) → Tells m parts → IsBuffered (parts a) pages from n → AreRead (parts a) pages from n m
some_read m parts a pages from n told k =
    let h : HoldsBuffer m (place pages k.start) pages k.start k.bytes = told.each a (place pages k.start) (Buffer pages k.start k.bytes) k.here in
    let j : ℕ = from - k.start in
    let at : from ≡ k.start + (from - k.start) = omega (arith, k.after) in
    let fits : from - k.start + n ≤ length k.bytes = omega (arith, k.after, k.within) in
    let room = h.within in
    let taken = length-take n (drop j k.bytes) in
    let dropped = length-drop j k.bytes in
    record {
      out = take n (drop j k.bytes);
      are = record {
        count = omega (arith, taken, dropped, fits);
        are = λ some. record { start = k.start; bytes = k.bytes; here = k.here; after = k.after; are = refl };
      };
      read = ap (λ (x : ℕ). bytes_read pages x n m) at
          ∙ read_whole pages (k.start + j) n m (take n (drop j k.bytes)) (omega (arith, room, fits)) (bytes_reached m parts a (place pages k.start) pages k.start k.bytes j n told k.here fits)
          (bytes_part m parts a (place pages k.start) pages k.start k.bytes j n told k.here fits);
    }

pub all_read : (m : Mem) (parts : StructureSets) (a : ℕ) (pages : List ℕ) (from n : ℕ) → Tells m parts → from ≤ size_of pages → (0 < n → IsBuffered (parts a) pages from n)
    → AreRead (parts a) pages from n m
all_read m parts a pages from n told inside buffered =
    ⊎_elim (λ (some : 0 < n). some_read m parts a pages from n told (buffered some)) (λ (few : n ≤ 0). none_read (parts a) pages from n m inside few) (cases_lt 0 n)

-- ---- they are put

-- fewer bytes from the same place on
pub fewer_buffered : (part : Structures) (pages : List ℕ) (from n few : ℕ) → few ≤ n → IsBuffered part pages from n → IsBuffered part pages from few
fewer_buffered part pages from n few le k = record { start = k.start; bytes = k.bytes; here = k.here; after = k.after; within = omega (arith, le, k.within) }

pub put_there : (part : Structures) (pages : List ℕ) (from : ℕ) (got : List ℕ) → (0 < length got → IsBuffered part pages from (length got)) → ((i : ℕ) → slice_index got i < 256)
    → (into : Received) × AreReceivedAt part pages from got into
put_there part pages from [] buffered small = (Nothing, refl)
put_there part pages from (b ∷ bs) buffered small =
    let k = buffered (omega arith) in
    (Into pages k.start k.bytes (from - k.start), record { pages_are = refl; buffer = k.here; place_is = omega (arith, k.after); fits = omega (arith, k.after, k.within); bytes = small })

received_fits : (m : Mem) (parts : StructureSets) (n : ℕ) (pages : List ℕ) (from : ℕ) (got : List ℕ) (into : Received) → Tells m parts → from ≤ size_of pages
    → AreReceivedAt (parts n) pages from got into → from + length got ≤ size_of pages
received_fits m parts n pages from got Nothing told inside none = let l = ap length none in omega (arith, inside, l)
received_fits m parts n pages from got (Into ps k bs j) told inside into =
    let h : HoldsBuffer m (place ps k) ps k bs = told.each n (place ps k) (Buffer ps k bs) into.buffer in
    let room = h.within in
    let same = ap length into.pages_are in
    let at = into.place_is in
    let fits = into.fits in
    omega (arith, room, same, at, fits)

received_reached : (m : Mem) (parts : StructureSets) (n : ℕ) (pages : List ℕ) (from : ℕ) (got : List ℕ) (into : Received) → Tells m parts → AreReceivedAt (parts n) pages from got into
    → AreReached m pages from (length got)
received_reached m parts n pages from got Nothing told none = λ i below. let l = ap length none in absurd (omega (arith, below, l))
received_reached m parts n pages from got (Into ps k bs j) told into =
    subst (λ (xs : List ℕ). AreReached m xs from (length got)) (sym into.pages_are)
    (subst (λ (at : ℕ). AreReached m ps at (length got)) (sym into.place_is)
    (part_reached m (place ps k) ps k bs j (length got) (told.each n (place ps k) (Buffer ps k bs) into.buffer) into.fits))

pub received_told : (m : Mem) (parts : StructureSets) (n : ℕ) (pages : List ℕ) (from : ℕ) (got : List ℕ) (into : Received) → Tells m parts → AreReceivedAt (parts n) pages from got into
    → Tells (with_bytes m pages from got) (received_parts parts n got into)
received_told m parts n pages from got Nothing told none =
    subst (λ (x : Mem). Tells x parts) (with_bytes_none m pages from ∙ ap (with_bytes m pages from) (sym none)) told
received_told m parts n pages from got (Into ps k bs j) told into =
    subst (λ (xs : List ℕ). Tells (with_bytes m xs from got) (put parts n (place ps k) (Buffer ps k (overwritten bs j got)))) (sym into.pages_are)
    (subst (λ (at : ℕ). Tells (with_bytes m ps at got) (put parts n (place ps k) (Buffer ps k (overwritten bs j got)))) (sym into.place_is)
    (bytes_are_told m parts n (place ps k) ps k bs j got told into.buffer into.fits into.bytes))

pub received_written : (m : Mem) (parts : StructureSets) (n : ℕ) (pages : List ℕ) (from : ℕ) (got : List ℕ) (into : Received) → Tells m parts → from ≤ size_of pages
    → AreReceivedAt (parts n) pages from got into → bytes_written pages from got m ≡ record { memory = with_bytes m pages from got; all = true }
received_written m parts n pages from got into told inside received =
    wrote_bytes m pages from got (received_fits m parts n pages from got into told inside received)
    (received_reached m parts n pages from got into told received)

-- ---- what has a name then

-- a buffer stays one, as long as it was
pub record IsStill (part : Structures) (pages : List ℕ) (start : ℕ) (bytes : List ℕ) : Type 0 where
  pub after : List ℕ
  pub long : length after ≡ length bytes
  pub here : part (place pages start) ≡ Some (Buffer pages start after)

still_into : (parts : StructureSets) (n : ℕ) (got ps : List ℕ) (k : ℕ) (bs : List ℕ) (j : ℕ) (pages : List ℕ) (start : ℕ) (bytes : List ℕ) → parts n (place ps k) ≡ Some (Buffer ps k bs)
    → j + length got ≤ length bs → parts n (place pages start) ≡ Some (Buffer pages start bytes) → IsStill (put parts n (place ps k) (Buffer ps k (overwritten bs j got)) n) pages start bytes
still_into parts n got ps k bs j pages start bytes there fits here =
    ⊎_elim (λ (same : place pages start ≡ place ps k).
    let one : Buffer pages start bytes ≡ Buffer ps k bs = same_Some (Buffer pages start bytes) (Buffer ps k bs) (sym here ∙ ap (parts n) same ∙ there) in
    let pages_are : pages ≡ ps = cc in
    let start_is : start ≡ k = cc in
    let bytes_are : bytes ≡ bs = cc in
    record {
      after = overwritten bs j got;
      long = length-overwritten bs j got fits ∙ ap length (sym bytes_are);
      here = ap (put parts n (place ps k) (Buffer ps k (overwritten bs j got)) n) same ∙ put_same parts n (place ps k) (Buffer ps k (overwritten bs j got))
          ∙ ap (λ (xs : List ℕ). Some (Buffer xs k (overwritten bs j got))) (sym pages_are) ∙ ap (λ (x : ℕ). Some (Buffer pages x (overwritten bs j got))) (sym start_is);
    })
    (λ (differs : place pages start ≢ place ps k). record {
      after = bytes;
      long = refl;
      here = put_else parts n (place ps k) (Buffer ps k (overwritten bs j got)) (place pages start) differs ∙ here;
    }) (cases_eq (place pages start) (place ps k))

still_received : (parts : StructureSets) (n : ℕ) (at : List ℕ) (from : ℕ) (got : List ℕ) (into : Received) (pages : List ℕ) (start : ℕ) (bytes : List ℕ)
    → AreReceivedAt (parts n) at from got into → parts n (place pages start) ≡ Some (Buffer pages start bytes) → IsStill (received_parts parts n got into n) pages start bytes
still_received parts n at from got Nothing pages start bytes none here = record { after = bytes; long = refl; here = here }
still_received parts n at from got (Into ps k bs j) pages start bytes into here = still_into parts n got ps k bs j pages start bytes into.buffer into.fits here

-- so it does where a siTD is written back too
pub still_buffered : (parts : StructureSets) (n : ℕ) (at : List ℕ) (from : ℕ) (got : List ℕ) (into : Received) (pages : List ℕ) (start : ℕ) (bytes : List ℕ) (a : ℕ) (v new : Sitd)
    → AreReceivedAt (parts n) at from got into → parts n a ≡ Some (SplitIsochronous v)
    → parts n (place pages start) ≡ Some (Buffer pages start bytes) → IsStill (put (received_parts parts n got into) n a (SplitIsochronous new) n) pages start bytes
still_buffered parts n at from got into pages start bytes a v new received sitd here =
    let k = still_received parts n at from got into pages start bytes received here in
    record {
      after = k.after;
      long = k.long;
      here = put_else (received_parts parts n got into) n a (SplitIsochronous new) (place pages start)
          (λ same. names_differ (parts n) a (place pages start) (SplitIsochronous v) (Buffer pages start bytes) sitd here (sitd_is_no_buffer v pages start bytes) (sym same))
          ∙ k.here;
    }
