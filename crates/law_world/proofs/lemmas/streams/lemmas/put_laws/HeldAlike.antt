-- Puts hold their bytes still where their notes tell the same buffers, and these have the same bytes.
use Rattle.std.proofs.Common.{◌≡◌, ◌≢◌, ℕ, zero, suc, ◌+◌, ◌*◌, ◌/◌, ◌%◌, ◌<◌, false, List, ◌++◌, map, set, get_or, slice_get, Some, ap, refl, sym, ◌∙◌, ⊎_elim, arith}
use Rattle.std.specs.List.{range_with_len}
use Rattle.std.proofs.lemmas.Bool.{cases_eq}
use Rattle.std.proofs.lemmas.Option.{same_Some}
use Rattle.law_common.proofs.Lists.{set_here, set_there}
use Rattle.word_mem.specs.Memory.{Mem, word_at}
use Rattle.word_mem.specs.Views.{byte_at}
use Rattle.drv_table.specs.declared.content.QtdNote.{QtdNote}
use Rattle.drv_table.specs.declared.content.Sort.TheVariants as sorts
use Rattle.drv_table.specs.declared.content.Transfer.{Transfer}
use Rattle.drv_table.specs.DriverContent.{DriverContent, no_note}
use Rattle.drv_table.specs.Harvests.{note_at, noted, buffer_bytes}
use Rattle.claims_driver.specs.Owners.{note_in}
use Rattle.law_driver.proofs.lemmas.run_owners.Stays.{same_item}
use Rattle.law_driver.specs.chained_transfers.Chains.{piece_at}
use Rattle.law_world.specs.streams.put_laws.Held.{held_bytes}
use Rattle.law_world.proofs.lemmas.streams.lemmas.put_laws.Words.{bytes_same}
use Rattle.law_world.specs.streams.put_laws.HeldPuts.{HoldsPuts}

-- ---- the qTDs of one transfer

pub record SameNote (a b : QtdNote) : Type 0 where
  pub next : b.next ≡ a.next
  pub buffer : b.buffer ≡ a.buffer
  pub told : b.told ≡ a.told

pub note_itself : (a : QtdNote) → SameNote a a
note_itself a = record { next = refl; buffer = refl; told = refl }

pub note_is : (a b : QtdNote) → b ≡ a → SameNote a b
note_is a b is = record { next = ap (λ (n : QtdNote). n.next) is; buffer = ap (λ (n : QtdNote). n.buffer) is; told = ap (λ (n : QtdNote). n.told) is }

-- its buffer has the same bytes
abbrev pub SameBytes : Mem → Mem → QtdNote → Type 0
SameBytes m new a = buffer_bytes new a a.told ≡ buffer_bytes m a a.told

buffer_by : (m : Mem) (a b : QtdNote) (n : ℕ) → b.buffer ≡ a.buffer → buffer_bytes m b n ≡ buffer_bytes m a n
unfolding buffer_bytes
buffer_by m a b n same = ap (λ (bs : List ℕ). map (λ j. byte_at m (32 * get_or bs (j / 4096) 0 + j % 4096)) (range_with_len 0 n)) same

pub held_alike : (m new : Mem) (notes now : List QtdNote) (b n : ℕ) → ((i : ℕ) → i < n → SameNote (note_at notes (piece_at (note_in notes) b i)) (note_at now (piece_at (note_in notes) b i)))
    → ((i : ℕ) → i < n → SameBytes m new (note_at notes (piece_at (note_in notes) b i))) → held_bytes new now b n ≡ held_bytes m notes b n
unfolding held_bytes
held_alike m new notes now b zero each bytes = refl
held_alike m new notes now b (suc n) each bytes =
    let a = note_at notes b in
    let z = note_at now b in
    let k : SameNote a z = each 0 (omega arith) in
    let here : buffer_bytes new z z.told ≡ buffer_bytes m a a.told = buffer_by new a z z.told k.buffer ∙ ap (buffer_bytes new a) k.told ∙ bytes 0 (omega arith) in
    let rest : held_bytes new now z.next n ≡ held_bytes m notes a.next n =
    ap (λ (i : ℕ). held_bytes new now i n) k.next
    ∙ held_alike m new notes now a.next n (λ i below. each (suc i) (omega (arith, below))) (λ i below. bytes (suc i) (omega (arith, below))) in
    ap (λ (xs : List ℕ). xs ++ held_bytes new now z.next n) here ∙ ap (λ (xs : List ℕ). buffer_bytes m a a.told ++ xs) rest

-- ---- transfers

-- the transfer was there, with the same qTDs
pub record WasThere (xs : List Transfer) (t : ℕ) (y : Transfer) : Type 0 where
  pub transfer : Transfer
  pub there : slice_get xs t ≡ Some transfer
  pub first : y.first ≡ transfer.first
  pub qtds : y.qtds ≡ transfer.qtds
  pub sort : y.sort ≡ transfer.sort
  pub released : y.released ≡ transfer.released

pub was_itself : (xs : List Transfer) (t : ℕ) (y : Transfer) → slice_get xs t ≡ Some y → WasThere xs t y
was_itself xs t y here = record { transfer = y; there = here; first = refl; qtds = refl; sort = refl; released = refl }

abbrev pub WereThere : List Transfer → List Transfer → Type 0
WereThere xs ys = (t : ℕ) (y : Transfer) → slice_get ys t ≡ Some y → WasThere xs t y

pub were_set : (xs : List Transfer) (t : ℕ) (y z : Transfer) → slice_get xs t ≡ Some y → z.first ≡ y.first → z.qtds ≡ y.qtds → z.sort ≡ y.sort → z.released ≡ y.released → WereThere xs (set xs t z)
were_set xs t y z here first qtds sort released k w there =
    ⊎_elim
    (λ (own : k ≡ t).
    let is : w ≡ z = same_Some w z (sym there ∙ ap (slice_get (set xs t z)) own ∙ set_here xs t y z here) in
    record {
      transfer = y;
      there = ap (slice_get xs) own ∙ here;
      first = ap (λ (r : Transfer). r.first) is ∙ first;
      qtds = ap (λ (r : Transfer). r.qtds) is ∙ qtds;
      sort = ap (λ (r : Transfer). r.sort) is ∙ sort;
      released = ap (λ (r : Transfer). r.released) is ∙ released;
    })
    (λ (other : k ≢ t). was_itself xs k w (sym (set_there xs t k z other) ∙ there)) (cases_eq k t)

-- ---- a driver's content

abbrev pub SameNotes : List QtdNote → List QtdNote → Type 0
SameNotes notes now = (b : ℕ) → SameNote (note_at notes b) (note_at now b)

-- a harvest writes only how much was moved
pub noted_same : (notes : List QtdNote) (b moved : ℕ) → SameNotes notes (noted notes b moved)
noted_same notes b moved c =
    let z : QtdNote = record (note_at notes b) { moved = moved } in
    record {
      next = same_item (λ (q : QtdNote). q.next) notes b z no_note refl c;
      buffer = same_item (λ (q : QtdNote). q.buffer) notes b z no_note refl c;
      told = same_item (λ (q : QtdNote). q.told) notes b z no_note refl c;
    }

-- the put was one, and its buffers have the same bytes
pub record StaysPut (d f : DriverContent) (m new : Mem) (t : ℕ) (y : Transfer) : Type 0 where
  pub was : WasThere d.transfers t y
  pub notes : (i : ℕ) → i < y.qtds → SameNote (note_at d.notes (piece_at (note_in d.notes) y.first i)) (note_at f.notes (piece_at (note_in d.notes) y.first i))
  pub bytes : (i : ℕ) → i < y.qtds → SameBytes m new (note_at d.notes (piece_at (note_in d.notes) y.first i))

pub put_stays : (d f : DriverContent) (m new : Mem) (puts : ℕ → List ℕ) (t : ℕ) (y : Transfer) → StaysPut d f m new t y → HoldsPuts d m puts → y.sort ≡ sorts.Put → y.released ≡ false → held_bytes new f.notes y.first y.qtds ≡ puts t
put_stays d f m new puts t y s k put held =
    let w = s.was in
    held_alike m new d.notes f.notes y.first y.qtds s.notes s.bytes ∙ ap (λ (b : ℕ). held_bytes m d.notes b y.qtds) w.first ∙ ap (held_bytes m d.notes w.transfer.first) w.qtds
    ∙ k.each t w.transfer w.there (sym w.sort ∙ put) (sym w.released ∙ held)

pub puts_stay : (d f : DriverContent) (m new : Mem) (puts : ℕ → List ℕ) → ((t : ℕ) (y : Transfer) → slice_get f.transfers t ≡ Some y → y.sort ≡ sorts.Put → y.released ≡ false → StaysPut d f m new t y) → HoldsPuts d m puts → HoldsPuts f new puts
puts_stay d f m new puts stay k = record { each = λ t y here put held. put_stays d f m new puts t y (stay t y here put held) k put held }

-- words that stay, byte for byte
pub words_stay : (m new : Mem) (a : QtdNote) → ((at : ℕ) → word_at new at ≡ word_at m at) → SameBytes m new a
words_stay m new a same = bytes_same m new a a.told (λ j below. same _)

-- where no word changes
pub alike_holds : (d f : DriverContent) (m new : Mem) (puts : ℕ → List ℕ) → WereThere d.transfers f.transfers → SameNotes d.notes f.notes → ((at : ℕ) → word_at new at ≡ word_at m at) → HoldsPuts d m puts → HoldsPuts f new puts
alike_holds d f m new puts were notes same k =
    puts_stay d f m new puts
    (λ t y here put held. record { was = were t y here; notes = λ i below. notes (piece_at (note_in d.notes) y.first i); bytes = λ i below. words_stay m new (note_at d.notes (piece_at (note_in d.notes) y.first i)) same }) k

pub same_holds : (d f : DriverContent) (m new : Mem) (puts : ℕ → List ℕ) → f.transfers ≡ d.transfers → f.notes ≡ d.notes → ((at : ℕ) → word_at new at ≡ word_at m at) → HoldsPuts d m puts → HoldsPuts f new puts
same_holds d f m new puts transfers notes same k =
    alike_holds d f m new puts (λ t y here. was_itself d.transfers t y (sym (ap (λ (ts : List Transfer). slice_get ts t) transfers) ∙ here))
    (λ b. note_is (note_at d.notes b) (note_at f.notes b) (ap (λ (ns : List QtdNote). note_at ns b) notes)) same k
