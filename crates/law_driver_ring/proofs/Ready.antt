-- Once an open was accepted its structures stand in runs that are kept, and are all that is to be lent.
use Rattle.std.proofs.Common.{◌≡◌, ℕ, ◌+◌, ◌*◌, ◌≤◌, ◌⊎◌, false, ◌||◌, List, [], ◌∷◌, ◌++◌, length, drop, get_or, Ok, ap, refl, sym, subst, ◌∙◌, ⊎_elim, inl, inr, arith}
use Rattle.law_driver_ring.proofs.Common.{stored_one}
use Rattle.law_common.proofs.Lists.{pushed_new, drop_first}
use Rattle.usb_base.specs.declared.endpoints.EpDesc.{EpDesc}
use Rattle.usb_base.specs.declared.packets.EpKind.{EpKind}
use Rattle.usb_base.specs.declared.packets.EpKind.TheVariants as kinds
use Rattle.word_mem.specs.Runs.{Run, AreApart}
use Rattle.word_mem.specs.Memory.{Mem, IsShaped, with_word}
use Rattle.word_mem.specs.Views.{words_in, with_words_in, with_words}
use Rattle.word_mem.proofs.Words.{length-with_words_in, words_in-with_words_in_same, words_in-with_words_in_apart}
use Rattle.qh_qtd.specs.declared.qtd.Qtd.{Qtd}
use Rattle.qh_qtd.specs.declared.queue_head.Qh.{Qh}
use Rattle.qh_qtd.specs.Qtd.{qtd_words}
use Rattle.qh_qtd.specs.QueueHead.{qh_words, IsQhInRange}
use Rattle.qh_qtd.proofs.QhLaws.{qh_words-length}
use Rattle.mem_runs.specs.declared.slots.Slot.{Slot}
use Rattle.mem_runs.specs.declared.slots.Slot.TheVariants.{Empty, Keeps, Lends}
use Rattle.mem_runs.specs.Book.{Book, Holding, holding, slot_of, store_words, Stands}
use Rattle.mem_runs.proofs.Standing.{keeps_at}
use Rattle.drv_periodic_table.specs.Periodic.{is_periodic}
use Rattle.drv_table.specs.DriverContent.{DriverContent}
use Rattle.drv_table.specs.Words.{queue_head, dummy_qtd}
use Rattle.drv_table.specs.Kinds.{is_iso}
use Rattle.drv_table.specs.Accepting.{Offered, new_runs, newest_of, take_runs}
use Rattle.drv_table.specs.Offers.{new_endpoint, accepted_open}
use Rattle.claims_driver.specs.Owners.{HasBlocks, runs_of_endpoint}
use Rattle.claims_driver.specs.Leaving.{HasOwners}
use Rattle.law_driver.proofs.lemmas.run_owners.Taking.{AreTaken, runs_taken}
use Rattle.claims_driver.specs.LentRuns.{still_lends}
use Rattle.law_driver.proofs.lemmas.ring_members.Accepted.{shaped_taken}
use Rattle.law_driver_ring.specs.Inventory.{IsLent}
use Rattle.law_driver_ring.proofs.Taken.{new_not_lent}
use Rattle.law_driver_ring.proofs.Opens.{open_one_more}
use Rattle.law_driver_ring.specs.LendOpened.{IsKept, IsOpened, opened_runs, opened_head, OpenIsReady}
use Rattle.law_driver_ring.proofs.LendLending.{kept_apart, kept_within}

-- ---- slots and lists

kept_slot : (s : Slot) (n : ℕ) → HasBlocks n s → (IsLent s → ⊥) → IsKept s
kept_slot Empty n has never = absurd has
kept_slot (Keeps r) n has never = record { run = r; is = refl }
kept_slot (Lends r) n has never = absurd (never tt)

two_of : (rs : List ℕ) → length rs ≡ 2 → rs ≡ get_or rs 0 0 ∷ get_or rs 1 0 ∷ []
two_of (a ∷ b ∷ []) two = refl
two_of _ two = absurd (omega (arith, two))

queued_kind : (k : EpKind) → is_periodic k ≡ false → (is_iso k || false) ≡ false
queued_kind kinds.Iso is = absurd (cc)
queued_kind _ is = refl

-- ---- words in a run that is kept

stored_all : (k : Book) (m : Mem) (b at : ℕ) (ws : List ℕ) (r : Run) → slot_of k.slots b ≡ Keeps r → 32 * r.first ≤ at → at + 4 * length ws ≤ 32 * (r.first + r.blocks) → store_words k m b at ws ≡ with_words m at ws
unfolding store_words with_words_in
stored_all k m b at [] r there from fits = refl
stored_all k m b at (v ∷ vs) r there from fits =
    ap (λ q. store_words k q b (at + 4) vs) (stored_one k m b at v r there from (omega arith)) ∙ stored_all k (with_word m at v) b (at + 4) vs r there (omega arith) (omega arith)

eight : (t : Qtd) → length (qtd_words t) ≡ 8
unfolding qtd_words
eight t = refl

first_row : (ws : List ℕ) (a b : ℕ) (head dummy : List ℕ) → length head ≡ 12 → length dummy ≡ 8 → 8 * a + 16 ≤ length ws → 8 * b + 8 ≤ length ws → (b + 1 ≤ a) ⊎ (a + 2 ≤ b) → words_in (with_words_in (with_words_in ws (32 * a) head) (32 * b) dummy) (32 * a) 12 ≡ head
first_row ws a b head dummy long short room other apart =
    let size = length-with_words_in ws (32 * a) head in
    words_in-with_words_in_apart (with_words_in ws (32 * a) head) (32 * a) 12 (32 * b) dummy (omega arith) (omega (arith, size, short, other))
    (⊎_elim (λ (low : b + 1 ≤ a). inr (omega (arith, low, short))) (λ (high : a + 2 ≤ b). inl (omega (arith, high))) apart)
    ∙ ap (words_in (with_words_in ws (32 * a) head) (32 * a)) (sym long)
    ∙ words_in-with_words_in_same ws (32 * a) head (omega arith) (omega (arith, long, room))

second_row : (ws : List ℕ) (a b : ℕ) (head dummy : List ℕ) → length dummy ≡ 8 → 8 * b + 8 ≤ length ws → words_in (with_words_in (with_words_in ws (32 * a) head) (32 * b) dummy) (32 * b) 8 ≡ dummy
second_row ws a b head dummy short other =
    let size = length-with_words_in ws (32 * a) head in
    ap (words_in (with_words_in (with_words_in ws (32 * a) head) (32 * b) dummy) (32 * b)) (sym short)
    ∙ words_in-with_words_in_same (with_words_in ws (32 * a) head) (32 * b) dummy (omega arith) (omega (arith, size, short, other))

-- both runs
pub record Written (g : Holding) (a b : ℕ) : Type 0 where
  pub run : Run
  pub other : Run
  pub is : slot_of g.book.slots a ≡ Keeps run
  pub also : slot_of g.book.slots b ≡ Keeps other
  pub first : run.first ≡ a
  pub two : run.blocks ≡ 2
  pub second : other.first ≡ b
  pub one : other.blocks ≡ 1
  pub apart : (b + 1 ≤ a) ⊎ (a + 2 ≤ b)
  pub room : 8 * a + 16 ≤ length g.memory.words
  pub place : 8 * b + 8 ≤ length g.memory.words

written_words : (g : Holding) (a b : ℕ) (q : Qh) → Written g a b
    → (store_words g.book (store_words g.book g.memory a (32 * a) (qh_words q)) b (32 * b) (qtd_words dummy_qtd)).words ≡ with_words_in (with_words_in g.memory.words (32 * a) (qh_words q)) (32 * b) (qtd_words dummy_qtd)
written_words g a b q w =
    let mid = store_words g.book g.memory a (32 * a) (qh_words q) in
    let f = w.first in
    let n = w.two in
    let s = w.second in
    let k = w.one in
    let long = qh_words-length q in
    let short = eight dummy_qtd in
    ap (λ (m : Mem). m.words) (stored_all g.book mid b (32 * b) (qtd_words dummy_qtd) w.other w.also (omega (arith, s)) (omega (arith, s, k, short)))
    ∙ ap (λ (m : Mem). with_words_in m.words (32 * b) (qtd_words dummy_qtd)) (stored_all g.book g.memory a (32 * a) (qh_words q) w.run w.is (omega (arith, f)) (omega (arith, f, n, long)))

-- ---- an open

open_at : (d : DriverContent) (m : Mem) (x : EpDesc) (g : Holding) (rs : List ℕ) → HasOwners d → d.book.taken ≡ [] → IsShaped m → Stands (holding d.book m) → is_periodic x.kind ≡ false → take_runs (holding d.book m) (2 ∷ 1 ∷ []) ≡ Ok g → AreTaken (holding d.book m) g (2 ∷ 1 ∷ []) rs → IsQhInRange (queue_head x (newest_of d.endpoints) (get_or rs 1 0))
    → IsOpened (accepted_open d x g (get_or rs 0 0) (get_or rs 1 0)).driver (accepted_open d x g (get_or rs 0 0) (get_or rs 1 0)).memory (length d.endpoints) (runs_of_endpoint (new_endpoint x (get_or rs 0 0) (get_or rs 1 0))) (queue_head x (newest_of d.endpoints) (get_or rs 1 0))
open_at d m x g rs has idle shape stands ring runs taken range =
    let a = get_or rs 0 0 in
    let b = get_or rs 1 0 in
    let y = new_endpoint x a b in
    let q = queue_head x (newest_of d.endpoints) b in
    let two : length rs ≡ 2 = taken.long in
    let first = kept_slot (slot_of g.book.slots a) 2 (taken.new 0 (omega (arith, two))) (new_not_lent 0 runs taken (omega (arith, two))) in
    let second = kept_slot (slot_of g.book.slots b) 1 (taken.new 1 (omega (arith, two))) (new_not_lent 1 runs taken (omega (arith, two))) in
    let r = first.run in
    let s = second.run in
    let many = (shaped_taken taken stands shape).eight_each in
    let at = (keeps_at g a r taken.stands first.is).0 in
    let also = (keeps_at g b s taken.stands second.is).0 in
    let blocks : r.blocks ≡ 2 = subst (HasBlocks 2) first.is (taken.new 0 (omega (arith, two))) in
    let block : s.blocks ≡ 1 = subst (HasBlocks 1) second.is (taken.new 1 (omega (arith, two))) in
    let low = kept_within g a r taken.stands first.is in
    let lower = kept_within g b s taken.stands second.is in
    let apart : AreApart s r = kept_apart g a b r s taken.stands (λ same. taken.distinct 0 1 (omega arith) (omega (arith, two)) (sym same)) first.is second.is in
    let w : Written g a b = record {
      run = r;
      other = s;
      is = first.is;
      also = second.is;
      first = at;
      two = blocks;
      second = also;
      one = block;
      apart = ⊎_elim (λ (before : s.first + s.blocks ≤ r.first). inl (omega (arith, before, at, also, block))) (λ (after : r.first + r.blocks ≤ s.first). inr (omega (arith, after, at, also, blocks))) apart;
      room = omega (arith, many, low, at, blocks);
      place = omega (arith, many, lower, also, block);
    } in
    let words = written_words g a b q w in
    record {
      here = record { here = pushed_new runs_of_endpoint d.endpoints y; queued = queued_kind x.kind ring };
      taken = taken.taken ∙ ap (λ (ts : List ℕ). ts ++ rs) idle ∙ two_of rs two;
      queue_kept = first;
      dummy_kept = second;
      no_transfer = λ t z there. (open_one_more d m x g rs has runs taken).within t z there;
      queue_words = ap (λ (ws : List ℕ). words_in ws (32 * a) 12) words ∙ first_row g.memory.words a b (qh_words q) (qtd_words dummy_qtd) (qh_words-length q) (eight dummy_qtd) w.room w.place w.apart;
      dummy_words = ap (λ (ws : List ℕ). words_in ws (32 * b) 8) words ∙ second_row g.memory.words a b (qh_words q) (qtd_words dummy_qtd) (eight dummy_qtd) w.place;
      range = range;
    }

pub open_is_ready : OpenIsReady
open_is_ready m d o why has lent stands shape range =
    let h = holding d.book m in
    let g = why.holding_after in
    let all = runs_taken h g (2 ∷ 1 ∷ []) stands why.runs in
    let new : new_runs d g ≡ all.blocks = ap (drop (length d.book.taken)) all.are.taken ∙ drop_first d.book.taken all.blocks in
    let taken = subst (AreTaken h g (2 ∷ 1 ∷ [])) (sym new) all.are in
    subst (λ (f : Offered). IsOpened f.driver f.memory (length d.endpoints) (opened_runs d why.desc g) (opened_head d why.desc g)) (sym why.is)
    (open_at d m why.desc g (new_runs d g) has (lent.lent (ap (λ c. still_lends c d.made) why.idle)) shape stands why.ring why.runs taken range)
