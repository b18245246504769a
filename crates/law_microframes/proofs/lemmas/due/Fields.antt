-- What is read of a queue head and of a qTD has the fields of their words (EHCI 1.0, 3.5 and 3.6).
use Rattle.std.proofs.Common.{◌≡◌, ℕ, ◌+◌, ◌/◌, ◌%◌, ◌<◌, Bool, true, false, if◌then◌else◌, List, slice_index, Some, None, Result, Ok}
use Rattle.std.proofs.Common.{ap, refl, sym, ◌∙◌, arith}
use Rattle.std.specs.Result.{result_ok}
use Rattle.law_microframes.proofs.Common.{ok_is}
use Rattle.usb_base.specs.declared.endpoints.EpDesc.{EpDesc}
use Rattle.word_mem.specs.Memory.{Mem, reaches, word_at}
use Rattle.word_mem.specs.Views.{words_in, words_at}
use Rattle.link_words.specs.declared.fields.ShortLink.{ShortLink}
use Rattle.link_words.specs.declared.kinds.QtdLink.TheVariants.{End, To}
use Rattle.link_words.specs.declared.refusal.Bad.{Bad}
use Rattle.link_words.specs.Layout.{bits}
use Rattle.link_words.specs.Links.{qtd_link_of}
use Rattle.qh_qtd.specs.declared.qtd.Qtd.{Qtd}
use Rattle.qh_qtd.specs.declared.queue_head.Qh.{Qh}
use Rattle.qh_qtd.specs.Qtd.{qtd_at, qtd_read}
use Rattle.qh_qtd.specs.QueueHead.{qh_at, qh_read, qh_words}
use Rattle.qh_qtd.specs.Token.{token_at}
use Rattle.qh_qtd.proofs.QhLaws.{qh_read-is}
use Rattle.qh_qtd.proofs.QtdLaws.{qtd_read-is}
use Rattle.mem_queues.specs.Structures.{reaches_queue_head, qtd_at_address, queue_head_at_address}
use Rattle.hc_copy.specs.Visits.{next_pointer}
use Rattle.drv_table.specs.Words.{interrupt_head}

-- ---- read

if_some : {X : Type 0} (b : Bool) (r : Result X Bad) (x : X) → (if b then result_ok r else None) ≡ Some x → r ≡ Ok x
if_some true r x is = ok_is r x is
if_some false r x is = absurd cc

pub head_words : (m : Mem) (a : ℕ) (q : Qh) → queue_head_at_address m a ≡ Some q → q ≡ qh_at (words_at m a 12)
head_words m a q is = qh_read-is (words_at m a 12) q (if_some (reaches_queue_head m a) (qh_read (words_at m a 12)) q is)

qtd_words : (m : Mem) (a : ℕ) (t : Qtd) → qtd_at_address m a ≡ Some t → t ≡ qtd_at (words_at m a 8)
qtd_words m a t is = qtd_read-is (words_at m a 8) t (if_some (reaches m a) (qtd_read (words_at m a 8)) t is)

-- ---- a qTD's token is its third word

third : (ws : List ℕ) (a : ℕ) → slice_index (words_in ws a 8) 2 ≡ slice_index ws ((a + 8) / 4)
unfolding words_in
third ws a = let e : a + 4 + 4 ≡ a + 8 = omega arith in ap (λ (i : ℕ). slice_index ws (i / 4)) e

qtd_third : (ws : List ℕ) → (qtd_at ws).token ≡ token_at (slice_index ws 2)
unfolding qtd_at
qtd_third ws = refl

pub its_token : (m : Mem) (a : ℕ) (t : Qtd) → qtd_at_address m a ≡ Some t → token_at (word_at m (a + 8)) ≡ t.token
its_token m a t is =
    sym (ap (λ (x : Qtd). x.token) (qtd_words m a t is) ∙ qtd_third (words_at m a 8) ∙ ap token_at (third m.words a))

-- ---- the links of an overlay are aligned

next_aligned : (ws : List ℕ) → (qh_at ws).next.address % 4 ≡ 0
unfolding qh_at
next_aligned ws = omega arith

alternate_aligned : (ws : List ℕ) → (qh_at ws).alternate.address % 4 ≡ 0
unfolding qh_at
alternate_aligned ws = omega arith

either_aligned : (b : Bool) (one other : ShortLink) → one.address % 4 ≡ 0 → other.address % 4 ≡ 0
    → (if b then one else other).address % 4 ≡ 0
either_aligned true one other e f = e
either_aligned false one other e f = f

pointer_aligned : (q : Qh) → q.alternate.address % 4 ≡ 0 → q.next.address % 4 ≡ 0 → (next_pointer q).address % 4 ≡ 0
pointer_aligned q one other = either_aligned _ q.alternate q.next one other

leads_to : (l : ShortLink) (a : ℕ) → qtd_link_of l ≡ To a → l.address % 4 ≡ 0 → a % 4 ≡ 0
leads_to l a leads aligned = by l.t leads
  where
    by : (b : Bool) → (if b then End else To l.address) ≡ To a → a % 4 ≡ 0
    by true is = absurd cc
    by false is = let e : l.address ≡ a = cc in sym (ap (λ (n : ℕ). n % 4) e) ∙ aligned

pub element_aligned : (m : Mem) (n : ℕ) (q : Qh) (a : ℕ) → queue_head_at_address m n ≡ Some q → qtd_link_of (next_pointer q) ≡ To a
    → a % 4 ≡ 0
element_aligned m n q a is leads =
    let ws : List ℕ = words_at m n 12 in
    let at : q ≡ qh_at (words_at m n 12) = head_words m n q is in
    leads_to (next_pointer q) a leads
    (pointer_aligned q (ap (λ (x : Qh). x.alternate.address % 4) at ∙ alternate_aligned (words_at m n 12))
    (ap (λ (x : Qh). x.next.address % 4) at ∙ next_aligned (words_at m n 12)))

-- ---- address and number in word 1

first_addr : (ws : List ℕ) → (qh_at ws).addr ≡ bits 6 0 (slice_index ws 1)
unfolding qh_at
first_addr ws = refl

first_ep : (ws : List ℕ) → (qh_at ws).ep ≡ bits 11 8 (slice_index ws 1)
unfolding qh_at
first_ep ws = refl

second : (ws : List ℕ) (a : ℕ) → slice_index (words_in ws a 12) 1 ≡ slice_index ws ((a + 4) / 4)
unfolding words_in
second ws a = refl

pub head_first : (m : Mem) (n : ℕ) (q : Qh) → queue_head_at_address m n ≡ Some q
    → (q.addr ≡ bits 6 0 (word_at m (n + 4))) × (q.ep ≡ bits 11 8 (word_at m (n + 4)))
head_first m n q is =
    let at : q ≡ qh_at (words_at m n 12) = head_words m n q is in (
      ap (λ (x : Qh). x.addr) at ∙ first_addr (words_at m n 12) ∙ ap (bits 6 0) (second m.words n),
      ap (λ (x : Qh). x.ep) at ∙ first_ep (words_at m n 12) ∙ ap (bits 11 8) (second m.words n),
    )

pub address_in : (x : EpDesc) → x.name.addr < 128 → bits 6 0 (slice_index (qh_words (interrupt_head x 0 0 0 0)) 1) ≡ x.name.addr
unfolding qh_words
address_in x small = omega (arith, small)

pub number_in : (x : EpDesc) → x.name.addr < 128 → x.name.num < 16
    → bits 11 8 (slice_index (qh_words (interrupt_head x 0 0 0 0)) 1) ≡ x.name.num
unfolding qh_words
number_in x small few = omega (arith, small, few)
