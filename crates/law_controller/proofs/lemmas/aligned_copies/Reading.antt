-- What is read leads to multiples of 32.
use Rattle.std.proofs.Common.{◌≡◌, ℕ, ◌%◌, Bool, true, false, if◌then◌else◌, List, Option, None, Some, arith}
use Rattle.std.specs.Prelude.{IfSome, ◌==◌, slice_index}
use Rattle.std.specs.Result.{result_ok}
use Rattle.law_common.proofs.Booleans.{either}
use Rattle.word_mem.specs.Memory.{Mem, reaches}
use Rattle.word_mem.specs.Views.{words_at}
use Rattle.link_words.specs.declared.refusal.Bad.{Bad}
use Rattle.link_words.specs.declared.fields.LinkBits.{LinkBits}
use Rattle.link_words.specs.declared.fields.ShortLink.{ShortLink}
use Rattle.link_words.specs.declared.kinds.Link.TheVariants as links
use Rattle.link_words.specs.Layout.{unless_bad, high_bits}
use Rattle.link_words.specs.Fields.{link_at}
use Rattle.link_words.specs.Links.{IsAligned, IsQtdAligned, typed, link_of, link_read, qtd_link_of}
use Rattle.qh_qtd.specs.declared.queue_head.Qh.{Qh}
use Rattle.qh_qtd.specs.Qtd.{qtd_read, qtd_at, qtd_bad}
use Rattle.qh_qtd.specs.QueueHead.{qh_read, qh_at, qh_bad}
use Rattle.itd_sitd.specs.declared.itd.Itd.{Itd}
use Rattle.itd_sitd.specs.declared.sitd.Sitd.{Sitd}
use Rattle.itd_sitd.specs.Itd.{itd_read, itd_at, itd_bad}
use Rattle.itd_sitd.specs.Sitd.{sitd_read, sitd_at, sitd_bad}
use Rattle.mem_queues.specs.Structures.{qtd_at_address, queue_head_at_address, reaches_queue_head}
use Rattle.mem_descriptors.specs.Descriptors.{itd_at_address, sitd_at_address, reaches_itd}
use Rattle.hc_copy.specs.Visits.{next_pointer}
use Rattle.law_controller.specs.aligned_copies.Aligned.{IsQueueAligned, IsElementAligned}

-- ---- links

high_aligned : (w : ℕ) → high_bits 5 w % 32 ≡ 0
high_aligned w = omega arith

typed_aligned : (typ a : ℕ) → a % 32 ≡ 0 → IsAligned (typed typ a)
typed_aligned typ a is =
    either IsAligned (typ == 0) (links.Itd a) _ is
    (either IsAligned (typ == 1) (links.Qh a) _ is (either IsAligned (typ == 2) (links.Sitd a) (links.Fstn a) is is))

pub link_aligned : (l : LinkBits) → l.address % 32 ≡ 0 → IsAligned (link_of l)
link_aligned l is = either IsAligned l.t links.End (typed l.typ l.address) tt (typed_aligned l.typ l.address is)

pub word_aligned : (w : ℕ) → IsAligned (link_read w)
unfolding link_read
word_aligned w = link_aligned (link_at w) (high_aligned w)

qtd_link_by : (b : Bool) (a : ℕ) → a % 32 ≡ 0 → IsQtdAligned (qtd_link_of (record { t = b; address = a }))
qtd_link_by true a is = tt
qtd_link_by false a is = is

pub qtd_link_aligned : (l : ShortLink) → l.address % 32 ≡ 0 → IsQtdAligned (qtd_link_of l)
qtd_link_aligned l is = qtd_link_by l.t l.address is

pub pointer_aligned : (q : Qh) → IsQueueAligned q → IsQtdAligned (qtd_link_of (next_pointer q))
pointer_aligned q is = qtd_link_aligned (next_pointer q) (either (λ (l : ShortLink). l.address % 32 ≡ 0) _ q.alternate q.next is.alternate is.next)

-- ---- structures

ok_by : {A : Type 0} (P : A → Type 0) (o : Option Bad) (v : A) → P v → IfSome (result_ok (unless_bad o v)) P
ok_by P None v is = is
ok_by P (Some bad) v is = tt

there_by : {A : Type 0} (P : A → Type 0) (b : Bool) (o : Option A) → IfSome o P → IfSome (if b then o else None) P
there_by P true o is = is
there_by P false o is = tt

head_words : (ws : List ℕ) → IsQueueAligned (qh_at ws)
unfolding qh_at
head_words ws = record {
  link = high_aligned (slice_index ws 0);
  current = high_aligned (slice_index ws 3);
  next = high_aligned (slice_index ws 4);
  alternate = high_aligned (slice_index ws 5);
}

head_read : (ws : List ℕ) → IfSome (result_ok (qh_read ws)) IsQueueAligned
unfolding qh_read
head_read ws = ok_by IsQueueAligned (qh_bad ws) (qh_at ws) (head_words ws)

pub heads_aligned : (m : Mem) (a : ℕ) → IfSome (queue_head_at_address m a) IsQueueAligned
heads_aligned m a = there_by IsQueueAligned (reaches_queue_head m a) _ (head_read (words_at m a 12))

element_words : (ws : List ℕ) → IsElementAligned (qtd_at ws)
unfolding qtd_at
element_words ws = record { next = high_aligned (slice_index ws 0); alternate = high_aligned (slice_index ws 1) }

element_read : (ws : List ℕ) → IfSome (result_ok (qtd_read ws)) IsElementAligned
unfolding qtd_read
element_read ws = ok_by IsElementAligned (qtd_bad ws) (qtd_at ws) (element_words ws)

pub elements_aligned : (m : Mem) (a : ℕ) → IfSome (qtd_at_address m a) IsElementAligned
elements_aligned m a = there_by IsElementAligned (reaches m a) _ (element_read (words_at m a 8))

itd_words : (ws : List ℕ) → (itd_at ws).link.address % 32 ≡ 0
unfolding itd_at
itd_words ws = high_aligned (slice_index ws 0)

itd_reads : (ws : List ℕ) → IfSome (result_ok (itd_read ws)) (λ v. v.link.address % 32 ≡ 0)
unfolding itd_read
itd_reads ws = ok_by (λ (v : Itd). v.link.address % 32 ≡ 0) (itd_bad ws) (itd_at ws) (itd_words ws)

pub itds_aligned : (m : Mem) (a : ℕ) → IfSome (itd_at_address m a) (λ v. v.link.address % 32 ≡ 0)
itds_aligned m a = there_by (λ (v : Itd). v.link.address % 32 ≡ 0) (reaches_itd m a) _ (itd_reads (words_at m a 16))

sitd_words : (ws : List ℕ) → (sitd_at ws).link.address % 32 ≡ 0
unfolding sitd_at
sitd_words ws = high_aligned (slice_index ws 0)

sitd_reads : (ws : List ℕ) → IfSome (result_ok (sitd_read ws)) (λ v. v.link.address % 32 ≡ 0)
unfolding sitd_read
sitd_reads ws = ok_by (λ (v : Sitd). v.link.address % 32 ≡ 0) (sitd_bad ws) (sitd_at ws) (sitd_words ws)

pub sitds_aligned : (m : Mem) (a : ℕ) → IfSome (sitd_at_address m a) (λ v. v.link.address % 32 ≡ 0)
sitds_aligned m a = there_by (λ (v : Sitd). v.link.address % 32 ≡ 0) (reaches m a) _ (sitd_reads (words_at m a 7))
