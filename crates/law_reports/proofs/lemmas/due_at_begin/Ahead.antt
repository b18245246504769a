-- What a queue head to which the walk of the frames hasn't come yet goes on to, and that its device is ready for it (EHCI 1.0, 3.5, 3.6 and
-- 4.10.2; USB 2.0, 8.6).
use Rattle.std.proofs.Common.{◌≡◌, ℕ, ◌+◌, ◌*◌, ◌<◌, List, slice_index, Some, ap, refl}
use Rattle.std.proofs.Common.{sym, subst, ◌∙◌, arith}
use Rattle.std.specs.Prelude.{Bool, false}
use Rattle.usb_base.specs.declared.endpoints.EpName.{EpName}
use Rattle.word_mem.specs.Memory.{Mem, word_at}
use Rattle.word_mem.specs.Views.{words_at}
use Rattle.word_mem.proofs.Words.{get_or-words_in}
use Rattle.link_words.specs.declared.kinds.QtdLink.TheVariants.{To}
use Rattle.link_words.specs.Layout.{bits, is_set}
use Rattle.link_words.specs.Fields.{short_link_at}
use Rattle.link_words.specs.Links.{qtd_link_of}
use Rattle.qh_qtd.specs.declared.qtd.Qtd.{Qtd}
use Rattle.qh_qtd.specs.declared.queue_head.Qh.{Qh}
use Rattle.qh_qtd.specs.declared.token.Token.{Token}
use Rattle.qh_qtd.specs.QueueHead.{qh_at}
use Rattle.qh_qtd.specs.Token.{token_at}
use Rattle.mem_queues.specs.Structures.{qtd_at_address, queue_head_at_address}
use Rattle.hc_copy.specs.Overlay.{advanced, taken_token}
use Rattle.hc_copy.specs.Visits.{next_pointer}
use Rattle.bus_wire.specs.Bus.{Fixed}
use Rattle.bus_world.specs.World.{World}
use Rattle.claims_world.specs.Due.{IsActiveToken, ComesTo, goes_on, takes}
use Rattle.law_microframes.proofs.lemmas.due.Fields.{head_words}
use Rattle.law_reports.proofs.lemmas.due_at_begin.SplitTurns.{IsAsDue}
use Rattle.law_microframes.proofs.lemmas.due.Held.{CanMoveBytes, advanced_token, ready_as}

-- ---- what it has

pub record HasYet (fixed : Fixed) (w : World) (name : EpName) (n bytes : ℕ) : Type 0 where
  pub queue : Qh
  pub read : queue_head_at_address w.memory n ≡ Some queue
  pub works : Qh
  pub next : ComesTo w.memory queue works
  pub can : CanMoveBytes fixed w.bus name works bytes

-- ---- queue heads that are alike but for the driver's links

pub record IsAlike (q r : Qh) : Type 0 where
  pub token : r.token ≡ q.token
  pub next : r.next ≡ q.next
  pub alternate : r.alternate ≡ q.alternate
  pub max : r.max ≡ q.max
  pub dtc : r.dtc ≡ q.dtc
  pub eps : r.eps ≡ q.eps
  pub smask : r.smask ≡ q.smask
  pub cmask : r.cmask ≡ q.cmask
  pub progress : r.c_prog ≡ q.c_prog
  pub tag : r.frame_tag ≡ q.frame_tag

pub itself_alike : (q r : Qh) → r ≡ q → IsAlike q r
itself_alike q r is = record {
  token = ap (λ (x : Qh). x.token) is;
  next = ap (λ (x : Qh). x.next) is;
  alternate = ap (λ (x : Qh). x.alternate) is;
  max = ap (λ (x : Qh). x.max) is;
  dtc = ap (λ (x : Qh). x.dtc) is;
  eps = ap (λ (x : Qh). x.eps) is;
  smask = ap (λ (x : Qh). x.smask) is;
  cmask = ap (λ (x : Qh). x.cmask) is;
  progress = ap (λ (x : Qh). x.c_prog) is;
  tag = ap (λ (x : Qh). x.frame_tag) is;
}

words_alike : (vs ws : List ℕ) → slice_index ws 1 ≡ slice_index vs 1 → slice_index ws 2 ≡ slice_index vs 2
    → slice_index ws 4 ≡ slice_index vs 4 → slice_index ws 5 ≡ slice_index vs 5 → slice_index ws 6 ≡ slice_index vs 6
    → slice_index ws 8 ≡ slice_index vs 8 → slice_index ws 9 ≡ slice_index vs 9 → IsAlike (qh_at vs) (qh_at ws)
unfolding qh_at
words_alike vs ws one two four five six eight nine = record {
  token = ap token_at six;
  next = ap short_link_at four;
  alternate = ap short_link_at five;
  max = ap (bits 26 16) one;
  dtc = ap (is_set 14) one;
  eps = ap (bits 13 12) one;
  smask = ap (bits 7 0) two;
  cmask = ap (bits 15 8) two;
  progress = ap (bits 7 0) eight;
  tag = ap (bits 4 0) nine;
}

word_in : (m : Mem) (a j : ℕ) → j < 12 → slice_index (words_at m a 12) j ≡ word_at m (a + 4 * j)
word_in m a j low = get_or-words_in m.words a 12 j low

pub read_alike : (m later : Mem) (n : ℕ) (q r : Qh) → queue_head_at_address m n ≡ Some q → queue_head_at_address later n ≡ Some r
    → word_at later (n + 4 * 1) ≡ word_at m (n + 4 * 1) → word_at later (n + 4 * 2) ≡ word_at m (n + 4 * 2)
    → ((i : ℕ) → 3 < i → i < 10 → word_at later (n + 4 * i) ≡ word_at m (n + 4 * i)) → IsAlike q r
read_alike m later n q r read now one two same =
    subst (λ (x : Qh). IsAlike x r) (sym (head_words m n q read))
    (subst (IsAlike (qh_at (words_at m n 12))) (sym (head_words later n r now))
    (words_alike (words_at m n 12) (words_at later n 12)
    (word_in later n 1 (omega arith) ∙ one ∙ sym (word_in m n 1 (omega arith)))
    (word_in later n 2 (omega arith) ∙ two ∙ sym (word_in m n 2 (omega arith)))
    (word_in later n 4 (omega arith) ∙ same 4 (omega arith) (omega arith) ∙ sym (word_in m n 4 (omega arith)))
    (word_in later n 5 (omega arith) ∙ same 5 (omega arith) (omega arith) ∙ sym (word_in m n 5 (omega arith)))
    (word_in later n 6 (omega arith) ∙ same 6 (omega arith) (omega arith) ∙ sym (word_in m n 6 (omega arith)))
    (word_in later n 8 (omega arith) ∙ same 8 (omega arith) (omega arith) ∙ sym (word_in m n 8 (omega arith)))
    (word_in later n 9 (omega arith) ∙ same 9 (omega arith) (omega arith) ∙ sym (word_in m n 9 (omega arith)))))

-- ---- .. go on alike

next_alike : (q r : Qh) → IsAlike q r → next_pointer r ≡ next_pointer q
next_alike q r k = rw (k.token, k.next, k.alternate) refl

taken_alike : (q r : Qh) (t u : Token) → IsAlike q r → u ≡ t → taken_token r u ≡ taken_token q t
taken_alike q r t u k same = rw (k.dtc, k.eps, k.token, same) refl

advanced_max : (q : Qh) (a : ℕ) (t : Qtd) → (advanced q a t).max ≡ q.max
unfolding advanced
advanced_max q a t = refl

advanced_as : (q r : Qh) (a : ℕ) (t u : Qtd) → IsAlike q r → u.token ≡ t.token → IsAsDue (advanced q a t) (advanced r a u)
unfolding advanced
advanced_as q r a t u k same = record {
  token = taken_alike q r t.token u.token k same;
  eps = k.eps;
  smask = k.smask;
  cmask = k.cmask;
  progress = refl;
  tag = refl;
}

-- a qTD at this address with this token
pub record HasToken (m : Mem) (a : ℕ) (k : Token) : Type 0 where
  pub qtd : Qtd
  pub here : qtd_at_address m a ≡ Some qtd
  pub token : qtd.token ≡ k

pub record GoesAlike (m : Mem) (r v : Qh) : Type 0 where
  pub works : Qh
  pub next : ComesTo m r works
  pub token : works.token ≡ v.token
  pub max : works.max ≡ v.max
  pub due : IsAsDue v works

active_as : (t u : Token) → u ≡ t → IsActiveToken t → IsActiveToken u
active_as t u same k = record {
  active = ap (λ (x : Token). x.active) same ∙ k.active;
  unhalted = ap (λ (x : Token). x.halted) same ∙ k.unhalted;
}

pub goes_alike : (m later : Mem) (q r v : Qh) → IsAlike q r → ComesTo m q v
    → ((a : ℕ) (t : Qtd) → q.token.active ≡ false → q.token.halted ≡ false → qtd_link_of (next_pointer q) ≡ To a
    → qtd_at_address m a ≡ Some t → IsActiveToken t.token → HasToken later a t.token) → GoesAlike later r v
goes_alike m later q r _ k (goes_on work) still = record {
  works = r;
  next = goes_on (active_as q.token r.token k.token work);
  token = k.token;
  max = k.max;
  due = record { token = k.token; eps = k.eps; smask = k.smask; cmask = k.cmask; progress = k.progress; tag = k.tag };
}
goes_alike m later q r _ k (takes a t idle unhalted leads here work) still =
    let s : HasToken later a t.token = still a t idle unhalted leads here work in
    record {
      works = advanced r a s.qtd;
      next = takes a s.qtd (ap (λ (x : Token). x.active) k.token ∙ idle) (ap (λ (x : Token). x.halted) k.token ∙ unhalted)
          (ap qtd_link_of (next_alike q r k) ∙ leads) s.here (active_as t.token s.qtd.token s.token work);
      token = advanced_token r a s.qtd ∙ taken_alike q r t.token s.qtd.token k s.token ∙ sym (advanced_token q a t);
      max = advanced_max r a s.qtd ∙ k.max ∙ sym (advanced_max q a t);
      due = advanced_as q r a t s.qtd k s.token;
    }

-- ---- what it comes to, as it was when it was due; whether its overlay is active

pub record HasWork (m : Mem) (n : ℕ) (v : Qh) (active : Bool) : Type 0 where
  pub queue : Qh
  pub read : queue_head_at_address m n ≡ Some queue
  pub works : Qh
  pub next : ComesTo m queue works
  pub due : IsAsDue v works
  pub overlay : queue.token.active ≡ active

as_due_then : (v x y : Qh) → IsAsDue v x → IsAsDue x y → IsAsDue v y
as_due_then v x y k l = record {
  token = l.token ∙ k.token;
  eps = l.eps ∙ k.eps;
  smask = l.smask ∙ k.smask;
  cmask = l.cmask ∙ k.cmask;
  progress = l.progress ∙ k.progress;
  tag = l.tag ∙ k.tag;
}

pub work_alike : (m later : Mem) (n : ℕ) (v : Qh) (active : Bool) (y : HasWork m n v active) (r : Qh)
    → queue_head_at_address later n ≡ Some r → IsAlike y.queue r
    → ((a : ℕ) (t : Qtd) → y.queue.token.active ≡ false → y.queue.token.halted ≡ false → qtd_link_of (next_pointer y.queue) ≡ To a
    → qtd_at_address m a ≡ Some t → IsActiveToken t.token → HasToken later a t.token) → HasWork later n v active
work_alike m later n v active y r read k still =
    let g : GoesAlike later r y.works = goes_alike m later y.queue r y.works k y.next still in
    record {
      queue = r;
      read = read;
      works = g.works;
      next = g.next;
      due = as_due_then v y.works g.works y.due g.due;
      overlay = ap (λ (x : Token). x.active) k.token ∙ y.overlay;
    }

-- so it has that still, while the bus is as it was
pub yet_alike : (fixed : Fixed) (w later : World) (name : EpName) (n bytes : ℕ) (y : HasYet fixed w name n bytes) (r : Qh)
    → queue_head_at_address later.memory n ≡ Some r → GoesAlike later.memory r y.works → later.bus ≡ w.bus → HasYet fixed later name n bytes
yet_alike fixed w later name n bytes y r read g bus = record {
  queue = r;
  read = read;
  works = g.works;
  next = g.next;
  can = ready_as fixed w.bus later.bus name y.works g.works bytes (sym bus) (sym g.token) (sym g.max) y.can;
}
