-- Of what is at work the controller comes to the queue head, to the place of its qTD and to one byte.
use Rattle.std.proofs.Common.{◌≡◌, ◌≢◌, ℕ, suc, ◌+◌, ◌-◌, ◌*◌, ◌/◌, ◌%◌, ◌<◌, ◌≤◌, Bool, true, false, List, [], ◌∷◌, ◌++◌, length}
use Rattle.std.proofs.Common.{replicate, get_or, is_some, Option, Some, None, ap, refl, sym, subst, ◌∙◌, arith, ⊎_elim}
use Rattle.std.specs.Prelude.{IfSome}
use Rattle.std.proofs.lemmas.Bool.{cases_eq, false≢true}
use Rattle.std.proofs.lemmas.List.{get_or-append_right, get_or-replicate, get_or-set_other}
use Rattle.word_mem.specs.Memory.{Mem, word_at}
use Rattle.word_mem.specs.Views.{words_in}
use Rattle.mem_bytes.specs.Bytes.{place}
use Rattle.link_words.specs.declared.kinds.Link.{Link}
use Rattle.link_words.specs.Layout.{first_bad_bit}
use Rattle.link_words.specs.Links.{link_of, link_read, qtd_link_of}
use Rattle.qh_qtd.specs.declared.qtd.Qtd.{Qtd}
use Rattle.qh_qtd.specs.declared.queue_head.Qh.{Qh}
use Rattle.qh_qtd.specs.Qtd.{qtd_read, qtd_bad, qtd_at}
use Rattle.qh_qtd.specs.QueueHead.{qh_read, qh_bad, qh_at}
use Rattle.qh_qtd.specs.Token.{token_at}
use Rattle.mem_queues.specs.Structures.{queue_head_at_address, qtd_at_address}
use Rattle.hc_copy.specs.Overlay.{pages_of, buffer_place}
use Rattle.hc_core.specs.Controller.{Content}
use Rattle.claims_world.specs.Reach.{Reached, TheList, QueueAt, QtdAt, ItdAt, SitdAt, FstnAt, ByteAt, leads_to, leads_to_qtd, element_at}
use Rattle.claims_world.specs.Reach.{Reaches, IsHeld, IsQueueHeadAt, IsPartOfQueue}
use Rattle.claims_world.specs.Reach as reach
use Rattle.claims_world.specs.Owners.{IsReceiving, IsControllers, WritesItsOwn}
use Rattle.claims_world.specs.Owners as owners
use Rattle.worked_claims.specs.OwnerRows.{working_words, one_working, at_work, LastByteIsItsOwn, ByteBehindIsNot}

-- ---- the queue head

record IsAtWork (q : Qh) : Type 0 where
  link : leads_to (link_of q.link) ≡ Some (QueueAt 0)
  halted : q.token.halted ≡ false
  active : q.token.active ≡ true
  current : q.current ≡ 128
  next : leads_to_qtd (qtd_link_of q.next) ≡ None
  alternate : leads_to_qtd (qtd_link_of q.alternate) ≡ None
  pid : q.token.pid ≡ 1
  total : q.token.total ≡ 1
  first : place (pages_of q) (buffer_place q + 0) ≡ 4096

queue_there : IfSome (queue_head_at_address one_working 0) IsAtWork
unfolding words_in qh_read qh_bad qh_at token_at first_bad_bit
queue_there = record {
  link = refl;
  halted = refl;
  active = refl;
  current = refl;
  next = refl;
  alternate = refl;
  pid = refl;
  total = refl;
  first = refl;
}

queue_is : (q : Qh) → queue_head_at_address one_working 0 ≡ Some q → IsAtWork q
queue_is q is = subst (λ o. IfSome o IsAtWork) is queue_there

record HasQueue : Type 0 where
  queue : Qh
  here : queue_head_at_address one_working 0 ≡ Some queue

some_queue : is_some (queue_head_at_address one_working 0) ≡ true
unfolding words_in qh_read qh_bad qh_at token_at first_bad_bit
some_queue = refl

found_queue : (o : Option Qh) → queue_head_at_address one_working 0 ≡ o → is_some o ≡ true → HasQueue
found_queue None is there = absurd (false≢true there)
found_queue (Some q) is there = record { queue = q; here = is }

has_queue : HasQueue
has_queue = found_queue (queue_head_at_address one_working 0) refl some_queue

no_qtd : qtd_at_address one_working 128 ≡ None
unfolding words_in qtd_read qtd_bad qtd_at token_at first_bad_bit
no_qtd = refl

-- ---- the way there

element_is : (f : ℕ) → f < 1024 → word_at one_working (64 + 4 * f) ≡ 1
element_is f low =
    let spot : (64 + 4 * f) / 4 ≡ 16 + f = omega arith in
    let far : 16 + f - 16 ≡ f = omega arith in
    ap (λ (i : ℕ). get_or one_working.words i 0) spot
    ∙ get_or-append_right working_words (replicate 1024 1) 16 (16 + f) 0 refl (omega arith)
    ∙ ap (λ (i : ℕ). get_or (replicate 1024 1) i 0) far ∙ get_or-replicate 1024 f 1 0 low

end_read : leads_to (link_read 1) ≡ None
unfolding link_read
end_read = refl

none_some : {X : Type 0} (o : Option X) (x : X) → o ≡ None → o ≡ Some x → ⊥
none_some o x none some = cc (none, some)

abbrev IsThere : Reached → Type 0
IsThere TheList = Unit {0}
IsThere (QueueAt a) = a ≡ 0
IsThere (QtdAt a) = a ≡ 128
IsThere (ByteAt b) = Unit {0}
IsThere _ = ⊥

module _ (c : Content) where
  led : (o : Option Reached) (t : Reached) → o ≡ Some (QueueAt 0) → o ≡ Some t → IsThere t
  led o t one is = subst (λ p. IfSome p IsThere) is (subst (λ p. IfSome p IsThere) (sym one) refl)

  queue_at : (a : ℕ) (q : Qh) → a ≡ 0 → queue_head_at_address one_working a ≡ Some q → IsAtWork q
  queue_at a q zero_is is = queue_is q (ap (queue_head_at_address one_working) (sym zero_is) ∙ is)

  qtd_never : (a : ℕ) (d : Qtd) → a ≡ 128 → qtd_at_address one_working a ≡ Some d → ⊥
  qtd_never a d at is = none_some (qtd_at_address one_working a) d (ap (qtd_at_address one_working) at ∙ no_qtd) is

  held_never : (t : Reached) (l : Link) → IsHeld (at_work c) t l → ⊥
  held_never t l (reach.of_ring h is at link) = cc is
  held_never t l (reach.of_frame h part is at link) = cc part

  part_there : (q : Qh) (t : Reached) → IsAtWork q → IsPartOfQueue q t → IsThere t
  part_there q t works (reach.current goes active is) = subst IsThere (sym is) works.current
  part_there q t works (reach.next goes active is) = absurd (none_some (leads_to_qtd (qtd_link_of q.next)) t works.next is)
  part_there q t works (reach.alternate goes active is) =
      absurd (none_some (leads_to_qtd (qtd_link_of q.alternate)) t works.alternate is)
  part_there q t works (reach.byte goes active i below is) = subst IsThere (sym is) tt
  part_there q t works (reach.taken goes active is) = absurd (let on = works.active in cc (on, active))

  parts_there : (a : ℕ) (q : Qh) (t : Reached) → a ≡ 0 → IsQueueHeadAt (at_work c) a q → IsPartOfQueue q t → IsThere t
  parts_there a q t zero_is (reach.in_memory is) part = part_there q t (queue_at a q zero_is is) part
  parts_there a q t zero_is (reach.in_ring h is none at same) part = absurd (cc is)
  parts_there a q t zero_is (reach.in_frame h part_is is none at same) part = absurd (cc part_is)

  there : (t : Reached) → Reaches (at_work c) t → IsThere t
  there t reach.list = tt
  there t reach.head = refl
  there t (reach.element f u low is) =
      absurd (none_some (leads_to (element_at (at_work c) f)) u (ap (λ (w : ℕ). leads_to (link_read w)) (element_is f low) ∙ end_read) is)
  there t (reach.frame_cursor u part is) = absurd (cc part)
  there t (reach.ring_cursor u is) = led (Some (QueueAt 0)) u refl is
  there t (reach.held u l holds) = absurd (held_never u l holds)
  there t (reach.behind_held s u l holds is) = absurd (held_never s l holds)
  there t (reach.behind_queue a q u way here is) =
      led (leads_to (link_of q.link)) u (queue_at a q (there (QueueAt a) way) here).link is
  there t (reach.behind_itd a v u way here is) = absurd (there (ItdAt a) way)
  there t (reach.behind_sitd a v u way here is) = absurd (there (SitdAt a) way)
  there t (reach.of_queue a q u way here part) = parts_there a q u (there (QueueAt a) way) here part
  there t (reach.of_qtd a d u way here part) = absurd (qtd_never a d (there (QtdAt a) way) here)
  there t (reach.of_itd a v u way here part) = absurd (there (ItdAt a) way)
  there t (reach.of_sitd a v u way here part) = absurd (there (SitdAt a) way)

  -- ---- the byte

  last_byte : IsControllers (at_work c) 4096
  last_byte =
      let q : Qh = has_queue.queue in
      let works : IsAtWork has_queue.queue = queue_is has_queue.queue has_queue.here in
      let few : 0 < has_queue.queue.token.total = let one = works.total in omega (arith, one) in
      owners.of_byte 4096
      (owners.by_queue 0 has_queue.queue reach.head has_queue.here works.pid
      (reach.byte works.halted works.active 0 few (ap ByteAt (sym works.first)))) refl

  byte_one : (q : Qh) (b : ℕ) → IsAtWork q → IsPartOfQueue q (ByteAt b) → b ≡ 4096
  byte_one q b works (reach.current goes active is) = absurd (cc is)
  byte_one q b works (reach.next goes active is) = absurd (none_some (leads_to_qtd (qtd_link_of q.next)) (ByteAt b) works.next is)
  byte_one q b works (reach.alternate goes active is) =
      absurd (none_some (leads_to_qtd (qtd_link_of q.alternate)) (ByteAt b) works.alternate is)
  byte_one q b works (reach.byte goes active i below is) =
      let one = works.total in
      let first : i ≡ 0 = omega (arith, below, one) in
      let spot : b ≡ place (pages_of q) (buffer_place q + i) = cc is in
      spot ∙ ap (λ (j : ℕ). place (pages_of q) (buffer_place q + j)) first ∙ works.first
  byte_one q b works (reach.taken goes active is) = absurd (let on = works.active in cc (on, active))

  received_one : (b : ℕ) → IsReceiving (at_work c) b → b ≡ 4096
  received_one b (owners.by_queue a q way here pid part) = byte_one q b (queue_at a q (there (QueueAt a) way) here) part
  received_one b (owners.by_qtd a d way here pid part) = absurd (qtd_never a d (there (QtdAt a) way) here)
  received_one b (owners.by_itd a v way here dir part) = absurd (there (ItdAt a) way)
  received_one b (owners.by_sitd a v way here dir part) = absurd (there (SitdAt a) way)

  behind : IsControllers (at_work c) 4100 → ⊥
  behind (owners.of_overlay a q i way here goes least most is) = let none = there (QueueAt a) way in omega (arith, none, most, is)
  behind (owners.of_token a d way here active is) = qtd_never a d (there (QtdAt a) way) here
  behind (owners.of_slot a v u way here few active is) = there (ItdAt a) way
  behind (owners.of_state a v i way here active least most is) = there (SitdAt a) way
  behind (owners.of_byte b comes same) = let one = received_one b comes in omega (arith, one, same)

-- ---- the rows

pub last_byte_is_its_own : LastByteIsItsOwn
last_byte_is_its_own = λ c v at low changed.
    ⊎_elim (λ (same : at / 4 ≡ 1024). let one : 4096 ≡ at = omega (arith, low, same) in subst (IsControllers (at_work c)) one (last_byte c))
    (λ (off : at / 4 ≢ 1024). absurd (changed (get_or-set_other one_working.words 1024 (at / 4) v 0 off))) (cases_eq (at / 4) 1024)

pub byte_behind_is_not : ByteBehindIsNot
byte_behind_is_not = λ c keeps. behind c (keeps 4100 refl (λ same. cc same))
