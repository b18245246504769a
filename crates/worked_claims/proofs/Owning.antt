-- Of what is at rest the controller comes to the queue head alone, so just its overlay is the controller's.
use Rattle.std.proofs.Common.{◌≡◌, ◌≢◌, ℕ, suc, ◌+◌, ◌-◌, ◌*◌, ◌/◌, ◌%◌, ◌<◌, ◌≤◌, Bool, true, false, List, [], ◌∷◌, ◌++◌, length}
use Rattle.std.proofs.Common.{replicate, get_or}
use Rattle.std.proofs.Common.{set, is_some, Option, Some, None, ap, refl, sym, subst, ◌∙◌, arith, ⊎_elim, inl, inr}
use Rattle.std.specs.Prelude.{◌⊎◌, IfSome}
use Rattle.std.proofs.lemmas.Bool.{cases_lt, false≢true}
use Rattle.std.proofs.lemmas.List.{get_or-append_right, get_or-replicate, get_or-set_other}
use Rattle.word_mem.specs.Memory.{Mem, word_at, with_word}
use Rattle.word_mem.specs.Views.{words_in, with_words_in, with_words}
use Rattle.link_words.specs.declared.kinds.Link.{Link}
use Rattle.link_words.specs.declared.kinds.Link.TheVariants as links
use Rattle.link_words.specs.declared.kinds.QtdLink.TheVariants as qtd_links
use Rattle.link_words.specs.Layout.{first_bad_bit}
use Rattle.link_words.specs.Links.{link_of, link_read, qtd_link_of}
use Rattle.qh_qtd.specs.declared.queue_head.Qh.{Qh}
use Rattle.qh_qtd.specs.QueueHead.{qh_read, qh_bad, qh_at}
use Rattle.qh_qtd.specs.Token.{token_at}
use Rattle.mem_queues.specs.Structures.{queue_head_at_address, overlay_written}
use Rattle.hc_copy.specs.Visits.{next_pointer}
use Rattle.hc_core.specs.Controller.{Content}
use Rattle.claims_world.specs.Reach.{Reached, TheList, QueueAt, QtdAt, ItdAt, SitdAt, FstnAt, ByteAt, leads_to, leads_to_qtd, element_at}
use Rattle.claims_world.specs.Reach.{Reaches, IsHeld, IsQueueHeadAt, IsPartOfQueue}
use Rattle.claims_world.specs.Reach as reach
use Rattle.claims_world.specs.Owners.{IsReceiving, IsControllers, WritesItsOwn, LeavesControllers}
use Rattle.claims_world.specs.Owners as owners
use Rattle.worked_claims.specs.OwnerRows.{queue_words, one_queue, at_rest, TokenIsControllers, LinkIsNot, NineWordsAreItsOwn}
use Rattle.worked_claims.specs.OwnerRows.{TwelveWordsAreNot}
use Rattle.worked_claims.specs.OwnerRows.{LinkStoreLeaves, TokenStoreTakes}

-- ---- the queue head

-- it leads to itself, and rests
record IsResting (q : Qh) : Type 0 where
  link : leads_to (link_of q.link) ≡ Some (QueueAt 0)
  halted : q.token.halted ≡ false
  active : q.token.active ≡ false
  next : leads_to_qtd (qtd_link_of (next_pointer q)) ≡ None

queue_there : IfSome (queue_head_at_address one_queue 0) IsResting
unfolding words_in qh_read qh_bad qh_at token_at first_bad_bit
queue_there = record { link = refl; halted = refl; active = refl; next = refl }

queue_is : (q : Qh) → queue_head_at_address one_queue 0 ≡ Some q → IsResting q
queue_is q is = subst (λ o. IfSome o IsResting) is queue_there

record HasQueue : Type 0 where
  queue : Qh
  here : queue_head_at_address one_queue 0 ≡ Some queue

some_queue : is_some (queue_head_at_address one_queue 0) ≡ true
unfolding words_in qh_read qh_bad qh_at token_at first_bad_bit
some_queue = refl

found_queue : (o : Option Qh) → queue_head_at_address one_queue 0 ≡ o → is_some o ≡ true → HasQueue
found_queue None is there = absurd (false≢true there)
found_queue (Some q) is there = record { queue = q; here = is }

has_queue : HasQueue
has_queue = found_queue (queue_head_at_address one_queue 0) refl some_queue

-- ---- the way there

element_is : (f : ℕ) → f < 1024 → word_at one_queue (64 + 4 * f) ≡ 1
element_is f low =
    let place : (64 + 4 * f) / 4 ≡ 16 + f = omega arith in
    let far : 16 + f - 16 ≡ f = omega arith in
    ap (λ (i : ℕ). get_or one_queue.words i 0) place ∙ get_or-append_right queue_words (replicate 1024 1) 16 (16 + f) 0 refl (omega arith)
    ∙ ap (λ (i : ℕ). get_or (replicate 1024 1) i 0) far ∙ get_or-replicate 1024 f 1 0 low

end_read : leads_to (link_read 1) ≡ None
unfolding link_read
end_read = refl

none_some : {X : Type 0} (o : Option X) (x : X) → o ≡ None → o ≡ Some x → ⊥
none_some o x none some = cc (none, some)

abbrev IsThere : Reached → Type 0
IsThere TheList = Unit {0}
IsThere (QueueAt a) = a ≡ 0
IsThere _ = ⊥

module _ (c : Content) where
  abbrev r : Content
  r = at_rest c

  led : (o : Option Reached) (t : Reached) → o ≡ Some (QueueAt 0) → o ≡ Some t → IsThere t
  led o t one is = subst (λ p. IfSome p IsThere) is (subst (λ p. IfSome p IsThere) (sym one) refl)

  queue_at : (a : ℕ) (q : Qh) → a ≡ 0 → queue_head_at_address one_queue a ≡ Some q → IsResting q
  queue_at a q zero_is is = queue_is q (ap (queue_head_at_address one_queue) (sym zero_is) ∙ is)

  held_never : (t : Reached) (l : Link) → IsHeld (at_rest c) t l → ⊥
  held_never t l (reach.of_ring h is at link) = cc is
  held_never t l (reach.of_frame h part is at link) = cc part

  part_never : (q : Qh) (t : Reached) → IsResting q → IsPartOfQueue q t → ⊥
  part_never q t rests (reach.current goes active is) = cc (rests.active, active)
  part_never q t rests (reach.next goes active is) = cc (rests.active, active)
  part_never q t rests (reach.alternate goes active is) = cc (rests.active, active)
  part_never q t rests (reach.byte goes active i below is) = cc (rests.active, active)
  part_never q t rests (reach.taken goes active is) = none_some (leads_to_qtd (qtd_link_of (next_pointer q))) t rests.next is

  parts_never : (a : ℕ) (q : Qh) (t : Reached) → a ≡ 0 → IsQueueHeadAt (at_rest c) a q → IsPartOfQueue q t → ⊥
  parts_never a q t zero_is (reach.in_memory is) part = part_never q t (queue_at a q zero_is is) part
  parts_never a q t zero_is (reach.in_ring h is none at same) part = cc is
  parts_never a q t zero_is (reach.in_frame h part_is is none at same) part = cc part_is

  there : (t : Reached) → Reaches (at_rest c) t → IsThere t
  there t reach.list = tt
  there t reach.head = refl
  there t (reach.element f u low is) =
      absurd (none_some (leads_to (element_at (at_rest c) f)) u (ap (λ (w : ℕ). leads_to (link_read w)) (element_is f low) ∙ end_read) is)
  there t (reach.frame_cursor u part is) = absurd (cc part)
  there t (reach.ring_cursor u is) = led (Some (QueueAt 0)) u refl is
  there t (reach.held u l holds) = absurd (held_never u l holds)
  there t (reach.behind_held s u l holds is) = absurd (held_never s l holds)
  there t (reach.behind_queue a q u way here is) = led (leads_to (link_of q.link)) u (queue_at a q (there (QueueAt a) way) here).link is
  there t (reach.behind_itd a v u way here is) = absurd (there (ItdAt a) way)
  there t (reach.behind_sitd a v u way here is) = absurd (there (SitdAt a) way)
  there t (reach.of_queue a q u way here part) = absurd (parts_never a q u (there (QueueAt a) way) here part)
  there t (reach.of_qtd a d u way here part) = absurd (there (QtdAt a) way)
  there t (reach.of_itd a v u way here part) = absurd (there (ItdAt a) way)
  there t (reach.of_sitd a v u way here part) = absurd (there (SitdAt a) way)

  -- ---- whose the words are

  not_receiving : (b : ℕ) → IsReceiving (at_rest c) b → ⊥
  not_receiving b (owners.by_queue a q way here pid part) = part_never q (ByteAt b) (queue_at a q (there (QueueAt a) way) here) part
  not_receiving b (owners.by_qtd a d way here pid part) = there (QtdAt a) way
  not_receiving b (owners.by_itd a v way here dir part) = there (ItdAt a) way
  not_receiving b (owners.by_sitd a v way here dir part) = there (SitdAt a) way

  overlay : (i : ℕ) → 3 ≤ i → i < 12 → IsControllers (at_rest c) (4 * i)
  overlay i low high = owners.of_overlay 0 has_queue.queue i reach.head has_queue.here
      (queue_is has_queue.queue has_queue.here).halted low high (omega arith)

  front : (at : ℕ) → at < 12 → IsControllers (at_rest c) at → ⊥
  front at low (owners.of_overlay a q i way here goes least most is) = omega (arith, low, least, is)
  front at low (owners.of_token a d way here active is) = there (QtdAt a) way
  front at low (owners.of_slot a v u way here few active is) = there (ItdAt a) way
  front at low (owners.of_state a v i way here active least most is) = there (SitdAt a) way
  front at low (owners.of_byte b comes is) = not_receiving b comes

-- ---- the rows

pub token_is_controllers : TokenIsControllers
token_is_controllers = λ c. overlay c 6 (omega arith) (omega arith)

pub link_is_not : LinkIsNot
link_is_not = λ c. front c 0 (omega arith)

-- none of these words is written
beside : (ws : List ℕ) (words : List ℕ) (at n : ℕ) → ((i : ℕ) → i < length ws → n ≢ (at + 4 * i) / 4)
    → get_or (with_words_in words at ws) n 0 ≡ get_or words n 0
unfolding with_words_in
beside [] words at n apart = refl
beside (v ∷ vs) words at n apart =
    beside vs (set words (at / 4) v) (at + 4) n
    (λ i below same. apart (suc i) (omega (arith, below)) (let e : at + 4 + 4 * i ≡ at + 4 * suc i = omega arith in same
    ∙ ap (λ (k : ℕ). k / 4) e))
    ∙ get_or-set_other words (at / 4) n v 0 (λ same. apart 0 (omega arith)
    (let e : at ≡ at + 4 * 0 = omega arith in same ∙ ap (λ (k : ℕ). k / 4) e))

nine : (c : Content) (ws : List ℕ) → length ws ≡ 9 → (at : ℕ) → at % 4 ≡ 0 → word_at (with_words one_queue 12 ws) at ≢ word_at one_queue at
    → IsControllers (at_rest c) at
nine c ws long at low changed =
    ⊎_elim
    (λ (before : at / 4 < 3). absurd (changed (beside ws one_queue.words 12 (at / 4) (λ i below same. omega (arith, before, same)))))
    (λ (least : 3 ≤ at / 4).
    ⊎_elim
    (λ (most : at / 4 < 12). let four : 4 * (at / 4) ≡ at = omega (arith, low) in subst (IsControllers (at_rest c)) four
    (overlay c (at / 4) least most))
    (λ (behind : 12 ≤ at / 4). absurd (changed (beside ws one_queue.words 12 (at / 4)
    (λ i below same. omega (arith, behind, below, long, same)))))
    (cases_lt (at / 4) 12)) (cases_lt (at / 4) 3)

pub nine_words_are_its_own : NineWordsAreItsOwn
nine_words_are_its_own = nine

pub twelve_words_are_not : TwelveWordsAreNot
unfolding with_words_in
twelve_words_are_not = λ c keeps. front c 0 (omega arith) (keeps 0 refl (λ same. cc same))

pub link_store_leaves : LinkStoreLeaves
link_store_leaves = λ c v at low changed is.
    ⊎_elim (λ (here : at < 12). front c at here is)
    (λ (behind : 12 ≤ at). changed (get_or-set_other one_queue.words 0 (at / 4) v 0 (λ same. omega (arith, behind, same)))) (cases_lt at 12)

pub token_store_takes : TokenStoreTakes
token_store_takes = λ c leaves. leaves 24 refl (λ same. cc same) (overlay c 6 (omega arith) (omega arith))
