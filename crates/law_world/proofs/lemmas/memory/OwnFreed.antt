-- What the controller can come to it can come to still, where what is Lent afterwards has its words; so what is given back has none of its
-- words.
use Rattle.std.proofs.Common.{◌≡◌, ◌≢◌, ℕ, ◌+◌, ◌*◌, ◌/◌, ◌%◌, ◌<◌, ◌≤◌, Bool, true, false, if◌then◌else◌, List, get_or, Option, Some, None}
use Rattle.std.proofs.Common.{ap, refl, sym, subst, ◌∙◌, arith, ⊎_elim, inl, inr}
use Rattle.std.specs.Prelude.{◌⊎◌, ◌&&◌}
use Rattle.std.specs.Result.{result_ok}
use Rattle.std.proofs.lemmas.Bool.{cases_lt, and_parts}
use Rattle.law_common.proofs.Numbers.{in_one}
use Rattle.word_mem.specs.Memory.{Mem, reaches, word_at, state_at, is_lent}
use Rattle.word_mem.specs.Views.{words_at}
use Rattle.word_mem.proofs.Words.{words_in_same}
use Rattle.link_words.specs.declared.kinds.Link.{Link}
use Rattle.link_words.specs.Links.{link_read}
use Rattle.qh_qtd.specs.declared.qtd.Qtd.{Qtd}
use Rattle.qh_qtd.specs.declared.queue_head.Qh.{Qh}
use Rattle.qh_qtd.specs.Qtd.{qtd_read}
use Rattle.qh_qtd.specs.QueueHead.{qh_read}
use Rattle.itd_sitd.specs.declared.itd.Itd.{Itd}
use Rattle.itd_sitd.specs.declared.sitd.Sitd.{Sitd}
use Rattle.itd_sitd.specs.Itd.{itd_read}
use Rattle.itd_sitd.specs.Sitd.{sitd_read}
use Rattle.mem_queues.specs.Structures.{reaches_queue_head, queue_head_at_address, qtd_at_address}
use Rattle.mem_descriptors.specs.Descriptors.{reaches_itd, itd_at_address, sitd_at_address}
use Rattle.hc_core.specs.Controller.{Content}
use Rattle.claims_base.specs.Controller.{Base}
use Rattle.claims_world.specs.Reach.{Reached, TheList, QueueAt, QtdAt, ItdAt, SitdAt, leads_to, element_at, IsHeld, IsQueueHeadAt, Reaches}
use Rattle.claims_world.specs.Reach as reach
use Rattle.claims_world.specs.Owners.{IsReceiving, IsControllers, LeavesControllers}
use Rattle.claims_world.specs.Owners as owners
use Rattle.law_structures.specs.lent_structures.Structures.{QueueHead, Element, Isochronous, SplitIsochronous, HoldsQueueHead, HoldsElement}
use Rattle.law_structures.specs.lent_structures.Structures.{HoldsIsochronous}
use Rattle.law_structures.specs.lent_structures.Structures.{HoldsSplitIsochronous, StructureSets, Tells}
use Rattle.law_ring.specs.Hand.{Hand}
use Rattle.law_frames.specs.Met.{Kind, AnItd, ASitd, IsMetItd, IsMetSitd}
use Rattle.law_frames.specs.FrameHand.{FrameHand}
use Rattle.law_controller.specs.frame_control.Both.{RunsBoth}
use Rattle.law_world.proofs.lemmas.memory.WaysThere.{IsToldQueue, IsToldQtd, queue_told, told, runs_reach_lent}
use Rattle.law_world.proofs.lemmas.memory.OwnTold.{runs_tell_owners}
use Rattle.law_world.proofs.lemmas.memory.OwnStores.{told_reached}

was_read : {X : Type 0} (b : Bool) (o : Option X) (x : X) → (if b then o else None) ≡ Some x → o ≡ Some x
was_read true o x is = is
was_read false o x is = absurd (cc is)

is_read : {X : Type 0} (b : Bool) (o : Option X) (x : X) → b ≡ true → o ≡ Some x → (if b then o else None) ≡ Some x
is_read true o x there is = is
is_read false o x there is = absurd (cc there)

in_second : (a k : ℕ) → a % 32 ≡ 0 → 8 ≤ k → k < 16 → (a + 4 * k) / 32 ≡ (a + 32) / 32
in_second a k low most few = omega (arith, low, most, few)

block_reached : (m : Mem) (x y : ℕ) → x / 32 ≡ y / 32 → reaches m y ≡ true → reaches m x ≡ true
block_reached m x y same there = ap (λ (b : ℕ). is_lent (state_at m b)) same ∙ there

module _ (base : Base) (member : ℕ → Bool) (met : ℕ → Option Kind) (parts : StructureSets) (hand : Hand) (frame : FrameHand) (c : Content)
    (m : Mem)
    (k : RunsBoth base member met parts hand frame (record c { memory = m }))
    (back : (at : ℕ) → reaches m at ≡ true → word_at m at ≡ word_at c.memory at) where
  abbrev n : Content
  n = record c { memory = m }

  tells : Tells m parts
  tells = k.ring.tells

  -- ---- words of one block, and of two

  one_block : (a size : ℕ) → a % 32 ≡ 0 → size ≤ 8 → reaches m a ≡ true → words_at m a size ≡ words_at c.memory a size
  one_block a size low few there =
      words_in_same c.memory.words m.words a size
      (λ i below. back (a + 4 * i) (block_reached m (a + 4 * i) a (in_one a i low (omega (arith, below, few))) there))

  two_blocks : (a size : ℕ) → a % 32 ≡ 0 → size ≤ 16 → reaches m a ≡ true → reaches m (a + 32) ≡ true
      → words_at m a size ≡ words_at c.memory a size
  two_blocks a size low few one two =
      words_in_same c.memory.words m.words a size
      (λ i below.
      ⊎_elim (λ (first : i < 8). back (a + 4 * i) (block_reached m (a + 4 * i) a (in_one a i low first) one))
      (λ (second : 8 ≤ i). back (a + 4 * i) (block_reached m (a + 4 * i) (a + 32)
      (in_second a i low second (omega (arith, below, few))) two)) (cases_lt i 8))

  -- ---- each structure that is reached is as it was

  head_stays : (a : ℕ) (q : Qh) → Reaches (record c { memory = m }) (QueueAt a) → queue_head_at_address c.memory a ≡ Some q
      → queue_head_at_address m a ≡ Some q
  head_stays a q way is =
      let x : IsToldQueue base member met parts hand frame (record c { memory = m }) k a =
      queue_told base member met parts hand frame (record c { memory = m }) k a
      (told base member met parts hand frame (record c { memory = m }) k (QueueAt a) way) in
      let h : HoldsQueueHead m a x.part_is.queue = tells.each a a (QueueHead x.part_is.queue) x.part_is.here in
      let both = and_parts (reaches m a) (reaches m (a + 32)) h.lent in
      is_read (reaches_queue_head m a) (result_ok (qh_read (words_at m a 12))) q h.lent
      (ap (λ ws. result_ok (qh_read ws)) (two_blocks a 12 h.aligned (omega arith) both.0 both.1)
      ∙ was_read (reaches_queue_head c.memory a) (result_ok (qh_read (words_at c.memory a 12))) q is)

  qtd_stays : (a : ℕ) (d : Qtd) → Reaches (record c { memory = m }) (QtdAt a) → qtd_at_address c.memory a ≡ Some d
      → qtd_at_address m a ≡ Some d
  qtd_stays a d way is =
      let x : IsToldQtd parts a = told base member met parts hand frame (record c { memory = m }) k (QtdAt a) way in
      let h : HoldsElement m a x.qtd = tells.each x.owner a (Element x.qtd) x.here in
      is_read (reaches m a) (result_ok (qtd_read (words_at m a 8))) d h.lent
      (ap (λ ws. result_ok (qtd_read ws)) (one_block a 8 h.aligned (omega arith) h.lent)
      ∙ was_read (reaches c.memory a) (result_ok (qtd_read (words_at c.memory a 8))) d is)

  itd_stays : (a : ℕ) (v : Itd) → Reaches (record c { memory = m }) (ItdAt a) → itd_at_address c.memory a ≡ Some v
      → itd_at_address m a ≡ Some v
  itd_stays a v way is =
      let x : IsMetItd met a (parts a) = k.members a AnItd (told base member met parts hand frame (record c { memory = m }) k
      (ItdAt a) way) in
      let h : HoldsIsochronous m a x.itd = tells.each a a (Isochronous x.itd) x.here in
      let both = and_parts (reaches m a) (reaches m (a + 32)) h.lent in
      is_read (reaches_itd m a) (result_ok (itd_read (words_at m a 16))) v h.lent
      (ap (λ ws. result_ok (itd_read ws)) (two_blocks a 16 h.aligned (omega arith) both.0 both.1)
      ∙ was_read (reaches_itd c.memory a) (result_ok (itd_read (words_at c.memory a 16))) v is)

  sitd_stays : (a : ℕ) (v : Sitd) → Reaches (record c { memory = m }) (SitdAt a) → sitd_at_address c.memory a ≡ Some v
      → sitd_at_address m a ≡ Some v
  sitd_stays a v way is =
      let x : IsMetSitd met a (parts a) = k.members a ASitd (told base member met parts hand frame (record c { memory = m }) k
      (SitdAt a) way) in
      let h : HoldsSplitIsochronous m a x.sitd = tells.each a a (SplitIsochronous x.sitd) x.here in
      is_read (reaches m a) (result_ok (sitd_read (words_at m a 7))) v h.lent
      (ap (λ ws. result_ok (sitd_read ws)) (one_block a 7 h.aligned (omega arith) h.lent)
      ∙ was_read (reaches c.memory a) (result_ok (sitd_read (words_at c.memory a 7))) v is)

  element_stays : (f : ℕ) → f < 1024 → element_at (record c { memory = m }) f ≡ element_at c f
  element_stays f low =
      ap link_read (back (c.registers.periodic_list_base + 4 * f)
      (runs_reach_lent base member met parts hand frame (record c { memory = m }) k TheList reach.list f low))

  -- ---- the way

  held_stays : (t : Reached) (l : Link) → IsHeld c t l → IsHeld (record c { memory = m }) t l
  held_stays t l (reach.of_ring h is at link) = reach.of_ring h is at link
  held_stays t l (reach.of_frame h part is at link) = reach.of_frame h part is at link

  head_at_stays : (a : ℕ) (q : Qh) → Reaches (record c { memory = m }) (QueueAt a) → IsQueueHeadAt c a q
      → IsQueueHeadAt (record c { memory = m }) a q
  head_at_stays a q way (reach.in_memory is) = reach.in_memory (head_stays a q way is)
  head_at_stays a q way (reach.in_ring h is none at same) = reach.in_ring h is none at same
  head_at_stays a q way (reach.in_frame h part is none at same) = reach.in_frame h part is none at same

  stays : (t : Reached) → Reaches c t → Reaches (record c { memory = m }) t
  stays t reach.list = reach.list
  stays t reach.head = reach.head
  stays t (reach.element f u low is) = reach.element f u low (ap leads_to (element_stays f low) ∙ is)
  stays t (reach.frame_cursor u part is) = reach.frame_cursor u part is
  stays t (reach.ring_cursor u is) = reach.ring_cursor u is
  stays t (reach.held u l holds) = reach.held u l (held_stays u l holds)
  stays t (reach.behind_held s u l holds is) = reach.behind_held s u l (held_stays s l holds) is
  stays t (reach.behind_queue a q u way there is) = let on = stays (QueueAt a) way in reach.behind_queue a q u on
      (head_stays a q on there) is
  stays t (reach.behind_itd a v u way there is) = let on = stays (ItdAt a) way in reach.behind_itd a v u on (itd_stays a v on there) is
  stays t (reach.behind_sitd a v u way there is) = let on = stays (SitdAt a) way in reach.behind_sitd a v u on (sitd_stays a v on there) is
  stays t (reach.of_queue a q u way there part) = let on = stays (QueueAt a) way in reach.of_queue a q u on
      (head_at_stays a q on there) part
  stays t (reach.of_qtd a d u way there part) = let on = stays (QtdAt a) way in reach.of_qtd a d u on (qtd_stays a d on there) part
  stays t (reach.of_itd a v u way there part) = let on = stays (ItdAt a) way in reach.of_itd a v u on (itd_stays a v on there) part
  stays t (reach.of_sitd a v u way there part) = let on = stays (SitdAt a) way in reach.of_sitd a v u on (sitd_stays a v on there) part

  -- ---- the words

  byte_stays : (b : ℕ) → IsReceiving c b → IsReceiving (record c { memory = m }) b
  byte_stays b (owners.by_queue a q way there pid part) = let on = stays (QueueAt a) way in owners.by_queue a q on
      (head_stays a q on there) pid part
  byte_stays b (owners.by_qtd a d way there pid part) = let on = stays (QtdAt a) way in owners.by_qtd a d on
      (qtd_stays a d on there) pid part
  byte_stays b (owners.by_itd a v way there dir part) = let on = stays (ItdAt a) way in owners.by_itd a v on
      (itd_stays a v on there) dir part
  byte_stays b (owners.by_sitd a v way there dir part) = let on = stays (SitdAt a) way in owners.by_sitd a v on
      (sitd_stays a v on there) dir part

  own_stays : (at : ℕ) → IsControllers c at → IsControllers (record c { memory = m }) at
  own_stays at (owners.of_overlay a q i way there goes low high is) =
      let on = stays (QueueAt a) way in owners.of_overlay a q i on (head_stays a q on there) goes low high is
  own_stays at (owners.of_token a d way there active is) = let on = stays (QtdAt a) way in owners.of_token a d on
      (qtd_stays a d on there) active is
  own_stays at (owners.of_slot a v u way there low active is) = let on = stays (ItdAt a) way in owners.of_slot a v u on
      (itd_stays a v on there) low active is
  own_stays at (owners.of_state a v i way there active low high is) =
      let on = stays (SitdAt a) way in owners.of_state a v i on (sitd_stays a v on there) active low high is
  own_stays at (owners.of_byte b comes same) = owners.of_byte b (byte_stays b comes) same

  pub freed_leaves : LeavesControllers c m
  freed_leaves at low changed own =
      changed (back at (told_reached m parts at tells (runs_tell_owners base member met parts hand frame (record c { memory = m }) k at
      (own_stays at own))))
