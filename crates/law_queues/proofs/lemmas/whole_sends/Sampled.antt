-- The worked queue.
use Rattle.std.proofs.Common.{◌≡◌, ◌≢◌, ℕ, ◌+◌, ◌<◌, ◌≤◌, ◌==◌, ◌||◌, true, false, List, [], ◌∷◌, ◌++◌, Some, ap, refl, sym, subst, ◌∙◌, ⊎_elim, inl, inr, arith}
use Rattle.std.specs.Prelude.{◌⊎◌}
use Rattle.std.proofs.lemmas.Bool.{eqb-true, true≢false, false≢true}
use Rattle.law_structures.proofs.Common.{element_is}
use Rattle.law_ring.proofs.Common.{fewer_some}
use Rattle.usb_base.specs.declared.packets.Ask.{Ask}
use Rattle.usb_base.specs.declared.packets.Pid.TheVariants as Packets
use Rattle.usb_base.specs.declared.packets.Reply.{Reply}
use Rattle.link_words.specs.declared.kinds.QtdLink.{QtdLink}
use Rattle.link_words.specs.declared.kinds.QtdLink.TheVariants as qtd_links
use Rattle.link_words.specs.Links.{qtd_link_of}
use Rattle.qh_qtd.specs.Blank.{blank_qtd}
use Rattle.qh_qtd.specs.declared.qtd.Qtd.{Qtd}
use Rattle.qh_qtd.specs.declared.queue_head.Qh.{Qh}
use Rattle.qh_qtd.specs.QueueHead.{IsQhInRange}
use Rattle.hc_copy.specs.Overlay.{settled_queue, moved}
use Rattle.async_walk.specs.declared.state.WalkStep.TheVariants as steps
use Rattle.law_structures.specs.lent_structures.Structures.{Structure, QueueHead, Element, Buffer, Structures, with_structure}
use Rattle.law_structures.specs.lent_structures.Sound.{buffer_name, IsSoundElement, AreOwn, IsMember}
use Rattle.law_structures.proofs.lemmas.lent_structures.Altering.{found_queue}
use Rattle.law_ring.specs.Hand.{copied_queue, Empty}
use Rattle.law_ring.specs.Ring.{IsInHand}
use Rattle.law_ring.specs.Effects.{Effect}
use Rattle.law_ring.specs.Effects.Effect.{writes_back}
use Rattle.law_ring.specs.Streams.{AreMembers}
use Rattle.law_ring.proofs.Parting.{found_with}
use Rattle.law_ring.specs.Order.{IsPlaced, IsFresh, IsOrdered, IsSorted, IsAmong, none_out, one_out, Accounts}
use Rattle.law_ring.specs.Front.{IsFront, IsBehind, LinksWithin, HasFront, HasTail}
use Rattle.law_ring.specs.OutPipes.{IsOut, IsNext}
use Rattle.law_queues.specs.whole_sends.Whole.{EndsWhole, GoesInTurn, AreSentWhole}
use Rattle.law_queues.specs.whole_sends.Samples.{order, ahead, behind, first, second, tail, more, working, halted, halted_second, pages, no_part, head_of, queue_of, parts, earlier, parts_halted, member, copy, acknowledgement, last, sent, written, sent_second}
use Rattle.law_queues.specs.whole_sends.Laws.{IsNewBehind}
use Rattle.law_queues.proofs.lemmas.whole_sends.Walking.{with_hand, walk_keeps_whole}

-- ---- its qTDs

on_element : (P : ℕ → Qtd → Type 0) (part : Structures) (b : ℕ) (u : Qtd) → P b u → ((a : ℕ) (t : Qtd) → part a ≡ Some (Element t) → P a t) → (a : ℕ) (t : Qtd) → with_structure part b (Element u) a ≡ Some (Element t) → P a t
on_element P part b u this rest a t found =
    ⊎_elim (λ (is : (a ≡ b) × (Element u ≡ Element t)). subst (λ (i : ℕ). P i t) (sym is.0) (subst (P b) (element_is u t is.1) this)) (λ (there : (a ≢ b) × (part a ≡ Some (Element t))). rest a t there.1)
    (found_with part b a (Element u) (Element t) found)

on_other : (P : ℕ → Qtd → Type 0) (part : Structures) (b : ℕ) (s : Structure) → ((t : Qtd) → s ≡ Element t → ⊥) → ((a : ℕ) (t : Qtd) → part a ≡ Some (Element t) → P a t) → (a : ℕ) (t : Qtd) → with_structure part b s a ≡ Some (Element t) → P a t
on_other P part b s none rest a t found =
    ⊎_elim (λ (is : (a ≡ b) × (s ≡ Element t)). absurd (none t is.1)) (λ (there : (a ≢ b) × (part a ≡ Some (Element t))). rest a t there.1) (found_with part b a s (Element t) found)

no_head : (q : Qh) (t : Qtd) → QueueHead q ≡ Element t → ⊥
no_head q t e = cc

no_buffer : (ps : List ℕ) (k : ℕ) (bs : List ℕ) (t : Qtd) → Buffer ps k bs ≡ Element t → ⊥
no_buffer ps k bs t e = cc

none_there : (P : ℕ → Qtd → Type 0) (a : ℕ) (t : Qtd) → no_part a ≡ Some (Element t) → P a t
none_there P a t there = cc

each : (P : ℕ → Qtd → Type 0) (q : Qh) (s : Qtd) → P 128 first → P 192 s → P 224 tail → P 256 more → P 288 blank_qtd → (a : ℕ) (t : Qtd) → queue_of q s a ≡ Some (Element t) → P a t
each P q s one two three four five =
    let p0 : Structures = head_of q in
    let p1 : Structures = with_structure p0 128 (Element first) in
    let p2 : Structures = with_structure p1 192 (Element s) in
    let p3 : Structures = with_structure p2 224 (Element tail) in
    let p4 : Structures = with_structure p3 256 (Element more) in
    let p5 : Structures = with_structure p4 288 (Element blank_qtd) in
    let p6 : Structures = with_structure p5 512 (Buffer pages 512 (7 ∷ 9 ∷ [])) in
    let p7 : Structures = with_structure p6 544 (Buffer pages 544 (1 ∷ 2 ∷ 3 ∷ [])) in
    on_other P p7 576 (Buffer pages 576 (6 ∷ 8 ∷ [])) (no_buffer pages 576 (6 ∷ 8 ∷ []))
    (on_other P p6 544 (Buffer pages 544 (1 ∷ 2 ∷ 3 ∷ [])) (no_buffer pages 544 (1 ∷ 2 ∷ 3 ∷ []))
    (on_other P p5 512 (Buffer pages 512 (7 ∷ 9 ∷ [])) (no_buffer pages 512 (7 ∷ 9 ∷ []))
    (on_element P p4 288 blank_qtd five (on_element P p3 256 more four (on_element P p2 224 tail three (on_element P p1 192 s two (on_element P p0 128 first one (on_other P no_part 64 (QueueHead q) (no_head q) (none_there P)))))))))

abbrev target : QtdLink → ℕ
target qtd_links.End = 0
target (qtd_links.To b) = b

to_same : (a b : ℕ) → qtd_links.To a ≡ qtd_links.To b → a ≡ b
to_same a b e = ap target e

no_link : (b : ℕ) → qtd_links.End ≡ qtd_links.To b → ⊥
no_link b e = cc

abbrev out : List ℕ
out = ahead ++ behind

abbrev part : Structures
part = queue_of working second

abbrev part_halted : Structures
part_halted = queue_of halted halted_second

tail_not_out : IsAmong 224 out → ⊥
tail_not_out (inl e) = absurd (omega (arith, e))
tail_not_out (inr (inl e)) = absurd (omega (arith, e))
tail_not_out (inr (inr (inl e))) = absurd (omega (arith, e))
tail_not_out (inr (inr (inr none))) = none

end_not_out : IsAmong 288 out → ⊥
end_not_out (inl e) = absurd (omega (arith, e))
end_not_out (inr (inl e)) = absurd (omega (arith, e))
end_not_out (inr (inr (inl e))) = absurd (omega (arith, e))
end_not_out (inr (inr (inr none))) = none

low : (q : Qh) (s : Qtd) (a : ℕ) (t : Qtd) → queue_of q s a ≡ Some (Element t) → 4 ≤ order a
low q s = each (λ a t. 4 ≤ order a) q s (omega arith) (omega arith) (omega arith) (omega arith) (omega arith)

-- ---- it works

first_is : (a : ℕ) (t : Qtd) → part a ≡ Some (Element t) → t.token.active ≡ true → order 192 ≤ order a
first_is = each (λ a t. t.token.active ≡ true → order 192 ≤ order a) working second (λ on. absurd (false≢true on)) (λ on. omega arith) (λ on. absurd (false≢true on)) (λ on. omega arith) (λ on. absurd (false≢true on))

at_work : GoesInTurn order part working
at_work = record { work = λ on. first_is; rest = λ b goes idle to. absurd (true≢false idle) }

nothing_before : (q : Qh) (s : Qtd) (P : Type 0) (a : ℕ) (t : Qtd) → queue_of q s a ≡ Some (Element t) → order a < order 128 → P
nothing_before q s P a t here less = absurd (let from = low q s a t here in omega (arith, from, less))

all_before : (a : ℕ) (t : Qtd) → part a ≡ Some (Element t) → (b : ℕ) (u : Qtd) → part b ≡ Some (Element u) → IsAmong b out → order a < order b → u.token.active ≡ false → (t.token.active ≡ false) × (t.token.halted ≡ false)
all_before a t here =
    each (λ b u. IsAmong b out → order a < order b → u.token.active ≡ false → (t.token.active ≡ false) × (t.token.halted ≡ false)) working second
    (λ among less off. nothing_before working second ((t.token.active ≡ false) × (t.token.halted ≡ false)) a t here less)
    (λ among less off. absurd (true≢false off)) (λ among less off. absurd (tail_not_out among)) (λ among less off. absurd (true≢false off)) (λ among less off. absurd (end_not_out among))

next_is : (c : ℕ) (t : Qtd) → part c ≡ Some (Element t) → (a b : ℕ) (u : Qtd) → part a ≡ Some (Element u) → t.token.active ≡ true → u.token.active ≡ true → order c < order a → qtd_link_of t.next ≡ qtd_links.To b → order b ≤ order a
next_is =
    each (λ c t. (a b : ℕ) (u : Qtd) → part a ≡ Some (Element u) → t.token.active ≡ true → u.token.active ≡ true → order c < order a → qtd_link_of t.next ≡ qtd_links.To b → order b ≤ order a) working second
    (λ a b u there on active less to. absurd (false≢true on))
    (λ a b u there on active less to.
    subst (λ (i : ℕ). order i ≤ order a) (to_same 224 b to)
    (each (λ d v. v.token.active ≡ true → order 192 < order d → order 224 ≤ order d) working second
    (λ also less_too. absurd (false≢true also)) (λ also less_too. absurd (omega (arith, less_too))) (λ also less_too. absurd (false≢true also)) (λ also less_too. omega arith) (λ also less_too. absurd (false≢true also)) a u there active less))
    (λ a b u there on active less to. absurd (false≢true on))
    (λ a b u there on active less to.
    each (λ d v. v.token.active ≡ true → order 256 < order d → order b ≤ order d) working second
    (λ also less_too. absurd (false≢true also)) (λ also less_too. absurd (omega (arith, less_too))) (λ also less_too. absurd (false≢true also)) (λ also less_too. absurd (omega (arith, less_too))) (λ also less_too. absurd (false≢true also)) a u there active less)
    (λ a b u there on active less to. absurd (false≢true on))

pub sent_whole : AreSentWhole order out Empty 64 part
sent_whole = record {
  whole = each (λ a t. t.token.active ≡ false → t.token.halted ≡ false → t.token.total ≡ 0) working second (λ off goes. refl) (λ off goes. absurd (true≢false off)) (λ off goes. refl) (λ off goes. absurd (true≢false off)) (λ off goes. refl);
  ends = tt;
  goes_on = λ q a t at goes here off. each (λ c u. u.token.active ≡ false → u.token.halted ≡ false) working second (λ idle. refl) (λ idle. refl) (λ idle. refl) (λ idle. refl) (λ idle. refl) a t here off;
  before = λ a b t u among one other less off. all_before a t one b u other among less off;
  turn = λ q at. subst (GoesInTurn order part) (found_queue (part 64) working q refl at) at_work;
  next = λ c a b t u one other on active less to. next_is c t one a b u other on active less to;
}

pub acknowledged : EndsWhole sent 64
acknowledged at off goes = refl

pub in_hand : AreSentWhole order out sent 64 part
in_hand = with_hand order out Empty sent 64 part acknowledged sent_whole

-- ---- a member

sound_first : IsSoundElement part first
sound_first = record { next = record { qtd = second; here = refl }; alternate = tt; work = λ on. absurd (false≢true on) }

sound_second : IsSoundElement part second
sound_second = record { next = record { qtd = tail; here = refl }; alternate = tt; work = λ on. record { goes_on = refl; start = refl; buffer = λ some. record { bytes = 1 ∷ 2 ∷ 3 ∷ []; here = refl; size = refl } } }

sound_tail : IsSoundElement part tail
sound_tail = record { next = record { qtd = more; here = refl }; alternate = tt; work = λ on. absurd (false≢true on) }

sound_more : IsSoundElement part more
sound_more = record { next = record { qtd = blank_qtd; here = refl }; alternate = tt; work = λ on. record { goes_on = refl; start = refl; buffer = λ some. record { bytes = 6 ∷ 8 ∷ []; here = refl; size = refl } } }

sound_end : IsSoundElement part blank_qtd
sound_end = record { next = tt; alternate = tt; work = λ on. absurd (false≢true on) }

none_at_zero : (P : Type 0) (ps : List ℕ) (k : ℕ) (bs : List ℕ) → part 0 ≡ Some (Buffer ps k bs) → P
none_at_zero P ps k bs e = cc

own_is : AreOwn part
own_is a b t u ps k bs one other same there =
    each (λ c v. buffer_name v ≡ buffer_name u → part (buffer_name v) ≡ Some (Buffer ps k bs) → c ≡ b) working second
    (λ is at. each (λ d w. 512 ≡ buffer_name w → 128 ≡ d) working second (λ e. refl) (λ e. absurd (omega (arith, e))) (λ e. absurd (omega (arith, e))) (λ e. absurd (omega (arith, e))) (λ e. absurd (omega (arith, e))) b u other is)
    (λ is at. each (λ d w. 544 ≡ buffer_name w → 192 ≡ d) working second (λ e. absurd (omega (arith, e))) (λ e. refl) (λ e. absurd (omega (arith, e))) (λ e. absurd (omega (arith, e))) (λ e. absurd (omega (arith, e))) b u other is)
    (λ is at. none_at_zero (224 ≡ b) ps k bs at)
    (λ is at. each (λ d w. 576 ≡ buffer_name w → 256 ≡ d) working second (λ e. absurd (omega (arith, e))) (λ e. absurd (omega (arith, e))) (λ e. absurd (omega (arith, e))) (λ e. refl) (λ e. absurd (omega (arith, e))) b u other is)
    (λ is at. none_at_zero (288 ≡ b) ps k bs at) a t one same there

pub is_member : IsMember member 64 part
is_member = record {
  queue = working;
  here = refl;
  link = record { to = 64; leads = refl; on = refl };
  sound = record {
    rest = λ off idle. absurd (true≢false idle);
    work = λ on. record { element = second; here = refl; published = refl; goes_on = refl; pid = refl; pages = refl; next = refl; alternate = refl; fewer = omega arith; place = refl };
  };
  elements = each (λ a t. IsSoundElement part t) working second sound_first sound_second sound_tail sound_more sound_end;
  own = own_is;
}

pub are_outs : IsOut part
are_outs = each (λ a t. t.token.active ≡ true → t.token.pid ≡ 0) working second (λ on. refl) (λ on. refl) (λ on. refl) (λ on. refl) (λ on. refl)

pub is_next : IsNext part working (3 ∷ [])
is_next = record { element = second; here = refl; is = refl }

-- ---- the accounts

nexts_rise : (q : Qh) (s : Qtd) → s.next ≡ second.next → (a : ℕ) (t : Qtd) → queue_of q s a ≡ Some (Element t) → (b : ℕ) → qtd_link_of t.next ≡ qtd_links.To b → order a < order b
nexts_rise q s is =
    each (λ a t. (b : ℕ) → qtd_link_of t.next ≡ qtd_links.To b → order a < order b) q s
    (λ b to. subst (λ (i : ℕ). order 128 < order i) (to_same 192 b to) (omega arith)) (λ b to. subst (λ (i : ℕ). order 192 < order i) (to_same 224 b (sym (ap qtd_link_of is) ∙ to)) (omega arith))
    (λ b to. subst (λ (i : ℕ). order 224 < order i) (to_same 256 b to) (omega arith)) (λ b to. subst (λ (i : ℕ). order 256 < order i) (to_same 288 b to) (omega arith)) (λ b to. absurd (no_link b to))

no_alternate : (P : ℕ → ℕ → Type 0) (q : Qh) (s : Qtd) → s.alternate ≡ second.alternate → (a : ℕ) (t : Qtd) → queue_of q s a ≡ Some (Element t) → (b : ℕ) → qtd_link_of t.alternate ≡ qtd_links.To b → P a b
no_alternate P q s is =
    each (λ a t. (b : ℕ) → qtd_link_of t.alternate ≡ qtd_links.To b → P a b) q s (λ b to. absurd (no_link b to)) (λ b to. absurd (no_link b (sym (ap qtd_link_of is) ∙ to))) (λ b to. absurd (no_link b to)) (λ b to. absurd (no_link b to)) (λ b to. absurd (no_link b to))

placed : IsPlaced order 7 working
placed = record { next = λ b to. subst (λ (i : ℕ). 7 ≤ order i) (to_same 224 b to) (omega arith); alternate = λ b to. absurd (no_link b to); current = λ on. refl }

placed_halted : IsPlaced order 7 halted
placed_halted = record { next = λ b to. subst (λ (i : ℕ). 7 ≤ order i) (to_same 224 b to) (omega arith); alternate = λ b to. absurd (no_link b to); current = λ on. absurd (false≢true on) }

ordered : IsOrdered order 7 64 part
ordered = record {
  next = λ a t b here to. nexts_rise working second refl a t here b to;
  alternate = λ a t b here to. no_alternate (λ i j. order i < order j) working second refl a t here b to;
  queue = λ q at. subst (IsPlaced order 7) (found_queue (part 64) working q refl at) placed;
  fresh = each (λ a t. t.token.active ≡ true → 7 ≤ order a → IsFresh part t) working second (λ on from. absurd (false≢true on)) (λ on from. absurd (omega (arith, from))) (λ on from. absurd (false≢true on)) (λ on from. refl) (λ on from. absurd (false≢true on));
}

ordered_halted : IsOrdered order 7 64 part_halted
ordered_halted = record {
  next = λ a t b here to. nexts_rise halted halted_second refl a t here b to;
  alternate = λ a t b here to. no_alternate (λ i j. order i < order j) halted halted_second refl a t here b to;
  queue = λ q at. subst (IsPlaced order 7) (found_queue (part_halted 64) halted q refl at) placed_halted;
  fresh = each (λ a t. t.token.active ≡ true → 7 ≤ order a → IsFresh part_halted t) halted halted_second (λ on from. absurd (false≢true on)) (λ on from. absurd (false≢true on)) (λ on from. absurd (false≢true on)) (λ on from. refl) (λ on from. absurd (false≢true on));
}

in_order : IsSorted order out
in_order = ((omega arith, (omega arith, tt)), ((omega arith, tt), (tt, tt)))

pub with_tail : IsSorted order (ahead ++ 224 ∷ behind)
with_tail = ((omega arith, (omega arith, (omega arith, tt))), ((omega arith, (omega arith, tt)), ((omega arith, tt), (tt, tt))))

pub accounts : Accounts order 7 out Empty parts 64 (7 ∷ 9 ∷ 1 ∷ 2 ∷ [])
accounts = record {
  ordered = ordered;
  sorted = in_order;
  published = λ a t among here from.
      each (λ c u. IsAmong c out → 7 ≤ order c → u.token.active ≡ true) working second (λ in_it at. absurd (omega (arith, at))) (λ in_it at. refl) (λ in_it at. absurd (tail_not_out in_it)) (λ in_it at. refl) (λ in_it at. absurd (end_not_out in_it)) a t here among from;
  complete = each (λ a t. t.token.active ≡ true → IsAmong a out) working second (λ on. absurd (false≢true on)) (λ on. inr (inl refl)) (λ on. absurd (false≢true on)) (λ on. inr (inr (inl refl))) (λ on. absurd (false≢true on));
  told = one_out 128 (192 ∷ 256 ∷ []) (7 ∷ 9 ∷ []) (1 ∷ 2 ∷ []) (record { queue = working; head = refl; qtd = first; here = refl; are = refl })
      (one_out 192 (256 ∷ []) (1 ∷ 2 ∷ []) [] (record { queue = working; head = refl; qtd = second; here = refl; are = refl }) (one_out 256 [] [] [] (record { queue = working; head = refl; qtd = more; here = refl; are = refl }) none_out));
}

pub accounts_halted : Accounts order 7 out Empty parts_halted 64 (7 ∷ 9 ∷ 1 ∷ 2 ∷ [])
accounts_halted = record {
  ordered = ordered_halted;
  sorted = in_order;
  published = λ a t among here from.
      each (λ c u. IsAmong c out → 7 ≤ order c → u.token.active ≡ true) halted halted_second (λ in_it at. absurd (omega (arith, at))) (λ in_it at. absurd (omega (arith, at))) (λ in_it at. absurd (tail_not_out in_it)) (λ in_it at. refl) (λ in_it at. absurd (end_not_out in_it)) a t here among from;
  complete = each (λ a t. t.token.active ≡ true → IsAmong a out) halted halted_second (λ on. absurd (false≢true on)) (λ on. absurd (false≢true on)) (λ on. absurd (false≢true on)) (λ on. inr (inr (inl refl))) (λ on. absurd (false≢true on));
  told = one_out 128 (192 ∷ 256 ∷ []) (7 ∷ 9 ∷ []) (1 ∷ 2 ∷ []) (record { queue = halted; head = refl; qtd = first; here = refl; are = refl })
      (one_out 192 (256 ∷ []) (1 ∷ 2 ∷ []) [] (record { queue = halted; head = refl; qtd = halted_second; here = refl; are = refl }) (one_out 256 [] [] [] (record { queue = halted; head = refl; qtd = more; here = refl; are = refl }) none_out));
}

-- ---- the tail

pub has_front : HasFront order 6 out 64 part
has_front = record {
  queue = λ q at. subst (IsFront order 6) (found_queue (part 64) working q refl at) (record { work = λ on. refl; rest = λ b off idle to. absurd (true≢false idle) });
  behind = λ a t among here off.
      each (λ c u. IsAmong c out → u.token.active ≡ false → IsBehind order 6 part c) working second
      (λ in_it idle. record { qtd = first; here = refl; done = refl; before = omega arith; leads = λ b goes to. subst (λ (i : ℕ). order i ≤ 6) (to_same 192 b to) (omega arith) })
      (λ in_it idle. absurd (true≢false idle)) (λ in_it idle. absurd (tail_not_out in_it)) (λ in_it idle. absurd (true≢false idle)) (λ in_it idle. absurd (end_not_out in_it)) a t here among off;
  fresh = λ a t among here on.
      each (λ c u. u.token.active ≡ true → IsFresh part u) working second (λ active. absurd (false≢true active)) (λ active. refl) (λ active. absurd (false≢true active)) (λ active. refl) (λ active. absurd (false≢true active)) a t here on;
  passes = λ a b e t u among also here there over.
      each (λ c v. IsAmong c out → order a < order c → v.token.active ≡ true) working second
      (λ in_it less. nothing_before working second (false ≡ true) a t here less) (λ in_it less. refl) (λ in_it less. absurd (tail_not_out in_it)) (λ in_it less. refl) (λ in_it less. absurd (end_not_out in_it)) e u there also over.after;
}

pub links_within : LinksWithin order 224 part
links_within = record {
  below = each (λ a t. t.token.active ≡ true → order a ≤ order 224 → order a < order 224) working second
      (λ on most. absurd (false≢true on)) (λ on most. omega arith) (λ on most. absurd (false≢true on)) (λ on most. absurd (omega (arith, most))) (λ on most. absurd (false≢true on));
  next = λ a b t here on most to.
      each (λ c u. u.token.active ≡ true → order c ≤ order 224 → qtd_link_of u.next ≡ qtd_links.To b → order b ≤ order 224) working second
      (λ active low_one leads. absurd (false≢true active)) (λ active low_one leads. subst (λ (i : ℕ). order i ≤ order 224) (to_same 224 b leads) (omega arith)) (λ active low_one leads. absurd (false≢true active))
      (λ active low_one leads. absurd (omega (arith, low_one))) (λ active low_one leads. absurd (false≢true active)) a t here on most to;
  alternate = λ a b t here on most to. no_alternate (λ i j. order j ≤ order 224) working second refl a t here b to;
}

pub has_tail : HasTail order 224 6 64 part
has_tail = record { most = omega arith; rest = λ q b at off idle to. absurd (true≢false (ap (λ (r : Qh). r.token.active) (found_queue (part 64) working q refl at) ∙ idle)) }

-- ---- the transfer behind it

others_below : (b : ℕ) (u : Qtd) → earlier b ≡ Some (Element u) → order b ≤ 7
others_below b u found =
    let old = fewer_some (λ a. a == 256 || a == 288) part b (Element u) found in
    each (λ a t. (a == 256 || a == 288) ≡ false → order a ≤ 7) working second (λ stays. omega arith) (λ stays. omega arith) (λ stays. omega arith) (λ stays. absurd (true≢false stays)) (λ stays. absurd (true≢false stays)) b u old.1 old.0

active_below : (c : ℕ) (u : Qtd) → part c ≡ Some (Element u) → u.token.active ≡ true → order c ≤ 8
active_below = each (λ a t. t.token.active ≡ true → order a ≤ 8) working second (λ on. omega arith) (λ on. omega arith) (λ on. omega arith) (λ on. omega arith) (λ on. absurd (false≢true on))

pub more_behind : IsNewBehind order out earlier part 256 more
more_behind = record {
  behind = λ b u here. let most = others_below b u here in omega (arith, most);
  idle = λ off. absurd (true≢false off);
  published = λ among. refl;
  next = λ b c u on to here active less. absurd (let most = active_below c u here active in omega (arith, most, less));
}

pub end_behind : IsNewBehind order out earlier part 288 blank_qtd
end_behind = record {
  behind = λ b u here. let most = others_below b u here in omega (arith, most);
  idle = λ off. (refl, refl);
  published = λ among. absurd (end_not_out among);
  next = λ b c u on to here active less. absurd (false≢true on);
}

-- ---- it is halted

halted_before : (a : ℕ) (t : Qtd) → part_halted a ≡ Some (Element t) → (b : ℕ) (u : Qtd) → part_halted b ≡ Some (Element u) → IsAmong b out → order a < order b → u.token.active ≡ false → (t.token.active ≡ false) × (t.token.halted ≡ false)
halted_before a t here =
    each (λ b u. IsAmong b out → order a < order b → u.token.active ≡ false → (t.token.active ≡ false) × (t.token.halted ≡ false)) halted halted_second
    (λ among less off. nothing_before halted halted_second ((t.token.active ≡ false) × (t.token.halted ≡ false)) a t here less)
    (λ among less off.
    each (λ c v. order c < order 192 → (v.token.active ≡ false) × (v.token.halted ≡ false)) halted halted_second (λ below. (refl, refl)) (λ below. absurd (omega (arith, below))) (λ below. absurd (omega (arith, below))) (λ below. absurd (omega (arith, below))) (λ below. absurd (omega (arith, below))) a t here less)
    (λ among less off. absurd (tail_not_out among)) (λ among less off. absurd (true≢false off)) (λ among less off. absurd (end_not_out among))

halted_next : (c : ℕ) (t : Qtd) → part_halted c ≡ Some (Element t) → (a b : ℕ) (u : Qtd) → part_halted a ≡ Some (Element u) → t.token.active ≡ true → u.token.active ≡ true → order c < order a → qtd_link_of t.next ≡ qtd_links.To b → order b ≤ order a
halted_next =
    each (λ c t. (a b : ℕ) (u : Qtd) → part_halted a ≡ Some (Element u) → t.token.active ≡ true → u.token.active ≡ true → order c < order a → qtd_link_of t.next ≡ qtd_links.To b → order b ≤ order a) halted halted_second
    (λ a b u there on active less to. absurd (false≢true on)) (λ a b u there on active less to. absurd (false≢true on)) (λ a b u there on active less to. absurd (false≢true on))
    (λ a b u there on active less to.
    each (λ d v. v.token.active ≡ true → order 256 < order d → order b ≤ order d) halted halted_second
    (λ also less_too. absurd (false≢true also)) (λ also less_too. absurd (false≢true also)) (λ also less_too. absurd (false≢true also)) (λ also less_too. absurd (omega (arith, less_too))) (λ also less_too. absurd (false≢true also)) a u there active less)
    (λ a b u there on active less to. absurd (false≢true on))

pub halted_whole : AreSentWhole order out Empty 64 part_halted
halted_whole = record {
  whole = each (λ a t. t.token.active ≡ false → t.token.halted ≡ false → t.token.total ≡ 0) halted halted_second (λ off goes. refl) (λ off goes. absurd (true≢false goes)) (λ off goes. refl) (λ off goes. absurd (true≢false off)) (λ off goes. refl);
  ends = tt;
  goes_on = λ q a t at goes here off. absurd (true≢false (ap (λ (r : Qh). r.token.halted) (found_queue (part_halted 64) halted q refl at) ∙ goes));
  before = λ a b t u among one other less off. halted_before a t one b u other among less off;
  turn = λ q at. subst (GoesInTurn order part_halted) (found_queue (part_halted 64) halted q refl at) (record { work = λ on. absurd (false≢true on); rest = λ b goes idle to. absurd (true≢false goes) });
  next = λ c a b t u one other on active less to. halted_next c t one a b u other on active less to;
}

-- ---- the write-back of its last byte

copy_range : IsQhInRange (copied_queue copy)
copy_range = (
  (refl, (omega arith, tt)),
  (
    (omega arith, (omega arith, (omega arith, (omega arith, (omega arith, tt))))),
    (
      (omega arith, (omega arith, (omega arith, (omega arith, (omega arith, tt))))),
      (
        (refl, tt),
        (
          (refl, tt),
          (
            (refl, (omega arith, tt)),
            (
              (omega arith, (omega arith, (omega arith, (omega arith, tt)))),
              (
                (omega arith, (omega arith, tt)),
                (
                  (omega arith, (omega arith, tt)),
                  (
                    (omega arith, (omega arith, (omega arith, tt))),
                    (
                      (omega arith, tt),
                      ((omega arith, tt), tt),
                    ),
                  ),
                ),
              ),
            ),
          ),
        ),
      ),
    ),
  ),
)

out_no_in : Packets.Out ≡ Packets.In → ⊥
out_no_in e = cc

pub sent_in_hand : IsInHand member parts acknowledgement sent
sent_in_hand = (
  record { on = refl; here = refl; link = record { to = 64; leads = refl; on = refl }; range = copy_range },
  record {
    works = refl;
    host = record { left = refl; packets = refl; errors = omega arith; toggle = refl; went_on = λ on. refl; goes_on = λ goes on. refl; some_left = λ on. absurd (false≢true on) };
    bytes = record { all = λ is. absurd (out_no_in is); none = λ differs. refl };
    got = refl;
    are_bytes = λ i. omega arith;
  },
)

pub is_written_back : {W : Type 0} (transacts : W → Ask → List ℕ → Reply → W → Type 0) (wire : W) → Effect transacts parts sent wire wire written Empty steps.WriteBack
is_written_back transacts wire = writes_back (record { copy = copy; settled = last; in_hand = refl; element = second; here = refl; received_is = refl; now_is = refl; nothing = refl }) refl

pub second_done : written 64 192 ≡ Some (Element sent_second)
unfolding moved settled_queue
second_done = refl

one_member : AreMembers member parts
one_member n on = subst (λ (i : ℕ). IsMember member i (parts i)) (sym (eqb-true n 64 on)) is_member

accounts_in_hand : Accounts order 7 out sent parts 64 (7 ∷ 9 ∷ 1 ∷ 2 ∷ 3 ∷ [])
accounts_in_hand = record {
  ordered = accounts.ordered;
  sorted = accounts.sorted;
  published = accounts.published;
  complete = accounts.complete;
  told = one_out 128 (192 ∷ 256 ∷ []) (7 ∷ 9 ∷ []) (1 ∷ 2 ∷ 3 ∷ []) (record { queue = working; head = refl; qtd = first; here = refl; are = refl })
      (one_out 192 (256 ∷ []) (1 ∷ 2 ∷ 3 ∷ []) [] (record { queue = working; head = refl; qtd = second; here = refl; are = refl }) (one_out 256 [] [] [] (record { queue = working; head = refl; qtd = more; here = refl; are = refl }) none_out));
}

-- by the law, over any wire
any_wire : ℕ → Ask → List ℕ → Reply → ℕ → Type 0
any_wire wire ask bytes reply after = Unit {0}

pub written_whole : AreSentWhole order out Empty 64 (written 64)
written_whole =
    walk_keeps_whole any_wire member parts sent acknowledgement 0 0 written Empty steps.WriteBack order 7 out 64 (7 ∷ 9 ∷ 1 ∷ 2 ∷ 3 ∷ []) one_member sent_in_hand (is_written_back any_wire 0) are_outs accounts_in_hand in_hand
