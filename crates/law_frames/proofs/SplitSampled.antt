-- The worked split transaction: its start-split is walked and written back, and so are a complete-split and a missed one.
use Rattle.std.proofs.Common.{◌≡◌, ℕ, ◌<◌, Bool, true, false, ◌==◌, if◌then◌else◌, List, slice_index, Some, None, [], ap, refl, sym, subst, ◌∙◌, ⊎_elim, arith}
use Rattle.std.proofs.lemmas.Bool.{eqb-true, true≢false}
use Rattle.std.proofs.lemmas.Option.{same_Some}
use Rattle.usb_base.specs.declared.packets.Reply.{Reply}
use Rattle.usb_base.specs.declared.packets.Reply.TheVariants.{Silent}
use Rattle.qh_qtd.specs.declared.qtd.Qtd.{Qtd}
use Rattle.word_mem.specs.Memory.{with_word}
use Rattle.qh_qtd.specs.QueueHead.{qh_words, IsQhInRange}
use Rattle.hc_masks.specs.Masks.{lacks}
use Rattle.hc_copy.specs.declared.held.Held.{Held}
use Rattle.hc_copy.specs.Overlay.{settled_queue, moved}
use Rattle.hc_copy.specs.Buffer.{Reading}
use Rattle.hc_copy.specs.Transacting.{call_in}
use Rattle.hc_interrupt.specs.declared.turns.Turn.TheVariants as turns
use Rattle.hc_interrupt.specs.Turns.{turn_of, planned, is_last_of}
use Rattle.hc_interrupt.specs.Copies.{with_split}
use Rattle.async_walk.specs.declared.state.WalkStep.TheVariants as steps
use Rattle.periodic_walk.specs.declared.state.Hand.TheVariants as hands
use Rattle.periodic_walk.specs.Place.{FramePlace, Effect, HasEffect, sent}
use Rattle.periodic_walk.specs.Queue.{queue_left_by}
use Rattle.periodic_walk.specs.Rows.{step_of, Leads}
use Rattle.law_structures.specs.lent_structures.Structures.{QueueHead, Element, StructureSets, put, Tells}
use Rattle.law_structures.specs.lent_structures.StructureSamples.{queue as sample, element, bytes, memory as small, parts as small_parts}
use Rattle.law_structures.proofs.lemmas.lent_structures.Names.{put_found}
use Rattle.law_structures.proofs.lemmas.lent_structures.Writing.{word_put_queue}
use Rattle.law_structures.proofs.lemmas.lent_structures.StructureSampled.{queue_range as sample_range, sample_told}
use Rattle.law_structures.specs.lent_structures.Sound.{IsSoundElement, IsSoundQueue}
use Rattle.law_frames.specs.Met.{Kind, AQueue, IsMetQueue, IsMetAs}
use Rattle.law_frames.specs.FrameHand.{OfQueue, OfSettled}
use Rattle.law_frames.specs.Frame.{IsQueueSettled, IsFrame}
use Rattle.law_frames.specs.Visits.{IsQueueVisit, IsWrittenBack, back_of}
use Rattle.law_frames.specs.QueueVisitLaws.{HasBytes, held_copy}
use Rattle.law_frames.specs.QueueVisitSamples.{met}
use Rattle.law_frames.specs.SplitSamples.{ended_queue, full_queue, split_queue, memory, parts, copy, started, waiting, heard, ended, missed, fetched, begun, is_silent}
use Rattle.law_frames.proofs.QueueBacks.{miss_settles}
use Rattle.law_frames.proofs.Making.{transaction_sends_its_bytes, settles, copy_settles}
use Rattle.law_frames.proofs.Writing.{write_back_keeps_visit}
use Rattle.law_frames.proofs.QueueVisitSampled.{IsTheOne, the_first, heard_in, two_small}

-- ---- the structures stand in memory

ended_range : IsQhInRange ended_queue
ended_range = let (link, rest) = sample_range in ((refl, (omega arith, tt)), rest)

full_range : IsQhInRange full_queue
full_range = let (link, (chars, rest)) = ended_range in (link, ((omega arith, (omega arith, (omega arith, (omega arith, (omega arith, tt))))), rest))

split_range : IsQhInRange split_queue
split_range = let (link, (chars, (caps, rest))) = full_range in (link, (chars, ((omega arith, (omega arith, (omega arith, (omega arith, (omega arith, tt))))), rest)))

abbrev ended_parts : StructureSets
ended_parts = put small_parts 0 0 (QueueHead ended_queue)

abbrev full_parts : StructureSets
full_parts = put ended_parts 0 0 (QueueHead full_queue)

told : Tells memory parts
unfolding qh_words
told =
    word_put_queue (with_word (with_word small 0 3) 4 0x400105) full_parts 0 0 full_queue split_queue 2 0x41091C01
    (word_put_queue (with_word small 0 3) ended_parts 0 0 ended_queue full_queue 1 0x400105 (word_put_queue small small_parts 0 0 sample ended_queue 0 3 sample_told refl (omega arith) refl ended_range) refl (omega arith) refl full_range) refl
    (omega arith) refl split_range

pub the_one : (a : ℕ) (t : Qtd) → parts 0 a ≡ Some (Element t) → IsTheOne a t
the_one a t found =
    ⊎_elim (λ (is : (0 ≡ 0) × (a ≡ 0) × (Element t ≡ QueueHead split_queue)). cc)
    (λ (there : full_parts 0 a ≡ Some (Element t)).
    ⊎_elim (λ (is : (0 ≡ 0) × (a ≡ 0) × (Element t ≡ QueueHead full_queue)). cc)
    (λ (before : ended_parts 0 a ≡ Some (Element t)).
    ⊎_elim (λ (is : (0 ≡ 0) × (a ≡ 0) × (Element t ≡ QueueHead ended_queue)). cc) (the_first 0 a t) (put_found small_parts 0 0 (QueueHead ended_queue) 0 a (Element t) before))
    (put_found ended_parts 0 0 (QueueHead full_queue) 0 a (Element t) there))
    (put_found full_parts 0 0 (QueueHead split_queue) 0 a (Element t) found)

element_sound : IsSoundElement (parts 0) element
element_sound = record { next = tt; alternate = tt; work = λ on. record { goes_on = refl; start = refl; buffer = λ some. record { bytes = bytes; here = refl; size = refl } } }

queue_sound : IsSoundQueue (parts 0) split_queue
queue_sound = record {
  rest = λ off idle. absurd (true≢false idle);
  work = λ on. record {
    element = element;
    here = refl;
    published = refl;
    goes_on = refl;
    pid = refl;
    pages = refl;
    next = refl;
    alternate = refl;
    fewer = omega arith;
    place = refl;
  };
}

queue_met : IsMetQueue met 0 (parts 0)
queue_met = record {
  part_is = record {
    queue = split_queue;
    here = refl;
    sound = queue_sound;
    elements = λ a t found. subst (IsSoundElement (parts 0)) (sym (the_one a t found).is) element_sound;
    own = λ a b t u ps k bs one other same there. (the_one a t one).at ∙ sym (the_one b u other).at;
  };
  link = tt;
}

pub visit_is : IsQueueVisit met memory parts copy
visit_is = record { tells = told; met_is = queue_met; copied = record { on = refl; here = refl; link = tt; range = split_range } }

-- ---- its start-split

silent_small : HasBytes Silent
silent_small pid bs same i = cc

pub started_so : IsQueueSettled split_queue Silent started
started_so = settles 40 split_queue [] Silent refl (omega arith) (omega arith) refl silent_small

pub back_is : IsWrittenBack met memory parts copy started
back_is = write_back_keeps_visit met memory parts copy started Silent visit_is started_so

members_at : (b : Bool) (n : ℕ) (k : Kind) → (n == 0) ≡ b → (if b then Some AQueue else None) ≡ Some k → IsMetAs met n (parts n) k
members_at true n k is on =
    subst (λ (kind : Kind). IsMetAs met n (parts n) kind) (same_Some AQueue k on) (subst (λ (i : ℕ). IsMetQueue met i (parts i)) (sym (eqb-true n 0 is)) queue_met)
members_at false n k is on = cc

pub before_it : IsFrame met parts (OfQueue copy 0) fetched
before_it = record { tells = told; members = λ n k on. members_at (n == 0) n k refl on; walk = record { cursor = refl; held = refl; in_hand = visit_is.copied } }

pub after_it : IsFrame met parts (OfSettled copy started 1) begun
after_it = record {
  tells = told;
  members = λ n k on. members_at (n == 0) n k refl on;
  walk = record {
    cursor = refl;
    held = ap (λ (x : Held). Some (hands.Queue (record { copy = x; made = 1 }))) (copy_settles 40 copy [] Silent);
    in_hand = (visit_is.copied, started_so);
  };
}

pub transacts_it : step_of fetched ≡ steps.Transact
transacts_it = ap (λ (r : Reading). if r.all then steps.Transact else steps.Fault)
    (transaction_sends_its_bytes met memory parts copy visit_is refl).read

-- what a reading of its bytes leads to
abbrev sent_from : Reading → Effect
sent_from r =
    let there : FramePlace = record fetched { memory = r.memory } in
    sent r.all (call_in (planned split_queue) r.bytes (is_last_of 40 split_queue)).ask (call_in (planned split_queue) r.bytes (is_last_of 40 split_queue)).out (queue_left_by (planned split_queue) r.bytes (record { copy = held_copy copy; made = 0 }) there) there

pub leads_it : Leads is_silent fetched 0 begun 1
leads_it = subst (λ (r : Reading). HasEffect is_silent (sent_from r) 0 begun 1) (sym (transaction_sends_its_bytes met memory parts copy visit_is refl).read) (record { reply = Silent; made = (refl, refl); place = refl })

-- ---- its complete-split

-- the queue head in Do-Complete
waiting_active : waiting.queue.token.active ≡ true
unfolding settled_queue moved with_split
waiting_active = refl

waiting_prog : waiting.queue.c_prog ≡ 0
unfolding settled_queue moved with_split
waiting_prog = refl

waiting_tag : waiting.queue.frame_tag ≡ 5
unfolding settled_queue moved with_split
waiting_tag = refl

none_out : 0 ≡ (planned waiting.queue).bytes
unfolding settled_queue moved with_split
none_out = refl

heard_small : HasBytes heard
heard_small pid bs same i = subst (λ (r : Reply). slice_index (heard_in r) i < 256) same (two_small i)

ended_so : IsQueueSettled waiting.queue heard ended
ended_so = settles 42 waiting.queue [] heard waiting_active (omega (arith, waiting_prog)) (omega (arith, waiting_tag)) none_out heard_small

pub ended_back : (v : IsWrittenBack met memory parts copy started) → IsWrittenBack met (back_of copy started memory).memory v.now waiting ended
ended_back v = write_back_keeps_visit met (back_of copy started memory).memory v.now waiting ended heard v.visit ended_so

-- ---- a miss

pub misses_it : turn_of 43 waiting.queue ≡ turns.Miss
unfolding settled_queue moved with_split lacks
misses_it = refl

pub missed_back : (v : IsWrittenBack met memory parts copy started) → IsWrittenBack met (back_of copy started memory).memory v.now waiting missed
missed_back v =
    write_back_keeps_visit met (back_of copy started memory).memory v.now waiting missed Silent v.visit
    (miss_settles 43 waiting.queue Silent misses_it (omega (arith, waiting_prog)) (omega (arith, waiting_tag)))
