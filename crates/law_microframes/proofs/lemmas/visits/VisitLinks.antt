-- Where links lead, by words and by the structures that tell them (EHCI 1.0, 3.1, 3.3 to 3.6 and 4.6).
use Rattle.std.proofs.Common.{◌≡◌, ℕ, ◌+◌, ◌*◌, Bool, true, false, if◌then◌else◌, Option, Some, None, Result, Ok, Err, inl, ap, refl, sym, subst, ◌∙◌, arith}
use Rattle.std.specs.Prelude.{slice_index}
use Rattle.std.specs.Result.{result_ok}
use Rattle.std.proofs.lemmas.Option.{same_Some}
use Rattle.law_world.proofs.Common2.{queue_told}
use Rattle.law_descriptors.proofs.Common.{first_of_words}
use Rattle.word_mem.specs.Memory.{Mem, word_at}
use Rattle.word_mem.specs.Views.{words_at}
use Rattle.link_words.specs.declared.kinds.Link.{Link}
use Rattle.link_words.specs.declared.kinds.Link.TheVariants as links
use Rattle.link_words.specs.declared.refusal.Bad.{Bad}
use Rattle.link_words.specs.Links.{link_of, link_read}
use Rattle.qh_qtd.specs.declared.queue_head.Qh.{Qh}
use Rattle.qh_qtd.specs.QueueHead.{qh_read}
use Rattle.qh_qtd.proofs.QhLaws.{qh_read-link}
use Rattle.itd_sitd.specs.declared.itd.Itd.{Itd}
use Rattle.itd_sitd.specs.declared.sitd.Sitd.{Sitd}
use Rattle.itd_sitd.specs.Itd.{itd_read, itd_words}
use Rattle.itd_sitd.specs.Sitd.{sitd_read, sitd_words}
use Rattle.itd_sitd.proofs.ItdLaws.{itd_read-words, itd_read-link}
use Rattle.itd_sitd.proofs.SitdLaws.{sitd_read-words, sitd_read-link}
use Rattle.mem_queues.specs.Structures.{reaches_queue_head, queue_head_at_address}
use Rattle.mem_descriptors.specs.Descriptors.{itd_at_address, sitd_at_address}
use Rattle.periodic_walk.specs.declared.chain.ChainRow.TheVariants as chains
use Rattle.periodic_walk.specs.Chain.{chain_row, queue_fetch, itd_fetch, sitd_fetch}
use Rattle.law_structures.specs.lent_structures.Structures.{QueueHead, Isochronous, SplitIsochronous, StructureSets, HoldsIsochronous, HoldsSplitIsochronous, Tells}
use Rattle.law_frames.specs.Met.{Kind, AQueue, AnItd, ASitd, LeadsTo, IsMetAs}
use Rattle.law_controller.specs.frame_control.Both.{AreMet}
use Rattle.law_descriptors.specs.frame_keeps.Leaving.{LeavesStructures}
use Rattle.law_microframes.specs.visits.Ranks.{name_of, next_of}

-- ---- the first word of a structure is its link

itd_told : (m : Mem) (a : ℕ) (v : Itd) → HoldsIsochronous m a v → link_of v.link ≡ link_read (word_at m a)
itd_told m a v h =
    itd_read-link (itd_words v) v (itd_read-words v h.range) ∙ ap (λ ws. link_read (slice_index ws 0)) (sym h.words) ∙ ap link_read (first_of_words m a 16 (omega arith))

sitd_told : (m : Mem) (a : ℕ) (v : Sitd) → HoldsSplitIsochronous m a v → link_of v.link ≡ link_read (word_at m a)
sitd_told m a v h =
    sitd_read-link (sitd_words v) v (sitd_read-words v h.range) ∙ ap (λ ws. link_read (slice_index ws 0)) (sym h.words) ∙ ap link_read (first_of_words m a 7 (omega arith))

-- ---- what is met leads to what is met

pub lead_met : (met : ℕ → Option Kind) (l : Link) (k : ℕ) → LeadsTo met l → name_of l ≡ Some k → (kind : Kind) × (met k ≡ Some kind)
lead_met met links.End k leads is = absurd (cc)
lead_met met (links.Itd a) k leads is = (AnItd, ap met (sym (same_Some a k is)) ∙ leads)
lead_met met (links.Qh a) k leads is = (AQueue, ap met (sym (same_Some a k is)) ∙ leads)
lead_met met (links.Sitd a) k leads is = (ASitd, ap met (sym (same_Some a k is)) ∙ leads)
lead_met met (links.Fstn a) k leads is = absurd leads

word_leads : (met : ℕ → Option Kind) (m : Mem) (parts : StructureSets) (n : ℕ) (kind : Kind) → Tells m parts → IsMetAs met n (parts n) kind → LeadsTo met (link_read (word_at m n))
word_leads met m parts n AQueue told is =
    subst (LeadsTo met) (queue_told m n is.part_is.queue (told.each n n (QueueHead is.part_is.queue) is.part_is.here)) is.link
word_leads met m parts n AnItd told is = subst (LeadsTo met) (itd_told m n is.itd (told.each n n (Isochronous is.itd) is.here)) is.link
word_leads met m parts n ASitd told is = subst (LeadsTo met) (sitd_told m n is.sitd (told.each n n (SplitIsochronous is.sitd) is.here)) is.link

pub next_met : (met : ℕ → Option Kind) (m : Mem) (parts : StructureSets) (n k : ℕ) (kind : Kind) → Tells m parts → AreMet met parts → met n ≡ Some kind → next_of m n ≡ Some k
    → (to : Kind) × (met k ≡ Some to)
next_met met m parts n k kind told members on is = lead_met met (link_read (word_at m n)) k (word_leads met m parts n kind told (members n kind on)) is

-- ---- an event of the controller writes no link of what is met

first_left : (m new : Mem) (n : ℕ) → word_at new (n + 4 * 0) ≡ word_at m (n + 4 * 0) → next_of new n ≡ next_of m n
first_left m new n same =
    let here : n + 4 * 0 ≡ n = omega arith in
    ap (λ (w : ℕ). name_of (link_read w)) (ap (word_at new) (sym here) ∙ same ∙ ap (word_at m) here)

left_as : (met : ℕ → Option Kind) (m new : Mem) (parts : StructureSets) (n : ℕ) (kind : Kind) → LeavesStructures parts m new → IsMetAs met n (parts n) kind → next_of new n ≡ next_of m n
left_as met m new parts n AQueue leaves is = first_left m new n (leaves.heads n n is.part_is.queue 0 is.part_is.here (omega arith))
left_as met m new parts n AnItd leaves is = first_left m new n (leaves.itds n n is.itd 0 is.here (inl (omega arith)))
left_as met m new parts n ASitd leaves is = first_left m new n (leaves.sitds n n is.sitd 0 is.here (inl (omega arith)))

pub next_stays : (met : ℕ → Option Kind) (m new : Mem) (parts : StructureSets) (n : ℕ) (kind : Kind) → LeavesStructures parts m new → AreMet met parts → met n ≡ Some kind
    → next_of new n ≡ next_of m n
next_stays met m new parts n kind leaves members on = left_as met m new parts n kind leaves (members n kind on)

-- ---- what a fetch reads

if_some : {A : Type 0} (b : Bool) (o : Option A) (v : A) → (if b then o else None) ≡ Some v → o ≡ Some v
if_some true o v e = e
if_some false o v e = absurd (cc)

from_ok : {A : Type 0} (r : Result A Bad) (v : A) → result_ok r ≡ Some v → r ≡ Ok v
from_ok (Ok x) v e = ap Ok (same_Some x v e)
from_ok (Err bad) v e = absurd (cc)

-- the structure at a was read, whose link is this
pub record IsReadAt (m : Mem) (cursor : Link) (a : ℕ) (link : Link) : Type 0 where
  pub name : name_of cursor ≡ Some a
  pub next : link ≡ link_read (word_at m a)

queue_row_is : (a b : ℕ) (p q : Qh) → chains.Queue a p ≡ chains.Queue b q → (a ≡ b) × (p ≡ q)
queue_row_is a b p q e = (cc, cc)

itd_row_is : (a b : ℕ) (p q : Itd) → chains.Itd a p ≡ chains.Itd b q → (a ≡ b) × (p ≡ q)
itd_row_is a b p q e = (cc, cc)

sitd_row_is : (a b : ℕ) (p q : Sitd) → chains.Sitd a p ≡ chains.Sitd b q → (a ≡ b) × (p ≡ q)
sitd_row_is a b p q e = (cc, cc)

queue_read_link : (m : Mem) (a : ℕ) (q : Qh) → queue_head_at_address m a ≡ Some q → link_of q.link ≡ link_read (word_at m a)
queue_read_link m a q is =
    qh_read-link (words_at m a 12) q (from_ok (qh_read (words_at m a 12)) q (if_some (reaches_queue_head m a) (result_ok (qh_read (words_at m a 12))) q is))
    ∙ ap link_read (first_of_words m a 12 (omega arith))

itd_read_link : (m : Mem) (a : ℕ) (v : Itd) → itd_at_address m a ≡ Some v → link_of v.link ≡ link_read (word_at m a)
itd_read_link m a v is =
    itd_read-link (words_at m a 16) v (from_ok (itd_read (words_at m a 16)) v (if_some _ (result_ok (itd_read (words_at m a 16))) v is))
    ∙ ap link_read (first_of_words m a 16 (omega arith))

sitd_read_link : (m : Mem) (a : ℕ) (v : Sitd) → sitd_at_address m a ≡ Some v → link_of v.link ≡ link_read (word_at m a)
sitd_read_link m a v is =
    sitd_read-link (words_at m a 7) v (from_ok (sitd_read (words_at m a 7)) v (if_some _ (result_ok (sitd_read (words_at m a 7))) v is))
    ∙ ap link_read (first_of_words m a 7 (omega arith))

queue_at : (m : Mem) (b a : ℕ) (q : Qh) (o : Option Qh) → queue_head_at_address m b ≡ o → queue_fetch b o ≡ chains.Queue a q → IsReadAt m (links.Qh b) a (link_of q.link)
queue_at m b a q None is row = absurd (cc)
queue_at m b a q (Some p) is row =
    let e = queue_row_is b a p q row in
    record { name = ap Some e.0; next = sym (ap (λ (x : Qh). link_of x.link) e.1) ∙ queue_read_link m b p is ∙ ap (λ (i : ℕ). link_read (word_at m i)) e.0 }

no_queue_itd : (m : Mem) (b a : ℕ) (q : Qh) (o : Option Itd) → itd_fetch b o ≡ chains.Queue a q → ⊥
no_queue_itd m b a q None row = cc
no_queue_itd m b a q (Some v) row = cc

no_queue_sitd : (m : Mem) (b a : ℕ) (q : Qh) (o : Option Sitd) → sitd_fetch b o ≡ chains.Queue a q → ⊥
no_queue_sitd m b a q None row = cc
no_queue_sitd m b a q (Some v) row = cc

pub queue_is_read : (m : Mem) (cursor : Link) (a : ℕ) (q : Qh) → chain_row m cursor ≡ chains.Queue a q → IsReadAt m cursor a (link_of q.link)
queue_is_read m (links.Itd b) a q row = absurd (no_queue_itd m b a q (itd_at_address m b) row)
queue_is_read m (links.Qh b) a q row = queue_at m b a q (queue_head_at_address m b) refl row
queue_is_read m (links.Sitd b) a q row = absurd (no_queue_sitd m b a q (sitd_at_address m b) row)
queue_is_read m _ a q row = absurd (cc)

itd_at : (m : Mem) (b a : ℕ) (v : Itd) (o : Option Itd) → itd_at_address m b ≡ o → itd_fetch b o ≡ chains.Itd a v → IsReadAt m (links.Itd b) a (link_of v.link)
itd_at m b a v None is row = absurd (cc)
itd_at m b a v (Some p) is row =
    let e = itd_row_is b a p v row in
    record { name = ap Some e.0; next = sym (ap (λ (x : Itd). link_of x.link) e.1) ∙ itd_read_link m b p is ∙ ap (λ (i : ℕ). link_read (word_at m i)) e.0 }

no_itd_queue : (m : Mem) (b a : ℕ) (v : Itd) (o : Option Qh) → queue_fetch b o ≡ chains.Itd a v → ⊥
no_itd_queue m b a v None row = cc
no_itd_queue m b a v (Some q) row = cc

no_itd_sitd : (m : Mem) (b a : ℕ) (v : Itd) (o : Option Sitd) → sitd_fetch b o ≡ chains.Itd a v → ⊥
no_itd_sitd m b a v None row = cc
no_itd_sitd m b a v (Some q) row = cc

pub itd_is_read : (m : Mem) (cursor : Link) (a : ℕ) (v : Itd) → chain_row m cursor ≡ chains.Itd a v → IsReadAt m cursor a (link_of v.link)
itd_is_read m (links.Itd b) a v row = itd_at m b a v (itd_at_address m b) refl row
itd_is_read m (links.Qh b) a v row = absurd (no_itd_queue m b a v (queue_head_at_address m b) row)
itd_is_read m (links.Sitd b) a v row = absurd (no_itd_sitd m b a v (sitd_at_address m b) row)
itd_is_read m _ a v row = absurd (cc)

sitd_at : (m : Mem) (b a : ℕ) (v : Sitd) (o : Option Sitd) → sitd_at_address m b ≡ o → sitd_fetch b o ≡ chains.Sitd a v → IsReadAt m (links.Sitd b) a (link_of v.link)
sitd_at m b a v None is row = absurd (cc)
sitd_at m b a v (Some p) is row =
    let e = sitd_row_is b a p v row in
    record { name = ap Some e.0; next = sym (ap (λ (x : Sitd). link_of x.link) e.1) ∙ sitd_read_link m b p is ∙ ap (λ (i : ℕ). link_read (word_at m i)) e.0 }

no_sitd_queue : (m : Mem) (b a : ℕ) (v : Sitd) (o : Option Qh) → queue_fetch b o ≡ chains.Sitd a v → ⊥
no_sitd_queue m b a v None row = cc
no_sitd_queue m b a v (Some q) row = cc

no_sitd_itd : (m : Mem) (b a : ℕ) (v : Sitd) (o : Option Itd) → itd_fetch b o ≡ chains.Sitd a v → ⊥
no_sitd_itd m b a v None row = cc
no_sitd_itd m b a v (Some q) row = cc

pub sitd_is_read : (m : Mem) (cursor : Link) (a : ℕ) (v : Sitd) → chain_row m cursor ≡ chains.Sitd a v → IsReadAt m cursor a (link_of v.link)
sitd_is_read m (links.Itd b) a v row = absurd (no_sitd_itd m b a v (itd_at_address m b) row)
sitd_is_read m (links.Qh b) a v row = absurd (no_sitd_queue m b a v (queue_head_at_address m b) row)
sitd_is_read m (links.Sitd b) a v row = sitd_at m b a v (sitd_at_address m b) refl row
sitd_is_read m _ a v row = absurd (cc)
