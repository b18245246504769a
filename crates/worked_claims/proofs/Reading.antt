-- Which words and which drivers tell ring and frame list, and which don't.
use Rattle.std.proofs.Common.{◌≡◌, ℕ, zero, suc, ◌+◌, ◌-◌, ◌*◌, ◌/◌, ◌<◌, ◌≤◌, Bool, false, List, [], ◌∷◌, ◌++◌, length, get_or, replicate}
use Rattle.std.proofs.Common.{slice_get, Some, ap, refl, sym, subst, ◌∙◌, arith}
use Rattle.std.proofs.lemmas.Bool.{false≢true}
use Rattle.std.proofs.lemmas.List.{get_or_append_left, get_or-append_right, get_or-replicate, length-replicate}
use Rattle.std.proofs.lemmas.Option.{same_Some}
use Rattle.usb_base.specs.declared.packets.EpKind.TheVariants as kinds
use Rattle.word_mem.specs.Memory.{Mem, word_at}
use Rattle.qh_qtd.specs.QueueHead.{qh_words}
use Rattle.drv_chains.specs.declared.members.Predecessor.TheVariants.{Element}
use Rattle.drv_chains.specs.Chains.{of_lists, chain}
use Rattle.drv_members.specs.Members.{IsKept, IsRising}
use Rattle.drv_periodic_table.specs.Periodic.{is_periodic}
use Rattle.drv_table.specs.declared.content.Endpoint.{Endpoint}
use Rattle.drv_table.specs.DriverContent.{DriverContent}
use Rattle.drv_table.specs.Offers.{new_endpoint}
use Rattle.claims_driver.specs.FrameWords.{Leads}
use Rattle.claims_driver.specs.InPlace.{IsFixed, characteristics, capabilities}
use Rattle.claims_driver.specs.Walk.{IsReached, at_head, at_member, at_waiting, at_rung}
use Rattle.worked_claims.specs.Structures.{disk, opened, of_kind, microphone, descriptor_of, ring_words, told, over}
use Rattle.worked_claims.specs.Structures.{RingIsRead, ListIsRead, WordsAreItsOwn}
use Rattle.worked_claims.specs.Structures.{UnlinkedBreaks, OutBreaks, StrayBreaks, OutOfFramesBreaks, UnlistedBreaks, OtherDeviceBreaks}
use Rattle.worked_claims.specs.Structures.{StrayCursorBreaks, ErrorBreaks}

-- ---- words and endpoints

behind_list : (ws : List ℕ) (i : ℕ) → 1024 ≤ i → get_or (replicate 1024 1 ++ ws) i 0 ≡ get_or ws (i - 1024) 0
behind_list ws i far = get_or-append_right (replicate 1024 1) ws 1024 i 0 (length-replicate {A = ℕ} 1024 1) far

in_list : (f : ℕ) → f < 1024 → get_or told ((32 * 0 + 4 * f) / 4) 0 ≡ 1
in_list f low =
    let spot : (32 * 0 + 4 * f) / 4 ≡ f = omega arith in
    let ones : List ℕ = replicate 1024 1 in
    let within : f < length ones = subst (λ n. f < n) (sym (length-replicate {A = ℕ} 1024 1)) low in
    ap (λ (i : ℕ). get_or told i 0) spot ∙ get_or_append_left (replicate 1024 1) ring_words 0 f within ∙ get_or-replicate 1024 f 1 0 low

alone : (y : Endpoint) (e : ℕ) (x : Endpoint) → slice_get (y ∷ []) e ≡ Some x → x ≡ y
alone y zero x here = sym (same_Some y x here)
alone y (suc e) x here = absurd (cc)

-- ---- they are told

pub ring_is_read : RingIsRead
unfolding qh_words
ring_is_read m d = record {
  all = λ e x here off fresh. ap (λ (z : Endpoint). z.linked) (alone (new_endpoint disk 130 132) e x here);
  chain = (behind_list ring_words 1024 (omega arith), behind_list ring_words 1040 (omega arith));
  once = ((λ (same : 128 ≡ 130). omega (arith, same), tt), (tt, tt));
}

none_kept : IsKept (of_lists [] [])
unfolding IsRising
none_kept = record { ranked = tt; queues = tt; framed = tt; frames = tt; named = λ id. omega arith }

ends_at_once : (m : Mem) (f : ℕ) → f < 1024 → Leads 0 (word_at (over m told)) (Element f) (chain (of_lists [] []) f)
unfolding Leads
ends_at_once m f low = in_list f low

pub list_is_read : ListIsRead
list_is_read m d = record {
  begins = refl;
  all = λ e x here on fresh.
      absurd (false≢true (sym (ap (λ (z : Endpoint). is_periodic z.desc.kind) (alone (new_endpoint disk 130 132) e x here)) ∙ on));
  waiting = λ t x y idle there. absurd (cc);
  words = record { order = record { kept = none_kept; member = tt }; words = ends_at_once m };
}

queue_head_fixed : (m : Mem) → IsFixed (over m told) 130 (characteristics disk) (capabilities disk)
unfolding qh_words
queue_head_fixed m = record {
  characteristics = behind_list ring_words 1041 (omega arith);
  capabilities = behind_list ring_words 1042 (omega arith);
}

pub words_are_its_own : WordsAreItsOwn
unfolding qh_words
words_are_its_own m d = record {
  each = λ e x here met.
      subst (λ (z : Endpoint). IsFixed (over m told) z.queue (characteristics z.desc) (capabilities z.desc))
      (sym (alone (new_endpoint disk 130 132) e x here)) (queue_head_fixed m);
  head = record { characteristics = behind_list ring_words 1025 (omega arith); capabilities = behind_list ring_words 1026 (omega arith) };
}

-- ---- they aren't

pub unlinked_breaks : UnlinkedBreaks
unlinked_breaks = λ m d k.
    let is : get_or (replicate 1024 1 ++ 4098 ∷ []) 1024 0 ≡ 4098 = behind_list (4098 ∷ []) 1024 (omega arith) in
    let other : 4098 ≡ 4162 = sym is ∙ k.chain.0 in
    omega (arith, other)

pub out_breaks : OutBreaks
out_breaks = λ m d k. false≢true (k.all 0 (record (new_endpoint disk 130 132) { linked = false }) refl refl refl)

pub stray_breaks : StrayBreaks
unfolding Leads
stray_breaks = λ m d k. let is : 4162 ≡ 1 = k.words.words 0 (omega arith) in omega (arith, is)

pub out_of_frames_breaks : OutOfFramesBreaks
out_of_frames_breaks = λ m d k. false≢true (k.all 0 (of_kind kinds.Interrupt) refl refl refl)

pub unlisted_breaks : UnlistedBreaks
unlisted_breaks = λ m d y k. false≢true (k.waiting 0 microphone (descriptor_of y) refl refl refl refl refl refl)

-- ---- queue heads, the walk, the controller

pub other_device_breaks : OtherDeviceBreaks
unfolding qh_words
other_device_breaks = λ m d k. let is = k.head.characteristics in cc is

stray : (d : DriverContent) (rings : Bool) (b : ℕ) → IsReached (opened d) rings b → b ≡ 200 → ⊥
stray d rings b (at_head is) far = omega (arith, is, far)
stray d rings b (at_member e at on) far =
    let queue : 130 ≡ b = ap (λ (z : Endpoint). z.queue) (sym (alone (new_endpoint disk 130 132) e at.endpoint at.here)) ∙ at.queue in
    omega (arith, queue, far)
stray d rings b (at_waiting e place among) far = elim among [ ]
stray d rings b (at_rung e place among on) far = elim among [ ]

pub stray_cursor_breaks : StrayCursorBreaks
stray_cursor_breaks = λ w k.
    let leads = k.walk.cursor in
    let far : 6400 ≡ 32 * leads.block = cc leads.is in
    stray w.driver w.registers.doorbell leads.block leads.reached (omega (arith, far))

pub error_breaks : ErrorBreaks
error_breaks = λ fixed w k. cc k.no_error
