-- What stays of a sound part where it is altered.
use Rattle.std.proofs.Common.{◌≡◌, ℕ, Bool, true, false, if◌then◌else◌, Some, ap, sym, subst, ◌∙◌}
use Rattle.link_words.specs.declared.kinds.QtdLink.{QtdLink}
use Rattle.link_words.specs.declared.kinds.QtdLink.TheVariants as qtd_links
use Rattle.link_words.specs.Links.{qtd_link_of}
use Rattle.qh_qtd.specs.declared.qtd.Qtd.{Qtd}
use Rattle.qh_qtd.specs.declared.queue_head.Qh.{Qh}
use Rattle.qh_qtd.specs.declared.token.Token.{Token}
use Rattle.law_structures.specs.lent_structures.Structures.{QueueHead, Structures}
use Rattle.law_structures.specs.lent_structures.Sound.{LeadsOn, element_pages, buffer_name, HasBuffer, IsReady, IsSoundElement, IsSoundQueue, AreOwn, LeadsAmong, IsMember}
use Rattle.law_structures.specs.lent_structures.Alters.{IsAfter, Alters}

pub leads_still : (part now : Structures) (l : QtdLink) → Alters part now → LeadsOn part l → LeadsOn now l
leads_still part now qtd_links.End alters leads = tt
leads_still part now (qtd_links.To a) alters leads =
    let there = alters.element a leads.qtd leads.here in record { qtd = there.qtd; here = there.here }

-- whichever link is followed
pub pointer_leads : (part : Structures) (q : Qh) (b : Bool) → LeadsOn part (qtd_link_of q.next) → LeadsOn part (qtd_link_of q.alternate) → LeadsOn part (qtd_link_of (if b then q.alternate else q.next))
pointer_leads part q true next alternate = alternate
pointer_leads part q false next alternate = next

pub buffer_still : (part now : Structures) (t : Qtd) (n : ℕ) → Alters part now → HasBuffer part t n → HasBuffer now t n
buffer_still part now t n alters has =
    let there = alters.buffer (buffer_name t) (element_pages t) t.offset has.bytes has.here in
    record { bytes = there.bytes; here = there.here; size = there.size ∙ has.size }

pub ready_still : (part now : Structures) (t : Qtd) → Alters part now → IsReady part t → IsReady now t
ready_still part now t alters ready = record { goes_on = ready.goes_on; start = ready.start; buffer = λ some. buffer_still part now t t.token.total alters (ready.buffer some) }

-- an active qTD is as it was
pub still_active : (t u : Qtd) → IsAfter t u → u.token.active ≡ true → u ≡ t
still_active t u after on =
    after.is ∙ ap (λ (k : Token). record t { token = k }) (after.active (ap (λ (x : Qtd). x.token.active) (sym after.is) ∙ on))

pub element_still : (part now : Structures) (t u : Qtd) → Alters part now → IsAfter t u → IsSoundElement part t → IsSoundElement now u
element_still part now t u alters after sound = record {
  next = subst (λ (x : Qtd). LeadsOn now (qtd_link_of x.next)) (sym after.is) (leads_still part now (qtd_link_of t.next) alters sound.next);
  alternate = subst (λ (x : Qtd). LeadsOn now (qtd_link_of x.alternate)) (sym after.is) (leads_still part now (qtd_link_of t.alternate) alters sound.alternate);
  work = λ on.
      let same = still_active t u after on in
      subst (λ (x : Qtd). IsReady now x) (sym same) (ready_still part now t alters (sound.work (ap (λ (x : Qtd). x.token.active) (sym same) ∙ on)));
}

pub name_after : (t u : Qtd) → IsAfter t u → buffer_name u ≡ buffer_name t
name_after t u after = ap buffer_name after.is

own_still : (part now : Structures) → Alters part now → AreOwn part → AreOwn now
own_still part now alters own a b t u pages k bs one other same there =
    let first = alters.element_before a t one in
    let second = alters.element_before b u other in
    let name = name_after first.qtd t first.after in
    let buffer = alters.buffer_before (buffer_name t) pages k bs there in
    own a b first.qtd second.qtd pages k buffer.bytes first.here second.here (sym name ∙ same ∙ name_after second.qtd u second.after) (ap part (sym name) ∙ buffer.here)

pub an_altered_part_is_sound : (member : ℕ → Bool) (n : ℕ) (part now : Structures) (new : Qh) → IsMember member n part → Alters part now → now n ≡ Some (QueueHead new) → LeadsAmong member new.link → IsSoundQueue now new → IsMember member n now
an_altered_part_is_sound member n part now new old alters here link sound = record {
  queue = new;
  here = here;
  link = link;
  sound = sound;
  elements = λ a u there. let before = alters.element_before a u there in element_still part now before.qtd u alters before.after (old.elements a before.qtd before.here);
  own = own_still part now alters old.own;
}
