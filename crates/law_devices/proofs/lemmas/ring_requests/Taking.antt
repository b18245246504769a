-- The qTD of the stage that waits is taken, or after a request the SETUP of the one behind it.
use Rattle.std.proofs.Common.{◌≡◌, ℕ, ◌==◌, Bool, true, false, if◌then◌else◌, List, Option, Some, None, ap, refl, sym, subst, ◌∙◌}
use Rattle.std.proofs.lemmas.Bool.{false≢true}
use Rattle.link_words.specs.declared.kinds.QtdLink.TheVariants.{To}
use Rattle.link_words.specs.Links.{qtd_link_of}
use Rattle.qh_qtd.specs.declared.qtd.Qtd.{Qtd}
use Rattle.qh_qtd.specs.declared.queue_head.Qh.{Qh}
use Rattle.toggle_error.specs.declared.host.HostSide.{HostSide}
use Rattle.hc_host_side.specs.HostToken.{host_at}
use Rattle.law_structures.specs.lent_structures.Structures.{QueueHead, Element, Buffer, Structures, with_structure}
use Rattle.law_structures.proofs.lemmas.lent_structures.Names.{with_there}
use Rattle.law_structures.specs.lent_structures.Alters.{Alters}
use Rattle.law_structures.specs.lent_structures.Sound.{buffer_name}
use Rattle.law_structures.proofs.lemmas.lent_structures.Altering.{found_element, no_two, a_queue_head_alters_nothing}
use Rattle.hc_copy.specs.Overlay.{advanced}
use Rattle.hc_copy.specs.Planning.{host_in}
use Rattle.hc_copy.specs.Visits.{next_pointer}
use Rattle.claims_report.specs.Requests.{Request}
use Rattle.law_request.specs.Host.{Endpoint, Host, Stage, Setup, Data, Done, is_over, side_at, host_at as begun_at}
use Rattle.law_devices.specs.request_calls.Stages.{IsEndpoint}
use Rattle.law_devices.specs.ring_requests.Laid.{Places, place_at, IsUnpublished, IsIdle, IsLinkBehind, HasBytes, IsStage, IsFresh}
use Rattle.law_devices.specs.ring_requests.Shown.{pointer_at, AreFresh, Works, Waits, Ends, Shows}
use Rattle.law_devices.specs.ring_requests.Shown.Shows.{works, waits, ends, halts}
use Rattle.law_devices.specs.ring_requests.Windows.{is_done}
use Rattle.law_devices.proofs.lemmas.ring_requests.Stages.{comes_self, comes_later, to_same, stage_still, fresh_still}

-- what an advance leaves of a queue head
record IsTaken (q : Qh) (a : ℕ) (t : Qtd) (new : Qh) : Type 0 where
  active : new.token.active ≡ t.token.active
  current : new.current ≡ a
  pid : new.token.pid ≡ t.token.pid
  next : new.next ≡ t.next
  alternate : new.alternate ≡ t.alternate
  host : host_in new ≡ host_at (record t.token { toggle = if q.dtc then t.token.toggle else q.token.toggle; ping = if q.eps == 2 then q.token.ping else t.token.ping }) q.max

is_taken : (q : Qh) (a : ℕ) (t : Qtd) → IsTaken q a t (advanced q a t)
unfolding advanced
is_taken q a t = record { active = refl; current = refl; pid = refl; next = refl; alternate = refl; host = refl }

pub endpoint_taken : (e : Endpoint) (q : Qh) (a : ℕ) (t : Qtd) → IsEndpoint e q → IsEndpoint e (advanced q a t)
unfolding advanced
endpoint_taken e q a t is = record { toggles = is.toggles; address = is.address; number = is.number; packets = is.packets }

-- the host's side that the qTD brings
host_taken : (e : Endpoint) (q : Qh) (a : ℕ) (t : Qtd) → IsEndpoint e q → q.eps ≡ 2 → host_in (advanced q a t) ≡ host_at (record t.token { ping = q.token.ping }) e.max
host_taken e q a t is high =
    (is_taken q a t).host
    ∙ ap (λ (b : Bool). host_at (record t.token { toggle = if b then t.token.toggle else q.token.toggle; ping = if q.eps == 2 then q.token.ping else t.token.ping }) q.max) is.toggles
    ∙ ap (λ (n : ℕ). host_at (record t.token { ping = if n == 2 then q.token.ping else t.token.ping }) q.max) high
    ∙ ap (λ (m : ℕ). host_at (record t.token { ping = q.token.ping }) m) is.packets

-- ---- where only the queue head changes

module _ (part : Structures) (n : ℕ) (old new : Qh) (here : part n ≡ Some (QueueHead old)) where
  abbrev pub now : Structures
  now = with_structure part n (QueueHead new)

  pub put_alters : Alters part now
  put_alters = a_queue_head_alters_nothing part n old new here

  pub element_there : (a : ℕ) (t : Qtd) → part a ≡ Some (Element t) → now a ≡ Some (Element t)
  element_there a t there = with_there part n (QueueHead new) a (no_two part a n (Element t) (QueueHead old) there here (λ z. cc)) ∙ there

  pub buffer_there : (a : ℕ) (pages : List ℕ) (k : ℕ) (bs : List ℕ) → part a ≡ Some (Buffer pages k bs) → now a ≡ Some (Buffer pages k bs)
  buffer_there a pages k bs there = with_there part n (QueueHead new) a (no_two part a n (Buffer pages k bs) (QueueHead old) there here (λ z. cc)) ∙ there

  pub bytes_there : (r : Request) (s : Stage) (t : Qtd) → HasBytes r part s t → HasBytes r now s t
  bytes_there r Setup t has = buffer_there (buffer_name t) _ t.offset r.setup has
  bytes_there r Data t has = λ off. buffer_there (buffer_name t) _ t.offset r.bytes (has off)
  bytes_there r _ t has = tt

  pub fresh_there : (e : Endpoint) (r : Request) (x : Places) (s : Stage) → IsFresh e r x part s → IsFresh e r x now s
  fresh_there e r x s k = fresh_still e r x part now s k put_alters (element_there (place_at x s) k.stage.qtd k.stage.here) (bytes_there r s k.stage.qtd)

  abbrev pub stage_there : (e : Endpoint) (r : Request) (x : Places) (s : Stage) (k : IsStage e r x part s) → IsStage e r x now s
  stage_there e r x s k = stage_still e r x part now s k put_alters (element_there (place_at x s) k.qtd k.here) (bytes_there r s k.qtd)

  pub stage_there_qtd : (e : Endpoint) (r : Request) (x : Places) (s : Stage) (k : IsStage e r x part s) → (stage_there e r x s k).qtd ≡ k.qtd
  stage_there_qtd e r x s k = refl

-- ---- the qTD is taken

module _ (e : Endpoint) (r : Request) (x : Places) (part : Structures) (n : ℕ) (q : Qh) (h : Host) (here : part n ≡ Some (QueueHead q)) (is : IsEndpoint e q) (high : q.eps ≡ 2) (a : ℕ) (t : Qtd) (idle : q.token.active ≡ false) (goes_on : q.token.halted ≡ false) (leads : qtd_link_of (next_pointer q) ≡ To a) (there : part a ≡ Some (Element t)) (published : t.token.active ≡ true) where
  abbrev new : Qh
  new = advanced q a t

  pub taken_works : (w : Waits e r x part (host_in q) q h) → Works e r x (with_structure part n (QueueHead (advanced q a t))) (host_in (advanced q a t)) (advanced q a t) h
  taken_works w =
      let f : IsFresh e r x part h.stage = w.fresh h.stage (comes_self r h.stage w.goes_on) in
      let place : a ≡ place_at x h.stage = to_same a (place_at x h.stage) (sym leads ∙ w.leads) in
      let same : t ≡ f.stage.qtd = found_element (part a) t f.stage.qtd there (ap part place ∙ f.stage.here) in
      let v = is_taken q a t in
      let k : IsStage e r x (with_structure part n (QueueHead new)) h.stage = stage_there part n q new here e r x h.stage f.stage in
      let qtd : t ≡ k.qtd = same ∙ sym (stage_there_qtd part n q new here e r x h.stage f.stage) in
      record {
        goes_on = w.goes_on;
        active = v.active ∙ published;
        side_is = host_taken e q a t is high ∙ ap (λ (u : Qtd). host_at (record u.token { ping = q.token.ping }) e.max) same ∙ f.begins q.token.ping ∙ sym w.side_is;
        current = v.current ∙ place;
        stage = k;
        pid = v.pid ∙ ap (λ (u : Qtd). u.token.pid) qtd;
        next = v.next ∙ ap (λ (u : Qtd). u.next) qtd;
        alternate = v.alternate ∙ ap (λ (u : Qtd). u.alternate) qtd;
        later = λ s on. fresh_there part n q new here e r x s (w.fresh s (comes_later r h.stage s w.goes_on on));
      }

  pub taken_shows : is_done h.stage ≡ false → Shows e r x part (host_in q) q h → Works e r x (with_structure part n (QueueHead (advanced q a t))) (host_in (advanced q a t)) (advanced q a t) h
  taken_shows going (works w) = absurd (false≢true (sym idle ∙ w.active))
  taken_shows going (waits w) = taken_works w
  taken_shows going (ends w) = absurd (false≢true (sym going ∙ ap is_done w.done))
  taken_shows going (halts w) = absurd (false≢true (sym goes_on ∙ w.halted))

-- nothing is behind the request but the tail
pub none_more : (x : Places) (part : Structures) (q : Qh) (h : Host) (a : ℕ) (t : Qtd) → qtd_link_of (next_pointer q) ≡ To a
    → part a ≡ Some (Element t) → t.token.active ≡ true → Ends x part (host_in q) q h → ((b : ℕ) → x.behind ≡ Some b → IsIdle part b) → ⊥
none_more x part q h a t leads there published w tail = by x.behind refl
  where
    by : (o : Option ℕ) → x.behind ≡ o → ⊥
    by None is =
        let nots : IsUnpublished part (next_pointer q) = subst (λ (o : Option ℕ). IsLinkBehind part o (next_pointer q)) is w.behind in
        false≢true (sym (nots a t leads there) ∙ published)
    by (Some b) is =
        let to : qtd_link_of (next_pointer q) ≡ To b = subst (λ (o : Option ℕ). IsLinkBehind part o (next_pointer q)) is w.behind in
        let k : IsIdle part b = tail b is in
        let same : t ≡ k.qtd = found_element (part a) t k.qtd there (ap part (to_same a b (sym leads ∙ to)) ∙ k.here) in
        false≢true (sym k.idle ∙ ap (λ (u : Qtd). u.token.active) (sym same) ∙ published)

-- ---- a request is done

done_going : (s : Stage) → is_done s ≡ true → is_over s ≡ false → ⊥
done_going Done done going = false≢true (sym going)
done_going _ done going = false≢true done

pub done_is : (s : Stage) → is_done s ≡ true → s ≡ Done
done_is Done done = refl
done_is _ done = absurd (false≢true done)

pub ends_only : (e : Endpoint) (r : Request) (x : Places) (part : Structures) (side : HostSide) (q : Qh) (h : Host) → is_done h.stage ≡ true → Shows e r x part side q h → Ends x part side q h
ends_only e r x part side q h done (works w) = absurd (done_going h.stage done w.goes_on)
ends_only e r x part side q h done (waits w) = absurd (done_going h.stage done w.goes_on)
ends_only e r x part side q h done (ends w) = w
ends_only e r x part side q h done (halts w) = absurd (false≢true (ap is_done (sym w.ended) ∙ done))

-- the request behind it waits
pub next_waits : (e : Endpoint) (x : Places) (part : Structures) (q : Qh) (h : Host) (next : Request) (y : Places) → q.token.active ≡ false → x.behind ≡ Some y.setup → Ends x part (host_in q) q h → AreFresh e next y part Setup
    → Waits e next y part (host_in q) q (begun_at next e.max h.side.ping)
next_waits e x part q h next y idle behind w fresh = record {
  goes_on = refl;
  idle = w.idle;
  side_is = ap (λ (b : Bool). side_at next e.max b Setup) (sym w.ping);
  leads = subst (λ (o : Option ℕ). IsLinkBehind part o (pointer_at q.token.total q)) behind w.behind;
  fresh = fresh;
  beside = λ on. absurd (false≢true (sym idle ∙ on));
}
