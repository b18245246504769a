-- What a transaction leaves of a request whose stage a queue head works on.
use Rattle.std.proofs.Common.{◌≡◌, ◌≢◌, ℕ, Bool, true, false, if◌then◌else◌, List, [], ◌++◌, Some, ap, refl, sym, subst, ◌∙◌}
use Rattle.std.proofs.lemmas.Bool.{false≢true}
use Rattle.law_devices.proofs.Common.{status_comes}
use Rattle.law_common.proofs.Lists.{nothing_more}
use Rattle.link_words.specs.declared.kinds.QtdLink.TheVariants.{To}
use Rattle.link_words.specs.Links.{qtd_link_of}
use Rattle.qh_qtd.specs.declared.qtd.Qtd.{Qtd}
use Rattle.qh_qtd.specs.declared.queue_head.Qh.{Qh}
use Rattle.toggle_error.specs.declared.host.HostSide.{HostSide}
use Rattle.toggle_error.specs.declared.host.Outcome.{Outcome}
use Rattle.toggle_error.specs.declared.host.Outcome.TheVariants as outcomes
use Rattle.law_structures.specs.lent_structures.Structures.{Element, Structures}
use Rattle.hc_copy.specs.Planning.{host_in}
use Rattle.law_structures.specs.lent_structures.Settles.{is_moved}
use Rattle.law_structures.proofs.lemmas.lent_structures.Altering.{found_element}
use Rattle.claims_report.specs.Requests.{Request}
use Rattle.law_request.specs.Host.{Endpoint, Host, Stage, Setup, Data, Status, has_data, is_over, side_at, next_stage, host_in as begun, moved_at, goes_on, settled_by}
use Rattle.law_devices.specs.ring_requests.Laid.{Places, place_at, AreApart, comes, IsStage, IsFresh}
use Rattle.law_devices.specs.ring_requests.Shown.{pointer_at, AreFresh, IsPending, Works, Shows}
use Rattle.law_devices.specs.ring_requests.Shown.Shows.{works, waits, ends, halts}
use Rattle.law_devices.proofs.lemmas.ring_requests.Stages.{next_apart, pointer_to, pointer_behind}
use Rattle.law_devices.proofs.lemmas.ring_requests.Outcomes.{LeavesActive}

pub fresh_pending : (e : Endpoint) (r : Request) (x : Places) (part : Structures) (s : Stage) → IsFresh e r x part s → IsPending part (place_at x s)
fresh_pending e r x part s f = record { qtd = f.stage.qtd; here = f.stage.here; published = ap (λ (h : HostSide). h.active) (f.begins true) ∙ begun_active s }
  where
    begun_active : (t : Stage) → (side_at r e.max true t).active ≡ true
    begun_active Setup = refl
    begun_active Data = refl
    begun_active _ = refl

going_next : (b : Bool) → is_over (if b then Data else Status) ≡ false
going_next true = refl
going_next false = refl

module _ (e : Endpoint) (r : Request) (x : Places) (apart : AreApart x) (part : Structures) (q : Qh) (h : Host) (w : Works e r x part (host_in q) q h) (after : HostSide) (packets : after.max ≡ e.max) (published : IsPending part q.current) where
  -- the qTD goes on
  stays : after.active ≡ true → (moved : List ℕ) → Shows e r x part after q (record { stage = h.stage; side = after; moved = moved })
  stays on moved = works (record {
    goes_on = w.goes_on;
    active = on;
    side_is = refl;
    current = w.current;
    stage = w.stage;
    pid = w.pid;
    next = w.next;
    alternate = w.alternate;
    later = w.later;
  })

  -- the next stage waits
  next_waits : (n : Stage) → is_over n ≡ false → after.active ≡ false → qtd_link_of (pointer_at after.left q) ≡ To (place_at x n) → AreFresh e r x part n → ((t : Stage) → comes r n t ≡ true → place_at x t ≢ place_at x h.stage) → (moved : List ℕ)
      → Shows e r x part after q (begun r after.max after.ping n moved)
  next_waits n going idle leads fresh beside moved = waits (record {
    goes_on = going;
    idle = idle;
    side_is = ap (λ (m : ℕ). side_at r m after.ping n) packets;
    leads = leads;
    fresh = fresh;
    beside = λ on t comes_on same. beside t comes_on (same ∙ w.current);
  })

  -- the qTD of this stage has ended
  ended : (s : Stage) (k : IsStage e r x part s) → is_over s ≡ false → q.next ≡ k.qtd.next → q.alternate ≡ k.qtd.alternate → AreFresh e r x part (next_stage r s) → place_at x s ≡ place_at x h.stage → after.active ≡ false → (moved : List ℕ)
      → Shows e r x part after q (begun r after.max after.ping (next_stage r s) moved)
  ended Setup k going next alternate fresh same idle moved =
      next_waits (next_stage r Setup) (going_next (has_data r)) idle (pointer_to q k.qtd after.left (place_at x (next_stage r Setup)) next alternate k.leads) fresh (λ t on is. next_apart r x apart Setup t refl on (is ∙ sym same)) moved
  ended Data k going next alternate fresh same idle moved =
      next_waits Status refl idle (pointer_to q k.qtd after.left x.status next alternate k.leads) fresh (λ t on is. next_apart r x apart Data t refl on (is ∙ sym same)) moved
  ended Status k going next alternate fresh same idle moved = ends (record { done = refl; idle = idle; ping = refl; behind = pointer_behind part x.behind q k.qtd after.left next alternate k.leads; worked = λ on. w.current ∙ sym same })
  ended _ k going next alternate fresh same idle moved = absurd (false≢true (sym going))

  moves_on : (b : Bool) → after.active ≡ b → (moved : List ℕ) → Shows e r x part after q (goes_on r b after moved h)
  moves_on true on moved = stays on moved
  moves_on false off moved = ended h.stage w.stage w.goes_on w.next w.alternate w.later refl off moved

  -- the status is still to come
  still_pending : (s : Stage) → h.stage ≡ s → is_over s ≡ false → IsPending part x.status
  still_pending Status is going = subst (IsPending part) (w.current ∙ ap (place_at x) is) published
  still_pending Setup is going = fresh_pending e r x part Status (w.later Status (ap (λ (s : Stage). comes r (next_stage r s) Status) is ∙ status_comes r (has_data r)))
  still_pending Data is going = fresh_pending e r x part Status (w.later Status (ap (λ (s : Stage). comes r (next_stage r s) Status) is))
  still_pending _ is going = absurd (false≢true (sym going))

  not_ended : (o : Structures) → IsPending o x.status → (t : Qtd) → o x.status ≡ Some (Element t) → t.token.active ≡ false → t.token.halted ≡ true
  not_ended o pending t here off = absurd (false≢true (sym off ∙ ap (λ (u : Qtd). u.token.active) (found_element (o x.status) t pending.qtd here pending.here) ∙ pending.published))

  pub shows_after : (o : Outcome) (got : List ℕ) → LeavesActive o (host_in q) after → Shows e r x part after q (settled_by r o after got h)
  shows_after (outcomes.Moved n) got leaves = moves_on after.active refl (moved_at h.stage h.moved got)
  shows_after (outcomes.Halt cause) got leaves = halts (record { cause = cause; ended = refl; idle = leaves.0; halted = leaves.1; pending = λ on. still_pending h.stage refl w.goes_on; status = not_ended part (still_pending h.stage refl w.goes_on) })
  shows_after _ got leaves = stays (leaves ∙ w.active) h.moved

-- ---- what was moved

goes_moved : (r : Request) (b : Bool) (side : HostSide) (moved : List ℕ) (h : Host) → (goes_on r b side moved h).moved ≡ moved
goes_moved r true side moved h = refl
goes_moved r false side moved h = refl

pub moved_in_data : (r : Request) (o : Outcome) (side : HostSide) (got : List ℕ) (h : Host) → h.stage ≡ Data → (is_moved o ≡ false → got ≡ []) → (settled_by r o side got h).moved ≡ h.moved ++ got
moved_in_data r (outcomes.Moved n) side got h is none = goes_moved r side.active side (moved_at h.stage h.moved got) h ∙ ap (λ (s : Stage). moved_at s h.moved got) is
moved_in_data r _ side got h is none = nothing_more h.moved got (none refl)

moved_else : (s : Stage) (moved got : List ℕ) → s ≢ Data → moved_at s moved got ≡ moved
moved_else Data moved got other = absurd (other refl)
moved_else _ moved got other = refl

pub moved_beside : (r : Request) (o : Outcome) (side : HostSide) (got : List ℕ) (h : Host) → h.stage ≢ Data → (settled_by r o side got h).moved ≡ h.moved
moved_beside r (outcomes.Moved n) side got h other = goes_moved r side.active side (moved_at h.stage h.moved got) h ∙ moved_else h.stage h.moved got other
moved_beside r _ side got h other = refl
