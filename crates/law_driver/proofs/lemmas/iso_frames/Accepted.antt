-- Each accepted command leaves the descriptors in step.
use Rattle.std.proofs.Common.{◌≡◌, ◌≢◌, ℕ, zero, suc, ◌+◌, ◌-◌, ◌*◌, ◌%◌, ◌<◌, ◌≤◌, ◌&&◌, not, Bool, true, false, cond, List, [], ◌∷◌, ◌++◌, length, map, set, take, drop, get_or, slice_get, Option, Some, None, Ok, refl, ap, sym, subst, ◌∙◌, ⊎_elim, arith, inr, length-append}
use Rattle.std.specs.Prelude.{option_and_then, unwrap_or, count_by}
use Rattle.std.specs.List.{AllByRecursion}
use Rattle.std.proofs.lemmas.Bool.{false≢true, cases_eq, cases_lt}
use Rattle.std.proofs.lemmas.List.{get_or-set_other, get_or-drop}
use Rattle.std.proofs.lemmas.Option.{same_Some}
use Rattle.std.proofs.Math.Nat.{mul-le-mul_right}
use Rattle.law_driver.proofs.Common.{last_pushed, newest_get, not_list}
use Rattle.law_common.proofs.Lists.{append_none, drop_first, set_here}
use Rattle.usb_base.specs.declared.endpoints.EpDesc.{EpDesc}
use Rattle.usb_base.specs.declared.commands.Cmd.{Cmd}
use Rattle.word_mem.specs.Memory.{Mem}
use Rattle.bandwidth.specs.declared.placements.Placement.{Placement}
use Rattle.bandwidth.specs.Placements.{frame_period}
use Rattle.bandwidth.specs.Sums.{is_active}
use Rattle.mem_runs.specs.Book.{Book, Holding, holding, Stands, slot_of}
use Rattle.drv_periodic_table.specs.declared.content.DescriptorNote.{DescriptorNote}
use Rattle.drv_periodic_table.specs.Periodic.{no_descriptor, note_at}
use Rattle.drv_table.specs.declared.content.Endpoint.{Endpoint}
use Rattle.drv_table.specs.declared.content.Transfer.{Transfer}
use Rattle.drv_table.specs.declared.content.Slots.{Slots}
use Rattle.drv_table.specs.declared.content.Command.{Command}
use Rattle.drv_table.specs.declared.content.Command.TheVariants as unfinished
use Rattle.drv_table.specs.DriverContent.{DriverContent, waits_for}
use Rattle.drv_table.specs.Accepting.{Offered, new_runs, first_waiting}
use Rattle.drv_table.specs.Offers.{offered, new_endpoint, placed_endpoint, with_queued, new_transfer}
use Rattle.drv_table.specs.IsoOffers.{total_of, slot_runs, iso_needs, descriptor_note, descriptor_transfer, one_descriptor, all_descriptors, Descriptors, entered_iso}
use Rattle.drv_table.specs.CancelOffers.{first_end, with_cancel, endpoint_members, accepted_unchain}
use Rattle.drv_members.proofs.Splits.{one_if, count_first}
use Rattle.claims_driver.specs.Owners.{Described, HasRun, is_descriptor}
use Rattle.claims_driver.specs.Leaving.{IsOrderly, HasOwners}
use Rattle.law_driver.specs.run_owners.Accepts.{Accepts, opens, chains, places, transfers, describes, cancels, unchains, Transfers, Describes, Cancels, Unchains}
use Rattle.law_driver.proofs.lemmas.run_owners.Commands.{each_command_has_its_reason}
use Rattle.law_driver.proofs.lemmas.run_owners.Ordered.{pushed_below}
use Rattle.law_driver.proofs.lemmas.run_owners.Runs.{placed_run}
use Rattle.law_driver.proofs.lemmas.run_owners.Taking.{runs_taken}
use Rattle.claims_driver.specs.FrameListMembers.{Framed, framed_in, is_chained, Placed, placed_of, placed_in}
use Rattle.law_driver.proofs.lemmas.listed_members.Standing.{descriptor_placed}
use Rattle.law_driver.proofs.lemmas.listed_members.Stays.{SameEndpoints, all_transfers, endpoint_set, placed_by}
use Rattle.law_driver.proofs.lemmas.listed_members.Opening.{framed_pushed, framed_within}
use Rattle.law_driver.proofs.lemmas.listed_members.Accepted.{off_new}
use Rattle.law_driver.proofs.lemmas.listed_members.Rooms.{descriptors_many}
use Rattle.law_driver.specs.iso_frames.Steps.{AreInStep}
use Rattle.law_driver.specs.iso_frames.Frames.{mark, before, waiting_from, waiting_of, frame_in, frames_of, next_in, next_of, IsStepped, AreStepped}
use Rattle.claims_driver.specs.DueMembers.{framed_to}
use Rattle.law_driver.proofs.lemmas.iso_frames.Steps.{span_counts}
use Rattle.law_driver.proofs.lemmas.iso_frames.Waiting.{same_waiting, none_waiting, more_waiting, marked}
use Rattle.law_driver.proofs.lemmas.iso_frames.Kept.{stays_all, same_stays, next_set, next_other, other_marked, begun_notes, or_stays}
use Rattle.law_driver.proofs.lemmas.iso_frames.Harvested.{waits_not, iso_of}
use Rattle.law_driver.proofs.lemmas.iso_frames.Framing.{same_frames}
use Rattle.law_driver.proofs.lemmas.iso_frames.Spans.{IsSpanned, spans}
use Rattle.law_driver.proofs.lemmas.iso_frames.Places.{IsWell}

-- ---- transfers are added, of which none waits for the endpoint

record IsMore (d g : DriverContent) (e k j : ℕ) : Type 0 where
  many : length g.transfers ≡ length d.transfers + k
  marks : (t : ℕ) → t < length d.transfers → mark e (placed_in g.endpoints g.transfers t) ≡ mark e (placed_in d.endpoints d.transfers t)
  frames : (t b : ℕ) → t < length d.transfers → mark e (placed_in d.endpoints d.transfers t) ≡ Some b → frame_in g.periodic.notes b ≡ frame_in d.periodic.notes b
  cut_before : framed_to d.command d.made (length d.transfers) ≡ length d.transfers
  cut : framed_to g.command g.made (length g.transfers) ≡ length d.transfers + j

old_waiting : (d g : DriverContent) (e k j : ℕ) → IsMore d g e k j → waiting_from (placed_in g.endpoints g.transfers) e 0 (length d.transfers) ≡ waiting_of d e
old_waiting d g e k j m = same_waiting (placed_in d.endpoints d.transfers) (placed_in g.endpoints g.transfers) e 0 (length d.transfers) (λ t low high. m.marks t (omega (arith, high)))

old_frames : (d g : DriverContent) (e k j : ℕ) → IsMore d g e k j → map (frame_in g.periodic.notes) (waiting_from (placed_in g.endpoints g.transfers) e 0 (length d.transfers)) ≡ frames_of d e
old_frames d g e k j m =
    ap (map (frame_in g.periodic.notes)) (old_waiting d g e k j m)
    ∙ same_frames (placed_in d.endpoints d.transfers) (frame_in d.periodic.notes) (frame_in g.periodic.notes) e 0 (length d.transfers) (λ t b low high is. m.frames t b (omega (arith, high)) is)
    ∙ ap (λ n. map (frame_in d.periodic.notes) (waiting_from (placed_in d.endpoints d.transfers) e 0 n)) (sym m.cut_before)

more_none : (d g : DriverContent) (e n : ℕ) → ((t : ℕ) → length d.transfers ≤ t → t < length d.transfers + n → mark e (placed_in g.endpoints g.transfers t) ≡ None)
    → waiting_from (placed_in g.endpoints g.transfers) e 0 (length d.transfers + n) ≡ waiting_from (placed_in g.endpoints g.transfers) e 0 (length d.transfers)
more_none d g e n none =
    more_waiting (placed_in g.endpoints g.transfers) e 0 (length d.transfers) n
    ∙ ap (λ bs. waiting_from (placed_in g.endpoints g.transfers) e 0 (length d.transfers) ++ bs)
    (none_waiting (placed_in g.endpoints g.transfers) e (0 + length d.transfers) n (λ t low high. none t (omega (arith, low)) (omega (arith, high))))
    ∙ append_none (waiting_from (placed_in g.endpoints g.transfers) e 0 (length d.transfers))

more_stepped : (d g : DriverContent) (e k j : ℕ) (p : Placement) → IsMore d g e k j → j ≤ k → next_in g.endpoints e ≡ next_in d.endpoints e
    → ((t : ℕ) → length d.transfers ≤ t → t < length d.transfers + k → mark e (placed_in g.endpoints g.transfers t) ≡ None) → IsStepped d e p → IsStepped g e p
more_stepped d g e k j p m few next none h = record {
  steps = subst (AreInStep p) (sym frames) h.steps;
  active = subst (AllByRecursion (λ f. is_active p f ≡ true)) (sym frames) h.active;
  few = subst (λ (bs : List ℕ). length bs * frame_period p.period ≤ 1024) (sym all) h.few;
  bound = by_bound (next_in d.endpoints e) refl h.bound;
  next = λ u low. by_next (next_in d.endpoints e) refl u h.bound h.next low;
}
  where
    all : waiting_of g e ≡ waiting_of d e
    all = ap (waiting_from (placed_in g.endpoints g.transfers) e 0) m.many ∙ more_none d g e k none ∙ old_waiting d g e k j m

    frames : frames_of g e ≡ frames_of d e
    frames =
        ap (λ n. map (frame_in g.periodic.notes) (waiting_from (placed_in g.endpoints g.transfers) e 0 n)) m.cut
        ∙ ap (map (frame_in g.periodic.notes)) (more_none d g e j (λ t low high. none t low (omega (arith, high, few))))
        ∙ old_frames d g e k j m

    next_is : (o : Option ℕ) → next_in d.endpoints e ≡ o → next_of g e ≡ unwrap_or o (length g.transfers)
    next_is o is = ap (λ q. unwrap_or q (length g.transfers)) (next ∙ is)

    was : (o : Option ℕ) → next_in d.endpoints e ≡ o → next_of d e ≡ unwrap_or o (length d.transfers)
    was o is = ap (λ q. unwrap_or q (length d.transfers)) is

    by_bound : (o : Option ℕ) → next_in d.endpoints e ≡ o → next_of d e ≤ length d.transfers → next_of g e ≤ length g.transfers
    by_bound None is low = let a = next_is None is in omega (arith, a)
    by_bound (Some t) is low = let a = next_is (Some t) is in let b = was (Some t) is in let n = m.many in omega (arith, a, b, n, low)

    by_next : (o : Option ℕ) → next_in d.endpoints e ≡ o → (u : ℕ) → next_of d e ≤ length d.transfers → ((v : ℕ) → v < next_of d e → mark e (placed_in d.endpoints d.transfers v) ≡ None) → u < next_of g e → mark e (placed_in g.endpoints g.transfers u) ≡ None
    by_next (Some t) is u bound each low =
        let a = next_is (Some t) is in
        let b = was (Some t) is in
        m.marks u (omega (arith, a, b, low, bound)) ∙ each u (omega (arith, a, b, low))
    by_next None is u bound each low =
        let a = next_is None is in
        let b = was None is in
        let n = m.many in
        ⊎_elim (λ (old : u < length d.transfers). m.marks u old ∙ each u (omega (arith, b, old)))
        (λ (new : length d.transfers ≤ u). none u new (omega (arith, a, n, low))) (cases_lt u (length d.transfers))

-- ---- an endpoint is opened

within_same : (xs : List Endpoint) (y : Endpoint) (ts : List Transfer) → ((t : ℕ) (z : Transfer) → slice_get ts t ≡ Some z → z.endpoint < length xs) → (t : ℕ) → placed_in (xs ++ y ∷ []) ts t ≡ placed_in xs ts t
within_same xs y ts within t = at (slice_get ts t) refl
  where
    at : (o : Option Transfer) → slice_get ts t ≡ o → option_and_then (placed_of (xs ++ y ∷ [])) o ≡ option_and_then (placed_of xs) o
    at None there = refl
    at (Some z) there =
        ap (λ (f : Option Framed). mark_of z f) (framed_pushed xs y z.endpoint (within t z there))
      where
        mark_of : Transfer → Option Framed → Option Placed
        mark_of z f = cond (is_descriptor z.sort) (Some (record { endpoint = z.endpoint; block = z.first; waits = not z.reported && is_chained f })) None

next_pushed : (xs : List Endpoint) (y : Endpoint) (i : ℕ) → i < length xs → next_in (xs ++ y ∷ []) i ≡ next_in xs i
next_pushed xs y i low = ap (option_and_then (λ (x : Endpoint). x.next)) (pushed_below xs y i low)

idle_cut : (d : DriverContent) → d.command ≡ None → framed_to d.command d.made (length d.transfers) ≡ length d.transfers
idle_cut d idle = ap (λ (c : Option Command). framed_to c d.made (length d.transfers)) idle

pushed_stepped : (d g : DriverContent) (y : Endpoint) → IsOrderly d → g.endpoints ≡ d.endpoints ++ y ∷ [] → g.transfers ≡ d.transfers → g.periodic.notes ≡ d.periodic.notes
    → framed_to g.command g.made (length d.transfers) ≡ length d.transfers → d.command ≡ None → y.next ≡ None → AreStepped d → AreStepped g
pushed_stepped d g y order ends ts notes cut idle fresh old e x p here iso chained placed =
    ⊎_elim
    (λ (low : e < length d.endpoints).
    let was : framed_in d.endpoints e ≡ Some x = sym (framed_pushed d.endpoints y e low) ∙ (sym (ap (λ (xs : List Endpoint). framed_in xs e) ends) ∙ here) in
    more_stepped d g e 0 0 p (more e) (omega arith) (ap (λ (xs : List Endpoint). next_in xs e) ends ∙ next_pushed d.endpoints y e low) (λ t from to. absurd (omega (arith, from, to))) (old e x p was iso chained placed))
    (λ (high : length d.endpoints ≤ e).
    let within = framed_within (d.endpoints ++ y ∷ []) e x (sym (ap (λ (xs : List Endpoint). framed_in xs e) ends) ∙ here) in
    let long = length-append d.endpoints (y ∷ []) in
    let at : e ≡ length d.endpoints = omega (arith, within, long, high) in
    subst (λ k. IsStepped g k p) (sym at) new) (cases_lt e (length d.endpoints))
  where
    many : length g.transfers ≡ length d.transfers
    many = ap (λ (us : List Transfer). length us) ts

    view : (t : ℕ) → placed_in g.endpoints g.transfers t ≡ placed_in d.endpoints d.transfers t
    view t = ap (λ (xs : List Endpoint). placed_in xs g.transfers t) ends ∙ ap (λ (us : List Transfer). placed_in (d.endpoints ++ y ∷ []) us t) ts ∙ within_same d.endpoints y d.transfers order.within t

    more : (i : ℕ) → IsMore d g i 0 0
    more i = record {
      many = omega (arith, many);
      marks = λ t low. ap (mark i) (view t);
      frames = λ t b low is. ap (λ (ns : List DescriptorNote). frame_in ns b) notes;
      cut_before = idle_cut d idle;
      cut = let c = ap (framed_to g.command g.made) many in omega (arith, c, cut);
    }

    -- the new endpoint has no transfer yet
    unmarked : (t : ℕ) → mark (length d.endpoints) (placed_in g.endpoints g.transfers t) ≡ None
    unmarked t = ap (mark (length d.endpoints)) (view t) ∙ of (slice_get d.transfers t) refl
      where
        of : (o : Option Transfer) → slice_get d.transfers t ≡ o → mark (length d.endpoints) (option_and_then (placed_of d.endpoints) o) ≡ None
        of None there = refl
        of (Some z) there = other_marked d.endpoints (length d.endpoints) z (λ hit. (let low = order.within t z there in omega (arith, hit, low)))

    none_at : (n : ℕ) → waiting_from (placed_in g.endpoints g.transfers) (length d.endpoints) 0 n ≡ []
    none_at n = none_waiting (placed_in g.endpoints g.transfers) (length d.endpoints) 0 n (λ t low high. unmarked t)

    none_next : next_of g (length d.endpoints) ≡ length g.transfers
    none_next =
        ap (λ (xs : List Endpoint). unwrap_or (next_in xs (length d.endpoints)) (length g.transfers)) ends
        ∙ ap (λ (o : Option Endpoint). unwrap_or (option_and_then (λ (w : Endpoint). w.next) o) (length g.transfers)) (newest_get d.endpoints y) ∙ ap (λ o. unwrap_or o (length g.transfers)) fresh

    new : IsStepped g (length d.endpoints) p
    new = record {
      steps = subst (λ bs. AreInStep p (map (frame_in g.periodic.notes) bs)) (sym (none_at (framed_to g.command g.made (length g.transfers)))) tt;
      active = subst (λ bs. AllByRecursion (λ f. is_active p f ≡ true) (map (frame_in g.periodic.notes) bs)) (sym (none_at (framed_to g.command g.made (length g.transfers)))) tt;
      few = subst (λ (bs : List ℕ). length bs * frame_period p.period ≤ 1024) (sym (none_at (length g.transfers))) (omega arith);
      bound = omega (arith, none_next);
      next = λ u low. unmarked u;
    }

-- ---- a transfer of another endpoint

below_get : (ts : List Transfer) (z : Transfer) (t : ℕ) → t < length ts → slice_get (ts ++ z ∷ []) t ≡ slice_get ts t
below_get ts z t low = pushed_below ts z t low

transfer_stepped : (d : DriverContent) (m : Mem) (o : Offered) → Transfers d m o → AreStepped d → AreStepped o.driver
transfer_stepped d m o why old =
    subst (λ (f : Offered). AreStepped f.driver) (sym why.is)
    (λ e w p here iso chained placed. let h = stepped e w p here iso chained placed in record { steps = h.steps; active = h.active; few = h.few; bound = h.bound; next = h.next })
  where
    x : Endpoint
    x = why.endpoint

    n : ℕ
    n = why.number

    dummy : ℕ
    dummy = get_or (take (length why.asked.stages) (new_runs d why.holding_after)) (length why.asked.stages - 1) 0

    y : Endpoint
    y = with_queued x dummy (length d.transfers)

    z : Transfer
    z = new_transfer n why.asked x.dummy

    g : DriverContent
    g = record d { endpoints = set d.endpoints n y; transfers = d.transfers ++ z ∷ []; command = Some (unfinished.Publish x.dummy []); made = 0 }

    ends : SameEndpoints d.endpoints (set d.endpoints n y)
    ends = endpoint_set d.endpoints n x y why.here refl refl (λ off. off)

    many : length g.transfers ≡ length d.transfers + 1
    many = length-append d.transfers (z ∷ [])

    view : (t : ℕ) → t < length d.transfers → placed_in g.endpoints g.transfers t ≡ placed_in d.endpoints d.transfers t
    view t low = ap (option_and_then (placed_of g.endpoints)) (below_get d.transfers z t low) ∙ placed_by d.endpoints g.endpoints d.transfers ends.framed t

    new_none : (e t : ℕ) → length d.transfers ≤ t → t < length d.transfers + 1 → mark e (placed_in g.endpoints g.transfers t) ≡ None
    new_none e t low high =
        let at : t ≡ length d.transfers = omega (arith, low, high) in
        ap (λ k. mark e (placed_in g.endpoints g.transfers k)) at ∙ ap (λ (q : Option Transfer). mark e (option_and_then (placed_of g.endpoints) q)) (last_pushed d.transfers z)
        ∙ ap (λ b. mark e (cond b (Some (record { endpoint = z.endpoint; block = z.first; waits = not z.reported && is_chained (framed_in g.endpoints z.endpoint) })) None)) why.sort

    stepped : AreStepped g
    stepped e w p here iso chained placed =
        let was : framed_in d.endpoints e ≡ Some w = sym (ends.framed e) ∙ here in
        let off : e ≢ n = λ hit. (let is = iso_of d.endpoints n x w why.here (ap (framed_in d.endpoints) (sym hit) ∙ was) in false≢true (sym why.queued ∙ (sym (ap (λ (v : Framed). v.isochronous) is) ∙ iso))) in
        more_stepped d g e 1 1 p
        (record {
          many = many;
          marks = λ t low. ap (mark e) (view t low);
          frames = λ t b low is. refl;
          cut_before = idle_cut d why.idle;
          cut = many;
        }) (omega arith) (next_other d.endpoints n e y off) (new_none e) (old e w p was iso chained placed)

-- ---- descriptors

-- a new descriptor of the endpoint
record IsNew (e : ℕ) (us : List Transfer) (t : ℕ) : Type 0 where
  transfer : Transfer
  there : slice_get us t ≡ Some transfer
  endpoint : transfer.endpoint ≡ e

record AreNew (e n : ℕ) (ts us : List Transfer) (notes now : List DescriptorNote) (rs : List ℕ) : Type 0 where
  old : (t : ℕ) → t < length ts → slice_get us t ≡ slice_get ts t
  new : (t : ℕ) → length ts ≤ t → t < length ts + n → IsNew e us t
  elsewhere : (c : ℕ) → ((i : ℕ) → c ≢ get_or rs i 0) → note_at now c ≡ note_at notes c

are_new : (k : Book) (e : ℕ) (x : EpDesc) (s : Slots) (n seed : ℕ) (rs : List ℕ) (a : Descriptors) → AreNew e n a.transfers (all_descriptors k e x s n seed rs a).transfers a.notes (all_descriptors k e x s n seed rs a).notes rs
unfolding all_descriptors
are_new k e x s zero seed rs a = record { old = λ t below. refl; new = λ t low high. absurd (omega (arith, low, high)); elsewhere = λ c other. refl }
are_new k e x s (suc n) seed rs a =
    let b = get_or rs 0 0 in
    let z = descriptor_transfer e s b in
    let one = one_descriptor k e x s seed rs a in
    let rest = are_new k e x s n ((seed + total_of s) % 256) (drop (suc (slot_runs s)) rs) one in
    let many = length-append a.transfers (z ∷ []) in
    record {
      old = λ t below. rest.old t (omega (arith, many, below)) ∙ pushed_below a.transfers z t below;
      new = λ t low high.
          ⊎_elim
          (λ (same : t ≡ length a.transfers).
          record { transfer = z; there = rest.old t (omega (arith, many, same)) ∙ ap (slice_get (a.transfers ++ z ∷ [])) same ∙ last_pushed a.transfers z; endpoint = refl })
          (λ (differs : t ≢ length a.transfers). rest.new t (omega (arith, many, low, differs)) (omega (arith, many, high))) (cases_eq t (length a.transfers));
      elsewhere = λ c other.
          rest.elsewhere c (λ i same. other (suc (slot_runs s) + i) (same ∙ get_or-drop (suc (slot_runs s)) rs i 0)) ∙ get_or-set_other a.notes b c (descriptor_note s (drop 1 rs)) no_descriptor (other 0);
    }

-- how many wait
before_long : (m : Option ℕ) (bs : List ℕ) → length (before m bs) ≤ suc (length bs)
before_long None bs = omega arith
before_long (Some b) bs = omega arith

few_from : (v : ℕ → Option Placed) (e a n : ℕ) → length (waiting_from v e a n) ≤ n
unfolding waiting_from
few_from v e a zero = omega arith
few_from v e a (suc n) = let rest = few_from v e (suc a) n in let one = before_long (mark e (v a)) (waiting_from v e (suc a) n) in omega (arith, rest, one)

shifted : (v : ℕ → Option Placed) (e a n : ℕ) → waiting_from v e (suc a) n ≡ waiting_from (λ t. v (suc t)) e a n
unfolding waiting_from
shifted v e a zero = refl
shifted v e a (suc n) = ap (before (mark e (v (suc a)))) (shifted v e (suc a) n)

one_counted : (xs : List Endpoint) (e : ℕ) (z : Transfer) (zs : List Transfer) (bs : List ℕ) (b : Bool) → waits_for e z ≡ b → length bs ≤ count_by (waits_for e) zs → length (before (mark e (placed_of xs z)) bs) ≤ count_by (waits_for e) (z ∷ zs)
one_counted xs e z zs bs true on low =
    let one = before_long (mark e (placed_of xs z)) bs in
    let first : one_if (waits_for e z) ≡ 1 = ap one_if on in
    let count = count_first (waits_for e) z zs in
    omega (arith, one, count, first, low)
one_counted xs e z zs bs false off low =
    let none : length (before (mark e (placed_of xs z)) bs) ≡ length bs = ap (λ m. length (before m bs)) (waits_not xs e z off) in
    let first : one_if (waits_for e z) ≡ 0 = ap one_if off in
    let count = count_first (waits_for e) z zs in
    omega (arith, none, count, first, low)

counted : (xs : List Endpoint) (e : ℕ) (ts : List Transfer) → length (waiting_from (placed_in xs ts) e 0 (length ts)) ≤ count_by (waits_for e) ts
unfolding waiting_from
counted xs e [] = omega arith
counted xs e (z ∷ zs) =
    let at = ap (λ (bs : List ℕ). length (before (mark e (placed_of xs z)) bs)) (shifted (placed_in xs (z ∷ zs)) e 0 (length zs)) in
    let one = one_counted xs e z zs (waiting_from (placed_in xs zs) e 0 (length zs)) (waits_for e z) refl (counted xs e zs) in
    omega (arith, at, one)

describe_stepped : (d : DriverContent) (m : Mem) (cmd : Cmd) (o : Offered) → offered d m cmd ≡ Ok o → Stands (holding d.book m) → Describes d m o → HasOwners d → ((e : ℕ) (x : Framed) (p : Placement) → framed_in d.endpoints e ≡ Some x → x.chained ≡ true → x.placement ≡ Some p → IsWell d e x p) → AreStepped d → AreStepped o.driver
describe_stepped d m cmd o made stands why has wells old = subst (λ (f : Offered). AreStepped f.driver) (sym why.is) now
  where
    x : Endpoint
    x = why.endpoint

    n : ℕ
    n = why.number

    h : Holding
    h = why.holding_after

    y : Endpoint
    y = record x { next = first_waiting x.next (length d.transfers) }

    a : Descriptors
    a = record { notes = d.periodic.notes; transfers = d.transfers; memory = h.memory }

    all : Descriptors
    all = all_descriptors h.book n x.desc why.slots why.count why.seed (new_runs d h) a

    g : DriverContent
    g = (entered_iso d n x why.count (total_of why.slots) h.book all).driver

    news : AreNew n why.count d.transfers all.transfers d.periodic.notes all.notes (new_runs d h)
    news = are_new h.book n x.desc why.slots why.count why.seed (new_runs d h) a

    many : length all.transfers ≡ length d.transfers + why.count
    many = descriptors_many h.book n x.desc why.slots why.count why.seed (new_runs d h) a

    ends : SameEndpoints d.endpoints (set d.endpoints n y)
    ends = endpoint_set d.endpoints n x y why.here refl refl (λ off. off)

    view : (t : ℕ) → t < length d.transfers → placed_in g.endpoints g.transfers t ≡ placed_in d.endpoints d.transfers t
    view t low = ap (option_and_then (placed_of g.endpoints)) (news.old t low) ∙ placed_by d.endpoints g.endpoints d.transfers ends.framed t

    -- runs that stand are none of the new ones
    off : (b : ℕ) → b ≢ 0 → HasRun (slot_of d.book.slots b) → (i : ℕ) → b ≢ get_or (new_runs d h) i 0
    off b some run i =
        let taken = runs_taken (holding d.book m) h (iso_needs why.slots why.count) stands why.runs in
        let new : new_runs d h ≡ taken.blocks = ap (drop (length d.book.taken)) taken.are.taken ∙ drop_first d.book.taken taken.blocks in
        subst (λ (rs : List ℕ). b ≢ get_or rs i 0) (sym new) (off_new (holding d.book m) h (iso_needs why.slots why.count) taken.blocks b taken.are some run i)

    same_frame : (e t b : ℕ) → mark e (placed_in d.endpoints d.transfers t) ≡ Some b → frame_in g.periodic.notes b ≡ frame_in d.periodic.notes b
    same_frame e t b is =
        let k = marked e b (placed_in d.endpoints d.transfers t) is in
        let run = descriptor_placed d t k.placed has k.is (inr k.waits) in
        subst (λ c. frame_in all.notes c ≡ frame_in d.periodic.notes c) k.block
        (ap (λ (v : DescriptorNote). v.frame)
        (news.elsewhere k.placed.block
        (off k.placed.block (λ none. not_list (note_at d.periodic.notes k.placed.block).split t (sym has.owned.each.list.owned ∙ sym (ap has.owner none) ∙ run.owned))
        (placed_run k.placed.block (Described (note_at d.periodic.notes k.placed.block).split t) run))))

    more : (e : ℕ) → IsMore d g e why.count 0
    more e = record {
      many = many;
      marks = λ t low. ap (mark e) (view t low);
      frames = λ t b low is. same_frame e t b is;
      cut_before = idle_cut d why.idle;
      cut = omega arith;
    }

    new_none : (e t : ℕ) → e ≢ n → length d.transfers ≤ t → t < length d.transfers + why.count → mark e (placed_in g.endpoints g.transfers t) ≡ None
    new_none e t miss low high =
        let z = news.new t low high in
        ap (λ (q : Option Transfer). mark e (option_and_then (placed_of g.endpoints) q)) z.there ∙ other_marked g.endpoints e z.transfer (λ hit. miss (sym hit ∙ z.endpoint))

    -- the endpoint's own
    own : (w : Framed) (p : Placement) → framed_in d.endpoints n ≡ Some w → w.chained ≡ true → w.placement ≡ Some p → IsStepped d n p → IsStepped g n p
    own w p here chained placed s = record {
      steps = subst (AreInStep p) (sym frames) s.steps;
      active = subst (AllByRecursion (λ f. is_active p f ≡ true)) (sym frames) s.active;
      few =
          let few = mul-le-mul_right (frame_period p.period) long in
          let span = spanned.few in
          let fits = span_counts p.period (why.count + count_by (waits_for n) d.transfers) well.place.period spanned.few (subst (λ k. (why.count + count_by (waits_for n) d.transfers) * k ≤ 8192) (sym period) spanned.short) in
          omega (arith, few, fits);
      bound = by_bound x.next refl;
      next = λ u low. by_next x.next refl u low;
    }
      where
        spanned : IsSpanned d n why.count
        spanned = spans d m cmd o made n (length d.transfers) why.count (ap (λ (f : Offered). f.driver.command) why.is)

        well : IsWell d n w p
        well = wells n w p here chained placed

        period : p.period ≡ spanned.endpoint.desc.period
        period = well.period ∙ ap (λ (v : Endpoint). v.desc.period) (same_Some well.endpoint spanned.endpoint (sym well.here ∙ spanned.here))

        k : IsMore d g n why.count 0
        k = more n

        frames : frames_of g n ≡ frames_of d n
        frames = old_frames d g n why.count 0 k

        long : length (waiting_of g n) ≤ why.count + count_by (waits_for n) d.transfers
        long =
            let split = ap (λ c. length (waiting_from (placed_in g.endpoints g.transfers) n 0 c)) many in
            let both = ap (λ (bs : List ℕ). length bs) (more_waiting (placed_in g.endpoints g.transfers) n 0 (length d.transfers) why.count) in
            let sum = length-append (waiting_from (placed_in g.endpoints g.transfers) n 0 (length d.transfers)) (waiting_from (placed_in g.endpoints g.transfers) n (0 + length d.transfers) why.count) in
            let first = ap (λ (bs : List ℕ). length bs) (old_waiting d g n why.count 0 k) in
            let old_few = counted d.endpoints n d.transfers in
            let new_few = few_from (placed_in g.endpoints g.transfers) n (0 + length d.transfers) why.count in
            omega (arith, split, both, sum, first, old_few, new_few)

        was : (q : Option ℕ) → x.next ≡ q → next_of d n ≡ unwrap_or q (length d.transfers)
        was q is = ap (λ (v : Option Endpoint). unwrap_or (option_and_then (λ (u : Endpoint). u.next) v) (length d.transfers)) why.here ∙ ap (λ v. unwrap_or v (length d.transfers)) is

        is_now : (q : Option ℕ) → x.next ≡ q → next_of g n ≡ unwrap_or (first_waiting q (length d.transfers)) (length g.transfers)
        is_now q is =
            ap (λ (v : Option Endpoint). unwrap_or (option_and_then (λ (u : Endpoint). u.next) v) (length g.transfers)) (set_here d.endpoints n x y why.here) ∙ ap (λ v. unwrap_or (first_waiting v (length d.transfers)) (length g.transfers)) is

        by_bound : (q : Option ℕ) → x.next ≡ q → next_of g n ≤ length g.transfers
        by_bound None is = let now = is_now None is in omega (arith, now, many)
        by_bound (Some t) is = let now = is_now (Some t) is in let before = was (Some t) is in let low = s.bound in omega (arith, now, before, low, many)

        by_next : (q : Option ℕ) → x.next ≡ q → (u : ℕ) → u < next_of g n → mark n (placed_in g.endpoints g.transfers u) ≡ None
        by_next None is u low =
            let now = is_now None is in
            let before = was None is in
            k.marks u (omega (arith, now, low)) ∙ s.next u (omega (arith, now, before, low))
        by_next (Some t) is u low =
            let now = is_now (Some t) is in
            let before = was (Some t) is in
            let bound = s.bound in
            k.marks u (omega (arith, now, before, bound, low)) ∙ s.next u (omega (arith, now, before, low))

    now : AreStepped g
    now e w p here iso chained placed =
        let was : framed_in d.endpoints e ≡ Some w = sym (ends.framed e) ∙ here in
        let s = old e w p was iso chained placed in
        ⊎_elim
        (λ (hit : e ≡ n). subst (λ k. IsStepped g k p) (sym hit) (own w p (ap (framed_in d.endpoints) (sym hit) ∙ was) chained placed (subst (λ k. IsStepped d k p) hit s)))
        (λ (miss : e ≢ n). more_stepped d g e why.count 0 p (more e) (omega arith) (next_other d.endpoints n e y miss) (λ t low high. new_none e t miss low high) s) (cases_eq e n)

-- ---- a cancel

cancel_stepped : (d : DriverContent) (m : Mem) (o : Offered) → Cancels d m o → AreStepped d → AreStepped o.driver
cancel_stepped d m o why old =
    let x = why.endpoint in
    let y : Endpoint = record x { cancelled = true; ended = first_end x.ended } in
    subst (λ (f : Offered). AreStepped f.driver) (sym why.is)
    (stays_all d _
    (same_stays d _ (endpoint_set d.endpoints why.number x y why.here refl refl (λ off. absurd (false≢true (sym off)))) (all_transfers d.transfers) refl (sym (idle_cut d why.idle)) (next_set d.endpoints why.number x y why.here refl)) old)

unchain_stepped : (d : DriverContent) (m : Mem) (o : Offered) → Unchains d m o → AreStepped d → AreStepped o.driver
unchain_stepped d m o why old =
    let x = why.endpoint in
    let y : Endpoint = record x { cancelled = true; ended = first_end x.ended } in
    let ms = endpoint_members d why.number x why.placement in
    let g = with_cancel d why.number x ms in
    subst (λ (f : Offered). AreStepped f.driver) (sym why.is)
    (stays_all g (accepted_unchain d why.number x ms) (or_stays g (unfinished.Unchain why.number) refl)
    (stays_all d g
    (same_stays d g (endpoint_set d.endpoints why.number x y why.here refl refl (λ off. absurd (false≢true (sym off)))) (all_transfers d.transfers) (begun_notes true (record d.periodic { queued = ms })) (sym (idle_cut d why.idle)) (next_set d.endpoints why.number x y why.here refl)) old))

-- ---- any command

accepted_stepped : (d : DriverContent) (m : Mem) (cmd : Cmd) (o : Offered) → offered d m cmd ≡ Ok o → Stands (holding d.book m) → Accepts d m o → HasOwners d → ((e : ℕ) (x : Framed) (p : Placement) → framed_in d.endpoints e ≡ Some x → x.chained ≡ true → x.placement ≡ Some p → IsWell d e x p) → AreStepped d → AreStepped o.driver
accepted_stepped d m cmd o made stands (opens why) has wells old =
    subst (λ (f : Offered). AreStepped f.driver) (sym why.is) (pushed_stepped d _ (new_endpoint why.desc _ _) has.orderly refl refl refl refl why.idle refl old)
accepted_stepped d m cmd o made stands (chains why) has wells old =
    subst (λ (f : Offered). AreStepped f.driver) (sym why.is) (pushed_stepped d _ (placed_endpoint why.desc why.placement _ _) has.orderly refl refl refl refl why.idle refl old)
accepted_stepped d m cmd o made stands (places why) has wells old =
    subst (λ (f : Offered). AreStepped f.driver) (sym why.is) (pushed_stepped d _ (placed_endpoint why.desc why.placement 0 0) has.orderly refl refl refl (idle_cut d why.idle) why.idle refl old)
accepted_stepped d m cmd o made stands (transfers why) has wells old = transfer_stepped d m o why old
accepted_stepped d m cmd o made stands (describes why) has wells old = describe_stepped d m cmd o made stands why has wells old
accepted_stepped d m cmd o made stands (cancels why) has wells old = cancel_stepped d m o why old
accepted_stepped d m cmd o made stands (unchains why) has wells old = unchain_stepped d m o why old

pub command_stepped : (d : DriverContent) (m : Mem) (cmd : Cmd) (o : Offered) → Stands (holding d.book m) → HasOwners d → ((e : ℕ) (x : Framed) (p : Placement) → framed_in d.endpoints e ≡ Some x → x.chained ≡ true → x.placement ≡ Some p → IsWell d e x p) → offered d m cmd ≡ Ok o → AreStepped d → AreStepped o.driver
command_stepped d m cmd o stands has wells made old = accepted_stepped d m cmd o made stands (each_command_has_its_reason d m cmd o made) has wells old
