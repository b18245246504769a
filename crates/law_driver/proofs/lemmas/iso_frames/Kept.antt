-- Where marks, notes and next descriptors of an endpoint stay, its descriptors stay in step.
use Rattle.std.proofs.Common.{◌≡◌, ◌≢◌, ℕ, zero, suc, ◌*◌, ◌≤◌, ◌&&◌, not, Bool, true, false, cond, nat_lt, List, [], ◌∷◌, length, map, set, slice_get, Option, Some, None, option_map, refl, ap, sym, subst, ◌∙◌, ⊎_elim, arith}
use Rattle.std.specs.Prelude.{option_and_then, unwrap_or, is_none}
use Rattle.std.specs.List.{AllByRecursion}
use Rattle.std.proofs.lemmas.Bool.{cases_eq}
use Rattle.std.proofs.lemmas.Option.{same_Some}
use Rattle.law_common.proofs.Lists.{set_here, set_there}
use Rattle.bandwidth.specs.declared.placements.Placement.{Placement}
use Rattle.bandwidth.specs.Placements.{frame_period}
use Rattle.bandwidth.specs.Sums.{is_active}
use Rattle.drv_chains.specs.declared.members.Member.{Member}
use Rattle.drv_periodic_table.specs.declared.content.DescriptorNote.{DescriptorNote}
use Rattle.drv_periodic_table.specs.Periodic.{PeriodicContent}
use Rattle.drv_periodic_table.specs.Linking.{with_first, begun_next}
use Rattle.drv_table.specs.declared.content.Endpoint.{Endpoint}
use Rattle.drv_table.specs.declared.content.Transfer.{Transfer}
use Rattle.drv_table.specs.declared.content.Command.{Command}
use Rattle.drv_table.specs.declared.content.Command.TheVariants as unfinished
use Rattle.drv_table.specs.DriverContent.{DriverContent}
use Rattle.drv_table.specs.Commands.{events_of, links, removes_members, no_command, leave_ring, leave_frames, finished, list_after, or_finished, linked_on, advanced_by}
use Rattle.claims_driver.specs.Owners.{is_descriptor}
use Rattle.claims_driver.specs.FrameListMembers.{Framed, framed_of, framed_in, is_chained, placed_of, placed_in}
use Rattle.law_driver.proofs.lemmas.listed_members.Stays.{SameEndpoints, SameTransfers, all_endpoints, all_transfers, endpoint_set, placed_by}
use Rattle.law_driver.specs.iso_frames.Steps.{AreInStep}
use Rattle.law_driver.specs.iso_frames.Frames.{mark, waiting_from, frame_in, frames_of, next_in, next_of, IsStepped, AreStepped}
use Rattle.claims_driver.specs.DueMembers.{framed_to}
use Rattle.law_driver.proofs.lemmas.iso_frames.Waiting.{same_waiting, mark_off}

pub record StaysAt (d g : DriverContent) (e : ℕ) : Type 0 where
  pub marks : (t : ℕ) → mark e (placed_in g.endpoints g.transfers t) ≡ mark e (placed_in d.endpoints d.transfers t)
  pub many : length g.transfers ≡ length d.transfers
  pub notes : g.periodic.notes ≡ d.periodic.notes
  pub cut : framed_to g.command g.made (length g.transfers) ≡ framed_to d.command d.made (length d.transfers)
  pub next : next_in g.endpoints e ≡ next_in d.endpoints e

pub stays_stepped : (d g : DriverContent) (e : ℕ) (p : Placement) → StaysAt d g e → IsStepped d e p → IsStepped g e p
stays_stepped d g e p s h =
    let cut = ap (waiting_from (placed_in g.endpoints g.transfers) e 0) s.cut
    ∙ same_waiting (placed_in d.endpoints d.transfers) (placed_in g.endpoints g.transfers) e 0 (framed_to d.command d.made (length d.transfers)) (λ t low high. s.marks t) in
    let all = ap (waiting_from (placed_in g.endpoints g.transfers) e 0) s.many
    ∙ same_waiting (placed_in d.endpoints d.transfers) (placed_in g.endpoints g.transfers) e 0 (length d.transfers) (λ t low high. s.marks t) in
    let frames : frames_of g e ≡ frames_of d e =
    ap (λ (ns : List DescriptorNote). map (frame_in ns) (waiting_from (placed_in g.endpoints g.transfers) e 0 (framed_to g.command g.made (length g.transfers)))) s.notes
    ∙ ap (map (frame_in d.periodic.notes)) cut in
    let next : next_of g e ≡ next_of d e = ap (λ o. unwrap_or o (length g.transfers)) s.next ∙ ap (unwrap_or (next_in d.endpoints e)) s.many in
    let many = s.many in
    record {
      steps = subst (AreInStep p) (sym frames) h.steps;
      active = subst (AllByRecursion (λ f. is_active p f ≡ true)) (sym frames) h.active;
      few = subst (λ (bs : List ℕ). length bs * frame_period p.period ≤ 1024) (sym all) h.few;
      bound = omega (arith, next, many, h.bound);
      next = λ u low. s.marks u ∙ h.next u (omega (arith, next, low));
    }

-- each isochronous endpoint that is in its frames was there
abbrev pub Stays : DriverContent → DriverContent → Type 0
Stays d g = (e : ℕ) (x : Framed) → framed_in g.endpoints e ≡ Some x → x.isochronous ≡ true → x.chained ≡ true → (framed_in d.endpoints e ≡ Some x) × StaysAt d g e

pub stays_all : (d g : DriverContent) → Stays d g → AreStepped d → AreStepped g
stays_all d g s h e x p here iso chained placed = let k = s e x here iso chained in stays_stepped d g e p k.1 (h e x p k.0 iso chained placed)

pub both_stay : (d f g : DriverContent) → Stays d f → Stays f g → Stays d g
both_stay d f g one two e x here iso chained =
    let b = two e x here iso chained in
    let a = one e x b.0 iso chained in (
      a.0,
      record {
        marks = λ t. b.1.marks t ∙ a.1.marks t;
        many = b.1.many ∙ a.1.many;
        notes = b.1.notes ∙ a.1.notes;
        cut = b.1.cut ∙ a.1.cut;
        next = b.1.next ∙ a.1.next;
      },
    )

pub either_stays : (d x y : DriverContent) (b : Bool) → Stays d x → Stays d y → Stays d (cond b x y)
either_stays d x y true one two = one
either_stays d x y false one two = two

pub same_stays : (d g : DriverContent) → SameEndpoints d.endpoints g.endpoints → SameTransfers d.transfers g.transfers → g.periodic.notes ≡ d.periodic.notes
    → framed_to g.command g.made (length g.transfers) ≡ framed_to d.command d.made (length d.transfers) → ((e : ℕ) → next_in g.endpoints e ≡ next_in d.endpoints e) → Stays d g
same_stays d g ends ts notes cut next e x here iso chained = (
  sym (ends.framed e) ∙ here,
  record {
    marks = λ t. ap (mark e) (ts.placed g.endpoints t ∙ placed_by d.endpoints g.endpoints d.transfers ends.framed t);
    many = ts.many;
    notes = notes;
    cut = cut;
    next = next e;
  },
)

pub itself : (d : DriverContent) → Stays d d
itself d = same_stays d d (all_endpoints d.endpoints) (all_transfers d.transfers) refl refl (λ e. refl)

-- ---- the next descriptor

pub next_set : (xs : List Endpoint) (e : ℕ) (x y : Endpoint) → slice_get xs e ≡ Some x → y.next ≡ x.next → (i : ℕ) → next_in (set xs e y) i ≡ next_in xs i
next_set [] e x y here same i = absurd (cc)
next_set (z ∷ xs) zero x y here same zero = let is : z ≡ x = cc in same ∙ ap (λ (w : Endpoint). w.next) (sym is)
next_set (z ∷ xs) zero x y here same (suc i) = refl
next_set (z ∷ xs) (suc e) x y here same zero = refl
next_set (z ∷ xs) (suc e) x y here same (suc i) = next_set xs e x y here same i

pub next_other : (xs : List Endpoint) (e i : ℕ) (y : Endpoint) → i ≢ e → next_in (set xs e y) i ≡ next_in xs i
next_other xs e i y off = ap (option_and_then (λ (x : Endpoint). x.next)) (set_there xs e i y off)

-- ---- marks of other endpoints

pub other_marked : (xs : List Endpoint) (i : ℕ) (z : Transfer) → z.endpoint ≢ i → mark i (placed_of xs z) ≡ None
other_marked xs i z off = at (is_descriptor z.sort)
  where
    at : (b : Bool) → mark i (cond b (Some (record { endpoint = z.endpoint; block = z.first; waits = not z.reported && is_chained (framed_in xs z.endpoint) })) None) ≡ None
    at true = mark_off i (record { endpoint = z.endpoint; block = z.first; waits = not z.reported && is_chained (framed_in xs z.endpoint) }) off
    at false = refl

-- where the endpoints but e are framed as they were
pub marked_elsewhere : (xs ys : List Endpoint) (e i : ℕ) (o : Option Transfer) → i ≢ e → ((j : ℕ) → j ≢ e → framed_in ys j ≡ framed_in xs j) → mark i (option_and_then (placed_of ys) o) ≡ mark i (option_and_then (placed_of xs) o)
marked_elsewhere xs ys e i None off same = refl
marked_elsewhere xs ys e i (Some z) off same =
    ⊎_elim
    (λ (hit : z.endpoint ≡ i).
    ap (λ (f : Option Framed). mark i (cond (is_descriptor z.sort) (Some (record { endpoint = z.endpoint; block = z.first; waits = not z.reported && is_chained f })) None)) (same z.endpoint (λ at. off (sym hit ∙ at))))
    (λ (miss : z.endpoint ≢ i). other_marked ys i z miss ∙ sym (other_marked xs i z miss)) (cases_eq z.endpoint i)

-- ---- a command goes on

abbrev pub IsLate : Command → ℕ → Type 0
IsLate (unfinished.Open queue) made = Unit {0}
IsLate (unfinished.Publish b words) made = Unit {0}
IsLate (unfinished.Unlink e b link) made = Unit {0}
IsLate unfinished.Chain made = Unit {0}
IsLate (unfinished.Iso e first count) made = 1 ≤ made
IsLate (unfinished.Unchain e) made = Unit {0}

pub all_framed : (c : Command) (made n : ℕ) → IsLate c made → framed_to (Some c) made n ≡ n
all_framed (unfinished.Open queue) made n late = refl
all_framed (unfinished.Publish b words) made n late = refl
all_framed (unfinished.Unlink e b link) made n late = refl
all_framed unfinished.Chain made n late = refl
all_framed (unfinished.Iso e first count) zero n late = absurd (omega (arith, late))
all_framed (unfinished.Iso e first count) (suc made) n late = refl
all_framed (unfinished.Unchain e) made n late = refl

one_later : (c : Command) (made : ℕ) → IsLate c (suc made)
one_later (unfinished.Iso e first count) made = omega arith
one_later _ made = tt

all_late : (c : Command) → IsLate c (length (events_of c))
all_late (unfinished.Iso e first count) = omega arith
all_late _ = tt

pub begun_notes : (b : Bool) (q : PeriodicContent) → (begun_next b q).notes ≡ q.notes
begun_notes b q = at (is_none q.list.work) q.queued
  where
    first : (ms : List Member) → (with_first b q ms).notes ≡ q.notes
    first [] = refl
    first (m ∷ ms) = refl

    at : (c : Bool) (ms : List Member) → (cond c (with_first b q ms) q).notes ≡ q.notes
    at true ms = first ms
    at false ms = refl

ring_stays : (d : DriverContent) (e : ℕ) (o : Option Endpoint) → slice_get d.endpoints e ≡ o → Stays d (leave_ring d e o)
ring_stays d e None here = itself d
ring_stays d e (Some x) here =
    either_stays d _ d x.linked
    (same_stays d _ (endpoint_set d.endpoints e x (record x { linked = false }) here refl refl (λ off. off)) (all_transfers d.transfers) refl refl (next_set d.endpoints e x (record x { linked = false }) here refl)) (itself d)

-- an endpoint that leaves its frames is there no more
frames_stay : (d g : DriverContent) (e : ℕ) (x : Endpoint) → slice_get d.endpoints e ≡ Some x → g.endpoints ≡ set d.endpoints e (record x { chained = false }) → g.transfers ≡ d.transfers → g.periodic.notes ≡ d.periodic.notes
    → framed_to g.command g.made (length g.transfers) ≡ framed_to d.command d.made (length d.transfers) → Stays d g
frames_stay d g e x here ends ts notes cut i w there iso chained =
    ⊎_elim
    (λ (hit : i ≡ e).
    let now : framed_in g.endpoints i ≡ Some (framed_of y) = ap (λ (xs : List Endpoint). framed_in xs i) ends ∙ ap (framed_in (set d.endpoints e y)) hit ∙ ap (option_map framed_of) (set_here d.endpoints e x y here) in
    let is : w ≡ framed_of y = same_Some w (framed_of y) (sym there ∙ now) in
    absurd (let bad : true ≡ false = sym chained ∙ ap (λ (v : Framed). v.chained) is in cc))
    (λ (miss : i ≢ e). (
      sym (same i miss) ∙ there,
      record {
        marks = λ t.
            ap (λ (us : List Transfer). mark i (placed_in g.endpoints us t)) ts ∙ marked_elsewhere d.endpoints g.endpoints e i (slice_get d.transfers t) miss same;
        many = ap (λ (us : List Transfer). length us) ts;
        notes = notes;
        cut = cut;
        next = ap (λ (xs : List Endpoint). next_in xs i) ends ∙ next_other d.endpoints e i y miss;
      },
    )) (cases_eq i e)
  where
    y : Endpoint
    y = record x { chained = false }

    same : (j : ℕ) → j ≢ e → framed_in g.endpoints j ≡ framed_in d.endpoints j
    same j off = ap (λ (xs : List Endpoint). framed_in xs j) ends ∙ ap (option_map framed_of) (set_there d.endpoints e j y off)

leaves_stay : (d : DriverContent) (e : ℕ) (o : Option Endpoint) → slice_get d.endpoints e ≡ o → Stays d (leave_frames d e o)
leaves_stay d e None here = itself d
leaves_stay d e (Some x) here = either_stays d _ d x.chained (frames_stay d _ e x here refl refl refl refl) (itself d)

none_stays : (d : DriverContent) → framed_to d.command d.made (length d.transfers) ≡ length d.transfers → Stays d (no_command d)
none_stays d all = same_stays d (no_command d) (all_endpoints d.endpoints) (all_transfers d.transfers) refl (sym all) (λ e. refl)

pub done_stays : (d : DriverContent) (c : Command) → framed_to d.command d.made (length d.transfers) ≡ length d.transfers → Stays d (finished d c)
done_stays d (unfinished.Unlink e b link) all = both_stay d (no_command d) _ (none_stays d all) (ring_stays (no_command d) e (slice_get d.endpoints e) refl)
done_stays d (unfinished.Unchain e) all = both_stay d (no_command d) _ (none_stays d all) (leaves_stay (no_command d) e (slice_get d.endpoints e) refl)
done_stays d _ all = none_stays d all

pub or_stays : (d : DriverContent) (c : Command) → framed_to d.command d.made (length d.transfers) ≡ length d.transfers → Stays d (or_finished d c)
or_stays d c all = either_stays d (finished d c) d (is_none d.periodic.list.work) (done_stays d c all) (itself d)

pub goes_on : (d : DriverContent) (c : Command) → d.command ≡ Some c → IsLate c d.made → Stays d (advanced_by d (Some c))
goes_on d c is late =
    either_stays d one (cond (links c) (linked_on d c) (finished d c)) (nat_lt (suc d.made) (length (events_of c)))
    (same_stays d one (all_endpoints d.endpoints) (all_transfers d.transfers) refl (cut (suc d.made) (one_later c d.made) ∙ sym all) (λ e. refl))
    (either_stays d (linked_on d c) (finished d c) (links c) (both_stay d linked (linked_on d c) begun (or_stays linked c (cut (length (events_of c)) (all_late c)))) (done_stays d c all))
  where
    one : DriverContent
    one = record d { made = suc d.made }

    linked : DriverContent
    linked = record d { made = length (events_of c); periodic = begun_next (removes_members c) (record d.periodic { list = list_after d c }) }

    cut : (made : ℕ) → IsLate c made → framed_to d.command made (length d.transfers) ≡ length d.transfers
    cut made h = ap (λ (o : Option Command). framed_to o made (length d.transfers)) is ∙ all_framed c made (length d.transfers) h

    all : framed_to d.command d.made (length d.transfers) ≡ length d.transfers
    all = cut d.made late

    begun : Stays d linked
    begun = same_stays d linked (all_endpoints d.endpoints) (all_transfers d.transfers) (begun_notes (removes_members c) (record d.periodic { list = list_after d c })) (cut (length (events_of c)) (all_late c) ∙ sym all) (λ e. refl)
