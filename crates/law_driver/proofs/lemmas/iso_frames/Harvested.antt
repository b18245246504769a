-- A harvest leaves the descriptors in step: of an endpoint the first that waits is harvested.
use Rattle.std.proofs.Common.{◌≡◌, ◌≢◌, ℕ, zero, suc, ◌+◌, ◌-◌, ◌*◌, ◌<◌, ◌≤◌, ◌&&◌, not, Bool, true, false, cond, List, [], ◌∷◌, length, map, drop, slice_get, Option, Some, None, option_map, refl, ap, sym, subst, ◌∙◌, ⊎_elim, arith, inl, inr}
use Rattle.std.specs.Prelude.{option_and_then, unwrap_or, position, nat_lt}
use Rattle.std.specs.List.{AllByRecursion, position_or_len}
use Rattle.std.proofs.lemmas.Bool.{false≢true, cases_eq, cases_lt, eq-eqb, lt-ltb, le-ltb}
use Rattle.std.proofs.lemmas.List.{length-set, length-drop}
use Rattle.std.proofs.lemmas.Option.{same_Some, slice_get_within}
use Rattle.std.proofs.Math.Nat.{suc-mul}
use Rattle.law_driver.proofs.Common.{one_behind, one_command}
use Rattle.law_common.proofs.Lists.{set_here, set_there}
use Rattle.usb_base.specs.declared.endpoints.EpName.{EpName}
use Rattle.usb_base.specs.declared.endpoints.EndCause.{EndCause}
use Rattle.usb_base.specs.declared.reports.What.{What}
use Rattle.word_mem.specs.Memory.{Mem}
use Rattle.bandwidth.specs.declared.placements.Placement.{Placement}
use Rattle.bandwidth.specs.Placements.{frame_period}
use Rattle.bandwidth.specs.Sums.{is_active}
use Rattle.drv_table.specs.declared.content.Endpoint.{Endpoint}
use Rattle.drv_table.specs.declared.content.Transfer.{Transfer}
use Rattle.drv_table.specs.declared.content.Sort.{Sort}
use Rattle.drv_table.specs.declared.content.Sort.TheVariants as sorts
use Rattle.drv_table.specs.declared.content.Command.{Command}
use Rattle.drv_table.specs.declared.rows.Found.{Found}
use Rattle.drv_table.specs.declared.rows.Found.TheVariants as founds
use Rattle.drv_table.specs.DriverContent.{DriverContent, waits_for, next_after}
use Rattle.drv_table.specs.Harvests.{is_stall, noted, end_of}
use Rattle.drv_table.specs.Parts.{Parts}
use Rattle.drv_table.specs.Kinds.{is_iso}
use Rattle.drv_table.specs.Harvesting.{found_of, served, told_with, behind_one, behind, after_end, descriptor_told, harvested_as, after_harvest}
use Rattle.claims_driver.specs.Owners.{is_descriptor}
use Rattle.claims_driver.specs.Leaving.{IsOrderly}
use Rattle.law_driver.specs.run_owners.Due.{IsHarvestDue}
use Rattle.law_driver.proofs.lemmas.run_owners.Harvest.{Waits, waits_is, is_served_found}
use Rattle.law_driver.proofs.lemmas.run_owners.Rows.{served_is}
use Rattle.claims_driver.specs.FrameListMembers.{Framed, framed_of, framed_in, is_chained, Placed, placed_of, placed_in}
use Rattle.law_driver.proofs.lemmas.listed_members.Stays.{SameEndpoints, endpoint_set, tables}
use Rattle.law_driver.proofs.lemmas.listed_members.Calm.{IsQuiet, harvest_quiet, ended_plain, is_ended_found}
use Rattle.law_driver.proofs.lemmas.listed_members.Events.{plain_by}
use Rattle.drv_periodic_table.specs.Periodic.{PeriodicContent}
use Rattle.law_driver.specs.iso_frames.Steps.{AreInStep}
use Rattle.law_driver.specs.iso_frames.Frames.{mark, waiting_from, waiting_of, frame_in, frames_of, next_in, next_of, IsStepped, AreStepped}
use Rattle.claims_driver.specs.DueMembers.{framed_to}
use Rattle.law_driver.proofs.lemmas.iso_frames.Waiting.{first_gone, mark_is, mark_quiet}
use Rattle.law_driver.proofs.lemmas.iso_frames.Kept.{StaysAt, Stays, stays_stepped, stays_all, next_other, other_marked, marked_elsewhere}

-- ---- the next one of another endpoint

either_next : (i : ℕ) (b : Bool) (x y : DriverContent) (o : Option ℕ) → next_in x.endpoints i ≡ o → next_in y.endpoints i ≡ o → next_in (cond b x y).endpoints i ≡ o
either_next i true x y o one two = one
either_next i false x y o one two = two

all_behind : (d : DriverContent) (e : ℕ) (name : EpName) (k n : ℕ) → (behind d e name k n).endpoints ≡ d.endpoints
unfolding behind
all_behind d e name k zero = refl
all_behind d e name k (suc n) = all_behind (behind_one d e name k (slice_get d.transfers k)) e name (suc k) n ∙ one_behind d e name k (slice_get d.transfers k)

over_next : (d : DriverContent) (e t i : ℕ) (x : Endpoint) (stall : Bool) (cause : Option EndCause) → i ≢ e → next_in (after_end d e t x stall cause).endpoints i ≡ next_in d.endpoints i
over_next d e t i x stall (Some cause) off = next_other d.endpoints e i (record x { ended = Some cause }) off
over_next d e t i x true None off =
    ap (λ (xs : List Endpoint). next_in xs i) (all_behind _ e x.desc.name (suc t) (length d.transfers - suc t)) ∙ next_other d.endpoints e i (record x { next = None }) off
over_next d e t i x false None off = next_other d.endpoints e i _ off

read_next : (d : DriverContent) (m : Mem) (e t i : ℕ) (x : Endpoint) (y : Transfer) (found : Found) → i ≢ e → next_in (harvested_as d m e t x y found).endpoints i ≡ next_in d.endpoints i
read_next d m e t i x y (founds.Served errors) off = next_other d.endpoints e i _ off
read_next d m e t i x y (founds.Ended n what) off =
    over_next (told_with d m t y what x.desc.name (noted d.notes y.place n)) e t i x (is_stall what) (end_of x.desc.kind what) off
read_next d m e t i x y _ off = refl

-- ---- no command begins

all_command : (f : DriverContent) (e : ℕ) (name : EpName) (k n : ℕ) → (behind f e name k n).command ≡ f.command
unfolding behind
all_command f e name k zero = refl
all_command f e name k (suc n) = all_command (behind_one f e name k (slice_get f.transfers k)) e name (suc k) n ∙ one_command f e name k (slice_get f.transfers k)

over_command : (f : DriverContent) (e t : ℕ) (x : Endpoint) (stall : Bool) (cause : Option EndCause) → (after_end f e t x stall cause).command ≡ f.command
over_command f e t x stall (Some cause) = refl
over_command f e t x true None = all_command _ e x.desc.name (suc t) (length f.transfers - suc t)
over_command f e t x false None = refl

ended_command : (d : DriverContent) (m : Mem) (e t : ℕ) (x : Endpoint) (y : Transfer) (n : ℕ) (what : What) → (harvested_as d m e t x y (founds.Ended n what)).command ≡ d.command
ended_command d m e t x y n what = over_command (told_with d m t y what x.desc.name (noted d.notes y.place n)) e t x (is_stall what) (end_of x.desc.kind what)

-- ---- tests

-- the place of the first that passes, one at a time
some_more : (k : ℕ) → 1 + k ≡ suc k
some_more k = omega arith

shifted : (k n : ℕ) → ◌≡◌ {A = Option ℕ} (cond (nat_lt (1 + k) (suc n)) (Some (1 + k)) None) (option_map suc (cond (nat_lt k n) (Some k) None))
shifted k n = elim (cases_lt k n) [
  | inl h ↦ rw (lt-ltb (1 + k) (suc n) (omega (arith, h)), lt-ltb k n h) (ap Some (some_more k))
  | inr h ↦ rw (le-ltb (1 + k) (suc n) (omega (arith, h)), le-ltb k n h) refl
]

position_cons : {X : Type 0} (test : X → Bool) (z : X) (xs : List X) (b : Bool) → test z ≡ b → position test (z ∷ xs) ≡ cond b (Some 0) (option_map suc (position test xs))
position_cons test z xs true e = rw e (ap (λ b. cond b (Some 0) None) (lt-ltb 0 (suc (length xs)) (omega arith)))
position_cons test z xs false e = rw e (shifted (position_or_len test xs) (length xs))

-- what the first of a list and the others pass
one_none : {X : Type 0} (test : X → Bool) (z : X) (xs : List X) (x : X) (i j : ℕ) (b : Bool) (o : Option ℕ) → test z ≡ b → ((h k : ℕ) → o ≡ Some h → k < h → slice_get xs k ≡ Some x → test x ≡ false)
    → cond b (Some 0) (option_map suc o) ≡ Some i → j < i → slice_get (z ∷ xs) j ≡ Some x → test x ≡ false
one_none test z xs x i j true o is rest e low there = let first : 0 ≡ i = same_Some 0 i e in absurd (omega (arith, first, low))
one_none test z xs x i j false None is rest e low there = absurd (cc)
one_none test z xs x i zero false (Some h) is rest e low there = let same : z ≡ x = same_Some z x there in ap test (sym same) ∙ is
one_none test z xs x i (suc j) false (Some h) is rest e low there = let more : suc h ≡ i = same_Some (suc h) i e in rest h j refl (omega (arith, more, low)) there

-- no number before the first that passes passes
pub none_before : {X : Type 0} (test : X → Bool) (xs : List X) (i j : ℕ) (x : X) → position test xs ≡ Some i → j < i → slice_get xs j ≡ Some x → test x ≡ false
none_before test [] i j x e low there = absurd (cc)
none_before test (z ∷ xs) i j x e low there = one_none test z xs x i j (test z) (position test xs) refl (λ h k is less at. none_before test xs h k x is less at) (sym (position_cons test z xs (test z) refl) ∙ e) low there

one_passes_not : {X : Type 0} (test : X → Bool) (z : X) (xs : List X) (x : X) (j : ℕ) (b : Bool) (o : Option ℕ) → test z ≡ b → ((k : ℕ) → o ≡ None → slice_get xs k ≡ Some x → test x ≡ false)
    → cond b (Some 0) (option_map suc o) ≡ None → slice_get (z ∷ xs) j ≡ Some x → test x ≡ false
one_passes_not test z xs x j true o is rest e there = absurd (cc)
one_passes_not test z xs x j false (Some h) is rest e there = absurd (cc)
one_passes_not test z xs x zero false None is rest e there = let same : z ≡ x = same_Some z x there in ap test (sym same) ∙ is
one_passes_not test z xs x (suc j) false None is rest e there = rest j refl there

pub none_at_all : {X : Type 0} (test : X → Bool) (xs : List X) (j : ℕ) (x : X) → position test xs ≡ None → slice_get xs j ≡ Some x → test x ≡ false
none_at_all test [] j x e there = absurd (cc)
none_at_all test (z ∷ xs) j x e there = one_passes_not test z xs x j (test z) (position test xs) refl (λ k is at. none_at_all test xs k x is at) (sym (position_cons test z xs (test z) refl) ∙ e) there

one_within : (n i : ℕ) (b : Bool) (o : Option ℕ) → ((h : ℕ) → o ≡ Some h → h < n) → cond b (Some 0) (option_map suc o) ≡ Some i → i < suc n
one_within n i true o rest e = let is : 0 ≡ i = same_Some 0 i e in omega (arith, is)
one_within n i false None rest e = absurd (cc)
one_within n i false (Some h) rest e = let more : suc h ≡ i = same_Some (suc h) i e in let low = rest h refl in omega (arith, more, low)

pub position_within : {X : Type 0} (test : X → Bool) (xs : List X) (i : ℕ) → position test xs ≡ Some i → i < length xs
position_within test [] i e = absurd (cc)
position_within test (z ∷ xs) i e = one_within (length xs) i (test z) (position test xs) (λ h is. position_within test xs h is) (sym (position_cons test z xs (test z) refl) ∙ e)

nothing_there : {X : Type 0} (k : ℕ) → slice_get {X = X} [] k ≡ None
nothing_there zero = refl
nothing_there (suc k) = refl

pub get_dropped : {X : Type 0} (n : ℕ) (xs : List X) (i : ℕ) → slice_get (drop n xs) i ≡ slice_get xs (n + i)
get_dropped zero xs i = ap (slice_get xs) (omega arith)
get_dropped (suc n) [] i = nothing_there i ∙ sym (nothing_there (suc n + i))
get_dropped (suc n) (x ∷ xs) i = let more : suc n + i ≡ suc (n + i) = omega arith in get_dropped n xs i ∙ sym (ap (slice_get (x ∷ xs)) more)

-- ---- a transfer that doesn't wait has no mark

pub waits_not : (xs : List Endpoint) (e : ℕ) (z : Transfer) → waits_for e z ≡ false → mark e (placed_of xs z) ≡ None
waits_not xs e z off =
    ⊎_elim
    (λ (hit : z.endpoint ≡ e). quiet (is_descriptor z.sort) (reported z.reported (sym (ap (λ b. b && not z.reported) (eq-eqb z.endpoint e hit)) ∙ off)))
    (λ (miss : z.endpoint ≢ e). other_marked xs e z miss) (cases_eq z.endpoint e)
  where
    reported : (b : Bool) → not b ≡ false → b ≡ true
    reported true h = refl
    reported false h = absurd (false≢true (sym h))

    quiet : (b : Bool) → z.reported ≡ true → mark e (cond b (Some (record { endpoint = z.endpoint; block = z.first; waits = not z.reported && is_chained (framed_in xs z.endpoint) })) None) ≡ None
    quiet true on = mark_quiet e (record { endpoint = z.endpoint; block = z.first; waits = not z.reported && is_chained (framed_in xs z.endpoint) }) (ap (λ b. not b && is_chained (framed_in xs z.endpoint)) on)
    quiet false on = refl

-- ---- the endpoint whose descriptor was served

step_tail : (p : Placement) (f : ℕ) (fs : List ℕ) → AreInStep p (f ∷ fs) → AreInStep p fs
step_tail p f [] h = tt
step_tail p f (g ∷ gs) h = h.1

told_stepped : (d : DriverContent) (m : Mem) (e t : ℕ) (x : Endpoint) (y : Transfer) (errors : ℕ) (p : Placement) → slice_get d.endpoints e ≡ Some x → slice_get d.transfers t ≡ Some y → waits_for e y ≡ true → is_descriptor y.sort ≡ true → x.chained ≡ true → x.next ≡ Some t → d.command ≡ None
    → IsStepped d e p → IsStepped (served (descriptor_told d m e t x y errors) e) e p
told_stepped d m e t x y errors p here there waits sort chained next_is idle h = record {
  steps = step_tail p (frame_in d.periodic.notes y.first) (frames_of g e) (subst (AreInStep p) frames h.steps);
  active = (subst (AllByRecursion (λ f. is_active p f ≡ true)) frames h.active).1;
  few =
      let long = ap (λ (bs : List ℕ). length bs * frame_period p.period) all in
      let more = suc-mul (length (waiting_of g e)) (frame_period p.period) in
      omega (arith, long, more, h.few);
  bound = new_bound;
  next = λ u low. new_none u low;
}
  where
    z : Transfer
    z = record y { reported = true }

    w : Endpoint
    w = record x { next = next_after d.transfers e t }

    g : DriverContent
    g = served (descriptor_told d m e t x y errors) e

    ends : SameEndpoints d.endpoints g.endpoints
    ends = endpoint_set d.endpoints e x w here refl refl (λ off. off)

    many : length g.transfers ≡ length d.transfers
    many = length-set d.transfers t z

    wait : Waits e y
    wait = waits_is e y waits

    within : t < length d.transfers
    within = slice_get_within d.transfers t y there

    at_next : next_of d e ≡ t
    at_next = ap (λ (o : Option Endpoint). unwrap_or (option_and_then (λ (v : Endpoint). v.next) o) (length d.transfers)) here ∙ ap (λ o. unwrap_or o (length d.transfers)) next_is

    before : (u : ℕ) → u < t → mark e (placed_in d.endpoints d.transfers u) ≡ None
    before u low = h.next u (omega (arith, at_next, low))

    own : Placed
    own = record { endpoint = y.endpoint; block = y.first; waits = not y.reported && is_chained (framed_in d.endpoints y.endpoint) }

    on_chain : is_chained (framed_in d.endpoints y.endpoint) ≡ true
    on_chain = ap (λ k. is_chained (framed_in d.endpoints k)) wait.endpoint ∙ ap (λ (o : Option Endpoint). is_chained (option_map framed_of o)) here ∙ chained

    was : mark e (placed_in d.endpoints d.transfers t) ≡ Some y.first
    was =
        ap (λ (o : Option Transfer). mark e (option_and_then (placed_of d.endpoints) o)) there ∙ ap (λ b. mark e (cond b (Some own) None)) sort
        ∙ mark_is e own wait.endpoint (ap (λ b. not b && is_chained (framed_in d.endpoints y.endpoint)) wait.reported ∙ on_chain)

    now : mark e (placed_in g.endpoints g.transfers t) ≡ None
    now =
        ap (λ (o : Option Transfer). mark e (option_and_then (placed_of g.endpoints) o)) (set_here d.transfers t y z there)
        ∙ waits_not g.endpoints e z (ap (λ b. b && false) (eq-eqb y.endpoint e wait.endpoint))

    same : (u : ℕ) → u ≢ t → mark e (placed_in g.endpoints g.transfers u) ≡ mark e (placed_in d.endpoints d.transfers u)
    same u off =
        ap (λ (o : Option Transfer). mark e (option_and_then (placed_of g.endpoints) o)) (set_there d.transfers t u z off)
        ∙ of (slice_get d.transfers u)
      where
        of : (o : Option Transfer) → mark e (option_and_then (placed_of g.endpoints) o) ≡ mark e (option_and_then (placed_of d.endpoints) o)
        of None = refl
        of (Some v) = ap (λ (f : Option Framed). mark e (cond (is_descriptor v.sort) (Some (record { endpoint = v.endpoint; block = v.first; waits = not v.reported && is_chained f })) None)) (ends.framed v.endpoint)

    all : waiting_of d e ≡ y.first ∷ waiting_of g e
    all =
        first_gone (placed_in d.endpoints d.transfers) (placed_in g.endpoints g.transfers) e 0 (length d.transfers) t y.first (omega arith) (omega (arith, within)) was now same before
        ∙ ap (λ n. y.first ∷ waiting_from (placed_in g.endpoints g.transfers) e 0 n) (sym many)

    cut_d : framed_to d.command d.made (length d.transfers) ≡ length d.transfers
    cut_d = ap (λ (c : Option Command). framed_to c d.made (length d.transfers)) idle

    cut_g : framed_to g.command g.made (length g.transfers) ≡ length g.transfers
    cut_g = ap (λ (c : Option Command). framed_to c d.made (length g.transfers)) idle

    frames : frames_of d e ≡ frame_in d.periodic.notes y.first ∷ frames_of g e
    frames =
        ap (λ n. map (frame_in d.periodic.notes) (waiting_from (placed_in d.endpoints d.transfers) e 0 n)) cut_d ∙ ap (map (frame_in d.periodic.notes)) all
        ∙ ap (λ n. frame_in d.periodic.notes y.first ∷ map (frame_in d.periodic.notes) (waiting_from (placed_in g.endpoints g.transfers) e 0 n)) (sym cut_g)

    new_next : next_of g e ≡ unwrap_or (next_after d.transfers e t) (length g.transfers)
    new_next = ap (λ (o : Option Endpoint). unwrap_or (option_and_then (λ (v : Endpoint). v.next) o) (length g.transfers)) (set_here d.endpoints e x w here)

    rest : List Transfer
    rest = drop (suc t) d.transfers

    rest_long : length rest ≡ length d.transfers - suc t
    rest_long = length-drop (suc t) d.transfers

    bound_by : (o : Option ℕ) → position (waits_for e) rest ≡ o → unwrap_or (option_map (λ i. suc t + i) o) (length g.transfers) ≤ length g.transfers
    bound_by None is = omega arith
    bound_by (Some i) is = let low = position_within (waits_for e) rest i is in omega (arith, low, rest_long, many)

    new_bound : next_of g e ≤ length g.transfers
    new_bound = let b = bound_by (position (waits_for e) rest) refl in omega (arith, b, new_next)

    -- one behind it that isn't reached
    skipped : (u : ℕ) (v : Transfer) → t < u → slice_get d.transfers u ≡ Some v → waits_for e v ≡ false → mark e (placed_in g.endpoints g.transfers u) ≡ None
    skipped u v low at_u off =
        ap (λ (o : Option Transfer). mark e (option_and_then (placed_of g.endpoints) o)) (set_there d.transfers t u z (λ hit. omega (arith, hit, low)) ∙ at_u) ∙ waits_not g.endpoints e v off

    none_by : (o : Option ℕ) → position (waits_for e) rest ≡ o → (u : ℕ) → t < u → u < unwrap_or (option_map (λ i. suc t + i) o) (length g.transfers) → (q : Option Transfer) → slice_get d.transfers u ≡ q → mark e (placed_in g.endpoints g.transfers u) ≡ None
    none_by o is u low high None at_u = ap (λ (r : Option Transfer). mark e (option_and_then (placed_of g.endpoints) r)) (set_there d.transfers t u z (λ hit. omega (arith, hit, low)) ∙ at_u)
    none_by None is u low high (Some v) at_u =
        let from : suc t + (u - suc t) ≡ u = omega (arith, low) in
        skipped u v low at_u (none_at_all (waits_for e) rest (u - suc t) v is (get_dropped (suc t) d.transfers (u - suc t) ∙ ap (slice_get d.transfers) from ∙ at_u))
    none_by (Some i) is u low high (Some v) at_u =
        let from : suc t + (u - suc t) ≡ u = omega (arith, low) in
        skipped u v low at_u (none_before (waits_for e) rest i (u - suc t) v is (omega (arith, low, high)) (get_dropped (suc t) d.transfers (u - suc t) ∙ ap (slice_get d.transfers) from ∙ at_u))

    new_none : (u : ℕ) → u < next_of g e → mark e (placed_in g.endpoints g.transfers u) ≡ None
    new_none u low =
        ⊎_elim
        (λ (less : u < t). same u (λ hit. omega (arith, hit, less)) ∙ before u less)
        (λ (more : t ≤ u).
        ⊎_elim (λ (hit : u ≡ t). ap (λ k. mark e (placed_in g.endpoints g.transfers k)) hit ∙ now)
        (λ (miss : u ≢ t). none_by (position (waits_for e) rest) refl u (omega (arith, more, miss)) (omega (arith, low, new_next)) (slice_get d.transfers u) refl) (cases_eq u t)) (cases_lt u t)

-- ---- any harvest

moved_by : (n errors : ℕ) (b : Bool) → founds.Moved n ≡ cond b (founds.Served errors) founds.Active → ⊥
moved_by n errors true e = cc
moved_by n errors false e = cc

not_moved : (d : DriverContent) (m : Mem) (y : Transfer) (s : Sort) (n : ℕ) → is_descriptor s ≡ true → founds.Moved n ≡ found_of d m y s → ⊥
not_moved d m y sorts.Descriptor n on e = moved_by n _ _ e
not_moved d m y _ n on e = false≢true on

pub iso_of : (xs : List Endpoint) (e : ℕ) (x : Endpoint) (f : Framed) → slice_get xs e ≡ Some x → framed_in xs e ≡ Some f → f ≡ framed_of x
iso_of xs e x f here is = sym (same_Some (framed_of x) f (sym (ap (option_map framed_of) here) ∙ is))

pub harvest_stepped : (p : Parts) (e t : ℕ) (found : Found) → (due : IsHarvestDue p e t found) → IsOrderly p.driver → AreStepped p.driver → AreStepped (after_harvest p.driver p.memory e t found (Some due.endpoint) (Some due.transfer))
harvest_stepped p e t found due order old = by found due.tells
  where
    d : DriverContent
    d = p.driver

    x : Endpoint
    x = due.endpoint

    y : Transfer
    y = due.transfer

    wait : Waits e y
    wait = waits_is e y due.waits

    sort_is : is_descriptor y.sort ≡ is_iso x.desc.kind
    sort_is = order.sorts t y x due.there (ap (slice_get d.endpoints) wait.endpoint ∙ due.here)

    g : Found → DriverContent
    g k = after_harvest d p.memory e t k (Some x) (Some y)

    quiet : (k : Found) → k ≡ found_of d p.memory y y.sort → is_served_found k ≡ false → IsQuiet d (g k)
    quiet k tells off =
        harvest_quiet d p.memory e t k x y off due.here due.there (λ ended. plain_by d e t x y order due.here due.there wait.endpoint (ended_plain d p.memory y y.sort (sym (ap is_ended_found tells) ∙ ended)))

    no_command_now : (k : Found) → (i : ℕ) → next_in (harvested_as d p.memory e t x y k).endpoints i ≡ next_in d.endpoints i → next_in (g k).endpoints i ≡ next_in d.endpoints i
    no_command_now k i same = either_next i (waits_for e y) (served (harvested_as d p.memory e t x y k) e) d (next_in d.endpoints i) same refl

    -- of an isochronous endpoint nothing is moved or ended
    own_next : (k : Found) → k ≡ found_of d p.memory y y.sort → is_served_found k ≡ false → is_iso x.desc.kind ≡ true → next_in (harvested_as d p.memory e t x y k).endpoints e ≡ next_in d.endpoints e
    own_next founds.Active tells off iso = refl
    own_next (founds.Moved n) tells off iso = absurd (not_moved d p.memory y y.sort n (sort_is ∙ iso) tells)
    own_next (founds.Served errors) tells off iso = absurd (false≢true (sym off))
    own_next (founds.Ended n what) tells off iso = absurd (false≢true (sym (ended_plain d p.memory y y.sort (sym (ap is_ended_found tells))) ∙ (sort_is ∙ iso)))

    idle_cut : (f : DriverContent) → f.command ≡ None → framed_to f.command f.made (length f.transfers) ≡ length f.transfers
    idle_cut f idle = ap (λ (c : Option Command). framed_to c f.made (length f.transfers)) idle

    quiet_stays : (k : Found) → k ≡ found_of d p.memory y y.sort → is_served_found k ≡ false → (g k).command ≡ None → Stays d (g k)
    quiet_stays k tells off idle i f here iso chained =
        let q = quiet k tells off in
        let s = tables d (g k) (ap (λ (r : PeriodicContent). r.list) q.periodic) (ap (λ (r : PeriodicContent). r.notes) q.periodic) (ap (λ (r : PeriodicContent). r.unlinks) q.periodic) q.endpoints q.transfers (ap (λ r. r.transfers) q.room) in
        let was : framed_in d.endpoints i ≡ Some f = sym (q.endpoints.framed i) ∙ here in (
          was,
          record {
            marks = λ u. ap (mark i) (s.placed u);
            many = q.transfers.many;
            notes = s.notes;
            cut = idle_cut (g k) idle ∙ q.transfers.many ∙ sym (idle_cut d due.idle);
            next =
                ⊎_elim
                (λ (hit : i ≡ e).
                let is = iso_of d.endpoints e x f due.here (ap (framed_in d.endpoints) (sym hit) ∙ was) in
                subst (λ j. next_in (g k).endpoints j ≡ next_in d.endpoints j) (sym hit) (no_command_now k e (own_next k tells off (sym (ap (λ (v : Framed). v.isochronous) is) ∙ iso))))
                (λ (miss : i ≢ e). no_command_now k i (read_next d p.memory e t i x y k miss)) (cases_eq i e);
          },
        )

    z : Transfer
    z = record y { reported = true }

    told_stays : (errors i : ℕ) (f : Framed) → i ≢ e → framed_in (served (descriptor_told d p.memory e t x y errors) e).endpoints i ≡ Some f → (framed_in d.endpoints i ≡ Some f) × StaysAt d (served (descriptor_told d p.memory e t x y errors) e) i
    told_stays errors i f miss here =
        let v = served (descriptor_told d p.memory e t x y errors) e in
        let ends = endpoint_set d.endpoints e x (record x { next = next_after d.transfers e t }) due.here refl refl (λ off. off) in (
          sym (ends.framed i) ∙ here,
          record {
            marks = λ u.
                ⊎_elim
                (λ (hit : u ≡ t).
                ap (λ k. mark i (placed_in v.endpoints v.transfers k)) hit
                ∙ (ap (λ (o : Option Transfer). mark i (option_and_then (placed_of v.endpoints) o)) (set_here d.transfers t y z due.there) ∙ other_marked v.endpoints i z (λ same. miss (sym same ∙ wait.endpoint)))
                ∙ sym
                (ap (λ k. mark i (placed_in d.endpoints d.transfers k)) hit
                ∙ (ap (λ (o : Option Transfer). mark i (option_and_then (placed_of d.endpoints) o)) due.there ∙ other_marked d.endpoints i y (λ same. miss (sym same ∙ wait.endpoint)))))
                (λ (off : u ≢ t).
                ap (λ (o : Option Transfer). mark i (option_and_then (placed_of v.endpoints) o)) (set_there d.transfers t u z off)
                ∙ marked_elsewhere d.endpoints v.endpoints e i (slice_get d.transfers u) miss (λ j away. ends.framed j)) (cases_eq u t);
            many = length-set d.transfers t z;
            notes = refl;
            cut = idle_cut v due.idle ∙ length-set d.transfers t z ∙ sym (idle_cut d due.idle);
            next = next_other d.endpoints e i _ miss;
          },
        )

    told_all : (errors : ℕ) → founds.Served errors ≡ found_of d p.memory y y.sort → AreStepped (served (descriptor_told d p.memory e t x y errors) e)
    told_all errors tells i f q here iso chained placed =
        let v = served (descriptor_told d p.memory e t x y errors) e in
        let sort = served_is d p.memory y y.sort (sym (ap is_served_found tells)) in
        ⊎_elim
        (λ (hit : i ≡ e).
        let ends = endpoint_set d.endpoints e x (record x { next = next_after d.transfers e t }) due.here refl refl (λ off. off) in
        let was : framed_in d.endpoints e ≡ Some f = ap (framed_in d.endpoints) (sym hit) ∙ (sym (ends.framed i) ∙ here) in
        let is = iso_of d.endpoints e x f due.here was in
        subst (λ j. IsStepped v j q) (sym hit)
        (told_stepped d p.memory e t x y errors q due.here due.there due.waits sort (sym (ap (λ (k : Framed). k.chained) is) ∙ chained) due.next due.idle (old e f q was iso chained placed)))
        (λ (miss : i ≢ e). let s = told_stays errors i f miss here in stays_stepped d v i q s.1 (old i f q s.0 iso chained placed)) (cases_eq i e)

    idle_after : (k : Found) → is_served_found k ≡ false → (harvested_as d p.memory e t x y k).command ≡ d.command → (g k).command ≡ None
    idle_after k off same = at (waits_for e y)
      where
        at : (b : Bool) → (cond b (served (harvested_as d p.memory e t x y k) e) d).command ≡ None
        at true = same ∙ due.idle
        at false = due.idle

    by : (k : Found) → k ≡ found_of d p.memory y y.sort → AreStepped (g k)
    by founds.Active tells = stays_all d (g founds.Active) (quiet_stays founds.Active tells refl (idle_after founds.Active refl refl)) old
    by (founds.Moved n) tells = stays_all d (g (founds.Moved n)) (quiet_stays (founds.Moved n) tells refl (idle_after (founds.Moved n) refl refl)) old
    by (founds.Ended n what) tells = stays_all d (g (founds.Ended n what)) (quiet_stays (founds.Ended n what) tells refl (idle_after (founds.Ended n what) refl (ended_command d p.memory e t x y n what))) old
    by (founds.Served errors) tells = subst (λ b. AreStepped (cond b (served (descriptor_told d p.memory e t x y errors) e) d)) (sym due.waits) (told_all errors tells)
