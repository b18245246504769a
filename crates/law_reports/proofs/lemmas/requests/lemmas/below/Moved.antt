-- Whichever way the queue of a control endpoint below a hub moves, host, hub and device stand as they must again.
use Rattle.std.proofs.Common.{◌≡◌, ◌<◌, ◌≤◌, ℕ, zero, suc, ◌==◌, Bool, true, false, List, [], ◌∷◌, Some, if◌then◌else◌}
use Rattle.std.proofs.Common.{inl, inr, ⊎_elim, ap, refl, sym, subst, ◌∙◌, arith}
use Rattle.std.proofs.lemmas.Bool.{cases_lt, false≢true}
use Rattle.law_common.proofs.Numbers.{other_number, same_number}
use Rattle.usb_base.specs.declared.endpoints.EndCause.{EndCause}
use Rattle.usb_base.specs.declared.endpoints.EndCause.TheVariants as Causes
use Rattle.dev_control.specs.Stages.{Stages}
use Rattle.bus_wire.specs.Bus.{Wired}
use Rattle.claims_report.specs.Requests.{Request}
use Rattle.claims_world.specs.Requests.{Windows}
use Rattle.law_request.specs.Host.{Endpoint, Stage, Setup, Done, Halted, is_over}
use Rattle.law_request.specs.Line.{line_at}
use Rattle.law_request.specs.Windows.{IsRequest}
use Rattle.law_request.proofs.Steps.{window_opens}
use Rattle.law_devices.specs.ring_requests.Laid.{Places}
use Rattle.law_devices.specs.ring_requests.Windows.{Queue, Lines, lines_at, stage_of}
use Rattle.law_devices.specs.request_stores.Published.{with_request, without_first}
use Rattle.law_below_hubs.specs.HostRequests.{RequestBelow, RestsAgain}
use Rattle.law_below_hubs.proofs.RequestRests.{request_opens, request_rests}
use Rattle.law_reports.specs.requests.world_requests.Recording.{IsOpened}
use Rattle.law_reports.specs.requests.Courses.{Course, NoQueue, Asks, Rests, queue_in}
use Rattle.law_reports.specs.requests.CourseMoves.{CourseMoves}
use Rattle.law_reports.specs.requests.CourseMoves.CourseMoves.{is_same, accepts, is_behind, is_first, is_waiting, first_done, last_done}
use Rattle.law_reports.specs.requests.CourseMoves.CourseMoves.{halts, mends, opens, leaves}
use Rattle.law_reports.specs.requests.QueueChanges.{without_requests, lines_from, lines_behind, mended_from, mended_course}
use Rattle.law_reports.specs.requests.Records.{Numbers}
use Rattle.law_reports.specs.requests.TransferChanges.{accepted_in, first_closed, all_closed}
use Rattle.law_reports.specs.requests.below.Moved.{IsAskedBelow, HubIsLeft, IsRestedBelow, IsCourseBelow, IsMovedSo, MovesKeepCourseBelow}
use Rattle.law_reports.specs.requests.below.Moved.HubIsLeft.{by_none, by_errors}

-- ---- how a request ended

is_broken : Stage → Bool
is_broken (Halted Causes.Error) = true
is_broken _ = false

broken_by : (cause : EndCause) → is_broken (Halted cause) ≡ true → Halted cause ≡ Halted Causes.Error
unfolding is_broken
broken_by Causes.Error on = refl
broken_by _ on = absurd (false≢true on)

broken : (s : Stage) → is_broken s ≡ true → s ≡ Halted Causes.Error
unfolding is_broken
broken (Halted cause) on = broken_by cause on
broken _ on = absurd (false≢true on)

not_broken : (s : Stage) → is_broken s ≡ false → s ≡ Halted Causes.Error → ⊥
unfolding is_broken
not_broken s off is = false≢true (sym off ∙ ap is_broken is)

setup_goes_on : (s : Stage) → s ≡ Setup → is_broken s ≡ true → ⊥
unfolding is_broken
setup_goes_on s is on = false≢true (sym (ap is_broken is) ∙ on)

module _ (was ended : Bool) (i place : ℕ) (wire : Wired) (v : Windows) where
  abbrev Was : Course → Numbers → Type 0
  Was c a = IsCourseBelow was i place wire v c a

  abbrev Now : Course → Numbers → Type 0
  Now d b = IsCourseBelow ended i place wire v d b

  -- ---- it stays

  module _ (stays : was ≡ true → ended ≡ true) where
    left_then : (e : Endpoint) (n : ℕ) → HubIsLeft was e i place wire v n → HubIsLeft ended e i place wire v n
    left_then e n (by_none s rests) = by_none s rests
    left_then e n (by_errors t r l on request latest is k) = by_errors t r l (stays on) request latest is k

    rests_then : (q : Queue) (s : Stages) (a : Numbers) → IsRestedBelow was i place wire v q s a → IsRestedBelow ended i place wire v q s a
    rests_then q s a k = record { max = k.max; hub = left_then q.endpoint a.endpoint k.hub; behind = k.behind }

    same_then : (c : Course) (a : Numbers) → Was c a → Now c a
    same_then NoQueue a k = tt
    same_then (Asks q b l) a k = k
    same_then (Rests q b s) a k = rests_then q s a k

    -- ---- a request is accepted

    module _ (a : Numbers) (t : ℕ) (r : Request) (x : Places) (none : v.acts t ≡ []) where
      abbrev more : Numbers
      more = accepted_in a t r x

      old_number : (j : ℕ) → j < a.requests.count → (accepted_in a t r x).number j ≡ a.number j
      old_number j few =
          ap (λ (b : Bool). if b then t else a.number j)
          (other_number j a.requests.count (λ same. let z : ⊥ = omega (arith, few, same) in absurd z))

      new_number : (j : ℕ) → j ≡ a.requests.count → (accepted_in a t r x).number j ≡ t
      new_number j is =
          ap (λ (k : ℕ). (accepted_in a t r x).number k) is
          ∙ ap (λ (b : Bool). if b then t else a.number a.requests.count) (same_number a.requests.count)

      behind_then : (from : ℕ) → ((j : ℕ) → from < j → j < a.requests.count → v.acts (a.number j) ≡ []) → (j : ℕ) → from < j
          → j < suc a.requests.count → v.acts ((accepted_in a t r x).number j) ≡ []
      behind_then from old j more_than few =
          ⊎_elim {C = v.acts ((accepted_in a t r x).number j) ≡ []}
          (λ (less : j < a.requests.count). ap v.acts (old_number j less) ∙ old j more_than less)
          (λ (not_less : a.requests.count ≤ j). ap v.acts (new_number j (omega (arith, not_less, few))) ∙ none)
          (cases_lt j a.requests.count)

      all_behind : ((j : ℕ) → j < a.requests.count → v.acts (a.number j) ≡ []) → (j : ℕ) → j < suc a.requests.count
          → v.acts ((accepted_in a t r x).number j) ≡ []
      all_behind old j few =
          ⊎_elim {C = v.acts ((accepted_in a t r x).number j) ≡ []}
          (λ (less : j < a.requests.count). ap v.acts (old_number j less) ∙ old j less)
          (λ (not_less : a.requests.count ≤ j). ap v.acts (new_number j (omega (arith, not_less, few))) ∙ none)
          (cases_lt j a.requests.count)

      accepted_then : (c : Course) → (queue_in c).count ≤ a.requests.count → Was c a → Now c (accepted_in a t r x)
      accepted_then NoQueue within k = tt
      accepted_then (Asks q b l) within k =
          let under = k.within in
          let same : (accepted_in a t r x).number l.under ≡ a.number l.under = old_number l.under (omega (arith, under, within)) in
          record {
            within = k.within;
            request = subst (λ (u : ℕ). RequestBelow q.endpoint (q.requests l.under) i place wire (l.line l.under) (v.acts u)) (sym same)
                k.request;
            latest = subst (λ (u : ℕ). IsOpened (v.opened a.endpoint) u l) (sym same) k.latest;
            earlier = λ j less. ap v.acts (old_number j (omega (arith, less, under, within))) ∙ k.earlier j less;
            behind = λ j after few. behind_then l.under k.behind j after few;
          }
      accepted_then (Rests q b s) within k =
          record { max = k.max; hub = left_then q.endpoint a.endpoint k.hub; behind = λ j few. all_behind k.behind j few }

    -- ---- a window opens

    module _ (q : Queue) (s : Stages) (a : Numbers) (k : IsRestedBelow was i place wire v q s a) (going : ended ≡ true → ⊥) where
      opened_by : HubIsLeft was q.endpoint i place wire v a.endpoint → (r : Request) (ping : Bool)
          → RequestBelow q.endpoint r i place wire (line_at q.endpoint r ping s) []
      opened_by (by_none c rests) r ping =
          let o = request_opens q.endpoint r i place wire ping c rests in
          record { side = o.side; stands = window_opens q.endpoint r ping s k.max; within = inl refl }
      opened_by (by_errors t r l on request latest is held) other ping = absurd (going (stays on))

      begun : (w : Queue) (ping : Bool) → w.endpoint ≡ q.endpoint → 0 < w.count → 0 < a.requests.count
          → IsAskedBelow i place wire v w (lines_at w ping s) a
      begun w ping same some few = record {
        within = some;
        request = subst (λ (acts : List (List ℕ)). RequestBelow w.endpoint (w.requests 0) i place wire
            (line_at w.endpoint (w.requests 0) ping s) acts) (sym (k.behind 0 few))
            (subst (λ (e : Endpoint). RequestBelow e (w.requests 0) i place wire (line_at e (w.requests 0) ping s) []) (sym same)
            (opened_by k.hub (w.requests 0) ping));
        latest = inr refl;
        earlier = λ j less. absurd (omega (arith, less));
        behind = λ j after less. k.behind j less;
      }

    -- ---- the first is done

    module _ (q : Queue) (l : Lines) (a : Numbers) (k : IsAskedBelow i place wire v q l a) (within : q.count ≤ a.requests.count) where
      over_rests : is_over (stage_of l) ≡ true → is_broken (stage_of l) ≡ false → RestsAgain q.endpoint i place wire
      over_rests over sound =
          request_rests q.endpoint (q.requests l.under) i place wire (l.line l.under) (v.acts (a.number l.under)) over
          (not_broken (stage_of l) sound) k.request

      halted_hub : IsRequest (q.requests l.under) → is_over (stage_of l) ≡ true → (stage_of l ≡ Halted Causes.Error → ended ≡ true)
          → (b : Bool) → is_broken (stage_of l) ≡ b → HubIsLeft ended q.endpoint i place wire v a.endpoint
      halted_hub request over errors true on =
          by_errors (a.number l.under) (q.requests l.under) (l.line l.under) (errors (broken (stage_of l) on)) request
          (⊎_elim {C = v.opened a.endpoint ≡ Some (a.number l.under)} (λ (at : v.opened a.endpoint ≡ Some (a.number l.under)). at)
          (λ (first : stage_of l ≡ Setup). absurd (setup_goes_on (stage_of l) first on)) k.latest)
          (broken (stage_of l) on) k.request
      halted_hub request over errors false sound = let z = over_rests over sound in by_none z.stages z.rests

      done_hub : stage_of l ≡ Done → RestsAgain q.endpoint i place wire
      unfolding is_broken
      done_hub done = over_rests (ap is_over done) (ap is_broken done)

      next_opens : stage_of l ≡ Done → (ping : Bool) (r : Request) (c : Stages) → c.max ≡ q.endpoint.max
          → RequestBelow q.endpoint r i place wire (line_at q.endpoint r ping c) []
      next_opens done ping r c max =
          let z = done_hub done in
          let o = request_opens q.endpoint r i place wire ping z.stages z.rests in
          record { side = o.side; stands = window_opens q.endpoint r ping c max; within = inl refl }

      behind_first : (u : ℕ) → l.under ≡ u → 1 < q.count → (l.under ≡ 0 → stage_of l ≡ Done)
          → IsAskedBelow i place wire v (without_first q) (lines_from q u l.line) (first_closed a)
      behind_first zero is some done =
          let ended_so : stage_of l ≡ Done = done is in
          let max : (l.line 0).device.max ≡ q.endpoint.max =
          subst (λ (u : ℕ). (l.line u).device.max ≡ q.endpoint.max) is k.request.stands.device_max in
          record {
            within = omega (arith, some);
            request = subst (λ (acts : List (List ℕ)). RequestBelow q.endpoint (q.requests 1) i place wire
                (line_at q.endpoint (q.requests 1) (l.line 0).host.side.ping (l.line 0).device) acts)
                (sym (k.behind 1 (omega (arith, is)) (omega (arith, some, within))))
                (next_opens ended_so (l.line 0).host.side.ping (q.requests 1) (l.line 0).device max);
            latest = inr refl;
            earlier = λ j less. absurd (omega (arith, less));
            behind = λ j after few. k.behind (suc j) (omega (arith, is)) (omega (arith, few));
          }
      behind_first (suc u) is some done = record {
        within = let under = k.within in omega (arith, under, is);
        request = subst (λ (j : ℕ). RequestBelow q.endpoint (q.requests j) i place wire (l.line j) (v.acts (a.number j))) is k.request;
        latest = ⊎_elim {C = IsOpened (v.opened a.endpoint) (a.number (suc u)) (lines_from q (suc u) l.line)}
            (λ (at : v.opened a.endpoint ≡ Some (a.number l.under)). inl (at ∙ ap (λ (j : ℕ). Some (a.number j)) is))
            (λ (first : stage_of l ≡ Setup). inr (ap (λ (j : ℕ). (l.line j).host.stage) (sym is) ∙ first)) k.latest;
        earlier = λ j less. k.earlier (suc j) (omega (arith, less, is));
        behind = λ j after few. k.behind (suc j) (omega (arith, after, is)) (omega (arith, few));
      }

  -- ---- each move

  module _ (c : Course) (a : Numbers) (d : Course) (b : Numbers) (x : IsMovedSo was ended i place wire v c a d b) (k : Was c a) where
    -- as its queue and its numbers are then
    now_as : (e : Course) (n : Numbers) → d ≡ e → b ≡ n → Now e n → Now d b
    now_as e n d_is b_is z = subst (λ (y : Course). Now y b) (sym d_is) (subst (λ (y : Numbers). Now e y) (sym b_is) z)

    asked : (q : Queue) (m : ℕ) (l : Lines) → c ≡ Asks q m l → IsAskedBelow i place wire v q l a
    asked q m l is = subst (λ (y : Course). Was y a) is k

    rested : (q : Queue) (m : ℕ) (s : Stages) → c ≡ Rests q m s → IsRestedBelow was i place wire v q s a
    rested q m s is = subst (λ (y : Course). Was y a) is k

    within_as : (e : Course) → c ≡ e → (queue_in e).count ≤ a.requests.count
    within_as e is = subst (λ (y : Course). (queue_in y).count ≤ a.requests.count) is x.within

    ahead_as : (e : Course) (n : Numbers) → d ≡ e → b ≡ n → (queue_in e).count ≤ n.requests.count
    ahead_as e n d_is b_is =
        subst (λ (y : Numbers). (queue_in e).count ≤ y.requests.count) b_is
        (subst (λ (y : Course). (queue_in y).count ≤ b.requests.count) d_is x.ahead)

    goes_on : (n : Numbers) → b ≡ n → 0 < n.requests.count → ended ≡ true → ⊥
    goes_on n b_is some on =
        let none : n.requests.count ≡ 0 = ap (λ (y : Numbers). y.requests.count) (sym b_is) ∙ x.none on in
        let z : ⊥ = omega (arith, some, none) in absurd z

    none_new : (t : ℕ) (r : Request) (p : Places) → b ≡ accepted_in a t r p → v.acts t ≡ []
    none_new t r p is =
        let more : a.requests.count < b.requests.count =
        subst (λ (n : ℕ). a.requests.count < n) (ap (λ (y : Numbers). y.requests.count) (sym is)) (omega arith) in
        ap v.acts
        (sym (ap (λ (y : Numbers). y.number a.requests.count) is
        ∙ ap (λ (o : Bool). if o then t else a.number a.requests.count) (same_number a.requests.count)))
        ∙ x.new more

    moved_by : CourseMoves ended c a d b → Now d b
    moved_by (is_same d_is b_is) = now_as c a d_is b_is (same_then x.stays_ended c a k)
    moved_by (accepts t r p d_is b_is) =
        now_as c (accepted_in a t r p) d_is b_is (accepted_then x.stays_ended a t r p (none_new t r p b_is) c x.within k)
    moved_by (is_behind q m n l r p c_is d_is b_is) =
        let z : IsAskedBelow i place wire v q l a = asked q m l c_is in
        let under = z.within in
        let other : (l.under == q.count) ≡ false =
        other_number l.under q.count (λ same. let w : ⊥ = omega (arith, under, same) in absurd w) in
        now_as (Asks (with_request q r p) n l) a d_is b_is
        (record {
          within = omega (arith, under);
          request = subst (λ (y : Request). RequestBelow q.endpoint y i place wire (l.line l.under) (v.acts (a.number l.under)))
              (sym (ap (λ (o : Bool). if o then r else q.requests l.under) other)) z.request;
          latest = z.latest;
          earlier = λ j less.
              z.earlier j less
              ∙ ap (λ (y : Request). y.setup ∷ [])
              (sym (ap (λ (o : Bool). if o then r else q.requests j)
              (other_number j q.count (λ same. let w : ⊥ = omega (arith, under, less, same) in absurd w))));
          behind = z.behind;
        })
    moved_by (is_first q m n s ping r p c_is none d_is b_is) =
        let few = ahead_as (Asks (with_request q r p) n (lines_at (with_request q r p) ping s)) a d_is b_is in
        let some : 0 < a.requests.count = omega (arith, few) in
        now_as (Asks (with_request q r p) n (lines_at (with_request q r p) ping s)) a d_is b_is
        (begun x.stays_ended q s a (rested q m s c_is) (goes_on a b_is some) (with_request q r p) ping refl (omega arith) some)
    moved_by (is_waiting q m n s r p c_is d_is b_is) =
        now_as (Rests (with_request q r p) n s) a d_is b_is
        (let z = rests_then x.stays_ended q s a (rested q m s c_is) in record { max = z.max; hub = z.hub; behind = z.behind })
    moved_by (first_done q m l c_is some done d_is b_is) =
        now_as (Asks (without_first q) m (lines_behind q l)) (first_closed a) d_is b_is
        (behind_first x.stays_ended q l a (asked q m l c_is) (within_as (Asks q m l) c_is) l.under refl some done)
    moved_by (last_done q m l c_is one done d_is b_is) =
        let z : IsAskedBelow i place wire v q l a = asked q m l c_is in
        let under = z.within in
        let first : l.under ≡ 0 = omega (arith, under, one) in
        let again = done_hub x.stays_ended q l a z (within_as (Asks q m l) c_is) done in
        now_as (Rests (without_first q) m (l.line 0).device) (first_closed a) d_is b_is
        (record {
          max = subst (λ (u : ℕ). (l.line u).device.max ≡ q.endpoint.max) first z.request.stands.device_max;
          hub = by_none again.stages again.rests;
          behind = λ j few. z.behind (suc j) (omega (arith, first)) (omega (arith, few));
        })
    moved_by (halts q m l c_is over errors d_is b_is) =
        let z : IsAskedBelow i place wire v q l a = asked q m l c_is in
        now_as (Rests (without_requests q) m (l.line l.under).device) (all_closed a) d_is b_is
        (record {
          max = z.request.stands.device_max;
          hub = halted_hub x.stays_ended q l a z (within_as (Asks q m l) c_is) (x.request q m l c_is) over errors (is_broken (stage_of l))
              refl;
          behind = λ j few. absurd (omega (arith, few));
        })
    moved_by (mends q m s ping c_is d_is b_is) =
        now_as (mended_course q m ping s) a d_is b_is (mended_at q.count refl)
      where
        some_then : (n : ℕ) → q.count ≡ suc n → 0 < a.requests.count
        some_then n is =
            let within = within_as (Rests q m s) c_is in omega (arith, within, is)

        mended_at : (n : ℕ) → q.count ≡ n → Now (mended_from n q m ping s) a
        mended_at zero is = rests_then x.stays_ended q s a (rested q m s c_is)
        mended_at (suc n) is =
            begun x.stays_ended q s a (rested q m s c_is) (goes_on a b_is (some_then n is)) q ping refl (omega (arith, is)) (some_then n is)
    moved_by (opens q m s c_is none d_is empty) = subst (λ (y : Course). Now y b) (sym d_is) (x.opens q m s c_is d_is)
    moved_by (leaves d_is) = subst (λ (y : Course). Now y b) (sym d_is) tt

pub moves_keep_course_below : MovesKeepCourseBelow
moves_keep_course_below was ended i place wire v c a d b moves x k = moved_by was ended i place wire v c a d b x k moves
